-- The order of rows: by their pairs, then by their constants, then by their relations.
use Rattle.std.specs.Prelude.{ℕ, ℤ, List, ◌++◌}
use Rattle.std.specs.declared.cmp.Ordering.{Ordering}
use Rattle.std.specs.Ordering.{nat_cmp, int_cmp, ordering_then}
use Rattle.std.specs.Cmp.Lexicographic.{slice_cmp}
use Rattle.std.specs.Hash as fed
use Rattle.clp_model.specs.Clauses.{Row}
use Rattle.clp_model.specs.declared.sort.Rel.{Rel}
use Rattle.clp_model.specs.declared.sort.Rel.TheVariants.{Eq, Le, Lt}

-- the place of a relation among the three
abbrev pub rank : Rel → ℕ
rank Eq = 0
rank Le = 1
rank Lt = 2

abbrev pub pair_cmp : ℕ × ℤ → ℕ × ℤ → Ordering
pair_cmp p q = ordering_then (nat_cmp p.0 q.0) (int_cmp p.1 q.1)

abbrev pub row_cmp : Row → Row → Ordering
row_cmp r s =
    ordering_then (ordering_then (slice_cmp pair_cmp r.pairs s.pairs) (int_cmp r.constant s.constant)) (nat_cmp (rank r.rel) (rank s.rel))

-- what a row feeds to a hasher
abbrev pub row_fed : Row → List (List ℕ)
row_fed r = fed.slice (λ (p : ℕ × ℤ). fed.u32 p.0 ++ fed.i64 p.1) r.pairs ++ (fed.i64 r.constant ++ fed.u8 (rank r.rel))
