-- A row that is inserted in a set is put last, unless it is there.
use Rattle.std.proofs.Common.{◌≡◌, List, [], ◌∷◌, ◌++◌, refl, ◌∙◌, ap}
use Rattle.std.specs.Prelude.{if◌then◌else◌}
use Rattle.std.specs.List.{list_any}
use Rattle.indexmap.specs.IndexSet.{insert_key}
use Rattle.clp_model.specs.Clauses.{Row}
use Rattle.clp_model.specs.Predicates.{with_element}
use Rattle.linear_model.specs.Normal.{row_eq}
use Rattle.lin_row.specs.OrderLaws.{row_equivalence}

found_flipped : (rows : List Row) (r : Row) → list_any (row_eq r) rows ≡ list_any (λ s. row_eq s r) rows
found_flipped [] r = refl
found_flipped (s ∷ rows) r = rw (row_equivalence.symm r s, found_flipped rows r) refl

pub inserted : (rows now : List Row) (r : Row) → now ≡ insert_key row_eq rows r → now ≡ with_element row_eq rows r
inserted rows now r e = e ∙ ap (λ b. if b then rows else rows ++ r ∷ []) (found_flipped rows r)
