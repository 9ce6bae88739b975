-- What is known of a loaded program's places: as many as there are source clauses, with sizes within the limit.
use Rattle.std.proofs.Common.{◌≡◌, ℕ, suc, ◌+◌, ◌≤◌, List, [], ◌∷◌, ◌++◌, length, refl, ap, subst, arith, Bool, true, false}
use Rattle.std.specs.Prelude.{Option, Some, None, Result, Ok, Err, nat_lt, if◌then◌else◌}
use Rattle.std.proofs.lemmas.Bool.{ltb-false}
use Rattle.clp_model.specs.declared.limit.Limit.TheVariants.{Nodes}
use Rattle.clp_model.specs.Clauses.{Clause}
use Rattle.clp_model.specs.Canonical.{clause_size}
use Rattle.clp_model.specs.Predicates.{initial_predicates}
use Rattle.clause_model.specs.Canonical.{Refusal, TooLarge}
use Rattle.clause_model.specs.Load.{Program, Refused, sizes_of, counted, loaded_after, with_predicates, load_one, load}

sizes_append : (xs ys : List (Option Clause)) → sizes_of (xs ++ ys) ≡ sizes_of xs + sizes_of ys
sizes_append [] ys = omega arith
sizes_append (None ∷ xs) ys = sizes_append xs ys
sizes_append (Some c ∷ xs) ys = omega (arith, sizes_append xs ys)

length_append : (xs ys : List (Option Clause)) → length (xs ++ ys) ≡ length xs + length ys
length_append [] ys = omega arith
length_append (x ∷ xs) ys = omega (arith, length_append xs ys)

-- the clauses after those that were found, of which there are so many more
pub record IsLoaded (count : ℕ) (out : List (Option Clause)) : Type 0 where
  pub long : length out ≡ count
  pub small : sizes_of out ≤ 8388608

err_ok : (refused : Refused) (out : List (Option Clause)) → ◌≡◌ {A = Result (List (Option Clause)) Refused} (Err refused) (Ok out) → ⊥
err_ok refused out e = cc

ok_same : (xs ys : List (Option Clause)) → ◌≡◌ {A = Result (List (Option Clause)) Refused} (Ok xs) (Ok ys) → xs ≡ ys
ok_same xs ys e = cc

-- the rest of a loading leads there
abbrev Leads : List (Option Clause) → List Clause → Type 0
Leads out cs = (place : ℕ) (found : List (Option Clause)) (nodes : ℕ) → sizes_of found ≡ nodes → nodes ≤ 8388608 → loaded_after place found nodes cs ≡ Ok out → IsLoaded (length found + length cs) out

module _ (out : List (Option Clause)) (cs : List Clause) (again : Leads out cs) (place : ℕ) (found : List (Option Clause)) (nodes : ℕ) (are : sizes_of found ≡ nodes) (few : nodes ≤ 8388608) where
  longer : (d : Option Clause) (n : ℕ) → IsLoaded (length (found ++ d ∷ []) + n) out → IsLoaded (length found + suc n) out
  longer d n h = let long = h.long in let more = length_append found (d ∷ []) in record { long = omega (arith, long, more); small = h.small }

  by_size : (d : Clause) (b : Bool) → nat_lt 8388608 (nodes + clause_size d) ≡ b
      → (if b then Err (place, TooLarge Nodes) else loaded_after (suc place) (found ++ Some d ∷ []) (nodes + clause_size d) cs) ≡ Ok out → IsLoaded (length found + suc (length cs)) out
  by_size d true e h = absurd (err_ok (place, TooLarge Nodes) out h)
  by_size d false e h =
      let sizes = sizes_append found (Some d ∷ []) in
      longer (Some d) (length cs) (again (suc place) (found ++ Some d ∷ []) (nodes + clause_size d) (omega (arith, sizes, are)) (ltb-false 8388608 (nodes + clause_size d) e) h)

  by_clause : (r : Result (Option Clause) Refusal) → counted place nodes (λ d more. loaded_after (suc place) (found ++ d ∷ []) more cs) r ≡ Ok out → IsLoaded (length found + suc (length cs)) out
  by_clause (Err refusal) h = absurd (err_ok (place, refusal) out h)
  by_clause (Ok None) h =
      let sizes = sizes_append found (None ∷ []) in
      longer None (length cs) (again (suc place) (found ++ None ∷ []) nodes (omega (arith, sizes, are)) few h)
  by_clause (Ok (Some d)) h = by_size d (nat_lt 8388608 (nodes + clause_size d)) refl h

all_loaded : (cs : List Clause) (out : List (Option Clause)) → Leads out cs
all_loaded [] out place found nodes are few h =
    let same = ok_same found out h in
    let long = ap (λ (xs : List (Option Clause)). length xs) same in
    let sizes = ap sizes_of same in
    record { long = omega (arith, long); small = omega (arith, sizes, are) }
all_loaded (c ∷ cs) out place found nodes are few h = by_clause out cs (all_loaded cs out) place found nodes are few (load_one c) h

program_err : (refused : Refused) (p : Program) → ◌≡◌ {A = Result Program Refused} (Err refused) (Ok p) → ⊥
program_err refused p e = cc

program_ok : (q p : Program) → ◌≡◌ {A = Result Program Refused} (Ok q) (Ok p) → q ≡ p
program_ok q p e = cc

by_places : (source : List Clause) (p : Program) (r : Result (List (Option Clause)) Refused) → loaded_after 1 [] 0 source ≡ r → with_predicates (initial_predicates source) r ≡ Ok p → IsLoaded (length source) p.clauses
by_places source p (Err refused) e h = absurd (program_err refused p h)
by_places source p (Ok clauses) e h =
    let same = program_ok (record { clauses = clauses; predicates = initial_predicates source }) p h in
    let is : clauses ≡ p.clauses = ap (λ (q : Program). q.clauses) same in
    let l = all_loaded source clauses 1 [] 0 refl (omega arith) e in
    let long = l.long in
    subst (IsLoaded (length source)) is (record { long = omega (arith, long); small = l.small })

pub loaded_places : (source : List Clause) (p : Program) → load source ≡ Ok p → IsLoaded (length source) p.clauses
unfolding load
loaded_places source p h = by_places source p (loaded_after 1 [] 0 source) refl h
