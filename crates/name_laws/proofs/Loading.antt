-- What is kept of each source clause is kept of a loaded program.
use Rattle.std.proofs.Common.{◌≡◌, ℕ, suc, ◌+◌, List, [], ◌∷◌, ◌++◌, refl, ap, subst, Bool, true, false}
use Rattle.std.specs.Prelude.{if◌then◌else◌, nat_lt, All, Option, Some, None, Result, Ok, Err}
use Rattle.std.proofs.lemmas.List.Elements.{All-nil, All-head, All-tail, All-push, All-contains}
use Rattle.clp_model.specs.declared.limit.Limit.TheVariants.{Shape, Nodes}
use Rattle.clp_model.specs.Clauses.{Clause}
use Rattle.clp_model.specs.Canonical.{clause_size}
use Rattle.clp_model.specs.Predicates.{initial_predicates}
use Rattle.clause_model.specs.Canonical.{Refusal, TooLarge, new_clause}
use Rattle.clause_model.specs.Solved.{solved_clause}
use Rattle.clause_model.specs.Load.{load_one, loaded_solved, made_of, any_side_large, Program, Refused, counted, loaded_after, with_predicates, load}
use Rattle.name_laws.specs.Names.{AreOver, EquationsHaveNames, EachPlaced}
use Rattle.name_laws.specs.Laws.{LoadedClauseKeepsNames, LoadingKeepsNames}
use Rattle.name_laws.proofs.Clauses.{solved_keeps, new_keeps}

loaded_is : {c d : Clause} → ◌≡◌ {A = Result (Option Clause) Refusal} (Ok (Some c)) (Ok (Some d)) → c ≡ d
loaded_is {c} e = let back : Result (Option Clause) Refusal → Clause = elim [ Ok None ↦ c | Ok (Some x) ↦ x | Err r ↦ c ] in ap back e

-- a loaded clause is what is made of the clause with its equations solved
made_by : (c d : Clause) → load_one c ≡ Ok (Some d) → (s : Clause) × (solved_clause c ≡ Some s) × (new_clause s ≡ Ok d)
unfolding load_one
made_by c d e = by (any_side_large c.equations) e
  where
    made : (s : Clause) → solved_clause c ≡ Some s → (o : Result Clause Refusal) → new_clause s ≡ o → made_of o ≡ Ok (Some d) → (x : Clause) × (solved_clause c ≡ Some x) × (new_clause x ≡ Ok d)
    made s q (Err r) n h = absurd (cc)
    made s q (Ok x) n h = (s, q, subst (λ y. new_clause s ≡ Ok y) (loaded_is h) n)

    solved : (o : Option Clause) → solved_clause c ≡ o → loaded_solved o ≡ Ok (Some d) → (x : Clause) × (solved_clause c ≡ Some x) × (new_clause x ≡ Ok d)
    solved None q h = absurd (cc)
    solved (Some s) q h = made s q (new_clause s) refl h

    by : (b : Bool) → (if b then Err (TooLarge Shape) else loaded_solved (solved_clause c)) ≡ Ok (Some d) → (x : Clause) × (solved_clause c ≡ Some x) × (new_clause x ≡ Ok d)
    by true h = absurd (cc)
    by false h = solved (solved_clause c) refl h

pub loaded_keeps : LoadedClauseKeepsNames
loaded_keeps p q c d es h e = let m = made_by c d e in new_keeps p q m.0 d (solved_keeps p q c m.0 es h m.1) m.2

-- ---- a whole program
abbrev Placed : (Clause → Type 0) → Option Clause → Type 0
Placed P None = Unit {0}
Placed P (Some c) = P c

list_is : {x y : List (Option Clause)} → ◌≡◌ {A = Result (List (Option Clause)) Refused} (Ok x) (Ok y) → x ≡ y
list_is {x} e = let back : Result (List (Option Clause)) Refused → List (Option Clause) = elim [ Ok z ↦ z | Err r ↦ x ] in ap back e

program_is : {x y : Program} → ◌≡◌ {A = Result Program Refused} (Ok x) (Ok y) → x ≡ y
program_is {x} e = let back : Result Program Refused → Program = elim [ Ok z ↦ z | Err r ↦ x ] in ap back e

module _ (S P : Clause → Type 0) (one : (c d : Clause) → S c → load_one c ≡ Ok (Some d) → P d) where
  placed_first : (c : Clause) (cs : List Clause) (place : ℕ) (found : List (Option Clause)) (nodes : ℕ) (made : List (Option Clause)) → S c → All (Placed P) found
      → ((d : Option Clause) (more : ℕ) → All (Placed P) (found ++ d ∷ []) → loaded_after (suc place) (found ++ d ∷ []) more cs ≡ Ok made → All (Placed P) made)
      → loaded_after place found nodes (c ∷ cs) ≡ Ok made → All (Placed P) made
  placed_first c cs place found nodes made is all again e = by (load_one c) refl e
    where
      within : (d : Clause) → load_one c ≡ Ok (Some d) → (b : Bool) → (if b then Err (place, TooLarge Nodes) else loaded_after (suc place) (found ++ Some d ∷ []) (nodes + clause_size d) cs) ≡ Ok made → All (Placed P) made
      within d q true k = absurd (cc)
      within d q false k = again (Some d) (nodes + clause_size d) (All-push (Placed P) found (Some d) all (one c d is q)) k

      by : (o : Result (Option Clause) Refusal) → load_one c ≡ o → counted place nodes (λ d more. loaded_after (suc place) (found ++ d ∷ []) more cs) o ≡ Ok made → All (Placed P) made
      by (Err r) q h = absurd (cc)
      by (Ok None) q h = again None nodes (All-push (Placed P) found None all tt) h
      by (Ok (Some d)) q h = within d q (nat_lt 8388608 (nodes + clause_size d)) h

  placed_after : (place : ℕ) (found : List (Option Clause)) (nodes : ℕ) (source : List Clause) (made : List (Option Clause)) → All S source → All (Placed P) found → loaded_after place found nodes source ≡ Ok made → All (Placed P) made
  placed_after place found nodes [] made is all e = subst (All (Placed P)) (list_is e) all
  placed_after place found nodes (c ∷ cs) made is all e =
      placed_first c cs place found nodes made (All-head S c cs is) all
      (λ d more all' k. placed_after (suc place) (found ++ d ∷ []) more cs made (All-tail S c cs is) all' k) e

  program_placed : (source : List Clause) (program : Program) → All S source → load source ≡ Ok program → EachPlaced P program.clauses
  unfolding load
  program_placed source program is e = by (loaded_after 1 [] 0 source) refl e
    where
      by : (o : Result (List (Option Clause)) Refused) → loaded_after 1 [] 0 source ≡ o → with_predicates (initial_predicates source) o ≡ Ok program → EachPlaced P program.clauses
      by (Err r) q h = absurd (cc)
      by (Ok made) q h =
          subst (λ (x : Program). EachPlaced P x.clauses) (program_is h)
          (λ c m. All-contains (Placed P) made (Some c) (placed_after 1 [] 0 source made is (All-nil (Placed P)) q) m)

pub loading_keeps : LoadingKeepsNames
loading_keeps p q source program h e = program_placed (λ c. EquationsHaveNames p c × AreOver p q c) (AreOver p q) (λ c d k. loaded_keeps p q c d k.0 k.1) source program h e
