-- Loading keeps instances.
use Rattle.std.proofs.Common.{◌≡◌, ℕ, suc, ◌+◌, List, [], ◌∷◌, ◌++◌, Bool, true, false, refl, sym, ◌∙◌, ap, subst, map}
use Rattle.std.specs.Prelude.{nat_lt, if◌then◌else◌, Option, Some, None, Result, Ok, Err}
use Rattle.std.proofs.lemmas.List.{append_assoc, append-nil}
use Rattle.clp_model.specs.declared.predicate.Pred.{Pred}
use Rattle.clp_model.specs.declared.limit.Limit.TheVariants.{Shape, Nodes}
use Rattle.clp_model.specs.Clauses.{Clause, Row}
use Rattle.clp_model.specs.Canonical.{clause_size}
use Rattle.clp_model.specs.Predicates.{initial_predicates}
use Rattle.linear_model.specs.Forms.{IsRising}
use Rattle.linear_model.specs.Changes.{renamed}
use Rattle.linear_laws.proofs.Lists.{mapped_out}
use Rattle.linear_laws.proofs.Renamed.{rising_renamed}
use Rattle.unify_model.specs.Unifying.{most_general_unifier}
use Rattle.unify_model.specs.Substituting.{Binding}
use Rattle.clp_meaning.specs.Laws.{HaveSameInstances}
use Rattle.clause_model.specs.Canonical.{Refusal, TooLarge, new_clause, canonical_form, HasRisingRows, IsCanonical}
use Rattle.clause_model.specs.Solved.{solved_clause, solved_by, carried_clause, image_number, typed_equations, RowsAreNum}
use Rattle.clause_model.specs.Load.{load_one, loaded_solved, made_of, any_side_large, Program, Refused, counted, loaded_after, with_predicates, load}
use Rattle.clause_laws.specs.Laws.{HasNoInstance, Stands, AllStand, AllNum, LoadedClauseKeepsInstances, LeftOutClauseHasNoInstance, LoadingKeepsInstances, SolvedClauseKeepsInstances, UnsolvedClauseHasNoInstance}
use Rattle.clause_laws.proofs.Rows.{each_all}
use Rattle.clause_laws.proofs.Solving.{solved_keeps, unsolved_none, clause_of}
use Rattle.clause_laws.proofs.Numbering.{canonical_form_keeps_instances}
use Rattle.clause_laws.proofs.NewClause.{new_clause_is_canonical}

pub solved_clause_keeps : SolvedClauseKeepsInstances
solved_clause_keeps c d nums e = ((λ a body i. (solved_keeps c d nums e a body).1 i), (λ a body i. (solved_keeps c d nums e a body).0 i))

pub unsolved_clause_has_none : UnsolvedClauseHasNoInstance
unsolved_clause_has_none c e a body i = unsolved_none c e a body i

-- a solved clause has no equations, and the variables of its rows rise
pub solved_shape : (c d : Clause) → solved_clause c ≡ Some d → (d.equations ≡ []) × HasRisingRows d
unfolding solved_clause
solved_shape c d e = by (most_general_unifier (typed_equations c.sorts c.equations)) e
  where
    carried_rises : (bs : List Binding) → HasRisingRows (carried_clause c bs)
    carried_rises bs = each_all (λ (r : Row). IsRising r.pairs) (map (renamed (image_number c.sorts bs)) c.rows)
        (λ r m. mapped_out (renamed (image_number c.sorts bs)) c.rows (λ (x : Row). IsRising x.pairs) (λ s k. rising_renamed (image_number c.sorts bs) s) r m)

    by : (o : Option (List Binding)) → solved_by c o ≡ Some d → (d.equations ≡ []) × HasRisingRows d
    by None h = absurd (cc)
    by (Some bs) h = subst (λ (x : Clause). (x.equations ≡ []) × HasRisingRows x) (clause_of h) (refl, carried_rises bs)

some_is : {d x : Clause} → ◌≡◌ {A = Result (Option Clause) Refusal} (Ok (Some d)) (Ok (Some x)) → d ≡ x
some_is {d} e = let back : Result (Option Clause) Refusal → Clause = elim [ Ok None ↦ d | Ok (Some y) ↦ y | Err r ↦ d ] in ap back e

both : (c s d : Clause) → HaveSameInstances d s → HaveSameInstances s c → HaveSameInstances d c
both c s d x y = ((λ a body i. x.0 a body (y.0 a body i)), (λ a body i. y.1 a body (x.1 a body i)))

pub loaded_clause : LoadedClauseKeepsInstances
unfolding load_one
loaded_clause c d nums e = by (any_side_large c.equations) e
  where
    made : (s : Clause) → solved_clause c ≡ Some s → (o : Result Clause Refusal) → new_clause s ≡ o → made_of o ≡ Ok (Some d) → HaveSameInstances d c × IsCanonical d
    made s q (Err r) n h = absurd (cc)
    made s q (Ok x) n h =
        let shape = solved_shape c s q in
        let k = new_clause_is_canonical s x shape.1 n in
        let keeps = both c s (canonical_form s) (canonical_form_keeps_instances s shape.0) (solved_clause_keeps c s nums q) in
        subst (λ (y : Clause). HaveSameInstances y c × IsCanonical y) (some_is h) (subst (λ (y : Clause). HaveSameInstances y c) (sym k.0) keeps, k.1)

    solved : (o : Option Clause) → solved_clause c ≡ o → loaded_solved o ≡ Ok (Some d) → HaveSameInstances d c × IsCanonical d
    solved None q h = absurd (cc)
    solved (Some s) q h = made s q (new_clause s) refl h

    by : (b : Bool) → (if b then Err (TooLarge Shape) else loaded_solved (solved_clause c)) ≡ Ok (Some d) → HaveSameInstances d c × IsCanonical d
    by true h = absurd (cc)
    by false h = solved (solved_clause c) refl h

pub left_out_clause : LeftOutClauseHasNoInstance
unfolding load_one
left_out_clause c e = by (any_side_large c.equations) e
  where
    made : (o : Result Clause Refusal) → made_of o ≡ Ok None → ⊥
    made (Ok x) h = cc
    made (Err r) h = cc

    solved : (o : Option Clause) → solved_clause c ≡ o → loaded_solved o ≡ Ok None → HasNoInstance c
    solved None q h = unsolved_clause_has_none c q
    solved (Some s) q h = absurd (made (new_clause s) h)

    by : (b : Bool) → (if b then Err (TooLarge Shape) else loaded_solved (solved_clause c)) ≡ Ok None → HasNoInstance c
    by true h = absurd (cc)
    by false h = solved (solved_clause c) refl h

-- ---- a whole program
stands : (c : Clause) (o : Option Clause) → RowsAreNum c → load_one c ≡ Ok o → Stands o c
stands c None nums e = left_out_clause c e
stands c (Some d) nums e = loaded_clause c d nums e

list_is : {x y : List (Option Clause)} → ◌≡◌ {A = Result (List (Option Clause)) Refused} (Ok x) (Ok y) → x ≡ y
list_is {x} e = let back : Result (List (Option Clause)) Refused → List (Option Clause) = elim [ Ok z ↦ z | Err r ↦ x ] in ap back e

abbrev Makes : List (Option Clause) → List (Option Clause) → List Clause → Type 0
Makes found made source = (rest : List (Option Clause)) × (made ≡ found ++ rest) × AllStand rest source

made_first : (c : Clause) (cs : List Clause) (place : ℕ) (found : List (Option Clause)) (nodes : ℕ) (made : List (Option Clause)) → AllNum (c ∷ cs)
    → ((d : Option Clause) (more : ℕ) → loaded_after (suc place) (found ++ d ∷ []) more cs ≡ Ok made → Makes (found ++ d ∷ []) made cs)
    → loaded_after place found nodes (c ∷ cs) ≡ Ok made → Makes found made (c ∷ cs)
made_first c cs place found nodes made nums again e = by (load_one c) refl e
  where
    onward : (d : Option Clause) → Stands d c → Makes (found ++ d ∷ []) made cs → Makes found made (c ∷ cs)
    onward d s m = (d ∷ m.0, m.1 ∙ append_assoc found (d ∷ []) m.0, (s, m.2))

    within : (d : Clause) → load_one c ≡ Ok (Some d) → (b : Bool) → (if b then Err (place, TooLarge Nodes) else loaded_after (suc place) (found ++ Some d ∷ []) (nodes + clause_size d) cs) ≡ Ok made → Makes found made (c ∷ cs)
    within d q true k = absurd (cc)
    within d q false k = onward (Some d) (stands c (Some d) nums.0 q) (again (Some d) (nodes + clause_size d) k)

    by : (o : Result (Option Clause) Refusal) → load_one c ≡ o → counted place nodes (λ d more. loaded_after (suc place) (found ++ d ∷ []) more cs) o ≡ Ok made → Makes found made (c ∷ cs)
    by (Err r) q h = absurd (cc)
    by (Ok None) q h = onward None (stands c None nums.0 q) (again None nodes h)
    by (Ok (Some d)) q h = within d q (nat_lt 8388608 (nodes + clause_size d)) h

all_made : (source : List Clause) (place : ℕ) (found : List (Option Clause)) (nodes : ℕ) (made : List (Option Clause)) → AllNum source → loaded_after place found nodes source ≡ Ok made → Makes found made source
all_made [] place found nodes made nums e = ([], sym (list_is e) ∙ sym (append-nil found), tt)
all_made (c ∷ cs) place found nodes made nums e = made_first c cs place found nodes made nums (λ d more. all_made cs (suc place) (found ++ d ∷ []) more made nums.1) e

pub loading_keeps : LoadingKeepsInstances
unfolding load
loading_keeps source p nums e = by (loaded_after 1 [] 0 source) refl e
  where
    clauses_of : {ps : List Pred} {cs : List (Option Clause)} → ◌≡◌ {A = Result Program Refused} (Ok (record { clauses = cs; predicates = ps })) (Ok p) → cs ≡ p.clauses
    clauses_of {ps} {cs} h = let back : Result Program Refused → List (Option Clause) = elim [ Ok q ↦ q.clauses | Err r ↦ cs ] in ap back h

    by : (o : Result (List (Option Clause)) Refused) → loaded_after 1 [] 0 source ≡ o → with_predicates (initial_predicates source) o ≡ Ok p → AllStand p.clauses source
    by (Err r) q h = absurd (cc)
    by (Ok made) q h = let m = all_made source 1 [] 0 made nums q in subst (λ cs. AllStand cs source) (sym m.1 ∙ clauses_of h) m.2
