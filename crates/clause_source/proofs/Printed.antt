-- The variables of a clause as they are met in its text.
use Rattle.std.proofs.Common.{◌≡◌, ℕ, List, [], ◌∷◌, ◌++◌, Bool, true, false, refl, ap, ◌∙◌, sym, subst}
use Rattle.std.specs.Prelude.{nat_eq, not, if◌then◌else◌}
use Rattle.std.specs.List.{filter, list_any}
use Rattle.std.proofs.lemmas.List.{append-nil}
use Rattle.clp_model.specs.declared.sort.Sort.{Sort}
use Rattle.clp_model.specs.declared.tree.Tree.{Tree}
use Rattle.clp_model.specs.Trees.{variables, variables_in}
use Rattle.clp_model.specs.Clauses.{Clause, Row}
use Rattle.clp_model.specs.Predicates.{with_element, distinct_after}
use Rattle.clp_model.proofs.Membership.{Among, found_among, distinct_keeps, distinct_has, distinct_append}
use Rattle.clause_model.specs.Variables.{rows_variables, nums_from, loose_nums, variables_as_printed}
use Rattle.clause_laws.proofs.Distinct.{with_old}
use Rattle.clause_laws.proofs.Upto.{number_equality}

-- numbers that were met already may be left out
others_met : (found known ns : List ℕ) → ((n : ℕ) → Among n known → Among n found)
    → distinct_after nat_eq found ns ≡ distinct_after nat_eq found (filter (λ n. not (list_any (λ m. nat_eq m n) known)) ns)
others_met found known [] h = refl
others_met found known (n ∷ ns) h =
    by (list_any (λ m. nat_eq m n) known) refl (others_met found known ns h) (others_met (with_element nat_eq found n) known ns (λ m a. distinct_keeps found (n ∷ []) m (h m a)))
  where
    rest : List ℕ
    rest = filter (λ k. not (list_any (λ m. nat_eq m k) known)) ns

    by : (b : Bool) → list_any (λ m. nat_eq m n) known ≡ b → distinct_after nat_eq found ns ≡ distinct_after nat_eq found rest → distinct_after nat_eq (with_element nat_eq found n) ns ≡ distinct_after nat_eq (with_element nat_eq found n) rest
        → distinct_after nat_eq (with_element nat_eq found n) ns ≡ distinct_after nat_eq found (if not b then n ∷ rest else rest)
    by true e old new = ap (λ f. distinct_after nat_eq f ns) (with_old nat_eq number_equality found n (h n (found_among n known e))) ∙ old
    by false e old new = new

-- the head, the rows, the Num variables and then the atoms
pub met_four : (c : Clause)
    → distinct_after nat_eq (distinct_after nat_eq (distinct_after nat_eq (distinct_after nat_eq [] (variables c.head)) (rows_variables c.rows)) (nums_from 1 c.sorts)) (variables_in c.body) ≡ variables_as_printed c
met_four c =
    let head = variables c.head in
    let rows = rows_variables c.rows in
    let one : distinct_after nat_eq (distinct_after nat_eq [] head) rows ≡ distinct_after nat_eq [] (variables_in (c.head ∷ []) ++ rows) =
    ap (λ ns. distinct_after nat_eq (distinct_after nat_eq [] ns) rows) (sym (append-nil head)) ∙ sym (distinct_append [] (variables_in (c.head ∷ [])) rows) in
    let found = distinct_after nat_eq [] (variables_in (c.head ∷ []) ++ rows) in
    let known : (n : ℕ) → Among n rows → Among n found = λ n a. subst (λ f. Among n f) one (distinct_has (distinct_after nat_eq [] head) rows n a) in
    let two : distinct_after nat_eq found (nums_from 1 c.sorts) ≡ distinct_after nat_eq [] (variables_in (c.head ∷ []) ++ rows ++ loose_nums c) =
    others_met found rows (nums_from 1 c.sorts) known ∙ sym (distinct_append [] (variables_in (c.head ∷ []) ++ rows) (loose_nums c)) in
    ap (λ f. distinct_after nat_eq (distinct_after nat_eq f (nums_from 1 c.sorts)) (variables_in c.body)) one
    ∙ (ap (λ f. distinct_after nat_eq f (variables_in c.body)) two
    ∙ sym (distinct_append [] (variables_in (c.head ∷ []) ++ rows ++ loose_nums c) (variables_in c.body)))

-- what was met one after another
pub met_made : (c : Clause) (start head rows nums all : List ℕ) (rs : List Row) (ss : List Sort) (ts : List (Tree ℕ)) → start ≡ [] → head ≡ distinct_after nat_eq start (variables c.head)
    → rs ≡ c.rows → rows ≡ distinct_after nat_eq head (rows_variables rs) → ss ≡ c.sorts → nums ≡ distinct_after nat_eq rows (nums_from 1 ss)
    → ts ≡ c.body → all ≡ distinct_after nat_eq nums (variables_in ts) → all ≡ variables_as_printed c
met_made c start head rows nums all rs ss ts none first rs_are second ss_are third ts_are fourth =
    let one : head ≡ distinct_after nat_eq [] (variables c.head) = first ∙ ap (λ f. distinct_after nat_eq f (variables c.head)) none in
    let two : rows ≡ distinct_after nat_eq (distinct_after nat_eq [] (variables c.head)) (rows_variables c.rows) =
    second ∙ (ap (λ r. distinct_after nat_eq head (rows_variables r)) rs_are ∙ ap (λ f. distinct_after nat_eq f (rows_variables c.rows)) one) in
    let three : nums ≡ distinct_after nat_eq (distinct_after nat_eq (distinct_after nat_eq [] (variables c.head)) (rows_variables c.rows)) (nums_from 1 c.sorts) =
    third ∙ (ap (λ s. distinct_after nat_eq rows (nums_from 1 s)) ss_are ∙ ap (λ f. distinct_after nat_eq f (nums_from 1 c.sorts)) two) in
    fourth ∙ (ap (λ t. distinct_after nat_eq nums (variables_in t)) ts_are ∙ (ap (λ f. distinct_after nat_eq f (variables_in c.body)) three ∙ met_four c))
