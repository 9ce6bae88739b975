-- Numbering the variables of a clause anew keeps its instances, and so does cleaning its rows.
use Rattle.std.proofs.Common.{◌≡◌, ◌↔◌, ℕ, List, [], ◌∷◌, ◌++◌, refl, sym, ◌∙◌, ap, map}
use Rattle.std.specs.Prelude.{slice_index_or, All}
use Rattle.std.proofs.lemmas.List.Elements.{All-nil, All-same}
use Rattle.clp_model.specs.declared.sort.Sort.{Sort}
use Rattle.clp_model.specs.declared.sort.Sort.TheVariants.{Any, Num}
use Rattle.clp_model.specs.declared.tree.Tree.{Tree, Var, App', Row_of-Tree, end_of-Tree, more_of-Tree}
use Rattle.clp_model.specs.Trees.{mapped, mapped_row, mapped_all, variables, variables_in_row, variables_in}
use Rattle.clp_model.specs.Values.{Named, AndValue, Valuation, variable_value, value_of, row_values, atom_of}
use Rattle.clp_model.specs.Clauses.{Clause, Row, EquationHolds, RowHolds, sort_in, ground_of}
use Rattle.clp_model.specs.Canonical.{place_in}
use Rattle.clp_meaning.specs.Laws.{HasInstancesOf, HaveSameInstances}
use Rattle.clp_model.proofs.Membership.{Among, first, among_front, among_back, among_mapped, distinct_has, at_place, at_own_place}
use Rattle.linear_model.specs.Normal.{normal}
use Rattle.linear_model.specs.Changes.{renamed}
use Rattle.linear_model.specs.Elimination.{cleaned}
use Rattle.linear_laws.proofs.Normal.{normal_holds}
use Rattle.linear_laws.proofs.Cleaning.{cleaned_there, cleaned_back}
use Rattle.linear_laws.proofs.Lists.{mapped_out}
use Rattle.clause_model.specs.Variables.{rows_variables, variables_by_first_occurrence}
use Rattle.clause_model.specs.Canonical.{numbered_by, with_clean_rows, canonical_form}
use Rattle.clause_laws.proofs.Rows.{all_each, each_all, renamed_holds, among_rows}

-- a renamed tree has the value of the tree, where each of its variables has the value of its image
module _ (f : ℕ → ℕ) (sort sort' : ℕ → Sort) (u u' : Valuation) where
  mutual
    unfolding mapped value_of variables

    pub value_mapped : (t : Tree ℕ) → ((n : ℕ) → Among n (variables t) → variable_value u (f n) (sort (f n)) ≡ variable_value u' n (sort' n)) → value_of sort u (mapped f t) ≡ value_of sort' u' t
    value_mapped (Var n) same = same n first
    value_mapped (App' name shape args) same = ap (λ vs. Named name vs) (values_mapped args same)

    values_mapped : {m : _} (ts : Row_of-Tree ℕ m) → ((n : ℕ) → Among n (variables_in_row ts) → variable_value u (f n) (sort (f n)) ≡ variable_value u' n (sort' n)) → row_values sort u (mapped_row f ts) ≡ row_values sort' u' ts
    values_mapped end_of-Tree same = refl
    values_mapped (more_of-Tree t ts) same =
        ap (λ v. AndValue v (row_values sort u (mapped_row f ts))) (value_mapped t (λ n m. same n (among_front n (variables t) (variables_in_row ts) m)))
        ∙ ap (λ vs. AndValue (value_of sort' u' t) vs) (values_mapped ts (λ n m. same n (among_back n (variables t) (variables_in_row ts) m)))

  pub atoms_mapped : (ts : List (Tree ℕ)) → ((n : ℕ) → Among n (variables_in ts) → variable_value u (f n) (sort (f n)) ≡ variable_value u' n (sort' n)) → map (λ t. atom_of (value_of sort u t)) (mapped_all f ts) ≡ map (λ t. atom_of (value_of sort' u' t)) ts
  atoms_mapped [] same = refl
  atoms_mapped (t ∷ ts) same =
      ap (λ v. atom_of v ∷ map (λ t. atom_of (value_of sort u t)) (mapped_all f ts)) (value_mapped t (λ n m. same n (among_front n (variables t) (variables_in ts) m)))
      ∙ ap (λ rest. atom_of (value_of sort' u' t) ∷ rest) (atoms_mapped ts (λ n m. same n (among_back n (variables t) (variables_in ts) m)))

-- the valuation that gives each variable what another one gives its image
abbrev taken_along : (ℕ → ℕ) → Valuation → Valuation
taken_along f u = record { whole = u.whole; positive = u.positive; number = λ n. u.number (f n); value = λ n. u.value (f n) }

moved : (u : Valuation) (f : ℕ → ℕ) (n : ℕ) (s : Sort) → variable_value u (f n) s ≡ variable_value (taken_along f u) n s
moved u f n Any = refl
moved u f n Num = refl

no_equations : (c : Clause) → c.equations ≡ [] → (u : Valuation) → All (EquationHolds c.sorts u) c.equations
no_equations c none u = All-same (EquationHolds c.sorts u) c.equations [] none (All-nil (EquationHolds c.sorts u))

-- the clause with its variables numbered by a list that has them all
module _ (met : List ℕ) (c : Clause) (none : c.equations ≡ []) (trees_in : (n : ℕ) → Among n (variables_in (c.head ∷ c.body)) → Among n met) (rows_in : (n : ℕ) → Among n (rows_variables c.rows) → Among n met) where
  abbrev images : List Sort
  images = map (sort_in c.sorts) met

  sort_kept : (n : ℕ) → Among n met → sort_in images (place_in met n) ≡ sort_in c.sorts n
  sort_kept n m = at_place (sort_in c.sorts) met n Any Any m

  -- the ground atoms of the numbered clause under one valuation are those of the clause under another
  module _ (u u' : Valuation) (same : (n : ℕ) → Among n (variables_in (c.head ∷ c.body)) → variable_value u (place_in met n) (sort_in images (place_in met n)) ≡ variable_value u' n (sort_in c.sorts n)) where
    heads : ground_of images u (mapped (place_in met) c.head) ≡ ground_of c.sorts u' c.head
    heads = ap atom_of (value_mapped (place_in met) (sort_in images) (sort_in c.sorts) u u' c.head (λ n m. same n (among_front n (variables c.head) (variables_in c.body) m)))

    bodies : map (ground_of images u) (mapped_all (place_in met) c.body) ≡ map (ground_of c.sorts u') c.body
    bodies = atoms_mapped (place_in met) (sort_in images) (sort_in c.sorts) u u' c.body (λ n m. same n (among_back n (variables c.head) (variables_in c.body) m))

  -- and so do the rows
  module _ (u u' : Valuation) (whole : u'.whole ≡ u.whole) (numbers : (n : ℕ) → Among n met → u'.number n ≡ u.number (place_in met n)) where
    abbrev written : Row → Row
    written r = normal (renamed (place_in met) r)

    one_row : (r : Row) → Among r c.rows → RowHolds u (written r) ↔ RowHolds u' r
    one_row r m =
        let a = normal_holds u (renamed (place_in met) r) in
        let b = renamed_holds (place_in met) u u' r whole (λ n k. numbers n (rows_in n (among_rows r c.rows n m k))) in
        ((λ h. b.0 (a.0 h)), (λ h. a.1 (b.1 h)))

    rows_to : All (RowHolds u') c.rows → All (RowHolds u) (map written c.rows)
    rows_to h = each_all (RowHolds u) (map written c.rows) (λ r m. mapped_out written c.rows (RowHolds u) (λ s k. (one_row s k).1 (all_each (RowHolds u') c.rows h s k)) r m)

    rows_from : All (RowHolds u) (map written c.rows) → All (RowHolds u') c.rows
    rows_from h = each_all (RowHolds u') c.rows (λ r m. (one_row r m).0 (all_each (RowHolds u) (map written c.rows) h (written r) (among_mapped written m)))

  -- an instance of the numbered clause is one of the clause
  pub numbered_back : HasInstancesOf c (numbered_by met c)
  numbered_back a body i =
      let f = place_in met in
      let u = i.valuation in
      let u' = taken_along f u in
      let same : (n : ℕ) → Among n (variables_in (c.head ∷ c.body)) → variable_value u (f n) (sort_in images (f n)) ≡ variable_value u' n (sort_in c.sorts n) =
      λ n m. ap (λ s. variable_value u (f n) s) (sort_kept n (trees_in n m)) ∙ moved u f n (sort_in c.sorts n) in
      record {
        valuation = u';
        equations = no_equations c none u';
        rows = rows_from u u' refl (λ n m. refl) i.rows;
        head_is = i.head_is ∙ heads u u' same;
        body_is = i.body_is ∙ bodies u u' same;
      }

  -- and the other way round: a new number has the value of the variable at its place
  pub numbered_forth : HasInstancesOf (numbered_by met c) c
  numbered_forth a body i =
      let f = place_in met in
      let g : ℕ → ℕ = λ n. slice_index_or (0 ∷ met) n 0 in
      let u' = i.valuation in
      let u = taken_along g u' in
      let returns : (n : ℕ) → Among n met → g (f n) ≡ n = at_own_place met in
      let same : (n : ℕ) → Among n (variables_in (c.head ∷ c.body)) → variable_value u (f n) (sort_in images (f n)) ≡ variable_value u' n (sort_in c.sorts n) =
      λ n m. ap (λ s. variable_value u (f n) s) (sort_kept n (trees_in n m))
      ∙ (sym (moved u' g (f n) (sort_in c.sorts n)) ∙ ap (λ k. variable_value u' k (sort_in c.sorts n)) (returns n (trees_in n m))) in
      record {
        valuation = u;
        equations = All-nil (EquationHolds images u);
        rows = rows_to u u' refl (λ n m. ap u'.number (sym (returns n m))) i.rows;
        head_is = i.head_is ∙ sym (heads u u' same);
        body_is = i.body_is ∙ sym (bodies u u' same);
      }

clean_rows_there : (u : Valuation) (rows : List Row) → All (RowHolds u) rows → All (RowHolds u) (cleaned rows)
clean_rows_there u rows h = each_all (RowHolds u) (cleaned rows) (cleaned_there u rows (all_each (RowHolds u) rows h))

clean_rows_back : (u : Valuation) (rows : List Row) → All (RowHolds u) (cleaned rows) → All (RowHolds u) rows
clean_rows_back u rows h = each_all (RowHolds u) rows (cleaned_back u rows (all_each (RowHolds u) (cleaned rows) h))

-- cleaning the rows changes no instance
cleaned_has : (c : Clause) → HaveSameInstances (with_clean_rows c) c
cleaned_has c = (
  (λ a body i. record { valuation = i.valuation; equations = i.equations; rows = clean_rows_there i.valuation c.rows i.rows; head_is = i.head_is; body_is = i.body_is }),
  (λ a body i. record { valuation = i.valuation; equations = i.equations; rows = clean_rows_back i.valuation c.rows i.rows; head_is = i.head_is; body_is = i.body_is }),
)

-- the variables by first occurrence are all
first_has_trees : (c : Clause) → (n : ℕ) → Among n (variables_in (c.head ∷ c.body)) → Among n (variables_by_first_occurrence c)
first_has_trees c n m = distinct_has [] (variables_in (c.head ∷ c.body) ++ rows_variables c.rows) n (among_front n (variables_in (c.head ∷ c.body)) (rows_variables c.rows) m)

first_has_rows : (c : Clause) → (n : ℕ) → Among n (rows_variables c.rows) → Among n (variables_by_first_occurrence c)
first_has_rows c n m = distinct_has [] (variables_in (c.head ∷ c.body) ++ rows_variables c.rows) n (among_back n (variables_in (c.head ∷ c.body)) (rows_variables c.rows) m)

pub canonical_form_keeps_instances : (c : Clause) → c.equations ≡ [] → HaveSameInstances (canonical_form c) c
unfolding canonical_form
canonical_form_keeps_instances c none =
    let d = with_clean_rows c in
    let met = variables_by_first_occurrence d in
    let forth = numbered_forth met d none (first_has_trees d) (first_has_rows d) in
    let back = numbered_back met d none (first_has_trees d) (first_has_rows d) in
    let clean = cleaned_has c in
    ((λ a body i. forth a body (clean.0 a body i)), (λ a body i. clean.1 a body (back a body i)))
