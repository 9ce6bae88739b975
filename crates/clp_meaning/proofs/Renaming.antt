-- Numbering the variables of a clause anew keeps its instances.
use Rattle.std.proofs.Common.{◌≡◌, ℕ, List, [], ◌∷◌, refl, sym, ◌∙◌, ap, map}
use Rattle.std.specs.Prelude.{slice_index_or, nat_eq, All}
use Rattle.std.proofs.lemmas.List.Elements.{All-nil, All-same}
use Rattle.clp_model.specs.Predicates.{distinct_after}
use Rattle.clp_model.specs.declared.sort.Sort.{Sort}
use Rattle.clp_model.specs.declared.sort.Sort.TheVariants.{Any, Num}
use Rattle.clp_model.specs.declared.tree.Tree.{Tree, Var, App', Row_of-Tree, end_of-Tree, more_of-Tree}
use Rattle.clp_model.specs.Trees.{mapped, mapped_row, mapped_all, variables, variables_in_row, variables_in}
use Rattle.clp_model.specs.Values.{Named, AndValue, Valuation, variable_value, value_of, row_values, atom_of}
use Rattle.clp_model.specs.Clauses.{Clause, EquationHolds, RowHolds, sort_in, ground_of}
use Rattle.clp_model.specs.Canonical.{canonical_form, variables_met, place_in}
use Rattle.clp_meaning.specs.Laws.{HasNoConstraint, HasInstancesOf, CanonicalFormKeepsInstances}
use Rattle.clp_model.proofs.Membership.{Among, first, among_front, among_back, distinct_has, at_place, at_own_place}

-- a renamed tree has the value of the tree, where each of its variables has the value of its image
module _ (f : ℕ → ℕ) (sort sort' : ℕ → Sort) (u u' : Valuation) where
  mutual
    unfolding mapped value_of variables

    value_mapped : (t : Tree ℕ) → ((n : ℕ) → Among n (variables t) → variable_value u (f n) (sort (f n)) ≡ variable_value u' n (sort' n)) → value_of sort u (mapped f t) ≡ value_of sort' u' t
    value_mapped (Var n) same = same n first
    value_mapped (App' name shape args) same = ap (λ vs. Named name vs) (values_mapped args same)

    values_mapped : {m : _} (ts : Row_of-Tree ℕ m) → ((n : ℕ) → Among n (variables_in_row ts) → variable_value u (f n) (sort (f n)) ≡ variable_value u' n (sort' n)) → row_values sort u (mapped_row f ts) ≡ row_values sort' u' ts
    values_mapped end_of-Tree same = refl
    values_mapped (more_of-Tree t ts) same =
        ap (λ v. AndValue v (row_values sort u (mapped_row f ts))) (value_mapped t (λ n m. same n (among_front n (variables t) (variables_in_row ts) m)))
        ∙ ap (λ vs. AndValue (value_of sort' u' t) vs) (values_mapped ts (λ n m. same n (among_back n (variables t) (variables_in_row ts) m)))

  atoms_mapped : (ts : List (Tree ℕ)) → ((n : ℕ) → Among n (variables_in ts) → variable_value u (f n) (sort (f n)) ≡ variable_value u' n (sort' n)) → map (λ t. atom_of (value_of sort u t)) (mapped_all f ts) ≡ map (λ t. atom_of (value_of sort' u' t)) ts
  atoms_mapped [] same = refl
  atoms_mapped (t ∷ ts) same =
      ap (λ v. atom_of v ∷ map (λ t. atom_of (value_of sort u t)) (mapped_all f ts)) (value_mapped t (λ n m. same n (among_front n (variables t) (variables_in ts) m)))
      ∙ ap (λ rest. atom_of (value_of sort' u' t) ∷ rest) (atoms_mapped ts (λ n m. same n (among_back n (variables t) (variables_in ts) m)))

-- the valuation that gives each variable what another one gives its image
abbrev taken_along : (ℕ → ℕ) → Valuation → Valuation
taken_along f u = record { whole = u.whole; positive = u.positive; number = λ n. u.number (f n); value = λ n. u.value (f n) }

moved : (u : Valuation) (f : ℕ → ℕ) (n : ℕ) (s : Sort) → variable_value u (f n) s ≡ variable_value (taken_along f u) n s
moved u f n Any = refl
moved u f n Num = refl

no_equations : (c : Clause) → HasNoConstraint c → (u : Valuation) → All (EquationHolds c.sorts u) c.equations
no_equations c none u = All-same (EquationHolds c.sorts u) c.equations [] none.equations (All-nil (EquationHolds c.sorts u))

no_rows : (c : Clause) → HasNoConstraint c → (u : Valuation) → All (RowHolds u) c.rows
no_rows c none u = All-same (RowHolds u) c.rows [] none.rows (All-nil (RowHolds u))

module _ (c : Clause) (none : HasNoConstraint c) where
  abbrev met : List ℕ
  met = distinct_after nat_eq [] (variables_in (c.head ∷ c.body))

  abbrev images : List Sort
  images = map (sort_in c.sorts) met

  met_has : (n : ℕ) → Among n (variables_in (c.head ∷ c.body)) → Among n met
  met_has n m = distinct_has [] (variables_in (c.head ∷ c.body)) n m

  sort_kept : (n : ℕ) → Among n met → sort_in images (place_in met n) ≡ sort_in c.sorts n
  sort_kept n m = at_place (sort_in c.sorts) met n Any Any m

  -- the ground atoms of the canonical form under one valuation are those of the clause under another
  module _ (u u' : Valuation) (same : (n : ℕ) → Among n (variables_in (c.head ∷ c.body)) → variable_value u (place_in met n) (sort_in images (place_in met n)) ≡ variable_value u' n (sort_in c.sorts n)) where
    heads : ground_of images u (mapped (place_in met) c.head) ≡ ground_of c.sorts u' c.head
    heads = ap atom_of (value_mapped (place_in met) (sort_in images) (sort_in c.sorts) u u' c.head (λ n m. same n (among_front n (variables c.head) (variables_in c.body) m)))

    bodies : map (ground_of images u) (mapped_all (place_in met) c.body) ≡ map (ground_of c.sorts u') c.body
    bodies = atoms_mapped (place_in met) (sort_in images) (sort_in c.sorts) u u' c.body (λ n m. same n (among_back n (variables c.head) (variables_in c.body) m))

  -- an instance of the canonical form is one of the clause
  back : HasInstancesOf c (canonical_form c)
  unfolding canonical_form variables_met
  back a body i =
      let f = place_in met in
      let u = i.valuation in
      let u' = taken_along f u in
      let same : (n : ℕ) → Among n (variables_in (c.head ∷ c.body)) → variable_value u (f n) (sort_in images (f n)) ≡ variable_value u' n (sort_in c.sorts n) =
      λ n m. ap (λ s. variable_value u (f n) s) (sort_kept n (met_has n m)) ∙ moved u f n (sort_in c.sorts n) in
      record {
        valuation = u';
        equations = no_equations c none u';
        rows = no_rows c none u';
        head_is = i.head_is ∙ heads u u' same;
        body_is = i.body_is ∙ bodies u u' same;
      }

  -- and the other way round: a new number has the value of the variable at its place
  forth : HasInstancesOf (canonical_form c) c
  unfolding canonical_form variables_met
  forth a body i =
      let f = place_in met in
      let g : ℕ → ℕ = λ n. slice_index_or (0 ∷ met) n 0 in
      let u' = i.valuation in
      let u = taken_along g u' in
      let returns : (n : ℕ) → Among n met → g (f n) ≡ n = at_own_place met in
      let same : (n : ℕ) → Among n (variables_in (c.head ∷ c.body)) → variable_value u (f n) (sort_in images (f n)) ≡ variable_value u' n (sort_in c.sorts n) =
      λ n m. ap (λ s. variable_value u (f n) s) (sort_kept n (met_has n m))
      ∙ (sym (moved u' g (f n) (sort_in c.sorts n)) ∙ ap (λ k. variable_value u' k (sort_in c.sorts n)) (returns n (met_has n m))) in
      record {
        valuation = u;
        equations = All-nil (EquationHolds images u);
        rows = All-nil (RowHolds u);
        head_is = i.head_is ∙ sym (heads u u' same);
        body_is = i.body_is ∙ sym (bodies u u' same);
      }

pub canonical_form_keeps_instances : CanonicalFormKeepsInstances
canonical_form_keeps_instances c none = (forth c none, back c none)
