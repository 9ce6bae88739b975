-- The limits of a clause in a store, by the counts of its terms and rows.
use Rattle.std.proofs.Common.{◌≡◌, ℕ, ◌+◌, ◌<◌, ◌≤◌, inl, inr, Bool, true, false, ◌||◌, cond, nat_lt, List, [], ◌∷◌, ◌++◌, length, Option, Some, None, Ok, Err, All, refl, ap, ◌∙◌, sym, subst, arith}
use Rattle.std.specs.Prelude.{not, if◌then◌else◌}
use Rattle.std.proofs.lemmas.Bool.{cond-true, cond-false, ltb-true, ltb-false, lt-ltb, le-ltb, or_left, or_right, or_from, or_parts, false_from_ne_true}
use Rattle.std.proofs.lemmas.List.{length-map}
use Rattle.clp_model.specs.declared.sort.Sort.{Sort}
use Rattle.clp_model.specs.declared.limit.Limit.{Limit}
use Rattle.clp_model.specs.declared.limit.Limit.TheVariants.{Shape, Atoms, Variables, Rows}
use Rattle.clp_model.specs.declared.tree.Variable.{Variable}
use Rattle.clp_model.specs.declared.tree.Tree.{Tree}
use Rattle.clp_model.specs.Trees.{total_size, greatest_depth, variables_in}
use Rattle.clp_model.specs.Clauses.{Clause, Row, sort_in}
use Rattle.clp_model.specs.Canonical.{clause_size, clause_depth, place_in, rows_size}
use Rattle.clp_model.proofs.Membership.{Among, among_front, among_back, distinct_has}
use Rattle.clp_model.proofs.RenamedTrees.{total_size_mapped, greatest_depth_mapped, length_mapped}
use Rattle.linear_model.specs.Elimination.{cleaned}
use Rattle.clause_model.specs.Variables.{rows_variables, variables_by_first_occurrence}
use Rattle.clause_model.specs.Canonical.{Overflow, TooLarge, canonical_form, limit_past, unless_past, new_clause}
use Rattle.clause_laws.proofs.Written.{written}
use Rattle.lin_row.specs.Rows.{IsKept}
use Rattle.term_store.specs.Trees.{trees_at, IsOver}
use Rattle.clause_store.specs.Stored.{number_of, atoms_at, clause_of, IsLarge}
use Rattle.clause_store.proofs.RowForms.{cleaned_are_kept, within_kept, written_size}

pub length_trees_at : (store : List (Tree Variable)) (terms : List ℕ) → length (trees_at store terms) ≡ length terms
length_trees_at store [] = refl
length_trees_at store (t ∷ ts) = let b = length_trees_at store ts in cc

none_parts : (a b c d : Bool) → cond a (Some Shape) (cond b (Some Atoms) (cond c (Some Variables) (cond d (Some Rows) None))) ≡ None → (a ≡ false) × (c ≡ false)
none_parts true b c d e = absurd (cc)
none_parts false true c d e = absurd (cc)
none_parts false false true d e = absurd (cc)
none_parts false false false true e = absurd (cc)
none_parts false false false false e = (refl, refl)

-- ---- a clause whose counts are known
module _ (c : Clause) (nodes levels : ℕ) (nodes_are : clause_size c ≡ nodes) (levels_are : clause_depth c ≡ levels) where
  over_true : IsOver nodes levels → (nat_lt 4096 (clause_size c) || nat_lt 256 (clause_depth c)) ≡ true
  over_true (inl h) = or_left _ _ (lt-ltb 4096 (clause_size c) (omega (arith, h, nodes_are)))
  over_true (inr h) = or_right _ _ (lt-ltb 256 (clause_depth c) (omega (arith, h, levels_are)))

  over_false : ¬ IsOver nodes levels → (nat_lt 4096 (clause_size c) || nat_lt 256 (clause_depth c)) ≡ false
  over_false fits =
      or_from _ _
      (false_from_ne_true _ (λ t. fits (inl (let h = ltb-true 4096 (clause_size c) t in omega (arith, h, nodes_are)))))
      (false_from_ne_true _ (λ t. fits (inr (let h = ltb-true 256 (clause_depth c) t in omega (arith, h, levels_are)))))

  counted_shape : IsOver nodes levels → limit_past c ≡ Some Shape
  unfolding limit_past
  counted_shape h = cond-true _ _ _ (over_true h)

  counted_atoms : ¬ IsOver nodes levels → 64 < length c.body → limit_past c ≡ Some Atoms
  unfolding limit_past
  counted_atoms fits h = cond-false _ _ _ (over_false fits) ∙ cond-true _ _ _ (lt-ltb 64 (length c.body) h)

  counted_variables : ¬ IsOver nodes levels → length c.body ≤ 64 → 256 < length c.sorts → limit_past c ≡ Some Variables
  unfolding limit_past
  counted_variables fits h k = cond-false _ _ _ (over_false fits) ∙ (cond-false _ _ _ (le-ltb 64 (length c.body) h) ∙ cond-true _ _ _ (lt-ltb 256 (length c.sorts) k))

  counted_rows : ¬ IsOver nodes levels → length c.body ≤ 64 → length c.sorts ≤ 256 → 128 < length c.rows → limit_past c ≡ Some Rows
  unfolding limit_past
  counted_rows fits h k l =
      cond-false _ _ _ (over_false fits)
      ∙ (cond-false _ _ _ (le-ltb 64 (length c.body) h) ∙ (cond-false _ _ _ (le-ltb 256 (length c.sorts) k) ∙ cond-true _ _ _ (lt-ltb 128 (length c.rows) l)))

  counted_none : ¬ IsOver nodes levels → length c.body ≤ 64 → length c.sorts ≤ 256 → length c.rows ≤ 128 → limit_past c ≡ None
  unfolding limit_past
  counted_none fits h k l =
      cond-false _ _ _ (over_false fits)
      ∙ (cond-false _ _ _ (le-ltb 64 (length c.body) h) ∙ (cond-false _ _ _ (le-ltb 256 (length c.sorts) k) ∙ cond-false _ _ _ (le-ltb 128 (length c.rows) l)))

limits_parts : (c : Clause) → limit_past c ≡ None → ((nat_lt 4096 (clause_size c) || nat_lt 256 (clause_depth c)) ≡ false) × (nat_lt 256 (length c.sorts) ≡ false)
unfolding limit_past
limits_parts c e = none_parts _ _ _ _ e

-- what is within the limits is small
pub small_clause : (c : Clause) → limit_past c ≡ None → clause_size c ≤ 4096
small_clause c e = ltb-false 4096 (clause_size c) (or_parts _ _ (limits_parts c e).0).0

pub few_sorts : (c : Clause) → limit_past c ≡ None → length c.sorts ≤ 256
few_sorts c e = ltb-false 256 (length c.sorts) (limits_parts c e).1

pub size_in : (store : List (Tree Variable)) (head : ℕ) (rows : List Row) (atoms : List ℕ) (sorts : List Sort) → clause_size (clause_of store head rows atoms sorts) ≡ total_size (trees_at store (head ∷ atoms)) + rows_size rows
unfolding clause_size
size_in store head rows atoms sorts = omega (arith, total_size_mapped number_of (trees_at store (head ∷ atoms)))

-- ---- the canonical form of a clause in a store
module _ (store : List (Tree Variable)) (head : ℕ) (raw : List Row) (atoms : List ℕ) (sorts : List Sort) (kept : All IsKept raw) where
  abbrev given : Clause
  given = clause_of store head raw atoms sorts

  abbrev made : Clause
  made = canonical_form given

  abbrev met : List ℕ
  met = variables_by_first_occurrence (clause_of store head (cleaned raw) atoms sorts)

  pub in_met_tree : (n : ℕ) → Among n (variables_in (atoms_at store (head ∷ atoms))) → Among n met
  in_met_tree n a =
      distinct_has [] (variables_in (atoms_at store (head ∷ atoms)) ++ rows_variables (cleaned raw)) n (among_front n (variables_in (atoms_at store (head ∷ atoms))) (rows_variables (cleaned raw)) a)

  pub in_met_row : (n : ℕ) → Among n (rows_variables (cleaned raw)) → Among n met
  in_met_row n a =
      distinct_has [] (variables_in (atoms_at store (head ∷ atoms)) ++ rows_variables (cleaned raw)) n (among_back n (variables_in (atoms_at store (head ∷ atoms))) (rows_variables (cleaned raw)) a)

  made_size : clause_size made ≡ total_size (trees_at store (head ∷ atoms)) + rows_size (cleaned raw)
  unfolding canonical_form clause_size
  made_size =
      omega (arith, total_size_mapped (place_in met) (atoms_at store (head ∷ atoms)), total_size_mapped number_of (trees_at store (head ∷ atoms)), written_size met (cleaned raw) (cleaned_are_kept raw kept) in_met_row)

  made_depth : clause_depth made ≡ greatest_depth (trees_at store (head ∷ atoms))
  unfolding canonical_form clause_depth
  made_depth = greatest_depth_mapped (place_in met) (atoms_at store (head ∷ atoms)) ∙ greatest_depth_mapped number_of (trees_at store (head ∷ atoms))

  made_atoms : length made.body ≡ length atoms
  unfolding canonical_form
  made_atoms = length_mapped (place_in met) (atoms_at store atoms) ∙ (length_mapped number_of (trees_at store atoms) ∙ length_trees_at store atoms)

  made_sorts : length made.sorts ≡ length met
  unfolding canonical_form
  made_sorts = length-map met (sort_in sorts)

  made_rows : length made.rows ≡ length (cleaned raw)
  unfolding canonical_form
  made_rows = length-map (cleaned raw) (written (place_in met))

  refused : (limit : Limit) → limit_past made ≡ Some limit → new_clause given ≡ Err (TooLarge limit)
  unfolding new_clause
  refused limit e =
      ap (λ b. if not b then Err Overflow else unless_past (limit_past made) made) (within_kept raw kept)
      ∙ ap (λ (l : Option Limit). unless_past l made) e

  pub accepted : limit_past made ≡ None → new_clause given ≡ Ok made
  unfolding new_clause
  accepted e =
      ap (λ b. if not b then Err Overflow else unless_past (limit_past made) made) (within_kept raw kept)
      ∙ ap (λ (l : Option Limit). unless_past l made) e

  pub few_met : limit_past made ≡ None → length met ≤ 256
  few_met e = let k = few_sorts made e in omega (arith, made_sorts)

  module _ (rows : List Row) (clean : rows ≡ cleaned raw) where
    large_clean : IsLarge store head rows atoms → IsLarge store head (cleaned raw) atoms
    large_clean h = subst (λ (rs : List Row). IsLarge store head rs atoms) clean h

    fits_clean : ¬ IsLarge store head rows atoms → ¬ IsLarge store head (cleaned raw) atoms
    fits_clean n h = n (subst (λ (rs : List Row). IsLarge store head rs atoms) (sym clean) h)

    count_met : length (variables_by_first_occurrence (clause_of store head rows atoms sorts)) ≡ length made.sorts
    count_met = ap (λ (rs : List Row). length (variables_by_first_occurrence (clause_of store head rs atoms sorts))) clean ∙ sym made_sorts

    count_rows : length rows ≡ length made.rows
    count_rows = ap length clean ∙ sym made_rows

    pub past_shape : IsLarge store head rows atoms → new_clause given ≡ Err (TooLarge Shape)
    past_shape h = refused Shape (counted_shape made _ _ made_size made_depth (large_clean h))

    module _ (fits : ¬ IsLarge store head rows atoms) where
      pub past_atoms : 64 < length atoms → new_clause given ≡ Err (TooLarge Atoms)
      past_atoms h = refused Atoms (counted_atoms made _ _ made_size made_depth (fits_clean fits) (omega (arith, h, made_atoms)))

      module _ (few : length atoms ≤ 64) where
        pub past_variables : 256 < length (variables_by_first_occurrence (clause_of store head rows atoms sorts)) → new_clause given ≡ Err (TooLarge Variables)
        past_variables h = refused Variables (counted_variables made _ _ made_size made_depth (fits_clean fits) (omega (arith, few, made_atoms)) (omega (arith, h, count_met)))

        module _ (met_few : length (variables_by_first_occurrence (clause_of store head rows atoms sorts)) ≤ 256) where
          pub past_rows : 128 < length rows → new_clause given ≡ Err (TooLarge Rows)
          past_rows h = refused Rows (counted_rows made _ _ made_size made_depth (fits_clean fits) (omega (arith, few, made_atoms)) (omega (arith, met_few, count_met)) (omega (arith, h, count_rows)))

          pub past_none : length rows ≤ 128 → limit_past made ≡ None
          past_none h = counted_none made _ _ made_size made_depth (fits_clean fits) (omega (arith, few, made_atoms)) (omega (arith, met_few, count_met)) (omega (arith, h, count_rows))
