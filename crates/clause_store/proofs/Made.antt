-- A clause whose terms and rows were renamed.
use Rattle.std.proofs.Common.{◌≡◌, ℕ, ◌+◌, ◌<◌, length, get_or, nat_eq, inl, inr, ◌≤◌, ◌++◌, List, [], ◌∷◌, map, All, Contains, None, refl, ap, ◌∙◌, sym, subst, arith}
use Rattle.std.proofs.lemmas.List.{length-map}
use Rattle.std.proofs.lemmas.List.Elements.{All-from_recursion, recursion_from_All}
use Rattle.std.specs.List.{AllByRecursion}
use Rattle.clp_model.specs.declared.sort.Sort.{Sort}
use Rattle.clp_model.specs.declared.sort.Sort.TheVariants.{Any}
use Rattle.clp_model.specs.declared.tree.Variable.{Variable}
use Rattle.clp_model.specs.declared.tree.Tree.{Tree}
use Rattle.clp_model.specs.Trees.{mapped, mapped_all, variables_in, IsApplication}
use Rattle.clp_model.specs.Clauses.{Clause, Row, sort_in}
use Rattle.clp_model.specs.Predicates.{distinct_after}
use Rattle.clp_model.specs.Canonical.{place_in}
use Rattle.clp_model.proofs.Membership.{Among, first, next, among_mapped, among_either, from_among, at_place}
use Rattle.clp_model.proofs.RenamedTrees.{mapped_twice, all_mapped_twice, all_mapped_to_themselves, all_variables_mapped, application_mapped}
use Rattle.linear_model.specs.Elimination.{cleaned}
use Rattle.unify_laws.proofs.Solved.{among_cases}
use Rattle.clause_model.specs.Variables.{rows_variables, variables_by_first_occurrence}
use Rattle.clause_model.specs.Canonical.{canonical_form, limit_past, IsCanonical}
use Rattle.clause_laws.proofs.Rows.{all_each, each_all}
use Rattle.clause_laws.proofs.Distinct.{AreDistinct, distinct_from, distinct_made, distinct_stays}
use Rattle.clause_laws.proofs.Upto.{number_equality}
use Rattle.clause_laws.proofs.Written.{written}
use Rattle.clause_laws.proofs.Again.{same_parts}
use Rattle.clause_laws.proofs.NewClause.{new_clause_is_canonical}
use Rattle.lin_row.specs.Rows.{IsKept}
use Rattle.term_store.specs.Trees.{tree_at, trees_at, AreIn, HasTree, HaveTrees, Keeps}
use Rattle.term_store.proofs.Keeping.{keeps_at, keeps_all, keeps_within}
use Rattle.clause_store.specs.Stored.{number_of, renumber, atoms_at, clause_of, HasSort, IsNum, AreParts}
use Rattle.clause_store.proofs.Places.{place_in_order, place_positive, place_within}
use Rattle.clause_store.proofs.RowForms.{cleaned_are_kept, cleaned_variables, rising_kept, written_are_kept, written_nums, written_same}
use Rattle.clause_store.proofs.Counts.{accepted, in_met_tree, in_met_row}

-- the head and the atoms together
pub made_all : (f : Variable → Variable) (old mid new : List (Tree Variable)) (head : ℕ) (atoms : List ℕ) (head' : ℕ) (atoms' : List ℕ)
    → AreIn old (head ∷ atoms) → Keeps old mid → Keeps mid new → HasTree mid head' (mapped f (tree_at old head)) → HaveTrees new atoms' (mapped_all f (trees_at mid atoms))
    → HaveTrees new (head' ∷ atoms') (mapped_all f (trees_at old (head ∷ atoms)))
made_all f old mid new head atoms head' atoms' within before after has have =
    let first = keeps_at mid new after head' has.within ∙ has.is in
    let others = have.are ∙ ap (mapped_all f) (keeps_all old mid before atoms within.1) in
    record { within = (keeps_within mid new after head' has.within, have.within); are = cc }

number_renumbered : (met : List ℕ) (t : Tree Variable) → mapped number_of (mapped (renumber met) t) ≡ mapped (place_in met) (mapped number_of t)
number_renumbered met t =
    let place : Variable → ℕ = λ v. place_in met v.number in
    mapped_twice (renumber met) number_of place t (λ v m. refl) ∙ sym (mapped_twice number_of (place_in met) place t (λ v m. refl))

numbers_renumbered : (met : List ℕ) (ts : List (Tree Variable)) → mapped_all number_of (mapped_all (renumber met) ts) ≡ mapped_all (place_in met) (mapped_all number_of ts)
numbers_renumbered met ts =
    let place : Variable → ℕ = λ v. place_in met v.number in
    all_mapped_twice (renumber met) number_of place ts (λ v m. refl) ∙ sym (all_mapped_twice number_of (place_in met) place ts (λ v m. refl))

applications_mapped : (f : Variable → Variable) (ts : List (Tree Variable)) → AllByRecursion IsApplication ts → AllByRecursion IsApplication (mapped_all f ts)
applications_mapped f [] h = tt
applications_mapped f (t ∷ ts) h = (application_mapped f t h.0, applications_mapped f ts h.1)

-- each renamed variable has its sort
sorted_again : (sorts : List Sort) (met : List ℕ) (vs : List Variable) → AllByRecursion (HasSort sorts) vs → ((n : ℕ) → Among n (map number_of vs) → Among n met)
    → AllByRecursion (HasSort (map (sort_in sorts) met)) (map (renumber met) vs)
sorted_again sorts met [] h m = tt
sorted_again sorts met (v ∷ vs) h m = (
  record {
    positive = place_positive met v.number;
    within = let k = place_within met v.number (m v.number first) in omega (arith, length-map met (sort_in sorts));
    sort = at_place (sort_in sorts) met v.number Any Any (m v.number first) ∙ h.0.sort;
  },
  sorted_again sorts met vs h.1 (λ n a. m n (next a)),
)

-- the variables of the clause with clean rows
abbrev pub found_in : List (Tree Variable) → ℕ → List Row → List ℕ → List Sort → List ℕ
found_in store head rows atoms sorts = variables_by_first_occurrence (clause_of store head rows atoms sorts)

module _ (old : List (Tree Variable)) (head : ℕ) (raw : List Row) (atoms : List ℕ) (sorts : List Sort) (parts : AreParts old head raw atoms sorts) where
  abbrev found : List ℕ
  found = found_in old head (cleaned raw) atoms sorts

  abbrev before : List (Tree Variable)
  before = trees_at old (head ∷ atoms)

  members : (n : ℕ) → Among n (map number_of (variables_in (trees_at old (head ∷ atoms)))) → Among n found
  members n a =
      let P : List ℕ → Type 0 = Among n in
      in_met_tree old head raw atoms sorts parts.kept n (subst P (sym (all_variables_mapped number_of (trees_at old (head ∷ atoms)))) a)

  row_members : (n : ℕ) → Among n (rows_variables (cleaned raw)) → Among n found
  row_members n a = in_met_row old head raw atoms sorts parts.kept n a

  -- ---- the variables that were found
  pub found_distinct : AreDistinct found
  found_distinct = distinct_made nat_eq number_equality [] (variables_in (atoms_at old (head ∷ atoms)) ++ rows_variables (cleaned raw)) tt

  pub found_once : distinct_after nat_eq [] found ≡ found
  found_once = distinct_stays nat_eq number_equality [] found found_distinct

  tree_bounds : (vs : List Variable) → AllByRecursion (HasSort sorts) vs → (n : ℕ) → Among n (map number_of vs) → (0 < n) × (n ≤ length sorts)
  tree_bounds [] h n a = elim a [ ]
  tree_bounds (v ∷ vs) h n a = among_cases a
      (λ e. let p = h.0.positive in let w = h.0.within in (omega arith, omega arith))
      (λ b. tree_bounds vs h.1 n b)

  pub found_bounds : (n : ℕ) → Among n found → (0 < n) × (n ≤ length sorts)
  found_bounds n a = elim (distinct_from nat_eq number_equality [] (variables_in (atoms_at old (head ∷ atoms)) ++ rows_variables (cleaned raw)) n a) [
    | inl b ↦ elim b [ ]
    | inr b ↦ elim (among_either n (variables_in (atoms_at old (head ∷ atoms))) (rows_variables (cleaned raw)) b) [
      | inl c ↦
          let P : List ℕ → Type 0 = Among n in
          tree_bounds (variables_in before) (recursion_from_All (HasSort sorts) (variables_in before) parts.sorted) n (subst P (all_variables_mapped number_of before) c)
      | inr c ↦ let k = all_each (IsNum sorts) (rows_variables raw) parts.nums n (cleaned_variables raw parts.kept n c) in (k.positive, k.within)
    ]
  ]

  pub found_within : All (λ n. (0 < n) × (n ≤ length sorts)) found
  found_within = each_all (λ n. (0 < n) × (n ≤ length sorts)) found found_bounds

  pub found_rows : All (Contains found) (rows_variables (cleaned raw))
  found_rows = each_all (Contains found) (rows_variables (cleaned raw)) (λ n a. from_among (row_members n a))

  module _ (rows : List Row) (met : List ℕ) (clean : rows ≡ cleaned raw) (is : met ≡ found_in old head rows atoms sorts) where
    met_same : met ≡ found
    met_same = is ∙ ap (λ (rs : List Row). found_in old head rs atoms sorts) clean

    pub rows_kept : All IsKept rows
    rows_kept = let P : List Row → Type 0 = All IsKept in subst P (sym clean) (cleaned_are_kept raw parts.kept)

    pub met_once : distinct_after nat_eq [] met ≡ met
    met_once = let P : List ℕ → Type 0 = λ m. distinct_after nat_eq [] m ≡ m in subst P (sym met_same) found_once

    pub met_within : All (λ n. (0 < n) × (n ≤ length sorts)) met
    met_within = let P : List ℕ → Type 0 = All (λ n. (0 < n) × (n ≤ length sorts)) in subst P (sym met_same) found_within

    pub met_rows : All (Contains met) (rows_variables rows)
    met_rows =
        let P : List Row → Type 0 = λ rs. All (Contains met) (rows_variables rs) in
        let Q : List ℕ → Type 0 = λ m. All (Contains m) (rows_variables (cleaned raw)) in
        subst P (sym clean) (subst Q (sym met_same) found_rows)

  -- ---- the clause that is made
  module _ (new : List (Tree Variable)) (head' : ℕ) (atoms' : List ℕ) where
    abbrev Terms : List ℕ → Type 0
    Terms met = HaveTrees new (head' ∷ atoms') (mapped_all (renumber met) (trees_at old (head ∷ atoms)))

    form_at : Terms found → clause_of new head' (map (written (place_in found)) (cleaned raw)) atoms' (map (sort_in sorts) found) ≡ canonical_form (clause_of old head raw atoms sorts)
    unfolding canonical_form
    form_at have =
        let trees = have.are in
        let one : tree_at new head' ≡ mapped (renumber found) (tree_at old head) = cc in
        let others : trees_at new atoms' ≡ mapped_all (renumber found) (trees_at old atoms) = cc in
        same_parts
        (ap (mapped number_of) one ∙ number_renumbered found (tree_at old head))
        (ap (mapped_all number_of) others ∙ numbers_renumbered found (trees_at old atoms))
        refl refl

    parts_at : Terms found → AreParts new head' (map (written (place_in found)) (cleaned raw)) atoms' (map (sort_in sorts) found)
    parts_at have =
        let P : List (Tree Variable) → Type 0 = All IsApplication in
        let Q : List (Tree Variable) → Type 0 = λ ts. All (HasSort (map (sort_in sorts) found)) (variables_in ts) in
        let R : List Variable → Type 0 = All (HasSort (map (sort_in sorts) found)) in
        record {
          within = have.within;
          applications = subst P (sym have.are) (All-from_recursion IsApplication (mapped_all (renumber found) before) (applications_mapped (renumber found) before (recursion_from_All IsApplication before parts.applications)));
          sorted = subst Q (sym have.are) (subst R (sym (all_variables_mapped (renumber found) before))
              (All-from_recursion (HasSort (map (sort_in sorts) found)) (map (renumber found) (variables_in before)) (sorted_again sorts found (variables_in before) (recursion_from_All (HasSort sorts) (variables_in before) parts.sorted) members)));
          kept = written_are_kept found (cleaned raw) (cleaned_are_kept raw parts.kept) row_members;
          nums = written_nums found sorts (cleaned raw) row_members (each_all (IsNum sorts) (rows_variables (cleaned raw)) (λ n a. all_each (IsNum sorts) (rows_variables raw) parts.nums n (cleaned_variables raw parts.kept n a)));
        }

    module _ (rows : List Row) (met : List ℕ) (rows' : List Row) (sorts' : List Sort) (clean : rows ≡ cleaned raw) (is : met ≡ found_in old head rows atoms sorts) (rows_are : rows' ≡ map (written (place_in met)) rows) (sorts_are : sorts' ≡ map (sort_in sorts) met) (have : Terms met) where
      met_is : met ≡ found
      met_is = is ∙ ap (λ (rs : List Row). found_in old head rs atoms sorts) clean

      have_found : Terms found
      have_found = subst Terms met_is have

      sorts_found : map (sort_in sorts) found ≡ sorts'
      sorts_found = sym (sorts_are ∙ ap (map (sort_in sorts)) met_is)

      rows_found : map (written (place_in found)) (cleaned raw) ≡ rows'
      rows_found = sym (rows_are ∙ (ap (λ (m : List ℕ). map (written (place_in m)) rows) met_is ∙ ap (map (written (place_in found))) clean))

      pub made_form : clause_of new head' rows' atoms' sorts' ≡ canonical_form (clause_of old head raw atoms sorts)
      made_form =
          ap (λ (rs : List Row). clause_of new head' rs atoms' sorts') (sym rows_found)
          ∙ (ap (λ (ss : List Sort). clause_of new head' (map (written (place_in found)) (cleaned raw)) atoms' ss) (sym sorts_found) ∙ form_at have_found)

      pub made_parts : AreParts new head' rows' atoms' sorts'
      made_parts =
          let P : List Row → Type 0 = λ rs. AreParts new head' rs atoms' sorts' in
          let Q : List Sort → Type 0 = λ ss. AreParts new head' (map (written (place_in found)) (cleaned raw)) atoms' ss in
          subst P rows_found (subst Q sorts_found (parts_at have_found))

      pub made_canonical : limit_past (canonical_form (clause_of old head raw atoms sorts)) ≡ None → IsCanonical (clause_of new head' rows' atoms' sorts')
      made_canonical within =
          let P : Clause → Type 0 = IsCanonical in
          let c : Clause = clause_of old head raw atoms sorts in
          subst P (sym made_form) (new_clause_is_canonical c (canonical_form c) (rising_kept raw parts.kept) (accepted old head raw atoms sorts parts.kept within)).1

  -- ---- where the variables are numbered in order
  module _ (rows : List Row) (met : List ℕ) (clean : rows ≡ cleaned raw) (is : met ≡ found_in old head rows atoms sorts) (order : (k : ℕ) → k < length met → get_or met k 0 ≡ k + 1) where
    met_found : met ≡ found
    met_found = is ∙ ap (λ (rs : List Row). found_in old head rs atoms sorts) clean

    same_number : (v : Variable) → Among v.number met → renumber met v ≡ v
    same_number v m = ap (λ (n : ℕ). let w : Variable = record { number = n; sort = v.sort } in w) (place_in_order met v.number order m)

    pub same_terms : HaveTrees old (head ∷ atoms) (mapped_all (renumber met) (trees_at old (head ∷ atoms)))
    same_terms =
        let P : (v : Variable) → List ℕ → Type 0 = λ v. Among v.number in
        record {
          within = parts.within;
          are = sym (all_mapped_to_themselves (renumber met) before (λ v a. same_number v (subst (P v) (sym met_found) (members v.number (among_mapped number_of a)))));
        }

    pub same_rows : rows ≡ map (written (place_in met)) rows
    same_rows =
        let P : List Row → Type 0 = All IsKept in
        written_same met rows (subst P (sym clean) (cleaned_are_kept raw parts.kept))
        (λ n a. let Q : List Row → Type 0 = λ rs. Among n (rows_variables rs) in let R : List ℕ → Type 0 = Among n in subst R (sym met_found) (row_members n (subst Q clean a))) order
