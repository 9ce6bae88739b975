-- The parts of a folded clause.
use Rattle.std.proofs.Common.{◌≡◌, ℕ, zero, suc, ◌+◌, ◌-◌, ◌<◌, ◌≤◌, ◌||◌, ◌==◌, List, [], ◌∷◌, ◌++◌, length, map, nat_eq, refl, ap, ◌∙◌, sym, subst, arith, Bool, true, false, Some, None, Err, All, inl, inr}
use Rattle.std.specs.Prelude.{if◌then◌else◌, nat_lt, nat_le}
use Rattle.std.proofs.lemmas.Bool.{eqb-true, eqb-false, eq-eqb, ltb-true, leb-true}
use Rattle.clp_model.specs.declared.sort.Sort.{Sort}
use Rattle.clp_model.specs.declared.limit.Limit.TheVariants.{Shape}
use Rattle.clp_model.specs.declared.tree.Variable.{Variable}
use Rattle.clp_model.specs.declared.tree.Tree.{Tree, Var, App', Row_of-Tree, end_of-Tree, more_of-Tree}
use Rattle.clp_model.specs.Trees.{size, depth, total_size, greatest_depth, mapped, mapped_row, mapped_all, variables, variables_in_row, variables_in, IsApplication}
use Rattle.clp_model.specs.Clauses.{Clause as Meaning, Row}
use Rattle.clp_model.proofs.Membership.{Among, first, next, among_front, among_back, among_either}
use Rattle.clp_model.proofs.RenamedTrees.{total_size_mapped, greatest_depth_mapped}
use Rattle.lin_row.specs.Rows.{at, IsKept}
use Rattle.unify_model.specs.Substituting.{substituted, substituted_row}
use Rattle.unify_laws.proofs.Solved.{among_cases}
use Rattle.unify_laws.proofs.Variables.{both}
use Rattle.unify_laws.proofs.Substituted.{came_from}
use Rattle.term_store.specs.Trees.{tree_at, trees_at, AreIn, HasTree, HaveTrees, Keeps, IsOver, IsTooLarge}
use Rattle.term_store.proofs.Keeping.{has_tree_kept}
use Rattle.clause_model.specs.Canonical.{TooLarge, new_clause}
use Rattle.clause_model.specs.Variables.{rows_variables}
use Rattle.clause_laws.proofs.Rows.{all_each, each_all}
use Rattle.clause_store.specs.declared.clause.Clause.{Clause}
use Rattle.clause_store.specs.declared.clause.RawClause.{RawClause}
use Rattle.clause_store.specs.Stored.{number_of, atom_at, atoms_at, clause_in, raw_in, HasSort, IsNum, AreParts, IsRaw, IsStored}
use Rattle.clause_store.proofs.Counts.{length_trees_at}
use Rattle.clause_store.proofs.RowForms.{within_kept}
use Rattle.clause_loader.proofs.Loads.{shape}
use Rattle.clause_loader.proofs.Typed.{over_more}
use Rattle.clause_loader.specs.WellFormed.{IsNumber}
use Rattle.fold_model.specs.Positions.{in_range, first_outside, is_in, chosen, others_from, replaced_from, replaced}
use Rattle.fold_model.specs.Folded.{folded_clause}
use Rattle.clause_fold.specs.Images.{image_by, image_of, AreImages, Become}
use Rattle.clause_fold.specs.Folded.{folded_trees, AreTooLarge, IsFolded}
use Rattle.clause_fold.proofs.Substituted.{size_among, depth_among}
use Rattle.clause_fold.proofs.StoredParts.{head_sorted, atoms_sorted, head_application}
use Rattle.clause_fold.proofs.Parted.{chosen_out, chosen_all, replaced_out, replaced_mapped, replaced_trees, replaced_in, from_trees, to_trees}
use Rattle.clause_fold.proofs.Lost.{image_variable}

-- ---- where nothing is folded
pub no_positions : (ps : List ℕ) → true ≡ (length ps == 0) → ps ≡ []
no_positions [] e = refl
no_positions (p ∷ ps) e = absurd (let k = eqb-true (length (p ∷ ps)) 0 (sym e) in omega (arith, k))

replaced_none : {A : Type 0} (a : A) (k : ℕ) (xs : List A) → replaced_from a k [] xs ≡ xs
replaced_none a k [] = refl
replaced_none {A} a k (x ∷ xs) = ap (λ (v : List A). x ∷ v) (replaced_none a (suc k) xs)

pub nothing_folded : (new : List (Tree Variable)) (terms : List ℕ) (a : Tree Variable) (ps : List ℕ) (ts : List (Tree Variable)) → ps ≡ [] → HaveTrees new terms ts → HaveTrees new terms (replaced a ps ts)
nothing_folded new terms a ps ts e h =
    let P : List (Tree Variable) → Type 0 = HaveTrees new terms in
    subst P (sym (ap (λ (qs : List ℕ). replaced a qs ts) e ∙ replaced_none a 1 ts)) h

-- ---- an element that is put in
put_there : {A : Type 0} (a : A) (k j : ℕ) (ps : List ℕ) (xs : List A) → is_in ps j ≡ true → k ≤ j → j < k + length xs → Among a (replaced_from a k ps xs)
put_there a k j ps [] e l m = absurd (omega (arith, l, m))
put_there {A} a k j ps (x ∷ xs) e l m = by (is_in ps k) refl (λ (d : suc k ≤ j). put_there a (suc k) j ps xs e d (omega (arith, m)))
  where
    apart : is_in ps k ≡ false → suc k ≤ j
    apart f = near (nat_eq k j) refl
      where
        near : (b : Bool) → nat_eq k j ≡ b → suc k ≤ j
        near true q = let same : k ≡ j = eqb-true k j q in let bad : true ≡ false = sym e ∙ ap (is_in ps) (sym same) ∙ f in absurd (cc (bad))
        near false q = omega (arith, l, eqb-false k j q)

    by : (b : Bool) → is_in ps k ≡ b → (suc k ≤ j → Among a (replaced_from a (suc k) ps xs)) → Among a (if b then a ∷ others_from (suc k) ps xs else x ∷ replaced_from a (suc k) ps xs)
    by true f g = first
    by false f g = next (g (apart f))

put_first : {A : Type 0} (a : A) (ps : List ℕ) (xs : List A) → false ≡ (length ps == 0) → first_outside (length xs) ps ≡ None → Among a (replaced a ps xs)
put_first a [] xs e h = absurd (eqb-false 0 0 (sym e) refl)
put_first a (p ∷ ps) xs e h = by (in_range (length xs) p) refl h
  where
    by : (b : Bool) → in_range (length xs) p ≡ b → (if b then first_outside (length xs) ps else Some p) ≡ None → Among a (replaced a (p ∷ ps) xs)
    by true q n =
        let r = both (nat_lt 0 p) (nat_le p (length xs)) q in
        put_there a 1 p (p ∷ ps) xs (ap (λ (c : Bool). c || is_in ps p) (eq-eqb p p refl)) (let l = ltb-true 0 p r.0 in omega (arith, l)) (let l = leb-true p (length xs) r.1 in omega (arith, l))
    by false q n = absurd (cc (n))

-- a new atom past the limits takes the atoms past them
pub new_too_large : (t : Tree Variable) (store : List (Tree Variable)) (terms ps : List ℕ) → false ≡ (length ps == 0) → first_outside (length terms) ps ≡ None → IsTooLarge t → AreTooLarge (replaced t ps (trees_at store terms))
new_too_large t store terms ps e h over =
    let ts = trees_at store terms in
    let m = put_first t ps ts e (ap (λ (k : ℕ). first_outside k ps) (length_trees_at store terms) ∙ h) in
    over_more _ _ _ _ (size_among t (replaced t ps ts) m) (depth_among t (replaced t ps ts) m) over

-- the atoms with the new one
pub atoms_made : (mid new : List (Tree Variable)) (atom : ℕ) (t : Tree Variable) (atoms terms ps : List ℕ) (ts : List (Tree Variable)) → Keeps mid new → HasTree mid atom t → HaveTrees new atoms ts → terms ≡ replaced atom ps atoms → HaveTrees new terms (replaced t ps ts)
atoms_made mid new atom t atoms terms ps ts keeps has have e =
    let kept = has_tree_kept mid new atom t keeps has in
    let P : List ℕ → Type 0 = λ xs. HaveTrees new xs (replaced t ps ts) in
    subst P (sym e) (record {
      within = replaced_in new atom 1 ps atoms kept.within have.within;
      are = replaced_trees new atom 1 ps atoms ∙ ap (λ (x : Tree Variable). replaced x ps (trees_at new atoms)) kept.is ∙ ap (replaced t ps) have.are;
    })

-- ---- numbers of variables in the place of variables
mutual
  unfolding mapped substituted variables

  images_mapped : {U V W X : Type 0} (h : U → V) (g : U → Tree W) (j : W → X) (s : V → Tree X) (t : Tree U) → ((v : U) → Among v (variables t) → mapped j (g v) ≡ s (h v)) → mapped j (substituted g t) ≡ substituted s (mapped h t)
  images_mapped h g j s (Var v) e = e v first
  images_mapped h g j s (App' name shape args) e = ap (App' name shape) (row_images_mapped h g j s args e)

  row_images_mapped : {U V W X : Type 0} {m : _} (h : U → V) (g : U → Tree W) (j : W → X) (s : V → Tree X) (ts : Row_of-Tree U m) → ((v : U) → Among v (variables_in_row ts) → mapped j (g v) ≡ s (h v))
      → mapped_row j (substituted_row g ts) ≡ substituted_row s (mapped_row h ts)
  row_images_mapped h g j s end_of-Tree e = refl
  row_images_mapped h g j s (more_of-Tree t ts) e =
      let p = images_mapped h g j s t (λ v m. e v (among_front v (variables t) (variables_in_row ts) m)) in
      let q = row_images_mapped h g j s ts (λ v m. e v (among_back v (variables t) (variables_in_row ts) m)) in
      cc

application_substituted : {V W : Type 0} (f : V → Tree W) (t : Tree V) → IsApplication t → IsApplication (substituted f t)
unfolding IsApplication substituted
application_substituted f (Var v) h = absurd h
application_substituted f (App' name shape args) h = tt

-- ---- the folded clause
module _ (store scratch : List (Tree Variable)) (n c : Clause) (images ps keep : List ℕ) (definition : IsStored store n) (clause : IsStored store c) (are : AreImages scratch images (length n.sorts) c.sorts) where
  abbrev atom : Tree Variable
  atom = substituted (image_of scratch images) (tree_at store n.head)

  abbrev atoms : List (Tree Variable)
  atoms = folded_trees scratch images store n c ps

  place_of : (v : Variable) → Among v (variables (tree_at store n.head)) → IsNumber (length images) v.number
  place_of v m = let h = head_sorted store n definition v m in (h.positive, let w = h.within in let q = are.count in omega (arith, w, q))

  atom_sorted : (v : Variable) → Among v (variables atom) → HasSort c.sorts v
  atom_sorted v m =
      let r = came_from (image_of scratch images) v (tree_at store n.head) m in
      all_each (HasSort c.sorts) (variables_in (trees_at scratch images)) are.sorted v (image_variable scratch images r.0.number v (place_of r.0 r.1) r.2)

  trees_sorted : (v : Variable) → Among v (variables_in atoms) → HasSort c.sorts v
  trees_sorted v m =
      let r = from_trees atoms v m in
      elim (replaced_out atom 1 ps (trees_at store c.atoms) r.0 r.1) [
        | inl e ↦ atom_sorted v (subst (λ (t : Tree Variable). Among v (variables t)) e r.2)
        | inr d ↦ atoms_sorted store c clause v (to_trees (trees_at store c.atoms) r.0 v d r.2)
      ]

  trees_applied : (t : Tree Variable) → Among t atoms → IsApplication t
  trees_applied t m =
      elim (replaced_out atom 1 ps (trees_at store c.atoms) t m) [
        | inl e ↦ subst IsApplication (sym e) (application_substituted (image_of scratch images) (tree_at store n.head) (head_application store n definition))
        | inr d ↦ all_each IsApplication (trees_at store (c.head ∷ c.atoms)) clause.parts.applications t (next d)
      ]

  kept_rows : All IsKept (chosen keep c.rows)
  kept_rows = each_all IsKept (chosen keep c.rows) (λ r m. all_each IsKept c.rows clause.parts.kept r (chosen_out 1 keep c.rows r m))

  pub folded_raw : (new : List (Tree Variable)) (raw : RawClause) → IsFolded new raw store c keep atoms → IsRaw new raw
  folded_raw new raw f =
      let head : Tree Variable = tree_at store c.head in
      let trees : trees_at new (raw.head ∷ raw.atoms) ≡ head ∷ atoms = ap (λ (t : Tree Variable). t ∷ trees_at new raw.atoms) f.head.is ∙ ap (λ (ts : List (Tree Variable)). head ∷ ts) f.atoms.are in
      let P : List (Tree Variable) → Type 0 = λ ts. All IsApplication ts in
      let Q : List (Tree Variable) → Type 0 = λ ts. All (HasSort raw.sorts) (variables_in ts) in
      let R : List Sort → Type 0 = λ ss. All (HasSort ss) (variables_in (head ∷ atoms)) in
      let S : List Row → Type 0 = λ rs. All IsKept rs in
      let T : List Row → Type 0 = λ rs. All (IsNum raw.sorts) (rows_variables rs) in
      let U : List Sort → Type 0 = λ ss. All (IsNum ss) (rows_variables (chosen keep c.rows)) in
      record {
        within = (f.head.within, f.atoms.within);
        applications = subst P (sym trees) (each_all IsApplication (head ∷ atoms) (λ t m. among_cases m (λ q. subst IsApplication (sym q) (head_application store c clause)) (λ k. trees_applied t k)));
        sorted = subst Q (sym trees) (subst R (sym f.sorts) (each_all (HasSort c.sorts) (variables_in (head ∷ atoms)) (λ v m. elim (among_either v (variables head) (variables_in atoms) m) [
          | inl a ↦ head_sorted store c clause v a
          | inr b ↦ trees_sorted v b
        ])));
        kept = subst S (sym f.rows) kept_rows;
        nums = subst T (sym f.rows) (subst U (sym f.sorts) (chosen_all (IsNum c.sorts) 1 keep c.rows clause.parts.nums));
      }

  module _ (s : ℕ → Tree ℕ) (b : Become scratch images s) where
    abbrev made : Meaning
    made = folded_clause (clause_in store n) (clause_in store c) s ps keep

    body_is : mapped_all number_of atoms ≡ made.body
    body_is =
        replaced_mapped number_of atom 1 ps (trees_at store c.atoms)
        ∙ ap (λ (t : Tree ℕ). replaced t ps (atoms_at store c.atoms)) (images_mapped number_of (image_of scratch images) number_of s (tree_at store n.head) (λ v m. b.each v.number (place_of v m)))

    pub folded_is : (new : List (Tree Variable)) (raw : RawClause) → IsFolded new raw store c keep atoms → raw_in new raw ≡ made
    folded_is new raw f =
        let clause_with : Tree ℕ → List Row → List (Tree ℕ) → List Sort → Meaning = λ h r a k. record { head = h; equations = []; rows = r; body = a; sorts = k } in
        ap (λ (h : Tree ℕ). clause_with h raw.rows (atoms_at new raw.atoms) raw.sorts) (ap (mapped number_of) f.head.is)
        ∙ ap (λ (r : List Row). clause_with (atom_at store c.head) r (atoms_at new raw.atoms) raw.sorts) f.rows
        ∙ ap (λ (a : List (Tree ℕ)). clause_with (atom_at store c.head) (chosen keep c.rows) a raw.sorts) (ap (mapped_all number_of) f.atoms.are ∙ body_is)
        ∙ ap (λ (k : List Sort). clause_with (atom_at store c.head) (chosen keep c.rows) made.body k) f.sorts

    pub folded_refused : AreTooLarge atoms → new_clause made ≡ Err (TooLarge Shape)
    folded_refused over =
        shape made (within_kept (chosen keep c.rows) kept_rows)
        (over_more _ _ _ _
        (omega (arith, total_size_mapped number_of atoms, ap total_size body_is))
        (omega (arith, greatest_depth_mapped number_of atoms, ap greatest_depth body_is)) over)
