-- The atoms of a definition, and those of a clause that they become.
use Rattle.std.proofs.Common.{◌≡◌, ℕ, zero, suc, ◌+◌, ◌<◌, ◌≤◌, List, [], ◌∷◌, ◌++◌, length, map, refl, ap, ◌∙◌, sym, subst, arith, Bool, true, false, ◌||◌, nat_lt, cond, Option, Some, None, inl, inr, Result, Ok, Err, IfOk, IfSome, IfNone, ◌↔◌}
use Rattle.std.specs.List.{list_any}
use Rattle.std.proofs.lemmas.Bool.{ltb-false}
use Rattle.clp_model.specs.declared.sort.Sort.{Sort}
use Rattle.clp_model.specs.declared.limit.Limit.TheVariants.{Shape, Atoms, Variables, Rows}
use Rattle.clp_model.specs.declared.tree.Variable.{Variable}
use Rattle.clp_model.specs.declared.tree.Tree.{Tree, Var}
use Rattle.clp_model.specs.Trees.{size, depth, total_size, greatest_depth, mapped_all, variables, variables_in}
use Rattle.clp_model.specs.Canonical.{clause_size, clause_depth}
use Rattle.clp_model.specs.Clauses.{Clause as Meaning}
use Rattle.clp_model.proofs.Trees.{size_var, depth_var}
use Rattle.clp_model.proofs.Membership.{Among, first, next}
use Rattle.clp_model.proofs.RenamedTrees.{all_mapped_twice, all_mapped_to_themselves, total_size_mapped, greatest_depth_mapped}
use Rattle.unify_model.specs.Substituting.{substituted, substituted_all, same_variable, Binding}
use Rattle.unify_model.specs.Matching.{image_at_once, matched, IsMatching, HasNoMatching}
use Rattle.unify_laws.proofs.Variables.{among_test}
use Rattle.unify_laws.proofs.Matchings.{matched_is, none_matched, one_matching}
use Rattle.term_store.specs.Trees.{tree_at, trees_at, variable, AreIn, HasTree, HaveTrees, Keeps, IsSmall, IsTooLarge}
use Rattle.term_store.proofs.Keeping.{have_trees_kept}
use Rattle.substitution.specs.declared.subst.Subst.{Subst}
use Rattle.substitution.specs.Weights.{IsOf, images}
use Rattle.substitution.proofs.Weighed.{sub_var}
use Rattle.substitution.proofs.Kept.{same_images}
use Rattle.clause_model.specs.Canonical.{limit_past}
use Rattle.clause_model.specs.Solved.{typed_variable}
use Rattle.clause_store.specs.declared.clause.Clause.{Clause}
use Rattle.clause_store.specs.Stored.{number_of, atom_at, atoms_at, clause_in, HasSort, IsStored}
use Rattle.clause_store.proofs.Counts.{small_clause, size_in}
use Rattle.fold_model.specs.Positions.{first_outside, at_positions}
use Rattle.fold_model.specs.Images.{typed_all, matched_atoms}
use Rattle.clause_fold.specs.Images.{IsMatched, AreSmall}
use Rattle.clause_fold.proofs.StoredParts.{atoms_sorted}
use Rattle.clause_fold.proofs.ChosenTerms.{each_in, in_each, variable_from, variable_to, tree_from, tree_to, positions_among, positions_are}
use Rattle.clause_fold.proofs.Substituted.{all_part_size, all_part_depth, size_among, depth_among}

abbrev variable_named : ℕ → Sort → Variable
variable_named n s = record { number = n; sort = s }

-- trees whose variables get their sorts again
pub typed_all_again : (sorts : List Sort) (ts : List (Tree Variable)) → ((v : Variable) → Among v (variables_in ts) → HasSort sorts v) → typed_all sorts (mapped_all number_of ts) ≡ ts
typed_all_again sorts ts h =
    all_mapped_twice number_of (typed_variable sorts) (λ v. v) ts (λ v m. ap (variable_named v.number) (h v m).sort)
    ∙ all_mapped_to_themselves (λ v. v) ts (λ v m. refl)

-- ---- the depth of a stored clause
none_parts : (a b c d : Bool) → cond a (Some Shape) (cond b (Some Atoms) (cond c (Some Variables) (cond d (Some Rows) None))) ≡ None → a ≡ false
none_parts true b c d e = absurd (cc)
none_parts false b c d e = refl

or_right : (a b : Bool) → (a || b) ≡ false → b ≡ false
or_right true b e = absurd (cc)
or_right false b e = e

flat_clause : (c : Meaning) → limit_past c ≡ None → clause_depth c ≤ 256
unfolding limit_past
flat_clause c e = ltb-false 256 (clause_depth c) (or_right (nat_lt 4096 (clause_size c)) (nat_lt 256 (clause_depth c)) (none_parts _ _ _ _ e))

depth_in : (store : List (Tree Variable)) (c : Clause) → clause_depth (clause_in store c) ≡ greatest_depth (trees_at store (c.head ∷ c.atoms))
unfolding clause_depth
depth_in store c = greatest_depth_mapped number_of (trees_at store (c.head ∷ c.atoms))

atom_size : (store : List (Tree Variable)) (c : Clause) → IsStored store c → (t : Tree Variable) → Among t (trees_at store c.atoms) → size t ≤ 4096
atom_size store c h t m =
    let s = small_clause (clause_in store c) h.canonical.limits in
    omega (arith, s, size_in store c.head c.rows c.atoms c.sorts, size_among t (trees_at store (c.head ∷ c.atoms)) (next m))

atom_depth : (store : List (Tree Variable)) (c : Clause) → IsStored store c → (t : Tree Variable) → Among t (trees_at store c.atoms) → depth t ≤ 256
atom_depth store c h t m =
    let s = flat_clause (clause_in store c) h.canonical.limits in
    omega (arith, s, depth_in store c, depth_among t (trees_at store (c.head ∷ c.atoms)) (next m))

-- ---- a matching of patterns and targets
found : (ps ts : List (Tree Variable)) (f : Variable → Tree Variable) → IsMatching ps ts f → (bs : List Binding) × (matched ps ts ≡ Some bs) × ((v : Variable) → f v ≡ image_at_once bs v)
found ps ts f h = by (matched ps ts) refl
  where
    by : (o : Option (List Binding)) → matched ps ts ≡ o → (bs : List Binding) × (matched ps ts ≡ Some bs) × ((v : Variable) → f v ≡ image_at_once bs v)
    by None e = absurd ((none_matched ps ts).0 e f h.respects h.is)
    by (Some bs) e = (bs, e, one_matching ps ts f (image_at_once bs) h (matched_is ps ts bs e))

small_image : (ps ts : List (Tree Variable)) (f : Variable → Tree Variable) → IsMatching ps ts f → ((t : Tree Variable) → Among t ts → size t ≤ 4096) → ((t : Tree Variable) → Among t ts → depth t ≤ 256) → AreSmall f
small_image ps ts f h small flat v = by (list_any (same_variable v) (variables_in ps)) refl
  where
    by : (b : Bool) → list_any (same_variable v) (variables_in ps) ≡ b → IsSmall (f v)
    by true e =
        let m = among_test v (variables_in ps) e in
        record {
          size = all_part_size f v ps 4096 m (λ t a. small t (subst (λ (us : List (Tree Variable)). Among t us) h.is a));
          depth = all_part_depth f v ps 256 m (λ t a. flat t (subst (λ (us : List (Tree Variable)). Among t us) h.is a));
        }
    by false e =
        let o = h.others v e in
        record { size = omega (arith, ap size o, size_var v); depth = omega (arith, ap depth o, depth_var v) }

-- ---- the atoms of two stored clauses
module _ (store : List (Tree Variable)) (n c : Clause) (positions : List ℕ) (definition : IsStored store n) (clause : IsStored store c) (within : first_outside (length c.atoms) positions ≡ None) where
  abbrev N : Meaning
  N = clause_in store n

  abbrev C : Meaning
  C = clause_in store c

  abbrev chosen : List ℕ
  chosen = at_positions 0 c.atoms positions

  pub chosen_in : (terms given : List ℕ) → given ≡ c.atoms → terms ≡ at_positions 0 given positions → AreIn store terms
  chosen_in terms given g e =
      let P : List ℕ → Type 0 = AreIn store in
      subst P (sym (e ∙ ap (λ (ts : List ℕ). at_positions 0 ts positions) g)) (each_in store chosen (λ t m. in_each store c.atoms clause.parts.within.1 t (positions_among c.atoms positions 0 within t m)))

  patterns_are : trees_at store n.atoms ≡ typed_all N.sorts N.body
  patterns_are = sym (typed_all_again n.sorts (trees_at store n.atoms) (atoms_sorted store n definition))

  chosen_sorted : (v : Variable) → Among v (variables_in (trees_at store chosen)) → HasSort c.sorts v
  chosen_sorted v m =
      let r = variable_from store chosen v m in
      atoms_sorted store c clause v (variable_to store c.atoms r.0 v (positions_among c.atoms positions 0 within r.0 r.1) r.2)

  targets_are : trees_at store chosen ≡ typed_all C.sorts (at_positions C.head C.body positions)
  targets_are = sym (ap (typed_all c.sorts) (positions_are store c.atoms positions 0 C.head within) ∙ typed_all_again c.sorts (trees_at store chosen) chosen_sorted)

  atoms_are : matched (trees_at store n.atoms) (trees_at store chosen) ≡ matched_atoms N C positions
  unfolding matched_atoms
  atoms_are = ap (λ (ps : List (Tree Variable)). matched ps (trees_at store chosen)) patterns_are ∙ ap (matched (typed_all N.sorts N.body)) targets_are

  small_target : (t : Tree Variable) → Among t (trees_at store chosen) → size t ≤ 4096
  small_target t m =
      let r = tree_from store chosen t m in
      let a = atom_size store c clause (tree_at store r.0) (tree_to store c.atoms r.0 (positions_among c.atoms positions 0 within r.0 r.1)) in
      omega (arith, ap size r.2, a)

  flat_target : (t : Tree Variable) → Among t (trees_at store chosen) → depth t ≤ 256
  flat_target t m =
      let r = tree_from store chosen t m in
      let a = atom_depth store c clause (tree_at store r.0) (tree_to store c.atoms r.0 (positions_among c.atoms positions 0 within r.0 r.1)) in
      omega (arith, ap depth r.2, a)

  module _ (scratch : List (Tree Variable)) (s : Subst) where
    pub is_matched : IsMatching (trees_at store n.atoms) (trees_at store chosen) (images scratch s) → IsMatched scratch s N C positions
    is_matched h = let r = found (trees_at store n.atoms) (trees_at store chosen) (images scratch s) h in record { bindings = r.0; matched = sym atoms_are ∙ r.1; are = r.2 }

    pub are_small : IsMatching (trees_at store n.atoms) (trees_at store chosen) (images scratch s) → AreSmall (images scratch s)
    are_small h = small_image (trees_at store n.atoms) (trees_at store chosen) (images scratch s) h small_target flat_target

  pub none_is : HasNoMatching (trees_at store n.atoms) (trees_at store chosen) → matched_atoms N C positions ≡ None
  none_is h = sym atoms_are ∙ (none_matched (trees_at store n.atoms) (trees_at store chosen)).1 h

-- ---- copies of terms in another store, under equal names for the terms
pub copied_in : (mid new : List (Tree Variable)) (ps given : List ℕ) (ts : List (Tree Variable)) → HaveTrees mid ps ts → Keeps mid new → given ≡ ps → AreIn new given
copied_in mid new ps given ts h k e = let P : List ℕ → Type 0 = AreIn new in subst P (sym e) (have_trees_kept mid new ps ts k h).within

pub copied_are : (store mid new : List (Tree Variable)) (ps given from terms : List ℕ) → HaveTrees mid ps (trees_at store from) → Keeps mid new → given ≡ ps → from ≡ terms → trees_at new given ≡ trees_at store terms
copied_are store mid new ps given from terms h k e f = ap (trees_at new) e ∙ (have_trees_kept mid new ps (trees_at store from) k h).are ∙ ap (trees_at store) f

pub matching_as : (ps ps' ts ts' : List (Tree Variable)) (f : Variable → Tree Variable) → ps ≡ ps' → ts ≡ ts' → IsMatching ps ts f → IsMatching ps' ts' f
matching_as ps ps' ts ts' f e d h =
    let P : List (Tree Variable) → Type 0 = λ us. IsMatching us ts f in
    let Q : List (Tree Variable) → Type 0 = λ us. IsMatching ps' us f in
    subst Q d (subst P e h)

pub no_matching_as : (ps ps' ts ts' : List (Tree Variable)) → ps ≡ ps' → ts ≡ ts' → HasNoMatching ps ts → HasNoMatching ps' ts'
no_matching_as ps ps' ts ts' e d h =
    let P : List (Tree Variable) → Type 0 = λ us. HasNoMatching us ts in
    let Q : List (Tree Variable) → Type 0 = λ us. HasNoMatching ps' us in
    subst Q d (subst P e h)

pub if_some_so : {S E : Type 0} (r : Result (Option S) E) (P Q : S → Type 0) → ((s : S) → P s → Q s) → IfOk r (λ o. IfSome o P) → IfOk r (λ o. IfSome o Q)
if_some_so (Ok (Some s)) P Q f h = f s h
if_some_so (Ok None) P Q f h = tt
if_some_so (Err e) P Q f h = tt

pub if_none_so : {S E : Type 0} (r : Result (Option S) E) (P Q : Type 0) → (P → Q) → IfOk r (λ o. IfNone o P) → IfOk r (λ o. IfNone o Q)
if_none_so (Ok (Some s)) P Q f h = tt
if_none_so (Ok None) P Q f h = f h
if_none_so (Err e) P Q f h = tt

-- ---- the term of an image
pub image_there : (old mid : List (Tree Variable)) (k : Keeps old mid) (s : Subst) (of : IsOf old s) (n : ℕ) (sort : Sort) (t : ℕ) → HasTree mid t (variable n sort)
    → substituted (images mid s) (tree_at mid t) ≡ images old s (variable_named n sort)
image_there old mid k s of n sort t is =
    sub_var (images mid s) (tree_at mid t) (variable_named n sort) is.is
    ∙ ap (λ (f : Variable → Tree Variable). f (variable_named n sort)) (same_images old mid k s of)

pub not_too_large : (t : Tree Variable) → IsSmall t → IsTooLarge t → ⊥
not_too_large t h (inl k) = let s = h.size in absurd (omega (arith, s, k))
not_too_large t h (inr k) = let s = h.depth in absurd (omega (arith, s, k))
