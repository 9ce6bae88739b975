-- Terms in which the images of a substitution are put one after another.
use Rattle.std.proofs.Common.{◌≡◌, ℕ, zero, suc, ◌+◌, ◌<◌, ◌≤◌, List, [], ◌∷◌, ◌++◌, length, take, get_or, ap, ◌∙◌, sym, subst, arith, inl, inr, All, map, false}
use Rattle.std.proofs.lemmas.List.{take_all}
use Rattle.clp_model.specs.declared.sort.Sort.{Sort}
use Rattle.clp_model.specs.declared.tree.Variable.{Variable}
use Rattle.clp_model.specs.declared.tree.Tree.{Tree}
use Rattle.clp_model.specs.Clauses.{Row}
use Rattle.linear_model.specs.Normal.{normal}
use Rattle.linear_model.specs.Changes.{renamed}
use Rattle.lin_row.specs.Rows.{IsKept}
use Rattle.clause_model.specs.Canonical.{all_within}
use Rattle.clause_loader.specs.Carried.{number_by}
use Rattle.clause_resolvent.specs.Applied.{HasRows}
use Rattle.unify_model.specs.Substituting.{substituted, substituted_all}
use Rattle.term_store.specs.Trees.{tree_at, trees_at, AreIn, HasTree, HaveTrees, Keeps, IsTooLarge}
use Rattle.term_store.proofs.Keeping.{keeps_at, keeps_all, has_tree_kept, have_push, trees_at_more}
use Rattle.substitution.specs.declared.subst.Subst.{Subst}
use Rattle.substitution.specs.Weights.{IsOf, images}
use Rattle.substitution.specs.Made.{IsPastAny}
use Rattle.substitution.proofs.Kept.{same_images}
use Rattle.substitution.proofs.Weighed.{sub_push}

module _ (old mid : List (Tree Variable)) (k : Keeps old mid) (s : Subst) (of : IsOf old s) where
  pub same_term : (term : ℕ) → term < length old → substituted (images mid s) (tree_at mid term) ≡ substituted (images old s) (tree_at old term)
  same_term term w =
      ap (substituted (images mid s)) (keeps_at old mid k term w)
      ∙ ap (λ (f : Variable → Tree Variable). substituted f (tree_at old term)) (same_images old mid k s of)

  pub same_terms : (terms : List ℕ) → AreIn old terms → substituted_all (images mid s) (trees_at mid terms) ≡ substituted_all (images old s) (trees_at old terms)
  same_terms terms w =
      ap (substituted_all (images mid s)) (keeps_all old mid k terms w)
      ∙ ap (λ (f : Variable → Tree Variable). substituted_all f (trees_at old terms)) (same_images old mid k s of)

pub applied_more : (f : Variable → Tree Variable) (old mid new : List (Tree Variable)) (terms all more : List ℕ) (i one term : ℕ)
    → HaveTrees mid all (substituted_all f (trees_at old (take i terms))) → Keeps mid new → i < length terms → term ≡ get_or terms i term
    → HasTree new one (substituted f (tree_at old term)) → more ≡ all ++ one ∷ [] → HaveTrees new more (substituted_all f (trees_at old (take (i + 1) terms)))
applied_more f old mid new terms all more i one term have after within item has is =
    let done : List (Tree Variable) = trees_at old (take i terms) in
    let trees : substituted_all f (trees_at old (take (i + 1) terms)) ≡ substituted_all f done ++ substituted f (tree_at old term) ∷ [] =
    ap (substituted_all f) (trees_at_more old terms i term within item) ∙ sub_push f done (tree_at old term) in
    let P : List ℕ → Type 0 = λ v. HaveTrees new v (substituted_all f (trees_at old (take (i + 1) terms))) in
    let Q : List (Tree Variable) → Type 0 = HaveTrees new (all ++ one ∷ []) in
    subst P (sym is) (subst Q (sym trees) (have_push mid new all (substituted_all f done) one (substituted f (tree_at old term)) have after has))

pub applied_end : (f : Variable → Tree Variable) (old new : List (Tree Variable)) (terms all : List ℕ) (i : ℕ) → length terms ≤ i
    → HaveTrees new all (substituted_all f (trees_at old (take i terms))) → HaveTrees new all (substituted_all f (trees_at old terms))
applied_end f old new terms all i end h = let P : List ℕ → Type 0 = λ ts. HaveTrees new all (substituted_all f (trees_at old ts)) in subst P (take_all i terms end) h

past_get : (f : Variable → Tree Variable) (old : List (Tree Variable)) (terms : List ℕ) (i d : ℕ) → i < length terms → IsTooLarge (substituted f (tree_at old (get_or terms i d))) → IsPastAny (substituted_all f (trees_at old terms))
past_get f old [] i d w h = absurd (omega arith)
past_get f old (t ∷ ts) zero d w h = inl h
past_get f old (t ∷ ts) (suc i) d w h = inr (past_get f old ts i d (omega arith) h)

pub past_item : (f : Variable → Tree Variable) (old : List (Tree Variable)) (terms : List ℕ) (i term : ℕ) → i < length terms → term ≡ get_or terms i term → IsTooLarge (substituted f (tree_at old term)) → IsPastAny (substituted_all f (trees_at old terms))
past_item f old terms i term within item h =
    let P : ℕ → Type 0 = λ t. IsTooLarge (substituted f (tree_at old t)) in
    past_get f old terms i term within (subst P item h)

-- a head and atoms
pub head_and_atoms : (one new : List (Tree Variable)) (head : ℕ) (atoms : List ℕ) (t : Tree Variable) (ts : List (Tree Variable)) → Keeps one new → HasTree one head t → HaveTrees new atoms ts → HaveTrees new (head ∷ atoms) (t ∷ ts)
head_and_atoms one new head atoms t ts k h all =
    let here = has_tree_kept one new head t k h in
    record { within = (here.within, all.within); are = let a = here.is in let b = all.are in cc }

-- ---- rows, under equal names for the parts
abbrev done : (Variable → Tree Variable) → List Sort → List Row → List Row
done f sorts rows = map (λ r. normal (renamed (number_by sorts f) r)) rows

pub rows_are : (f : Variable → Tree Variable) (kept made rows rows' : List Row) (sorts sorts' : List Sort) → rows ≡ rows' → sorts ≡ sorts' → kept ≡ done f sorts rows → All IsKept kept → made ≡ kept → HasRows (number_by sorts' f) rows' made
rows_are f kept made rows rows' sorts sorts' e d h all same =
    let P : List Row → Type 0 = HasRows (number_by sorts' f) rows' in
    subst P (sym same) (record {
      are = h ∙ ap (λ (ss : List Sort). done f ss rows) d ∙ ap (done f sorts') e;
      kept = all;
    })

pub outside_are : (f : Variable → Tree Variable) (rows rows' : List Row) (sorts sorts' : List Sort) → rows ≡ rows' → sorts ≡ sorts' → all_within (map (renamed (number_by sorts f)) rows) ≡ false → all_within (map (renamed (number_by sorts' f)) rows') ≡ false
outside_are f rows rows' sorts sorts' e d h =
    ap all_within (sym (ap (λ (ss : List Sort). map (renamed (number_by ss f)) rows) d ∙ ap (map (renamed (number_by sorts' f))) e)) ∙ h
