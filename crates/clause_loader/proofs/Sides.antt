-- The sides of equations, measured and made one after another.
use Rattle.std.proofs.Common.{◌≡◌, ℕ, zero, suc, ◌+◌, ◌<◌, ◌≤◌, true, false, List, [], ◌∷◌, ◌++◌, length, take, get_or, refl, ap, ◌∙◌, sym, subst, arith, inl, inr}
use Rattle.std.specs.Prelude.{◌||◌}
use Rattle.std.proofs.lemmas.Bool.{lt-ltb, le-ltb, or_left, or_right, or_from, or_parts}
use Rattle.std.proofs.lemmas.List.{take_more, take_all}
use Rattle.clp_model.specs.declared.sort.Sort.{Sort}
use Rattle.clp_model.specs.declared.tree.Variable.{Variable}
use Rattle.clp_model.specs.declared.tree.Tree.{Tree}
use Rattle.clp_model.specs.Trees.{size, depth}
use Rattle.clp_model.proofs.Trees.{size_mapped, depth_mapped}
use Rattle.unify_model.specs.Equations.{Equation}
use Rattle.clause_model.specs.Solved.{typed_variable, typed, typed_equations}
use Rattle.clause_model.specs.Load.{is_large, any_side_large}
use Rattle.term_store.specs.Trees.{tree_at, Keeps, HasTree, IsOver}
use Rattle.term_store.proofs.Keeping.{keeps_at, keeps_within, keeps_trans, has_tree_kept}
use Rattle.unify.specs.Pairs.{PairsIn, equations_at}
use Rattle.clause_loader.specs.Carried.{HaveEquations}

pub over_large : (t : Tree ℕ) → IsOver (size t) (depth t) → is_large t ≡ true
over_large t (inl h) = or_left _ _ (lt-ltb 4096 (size t) h)
over_large t (inr h) = or_right _ _ (lt-ltb 256 (depth t) h)

pub measured : (sorts : List Sort) (t : Tree ℕ) (u : Tree Variable) → u ≡ typed sorts t → size u ≤ 4096 → depth u ≤ 256 → is_large t ≡ false
measured sorts t u is few flat =
    or_from _ _
    (le-ltb 4096 (size t) (omega (arith, few, ap size is, size_mapped (typed_variable sorts) t)))
    (le-ltb 256 (depth t) (omega (arith, flat, ap depth is, depth_mapped (typed_variable sorts) t)))

small_push : (es : List (Tree ℕ × Tree ℕ)) (e : Tree ℕ × Tree ℕ) → any_side_large es ≡ false → is_large e.0 ≡ false → is_large e.1 ≡ false → any_side_large (es ++ e ∷ []) ≡ false
small_push [] e h a b = or_from _ _ (or_from _ _ a b) refl
small_push (x ∷ xs) e h a b = let p = or_parts _ _ h in or_from _ _ p.0 (small_push xs e p.1 a b)

pub small_more : (es : List (Tree ℕ × Tree ℕ)) (i : ℕ) (e : Tree ℕ × Tree ℕ) → i < length es → e ≡ get_or es i e → any_side_large (take i es) ≡ false → is_large e.0 ≡ false → is_large e.1 ≡ false
    → any_side_large (take (i + 1) es) ≡ false
small_more es i e within item h a b =
    ap any_side_large (take_more es i e within ∙ ap (λ (x : Tree ℕ × Tree ℕ). take i es ++ x ∷ []) (sym item)) ∙ small_push (take i es) e h a b

large_get : (es : List (Tree ℕ × Tree ℕ)) (i : ℕ) (d : Tree ℕ × Tree ℕ) → i < length es → (is_large (get_or es i d).0 || is_large (get_or es i d).1) ≡ true → any_side_large es ≡ true
large_get [] i d within h = absurd (omega arith)
large_get (x ∷ xs) zero d within h = or_left _ _ h
large_get (x ∷ xs) (suc i) d within h = or_right _ _ (large_get xs i d (omega arith) h)

pub large_left : (es : List (Tree ℕ × Tree ℕ)) (i : ℕ) (e : Tree ℕ × Tree ℕ) → i < length es → e ≡ get_or es i e → is_large e.0 ≡ true → any_side_large es ≡ true
large_left es i e within item h =
    let P : Tree ℕ × Tree ℕ → Type 0 = λ x. (is_large x.0 || is_large x.1) ≡ true in
    large_get es i e within (subst P item (or_left _ _ h))

pub large_right : (es : List (Tree ℕ × Tree ℕ)) (i : ℕ) (e : Tree ℕ × Tree ℕ) → i < length es → e ≡ get_or es i e → is_large e.1 ≡ true → any_side_large es ≡ true
large_right es i e within item h =
    let P : Tree ℕ × Tree ℕ → Type 0 = λ x. (is_large x.0 || is_large x.1) ≡ true in
    large_get es i e within (subst P item (or_right _ _ h))

-- ---- in a store that keeps its terms
pairs_kept : (old new : List (Tree Variable)) → Keeps old new → (ps : List (ℕ × ℕ)) → PairsIn old ps → PairsIn new ps
pairs_kept old new k [] h = tt
pairs_kept old new k (p ∷ ps) h = ((keeps_within old new k p.0 h.0.0, keeps_within old new k p.1 h.0.1), pairs_kept old new k ps h.1)

equations_kept : (old new : List (Tree Variable)) → Keeps old new → (ps : List (ℕ × ℕ)) → PairsIn old ps → equations_at new ps ≡ equations_at old ps
equations_kept old new k [] h = refl
equations_kept old new k (p ∷ ps) h =
    let a = keeps_at old new k p.0 h.0.0 in
    let b = keeps_at old new k p.1 h.0.1 in
    let rest = equations_kept old new k ps h.1 in
    cc

pairs_push : (store : List (Tree Variable)) (ps : List (ℕ × ℕ)) (p : ℕ × ℕ) → PairsIn store ps → p.0 < length store → p.1 < length store → PairsIn store (ps ++ p ∷ [])
pairs_push store [] p h a b = ((a, b), tt)
pairs_push store (q ∷ ps) p h a b = (h.0, pairs_push store ps p h.1 a b)

equations_push : (store : List (Tree Variable)) (ps : List (ℕ × ℕ)) (p : ℕ × ℕ) → equations_at store (ps ++ p ∷ []) ≡ equations_at store ps ++ (tree_at store p.0, tree_at store p.1) ∷ []
equations_push store [] p = refl
equations_push store (q ∷ ps) p = ap (λ (v : List Equation). (tree_at store q.0, tree_at store q.1) ∷ v) (equations_push store ps p)

typed_push : (sorts : List Sort) (es : List (Tree ℕ × Tree ℕ)) (e : Tree ℕ × Tree ℕ) → typed_equations sorts (es ++ e ∷ []) ≡ typed_equations sorts es ++ (typed sorts e.0, typed sorts e.1) ∷ []
typed_push sorts [] e = refl
typed_push sorts (x ∷ es) e = ap (λ (v : List Equation). (typed sorts x.0, typed sorts x.1) ∷ v) (typed_push sorts es e)

-- one more equation
pub sides_more : (sorts : List Sort) (old mid new : List (Tree Variable)) (es : List (Tree ℕ × Tree ℕ)) (i : ℕ) (e : Tree ℕ × Tree ℕ) (pairs more : List (ℕ × ℕ)) (left right : ℕ)
    → HaveEquations old pairs (typed_equations sorts (take i es)) → Keeps old mid → Keeps mid new → i < length es → e ≡ get_or es i e
    → HasTree mid left (typed sorts e.0) → HasTree new right (typed sorts e.1) → more ≡ pairs ++ (left, right) ∷ []
    → HaveEquations new more (typed_equations sorts (take (i + 1) es))
sides_more sorts old mid new es i e pairs more left right have k l within item a b is =
    let keeps = keeps_trans old mid new k l in
    let a' = has_tree_kept mid new left (typed sorts e.0) l a in
    let done = typed_equations sorts (take i es) in
    let both : (tree_at new left, tree_at new right) ≡ (typed sorts e.0, typed sorts e.1) = let p = a'.is in let q = b.is in cc in
    let all : typed_equations sorts (take (i + 1) es) ≡ done ++ (typed sorts e.0, typed sorts e.1) ∷ [] =
    ap (typed_equations sorts) (take_more es i e within ∙ ap (λ (x : Tree ℕ × Tree ℕ). take i es ++ x ∷ []) (sym item)) ∙ typed_push sorts (take i es) e in
    let P : List (ℕ × ℕ) → Type 0 = λ v. HaveEquations new v (typed_equations sorts (take (i + 1) es)) in
    subst P (sym is)
    (record {
      within = pairs_push new pairs (left, right) (pairs_kept old new keeps pairs have.within) a'.within b.within;
      are = equations_push new pairs (left, right)
          ∙ ap (λ (v : List Equation). v ++ (tree_at new left, tree_at new right) ∷ []) (equations_kept old new keeps pairs have.within ∙ have.are)
          ∙ ap (λ (x : Equation). done ++ x ∷ []) both ∙ sym all;
    })

pub sides_taken : (sorts : List Sort) (store : List (Tree Variable)) (es : List (Tree ℕ × Tree ℕ)) (i : ℕ) (pairs : List (ℕ × ℕ)) → length es ≤ i → HaveEquations store pairs (typed_equations sorts (take i es)) → HaveEquations store pairs (typed_equations sorts es)
sides_taken sorts store es i pairs end h =
    let P : List (Tree ℕ × Tree ℕ) → Type 0 = λ v. HaveEquations store pairs (typed_equations sorts v) in
    subst P (take_all i es end) h

pub small_taken : (es : List (Tree ℕ × Tree ℕ)) (i : ℕ) → length es ≤ i → any_side_large (take i es) ≡ false → any_side_large es ≡ false
small_taken es i end h =
    let P : List (Tree ℕ × Tree ℕ) → Type 0 = λ v. any_side_large v ≡ false in
    subst P (take_all i es end) h
