-- The equations of pairs of terms that are entered one after another.
use Rattle.std.proofs.Common.{◌≡◌, ℕ, zero, suc, ◌<◌, ◌+◌, List, [], ◌∷◌, ◌++◌, length, get_or, refl, sym, ap, ◌∙◌, subst, arith}
use Rattle.clp_model.specs.declared.tree.Variable.{Variable}
use Rattle.clp_model.specs.declared.tree.Tree.{Tree}
use Rattle.term_store.specs.Trees.{tree_at}
use Rattle.unify_closure.specs.Graph.{PairsWithin}
use Rattle.unify_closure.specs.Reading.{equations, HasOnePlace}
use Rattle.unify.specs.declared.graph.TermGraph.{TermGraph}
use Rattle.unify.specs.Graphs.{node_tree, IsTermGraph, Grows, Enters}
use Rattle.unify.specs.Pairs.{PairsIn, equations_at, AreEntered}
use Rattle.unify.proofs.Growing.{some_back, has_place_kept, grows_twice}

pub pair_in : (store : List (Tree Variable)) (pairs : List (ℕ × ℕ)) (i : ℕ) (x : ℕ × ℕ) → PairsIn store pairs → i < length pairs → x ≡ get_or pairs i x → (x.0 < length store) × (x.1 < length store)
pair_in store [] i x h lt e = absurd (omega (arith, lt))
pair_in store (p ∷ ps) zero x h lt e = let P : (ℕ × ℕ) → Type 0 = λ y. (y.0 < length store) × (y.1 < length store) in subst P (sym e) h.0
pair_in store (p ∷ ps) (suc i) x h lt e = pair_in store ps i x h.1 (omega (arith, lt)) e

equations_push : (trees : ℕ → Tree Variable) (es : List (ℕ × ℕ)) (p q : ℕ) → equations trees (es ++ (p, q) ∷ []) ≡ equations trees es ++ (trees p, trees q) ∷ []
equations_push trees [] p q = refl
equations_push trees (e ∷ es) p q = ap (λ more. (trees e.0, trees e.1) ∷ more) (equations_push trees es p q)

equations_at_push : (store : List (Tree Variable)) (pairs : List (ℕ × ℕ)) (x : ℕ × ℕ) → equations_at store (pairs ++ x ∷ []) ≡ equations_at store pairs ++ (tree_at store x.0, tree_at store x.1) ∷ []
equations_at_push store [] x = refl
equations_at_push store (p ∷ ps) x = ap (λ more. (tree_at store p.0, tree_at store p.1) ∷ more) (equations_at_push store ps x)

equations_kept : (store : List (Tree Variable)) (old new : TermGraph) → Grows old new → (es : List (ℕ × ℕ)) → PairsWithin (length old.nodes.items) es → equations (node_tree store new.terms.items) es ≡ equations (node_tree store old.terms.items) es
equations_kept store old new g [] h = refl
equations_kept store old new g (e ∷ es) h =
    let one : node_tree store new.terms.items e.0 ≡ node_tree store old.terms.items e.0 = ap (tree_at store) (g.same e.0 h.0.0) in
    let two : node_tree store new.terms.items e.1 ≡ node_tree store old.terms.items e.1 = ap (tree_at store) (g.same e.1 h.0.1) in
    let rest = equations_kept store old new g es h.1 in
    cc

within_push : (m n : ℕ) (es : List (ℕ × ℕ)) (p q : ℕ) → m < n + 1 → PairsWithin m es → p < n → q < n → PairsWithin n (es ++ (p, q) ∷ [])
within_push m n [] p q le h k l = ((k, l), tt)
within_push m n (e ∷ es) p q le h k l = ((let a = h.0.0 in omega (arith, a, le), let b = h.0.1 in omega (arith, b, le)), within_push m n es p q le h.1 k l)

module _ (store : List (Tree Variable)) (g0 g1 g2 : TermGraph) (pairs es : List (ℕ × ℕ)) (x : ℕ × ℕ) (p q : ℕ) (h : AreEntered store g0 pairs es) (a : Enters store g0 g1 (tree_at store x.0) p) (b : Enters store g1 g2 (tree_at store x.1) q) where
  first_place : (p < length g2.nodes.items) × (node_tree store g2.terms.items p ≡ tree_at store x.0)
  first_place = has_place_kept store g1 g2 p (tree_at store x.0) b.grows a.place

  grown : Grows g0 g2
  grown = grows_twice g0 g1 g2 a.grows b.grows

  pub entered_more : AreEntered store g2 (pairs ++ x ∷ []) (es ++ (p, q) ∷ [])
  entered_more = record {
    graph = b.is;
    within = within_push (length g0.nodes.items) (length g2.nodes.items) es p q (let c = grown.count in omega (arith, c)) h.within first_place.0 b.place.0;
    are = equations_push (node_tree store g2.terms.items) es p q
        ∙ ap (λ ts. ts ++ (node_tree store g2.terms.items p, node_tree store g2.terms.items q) ∷ []) (equations_kept store g0 g2 grown es h.within ∙ h.are)
        ∙ ap (λ t. equations_at store pairs ++ (t, node_tree store g2.terms.items q) ∷ []) first_place.1
        ∙ ap (λ t. equations_at store pairs ++ (tree_at store x.0, t) ∷ []) b.place.1
        ∙ sym (equations_at_push store pairs x);
  }

-- each variable has one place
pub has_one_place : (store : List (Tree Variable)) (g : TermGraph) → IsTermGraph store g → HasOnePlace g.nodes.items
has_one_place store g is p q n s lt lt' e e' = some_back (sym (is.every p n s lt e) ∙ is.every q n s lt' e')
