-- The bindings that are read off in the order of the places.
use Rattle.std.proofs.Common.{◌≡◌, ℕ, zero, suc, ◌<◌, ◌+◌, List, [], ◌∷◌, ◌++◌, length, take, get_or, nat_eq, refl, sym, ap, ◌∙◌, subst, arith, Bool, true, false}
use Rattle.std.specs.Prelude.{if◌then◌else◌}
use Rattle.std.proofs.lemmas.Bool.{eqb-true}
use Rattle.std.proofs.lemmas.List.{take_more, get_or_default}
use Rattle.clp_model.specs.declared.sort.Sort.{Sort}
use Rattle.clp_model.specs.declared.sort.Sort.TheVariants.{Any}
use Rattle.clp_model.specs.declared.tree.Variable.{Variable}
use Rattle.clp_model.specs.declared.tree.Tree.{Tree}
use Rattle.unify_model.specs.Substituting.{Binding}
use Rattle.unify_closure.specs.declared.node.Node.{Node}
use Rattle.unify_closure.specs.declared.node.Node.TheVariants as node
use Rattle.unify_closure.specs.Graph.{node_at, variable_of}
use Rattle.unify_closure.specs.Turns.{AllBelow}
use Rattle.unify_closure.specs.Reading.{with_binding, bindings}
use Rattle.unify_closure.specs.declared.solving.Solved.{Solved}
use Rattle.unify_closure.specs.Solved.{HasPlaces}
use Rattle.unify_closure.specs.Sorting.{latest, rep_of}
use Rattle.unify_closure.proofs.Stacks.{latest_both}
use Rattle.substitution.specs.declared.bindings.Bound.{Bound}
use Rattle.unify.specs.Graphs.{term_at}
use Rattle.substitution.specs.Bindings.{binding, bound_onto, AreBound}

pub bound_push : (store : List (Tree Variable)) (acc : List Binding) (items : List Bound) (b : Bound) → bound_onto store acc (items ++ b ∷ []) ≡ binding store b ∷ bound_onto store acc items
bound_push store acc [] b = refl
bound_push store acc (x ∷ xs) b = bound_push store (binding store x ∷ acc) xs b

pub are_bound_push : (store : List (Tree Variable)) (items : List Bound) (b : Bound) → AreBound store items → b.term < length store → AreBound store (items ++ b ∷ [])
are_bound_push store [] b h lt = (lt, tt)
are_bound_push store (x ∷ xs) b h lt = (h.0, are_bound_push store xs b h.1 lt)

-- the node of a place
pub node_is : (nodes : List Node) (p : ℕ) (x : Node) → p < length nodes → x ≡ get_or nodes p x → node_at nodes p ≡ x
node_is nodes p x lt e = sym (e ∙ get_or_default nodes p x (node.Var 0 Any) lt)

-- the term of a place
pub term_is : (terms : List ℕ) (p t n : ℕ) → length terms ≡ n → p < n → t ≡ get_or terms p t → t ≡ term_at terms p
term_is terms p t n c lt e = e ∙ get_or_default terms p t 0 (omega (arith, c, lt))

-- a variable for which another place stands
pub with_variable : (trees : ℕ → Tree Variable) (p r n : ℕ) (s : Sort) (x : Node) (bs : List Binding) → x ≡ node.Var n s → (r ≡ p → ⊥) → with_binding trees p x r bs ≡ (variable_of n s, trees r) ∷ bs
with_variable trees p r n s x bs e d = ap (λ y. with_binding trees p y r bs) e ∙ go (nat_eq r p) refl
  where
    go : (b : Bool) → nat_eq r p ≡ b → (if b then bs else (variable_of n s, trees r) ∷ bs) ≡ (variable_of n s, trees r) ∷ bs
    go true q = absurd (d (eqb-true r p q))
    go false q = refl

-- the places up to the next, the latest first
pub latest_more : (order : List ℕ) (i p : ℕ) → i < length order → p ≡ get_or order i p → latest (take (i + 1) order) ≡ p ∷ latest (take i order)
latest_more order i p lt e =
    ap latest (take_more order i p lt) ∙ latest_both [] (take i order) (get_or order i p ∷ []) ∙ ap (λ (z : ℕ). z ∷ latest (take i order)) (sym e)

pub read_more : (g : List Node) (trees : ℕ → Tree Variable) (stands order : List ℕ) (i p r : ℕ) (bs : List Binding) → i < length order → p ≡ get_or order i p → r ≡ rep_of stands p → bs ≡ bindings g trees (rep_of stands) (latest (take i order))
    → with_binding trees p (node_at g p) r bs ≡ bindings g trees (rep_of stands) (latest (take (i + 1) order))
read_more g trees stands order i p r bs lt e f h =
    ap (with_binding trees p (node_at g p) r) h ∙ ap (λ (z : ℕ). with_binding trees p (node_at g p) z (bindings g trees (rep_of stands) (latest (take i order)))) f
    ∙ sym (ap (bindings g trees (rep_of stands)) (latest_more order i p lt e))

-- an item of a slice that is the order
pub item_is : (order items : List ℕ) (i : ℕ) → items ≡ order → i < length order → get_or items i 0 ≡ get_or order i (get_or items i 0)
item_is order items i e lt = ap (λ (os : List ℕ). get_or os i 0) e ∙ get_or_default order i 0 (get_or items i 0) lt

pub below_at : (n : ℕ) (order : List ℕ) (i : ℕ) → AllBelow n order → i < length order → get_or order i 0 < n
below_at n [] i h lt = absurd (omega (arith, lt))
below_at n (x ∷ xs) zero h lt = h.0
below_at n (x ∷ xs) (suc i) h lt = below_at n xs i h.1 (omega (arith, lt))

-- what stands for the next place
pub stands_in : (s : Solved) (nodes : List Node) (items : List ℕ) (i r : ℕ) → HasPlaces (length nodes) s → items ≡ s.order.items → i < length items → r ≡ get_or s.stands.items (get_or items i 0) r
    → (r ≡ rep_of s.stands.items (get_or items i 0)) × (r < length nodes)
stands_in s nodes items i r h e lt f =
    let p : ℕ = get_or items i 0 in
    let within : p < length nodes = subst (λ (os : List ℕ). get_or os i 0 < length nodes) (sym e) (below_at (length nodes) s.order.items i h.order (subst (λ (os : List ℕ). i < length os) e lt)) in
    let is : r ≡ rep_of s.stands.items p = f ∙ get_or_default s.stands.items p r 0 (subst (λ (m : ℕ). p < m) (sym h.count) within) in
    (is, subst (λ (m : ℕ). m < length nodes) (sym is) (h.stands p within))
