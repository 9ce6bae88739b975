-- A graph of terms with one more node.
use Rattle.std.proofs.Common.{◌≡◌, ◌≢◌, ℕ, ◌+◌, ◌<◌, ◌≤◌, List, [], ◌∷◌, ◌++◌, length, nat_eq, refl, sym, ap, ◌∙◌, subst, arith, Bool, true, false, Option, Some, None, ◌⊎◌, inl, inr}
use Rattle.std.specs.Prelude.{cond, Result, Ok, Err, IfOk}
use Rattle.std.proofs.lemmas.Bool.{eqb-true, eqb-false}
use Rattle.std.proofs.lemmas.List.{length-append}
use Rattle.std.proofs.Math.ListN.{get_or-append}
use Rattle.std.proofs.Math.Seq.{get_or-append_seam}
use Rattle.indexmap.specs.IndexMap.{get}
use Rattle.clp_model.specs.declared.sort.Sort.{Sort}
use Rattle.clp_model.specs.declared.sort.Sort.TheVariants.{Any, Num}
use Rattle.clp_model.specs.declared.tree.Variable.{Variable}
use Rattle.clp_model.specs.declared.tree.Tree.{Tree, App}
use Rattle.clp_model.specs.Trees.{size, total_size}
use Rattle.clp_model.proofs.Trees.{size_app, size_positive}
use Rattle.term_store.specs.Trees.{tree_at, variable, IsSmall}
use Rattle.unify_closure.specs.declared.node.Node.{Node}
use Rattle.unify_closure.specs.declared.node.Node.TheVariants as node
use Rattle.unify_closure.specs.Graph.{node_at, all_of, tree_of}
use Rattle.unify_closure.specs.Turns.{AllBelow, HasArguments}
use Rattle.unify.specs.declared.graph.TermGraph.{TermGraph}
use Rattle.unify.specs.Places.{place_of}
use Rattle.unify.specs.Graphs.{term_at, node_tree, AreNodesOf, HasPlace, HavePlaces, IsTermGraph, Grows, Enters}

-- ---- the lists of nodes and terms
module _ (store : List (Tree Variable)) (ns : List Node) (ts : List ℕ) (t : ℕ) (x : Node) (h : AreNodesOf store ts ns) where
  abbrev nodes_after : List Node
  nodes_after = ns ++ x ∷ []

  abbrev terms_after : List ℕ
  terms_after = ts ++ t ∷ []

  pub count_after : length nodes_after ≡ length ns + 1
  count_after = length-append ns (x ∷ [])

  pub node_before : (p : ℕ) → p < length ns → node_at nodes_after p ≡ node_at ns p
  node_before p lt = get_or-append ns (x ∷ []) (node.Var 0 Any) p lt

  pub node_last : node_at nodes_after (length ns) ≡ x
  node_last = get_or-append_seam ns x [] (node.Var 0 Any)

  pub term_before : (p : ℕ) → p < length ns → term_at terms_after p ≡ term_at ts p
  term_before p lt = get_or-append ts (t ∷ []) 0 p (subst (λ m. p < m) (sym h.count) lt)

  term_last : term_at terms_after (length ns) ≡ t
  term_last = ap (term_at terms_after) (sym h.count) ∙ get_or-append_seam ts t [] 0

  pub one_of : (p : ℕ) → p < length nodes_after → (p < length ns) ⊎ (p ≡ length ns)
  one_of p lt = go (nat_eq p (length ns)) refl
    where
      go : (b : Bool) → nat_eq p (length ns) ≡ b → (p < length ns) ⊎ (p ≡ length ns)
      go true e = inr (eqb-true p (length ns) e)
      go false e = let d = eqb-false p (length ns) e in let c = count_after in inl (omega (arith, lt, d, c))

  tree_before : (p : ℕ) → p < length ns → node_tree store terms_after p ≡ node_tree store ts p
  tree_before p lt = ap (tree_at store) (term_before p lt)

  pub tree_last : node_tree store terms_after (length ns) ≡ tree_at store t
  tree_last = ap (tree_at store) term_last

  all_before : (ps : List ℕ) → AllBelow (length ns) ps → all_of (node_tree store terms_after) ps ≡ all_of (node_tree store ts) ps
  all_before [] k = refl
  all_before (p ∷ ps) k = let one = tree_before p k.0 in let rest = all_before ps k.1 in cc

  shown_before : (y : Node) → HasArguments (length ns) y → tree_of (node_tree store terms_after) y ≡ tree_of (node_tree store ts) y
  shown_before (node.Var n s) k = refl
  shown_before (node.App name args) k = ap (App name) (all_before args k.0)

  below_after : (ps : List ℕ) → AllBelow (length ns) ps → AllBelow (length nodes_after) ps
  below_after [] k = tt
  below_after (p ∷ ps) k = (let lt = k.0 in let c = count_after in omega (arith, lt, c), below_after ps k.1)

  arguments_after : (y : Node) → HasArguments (length ns) y → HasArguments (length nodes_after) y
  arguments_after (node.Var n s) k = tt
  arguments_after (node.App name args) k = (below_after args k.0, k.1)

  pub nodes_more : t < length store → HasArguments (length ns) x → tree_at store t ≡ tree_of (node_tree store ts) x → AreNodesOf store terms_after nodes_after
  nodes_more lt args e = record {
    count = length-append ts (t ∷ []) ∙ ap (λ m. m + 1) h.count ∙ sym count_after;
    within = λ p k. elim (one_of p k) [
      | inl b ↦ subst (λ m. m < length store) (sym (term_before p b)) (h.within p b)
      | inr q ↦ subst (λ m. m < length store) (sym (ap (term_at terms_after) q ∙ term_last)) lt
    ];
    trees = λ p k. elim (one_of p k) [
      | inl b ↦ tree_before p b ∙ h.trees p b ∙ sym (shown_before (node_at ns p) (h.graph p b)) ∙ ap (tree_of (node_tree store terms_after)) (sym (node_before p b))
      | inr q ↦ ap (node_tree store terms_after) q ∙ tree_last ∙ e ∙ sym (shown_before x args) ∙ ap (tree_of (node_tree store terms_after)) (sym (ap (node_at nodes_after) q ∙ node_last))
    ];
    graph = λ p k. elim (one_of p k) [
      | inl b ↦ subst (HasArguments (length nodes_after)) (sym (node_before p b)) (arguments_after (node_at ns p) (h.graph p b))
      | inr q ↦ subst (HasArguments (length nodes_after)) (sym (ap (node_at nodes_after) q ∙ node_last)) (arguments_after x args)
    ];
  }

-- ---- one variable or another
pub same_or_other : (m n : ℕ) (r s : Sort) → ((m ≡ n) × (r ≡ s)) ⊎ ((m ≢ n) ⊎ (r ≢ s))
same_or_other m n r s = go (nat_eq m n) refl r s
  where
    apart : Any ≡ Num → ⊥
    apart q = absurd (cc)

    go : (b : Bool) → nat_eq m n ≡ b → (r s : Sort) → ((m ≡ n) × (r ≡ s)) ⊎ ((m ≢ n) ⊎ (r ≢ s))
    go false e r s = inr (inl (eqb-false m n e))
    go true e Any Any = inl (eqb-true m n e, refl)
    go true e Num Num = inl (eqb-true m n e, refl)
    go true e Any Num = inr (inr apart)
    go true e Num Any = inr (inr (λ q. apart (sym q)))

variable_back : {m n : ℕ} {r s : Sort} → node.Var m r ≡ node.Var n s → (m ≡ n) × (r ≡ s)
variable_back {m} {n} {r} {s} e =
    let number : Node → ℕ = elim [ node.Var k q ↦ k | node.App name args ↦ m ] in
    let sort : Node → Sort = elim [ node.Var k q ↦ q | node.App name args ↦ r ] in
    (ap number e, ap sort e)

no_variable : {n : ℕ} {s : Sort} {name args : List ℕ} → node.App name args ≡ node.Var n s → ⊥
no_variable e = absurd (cc)

pub some_back : {a b : ℕ} → Some a ≡ Some b → a ≡ b
some_back {a} {b} e = let back : Option ℕ → ℕ = elim [ Some x ↦ x | None ↦ a ] in ap back e

not_none : {a : ℕ} → None ≡ Some a → ⊥
not_none e = absurd (cc)

-- ---- a graph that stays
pub grows_itself : (g : TermGraph) → Grows g g
grows_itself g = record { count = omega arith; same = λ p lt. refl }

pub grows_twice : (a b c : TermGraph) → Grows a b → Grows b c → Grows a c
grows_twice a b c h k = record {
  count = (let one = h.count in let two = k.count in omega (arith, one, two));
  same = λ p lt. k.same p (let one = h.count in omega (arith, one, lt)) ∙ h.same p lt;
}

pub has_place_kept : (store : List (Tree Variable)) (old new : TermGraph) (p : ℕ) (tree : Tree Variable) → Grows old new → HasPlace store old p tree → HasPlace store new p tree
has_place_kept store old new p tree g h = ((let lt = h.0 in let c = g.count in omega (arith, lt, c)), ap (tree_at store) (g.same p h.0) ∙ h.1)

pub variable_found : (store : List (Tree Variable)) (g : TermGraph) (tree : Tree Variable) (n p : ℕ) (s : Sort) → IsTermGraph store g → place_of g.variables n s ≡ Some p → tree ≡ variable n s → Enters store g g tree p
variable_found store g tree n p s is e q =
    let f = is.noted n p s e in
    record { is = is; grows = grows_itself g; place = (f.0, is.nodes.trees p f.0 ∙ ap (tree_of (node_tree store g.terms.items)) f.1 ∙ sym q) }

-- ---- a graph with one more node
module _ (store : List (Tree Variable)) (old new : TermGraph) (t : ℕ) (x : Node) (is : IsTermGraph store old)
    (nodes : new.nodes.items ≡ old.nodes.items ++ x ∷ []) (terms : new.terms.items ≡ old.terms.items ++ t ∷ [])
    (within : t < length store) (arguments : HasArguments (length old.nodes.items) x) (tree : tree_at store t ≡ tree_of (node_tree store old.terms.items) x) where
  abbrev len : ℕ
  len = length old.nodes.items

  count : length new.nodes.items ≡ len + 1
  count = ap length nodes ∙ count_after store old.nodes.items old.terms.items t x is.nodes

  nodes_of : AreNodesOf store new.terms.items new.nodes.items
  nodes_of = subst (λ ts. AreNodesOf store ts new.nodes.items) (sym terms) (subst (AreNodesOf store (old.terms.items ++ t ∷ [])) (sym nodes) (nodes_more store old.nodes.items old.terms.items t x is.nodes within arguments tree))

  grows_one : Grows old new
  grows_one = record {
    count = (let c = count in omega (arith, c));
    same = λ p lt. ap (λ ts. term_at ts p) terms ∙ term_before store old.nodes.items old.terms.items t x is.nodes p lt;
  }

  at_before : (p : ℕ) → p < len → node_at new.nodes.items p ≡ node_at old.nodes.items p
  at_before p lt = ap (λ g. node_at g p) nodes ∙ node_before store old.nodes.items old.terms.items t x is.nodes p lt

  at_last : node_at new.nodes.items len ≡ x
  at_last = ap (λ g. node_at g len) nodes ∙ node_last store old.nodes.items old.terms.items t x is.nodes

  one : (p : ℕ) → p < length new.nodes.items → (p < len) ⊎ (p ≡ len)
  one p lt = one_of store old.nodes.items old.terms.items t x is.nodes p (subst (λ g. p < length g) nodes lt)

  last_place : (p : ℕ) → p ≡ len → HasPlace store new p (tree_at store t)
  last_place p e = (
    (let c = count in omega (arith, c, e)),
    ap (node_tree store new.terms.items) e ∙ ap (λ ts. node_tree store ts len) terms ∙ tree_last store old.nodes.items old.terms.items t x is.nodes,
  )

  kept : (u p : ℕ) → HasPlace store old p (tree_at store u) → HasPlace store new p (tree_at store u)
  kept u p h = has_place_kept store old new p (tree_at store u) grows_one h

  pub variable_put : (n p : ℕ) (s : Sort) → x ≡ node.Var n s → p ≡ len → new.applications ≡ old.applications
      → place_of old.variables n s ≡ None → place_of new.variables n s ≡ Some p → ((m : ℕ) (r : Sort) → (m ≢ n) ⊎ (r ≢ s) → place_of new.variables m r ≡ place_of old.variables m r)
      → Enters store old new (tree_at store t) p
  variable_put n p s shape last apps absent noted others = record {
    is = record {
      nodes = nodes_of;
      applications = λ u q e. kept u q (is.applications u q (ap (λ m. get nat_eq m u) (sym apps) ∙ e));
      noted = λ m q r e. noted_at m q r e (same_or_other m n r s);
      every = λ q m r lt e. every_at q m r lt e (one q lt);
    };
    grows = grows_one;
    place = last_place p last;
  }
    where
      noted_at : (m q : ℕ) (r : Sort) → place_of new.variables m r ≡ Some q → ((m ≡ n) × (r ≡ s)) ⊎ ((m ≢ n) ⊎ (r ≢ s)) → (q < length new.nodes.items) × (node_at new.nodes.items q ≡ node.Var m r)
      noted_at m q r e (inl h) =
          let k : q ≡ p = some_back (sym e ∙ ap (λ z. place_of new.variables z r) h.0 ∙ ap (place_of new.variables n) h.1 ∙ noted) in
          let c = count in
          (omega (arith, c, k, last), ap (node_at new.nodes.items) (k ∙ last) ∙ at_last ∙ shape ∙ ap (λ z. node.Var z s) (sym h.0) ∙ ap (node.Var m) (sym h.1))
      noted_at m q r e (inr h) =
          let f = is.noted m q r (sym (others m r h) ∙ e) in
          let c = count in
          ((let lt = f.0 in omega (arith, c, lt)), at_before q f.0 ∙ f.1)

      every_at : (q m : ℕ) (r : Sort) → q < length new.nodes.items → node_at new.nodes.items q ≡ node.Var m r → (q < len) ⊎ (q ≡ len) → place_of new.variables m r ≡ Some q
      every_at q m r lt e (inr h) =
          let b = variable_back (sym shape ∙ sym at_last ∙ ap (node_at new.nodes.items) (sym h) ∙ e) in
          ap (λ z. place_of new.variables z r) (sym b.0) ∙ ap (place_of new.variables n) (sym b.1) ∙ noted ∙ ap Some (last ∙ sym h)
      every_at q m r lt e (inl h) =
          let f = is.every q m r h (sym (at_before q h) ∙ e) in
          elim (same_or_other m n r s) [
            | inl k ↦ absurd (not_none (sym absent ∙ ap (λ z. place_of old.variables z s) (sym k.0) ∙ ap (place_of old.variables m) (sym k.1) ∙ f))
            | inr k ↦ others m r k ∙ f
          ]

  pub application_put : (p : ℕ) (name args : List ℕ) → x ≡ node.App name args → p ≡ len → new.variables ≡ old.variables
      → ((u : ℕ) → get nat_eq new.applications u ≡ cond (nat_eq t u) (Some p) (get nat_eq old.applications u))
      → Enters store old new (tree_at store t) p
  application_put p name args shape last vars updates = record {
    is = record {
      nodes = nodes_of;
      applications = λ u q e. applied u q (nat_eq t u) refl e;
      noted = λ m q r e.
          let f = is.noted m q r (ap (λ v. place_of v m r) (sym vars) ∙ e) in
          let c = count in
          ((let lt = f.0 in omega (arith, c, lt)), at_before q f.0 ∙ f.1);
      every = λ q m r lt e. every_at q m r e (one q lt);
    };
    grows = grows_one;
    place = last_place p last;
  }
    where
      applied : (u q : ℕ) (b : Bool) → nat_eq t u ≡ b → get nat_eq new.applications u ≡ Some q → HasPlace store new q (tree_at store u)
      applied u q true b e =
          let k : p ≡ q = some_back (sym (updates u ∙ ap (λ z. cond z (Some p) (get nat_eq old.applications u)) b) ∙ e) in
          subst (λ z. HasPlace store new q (tree_at store z)) (eqb-true t u b) (last_place q (sym k ∙ last))
      applied u q false b e = kept u q (is.applications u q (sym (updates u ∙ ap (λ z. cond z (Some p) (get nat_eq old.applications u)) b) ∙ e))

      every_at : (q m : ℕ) (r : Sort) → node_at new.nodes.items q ≡ node.Var m r → (q < len) ⊎ (q ≡ len) → place_of new.variables m r ≡ Some q
      every_at q m r e (inr h) = absurd (no_variable (sym shape ∙ sym at_last ∙ ap (node_at new.nodes.items) (sym h) ∙ e))
      every_at q m r e (inl h) = ap (λ v. place_of v m r) vars ∙ is.every q m r h (sym (at_before q h) ∙ e)

-- ---- the places of several terms
pub places_push : (store : List (Tree Variable)) (old new : TermGraph) (ps : List ℕ) (trees : List (Tree Variable)) (p : ℕ) (tree : Tree Variable) → HavePlaces store old ps trees → Grows old new → HasPlace store new p tree → HavePlaces store new (ps ++ p ∷ []) (trees ++ tree ∷ [])
places_push store old new ps trees p tree have g h = record {
  within = below_push ps have.within;
  are = all_push ps have.within ∙ ap (λ ts. ts ++ node_tree store new.terms.items p ∷ []) have.are ∙ ap (λ z. trees ++ z ∷ []) h.1;
}
  where
    below_push : (ps : List ℕ) → AllBelow (length old.nodes.items) ps → AllBelow (length new.nodes.items) (ps ++ p ∷ [])
    below_push [] k = (h.0, tt)
    below_push (q ∷ ps) k = (let lt = k.0 in let c = g.count in omega (arith, lt, c), below_push ps k.1)

    all_push : (ps : List ℕ) → AllBelow (length old.nodes.items) ps → all_of (node_tree store new.terms.items) (ps ++ p ∷ []) ≡ all_of (node_tree store old.terms.items) ps ++ node_tree store new.terms.items p ∷ []
    all_push [] k = refl
    all_push (q ∷ ps) k = ap (λ z. z ∷ all_of (node_tree store new.terms.items) (ps ++ p ∷ [])) (ap (tree_at store) (g.same q k.0)) ∙ ap (λ zs. node_tree store old.terms.items q ∷ zs) (all_push ps k.1)

-- an application within the limits has few arguments
length_trees : (trees : ℕ → Tree Variable) (ps : List ℕ) → length (all_of trees ps) ≡ length ps
length_trees trees [] = refl
length_trees trees (p ∷ ps) = let h = length_trees trees ps in omega (arith, h)

few : (ts : List (Tree Variable)) → length ts ≤ total_size ts
few [] = omega arith
few (t ∷ ts) = let h = few ts in let p = size_positive t in omega (arith, h, p)

pub few_arguments : (trees : ℕ → Tree Variable) (ps : List ℕ) (tree : Tree Variable) (name : List ℕ) (ts : List (Tree Variable)) → tree ≡ App name ts → IsSmall tree → all_of trees ps ≡ ts → length ps ≤ 4096
few_arguments trees ps tree name ts e small are =
    let s = size_app name ts in
    let q : size tree ≡ size (App name ts) = ap size e in
    let l = length_trees trees ps in
    let m : length (all_of trees ps) ≡ length ts = ap length are in
    let f = few ts in
    let k = small.size in
    omega (arith, s, q, l, m, f, k)

pub enters_after : (store : List (Tree Variable)) (old mid new : TermGraph) (tree : Tree Variable) (p : ℕ) → Grows old mid → Enters store mid new tree p → Enters store old new tree p
enters_after store old mid new tree p g h = record { is = h.is; grows = grows_twice old mid new g h.grows; place = h.place }

pub if_ok_so : {E : Type 0} (r : Result ℕ E) (P Q : ℕ → Type 0) → ((p : ℕ) → P p → Q p) → IfOk r P → IfOk r Q
if_ok_so (Ok p) P Q h k = h p k
if_ok_so (Err e) P Q h k = tt
