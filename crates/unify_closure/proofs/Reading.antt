-- The bindings read off closed classes are the most general unifier.
use Rattle.std.proofs.Common.{◌≡◌, ◌↔◌, ℕ, ◌<◌, List, [], ◌∷◌, length, map, refl, sym, ap, ◌∙◌, subst, Bool, true, false, Some, inl, inr}
use Rattle.std.specs.Prelude.{nat_eq, if◌then◌else◌}
use Rattle.std.proofs.lemmas.Bool.{eqb-true, eqb-false}
use Rattle.clp_model.specs.declared.sort.Sort.{Sort}
use Rattle.clp_model.specs.declared.tree.Variable.{Variable}
use Rattle.clp_model.specs.declared.tree.Tree.{Tree, Var}
use Rattle.clp_model.specs.Trees.{variables, variables_in}
use Rattle.clp_model.specs.Values.{Value, Named}
use Rattle.clp_model.proofs.Trees.{variables_app}
use Rattle.clp_model.proofs.Membership.{Among, first, next, among_either}
use Rattle.unify_model.specs.Substituting.{Binding, image}
use Rattle.unify_model.specs.Equations.{value_by, under, AllHold}
use Rattle.unify_model.specs.Unifying.{most_general_unifier}
use Rattle.unify_model.specs.Solving.{IsMostGeneralUnifier}
use Rattle.unify_laws.proofs.Solved.{among_cases}
use Rattle.unify_laws.proofs.Apart.{AllBound}
use Rattle.unify_laws.proofs.Good.{IsDirected}
use Rattle.unify_laws.proofs.Triangular.{Without, AreTriangular, triangular_weaker}
use Rattle.unify_laws.proofs.Laws.{triangular_solution, found_is_mgu}
use Rattle.unify_laws.proofs.Applications.{value_app, list_by}
use Rattle.unify_closure.specs.declared.node.Node.{Node}
use Rattle.unify_closure.specs.declared.node.Node.TheVariants as node
use Rattle.unify_closure.specs.Graph.{node_at, variable_of, tree_of, all_of, Describes, PairsHold, value_at}
use Rattle.unify_closure.specs.Closing.{Stands, IsClosing}
use Rattle.unify_closure.specs.Reading.{AllAmong, HasAmong, Follows, IsOrder, with_binding, bindings, equations, HasOnePlace}

variable_is : (v w : Variable) → Among w (variables (Var v)) → w ≡ v
unfolding variables
variable_is v w first = refl
variable_is v w (next m) = elim m [ ]

module _ (g : List Node) (trees : ℕ → Tree Variable) (describes : Describes g trees) (one : HasOnePlace g) (c b : ℕ → ℕ) (input : List (ℕ × ℕ)) (is : IsClosing g c b [] input) where
  abbrev rep : ℕ → ℕ
  rep p = b (c p)

  -- the variable of a place in the list
  abbrev OfPlaces : List ℕ → Variable → Type 0
  OfPlaces ps v = (q : ℕ) × Among q ps × (q < length g) × (node_at g q ≡ node.Var v.number v.sort)

  later : (p : ℕ) (ps : List ℕ) (v : Variable) → OfPlaces ps v → OfPlaces (p ∷ ps) v
  later p ps v o = (o.0, next o.1, o.2, o.3)

  stands_at : (p : ℕ) → p < length g → Stands c (node_at g p) (node_at g (rep p))
  stands_at p lt = is.closed c (record { same = λ q h. sym (is.within q h).1; pairs = tt }) p lt

  -- ---- the variables of a tree
  of_list : (ps : List ℕ) → ((p : ℕ) → Among p ps → (w : Variable) → Among w (variables (trees p)) → OfPlaces ps w) → (xs : List ℕ) → AllAmong ps xs → (w : Variable) → Among w (variables_in (all_of trees xs)) → OfPlaces ps w
  of_list ps h [] a w m = elim m [ ]
  of_list ps h (x ∷ xs) a w m =
      elim (among_either w (variables (trees x)) (variables_in (all_of trees xs)) m) [ inl k ↦ h x a.0 w k | inr k ↦ of_list ps h xs a.1 w k ]

  of_node : (ps : List ℕ) (p : ℕ) → p < length g → ((q : ℕ) → Among q ps → (w : Variable) → Among w (variables (trees q)) → OfPlaces ps w) → (x : Node) → node_at g p ≡ x → HasAmong ps x → (w : Variable) → Among w (variables (tree_of trees x)) → OfPlaces (p ∷ ps) w
  of_node ps p lt h (node.Var n s) e a w m =
      let q = variable_is (variable_of n s) w m in
      (p, first, lt, e ∙ ap (λ (v : Variable). node.Var v.number v.sort) (sym q))
  of_node ps p lt h (node.App name xs) e a w m = later p ps w (of_list ps h xs a w (subst (Among w) (variables_app name (all_of trees xs)) m))

  of_tree : (ps : List ℕ) → IsOrder g rep ps → (p : ℕ) → Among p ps → (w : Variable) → Among w (variables (trees p)) → OfPlaces ps w
  of_tree [] o p m w k = elim m [ ]
  of_tree (q ∷ ps) o p m w k = go m (λ r n x l. of_tree ps o.1 r n x l)
    where
      go : Among p (q ∷ ps) → ((r : ℕ) → Among r ps → (x : Variable) → Among x (variables (trees r)) → OfPlaces ps x) → OfPlaces (q ∷ ps) w
      go n again =
          among_cases n
          (λ e. of_node ps q o.0.within again (node_at g q) refl o.0.arguments w (subst (λ t. Among w (variables t)) (ap trees e ∙ describes q o.0.within) k))
          (λ l. later q ps w (again p l w k))

  -- ---- the bindings are triangular
  directed_by : (p r : ℕ) → p < length g → r < length g → (r ≡ p → ⊥) → (n : ℕ) (s : Sort) → node_at g p ≡ node.Var n s → (y : Node) → node_at g r ≡ y → Stands c (node.Var n s) y → IsDirected (variable_of n s) (tree_of trees y)
  directed_by p r lt lt' d n s e (node.Var m q) e' (inl k) =
      absurd (d (one r p n s lt' lt (e' ∙ ap (λ (v : Variable). node.Var v.number v.sort) k) e))
  directed_by p r lt lt' d n s e (node.Var m q) e' (inr k) = k
  directed_by p r lt lt' d n s e (node.App name xs) e' k = k

  one_binding : (ps : List ℕ) (p : ℕ) → Follows g rep ps p → IsOrder g rep ps → (x : Node) → node_at g p ≡ x → (bs : List Binding) → AreTriangular (OfPlaces ps) bs → AreTriangular (OfPlaces (p ∷ ps)) (with_binding trees p x (rep p) bs)
  one_binding ps p f o (node.App name xs) e bs t = triangular_weaker (OfPlaces ps) (OfPlaces (p ∷ ps)) (later p ps) bs t
  one_binding ps p f o (node.Var n s) e bs t = go (nat_eq (rep p) p) refl
    where
      apart : (w : Variable) → OfPlaces ps w → variable_of n s ≡ w → ⊥
      apart w q k = f.new (subst (λ m. Among m ps) (one q.0 p n s q.2 f.within (q.3 ∙ ap (λ (v : Variable). node.Var v.number v.sort) (sym k)) e) q.1)

      among_rep : (rep p ≡ p → ⊥) → Among (rep p) ps
      among_rep d = elim f.stands [ inl q ↦ absurd (d q) | inr m ↦ m ]

      go : (same : Bool) → nat_eq (rep p) p ≡ same → AreTriangular (OfPlaces (p ∷ ps)) (if same then bs else (variable_of n s, trees (rep p)) ∷ bs)
      go true q = triangular_weaker (OfPlaces ps) (OfPlaces (p ∷ ps)) (later p ps) bs t
      go false q =
          let d : rep p ≡ p → ⊥ = eqb-false (rep p) p q in
          let r_in = (is.best_is p f.within).0 in (
            (p, first, f.within, e),
            (λ w m. let k = of_tree ps o (rep p) (among_rep d) w m in (later p ps w k, apart w k)),
            subst (IsDirected (variable_of n s)) (sym (describes (rep p) r_in)) (directed_by p (rep p) f.within r_in d n s e (node_at g (rep p)) refl (subst (λ x. Stands c x (node_at g (rep p))) e (stands_at p f.within))),
            triangular_weaker (OfPlaces ps) (Without (OfPlaces (p ∷ ps)) (variable_of n s)) (λ w k. (later p ps w k, apart w k)) bs t,
          )

  pub are_triangular : (ps : List ℕ) → IsOrder g rep ps → AreTriangular (OfPlaces ps) (bindings g trees rep ps)
  are_triangular [] o = tt
  are_triangular (p ∷ ps) o = one_binding ps p o.0 o.1 (node_at g p) refl (bindings g trees rep ps) (are_triangular ps o.1)

  -- ---- the bindings hold exactly where each place has the value of what stands for it
  module _ (a : Variable → Value) where
    abbrev v : ℕ → Value
    v p = value_at a trees p

    value_node : (p : ℕ) → p < length g → (x : Node) → node_at g p ≡ x → v p ≡ value_by a (tree_of trees x)
    value_node p lt x e = ap (value_by a) (describes p lt ∙ ap (tree_of trees) e)

    bound_one : (p : ℕ) → p < length g → v p ≡ v (rep p) → (x : Node) → node_at g p ≡ x → (bs : List Binding) → AllBound a bs → AllBound a (with_binding trees p x (rep p) bs)
    unfolding value_by
    bound_one p lt h (node.App name xs) e bs all = all
    bound_one p lt h (node.Var n s) e bs all = go (nat_eq (rep p) p)
      where
        go : (same : Bool) → AllBound a (if same then bs else (variable_of n s, trees (rep p)) ∷ bs)
        go true = all
        go false = (sym (value_node p lt (node.Var n s) e) ∙ h, all)

    pub to_bound : ((p : ℕ) → p < length g → v p ≡ v (rep p)) → (ps : List ℕ) → IsOrder g rep ps → AllBound a (bindings g trees rep ps)
    to_bound h [] o = tt
    to_bound h (p ∷ ps) o = bound_one p o.0.within (h p o.0.within) (node_at g p) refl (bindings g trees rep ps) (to_bound h ps o.1)

    rest_bound : (p r : ℕ) (x : Node) (bs : List Binding) → AllBound a (with_binding trees p x r bs) → AllBound a bs
    rest_bound p r (node.App name xs) bs all = all
    rest_bound p r (node.Var n s) bs all = go (nat_eq r p) all
      where
        go : (same : Bool) → AllBound a (if same then bs else (variable_of n s, trees r) ∷ bs) → AllBound a bs
        go true k = k
        go false k = k.1

    -- the arguments, where those of one class have one value
    same_values : (xs ys : List ℕ) → map c xs ≡ map c ys → ((x y : ℕ) → Among x xs → Among y ys → c x ≡ c y → v x ≡ v y) → list_by a (all_of trees xs) ≡ list_by a (all_of trees ys)
    same_values [] [] e h = refl
    same_values (x ∷ xs) (y ∷ ys) e h =
        let p = h x y first first (head_of e) in
        let q = same_values xs ys (tail_of e) (λ k l m n. h k l (next m) (next n)) in
        cc
      where
        head_of : c x ∷ map c xs ≡ c y ∷ map c ys → c x ≡ c y
        head_of e = let back : List ℕ → ℕ = elim [ [] ↦ 0 | k ∷ ks ↦ k ] in ap back e

        tail_of : c x ∷ map c xs ≡ c y ∷ map c ys → map c xs ≡ map c ys
        tail_of e = let back : List ℕ → List ℕ = elim [ [] ↦ [] | k ∷ ks ↦ ks ] in ap back e
    same_values [] (y ∷ ys) e h = absurd (cc)
    same_values (x ∷ xs) [] e h = absurd (cc)

    all_among : (ps xs : List ℕ) → AllAmong ps xs → (x : ℕ) → Among x xs → Among x ps
    all_among ps [] h x m = elim m [ ]
    all_among ps (y ∷ xs) h x m = go m (λ k. all_among ps xs h.1 x k)
      where
        go : Among x (y ∷ xs) → (Among x xs → Among x ps) → Among x ps
        go n again = among_cases n (λ e. subst (λ z. Among z ps) (sym e) h.0) again

    arguments_of_place : (ps : List ℕ) → IsOrder g rep ps → (p : ℕ) → Among p ps → HasAmong ps (node_at g p)
    arguments_of_place [] o p m = elim m [ ]
    arguments_of_place (q ∷ ps) o p m = go m (λ k. arguments_of_place ps o.1 p k)
      where
        more : (xs : List ℕ) → AllAmong ps xs → AllAmong (q ∷ ps) xs
        more [] h = tt
        more (x ∷ xs) h = (next h.0, more xs h.1)

        wider : (x : Node) → HasAmong ps x → HasAmong (q ∷ ps) x
        wider (node.Var n s) h = tt
        wider (node.App name xs) h = more xs h

        go : Among p (q ∷ ps) → (Among p ps → HasAmong ps (node_at g p)) → HasAmong (q ∷ ps) (node_at g p)
        go n again = among_cases n (λ e. subst (λ z. HasAmong (q ∷ ps) (node_at g z)) (sym e) (wider (node_at g q) o.0.arguments)) (λ k. wider (node_at g p) (again k))

    place_in_order : (ps : List ℕ) → IsOrder g rep ps → (p : ℕ) → Among p ps → p < length g
    place_in_order [] o p m = elim m [ ]
    place_in_order (q ∷ ps) o p m = go m (λ k. place_in_order ps o.1 p k)
      where
        go : Among p (q ∷ ps) → (Among p ps → p < length g) → p < length g
        go n again = among_cases n (λ e. subst (λ z. z < length g) (sym e) o.0.within) again

    -- a place and what stands for it
    pair_value : (ps : List ℕ) → IsOrder g rep ps → (p : ℕ) → Follows g rep ps p → ((q : ℕ) → Among q ps → v q ≡ v (rep q)) → Among (rep p) ps → (x : Node) → node_at g p ≡ x → (y : Node) → node_at g (rep p) ≡ y → HasAmong ps x → HasAmong ps y → Stands c x y → (bs : List Binding) → (rep p ≡ p → ⊥) → AllBound a (with_binding trees p x (rep p) bs) → v p ≡ v (rep p)
    unfolding value_by
    pair_value ps o p f h m (node.Var n s) e y e' hx hy st bs d all = go (nat_eq (rep p) p) refl all
      where
        go : (same : Bool) → nat_eq (rep p) p ≡ same → AllBound a (if same then bs else (variable_of n s, trees (rep p)) ∷ bs) → v p ≡ v (rep p)
        go true q k = absurd (d (eqb-true (rep p) p q))
        go false q k = value_node p f.within (node.Var n s) e ∙ k.0
    pair_value ps o p f h m (node.App name xs) e (node.Var n s) e' hx hy st bs d all = absurd st
    pair_value ps o p f h m (node.App name xs) e (node.App other ys) e' hx hy st bs d all =
        let same : (x y : ℕ) → Among x xs → Among y ys → c x ≡ c y → v x ≡ v y = λ x y k l q. h x (all_among ps xs hx x k) ∙ ap (λ z. v (b z)) q ∙ sym (h y (all_among ps ys hy y l)) in
        value_node p f.within (node.App name xs) e ∙ value_app a name (all_of trees xs)
        ∙ ap (λ n. Named n (list_by a (all_of trees xs))) st.0 ∙ ap (Named other) (same_values xs ys st.1 same)
        ∙ sym (value_app a other (all_of trees ys)) ∙ sym (value_node (rep p) (is.best_is p f.within).0 (node.App other ys) e')

    from_bound : (ps : List ℕ) → IsOrder g rep ps → AllBound a (bindings g trees rep ps) → (p : ℕ) → Among p ps → v p ≡ v (rep p)
    from_bound [] o all p m = elim m [ ]
    from_bound (q ∷ ps) o all p m = go m (λ r k. from_bound ps o.1 (rest_bound q (rep q) (node_at g q) (bindings g trees rep ps) all) r k)
      where
        here : ((r : ℕ) → Among r ps → v r ≡ v (rep r)) → (s : Bool) → nat_eq (rep q) q ≡ s → v q ≡ v (rep q)
        here again true e = ap v (sym (eqb-true (rep q) q e))
        here again false e =
            let d : rep q ≡ q → ⊥ = eqb-false (rep q) q e in
            let k : Among (rep q) ps = elim o.0.stands [ inl x ↦ absurd (d x) | inr x ↦ x ] in
            pair_value ps o.1 q o.0 again k (node_at g q) refl (node_at g (rep q)) refl o.0.arguments (arguments_of_place ps o.1 (rep q) k) (stands_at q o.0.within) (bindings g trees rep ps) d all

        go : Among p (q ∷ ps) → ((r : ℕ) → Among r ps → v r ≡ v (rep r)) → v p ≡ v (rep p)
        go n again = among_cases n (λ e. subst (λ z. v z ≡ v (rep z)) (sym e) (here again (nat_eq (rep q) q) refl)) (λ k. again p k)

    -- a place and its class
    class_value : ((p : ℕ) → p < length g → v p ≡ v (rep p)) → (p : ℕ) → p < length g → v p ≡ v (c p)
    class_value h p lt = let w = is.within p lt in h p lt ∙ ap (λ z. v (b z)) (sym w.1) ∙ sym (h (c p) w.0)

    rep_value : ((p : ℕ) → p < length g → v p ≡ v (c p)) → (p : ℕ) → p < length g → v p ≡ v (rep p)
    rep_value h p lt = let w = is.best_is p lt in h p lt ∙ ap v (sym w.1) ∙ sym (h (rep p) w.0)

  equations_hold : (a : Variable → Value) (es : List (ℕ × ℕ)) → PairsHold (value_at a trees) es ↔ AllHold a (equations trees es)
  equations_hold a [] = ((λ h. h), (λ h. h))
  equations_hold a (e ∷ es) = let k = equations_hold a es in ((λ h. (h.0, k.0 h.1)), (λ h. (h.0, k.1 h.1)))

  module _ (ps : List ℕ) (order : IsOrder g rep ps) (every : (p : ℕ) → p < length g → Among p ps) where
    pub is_solution : IsMostGeneralUnifier (equations trees input) (image (bindings g trees rep ps))
    is_solution = triangular_solution (OfPlaces ps) (equations trees input) (bindings g trees rep ps) (are_triangular ps order) (λ u. (
      (λ h. to_bound (under u) (rep_value (under u) ((is.means trees describes u).0 ((equations_hold (under u) input).1 h)).0) ps order),
      (λ all. (equations_hold (under u) input).0 ((is.means trees describes u).1 (class_value (under u) (λ p lt. from_bound (under u) ps order all p (every p lt)), tt))),
    ))

    -- what is read is the most general unifier
    pub is_mgu : (bs : List Binding) × (most_general_unifier (equations trees input) ≡ Some bs) × ((v : Variable) → image bs v ≡ image (bindings g trees rep ps) v)
    is_mgu = found_is_mgu (equations trees input) (image (bindings g trees rep ps)) is_solution

    pub in_order : AreTriangular (λ v. Unit {0}) (bindings g trees rep ps)
    in_order = triangular_weaker (OfPlaces ps) (λ v. Unit {0}) (λ v k. tt) (bindings g trees rep ps) (are_triangular ps order)
