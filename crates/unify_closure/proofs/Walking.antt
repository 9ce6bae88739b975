-- The walk through a graph: what each visit keeps.
use Rattle.std.proofs.Common.{◌≡◌, ℕ, ◌<◌, ◌≤◌, ◌+◌, List, [], ◌∷◌, length, refl, sym, ap, ◌∙◌, subst, arith, Bool, true, false, ◌⊎◌, inl, inr}
use Rattle.std.specs.Prelude.{nat_eq, if◌then◌else◌, slice_set}
use Rattle.std.proofs.lemmas.Bool.{eqb-true, eqb-false, eq-eqb}
use Rattle.std.proofs.lemmas.List.{get_or-set_same, get_or-set_other, length-set}
use Rattle.clp_model.specs.declared.tree.Variable.{Variable}
use Rattle.clp_model.specs.declared.tree.Tree.{Tree}
use Rattle.clp_model.specs.Values.{Value, Named}
use Rattle.clp_model.proofs.Membership.{Among, first, next}
use Rattle.unify_model.specs.Equations.{under, value_by}
use Rattle.unify_laws.proofs.Solved.{among_cases}
use Rattle.unify_laws.proofs.Sizes.{nodes, all_nodes}
use Rattle.unify_laws.proofs.Applications.{value_app, list_by}
use Rattle.unify_closure.specs.declared.node.Node.{Node}
use Rattle.unify_closure.specs.declared.node.Node.TheVariants as node
use Rattle.unify_closure.specs.Graph.{node_at, tree_of, all_of, value_at}
use Rattle.unify_closure.specs.Turns.{IsGraph, AllBelow, HasArguments}
use Rattle.unify_closure.specs.Reading.{AllAmong, HasAmong}
use Rattle.unify_closure.specs.Walks.{IsKid, IsBelow, key_of, weight, IsWalk}
use Rattle.unify_closure.specs.Sorting.{latest_onto, kids_by, kids, rep_of, is_marked, Visit, entering, AreStands, NeverSolves}
use Rattle.unify_closure.proofs.Roots.{is_or_not}
use Rattle.unify_closure.proofs.Stacks.{changed, entered, below_left}

pub place_of : {a b : Visit} → a ≡ b → a.0 ≡ b.0
place_of z = let one : Visit → ℕ = λ e. e.0 in ap one z

pub visit_of : {a b : Visit} → a ≡ b → a.1 ≡ b.1
visit_of z = let two : Visit → Bool = λ e. e.1 in ap two z

-- ---- the kids of a place
kid_cases : (p r : ℕ) (x : Node) (q : ℕ) → Among q (kids_by p r x) → ((q ≡ r) × (r ≡ p → ⊥)) ⊎ ((name : List ℕ) × (args : List ℕ) × (x ≡ node.App name args) × Among q args)
kid_cases p r (node.Var n s) q m = go (nat_eq r p) refl m
  where
    go : (b : Bool) → nat_eq r p ≡ b → Among q (if b then [] else r ∷ []) → ((q ≡ r) × (r ≡ p → ⊥)) ⊎ ((name : List ℕ) × (args : List ℕ) × (node.Var n s ≡ node.App name args) × Among q args)
    go true e k = elim k [ ]
    go false e k = inl (among_cases k (λ z. z) (λ z. elim z [ ]), eqb-false r p e)
kid_cases p r (node.App name args) q m = go (nat_eq r p) refl m
  where
    go : (b : Bool) → nat_eq r p ≡ b → Among q (if b then args else r ∷ args) → ((q ≡ r) × (r ≡ p → ⊥)) ⊎ ((other : List ℕ) × (xs : List ℕ) × (node.App name args ≡ node.App other xs) × Among q xs)
    go true e k = inr (name, args, refl, k)
    go false e k = among_cases k (λ z. inl (z, eqb-false r p e)) (λ z. inr (name, args, refl, z))

arg_is_kid : (p r : ℕ) (name args : List ℕ) (q : ℕ) → Among q args → Among q (kids_by p r (node.App name args))
arg_is_kid p r name args q m = go (nat_eq r p)
  where
    go : (b : Bool) → Among q (if b then args else r ∷ args)
    go true = m
    go false = next m

rep_is_kid : (p r : ℕ) (x : Node) → (r ≡ p → ⊥) → Among r (kids_by p r x)
rep_is_kid p r (node.Var n s) d = go (nat_eq r p) refl
  where
    go : (b : Bool) → nat_eq r p ≡ b → Among r (if b then [] else r ∷ [])
    go true e = absurd (d (eqb-true r p e))
    go false e = first
rep_is_kid p r (node.App name args) d = go (nat_eq r p) refl
  where
    go : (b : Bool) → nat_eq r p ≡ b → Among r (if b then args else r ∷ args)
    go true e = absurd (d (eqb-true r p e))
    go false e = first

below_among : (n : ℕ) (xs : List ℕ) → AllBelow n xs → (x : ℕ) → Among x xs → x < n
below_among n [] h x m = elim m [ ]
below_among n (y ∷ ys) h x m = go m (λ k. below_among n ys h.1 x k)
  where
    go : Among x (y ∷ ys) → (Among x ys → x < n) → x < n
    go k again = among_cases k (λ e. subst (λ z. z < n) (sym e) h.0) again

pub kids_few : (n p r : ℕ) (x : Node) → HasArguments n x → length (kids_by p r x) ≤ 4097
kids_few k p r (node.Var n s) h = go (nat_eq r p)
  where
    go : (b : Bool) → length (if b then [] else r ∷ []) ≤ 4097
    go true = omega arith
    go false = omega arith
kids_few k p r (node.App name args) h = go (nat_eq r p)
  where
    go : (b : Bool) → length (if b then args else r ∷ args) ≤ 4097
    go true = omega (arith, h.1)
    go false = omega (arith, h.1)

-- ---- values fall from a place to its kids
module _ (g : List Node) (graph : IsGraph g) (stands : List ℕ) (are : AreStands g stands) where
  abbrev rep : ℕ → ℕ
  rep p = rep_of stands p

  abbrev key : (ℕ → Value) → ℕ → ℕ
  key v p = key_of stands v p

  abbrev Below : ℕ → ℕ → Type 0
  Below x p = IsBelow g stands x p

  abbrev Kid : ℕ → ℕ → Type 0
  Kid q p = IsKid g stands q p

  pub below_twice : (x y z : ℕ) → Below x y → Below y z → Below x z
  below_twice x y z h k trees d u s = let a = h trees d u s in let b = k trees d u s in omega (arith, a, b)

  pub below_itself : (p : ℕ) → Below p p → NeverSolves g stands
  below_itself p h trees d u s = let a = h trees d u s in absurd (omega (arith, a))

  list_nodes : (a : Variable → Value) (trees : ℕ → Tree Variable) (xs : List ℕ) (q : ℕ) → Among q xs → nodes (value_at a trees q) ≤ all_nodes (list_by a (all_of trees xs))
  list_nodes a trees [] q m = elim m [ ]
  list_nodes a trees (x ∷ xs) q m = go m (λ k. list_nodes a trees xs q k)
    where
      go : Among q (x ∷ xs) → (Among q xs → nodes (value_at a trees q) ≤ all_nodes (list_by a (all_of trees xs))) → nodes (value_at a trees q) ≤ nodes (value_at a trees x) + all_nodes (list_by a (all_of trees xs))
      go k again = among_cases k (λ e. let f : nodes (value_at a trees q) ≡ nodes (value_at a trees x) = ap (λ z. nodes (value_at a trees z)) e in omega (arith, f)) (λ z. let h = again z in omega (arith, h))

  weight_one : (p : ℕ) → (rep p ≡ p → ⊥) → weight (nat_eq (rep p) p) ≡ 1
  weight_one p d = go (nat_eq (rep p) p) refl
    where
      go : (b : Bool) → nat_eq (rep p) p ≡ b → weight b ≡ 1
      go true e = absurd (d (eqb-true (rep p) p e))
      go false e = refl

  weight_few : (b : Bool) → weight b ≤ 1
  weight_few true = omega arith
  weight_few false = omega arith

  pub kid_below : (q p : ℕ) → Kid q p → Below q p
  kid_below q p k trees d u s = go (kid_cases p (rep p) (node_at g p) q k.1)
    where
      v : ℕ → Value
      v = value_at (under u) trees

      go : ((q ≡ rep p) × (rep p ≡ p → ⊥)) ⊎ ((name : List ℕ) × (args : List ℕ) × (node_at g p ≡ node.App name args) × Among q args) → key (value_at (under u) trees) q < key (value_at (under u) trees) p
      go (inl w) =
          let same : nodes (value_at (under u) trees p) ≡ nodes (value_at (under u) trees q) = ap nodes (s p k.0 ∙ ap (value_at (under u) trees) (sym w.0)) in
          let zero_weight : weight (nat_eq (rep q) q) ≡ 0 = ap weight (eq-eqb (rep q) q (ap rep w.0 ∙ (are p k.0).1 ∙ sym w.0)) in
          let one = weight_one p w.1 in
          omega (arith, same, zero_weight, one)
      go (inr w) =
          let tree : value_at (under u) trees p ≡ Named w.0 (list_by (under u) (all_of trees w.1)) = ap (value_by (under u)) (d p k.0 ∙ ap (tree_of trees) w.2) ∙ value_app (under u) w.0 (all_of trees w.1) in
          let size : nodes (value_at (under u) trees p) ≡ 1 + all_nodes (list_by (under u) (all_of trees w.1)) = ap nodes tree in
          let part = list_nodes (under u) trees w.1 q w.3 in
          let few = weight_few (nat_eq (rep q) q) in
          omega (arith, size, part, few)

  pub kid_within : (q p : ℕ) → Kid q p → q < length g
  kid_within q p k = go (kid_cases p (rep p) (node_at g p) q k.1)
    where
      go : ((q ≡ rep p) × (rep p ≡ p → ⊥)) ⊎ ((name : List ℕ) × (args : List ℕ) × (node_at g p ≡ node.App name args) × Among q args) → q < length g
      go (inl w) = subst (λ z. z < length g) (sym w.0) (are p k.0).0
      go (inr w) = below_among (length g) w.1 (subst (HasArguments (length g)) w.2 (graph p k.0)).0 q w.3

  -- ---- the walk: places that are done, the latest first, and visits that are left, the next first
  -- the visit of a place that is done is over
  pub skipped : (enter left : List Bool) (ord : List ℕ) (p : ℕ) (b : Bool) (es : List Visit) → IsWalk g stands enter left ord ((p, b) ∷ es) → Among p ord → IsWalk g stands enter left ord es
  skipped enter left ord p b es w m = record {
    enter_count = w.enter_count;
    left_count = w.left_count;
    order = w.order;
    done = w.done;
    marked = w.marked;
    stack =
        changed Kid Below below_twice (λ q. Among q ord) (λ q. Among q ord) (λ q. ⊥ ⊎ (q ≡ p)) (λ q. ⊥) (λ q h. h)
        (λ q h. elim h [ inl x ↦ absurd x | inr e ↦ inr (subst (λ z. Among z ord) (sym e) m) ]) (λ x h. absurd h) es w.stack.1;
    places = λ q c h. w.places q c (next h);
    grey = λ q lt e. elim (w.grey q lt e) [ inl x ↦ inl x | inr x ↦ among_cases x (λ z. inl (subst (λ y. Among y ord) (sym (place_of z)) m)) (λ z. inr z) ];
    every = λ q lt. elim (w.every q lt) [ inl x ↦ inl x | inr x ↦ among_cases x.1 (λ z. inl (subst (λ y. Among y ord) (sym (place_of z)) m)) (λ z. inr (x.0, z)) ];
  }

  all_from : (ord : List ℕ) (xs : List ℕ) → ((q : ℕ) → Among q xs → Among q ord) → AllAmong ord xs
  all_from ord [] h = tt
  all_from ord (x ∷ xs) h = (h x first, all_from ord xs (λ q m. h q (next m)))

  arguments_from : (ord : List ℕ) (p : ℕ) (x : Node) → ((q : ℕ) → Among q (kids_by p (rep p) x) → Among q ord) → HasAmong ord x
  arguments_from ord p (node.Var n s) h = tt
  arguments_from ord p (node.App name args) h = all_from ord args (λ q m. h q (arg_is_kid p (rep p) name args q m))

  -- a place is left
  pub left_now : (enter left : List Bool) (ord : List ℕ) (p : ℕ) (es : List Visit) → IsWalk g stands enter left ord ((p, true) ∷ es) → is_marked left p ≡ false → IsWalk g stands enter (slice_set left p true) (p ∷ ord) es
  left_now enter left ord p es w e = record {
    enter_count = w.enter_count;
    left_count = length-set left p true ∙ w.left_count;
    order = (record { within = p_in; new = new; arguments = arguments_from ord p (node_at g p) ready; stands = elim (is_or_not (rep p) p) [ inl q ↦ inl q | inr d ↦ inr (ready (rep p) (rep_is_kid p (rep p) (node_at g p) d)) ] }, w.order);
    done = λ q lt h. done q lt h (is_or_not q p);
    marked = λ q m. among_cases m (λ z. ap (is_marked (slice_set left p true)) z ∙ here) (λ z. marked q z (is_or_not q p));
    stack =
        changed Kid Below below_twice (λ q. Among q ord) (λ q. Among q (p ∷ ord)) (λ q. ⊥ ⊎ (q ≡ p)) (λ q. ⊥) (λ q h. next h)
        (λ q h. elim h [ inl x ↦ absurd x | inr z ↦ inr (subst (λ y. Among y (p ∷ ord)) (sym z) first) ]) (λ x h. absurd h) es w.stack.1;
    places = λ q c h. w.places q c (next h);
    grey = λ q lt h. elim (w.grey q lt h) [ inl x ↦ inl (next x) | inr x ↦ among_cases x (λ z. inl (subst (λ y. Among y (p ∷ ord)) (sym (place_of z)) first)) (λ z. inr z) ];
    every = λ q lt. elim (w.every q lt) [ inl x ↦ inl (next x) | inr x ↦ among_cases x.1 (λ z. inl (subst (λ y. Among y (p ∷ ord)) (sym (place_of z)) first)) (λ z. inr (x.0, z)) ];
  }
    where
      p_in : p < length g
      p_in = w.places p true first

      in_left : p < length left
      in_left = subst (λ m. p < m) (sym w.left_count) p_in

      here : is_marked (slice_set left p true) p ≡ true
      here = get_or-set_same left p true false in_left

      new : Among p ord → ⊥
      new m = let a = w.marked p m in absurd (cc)

      ready : (q : ℕ) → Among q (kids g stands p) → Among q ord
      ready q m = elim (w.stack.0.0 q (p_in, m)) [ inl x ↦ x | inr x ↦ absurd x ]

      done : (q : ℕ) → q < length g → is_marked (slice_set left p true) q ≡ true → (q ≡ p) ⊎ (q ≡ p → ⊥) → Among q (p ∷ ord)
      done q lt h (inl z) = subst (λ y. Among y (p ∷ ord)) (sym z) first
      done q lt h (inr d) = next (w.done q lt (sym (get_or-set_other left p q true false d) ∙ h))

      marked : (q : ℕ) → Among q ord → (q ≡ p) ⊎ (q ≡ p → ⊥) → is_marked (slice_set left p true) q ≡ true
      marked q m (inl z) = ap (is_marked (slice_set left p true)) z ∙ here
      marked q m (inr d) = get_or-set_other left p q true false d ∙ w.marked q m

  -- a place that is entered, and neither new nor done, lies on a cycle
  pub cycle : (enter left : List Bool) (ord : List ℕ) (p : ℕ) (es : List Visit) → IsWalk g stands enter left ord ((p, false) ∷ es) → is_marked enter p ≡ true → is_marked left p ≡ false → NeverSolves g stands
  cycle enter left ord p es w e e' = go (w.grey p (w.places p false first) e)
    where
      go : Among p ord ⊎ Among (p, true) ((p, false) ∷ es) → NeverSolves g stands
      go (inl m) = let a = w.marked p m in absurd (cc)
      go (inr m) = among_cases m (λ z. let a = visit_of z in absurd (cc)) (λ k. below_itself p (below_left Kid Below below_twice (λ q. Among q ord) (λ q. ⊥ ⊎ (q ≡ p)) p p es w.stack.1 (inr refl) k))

  -- ---- a place is entered
  onto_back : (acc es : List Visit) (e : Visit) → Among e acc → Among e (latest_onto acc es)
  onto_back acc [] e m = m
  onto_back acc (x ∷ es) e m = onto_back (x ∷ acc) es e (next m)

  onto_cases : (acc : List Visit) (ks : List ℕ) (e : Visit) → Among e (latest_onto acc (entering ks)) → Among e acc ⊎ Among e.0 ks
  onto_cases acc [] e m = inl m
  onto_cases acc (k ∷ ks) e m =
      elim (onto_cases ((k, false) ∷ acc) ks e m) [ inl x ↦ among_cases x (λ z. inr (subst (λ y. Among y (k ∷ ks)) (sym (ap (λ (v : Visit). v.0) z)) first)) (λ z. inl z) | inr x ↦ inr (next x) ]

  pub enter_now : (enter left : List Bool) (ord : List ℕ) (p : ℕ) (es : List Visit) → IsWalk g stands enter left ord ((p, false) ∷ es) → IsWalk g stands (slice_set enter p true) left ord (latest_onto ((p, true) ∷ es) (entering (kids g stands p)))
  enter_now enter left ord p es w = record {
    enter_count = length-set enter p true ∙ w.enter_count;
    left_count = w.left_count;
    order = w.order;
    done = w.done;
    marked = w.marked;
    stack =
        entered Kid Below below_twice (λ q. Among q ord) (λ q. ⊥) ks ((p, true) ∷ es) (
          ((λ q k. inr (inr k.1)), (λ x h. elim h [ inl y ↦ absurd y | inr y ↦ kid_below x p (p_in, y) ])),
          changed Kid Below below_twice (λ q. Among q ord) (λ q. Among q ord) (λ q. ⊥ ⊎ (q ≡ p)) (λ q. (⊥ ⊎ Among q ks) ⊎ (q ≡ p)) (λ q h. h)
              (λ q h. elim h [ inl x ↦ absurd x | inr z ↦ inl (inr z) ]) down es w.stack.1,
        );
    places = λ q c m. elim (onto_cases ((p, true) ∷ es) ks (q, c) m) [ inl x ↦ among_cases x (λ z. subst (λ y. y < length g) (sym (place_of z)) p_in) (λ z. w.places q c (next z)) | inr x ↦ kid_within q p (p_in, x) ];
    grey = λ q lt h. grey q lt h (is_or_not q p);
    every = λ q lt. elim (w.every q lt) [ inl x ↦ inl x | inr x ↦ among_cases x.1 (λ z. inr (true, subst (λ y. Among (y, true) (latest_onto ((p, true) ∷ es) (entering ks))) (sym (place_of z)) top)) (λ z. inr (x.0, onto_back ((p, true) ∷ es) (entering ks) (q, x.0) (next z))) ];
  }
    where
      ks : List ℕ
      ks = kids g stands p

      p_in : p < length g
      p_in = w.places p false first

      top : Among (p, true) (latest_onto ((p, true) ∷ es) (entering (kids g stands p)))
      top = onto_back ((p, true) ∷ es) (entering (kids g stands p)) (p, true) first

      down : (x : ℕ) → (⊥ ⊎ Among x (kids g stands p)) ⊎ (x ≡ p) → (y : ℕ) × (⊥ ⊎ (y ≡ p)) × ((x ≡ y) ⊎ Below x y)
      down x (inl (inl h)) = absurd h
      down x (inl (inr m)) = (p, inr refl, inr (kid_below x p (p_in, m)))
      down x (inr e) = (p, inr refl, inl e)

      grey : (q : ℕ) → q < length g → is_marked (slice_set enter p true) q ≡ true → (q ≡ p) ⊎ (q ≡ p → ⊥) → Among q ord ⊎ Among (q, true) (latest_onto ((p, true) ∷ es) (entering (kids g stands p)))
      grey q lt h (inl z) = inr (subst (λ y. Among (y, true) (latest_onto ((p, true) ∷ es) (entering (kids g stands p)))) (sym z) top)
      grey q lt h (inr d) =
          elim (w.grey q lt (sym (get_or-set_other enter p q true false d) ∙ h)) [
            | inl x ↦ inl x
            | inr x ↦ among_cases x (λ z. absurd (d (place_of z))) (λ z. inr (onto_back ((p, true) ∷ es) (entering (kids g stands p)) (q, true) (next z)))
          ]
