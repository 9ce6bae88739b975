-- One turn: an equation is taken, and the classes of its sides become one.
use Rattle.std.proofs.Common.{◌≡◌, ℕ, ◌<◌, List, [], ◌∷◌, ◌++◌, length, refl, sym, ap, ◌∙◌, subst, Bool, true, false, Some, None, ◌⊎◌, inl, inr}
use Rattle.std.specs.Prelude.{nat_eq}
use Rattle.std.proofs.lemmas.Bool.{eqb-true, eqb-false}
use Rattle.clp_model.specs.declared.tree.Variable.{Variable}
use Rattle.clp_model.specs.declared.tree.Tree.{Tree}
use Rattle.clp_model.specs.Values.{Value, Valuation}
use Rattle.unify_model.specs.Equations.{value_by, under}
use Rattle.unify_laws.proofs.Laws.{under_numbers}
use Rattle.unify_closure.specs.declared.node.Node.{Node}
use Rattle.unify_closure.specs.Graph.{node_at, tree_of, Describes, PairsHold, PairsWithin, value_at}
use Rattle.unify_closure.specs.Closing.{Stands, chosen, Fits, Means, IsClosing, NeverHold}
use Rattle.unify_closure.proofs.Choosing.{HasChosen, IsChoice, is_choice, stands_twice}

-- ---- lists of equations
pub hold_both : {X : Type 0} (label : ℕ → X) (es fs : List (ℕ × ℕ)) → PairsHold label es → PairsHold label fs → PairsHold label (es ++ fs)
hold_both label [] fs h k = k
hold_both label (e ∷ es) fs h k = (h.0, hold_both label es fs h.1 k)

pub hold_parts : {X : Type 0} (label : ℕ → X) (es fs : List (ℕ × ℕ)) → PairsHold label (es ++ fs) → PairsHold label es × PairsHold label fs
hold_parts label [] fs h = (tt, h)
hold_parts label (e ∷ es) fs h = let p = hold_parts label es fs h.1 in ((h.0, p.0), p.1)

pub within_both : (n : ℕ) (es fs : List (ℕ × ℕ)) → PairsWithin n es → PairsWithin n fs → PairsWithin n (es ++ fs)
within_both n [] fs h k = k
within_both n (e ∷ es) fs h k = (h.0, within_both n es fs h.1 k)

pub within_parts : (n : ℕ) (es fs : List (ℕ × ℕ)) → PairsWithin n (es ++ fs) → PairsWithin n es × PairsWithin n fs
within_parts n [] fs h = (tt, h)
within_parts n (e ∷ es) fs h = let p = within_parts n es fs h.1 in ((h.0, p.0), p.1)

is_or_not : (m n : ℕ) → (m ≡ n) ⊎ (m ≡ n → ⊥)
is_or_not m n = go (nat_eq m n) refl
  where
    go : (b : Bool) → nat_eq m n ≡ b → (m ≡ n) ⊎ (m ≡ n → ⊥)
    go true e = inl (eqb-true m n e)
    go false e = inr (eqb-false m n e)

-- an equation is taken off the list
abbrev pub and_last : List (ℕ × ℕ) → ℕ → ℕ → List (ℕ × ℕ)
and_last rest a b = rest ++ (a, b) ∷ []

module _ (g : List Node) (classes best : ℕ → ℕ) (rest input : List (ℕ × ℕ)) (a b : ℕ) (is : IsClosing g classes best (and_last rest a b) input) where
  abbrev n : ℕ
  n = length g

  last_within : (a < n) × (b < n)
  last_within = (within_parts n rest ((a, b) ∷ []) is.left).1.0

  -- the equation held already
  pub already : classes a ≡ classes b → IsClosing g classes best rest input
  already e = record {
    within = is.within;
    best_is = is.best_is;
    left = (within_parts n rest ((a, b) ∷ []) is.left).0;
    closed = λ label f. is.closed label (record { same = f.same; pairs = hold_both label rest ((a, b) ∷ []) f.pairs (f.same a last_within.0 ∙ ap label e ∙ sym (f.same b last_within.1), tt) });
    means = λ trees d u. (
      (λ h. let p = (is.means trees d u).0 h in (p.0, (hold_parts (value_at (under u) trees) rest ((a, b) ∷ []) p.1).0)),
      (λ h. (is.means trees d u).1 (h.0, hold_both (value_at (under u) trees) rest ((a, b) ∷ []) h.1 (h.0 a last_within.0 ∙ ap (value_at (under u) trees) e ∙ sym (h.0 b last_within.1), tt))),
    );
  }

  abbrev x : ℕ
  x = best (classes a)

  abbrev y : ℕ
  y = best (classes b)

  -- where the equations hold, so does the equation between the two that stand for the classes
  both_hold : (trees : ℕ → Tree Variable) → Describes g trees → (u : Valuation) → PairsHold (value_at (under u) trees) input → value_by (under u) (tree_of trees (node_at g x)) ≡ value_by (under u) (tree_of trees (node_at g y))
  both_hold trees d u h =
      let v : ℕ → Value = value_at (under u) trees in
      let p = (is.means trees d u).0 h in
      let one = is.best_is a last_within.0 in
      let two = is.best_is b last_within.1 in
      let xa : v x ≡ v a = p.0 x one.0 ∙ ap v one.1 ∙ sym (p.0 a last_within.0) in
      let yb : v y ≡ v b = p.0 y two.0 ∙ ap v two.1 ∙ sym (p.0 b last_within.1) in
      let ab : v a ≡ v b = (hold_parts v rest ((a, b) ∷ []) p.1).1.0 in
      ap (value_by (under u)) (sym (d x one.0)) ∙ xa ∙ ab ∙ sym yb ∙ ap (value_by (under u)) (d y two.0)

  -- neither can stand for the other
  pub never : chosen x y (node_at g x) (node_at g y) ≡ None → NeverHold g input
  never e trees d u h =
      let none : IsChoice x y (node_at g x) (node_at g y) None = subst (IsChoice x y (node_at g x) (node_at g y)) e (is_choice x y (node_at g x) (node_at g y)) in
      none (under u) (under_numbers u) trees (both_hold trees d u h)

  -- ---- the two classes become one
  module _ (k z : ℕ) (pairs : List (ℕ × ℕ)) (e : chosen x y (node_at g x) (node_at g y) ≡ Some (z, pairs)) (k_is : (k ≡ classes a) ⊎ (k ≡ classes b))
      (classes' best' : ℕ → ℕ)
      (of_a : (p : ℕ) → p < n → classes p ≡ classes a → classes' p ≡ k)
      (of_b : (p : ℕ) → p < n → classes p ≡ classes b → classes' p ≡ k)
      (of_others : (p : ℕ) → p < n → (classes p ≡ classes a → ⊥) → (classes p ≡ classes b → ⊥) → classes' p ≡ classes p)
      (best_k : best' k ≡ z)
      (best_others : (p : ℕ) → (p ≡ k → ⊥) → best' p ≡ best p)
      (pairs_within : PairsWithin n pairs) where
    choice : HasChosen x y (node_at g x) (node_at g y) z pairs
    choice = subst (IsChoice x y (node_at g x) (node_at g y)) e (is_choice x y (node_at g x) (node_at g y))

    k_within : k < n
    k_within = elim k_is [ inl q ↦ subst (λ m. m < n) (sym q) (is.within a last_within.0).0 | inr q ↦ subst (λ m. m < n) (sym q) (is.within b last_within.1).0 ]

    k_root : classes' k ≡ k
    k_root = elim k_is [
      | inl q ↦ of_a k k_within (ap classes q ∙ (is.within a last_within.0).1)
      | inr q ↦ of_b k k_within (ap classes q ∙ (is.within b last_within.1).1)
    ]

    -- three kinds of places
    data Kind (p : ℕ) : Type 0 where
      in_a : classes p ≡ classes a → Kind p
      in_b : classes p ≡ classes b → Kind p
      other : (classes p ≡ classes a → ⊥) → (classes p ≡ classes b → ⊥) → Kind p

    kind : (p : ℕ) → Kind p
    kind p = elim (is_or_not (classes p) (classes a)) [
      | inl q ↦ in_a q
      | inr q ↦ (elim (is_or_not (classes p) (classes b)) [ inl r ↦ in_b r | inr r ↦ other q r ])
    ]

    z_is : (z < n) × (classes' z ≡ k)
    z_is =
        let one = is.best_is a last_within.0 in
        let two = is.best_is b last_within.1 in
        elim choice.one [
          | inl q ↦ (subst (λ m. m < n) (sym q.0) one.0, ap classes' q.0 ∙ of_a x one.0 one.1)
          | inr q ↦ (subst (λ m. m < n) (sym q.0) two.0, ap classes' q.0 ∙ of_b y two.0 two.1)
        ]

    not_k : (p : ℕ) → (classes p ≡ classes a → ⊥) → (classes p ≡ classes b → ⊥) → classes p ≡ k → ⊥
    not_k p na nb q = elim k_is [ inl r ↦ na (q ∙ r) | inr r ↦ nb (q ∙ r) ]

    within' : (p : ℕ) → p < n → (classes' p < n) × (classes' (classes' p) ≡ classes' p)
    within' p lt = go (kind p)
      where
        to_k : classes' p ≡ k → (classes' p < n) × (classes' (classes' p) ≡ classes' p)
        to_k q = (subst (λ m. m < n) (sym q) k_within, ap classes' q ∙ k_root ∙ sym q)

        go : Kind p → (classes' p < n) × (classes' (classes' p) ≡ classes' p)
        go (in_a q) = to_k (of_a p lt q)
        go (in_b q) = to_k (of_b p lt q)
        go (other na nb) =
            let o = of_others p lt na nb in
            let w = is.within p lt in
            (subst (λ m. m < n) (sym o) w.0, ap classes' o ∙ of_others (classes p) w.0 (λ q. na (sym w.1 ∙ q)) (λ q. nb (sym w.1 ∙ q)) ∙ w.1 ∙ sym o)

    best_is' : (p : ℕ) → p < n → (best' (classes' p) < n) × (classes' (best' (classes' p)) ≡ classes' p)
    best_is' p lt = go (kind p)
      where
        to_k : classes' p ≡ k → (best' (classes' p) < n) × (classes' (best' (classes' p)) ≡ classes' p)
        to_k q = let b : best' (classes' p) ≡ z = ap best' q ∙ best_k in (subst (λ m. m < n) (sym b) z_is.0, ap classes' b ∙ z_is.1 ∙ sym q)

        go : Kind p → (best' (classes' p) < n) × (classes' (best' (classes' p)) ≡ classes' p)
        go (in_a q) = to_k (of_a p lt q)
        go (in_b q) = to_k (of_b p lt q)
        go (other na nb) =
            let o = of_others p lt na nb in
            let w = is.best_is p lt in
            let c : best' (classes' p) ≡ best (classes p) = ap best' o ∙ best_others (classes p) (not_k p na nb) in
            (subst (λ m. m < n) (sym c) w.0, ap classes' c ∙ of_others (best (classes p)) w.0 (λ q. na (sym w.1 ∙ q)) (λ q. nb (sym w.1 ∙ q)) ∙ w.1 ∙ sym o)

    -- what is the same in the new classes is the same in the old ones
    module _ {X : Type 0} (label : ℕ → X) (same : (p : ℕ) → p < n → label p ≡ label (classes' p)) where
      old_a : label (classes a) ≡ label k
      old_a = let w = is.within a last_within.0 in same (classes a) w.0 ∙ ap label (of_a (classes a) w.0 w.1)

      old_b : label (classes b) ≡ label k
      old_b = let w = is.within b last_within.1 in same (classes b) w.0 ∙ ap label (of_b (classes b) w.0 w.1)

      old_same : (p : ℕ) → p < n → label p ≡ label (classes p)
      old_same p lt = go (kind p)
        where
          go : Kind p → label p ≡ label (classes p)
          go (in_a q) = same p lt ∙ ap label (of_a p lt q) ∙ sym old_a ∙ ap label (sym q)
          go (in_b q) = same p lt ∙ ap label (of_b p lt q) ∙ sym old_b ∙ ap label (sym q)
          go (other na nb) = same p lt ∙ ap label (of_others p lt na nb)

      old_pair : label a ≡ label b
      old_pair = old_same a last_within.0 ∙ old_a ∙ sym old_b ∙ sym (old_same b last_within.1)

    -- and the other way, where the equation holds
    new_same : {X : Type 0} (label : ℕ → X) → ((p : ℕ) → p < n → label p ≡ label (classes p)) → label a ≡ label b → (p : ℕ) → p < n → label p ≡ label (classes' p)
    new_same label same q p lt = go (kind p)
      where
        ab : label (classes a) ≡ label (classes b)
        ab = sym (same a last_within.0) ∙ q ∙ same b last_within.1

        from_a : label (classes a) ≡ label k
        from_a = elim k_is [ inl r ↦ ap label (sym r) | inr r ↦ ab ∙ ap label (sym r) ]

        from_b : label (classes b) ≡ label k
        from_b = sym ab ∙ from_a

        go : Kind p → label p ≡ label (classes' p)
        go (in_a r) = same p lt ∙ ap label r ∙ from_a ∙ ap label (sym (of_a p lt r))
        go (in_b r) = same p lt ∙ ap label r ∙ from_b ∙ ap label (sym (of_b p lt r))
        go (other na nb) = same p lt ∙ ap label (sym (of_others p lt na nb))

    fits_before : (label : ℕ → ℕ) → Fits n label classes' (rest ++ pairs) → Fits n label classes (and_last rest a b)
    fits_before label f = record {
      same = old_same label f.same;
      pairs = hold_both label rest ((a, b) ∷ []) (hold_parts label rest pairs f.pairs).0 (old_pair label f.same, tt);
    }

    closed' : (label : ℕ → ℕ) → Fits n label classes' (rest ++ pairs) → (p : ℕ) → p < n → Stands label (node_at g p) (node_at g (best' (classes' p)))
    closed' label f p lt = go (kind p)
      where
        here : PairsHold label pairs
        here = (hold_parts label rest pairs f.pairs).1

        old : Stands label (node_at g p) (node_at g (best (classes p)))
        old = is.closed label (fits_before label f) p lt

        to_z : (w : ℕ) → best (classes p) ≡ w → Stands label (node_at g w) (node_at g z) → classes' p ≡ k → Stands label (node_at g p) (node_at g (best' (classes' p)))
        to_z w q s r = subst (λ m. Stands label (node_at g p) (node_at g m)) (sym (ap best' r ∙ best_k)) (stands_twice label (node_at g p) (node_at g w) (node_at g z) (subst (λ m. Stands label (node_at g p) (node_at g m)) q old) s)

        left_z : Stands label (node_at g x) (node_at g z)
        left_z = elim choice.one [
          | inl q ↦ subst (λ m. Stands label (node_at g x) (node_at g m)) (sym q.0) ((q.1 label).left here)
          | inr q ↦ subst (λ m. Stands label (node_at g x) (node_at g m)) (sym q.0) ((q.1 label).left here)
        ]

        right_z : Stands label (node_at g y) (node_at g z)
        right_z = elim choice.one [
          | inl q ↦ subst (λ m. Stands label (node_at g y) (node_at g m)) (sym q.0) ((q.1 label).right here)
          | inr q ↦ subst (λ m. Stands label (node_at g y) (node_at g m)) (sym q.0) ((q.1 label).right here)
        ]

        go : Kind p → Stands label (node_at g p) (node_at g (best' (classes' p)))
        go (in_a q) = to_z x (ap best q) left_z (of_a p lt q)
        go (in_b q) = to_z y (ap best q) right_z (of_b p lt q)
        go (other na nb) = subst (λ m. Stands label (node_at g p) (node_at g m)) (sym (ap best' (of_others p lt na nb) ∙ best_others (classes p) (not_k p na nb))) old

    means' : Means g classes' (rest ++ pairs) input
    means' trees d u = (forth, back)
      where
        v : ℕ → Value
        v = value_at (under u) trees

        forth : PairsHold (value_at (under u) trees) input → ((p : ℕ) → p < n → value_at (under u) trees p ≡ value_at (under u) trees (classes' p)) × PairsHold (value_at (under u) trees) (rest ++ pairs)
        forth h =
            let m = (is.means trees d u).0 h in
            let q = hold_parts (value_at (under u) trees) rest ((a, b) ∷ []) m.1 in
            (new_same (value_at (under u) trees) m.0 q.1.0, hold_both (value_at (under u) trees) rest pairs q.0 (choice.hold (under u) trees (both_hold trees d u h)))

        back : ((p : ℕ) → p < n → value_at (under u) trees p ≡ value_at (under u) trees (classes' p)) × PairsHold (value_at (under u) trees) (rest ++ pairs) → PairsHold (value_at (under u) trees) input
        back h = (is.means trees d u).1 (old_same (value_at (under u) trees) h.0, hold_both (value_at (under u) trees) rest ((a, b) ∷ []) (hold_parts (value_at (under u) trees) rest pairs h.1).0 (old_pair (value_at (under u) trees) h.0, tt))

    pub merged : IsClosing g classes' best' (rest ++ pairs) input
    merged = record {
      within = within';
      best_is = best_is';
      left = within_both n rest pairs (within_parts n rest ((a, b) ∷ []) is.left).0 pairs_within;
      closed = closed';
      means = means';
    }
