-- One turn of the loop, by what its calls ensure.
use Rattle.std.proofs.Common.{◌≡◌, ℕ, ◌<◌, ◌≤◌, ◌+◌, ◌*◌, List, [], ◌∷◌, ◌++◌, length, sym, ap, ◌∙◌, subst, arith, Some, None, inl, inr}
use Rattle.std.specs.Prelude.{slice_index_or, slice_set}
use Rattle.std.proofs.lemmas.List.{get_or-set_same, get_or-set_other, get_or_default, length-set}
use Rattle.unify_model.specs.Equations.{under}
use Rattle.unify_closure.specs.declared.node.Node.{Node}
use Rattle.unify_closure.specs.Graph.{node_at, PairsWithin, value_at}
use Rattle.unify_closure.specs.Closing.{Stands, chosen, IsClosing, NeverHold}
use Rattle.unify_closure.specs.Classes.{AreParents, root, HaveSameRoots, HaveJoined}
use Rattle.unify_closure.specs.Turns.{IsGraph, IsSound, best_at, AreOwn}
use Rattle.unify_closure.proofs.Roots.{root_is, root_of_root, root_itself, is_or_not}
use Rattle.unify_closure.proofs.Joining.{already, never, merged, and_last, within_parts}
use Rattle.unify_closure.proofs.Choosing.{stands_itself}
use Rattle.unify_closure.proofs.Turning.{IsFew, is_few}

-- ---- equal classes serve as well
module _ (g : List Node) (c d best : ℕ → ℕ) (work input : List (ℕ × ℕ)) (e : (p : ℕ) → p < length g → d p ≡ c p) (is : IsClosing g c best work input) where
  to_old : {X : Type 0} (label : ℕ → X) → ((p : ℕ) → p < length g → label p ≡ label (d p)) → (p : ℕ) → p < length g → label p ≡ label (c p)
  to_old label h p lt = h p lt ∙ ap label (e p lt)

  to_new : {X : Type 0} (label : ℕ → X) → ((p : ℕ) → p < length g → label p ≡ label (c p)) → (p : ℕ) → p < length g → label p ≡ label (d p)
  to_new label h p lt = h p lt ∙ ap label (sym (e p lt))

  pub closing_same : IsClosing g d best work input
  closing_same = record {
    within = λ p lt. let w = is.within p lt in (subst (λ m. m < length g) (sym (e p lt)) w.0, ap d (e p lt) ∙ e (c p) w.0 ∙ w.1 ∙ sym (e p lt));
    best_is = λ p lt. let w = is.best_is p lt in (subst (λ m. best m < length g) (sym (e p lt)) w.0, ap (λ m. d (best m)) (e p lt) ∙ e (best (c p)) w.0 ∙ w.1 ∙ sym (e p lt));
    left = is.left;
    closed = λ label f p lt. subst (λ m. Stands label (node_at g p) (node_at g (best m))) (sym (e p lt)) (is.closed label (record { same = to_old label f.same; pairs = f.pairs }) p lt);
    means = λ trees h u. ((λ k. let m = (is.means trees h u).0 k in (to_new (value_at (under u) trees) m.0, m.1)), (λ k. (is.means trees h u).1 (to_old (value_at (under u) trees) k.0, k.1)));
  }

module _ (g : List Node) (graph : IsGraph g) (p0 b0 : List ℕ) (sound : IsSound (length g) p0 b0) (p1 : List ℕ) (are : AreParents p1) (same : HaveSameRoots p0 p1)
    (a b r s : ℕ) (a_in : a < length g) (b_in : b < length g) (r_is : r ≡ root p0 a) (s_is : s ≡ root p0 b) where
  in0 : {p : ℕ} → p < length g → p < length p0
  in0 {p} h = subst (λ m. p < m) (sym sound.parents_count) h

  in1 : {p : ℕ} → p < length g → p < length p1
  in1 {p} h = subst (λ m. p < m) (sym same.count) (in0 h)

  out1 : {p : ℕ} → p < length p1 → p < length g
  out1 {p} h = subst (λ m. p < m) (same.count ∙ sound.parents_count) h

  r_one : r ≡ root p1 a
  r_one = r_is ∙ sym (same.same a (in0 a_in))

  s_one : s ≡ root p1 b
  s_one = s_is ∙ sym (same.same b (in0 b_in))

  pub r_in : r < length g
  r_in = let h = (root_is p1 are a (in1 a_in)).0 in omega (arith, h, r_one, a_in)

  pub s_in : s < length g
  s_in = let h = (root_is p1 are b (in1 b_in)).0 in omega (arith, h, s_one, b_in)

  pub r_root : root p1 r ≡ r
  r_root = ap (root p1) r_one ∙ root_of_root p1 are a (in1 a_in) ∙ sym r_one

  pub s_root : root p1 s ≡ s
  s_root = ap (root p1) s_one ∙ root_of_root p1 are b (in1 b_in) ∙ sym s_one

  found : (work input : List (ℕ × ℕ)) → IsClosing g (root p0) (best_at b0) work input → IsClosing g (root p1) (best_at b0) work input
  found work input is = closing_same g (root p0) (root p1) (best_at b0) work input (λ p h. same.same p (in0 h)) is

  pub goes_already : (work input : List (ℕ × ℕ)) → r ≡ s → IsClosing g (root p0) (best_at b0) (and_last work a b) input → IsClosing g (root p1) (best_at b0) work input
  goes_already work input e is = already g (root p1) (best_at b0) work input a b (found (and_last work a b) input is) (sym r_one ∙ e ∙ s_one)

  module _ (x y : ℕ) (x_is : x ≡ slice_index_or b0 r x) (y_is : y ≡ slice_index_or b0 s y) where
    x_best : x ≡ best_at b0 r
    x_best = x_is ∙ get_or_default b0 r x 0 (subst (λ m. r < m) (sym sound.best_count) r_in)

    y_best : y ≡ best_at b0 s
    y_best = y_is ∙ get_or_default b0 s y 0 (subst (λ m. s < m) (sym sound.best_count) s_in)

    pub x_in : x < length g
    x_in = subst (λ m. m < length g) (sym x_best) (sound.best_within r r_in)

    pub y_in : y < length g
    y_in = subst (λ m. m < length g) (sym y_best) (sound.best_within s s_in)

    x_of : x ≡ best_at b0 (root p1 a)
    x_of = x_best ∙ ap (best_at b0) r_one

    y_of : y ≡ best_at b0 (root p1 b)
    y_of = y_best ∙ ap (best_at b0) s_one

    same_choice : chosen x y (node_at g x) (node_at g y) ≡ chosen (best_at b0 (root p1 a)) (best_at b0 (root p1 b)) (node_at g (best_at b0 (root p1 a))) (node_at g (best_at b0 (root p1 b)))
    same_choice = ap (λ m. chosen m y (node_at g m) (node_at g y)) x_of ∙ ap (λ m. chosen (best_at b0 (root p1 a)) m (node_at g (best_at b0 (root p1 a))) (node_at g m)) y_of

    pub goes_never : (work input : List (ℕ × ℕ)) → chosen x y (node_at g x) (node_at g y) ≡ None → IsClosing g (root p0) (best_at b0) (and_last work a b) input → NeverHold g input
    goes_never work input e is = never g (root p1) (best_at b0) work input a b (found (and_last work a b) input is) (sym same_choice ∙ e)

    module _ (p3 : List ℕ) (k z : ℕ) (pairs : List (ℕ × ℕ)) (joined : HaveJoined p1 p3 r s k) (are3 : AreParents p3) (e : chosen x y (node_at g x) (node_at g y) ≡ Some (z, pairs)) where
      pub few : IsFew (length g) x y z pairs
      few = is_few (length g) x y z pairs (node_at g x) (node_at g y) (graph x x_in) (graph y y_in) e

      k_in : k < length g
      k_in = elim joined.one [ inl q ↦ subst (λ m. m < length g) (sym q) r_in | inr q ↦ subst (λ m. m < length g) (sym q) s_in ]

      z_in : z < length g
      z_in = elim few.one [ inl q ↦ subst (λ m. m < length g) (sym q) x_in | inr q ↦ subst (λ m. m < length g) (sym q) y_in ]

      best_k : best_at (slice_set b0 k z) k ≡ z
      best_k = get_or-set_same b0 k z 0 (subst (λ m. k < m) (sym sound.best_count) k_in)

      best_other : (p : ℕ) → (p ≡ k → ⊥) → best_at (slice_set b0 k z) p ≡ best_at b0 p
      best_other p h = get_or-set_other b0 k p z 0 h

      pub sound_after : IsSound (length g) p3 (slice_set b0 k z)
      sound_after = record {
        are = are3;
        parents_count = joined.count ∙ same.count ∙ sound.parents_count;
        best_count = length-set b0 k z ∙ sound.best_count;
        best_within = λ p h. elim (is_or_not p k) [
          | inl q ↦ subst (λ m. m < length g) (sym (ap (best_at (slice_set b0 k z)) q ∙ best_k)) z_in
          | inr q ↦ subst (λ m. m < length g) (sym (best_other p q)) (sound.best_within p h)
        ];
      }

      pub goes_on : (work input : List (ℕ × ℕ)) → IsClosing g (root p0) (best_at b0) (and_last work a b) input → IsClosing g (root p3) (best_at (slice_set b0 k z)) (work ++ pairs) input
      goes_on work input is =
          merged g (root p1) (best_at b0) work input a b (found (and_last work a b) input is) k z pairs (sym same_choice ∙ e)
          (elim joined.one [ inl q ↦ inl (q ∙ r_one) | inr q ↦ inr (q ∙ s_one) ])
          (root p3) (best_at (slice_set b0 k z))
          (λ p h q. joined.of_a p (in1 h) (q ∙ sym r_one))
          (λ p h q. joined.of_b p (in1 h) (q ∙ sym s_one))
          (λ p h na nb. joined.of_others p (in1 h) (λ q. na (q ∙ r_one)) (λ q. nb (q ∙ s_one)))
          best_k best_other few.within

length_both : (es fs : List (ℕ × ℕ)) → length (es ++ fs) ≡ length es + length fs
length_both [] fs = omega arith
length_both (e ∷ es) fs = let h = length_both es fs in omega (arith, h)

pub cost_after : (o0 o3 : ℕ) (work pairs work' : List (ℕ × ℕ)) → o3 + 1 ≡ o0 → length pairs ≤ 4096 → work' ≡ work ++ pairs → 4096 * o3 + length work' ≤ 4096 * o0 + length work
cost_after o0 o3 work pairs work' e few q =
    let l = length_both work pairs in
    let m : length work' ≡ length work + length pairs = ap length q ∙ l in
    omega (arith, e, few, m)

-- ---- the start
pub starts : (g : List Node) (ps bs : List ℕ) → AreOwn (length g) ps → AreOwn (length g) bs → IsSound (length g) ps bs
starts g ps bs h k = record {
  are = λ p lt. let e = h.each p (subst (λ m. p < m) h.count lt) in omega (arith, e);
  parents_count = h.count;
  best_count = k.count;
  best_within = λ p lt. subst (λ m. m < length g) (sym (k.each p lt)) lt;
}

pub starts_closing : (g : List Node) (ps bs : List ℕ) → AreOwn (length g) ps → AreOwn (length g) bs → (es : List (ℕ × ℕ)) → PairsWithin (length g) es → IsClosing g (root ps) (best_at bs) es es
starts_closing g ps bs h k es within = record {
  within = λ p lt. let e = own_root p lt in (subst (λ m. m < length g) (sym e) lt, ap (root ps) e);
  best_is = λ p lt. let e = own_root p lt in let f : best_at bs (root ps p) ≡ p = ap (best_at bs) e ∙ k.each p lt in (subst (λ m. m < length g) (sym f) lt, ap (root ps) f);
  left = within;
  closed = λ label f p lt. subst (λ m. Stands label (node_at g p) (node_at g m)) (sym (ap (best_at bs) (own_root p lt) ∙ k.each p lt)) (stands_itself label (node_at g p));
  means = λ trees d u. ((λ m. ((λ p lt. ap (value_at (under u) trees) (sym (own_root p lt))), m)), (λ m. m.1));
}
  where
    own_root : (p : ℕ) → p < length g → root ps p ≡ p
    own_root p lt = root_itself ps p (h.each p lt)

pub last_in : (n : ℕ) (work rest : List (ℕ × ℕ)) (a b : ℕ) → work ≡ rest ++ (a, b) ∷ [] → PairsWithin n work → (a < n) × (b < n)
last_in n work rest a b e h = (within_parts n rest ((a, b) ∷ []) (subst (PairsWithin n) e h)).1.0
