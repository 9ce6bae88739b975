-- Roots of places, and what a write does to them.
use Rattle.std.proofs.Common.{◌≡◌, ℕ, suc, zero, ◌<◌, ◌≤◌, ◌+◌, List, [], ◌∷◌, length, refl, sym, ap, ◌∙◌, subst, arith, Bool, true, false, ◌⊎◌, inl, inr}
use Rattle.std.specs.Prelude.{nat_eq, slice_index_or, slice_set}
use Rattle.std.proofs.lemmas.Bool.{eqb-true, eqb-false, eq-eqb}
use Rattle.std.proofs.lemmas.List.{get_or-set_same, get_or-set_other, get_or_default, length-set}
use Rattle.unify_closure.specs.Classes.{parent, AreParents, root_by, root, HaveSameRoots, HaveJoined, own_from, own}

not_eq : (m n : ℕ) → (m ≡ n → ⊥) → nat_eq m n ≡ false
not_eq m n h = go (nat_eq m n) refl
  where
    go : (b : Bool) → nat_eq m n ≡ b → b ≡ false
    go true e = absurd (h (eqb-true m n e))
    go false e = refl

pub is_or_not : (m n : ℕ) → (m ≡ n) ⊎ (m ≡ n → ⊥)
is_or_not m n = go (nat_eq m n) refl
  where
    go : (b : Bool) → nat_eq m n ≡ b → (m ≡ n) ⊎ (m ≡ n → ⊥)
    go true e = inl (eqb-true m n e)
    go false e = inr (eqb-false m n e)

itself_by : (turns : ℕ) (ps : List ℕ) (p : ℕ) → parent ps p ≡ p → root_by turns ps p ≡ p
unfolding root_by
itself_by zero ps p e = refl
itself_by (suc turns) ps p e = let t = eq-eqb (parent ps p) p e in rw t refl

step_by : (turns : ℕ) (ps : List ℕ) (p : ℕ) → (parent ps p ≡ p → ⊥) → root_by (suc turns) ps p ≡ root_by turns ps (parent ps p)
unfolding root_by
step_by turns ps p h = let t = not_eq (parent ps p) p h in rw t refl

-- more turns than the place's number change nothing
enough : (ps : List ℕ) → AreParents ps → (f g p : ℕ) → p < length ps → p ≤ f → p ≤ g → root_by f ps p ≡ root_by g ps p
unfolding root_by
enough ps are zero g p lt le le' = let z : parent ps p ≡ p = (let h = are p lt in omega (arith, h)) in sym (itself_by g ps p z)
enough ps are (suc f) zero p lt le le' = let z : parent ps p ≡ p = (let h = are p lt in omega (arith, h)) in itself_by (suc f) ps p z
enough ps are (suc f) (suc g) p lt le le' = go (is_or_not (parent ps p) p) (λ q a b c. enough ps are f g q a b c)
  where
    go : (parent ps p ≡ p) ⊎ (parent ps p ≡ p → ⊥) → ((q : ℕ) → q < length ps → q ≤ f → q ≤ g → root_by f ps q ≡ root_by g ps q) → root_by (suc f) ps p ≡ root_by (suc g) ps p
    go (inl e) again = itself_by (suc f) ps p e ∙ sym (itself_by (suc g) ps p e)
    go (inr d) again =
        let h = are p lt in
        let below : parent ps p < p = omega (arith, h, d) in
        step_by f ps p d ∙ again (parent ps p) (omega (arith, below)) (omega (arith, below)) (omega (arith, below)) ∙ sym (step_by g ps p d)

pub root_itself : (ps : List ℕ) (p : ℕ) → parent ps p ≡ p → root ps p ≡ p
unfolding root
root_itself ps p e = itself_by p ps p e

pub root_step : (ps : List ℕ) → AreParents ps → (p : ℕ) → p < length ps → root ps p ≡ root ps (parent ps p)
unfolding root
root_step ps are p lt = go (is_or_not (parent ps p) p)
  where
    go : (parent ps p ≡ p) ⊎ (parent ps p ≡ p → ⊥) → root ps p ≡ root ps (parent ps p)
    go (inl e) = ap (root ps) (sym e)
    go (inr d) =
        let h = are p lt in
        let below : parent ps p < p = omega (arith, h, d) in
        enough ps are p (suc p) p lt (omega arith) (omega arith) ∙ step_by p ps p d ∙ enough ps are p (parent ps p) (parent ps p) (omega (arith, below, lt)) (omega (arith, below)) (omega arith)

-- what holds of a place where it holds of its parent holds of all places
by_parents : (ps : List ℕ) → AreParents ps → (P : ℕ → Type 0) → ((p : ℕ) → p < length ps → parent ps p ≡ p → P p) → ((p : ℕ) → p < length ps → parent ps p < p → P (parent ps p) → P p) → (bound p : ℕ) → p ≤ bound → p < length ps → P p
by_parents ps are P base step zero p le lt = base p lt (let h = are p lt in omega (arith, h))
by_parents ps are P base step (suc bound) p le lt = go (is_or_not (parent ps p) p) (λ q a b. by_parents ps are P base step bound q a b)
  where
    go : (parent ps p ≡ p) ⊎ (parent ps p ≡ p → ⊥) → ((q : ℕ) → q ≤ bound → q < length ps → P q) → P p
    go (inl e) again = base p lt e
    go (inr d) again =
        let h = are p lt in
        let below : parent ps p < p = omega (arith, h, d) in
        step p lt below (again (parent ps p) (omega (arith, below)) (omega (arith, below)))

-- a root is its own parent, and not greater
pub root_is : (ps : List ℕ) → AreParents ps → (p : ℕ) → p < length ps → (root ps p ≤ p) × (parent ps (root ps p) ≡ root ps p)
root_is ps are p lt =
    by_parents ps are (λ q. (root ps q ≤ q) × (parent ps (root ps q) ≡ root ps q))
    (λ q a e. let r = root_itself ps q e in (omega (arith, r), ap (parent ps) r ∙ e ∙ sym r))
    (λ q a below k. let r = root_step ps are q a in (omega (arith, r, k.0, below), ap (parent ps) r ∙ k.1 ∙ sym r))
    p p (omega arith) lt

pub root_of_root : (ps : List ℕ) → AreParents ps → (p : ℕ) → p < length ps → root ps (root ps p) ≡ root ps p
root_of_root ps are p lt = root_itself ps (root ps p) (root_is ps are p lt).1

pub own_parent : (ps : List ℕ) → AreParents ps → (p : ℕ) → p < length ps → root ps p ≡ p → parent ps p ≡ p
own_parent ps are p lt e = ap (parent ps) (sym e) ∙ (root_is ps are p lt).1 ∙ e

-- ---- one write
written : (ps : List ℕ) (at v p : ℕ) → at < length ps → (p ≡ at) → parent (slice_set ps at v) p ≡ v
written ps at v p lt e = subst (λ q. parent (slice_set ps at v) q ≡ v) (sym e) (get_or-set_same ps at v 0 lt)

kept : (ps : List ℕ) (at v p : ℕ) → (p ≡ at → ⊥) → parent (slice_set ps at v) p ≡ parent ps p
kept ps at v p h = get_or-set_other ps at p v 0 h

pub parents_written : (ps : List ℕ) → AreParents ps → (at v : ℕ) → at < length ps → v ≤ at → AreParents (slice_set ps at v)
parents_written ps are at v lt le p lt' = go (is_or_not p at)
  where
    below : p < length ps
    below = subst (λ m. p < m) (length-set ps at v) lt'

    go : (p ≡ at) ⊎ (p ≡ at → ⊥) → parent (slice_set ps at v) p ≤ p
    go (inl e) = let w = written ps at v p lt e in omega (arith, w, le, e)
    go (inr d) = let w = kept ps at v p d in let h = are p below in omega (arith, w, h)

module _ (ps : List ℕ) (are : AreParents ps) (at v : ℕ) (lt : at < length ps) (le : v ≤ at) where
  abbrev qs : List ℕ
  qs = slice_set ps at v

  new_are : AreParents qs
  new_are = parents_written ps are at v lt le

  new_within : (p : ℕ) → p < length ps → p < length qs
  new_within p h = subst (λ m. p < m) (sym (length-set ps at v)) h

  module _ (e : root ps v ≡ root ps at) (low : v < at) where
    same_up_to : (bound p : ℕ) → p ≤ bound → p < length ps → root qs p ≡ root ps p
    same_up_to zero p h lt' =
        let away : p ≡ at → ⊥ = λ x. absurd (omega (arith, x, low, h)) in
        let top : parent ps p ≡ p = (let k = are p lt' in omega (arith, k, h)) in
        root_itself qs p (kept ps at v p away ∙ top) ∙ sym (root_itself ps p top)
    same_up_to (suc bound) p h lt' = go (is_or_not p at) (is_or_not (parent ps p) p) (λ q a b. same_up_to bound q a b)
      where
        go : (p ≡ at) ⊎ (p ≡ at → ⊥) → (parent ps p ≡ p) ⊎ (parent ps p ≡ p → ⊥) → ((q : ℕ) → q ≤ bound → q < length ps → root qs q ≡ root ps q) → root qs p ≡ root ps p
        go (inl x) w again =
            root_step qs new_are p (new_within p lt') ∙ ap (root qs) (written ps at v p lt x) ∙ again v (omega (arith, x, low, h)) (omega (arith, low, lt)) ∙ e ∙ ap (root ps) (sym x)
        go (inr d) (inl top) again = root_itself qs p (kept ps at v p d ∙ top) ∙ sym (root_itself ps p top)
        go (inr d) (inr up) again =
            let k = are p lt' in
            let below : parent ps p < p = omega (arith, k, up) in
            root_step qs new_are p (new_within p lt') ∙ ap (root qs) (kept ps at v p d) ∙ again (parent ps p) (omega (arith, below, h)) (omega (arith, below, lt')) ∙ sym (root_step ps are p lt')

    -- a place of the same class, nearer to the root
    pub same_roots : HaveSameRoots ps qs
    same_roots = record { count = length-set ps at v; same = λ p h. same_up_to p p (omega arith) h }

  -- one class of two
  pub joined : root ps v ≡ v → root ps at ≡ at → v < at → (p : ℕ) → p < length ps → ((root ps p ≡ at) → root qs p ≡ v) × ((root ps p ≡ at → ⊥) → root qs p ≡ root ps p)
  joined e e' low p h = by_parents ps are (λ q. ((root ps q ≡ at) → root qs q ≡ v) × ((root ps q ≡ at → ⊥) → root qs q ≡ root ps q)) base step p p (omega arith) h
    where
      v_within : v < length ps
      v_within = omega (arith, low, lt)

      v_root : root qs v ≡ v
      v_root = root_itself qs v (kept ps at v v (λ q. absurd (omega (arith, q, low))) ∙ own_parent ps are v v_within e)

      base : (q : ℕ) → q < length ps → parent ps q ≡ q → ((root ps q ≡ at) → root qs q ≡ v) × ((root ps q ≡ at → ⊥) → root qs q ≡ root ps q)
      base q h s = (
        (λ r. let x : q ≡ at = sym (root_itself ps q s) ∙ r in root_step qs new_are q (new_within q h) ∙ ap (root qs) (written ps at v q lt x) ∙ v_root),
        (λ d. root_itself qs q (kept ps at v q (λ x. d (root_itself ps q s ∙ x)) ∙ s) ∙ sym (root_itself ps q s)),
      )

      step : (q : ℕ) → q < length ps → parent ps q < q → ((root ps (parent ps q) ≡ at) → root qs (parent ps q) ≡ v) × ((root ps (parent ps q) ≡ at → ⊥) → root qs (parent ps q) ≡ root ps (parent ps q)) → ((root ps q ≡ at) → root qs q ≡ v) × ((root ps q ≡ at → ⊥) → root qs q ≡ root ps q)
      step q h below k =
          let up = root_step ps are q h in
          let away : q ≡ at → ⊥ = λ x. absurd (let o = own_parent ps are at lt e' in let y : parent ps q ≡ q = subst (λ z. parent ps z ≡ z) (sym x) o in omega (arith, y, below)) in
          let next : root qs q ≡ root qs (parent ps q) = root_step qs new_are q (new_within q h) ∙ ap (root qs) (kept ps at v q away) in
          ((λ r. next ∙ k.0 (sym up ∙ r)), (λ d. next ∙ k.1 (λ r. d (up ∙ r)) ∙ sym up))

-- ---- how many places are roots
one_less : (i : ℕ) (ps : List ℕ) (k v : ℕ) → k < length ps → slice_index_or ps k 0 ≡ i + k → (v ≡ i + k → ⊥) → own_from i (slice_set ps k v) + 1 ≡ own_from i ps
unfolding own_from
one_less i [] k v lt e d = absurd (omega (arith, lt))
one_less i (p ∷ ps) zero v lt e d =
    let a : nat_eq p i ≡ true = eq-eqb p i (omega (arith, e)) in
    let b : nat_eq v i ≡ false = not_eq v i (λ q. d (omega (arith, q))) in
    rw (a, b) (omega arith)
one_less i (p ∷ ps) (suc k) v lt e d =
    let at : i + suc k ≡ suc i + k = omega arith in
    let h = one_less (suc i) ps k v (omega (arith, lt)) (e ∙ at) (λ q. d (q ∙ sym at)) in
    omega (arith, h)

as_many : (i : ℕ) (ps : List ℕ) (k v : ℕ) → k < length ps → (slice_index_or ps k 0 ≡ i + k → ⊥) → (v ≡ i + k → ⊥) → own_from i (slice_set ps k v) ≡ own_from i ps
unfolding own_from
as_many i [] k v lt e d = absurd (omega (arith, lt))
as_many i (p ∷ ps) zero v lt e d =
    let a : nat_eq p i ≡ false = not_eq p i (λ q. e (omega (arith, q))) in
    let b : nat_eq v i ≡ false = not_eq v i (λ q. d (omega (arith, q))) in
    rw (a, b) refl
as_many i (p ∷ ps) (suc k) v lt e d =
    let at : i + suc k ≡ suc i + k = omega arith in
    let h = as_many (suc i) ps k v (omega (arith, lt)) (λ q. e (q ∙ sym at)) (λ q. d (q ∙ sym at)) in
    omega (arith, h)

pub own_less : (ps : List ℕ) (k v : ℕ) → k < length ps → parent ps k ≡ k → (v ≡ k → ⊥) → own (slice_set ps k v) + 1 ≡ own ps
unfolding own
own_less ps k v lt e d = let z : 0 + k ≡ k = omega arith in one_less 0 ps k v lt (e ∙ sym z) (λ q. d (q ∙ z))

pub own_same : (ps : List ℕ) (k v : ℕ) → k < length ps → (parent ps k ≡ k → ⊥) → (v ≡ k → ⊥) → own (slice_set ps k v) ≡ own ps
unfolding own
own_same ps k v lt e d = let z : 0 + k ≡ k = omega arith in as_many 0 ps k v lt (λ q. e (q ∙ z)) (λ q. d (q ∙ z))

-- ---- what find and join owe
pub same_twice : (a b c : List ℕ) → HaveSameRoots a b → HaveSameRoots b c → HaveSameRoots a c
same_twice a b c h k = record {
  count = k.count ∙ h.count;
  same = λ p lt. k.same p (subst (λ m. p < m) (sym h.count) lt) ∙ h.same p lt;
}

pub is_joined : (ps : List ℕ) → AreParents ps → (low high a b : ℕ) → high < length ps → low < high → root ps low ≡ low → root ps high ≡ high → ((low ≡ a) × (high ≡ b)) ⊎ ((low ≡ b) × (high ≡ a)) → HaveJoined ps (slice_set ps high low) a b low
is_joined ps are low high a b lt below rl rh w = record {
  count = length-set ps high low;
  one = elim w [ inl q ↦ inl q.0 | inr q ↦ inr q.0 ];
  of_a = λ p h r. elim w [ inl q ↦ of_low p h (r ∙ sym q.0) | inr q ↦ (joined ps are high low lt le rl rh below p h).0 (r ∙ sym q.1) ];
  of_b = λ p h r. elim w [ inl q ↦ (joined ps are high low lt le rl rh below p h).0 (r ∙ sym q.1) | inr q ↦ of_low p h (r ∙ sym q.0) ];
  of_others = λ p h na nb. (joined ps are high low lt le rl rh below p h).1 (λ r. elim w [ inl q ↦ nb (r ∙ q.1) | inr q ↦ na (r ∙ q.1) ]);
}
  where
    le : low ≤ high
    le = omega (arith, below)

    of_low : (p : ℕ) → p < length ps → root ps p ≡ low → root (slice_set ps high low) p ≡ low
    of_low p h r = (joined ps are high low lt le rl rh below p h).1 (λ q. absurd (omega (arith, below, r, q))) ∙ r

-- a place learns its parent's parent
pub record Halved (ps : List ℕ) (at next : ℕ) : Type 0 where
  pub up_within : parent ps at < length ps
  pub low : next < at
  pub are : AreParents (slice_set ps at next)
  pub same : HaveSameRoots ps (slice_set ps at next)
  pub own_is : own (slice_set ps at next) ≡ own ps
  pub within : next < length (slice_set ps at next)
  pub root_is : root (slice_set ps at next) next ≡ root ps at

pub halved : (ps : List ℕ) → AreParents ps → (at : ℕ) → at < length ps → (parent ps at ≡ at → ⊥) → Halved ps at (parent ps (parent ps at))
halved ps are at lt d =
    let one = are at lt in
    let below : parent ps at < at = omega (arith, one, d) in
    let up : parent ps at < length ps = omega (arith, below, lt) in
    let two = are (parent ps at) up in
    let low : parent ps (parent ps at) < at = omega (arith, two, below) in
    let le : parent ps (parent ps at) ≤ at = omega (arith, low) in
    let next_within : parent ps (parent ps at) < length ps = omega (arith, low, lt) in
    let e : root ps (parent ps (parent ps at)) ≡ root ps at = sym (root_step ps are (parent ps at) up) ∙ sym (root_step ps are at lt) in
    let same = same_roots ps are at (parent ps (parent ps at)) lt le e low in
    record {
      up_within = up;
      low = low;
      are = parents_written ps are at (parent ps (parent ps at)) lt le;
      same = same;
      own_is = own_same ps at (parent ps (parent ps at)) lt d (λ q. absurd (omega (arith, q, low)));
      within = subst (λ m. parent ps (parent ps at) < m) (sym same.count) next_within;
      root_is = same.same (parent ps (parent ps at)) next_within ∙ e;
    }

pub up_within : (ps : List ℕ) → AreParents ps → (at : ℕ) → at < length ps → parent ps at < length ps
up_within ps are at lt = let h = are at lt in omega (arith, h, lt)

pub joined_first : (ps : List ℕ) → AreParents ps → (a b : ℕ) → b < length ps → a < b → root ps a ≡ a → root ps b ≡ b → HaveJoined ps (slice_set ps b a) a b a
joined_first ps are a b lt below ra rb = is_joined ps are a b a b lt below ra rb (inl (refl, refl))

pub joined_second : (ps : List ℕ) → AreParents ps → (a b : ℕ) → a < length ps → b ≤ a → (a ≡ b → ⊥) → root ps a ≡ a → root ps b ≡ b → HaveJoined ps (slice_set ps a b) a b b
joined_second ps are a b lt le d ra rb = is_joined ps are b a a b lt (omega (arith, le, d)) rb ra (inr (refl, refl))

-- what a read gives, at the default 0
pub read : (ps : List ℕ) (i x : ℕ) → x ≡ slice_index_or ps i x → i < length ps → x ≡ parent ps i
read ps i x e lt = e ∙ get_or_default ps i x 0 lt

pub halved_by : (ps : List ℕ) → AreParents ps → (at : ℕ) → at < length ps → (one up next : ℕ) → one ≡ slice_index_or ps at one → (one ≡ at → ⊥) → up ≡ slice_index_or ps at up → next ≡ slice_index_or ps up next → Halved ps at next
halved_by ps are at lt one up next e d e' e'' =
    let a = read ps at one e lt in
    let b = read ps at up e' lt in
    let up_in : up < length ps = subst (λ m. m < length ps) (sym b) (up_within ps are at lt) in
    let c : next ≡ parent ps (parent ps at) = read ps up next e'' up_in ∙ ap (parent ps) b in
    subst (Halved ps at) (sym c) (halved ps are at lt (λ q. d (a ∙ q)))
