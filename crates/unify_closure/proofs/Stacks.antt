-- The stack of places that are entered and left.
use Rattle.std.proofs.Common.{◌≡◌, ℕ, suc, zero, ◌<◌, ◌+◌, List, [], ◌∷◌, ◌++◌, length, refl, sym, subst, arith, Bool, true, false, ◌⊎◌, inl, inr}
use Rattle.std.specs.Prelude.{slice_set}
use Rattle.clp_model.proofs.Membership.{Among, first, next}
use Rattle.unify_laws.proofs.Solved.{among_cases}
use Rattle.unify_closure.specs.Walks.{IsVisit, IsStack}
use Rattle.unify_closure.specs.Sorting.{latest_onto, is_marked, Visit, entering, unmarked}

pub latest_both : {A : Type 0} (acc xs ys : List A) → latest_onto acc (xs ++ ys) ≡ latest_onto (latest_onto acc xs) ys
latest_both acc [] ys = refl
latest_both acc (x ∷ xs) ys = latest_both (x ∷ acc) xs ys

pub fewer_unmarked : (bs : List Bool) (i : ℕ) → i < length bs → is_marked bs i ≡ false → unmarked (slice_set bs i true) + 1 ≡ unmarked bs
fewer_unmarked [] i lt e = absurd (omega (arith, lt))
fewer_unmarked (true ∷ bs) zero lt e = absurd (cc)
fewer_unmarked (false ∷ bs) zero lt e = omega arith
fewer_unmarked (true ∷ bs) (suc i) lt e = fewer_unmarked bs i (omega (arith, lt)) e
fewer_unmarked (false ∷ bs) (suc i) lt e = let h = fewer_unmarked bs i (omega (arith, lt)) e in omega (arith, h)

-- ---- the stack, the last visit first
module _ (Kid : ℕ → ℕ → Type 0) (Below : ℕ → ℕ → Type 0) (below_twice : (x y z : ℕ) → Below x y → Below y z → Below x z) where
  AtMost : ℕ → ℕ → Type 0
  AtMost x y = (x ≡ y) ⊎ Below x y

  -- other places above, and more done
  pub changed : (Done Done' Above Above' : ℕ → Type 0) → ((q : ℕ) → Done q → Done' q) → ((q : ℕ) → Above q → Above' q ⊎ Done' q) → ((x : ℕ) → Above' x → (y : ℕ) × Above y × ((x ≡ y) ⊎ Below x y)) → (es : List Visit) → IsStack Kid Below Done Above es → IsStack Kid Below Done' Above' es
  changed D D' A A' d a k [] s = tt
  changed D D' A A' d a k ((p, b) ∷ es) s = (visit b s.0, changed D D' (λ q. A q ⊎ (q ≡ p)) (λ q. A' q ⊎ (q ≡ p)) d more down es s.1)
    where
      more : (q : ℕ) → A q ⊎ (q ≡ p) → (A' q ⊎ (q ≡ p)) ⊎ D' q
      more q (inl h) = elim (a q h) [ inl x ↦ inl (inl x) | inr x ↦ inr x ]
      more q (inr e) = inl (inr e)

      down : (x : ℕ) → A' x ⊎ (x ≡ p) → (y : ℕ) × (A y ⊎ (y ≡ p)) × ((x ≡ y) ⊎ Below x y)
      down x (inl h) = let w = k x h in (w.0, inl w.1, w.2)
      down x (inr e) = (p, inr refl, inl e)

      visit : (b : Bool) → IsVisit Kid Below D A (p, b) → IsVisit Kid Below D' A' (p, b)
      visit false h = tt
      visit true h = (
        (λ q c. elim (h.0 q c) [ inl x ↦ inl (d q x) | inr x ↦ (elim (a q x) [ inl y ↦ inr y | inr y ↦ inl y ]) ]),
        (λ x y. let w = k x y in elim w.2 [ inl e ↦ subst (λ z. Below z p) (sym e) (h.1 w.0 w.1) | inr l ↦ below_twice x w.0 p l (h.1 w.0 w.1) ]),
      )

  -- kids are entered
  pub entered : (Done Above : ℕ → Type 0) (ks : List ℕ) (es : List Visit) → IsStack Kid Below Done (λ q. Above q ⊎ Among q ks) es → IsStack Kid Below Done Above (latest_onto es (entering ks))
  entered D A [] es s = changed D D (λ q. A q ⊎ Among q []) A (λ q h. h) none (λ x h. (x, inl h, inl refl)) es s
    where
      none : (q : ℕ) → A q ⊎ Among q [] → A q ⊎ D q
      none q (inl h) = inl h
      none q (inr m) = elim m [ ]
  entered D A (x ∷ ks) es s =
      entered D A ks ((x, false) ∷ es) (tt, changed D D (λ q. A q ⊎ Among q (x ∷ ks)) (λ q. (A q ⊎ Among q ks) ⊎ (q ≡ x)) (λ q h. h) more down es s)
    where
      more : (q : ℕ) → A q ⊎ Among q (x ∷ ks) → ((A q ⊎ Among q ks) ⊎ (q ≡ x)) ⊎ D q
      more q (inl h) = inl (inl (inl h))
      more q (inr m) = inl (among_cases m (λ e. inr e) (λ n. inl (inr n)))

      down : (y : ℕ) → (A y ⊎ Among y ks) ⊎ (y ≡ x) → (z : ℕ) × (A z ⊎ Among z (x ∷ ks)) × ((y ≡ z) ⊎ Below y z)
      down y (inl (inl h)) = (y, inl h, inl refl)
      down y (inl (inr m)) = (y, inr (next m), inl refl)
      down y (inr e) = (y, inr (subst (λ z. Among z (x ∷ ks)) (sym e) first), inl refl)

  -- what is above a place that is to be left is below it
  pub below_left : (Done Above : ℕ → Type 0) (p x : ℕ) (es : List Visit) → IsStack Kid Below Done Above es → Above x → Among (p, true) es → Below x p
  below_left D A p x [] s h m = elim m [ ]
  below_left D A p x (e ∷ es) s h m = go m (λ n. below_left D (λ q. A q ⊎ (q ≡ e.0)) p x es s.1 (inl h) n)
    where
      here : (p, true) ≡ e → Below x p
      here q = (subst (IsVisit Kid Below D A) (sym q) s.0).1 x h

      go : Among (p, true) (e ∷ es) → (Among (p, true) es → Below x p) → Below x p
      go n again = among_cases n here again
