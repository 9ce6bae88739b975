-- The start and the end of the walk.
use Rattle.std.proofs.Common.{◌≡◌, ℕ, suc, zero, ◌<◌, ◌+◌, List, [], ◌∷◌, ◌++◌, length, refl, sym, ap, subst, arith, Bool, true, false, ◌⊎◌, inl, inr}
use Rattle.clp_model.proofs.Membership.{Among, first, next, among_either, among_front, among_last}
use Rattle.unify_laws.proofs.Solved.{among_cases}
use Rattle.unify_closure.specs.declared.node.Node.{Node}
use Rattle.unify_closure.specs.Sorting.{latest_onto, latest, is_marked, Visit, AreUnmarked, AreEntered}
use Rattle.unify_closure.specs.Walks.{IsStack, IsKid, IsBelow, IsWalk}
use Rattle.unify_closure.proofs.Roots.{is_or_not}
use Rattle.unify_closure.proofs.Walking.{place_of, visit_of}

among_onto : {A : Type 0} (acc xs : List A) (x : A) → Among x acc → Among x (latest_onto acc xs)
among_onto acc [] x m = m
among_onto acc (y ∷ ys) x m = among_onto (y ∷ acc) ys x (next m)

to_latest : {A : Type 0} (acc xs : List A) (x : A) → Among x xs → Among x (latest_onto acc xs)
to_latest acc [] x m = elim m [ ]
to_latest acc (y ∷ ys) x m = go m (λ k. to_latest (y ∷ acc) ys x k)
  where
    go : Among x (y ∷ ys) → (Among x ys → Among x (latest_onto (y ∷ acc) ys)) → Among x (latest_onto (y ∷ acc) ys)
    go k again = among_cases k (λ e. among_onto (y ∷ acc) ys x (subst (λ z. Among z (y ∷ acc)) (sym e) first)) again

from_latest : {A : Type 0} (acc xs : List A) (x : A) → Among x (latest_onto acc xs) → Among x acc ⊎ Among x xs
from_latest acc [] x m = inl m
from_latest acc (y ∷ ys) x m = elim (from_latest (y ∷ acc) ys x m) [ inl k ↦ among_cases k (λ e. inr (subst (λ z. Among z (y ∷ ys)) (sym e) first)) (λ n. inl n) | inr k ↦ inr (next k) ]

from_all : {A : Type 0} (xs : List A) (x : A) → Among x (latest xs) → Among x xs
from_all xs x m = elim (from_latest [] xs x m) [ inl k ↦ elim k [ ] | inr k ↦ k ]

-- ---- the lists at the start
past_end : (bs : List Bool) (p : ℕ) → ((q : ℕ) → is_marked bs q ≡ false) → is_marked (bs ++ false ∷ []) p ≡ false
past_end [] zero h = refl
past_end [] (suc p) h = refl
past_end (b ∷ bs) zero h = h zero
past_end (b ∷ bs) (suc p) h = past_end bs p (λ q. h (suc q))

length_one : (bs : List Bool) → length (bs ++ false ∷ []) ≡ length bs + 1
length_one [] = refl
length_one (b ∷ bs) = let h = length_one bs in omega (arith, h)

pub unmarked_more : (n : ℕ) (bs : List Bool) → AreUnmarked n bs → AreUnmarked (n + 1) (bs ++ false ∷ [])
unmarked_more n bs h = record { count = (let l = length_one bs in let c = h.count in omega (arith, l, c)); each = λ p. past_end bs p h.each }

pub entered_more : (n : ℕ) (es : List Visit) → AreEntered n es → AreEntered (n + 1) (es ++ (n, false) ∷ [])
entered_more n es h = record { within = within; every = λ p lt. every p lt (is_or_not p n) }
  where
    within : (p : ℕ) (b : Bool) → Among (p, b) (es ++ (n, false) ∷ []) → (p < n + 1) × (b ≡ false)
    within p b m =
        elim (among_either (p, b) es ((n, false) ∷ []) m) [
          | inl k ↦ (let w = h.within p b k in (omega (arith, w.0), w.1))
          | inr k ↦ among_cases k (λ e. (let q = place_of e in omega (arith, q), visit_of e)) (λ z. elim z [ ])
        ]

    every : (p : ℕ) → p < n + 1 → (p ≡ n) ⊎ (p ≡ n → ⊥) → Among (p, false) (es ++ (n, false) ∷ [])
    every p lt (inl e) = subst (λ z. Among (z, false) (es ++ (n, false) ∷ [])) (sym e) (among_last (n, false) es)
    every p lt (inr d) = among_front (p, false) es ((n, false) ∷ []) (h.every p (omega (arith, lt, d)))

all_stack : (Kid Below : ℕ → ℕ → Type 0) (Done Above : ℕ → Type 0) (es : List Visit) → ((p : ℕ) (b : Bool) → Among (p, b) es → b ≡ false) → IsStack Kid Below Done Above es
all_stack K B D A [] h = tt
all_stack K B D A ((p, false) ∷ es) h = (tt, all_stack K B D (λ q. A q ⊎ (q ≡ p)) es (λ q b m. h q b (next m)))
all_stack K B D A ((p, true) ∷ es) h = absurd (let e = h p true first in not_both e)
  where
    not_both : true ≡ false → ⊥
    not_both e = absurd (cc)

pub walk_starts : (g : List Node) (st : List ℕ) (en lf : List Bool) (ord : List ℕ) (es : List Visit) → AreUnmarked (length g) en → AreUnmarked (length g) lf → ord ≡ [] → AreEntered (length g) es → IsWalk g st en lf (latest ord) (latest es)
walk_starts g st en lf ord es h k e m = subst (λ o. IsWalk g st en lf o (latest es)) (sym (ap latest e)) start
  where
    not_marked : (bs : List Bool) (q : ℕ) → AreUnmarked (length g) bs → is_marked bs q ≡ true → ⊥
    not_marked bs q u t = let a = u.each q in absurd (cc)

    start : IsWalk g st en lf [] (latest es)
    start = record {
      enter_count = h.count;
      left_count = k.count;
      order = tt;
      done = λ q lt t. absurd (not_marked lf q k t);
      marked = λ q n. elim n [ ];
      stack = all_stack (IsKid g st) (IsBelow g st) (λ q. Among q []) (λ q. ⊥) (latest es) (λ p b n. (m.within p b (from_all es (p, b) n)).1);
      places = λ p b n. (m.within p b (from_all es (p, b) n)).0;
      grey = λ q lt t. absurd (not_marked en q h t);
      every = λ q lt. inr (false, to_latest [] es (q, false) (m.every q lt));
    }

pub next_within : (g : List Node) (st : List ℕ) (en lf : List Bool) (ord : List ℕ) (stack rest : List Visit) (p : ℕ) (b : Bool) → stack ≡ rest ++ (p, b) ∷ [] → IsWalk g st en lf ord (latest stack) → p < length g
next_within g st en lf ord stack rest p b e w = w.places p b (to_latest [] stack (p, b) (subst (Among (p, b)) (sym e) (among_last (p, b) rest)))
