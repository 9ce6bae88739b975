-- The coefficients of pairs whose variables rise.
use Rattle.std.proofs.Common.{◌≡◌, ℕ, ◌+◌, ◌<◌, ◌≤◌, List, [], ◌∷◌, length, get_or, drop, drop-cons, add-one, true, false, nat_eq, arith, refl, sym, ◌∙◌, ap, subst}
use Rattle.std.specs.Prelude.{if◌then◌else◌}
use Rattle.std.proofs.Math.IntN.{ℤ, pos, ◌+ℤ◌}
use Rattle.std.proofs.lemmas.Int.{ints}
use Rattle.std.proofs.lemmas.Bool.Decides.{nat_tests}
use Rattle.linear_model.specs.Forms.{coefficient, Above, IsRising}
use Rattle.lin_row.proofs.Rising.{above_lower}

-- a variable that is not above the bound has none
pub coefficient_above : (n v : ℕ) (ps : List (ℕ × ℤ)) → v ≤ n → Above n ps → coefficient ps v ≡ pos 0
coefficient_above n v [] h a = refl
coefficient_above n v (p ∷ ps) h a =
    let k = a.0 in
    let e : nat_eq p.0 v ≡ false = grind (arith, nat_tests) in
    let i = coefficient_above n v ps h a.1 in
    ap (λ b. (if b then p.1 else pos 0) +ℤ coefficient ps v) e ∙ omega (arith, ints)

head : (ps : List (ℕ × ℤ)) (i : ℕ) → i < length ps → drop i ps ≡ get_or ps i (0, pos 0) ∷ drop (i + 1) ps
head ps i h = rw (add-one, drop-cons ps i (0, pos 0)) refl

module _ (ps : List (ℕ × ℤ)) (i v : ℕ) (all : ℤ) where
  abbrev p : ℕ × ℤ
  p = get_or ps i (0, pos 0)

  rising_front : i < length ps → IsRising (drop i ps) → IsRising (p ∷ drop (i + 1) ps)
  rising_front h r = subst IsRising (head ps i h) r

  front : i < length ps → coefficient (drop i ps) v ≡ all → coefficient (p ∷ drop (i + 1) ps) v ≡ all
  front h e = ap (λ xs. coefficient xs v) (sym (head ps i h)) ∙ e

  -- the variable is found
  pub found_here : i < length ps → IsRising (drop i ps) → coefficient (drop i ps) v ≡ all → p.0 ≡ v → p.1 ≡ all
  found_here h r e f =
      let t : nat_eq p.0 v ≡ true = grind (arith, nat_tests) in
      let z = coefficient_above p.0 v (drop (i + 1) ps) (omega arith) (rising_front h r).1 in
      let g : p.1 +ℤ coefficient (drop (i + 1) ps) v ≡ all = sym (ap (λ b. (if b then p.1 else pos 0) +ℤ coefficient (drop (i + 1) ps) v) t) ∙ front h e in
      omega (arith, ints)

  -- the variables are past it
  pub found_past : i < length ps → IsRising (drop i ps) → coefficient (drop i ps) v ≡ all → v < p.0 → pos 0 ≡ all
  found_past h r e f =
      let q = rising_front h r in
      let z = coefficient_above v v (p ∷ drop (i + 1) ps) (omega arith) (f, above_lower v p.0 (drop (i + 1) ps) (omega arith) q.1) in
      sym z ∙ front h e
