-- Where a variable's coefficient is found.
use Rattle.std.proofs.Common.{◌≡◌, ℕ, ◌+◌, ◌<◌, ◌≤◌, List, [], ◌∷◌, length, get_or, drop, drop-cons, add-one, Bool, true, false, arith, refl, sym, ◌∙◌, ap, subst}
use Rattle.std.specs.Prelude.{unsigned_abs, nat_eq, All, if◌then◌else◌}
use Rattle.std.specs.List.{AllByRecursion}
use Rattle.std.proofs.lemmas.List.Elements.{recursion_from_All}
use Rattle.std.proofs.Math.IntN.{ℤ, pos, ◌+ℤ◌}
use Rattle.std.proofs.lemmas.Int.{ints}
use Rattle.std.proofs.lemmas.Bool.Decides.{nat_tests}
use Rattle.linear_model.specs.Forms.{coefficient, IsRising}
use Rattle.linear_model.specs.Normal.{limit}
use Rattle.linear_laws.proofs.Rising.{absent, first_coefficient, first_is_least}

head : (ps : List (ℕ × ℤ)) (i : ℕ) → i < length ps → drop i ps ≡ get_or ps i (0, pos 0) ∷ drop (i + 1) ps
head ps i h = rw (add-one, drop-cons ps i (0, pos 0)) refl

pub found : (ps : List (ℕ × ℤ)) (i v : ℕ) (all : ℤ) → i < length ps → IsRising (drop i ps) → (get_or ps i (0, pos 0)).0 ≡ v → coefficient (drop i ps) v ≡ all → (get_or ps i (0, pos 0)).1 ≡ all
found ps i v all h r e f =
    let p = get_or ps i (0, pos 0) in
    let a = head ps i h in
    let k = first_coefficient p (drop (i + 1) ps) (subst IsRising a r) in
    sym k ∙ (ap (coefficient (p ∷ drop (i + 1) ps)) e ∙ (ap (λ qs. coefficient qs v) (sym a) ∙ f))

pub passed : (ps : List (ℕ × ℤ)) (i v : ℕ) (all : ℤ) → i < length ps → IsRising (drop i ps) → v < (get_or ps i (0, pos 0)).0 → coefficient (drop i ps) v ≡ all → pos 0 ≡ all
passed ps i v all h r l f =
    let p = get_or ps i (0, pos 0) in
    let a = head ps i h in
    let k = first_is_least p (drop (i + 1) ps) v (subst IsRising a r) l in
    sym k ∙ (ap (λ qs. coefficient qs v) (sym a) ∙ f)

-- a coefficient is 0 or one of the pairs'
one_more : (n v : ℕ) (c rest : ℤ) (b : Bool) → unsigned_abs c ≤ limit → (b ≡ false → unsigned_abs rest ≤ limit) → (b ≡ true → rest ≡ pos 0) → unsigned_abs ((if b then c else pos 0) +ℤ rest) ≤ limit
one_more n v c rest true h k z = let e = z refl in let f : c +ℤ rest ≡ c = omega (arith, ints) in subst (λ z. unsigned_abs z ≤ limit) (sym f) h
one_more n v c rest false h k z = let e = k refl in let f : pos 0 +ℤ rest ≡ rest = omega (arith, ints) in subst (λ z. unsigned_abs z ≤ limit) (sym f) e

small_of : (ps : List (ℕ × ℤ)) (v : ℕ) → IsRising ps → AllByRecursion (λ p. unsigned_abs p.1 ≤ limit) ps → unsigned_abs (coefficient ps v) ≤ limit
small_of [] v r a = omega arith
small_of (p ∷ ps) v r a =
    one_more p.0 v p.1 (coefficient ps v) (nat_eq p.0 v) a.0 (λ e. small_of ps v r.2 a.1)
    (λ e. let f : p.0 ≡ v = grind (arith, nat_tests) in subst (λ n. coefficient ps n ≡ pos 0) f (absent p.0 ps r.1))

pub coefficient_small : (ps : List (ℕ × ℤ)) (v : ℕ) → IsRising ps → All (λ p. unsigned_abs p.1 ≤ limit) ps → unsigned_abs (coefficient ps v) ≤ limit
coefficient_small ps v r a = small_of ps v r (recursion_from_All (λ p. unsigned_abs p.1 ≤ limit) ps a)
