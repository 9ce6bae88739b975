-- Each v over d has just one fraction in lowest terms.
use Rattle.std.proofs.Common.{◌≡◌, ℕ, zero, suc, ◌+◌, ◌*◌, ◌<◌, ◌≤◌, ◌%◌, ◌/◌, ◌-◌, ◌⊎◌, inl, inr, arith, refl, sym, ◌∙◌, ap, subst}
use Rattle.std.proofs.Math.IntN.{ℤ, pos, negsuc, neg_ℤ, ◌*ℤ◌, *ℤ_comm, pos-*ℤ-pos, negsuc-*ℤ-pos, neg_ℤ-neg_ℤ, nat_abs}
use Rattle.std.proofs.lemmas.Nat.{div-add-mod'}
use native.Mathlib.Bridge.{le_prop}
use Rattle.clp_rationals.specs.Fraction.{Fraction, IsLowest, IsOver}
use Rattle.clp_rationals.proofs.Whole.{by_sign, neg_mul, mul_assoc_ℤ}
use Rattle.std.proofs.Math.Nat.{mul-mod_left}

-- ---- cancelling
pub cancel_ℕ : (a b k : ℕ) → a * suc k ≡ b * suc k → a ≡ b
cancel_ℕ zero zero k e = refl
cancel_ℕ zero (suc b) k e = absurd (omega arith)
cancel_ℕ (suc a) zero k e = absurd (omega arith)
cancel_ℕ (suc a) (suc b) k e = let h : a * suc k ≡ b * suc k = omega arith in ap suc (cancel_ℕ a b k h)

pos_same : (m n : ℕ) → pos m ≡ pos n → m ≡ n
pos_same m n e = cc

not_opposite : (m x : ℕ) → 0 < x → pos m ≡ neg_ℤ (pos x) → ⊥
not_opposite m zero h e = absurd (omega arith)
not_opposite m (suc x) h e = cc

opposite_same : (x y : ℕ) → neg_ℤ (pos x) ≡ neg_ℤ (pos y) → x ≡ y
opposite_same x y e =
    pos_same x y (sym (neg_ℤ-neg_ℤ (pos x)) ∙ (ap neg_ℤ e ∙ neg_ℤ-neg_ℤ (pos y)))

cancel_suc : (a b : ℤ) (k : ℕ) → a *ℤ pos (suc k) ≡ b *ℤ pos (suc k) → a ≡ b
cancel_suc (pos m) (pos n) k e =
    ap pos (cancel_ℕ m n k (pos_same _ _ (sym (pos-*ℤ-pos m (suc k)) ∙ (e ∙ pos-*ℤ-pos n (suc k)))))
cancel_suc (pos m) (negsuc n) k e =
    absurd (not_opposite (m * suc k) (suc n * suc k) (omega arith) (sym (pos-*ℤ-pos m (suc k)) ∙ (e ∙ negsuc-*ℤ-pos n (suc k))))
cancel_suc (negsuc m) (pos n) k e =
    absurd (not_opposite (n * suc k) (suc m * suc k) (omega arith) (sym (pos-*ℤ-pos n (suc k)) ∙ (sym e ∙ negsuc-*ℤ-pos m (suc k))))
cancel_suc (negsuc m) (negsuc n) k e =
    let h : suc m ≡ suc n = cancel_ℕ (suc m) (suc n) k (opposite_same (suc m * suc k) (suc n * suc k) (sym (negsuc-*ℤ-pos m (suc k)) ∙ (e ∙ negsuc-*ℤ-pos n (suc k)))) in
    ap negsuc (omega arith)

pub cancel_ℤ : (a b : ℤ) (k : ℕ) → 0 < k → a *ℤ pos k ≡ b *ℤ pos k → a ≡ b
cancel_ℤ a b zero h e = absurd (omega arith)
cancel_ℤ a b (suc k) h e = cancel_suc a b k e

-- ---- one fraction at most
-- a product of three, with the last two the other way round
swap_last : (a b c : ℤ) → (a *ℤ b) *ℤ c ≡ (a *ℤ c) *ℤ b
swap_last a b c = mul_assoc_ℤ a b c ∙ (ap (λ z. a *ℤ z) (*ℤ_comm b c) ∙ sym (mul_assoc_ℤ a c b))

crossed : (v : ℤ) (d : ℕ) → 0 < d → (f g : Fraction) → IsOver v d f → IsOver v d g → g.num *ℤ pos f.den ≡ f.num *ℤ pos g.den
crossed v d h f g over over' =
    cancel_ℤ _ _ d h
    (swap_last g.num (pos f.den) (pos d) ∙ (ap (λ z. z *ℤ pos f.den) over' ∙ (swap_last v (pos g.den) (pos f.den) ∙ (ap (λ z. z *ℤ pos g.den) (sym over) ∙ swap_last f.num (pos d) (pos g.den)))))

same_fraction : (f g : Fraction) → f.num ≡ g.num → f.den ≡ g.den → f ≡ g
same_fraction f g e e' =
    let one : ℤ → Fraction = λ n. record { num = n; den = f.den } in
    let two : ℕ → Fraction = λ d. record { num = g.num; den = d } in
    ap one e ∙ ap two e'

pub only_one : (v : ℤ) (d : ℕ) → 0 < d → (f g : Fraction) → IsLowest f → IsLowest g → IsOver v d f → IsOver v d g → f ≡ g
only_one v d h f g low low' over over' =
    let fg = low.least g.num g.den low'.positive (crossed v d h f g over over') in
    let gf = low'.least f.num f.den low.positive (crossed v d h g f over' over) in
    let dens : f.den ≡ g.den = omega arith in
    let nums : f.num ≡ g.num = cancel_ℤ f.num g.num g.den low'.positive (sym (crossed v d h f g over over') ∙ ap (λ n. g.num *ℤ pos n) dens) in
    same_fraction f g nums dens

pub lowest_prop : (f : Fraction) → IsProp (IsLowest f)
lowest_prop f = hlevel le_prop

-- ---- one fraction at least: the least denominator by a bounded search
-- q is the least number from 1 on at which d divides n * q
pub record IsFirst (n d q : ℕ) : Type 0 where
  pub positive : 0 < q
  pub divides : n * q % d ≡ 0
  pub least : (p : ℕ) → 0 < p → n * p % d ≡ 0 → q ≤ p

is_zero : (k : ℕ) → (k ≡ 0) ⊎ (k ≡ 0 → ⊥)
is_zero zero = inl refl
is_zero (suc k) = inr (λ e. omega arith)

further : (n d q p : ℕ) → (n * q % d ≡ 0 → ⊥) → q ≤ p → n * p % d ≡ 0 → q + 1 ≤ p
further n d q p bad le z =
    elim (is_zero (p - q)) [
      | inl e ↦ let same : p ≡ q = omega arith in absurd (bad (subst (λ x. n * x % d ≡ 0) same z))
      | inr ne ↦ omega arith
    ]

search_from : (n d : ℕ) → 0 < d → (fuel q : ℕ) → q + fuel ≡ d → 0 < q → ((p : ℕ) → 0 < p → n * p % d ≡ 0 → q ≤ p) → (r : ℕ) × IsFirst n d r
search_from n d h zero q e up least =
    let same : q ≡ d = omega arith in
    (q, record { positive = up; divides = rw same (mul-mod_left n d); least = least })
search_from n d h (suc fuel) q e up least =
    elim (is_zero (n * q % d)) [
      | inl z ↦ (q, record { positive = up; divides = z; least = least })
      | inr bad ↦ search_from n d h fuel (q + 1) (omega arith) (omega arith) (λ p hp hz. further n d q p bad (least p hp hz) hz)
    ]

first : (n d : ℕ) → 0 < d → (r : ℕ) × IsFirst n d r
first n d h = search_from n d h (d - 1) 1 (omega arith) (omega arith) (λ p hp hz. omega arith)

-- the numerator over that denominator
whole : (n q d : ℕ) → n * q % d ≡ 0 → pos (n * q / d) *ℤ pos d ≡ pos n *ℤ pos q
whole n q d e =
    let h : n * q / d * d ≡ n * q = omega (arith, div-add-mod' (n * q) d) in
    pos-*ℤ-pos (n * q / d) d ∙ (ap pos h ∙ sym (pos-*ℤ-pos n q))

abs_neg : (n q d : ℕ) → nat_abs (neg_ℤ (pos n)) * q % d ≡ 0 → n * q % d ≡ 0
abs_neg zero q d e = e
abs_neg (suc n) q d e = e

abs_back : (n q d : ℕ) → n * q % d ≡ 0 → nat_abs (neg_ℤ (pos n)) * q % d ≡ 0
abs_back zero q d e = e
abs_back (suc n) q d e = e

-- a product that is a multiple of d
multiple : (a : ℤ) (n q d : ℕ) → 0 < d → a *ℤ pos d ≡ pos n *ℤ pos q → n * q % d ≡ 0
multiple (pos m) n q d h e =
    let k : m * d ≡ n * q = pos_same _ _ (sym (pos-*ℤ-pos m d) ∙ (e ∙ pos-*ℤ-pos n q)) in rw (← k) (mul-mod_left m d)
multiple (negsuc m) n q zero h e = absurd (omega arith)
multiple (negsuc m) n q (suc d) h e =
    absurd (not_opposite (n * q) (suc m * suc d) (omega arith) (sym (pos-*ℤ-pos n q) ∙ (sym e ∙ negsuc-*ℤ-pos m (suc d))))

over_of : (v : ℤ) (q d : ℕ) → 0 < d → nat_abs v * q % d ≡ 0 → (p : ℤ) × (p *ℤ pos d ≡ v *ℤ pos q)
over_of v q d h =
    by_sign (λ z. nat_abs z * q % d ≡ 0 → (p : ℤ) × (p *ℤ pos d ≡ z *ℤ pos q))
    (λ n e. (pos (n * q / d), whole n q d e))
    (λ n e. (neg_ℤ (pos (n * q / d)), neg_mul (pos (n * q / d)) (pos d) ∙ (ap neg_ℤ (whole n q d (abs_neg n q d e)) ∙ sym (neg_mul (pos n) (pos q))))) v

multiple_ℤ : (v a : ℤ) (q d : ℕ) → 0 < d → a *ℤ pos d ≡ v *ℤ pos q → nat_abs v * q % d ≡ 0
multiple_ℤ v a q d h =
    by_sign (λ z. a *ℤ pos d ≡ z *ℤ pos q → nat_abs z * q % d ≡ 0)
    (λ n e. multiple a n q d h e)
    (λ n e. abs_back n q d (multiple (neg_ℤ a) n q d h (neg_mul a (pos d) ∙ (ap neg_ℤ (e ∙ neg_mul (pos n) (pos q)) ∙ neg_ℤ-neg_ℤ (pos n *ℤ pos q))))) v

-- whatever equals the fraction is over v and d too
divides_of : (v : ℤ) (d : ℕ) → (f : Fraction) (p : ℤ) (q : ℕ) → 0 < f.den → IsOver v d f → p *ℤ pos f.den ≡ f.num *ℤ pos q → p *ℤ pos d ≡ v *ℤ pos q
divides_of v d f p q h over e =
    cancel_ℤ _ _ f.den h
    (swap_last p (pos d) (pos f.den) ∙ (ap (λ z. z *ℤ pos d) e ∙ (swap_last f.num (pos q) (pos d) ∙ (ap (λ z. z *ℤ pos q) over ∙ swap_last v (pos f.den) (pos q)))))

pub lowest_over : (v : ℤ) (d : ℕ) → 0 < d → (f : Fraction) × IsLowest f × IsOver v d f
lowest_over v d h =
    let q = first (nat_abs v) d h in
    let p = over_of v q.0 d h q.1.divides in
    let f : Fraction = record { num = p.0; den = q.0 } in
    (f, record { positive = q.1.positive; least = λ p' q' hq e. q.1.least q' hq (multiple_ℤ v p' q' d h (divides_of v d f p' q' q.1.positive p.1 e)) }, p.1)
