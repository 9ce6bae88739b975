-- Fractions are the same value exactly where their cross products are equal.
use Rattle.std.proofs.Common.{◌≡◌, ℕ, ◌<◌, ◌*◌, sym, ◌∙◌, ap, subst}
use Rattle.std.proofs.Math.IntN.{ℤ, pos, ◌*ℤ◌, *ℤ_comm, pos-*ℤ-pos}
use mathlib.Core.HLevel.{Σ_prop_path}
use Rattle.clp_rationals.specs.Fraction.{Fraction, IsLowest, IsOver}
use Rattle.clp_rationals.proofs.Whole.{mul_assoc_ℤ}
use Rattle.clp_rationals.proofs.Lowest.{cancel_ℤ, only_one, lowest_prop, lowest_over}
use Rattle.clp_model.specs.Values.{Value, Number, Named, number_over}

swap_last : (a b c : ℤ) → (a *ℤ b) *ℤ c ≡ (a *ℤ c) *ℤ b
swap_last a b c = mul_assoc_ℤ a b c ∙ (ap (λ z. a *ℤ z) (*ℤ_comm b c) ∙ sym (mul_assoc_ℤ a c b))

-- what is over w and e is over v and d
also_over : (v w : ℤ) (d e : ℕ) → 0 < e → v *ℤ pos e ≡ w *ℤ pos d → (g : Fraction) → IsOver w e g → IsOver v d g
also_over v w d e he cross g over =
    cancel_ℤ _ _ e he
    (swap_last g.num (pos d) (pos e) ∙ (ap (λ z. z *ℤ pos d) over ∙ (swap_last w (pos g.den) (pos d) ∙ (ap (λ z. z *ℤ pos g.den) (sym cross) ∙ swap_last v (pos e) (pos g.den)))))

same_number : (f g : Fraction) (p : IsLowest f) (q : IsLowest g) → f ≡ g → Number f p ≡ Number g q
same_number f g p q e =
    let pair : (f, p) ≡ (g, q) = Σ_prop_path {B = IsLowest} lowest_prop e in
    let as_value : ((h : Fraction) × IsLowest h) → Value = λ s. Number s.0 s.1 in
    ap as_value pair

pub same_value : (v w : ℤ) (d e : ℕ) (hd : 0 < d) (he : 0 < e) → v *ℤ pos e ≡ w *ℤ pos d → number_over v d hd ≡ number_over w e he
unfolding number_over
same_value v w d e hd he cross =
    let f = lowest_over v d hd in
    let g = lowest_over w e he in
    same_number f.0 g.0 f.1 g.1 (only_one v d hd f.0 g.0 f.1 g.1 f.2 (also_over v w d e he cross g.0 g.2))

fraction_of : (f g : Fraction) (p : IsLowest f) (q : IsLowest g) → Number f p ≡ Number g q → f ≡ g
fraction_of f g p q e =
    let back : Value → Fraction = λ x. elim x [ Number h l ↦ h | Named name vs ↦ f ] in ap back e

crossed : (v w : ℤ) (d e : ℕ) (f g : Fraction) → 0 < f.den → f ≡ g → IsOver v d f → IsOver w e g → v *ℤ pos e ≡ w *ℤ pos d
crossed v w d e f g h same over over' =
    let w_over : f.num *ℤ pos e ≡ w *ℤ pos f.den = subst (λ x. IsOver w e x) (sym same) over' in
    cancel_ℤ _ _ f.den h
    (swap_last v (pos e) (pos f.den) ∙ (ap (λ z. z *ℤ pos e) (sym over) ∙ (swap_last f.num (pos d) (pos e) ∙ (ap (λ z. z *ℤ pos d) w_over ∙ swap_last w (pos f.den) (pos d)))))

pub cross_of_same : (v w : ℤ) (d e : ℕ) (hd : 0 < d) (he : 0 < e) → number_over v d hd ≡ number_over w e he → v *ℤ pos e ≡ w *ℤ pos d
unfolding number_over
cross_of_same v w d e hd he same =
    let f = lowest_over v d hd in
    let g = lowest_over w e he in
    crossed v w d e f.0 g.0 f.1.positive (fraction_of f.0 g.0 f.1 g.1 same) f.2 g.2

-- a valuation over a multiple of its denominator gives the same values
pub scaled : (v : ℤ) (d k : ℕ) (hd : 0 < d) (hk : 0 < d * k) → number_over (v *ℤ pos k) (d * k) hk ≡ number_over v d hd
scaled v d k hd hk =
    same_value (v *ℤ pos k) v (d * k) d hk hd (swap_last v (pos k) (pos d) ∙ (mul_assoc_ℤ v (pos d) (pos k) ∙ ap (λ z. v *ℤ z) (pos-*ℤ-pos d k)))
