-- Sums, differences and products stand for those of the rationals.
use Rattle.std.proofs.Common.{◌≡◌, ℕ, zero, suc, ◌*◌, ◌<◌, arith, sym, ◌∙◌, ap, subst}
use Rattle.std.proofs.Math.IntN.{ℤ, pos, neg_ℤ, ◌+ℤ◌, ◌*ℤ◌, *ℤ_comm, pos-*ℤ-pos}
use Rattle.clp_rationals.specs.Fraction.{Fraction, IsOver}
use Rattle.clp_rationals.proofs.Whole.{mul_assoc_ℤ, neg_mul}
use Rattle.clp_rationals.proofs.Lowest.{cancel_ℤ}
use Rattle.frac_model.specs.Reduced.{sum, product, opposite, difference}
use Rattle.frac_laws.proofs.Reducing.{add_mul_ℤ, lowest}

pub positive_product : (m n : ℕ) → 0 < m → 0 < n → 0 < m * n
positive_product (suc m) (suc n) h k = omega arith
positive_product zero n h k = absurd (omega arith)
positive_product (suc m) zero h k = absurd (omega arith)

-- a product of three with the last two the other way round
pub swap_last : (a b c : ℤ) → (a *ℤ b) *ℤ c ≡ (a *ℤ c) *ℤ b
swap_last a b c = mul_assoc_ℤ a b c ∙ (ap (λ z. a *ℤ z) (*ℤ_comm b c) ∙ sym (mul_assoc_ℤ a c b))

-- a product of four with the middle two the other way round
pub interchange : (a b c d : ℤ) → (a *ℤ b) *ℤ (c *ℤ d) ≡ (a *ℤ c) *ℤ (b *ℤ d)
interchange a b c d =
    let e1 = mul_assoc_ℤ a b (c *ℤ d) in
    let e2 = mul_assoc_ℤ b c d in
    let e3 = *ℤ_comm b c in
    let e4 = mul_assoc_ℤ c b d in
    let e5 = mul_assoc_ℤ a c (b *ℤ d) in cc

-- f stands for the same rational written otherwise
pub moved : (v w : ℤ) (d e : ℕ) (f : Fraction) → 0 < d → IsOver v d f → v *ℤ pos e ≡ w *ℤ pos d → IsOver w e f
moved v w d e f h over k =
    cancel_ℤ (f.num *ℤ pos e) (w *ℤ pos f.den) d h
    (swap_last f.num (pos e) (pos d) ∙ (ap (λ z. z *ℤ pos e) over ∙ (swap_last v (pos f.den) (pos e) ∙ (ap (λ z. z *ℤ pos f.den) k ∙ swap_last w (pos d) (pos f.den)))))

-- from `a Q = p F` and `b S = r G`
crossed_sum : (a b p r Q S F G : ℤ) → a *ℤ Q ≡ p *ℤ F → b *ℤ S ≡ r *ℤ G → (a *ℤ G +ℤ b *ℤ F) *ℤ (Q *ℤ S) ≡ (p *ℤ S +ℤ r *ℤ Q) *ℤ (F *ℤ G)
crossed_sum a b p r Q S F G e f =
    let l1 = add_mul_ℤ (a *ℤ G) (b *ℤ F) (Q *ℤ S) in
    let l2 = add_mul_ℤ (p *ℤ S) (r *ℤ Q) (F *ℤ G) in
    let i1 = interchange a G Q S in
    let i2 = interchange p S F G in
    let c1 = *ℤ_comm G S in
    let i3 = interchange b F S Q in
    let i4 = interchange r Q G F in
    let c2 = *ℤ_comm Q S in
    let c3 = *ℤ_comm F G in
    let c4 = *ℤ_comm F Q in cc

crossed_product : (a b p r Q S F G : ℤ) → a *ℤ Q ≡ p *ℤ F → b *ℤ S ≡ r *ℤ G → (a *ℤ b) *ℤ (Q *ℤ S) ≡ (p *ℤ r) *ℤ (F *ℤ G)
crossed_product a b p r Q S F G e f =
    let i1 = interchange a b Q S in
    let i2 = interchange p r F G in cc

pub sum_over : (f g : Fraction) (p r : ℤ) (q s : ℕ) → 0 < f.den → 0 < g.den → IsOver p q f → IsOver r s g → IsOver (p *ℤ pos s +ℤ r *ℤ pos q) (q * s) (sum f g)
sum_over f g p r q s hf hg of og =
    let h = positive_product f.den g.den hf hg in
    let v = f.num *ℤ pos g.den +ℤ g.num *ℤ pos f.den in
    let w = p *ℤ pos s +ℤ r *ℤ pos q in
    moved v w (f.den * g.den) (q * s) (sum f g) h (lowest v (f.den * g.den) h).1
    (ap (λ z. v *ℤ z) (sym (pos-*ℤ-pos q s)) ∙ (crossed_sum f.num g.num p r (pos q) (pos s) (pos f.den) (pos g.den) of og ∙ ap (λ z. w *ℤ z) (pos-*ℤ-pos f.den g.den)))

pub product_over : (f g : Fraction) (p r : ℤ) (q s : ℕ) → 0 < f.den → 0 < g.den → IsOver p q f → IsOver r s g → IsOver (p *ℤ r) (q * s) (product f g)
product_over f g p r q s hf hg of og =
    let h = positive_product f.den g.den hf hg in
    let v = f.num *ℤ g.num in
    moved v (p *ℤ r) (f.den * g.den) (q * s) (product f g) h (lowest v (f.den * g.den) h).1
    (ap (λ z. v *ℤ z) (sym (pos-*ℤ-pos q s)) ∙ (crossed_product f.num g.num p r (pos q) (pos s) (pos f.den) (pos g.den) of og ∙ ap (λ z. (p *ℤ r) *ℤ z) (pos-*ℤ-pos f.den g.den)))

pub opposite_over : (g : Fraction) (r : ℤ) (s : ℕ) → IsOver r s g → IsOver (neg_ℤ r) s (opposite g)
opposite_over g r s over = neg_mul g.num (pos s) ∙ (ap neg_ℤ over ∙ sym (neg_mul r (pos g.den)))

pub difference_over : (f g : Fraction) (p r : ℤ) (q s : ℕ) → 0 < f.den → 0 < g.den → IsOver p q f → IsOver r s g → IsOver (p *ℤ pos s +ℤ neg_ℤ (r *ℤ pos q)) (q * s) (difference f g)
difference_over f g p r q s hf hg of og =
    subst (λ z. IsOver (p *ℤ pos s +ℤ z) (q * s) (difference f g)) (neg_mul r (pos q))
    (sum_over f (opposite g) p (neg_ℤ r) q s hf hg of (opposite_over g r s og))
