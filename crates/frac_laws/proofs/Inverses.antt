-- Grouping, and results that undo one another: both sides stand for one rational, in lowest terms.
use Rattle.std.proofs.Common.{◌≡◌, ℕ, zero, suc, ◌*◌, ◌<◌, arith, refl, sym, ◌∙◌, ap}
use Rattle.std.specs.Prelude.{◌≢◌}
use Rattle.std.proofs.Math.IntN.{ℤ, pos, negsuc, neg_ℤ, ◌+ℤ◌, ◌*ℤ◌, *ℤ_comm, pos-*ℤ-pos, neg_ℤ-neg_ℤ}
use Rattle.std.proofs.lemmas.Int.{ints}
use Rattle.std.proofs.Math.Nat.{mul_assoc, mul_comm}
use Rattle.clp_rationals.specs.Fraction.{Fraction, IsLowest, IsOver}
use Rattle.clp_rationals.proofs.Whole.{mul_assoc_ℤ, mul_add_ℤ, neg_mul, mul_neg}
use Rattle.clp_rationals.proofs.Lowest.{only_one}
use Rattle.frac_model.specs.Reduced.{reduced, sum, product, opposite, difference, over, reciprocal, quotient}
use Rattle.frac_laws.proofs.Reducing.{add_mul_ℤ, lowest}
use Rattle.frac_laws.proofs.Exact.{positive_product, swap_last, interchange, moved, sum_over, product_over, difference_over}

pub sum_commutes : (f g : Fraction) → sum f g ≡ sum g f
sum_commutes f g =
    let a : f.num *ℤ pos g.den +ℤ g.num *ℤ pos f.den ≡ g.num *ℤ pos f.den +ℤ f.num *ℤ pos g.den = omega (arith, ints) in
    ap (λ z. reduced z (f.den * g.den)) a ∙ ap (λ n. reduced (g.num *ℤ pos f.den +ℤ f.num *ℤ pos g.den) n) (mul_comm f.den g.den)

pub product_commutes : (f g : Fraction) → product f g ≡ product g f
product_commutes f g =
    ap (λ z. reduced z (f.den * g.den)) (*ℤ_comm f.num g.num) ∙ ap (λ n. reduced (g.num *ℤ f.num) n) (mul_comm f.den g.den)

sum_lowest : (f g : Fraction) → 0 < f.den → 0 < g.den → IsLowest (sum f g)
sum_lowest f g hf hg = (lowest (f.num *ℤ pos g.den +ℤ g.num *ℤ pos f.den) (f.den * g.den) (positive_product f.den g.den hf hg)).0

product_lowest : (f g : Fraction) → 0 < f.den → 0 < g.den → IsLowest (product f g)
product_lowest f g hf hg = (lowest (f.num *ℤ g.num) (f.den * g.den) (positive_product f.den g.den hf hg)).0

-- both in lowest terms, one over v and d, the other over w and e, and these are one rational
same_by : (f g : Fraction) (v w : ℤ) (d e : ℕ) → 0 < d → 0 < e → IsLowest f → IsLowest g → IsOver v d f → IsOver w e g → v *ℤ pos e ≡ w *ℤ pos d → f ≡ g
same_by f g v w d e hd he lf lg of og k = only_one w e he f g lf lg (moved v w d e f hd of k) og

-- ---- grouping
module _ (f g h : Fraction) (lf : IsLowest f) (lg : IsLowest g) (lh : IsLowest h) where
  abbrev A : ℤ
  A = f.num

  abbrev B : ℤ
  B = g.num

  abbrev C : ℤ
  C = h.num

  abbrev F : ℤ
  F = pos f.den

  abbrev G : ℤ
  G = pos g.den

  abbrev H : ℤ
  H = pos h.den

  grouped_sum : (A *ℤ G +ℤ B *ℤ F) *ℤ H +ℤ C *ℤ pos (f.den * g.den) ≡ A *ℤ pos (g.den * h.den) +ℤ (B *ℤ H +ℤ C *ℤ G) *ℤ F
  grouped_sum =
      let e1 = add_mul_ℤ (A *ℤ G) (B *ℤ F) H in
      let e2 = add_mul_ℤ (B *ℤ H) (C *ℤ G) F in
      let e3 : A *ℤ pos (g.den * h.den) ≡ (A *ℤ G) *ℤ H = ap (λ z. A *ℤ z) (sym (pos-*ℤ-pos g.den h.den)) ∙ sym (mul_assoc_ℤ A G H) in
      let e4 : C *ℤ pos (f.den * g.den) ≡ (C *ℤ G) *ℤ F = ap (λ z. C *ℤ z) (sym (pos-*ℤ-pos f.den g.den) ∙ *ℤ_comm F G) ∙ sym (mul_assoc_ℤ C G F) in
      let e5 = swap_last B F H in
      omega (arith, ints)

  pub sum_associates : sum (sum f g) h ≡ sum f (sum g h)
  sum_associates =
      let sl = sum_lowest f g lf.positive lg.positive in
      let sr = sum_lowest g h lg.positive lh.positive in
      let d = (f.den * g.den) * h.den in
      let e = f.den * (g.den * h.den) in
      let m : d ≡ e = mul_assoc f.den g.den h.den in
      let v = (A *ℤ G +ℤ B *ℤ F) *ℤ H +ℤ C *ℤ pos (f.den * g.den) in
      let w = A *ℤ pos (g.den * h.den) +ℤ (B *ℤ H +ℤ C *ℤ G) *ℤ F in
      let hd = positive_product (f.den * g.den) h.den (positive_product f.den g.den lf.positive lg.positive) lh.positive in
      let he = positive_product f.den (g.den * h.den) lf.positive (positive_product g.den h.den lg.positive lh.positive) in
      same_by (sum (sum f g) h) (sum f (sum g h)) v w d e hd he (sum_lowest (sum f g) h sl.positive lh.positive) (sum_lowest f (sum g h) lf.positive sr.positive)
      (sum_over (sum f g) h (A *ℤ G +ℤ B *ℤ F) C (f.den * g.den) h.den sl.positive lh.positive (sum_over f g A B f.den g.den lf.positive lg.positive refl refl) refl)
      (sum_over f (sum g h) A (B *ℤ H +ℤ C *ℤ G) f.den (g.den * h.den) lf.positive sr.positive refl (sum_over g h B C g.den h.den lg.positive lh.positive refl refl))
      (ap (λ z. z *ℤ pos e) grouped_sum ∙ ap (λ n. w *ℤ pos n) (sym m))

  pub product_associates : product (product f g) h ≡ product f (product g h)
  product_associates =
      let sl = product_lowest f g lf.positive lg.positive in
      let sr = product_lowest g h lg.positive lh.positive in
      let d = (f.den * g.den) * h.den in
      let e = f.den * (g.den * h.den) in
      let m : d ≡ e = mul_assoc f.den g.den h.den in
      let hd = positive_product (f.den * g.den) h.den (positive_product f.den g.den lf.positive lg.positive) lh.positive in
      let he = positive_product f.den (g.den * h.den) lf.positive (positive_product g.den h.den lg.positive lh.positive) in
      same_by (product (product f g) h) (product f (product g h)) ((A *ℤ B) *ℤ C) (A *ℤ (B *ℤ C)) d e hd he (product_lowest (product f g) h sl.positive lh.positive) (product_lowest f (product g h) lf.positive sr.positive)
      (product_over (product f g) h (A *ℤ B) C (f.den * g.den) h.den sl.positive lh.positive (product_over f g A B f.den g.den lf.positive lg.positive refl refl) refl)
      (product_over f (product g h) A (B *ℤ C) f.den (g.den * h.den) lf.positive sr.positive refl (product_over g h B C g.den h.den lg.positive lh.positive refl refl))
      (ap (λ z. z *ℤ pos e) (mul_assoc_ℤ A B C) ∙ ap (λ n. (A *ℤ (B *ℤ C)) *ℤ pos n) (sym m))

  distributed : (A *ℤ (B *ℤ H +ℤ C *ℤ G)) *ℤ ((F *ℤ G) *ℤ (F *ℤ H)) ≡ ((A *ℤ B) *ℤ (F *ℤ H) +ℤ (A *ℤ C) *ℤ (F *ℤ G)) *ℤ (F *ℤ (G *ℤ H))
  distributed =
      let s = A *ℤ (B *ℤ H +ℤ C *ℤ G) in
      let e1 = mul_add_ℤ A (B *ℤ H) (C *ℤ G) in
      let e2 = sym (mul_assoc_ℤ A B H) in
      let e3 = sym (mul_assoc_ℤ A C G) in
      let e4 = add_mul_ℤ ((A *ℤ B) *ℤ H) ((A *ℤ C) *ℤ G) F in
      let e5 : (A *ℤ B) *ℤ (F *ℤ H) ≡ ((A *ℤ B) *ℤ H) *ℤ F = ap (λ z. (A *ℤ B) *ℤ z) (*ℤ_comm F H) ∙ sym (mul_assoc_ℤ (A *ℤ B) H F) in
      let e6 : (A *ℤ C) *ℤ (F *ℤ G) ≡ ((A *ℤ C) *ℤ G) *ℤ F = ap (λ z. (A *ℤ C) *ℤ z) (*ℤ_comm F G) ∙ sym (mul_assoc_ℤ (A *ℤ C) G F) in
      let inner : s *ℤ F ≡ (A *ℤ B) *ℤ (F *ℤ H) +ℤ (A *ℤ C) *ℤ (F *ℤ G) = cc in
      ap (λ z. s *ℤ z) (interchange F G F H ∙ mul_assoc_ℤ F F (G *ℤ H))
      ∙ (sym (mul_assoc_ℤ s F (F *ℤ (G *ℤ H))) ∙ ap (λ z. z *ℤ (F *ℤ (G *ℤ H))) inner)

  pub product_distributes : product f (sum g h) ≡ sum (product f g) (product f h)
  product_distributes =
      let s = sum_lowest g h lg.positive lh.positive in
      let pg = product_lowest f g lf.positive lg.positive in
      let ph = product_lowest f h lf.positive lh.positive in
      let d = f.den * (g.den * h.den) in
      let e = (f.den * g.den) * (f.den * h.den) in
      let v = A *ℤ (B *ℤ H +ℤ C *ℤ G) in
      let w = (A *ℤ B) *ℤ pos (f.den * h.den) +ℤ (A *ℤ C) *ℤ pos (f.den * g.den) in
      let hd = positive_product f.den (g.den * h.den) lf.positive (positive_product g.den h.den lg.positive lh.positive) in
      let he = positive_product (f.den * g.den) (f.den * h.den) (positive_product f.den g.den lf.positive lg.positive) (positive_product f.den h.den lf.positive lh.positive) in
      let i : (F *ℤ G) *ℤ (F *ℤ H) ≡ pos e = ap (λ z. z *ℤ (F *ℤ H)) (pos-*ℤ-pos f.den g.den) ∙ (ap (λ z. pos (f.den * g.den) *ℤ z) (pos-*ℤ-pos f.den h.den) ∙ pos-*ℤ-pos (f.den * g.den) (f.den * h.den)) in
      let j : F *ℤ (G *ℤ H) ≡ pos d = ap (λ z. F *ℤ z) (pos-*ℤ-pos g.den h.den) ∙ pos-*ℤ-pos f.den (g.den * h.den) in
      let k : (A *ℤ B) *ℤ (F *ℤ H) +ℤ (A *ℤ C) *ℤ (F *ℤ G) ≡ w =
      ap (λ z. (A *ℤ B) *ℤ z +ℤ (A *ℤ C) *ℤ (F *ℤ G)) (pos-*ℤ-pos f.den h.den) ∙ ap (λ z. (A *ℤ B) *ℤ pos (f.den * h.den) +ℤ (A *ℤ C) *ℤ z) (pos-*ℤ-pos f.den g.den) in
      same_by (product f (sum g h)) (sum (product f g) (product f h)) v w d e hd he (product_lowest f (sum g h) lf.positive s.positive) (sum_lowest (product f g) (product f h) pg.positive ph.positive)
      (product_over f (sum g h) A (B *ℤ H +ℤ C *ℤ G) f.den (g.den * h.den) lf.positive s.positive refl (sum_over g h B C g.den h.den lg.positive lh.positive refl refl))
      (sum_over (product f g) (product f h) (A *ℤ B) (A *ℤ C) (f.den * g.den) (f.den * h.den) pg.positive ph.positive
      (product_over f g A B f.den g.den lf.positive lg.positive refl refl) (product_over f h A C f.den h.den lf.positive lh.positive refl refl))
      (ap (λ z. v *ℤ z) (sym i) ∙ (distributed ∙ (ap (λ z. z *ℤ (F *ℤ (G *ℤ H))) k ∙ ap (λ z. w *ℤ z) j)))

-- ---- undoing
module _ (f g : Fraction) (lf : IsLowest f) (lg : IsLowest g) where
  abbrev a : ℤ
  a = f.num

  abbrev b : ℤ
  b = g.num

  abbrev x : ℤ
  x = pos f.den

  abbrev y : ℤ
  y = pos g.den

  rest : a *ℤ y *ℤ y *ℤ x ≡ a *ℤ (x *ℤ y *ℤ y)
  rest =
      let e1 = mul_assoc_ℤ (a *ℤ y) y x in
      let e2 = *ℤ_comm y x in
      let e3 = mul_assoc_ℤ a y (x *ℤ y) in
      let e4 = *ℤ_comm y (x *ℤ y) in cc

  -- the denominator of both
  dens : x *ℤ y *ℤ y ≡ pos (f.den * g.den * g.den)
  dens = ap (λ z. z *ℤ y) (pos-*ℤ-pos f.den g.den) ∙ pos-*ℤ-pos (f.den * g.den) g.den

  hd : 0 < f.den * g.den * g.den
  hd = positive_product (f.den * g.den) g.den (positive_product f.den g.den lf.positive lg.positive) lg.positive

  taken : (a *ℤ y +ℤ b *ℤ x) *ℤ y +ℤ neg_ℤ (b *ℤ pos (f.den * g.den)) ≡ a *ℤ y *ℤ y
  taken =
      let e1 = add_mul_ℤ (a *ℤ y) (b *ℤ x) y in
      let e2 : b *ℤ pos (f.den * g.den) ≡ (b *ℤ x) *ℤ y = ap (λ z. b *ℤ z) (sym (pos-*ℤ-pos f.den g.den)) ∙ sym (mul_assoc_ℤ b x y) in
      omega (arith, ints)

  given_back : (a *ℤ y +ℤ neg_ℤ (b *ℤ x)) *ℤ y +ℤ b *ℤ pos (f.den * g.den) ≡ a *ℤ y *ℤ y
  given_back =
      let e1 = add_mul_ℤ (a *ℤ y) (neg_ℤ (b *ℤ x)) y in
      let e2 : b *ℤ pos (f.den * g.den) ≡ (b *ℤ x) *ℤ y = ap (λ z. b *ℤ z) (sym (pos-*ℤ-pos f.den g.den)) ∙ sym (mul_assoc_ℤ b x y) in
      let e3 = neg_mul (b *ℤ x) y in
      omega (arith, ints)

  pub difference_undoes_sum : difference (sum f g) g ≡ f
  difference_undoes_sum =
      let sl = sum_lowest f g lf.positive lg.positive in
      let v = (a *ℤ y +ℤ b *ℤ x) *ℤ y +ℤ neg_ℤ (b *ℤ pos (f.den * g.den)) in
      same_by (difference (sum f g) g) f v a (f.den * g.den * g.den) f.den hd lf.positive (sum_lowest (sum f g) (opposite g) sl.positive lg.positive) lf
      (difference_over (sum f g) g (a *ℤ y +ℤ b *ℤ x) b (f.den * g.den) g.den sl.positive lg.positive (sum_over f g a b f.den g.den lf.positive lg.positive refl refl) refl) refl
      (ap (λ z. z *ℤ x) taken ∙ (rest ∙ ap (λ z. a *ℤ z) dens))

  pub sum_undoes_difference : sum (difference f g) g ≡ f
  sum_undoes_difference =
      let sl = sum_lowest f (opposite g) lf.positive lg.positive in
      let v = (a *ℤ y +ℤ neg_ℤ (b *ℤ x)) *ℤ y +ℤ b *ℤ pos (f.den * g.den) in
      same_by (sum (difference f g) g) f v a (f.den * g.den * g.den) f.den hd lf.positive (sum_lowest (difference f g) g sl.positive lg.positive) lf
      (sum_over (difference f g) g (a *ℤ y +ℤ neg_ℤ (b *ℤ x)) b (f.den * g.den) g.den sl.positive lg.positive (difference_over f g a b f.den g.den lf.positive lg.positive refl refl) refl) refl
      (ap (λ z. z *ℤ x) given_back ∙ (rest ∙ ap (λ z. a *ℤ z) dens))

  -- ---- by the reciprocal r
  module _ (r : Fraction) (hr : 0 < r.den) (k : r.num *ℤ b ≡ y *ℤ pos r.den) where
    abbrev z : ℤ
    z = pos r.den

    product_dens : (x *ℤ y) *ℤ z ≡ pos (f.den * g.den * r.den)
    product_dens = ap (λ n. n *ℤ z) (pos-*ℤ-pos f.den g.den) ∙ pos-*ℤ-pos (f.den * g.den) r.den

    quotient_dens : (x *ℤ z) *ℤ y ≡ pos (f.den * r.den * g.den)
    quotient_dens = ap (λ n. n *ℤ y) (pos-*ℤ-pos f.den r.den) ∙ pos-*ℤ-pos (f.den * r.den) g.den

    divided_back : ((a *ℤ b) *ℤ r.num) *ℤ x ≡ a *ℤ ((x *ℤ y) *ℤ z)
    divided_back =
        let e1 = mul_assoc_ℤ a b r.num in
        let e2 = *ℤ_comm b r.num in
        let e3 = mul_assoc_ℤ a (y *ℤ z) x in
        let e4 = *ℤ_comm (y *ℤ z) x in
        let e5 = mul_assoc_ℤ x y z in cc

    multiplied_back : ((a *ℤ r.num) *ℤ b) *ℤ x ≡ a *ℤ ((x *ℤ z) *ℤ y)
    multiplied_back =
        let e1 = mul_assoc_ℤ a r.num b in
        let e3 = mul_assoc_ℤ a (y *ℤ z) x in
        let e4 = *ℤ_comm (y *ℤ z) x in
        let e5 = *ℤ_comm y z in
        let e6 = mul_assoc_ℤ x z y in cc

    pub quotient_by : product (product f g) r ≡ f
    quotient_by =
        let sl = product_lowest f g lf.positive lg.positive in
        let h = positive_product (f.den * g.den) r.den (positive_product f.den g.den lf.positive lg.positive) hr in
        same_by (product (product f g) r) f ((a *ℤ b) *ℤ r.num) a (f.den * g.den * r.den) f.den h lf.positive (product_lowest (product f g) r sl.positive hr) lf
        (product_over (product f g) r (a *ℤ b) r.num (f.den * g.den) r.den sl.positive hr (product_over f g a b f.den g.den lf.positive lg.positive refl refl) refl) refl
        (divided_back ∙ ap (λ n. a *ℤ n) product_dens)

    pub product_by : product (product f r) g ≡ f
    product_by =
        let sl = product_lowest f r lf.positive hr in
        let h = positive_product (f.den * r.den) g.den (positive_product f.den r.den lf.positive hr) lg.positive in
        same_by (product (product f r) g) f ((a *ℤ r.num) *ℤ b) a (f.den * r.den * g.den) f.den h lf.positive (product_lowest (product f r) g sl.positive lg.positive) lf
        (product_over (product f r) g (a *ℤ r.num) b (f.den * r.den) g.den sl.positive lg.positive (product_over f r a r.num f.den r.den lf.positive hr refl refl) refl) refl
        (multiplied_back ∙ ap (λ n. a *ℤ n) quotient_dens)

over_positive : (n : ℕ) (d : ℤ) → d ≢ pos 0 → 0 < (over n d).den
over_positive n (pos zero) h = absurd (h refl)
over_positive n (pos (suc d)) h = omega arith
over_positive n (negsuc d) h = omega arith

over_times : (n : ℕ) (d : ℤ) → (over n d).num *ℤ d ≡ pos n *ℤ pos (over n d).den
over_times n (pos d) = refl
over_times n (negsuc d) =
    neg_mul (pos n) (negsuc d) ∙ (ap neg_ℤ (mul_neg (pos n) (pos (suc d))) ∙ neg_ℤ-neg_ℤ (pos n *ℤ pos (suc d)))

pub quotient_undoes_product : (f g : Fraction) → IsLowest f → IsLowest g → g.num ≢ pos 0 → quotient (product f g) g ≡ f
quotient_undoes_product f g lf lg h = quotient_by f g lf lg (reciprocal g) (over_positive g.den g.num h) (over_times g.den g.num)

pub product_undoes_quotient : (f g : Fraction) → IsLowest f → IsLowest g → g.num ≢ pos 0 → product (quotient f g) g ≡ f
product_undoes_quotient f g lf lg h = product_by f g lf lg (reciprocal g) (over_positive g.den g.num h) (over_times g.den g.num)
