-- The row of a form holds exactly where the value of the form compares so with 0.
use Rattle.std.proofs.Common.{◌≡◌, ℕ, ◌*◌, ◌<◌, ◌/◌, List, [], ◌∷◌, Bool, true, false, arith, refl, sym, ◌∙◌, ap, subst}
use Rattle.std.specs.Prelude.{if◌then◌else◌, Result, Ok, Err}
use Rattle.std.specs.Int.{◌∣◌}
use Rattle.std.proofs.Math.IntN.{ℤ, pos, ◌+ℤ◌, ◌*ℤ◌, *ℤ_comm, zero-*ℤ, pos-*ℤ-pos}
use Rattle.std.proofs.lemmas.Int.{ints}
use Rattle.clp_rationals.specs.Fraction.{Fraction, IsOver}
use Rattle.clp_rationals.proofs.Whole.{mul_assoc_ℤ}
use Rattle.clp_model.specs.Values.{Valuation}
use Rattle.clp_model.specs.Clauses.{Row, RowHolds, Compares, sum_of}
use Rattle.linear_model.specs.Forms.{is_zero, with_pair}
use Rattle.linear_model.specs.Normal.{normal, is_within}
use Rattle.linear_laws.proofs.Normal.{scaled_same, normal_holds}
use Rattle.linear_laws.proofs.Sums.{zero_is, sum_combined}
use Rattle.linear_laws.proofs.Ring.{add_mul_ℤ}
use Rattle.frac_model.specs.Reduced as frac
use Rattle.frac_laws.proofs.Gcd.{divided_back}
use Rattle.frac_laws.proofs.Reducing.{lowest}
use Rattle.frac_laws.proofs.Exact.{positive_product, moved, sum_over, product_over}
use Rattle.form_model.specs.Forms.{Form, AreLowest, IsLowestForm, common_den, cleared, cleared_terms, in_order, cleared_row}
use Rattle.form_model.specs.declared.fault.FormFault.{FormFault}
use Rattle.form_model.specs.declared.fault.FormFault.TheVariants.{TooLarge}
use Rattle.form_laws.specs.Values.{variable_value, terms_value, value}
use Rattle.form_laws.specs.Laws.{RowIsExact}
use Rattle.form_laws.proofs.Multiples.{DensDivide, joint_positive, joint_first, joint_all}
use Rattle.form_laws.proofs.Sums.{variable_lowest, terms_lowest, value_lowest}
use Rattle.form_laws.proofs.Lowest.{product_lowest}

-- ---- the order of the pairs does not matter
one_pair : (f : ℕ → ℤ) (v : ℕ) (c : ℤ) → sum_of f (with_pair v c []) ≡ c *ℤ f v
one_pair f v c = by (is_zero c) refl
  where
    by : (b : Bool) → is_zero c ≡ b → sum_of f (if b then [] else (v, c) ∷ []) ≡ c *ℤ f v
    by true e = sym (ap (λ z. z *ℤ f v) (zero_is c e) ∙ zero-*ℤ (f v))
    by false e = omega (arith, ints)

sum_in_order : (f : ℕ → ℤ) (ps : List (ℕ × ℤ)) → sum_of f (in_order ps) ≡ sum_of f ps
sum_in_order f [] = refl
sum_in_order f (p ∷ ps) =
    let e = sum_combined f (pos 1) (with_pair p.0 p.1 []) (pos 1) (in_order ps) in
    let h = one_pair f p.0 p.1 in
    let i = sum_in_order f ps in
    e ∙ omega (arith, ints)

-- ---- over the common denominator
cleared_over : (l : ℕ) (c : Fraction) → c.den ∣ l → IsOver (cleared l c) l c
cleared_over l c d =
    ap (λ n. c.num *ℤ pos n) (sym (divided_back c.den l d))
    ∙ (ap (λ y. c.num *ℤ y) (sym (pos-*ℤ-pos (l / c.den) c.den)) ∙ sym (mul_assoc_ℤ c.num (pos (l / c.den)) (pos c.den)))

module _ (u : Valuation) (l : ℕ) (hl : 0 < l) where
  abbrev w : ℕ
  w = u.whole

  abbrev lw : ℕ
  lw = l * w

  hlw : 0 < lw
  hlw = positive_product l w hl u.positive

  variable_over : (v : ℕ) → IsOver (u.number v) w (variable_value u v)
  variable_over v = (lowest (u.number v) w u.positive).1

  terms_over : (ps : List (ℕ × Fraction)) → AreLowest ps → DensDivide l ps → IsOver (sum_of u.number (cleared_terms l ps)) lw (terms_value u ps)
  terms_over [] a d = zero-*ℤ (pos lw) ∙ sym (zero-*ℤ (pos 1))
  terms_over (p ∷ ps) a d =
      let x = variable_value u p.0 in
      let lx = variable_lowest u p.0 in
      let y = cleared l p.1 *ℤ u.number p.0 in
      let z = sum_of u.number (cleared_terms l ps) in
      let first = frac.product p.1 x in
      let rest = terms_value u ps in
      let lf = product_lowest p.1 x a.0 lx in
      let lr = terms_lowest u ps a.1 in
      let one = product_over p.1 x (cleared l p.1) (u.number p.0) l w a.0.positive lx.positive (cleared_over l p.1 d.0) (variable_over p.0) in
      let both = sum_over first rest y z lw lw lf.positive lr.positive one (terms_over ps a.1 d.1) in
      moved (y *ℤ pos lw +ℤ z *ℤ pos lw) (y +ℤ z) (lw * lw) lw (frac.sum first rest) (positive_product lw lw hlw hlw) both
      (ap (λ n. n *ℤ pos lw) (sym (add_mul_ℤ y z (pos lw))) ∙ (mul_assoc_ℤ (y +ℤ z) (pos lw) (pos lw) ∙ ap (λ n. (y +ℤ z) *ℤ n) (pos-*ℤ-pos lw lw)))

  value_over : (f : Form) → IsLowestForm f → f.constant.den ∣ l → DensDivide l f.terms
      → IsOver (sum_of u.number (cleared_terms l f.terms) +ℤ cleared l f.constant *ℤ pos w) lw (value u f)
  value_over f low first rest =
      let c = cleared l f.constant in
      let z = sum_of u.number (cleared_terms l f.terms) in
      let both = sum_over f.constant (terms_value u f.terms) c z l lw low.0.positive (terms_lowest u f.terms low.1).positive (cleared_over l f.constant first) (terms_over f.terms low.1 rest) in
      let e1 : c *ℤ pos lw ≡ (c *ℤ pos w) *ℤ pos l = ap (λ y. c *ℤ y) (sym (pos-*ℤ-pos l w) ∙ *ℤ_comm (pos l) (pos w)) ∙ sym (mul_assoc_ℤ c (pos w) (pos l)) in
      let e2 = add_mul_ℤ z (c *ℤ pos w) (pos l) in
      let e3 : c *ℤ pos lw +ℤ z *ℤ pos l ≡ (z +ℤ c *ℤ pos w) *ℤ pos l = omega (arith, ints) in
      moved (c *ℤ pos lw +ℤ z *ℤ pos l) (z +ℤ c *ℤ pos w) (l * lw) lw (value u f) (positive_product l lw hl hlw) both
      (ap (λ y. y *ℤ pos lw) e3 ∙ (mul_assoc_ℤ (z +ℤ c *ℤ pos w) (pos l) (pos lw) ∙ ap (λ y. (z +ℤ c *ℤ pos w) *ℤ y) (pos-*ℤ-pos l lw)))

-- ---- the row
ok_row : (x r : Row) (b : Bool) → (let y : Result Row FormFault = if b then Ok x else Err TooLarge in y) ≡ Ok r → x ≡ r
ok_row x r true e = cc
ok_row x r false e = absurd (cc)

pub row_is_exact : RowIsExact
row_is_exact u rel f r low e =
    let l = common_den f in
    let hl = joint_positive f.constant.den f.terms low.0.positive low.1 in
    let w = u.whole in
    let hlw = positive_product l w hl u.positive in
    let t = sum_of u.number (cleared_terms l f.terms) +ℤ cleared l f.constant *ℤ pos w in
    let v = value u f in
    let over = value_over u l hl f low (joint_first f.constant.den f.terms) (joint_all f.constant.den f.terms) in
    let same_v = scaled_same rel (l * w) v.num (v.num *ℤ pos (l * w)) hlw (*ℤ_comm (pos (l * w)) v.num) in
    let same_t = scaled_same rel v.den t (v.num *ℤ pos (l * w)) (value_lowest u f low).positive (*ℤ_comm (pos v.den) t ∙ sym over) in
    let row = cleared_row rel f in
    let n = normal_holds u row in
    let o : t ≡ sum_of u.number row.pairs +ℤ row.constant *ℤ pos w = ap (λ y. y +ℤ cleared l f.constant *ℤ pos w) (sym (sum_in_order u.number (cleared_terms l f.terms))) in
    let is = ok_row (normal row) r (is_within (normal row)) e in (
      λ h. same_v.1 (same_t.0 (subst (Compares rel) (sym o) (n.0 (subst (RowHolds u) (sym is) h)))),
      λ h. subst (RowHolds u) is (n.1 (subst (Compares rel) o (same_t.1 (same_v.0 h)))),
    )
