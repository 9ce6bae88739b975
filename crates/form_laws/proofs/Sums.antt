-- The values of sums, differences, products and quotients of forms.
use Rattle.std.proofs.Common.{◌≡◌, ℕ, List, [], ◌∷◌, Bool, true, false, ◌&&◌, nat_eq, arith, refl, sym, ◌∙◌, ap, subst}
use Rattle.std.specs.Prelude.{if◌then◌else◌, Result, Ok, Err}
use Rattle.std.proofs.Math.IntN.{pos}
use Rattle.std.proofs.lemmas.Bool.Decides.{nat_tests}
use Rattle.clp_rationals.specs.Fraction.{Fraction, IsLowest}
use Rattle.clp_model.specs.Values.{Valuation}
use Rattle.linear_model.specs.Forms.{is_zero}
use Rattle.linear_laws.proofs.Sums.{zero_is}
use Rattle.frac_model.specs.Reduced as frac
use Rattle.frac_laws.proofs.Reducing.{lowest}
use Rattle.frac_laws.proofs.Inverses.{sum_commutes, product_commutes, sum_associates}
use Rattle.frac_laws.proofs.Turned.{opposite_lowest, reciprocal_lowest}
use Rattle.form_model.specs.Forms.{Form, AreLowest, IsLowestForm, form, is_small_form, if_small_form, each, with_term, with_terms, opposite, all_zero, is_constant, multiplied, divided}
use Rattle.form_model.specs.declared.fault.FormFault.{FormFault}
use Rattle.form_model.specs.declared.fault.FormFault.TheVariants.{NotLinear, ZeroDivisor, TooLarge}
use Rattle.form_laws.specs.Values.{variable_value, terms_value, value}
use Rattle.form_laws.specs.Laws.{WholeIsExact, VariableIsExact, ConstantIsExact, SumIsExact, DifferenceIsExact, ProductIsExact, QuotientIsExact}
use Rattle.form_laws.proofs.Lowest.{sum_lowest, product_lowest, with_terms_lowest, each_lowest}
use Rattle.form_laws.proofs.Fractions.{none, whole_lowest, sum_none, product_of_none, product_of_one, sum_turned, product_turned, sum_times, sum_exchanged, opposite_sum, opposite_product}

abbrev Terms : Type 0
Terms = List (ℕ × Fraction)

ok_form : (f h : Form) → if_small_form f ≡ Ok h → f ≡ h
ok_form f h e = by (is_small_form f) e
  where
    by : (b : Bool) → (let r : Result Form FormFault = if b then Ok f else Err TooLarge in r) ≡ Ok h → f ≡ h
    by true e = cc
    by false e = absurd (cc)

module _ (u : Valuation) where
  abbrev X : ℕ → Fraction
  X = variable_value u

  abbrev V : Terms → Fraction
  V = terms_value u

  pub variable_lowest : (v : ℕ) → IsLowest (X v)
  variable_lowest v = (lowest (u.number v) u.whole u.positive).0

  pub terms_lowest : (ps : Terms) → AreLowest ps → IsLowest (V ps)
  terms_lowest [] a = whole_lowest (pos 0)
  terms_lowest (p ∷ ps) a = sum_lowest (frac.product p.1 (X p.0)) (V ps) (product_lowest p.1 (X p.0) a.0 (variable_lowest p.0)) (terms_lowest ps a.1)

  pub value_lowest : (f : Form) → IsLowestForm f → IsLowest (value u f)
  value_lowest f l = sum_lowest f.constant (V f.terms) l.0 (terms_lowest f.terms l.1)

  -- ---- sums
  with_term_value : (v : ℕ) (c : Fraction) (ps : Terms) → IsLowest c → AreLowest ps → V (with_term v c ps) ≡ frac.sum (V ps) (frac.product c (X v))
  with_term_value v c [] l a = sum_commutes (frac.product c (X v)) none
  with_term_value v c (p ∷ ps) l a = by (nat_eq v p.0) refl (with_term_value v c ps l a.1)
    where
      x : Fraction
      x = X p.0

      lx : IsLowest x
      lx = variable_lowest p.0

      pl : IsLowest (frac.product p.1 x)
      pl = product_lowest p.1 x a.0 lx

      by : (b : Bool) → nat_eq v p.0 ≡ b → V (with_term v c ps) ≡ frac.sum (V ps) (frac.product c (X v))
          → V (if b then (p.0, frac.sum p.1 c) ∷ ps else p ∷ with_term v c ps) ≡ frac.sum (frac.sum (frac.product p.1 x) (V ps)) (frac.product c (X v))
      by true t ih =
          let same : p.0 ≡ v = grind (arith, nat_tests) in
          ap (λ s. frac.sum s (V ps)) (sum_times p.1 c x a.0 l lx)
          ∙ (sum_turned (frac.product p.1 x) (frac.product c x) (V ps) pl (product_lowest c x l lx) (terms_lowest ps a.1)
          ∙ ap (λ w. frac.sum (frac.sum (frac.product p.1 x) (V ps)) (frac.product c (X w))) same)
      by false t ih =
          ap (λ s. frac.sum (frac.product p.1 x) s) ih
          ∙ sym (sum_associates (frac.product p.1 x) (V ps) (frac.product c (X v)) pl (terms_lowest ps a.1) (product_lowest c (X v) l (variable_lowest v)))

  with_terms_value : (ps qs : Terms) → AreLowest ps → AreLowest qs → V (with_terms ps qs) ≡ frac.sum (V ps) (V qs)
  with_terms_value ps [] a b = sym (sum_none (V ps) (terms_lowest ps a))
  with_terms_value ps (q ∷ qs) a b =
      let y = frac.product q.1 (X q.0) in
      with_terms_value (with_term q.0 q.1 ps) qs (with_terms_lowest ps (q ∷ []) a (b.0, tt)) b.1
      ∙ (ap (λ s. frac.sum s (V qs)) (with_term_value q.0 q.1 ps b.0 a)
      ∙ sum_associates (V ps) y (V qs) (terms_lowest ps a) (product_lowest q.1 (X q.0) b.0 (variable_lowest q.0)) (terms_lowest qs b.1))

  pub sum_value : (f g : Form) → IsLowestForm f → IsLowestForm g
      → value u (form (frac.sum f.constant g.constant) (with_terms f.terms g.terms)) ≡ frac.sum (value u f) (value u g)
  sum_value f g l m =
      let vf = terms_lowest f.terms l.1 in
      let vg = terms_lowest g.terms m.1 in
      ap (λ s. frac.sum (frac.sum f.constant g.constant) s) (with_terms_value f.terms g.terms l.1 m.1)
      ∙ sum_exchanged f.constant g.constant (V f.terms) l.0 m.0 vf (V g.terms) vg (sum_lowest g.constant (V g.terms) m.0 vg) (sum_lowest (V f.terms) (V g.terms) vf vg)

  -- ---- opposites
  opposites_value : (ps : Terms) → V (each frac.opposite ps) ≡ frac.opposite (V ps)
  opposites_value [] = refl
  opposites_value (p ∷ ps) =
      ap (λ s. frac.sum s (V (each frac.opposite ps))) (opposite_product p.1 (X p.0))
      ∙ (ap (λ s. frac.sum (frac.opposite (frac.product p.1 (X p.0))) s) (opposites_value ps) ∙ opposite_sum (frac.product p.1 (X p.0)) (V ps))

  opposite_value : (f : Form) → value u (opposite f) ≡ frac.opposite (value u f)
  opposite_value f = ap (λ s. frac.sum (frac.opposite f.constant) s) (opposites_value f.terms) ∙ opposite_sum f.constant (V f.terms)

  -- ---- multiples
  module _ (k : Fraction) (lk : IsLowest k) where
    multiples_value : (ps : Terms) → AreLowest ps → V (each (λ c. frac.product c k) ps) ≡ frac.product (V ps) k
    multiples_value [] a = sym (product_of_none none k (whole_lowest (pos 0)) lk refl)
    multiples_value (p ∷ ps) a =
        let x = X p.0 in
        let lx = variable_lowest p.0 in
        ap (λ s. frac.sum s (V (each (λ c. frac.product c k) ps))) (product_turned p.1 k x a.0 lk lx)
        ∙ (ap (λ s. frac.sum (frac.product (frac.product p.1 x) k) s) (multiples_value ps a.1)
        ∙ sym (sum_times (frac.product p.1 x) (V ps) k (product_lowest p.1 x a.0 lx) (terms_lowest ps a.1) lk))

    multiple_value : (f : Form) → IsLowestForm f → value u (multiplied k f) ≡ frac.product (value u f) k
    multiple_value f l =
        ap (λ s. frac.sum (frac.product f.constant k) s) (multiples_value f.terms l.1)
        ∙ sym (sum_times f.constant (V f.terms) k l.0 (terms_lowest f.terms l.1) lk)

  -- ---- constants
  both : (a b : Bool) → (a && b) ≡ true → (a ≡ true) × (b ≡ true)
  both true true e = (refl, refl)
  both true false e = cc
  both false b e = cc

  constants_value : (ps : Terms) → AreLowest ps → all_zero ps ≡ true → V ps ≡ none
  constants_value [] a e = refl
  constants_value (p ∷ ps) a e =
      let k = both (is_zero p.1.num) (all_zero ps) e in
      ap (λ s. frac.sum s (V ps)) (product_of_none p.1 (X p.0) a.0 (variable_lowest p.0) (zero_is p.1.num k.0))
      ∙ (ap (λ s. frac.sum none s) (constants_value ps a.1 k.1) ∙ sum_none none (whole_lowest (pos 0)))

  pub constant_value : (f : Form) → IsLowestForm f → is_constant f ≡ true → value u f ≡ f.constant
  constant_value f l e = ap (λ s. frac.sum f.constant s) (constants_value f.terms l.1 e) ∙ sum_none f.constant l.0

-- ---- the laws
pub whole_is_exact : WholeIsExact
whole_is_exact u n = sum_none (frac.fraction (pos n) 1) (whole_lowest (pos n))

pub variable_is_exact : VariableIsExact
variable_is_exact u v =
    let x = variable_value u v in
    let one = frac.product (frac.fraction (pos 1) 1) x in
    sum_commutes none (frac.sum one none)
    ∙ (sum_none (frac.sum one none) (sum_lowest one none (product_lowest (frac.fraction (pos 1) 1) x (whole_lowest (pos 1)) (variable_lowest u v)) (whole_lowest (pos 0)))
    ∙ (sum_none one (product_lowest (frac.fraction (pos 1) 1) x (whole_lowest (pos 1)) (variable_lowest u v)) ∙ product_of_one x (variable_lowest u v)))

pub constant_is_exact : ConstantIsExact
constant_is_exact u f l e = constant_value u f l e

abbrev Exact : Valuation → Fraction → Form → Type 0
Exact u v h = (value u h ≡ v) × IsLowestForm h

exact : (u : Valuation) (v : Fraction) (f h : Form) → f ≡ h → value u f ≡ v → IsLowestForm f → Exact u v h
exact u v f h e w l = (sym (ap (value u) e) ∙ w, subst IsLowestForm e l)

multiple_lowest : (k : Fraction) (f : Form) → IsLowest k → IsLowestForm f → IsLowestForm (multiplied k f)
multiple_lowest k f l m = (product_lowest f.constant k m.0 l, each_lowest (λ c. frac.product c k) (λ c n. product_lowest c k n l) f.terms m.1)

opposite_lowest_form : (f : Form) → IsLowestForm f → IsLowestForm (opposite f)
opposite_lowest_form f l = (opposite_lowest f.constant l.0, each_lowest frac.opposite opposite_lowest f.terms l.1)

pub sum_is_exact : SumIsExact
sum_is_exact u f g h l m e =
    let s = form (frac.sum f.constant g.constant) (with_terms f.terms g.terms) in
    exact u (frac.sum (value u f) (value u g)) s h (ok_form s h e) (sum_value u f g l m)
    (sum_lowest f.constant g.constant l.0 m.0, with_terms_lowest f.terms g.terms l.1 m.1)

pub difference_is_exact : DifferenceIsExact
difference_is_exact u f g h l m e =
    let s = sum_is_exact u f (opposite g) h l (opposite_lowest_form g m) e in
    (s.0 ∙ ap (λ y. frac.sum (value u f) y) (opposite_value u g), s.1)

pub product_is_exact : ProductIsExact
product_is_exact u f g h l m e = by (is_constant g) refl (is_constant f) refl e
  where
    by : (b : Bool) → is_constant g ≡ b → (c : Bool) → is_constant f ≡ c
        → (if b then if_small_form (multiplied g.constant f) else if c then if_small_form (multiplied f.constant g) else Err NotLinear) ≡ Ok h
        → Exact u (frac.product (value u f) (value u g)) h
    by true s c t e =
        let k = g.constant in
        exact u (frac.product (value u f) (value u g)) (multiplied k f) h (ok_form (multiplied k f) h e)
        (multiple_value u k m.0 f l ∙ ap (λ y. frac.product (value u f) y) (sym (constant_value u g m s))) (multiple_lowest k f m.0 l)
    by false s true t e =
        let k = f.constant in
        exact u (frac.product (value u f) (value u g)) (multiplied k g) h (ok_form (multiplied k g) h e)
        (multiple_value u k l.0 g m ∙ (product_commutes (value u g) k ∙ ap (λ y. frac.product y (value u g)) (sym (constant_value u f l t)))) (multiple_lowest k g l.0 m)
    by false s false t e = absurd (cc)

pub quotient_is_exact : QuotientIsExact
quotient_is_exact u f g h l m e = by (is_constant g) refl (is_zero g.constant.num) refl e
  where
    by : (b : Bool) → is_constant g ≡ b → (c : Bool) → is_zero g.constant.num ≡ c
        → (if b then (if c then Err ZeroDivisor else if_small_form (divided g.constant f)) else Err NotLinear) ≡ Ok h
        → Exact u (frac.quotient (value u f) (value u g)) h
    by true s false t e =
        let k = frac.reciprocal g.constant in
        let lk = reciprocal_lowest g.constant t m.0 in
        exact u (frac.quotient (value u f) (value u g)) (multiplied k f) h (ok_form (multiplied k f) h e)
        (multiple_value u k lk f l ∙ ap (λ y. frac.quotient (value u f) y) (sym (constant_value u g m s))) (multiple_lowest k f lk l)
    by true s true t e = absurd (cc)
    by false s c t e = absurd (cc)
