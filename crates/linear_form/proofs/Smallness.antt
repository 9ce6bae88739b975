-- What the answers of fractions say of their range.
use Rattle.std.proofs.Common.{◌≡◌, Bool, true, false, refl, sym, ◌∙◌, ap, subst}
use Rattle.std.specs.Prelude.{Result, Ok, Err, IfErr, if◌then◌else◌}
use Rattle.clp_rationals.specs.Fraction.{Fraction}
use Rattle.frac_model.specs.Results.{is_small, if_small}
use Rattle.frac_model.specs.declared.fault.FracFault.{FracFault}
use Rattle.frac_model.specs.declared.fault.FracFault.TheVariants.{TooLarge}
use Rattle.form_model.specs.declared.fault.FormFault.{FormFault}
use Rattle.form_model.specs.declared.fault.FormFault.TheVariants as form
use Rattle.linear_form.specs.declared.error.FormError.{FormError}
use Rattle.linear_form.specs.Faults.{fault, of_fraction}

ok_same : {A E : Type 0} (x y : A) → (let r : Result A E = Ok x in r) ≡ Ok y → x ≡ y
ok_same x y e = cc

pub ok_is : (x f : Fraction) → Ok x ≡ if_small f → (x ≡ f) × (is_small f ≡ true)
ok_is x f e = by (is_small f) refl e
  where
    by : (b : Bool) → is_small f ≡ b → (let r : Result Fraction FracFault = Ok x in r) ≡ (if b then Ok f else Err TooLarge) → (x ≡ f) × (is_small f ≡ true)
    by true s e = (ok_same {E = FracFault} x f e, s)
    by false s e = absurd (cc)

pub err_is : (x : FracFault) (f : Fraction) → Err x ≡ if_small f → (x ≡ TooLarge) × (is_small f ≡ false)
err_is x f e = by (is_small f) refl e
  where
    by : (b : Bool) → is_small f ≡ b → (let r : Result Fraction FracFault = Err x in r) ≡ (if b then Ok f else Err TooLarge) → (x ≡ TooLarge) × (is_small f ≡ false)
    by true s e = absurd (cc)
    by false s e = (cc, s)

-- ---- the error that a `?` makes
pub if_err : {T E : Type 0} (r : Result T E) (y : E) (P : E → Type 0) → r ≡ Err y → P y → IfErr r P
if_err r y P e p = subst (λ r. IfErr r P) (sym e) p

pub as_fault : {T : Type 0} (r : Result T FormError) (f : FormFault) (x : FracFault) (y : FormError) → r ≡ Err y → y ≡ fault (of_fraction x) → x ≡ TooLarge → r ≡ Err (fault f) → f ≡ form.TooLarge
as_fault r f x y e g t h =
    let i : y ≡ fault form.TooLarge = g ∙ ap (λ z. fault (of_fraction z)) t in cc

pub fault_same : {T : Type 0} (e f : FormFault) → (let r : Result T FormError = Err (fault e) in r) ≡ Err (fault f) → e ≡ f
fault_same e f h = cc
