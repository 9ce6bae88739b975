-- What is computed of forms that are kept is kept.
use Rattle.std.proofs.Common.{◌≡◌, ℕ, zero, suc, List, [], ◌∷◌, Bool, true, false, ◌&&◌, refl, sym, ◌∙◌, ap, subst}
use Rattle.std.specs.Prelude.{Ok, unsigned_abs, nat_le}
use Rattle.std.proofs.Math.IntN.{ℤ, pos, negsuc, neg_ℤ}
use Rattle.clp_rationals.specs.Fraction.{Fraction, IsLowest}
use Rattle.frac_model.specs.Reduced as frac
use Rattle.frac_model.specs.Results.{is_small, if_small}
use Rattle.linear_model.specs.Normal.{limit}
use Rattle.form_model.specs.Forms.{Form, AreLowest, form, each, with_terms, are_small}
use Rattle.frac_laws.proofs.Turned.{opposite_lowest}
use Rattle.form_laws.proofs.Lowest.{sum_lowest, product_lowest, with_terms_lowest, each_lowest}
use Rattle.linear_form.specs.Kept.{IsKept}
use Rattle.linear_form.proofs.Smallness.{ok_is}

abbrev Terms : Type 0
Terms = List (ℕ × Fraction)

-- ---- forms that are kept
part_kept : (c : Fraction) (ps : Terms) → is_small c ≡ true → IsLowest c → are_small ps ≡ true → AreLowest ps → IsKept (form c ps)
part_kept c ps s l t m = record { small = rw (s, t) refl; constant = l; terms = m }

both : (a b : Bool) → (a && b) ≡ true → (a ≡ true) × (b ≡ true)
both true true e = (refl, refl)
both true false e = cc
both false b e = cc

pub constant_small : (f : Form) → IsKept f → is_small f.constant ≡ true
constant_small f k = (both (is_small f.constant) (are_small f.terms) k.small).0

pub terms_small : (f : Form) → IsKept f → are_small f.terms ≡ true
terms_small f k = (both (is_small f.constant) (are_small f.terms) k.small).1

pub sum_kept : (f g : Form) (c : Fraction) (ps : Terms) → IsKept f → IsKept g → Ok c ≡ if_small (frac.sum f.constant g.constant)
    → are_small ps ≡ true → ps ≡ with_terms f.terms g.terms → IsKept (form c ps)
sum_kept f g c ps k l e s h =
    let o = ok_is c (frac.sum f.constant g.constant) e in
    part_kept c ps (ap is_small o.0 ∙ o.1) (subst IsLowest (sym o.0) (sum_lowest f.constant g.constant k.constant l.constant))
    s (subst AreLowest (sym h) (with_terms_lowest f.terms g.terms k.terms l.terms))

pub product_kept : (f : Form) (k c : Fraction) (ps : Terms) → IsKept f → IsLowest k → Ok c ≡ if_small (frac.product f.constant k)
    → are_small ps ≡ true → ps ≡ each (λ x. frac.product x k) f.terms → IsKept (form c ps)
product_kept f k c ps kept l e s h =
    let o = ok_is c (frac.product f.constant k) e in
    part_kept c ps (ap is_small o.0 ∙ o.1) (subst IsLowest (sym o.0) (product_lowest f.constant k kept.constant l))
    s (subst AreLowest (sym h) (each_lowest (λ x. frac.product x k) (λ x m. product_lowest x k m l) f.terms kept.terms))

opposite_abs : (z : ℤ) → unsigned_abs (neg_ℤ z) ≡ unsigned_abs z
opposite_abs (pos zero) = refl
opposite_abs (pos (suc n)) = refl
opposite_abs (negsuc n) = refl

opposite_small : (f : Fraction) → is_small (frac.opposite f) ≡ is_small f
opposite_small f = ap (λ n. nat_le n limit && nat_le f.den limit) (opposite_abs f.num)

opposites_small : (ps : Terms) → are_small (each frac.opposite ps) ≡ are_small ps
opposites_small [] = refl
opposites_small (p ∷ ps) =
    ap (λ b. b && are_small (each frac.opposite ps)) (opposite_small p.1) ∙ ap (λ b. is_small p.1 && b) (opposites_small ps)

pub opposite_kept : (f : Form) (c : Fraction) (ps : Terms) → IsKept f → c ≡ frac.opposite f.constant → ps ≡ each frac.opposite f.terms → IsKept (form c ps)
opposite_kept f c ps k e h =
    part_kept c ps (ap is_small e ∙ (opposite_small f.constant ∙ constant_small f k)) (subst IsLowest (sym e) (opposite_lowest f.constant k.constant))
    (ap are_small h ∙ (opposites_small f.terms ∙ terms_small f k)) (subst AreLowest (sym h) (each_lowest frac.opposite opposite_lowest f.terms k.terms))
