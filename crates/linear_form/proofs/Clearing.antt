-- Terms that are brought over the common denominator one by one.
use Rattle.std.proofs.Common.{◌≡◌, ℕ, zero, suc, ◌+◌, ◌<◌, ◌/◌, List, [], ◌∷◌, ◌++◌, append_assoc, drop, slice_get, Some, false, arith, refl, sym, ◌∙◌, ap}
use Rattle.std.specs.Map.{keys_of}
use Rattle.std.proofs.Math.IntN.{ℤ}
use Rattle.clp_rationals.specs.Fraction.{Fraction}
use Rattle.linear_model.specs.Forms.{is_zero}
use Rattle.linear_model.specs.Normal.{limit}
use Rattle.form_model.specs.Forms.{cleared, cleared_terms}
use Rattle.linear_form.specs.Ranges.{AreBounded}
use Rattle.linear_form.proofs.Changes.{front}

abbrev Terms : Type 0
Terms = List (ℕ × Fraction)

pub clearing_goes_on : (made old all : List (ℕ × ℤ)) (d i : ℕ) (ps : Terms) (t : ℕ × Fraction) (z : ℤ) → slice_get ps i ≡ Some t → z ≡ cleared d t.1
    → made ≡ old ++ (t.0, z) ∷ [] → old ++ cleared_terms d (drop i ps) ≡ all → made ++ cleared_terms d (drop (i + 1) ps) ≡ all
clearing_goes_on made old all d i ps t z at e m so_far =
    let rest = cleared_terms d (drop (i + 1) ps) in
    ap (λ xs. xs ++ rest) m ∙ (append_assoc old ((t.0, z) ∷ []) rest ∙ (ap (λ y. old ++ (t.0, y) ∷ rest) e
    ∙ (sym (ap (λ xs. old ++ cleared_terms d xs) (front ps i t at)) ∙ so_far)))

some_same : {X : Type 0} (x y : X) → Some x ≡ Some y → x ≡ y
some_same x y e = cc

pub not_bounded : (l i : ℕ) (ps : Terms) (t : ℕ × Fraction) → slice_get ps i ≡ Some t → is_zero t.1.num ≡ false → limit < l / t.1.den → AreBounded l ps → ⊥
not_bounded l zero [] t at z h b = cc
not_bounded l (suc i) [] t at z h b = cc
not_bounded l zero (p ∷ ps) t at z h b =
    let s : p ≡ t = some_same p t at in
    let k = b.0 (ap (λ x. is_zero x.1.num) s ∙ z) in
    let e = ap (λ x. l / x.1.den) s in omega arith
not_bounded l (suc i) (p ∷ ps) t at z h b = not_bounded l i ps t at z h b.1

pub same_keys : (d : ℕ) (ps : Terms) → keys_of (cleared_terms d ps) ≡ keys_of ps
same_keys d [] = refl
same_keys d (p ∷ ps) = ap (λ xs. p.0 ∷ xs) (same_keys d ps)
