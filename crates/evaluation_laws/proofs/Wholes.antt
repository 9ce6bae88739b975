-- Forms whose numbers are whole: sums, products and rows of them.
use Rattle.std.proofs.Common.{◌≡◌, ℕ, suc, ◌/◌, List, [], ◌∷◌, ◌++◌, Bool, true, false, ◌&&◌, arith, refl, sym, ◌∙◌, ap, subst, map}
use Rattle.std.specs.Prelude.{nat_eq, nat_le, unsigned_abs, int_div, if◌then◌else◌}
use Rattle.std.proofs.Math.IntN.{ℤ, pos, negsuc, neg_ℤ, ◌+ℤ◌, ◌*ℤ◌}
use Rattle.std.proofs.lemmas.Int.{ints}
use Rattle.std.proofs.lemmas.Bool.{eqb-true}
use Rattle.clp_rationals.specs.Fraction.{Fraction}
use Rattle.clp_model.specs.Clauses.{Row}
use Rattle.clp_model.proofs.Membership.{Among, first, next}
use Rattle.linear_model.specs.Gcd.{gcd}
use Rattle.linear_model.specs.Forms.{IsRising, with_pair, combined}
use Rattle.linear_model.specs.Normal.{limit}
use Rattle.linear_model.specs.Changes.{renamed, renamed_pairs}
use Rattle.frac_model.specs.Reduced.{fraction, reduced, sum, product}
use Rattle.frac_model.specs.Results.{is_small}
use Rattle.form_model.specs.Forms as form
use Rattle.form_model.specs.Forms.{Form, are_small, with_term, joint_den, cleared, cleared_terms, in_order, cleared_row, lcm, common_den}

-- ---- fractions

abbrev pub none : Fraction
none = fraction (pos 0) 1

over_one : (z : ℤ) → int_div z (pos 1) ≡ z
over_one (pos n) = let e : n / 1 ≡ n = omega arith in ap pos e
over_one (negsuc n) = let e : suc n / 1 ≡ suc n = omega arith in ap (λ k. neg_ℤ (pos k)) e

reduced_whole : (z : ℤ) → reduced z 1 ≡ fraction z 1
unfolding reduced gcd
reduced_whole z = ap (λ y. fraction y 1) (over_one z)

pub sum_whole : (a b : ℤ) → sum (fraction a 1) (fraction b 1) ≡ fraction (a +ℤ b) 1
sum_whole a b =
    let e : a *ℤ pos 1 +ℤ b *ℤ pos 1 ≡ a +ℤ b = omega (arith, ints) in
    ap (λ z. reduced z 1) e ∙ reduced_whole (a +ℤ b)

pub none_and : (z : ℤ) → sum none (fraction z 1) ≡ fraction z 1
none_and z = sum_whole (pos 0) z ∙ ap (λ y. fraction y 1) (omega (arith, ints))

pub product_whole : (a b : ℤ) → product (fraction a 1) (fraction b 1) ≡ fraction (a *ℤ b) 1
product_whole a b = reduced_whole (a *ℤ b)

pub small_whole : (z : ℤ) → nat_le (unsigned_abs z) limit ≡ true → is_small (fraction z 1) ≡ true
small_whole z h = ap (λ b. b && true) h

-- ---- terms

abbrev pub Terms : Type 0
Terms = List (ℕ × Fraction)

-- of variables in these numbers
abbrev pub whole_terms : (ℕ → ℕ) → List (ℕ × ℤ) → Terms
whole_terms h [] = []
whole_terms h (p ∷ ps) = (h p.0, fraction p.1 1) ∷ whole_terms h ps

abbrev pub variables_of : Terms → List ℕ
variables_of ts = map (λ (t : ℕ × Fraction). t.0) ts

and_first : (a b : Bool) → (a && b) ≡ true → a ≡ true
and_first true b e = refl
and_first false b e = absurd (cc)

and_second : (a b : Bool) → (a && b) ≡ true → b ≡ true
and_second true b e = e
and_second false b e = absurd (cc)

and_both : (a b : Bool) → a ≡ true → b ≡ true → (a && b) ≡ true
and_both true b e f = f
and_both false b e f = absurd (cc)

pub small_more : (ts : Terms) (t : ℕ × Fraction) → are_small ts ≡ true → is_small t.1 ≡ true → are_small (ts ++ t ∷ []) ≡ true
small_more [] t few small = and_both (is_small t.1) true small refl
small_more (u ∷ ts) t few small =
    and_both (is_small u.1) (are_small (ts ++ t ∷ [])) (and_first (is_small u.1) (are_small ts) few)
    (small_more ts t (and_second (is_small u.1) (are_small ts) few) small)

-- a new variable goes last
pub new_term : (v : ℕ) (c : Fraction) (ts : Terms) → ¬ Among v (variables_of ts) → with_term v c ts ≡ ts ++ (v, c) ∷ []
new_term v c [] new = refl
new_term v c (t ∷ ts) new = by (new_term v c ts (λ a. new (next a))) (nat_eq v t.0) refl
  where
    by : with_term v c ts ≡ ts ++ (v, c) ∷ [] → (b : Bool) → nat_eq v t.0 ≡ b → with_term v c (t ∷ ts) ≡ t ∷ (ts ++ (v, c) ∷ [])
    by again true e = absurd (new (subst (λ n. Among n (variables_of (t ∷ ts))) (sym (eqb-true v t.0 e)) first))
    by again false e = ap (λ b. if b then (t.0, sum t.1 c) ∷ ts else t ∷ with_term v c ts) e ∙ ap (λ us. t ∷ us) again

-- ---- rows

joint_whole : (h : ℕ → ℕ) (ps : List (ℕ × ℤ)) → joint_den 1 (whole_terms h ps) ≡ 1
unfolding gcd
joint_whole h [] = refl
joint_whole h (p ∷ ps) = joint_whole h ps

cleared_whole : (z : ℤ) → cleared 1 (fraction z 1) ≡ z
cleared_whole z = omega (arith, ints)

row_terms : (h : ℕ → ℕ) (ps : List (ℕ × ℤ)) → IsRising ps → in_order (cleared_terms 1 (whole_terms h ps)) ≡ renamed_pairs h ps
row_terms h [] rises = refl
row_terms h (p ∷ ps) rises =
    ap (λ z. combined (pos 1) (with_pair (h p.0) z []) (pos 1) (in_order (cleared_terms 1 (whole_terms h ps)))) (cleared_whole p.1)
    ∙ ap (λ b. combined (pos 1) (if b then [] else (h p.0, p.1) ∷ []) (pos 1) (in_order (cleared_terms 1 (whole_terms h ps)))) rises.0
    ∙ ap (λ qs. combined (pos 1) ((h p.0, p.1) ∷ []) (pos 1) qs) (row_terms h ps rises.2)

-- the row that such a form makes is one in these numbers
pub whole_row : (h : ℕ → ℕ) (r : Row) → IsRising r.pairs → cleared_row r.rel (form.form (fraction r.constant 1) (whole_terms h r.pairs)) ≡ renamed h r
whole_row h r rises =
    let f = form.form (fraction r.constant 1) (whole_terms h r.pairs) in
    ap (λ d. record { rel = r.rel; pairs = in_order (cleared_terms d f.terms); constant = cleared d f.constant }) (joint_whole h r.pairs)
    ∙ ap (λ ps. record { rel = r.rel; pairs = ps; constant = cleared 1 f.constant }) (row_terms h r.pairs rises)
    ∙ ap (λ z. record { rel = r.rel; pairs = renamed_pairs h r.pairs; constant = z }) (cleared_whole r.constant)
