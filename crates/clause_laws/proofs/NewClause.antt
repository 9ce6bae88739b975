-- What is made of a new clause is canonical, and a canonical clause stays.
use Rattle.std.proofs.Common.{◌≡◌, ℕ, zero, suc, ◌*◌, ◌<◌, ◌≤◌, List, [], ◌∷◌, Bool, true, false, arith, refl, sym, ◌∙◌, ap, subst, map, max, inl, inr}
use Rattle.std.specs.Prelude.{nat_eq, nat_le, unsigned_abs, not, ◌&&◌, if◌then◌else◌, Option, Some, None, Result, Ok, Err}
use Rattle.std.proofs.lemmas.Bool.{eqb-true, le-leb, leb-true}
use Rattle.std.proofs.Math.IntN.{ℤ, pos, ◌+ℤ◌, ◌*ℤ◌}
use Rattle.std.proofs.lemmas.Int.{ints, unsigned_abs-mul}
use Rattle.clp_model.specs.declared.limit.Limit.{Limit}
use Rattle.clp_model.specs.Clauses.{Clause, Row}
use Rattle.clp_model.specs.Canonical.{place_in}
use Rattle.unify_laws.proofs.Solved.{among_cases}
use Rattle.clp_model.proofs.Membership.{Among, first, next}
use Rattle.linear_model.specs.Forms.{IsRising, coefficient}
use Rattle.linear_model.specs.Changes.{renamed}
use Rattle.linear_model.specs.Normal.{normal, IsNormal, limit, pairs_within, is_within, row_gcd, is_flipped}
use Rattle.linear_laws.proofs.Lists.{mapped_out}
use Rattle.linear_laws.proofs.Rising.{first_coefficient, absent}
use Rattle.linear_laws.proofs.Divided.{coefficient_normal}
use Rattle.linear_laws.proofs.Normalized.{normal_normal}
use Rattle.clause_model.specs.Variables.{row_variables, variables_by_first_occurrence}
use Rattle.clause_model.specs.Canonical.{Refusal, Overflow, all_within, limit_past, unless_past, new_clause, canonical_form, with_clean_rows, HasRisingRows, IsCanonical}
use Rattle.clause_laws.proofs.Rows.{each_all}
use Rattle.clause_laws.proofs.Renaming.{IsInjectiveOn, coefficient_renamed, coefficient_injective, factor, factor_back, abs_divisor}
use Rattle.clause_laws.proofs.Written.{written, written_rises, written_normal, became}
use Rattle.clause_laws.proofs.Clean.{cleaned_has, cleaned_is_clean}
use Rattle.clause_laws.proofs.Again.{canonical_again, rows_of_clean, in_met_row, place_apart}

-- ---- range, said of coefficients
and_first : (a b : Bool) → (a && b) ≡ true → a ≡ true
and_first true b e = refl
and_first false b e = absurd (cc)

and_second : (a b : Bool) → (a && b) ≡ true → b ≡ true
and_second true b e = e
and_second false b e = absurd (cc)

and_both : (a b : Bool) → a ≡ true → b ≡ true → (a && b) ≡ true
and_both true b e f = f
and_both false b e f = absurd (cc)

abbrev Small : ℤ → Type 0
Small z = unsigned_abs z ≤ limit

coefficients_small : (ps : List (ℕ × ℤ)) → IsRising ps → pairs_within ps ≡ true → (v : ℕ) → Small (coefficient ps v)
coefficients_small [] r e v = omega arith
coefficients_small (p ∷ ps) r e v = by (nat_eq p.0 v) refl (coefficients_small ps r.2 (and_second (nat_le (unsigned_abs p.1) limit) (pairs_within ps) e) v)
  where
    by : (b : Bool) → nat_eq p.0 v ≡ b → Small (coefficient ps v) → Small (coefficient (p ∷ ps) v)
    by true k s =
        let q : coefficient (p ∷ ps) v ≡ p.1 = ap (coefficient (p ∷ ps)) (sym (eqb-true p.0 v k)) ∙ first_coefficient p ps r in
        subst Small (sym q) (leb-true (unsigned_abs p.1) limit (and_first (nat_le (unsigned_abs p.1) limit) (pairs_within ps) e))
    by false k s =
        let q : coefficient (p ∷ ps) v ≡ coefficient ps v = ap (λ b. (if b then p.1 else pos 0) +ℤ coefficient ps v) k ∙ omega (arith, ints) in
        subst Small (sym q) s

small_coefficients : (ps : List (ℕ × ℤ)) → IsRising ps → ((v : ℕ) → Small (coefficient ps v)) → pairs_within ps ≡ true
small_coefficients [] r h = refl
small_coefficients (p ∷ ps) r h =
    and_both (nat_le (unsigned_abs p.1) limit) (pairs_within ps)
    (le-leb (unsigned_abs p.1) limit (subst Small (first_coefficient p ps r) (h p.0)))
    (small_coefficients ps r.2 (λ v. by v (nat_eq p.0 v) refl))
  where
    by : (v : ℕ) (b : Bool) → nat_eq p.0 v ≡ b → Small (coefficient ps v)
    by v true k = subst Small (sym (ap (coefficient ps) (sym (eqb-true p.0 v k)) ∙ absent p.0 ps r.1)) (omega arith)
    by v false k =
        let q : coefficient (p ∷ ps) v ≡ coefficient ps v = ap (λ b. (if b then p.1 else pos 0) +ℤ coefficient ps v) k ∙ omega (arith, ints) in
        subst Small q (h v)

-- dividing makes no number greater
smaller : (d z w : ℤ) → 0 < unsigned_abs d → d *ℤ z ≡ w → Small w → Small z
smaller d z w up e s =
    let a : unsigned_abs d * unsigned_abs z ≡ unsigned_abs w = sym (unsigned_abs-mul d z) ∙ ap unsigned_abs e in
    at_least (unsigned_abs d) (unsigned_abs z) up a
  where
    at_least : (m n : ℕ) → 0 < m → m * n ≡ unsigned_abs w → n ≤ limit
    at_least zero n h q = absurd (omega arith)
    at_least (suc m) n h q = let k : n ≤ suc m * n = omega arith in omega arith

factor_positive : (r : Row) → 0 < unsigned_abs (factor r)
factor_positive r = subst (λ n. 0 < n) (sym (abs_divisor (is_flipped r.rel r.pairs) (max 1 (row_gcd r)) (omega arith))) (omega arith)

constant_back : (r : Row) → factor r *ℤ (normal r).constant ≡ r.constant
constant_back r = ap (λ (s : Row). s.constant) (factor_back r)

module _ (f : ℕ → ℕ) (r : Row) (is : IsNormal r) (apart : IsInjectiveOn (row_variables r) f) (within : is_within r ≡ true) where
  renamed_small : (w : ℕ) → Small (coefficient (renamed f r).pairs w)
  renamed_small w = elim (became f r.pairs w) [
    | inl k ↦ subst (λ n. Small (coefficient (renamed f r).pairs n)) k.2
        (subst Small (sym (coefficient_injective f r.pairs apart k.0 k.1)) (coefficients_small r.pairs is.rising (and_first (pairs_within r.pairs) (nat_le (unsigned_abs r.constant) limit) within) k.0))
    | inr z ↦ subst Small (sym (coefficient_renamed f r.pairs w ∙ z)) (omega arith)
  ]

  pub written_within : is_within (written f r) ≡ true
  written_within =
      let s = renamed f r in
      and_both (pairs_within (written f r).pairs) (nat_le (unsigned_abs (written f r).constant) limit)
      (small_coefficients (written f r).pairs (written_rises f r) (λ v. smaller (factor s) (coefficient (normal s).pairs v) (coefficient s.pairs v) (factor_positive s) (coefficient_normal s v) (renamed_small v)))
      (le-leb (unsigned_abs (written f r).constant) limit
      (smaller (factor s) (normal s).constant s.constant (factor_positive s) (constant_back s) (leb-true (unsigned_abs r.constant) limit (and_second (pairs_within r.pairs) (nat_le (unsigned_abs r.constant) limit) within))))

-- ---- rows in range
pub each_within : (rows : List Row) → all_within rows ≡ true → (r : Row) → Among r rows → is_within (normal r) ≡ true
each_within [] e r a = elim a [ ]
each_within (s ∷ rows) e r a = among_cases a
    (λ q. subst (λ x. is_within (normal x) ≡ true) (sym q) (and_first (is_within (normal s)) (all_within rows) e))
    (λ m. each_within rows (and_second (is_within (normal s)) (all_within rows) e) r m)

pub within_each : (rows : List Row) → ((r : Row) → Among r rows → is_within (normal r) ≡ true) → all_within rows ≡ true
within_each [] h = refl
within_each (s ∷ rows) h = and_both (is_within (normal s)) (all_within rows) (h s first) (within_each rows (λ r m. h r (next m)))

module _ (c : Clause) (rising : HasRisingRows c) (within : all_within c.rows ≡ true) where
  clean_within : (r : Row) → Among r (with_clean_rows c).rows → is_within r ≡ true
  clean_within r a = cleaned_has c.rows (λ x. is_within x ≡ true) (each_within c.rows within) r a

  canonical_within : all_within (canonical_form c).rows ≡ true
  unfolding canonical_form
  canonical_within =
      let d = with_clean_rows c in
      let g = place_in (variables_by_first_occurrence d) in
      within_each (map (written g) d.rows) (λ t a. mapped_out (written g) d.rows (λ x. is_within (normal x) ≡ true)
      (λ s m. subst (λ x. is_within x ≡ true) (sym (written_normal g s))
      (written_within g s (rows_of_clean c rising s m) (λ i j p q e. place_apart (variables_by_first_occurrence d) i j (has s m i p) (has s m j q) e) (clean_within s m))) t a)
    where
      has : (s : Row) → Among s (with_clean_rows c).rows → (n : ℕ) → Among n (row_variables s) → Among n (variables_by_first_occurrence (with_clean_rows c))
      has s m n a = in_met_row (record (with_clean_rows c) { equations = [] }) (cleaned_is_clean c.rows (λ r k. normal_normal r)) (λ r k. (rows_of_clean c rising r k).rising) refl s m n a

  canonical_rises : HasRisingRows (canonical_form c)
  unfolding canonical_form
  canonical_rises =
      let d = with_clean_rows c in
      let g = place_in (variables_by_first_occurrence d) in
      each_all (λ r. IsRising r.pairs) (map (written g) d.rows) (λ t a. mapped_out (written g) d.rows (λ x. IsRising x.pairs) (λ s m. written_rises g s) t a)

-- ---- the laws
ok_is : {c d : Clause} → ◌≡◌ {A = Result Clause Refusal} (Ok c) (Ok d) → c ≡ d
ok_is {c} e = let back : Result Clause Refusal → Clause = elim [ Ok x ↦ x | Err r ↦ c ] in ap back e

pub new_clause_is_canonical : (c d : Clause) → HasRisingRows c → new_clause c ≡ Ok d → (d ≡ canonical_form c) × IsCanonical d
unfolding new_clause
new_clause_is_canonical c d rising e = by (all_within c.rows) refl (limit_past (canonical_form c)) refl e
  where
    by : (b : Bool) → all_within c.rows ≡ b → (o : Option Limit) → limit_past (canonical_form c) ≡ o
        → (if not b then Err Overflow else unless_past o (canonical_form c)) ≡ Ok d → (d ≡ canonical_form c) × IsCanonical d
    by false w o l h = absurd (cc)
    by true w (Some x) l h = absurd (cc)
    by true w None l h =
        let same : canonical_form c ≡ d = ok_is h in
        (sym same, subst IsCanonical same (record { form = canonical_again c rising; rising = canonical_rises c rising w; range = canonical_within c rising w; limits = l }))

pub canonical_is_new : (c : Clause) → IsCanonical c → new_clause c ≡ Ok c
unfolding new_clause
canonical_is_new c h =
    let a = h.range in
    let b = h.form in
    let l : limit_past (canonical_form c) ≡ None = ap limit_past b ∙ h.limits in
    ap (λ t. if not t then Err Overflow else unless_past (limit_past (canonical_form c)) (canonical_form c)) a
    ∙ (ap (λ o. unless_past o (canonical_form c)) l ∙ ap Ok b)
