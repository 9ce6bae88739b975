-- The rows that an elimination leaves are rows of the clause's number variables.
use Rattle.std.proofs.Common.{◌≡◌, ℕ, ◌<◌, ◌≤◌, List, [], ◌∷◌, length, map, Bool, true, false, not, ◌&&◌, Some, None, refl, ap, ◌∙◌, sym, subst, arith, All, nat_eq, eq-eqb}
use Rattle.std.specs.Prelude.{nat_lt, if◌then◌else◌}
use Rattle.std.proofs.lemmas.Bool.{eqb-true, lt-ltb, le-ltb}
use Rattle.std.proofs.Math.IntN.{ℤ, pos, ◌+ℤ◌}
use Rattle.std.proofs.lemmas.Int.{ints}
use Rattle.clp_model.specs.declared.sort.Sort.{Sort}
use Rattle.clp_model.specs.declared.limit.Limit.TheVariants.{Rows}
use Rattle.clp_model.specs.Clauses.{Clause, Row}
use Rattle.clp_model.proofs.Membership.{Among, first, next, to_among, from_among}
use Rattle.linear_model.specs.Forms.{IsRising, is_zero, coefficient, combination}
use Rattle.linear_model.specs.Normal.{normal, is_within}
use Rattle.linear_model.specs.Elimination.{elimination, eliminated, row_itself}
use Rattle.linear_laws.proofs.Cleaning.{cleaned_out}
use Rattle.linear_laws.proofs.Lists.{mapped_out}
use Rattle.linear_laws.proofs.Normalized.{normal_normal}
use Rattle.linear_laws.proofs.Rising.{first_coefficient}
use Rattle.linear_laws.proofs.Sums.{zero_is}
use Rattle.linear_laws.proofs.Fresh.{elimination_rises, no_variable_comes}
use Rattle.lin_row.specs.Rows.{IsKept}
use Rattle.elim_rows.specs.Made.{made, all_within}
use Rattle.unify_laws.proofs.Solved.{among_cases}
use Rattle.clause_model.specs.Variables.{rows_variables}
use Rattle.clause_laws.proofs.Rows.{all_each, each_all}
use Rattle.clause_laws.proofs.Scaling.{not_zero}
use Rattle.clause_store.specs.Stored.{IsNum}
use Rattle.map_model.specs.declared.refusal.Refusal.TheVariants.{Overflow, TooLarge}
use Rattle.map_model.specs.Replacing.{elimination_broken}
use Rattle.rules_rows.proofs.Sorted.{nums_of, num_in}

-- ---- which variables a row has
has_coefficient : (ps : List (ℕ × ℤ)) (v : ℕ) → ¬ (coefficient ps v ≡ pos 0) → Among v (map (λ p. p.0) ps)
has_coefficient [] v h = absurd (h refl)
has_coefficient (p ∷ ps) v h = by (nat_eq p.0 v) refl (λ k. has_coefficient ps v k)
  where
    by : (b : Bool) → nat_eq p.0 v ≡ b → (¬ (coefficient ps v ≡ pos 0) → Among v (map (λ p. p.0) ps)) → Among v (map (λ p. p.0) (p ∷ ps))
    by true e again = subst (λ (n : ℕ). Among n (map (λ p. p.0) (p ∷ ps))) (eqb-true p.0 v e) first
    by false e again = next (again (λ k. h (ap (λ (b : Bool). (if b then p.1 else pos 0) +ℤ coefficient ps v) e ∙ omega (arith, ints, k))))

among_coefficient : (ps : List (ℕ × ℤ)) → IsRising ps → (v : ℕ) → Among v (map (λ p. p.0) ps) → ¬ (coefficient ps v ≡ pos 0)
among_coefficient [] r v a k = elim a [ ]
among_coefficient (p ∷ ps) r v a k = by (nat_eq p.0 v) refl (λ m. among_coefficient ps r.2 v m)
  where
    by : (b : Bool) → nat_eq p.0 v ≡ b → (Among v (map (λ p. p.0) ps) → ¬ (coefficient ps v ≡ pos 0)) → ⊥
    by true e again = not_zero p.1 r.0 (sym (first_coefficient p ps r) ∙ (ap (coefficient (p ∷ ps)) (eqb-true p.0 v e) ∙ k))
    by false e again =
        let z : coefficient ps v ≡ pos 0 = (let s = ap (λ (b : Bool). (if b then p.1 else pos 0) +ℤ coefficient ps v) e in omega (arith, ints, k)) in
        among_cases a (λ q. let t = eq-eqb p.0 v (sym q) in cc) (λ m. again m z)

not_zero_has : (z : ℤ) → ¬ (z ≡ pos 0) → not (is_zero z) ≡ true
not_zero_has z h = by (is_zero z) refl
  where
    by : (b : Bool) → is_zero z ≡ b → not b ≡ true
    by true e = absurd (h (zero_is z e))
    by false e = refl

has_not_zero : (z : ℤ) → not (is_zero z) ≡ true → ¬ (z ≡ pos 0)
has_not_zero z h e = let f = ap (λ (x : ℤ). not (is_zero x)) e in cc

module _ (v : ℕ) (rows : List Row) (kept : All IsKept rows) (within : all_within (made v rows) ≡ true) where
  and_both : (a b : Bool) → (a && b) ≡ true → (a ≡ true) × (b ≡ true)
  and_both true b h = (refl, h)
  and_both false b h = absurd (cc (h))

  each_within : (rs : List Row) → all_within rs ≡ true → (r : Row) → Among r rs → is_within r ≡ true
  each_within [] h r m = elim m [ ]
  each_within (s ∷ rs) h r m = among_cases m (λ e. ap is_within e ∙ (and_both (is_within s) (all_within rs) h).0) (λ k. each_within rs (and_both (is_within s) (all_within rs) h).1 r k)

  left_is_made : (r : Row) → Among r (elimination v rows) → Among r (made v rows)
  left_is_made r m = cleaned_out (eliminated row_itself combination v rows) r m

  left_rises : (r : Row) → Among r (elimination v rows) → IsRising r.pairs
  left_rises r m = elimination_rises v rows (λ s c. (all_each IsKept rows kept s (to_among rows s c)).normal.rising) r (from_among m)

  left_stays : (r : Row) → Among r (elimination v rows) → normal r ≡ r
  left_stays r m = mapped_out normal (eliminated row_itself combination v rows) (λ s. normal s ≡ s) (λ s a. normal_normal s) r (left_is_made r m)

  pub left_kept : All IsKept (elimination v rows)
  left_kept = each_all IsKept (elimination v rows) (λ r m. record {
    within = each_within (made v rows) within r (left_is_made r m);
    normal = record { rising = left_rises r m; stays = left_stays r m };
  })

  pub left_nums : (sorts : List Sort) → All (IsNum sorts) (rows_variables rows) → All (IsNum sorts) (rows_variables (elimination v rows))
  left_nums sorts nums =
      nums_of sorts (elimination v rows) (λ r m n a.
      let h = not_zero_has (coefficient r.pairs n) (among_coefficient r.pairs (left_rises r m) n a) in
      let s = no_variable_comes v rows r n (from_among m) h in
      num_in sorts rows nums s.0 (to_among rows s.0 s.1) n (has_coefficient s.0.pairs n (has_not_zero (coefficient s.0.pairs n) s.2)))

-- ---- what is told of it
module _ (c : Clause) (v : ℕ) where
  pub unbroken : all_within (made v c.rows) ≡ true → length (elimination v c.rows) ≤ 128 → elimination_broken c v ≡ None
  unbroken h k =
      ap (λ (b : Bool). if not b then Some (Overflow 0) else (if nat_lt 128 (length (elimination v c.rows)) then Some (TooLarge Rows) else None)) h
      ∙ ap (λ (b : Bool). if b then Some (TooLarge Rows) else None) (le-ltb 128 (length (elimination v c.rows)) k)

  pub out_of_range : all_within (made v c.rows) ≡ false → elimination_broken c v ≡ Some (Overflow 0)
  out_of_range h = ap (λ (b : Bool). if not b then Some (Overflow 0) else (if nat_lt 128 (length (elimination v c.rows)) then Some (TooLarge Rows) else None)) h

  pub too_many : all_within (made v c.rows) ≡ true → 128 < length (elimination v c.rows) → elimination_broken c v ≡ Some (TooLarge Rows)
  too_many h k =
      ap (λ (b : Bool). if not b then Some (Overflow 0) else (if nat_lt 128 (length (elimination v c.rows)) then Some (TooLarge Rows) else None)) h
      ∙ ap (λ (b : Bool). if b then Some (TooLarge Rows) else None) (lt-ltb 128 (length (elimination v c.rows)) k)

-- ---- by the names that the code has
module _ (v : ℕ) (rows seen left : List Row) (as_seen : seen ≡ rows) (is : left ≡ elimination v seen) (range : all_within (made v seen) ≡ true) where
  pub rows_left_kept : All IsKept rows → All IsKept left
  rows_left_kept h = let P : List Row → Type 0 = λ rs. All IsKept rs in subst P (sym is) (left_kept v seen (subst P (sym as_seen) h) range)

  pub rows_left_nums : (sorts : List Sort) → All IsKept rows → All (IsNum sorts) (rows_variables rows) → All (IsNum sorts) (rows_variables left)
  rows_left_nums sorts h k =
      let P : List Row → Type 0 = λ rs. All IsKept rs in
      let Q : List Row → Type 0 = λ rs. All (IsNum sorts) (rows_variables rs) in
      subst Q (sym is) (left_nums v seen (subst P (sym as_seen) h) range sorts (subst Q (sym as_seen) k))
