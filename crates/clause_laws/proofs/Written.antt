-- Rows written in new numbers, which keep variables apart.
use Rattle.std.proofs.Common.{◌≡◌, ℕ, List, [], ◌∷◌, Bool, true, false, arith, refl, sym, ◌∙◌, ap, subst, eq-eqb, map, ◌⊎◌, inl, inr}
use Rattle.std.specs.Prelude.{nat_eq, if◌then◌else◌}
use Rattle.std.proofs.lemmas.Bool.{eqb-true}
use Rattle.std.proofs.Math.IntN.{ℤ, pos, ◌+ℤ◌, ◌*ℤ◌}
use Rattle.std.proofs.lemmas.Int.{ints}
use Rattle.clp_model.specs.Clauses.{Row, sum_of}
use Rattle.clp_model.proofs.Membership.{Among, first, next}
use Rattle.linear_model.specs.Forms.{IsRising, coefficient}
use Rattle.linear_model.specs.Changes.{renamed, renamed_pairs}
use Rattle.linear_model.specs.Normal.{normal, IsNormal}
use Rattle.linear_laws.proofs.Ring.{mul_zero}
use Rattle.linear_laws.proofs.Rising.{first_coefficient}
use Rattle.linear_laws.proofs.Renamed.{rising_renamed}
use Rattle.linear_laws.proofs.Divided.{rising_normal}
use Rattle.linear_laws.proofs.Normalized.{normal_normal}
use Rattle.unify_laws.proofs.Solved.{among_cases}
use Rattle.clause_model.specs.Variables.{row_variables}
use Rattle.clause_laws.proofs.Scaling.{not_zero}
use Rattle.clause_laws.proofs.Renaming.{mark, IsInjectiveOn, coefficient_renamed, coefficient_injective, renamed_twice, renamed_agrees, renamed_same, variables_normal, normal_renamed_normal}

-- a row in new numbers
abbrev pub written : (ℕ → ℕ) → Row → Row
written f r = normal (renamed f r)

-- ---- which variables it has
has_coefficient : (ps : List (ℕ × ℤ)) (v : ℕ) → ¬ (coefficient ps v ≡ pos 0) → Among v (map (λ p. p.0) ps)
has_coefficient [] v h = absurd (h refl)
has_coefficient (p ∷ ps) v h = by (nat_eq p.0 v) refl (λ k. has_coefficient ps v k)
  where
    by : (b : Bool) → nat_eq p.0 v ≡ b → (¬ (coefficient ps v ≡ pos 0) → Among v (map (λ p. p.0) ps)) → Among v (map (λ p. p.0) (p ∷ ps))
    by true e again = subst (λ n. Among n (map (λ p. p.0) (p ∷ ps))) (eqb-true p.0 v e) first
    by false e again = next (again (λ k. h (ap (λ b. (if b then p.1 else pos 0) +ℤ coefficient ps v) e ∙ omega (arith, ints, k))))

among_coefficient : (ps : List (ℕ × ℤ)) → IsRising ps → (v : ℕ) → Among v (map (λ p. p.0) ps) → ¬ (coefficient ps v ≡ pos 0)
among_coefficient [] r v a k = elim a [ ]
among_coefficient (p ∷ ps) r v a k = by (nat_eq p.0 v) refl (λ m. among_coefficient ps r.2 v m)
  where
    by : (b : Bool) → nat_eq p.0 v ≡ b → (Among v (map (λ p. p.0) ps) → ¬ (coefficient ps v ≡ pos 0)) → ⊥
    by true e again = not_zero p.1 r.0 (sym (first_coefficient p ps r) ∙ (ap (coefficient (p ∷ ps)) (eqb-true p.0 v e) ∙ k))
    by false e again =
        let z : coefficient ps v ≡ pos 0 = (let s = ap (λ b. (if b then p.1 else pos 0) +ℤ coefficient ps v) e in omega (arith, ints, k)) in
        among_cases a (λ q. let t = eq-eqb p.0 v (sym q) in cc) (λ m. again m z)

-- a variable that some variable becomes, or a coefficient 0
pub became : (f : ℕ → ℕ) (ps : List (ℕ × ℤ)) (w : ℕ) → ((n : ℕ) × Among n (map (λ p. p.0) ps) × (f n ≡ w)) ⊎ (sum_of (λ n. mark w (f n)) ps ≡ pos 0)
became f [] w = inr refl
became f (p ∷ ps) w = by (nat_eq (f p.0) w) refl (became f ps w)
  where
    by : (b : Bool) → nat_eq (f p.0) w ≡ b → ((n : ℕ) × Among n (map (λ p. p.0) ps) × (f n ≡ w)) ⊎ (sum_of (λ n. mark w (f n)) ps ≡ pos 0)
        → ((n : ℕ) × Among n (map (λ p. p.0) (p ∷ ps)) × (f n ≡ w)) ⊎ (sum_of (λ n. mark w (f n)) (p ∷ ps) ≡ pos 0)
    by true e r = inl (p.0, first, eqb-true (f p.0) w e)
    by false e (inl k) = inl (k.0, next k.1, k.2)
    by false e (inr z) =
        let m : mark w (f p.0) ≡ pos 0 = ap (λ b. if b then pos 1 else pos 0) e in
        let q : p.1 *ℤ mark w (f p.0) ≡ pos 0 = ap (λ x. p.1 *ℤ x) m ∙ mul_zero p.1 in
        inr (omega (arith, ints))

module _ (f : ℕ → ℕ) (r : Row) where
  -- each variable of the written row is what a variable of the row becomes
  pub written_from : (w : ℕ) → Among w (row_variables (written f r)) → (n : ℕ) × Among n (row_variables r) × (f n ≡ w)
  written_from w a =
      let b : Among w (map (λ p. p.0) (renamed_pairs f r.pairs)) = subst (λ vs. Among w vs) (variables_normal (renamed f r)) a in
      elim (became f r.pairs w) [
        | inl k ↦ k
        | inr z ↦ absurd (among_coefficient (renamed_pairs f r.pairs) (rising_renamed f r) w b (coefficient_renamed f r.pairs w ∙ z))
      ]

  -- and the other way round
  pub written_into : IsRising r.pairs → IsInjectiveOn (row_variables r) f → (n : ℕ) → Among n (row_variables r) → Among (f n) (row_variables (written f r))
  written_into rises i n a =
      subst (λ vs. Among (f n) vs) (sym (variables_normal (renamed f r)))
      (has_coefficient (renamed_pairs f r.pairs) (f n) (λ k. among_coefficient r.pairs rises n a (sym (coefficient_injective f r.pairs i n a) ∙ k)))

  pub written_rises : IsRising (written f r).pairs
  written_rises = rising_normal (renamed f r) (rising_renamed f r)

  pub written_normal : normal (written f r) ≡ written f r
  written_normal = normal_normal (renamed f r)

-- ---- written twice
renamed_row_twice : (f g : ℕ → ℕ) (r : Row) → renamed g (renamed f r) ≡ renamed (λ n. g (f n)) r
renamed_row_twice f g r = ap (λ (ps : List (ℕ × ℤ)). record { rel = r.rel; pairs = ps; constant = r.constant }) (renamed_twice f g r.pairs)

pub written_twice : (f g : ℕ → ℕ) (r : Row) → ((m n : ℕ) → Among m (row_variables r) → Among n (row_variables r) → g (f m) ≡ g (f n) → f m ≡ f n) → written g (written f r) ≡ written (λ n. g (f n)) r
written_twice f g r i =
    let apart : IsInjectiveOn (row_variables (renamed f r)) g =
    (λ m n a b e. let k = written_from f r m (subst (λ vs. Among m vs) (sym (variables_normal (renamed f r))) a) in
    let l = written_from f r n (subst (λ vs. Among n vs) (sym (variables_normal (renamed f r))) b) in
    sym k.2 ∙ (i k.0 l.0 k.1 l.1 (ap g k.2 ∙ (e ∙ sym (ap g l.2))) ∙ l.2)) in
    normal_renamed_normal g (renamed f r) (rising_renamed f r) apart ∙ ap normal (renamed_row_twice f g r)

pub written_agrees : (f g : ℕ → ℕ) (r : Row) → ((n : ℕ) → Among n (row_variables r) → f n ≡ g n) → written f r ≡ written g r
written_agrees f g r same = ap (λ (ps : List (ℕ × ℤ)). normal (record { rel = r.rel; pairs = ps; constant = r.constant })) (renamed_agrees f g r.pairs same)

-- a row in normal form stays where its variables do
pub written_stays : (f : ℕ → ℕ) (r : Row) → IsNormal r → ((n : ℕ) → Among n (row_variables r) → f n ≡ n) → written f r ≡ r
written_stays f r is same = ap (λ (ps : List (ℕ × ℤ)). normal (record { rel = r.rel; pairs = ps; constant = r.constant })) (renamed_same f r.pairs is.rising same) ∙ is.stays
