-- The coefficients of a combination.
use Rattle.std.proofs.Common.{◌≡◌, ℕ, List, [], ◌∷◌, Bool, true, false, arith, refl, sym, ◌∙◌, ap}
use Rattle.std.specs.Prelude.{nat_eq, nat_lt, if◌then◌else◌}
use Rattle.std.proofs.Math.IntN.{ℤ, pos, ◌+ℤ◌, ◌*ℤ◌, zero-*ℤ}
use Rattle.std.proofs.lemmas.Int.{ints}
use Rattle.std.proofs.lemmas.Bool.{ltb-false}
use Rattle.clp_rationals.proofs.Whole.{mul_add_ℤ}
use Rattle.linear_model.specs.Forms.{is_zero, coefficient, with_pair, scaled, merged, combined}
use Rattle.lin_row.proofs.Nonzero.{zero_is}
use Rattle.lin_row.proofs.Normalized.{mul_zero}

-- a fold of pairs in which a pair adds its coefficient times something of the variable: sums and coefficients
abbrev pub total : (ℕ → ℤ → ℤ) → List (ℕ × ℤ) → ℤ
total g [] = pos 0
total g (p ∷ ps) = g p.0 p.1 +ℤ total g ps

module _ (g : ℕ → ℤ → ℤ) (linear : (v : ℕ) (a b x y : ℤ) → g v (a *ℤ x +ℤ b *ℤ y) ≡ a *ℤ g v x +ℤ b *ℤ g v y) where
  at_zero : (v : ℕ) → g v (pos 0) ≡ pos 0
  at_zero v =
      let e = linear v (pos 0) (pos 0) (pos 0) (pos 0) in
      let z = zero-*ℤ (g v (pos 0)) in
      e ∙ omega (arith, ints)

  at_once : (v : ℕ) (b x : ℤ) → g v (b *ℤ x) ≡ b *ℤ g v x
  at_once v b x =
      let e = linear v b (pos 0) x (pos 0) in
      let z = zero-*ℤ (g v (pos 0)) in
      let y : b *ℤ x +ℤ pos 0 *ℤ pos 0 ≡ b *ℤ x = omega (arith, ints) in
      ap (g v) (sym y) ∙ (e ∙ omega (arith, ints))

  total_with : (v : ℕ) (c : ℤ) (ps : List (ℕ × ℤ)) → total g (with_pair v c ps) ≡ g v c +ℤ total g ps
  total_with v c ps = by (is_zero c) refl
    where
      by : (t : Bool) → is_zero c ≡ t → total g (if t then ps else (v, c) ∷ ps) ≡ g v c +ℤ total g ps
      by false e = refl
      by true e = let z = ap (g v) (zero_is c e) ∙ at_zero v in rw z (omega (arith, ints))

  total_scaled : (b : ℤ) (qs : List (ℕ × ℤ)) → total g (scaled b qs) ≡ b *ℤ total g qs
  total_scaled b [] = sym (mul_zero b)
  total_scaled b (q ∷ qs) =
      let e = total_with q.0 (b *ℤ q.1) (scaled b qs) in
      let h = total_scaled b qs in
      let k = at_once q.0 b q.1 in
      let m = mul_add_ℤ b (g q.0 q.1) (total g qs) in
      e ∙ omega (arith, ints)

  total_merged : (a : ℤ) (p : ℕ × ℤ) (ps : List (ℕ × ℤ)) (rest : List (ℕ × ℤ) → List (ℕ × ℤ)) (b : ℤ)
      → ((qs : List (ℕ × ℤ)) → total g (rest qs) ≡ a *ℤ total g ps +ℤ b *ℤ total g qs)
      → (qs : List (ℕ × ℤ)) → total g (merged a p rest b qs) ≡ a *ℤ (g p.0 p.1 +ℤ total g ps) +ℤ b *ℤ total g qs
  total_merged a p ps rest b h [] =
      let e = total_with p.0 (a *ℤ p.1) (rest []) in
      let i = h [] in
      let k = at_once p.0 a p.1 in
      let m = mul_add_ℤ a (g p.0 p.1) (total g ps) in
      e ∙ omega (arith, ints)
  total_merged a p ps rest b h (q ∷ qs) = by (total_merged a p ps rest b h qs) (nat_lt p.0 q.0) (nat_lt q.0 p.0) refl refl
    where
      m : a *ℤ (g p.0 p.1 +ℤ total g ps) ≡ a *ℤ g p.0 p.1 +ℤ a *ℤ total g ps
      m = mul_add_ℤ a (g p.0 p.1) (total g ps)

      n : b *ℤ (g q.0 q.1 +ℤ total g qs) ≡ b *ℤ g q.0 q.1 +ℤ b *ℤ total g qs
      n = mul_add_ℤ b (g q.0 q.1) (total g qs)

      by : total g (merged a p rest b qs) ≡ a *ℤ (g p.0 p.1 +ℤ total g ps) +ℤ b *ℤ total g qs
          → (s t : Bool) → nat_lt p.0 q.0 ≡ s → nat_lt q.0 p.0 ≡ t
          → total g (if s then with_pair p.0 (a *ℤ p.1) (rest (q ∷ qs)) else if t then with_pair q.0 (b *ℤ q.1) (merged a p rest b qs) else with_pair p.0 (a *ℤ p.1 +ℤ b *ℤ q.1) (rest qs))
          ≡ a *ℤ (g p.0 p.1 +ℤ total g ps) +ℤ b *ℤ (g q.0 q.1 +ℤ total g qs)
      by again true t e f =
          let i = h (q ∷ qs) in
          let k = at_once p.0 a p.1 in
          total_with p.0 (a *ℤ p.1) (rest (q ∷ qs)) ∙ omega (arith, ints, m, n)
      by again false true e f =
          let k = at_once q.0 b q.1 in
          total_with q.0 (b *ℤ q.1) (merged a p rest b qs) ∙ omega (arith, ints, m, n)
      by again false false e f =
          let le = ltb-false p.0 q.0 e in let ge = ltb-false q.0 p.0 f in let same : p.0 ≡ q.0 = omega arith in
          let i = h qs in
          let k = linear p.0 a b p.1 q.1 in
          let o = ap (λ v. b *ℤ g v q.1) same in
          total_with p.0 (a *ℤ p.1 +ℤ b *ℤ q.1) (rest qs) ∙ omega (arith, ints, m, n)

  pub total_combined : (a : ℤ) (ps : List (ℕ × ℤ)) (b : ℤ) (qs : List (ℕ × ℤ)) → total g (combined a ps b qs) ≡ a *ℤ total g ps +ℤ b *ℤ total g qs
  total_combined a [] b qs = let z = mul_zero a in total_scaled b qs ∙ omega (arith, ints)
  total_combined a (p ∷ ps) b qs = total_merged a p ps (combined a ps b) b (total_combined a ps b) qs

abbrev pub taken : ℕ → ℕ → ℤ → ℤ
taken x v c = if nat_eq v x then c else pos 0

pub coefficient_is_total : (x : ℕ) (ps : List (ℕ × ℤ)) → coefficient ps x ≡ total (taken x) ps
coefficient_is_total x [] = refl
coefficient_is_total x (p ∷ ps) = ap (λ z. taken x p.0 p.1 +ℤ z) (coefficient_is_total x ps)

taken_linear : (u v : ℕ) (a b x y : ℤ) → taken u v (a *ℤ x +ℤ b *ℤ y) ≡ a *ℤ taken u v x +ℤ b *ℤ taken u v y
taken_linear u v a b x y = by (nat_eq v u)
  where
    by : (t : Bool) → (if t then a *ℤ x +ℤ b *ℤ y else pos 0) ≡ a *ℤ (if t then x else pos 0) +ℤ b *ℤ (if t then y else pos 0)
    by true = refl
    by false = let e = mul_zero a in let f = mul_zero b in omega (arith, ints)

pub coefficient_combined : (x : ℕ) (a : ℤ) (ps : List (ℕ × ℤ)) (b : ℤ) (qs : List (ℕ × ℤ))
    → coefficient (combined a ps b qs) x ≡ a *ℤ coefficient ps x +ℤ b *ℤ coefficient qs x
coefficient_combined x a ps b qs =
    let e = total_combined (taken x) (taken_linear x) a ps b qs in
    let h = coefficient_is_total x ps in
    let i = coefficient_is_total x qs in
    coefficient_is_total x (combined a ps b qs) ∙ (e ∙ cc)
