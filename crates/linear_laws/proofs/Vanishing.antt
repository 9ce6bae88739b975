-- A form all of whose coefficients are 0 has the sum 0.
use Rattle.std.proofs.Common.{◌≡◌, ℕ, zero, suc, ◌≤◌, List, [], ◌∷◌, length, Bool, true, false, arith, refl, sym, ◌∙◌, ap, eq-eqb}
use Rattle.std.specs.Prelude.{nat_eq, if◌then◌else◌}
use Rattle.std.proofs.Math.IntN.{ℤ, pos, ◌+ℤ◌, ◌*ℤ◌, zero-*ℤ}
use Rattle.std.proofs.lemmas.Int.{ints}
use Rattle.std.proofs.lemmas.Bool.{eqb-true}
use Rattle.clp_model.specs.Clauses.{sum_of}
use Rattle.linear_model.specs.Forms.{coefficient}
use Rattle.linear_laws.proofs.Ring.{add_mul_ℤ}

abbrev without : ℕ → List (ℕ × ℤ) → List (ℕ × ℤ)
without w [] = []
without w (p ∷ ps) = if nat_eq p.0 w then without w ps else p ∷ without w ps

split : (f : ℕ → ℤ) (w : ℕ) (ps : List (ℕ × ℤ)) → sum_of f ps ≡ coefficient ps w *ℤ f w +ℤ sum_of f (without w ps)
split f w [] = let e = zero-*ℤ (f w) in omega (arith, ints)
split f w (p ∷ ps) = by (split f w ps) (nat_eq p.0 w) refl
  where
    by : sum_of f ps ≡ coefficient ps w *ℤ f w +ℤ sum_of f (without w ps) → (b : Bool) → nat_eq p.0 w ≡ b
        → p.1 *ℤ f p.0 +ℤ sum_of f ps ≡ ((if b then p.1 else pos 0) +ℤ coefficient ps w) *ℤ f w +ℤ sum_of f (if b then without w ps else p ∷ without w ps)
    by ih true e =
        let a = add_mul_ℤ p.1 (coefficient ps w) (f w) in
        let b = ap (λ v. p.1 *ℤ f v) (eqb-true p.0 w e) in omega (arith, ints)
    by ih false e =
        let a = add_mul_ℤ (pos 0) (coefficient ps w) (f w) in
        let b = zero-*ℤ (f w) in omega (arith, ints)

shorter : (w : ℕ) (ps : List (ℕ × ℤ)) → length (without w ps) ≤ length ps
shorter w [] = omega arith
shorter w (p ∷ ps) = by (shorter w ps) (nat_eq p.0 w)
  where
    by : length (without w ps) ≤ length ps → (b : Bool) → length (if b then without w ps else p ∷ without w ps) ≤ suc (length ps)
    by ih true = omega arith
    by ih false = omega arith

-- the coefficients of the rest: 0 at w, elsewhere the same
rest_at : (w v : ℕ) (ps : List (ℕ × ℤ)) → coefficient (without w ps) v ≡ (if nat_eq v w then pos 0 else coefficient ps v)
rest_at w v [] = by (nat_eq v w)
  where
    by : (b : Bool) → pos 0 ≡ (if b then pos 0 else pos 0)
    by true = refl
    by false = refl
rest_at w v (p ∷ ps) = by (rest_at w v ps) (nat_eq p.0 w) refl (nat_eq v w) refl
  where
    by : coefficient (without w ps) v ≡ (if nat_eq v w then pos 0 else coefficient ps v)
        → (a : Bool) → nat_eq p.0 w ≡ a → (b : Bool) → nat_eq v w ≡ b
        → coefficient (if a then without w ps else p ∷ without w ps) v ≡ (if b then pos 0 else (if nat_eq p.0 v then p.1 else pos 0) +ℤ coefficient ps v)
    by ih true e true f = ih ∙ ap (λ b. if b then pos 0 else coefficient ps v) f
    by ih true e false f = ih ∙ (ap (λ b. if b then pos 0 else coefficient ps v) f ∙ other (nat_eq p.0 v) refl)
      where
        other : (b : Bool) → nat_eq p.0 v ≡ b → coefficient ps v ≡ (if b then p.1 else pos 0) +ℤ coefficient ps v
        other true g = let h = eq-eqb v w (sym (eqb-true p.0 v g) ∙ eqb-true p.0 w e) in absurd (cc)
        other false g = omega (arith, ints)
    by ih false e true f =
        let i : coefficient (without w ps) v ≡ pos 0 = ih ∙ ap (λ b. if b then pos 0 else coefficient ps v) f in
        other (nat_eq p.0 v) refl i
      where
        other : (b : Bool) → nat_eq p.0 v ≡ b → coefficient (without w ps) v ≡ pos 0 → (if b then p.1 else pos 0) +ℤ coefficient (without w ps) v ≡ pos 0
        other true g i = let h = eq-eqb p.0 w (eqb-true p.0 v g ∙ eqb-true v w f) in absurd (cc)
        other false g i = omega (arith, ints)
    by ih false e false f = ap (λ z. (if nat_eq p.0 v then p.1 else pos 0) +ℤ z) (ih ∙ ap (λ b. if b then pos 0 else coefficient ps v) f)

rest_zero : (w : ℕ) (ps : List (ℕ × ℤ)) → ((v : ℕ) → coefficient ps v ≡ pos 0) → (v : ℕ) → coefficient (without w ps) v ≡ pos 0
rest_zero w ps h v = rest_at w v ps ∙ by (nat_eq v w)
  where
    by : (b : Bool) → (if b then pos 0 else coefficient ps v) ≡ pos 0
    by true = refl
    by false = h v

within : (f : ℕ → ℤ) (n : ℕ) (ps : List (ℕ × ℤ)) → length ps ≤ n → ((v : ℕ) → coefficient ps v ≡ pos 0) → sum_of f ps ≡ pos 0
within f n [] l h = refl
within f zero (p ∷ ps) l h = absurd (omega arith)
within f (suc n) (p ∷ ps) l h =
    let e = split f p.0 (p ∷ ps) in
    let a : coefficient (p ∷ ps) p.0 *ℤ f p.0 ≡ pos 0 = ap (λ z. z *ℤ f p.0) (h p.0) ∙ zero-*ℤ (f p.0) in
    let i = eq-eqb p.0 p.0 refl in
    let r : without p.0 (p ∷ ps) ≡ without p.0 ps = ap (λ b. if b then without p.0 ps else p ∷ without p.0 ps) i in
    let s = within f n (without p.0 ps) (let k = shorter p.0 ps in omega arith) (λ v. ap (λ qs. coefficient qs v) (sym r) ∙ rest_zero p.0 (p ∷ ps) h v) in
    let t = ap (sum_of f) r in
    e ∙ omega (arith, ints)

pub vanishing : (f : ℕ → ℤ) (ps : List (ℕ × ℤ)) → ((v : ℕ) → coefficient ps v ≡ pos 0) → sum_of f ps ≡ pos 0
vanishing f ps h = within f (length ps) ps (omega arith) h
