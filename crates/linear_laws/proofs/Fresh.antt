-- An eliminated variable is gone, no other comes, and the variables still rise; for rows and for all that has a row.
use Rattle.std.proofs.Common.{◌≡◌, ℕ, List, [], ◌∷◌, Bool, true, false, ◌⊎◌, inl, inr, arith, refl, ◌∙◌, ap}
use Rattle.std.proofs.Math.IntN.{ℤ, pos, ◌+ℤ◌, ◌*ℤ◌}
use Rattle.std.proofs.lemmas.Int.{ints}
use Rattle.clp_model.specs.Clauses.{Row}
use Rattle.clp_model.specs.declared.sort.Rel.{Rel}
use Rattle.clp_model.proofs.Membership.{Among, first, next, to_among, from_among}
use Rattle.linear_model.specs.Forms.{IsRising, coefficient, combined, combination}
use Rattle.linear_model.specs.Normal.{normal}
use Rattle.linear_model.specs.Elimination.{has, row_itself, eliminated}
use Rattle.linear_laws.specs.Laws.{VariableIsGone, NoVariableComes, EliminationRises}
use Rattle.linear_laws.proofs.Ring.{mul_zero}
use Rattle.linear_laws.proofs.Sums.{coefficient_combined}
use Rattle.linear_laws.proofs.Rising.{rising_combined}
use Rattle.linear_laws.proofs.Lists.{mapped_out}
use Rattle.linear_laws.proofs.Bounded.{bounded_free, substituted_free, zero_has, zero_has_not}
use Rattle.linear_laws.proofs.Divided.{normal_zero, rising_normal}
use Rattle.linear_laws.proofs.Cleaning.{cleaned_out}
use Rattle.linear_laws.proofs.Steps.{made}

-- a `join` brings no variable that the combination lacks, and keeps it rising
pub record Keeps {A : Type 0} (row_of : A → Row) (join : Rel → ℤ → A → ℤ → A → A) : Type 0 where
  pub rising : (rel : Rel) (a : ℤ) (i : A) (b : ℤ) (j : A) → IsRising (combined a (row_of i).pairs b (row_of j).pairs) → IsRising (row_of (join rel a i b j)).pairs
  pub zero : (rel : Rel) (a : ℤ) (i : A) (b : ℤ) (j : A) (v : ℕ) → coefficient (combined a (row_of i).pairs b (row_of j).pairs) v ≡ pos 0 → coefficient (row_of (join rel a i b j)).pairs v ≡ pos 0

pub zero_sum : (a b y z : ℤ) → y ≡ pos 0 → z ≡ pos 0 → a *ℤ y +ℤ b *ℤ z ≡ pos 0
zero_sum a b y z e f =
    let g : a *ℤ y ≡ pos 0 = ap (λ k. a *ℤ k) e ∙ mul_zero a in
    let h : b *ℤ z ≡ pos 0 = ap (λ k. b *ℤ k) f ∙ mul_zero b in
    omega (arith, ints)

pub zero_combined : (v : ℕ) (a : ℤ) (ps : List (ℕ × ℤ)) (b : ℤ) (qs : List (ℕ × ℤ)) → coefficient ps v ≡ pos 0 → coefficient qs v ≡ pos 0 → coefficient (combined a ps b qs) v ≡ pos 0
zero_combined v a ps b qs e f = coefficient_combined v a ps b qs ∙ zero_sum a b (coefficient ps v) (coefficient qs v) e f

module _ {A : Type 0} (row_of : A → Row) (join : Rel → ℤ → A → ℤ → A → A) (keeps : Keeps row_of join) (x : ℕ) (items : List A) where
  pub gone : (j : A) → Among j (eliminated row_of join x items) → coefficient (row_of j).pairs x ≡ pos 0
  gone =
      made row_of join x items (λ j. coefficient (row_of j).pairs x ≡ pos 0) (record {
        left = λ i a z. z;
        by_equation = λ e i ae ai q p. keeps.zero _ _ i _ e x (substituted_free x (row_of e) (row_of i));
        by_bounds = λ l r al ar hl hr. keeps.zero _ _ l _ r x (bounded_free x (row_of l) (row_of r) hl hr);
      })

  zero_joined : (v : ℕ) (rel : Rel) (a : ℤ) (i : A) (b : ℤ) (j : A) → coefficient (row_of i).pairs v ≡ pos 0 → coefficient (row_of j).pairs v ≡ pos 0 → coefficient (row_of (join rel a i b j)).pairs v ≡ pos 0
  zero_joined v rel a i b j e f = keeps.zero rel a i b j v (zero_combined v a (row_of i).pairs b (row_of j).pairs e f)

  rising_joined : (rel : Rel) (a : ℤ) (i : A) (b : ℤ) (j : A) → IsRising (row_of i).pairs → IsRising (row_of j).pairs → IsRising (row_of (join rel a i b j)).pairs
  rising_joined rel a i b j e f = keeps.rising rel a i b j (rising_combined a (row_of i).pairs b (row_of j).pairs e f)

  pub none_comes : (v : ℕ) → ((i : A) → Among i items → coefficient (row_of i).pairs v ≡ pos 0) → (j : A) → Among j (eliminated row_of join x items) → coefficient (row_of j).pairs v ≡ pos 0
  none_comes v h =
      made row_of join x items (λ j. coefficient (row_of j).pairs v ≡ pos 0) (record {
        left = λ i a z. h i a;
        by_equation = λ e i ae ai q p. zero_joined v _ _ i _ e (h i ai) (h e ae);
        by_bounds = λ l r al ar hl hr. zero_joined v _ _ l _ r (h l al) (h r ar);
      })

  pub still_rising : ((i : A) → Among i items → IsRising (row_of i).pairs) → (j : A) → Among j (eliminated row_of join x items) → IsRising (row_of j).pairs
  still_rising h =
      made row_of join x items (λ j. IsRising (row_of j).pairs) (record {
        left = λ i a z. h i a;
        by_equation = λ e i ae ai q p. rising_joined _ _ i _ e (h i ai) (h e ae);
        by_bounds = λ l r al ar hl hr. rising_joined _ _ l _ r (h l al) (h r ar);
      })

-- some element has v, or none has
pub some_has : {A : Type 0} (row_of : A → Row) (v : ℕ) (items : List A)
    → ((i : A) × Among i items × (has v (row_of i) ≡ true)) ⊎ ((i : A) → Among i items → coefficient (row_of i).pairs v ≡ pos 0)
some_has row_of v [] = inr (λ i a. elim a [ ])
some_has {A} row_of v (j ∷ items) = by (has v (row_of j)) refl (some_has row_of v items)
  where
    by : (b : Bool) → has v (row_of j) ≡ b
        → ((i : A) × Among i items × (has v (row_of i) ≡ true)) ⊎ ((i : A) → Among i items → coefficient (row_of i).pairs v ≡ pos 0)
        → ((i : A) × Among i (j ∷ items) × (has v (row_of i) ≡ true)) ⊎ ((i : A) → Among i (j ∷ items) → coefficient (row_of i).pairs v ≡ pos 0)
    by true e o = inl (j, first, e)
    by false e (inl s) = inl (s.0, next s.1, s.2)
    by false e (inr h) = inr (λ i a. all i a)
      where
        all : (i : A) → Among i (j ∷ items) → coefficient (row_of i).pairs v ≡ pos 0
        all i first = zero_has (coefficient (row_of i).pairs v) e
        all i (next a) = h i a

-- ---- rows
row_keeps : Keeps row_itself combination
row_keeps = record { rising = λ rel a i b j h. h; zero = λ rel a i b j v h. h }

pub variable_is_gone : VariableIsGone
variable_is_gone x rows r c =
    zero_has_not x r
    (mapped_out normal (eliminated row_itself combination x rows) (λ (s : Row). coefficient s.pairs x ≡ pos 0)
    (λ s a. normal_zero s x (gone row_itself combination row_keeps x rows s a))
    r (cleaned_out (eliminated row_itself combination x rows) r (to_among _ r c)))

pub elimination_rises : EliminationRises
elimination_rises x rows h r c =
    mapped_out normal (eliminated row_itself combination x rows) (λ (s : Row). IsRising s.pairs)
    (λ s a. rising_normal s (still_rising row_itself combination row_keeps x rows (λ t b. h t (from_among b)) s a))
    r (cleaned_out (eliminated row_itself combination x rows) r (to_among _ r c))

pub no_variable_comes : NoVariableComes
no_variable_comes x rows r v c e =
    elim (some_has row_itself v rows) [
      | inl s ↦ (s.0, from_among s.1, s.2)
      | inr h ↦
          let z = mapped_out normal (eliminated row_itself combination x rows) (λ (s : Row). coefficient s.pairs v ≡ pos 0)
          (λ s a. normal_zero s v (none_comes row_itself combination row_keeps x rows v h s a))
          r (cleaned_out (eliminated row_itself combination x rows) r (to_among _ r c)) in
          absurd (let f = zero_has_not v r z in cc)
    ]
