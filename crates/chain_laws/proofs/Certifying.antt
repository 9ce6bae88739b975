-- A false constant row gives a right certificate.
use Rattle.std.proofs.Common.{◌≡◌, ℕ, List, [], ◌∷◌, map, Bool, true, false, not, ◌&&◌, inl, inr, arith, refl, sym, ◌∙◌, ap, subst}
use Rattle.std.specs.Prelude.{int_lt, int_le, if◌then◌else◌}
use Rattle.std.specs.Ordering.{int_eq}
use Rattle.std.proofs.Math.IntN.{ℤ, pos, neg_ℤ, ◌*ℤ◌}
use Rattle.std.specs.Int.Signed.{◌<ℤ◌, ◌≤ℤ◌}
use Rattle.std.proofs.lemmas.Int.{ints}
use Rattle.std.proofs.lemmas.Bool.Decides.{Decides-int_eq}
use Rattle.clp_rationals.proofs.Whole.{neg_mul, mul_neg}
use Rattle.clp_model.specs.Clauses.{Row}
use Rattle.clp_model.specs.declared.sort.Rel.{Rel}
use Rattle.clp_model.specs.declared.sort.Rel.TheVariants.{Eq, Le, Lt}
use Rattle.linear_model.specs.Forms.{coefficient}
use Rattle.linear_model.specs.Elimination.{is_equation}
use Rattle.linear_model.specs.Normal.{is_constant, compares}
use Rattle.linear_model.specs.Certificates.{weighted_coefficient, weighted_constant, Shows, ShowsFalse}
use Rattle.linear_laws.proofs.Ring.{one_of_three}
use Rattle.linear_laws.proofs.Bounded.{less_true, true_less}
use Rattle.linear_laws.proofs.Opposite.{opposite_coefficient}
use Rattle.linear_model.specs.Items.{Item}
use Rattle.linear_model.specs.Chain.{is_never, signed}
use Rattle.linear_model.specs.Changes.{opposite_rel, negated}
use Rattle.chain_laws.proofs.Sums.{OnEquations, Gives, IsSum}
use Rattle.chain_laws.proofs.SumsKept.{equations_allowed}

-- ---- the sign changed
flip_coefficient : (rs : List Row) (ms : List ℤ) (v : ℕ) → weighted_coefficient rs (map neg_ℤ ms) v ≡ neg_ℤ (weighted_coefficient rs ms v)
flip_coefficient [] ms v = refl
flip_coefficient (r ∷ rs) [] v = refl
flip_coefficient (r ∷ rs) (m ∷ ms) v = let a = flip_coefficient rs ms v in let b = neg_mul m (coefficient r.pairs v) in omega (arith, ints)

flip_constant : (rs : List Row) (ms : List ℤ) → weighted_constant rs (map neg_ℤ ms) ≡ neg_ℤ (weighted_constant rs ms)
flip_constant [] ms = refl
flip_constant (r ∷ rs) [] = refl
flip_constant (r ∷ rs) (m ∷ ms) = let a = flip_constant rs ms in let b = neg_mul m r.constant in omega (arith, ints)

flip_equations : (rs : List Row) (ms : List ℤ) → OnEquations rs ms → OnEquations rs (map neg_ℤ ms)
flip_equations [] [] h = tt
flip_equations [] (m ∷ ms) h = absurd h
flip_equations (r ∷ rs) [] h = absurd h
flip_equations (r ∷ rs) (m ∷ ms) h = (elim h.0 [ inl e ↦ inl e | inr z ↦ inr (ap neg_ℤ z) ], flip_equations rs ms h.1)

-- ---- no common solution
all_zero : (r : Row) → is_never r ≡ true → (v : ℕ) → coefficient r.pairs v ≡ pos 0
all_zero r e v = by r.pairs e
  where
    by : (ps : List (ℕ × ℤ)) → (is_constant ps && not (compares r.rel r.constant)) ≡ true → coefficient ps v ≡ pos 0
    by [] h = refl
    by (p ∷ ps) h = cc

is_false : (r : Row) → is_never r ≡ true → compares r.rel r.constant ≡ false
is_false r e = by (is_constant r.pairs) (compares r.rel r.constant) e
  where
    by : (a b : Bool) → (a && not b) ≡ true → b ≡ false
    by true true h = cc
    by true false h = refl
    by false b h = cc

zero_eq : int_eq (pos 0) (pos 0) ≡ true
zero_eq = (Decides-int_eq (pos 0) (pos 0)).1 refl

at_most_test : (a b : ℤ) → a ≤ℤ b → int_le a b ≡ true
at_most_test a b h = grind (arith, ints)

plain : (rows : List Row) (i : Item) → IsSum rows i → (v : ℕ) → is_never i.row ≡ true → weighted_coefficient rows i.m v ≡ pos 0
plain rows i s v e = sym (s.coefficients v) ∙ all_zero i.row e v

-- by the relation, and the sign of an equation's constant
by_rel : (rows : List Row) (m : List ℤ) (c : ℤ) (rel : Rel) → ((v : ℕ) → weighted_coefficient rows m v ≡ pos 0) → c ≡ weighted_constant rows m → Gives rel rows m → compares rel c ≡ false
    → ShowsFalse rows (record { k = pos 0; m = if is_equation rel && int_lt c (pos 0) then map neg_ℤ m else m })
by_rel rows m c Eq z e g f = by (int_lt c (pos 0)) refl
  where
    by : (b : Bool) → int_lt c (pos 0) ≡ b → ShowsFalse rows (record { k = pos 0; m = if b then map neg_ℤ m else m })
    by true h =
        let l = less_true c (pos 0) h in
        let w = flip_constant rows m in
        record {
          allowed = equations_allowed rows (map neg_ℤ m) (flip_equations rows m g);
          cancels = λ v. flip_coefficient rows m v ∙ ap neg_ℤ (z v);
          enough = inl (omega (arith, ints));
        }
    by false h = record {
      allowed = equations_allowed rows m g;
      cancels = z;
      enough = elim (one_of_three c) [
        | inl l ↦ absurd (let k = true_less c (pos 0) l in cc)
        | inr (inl n) ↦ absurd (let k : int_eq c (pos 0) ≡ true = ap (λ y. int_eq y (pos 0)) n ∙ zero_eq in cc)
        | inr (inr p) ↦ inl (subst (λ y. pos 0 <ℤ y) e p)
      ];
    }
by_rel rows m c Le z e g f = record {
  allowed = g;
  cancels = z;
  enough = elim (one_of_three c) [
    | inl l ↦ absurd (let k = at_most_test c (pos 0) (omega (arith, ints)) in cc)
    | inr (inl n) ↦ absurd (let k = at_most_test c (pos 0) (omega (arith, ints)) in cc)
    | inr (inr p) ↦ inl (subst (λ y. pos 0 <ℤ y) e p)
  ];
}
by_rel rows m c Lt z e g f = record {
  allowed = g.0;
  cancels = z;
  enough = elim (one_of_three c) [
    | inl l ↦ absurd (let k = true_less c (pos 0) l in cc)
    | inr (inl n) ↦ inr (sym e ∙ n, g.1)
    | inr (inr p) ↦ inl (subst (λ y. pos 0 <ℤ y) e p)
  ];
}

pub certifies : (rows : List Row) (i : Item) → IsSum rows i → is_never i.row ≡ true → ShowsFalse rows (record { k = pos 0; m = signed i })
certifies rows i s e = by_rel rows i.m i.row.constant i.row.rel (λ v. plain rows i s v e) s.constant s.gives (is_false i.row e)

-- ---- the negated target in front
was_le : (rel : Rel) → opposite_rel rel ≡ Lt → rel ≡ Le
was_le Eq e = cc
was_le Le e = refl
was_le Lt e = cc

was_eq : (rel : Rel) → opposite_rel rel ≡ Eq → rel ≡ Eq
was_eq Eq e = refl
was_eq Le e = cc
was_eq Lt e = cc

pub certifies_target : (rows : List Row) (target : Row) (k : ℤ) (ms : List ℤ) → ¬ (target.rel ≡ Eq) → ShowsFalse (negated target ∷ rows) (record { k = pos 0; m = k ∷ ms }) → Shows rows target (record { k = k; m = ms })
certifies_target rows target k ms n s =
    let c = weighted_constant (negated target ∷ rows) (k ∷ ms) in
    let e = mul_neg k target.constant in
    record {
      allowed = s.allowed.1;
      not_negative = elim s.allowed.0 [ inl q ↦ absurd (n (was_eq target.rel q)) | inr p ↦ p ];
      cancels = λ v.
          let a = s.cancels v in
          let b = ap (λ z. k *ℤ z) (opposite_coefficient target.pairs v) in
          let d = mul_neg k (coefficient target.pairs v) in
          omega (arith, ints);
      c = c;
      constant = omega (arith, ints);
      enough = elim s.enough [
        | inl p ↦ inl p
        | inr q ↦ elim q.1 [
          | inl t ↦ inr (inr (q.0, was_le target.rel t.0, t.1))
          | inr t ↦ inr (inl (q.0, t))
        ]
      ];
    }
