-- The row that is made of quotients is the normal form.
use Rattle.std.proofs.Common.{◌≡◌, ℕ, ◌<◌, ◌≤◌, max, List, Bool, true, false, ◌&&◌, to_z, of_z, refl, sym, ◌∙◌, ap, subst}
use Rattle.std.specs.Prelude.{nat_le, unsigned_abs, int_div}
use Rattle.std.proofs.Math.IntN.{ℤ}
use mir.Syntax.{w64}
use Rattle.clp_model.specs.Clauses.{Row}
use Rattle.clp_model.specs.declared.sort.Rel.{Rel}
use Rattle.linear_model.specs.Forms.{IsRising}
use Rattle.linear_model.specs.Normal.{joint_gcd, divided_pairs, divided, divisor_of, is_flipped, normal, IsNormal, pairs_within, is_within, limit}
use Rattle.lin_row.specs.Rows.{row_of, IsKept}
use Rattle.lin_row.proofs.Normalized.{normal_is}
use Rattle.lin_row.proofs.Quotients.{same_64, within_test, past_test}

-- what is kept of a normal form that is within the limit
pub kept_normal : (r s : Row) → IsRising r.pairs → s ≡ normal r → is_within s ≡ true → IsKept s
kept_normal r s h e w = record { within = w; normal = subst IsNormal (sym e) (normal_is r h) }

module _ (rel : Rel) (ps out : List (ℕ × ℤ)) (c k : ℤ) (m : ℕ) (b : Bool) where
  same_parts : m ≡ max 1 (joint_gcd (unsigned_abs c) ps) → b ≡ is_flipped rel ps → divided (divisor_of b m) (row_of rel ps c) ≡ normal (row_of rel ps c)
  same_parts e f =
      ap (λ n. divided (divisor_of b n) (row_of rel ps c)) e ∙ ap (λ t. divided (divisor_of t (max 1 (joint_gcd (unsigned_abs c) ps))) (row_of rel ps c)) f

  pub made_is : m ≡ max 1 (joint_gcd (unsigned_abs c) ps) → b ≡ is_flipped rel ps → out ≡ divided_pairs (divisor_of b m) ps
      → k ≡ int_div c (divisor_of b m) → unsigned_abs k ≤ limit
      → row_of rel out (to_z w64 (of_z w64 k)) ≡ normal (row_of rel ps c)
  made_is e f g i s =
      let one : List (ℕ × ℤ) → Row = λ xs. row_of rel xs (to_z w64 (of_z w64 k)) in
      let two : ℤ → Row = λ z. row_of rel (divided_pairs (divisor_of b m) ps) z in
      ap one g ∙ (ap two (same_64 k s ∙ i) ∙ same_parts e f)

  pub made_within : pairs_within out ≡ true → unsigned_abs k ≤ limit → is_within (row_of rel out (to_z w64 (of_z w64 k))) ≡ true
  made_within w s =
      let e = same_64 k s in
      let t = within_test (unsigned_abs k) s in
      ap (λ z. pairs_within out && nat_le (unsigned_abs z) limit) e ∙ rw (w, t) refl

  pub made_kept : IsRising ps → m ≡ max 1 (joint_gcd (unsigned_abs c) ps) → b ≡ is_flipped rel ps → out ≡ divided_pairs (divisor_of b m) ps
      → pairs_within out ≡ true → k ≡ int_div c (divisor_of b m) → unsigned_abs k ≤ limit
      → IsKept (row_of rel out (to_z w64 (of_z w64 k)))
  made_kept r e f g w i s = kept_normal (row_of rel ps c) _ r (made_is e f g i s) (made_within w s)

  -- a quotient that is past the limit
  pub pairs_past : m ≡ max 1 (joint_gcd (unsigned_abs c) ps) → b ≡ is_flipped rel ps → pairs_within (divided_pairs (divisor_of b m) ps) ≡ false
      → is_within (normal (row_of rel ps c)) ≡ false
  pairs_past e f w = ap is_within (sym (same_parts e f)) ∙ rw w refl

  pub constant_past : m ≡ max 1 (joint_gcd (unsigned_abs c) ps) → b ≡ is_flipped rel ps → limit < unsigned_abs (int_div c (divisor_of b m))
      → is_within (normal (row_of rel ps c)) ≡ false
  constant_past e f w =
      let t = past_test (unsigned_abs (int_div c (divisor_of b m))) w in
      ap is_within (sym (same_parts e f)) ∙ rw t (and_false (pairs_within (divided_pairs (divisor_of b m) ps)))
    where
      and_false : (b : Bool) → (b && false) ≡ false
      and_false true = refl
      and_false false = refl
