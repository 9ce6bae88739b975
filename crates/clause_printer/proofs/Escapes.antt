-- What is escaped of a character: only an ASCII one can be.
use Rattle.std.proofs.Common.{◌≡◌, ℕ, ◌<◌, ◌≤◌, suc, Bool, true, false, nat_lt, List, [], ◌∷◌, ◌++◌, length, get_or, refl, ap, ◌∙◌, sym, arith, append_assoc, append-nil}
use Rattle.std.specs.Prelude.{encode_utf8}
use Rattle.std.proofs.lemmas.Str.{encode_ascii, inside_one}
use Rattle.std.proofs.lemmas.Bool.Decides.{nat_tests}
use Rattle.print_model.specs.Names.{escaped, all_escaped}

pub all_escaped_append : (bs cs : List ℕ) → all_escaped (bs ++ cs) ≡ all_escaped bs ++ all_escaped cs
all_escaped_append [] cs = refl
all_escaped_append (b ∷ bs) cs = ap (λ v. escaped b ++ v) (all_escaped_append bs cs) ∙ sym (append_assoc (escaped b) (all_escaped bs) (all_escaped cs))

-- a byte that none of the four is stands as it is
pub escaped_other : (b : ℕ) → (b ≡ 92 → ⊥) → (b ≡ 39 → ⊥) → (b ≡ 10 → ⊥) → (b ≡ 9 → ⊥) → escaped b ≡ b ∷ []
escaped_other b h₁ h₂ h₃ h₄ = grind (arith, nat_tests)

all_escaped_wide : (bs : List ℕ) → ((k : ℕ) → k < length bs → 128 ≤ get_or bs k 0) → all_escaped bs ≡ bs
all_escaped_wide [] wide = refl
all_escaped_wide (b ∷ bs) wide =
    let b_wide : 128 ≤ b = wide 0 (omega arith) in
    ap (λ v. v ++ all_escaped bs) (escaped_other b (omega arith) (omega arith) (omega arith) (omega arith))
    ∙ ap (λ v. b ∷ v) (all_escaped_wide bs (λ k l. wide (suc k) (omega arith)))

bytes_are_wide : (c : ℕ) → 128 ≤ c → (k : ℕ) → k < length (encode_utf8 c) → 128 ≤ get_or (encode_utf8 c) k 0
bytes_are_wide c wide k l =
    let h = inside_one c [] (encode_utf8 c) k (sym (append-nil (encode_utf8 c))) l in grind (arith, h)

-- so is a character that none of the four is
pub others_stand : (c : ℕ) → (c ≡ 92 → ⊥) → (c ≡ 39 → ⊥) → (c ≡ 10 → ⊥) → (c ≡ 9 → ⊥) → all_escaped (encode_utf8 c) ≡ encode_utf8 c
others_stand c h₁ h₂ h₃ h₄ = by_width (nat_lt c 128) refl
  where
    by_width : (t : Bool) → nat_lt c 128 ≡ t → all_escaped (encode_utf8 c) ≡ encode_utf8 c
    by_width true e =
        let one = encode_ascii c (grind (arith, nat_tests)) in
        ap all_escaped one ∙ ap (λ v. v ++ []) (escaped_other c h₁ h₂ h₃ h₄) ∙ sym one
    by_width false e = all_escaped_wide (encode_utf8 c) (bytes_are_wide c (grind (arith, nat_tests)))
