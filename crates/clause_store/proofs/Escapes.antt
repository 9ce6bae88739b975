-- Characters as they are written between single quotes.
use Rattle.std.proofs.Common.{◌≡◌, ◌≢◌, ℕ, suc, ◌<◌, ◌≤◌, List, [], ◌∷◌, ◌++◌, length, get_or, inl, inr, refl, sym, ap, ap₂, ◌∙◌, arith, append_assoc, append-nil, IsUtf8, Result, Ok, Err, OnOk}
use Rattle.std.specs.Prelude.{is_ok, if◌then◌else◌}
use Rattle.std.specs.Str.{chars}
use Rattle.std.proofs.lemmas.Bool.{cases_lt}
use Rattle.std.proofs.lemmas.Str.{encode_ascii, inside_one, encodes-append, chars-encodes}
use lib.Utf8.{encode, encodes}
use Rattle.clause_store.specs.Names.{escaped, all_escaped, quoted}

pub escaped_append : (xs ys : List ℕ) → all_escaped (xs ++ ys) ≡ all_escaped xs ++ all_escaped ys
escaped_append [] ys = refl
escaped_append (x ∷ xs) ys = ap (λ l. escaped x ++ l) (escaped_append xs ys) ∙ sym (append_assoc (escaped x) _ _)

plain_byte : (b : ℕ) → b ≢ 92 → b ≢ 39 → b ≢ 10 → b ≢ 9 → escaped b ≡ b ∷ []
unfolding escaped
plain_byte b p q r s = grind (arith)

high_bytes : (xs : List ℕ) → ((k : ℕ) → k < length xs → 128 ≤ get_or xs k 0) → all_escaped xs ≡ xs
high_bytes [] h = refl
high_bytes (x ∷ xs) h =
    let high : 128 ≤ x = h 0 (omega arith) in
    ap₂ (λ (a b : List ℕ). a ++ b) (plain_byte x (λ e. omega arith) (λ e. omega arith) (λ e. omega arith) (λ e. omega arith)) (high_bytes xs (λ k below. h (suc k) (omega arith)))

-- every other character is written as it is
pub plain_char : (c : ℕ) → c ≢ 92 → c ≢ 39 → c ≢ 10 → c ≢ 9 → all_escaped (encode c) ≡ encode c
plain_char c p q r s = elim (cases_lt c 128) [
  | inl small ↦ ap all_escaped (encode_ascii c small) ∙ (append-nil (escaped c) ∙ (plain_byte c p q r s ∙ sym (encode_ascii c small)))
  | inr big ↦
      high_bytes (encode c) (λ k below. elim (cases_lt (get_or (encode c) k 0) 128) [
        | inl low ↦ absurd (omega (arith, inside_one c [] (encode c) k (sym (append-nil _)) below low))
        | inr h ↦ h
      ])
]

pub backslash : all_escaped (encode 92) ≡ 92 ∷ 92 ∷ []
unfolding escaped
backslash = ap all_escaped (encode_ascii 92 (omega arith))

pub quote : all_escaped (encode 39) ≡ 92 ∷ 39 ∷ []
unfolding escaped
quote = ap all_escaped (encode_ascii 39 (omega arith))

pub line_feed : all_escaped (encode 10) ≡ 92 ∷ 110 ∷ []
unfolding escaped
line_feed = ap all_escaped (encode_ascii 10 (omega arith))

pub tab : all_escaped (encode 9) ≡ 92 ∷ 116 ∷ []
unfolding escaped
tab = ap all_escaped (encode_ascii 9 (omega arith))

-- ---- a name between quotes
pub spelled : (bs : List ℕ) → IsUtf8 bs → encodes (chars bs) ≡ bs
spelled bs u = ap (λ t. encodes (chars t)) (sym u.1.1) ∙ (ap encodes (chars-encodes u.0 u.1.0) ∙ u.1.1)

pub quoted_more : (old into now yielded : List ℕ) (c : ℕ) → into ≡ old ++ 39 ∷ all_escaped (encodes yielded) → now ≡ into ++ all_escaped (encode c)
    → now ≡ old ++ 39 ∷ all_escaped (encodes (yielded ++ c ∷ []))
quoted_more old into now yielded c before is =
    let one : encodes (yielded ++ c ∷ []) ≡ encodes yielded ++ encode c = encodes-append yielded (c ∷ []) ∙ ap (λ (t : List ℕ). encodes yielded ++ t) (append-nil (encode c)) in
    is ∙ (ap (λ (t : List ℕ). t ++ all_escaped (encode c)) before
    ∙ (append_assoc old (39 ∷ all_escaped (encodes yielded)) (all_escaped (encode c))
    ∙ ap (λ (t : List ℕ). old ++ 39 ∷ t) (sym (ap all_escaped one ∙ escaped_append (encodes yielded) (encode c)))))

pub quoted_end : {E : Type 0} (r : Result (Unit {0}) E) (old into now name yielded : List ℕ) → into ≡ old ++ 39 ∷ all_escaped (encodes yielded) → encodes yielded ≡ name
    → now ≡ (if is_ok r then into ++ encode 39 else into) → OnOk r (now ≡ old ++ quoted name)
quoted_end (Err e) old into now name yielded before all is = tt
quoted_end (Ok u) old into now name yielded before all is =
    is ∙ (ap (λ (t : List ℕ). into ++ t) (encode_ascii 39 (omega arith))
    ∙ (ap (λ (t : List ℕ). t ++ 39 ∷ []) (before ∙ ap (λ (t : List ℕ). old ++ 39 ∷ all_escaped t) all)
    ∙ append_assoc old (39 ∷ all_escaped name) (39 ∷ [])))
