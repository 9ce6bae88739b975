-- What a quoted name stands for is UTF-8 where what is between its quotes is.
use Rattle.std.proofs.Common.{◌≡◌, ℕ, suc, ◌<◌, ◌≤◌, Bool, true, false, cond, ◌||◌, List, [], ◌∷◌, ◌++◌, length, take, drop, get_or, ◌-◌, IsUtf8, inl, inr, refl, sym, ap, subst, arith, append-nil}
use Rattle.std.proofs.lemmas.Bool.{and_parts, cases_lt}
use Rattle.std.proofs.lemmas.Bool.Decides.{nat_tests}
use Rattle.std.proofs.lemmas.Str.{IsUtf8-append, IsUtf8-nil, IsUtf8-encode, encode_ascii, inside_one, length-encode, len_utf8_bounds, IsUtf8-between, IsCharBoundary-after_ascii, IsCharBoundary-before_ascii}
use Rattle.std.specs.Prelude.{◌==◌}
use lib.Utf8.{scalar, scalars, encode, encodes, low_scalar}
use Rattle.token_model.specs.Names.{unescaped, after_mark, escaped_byte, quoted_name}

ascii_then : (x : ℕ) (xs : List ℕ) → x < 128 → IsUtf8 xs → IsUtf8 (x ∷ xs)
ascii_then x xs small u = IsUtf8-append (x ∷ []) xs (subst IsUtf8 (encode_ascii x small) (IsUtf8-encode x (low_scalar x (omega arith)))) u

-- none of the bytes is ASCII
abbrev High : List ℕ → Type 0
High [] = Unit {0}
High (b ∷ bs) = (128 ≤ b) × High bs

high_from : (xs : List ℕ) → ((k : ℕ) → k < length xs → 128 ≤ get_or xs k 0) → High xs
high_from [] h = tt
high_from (b ∷ bs) h = (h 0 (omega arith), high_from bs (λ k within. h (suc k) (omega arith)))

high_encode : (c : ℕ) → 128 ≤ c → High (encode c)
high_encode c high = high_from (encode c) byte
  where
    byte : (k : ℕ) → k < length (encode c) → 128 ≤ get_or (encode c) k 0
    byte k within =
        elim (cases_lt (get_or (encode c) k 0) 128) [
          | inl low ↦ let same : c ≡ get_or (encode c) k 0 = inside_one c [] (encode c) k (sym (append-nil (encode c))) within low in absurd (omega arith)
          | inr other ↦ other
        ]

no_mark : (b : ℕ) → 128 ≤ b → (b == 39 || b == 92) ≡ false
no_mark b high = grind (arith, nat_tests)

kept_byte : (b : ℕ) → 128 ≤ b → escaped_byte b ≡ b
kept_byte b high = grind (arith, nat_tests)

low_escaped : (b : ℕ) → b < 128 → escaped_byte b < 128
low_escaped b low = grind (arith, nat_tests)

high_kept : (xs rest : List ℕ) → High xs → unescaped (xs ++ rest) ≡ xs ++ unescaped rest
unfolding unescaped
high_kept [] rest h = refl
high_kept (b ∷ xs) rest h = rw (no_mark b h.0) (ap (λ (z : List ℕ). b ∷ z) (high_kept xs rest h.1))

high_marked : (xs rest : List ℕ) → High xs → 0 < length xs → after_mark (xs ++ rest) ≡ xs ++ unescaped rest
unfolding after_mark
high_marked [] rest h some = absurd (omega arith)
high_marked (b ∷ xs) rest h some = rw (kept_byte b h.0) (ap (λ (z : List ℕ). b ∷ z) (high_kept xs rest h.1))

-- both are UTF-8: what is left of a name, and that after a quote or a `\`
abbrev BothTexts : List ℕ → Type 0
BothTexts z = IsUtf8 (unescaped z) × IsUtf8 (after_mark z)

low_one : (c : ℕ) (rest : List ℕ) → c < 128 → BothTexts rest → BothTexts (c ∷ rest)
unfolding unescaped after_mark
low_one c rest low h = (go (c == 39 || c == 92), ascii_then (escaped_byte c) (unescaped rest) (low_escaped c low) h.0)
  where
    go : (t : Bool) → IsUtf8 (cond t (after_mark rest) (c ∷ unescaped rest))
    go true = h.1
    go false = ascii_then c (unescaped rest) low h.0

high_one : (c : ℕ) (rest : List ℕ) → 128 ≤ c → scalar c ≡ true → BothTexts rest → BothTexts (encode c ++ rest)
high_one c rest high s h =
    let u = IsUtf8-append (encode c) (unescaped rest) (IsUtf8-encode c s) h.0 in
    let all = high_encode c high in
    let bounds = len_utf8_bounds c in
    let some : 0 < length (encode c) = omega (arith, length-encode c) in
    (subst IsUtf8 (sym (high_kept (encode c) rest all)) u, subst IsUtf8 (sym (high_marked (encode c) rest all some)) u)

one : (c : ℕ) (rest : List ℕ) → scalar c ≡ true → BothTexts rest → BothTexts (encode c ++ rest)
one c rest s h = elim (cases_lt c 128) [
  | inl low ↦ subst (λ (z : List ℕ). BothTexts (z ++ rest)) (sym (encode_ascii c low)) (low_one c rest low h)
  | inr high ↦ high_one c rest (omega arith) s h
]

both : (cs : List ℕ) → scalars cs ≡ true → BothTexts (encodes cs)
unfolding unescaped after_mark
both [] e = (IsUtf8-nil, IsUtf8-nil)
both (c ∷ cs) e = let p = and_parts _ _ e in one c (encodes cs) p.0 (both cs p.1)

pub unescaped_is_text : (z : List ℕ) → IsUtf8 z → IsUtf8 (unescaped z)
unescaped_is_text z u = subst (λ (z : List ℕ). IsUtf8 (unescaped z)) u.1.1 (both u.0 u.1.0).0

-- a spelling between two quotes, or any two ASCII bytes
pub quoted_is_text : (z : List ℕ) → IsUtf8 z → 2 ≤ length z → get_or z 0 0 < 128 → get_or z (length z - 1) 0 < 128 → IsUtf8 (quoted_name z)
quoted_is_text z u some first last =
    let same : length z - 1 - 1 ≡ length z - 2 = omega arith in
    let front = IsCharBoundary-after_ascii z 0 u (omega arith) first in
    let end = IsCharBoundary-before_ascii z (length z - 1) (omega arith) last in
    let inside = IsUtf8-between z 1 (length z - 1) u (omega arith) front end in
    unescaped_is_text (take (length z - 2) (drop 1 z)) (subst (λ n. IsUtf8 (take n (drop 1 z))) same inside)
