-- Where the first token from a place on stands.
use Rattle.std.proofs.Common.{◌≡◌, ◌≢◌, ℕ, ◌+◌, ◌-◌, ◌<◌, ◌≤◌, Bool, false, ◌&&◌, List, [], ◌∷◌, length, take, drop, get_or, IsUtf8, IsCharBoundary, inl, inr, refl, sym, ap, ap₂, ◌∙◌, subst, arith, drop-drop, length-drop, get_or-drop, add-zero}
use Rattle.std.proofs.lemmas.Bool.{cases_lt}
use Rattle.std.proofs.lemmas.Bool.Decides.{nat_tests}
use Rattle.std.proofs.lemmas.Str.{IsUtf8-drop, IsCharBoundary-before_ascii, IsCharBoundary-end, IsCharBoundary-from_drop}
use Rattle.std.specs.Prelude.{◌==◌, nat_eq, Option, Some, None, Ok}
use Rattle.token_model.specs.declared.token.Lexeme.{Lexeme}
use Rattle.token_model.specs.declared.token.Lexeme.TheVariants as l
use Rattle.token_model.specs.declared.token.Token.{Token as Lexed}
use Rattle.token_model.specs.declared.fault.Kind.{Kind}
use Rattle.token_model.specs.declared.fault.Kind.TheVariants as fault
use Rattle.token_model.specs.White.{is_white, skipped}
use Rattle.token_model.specs.Tokens.{token}
use Rattle.token_model.specs.Remaining.{Remaining, ahead, left, lexeme, next, touches_number}
use Rattle.token_model.specs.Remaining as remaining
use Rattle.token_cursor.specs.Escapes.{name_by}
use Rattle.token_cursor.proofs.Spelled.{left_within}
use Rattle.utf8_laws.proofs.Ends.{token_is_low}
use Rattle.utf8_laws.proofs.Texts.{ahead_is_text, next_is_text, name_is_text, ahead_is_end, within_ahead}
use Rattle.token_at.specs.declared.token.Token.{Token}
use Rattle.token_at.specs.Before.{ends_in_number}
use Rattle.token_at.specs.Places.{kind_of, fault_kind, from_place, token_of, answer_by, next_token, spelling, named}

-- ---- no token begins within a character

high_stays : (b : ℕ) (z : List ℕ) → 128 ≤ b → skipped (b ∷ z) ≡ b ∷ z
unfolding skipped
high_stays b z high =
    let white : is_white b ≡ false = grind (arith, nat_tests) in
    let line : (b == 37) ≡ false = grind (arith, nat_tests) in
    let slash : (b == 47) ≡ false = grind (arith, nat_tests) in
    rw (white, line, slash) refl

low_start : (after_number : Bool) (b : ℕ) (z : List ℕ) → (token after_number (skipped (b ∷ z))).lexeme ≢ l.Bad → b < 128
low_start after_number b z good = elim (cases_lt b 128) [
  | inl low ↦ low
  | inr high ↦ (token_is_low after_number b z (subst (λ (x : List ℕ). (token after_number x).lexeme ≢ l.Bad) (high_stays b z high) good)).0
]

starts_whole : (text : List ℕ) (at : ℕ) → at ≤ length text → lexeme (from_place text at) ≢ l.Bad → IsCharBoundary text at
unfolding lexeme remaining.next_token ahead
starts_whole text at within good = go (drop at text) refl
  where
    go : (z : List ℕ) → drop at text ≡ z → IsCharBoundary text at
    go [] e = let same : at ≡ length text = omega (arith, length-drop at text, ap length e) in rw same (IsCharBoundary-end text)
    go (b ∷ z) e =
        let r = from_place text at in
        let low = low_start (touches_number r) b z (subst (λ (x : List ℕ). (token (touches_number r) (skipped x)).lexeme ≢ l.Bad) e good) in
        let byte : get_or text at 0 ≡ b = ap (λ (n : ℕ). get_or text n 0) (sym (add-zero at)) ∙ sym (get_or-drop at text 0 0) ∙ ap (λ (x : List ℕ). get_or x 0 0) e in
        IsCharBoundary-before_ascii text at (omega (arith, length-drop at text, ap length e)) (rw byte low)

-- ---- where it stands

-- what is known of the token
pub record Stands (text : List ℕ) (at : ℕ) (t : Token) : Type 0 where
  pub after : at ≤ t.from
  pub order : t.from ≤ t.to
  pub within : t.to ≤ length text
  pub from : IsCharBoundary text t.from
  pub to : IsCharBoundary text t.to
  pub name : IsUtf8 (named t.kind (spelling text t))

named_by : (k : Lexeme) (s : List ℕ) → named (kind_of k) s ≡ name_by k s
named_by l.Quoted s = refl
named_by _ s = refl

no_fault : (k : Lexeme) → fault_kind k ≡ None → k ≢ l.Bad
no_fault k none bad = let some : fault_kind k ≡ Some fault.BadToken = rw bad refl in cc

-- what is ahead, by its place in the whole text
ahead_at : (text : List ℕ) (at : ℕ) → at ≤ length text → ahead (from_place text at) ≡ drop (length text - left (from_place text at)) text
ahead_at text at within =
    let r = from_place text at in
    let same : at + (length (drop at text) - left r) ≡ length text - left r = omega (arith, length-drop at text, left_within r) in
    ahead_is_end r ∙ drop-drop (length (drop at text) - left r) at text ∙ ap (λ (n : ℕ). drop n text) same

stands : (text : List ℕ) (at : ℕ) → IsUtf8 text → at ≤ length text → fault_kind (lexeme (from_place text at)) ≡ None
    → Stands text at (token_of (length text) (left (from_place text at)) (remaining.next_token (from_place text at)))
unfolding lexeme next remaining.spelling
stands text at u within none =
    let r = from_place text at in
    let good = no_fault (lexeme r) none in
    let rest = IsUtf8-drop text at u (starts_whole text at within good) in
    let from : ℕ = length text - left r in
    let len : ℕ = (remaining.next_token r).len in
    let size = length-drop at text in
    let least = left_within r in
    let most = within_ahead r good in
    let here = ahead_at text at within in
    let there : drop len (ahead r) ≡ drop (from + len) text = ap (λ (z : List ℕ). drop len z) here ∙ drop-drop len from text in
    let count : len ≡ from + len - from = omega arith in
    let bytes : take len (ahead r) ≡ take (from + len - from) (drop from text) = ap₂ (λ (n : ℕ) (z : List ℕ). take n z) count here in
    record {
      after = omega (arith, size, least);
      order = omega arith;
      within = omega (arith, size, least, most);
      from = IsCharBoundary-from_drop text from (omega arith) (subst IsUtf8 here (ahead_is_text r rest));
      to = IsCharBoundary-from_drop text (from + len) (omega (arith, size, least, most)) (subst IsUtf8 there (next_is_text r rest good));
      name = subst IsUtf8 (sym (named_by (lexeme r) (take len (ahead r))) ∙ ap (λ (z : List ℕ). named (kind_of (lexeme r)) z) bytes) (name_is_text r rest good);
    }

pub token_stands : (text : List ℕ) (at : ℕ) (t : Token) → IsUtf8 text → at ≤ length text → next_token text at ≡ Ok t → Stands text at t
unfolding next_token
token_stands text at t u within e = go (fault_kind (lexeme (from_place text at))) refl e
  where
    go : (k : Option Kind) → fault_kind (lexeme (from_place text at)) ≡ k → answer_by (length text) (left (from_place text at)) (remaining.next_token (from_place text at)) k ≡ Ok t → Stands text at t
    go (Some kind) f e = cc
    go None f e =
        let r = from_place text at in
        let same : token_of (length text) (left r) (remaining.next_token r) ≡ t = cc in
        subst (λ (x : Token). Stands text at x) same (stands text at u within f)

-- the answer, by what the code has at hand
pub answer_is : (text : List ℕ) (at : ℕ) (rest : List ℕ) (touches : Bool) (t : Lexed) (k : Option Kind) → rest ≡ skipped (drop at text)
    → touches ≡ (ends_in_number (take at text) && nat_eq (length rest) (length (drop at text))) → t ≡ token touches rest → k ≡ fault_kind t.lexeme
    → answer_by (length text) (length rest) t k ≡ next_token text at
unfolding next_token lexeme left ahead touches_number remaining.next_token
answer_is text at rest touches t k ahead_is touches_is token_is kind_is = rw (kind_is, token_is, touches_is, ahead_is) refl
