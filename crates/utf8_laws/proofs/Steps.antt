-- The same for a parser that knows what remains by an equation, in the form that the search takes: name those that a
-- function needs on it, as `using(utf8_laws::proofs::Steps::text_after_token)`.
use Rattle.std.proofs.Common.{◌≡◌, Bool, true, false, List, ℕ, Result, Ok, Err, OnErr, IsUtf8, cond, refl, ap, subst}
use Rattle.token_model.specs.declared.token.Lexeme.{Lexeme}
use Rattle.token_model.specs.declared.token.Lexeme.TheVariants as l
use Rattle.token_model.specs.declared.fault.Fault.{Fault}
use Rattle.token_model.specs.Names.{quoted_name}
use Rattle.token_model.specs.Parsers.{ReadsExactly}
use Rattle.token_model.specs.Remaining.{Remaining, after, expect, lexeme, next, refusal, sees, spelling, whole}
use Rattle.utf8_laws.specs.Texts.{IsText}
use Rattle.utf8_laws.proofs.Texts.{after_is_text, is_bad, name_of, next_of}

pub text_of_whole : (s : Remaining) (text : List ℕ) → s ≡ whole text → IsUtf8 text → IsText s
unfolding IsText
text_of_whole s text e u = rw e u

-- after a token that was seen
pub text_after_token : (s r : Remaining) (k : Lexeme) → s ≡ next r → IsText r → lexeme r ≡ k → is_bad k ≡ false → IsText s
unfolding IsText
text_after_token s r k e u seen good = rw e (next_of r k u seen good)

good_by : (k : Lexeme) → is_bad k ≡ false → k ≡ l.Bad → ⊥
good_by k good bad = let f : is_bad k ≡ true = rw bad refl in cc

-- after a token that is passed if it comes next
pub text_after_wanted : (s r : Remaining) (k : Lexeme) → s ≡ after k r → IsText r → is_bad k ≡ false → IsText s
unfolding IsText
text_after_wanted s r k e u good = rw e (after_is_text k r u (good_by k good))

abbrev state_of : Result (Unit {0} × Remaining) Fault → Remaining → Remaining
state_of (Ok p) other = p.1
state_of (Err f) other = other

-- after one that must come next, or where it doesn't
pub text_after_expected : (s r : Remaining) (k : Lexeme) (result : Result (Unit {0}) Fault) → ReadsExactly (expect k r) result s → OnErr result (s ≡ r) → IsText r → is_bad k ≡ false → IsText s
unfolding IsText expect after
text_after_expected s r k (Err f) reads same u good = rw same u
text_after_expected s r k (Ok x) reads same u good = go (sees k r) reads (after_is_text k r u (good_by k good))
  where
    go : (t : Bool) → cond {A = Result (Unit {0} × Remaining) Fault} t (Ok (tt, next r)) (Err (refusal r)) ≡ Ok (x, s) → IsUtf8 (cond t (next r) r).text → IsUtf8 s.text
    go true e v = let moved : next r ≡ s = ap (λ (o : Result (Unit {0} × Remaining) Fault). state_of o r) e in subst (λ (q : Remaining). IsUtf8 q.text) moved v
    go false e v = cc

-- the bytes of a plain name or a variable
pub plain_is_text : (s : List ℕ) (r : Remaining) → s ≡ spelling r → IsText r → lexeme r ≡ l.Name → IsUtf8 s
unfolding IsText
plain_is_text s r e u seen = rw e (name_of r l.Name u seen refl)

pub variable_is_text : (s : List ℕ) (r : Remaining) → s ≡ spelling r → IsText r → lexeme r ≡ l.Variable → IsUtf8 s
unfolding IsText
variable_is_text s r e u seen = rw e (name_of r l.Variable u seen refl)

-- a quoted name after its escapes
pub unescaped_is_text : (s : List ℕ) (r : Remaining) → s ≡ spelling r → IsText r → lexeme r ≡ l.Quoted → IsUtf8 (quoted_name s)
unfolding IsText
unescaped_is_text s r e u seen = rw e (name_of r l.Quoted u seen refl)
