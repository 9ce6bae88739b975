-- The token that comes next, by the front of the text.
use Rattle.std.proofs.Common.{◌≡◌, ℕ, Bool, true, false, List, ◌++◌, length, take, drop, refl, ap, ◌∙◌, arith}
use Rattle.std.proofs.lemmas.Grind.{common_steps}
use Rattle.token_model.specs.declared.token.Lexeme.{Lexeme}
use Rattle.token_model.specs.declared.token.Lexeme.TheVariants as l
use Rattle.token_model.specs.declared.token.Token.{Token}
use Rattle.token_model.specs.Tokens.{token}
use Rattle.token_model.specs.Remaining.{Remaining, ahead, touches_number, next_token, lexeme, spelling, next, left, same_lexeme, sees, after}
use Rattle.printed_tokens.specs.Next.{NextIs, is_number}

same_number : (what : Lexeme) → same_lexeme what l.Number ≡ is_number what
unfolding same_lexeme
same_number l.Number = refl
same_number _ = refl

pub take_front : (bs rest : List ℕ) → take (length bs) (bs ++ rest) ≡ bs
take_front bs rest = grind (arith, common_steps)

pub drop_front : (bs rest : List ℕ) → drop (length bs) (bs ++ rest) ≡ rest
drop_front bs rest = grind (arith, common_steps)

abbrev behind : List ℕ → Bool → Remaining
behind text after_number = record { text = text; after_number = after_number }

-- by its lexeme and its length
pub at_front : (r : Remaining) (bs rest : List ℕ) (what : Lexeme) → ahead r ≡ bs ++ rest → ((after_number : Bool) → token after_number (bs ++ rest) ≡ record { lexeme = what; len = length bs }) → NextIs r what bs rest
unfolding lexeme spelling next left next_token
at_front r bs rest what front tok =
    let is : token (touches_number r) (ahead r) ≡ record { lexeme = what; len = length bs } = ap (token (touches_number r)) front ∙ tok (touches_number r) in
    record {
      lexeme = ap (λ (t : Token). t.lexeme) is;
      spelling = ap (λ (t : Token). take t.len (ahead r)) is ∙ ap (take (length bs)) front ∙ take_front bs rest;
      next = ap (λ (t : Token). behind (drop t.len (ahead r)) (same_lexeme t.lexeme l.Number)) is
          ∙ ap (λ (z : List ℕ). behind (drop (length bs) z) (same_lexeme what l.Number)) front
          ∙ ap (λ (z : List ℕ). behind z (same_lexeme what l.Number)) (drop_front bs rest)
          ∙ ap (behind rest) (same_number what);
      left = ap length front;
    }

-- ---- what a grammar asks of it

same_self : (what : Lexeme) → same_lexeme what what ≡ true
unfolding same_lexeme
same_self l.Name = refl
same_self l.Quoted = refl
same_self l.Variable = refl
same_self l.Number = refl
same_self l.OpenRound = refl
same_self l.CloseRound = refl
same_self l.OpenSquare = refl
same_self l.CloseSquare = refl
same_self l.OpenCurly = refl
same_self l.CloseCurly = refl
same_self l.Comma = refl
same_self l.Bar = refl
same_self l.If = refl
same_self l.Equal = refl
same_self l.NumberEqual = refl
same_self l.AtMost = refl
same_self l.Less = refl
same_self l.AtLeast = refl
same_self l.Greater = refl
same_self l.Plus = refl
same_self l.Minus = refl
same_self l.Times = refl
same_self l.Over = refl
same_self l.End = refl
same_self l.Unsupported = refl
same_self l.Finish = refl
same_self l.NameTooLong = refl
same_self l.NumberTooLarge = refl
same_self l.Bad = refl

pub sees_by : (r : Remaining) (what wanted : Lexeme) → lexeme r ≡ what → sees wanted r ≡ same_lexeme what wanted
unfolding sees
sees_by r what wanted e = ap (λ (found : Lexeme). same_lexeme found wanted) e

pub sees_itself : (r : Remaining) (what : Lexeme) → lexeme r ≡ what → sees what r ≡ true
sees_itself r what e = sees_by r what what e ∙ same_self what

pub after_it : (r : Remaining) (what : Lexeme) → lexeme r ≡ what → after what r ≡ next r
unfolding after
after_it r what e = rw (sees_itself r what e) refl

-- another token is left where it is
pub after_other : (r : Remaining) (wanted : Lexeme) → sees wanted r ≡ false → after wanted r ≡ r
unfolding after
after_other r wanted e = rw e refl
