-- What a parser does at a token that is known, and what stands behind printed pieces.
use Rattle.std.proofs.Common.{◌≡◌, ℕ, Bool, true, false, List, ◌∷◌, refl, ap, ◌∙◌, Ok, Err, None}
use Rattle.std.specs.Prelude.{if◌then◌else◌}
use Rattle.token_model.specs.declared.token.Lexeme.{Lexeme}
use Rattle.token_model.specs.declared.token.Lexeme.TheVariants as l
use Rattle.token_model.specs.Numbers.{joins_number}
use Rattle.token_model.specs.White.{skipped}
use Rattle.token_model.specs.Remaining as token
use Rattle.token_model.specs.Remaining.{Remaining, ahead, lexeme, same_lexeme}
use Rattle.printed_tokens.specs.Next.{NextIs, is_number}
use Rattle.printed_tokens.proofs.Next.{sees_by, sees_itself, after_it, after_other}
use Rattle.printed_tokens.proofs.Marks.{close_round_is, close_square_is, close_curly_is, comma_is, bar_is, if_is, equal_is, at_most_is, less_is, end_is}
use Rattle.clp_grammar.specs.Input.{eat, expect, refusal, passed}
use Rattle.clp_grammar.specs.Expressions.{sum_operation, product_operation}
use Rattle.clp_grammar.specs.Goals.{relation_of}
use Rattle.parsing_laws.specs.Behind.{behind, ends, closes, Stops, IsEndBefore}
use Rattle.parsing_laws.specs.Places.{at}

-- ---- single tokens

module _ (r : Remaining) (what : Lexeme) (bytes rest : List ℕ) (names : List (List ℕ)) (is : NextIs r what bytes rest) where
  pub passes : passed (at r names) ≡ at (behind rest (is_number what)) names
  passes = ap (λ (s : Remaining). at s names) is.next

  pub eats : eat what (at r names) ≡ Ok (true, at (behind rest (is_number what)) names)
  unfolding eat
  eats =
      ap (λ (b : Bool). Ok (b, at (token.after what r) names)) (sees_itself r what is.lexeme)
      ∙ ap (λ (s : Remaining). Ok (true, at s names)) (after_it r what is.lexeme ∙ is.next)

  pub expects : (more : ℕ) → expect more what (at r names) ≡ Ok (tt, at (behind rest (is_number what)) names)
  unfolding expect
  expects more =
      ap (λ (b : Bool). if b then Ok (tt, at (token.next r) names) else Err (refusal more r)) (sees_itself r what is.lexeme)
      ∙ ap (λ (s : Remaining). Ok (tt, at s names)) is.next

pub leaves : (r : Remaining) (wanted : Lexeme) (names : List (List ℕ)) → same_lexeme (lexeme r) wanted ≡ false → eat wanted (at r names) ≡ Ok (false, at r names)
unfolding eat
leaves r wanted names e =
    let s : token.sees wanted r ≡ false = sees_by r (lexeme r) wanted refl ∙ e in
    ap (λ (b : Bool). Ok (b, at (token.after wanted r) names)) s ∙ ap (λ (x : Remaining). Ok (false, at x names)) (after_other r wanted s)

-- ---- what stands behind

pub record Ends (k : Lexeme) : Type 0 where
  pub sum : sum_operation k ≡ None
  pub product : product_operation k ≡ None
  pub no_open : same_lexeme k l.OpenRound ≡ false

pub by_ends : (k : Lexeme) → ends k ≡ true → Ends k
unfolding same_lexeme
by_ends l.OpenRound h = absurd (cc)
by_ends l.Plus h = absurd (cc)
by_ends l.Minus h = absurd (cc)
by_ends l.Times h = absurd (cc)
by_ends l.Over h = absurd (cc)
by_ends _ h = record { sum = refl; product = refl; no_open = refl }

pub closes_ends : (k : Lexeme) → closes k ≡ true → ends k ≡ true
closes_ends l.OpenRound h = h
closes_ends l.Plus h = h
closes_ends l.Minus h = h
closes_ends l.Times h = h
closes_ends l.Over h = h
closes_ends _ h = refl

pub no_relation : (k : Lexeme) → closes k ≡ true → relation_of k ≡ None
no_relation l.Equal h = absurd (cc)
no_relation l.NumberEqual h = absurd (cc)
no_relation l.AtMost h = absurd (cc)
no_relation l.Less h = absurd (cc)
no_relation l.AtLeast h = absurd (cc)
no_relation l.Greater h = absurd (cc)
no_relation _ h = refl

pub stops_ends : (z : List ℕ) → Stops closes z → Stops ends z
stops_ends z h = record { name = h.name; number = h.number; next = λ a. closes_ends (lexeme (behind z a)) (h.next a) }

pub stops_comma : (z : List ℕ) → Stops closes (44 ∷ z)
unfolding ahead skipped joins_number
stops_comma z = record { name = record { word = refl; quote = refl }; number = record { digits = refl; joins = refl }; next = λ a. ap closes (comma_is (behind (44 ∷ z) a) z refl).lexeme }

pub stops_close_round : (z : List ℕ) → Stops closes (41 ∷ z)
unfolding ahead skipped joins_number
stops_close_round z = record { name = record { word = refl; quote = refl }; number = record { digits = refl; joins = refl }; next = λ a. ap closes (close_round_is (behind (41 ∷ z) a) z refl).lexeme }

pub stops_close_square : (z : List ℕ) → Stops closes (93 ∷ z)
unfolding ahead skipped joins_number
stops_close_square z = record { name = record { word = refl; quote = refl }; number = record { digits = refl; joins = refl }; next = λ a. ap closes (close_square_is (behind (93 ∷ z) a) z refl).lexeme }

pub stops_close_curly : (z : List ℕ) → Stops closes (125 ∷ z)
unfolding ahead skipped joins_number
stops_close_curly z = record { name = record { word = refl; quote = refl }; number = record { digits = refl; joins = refl }; next = λ a. ap closes (close_curly_is (behind (125 ∷ z) a) z refl).lexeme }

pub stops_bar : (z : List ℕ) → Stops closes (124 ∷ z)
unfolding ahead skipped joins_number
stops_bar z = record { name = record { word = refl; quote = refl }; number = record { digits = refl; joins = refl }; next = λ a. ap closes (bar_is (behind (124 ∷ z) a) z refl).lexeme }

pub stops_if : (z : List ℕ) → Stops closes (32 ∷ 58 ∷ 45 ∷ z)
unfolding ahead skipped joins_number
stops_if z = record { name = record { word = refl; quote = refl }; number = record { digits = refl; joins = refl }; next = λ a. ap closes (if_is (behind (32 ∷ 58 ∷ 45 ∷ z) a) z refl).lexeme }

pub stops_end : (z : List ℕ) → IsEndBefore z → Stops closes (46 ∷ z)
unfolding ahead skipped joins_number
stops_end z h = record { name = record { word = refl; quote = refl }; number = record { digits = refl; joins = refl }; next = λ a. ap closes (end_is (behind (46 ∷ z) a) z h refl).lexeme }

-- ---- relations behind a space

pub stops_equal : (z : List ℕ) → Stops ends (32 ∷ 61 ∷ 32 ∷ z)
unfolding ahead skipped joins_number
stops_equal z = record { name = record { word = refl; quote = refl }; number = record { digits = refl; joins = refl }; next = λ a. ap ends (equal_is (behind (32 ∷ 61 ∷ 32 ∷ z) a) z refl).lexeme }

pub stops_at_most : (z : List ℕ) → Stops ends (32 ∷ 61 ∷ 60 ∷ z)
unfolding ahead skipped joins_number
stops_at_most z = record { name = record { word = refl; quote = refl }; number = record { digits = refl; joins = refl }; next = λ a. ap ends (at_most_is (behind (32 ∷ 61 ∷ 60 ∷ z) a) z refl).lexeme }

pub stops_less : (z : List ℕ) → Stops ends (32 ∷ 60 ∷ z)
unfolding ahead skipped joins_number
stops_less z = record { name = record { word = refl; quote = refl }; number = record { digits = refl; joins = refl }; next = λ a. ap ends (less_is (behind (32 ∷ 60 ∷ z) a) z refl).lexeme }
