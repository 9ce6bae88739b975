-- Clauses as they are parsed: tokens and grammar alone.
use Rattle.std.specs.Prelude.{ℕ, if◌then◌else◌, List, [], length, Ok}
use Rattle.token_model.specs.declared.token.Lexeme.TheVariants as l
use Rattle.token_model.specs.Parsers.{Parser, ◌>>=◌, ◌>>◌, pure}
use Rattle.clp_grammar.specs.declared.draft.Goal.{Goal}
use Rattle.clp_grammar.specs.declared.draft.Draft.{Draft}
use Rattle.clp_grammar.specs.Input.{Input, max_open, comes, eat, expect, separated}
use Rattle.clp_grammar.specs.Expressions.{expression}
use Rattle.clp_grammar.specs.Goals.{one_goal}

-- `:-` and one or more goals, or nothing
unfoldable pub body : Parser Input (List Goal)
body = do
  has_body ← eat l.If
  if has_body then separated one_goal else pure []

-- how many variables were named so far
abbrev pub names_met : Parser Input ℕ
names_met = λ i. Ok (length i.names, i)

-- the end of a clause
abbrev pub end : Parser Input (Unit {0})
end = expect max_open l.End

-- the end of a clause, which may be missing at the end of the text
unfoldable pub end_or_finish : Parser Input (Unit {0})
end_or_finish = do
  is_finished ← comes l.Finish
  if is_finished then pure tt else end

-- a clause up to and with its end
unfoldable pub draft : Parser Input (Unit {0}) → Parser Input Draft
draft ending = do
  head ← expression max_open
  goals ← body
  ending
  count ← names_met
  pure (record { head = head; goals = goals; variables = count })
