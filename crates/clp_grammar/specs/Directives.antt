-- Directives, which are passed over.
use Rattle.std.specs.Prelude.{ℕ, zero, suc, ◌+◌, ◌-◌, nat_lt, if◌then◌else◌, Result, Ok, Err}
use Rattle.token_model.specs.declared.token.Lexeme.{Lexeme}
use Rattle.token_model.specs.declared.token.Lexeme.TheVariants as l
use Rattle.token_model.specs.declared.fault.Kind.TheVariants.{TooDeep}
use Rattle.token_model.specs.declared.fault.Fault.{Fault}
use Rattle.token_model.specs.Remaining.{Remaining, lexeme, next, left, fault_at, refusal}
use Rattle.clp_grammar.specs.declared.role.Role.{Role}
use Rattle.clp_grammar.specs.declared.role.Role.TheVariants.{Ends, Opens, Closes, Stands, Fails}
use Rattle.clp_grammar.specs.Input.{max_open}

-- what a token is in a directive
abbrev pub role : Lexeme → Role
role l.End = Ends
role l.OpenRound = Opens
role l.OpenSquare = Opens
role l.OpenCurly = Opens
role l.CloseRound = Closes
role l.CloseSquare = Closes
role l.CloseCurly = Closes
role l.Finish = Fails
role l.NameTooLong = Fails
role l.NumberTooLarge = Fails
role l.Bad = Fails
role _ = Stands

-- by the role of the token that comes next, where this many brackets are open; `again` goes on behind it
abbrev pub directive_by : (ℕ → Remaining → Result Remaining Fault) → ℕ → Remaining → Role → Result Remaining Fault
directive_by again open_now r Ends = Ok (next r)
directive_by again open_now r Opens = if nat_lt open_now max_open then again (open_now + 1) (next r) else Err (fault_at TooDeep r)
directive_by again open_now r Closes = again (open_now - 1) (next r)
directive_by again open_now r Stands = again open_now (next r)
directive_by again open_now r Fails = Err (refusal r)

-- What remains after the end of a directive, within which this many brackets are open. The first number bounds the
-- turns, and each takes a token, so the count of bytes is enough.
unfoldable pub directive_from : ℕ → ℕ → Remaining → Result Remaining Fault
directive_from zero open_now r = Err (refusal r)
directive_from (suc n) open_now r = directive_by (directive_from n) open_now r (role (lexeme r))

-- what remains after a directive, of which the `:-` comes next
unfoldable pub directive : Remaining → Result Remaining Fault
directive r = directive_from (left (next r)) 0 (next r)
