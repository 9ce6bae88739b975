-- What tokens are in a directive.
use Rattle.std.specs.Prelude.{ℕ, Bool, true, false, Option, Some, None, Result, Ok, Err}
use Rattle.token_model.specs.declared.fault.Fault.{Fault}
use Rattle.token_model.specs.Remaining.{Remaining}
use Rattle.clp_grammar.specs.Directives as spec
use Rattle.clp_grammar.specs.declared.role.Role.{Role}
use Rattle.clp_grammar.specs.declared.role.Role.TheVariants.{Fails}

abbrev pub may_stand : Role → Bool
may_stand Fails = false
may_stand _ = true

-- what is passed from here on in this many turns, where a token left so many brackets open or was the end
abbrev pub goes_on : ℕ → Result (Option ℕ) Fault → Remaining → Result Remaining Fault
goes_on n (Ok (Some open_now)) r = spec.directive_from n open_now r
goes_on n (Ok None) r = Ok r
goes_on n (Err f) r = Err f
