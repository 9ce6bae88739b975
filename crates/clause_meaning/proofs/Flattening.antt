-- A linear expression as a term, where it has no row.
use Rattle.std.proofs.Common.{◌≡◌, ℕ, ◌+◌, List, length, Err, ap, sym, ◌∙◌}
use Rattle.token_model.specs.declared.fault.ReadError.{ReadError}
use Rattle.token_model.specs.declared.fault.ReadError.TheVariants as error
use Rattle.token_model.specs.Parsers.{Fails, Gives}
use Rattle.clp_grammar.specs.declared.expression.Expression.{Expression}
use Rattle.clp_grammar.specs.Terms.{Meaning, number_in, met_all, flattened, flattened_by, value_row}
use Rattle.clause_meaning.specs.Numbers.{number_of}

pub flattened_fails : (begin : ℕ) (e : Expression) (m known : Meaning) (v : ℕ) (numbers : List ℕ) (fault : ReadError) →
    known ≡ met_all e m → v ≡ length known.sorts + 1 → numbers ≡ known.numbers →
    Gives (value_row begin v (number_of numbers) e) (Err fault) → Fails (flattened begin e m) fault
unfolding flattened
flattened_fails begin e m known v numbers error.NoMemory same next all fails = tt
flattened_fails begin e m known v numbers (error.Fault f) same next all fails =
    ap (λ k. flattened_by k (value_row begin (length k.sorts + 1) (number_in k) e)) (sym same)
    ∙ ap (λ w. flattened_by known (value_row begin w (number_in known) e)) (sym next)
    ∙ ap (λ ns. flattened_by known (value_row begin v (number_of ns) e)) (sym all)
    ∙ ap (flattened_by known) fails
