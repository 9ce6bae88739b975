-- Where the word `show` stands behind a row, and the row that stands at a place in a text.
use Rattle.std.specs.Prelude.{ℕ, ◌+◌, ◌-◌, List, length, drop, codes, Result, Ok, Err}
use Rattle.clp_model.specs.Clauses.{Row}
use Rattle.token_model.specs.declared.fault.Fault.{Fault}
use Rattle.token_model.specs.Remaining.{Remaining, whole}
use Rattle.clp_grammar.specs.Evaluation.{with_value}
use Rattle.row_grammar.specs.Row.{row_to_show}

-- how many bytes there are from the word `show` on, which is the last token that was passed
abbrev pub from_show : Remaining → ℕ
from_show r = length (codes "show") + length r.text

-- the first of two values
abbrev pub first : {A B E : Type 0} → Result (A × B) E → Result A E
first (Ok p) = Ok p.0
first (Err e) = Err e

-- the row that stands at this byte, with the word `show` after it, and the place of that word
unfoldable pub row_at : List ℕ → ℕ → Result (Row × ℕ) Fault
row_at text at = with_value (row_to_show (whole (drop at text))) (λ p. Ok (p.0, length text - from_show p.1))
