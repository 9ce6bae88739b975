-- How many bytes there are behind a clause.
use Rattle.std.specs.Prelude.{ℕ, length, Result, Ok}
use Rattle.clause_store.specs.declared.source.SourceClause.{SourceClause}
use Rattle.token_model.specs.declared.fault.Fault.{Fault}
use Rattle.token_model.specs.Remaining.{Remaining}
use Rattle.token_model.specs.Parsers.{Parser, ◌>>=◌, ◌>>◌, pure}
use Rattle.clp_grammar.specs.declared.draft.Draft.{Draft}
use Rattle.clp_grammar.specs.Input.{Input}
use Rattle.clp_grammar.specs.Drafts.{draft, end}
use Rattle.clp_grammar.specs.Evaluation.{with_value}
use Rattle.clp_grammar.specs.Grammar.{clause}

-- how many bytes there are behind the last token
abbrev pub behind : Parser Input ℕ
behind = λ i. Ok (length i.remaining.text, i)

-- behind the end of a clause
abbrev pub behind_end : Parser Input ℕ
behind_end = end >> behind

-- a clause as it is parsed, and behind its end
abbrev pub draft_and_behind : Parser Input (Draft × ℕ)
draft_and_behind = do
  d ← draft end
  left ← behind
  pure (d, left)

-- the clause that comes next, and behind its end
abbrev pub clause_and_behind : Remaining → Result (SourceClause × ℕ) Fault
clause_and_behind r = with_value (clause r) (λ p. Ok (p.0, length p.1.text))
