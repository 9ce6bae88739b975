-- Programs, goals, and clauses within a text: what they stand for, or their first fault.
use Rattle.std.specs.Prelude.{ℕ, zero, suc, ◌-◌, nat_lt, Bool, true, false, if◌then◌else◌, List, [], ◌∷◌, ◌++◌, length, drop, Result, Ok, Err}
use Rattle.token_model.specs.declared.token.Lexeme.{Lexeme}
use Rattle.token_model.specs.declared.token.Lexeme.TheVariants as l
use Rattle.token_model.specs.declared.fault.Kind.TheVariants.{TooMany}
use Rattle.token_model.specs.declared.fault.Fault.{Fault}
use Rattle.token_model.specs.Remaining.{Remaining, whole, lexeme, left, sees, fault_at, refusal}
use Rattle.token_model.specs.Parsers.{Parser, Outcome}
use Rattle.token_cursor.specs.Utf8.{not_utf8}
use Rattle.clause_store.specs.declared.source.SourceClause.{SourceClause}
use Rattle.clp_grammar.specs.declared.draft.Draft.{Draft}
use Rattle.clp_grammar.specs.Input.{Input, start}
use Rattle.clp_grammar.specs.Drafts.{draft, end, end_or_finish}
use Rattle.clp_grammar.specs.Directives.{directive}
use Rattle.clp_grammar.specs.Evaluation.{with_value}
use Rattle.clp_grammar.specs.Clauses.{meaning, unless}

-- how many clauses a program may have
abbrev pub max_clauses : ℕ
max_clauses = 4096

-- ---- clauses

abbrev pub meant : Outcome Input Draft → Outcome Remaining SourceClause
meant (Ok p) = with_value (meaning p.0) (λ c. Ok (c, p.1.remaining))
meant (Err e) = Err e

-- Tokens and grammar come first, up to and with the end, and then what the clause stands for.
unfoldable pub clause_with : Parser Input (Unit {0}) → Parser Remaining SourceClause
clause_with ending r = meant (draft ending (start r))

-- a clause with its end
abbrev pub clause : Parser Remaining SourceClause
clause = clause_with end

-- ---- programs

-- such a token begins a clause
abbrev pub begins_clause : Lexeme → Bool
begins_clause l.Name = true
begins_clause l.Quoted = true
begins_clause l.Variable = true
begins_clause l.Number = true
begins_clause l.OpenRound = true
begins_clause l.OpenSquare = true
begins_clause l.Plus = true
begins_clause l.Minus = true
begins_clause _ = false

-- why no clause may begin here, after as many as there may be
unfoldable pub past_limit : Remaining → Fault
past_limit r = if begins_clause (lexeme r) then fault_at TooMany r else refusal r

-- one clause more than these
unfoldable pub next_clause : List SourceClause → Parser Remaining SourceClause
next_clause found r = if nat_lt (length found) max_clauses then clause r else Err (past_limit r)

-- by the token that comes next: the end of the text, a directive, or a clause
abbrev pub clauses_by : (List SourceClause → Remaining → Result (List SourceClause) Fault) → List SourceClause → Remaining → Lexeme → Result (List SourceClause) Fault
clauses_by again found r l.Finish = Ok found
clauses_by again found r l.If = with_value (directive r) (again found)
clauses_by again found r _ = with_value (next_clause found r) (λ p. again (found ++ p.0 ∷ []) p.1)

-- The clauses to the end of the text, after those that were found. The number bounds the turns, and each takes a token,
-- so the count of bytes is enough.
unfoldable pub clauses_from : ℕ → List SourceClause → Remaining → Result (List SourceClause) Fault
clauses_from zero found r = Ok found
clauses_from (suc n) found r = clauses_by (clauses_from n) found r (lexeme r)

-- the clauses that a text is, or its first fault
unfoldable pub program : List ℕ → Result (List SourceClause) Fault
program text = unless (not_utf8 text) (clauses_from (left (whole text)) [] (whole text))

-- ---- a goal, and a clause within a text

-- nothing stands behind the clause
abbrev pub alone : SourceClause × Remaining → Result SourceClause Fault
alone p = if sees l.Finish p.1 then Ok p.0 else Err (refusal p.1)

-- the one clause that a text is, whose end may be missing, or its first fault
unfoldable pub goal_text : List ℕ → Result SourceClause Fault
goal_text text = unless (not_utf8 text) (with_value (clause_with end_or_finish (whole text)) alone)

-- the clause that stands at this byte, with its end, and the place after it
unfoldable pub clause_at : List ℕ → ℕ → Result (SourceClause × ℕ) Fault
clause_at text at = with_value (clause (whole (drop at text))) (λ p. Ok (p.0, length text - length p.1.text))
