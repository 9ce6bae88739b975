-- The clauses and the predicates of a script's steps have names in UTF-8.
use Rattle.std.proofs.Common.{◌≡◌, ℕ, true, List, [], IsUtf8, Option, Some, None, Result, Ok, Err, refl}
use Rattle.std.proofs.lemmas.Str.{is_utf8-from_IsUtf8}
use Rattle.std.specs.Prelude.{All}
use Rattle.std.specs.Str.{is_utf8}
use Rattle.clp_model.specs.Clauses.{Row}
use Rattle.token_model.specs.declared.fault.Fault.{Fault}
use Rattle.token_model.specs.Parsers.{Outcome, ◌>>◌, value_of}
use Rattle.token_model.specs.Remaining.{Remaining, whole, lexeme, spelling}
use Rattle.token_cursor.specs.Utf8.{not_utf8}
use Rattle.token_cursor.specs.Escapes.{name_by}
use Rattle.utf8_laws.proofs.Texts.{next_of, name_of}
use Rattle.clause_store.specs.declared.source.SourceClause.{SourceClause}
use Rattle.clp_grammar.specs.declared.draft.Comparison.{Comparison}
use Rattle.clp_grammar.specs.Input.{Input, max_open}
use Rattle.clp_grammar.specs.Goals.{comparison}
use Rattle.clp_grammar.specs.Grammar.{clause}
use Rattle.row_grammar.specs.Row.{row_over}
use Rattle.script_grammar.specs.Script.{version_line, steps_from, max_steps, unless_fault, script}
use Rattle.read_name_laws.specs.Laws.{HasTextNames, ReadScriptsHaveTextNames}
use Rattle.read_name_laws.specs.Steps.{IsStepOf}
use Rattle.read_name_laws.proofs.Reading.{Reads, IsText}
use Rattle.read_name_laws.proofs.Drafts.{BothHaveTexts, comparison_texts}
use Rattle.read_name_laws.proofs.Programs.{IsReadText, clause_texts, no_fault}
use Rattle.read_name_laws.proofs.Walk.{IfGiven, Keeps, Any, Leaves, IfMade, IsKept, script_steps}

-- what remains is in UTF-8
abbrev RemainsText : Remaining → Type 0
RemainsText r = IsUtf8 r.text

abbrev IsTextName : List ℕ → Type 0
IsTextName name = is_utf8 name ≡ true

-- ---- clauses and comparisons

clauses_keep : Keeps RemainsText HasTextNames clause
clauses_keep = record { is = λ r u. go (clause r) (clause_texts r u) }
  where
    go : (o : Outcome Remaining SourceClause) → IsReadText o → IfGiven (λ x s. RemainsText s × HasTextNames x) o
    go (Ok x) h = (h.1, h.0)
    go (Err e) h = tt

comparisons_leave : (i : Input) → IsText i → Leaves RemainsText (comparison max_open i)
comparisons_leave i u = go (comparison max_open i) (comparison_texts max_open i u)
  where
    go : (o : Outcome Input Comparison) → Reads BothHaveTexts o → Leaves RemainsText o
    go (Ok x) h = h.0
    go (Err e) h = tt

any_row : (v : Result Row Fault) → IfMade Any v
any_row (Ok row) = tt
any_row (Err e) = tt

texts_kept : IsKept RemainsText HasTextNames Any IsTextName
texts_kept = record {
  passes = λ r u good. next_of r (lexeme r) u refl good;
  names = λ r u good. is_utf8-from_IsUtf8 (name_by (lexeme r) (spelling r)) (name_of r (lexeme r) u refl good);
  clauses = clauses_keep;
  comparisons = comparisons_leave;
  rows = λ numbers c. any_row (row_over numbers c);
}

-- ---- scripts

pub scripts : ReadScriptsHaveTextNames
unfolding script
scripts text steps e = go (not_utf8 text) refl e
  where
    go : (o : Option Fault) → not_utf8 text ≡ o → unless_fault o (value_of ((version_line >> steps_from max_steps []) (whole text))) ≡ Ok steps → All (IsStepOf HasTextNames Any IsTextName) steps
    go (Some x) f is = absurd (cc)
    go None f is = script_steps RemainsText HasTextNames Any IsTextName texts_kept text steps (no_fault text f) is
