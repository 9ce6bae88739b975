-- The steps of a script can be carried out: the clauses of its definitions can be loaded, its rows are in normal form, and its
-- names pass the tests that names of programs pass.
use Rattle.std.proofs.Common.{◌≡◌, ℕ, ◌<◌, ◌^◌, true, List, [], ◌∷◌, length, Option, Some, None, Result, Ok, Err, refl, arith}
use Rattle.std.proofs.lemmas.List.Elements.{All-nil, All-cons, All-head, All-tail, All-weaker}
use Rattle.std.specs.Prelude.{All}
use Rattle.std.specs.Str.{is_utf8}
use Rattle.clp_model.specs.Clauses.{Row}
use Rattle.linear_model.specs.Normal.{IsNormal}
use Rattle.token_model.specs.declared.fault.Fault.{Fault}
use Rattle.token_model.specs.Parsers.{Outcome, ◌>>◌, value_of}
use Rattle.token_model.specs.Remaining.{Remaining, whole}
use Rattle.token_cursor.specs.Utf8.{not_utf8}
use Rattle.token_cursor.proofs.Spelled.{next_within}
use Rattle.clause_store.specs.declared.source.SourceClause.{SourceClause}
use Rattle.clp_grammar.specs.declared.draft.Comparison.{Comparison}
use Rattle.clp_grammar.specs.Input.{Input, max_open}
use Rattle.clp_grammar.specs.Goals.{comparison}
use Rattle.clp_grammar.specs.Evaluation.{row_of}
use Rattle.clp_grammar.specs.Clauses.{unless}
use Rattle.clp_grammar.specs.Grammar.{clause}
use Rattle.draft_laws.proofs.Clauses.{comparisons_shorten}
use Rattle.grammar_laws.specs.Read.{IsReadClause}
use Rattle.grammar_laws.proofs.Rows.{rows_kept}
use Rattle.grammar_laws.proofs.Clauses.{IfValue}
use Rattle.grammar_laws.proofs.Programs.{IsReadWithin, clause_read}
use Rattle.standing_model.specs.Names.{is_short, is_ordinary}
use Rattle.name_laws.specs.Names.{IsStepOver}
use Rattle.row_grammar.specs.Row.{number_at, sides_fault, row_over}
use Rattle.map_model.specs.declared.step.Step.{Step}
use Rattle.map_model.specs.declared.step.Step.TheVariants.{Define, Add}
use Rattle.map_model.specs.FormedSteps.{IsFormedStep}
use Rattle.script_grammar.specs.Script.{version_line, steps_from, max_steps, unless_fault, script}
use Rattle.read_name_laws.specs.Steps.{IsStepOf}
use Rattle.read_name_laws.specs.Laws.{HasTextNames, ReadStepsHaveKeptParts, ReadStepsAreFormed, ReadStepsAreOver}
use Rattle.read_name_laws.proofs.Programs.{over}
use Rattle.read_name_laws.proofs.Walk.{IfGiven, Keeps, Any, Leaves, IfMade, IsKept, script_steps}
use Rattle.read_name_laws.proofs.Scripts.{scripts}

-- fewer than 2^32 bytes remain
abbrev IsShort : Remaining → Type 0
IsShort r = length r.text < 2 ^ 32

-- ---- clauses, comparisons and rows

clauses_keep : Keeps IsShort IsReadClause clause
clauses_keep = record { is = λ r short. go r short (clause r) (clause_read r short) }
  where
    go : (r : Remaining) → IsShort r → (o : Outcome Remaining SourceClause) → IfValue (IsReadWithin r) o → IfGiven (λ x s. IsShort s × IsReadClause x) o
    go r short (Ok x) h = (omega (arith, short, h.1), h.0)
    go r short (Err e) h = tt

comparisons_leave : (i : Input) → IsShort i.remaining → Leaves IsShort (comparison max_open i)
comparisons_leave i short = go (comparison max_open i) refl
  where
    go : (o : Outcome Input Comparison) → comparison max_open i ≡ o → Leaves IsShort o
    go (Ok x) e = omega (arith, short, comparisons_shorten max_open i x.0 x.1 short e)
    go (Err f) e = tt

normal_over : (numbers : List ℕ) (c : Comparison) → IfMade IsNormal (row_over numbers c)
unfolding row_over
normal_over numbers c = go (sides_fault numbers c) (row_of (number_at numbers) c) refl
  where
    go : (o : Option Fault) (v : Result Row Fault) → row_of (number_at numbers) c ≡ v → IfMade IsNormal (unless o v)
    go (Some f) v e = tt
    go None (Ok row) e = (rows_kept (number_at numbers) c row e).0
    go None (Err f) e = tt

short_kept : IsKept IsShort IsReadClause IsNormal Any
short_kept = record {
  passes = λ r short good. omega (arith, short, next_within r);
  names = λ r short good. tt;
  clauses = clauses_keep;
  comparisons = comparisons_leave;
  rows = normal_over;
}

-- ---- scripts

pub parts : ReadStepsHaveKeptParts
unfolding script
parts text steps short e = go (not_utf8 text) e
  where
    go : (o : Option Fault) → unless_fault o (value_of ((version_line >> steps_from max_steps []) (whole text))) ≡ Ok steps → All (IsStepOf IsReadClause IsNormal Any) steps
    go (Some x) is = absurd (cc)
    go None is = script_steps IsShort IsReadClause IsNormal Any short_kept text steps short is

abbrev ReadStep : Step → Type 0
ReadStep = IsStepOf IsReadClause IsNormal Any

abbrev TextStep : Step → Type 0
TextStep = IsStepOf HasTextNames Any (λ name. is_utf8 name ≡ true)

step_formed : (s : Step) → ReadStep s → IsFormedStep s
step_formed (Define source) h = h.well
step_formed (Add id row show) h = h.rising
step_formed _ h = tt

step_over : (s : Step) → ReadStep s → IsStepOver is_short is_ordinary s
step_over (Define source) h = (h.named, h.over)
step_over _ h = tt

step_texts : (s : Step) → ReadStep s → TextStep s → IsStepOver is_utf8 is_ordinary s
step_texts (Define source) h t = (t.equations, over is_short is_ordinary source t h.over)
step_texts _ h t = tt

all_texts : (steps : List Step) → All ReadStep steps → All TextStep steps → All (IsStepOver is_utf8 is_ordinary) steps
all_texts [] h t = All-nil (IsStepOver is_utf8 is_ordinary)
all_texts (s ∷ steps) h t =
    All-cons (IsStepOver is_utf8 is_ordinary) s steps
    (step_texts s (All-head ReadStep s steps h) (All-head TextStep s steps t))
    (all_texts steps (All-tail ReadStep s steps h) (All-tail TextStep s steps t))

pub steps_over : ReadStepsAreOver
steps_over text steps short e = let read = parts text steps short e in (All-weaker ReadStep (IsStepOver is_short is_ordinary) step_over steps read, all_texts steps read (scripts text steps e))

pub steps_formed : ReadStepsAreFormed
steps_formed text steps short e = All-weaker ReadStep IsFormedStep step_formed steps (parts text steps short e)
