-- The grammar of scripts, read from the left with one token ahead.
use Rattle.std.specs.Prelude.{ℕ, zero, suc, if◌then◌else◌, List, [], ◌∷◌, ◌++◌, codes, Option, Some, None, Result, Ok, Err}
use Rattle.case_table.specs.declared.rule_word.RuleWord.{RuleWord}
use Rattle.case_table.specs.declared.rule_word.RuleWord.TheVariants as rule
use Rattle.case_table.specs.Rules.{rule_case}
use Rattle.token_cursor.specs.Utf8.{not_utf8}
use Rattle.token_model.specs.declared.token.Lexeme.TheVariants as l
use Rattle.token_model.specs.declared.fault.Kind.TheVariants.{TooMany, NoVersion, Version}
use Rattle.token_model.specs.declared.fault.Fault.{Fault}
use Rattle.token_model.specs.Remaining.{Remaining, whole, spelling, next, sees, fault_at, refusal, refuse, expect}
use Rattle.token_model.specs.Parsers.{Parser, ◌>>=◌, ◌>>◌, ◌<$>◌, pure, value_of}
use Rattle.clp_grammar.specs.Grammar.{clause}
use Rattle.row_grammar.specs.Row.{row_to_show}
use Rattle.map_model.specs.declared.step.Step.{Step}
use Rattle.map_model.specs.declared.step.Step.TheVariants.{Define, Unfold, Fold, DeleteFalse, Merge, Add, Drop, Project, Equate}
use Rattle.script_grammar.specs.Fields.{word_or, word, number_within, number32, predicate, listed}
use Rattle.script_grammar.specs.Certificates.{shown, all_shown}

-- how many steps a script may have
abbrev pub max_steps : ℕ
max_steps = 100000

-- `map script 1.`
unfoldable pub version_line : Parser Remaining (Unit {0})
version_line = do
  word_or NoVersion (codes "map")
  word_or NoVersion (codes "script")
  number_within 1 1 Version
  expect l.End

-- ---- what follows the word of a step, up to and with its end

-- a clause, whose end is that of the step: its tokens and grammar come first, and then what it stands for
unfoldable pub define_fields : Parser Remaining Step
define_fields = Define <$> clause

unfoldable pub unfold_fields : Parser Remaining Step
unfold_fields = do
  id ← number32
  word rule.At
  position ← number32
  expect l.End
  pure (Unfold id position)

unfoldable pub fold_fields : Parser Remaining Step
fold_fields = do
  id ← number32
  word rule.At
  at ← listed number32
  word rule.By
  by ← predicate
  word rule.With
  images ← listed number32
  word rule.Keep
  keep ← listed number32
  word rule.Show
  show ← all_shown
  expect l.End
  pure (Fold id at by images keep show)

unfoldable pub delete_fields : Parser Remaining Step
delete_fields = do
  id ← number32
  word rule.False
  word rule.Show
  show ← shown
  expect l.End
  pure (DeleteFalse id show)

unfoldable pub merge_fields : Parser Remaining Step
merge_fields = do
  id ← number32
  word rule.At
  first ← number32
  expect l.Comma
  second ← number32
  expect l.End
  pure (Merge id first second)

unfoldable pub add_fields : Parser Remaining Step
add_fields = do
  id ← number32
  word rule.Row
  row ← row_to_show
  show ← shown
  expect l.End
  pure (Add id row show)

unfoldable pub drop_fields : Parser Remaining Step
drop_fields = do
  id ← number32
  word rule.Row
  row ← number32
  word rule.Show
  show ← shown
  expect l.End
  pure (Drop id row show)

unfoldable pub project_fields : Parser Remaining Step
project_fields = do
  id ← number32
  word rule.Var
  var ← number32
  expect l.End
  pure (Project id var)

unfoldable pub equate_fields : Parser Remaining Step
equate_fields = do
  id ← number32
  word rule.Var
  var ← number32
  word rule.To
  to ← number32
  word rule.Show
  show ← shown
  expect l.End
  pure (Equate id var to show)

-- ---- one step

-- the rule whose word comes next
unfoldable pub rule_ahead : Remaining → Option RuleWord
rule_ahead r = if sees l.Name r then rule_case (spelling r) else None

-- what follows the word of a rule, where a step begins with it
abbrev pub fields_by : RuleWord → Option (Parser Remaining Step)
fields_by rule.Define = Some define_fields
fields_by rule.Unfold = Some unfold_fields
fields_by rule.Fold = Some fold_fields
fields_by rule.Delete = Some delete_fields
fields_by rule.Merge = Some merge_fields
fields_by rule.Add = Some add_fields
fields_by rule.Drop = Some drop_fields
fields_by rule.Project = Some project_fields
fields_by rule.Equate = Some equate_fields
fields_by _ = None

-- the same of the word that comes next, if it is one of a rule
abbrev pub fields_of : Option RuleWord → Option (Parser Remaining Step)
fields_of None = None
fields_of (Some found) = fields_by found

abbrev pub step_by : Option (Parser Remaining Step) → Parser Remaining Step
step_by None = refuse
step_by (Some fields) = λ r. fields (next r)

unfoldable pub step : Parser Remaining Step
step = λ r. step_by (fields_of (rule_ahead r)) r

-- ---- scripts

abbrev pub too_many_by : Option (Parser Remaining Step) → Remaining → Fault
too_many_by None r = refusal r
too_many_by (Some fields) r = fault_at TooMany r

-- why no step may begin here, where there are as many as may be
unfoldable pub past_limit : Remaining → Fault
past_limit r = too_many_by (fields_of (rule_ahead r)) r

-- this many more steps at most, to the end of the text
unfoldable pub steps_from : ℕ → List Step → Parser Remaining (List Step)
steps_from zero found = λ r. if sees l.Finish r then Ok (found, r) else Err (past_limit r)
steps_from (suc n) found = λ r. if sees l.Finish r then Ok (found, r) else (do s ← step; steps_from n (found ++ s ∷ [])) r

-- nothing, where the text is in UTF-8
abbrev pub unless_fault : {A : Type 0} → Option Fault → Result A Fault → Result A Fault
unless_fault None outcome = outcome
unless_fault (Some f) outcome = Err f

-- the steps that a text is, or its first fault
unfoldable pub script : List ℕ → Result (List Step) Fault
script text = unless_fault (not_utf8 text) (value_of ((version_line >> steps_from max_steps []) (whole text)))

-- the end of a text that is one line
abbrev pub finish : Step → Parser Remaining (Option Step)
finish s = λ r. if sees l.Finish r then Ok (Some s, r) else Err (refusal r)

-- the step that a line is, none where it is white and comments, or its first fault
unfoldable pub line : List ℕ → Result (Option Step) Fault
line text = unless_fault (not_utf8 text) (value_of (line_of (whole text)))
  where
    line_of : Parser Remaining (Option Step)
    line_of = λ r. if sees l.Finish r then Ok (None, r) else (step >>= finish) r
