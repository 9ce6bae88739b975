-- Steps and scripts that are read are in range.
use Rattle.std.proofs.Common.{ℕ, zero, suc, ◌+◌, ◌≤◌, List, [], ◌∷◌, ◌++◌, length, arith, length-append, Option, Some, None, Ok, Err}
use Rattle.std.proofs.lemmas.List.Elements.{All-nil, All-push}
use Rattle.std.specs.Prelude.{All, if◌then◌else◌}
use Rattle.case_table.specs.declared.rule_word.RuleWord.{RuleWord}
use Rattle.case_table.specs.declared.rule_word.RuleWord.TheVariants as rule
use Rattle.token_model.specs.declared.fault.Fault.{Fault}
use Rattle.token_model.specs.declared.token.Lexeme.TheVariants as l
use Rattle.token_model.specs.Remaining.{Remaining, whole, next, sees, refusal, expect}
use Rattle.token_model.specs.Parsers.{Outcome, ◌>>=◌, ◌>>◌, pure, value_of}
use Rattle.token_cursor.specs.Utf8.{not_utf8}
use Rattle.clp_grammar.specs.Grammar.{clause}
use Rattle.row_grammar.specs.Row.{row_to_show}
use Rattle.map_model.specs.declared.step.Step.{Step}
use Rattle.map_model.specs.declared.step.Step.TheVariants.{Define, Unfold, Fold, DeleteFalse, Merge, Add, Drop, Project, Equate}
use Rattle.script_grammar.specs.Fields.{word, number32, listed}
use Rattle.script_grammar.specs.Script.{define_fields, unfold_fields, fold_fields, delete_fields, merge_fields, add_fields, drop_fields, project_fields, equate_fields, rule_ahead, fields_by, fields_of, step_by, step, version_line, steps_from, past_limit, max_steps, script, line, finish, unless_fault}
use Rattle.script_grammar.specs.ScriptText.{IsField, IsInRange}
use Rattle.script_laws.specs.Laws.{WhatIsReadIsARow, WhatIsReadIsAStep, WhatIsReadIsAScript}
use Rattle.script_laws.proofs.Outcomes.{IfOk, taken, Gives, gives_then, gives_this, gives_any, gives_either}
use Rattle.script_laws.proofs.ReadCertificates.{gives_shown}
use Rattle.script_laws.proofs.ReadLists.{gives_field, gives_listed, gives_predicate, gives_all_shown}
use Rattle.script_laws.proofs.ReadRows.{gives_row}

pub row_is : WhatIsReadIsARow
row_is r s row e = taken _ (row_to_show r) (row, s) (gives_row.is r) e

-- ---- the fields of a step

gives_fields : Gives (All IsField) (listed number32)
gives_fields = gives_listed IsField number32 gives_field

ended : (s : Step) → IsInRange s → Gives IsInRange (expect l.End >> pure s)
ended s h = gives_then _ (gives_any (expect l.End)) (λ _ _. gives_this s h)

unfold_sound : Gives IsInRange unfold_fields
unfolding unfold_fields
unfold_sound =
    gives_then _ gives_field (λ id i. gives_then _ (gives_any (word rule.At)) (λ _ _.
    gives_then _ gives_field (λ position p. ended (Unfold id position) ((i, p)))))

define_sound : Gives IsInRange define_fields
unfolding define_fields
define_sound = gives_then _ (gives_any clause) (λ source _. gives_this (Define source) tt)

fold_sound : Gives IsInRange fold_fields
unfolding fold_fields
fold_sound =
    gives_then _ gives_field (λ id i. gives_then _ (gives_any (word rule.At)) (λ _ _. gives_then _ gives_fields (λ at a. gives_then _ (gives_any (word rule.By)) (λ _ _.
    gives_then _ gives_predicate (λ by b. gives_then _ (gives_any (word rule.With)) (λ _ _. gives_then _ gives_fields (λ images w. gives_then _ (gives_any (word rule.Keep)) (λ _ _.
    gives_then _ gives_fields (λ keep k. gives_then _ (gives_any (word rule.Show)) (λ _ _.
    gives_then _ gives_all_shown (λ show s. ended (Fold id at by images keep show) (i, a, b, w, k, s))))))))))))

delete_sound : Gives IsInRange delete_fields
unfolding delete_fields
delete_sound =
    gives_then _ gives_field (λ id i. gives_then _ (gives_any (word rule.False)) (λ _ _. gives_then _ (gives_any (word rule.Show)) (λ _ _.
    gives_then _ gives_shown (λ show s. ended (DeleteFalse id show) ((i, s))))))

merge_sound : Gives IsInRange merge_fields
unfolding merge_fields
merge_sound =
    gives_then _ gives_field (λ id i. gives_then _ (gives_any (word rule.At)) (λ _ _. gives_then _ gives_field (λ first f. gives_then _ (gives_any (expect l.Comma)) (λ _ _.
    gives_then _ gives_field (λ second s. ended (Merge id first second) ((i, f, s)))))))

add_sound : Gives IsInRange add_fields
unfolding add_fields
add_sound =
    gives_then _ gives_field (λ id i. gives_then _ (gives_any (word rule.Row)) (λ _ _. gives_then _ gives_row (λ row r.
    gives_then _ gives_shown (λ show s. ended (Add id row show) ((i, r, s))))))

drop_sound : Gives IsInRange drop_fields
unfolding drop_fields
drop_sound =
    gives_then _ gives_field (λ id i. gives_then _ (gives_any (word rule.Row)) (λ _ _. gives_then _ gives_field (λ row r. gives_then _ (gives_any (word rule.Show)) (λ _ _.
    gives_then _ gives_shown (λ show s. ended (Drop id row show) ((i, r, s)))))))

project_sound : Gives IsInRange project_fields
unfolding project_fields
project_sound =
    gives_then _ gives_field (λ id i. gives_then _ (gives_any (word rule.Var)) (λ _ _.
    gives_then _ gives_field (λ var v. ended (Project id var) ((i, v)))))

equate_sound : Gives IsInRange equate_fields
unfolding equate_fields
equate_sound =
    gives_then _ gives_field (λ id i. gives_then _ (gives_any (word rule.Var)) (λ _ _. gives_then _ gives_field (λ var v. gives_then _ (gives_any (word rule.To)) (λ _ _.
    gives_then _ gives_field (λ to t. gives_then _ (gives_any (word rule.Show)) (λ _ _.
    gives_then _ gives_shown (λ show s. ended (Equate id var to show) ((i, v, t, s)))))))))

-- ---- steps

gives_step : Gives IsInRange step
unfolding step
gives_step = record { is = λ r. of (rule_ahead r) r }
  where
    by : (w : RuleWord) (r : Remaining) → IfOk (λ (x : Step × Remaining). IsInRange x.0) (step_by (fields_by w) r)
    by rule.Define r = define_sound.is (next r)
    by rule.Fold r = fold_sound.is (next r)
    by rule.Unfold r = unfold_sound.is (next r)
    by rule.Delete r = delete_sound.is (next r)
    by rule.Merge r = merge_sound.is (next r)
    by rule.Add r = add_sound.is (next r)
    by rule.Drop r = drop_sound.is (next r)
    by rule.Project r = project_sound.is (next r)
    by rule.Equate r = equate_sound.is (next r)
    by _ r = tt

    of : (o : Option RuleWord) (r : Remaining) → IfOk (λ (x : Step × Remaining). IsInRange x.0) (step_by (fields_of o) r)
    of None r = tt
    of (Some w) r = by w r

-- ---- scripts

record AreSound (most : ℕ) (steps : List Step) : Type 0 where
  few : length steps ≤ most
  each : All IsInRange steps

gives_steps : (most turns : ℕ) (found : List Step) → length found + turns ≤ most → All IsInRange found → Gives (AreSound most) (steps_from turns found)
unfolding steps_from
gives_steps most zero found few each =
    gives_either (sees l.Finish) (pure found) (λ r. Err (past_limit r)) (gives_this found (record { few = omega arith; each = each })) (record { is = λ r. tt })
gives_steps most (suc n) found few each =
    gives_either (sees l.Finish) (pure found) (step >>= (λ s. steps_from n (found ++ s ∷ []))) (gives_this found (record { few = omega arith; each = each }))
    (gives_then (λ s. steps_from n (found ++ s ∷ [])) gives_step (λ s h. gives_steps most n (found ++ s ∷ []) (omega (arith, length-append found (s ∷ []))) (All-push IsInRange found s each h)))

-- the value that a whole text is read as
whole_ok : {A : Type 0} (P : A → Type 0) (fault : Option Fault) (outcome : Outcome Remaining A) → IfOk (λ (x : A × Remaining). P x.0) outcome → IfOk P (unless_fault fault (value_of outcome))
whole_ok P None (Ok x) h = h
whole_ok P None (Err e) h = tt
whole_ok P (Some f) outcome h = tt

pub script_is : WhatIsReadIsAScript
unfolding script
script_is text steps e =
    let parsed : Gives (AreSound max_steps) (version_line >> steps_from max_steps []) = gives_then _ (gives_any version_line) (λ _ _. gives_steps max_steps max_steps [] (omega arith) (All-nil IsInRange)) in
    let sound : AreSound max_steps steps = taken (AreSound max_steps) (script text) steps (whole_ok (AreSound max_steps) (not_utf8 text) ((version_line >> steps_from max_steps []) (whole text)) (parsed.is (whole text))) e in
    record { few = sound.few; in_range = sound.each }

-- ---- lines

IsInRangeIf : Option Step → Type 0
IsInRangeIf None = Unit {0}
IsInRangeIf (Some s) = IsInRange s

gives_finish : (s : Step) → IsInRange s → Gives IsInRangeIf (finish s)
unfolding IsInRangeIf
gives_finish s h = gives_either (sees l.Finish) (pure (Some s)) (λ r. Err (refusal r)) (gives_this (Some s) h) (record { is = λ r. tt })

gives_line : Gives IsInRangeIf (λ r. if sees l.Finish r then Ok (None, r) else (step >>= finish) r)
unfolding IsInRangeIf
gives_line = gives_either (sees l.Finish) (pure None) (step >>= finish) (gives_this None tt) (gives_then finish gives_step gives_finish)

pub step_is : WhatIsReadIsAStep
unfolding line IsInRangeIf
step_is text s e =
    let outcome = (if sees l.Finish (whole text) then Ok (None, whole text) else (step >>= finish) (whole text)) in
    taken IsInRangeIf (line text) (Some s) (whole_ok IsInRangeIf (not_utf8 text) outcome (gives_line.is (whole text))) e
