-- Steps, scripts and lines are read the same from texts of the same tokens.
use Rattle.std.proofs.Common.{◌≡◌, ℕ, zero, suc, Bool, true, false, ◌&&◌, List, [], ◌∷◌, ◌++◌, codes, nat_eq, if◌then◌else◌, Some, None, Result, Ok, Err, refl, ap, ◌∙◌, sym, subst}
use Rattle.std.specs.Prelude.{Option}
use Rattle.std.specs.Option.{option_or}
use Rattle.std.specs.Str.{bytes_eq}
use Rattle.case_table.specs.declared.rule_word.RuleWord.{RuleWord}
use Rattle.case_table.specs.declared.rule_word.RuleWord.TheVariants as rule
use Rattle.case_table.specs.Rules.{rule_case}
use Rattle.clp_model.specs.Clauses.{Row}
use Rattle.clp_model.specs.declared.predicate.Pred.{Pred}
use Rattle.token_model.specs.declared.token.Lexeme.{Lexeme}
use Rattle.token_model.specs.declared.token.Lexeme.TheVariants as l
use Rattle.token_model.specs.declared.fault.Kind.TheVariants.{TooMany, NoVersion, Version, BadVariable, BadNumber}
use Rattle.token_model.specs.declared.fault.Fault.{Fault}
use Rattle.token_model.specs.Parsers.{Outcome, Parser, ◌>>=◌, ◌>>◌, pure, value_of}
use Rattle.token_model.specs.Remaining as token
use Rattle.token_model.specs.Remaining.{Remaining, whole, lexeme, spelling, next, sees, fault_at, refuse, expect}
use Rattle.token_cursor.specs.Utf8.{not_utf8}
use Rattle.clp_grammar.specs.declared.expression.Expression.{Expression, Number, Variable, Node', Row_of-Expression, end_of-Expression, more_of-Expression}
use Rattle.clp_grammar.specs.declared.draft.Relation.{Relation}
use Rattle.clp_grammar.specs.declared.draft.Comparison.{Comparison}
use Rattle.clp_grammar.specs.Input as input
use Rattle.clp_grammar.specs.Input.{Input, start, max_open, passed}
use Rattle.clp_grammar.specs.Expressions.{expression}
use Rattle.clp_grammar.specs.Goals.{relation_of, comparison_by, comparison}
use Rattle.clp_grammar.specs.Evaluation.{with_value, row_of}
use Rattle.clp_grammar.specs.Grammar.{clause}
use Rattle.row_grammar.specs.Row.{variable_numbers, number_at, variables_fault, parts_fault, parts_fault_of, sides_fault, show_word, compared_to_show, row_over, meant, row_to_show}
use Rattle.row_grammar.proofs.Parts.{variables_fault_node}
use Rattle.map_model.specs.declared.shown.Shown.{Shown}
use Rattle.map_model.specs.declared.shown.Shows.{Shows}
use Rattle.map_model.specs.declared.step.Step.{Step}
use Rattle.map_model.specs.declared.step.Step.TheVariants.{Define, Unfold, Fold, DeleteFalse, Merge, Add, Drop, Project, Equate}
use Rattle.script_grammar.specs.Fields.{max_field, word_or, word, number_within, number32, predicate, listed}
use Rattle.script_grammar.specs.Certificates.{shown, all_shown}
use Rattle.script_grammar.specs.Script.{max_steps, version_line, define_fields, unfold_fields, fold_fields, delete_fields, merge_fields, add_fields, drop_fields, project_fields, equate_fields, rule_ahead, fields_of, step_by, step, too_many_by, past_limit, steps_from, unless_fault, script, finish, line}
use Rattle.space_laws.specs.Same.{Matches, ReadsAlike}
use Rattle.space_laws.specs.Moved.{moved_fault, moved_result, moved_head, moved, moved_parts, moved_comparison}
use Rattle.space_laws.proofs.Meaning.{moved_option, or_moved, unless_moved, row_moved}
use Rattle.space_laws.proofs.Reading.{SameInput, Alike, SameRule, unplaced, alike_then, same_passed, by_lexeme, pure_same as same_value, refuse_same, refusal_same, spelling_same as same_spelling, matches_next, matches_sees, fault_same, token_refusal_same}
use Rattle.space_laws.proofs.Rules.{expression_same}
use Rattle.space_laws.proofs.Clauses.{related_same, clause_same}
use Rattle.space_laws.proofs.Places.{same_result}
use Rattle.script_space_laws.specs.Laws.{StepsAreTheSame, ScriptsAreTheSame, LinesAreTheSame, SpacesChangeNoScript, SpacesChangeNoLine}
use Rattle.script_space_laws.proofs.Reading.{SameParser, then_same, pure_same, by_same, expect_same, spelling_same, word_or_same, word_same, number_same, numbers_same, predicate_same, shown_same, all_shown_same}

module _ (to : ℕ → ℕ) where
  -- ---- rows

  comparison_same : (more : ℕ) → SameRule to (moved_comparison to) (comparison more) (comparison more)
  unfolding comparison
  comparison_same more i j h =
      alike_then to (moved to) (moved_comparison to) (expression more i) (expression more j) (λ x k. comparison_by more x (relation_of (lexeme k.remaining)) k) (λ y m. comparison_by more y (relation_of (lexeme m.remaining)) m) (expression_same to more i j h) (λ x y s k m g.
      by_lexeme to (moved_comparison to) (λ c. comparison_by more x (relation_of c)) (λ c. comparison_by more y (relation_of c)) k m g (λ c. go x y s k m g (relation_of c)))
    where
      go : (x y : Expression) → y ≡ moved to x → (k m : Input) → SameInput to k m → (o : Option Relation) → Alike to (moved_comparison to) (comparison_by more x o k) (comparison_by more y o m)
      go x y s k m g (Some relation) = related_same to more x y relation s k m g
      go x y s k m g None = refuse_same to {A = Comparison} (moved_comparison to) more k m g

  show_word_same : SameRule to unplaced show_word show_word
  unfolding show_word
  show_word_same i j h =
      subst (λ (t : Bool). Alike {A = Unit {0}} to unplaced (if seen i then Ok (tt, passed i) else Err (input.refusal max_open i.remaining)) (if t then Ok (tt, passed j) else Err (input.refusal max_open j.remaining)))
      (ap (λ (t : Bool). t && bytes_eq (spelling i.remaining) (codes "show")) (matches_sees to l.Name i.remaining j.remaining h.remaining) ∙ ap (λ (z : List ℕ). input.sees l.Name j && bytes_eq z (codes "show")) (sym (same_spelling to i j h)))
      (go (seen i))
    where
      seen : Input → Bool
      seen i = input.sees l.Name i && bytes_eq (spelling i.remaining) (codes "show")

      go : (t : Bool) → Alike {A = Unit {0}} to unplaced (if t then Ok (tt, passed i) else Err (input.refusal max_open i.remaining)) (if t then Ok (tt, passed j) else Err (input.refusal max_open j.remaining))
      go true = (refl, same_passed to i j h)
      go false = refusal_same to max_open i.remaining j.remaining h.remaining

  compared_same : SameRule to (moved_comparison to) compared_to_show compared_to_show
  unfolding compared_to_show
  compared_same i j h =
      alike_then to (moved_comparison to) (moved_comparison to) (comparison max_open i) (comparison max_open j) (λ c. show_word >> pure c) (λ d. show_word >> pure d) (comparison_same max_open i j h) (λ c d s.
      λ k m g. alike_then to {A = Unit {0}} unplaced (moved_comparison to) (show_word k) (show_word m) (λ u. pure c) (λ u. pure d) (show_word_same k m g) (λ u v t. same_value to (moved_comparison to) c d s))

  module _ (numbers : List ℕ) where
    mutual
      unfolding moved variables_fault

      variables_moved : (x : Expression) → variables_fault numbers (moved to x) ≡ moved_option to (variables_fault numbers x)
      variables_moved (Number place value) = refl
      variables_moved (Variable place n) = go (nat_eq (number_at numbers n) 0)
        where
          go : (t : Bool) → (if t then Some (record { left = to place; kind = BadVariable }) else None) ≡ moved_option to (if t then Some (record { left = place; kind = BadVariable }) else None)
          go true = refl
          go false = refl
      variables_moved (Node' place h shape parts) = variables_fault_node numbers (to place) (moved_head to h) (moved_parts to parts) ∙ parts_moved parts

      parts_moved : {k : _} (parts : Row_of-Expression k) → parts_fault_of numbers (moved_parts to parts) ≡ moved_option to (parts_fault numbers parts)
      parts_moved end_of-Expression = refl
      parts_moved (more_of-Expression part parts) = or_moved to (variables_fault numbers (moved to part)) (parts_fault_of numbers (moved_parts to parts)) (variables_fault numbers part) (parts_fault numbers parts) (variables_moved part) (parts_moved parts)

    row_over_moved : (c : Comparison) → row_over numbers (moved_comparison to c) ≡ moved_result to (row_over numbers c)
    unfolding row_over sides_fault
    row_over_moved c =
        unless_moved to (option_or (variables_fault numbers (moved to c.first)) (variables_fault numbers (moved to c.second))) (option_or (variables_fault numbers c.first) (variables_fault numbers c.second)) (row_of (number_at numbers) (moved_comparison to c)) (row_of (number_at numbers) c)
        (or_moved to (variables_fault numbers (moved to c.first)) (variables_fault numbers (moved to c.second)) (variables_fault numbers c.first) (variables_fault numbers c.second) (variables_moved c.first) (variables_moved c.second))
        (row_moved to (number_at numbers) c)

  meant_same : (o u : Outcome Input Comparison) → Alike to (moved_comparison to) o u → ReadsAlike to (meant o) (meant u)
  meant_same (Ok p) (Ok q) h =
      subst (λ (z : Result Row Fault). ReadsAlike to (with_value (row_over (variable_numbers p.1.names) p.0) (λ row. Ok (row, p.1.remaining))) (with_value z (λ row. Ok (row, q.1.remaining))))
      (sym (ap (λ (ns : List (List ℕ)). row_over (variable_numbers ns) q.0) (sym h.1.names) ∙ (ap (row_over (variable_numbers p.1.names)) h.0 ∙ row_over_moved (variable_numbers p.1.names) p.0)))
      (go (row_over (variable_numbers p.1.names) p.0))
    where
      go : (z : Result Row Fault) → ReadsAlike to (with_value z (λ row. Ok (row, p.1.remaining))) (with_value (moved_result to z) (λ row. Ok (row, q.1.remaining)))
      go (Ok row) = (refl, h.1.remaining)
      go (Err f) = refl
  meant_same (Err e) (Err f) h = h
  meant_same (Ok p) (Err f) h = absurd h
  meant_same (Err e) (Ok q) h = absurd h

  row_same : SameParser to row_to_show
  unfolding row_to_show
  row_same r s h = meant_same (compared_to_show (start r)) (compared_to_show (start s)) (compared_same (start r) (start s) (record { names = refl; remaining = h }))

  -- ---- fields

  number_then : {A : Type 0} (f : ℕ → Parser Remaining A) → ((n : ℕ) → SameParser to (f n)) → SameParser to (number32 >>= f)
  number_then f same = then_same to number32 f (number_same to 0 max_field BadNumber) same

  word_then : {A : Type 0} (wanted : RuleWord) (p : Parser Remaining A) → SameParser to p → SameParser to (word wanted >> p)
  word_then wanted p same = then_same to {A = Unit {0}} (word wanted) (λ u. p) (word_same to wanted) (λ u. same)

  expect_then : {A : Type 0} (wanted : Lexeme) (p : Parser Remaining A) → SameParser to p → SameParser to (expect wanted >> p)
  expect_then wanted p same = then_same to {A = Unit {0}} (expect wanted) (λ u. p) (expect_same to wanted) (λ u. same)

  abbrev ended : Step → Parser Remaining Step
  ended s = expect l.End >> pure s

  ended_same : (s : Step) → SameParser to (ended s)
  ended_same s = expect_then l.End (pure s) (pure_same to s)

  shown_then : (f : Shown → Step) → SameParser to (shown >>= (λ show. ended (f show)))
  shown_then f = then_same to shown (λ show. ended (f show)) (shown_same to) (λ show. ended_same (f show))

  numbers_then : {A : Type 0} (f : List ℕ → Parser Remaining A) → ((ns : List ℕ) → SameParser to (f ns)) → SameParser to (listed number32 >>= f)
  numbers_then f same = then_same to (listed number32) f (numbers_same to) same

  define_same : SameParser to define_fields
  unfolding define_fields
  define_same = then_same to clause (λ source. pure (Define source)) (clause_same to) (λ source. pure_same to (Define source))

  unfold_same : SameParser to unfold_fields
  unfolding unfold_fields
  unfold_same =
      number_then (λ id. word rule.At >> (number32 >>= (λ position. ended (Unfold id position)))) (λ id.
      word_then rule.At (number32 >>= (λ position. ended (Unfold id position))) (number_then (λ position. ended (Unfold id position)) (λ position. ended_same (Unfold id position))))

  fold_same : SameParser to fold_fields
  unfolding fold_fields
  fold_same = number_then behind_id (λ id. word_then rule.At (listed number32 >>= behind_at id) (numbers_then (behind_at id) (λ at.
      word_then rule.By (predicate >>= behind_by id at) (then_same to predicate (behind_by id at) (predicate_same to) (λ by.
      word_then rule.With (listed number32 >>= behind_with id at by) (numbers_then (behind_with id at by) (λ images.
      word_then rule.Keep (listed number32 >>= behind_keep id at by images) (numbers_then (behind_keep id at by images) (λ keep.
      word_then rule.Show (all_shown >>= behind_show id at by images keep) (then_same to all_shown (behind_show id at by images keep) (all_shown_same to) (λ show. ended_same (Fold id at by images keep show))))))))))))
    where
      behind_show : ℕ → List ℕ → Pred → List ℕ → List ℕ → Shows → Parser Remaining Step
      behind_show id at by images keep show = ended (Fold id at by images keep show)

      behind_keep : ℕ → List ℕ → Pred → List ℕ → List ℕ → Parser Remaining Step
      behind_keep id at by images keep = word rule.Show >> (all_shown >>= behind_show id at by images keep)

      behind_with : ℕ → List ℕ → Pred → List ℕ → Parser Remaining Step
      behind_with id at by images = word rule.Keep >> (listed number32 >>= behind_keep id at by images)

      behind_by : ℕ → List ℕ → Pred → Parser Remaining Step
      behind_by id at by = word rule.With >> (listed number32 >>= behind_with id at by)

      behind_at : ℕ → List ℕ → Parser Remaining Step
      behind_at id at = word rule.By >> (predicate >>= behind_by id at)

      behind_id : ℕ → Parser Remaining Step
      behind_id id = word rule.At >> (listed number32 >>= behind_at id)

  delete_same : SameParser to delete_fields
  unfolding delete_fields
  delete_same =
      number_then (λ id. word rule.False >> (word rule.Show >> (shown >>= (λ show. ended (DeleteFalse id show))))) (λ id.
      word_then rule.False (word rule.Show >> (shown >>= (λ show. ended (DeleteFalse id show)))) (word_then rule.Show (shown >>= (λ show. ended (DeleteFalse id show))) (shown_then (λ show. DeleteFalse id show))))

  merge_same : SameParser to merge_fields
  unfolding merge_fields
  merge_same =
      number_then (λ id. word rule.At >> (number32 >>= (λ first. expect l.Comma >> (number32 >>= (λ second. ended (Merge id first second)))))) (λ id.
      word_then rule.At (number32 >>= (λ first. expect l.Comma >> (number32 >>= (λ second. ended (Merge id first second)))))
      (number_then (λ first. expect l.Comma >> (number32 >>= (λ second. ended (Merge id first second)))) (λ first.
      expect_then l.Comma (number32 >>= (λ second. ended (Merge id first second))) (number_then (λ second. ended (Merge id first second)) (λ second. ended_same (Merge id first second))))))

  add_same : SameParser to add_fields
  unfolding add_fields
  add_same =
      number_then (λ id. word rule.Row >> (row_to_show >>= (λ row. shown >>= (λ show. ended (Add id row show))))) (λ id.
      word_then rule.Row (row_to_show >>= (λ row. shown >>= (λ show. ended (Add id row show))))
      (then_same to row_to_show (λ row. shown >>= (λ show. ended (Add id row show))) row_same (λ row. shown_then (λ show. Add id row show))))

  drop_same : SameParser to drop_fields
  unfolding drop_fields
  drop_same =
      number_then (λ id. word rule.Row >> (number32 >>= (λ row. word rule.Show >> (shown >>= (λ show. ended (Drop id row show)))))) (λ id.
      word_then rule.Row (number32 >>= (λ row. word rule.Show >> (shown >>= (λ show. ended (Drop id row show)))))
      (number_then (λ row. word rule.Show >> (shown >>= (λ show. ended (Drop id row show)))) (λ row.
      word_then rule.Show (shown >>= (λ show. ended (Drop id row show))) (shown_then (λ show. Drop id row show)))))

  project_same : SameParser to project_fields
  unfolding project_fields
  project_same =
      number_then (λ id. word rule.Var >> (number32 >>= (λ var. ended (Project id var)))) (λ id.
      word_then rule.Var (number32 >>= (λ var. ended (Project id var))) (number_then (λ var. ended (Project id var)) (λ var. ended_same (Project id var))))

  equate_same : SameParser to equate_fields
  unfolding equate_fields
  equate_same =
      number_then (λ id. word rule.Var >> (number32 >>= (λ var. word rule.To >> (number32 >>= (λ other. word rule.Show >> (shown >>= (λ show. ended (Equate id var other show)))))))) (λ id.
      word_then rule.Var (number32 >>= (λ var. word rule.To >> (number32 >>= (λ other. word rule.Show >> (shown >>= (λ show. ended (Equate id var other show)))))))
      (number_then (λ var. word rule.To >> (number32 >>= (λ other. word rule.Show >> (shown >>= (λ show. ended (Equate id var other show)))))) (λ var.
      word_then rule.To (number32 >>= (λ other. word rule.Show >> (shown >>= (λ show. ended (Equate id var other show)))))
      (number_then (λ other. word rule.Show >> (shown >>= (λ show. ended (Equate id var other show)))) (λ other.
      word_then rule.Show (shown >>= (λ show. ended (Equate id var other show))) (shown_then (λ show. Equate id var other show)))))))

  -- ---- steps

  rule_same : (r s : Remaining) → Matches to r s → rule_ahead r ≡ rule_ahead s
  unfolding rule_ahead
  rule_same r s h =
      ap (λ (t : Bool). if t then rule_case (spelling r) else None) (matches_sees to l.Name r s h) ∙ ap (λ (z : List ℕ). if sees l.Name s then rule_case z else None) (spelling_same to r s h)

  -- behind the word of a step
  passed_then : (fields : Parser Remaining Step) → SameParser to fields → SameParser to (step_by (Some fields))
  passed_then fields same r s h = same (next r) (next s) (matches_next to r s h)

  no_step : SameParser to (step_by None)
  no_step r s h = token_refusal_same to r s h

  by_rule : (o : Option RuleWord) → SameParser to (step_by (fields_of o))
  by_rule None = no_step
  by_rule (Some rule.Define) = passed_then define_fields define_same
  by_rule (Some rule.Unfold) = passed_then unfold_fields unfold_same
  by_rule (Some rule.Fold) = passed_then fold_fields fold_same
  by_rule (Some rule.Delete) = passed_then delete_fields delete_same
  by_rule (Some rule.Merge) = passed_then merge_fields merge_same
  by_rule (Some rule.Add) = passed_then add_fields add_same
  by_rule (Some rule.Drop) = passed_then drop_fields drop_same
  by_rule (Some rule.Project) = passed_then project_fields project_same
  by_rule (Some rule.Equate) = passed_then equate_fields equate_same
  by_rule (Some _) = no_step

  step_same : SameParser to step
  unfolding step
  step_same r s h = by_same to (rule_ahead r) (rule_ahead s) (λ o. step_by (fields_of o)) r s (rule_same r s h) (λ o. by_rule o r s h)

  -- ---- scripts

  past_limit_same : (r s : Remaining) → Matches to r s → past_limit s ≡ moved_fault to (past_limit r)
  unfolding past_limit
  past_limit_same r s h = ap (λ (o : Option RuleWord). too_many_by (fields_of o) s) (sym (rule_same r s h)) ∙ go (fields_of (rule_ahead r))
    where
      go : (o : Option (Parser Remaining Step)) → too_many_by o s ≡ moved_fault to (too_many_by o r)
      go None = token_refusal_same to r s h
      go (Some fields) = fault_same to TooMany r s h

  steps_same : (n : ℕ) (found : List Step) → SameParser to (steps_from n found)
  unfolding steps_from
  steps_same zero found = λ r s h. by_same to (sees l.Finish r) (sees l.Finish s) (λ t r. if t then Ok (found, r) else Err (past_limit r)) r s (matches_sees to l.Finish r s h) (λ t. go r s h t)
    where
      go : (r s : Remaining) → Matches to r s → (t : Bool) → ReadsAlike to (if t then Ok (found, r) else Err (past_limit r)) (if t then Ok (found, s) else Err (past_limit s))
      go r s h true = (refl, h)
      go r s h false = past_limit_same r s h
  steps_same (suc n) found = λ r s h. by_same to (sees l.Finish r) (sees l.Finish s) (λ t r. if t then Ok (found, r) else (step >>= (λ s. steps_from n (found ++ s ∷ []))) r) r s (matches_sees to l.Finish r s h) (λ t. go (λ s. steps_same n (found ++ s ∷ [])) r s h t)
    where
      go : ((s : Step) → SameParser to (steps_from n (found ++ s ∷ []))) → (r s : Remaining) → Matches to r s → (t : Bool)
          → ReadsAlike to (if t then Ok (found, r) else (step >>= (λ s. steps_from n (found ++ s ∷ []))) r) (if t then Ok (found, s) else (step >>= (λ s. steps_from n (found ++ s ∷ []))) s)
      go rest r s h true = (refl, h)
      go rest r s h false = then_same to step (λ s. steps_from n (found ++ s ∷ [])) step_same rest r s h

  version_same : SameParser to version_line
  unfolding version_line
  version_same =
      then_same to {A = Unit {0}} (word_or NoVersion (codes "map")) (λ u. word_or NoVersion (codes "script") >> (number_within 1 1 Version >> expect l.End)) (word_or_same to NoVersion (codes "map")) (λ u.
      then_same to {A = Unit {0}} (word_or NoVersion (codes "script")) (λ v. number_within 1 1 Version >> expect l.End) (word_or_same to NoVersion (codes "script")) (λ v.
      then_same to (number_within 1 1 Version) (λ n. expect l.End) (number_same to 1 1 Version) (λ n. expect_same to l.End)))

  read_value : {A : Type 0} (o u : Outcome Remaining A) → ReadsAlike to o u → value_of u ≡ moved_result to (value_of o)
  read_value {A} (Ok p) (Ok q) h = ap (λ (a : A). Ok a) h.0
  read_value (Err e) (Err f) h = ap (λ (g : Fault). Err g) h
  read_value (Ok p) (Err f) h = absurd h
  read_value (Err e) (Ok q) h = absurd h

  read_whole : {A : Type 0} (text : List ℕ) (o : Result A Fault) → not_utf8 text ≡ None → unless_fault (not_utf8 text) o ≡ o
  read_whole text o h = ap (λ (f : Option Fault). unless_fault f o) h

  whole_same : {A : Type 0} (p : Parser Remaining A) → SameParser to p → (text other : List ℕ) → not_utf8 text ≡ None → not_utf8 other ≡ None → Matches to (whole text) (whole other)
      → unless_fault (not_utf8 other) (value_of (p (whole other))) ≡ moved_result to (unless_fault (not_utf8 text) (value_of (p (whole text))))
  whole_same p same text other e f h =
      read_whole other (value_of (p (whole other))) f ∙ (read_value (p (whole text)) (p (whole other)) (same (whole text) (whole other) h) ∙ ap (moved_result to) (sym (read_whole text (value_of (p (whole text))) e)))

  pub script_same : (text other : List ℕ) → not_utf8 text ≡ None → not_utf8 other ≡ None → Matches to (whole text) (whole other) → script other ≡ moved_result to (script text)
  unfolding script
  script_same = whole_same (version_line >> steps_from max_steps []) (then_same to {A = Unit {0}} version_line (λ u. steps_from max_steps []) version_same (λ u. steps_same max_steps []))

  finish_same : (s : Step) → SameParser to (finish s)
  finish_same s r q h = by_same to (sees l.Finish r) (sees l.Finish q) (λ t r. if t then Ok (Some s, r) else Err (token.refusal r)) r q (matches_sees to l.Finish r q h) go
    where
      go : (t : Bool) → ReadsAlike to (if t then Ok (Some s, r) else Err (token.refusal r)) (if t then Ok (Some s, q) else Err (token.refusal q))
      go true = (refl, h)
      go false = token_refusal_same to r q h

  abbrev line_by : Parser Remaining (Option Step)
  line_by = λ r. if sees l.Finish r then Ok (None, r) else (step >>= finish) r

  line_by_same : SameParser to line_by
  line_by_same r s h = by_same to (sees l.Finish r) (sees l.Finish s) (λ t r. if t then Ok (None, r) else (step >>= finish) r) r s (matches_sees to l.Finish r s h) go
    where
      go : (t : Bool) → ReadsAlike {A = Option Step} to (if t then Ok (None, r) else (step >>= finish) r) (if t then Ok (None, s) else (step >>= finish) s)
      go true = (refl, h)
      go false = then_same to step finish step_same finish_same r s h

  pub line_same : (text other : List ℕ) → not_utf8 text ≡ None → not_utf8 other ≡ None → Matches to (whole text) (whole other) → line other ≡ moved_result to (line text)
  unfolding line
  line_same = whole_same line_by line_by_same

pub steps_are_the_same : StepsAreTheSame
steps_are_the_same to = step_same to

pub scripts_are_the_same : ScriptsAreTheSame
scripts_are_the_same to text other e f h = script_same to text other e f h

pub lines_are_the_same : LinesAreTheSame
lines_are_the_same to text other e f h = line_same to text other e f h

pub spaces_change_no_script : SpacesChangeNoScript
spaces_change_no_script text other e f h = same_result (whole text) (whole other) (script text) (script other) h (λ to m. script_same to text other e f m)

pub spaces_change_no_line : SpacesChangeNoLine
spaces_change_no_line text other e f h = same_result (whole text) (whole other) (line text) (line other) h (λ to m. line_same to text other e f m)
