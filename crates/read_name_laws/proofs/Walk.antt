-- Scripts are read step by step: what a token keeps of what remains, a script keeps, and what holds of each clause, each row
-- and each name that is read holds of those of its steps.
use Rattle.std.proofs.Common.{◌≡◌, ℕ, zero, suc, ℤ, pos, Bool, true, false, List, [], ◌∷◌, ◌++◌, Option, Some, None, Result, Ok, Err, refl}
use Rattle.std.proofs.lemmas.Bool.{and_parts}
use Rattle.std.proofs.lemmas.List.Elements.{All-nil, All-push}
use Rattle.std.specs.Prelude.{All, codes, ◌&&◌, ◌||◌, nat_le, neg_ℤ, if◌then◌else◌}
use Rattle.std.specs.Str.{bytes_eq}
use Rattle.clp_model.specs.declared.predicate.Pred.{Pred}
use Rattle.clp_model.specs.Clauses.{Row}
use Rattle.token_model.specs.declared.token.Lexeme.{Lexeme}
use Rattle.token_model.specs.declared.token.Lexeme.TheVariants as l
use Rattle.token_model.specs.declared.fault.Fault.{Fault}
use Rattle.token_model.specs.declared.fault.Kind.{Kind}
use Rattle.token_model.specs.declared.fault.Kind.TheVariants.{BadNumber, NoVersion, Version}
use Rattle.token_model.specs.Numbers.{number_value}
use Rattle.token_model.specs.Parsers.{Parser, Outcome, and_then, ◌>>=◌, ◌>>◌, ◌<$>◌, pure, value_of}
use Rattle.token_model.specs.Remaining.{Remaining, whole, lexeme, left, spelling, next, after, sees, fault_at, refusal, eat, expect}
use Rattle.token_cursor.specs.Escapes.{name_by}
use Rattle.utf8_laws.proofs.Texts.{is_bad}
use Rattle.clause_store.specs.declared.source.SourceClause.{SourceClause}
use Rattle.clp_grammar.specs.declared.draft.Comparison.{Comparison}
use Rattle.clp_grammar.specs.Input as input
use Rattle.clp_grammar.specs.Input.{Input, max_open, start}
use Rattle.clp_grammar.specs.Goals.{comparison}
use Rattle.clp_grammar.specs.Evaluation.{with_value}
use Rattle.clp_grammar.specs.Grammar.{clause}
use Rattle.row_grammar.specs.Row.{show_word, compared_to_show, row_over, variable_numbers, meant, row_to_show}
use Rattle.case_table.specs.declared.rule_word.RuleWord.{RuleWord}
use Rattle.case_table.specs.declared.rule_word.RuleWord.TheVariants as rule
use Rattle.case_table.specs.Rules.{rule_case}
use Rattle.linear_model.specs.Certificates.{Part}
use Rattle.linear_model.specs.Chain.{multiplier_limit, part_of}
use Rattle.farkas_check.specs.declared.cert.Cert.TheVariants.{One, Two}
use Rattle.map_model.specs.declared.shown.Shown.TheVariants.{Find, Given}
use Rattle.map_model.specs.declared.shown.Shows.TheVariants as shows
use Rattle.map_model.specs.declared.step.Step.{Step}
use Rattle.map_model.specs.declared.step.Step.TheVariants.{Define, Unfold, Fold, DeleteFalse, Merge, Add, Drop, Project, Equate}
use Rattle.script_grammar.specs.Fields.{max_field, refusal_as, sees_word, word_or, word, number_within, number32, name, predicate, listed_from, listed_by, listed}
use Rattle.script_grammar.specs.Certificates as grammar
use Rattle.script_grammar.specs.Certificates.{multiplier, multipliers_from, shown}
use Rattle.script_grammar.specs.Script.{define_fields, unfold_fields, fold_fields, delete_fields, merge_fields, add_fields, drop_fields, project_fields, equate_fields, rule_ahead, fields_by, fields_of, step_by, step, past_limit, version_line, steps_from, max_steps}
use Rattle.read_name_laws.specs.Steps.{IsStepOf}
use Rattle.read_name_laws.proofs.Reading.{seen}

-- ---- what a parser keeps

-- what was read and what remains, if there was no fault
abbrev pub IfGiven : {A : Type 0} → (A → Remaining → Type 0) → Outcome Remaining A → Type 0
IfGiven P (Ok x) = P x.0 x.1
IfGiven P (Err e) = Unit {0}

-- where Q holds of what remains, it holds of what remains afterwards, and P of what was read
pub record Keeps {A : Type 0} (Q : Remaining → Type 0) (P : A → Type 0) (p : Parser Remaining A) : Type 0 where
  pub is : (r : Remaining) → Q r → IfGiven (λ x s. Q s × P x) (p r)

abbrev pub Any : {A : Type 0} → A → Type 0
Any a = Unit {0}

-- what remains, if there was no fault
abbrev pub Leaves : {A : Type 0} → (Remaining → Type 0) → Outcome Input A → Type 0
Leaves Q (Ok x) = Q x.1.remaining
Leaves Q (Err e) = Unit {0}

-- the row, if there was no fault
abbrev pub IfMade : (Row → Type 0) → Result Row Fault → Type 0
IfMade R (Ok row) = R row
IfMade R (Err e) = Unit {0}

-- Q is kept by each token that is no bad one, by clauses, of which C holds, and by comparisons, of whose rows R holds; N
-- holds of each name
pub record IsKept (Q : Remaining → Type 0) (C : SourceClause → Type 0) (R : Row → Type 0) (N : List ℕ → Type 0) : Type 0 where
  pub passes : (r : Remaining) → Q r → is_bad (lexeme r) ≡ false → Q (next r)
  pub names : (r : Remaining) → Q r → is_bad (lexeme r) ≡ false → N (name_by (lexeme r) (spelling r))
  pub clauses : Keeps Q C clause
  pub comparisons : (i : Input) → Q i.remaining → Leaves Q (comparison max_open i)
  pub rows : (numbers : List ℕ) (c : Comparison) → IfMade R (row_over numbers c)

not_bad : (wanted : Lexeme) (r : Remaining) → is_bad wanted ≡ false → sees wanted r ≡ true → is_bad (lexeme r) ≡ false
not_bad wanted r good e = rw (seen wanted r e) good

module _ (Q : Remaining → Type 0) where
  keeps_then : {A B : Type 0} {P : A → Type 0} {R : B → Type 0} {p : Parser Remaining A} (f : A → Parser Remaining B) → Keeps Q P p → ((a : A) → P a → Keeps Q R (f a)) → Keeps Q R (p >>= f)
  keeps_then {A} {P} {R} {p} f first second = record { is = λ r q. go (p r) (first.is r q) }
    where
      go : (o : Outcome Remaining A) → IfGiven (λ x s. Q s × P x) o → IfGiven (λ x s. Q s × R x) (and_then o f)
      go (Ok x) h = (second x.0 h.1).is x.1 h.0
      go (Err e) h = tt

  keeps_this : {A : Type 0} {P : A → Type 0} (a : A) → P a → Keeps Q P (pure a)
  keeps_this a h = record { is = λ r q. (q, h) }

  keeps_either : {A : Type 0} {P : A → Type 0} (test : Remaining → Bool) (p p' : Parser Remaining A) → Keeps Q P p → Keeps Q P p' → Keeps Q P (λ r. if test r then p r else p' r)
  keeps_either {P} test p p' h g = record { is = λ r q. go r q (test r) }
    where
      go : (r : Remaining) → Q r → (t : Bool) → IfGiven (λ x s. Q s × P x) (if t then p r else p' r)
      go r q true = h.is r q
      go r q false = g.is r q

-- ---- tokens

module _ (Q : Remaining → Type 0) (passes : (r : Remaining) → Q r → is_bad (lexeme r) ≡ false → Q (next r)) where
  keeps_expect : (wanted : Lexeme) → is_bad wanted ≡ false → Keeps Q Any (expect wanted)
  unfolding expect
  keeps_expect wanted good = record { is = λ r q. go r q (sees wanted r) refl }
    where
      go : (r : Remaining) → Q r → (t : Bool) → sees wanted r ≡ t → IfGiven {A = Unit {0}} (λ x s. Q s × Any x) (if t then Ok (tt, next r) else Err (refusal r))
      go r q true e = (passes r q (not_bad wanted r good e), tt)
      go r q false e = tt

  keeps_eat : (wanted : Lexeme) → is_bad wanted ≡ false → Keeps Q Any (eat wanted)
  unfolding after
  keeps_eat wanted good = record { is = λ r q. (go r q (sees wanted r) refl, tt) }
    where
      go : (r : Remaining) → Q r → (t : Bool) → sees wanted r ≡ t → Q (if t then next r else r)
      go r q true e = passes r q (not_bad wanted r good e)
      go r q false e = q

  keeps_word_or : (other : Kind) (wanted : List ℕ) → Keeps Q Any (word_or other wanted)
  unfolding word_or sees_word
  keeps_word_or other wanted = record { is = λ r q. go r q (sees_word wanted r) refl }
    where
      go : (r : Remaining) → Q r → (t : Bool) → sees_word wanted r ≡ t → IfGiven {A = Unit {0}} (λ x s. Q s × Any x) (if t then Ok (tt, next r) else Err (refusal_as other r))
      go r q true e = (passes r q (not_bad l.Name r refl (and_parts (sees l.Name r) (bytes_eq (spelling r) wanted) e).0), tt)
      go r q false e = tt

  keeps_word : (wanted : RuleWord) → Keeps Q Any (word wanted)
  keeps_word wanted = keeps_word_or _ _

  keeps_within : (low high : ℕ) (other : Kind) → Keeps Q Any (number_within low high other)
  unfolding number_within
  keeps_within low high other = record { is = λ r q. go r q (sees l.Number r) refl (number_value (spelling r)) (nat_le low (number_value (spelling r)) && nat_le (number_value (spelling r)) high) }
    where
      go : (r : Remaining) → Q r → (t : Bool) → sees l.Number r ≡ t → (n : ℕ) (u : Bool) → IfGiven (λ x s. Q s × Any x) (if t then (if u then Ok (n, next r) else Err (fault_at other r)) else Err (refusal r))
      go r q true e n true = (passes r q (not_bad l.Number r refl e), tt)
      go r q true e n false = tt
      go r q false e n u = tt

  keeps_field : Keeps Q Any number32
  keeps_field = keeps_within 0 max_field BadNumber

  -- ---- lists

  listed_from_keeps : {A : Type 0} (item : Parser Remaining A) → Keeps Q Any item → (turns : ℕ) (found : List A) → Keeps Q Any (listed_from item turns found)
  unfolding listed_from
  listed_from_keeps item keeps zero found = record { is = λ r q. tt }
  listed_from_keeps {A} item keeps (suc n) found =
      keeps_then Q _ keeps (λ x _. keeps_then Q (λ goes_on. if goes_on then listed_from item n (found ++ x ∷ []) else pure (found ++ x ∷ [])) (keeps_eat l.Comma refl) (λ goes_on _. by x goes_on (listed_from_keeps item keeps n (found ++ x ∷ []))))
    where
      by : (x : A) (goes_on : Bool) → Keeps Q Any (listed_from item n (found ++ x ∷ [])) → Keeps Q Any (if goes_on then listed_from item n (found ++ x ∷ []) else pure (found ++ x ∷ []))
      by x true h = h
      by x false h = keeps_this Q (found ++ x ∷ []) tt

  listed_by_keeps : {A : Type 0} (item : Parser Remaining A) → Keeps Q Any item → (is_empty : Bool) → Keeps Q Any (listed_by item is_empty)
  unfolding listed_by
  listed_by_keeps item keeps true = keeps_this Q [] tt
  listed_by_keeps item keeps false =
      keeps_then Q _ (record { is = λ r q. (listed_from_keeps item keeps (left r) []).is r q }) (λ found _. keeps_then Q _ (keeps_expect l.CloseSquare refl) (λ _ _. keeps_this Q found tt))

  keeps_listed : {A : Type 0} (item : Parser Remaining A) → Keeps Q Any item → Keeps Q Any (listed item)
  unfolding listed
  keeps_listed item keeps =
      keeps_then Q _ (keeps_expect l.OpenSquare refl) (λ _ _. keeps_then Q (listed_by item) (keeps_eat l.CloseSquare refl) (λ is_empty _. listed_by_keeps item keeps is_empty))

  -- ---- certificates

  keeps_multiplier : Keeps Q Any multiplier
  unfolding multiplier
  keeps_multiplier =
      keeps_then Q (λ is_negative. number_within 0 multiplier_limit BadNumber >>= (λ n. pure (if is_negative then neg_ℤ (pos n) else pos n))) (keeps_eat l.Minus refl)
      (λ is_negative _. keeps_then Q _ (keeps_within 0 multiplier_limit BadNumber) (λ n _. keeps_this Q (if is_negative then neg_ℤ (pos n) else pos n) tt))

  keeps_multipliers : (turns : ℕ) (found : List ℤ) → Keeps Q Any (multipliers_from turns found)
  unfolding multipliers_from
  keeps_multipliers zero found = record { is = λ r q. tt }
  keeps_multipliers (suc n) found =
      keeps_then Q _ keeps_multiplier (λ m _. keeps_then Q (λ goes_on. if goes_on then multipliers_from n (found ++ m ∷ []) else pure (found ++ m ∷ [])) (keeps_eat l.Comma refl) (λ goes_on _. by m goes_on (keeps_multipliers n (found ++ m ∷ []))))
    where
      by : (m : ℤ) (goes_on : Bool) → Keeps Q Any (multipliers_from n (found ++ m ∷ [])) → Keeps Q Any (if goes_on then multipliers_from n (found ++ m ∷ []) else pure (found ++ m ∷ []))
      by m true h = h
      by m false h = keeps_this Q (found ++ m ∷ []) tt

  keeps_part : Keeps Q Any grammar.part
  unfolding grammar.part
  keeps_part =
      keeps_then Q _ (keeps_expect l.OpenSquare refl) (λ _ _. keeps_then Q _ (record { is = λ r q. (keeps_multipliers (left r) []).is r q }) (λ found _.
      keeps_then Q _ (keeps_expect l.CloseSquare refl) (λ _ _. keeps_this Q (part_of found) tt)))

  keeps_certificate : Keeps Q Any grammar.certificate
  unfolding grammar.certificate
  keeps_certificate = keeps_then Q _ keeps_part (λ first _. keeps_then Q (λ has_second. if has_second then Two first <$> grammar.part else pure (One first)) (keeps_eat l.Over refl) (λ has_second _. by first has_second))
    where
      by : (first : Part) (has_second : Bool) → Keeps Q Any (if has_second then Two first <$> grammar.part else pure (One first))
      by first true = keeps_then Q _ keeps_part (λ second _. keeps_this Q (Two first second) tt)
      by first false = keeps_this Q (One first) tt

  keeps_shown : Keeps Q Any shown
  unfolding shown
  keeps_shown =
      keeps_either Q (sees l.Name) (word rule.Find >> pure Find) (Given <$> grammar.certificate)
      (keeps_then Q _ (keeps_word rule.Find) (λ _ _. keeps_this Q Find tt)) (keeps_then Q _ keeps_certificate (λ c _. keeps_this Q (Given c) tt))

  keeps_all_shown : Keeps Q Any grammar.all_shown
  unfolding grammar.all_shown
  keeps_all_shown =
      keeps_either Q (sees l.Name) (word rule.Find >> pure shows.Find) (shows.Each <$> listed shown)
      (keeps_then Q _ (keeps_word rule.Find) (λ _ _. keeps_this Q shows.Find tt)) (keeps_then Q _ (keeps_listed shown keeps_shown) (λ list _. keeps_this Q (shows.Each list) tt))

  keeps_version : Keeps Q Any version_line
  unfolding version_line
  keeps_version =
      keeps_then Q _ (keeps_word_or NoVersion _) (λ _ _. keeps_then Q _ (keeps_word_or NoVersion _) (λ _ _.
      keeps_then Q _ (keeps_within 1 1 Version) (λ _ _. keeps_expect l.End refl)))

-- ---- steps

module _ (Q : Remaining → Type 0) (C : SourceClause → Type 0) (R : Row → Type 0) (N : List ℕ → Type 0) (kept : IsKept Q C R N) where
  abbrev IsSuch : Step → Type 0
  IsSuch = IsStepOf C R N

  field : Keeps Q Any number32
  field = keeps_field Q kept.passes

  token_passes : (wanted : Lexeme) → is_bad wanted ≡ false → Keeps Q Any (expect wanted)
  token_passes = keeps_expect Q kept.passes

  word_passes : (wanted : RuleWord) → Keeps Q Any (word wanted)
  word_passes = keeps_word Q kept.passes

  keeps_name : Keeps Q N name
  unfolding name
  keeps_name = record { is = λ r q. go r q (sees l.Name r) refl (sees l.Quoted r) refl }
    where
      good : (r : Remaining) (wanted : Lexeme) → is_bad wanted ≡ false → sees wanted r ≡ true → Q r → Q (next r) × N (name_by (lexeme r) (spelling r))
      good r wanted fine e q = let h = not_bad wanted r fine e in (kept.passes r q h, kept.names r q h)

      go : (r : Remaining) → Q r → (t : Bool) → sees l.Name r ≡ t → (u : Bool) → sees l.Quoted r ≡ u
          → IfGiven (λ x s. Q s × N x) (if t || u then Ok (name_by (lexeme r) (spelling r), next r) else Err (refusal r))
      go r q true e u f = good r l.Name refl e q
      go r q false e true f = good r l.Quoted refl f q
      go r q false e false f = tt

  keeps_predicate : Keeps Q (λ (p : Pred). N p.name) predicate
  unfolding predicate
  keeps_predicate = keeps_then Q _ keeps_name (λ of h. keeps_then Q _ (token_passes l.Over refl) (λ _ _. keeps_then Q _ field (λ arity _. keeps_this Q _ h)))

  show_leaves : (i : Input) → Q i.remaining → Leaves Q (show_word i)
  unfolding show_word
  show_leaves i q = go (input.sees l.Name i && bytes_eq (spelling i.remaining) (codes "show")) refl
    where
      go : (t : Bool) → (input.sees l.Name i && bytes_eq (spelling i.remaining) (codes "show")) ≡ t → Leaves {A = Unit {0}} Q (if t then Ok (tt, input.passed i) else Err (input.refusal max_open i.remaining))
      go true e = kept.passes i.remaining q (not_bad l.Name i.remaining refl (and_parts (input.sees l.Name i) (bytes_eq (spelling i.remaining) (codes "show")) e).0)
      go false e = tt

  compared_leaves : (i : Input) → Q i.remaining → Leaves Q (compared_to_show i)
  unfolding compared_to_show
  compared_leaves i q = go (comparison max_open i) (kept.comparisons i q)
    where
      word : (c : Comparison) (o : Outcome Input (Unit {0})) → Leaves Q o → Leaves Q (and_then o (λ _. pure c))
      word c (Ok x) h = h
      word c (Err e) h = tt

      go : (o : Outcome Input Comparison) → Leaves Q o → Leaves Q (and_then o (λ found. show_word >> pure found))
      go (Ok x) h = word x.0 (show_word x.1) (show_leaves x.1 h)
      go (Err e) h = tt

  keeps_row : Keeps Q R row_to_show
  unfolding row_to_show
  keeps_row = record { is = λ r q. go (compared_to_show (start r)) (compared_leaves (start r) q) }
    where
      by : (v : Result Row Fault) → IfMade R v → (j : Input) → Q j.remaining → IfGiven (λ x s. Q s × R x) (with_value v (λ row. Ok (row, j.remaining)))
      by (Ok row) h j q = (q, h)
      by (Err e) h j q = tt

      go : (o : Outcome Input Comparison) → Leaves Q o → IfGiven (λ x s. Q s × R x) (meant o)
      go (Ok x) h = by (row_over (variable_numbers x.1.names) x.0) (kept.rows (variable_numbers x.1.names) x.0) x.1 h
      go (Err e) h = tt

  ended : (s : Step) → IsSuch s → Keeps Q IsSuch (expect l.End >> pure s)
  ended s h = keeps_then Q _ (token_passes l.End refl) (λ _ _. keeps_this Q s h)

  define_keeps : Keeps Q IsSuch define_fields
  unfolding define_fields
  define_keeps = keeps_then Q _ kept.clauses (λ c h. keeps_this Q (Define c) h)

  unfold_keeps : Keeps Q IsSuch unfold_fields
  unfolding unfold_fields
  unfold_keeps = keeps_then Q _ field (λ id _. keeps_then Q _ (word_passes rule.At) (λ _ _. keeps_then Q _ field (λ at _. ended (Unfold id at) tt)))

  fold_keeps : Keeps Q IsSuch fold_fields
  unfolding fold_fields
  fold_keeps =
      keeps_then Q _ field (λ id _. keeps_then Q _ (word_passes rule.At) (λ _ _. keeps_then Q _ (keeps_listed Q kept.passes number32 field) (λ at _.
      keeps_then Q _ (word_passes rule.By) (λ _ _. keeps_then Q _ keeps_predicate (λ by h. keeps_then Q _ (word_passes rule.With) (λ _ _.
      keeps_then Q _ (keeps_listed Q kept.passes number32 field) (λ images _. keeps_then Q _ (word_passes rule.Keep) (λ _ _.
      keeps_then Q _ (keeps_listed Q kept.passes number32 field) (λ keep _. keeps_then Q _ (word_passes rule.Show) (λ _ _.
      keeps_then Q _ (keeps_all_shown Q kept.passes) (λ show _. ended (Fold id at by images keep show) h)))))))))))

  delete_keeps : Keeps Q IsSuch delete_fields
  unfolding delete_fields
  delete_keeps =
      keeps_then Q _ field (λ id _. keeps_then Q _ (word_passes rule.False) (λ _ _. keeps_then Q _ (word_passes rule.Show) (λ _ _.
      keeps_then Q _ (keeps_shown Q kept.passes) (λ show _. ended (DeleteFalse id show) tt))))

  merge_keeps : Keeps Q IsSuch merge_fields
  unfolding merge_fields
  merge_keeps =
      keeps_then Q _ field (λ id _. keeps_then Q _ (word_passes rule.At) (λ _ _. keeps_then Q _ field (λ first _.
      keeps_then Q _ (token_passes l.Comma refl) (λ _ _. keeps_then Q _ field (λ second _. ended (Merge id first second) tt)))))

  add_keeps : Keeps Q IsSuch add_fields
  unfolding add_fields
  add_keeps =
      keeps_then Q _ field (λ id _. keeps_then Q _ (word_passes rule.Row) (λ _ _. keeps_then Q _ keeps_row (λ row h.
      keeps_then Q _ (keeps_shown Q kept.passes) (λ show _. ended (Add id row show) h))))

  drop_keeps : Keeps Q IsSuch drop_fields
  unfolding drop_fields
  drop_keeps =
      keeps_then Q _ field (λ id _. keeps_then Q _ (word_passes rule.Row) (λ _ _. keeps_then Q _ field (λ row _.
      keeps_then Q _ (word_passes rule.Show) (λ _ _. keeps_then Q _ (keeps_shown Q kept.passes) (λ show _. ended (Drop id row show) tt)))))

  project_keeps : Keeps Q IsSuch project_fields
  unfolding project_fields
  project_keeps = keeps_then Q _ field (λ id _. keeps_then Q _ (word_passes rule.Var) (λ _ _. keeps_then Q _ field (λ var _. ended (Project id var) tt)))

  equate_keeps : Keeps Q IsSuch equate_fields
  unfolding equate_fields
  equate_keeps =
      keeps_then Q _ field (λ id _. keeps_then Q _ (word_passes rule.Var) (λ _ _. keeps_then Q _ field (λ var _.
      keeps_then Q _ (word_passes rule.To) (λ _ _. keeps_then Q _ field (λ to _. keeps_then Q _ (word_passes rule.Show) (λ _ _.
      keeps_then Q _ (keeps_shown Q kept.passes) (λ show _. ended (Equate id var to show) tt)))))))

  keeps_step : Keeps Q IsSuch step
  unfolding step rule_ahead
  keeps_step = record { is = λ r q. go r q (sees l.Name r) refl }
    where
      by : (w : RuleWord) (r : Remaining) → Q (next r) → IfGiven (λ x s. Q s × IsSuch x) (step_by (fields_by w) r)
      by rule.Define r q = define_keeps.is (next r) q
      by rule.Unfold r q = unfold_keeps.is (next r) q
      by rule.Fold r q = fold_keeps.is (next r) q
      by rule.Delete r q = delete_keeps.is (next r) q
      by rule.Merge r q = merge_keeps.is (next r) q
      by rule.Add r q = add_keeps.is (next r) q
      by rule.Drop r q = drop_keeps.is (next r) q
      by rule.Project r q = project_keeps.is (next r) q
      by rule.Equate r q = equate_keeps.is (next r) q
      by _ r q = tt

      of : (o : Option RuleWord) (r : Remaining) → Q (next r) → IfGiven (λ x s. Q s × IsSuch x) (step_by (fields_of o) r)
      of None r q = tt
      of (Some w) r q = by w r q

      go : (r : Remaining) → Q r → (t : Bool) → sees l.Name r ≡ t → IfGiven (λ x s. Q s × IsSuch x) (step_by (fields_of (if t then rule_case (spelling r) else None)) r)
      go r q true e = of (rule_case (spelling r)) r (kept.passes r q (not_bad l.Name r refl e))
      go r q false e = tt

  -- ---- scripts

  keeps_steps : (turns : ℕ) (found : List Step) → All IsSuch found → Keeps Q (All IsSuch) (steps_from turns found)
  unfolding steps_from
  keeps_steps zero found each = keeps_either Q (sees l.Finish) (pure found) (λ r. Err (past_limit r)) (keeps_this Q found each) (record { is = λ r q. tt })
  keeps_steps (suc n) found each =
      keeps_either Q (sees l.Finish) (pure found) (step >>= (λ s. steps_from n (found ++ s ∷ []))) (keeps_this Q found each)
      (keeps_then Q (λ s. steps_from n (found ++ s ∷ [])) keeps_step (λ s h. keeps_steps n (found ++ s ∷ []) (All-push IsSuch found s each h)))

  -- of each step of a script
  pub script_steps : (text : List ℕ) (steps : List Step) → Q (whole text) → value_of ((version_line >> steps_from max_steps []) (whole text)) ≡ Ok steps → All IsSuch steps
  script_steps text steps q e = go ((version_line >> steps_from max_steps []) (whole text)) (parsed.is (whole text) q) e
    where
      parsed : Keeps Q (All IsSuch) (version_line >> steps_from max_steps [])
      parsed = keeps_then Q _ (keeps_version Q kept.passes) (λ _ _. keeps_steps max_steps [] (All-nil IsSuch))

      go : (o : Outcome Remaining (List Step)) → IfGiven (λ x s. Q s × All IsSuch x) o → value_of o ≡ Ok steps → All IsSuch steps
      go (Ok x) h f = let same : x.0 ≡ steps = cc in rw same at h.1
      go (Err x) h f = absurd (cc)
