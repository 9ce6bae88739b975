-- Goals, clauses and programs are read the same from texts of the same tokens.
use Rattle.std.proofs.Common.{◌≡◌, ℕ, Bool, true, false, List, [], codes, length, if◌then◌else◌, Some, None, Result, Ok, Err, refl, ap, ◌∙◌, sym, subst}
use Rattle.std.specs.Prelude.{Option, map}
use Rattle.std.specs.Str.{bytes_eq}
use Rattle.token_model.specs.declared.token.Lexeme.TheVariants as l
use Rattle.token_model.specs.declared.fault.Fault.{Fault}
use Rattle.token_model.specs.Parsers.{Outcome, Parser, ◌>>=◌, ◌>>◌, ◌<$>◌, pure, value_of}
use Rattle.token_model.specs.Remaining.{Remaining, lexeme}
use Rattle.clause_store.specs.declared.source.SourceClause.{SourceClause}
use Rattle.clp_grammar.specs.declared.expression.Head.TheVariants as head
use Rattle.clp_grammar.specs.declared.expression.Expression.{Expression, Number, Variable, Node', Row_of-Expression, end_of-Expression, more_of-Expression}
use Rattle.clp_grammar.specs.declared.draft.Relation.{Relation}
use Rattle.clp_grammar.specs.declared.draft.Comparison.{Comparison}
use Rattle.clp_grammar.specs.declared.draft.Constraint.{Constraint}
use Rattle.clp_grammar.specs.declared.draft.Constraint.TheVariants as constraint
use Rattle.clp_grammar.specs.declared.draft.Goal.{Goal}
use Rattle.clp_grammar.specs.declared.draft.Goal.TheVariants as goal
use Rattle.clp_grammar.specs.declared.draft.Draft.{Draft}
use Rattle.clp_grammar.specs.Input.{Input, start, max_open, passed, left, expect, eat, separated}
use Rattle.clp_grammar.specs.Expressions.{expression}
use Rattle.clp_grammar.specs.Goals.{related, relation_of, max_inside, only_variable, only_variable_of, num_variable, num_by, constraint_by, constrained, braces, goal_by, plain_goal, one_goal}
use Rattle.clp_grammar.specs.Drafts.{body, names_met, end, end_or_finish, draft}
use Rattle.clp_grammar.specs.Evaluation.{with_value}
use Rattle.clp_grammar.specs.Clauses.{meaning}
use Rattle.clp_grammar.specs.Grammar.{meant, clause_with}
use Rattle.clp_grammar.proofs.Parts.{num_variable_node}
use Rattle.turn_laws.proofs.Takes.{constrained_takes, goal_takes}
use Rattle.turn_laws.proofs.Turns.{constrained_refuses, goal_refuses}
use Rattle.space_laws.specs.Same.{Matches, ReadsAlike}
use Rattle.space_laws.specs.Moved.{moved_result, moved_value, moved, moved_parts, moved_comparison, moved_constraint, moved_goal, moved_draft}
use Rattle.space_laws.proofs.Meaning.{meaning_moved}
use Rattle.space_laws.proofs.Reading.{SameInput, Alike, SameRule, unplaced, alike_then, same_passed, same_left, by_lexeme, by_sees, pure_same, refuse_same, eat_same, expect_same, separated_same}
use Rattle.space_laws.proofs.Rules.{expression_same}

module _ (to : ℕ → ℕ) where
  -- ---- relations

  pub related_same : (more : ℕ) (x y : Expression) (relation : Relation) → y ≡ moved to x → SameRule to (moved_comparison to) (related more x relation) (related more y relation)
  unfolding related
  related_same more x y relation s i j h =
      alike_then to (moved to) (moved_comparison to) (expression more (passed i)) (expression more (passed j)) (λ u. pure (made (left i) x u)) (λ v. pure (made (left j) y v)) (expression_same to more (passed i) (passed j) (same_passed to i j h)) (λ u v t.
      pure_same to (moved_comparison to) (made (left i) x u) (made (left j) y v)
      (ap (λ (p : ℕ). made p y v) (sym (same_left to i j h)) ∙ (ap (λ (z : Expression). made (to (left i)) z v) s ∙ ap (λ (z : Expression). made (to (left i)) (moved to x) z) t)))
    where
      made : ℕ → Expression → Expression → Comparison
      made place first second = record { left = place; relation = relation; first = first; second = second }

  -- ---- braces

  only_variable_moved : {m : _} (parts : Row_of-Expression m) → only_variable_of (moved_parts to parts) ≡ only_variable parts
  unfolding moved
  only_variable_moved end_of-Expression = refl
  only_variable_moved (more_of-Expression (Number place value) parts) = refl
  only_variable_moved (more_of-Expression (Variable place n) end_of-Expression) = refl
  only_variable_moved (more_of-Expression (Variable place n) (more_of-Expression part parts)) = refl
  only_variable_moved (more_of-Expression (Node' place h shape inner) parts) = refl

  num_variable_moved : (x : Expression) → num_variable (moved to x) ≡ num_variable x
  unfolding moved num_variable
  num_variable_moved (Number place value) = refl
  num_variable_moved (Variable place n) = refl
  num_variable_moved (Node' place (head.Application name) shape parts) =
      num_variable_node (to place) (head.Application name) (moved_parts to parts) ∙ ap (λ (v : Option ℕ). if bytes_eq name (codes "num") then v else None) (only_variable_moved parts)
  num_variable_moved (Node' place head.List shape parts) = refl
  num_variable_moved (Node' place head.OpenList shape parts) = refl
  num_variable_moved (Node' place head.Brackets shape parts) = refl
  num_variable_moved (Node' place head.Plus shape parts) = refl
  num_variable_moved (Node' place head.Minus shape parts) = refl
  num_variable_moved (Node' place (head.Chain operators) shape parts) = refl

  constrained_same : SameRule to (moved_constraint to) constrained constrained
  unfolding constrained
  constrained_same i j h =
      alike_then to (moved to) (moved_constraint to) (expression max_inside i) (expression max_inside j) (λ x k. constraint_by x (relation_of (lexeme k.remaining)) k) (λ y m. constraint_by y (relation_of (lexeme m.remaining)) m) (expression_same to max_inside i j h) (λ x y s k m g.
      by_lexeme to (moved_constraint to) (λ c. constraint_by x (relation_of c)) (λ c. constraint_by y (relation_of c)) k m g (λ c. go x y s k m g (relation_of c)))
    where
      num : (o : Option ℕ) → SameRule to (moved_constraint to) (num_by o) (num_by o)
      num (Some number) = pure_same to (moved_constraint to) (constraint.Num number) (constraint.Num number) refl
      num None = λ k m g. refuse_same to {A = Constraint} (moved_constraint to) max_inside k m g

      go : (x y : Expression) → y ≡ moved to x → (k m : Input) → SameInput to k m → (o : Option Relation) → Alike to (moved_constraint to) (constraint_by x o k) (constraint_by y o m)
      go x y s k m g (Some relation) =
          alike_then to (moved_comparison to) (moved_constraint to) (related max_inside x relation k) (related max_inside y relation m) (λ c. pure (constraint.Comparison c)) (λ c. pure (constraint.Comparison c)) (related_same max_inside x y relation s k m g) (λ c d t.
          pure_same to (moved_constraint to) (constraint.Comparison c) (constraint.Comparison d) (ap (λ (z : Comparison). constraint.Comparison z) t))
      go x y s k m g None = subst (λ (o : Option ℕ). Alike to (moved_constraint to) (num_by (num_variable x) k) (num_by o m)) (sym (ap num_variable s ∙ num_variable_moved x)) (num (num_variable x) k m g)

  braces_same : SameRule to (map (moved_constraint to)) braces braces
  unfolding braces
  braces_same i j h =
      alike_then to (map (moved_constraint to)) (map (moved_constraint to)) (separated constrained (passed i)) (separated constrained (passed j)) (λ found. expect max_inside l.CloseCurly >> pure found) (λ found. expect max_inside l.CloseCurly >> pure found) (separated_same to (moved_constraint to) constrained constrained_same constrained_takes constrained_refuses (passed i) (passed j) (same_passed to i j h)) (λ xs ys s.
      λ k m g. alike_then to {A = Unit {0}} unplaced (map (moved_constraint to)) (expect max_inside l.CloseCurly k) (expect max_inside l.CloseCurly m) (λ u. pure xs) (λ u. pure ys) (expect_same to max_inside l.CloseCurly k m g) (λ u v t. pure_same to (map (moved_constraint to)) xs ys s))

  -- ---- goals

  plain_same : SameRule to (moved_goal to) plain_goal plain_goal
  unfolding plain_goal
  plain_same i j h =
      alike_then to (moved to) (moved_goal to) (expression max_open i) (expression max_open j) (λ x k. goal_by x (relation_of (lexeme k.remaining)) k) (λ y m. goal_by y (relation_of (lexeme m.remaining)) m) (expression_same to max_open i j h) (λ x y s k m g.
      by_lexeme to (moved_goal to) (λ c. goal_by x (relation_of c)) (λ c. goal_by y (relation_of c)) k m g (λ c. go x y s k m g (relation_of c)))
    where
      go : (x y : Expression) → y ≡ moved to x → (k m : Input) → SameInput to k m → (o : Option Relation) → Alike to (moved_goal to) (goal_by x o k) (goal_by y o m)
      go x y s k m g (Some relation) =
          alike_then to (moved_comparison to) (moved_goal to) (related max_open x relation k) (related max_open y relation m) (λ c. pure (goal.Comparison c)) (λ c. pure (goal.Comparison c)) (related_same max_open x y relation s k m g) (λ c d t.
          pure_same to (moved_goal to) (goal.Comparison c) (goal.Comparison d) (ap (λ (z : Comparison). goal.Comparison z) t))
      go x y s k m g None = (ap (λ (z : Expression). goal.Call z) s, g)

  goal_same : SameRule to (moved_goal to) one_goal one_goal
  unfolding one_goal
  goal_same i j h = by_sees to (moved_goal to) l.OpenCurly (λ t. if t then goal.Braces <$> braces else plain_goal) (λ t. if t then goal.Braces <$> braces else plain_goal) i j h go
    where
      go : (t : Bool) → Alike to (moved_goal to) ((if t then goal.Braces <$> braces else plain_goal) i) ((if t then goal.Braces <$> braces else plain_goal) j)
      go true =
          alike_then to (map (moved_constraint to)) (moved_goal to) (braces i) (braces j) (λ found. pure (goal.Braces found)) (λ found. pure (goal.Braces found)) (braces_same i j h) (λ xs ys s.
          pure_same to (moved_goal to) (goal.Braces xs) (goal.Braces ys) (ap (λ (zs : List Constraint). goal.Braces zs) s))
      go false = plain_same i j h

  -- ---- clauses

  body_same : SameRule to (map (moved_goal to)) body body
  unfolding body
  body_same i j h =
      alike_then to unplaced (map (moved_goal to)) (eat l.If i) (eat l.If j) choice choice (eat_same to l.If i j h) (λ t u s.
      subst (λ (v : Bool). SameRule to (map (moved_goal to)) (choice t) (choice v)) (sym s) (go t))
    where
      choice : Bool → Parser Input (List Goal)
      choice has_body = if has_body then separated one_goal else pure []

      go : (t : Bool) → SameRule to (map (moved_goal to)) (choice t) (choice t)
      go true = separated_same to (moved_goal to) one_goal goal_same goal_takes goal_refuses
      go false = pure_same to (map (moved_goal to)) [] [] refl

  end_same : SameRule to unplaced end end
  end_same = expect_same to max_open l.End

  end_or_finish_same : SameRule to unplaced end_or_finish end_or_finish
  unfolding end_or_finish
  end_or_finish_same i j h = by_sees to {A = Unit {0}} unplaced l.Finish (λ t. if t then pure tt else end) (λ t. if t then pure tt else end) i j h go
    where
      go : (t : Bool) → Alike {A = Unit {0}} to unplaced ((if t then pure tt else end) i) ((if t then pure tt else end) j)
      go true = (refl, h)
      go false = end_same i j h

  draft_same : (ending : Parser Input (Unit {0})) → SameRule to unplaced ending ending → SameRule to (moved_draft to) (draft ending) (draft ending)
  unfolding draft
  draft_same ending same i j h =
      alike_then to (moved to) (moved_draft to) (expression max_open i) (expression max_open j) (λ x. body >>= rest x) (λ y. body >>= rest y) (expression_same to max_open i j h) (λ x y s k m g.
      alike_then to (map (moved_goal to)) (moved_draft to) (body k) (body m) (rest x) (rest y) (body_same k m g) (λ gs hs t p q r.
      alike_then to {A = Unit {0}} unplaced (moved_draft to) (ending p) (ending q) (λ u. last x gs) (λ u. last y hs) (same p q r) (λ u v w a b c.
      (ap (λ (ns : List (List ℕ)). made y hs (length ns)) (sym c.names) ∙ (ap (λ (z : Expression). made z hs (length a.names)) s ∙ ap (λ (zs : List Goal). made (moved to x) zs (length a.names)) t), c))))
    where
      made : Expression → List Goal → ℕ → Draft
      made head goals count = record { head = head; goals = goals; variables = count }

      last : Expression → List Goal → Parser Input Draft
      last head goals = names_met >>= (λ count. pure (made head goals count))

      rest : Expression → List Goal → Parser Input Draft
      rest head goals = ending >> last head goals

  started : (r s : Remaining) → Matches to r s → SameInput to (start r) (start s)
  started r s h = record { names = refl; remaining = h }

  meant_same : (o u : Outcome Input Draft) → Alike to (moved_draft to) o u → ReadsAlike to (meant o) (meant u)
  meant_same (Ok p) (Ok q) h =
      subst (λ (z : Result SourceClause Fault). ReadsAlike to (with_value (meaning p.0) (λ c. Ok (c, p.1.remaining))) (with_value z (λ c. Ok (c, q.1.remaining)))) (sym (ap meaning h.0 ∙ meaning_moved to p.0)) (go (meaning p.0))
    where
      go : (z : Result SourceClause Fault) → ReadsAlike to (with_value z (λ c. Ok (c, p.1.remaining))) (with_value (moved_result to z) (λ c. Ok (c, q.1.remaining)))
      go (Ok c) = (refl, h.1.remaining)
      go (Err f) = refl
  meant_same (Err e) (Err f) h = h
  meant_same (Ok p) (Err f) h = absurd h
  meant_same (Err e) (Ok q) h = absurd h

  pub clause_same : (r s : Remaining) → Matches to r s → ReadsAlike to (clause_with end r) (clause_with end s)
  unfolding clause_with
  clause_same r s h = meant_same (draft end (start r)) (draft end (start s)) (draft_same end end_same (start r) (start s) (started r s h))

  pub last_clause_same : (r s : Remaining) → Matches to r s → ReadsAlike to (clause_with end_or_finish r) (clause_with end_or_finish s)
  unfolding clause_with
  last_clause_same r s h = meant_same (draft end_or_finish (start r)) (draft end_or_finish (start s)) (draft_same end_or_finish end_or_finish_same (start r) (start s) (started r s h))

  value_same : {A : Type 0} (at : A → A) (o u : Outcome Input A) → Alike to at o u → value_of u ≡ moved_value to at (value_of o)
  value_same at (Ok p) (Ok q) h = ap (λ (a : _). Ok a) h.0
  value_same at (Err e) (Err f) h = ap (λ (g : Fault). Err g) h
  value_same at (Ok p) (Err f) h = absurd h
  value_same at (Err e) (Ok q) h = absurd h

  pub drafts_same : (r s : Remaining) → Matches to r s → value_of (draft end (start s)) ≡ moved_value to (moved_draft to) (value_of (draft end (start r)))
  drafts_same r s h = value_same (moved_draft to) (draft end (start r)) (draft end (start s)) (draft_same end end_same (start r) (start s) (started r s h))
