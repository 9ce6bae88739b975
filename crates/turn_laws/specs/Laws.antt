-- Numbers of turns: the grammar begins each list with the count of bytes that are left, and every greater number reads
-- the same.
use Rattle.std.specs.Prelude.{◌≡◌, ◌≤◌, ◌+◌, ℕ, List, []}
use Rattle.token_model.specs.Remaining as token
use Rattle.token_model.specs.Remaining.{Remaining, whole}
use Rattle.token_model.specs.Parsers.{Parser}
use Rattle.token_cursor.specs.Utf8.{not_utf8}
use Rattle.clause_store.specs.declared.source.SourceClause.{SourceClause}
use Rattle.clp_grammar.specs.declared.expression.Operator.{Operator}
use Rattle.clp_grammar.specs.declared.expression.Expression.{Expression}
use Rattle.clp_grammar.specs.declared.draft.Constraint.{Constraint}
use Rattle.clp_grammar.specs.declared.draft.Goal.{Goal}
use Rattle.clp_grammar.specs.Input.{Input, left, separated_from}
use Rattle.clp_grammar.specs.Expressions as e
use Rattle.clp_grammar.specs.Goals.{constrained, one_goal}
use Rattle.clp_grammar.specs.Directives.{directive_from}
use Rattle.clp_grammar.specs.Clauses.{unless}
use Rattle.clp_grammar.specs.Grammar.{clauses_from, program}

-- ---- lists, after what was found

abbrev pub ArgumentTurns : Type 0
ArgumentTurns = (more n m : ℕ) (found : List Expression) (i : Input) → left i ≤ n → n ≤ m → separated_from (e.expression more) m found i ≡ separated_from (e.expression more) n found i

abbrev pub GoalTurns : Type 0
GoalTurns = (n m : ℕ) (found : List Goal) (i : Input) → left i ≤ n → n ≤ m → separated_from one_goal m found i ≡ separated_from one_goal n found i

abbrev pub ConstraintTurns : Type 0
ConstraintTurns = (n m : ℕ) (found : List Constraint) (i : Input) → left i ≤ n → n ≤ m → separated_from constrained m found i ≡ separated_from constrained n found i

-- ---- chains of operators, after those that were found

-- an operand of a product
abbrev pub factor : ℕ → Parser Input Expression
factor more = e.signed more (e.arguments more) (e.bracketed more) (e.list more)

-- an operand of a sum
abbrev pub product : ℕ → Parser Input Expression
product more = e.product more (e.arguments more) (e.bracketed more) (e.list more)

abbrev pub ProductTurns : Type 0
ProductTurns = (more n m begin : ℕ) (operators : List Operator) (parts : List Expression) (i : Input) → left i ≤ n → n ≤ m
    → e.chain_from e.product_operation (factor more) m begin operators parts i ≡ e.chain_from e.product_operation (factor more) n begin operators parts i

abbrev pub SumTurns : Type 0
SumTurns = (more n m begin : ℕ) (operators : List Operator) (parts : List Expression) (i : Input) → left i ≤ n → n ≤ m
    → e.chain_from e.sum_operation (product more) m begin operators parts i ≡ e.chain_from e.sum_operation (product more) n begin operators parts i

-- ---- directives and programs

abbrev pub DirectiveTurns : Type 0
DirectiveTurns = (n m open_now : ℕ) (r : Remaining) → token.left r ≤ n → n ≤ m → directive_from m open_now r ≡ directive_from n open_now r

abbrev pub ClauseTurns : Type 0
ClauseTurns = (n m : ℕ) (found : List SourceClause) (r : Remaining) → token.left r ≤ n → n ≤ m → clauses_from m found r ≡ clauses_from n found r

-- as many turns more as may be
abbrev pub ProgramTurns : Type 0
ProgramTurns = (extra : ℕ) (text : List ℕ) → unless (not_utf8 text) (clauses_from (token.left (whole text) + extra) [] (whole text)) ≡ program text
