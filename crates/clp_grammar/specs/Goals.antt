-- Relations, what stands in braces, and goals.
use Rattle.std.specs.Prelude.{ℕ, if◌then◌else◌, List, [], ◌∷◌, codes, Option, Some, None}
use Rattle.std.specs.Str.{bytes_eq}
use Rattle.token_model.specs.declared.token.Lexeme.{Lexeme}
use Rattle.token_model.specs.declared.token.Lexeme.TheVariants as l
use Rattle.token_model.specs.Parsers.{Parser, ◌>>=◌, ◌>>◌, ◌<$>◌, pure}
use Rattle.clp_grammar.specs.declared.expression.Head.{Head}
use Rattle.clp_grammar.specs.declared.expression.Head.TheVariants.{Application}
use Rattle.clp_grammar.specs.declared.expression.Expression.{Expression, Number, Variable, Node', Row_of-Expression, end_of-Expression, more_of-Expression}
use Rattle.clp_grammar.specs.declared.draft.Relation.{Relation}
use Rattle.clp_grammar.specs.declared.draft.Relation.TheVariants.{Equal, NumberEqual, AtMost, Less, AtLeast, Greater}
use Rattle.clp_grammar.specs.declared.draft.Comparison.{Comparison}
use Rattle.clp_grammar.specs.declared.draft.Constraint.{Constraint}
use Rattle.clp_grammar.specs.declared.draft.Constraint.TheVariants as constraint
use Rattle.clp_grammar.specs.declared.draft.Goal.{Goal}
use Rattle.clp_grammar.specs.declared.draft.Goal.TheVariants as goal
use Rattle.clp_grammar.specs.Input.{Input, max_open, refuse, here, peek, comes, pass, expect, separated}
use Rattle.clp_grammar.specs.Expressions.{expression}

-- ---- relations

abbrev pub relation_of : Lexeme → Option Relation
relation_of l.Equal = Some Equal
relation_of l.NumberEqual = Some NumberEqual
relation_of l.AtMost = Some AtMost
relation_of l.Less = Some Less
relation_of l.AtLeast = Some AtLeast
relation_of l.Greater = Some Greater
relation_of _ = None

-- this relation, which comes next, and its second side
unfoldable pub related : ℕ → Expression → Relation → Parser Input Comparison
related more first relation = do
  place ← here
  pass
  second ← expression more
  pure (record { left = place; relation = relation; first = first; second = second })

abbrev pub comparison_by : ℕ → Expression → Option Relation → Parser Input Comparison
comparison_by more first (Some relation) = related more first relation
comparison_by more first None = refuse more

-- two expressions with a relation between them
unfoldable pub comparison : ℕ → Parser Input Comparison
comparison more = do
  first ← expression more
  next ← peek
  comparison_by more first (relation_of next)

-- ---- braces

-- how many more brackets may be open within braces
abbrev pub max_inside : ℕ
max_inside = 255

abbrev pub only_variable : {m : _} → Row_of-Expression m → Option ℕ
only_variable (more_of-Expression (Variable place number) end_of-Expression) = Some number
only_variable _ = None

-- the variable, where the expression is just `num` of a variable
unfoldable pub num_variable : Expression → Option ℕ
num_variable (Number place value) = None
num_variable (Variable place number) = None
num_variable (Node' place (Application name) shape parts) = if bytes_eq name (codes "num") then only_variable parts else None
num_variable (Node' place head shape parts) = None

-- the same of a list of parts
abbrev pub only_variable_of : List Expression → Option ℕ
only_variable_of (Variable place number ∷ []) = Some number
only_variable_of _ = None

abbrev pub num_variable_by : Head → List Expression → Option ℕ
num_variable_by (Application name) parts = if bytes_eq name (codes "num") then only_variable_of parts else None
num_variable_by other parts = None

abbrev pub num_by : Option ℕ → Parser Input Constraint
num_by (Some number) = pure (constraint.Num number)
num_by None = refuse max_inside

-- a relation, or `num` of a variable where no relation comes
abbrev pub constraint_by : Expression → Option Relation → Parser Input Constraint
constraint_by first (Some relation) = constraint.Comparison <$> related max_inside first relation
constraint_by first None = num_by (num_variable first)

unfoldable pub constrained : Parser Input Constraint
constrained = do
  first ← expression max_inside
  next ← peek
  constraint_by first (relation_of next)

unfoldable pub braces : Parser Input (List Constraint)
braces = do
  pass
  found ← separated constrained
  expect max_inside l.CloseCurly
  pure found

-- ---- goals

-- a relation, or an expression alone where none comes
abbrev pub goal_by : Expression → Option Relation → Parser Input Goal
goal_by first (Some relation) = goal.Comparison <$> related max_open first relation
goal_by first None = pure (goal.Call first)

unfoldable pub plain_goal : Parser Input Goal
plain_goal = do
  first ← expression max_open
  next ← peek
  goal_by first (relation_of next)

unfoldable pub one_goal : Parser Input Goal
one_goal = do
  has_braces ← comes l.OpenCurly
  if has_braces then goal.Braces <$> braces else plain_goal
