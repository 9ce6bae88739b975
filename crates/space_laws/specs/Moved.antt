-- What is parsed, with other places.
use Rattle.std.specs.Prelude.{ℕ, List, [], ◌∷◌, map, Result, Ok, Err}
use Rattle.token_model.specs.declared.fault.Fault.{Fault}
use Rattle.clp_grammar.specs.declared.expression.Operator.{Operator}
use Rattle.clp_grammar.specs.declared.expression.Head.{Head}
use Rattle.clp_grammar.specs.declared.expression.Head.TheVariants as head
use Rattle.clp_grammar.specs.declared.expression.Expression.{Expression, Number, Variable, Node, Node', Row_of-Expression, end_of-Expression, more_of-Expression}
use Rattle.clp_grammar.specs.declared.draft.Comparison.{Comparison}
use Rattle.clp_grammar.specs.declared.draft.Constraint.{Constraint}
use Rattle.clp_grammar.specs.declared.draft.Constraint.TheVariants as constraint
use Rattle.clp_grammar.specs.declared.draft.Goal.{Goal}
use Rattle.clp_grammar.specs.declared.draft.Goal.TheVariants as goal
use Rattle.clp_grammar.specs.declared.draft.Draft.{Draft}

abbrev pub moved_fault : (ℕ → ℕ) → Fault → Fault
moved_fault to e = record { left = to e.left; kind = e.kind }

-- a value has no place; a fault has one
abbrev pub moved_result : {A : Type 0} → (ℕ → ℕ) → Result A Fault → Result A Fault
moved_result to (Ok a) = Ok a
moved_result to (Err e) = Err (moved_fault to e)

-- a value at its other places
abbrev pub moved_value : {A : Type 0} → (ℕ → ℕ) → (A → A) → Result A Fault → Result A Fault
moved_value to at (Ok a) = Ok (at a)
moved_value to at (Err e) = Err (moved_fault to e)

abbrev pub moved_operator : (ℕ → ℕ) → Operator → Operator
moved_operator to o = record { operation = o.operation; left = to o.left }

abbrev pub moved_head : (ℕ → ℕ) → Head → Head
moved_head to (head.Application name) = head.Application name
moved_head to head.List = head.List
moved_head to head.OpenList = head.OpenList
moved_head to head.Brackets = head.Brackets
moved_head to head.Plus = head.Plus
moved_head to head.Minus = head.Minus
moved_head to (head.Chain operators) = head.Chain (map (moved_operator to) operators)

-- the same expression, at other places
unfoldable mutual
  pub moved : (ℕ → ℕ) → Expression → Expression
  moved to (Number place value) = Number (to place) value
  moved to (Variable place n) = Variable (to place) n
  moved to (Node' place head shape parts) = Node (to place) (moved_head to head) (moved_parts to parts)

  pub moved_parts : {m : _} → (ℕ → ℕ) → Row_of-Expression m → List Expression
  moved_parts to end_of-Expression = []
  moved_parts to (more_of-Expression part parts) = moved to part ∷ moved_parts to parts

abbrev pub moved_comparison : (ℕ → ℕ) → Comparison → Comparison
moved_comparison to c = record { left = to c.left; relation = c.relation; first = moved to c.first; second = moved to c.second }

abbrev pub moved_constraint : (ℕ → ℕ) → Constraint → Constraint
moved_constraint to (constraint.Comparison c) = constraint.Comparison (moved_comparison to c)
moved_constraint to (constraint.Num n) = constraint.Num n

abbrev pub moved_goal : (ℕ → ℕ) → Goal → Goal
moved_goal to (goal.Call e) = goal.Call (moved to e)
moved_goal to (goal.Comparison c) = goal.Comparison (moved_comparison to c)
moved_goal to (goal.Braces constraints) = goal.Braces (map (moved_constraint to) constraints)

abbrev pub moved_draft : (ℕ → ℕ) → Draft → Draft
moved_draft to d = record { head = moved to d.head; goals = map (moved_goal to) d.goals; variables = d.variables }
