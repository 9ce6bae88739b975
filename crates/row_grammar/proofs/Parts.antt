-- The first variable without a number, from an expression with parts to the list of its parts.
use Rattle.std.proofs.Common.{◌≡◌, ℕ, List, None, refl, ap, ◌∙◌}
use Rattle.std.specs.Option.{option_or}
use Rattle.clp_grammar.specs.declared.expression.Head.{Head}
use Rattle.clp_grammar.specs.declared.expression.Expression.{Expression, Number, Variable, Node, Row_of-Expression, end_of-Expression, more_of-Expression, items-the_row-Expression}
use Rattle.clp_grammar.specs.declared.expression.Expression.TheBlock.{items_hidden-the_row-Expression-0, hidden-the_row-Expression-0}
use Rattle.row_grammar.specs.Row.{variable_fault, variables_fault, parts_fault, parts_fault_of}

parts_fault-items : (numbers : List ℕ) (k : _) (parts : Row_of-Expression k) → parts_fault numbers parts ≡ parts_fault_of numbers (items-the_row-Expression k parts)
unfolding variables_fault
parts_fault-items numbers k end_of-Expression = refl
parts_fault-items numbers k (more_of-Expression part parts) = ap (option_or (variables_fault numbers part)) (parts_fault-items numbers _ parts)

pub variables_fault_node : (numbers : List ℕ) (place : ℕ) (h : Head) (parts : List Expression) → variables_fault numbers (Node place h parts) ≡ parts_fault_of numbers parts
unfolding variables_fault
variables_fault_node numbers place h parts =
    parts_fault-items numbers _ (hidden-the_row-Expression-0 parts) ∙ ap (parts_fault_of numbers) (items_hidden-the_row-Expression-0 parts)

pub variables_fault_number : (numbers : List ℕ) (place value : ℕ) → variables_fault numbers (Number place value) ≡ None
unfolding variables_fault
variables_fault_number numbers place value = refl

pub variables_fault_variable : (numbers : List ℕ) (place n : ℕ) → variables_fault numbers (Variable place n) ≡ variable_fault numbers place n
unfolding variables_fault
variables_fault_variable numbers place n = refl
