-- `num` of a variable.
use Rattle.std.proofs.Common.{◌≡◌, ℕ, Bool, true, cond, List, refl, ap, ◌∙◌}
use Rattle.std.specs.Prelude.{codes, Option, None}
use Rattle.std.specs.Str.{bytes_eq}
use Rattle.clp_grammar.specs.declared.expression.Head.{Head}
use Rattle.clp_grammar.specs.declared.expression.Head.TheVariants as head
use Rattle.clp_grammar.specs.declared.expression.Expression.{Expression, Number, Variable, Node, Node', Row_of-Expression, end_of-Expression, more_of-Expression, items-the_row-Expression}
use Rattle.clp_grammar.specs.declared.expression.Expression.TheBlock.{items_hidden-the_row-Expression-0, hidden-the_row-Expression-0}
use Rattle.clp_grammar.specs.Goals.{num_variable}
use Rattle.clp_grammar.specs.Goals as goal
use Rattle.clp_parser.specs.Parts.{only_variable, is_num}

only_items : (n : _) (row : Row_of-Expression n) → goal.only_variable row ≡ only_variable (items-the_row-Expression n row)
only_items n end_of-Expression = refl
only_items n (more_of-Expression (Variable place number) end_of-Expression) = refl
only_items n (more_of-Expression (Variable place number) (more_of-Expression x xs)) = refl
only_items n (more_of-Expression (Number place value) xs) = refl
only_items n (more_of-Expression (Node' place head shape parts) xs) = refl

pub num_variable_of_node : (place : ℕ) (h : Head) (parts : List Expression) → num_variable (Node place h parts) ≡ cond (is_num h) (only_variable parts) None
unfolding num_variable
num_variable_of_node place (head.Application name) parts =
    ap (λ (o : Option ℕ). cond (bytes_eq name (codes "num")) o None) (only_items _ (hidden-the_row-Expression-0 parts) ∙ ap only_variable (items_hidden-the_row-Expression-0 parts))
num_variable_of_node place head.List parts = refl
num_variable_of_node place head.OpenList parts = refl
num_variable_of_node place head.Brackets parts = refl
num_variable_of_node place head.Plus parts = refl
num_variable_of_node place head.Minus parts = refl
num_variable_of_node place (head.Chain operators) parts = refl

pub num_of : (place : ℕ) (h : Head) (parts : List Expression) → is_num h ≡ true → num_variable (Node place h parts) ≡ only_variable parts
num_of place h parts e = num_variable_of_node place h parts ∙ ap (λ (b : Bool). cond b (only_variable parts) None) e
