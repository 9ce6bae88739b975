-- Expressions, goals and drafts whose names are in UTF-8.
use Rattle.std.proofs.Common.{◌≡◌, ℕ, true, List, [], ◌∷◌, sym, subst}
use Rattle.std.specs.Prelude.{All}
use Rattle.std.specs.Str.{is_utf8}
use Rattle.std.proofs.lemmas.List.Elements.{All-nil, All-head, All-tail}
use Rattle.clp_grammar.specs.declared.expression.Operator.{Operator}
use Rattle.clp_grammar.specs.declared.expression.Head.{Head}
use Rattle.clp_grammar.specs.declared.expression.Head.TheVariants as head
use Rattle.clp_grammar.specs.declared.expression.Expression.{Expression, Number, Variable, Node, Node', Row_of-Expression, end_of-Expression, more_of-Expression, items-the_row-Expression}
use Rattle.clp_grammar.specs.declared.expression.Expression.TheBlock.{items_hidden-the_row-Expression-0, hidden-the_row-Expression-0}
use Rattle.clp_grammar.specs.declared.draft.Goal.{Goal}
use Rattle.clp_grammar.specs.declared.draft.Goal.TheVariants as goal
use Rattle.clp_grammar.specs.declared.draft.Draft.{Draft}
use Rattle.clp_grammar.specs.Expressions.{chained}

abbrev pub IsTextHead : Head → Type 0
IsTextHead (head.Application name) = is_utf8 name ≡ true
IsTextHead _ = Unit {0}

unfoldable mutual
  pub HasTexts : Expression → Type 0
  HasTexts (Number place value) = Unit {0}
  HasTexts (Variable place number) = Unit {0}
  HasTexts (Node' place head shape parts) = IsTextHead head × HaveTexts parts

  pub HaveTexts : {m : _} → Row_of-Expression m → Type 0
  HaveTexts end_of-Expression = Unit {0}
  HaveTexts (more_of-Expression x xs) = HasTexts x × HaveTexts xs

list_to_row : (m : _) (xs : Row_of-Expression m) → All HasTexts (items-the_row-Expression m xs) → HaveTexts xs
unfolding HasTexts
list_to_row m end_of-Expression h = tt
list_to_row m (more_of-Expression x xs) h = (All-head HasTexts x (items-the_row-Expression _ xs) h, list_to_row _ xs (All-tail HasTexts x (items-the_row-Expression _ xs) h))

pub node_texts : (place : ℕ) (h : Head) (parts : List Expression) → IsTextHead h → All HasTexts parts → HasTexts (Node place h parts)
unfolding HasTexts
node_texts place h parts is all = (is, list_to_row _ (hidden-the_row-Expression-0 parts) (subst (All HasTexts) (sym (items_hidden-the_row-Expression-0 parts)) all))

pub number_texts : (place value : ℕ) → HasTexts (Number place value)
unfolding HasTexts
number_texts place value = tt

pub variable_texts : (place number : ℕ) → HasTexts (Variable place number)
unfolding HasTexts
variable_texts place number = tt

pub chained_texts : (begin : ℕ) (operators : List Operator) (parts : List Expression) → All HasTexts parts → HasTexts (chained begin operators parts)
unfolding chained
chained_texts begin [] [] all = node_texts begin (head.Chain []) [] tt (All-nil HasTexts)
chained_texts begin [] (x ∷ parts) all = All-head HasTexts x parts all
chained_texts begin (o ∷ operators) parts all = node_texts begin (head.Chain (o ∷ operators)) parts tt all

-- the terms of a goal; what stands in braces makes none
abbrev pub GoalHasTexts : Goal → Type 0
GoalHasTexts (goal.Call x) = HasTexts x
GoalHasTexts (goal.Comparison c) = HasTexts c.first × HasTexts c.second
GoalHasTexts (goal.Braces cs) = Unit {0}

pub record DraftHasTexts (d : Draft) : Type 0 where
  pub head : HasTexts d.head
  pub goals : All GoalHasTexts d.goals
