-- What holds of all that is parsed.
use Rattle.std.specs.Prelude.{◌≡◌, ◌<◌, ◌≤◌, ◌^◌, ℕ, suc, length, All}
use Rattle.token_model.specs.Names.{max_name}
use Rattle.token_model.specs.Numbers.{max_number}
use Rattle.clp_grammar.specs.declared.expression.Head.{Head}
use Rattle.clp_grammar.specs.declared.expression.Head.TheVariants.{Application, List as ListHead, OpenList, Brackets, Plus, Minus, Chain}
use Rattle.clp_grammar.specs.declared.expression.Expression.{Expression, Number, Variable, Node', Row_of-Expression, end_of-Expression, more_of-Expression}
use Rattle.clp_grammar.specs.declared.draft.Comparison.{Comparison}
use Rattle.clp_grammar.specs.declared.draft.Constraint.{Constraint}
use Rattle.clp_grammar.specs.declared.draft.Constraint.TheVariants as constraint
use Rattle.clp_grammar.specs.declared.draft.Goal.{Goal}
use Rattle.clp_grammar.specs.declared.draft.Goal.TheVariants as goal
use Rattle.clp_grammar.specs.declared.draft.Draft.{Draft}

-- a number of a variable, where there are this many
abbrev pub IsNumbered : ℕ → ℕ → Type 0
IsNumbered count n = (0 < n) × (n ≤ count)

-- Such a head may stand, and have this many parts: a name is not too long, and a chain has one operator or more and one
-- part more than operators.
abbrev pub Fits : Head → ℕ → Type 0
Fits (Application name) n = (n < 2 ^ 32) × (length name ≤ max_name)
Fits ListHead n = Unit {0}
Fits OpenList n = 2 ≤ n
Fits Brackets n = n ≡ 1
Fits Plus n = n ≡ 1
Fits Minus n = n ≡ 1
Fits (Chain operators) n = (0 < length operators) × (n ≡ suc (length operators))

-- how many there are
abbrev pub row_length : {m : _} → Row_of-Expression m → ℕ
row_length end_of-Expression = 0
row_length (more_of-Expression x xs) = suc (row_length xs)

-- Numbers are those of tokens, variables are some of this many, and each head has as many parts as it may have.
unfoldable mutual
  pub IsFormed : ℕ → Expression → Type 0
  IsFormed count (Number place value) = value ≤ max_number
  IsFormed count (Variable place number) = IsNumbered count number
  IsFormed count (Node' place head shape parts) = Fits head (row_length parts) × AreFormed count parts

  pub AreFormed : {m : _} → ℕ → Row_of-Expression m → Type 0
  AreFormed count end_of-Expression = Unit {0}
  AreFormed count (more_of-Expression x xs) = IsFormed count x × AreFormed count xs

-- both sides are
pub record IsFormedComparison (count : ℕ) (c : Comparison) : Type 0 where
  pub first : IsFormed count c.first
  pub second : IsFormed count c.second

abbrev pub IsFormedConstraint : ℕ → Constraint → Type 0
IsFormedConstraint count (constraint.Comparison c) = IsFormedComparison count c
IsFormedConstraint count (constraint.Num n) = IsNumbered count n

abbrev pub IsFormedGoal : ℕ → Goal → Type 0
IsFormedGoal count (goal.Call x) = IsFormed count x
IsFormedGoal count (goal.Comparison c) = IsFormedComparison count c
IsFormedGoal count (goal.Braces cs) = All (IsFormedConstraint count) cs

pub record IsFormedDraft (d : Draft) : Type 0 where
  pub head : IsFormed d.variables d.head
  pub goals : All (IsFormedGoal d.variables) d.goals
