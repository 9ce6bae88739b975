-- What is said of each variable of an expression.
use Rattle.std.specs.Prelude.{ℕ}
use Rattle.clp_grammar.specs.declared.expression.Expression.{Expression, Number, Variable, Node', Row_of-Expression, end_of-Expression, more_of-Expression}

-- each variable's number has this property
unfoldable mutual
  pub EachVariable : (ℕ → Type 0) → Expression → Type 0
  EachVariable P (Number place value) = Unit {0}
  EachVariable P (Variable place n) = P n
  EachVariable P (Node' place head shape parts) = EachVariableOf P parts

  pub EachVariableOf : {m : _} → (ℕ → Type 0) → Row_of-Expression m → Type 0
  EachVariableOf P end_of-Expression = Unit {0}
  EachVariableOf P (more_of-Expression part parts) = EachVariable P part × EachVariableOf P parts
