-- The head of an expression, and its parts as a list.
use Rattle.std.specs.Prelude.{ℕ, Bool, false, List, [], ◌∷◌, codes, Option, Some, None}
use Rattle.std.specs.Str.{bytes_eq}
use Rattle.clp_grammar.specs.declared.expression.Head.{Head}
use Rattle.clp_grammar.specs.declared.expression.Head.TheVariants.{Application}
use Rattle.clp_grammar.specs.declared.expression.Expression.{Expression, Variable}

-- the number of a variable that is the only part
abbrev pub only_variable : List Expression → Option ℕ
only_variable (Variable place number ∷ []) = Some number
only_variable _ = None

-- the name `num`
abbrev pub is_num : Head → Bool
is_num (Application name) = bytes_eq name (codes "num")
is_num _ = false
