-- The terms that are made of the terms of parts.
use Rattle.std.specs.Prelude.{ℕ, List}
use Rattle.clp_model.specs.declared.tree.Tree.{Tree, App}
use Rattle.token_model.specs.Parsers.{Parser, ◌<$>◌}
use Rattle.clp_grammar.specs.declared.expression.Expression.{Expression}
use Rattle.clp_grammar.specs.Terms.{Meaning, terms_of, list_of, open_list}

-- a name with arguments
abbrev pub application : List ℕ → List Expression → Parser Meaning (Tree ℕ)
application name parts = App name <$> terms_of parts

-- a list
abbrev pub list : List Expression → Parser Meaning (Tree ℕ)
list parts = list_of <$> terms_of parts

-- a list whose last part is its rest
abbrev pub list_with_rest : List Expression → Parser Meaning (Tree ℕ)
list_with_rest parts = open_list <$> terms_of parts
