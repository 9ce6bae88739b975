-- The rules of expressions, where this many more brackets may be open.
use Rattle.std.specs.Prelude.{ℕ, List}
use Rattle.token_model.specs.declared.token.Lexeme.{Lexeme}
use Rattle.token_model.specs.Parsers.{Parser}
use Rattle.clp_grammar.specs.declared.expression.Head.{Head}
use Rattle.clp_grammar.specs.declared.expression.Expression.{Expression}
use Rattle.clp_grammar.specs.Input.{Input}
use Rattle.clp_grammar.specs.Expressions as e

abbrev pub application : ℕ → Lexeme → Parser Input Expression
application more = e.application more (e.arguments more) (e.bracketed more) (e.list more)

abbrev pub primary : ℕ → Parser Input Expression
primary more = e.primary more (e.arguments more) (e.bracketed more) (e.list more)

abbrev pub behind_sign : ℕ → Head → Parser Input Expression
behind_sign more = e.behind_sign more (e.arguments more) (e.bracketed more) (e.list more)

abbrev pub signed : ℕ → Parser Input Expression
signed more = e.signed more (e.arguments more) (e.bracketed more) (e.list more)

abbrev pub product : ℕ → Parser Input Expression
product more = e.product more (e.arguments more) (e.bracketed more) (e.list more)

abbrev pub elements : ℕ → ℕ → List Expression → Parser Input Expression
elements more = e.elements_with more (e.arguments more) (e.bracketed more) (e.list more) (e.after_comma more)

-- by the token behind an element
abbrev pub elements_by : ℕ → ℕ → List Expression → Lexeme → Parser Input Expression
elements_by more = e.elements_by more (e.arguments more) (e.bracketed more) (e.list more) (e.after_comma more)
