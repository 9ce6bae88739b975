-- Expressions: sums of products of signed primary expressions.
use Rattle.std.specs.Prelude.{ℕ, zero, suc, if◌then◌else◌, List, [], ◌∷◌, ◌++◌, Option, Some, None}
use Rattle.token_model.specs.declared.token.Lexeme.{Lexeme}
use Rattle.token_model.specs.declared.token.Lexeme.TheVariants as l
use Rattle.token_model.specs.declared.fault.Kind.TheVariants.{TooDeep}
use Rattle.token_model.specs.Parsers.{Parser, ◌>>=◌, ◌>>◌, ◌<$>◌, pure}
use Rattle.clp_grammar.specs.declared.expression.Operation.{Operation}
use Rattle.clp_grammar.specs.declared.expression.Operation.TheVariants.{Add, Subtract, Multiply, Divide}
use Rattle.clp_grammar.specs.declared.expression.Operator.{Operator}
use Rattle.clp_grammar.specs.declared.expression.Head.{Head}
use Rattle.clp_grammar.specs.declared.expression.Head.TheVariants as head
use Rattle.clp_grammar.specs.declared.expression.Expression.{Expression, Number, Variable, Node}
use Rattle.clp_grammar.specs.Input.{Input, fail, refuse, here, peek, comes, pass, eat, expect, name, number, separated}
use Rattle.clp_grammar.specs.Names.{variable}

-- ---- operators between operands

-- the operation between two products that such a token stands for
abbrev pub sum_operation : Lexeme → Option Operation
sum_operation l.Plus = Some Add
sum_operation l.Minus = Some Subtract
sum_operation _ = None

-- the operation between two factors
abbrev pub product_operation : Lexeme → Option Operation
product_operation l.Times = Some Multiply
product_operation l.Over = Some Divide
product_operation _ = None

-- one operand stands for itself
unfoldable pub chained : ℕ → List Operator → List Expression → Expression
chained begin [] [] = Node begin (head.Chain []) []
chained begin [] (x ∷ parts) = x
chained begin (o ∷ operators) parts = Node begin (head.Chain (o ∷ operators)) parts

module _ (operation_of : Lexeme → Option Operation) (operand : Parser Input Expression) where
  -- an operator with its second operand, and then `again` with the operators and operands so far; or the end of the chain
  abbrev pub link_by : ℕ → List Operator → List Expression → (List Operator → List Expression → Parser Input Expression) → Option Operation → Parser Input Expression
  link_by begin operators parts again None = pure (chained begin operators parts)
  link_by begin operators parts again (Some operation) = do
    place ← here
    pass
    part ← operand
    again (operators ++ record { operation = operation; left = place } ∷ []) (parts ++ part ∷ [])

  -- Operators with their operands, as long as an operator comes next. The number bounds the turns, and each takes a
  -- token, so the count of bytes is enough.
  unfoldable pub chain_from : ℕ → ℕ → List Operator → List Expression → Parser Input Expression
  chain_from zero begin operators parts = pure (chained begin operators parts)
  chain_from (suc n) begin operators parts = peek >>= (λ next. link_by begin operators parts (chain_from n begin) (operation_of next))

  -- operands with operators between them
  unfoldable pub chain : Parser Input Expression
  chain = do
    begin ← here
    first ← operand
    turns ← here
    chain_from turns begin [] (first ∷ [])

-- ---- expressions, where this many more brackets may be open

module _ (more : ℕ) (arguments : Parser Input (List Expression)) (bracketed : Parser Input Expression) (list : Parser Input Expression) where
  -- a name, plain or quoted, with or without arguments
  unfoldable pub application : Lexeme → Parser Input Expression
  application lexeme = do
    place ← here
    spelled ← name lexeme
    has_arguments ← comes l.OpenRound
    if has_arguments then Node place (head.Application spelled) <$> arguments else pure (Node place (head.Application spelled) [])

  -- by the token that comes next
  abbrev pub primary_by : Lexeme → Parser Input Expression
  primary_by l.Number = here >>= (λ place. Number place <$> number)
  primary_by l.Variable = here >>= (λ place. Variable place <$> variable)
  primary_by l.Name = application l.Name
  primary_by l.Quoted = application l.Quoted
  primary_by l.OpenRound = bracketed
  primary_by l.OpenSquare = list
  primary_by _ = refuse more

  unfoldable pub primary : Parser Input Expression
  primary = peek >>= primary_by

  -- a sign and what it stands before
  unfoldable pub behind_sign : Head → Parser Input Expression
  behind_sign sign = do
    place ← here
    pass
    part ← primary
    pure (Node place sign (part ∷ []))

  abbrev pub signed_by : Lexeme → Parser Input Expression
  signed_by l.Plus = behind_sign head.Plus
  signed_by l.Minus = behind_sign head.Minus
  signed_by _ = primary

  unfoldable pub signed : Parser Input Expression
  signed = peek >>= signed_by

  abbrev pub product : Parser Input Expression
  product = chain product_operation signed

  abbrev pub sum : Parser Input Expression
  sum = chain sum_operation product

  -- the elements of a list from one on, after those that were found, and its end
  module _ (after_comma : ℕ → List Expression → Parser Input Expression) where
    abbrev pub elements_by : ℕ → List Expression → Lexeme → Parser Input Expression
    elements_by place found l.Comma = after_comma place found
    elements_by place found l.Bar = do
      pass
      rest ← sum
      expect more l.CloseSquare
      pure (Node place head.OpenList (found ++ rest ∷ []))
    elements_by place found _ = do
      expect more l.CloseSquare
      pure (Node place head.List found)

    unfoldable pub elements_with : ℕ → List Expression → Parser Input Expression
    elements_with place found = do
      element ← sum
      next ← peek
      elements_by place (found ++ element ∷ []) next

    -- a list of which the opening bracket was passed
    unfoldable pub list_with : ℕ → Parser Input Expression
    list_with place = do
      is_empty ← eat l.CloseSquare
      if is_empty then pure (Node place head.List []) else elements_with place []

-- Each opening bracket and each comma between elements leaves room for one bracket less.
unfoldable mutual
  -- arguments in round brackets
  pub arguments : ℕ → Parser Input (List Expression)
  arguments zero = fail TooDeep
  arguments (suc more) = do
    pass
    found ← separated (sum more (arguments more) (bracketed more) (list more))
    expect more l.CloseRound
    pure found

  -- an expression in round brackets
  pub bracketed : ℕ → Parser Input Expression
  bracketed zero = fail TooDeep
  bracketed (suc more) = do
    place ← here
    pass
    part ← sum more (arguments more) (bracketed more) (list more)
    expect more l.CloseRound
    pure (Node place head.Brackets (part ∷ []))

  -- a list
  pub list : ℕ → Parser Input Expression
  list zero = fail TooDeep
  list (suc more) = do
    place ← here
    pass
    list_with more (arguments more) (bracketed more) (list more) (after_comma more) place

  -- the rest of a list from a comma on, after the elements that were found
  pub after_comma : ℕ → ℕ → List Expression → Parser Input Expression
  after_comma zero place found = fail TooDeep
  after_comma (suc more) place found = do
    pass
    elements_with more (arguments more) (bracketed more) (list more) (after_comma more) place found

-- an expression
abbrev pub expression : ℕ → Parser Input Expression
expression more = sum more (arguments more) (bracketed more) (list more)
