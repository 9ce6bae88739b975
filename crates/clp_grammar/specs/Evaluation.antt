-- The value of a linear expression: a linear form over exact fractions. Operands are evaluated before their operator,
-- left before right.
use Rattle.std.specs.Prelude.{ℕ, List, [], ◌∷◌, Result, Ok, Err}
use Rattle.clp_model.specs.Clauses.{Row}
use Rattle.clp_model.specs.declared.sort.Rel.TheVariants.{Eq, Le, Lt}
use Rattle.token_model.specs.declared.fault.Kind.{Kind}
use Rattle.token_model.specs.declared.fault.Kind.TheVariants as kind
use Rattle.token_model.specs.declared.fault.Fault.{Fault}
use Rattle.form_model.specs.declared.fault.FormFault.{FormFault}
use Rattle.form_model.specs.declared.fault.FormFault.TheVariants.{NotLinear, ZeroDivisor, TooLarge}
use Rattle.form_model.specs.Forms as form
use Rattle.form_model.specs.Forms.{Form}
use Rattle.clp_grammar.specs.declared.expression.Operation.{Operation}
use Rattle.clp_grammar.specs.declared.expression.Operation.TheVariants.{Add, Subtract, Multiply, Divide}
use Rattle.clp_grammar.specs.declared.expression.Operator.{Operator}
use Rattle.clp_grammar.specs.declared.expression.Head.{Head}
use Rattle.clp_grammar.specs.declared.expression.Head.TheVariants as head
use Rattle.clp_grammar.specs.declared.expression.Expression.{Expression, Number, Variable, Node', Row_of-Expression, end_of-Expression, more_of-Expression}
use Rattle.clp_grammar.specs.declared.draft.Relation.{Relation}
use Rattle.clp_grammar.specs.declared.draft.Relation.TheVariants.{Equal, NumberEqual, AtMost, Less, AtLeast, Greater}
use Rattle.clp_grammar.specs.declared.draft.Comparison.{Comparison}

-- ---- faults

-- what a fault of arithmetic is called in a text
abbrev pub kind_of : FormFault → Kind
kind_of NotLinear = kind.NotLinear
kind_of ZeroDivisor = kind.ZeroDivisor
kind_of TooLarge = kind.NumberTooLarge

abbrev pub fault_at : ℕ → Kind → Fault
fault_at place k = record { left = place; kind = k }

-- a fault of arithmetic stands at this place
abbrev pub placed : {A : Type 0} → ℕ → Result A FormFault → Result A Fault
placed place (Ok a) = Ok a
placed place (Err e) = Err (fault_at place (kind_of e))

-- goes on with the value
abbrev pub with_value : {A B E : Type 0} → Result A E → (A → Result B E) → Result B E
with_value (Ok a) f = f a
with_value (Err e) f = Err e

-- ---- expressions

abbrev pub computed : Operation → Form → Form → Result Form FormFault
computed Add f g = form.sum f g
computed Subtract f g = form.difference f g
computed Multiply f g = form.product f g
computed Divide f g = form.quotient f g

abbrev pub operated : Operator → Form → Form → Result Form Fault
operated o f g = placed o.left (computed o.operation f g)

abbrev pub negated : Result Form Fault → Result Form Fault
negated (Ok f) = Ok (form.opposite f)
negated (Err e) = Err e

-- The form of an expression, where each name of the clause has this variable's number. A name, a list and an application
-- have none. A node of each kind has the parts that it needs, and a number is in range; the faults of others are never
-- met.
unfoldable mutual
  pub linear : (ℕ → ℕ) → Expression → Result Form Fault
  linear number_of (Number place value) = placed place (form.if_small_form (form.whole value))
  linear number_of (Variable place n) = Ok (form.variable (number_of n))
  linear number_of (Node' place (head.Application name) shape parts) = Err (fault_at place kind.NotLinear)
  linear number_of (Node' place head.List shape parts) = Err (fault_at place kind.NotLinear)
  linear number_of (Node' place head.OpenList shape parts) = Err (fault_at place kind.NotLinear)
  linear number_of (Node' place head.Brackets shape parts) = only_linear number_of place parts
  linear number_of (Node' place head.Plus shape parts) = only_linear number_of place parts
  linear number_of (Node' place head.Minus shape parts) = negated (only_linear number_of place parts)
  linear number_of (Node' place (head.Chain operators) shape parts) = linear_chain number_of place operators parts

  -- of the first part
  pub only_linear : {m : _} → (ℕ → ℕ) → ℕ → Row_of-Expression m → Result Form Fault
  only_linear number_of place end_of-Expression = Err (fault_at place kind.NotLinear)
  only_linear number_of place (more_of-Expression part parts) = linear number_of part

  -- of operands with these operators between them
  pub linear_chain : {m : _} → (ℕ → ℕ) → ℕ → List Operator → Row_of-Expression m → Result Form Fault
  linear_chain number_of place operators end_of-Expression = Err (fault_at place kind.NotLinear)
  linear_chain number_of place operators (more_of-Expression part parts) = with_value (linear number_of part) (linear_rest number_of operators parts)

  -- of these operands, each behind its operator, after a form
  pub linear_rest : {m : _} → (ℕ → ℕ) → List Operator → Row_of-Expression m → Form → Result Form Fault
  linear_rest number_of operators end_of-Expression f = Ok f
  linear_rest number_of [] (more_of-Expression part parts) f = Ok f
  linear_rest number_of (o ∷ operators) (more_of-Expression part parts) f =
      with_value (linear number_of part) (λ g. with_value (operated o f g) (linear_rest number_of operators parts))

-- ---- the same of a list of parts

abbrev pub only_linear_of : (ℕ → ℕ) → ℕ → List Expression → Result Form Fault
only_linear_of number_of place [] = Err (fault_at place kind.NotLinear)
only_linear_of number_of place (part ∷ parts) = linear number_of part

abbrev pub linear_rest_of : (ℕ → ℕ) → List Operator → List Expression → Form → Result Form Fault
linear_rest_of number_of operators [] f = Ok f
linear_rest_of number_of [] (part ∷ parts) f = Ok f
linear_rest_of number_of (o ∷ operators) (part ∷ parts) f =
    with_value (linear number_of part) (λ g. with_value (operated o f g) (linear_rest_of number_of operators parts))

abbrev pub linear_chain_of : (ℕ → ℕ) → ℕ → List Operator → List Expression → Result Form Fault
linear_chain_of number_of place operators [] = Err (fault_at place kind.NotLinear)
linear_chain_of number_of place operators (part ∷ parts) = with_value (linear number_of part) (linear_rest_of number_of operators parts)

-- by what the parts make
abbrev pub linear_by : (ℕ → ℕ) → ℕ → Head → List Expression → Result Form Fault
linear_by number_of place (head.Application name) parts = Err (fault_at place kind.NotLinear)
linear_by number_of place head.List parts = Err (fault_at place kind.NotLinear)
linear_by number_of place head.OpenList parts = Err (fault_at place kind.NotLinear)
linear_by number_of place head.Brackets parts = only_linear_of number_of place parts
linear_by number_of place head.Plus parts = only_linear_of number_of place parts
linear_by number_of place head.Minus parts = negated (only_linear_of number_of place parts)
linear_by number_of place (head.Chain operators) parts = linear_chain_of number_of place operators parts

-- ---- relations

-- the row of a relation between two forms: the left less the right, or the right less the left
abbrev pub row_by : Relation → Form → Form → Result Row FormFault
row_by Equal f g = with_value (form.difference f g) (form.row_of Eq)
row_by NumberEqual f g = with_value (form.difference f g) (form.row_of Eq)
row_by AtMost f g = with_value (form.difference f g) (form.row_of Le)
row_by Less f g = with_value (form.difference f g) (form.row_of Lt)
row_by AtLeast f g = with_value (form.difference g f) (form.row_of Le)
row_by Greater f g = with_value (form.difference g f) (form.row_of Lt)

-- both sides first, then the relation at its place
unfoldable pub row_of : (ℕ → ℕ) → Comparison → Result Row Fault
row_of number_of c =
    with_value (linear number_of c.first) (λ f. with_value (linear number_of c.second) (λ g. placed c.left (row_by c.relation f g)))
