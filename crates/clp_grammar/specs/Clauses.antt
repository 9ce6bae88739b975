-- The source clause that a parsed clause stands for.
use Rattle.std.specs.Prelude.{ℕ, if◌then◌else◌, List, [], ◌∷◌, ◌++◌, codes, Option, Some, None, Result, Ok, Err}
use Rattle.std.specs.Option.{option_or}
use Rattle.std.specs.Str.{bytes_eq}
use Rattle.clp_model.specs.declared.tree.Tree.{Tree}
use Rattle.clause_store.specs.declared.source.SourceClause.{SourceClause}
use Rattle.token_model.specs.declared.fault.Kind.TheVariants.{NotAnAtom, Reserved}
use Rattle.token_model.specs.declared.fault.Fault.{Fault}
use Rattle.token_model.specs.Parsers.{Parser, ◌>>=◌, ◌>>◌, pure, value_of}
use Rattle.clp_grammar.specs.declared.nature.Nature.{Nature}
use Rattle.clp_grammar.specs.declared.nature.Nature.TheVariants.{Atom, True, Other}
use Rattle.clp_grammar.specs.declared.expression.Head.{Head}
use Rattle.clp_grammar.specs.declared.expression.Head.TheVariants as head
use Rattle.clp_grammar.specs.declared.expression.Expression.{Expression, Number, Variable, Node', Row_of-Expression, end_of-Expression, more_of-Expression}
use Rattle.clp_grammar.specs.declared.draft.Relation.{Relation}
use Rattle.clp_grammar.specs.declared.draft.Relation.TheVariants.{Equal}
use Rattle.clp_grammar.specs.declared.draft.Comparison.{Comparison}
use Rattle.clp_grammar.specs.declared.draft.Constraint.{Constraint}
use Rattle.clp_grammar.specs.declared.draft.Constraint.TheVariants as constraint
use Rattle.clp_grammar.specs.declared.draft.Goal.{Goal}
use Rattle.clp_grammar.specs.declared.draft.Goal.TheVariants as goal
use Rattle.clp_grammar.specs.declared.draft.Draft.{Draft}
use Rattle.clp_grammar.specs.Evaluation.{fault_at}
use Rattle.clp_grammar.specs.Terms.{Meaning, nothing, met_num, compare, place_of, term}

-- ---- heads and goals that are no atoms

-- of a name with these arguments
abbrev pub nature_of_name : {m : _} → List ℕ → Row_of-Expression m → Nature
nature_of_name name end_of-Expression = if bytes_eq name (codes "true") then True else Atom
nature_of_name name (more_of-Expression part parts) = Atom

-- what an expression is within any number of round brackets
unfoldable mutual
  pub nature : Expression → Nature
  nature (Number place value) = Other
  nature (Variable place n) = Other
  nature (Node' place (head.Application name) shape parts) = nature_of_name name parts
  nature (Node' place head.Brackets shape parts) = only_nature parts
  nature (Node' place head shape parts) = Other

  pub only_nature : {m : _} → Row_of-Expression m → Nature
  only_nature end_of-Expression = Other
  only_nature (more_of-Expression part parts) = nature part

-- the same of a list of parts
abbrev pub name_nature_of : List ℕ → List Expression → Nature
name_nature_of name [] = if bytes_eq name (codes "true") then True else Atom
name_nature_of name (part ∷ parts) = Atom

abbrev pub only_nature_of : List Expression → Nature
only_nature_of [] = Other
only_nature_of (part ∷ parts) = nature part

abbrev pub nature_by : Head → List Expression → Nature
nature_by (head.Application name) parts = name_nature_of name parts
nature_by head.Brackets parts = only_nature_of parts
nature_by other parts = Other

-- what is wrong with a head at this place
abbrev pub head_fault_by : ℕ → Nature → Option Fault
head_fault_by place Atom = None
head_fault_by place True = Some (fault_at place Reserved)
head_fault_by place Other = Some (fault_at place NotAnAtom)

-- what is wrong with a goal without relation at this place
abbrev pub call_fault_by : ℕ → Nature → Option Fault
call_fault_by place Atom = None
call_fault_by place True = None
call_fault_by place Other = Some (fault_at place NotAnAtom)

abbrev pub goal_fault : Goal → Option Fault
goal_fault (goal.Call e) = call_fault_by (place_of e) (nature e)
goal_fault (goal.Comparison c) = None
goal_fault (goal.Braces constraints) = None

abbrev pub goals_fault : List Goal → Option Fault
goals_fault [] = None
goals_fault (g ∷ goals) = option_or (goal_fault g) (goals_fault goals)

-- the first head or goal that should be an atom and is none
unfoldable pub misplaced : Draft → Option Fault
misplaced d = option_or (head_fault_by (place_of d.head) (nature d.head)) (goals_fault d.goals)

-- ---- goals

abbrev pub with_atom : Tree ℕ → Meaning → Meaning
with_atom t m = record m { atoms = m.atoms ++ t ∷ [] }

-- the goal `true` stands for nothing
abbrev pub call_by : Nature → Expression → Parser Meaning (Unit {0})
call_by True e = pure tt
call_by _ e = do
  atom ← term e
  λ m. Ok (tt, with_atom atom m)

unfoldable pub call : Expression → Parser Meaning (Unit {0})
call e = call_by (nature e) e

-- an equation of terms
unfoldable pub equate : Comparison → Parser Meaning (Unit {0})
equate c = do
  first ← term c.first
  second ← term c.second
  λ m. Ok (tt, record m { equations = m.equations ++ (first, second) ∷ [] })

-- by the relation: outside braces `=` is one of terms
abbrev pub relate_by : Relation → Comparison → Parser Meaning (Unit {0})
relate_by Equal c = equate c
relate_by _ c = compare c

abbrev pub constrain : Constraint → Parser Meaning (Unit {0})
constrain (constraint.Comparison c) = compare c
constrain (constraint.Num n) = λ m. Ok (tt, met_num n m)

abbrev pub constrain_all : List Constraint → Parser Meaning (Unit {0})
constrain_all [] = pure tt
constrain_all (c ∷ constraints) = constrain c >> constrain_all constraints

abbrev pub mean : Goal → Parser Meaning (Unit {0})
mean (goal.Call e) = call e
mean (goal.Comparison c) = relate_by c.relation c
mean (goal.Braces constraints) = constrain_all constraints

abbrev pub mean_all : List Goal → Parser Meaning (Unit {0})
mean_all [] = pure tt
mean_all (g ∷ goals) = mean g >> mean_all goals

-- ---- clauses

-- the head first, then the goals
unfoldable pub evaluated : Draft → Parser Meaning SourceClause
evaluated d = do
  head ← term d.head
  mean_all d.goals
  λ m. Ok (record { head = head; equations = m.equations; rows = m.rows; atoms = m.atoms; sorts = m.sorts }, m)

abbrev pub unless : {A : Type 0} → Option Fault → Result A Fault → Result A Fault
unless (Some f) other = Err f
unless None other = other

-- the source clause of a parsed clause, or its first fault: heads and goals that are no atoms come first
unfoldable pub meaning : Draft → Result SourceClause Fault
meaning d = unless (misplaced d) (value_of (evaluated d (nothing d.variables)))
