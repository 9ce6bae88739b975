-- The terms of a clause: its linear expressions become new variables with rows, and its variables get their numbers.
use Rattle.std.specs.Prelude.{ℕ, ◌+◌, ◌-◌, nat_eq, if◌then◌else◌, List, [], ◌∷◌, ◌++◌, length, codes, replicate, slice_index_or, slice_set, Result, Ok, Err}
use Rattle.clp_model.specs.declared.sort.Sort.{Sort}
use Rattle.clp_model.specs.declared.sort.Sort.TheVariants.{Any, Num}
use Rattle.clp_model.specs.declared.sort.Rel.TheVariants.{Eq}
use Rattle.clp_model.specs.declared.tree.Tree.{Tree, Var, App}
use Rattle.clp_model.specs.Clauses.{Row}
use Rattle.token_model.specs.declared.fault.Kind.TheVariants as kind
use Rattle.token_model.specs.declared.fault.Fault.{Fault}
use Rattle.token_model.specs.Parsers.{Parser, ◌>>=◌, ◌<$>◌, pure}
use Rattle.form_model.specs.Forms as form
use Rattle.form_model.specs.Forms.{Form}
use Rattle.clp_grammar.specs.declared.expression.Head.{Head}
use Rattle.clp_grammar.specs.declared.expression.Head.TheVariants as head
use Rattle.clp_grammar.specs.declared.expression.Expression.{Expression, Number, Variable, Node, Node', Row_of-Expression, end_of-Expression, more_of-Expression}
use Rattle.clp_grammar.specs.declared.draft.Comparison.{Comparison}
use Rattle.clp_grammar.specs.Evaluation.{fault_at, placed, with_value, linear, row_of}

-- what is known of a clause that is evaluated, as far as it has been
pub record Meaning : Type 0 where
  -- the variable of each name by the name's place, 0 for one that was not met yet
  pub numbers : List ℕ
  -- of each variable
  pub sorts : List Sort
  pub equations : List (Tree ℕ × Tree ℕ)
  pub rows : List Row
  pub atoms : List (Tree ℕ)

-- before anything of a clause with this many names
abbrev pub nothing : ℕ → Meaning
nothing names = record { numbers = replicate names 0; sorts = []; equations = []; rows = []; atoms = [] }

-- the variable of a name, 0 for one that was not met yet; names count from 1
abbrev pub number_in : Meaning → ℕ → ℕ
number_in m n = slice_index_or m.numbers (n - 1) 0

-- ---- variables

-- a new variable gets the next number
abbrev pub with_new : Sort → Meaning → Meaning
with_new sort m = record m { sorts = m.sorts ++ sort ∷ [] }

-- this name stands for the next variable
unfoldable pub with_name : ℕ → Meaning → Meaning
with_name n m = record (with_new Any m) { numbers = slice_set m.numbers (n - 1) (length m.sorts + 1) }

-- the name has a variable
unfoldable pub met : ℕ → Meaning → Meaning
met n m = if nat_eq (number_in m n) 0 then with_name n m else m

-- this variable is a number
abbrev pub with_num : ℕ → Meaning → Meaning
with_num v m = record m { sorts = slice_set m.sorts (v - 1) Num }

-- the name has a variable that is a number
unfoldable pub met_num : ℕ → Meaning → Meaning
met_num n m = with_num (number_in (met n m) n) (met n m)

-- the variables of a linear expression are numbers
unfoldable mutual
  pub met_all : Expression → Meaning → Meaning
  met_all (Number place value) m = m
  met_all (Variable place n) m = met_num n m
  met_all (Node' place head shape parts) m = met_parts parts m

  pub met_parts : {k : _} → Row_of-Expression k → Meaning → Meaning
  met_parts end_of-Expression m = m
  met_parts (more_of-Expression part parts) m = met_parts parts (met_all part m)

abbrev pub met_each : List Expression → Meaning → Meaning
met_each [] m = m
met_each (part ∷ parts) m = met_each parts (met_all part m)

-- ---- rows

abbrev pub with_row : Row → Meaning → Meaning
with_row row m = record m { rows = m.rows ++ row ∷ [] }

-- what was read is kept, and what is known stays beside it
abbrev pub keeping : {A : Type 0} → Result A Fault → (A → Meaning) → Result (Unit {0} × Meaning) Fault
keeping (Ok a) f = Ok (tt, f a)
keeping (Err e) f = Err e

abbrev pub sides_met : Comparison → Meaning → Meaning
sides_met c m = met_all c.second (met_all c.first m)

-- the row of a relation between linear expressions
unfoldable pub compare : Comparison → Parser Meaning (Unit {0})
compare c = λ m. let known = sides_met c m in keeping (row_of (number_in known) c) (λ row. with_row row known)

-- a linear expression as a term, from whose first byte on there are this many: a new variable that is its value
abbrev pub value_row : ℕ → ℕ → (ℕ → ℕ) → Expression → Result Row Fault
value_row begin v number_of e =
    with_value (linear number_of e) (λ f. placed begin (with_value (form.difference (form.variable v) f) (form.row_of Eq)))

abbrev pub flattened_by : Meaning → Result Row Fault → Result (Tree ℕ × Meaning) Fault
flattened_by known (Ok row) = Ok (Var (length known.sorts + 1), with_row row (with_new Num known))
flattened_by known (Err e) = Err e

unfoldable pub flattened : ℕ → Expression → Parser Meaning (Tree ℕ)
flattened begin e = λ m. let known = met_all e m in flattened_by known (value_row begin (length known.sorts + 1) (number_in known) e)

-- ---- terms

-- the list with this first element and this rest
abbrev pub cell : Tree ℕ → Tree ℕ → Tree ℕ
cell first rest = App (codes ".") (first ∷ rest ∷ [])

abbrev pub empty_list : Tree ℕ
empty_list = App (codes "[]") []

-- the list of these elements
abbrev pub list_of : List (Tree ℕ) → Tree ℕ
list_of [] = empty_list
list_of (t ∷ ts) = cell t (list_of ts)

-- the list of these elements but the last, which is its rest
abbrev pub open_list : List (Tree ℕ) → Tree ℕ
open_list [] = empty_list
open_list (t ∷ []) = t
open_list (t ∷ (u ∷ us)) = cell t (open_list (u ∷ us))

-- the place of an expression's first byte
unfoldable pub place_of : Expression → ℕ
place_of (Number place value) = place
place_of (Variable place n) = place
place_of (Node' place head shape parts) = place

-- the variable of a name
unfoldable pub named : ℕ → Parser Meaning (Tree ℕ)
named n = λ m. Ok (Var (number_in (met n m) n), met n m)

-- The term that an expression stands for, from whose first byte on there are this many. A variable, a name with or
-- without arguments and a list stand for themselves, in brackets too; every other expression is linear. Brackets have
-- one part; the fault of others is never met.
unfoldable mutual
  pub term_from : ℕ → Expression → Parser Meaning (Tree ℕ)
  term_from begin (Number place value) = flattened begin (Number place value)
  term_from begin (Variable place n) = named n
  term_from begin (Node' place (head.Application name) shape parts) = App name <$> terms parts
  term_from begin (Node' place head.List shape parts) = list_of <$> terms parts
  term_from begin (Node' place head.OpenList shape parts) = open_list <$> terms parts
  term_from begin (Node' place head.Brackets shape parts) = only_term begin parts
  term_from begin (Node' place head shape parts) = flattened begin (Node' place head shape parts)

  pub only_term : {k : _} → ℕ → Row_of-Expression k → Parser Meaning (Tree ℕ)
  only_term begin end_of-Expression = λ m. Err (fault_at begin kind.NotLinear)
  only_term begin (more_of-Expression part parts) = term_from begin part

  pub terms : {k : _} → Row_of-Expression k → Parser Meaning (List (Tree ℕ))
  terms end_of-Expression = pure []
  terms (more_of-Expression part parts) = do
    t ← term_from (place_of part) part
    ts ← terms parts
    pure (t ∷ ts)

-- the term that an expression stands for
abbrev pub term : Expression → Parser Meaning (Tree ℕ)
term e = term_from (place_of e) e

-- ---- the same of a list of parts

abbrev pub only_term_of : ℕ → List Expression → Parser Meaning (Tree ℕ)
only_term_of begin [] = λ m. Err (fault_at begin kind.NotLinear)
only_term_of begin (part ∷ parts) = term_from begin part

abbrev pub terms_of : List Expression → Parser Meaning (List (Tree ℕ))
terms_of [] = pure []
terms_of (part ∷ parts) = do
  t ← term part
  ts ← terms_of parts
  pure (t ∷ ts)

-- by what the parts make
abbrev pub term_by : ℕ → ℕ → Head → List Expression → Parser Meaning (Tree ℕ)
term_by begin place (head.Application name) parts = App name <$> terms_of parts
term_by begin place head.List parts = list_of <$> terms_of parts
term_by begin place head.OpenList parts = open_list <$> terms_of parts
term_by begin place head.Brackets parts = only_term_of begin parts
term_by begin place other parts = flattened begin (Node place other parts)
