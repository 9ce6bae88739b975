-- Equations between trees, and what makes them hold.
use Rattle.std.specs.Prelude.{◌≡◌, List, [], ◌∷◌}
use Rattle.clp_model.specs.declared.tree.Variable.{Variable}
use Rattle.clp_model.specs.declared.tree.Tree.{Tree, Var, App', Row_of-Tree, end_of-Tree, more_of-Tree}
use Rattle.clp_model.specs.Values.{Value, Values, Named, NoValue, AndValue, Valuation, variable_value}

abbrev pub Equation : Type 0
Equation = Tree Variable × Tree Variable

-- the tree with a value in each variable's place
unfoldable mutual
  pub value_by : {V : Type 0} → (V → Value) → Tree V → Value
  value_by a (Var v) = a v
  value_by a (App' name shape args) = Named name (row_by a args)

  pub row_by : {V : Type 0} {m : _} → (V → Value) → Row_of-Tree V m → Values
  row_by a end_of-Tree = NoValue
  row_by a (more_of-Tree t ts) = AndValue (value_by a t) (row_by a ts)

-- the value of each variable
abbrev pub under : Valuation → Variable → Value
under u v = variable_value u v.number v.sort

abbrev pub Holds : (Variable → Value) → Equation → Type 0
Holds a e = value_by a e.0 ≡ value_by a e.1

abbrev pub AllHold : (Variable → Value) → List Equation → Type 0
AllHold a [] = Unit {0}
AllHold a (e ∷ es) = Holds a e × AllHold a es
