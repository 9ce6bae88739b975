-- Values, and the value of a tree under a valuation.
use Rattle.std.specs.Prelude.{ℕ, suc, ℤ, ◌<◌, List, [], ◌∷◌}
use Rattle.clp_rationals.specs.Fraction.{Fraction, IsLowest}
use Rattle.clp_rationals.proofs.Lowest.{lowest_over}
use Rattle.clp_model.specs.declared.sort.Sort.{Sort}
use Rattle.clp_model.specs.declared.sort.Sort.TheVariants.{Any, Num}
use Rattle.clp_model.specs.declared.tree.Tree.{Tree, Var, App', Row_of-Tree, end_of-Tree, more_of-Tree}

-- a rational in lowest terms, or a name with a list of values
mutual
  pub data Value : Type 0 where
    Number : (f : Fraction) → IsLowest f → Value
    Named : (name : List ℕ) → Values → Value

  pub data Values : Type 0 where
    NoValue : Values
    AndValue : Value → Values → Values

abbrev pub values_of_list : List Value → Values
values_of_list [] = NoValue
values_of_list (v ∷ vs) = AndValue v (values_of_list vs)

abbrev pub count_of : Values → ℕ
count_of NoValue = 0
count_of (AndValue v vs) = suc (count_of vs)

-- a name with a list of values
pub record GroundAtom : Type 0 where
  pub name : List ℕ
  pub args : Values

-- a whole number for each Num variable, all over one whole denominator, and a value for each Any variable
pub record Valuation : Type 0 where
  pub whole : ℕ
  pub positive : 0 < whole
  pub number : ℕ → ℤ
  pub value : ℕ → Value

-- v over d, in lowest terms
unfoldable pub number_over : (v : ℤ) (d : ℕ) → 0 < d → Value
number_over v d h = let f = lowest_over v d h in Number f.0 f.1

-- what variable n of this sort stands for
abbrev pub variable_value : Valuation → ℕ → Sort → Value
variable_value u n Any = u.value n
variable_value u n Num = number_over (u.number n) u.whole u.positive

-- the tree with each variable's value in its place
unfoldable mutual
  pub value_of : (ℕ → Sort) → Valuation → Tree ℕ → Value
  value_of sort u (Var n) = variable_value u n (sort n)
  value_of sort u (App' name shape args) = Named name (row_values sort u args)

  pub row_values : {m : _} → (ℕ → Sort) → Valuation → Row_of-Tree ℕ m → Values
  row_values sort u end_of-Tree = NoValue
  row_values sort u (more_of-Tree t ts) = AndValue (value_of sort u t) (row_values sort u ts)

-- the ground atom of a value; the value of an atom is an application, so that the second case is never met
abbrev pub atom_of : Value → GroundAtom
atom_of (Named name args) = record { name = name; args = args }
atom_of (Number f lowest) = record { name = []; args = NoValue }
