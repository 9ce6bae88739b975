-- What a most general unifier is, whatever computes it.
use Rattle.std.specs.Prelude.{◌≡◌, ◌↔◌, List, IsTrue, ◌⊎◌}
use Rattle.clp_model.specs.declared.sort.Sort.TheVariants.{Num}
use Rattle.clp_model.specs.declared.tree.Variable.{Variable}
use Rattle.clp_model.specs.declared.tree.Tree.{Tree, Var}
use Rattle.clp_model.specs.Values.{Value, Valuation}
use Rattle.unify_model.specs.Substituting.{substituted, comes_before}
use Rattle.unify_model.specs.Equations.{Equation, AllHold, under, value_by}

-- each variable has the value of its image
abbrev pub Agrees : (Variable → Value) → (Variable → Tree Variable) → Type 0
Agrees a s = (v : Variable) → a v ≡ value_by a (s v)

-- the valuations that make the equations hold are those under which each variable has the value of its image
abbrev pub HasSolutionsOf : List Equation → (Variable → Tree Variable) → Type 0
HasSolutionsOf es s = (u : Valuation) → AllHold (under u) es ↔ Agrees (under u) s

-- an image that is a variable is this one or comes before it, and the image of a Num variable is a variable
pub record IsImage (v : Variable) (t : Tree Variable) : Type 0 where
  pub least : (r : Variable) → t ≡ Var r → (r ≡ v) ⊎ IsTrue (comes_before r v)
  pub number : v.sort ≡ Num → (r : Variable) × (t ≡ Var r)

-- the images solve the equations; no image changes where it is substituted again; the variable that stands for others is the least
pub record IsMostGeneralUnifier (es : List Equation) (s : Variable → Tree Variable) : Type 0 where
  pub solutions : HasSolutionsOf es s
  pub settled : (v : Variable) → substituted s (s v) ≡ s v
  pub images : (v : Variable) → IsImage v (s v)

abbrev pub HasNoSolution : List Equation → Type 0
HasNoSolution es = (u : Valuation) → AllHold (under u) es → ⊥
