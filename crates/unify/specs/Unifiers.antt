-- What unify gives.
use Rattle.std.specs.Prelude.{◌≡◌, List, Some}
use Rattle.clp_model.specs.declared.tree.Variable.{Variable}
use Rattle.clp_model.specs.declared.tree.Tree.{Tree}
use Rattle.unify_model.specs.Substituting.{Binding, image}
use Rattle.unify_model.specs.Equations.{Equation}
use Rattle.unify_model.specs.Unifying.{most_general_unifier}
use Rattle.unify_model.specs.Solving.{IsMostGeneralUnifier}

-- there is a most general unifier of the equations, and f gives its images
pub record Unifies (es : List Equation) (f : Variable → Tree Variable) : Type 0 where
  pub unifier : List Binding
  pub is : most_general_unifier es ≡ Some unifier
  pub images : (v : Variable) → f v ≡ image unifier v
  pub general : IsMostGeneralUnifier es f
