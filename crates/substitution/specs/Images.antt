-- The images of a substitution whose trees are terms of a store.
use Rattle.std.specs.Prelude.{List}
use Rattle.clp_model.specs.declared.tree.Variable.{Variable}
use Rattle.clp_model.specs.declared.tree.Tree.{Tree}
use Rattle.unify_model.specs.Substituting.{substituted, Binding, image}
use Rattle.unify_model.specs.Matching.{image_at_once}
use Rattle.unify_laws.proofs.Triangular.{AreTriangular}
use Rattle.substitution.specs.declared.images.Kind.{Kind}
use Rattle.substitution.specs.declared.images.Kind.TheVariants as kind
use Rattle.substitution.specs.declared.images.Images.{Images}
use Rattle.substitution.specs.Bindings.{bound, AreBound}

-- what a variable becomes where the bindings are carried out one after another, the latest first, or all at once
abbrev pub images_by : Kind → List Binding → Variable → Tree Variable
images_by kind.InTurn bs v = image bs v
images_by kind.AtOnce bs v = image_at_once bs v

-- the images, read in a store
abbrev pub images_of : List (Tree Variable) → Images → Variable → Tree Variable
images_of store m = images_by m.kind (bound store m.bindings)

-- what is made of the tree of a binding
abbrev pub carried : Kind → (Variable → Tree Variable) → Tree Variable → Tree Variable
carried kind.InTurn f t = substituted f t
carried kind.AtOnce f t = t

-- bindings that are carried out one after another speak of no variable that an earlier one takes away
abbrev pub AreOrdered : Kind → List Binding → Type 0
AreOrdered kind.InTurn bs = AreTriangular (λ v. Unit {0}) bs
AreOrdered kind.AtOnce bs = Unit {0}

-- the terms are of the store, and the bindings are in order
pub record AreImages (store : List (Tree Variable)) (m : Images) : Type 0 where
  pub terms : AreBound store m.bindings
  pub order : AreOrdered m.kind (bound store m.bindings)
