-- What the unifier of equations between places of a graph is.
use Rattle.std.specs.Prelude.{ℕ, ◌≡◌, ◌<◌, List, length, Some, None}
use Rattle.clp_model.specs.declared.tree.Variable.{Variable}
use Rattle.clp_model.specs.declared.tree.Tree.{Tree}
use Rattle.unify_model.specs.Substituting.{Binding, image}
use Rattle.unify_model.specs.Equations.{Equation}
use Rattle.unify_model.specs.Unifying.{most_general_unifier}
use Rattle.unify_model.specs.Solving.{IsMostGeneralUnifier}
use Rattle.unify_laws.proofs.Triangular.{AreTriangular}
use Rattle.unify_closure.specs.declared.node.Node.{Node}
use Rattle.unify_closure.specs.declared.closing.State.{State}
use Rattle.unify_closure.specs.declared.solving.Solved.{Solved}
use Rattle.unify_closure.specs.Graph.{Describes}
use Rattle.unify_closure.specs.Classes.{root}
use Rattle.unify_closure.specs.Turns.{best_at, AllBelow}
use Rattle.unify_closure.specs.Reading.{bindings, equations}
use Rattle.unify_closure.specs.Sorting.{rep_of, latest}

-- what stands for each place is what stands for its class
pub record StandsFor (n : ℕ) (s : State) (stands : List ℕ) : Type 0 where
  pub count : length stands ≡ n
  pub each : (p : ℕ) → p < n → rep_of stands p ≡ best_at s.best.items (root s.parents.items p)

-- the bindings that are read, whatever the trees of the graph are
abbrev pub read_bindings : List Node → (ℕ → Tree Variable) → Solved → List Binding
read_bindings g trees s = bindings g trees (rep_of s.stands.items) (latest s.order.items)

-- there is a most general unifier, and it has the images of the bindings
pub record HasImages (es : List Equation) (bs : List Binding) : Type 0 where
  pub unifier : List Binding
  pub is : most_general_unifier es ≡ Some unifier
  pub images : (v : Variable) → image unifier v ≡ image bs v

-- the bindings, carried out one after another, are the most general unifier, and none speaks of a variable that is bound before it
pub record AreMostGeneral (es : List Equation) (bs : List Binding) : Type 0 where
  pub images : HasImages es bs
  pub solution : IsMostGeneralUnifier es (image bs)
  pub order : AreTriangular (λ v. Unit {0}) bs

-- what stands for the places are places, and those in order are places
pub record HasPlaces (n : ℕ) (s : Solved) : Type 0 where
  pub count : length s.stands.items ≡ n
  pub stands : (p : ℕ) → p < n → rep_of s.stands.items p < n
  pub order : AllBelow n s.order.items

-- the bindings that are read are the most general unifier, whatever the trees of the graph are
abbrev pub IsMostGeneral : List Node → List (ℕ × ℕ) → Solved → Type 0
IsMostGeneral g input s = (trees : ℕ → Tree Variable) → Describes g trees → AreMostGeneral (equations trees input) (read_bindings g trees s)

-- there is no unifier, whatever the trees of the graph are
abbrev pub HasNoUnifier : List Node → List (ℕ × ℕ) → Type 0
HasNoUnifier g input = (trees : ℕ → Tree Variable) → Describes g trees → most_general_unifier (equations trees input) ≡ None
