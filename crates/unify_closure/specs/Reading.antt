-- The bindings read off the classes, where the places are in an order that goes from arguments to applications.
use Rattle.std.specs.Prelude.{ℕ, ◌≡◌, ◌<◌, ◌⊎◌, nat_eq, if◌then◌else◌, List, [], ◌∷◌, length}
use Rattle.clp_model.specs.declared.sort.Sort.{Sort}
use Rattle.clp_model.specs.declared.tree.Variable.{Variable}
use Rattle.clp_model.specs.declared.tree.Tree.{Tree}
use Rattle.clp_model.proofs.Membership.{Among}
use Rattle.unify_model.specs.Substituting.{Binding}
use Rattle.unify_model.specs.Equations.{Equation}
use Rattle.unify_closure.specs.declared.node.Node.{Node}
use Rattle.unify_closure.specs.declared.node.Node.TheVariants as node
use Rattle.unify_closure.specs.Graph.{node_at, variable_of}

-- each of the places is among ps
abbrev pub AllAmong : List ℕ → List ℕ → Type 0
AllAmong ps [] = Unit {0}
AllAmong ps (x ∷ xs) = Among x ps × AllAmong ps xs

-- the arguments of the node are among ps
abbrev pub HasAmong : List ℕ → Node → Type 0
HasAmong ps (node.Var n s) = Unit {0}
HasAmong ps (node.App name args) = AllAmong ps args

-- a place may follow others: its arguments are among them, and what stands for it
pub record Follows (g : List Node) (rep : ℕ → ℕ) (ps : List ℕ) (p : ℕ) : Type 0 where
  pub within : p < length g
  pub new : Among p ps → ⊥
  pub arguments : HasAmong ps (node_at g p)
  pub stands : (rep p ≡ p) ⊎ Among (rep p) ps

-- the latest place first
abbrev pub IsOrder : List Node → (ℕ → ℕ) → List ℕ → Type 0
IsOrder g rep [] = Unit {0}
IsOrder g rep (p ∷ ps) = Follows g rep ps p × IsOrder g rep ps

-- a binding of the variable of p, if another place r stands for it
abbrev pub with_binding : (ℕ → Tree Variable) → ℕ → Node → ℕ → List Binding → List Binding
with_binding trees p (node.Var n s) r bs = if nat_eq r p then bs else (variable_of n s, trees r) ∷ bs
with_binding trees p (node.App name args) r bs = bs

-- a binding for each variable for which another place stands
abbrev pub bindings : List Node → (ℕ → Tree Variable) → (ℕ → ℕ) → List ℕ → List Binding
bindings g trees rep [] = []
bindings g trees rep (p ∷ ps) = with_binding trees p (node_at g p) (rep p) (bindings g trees rep ps)

-- the equations between the trees of the places
abbrev pub equations : (ℕ → Tree Variable) → List (ℕ × ℕ) → List Equation
equations trees [] = []
equations trees (e ∷ es) = (trees e.0, trees e.1) ∷ equations trees es

-- each variable has one place
abbrev pub HasOnePlace : List Node → Type 0
HasOnePlace g = (p q n : ℕ) (s : Sort) → p < length g → q < length g → node_at g p ≡ node.Var n s → node_at g q ≡ node.Var n s → p ≡ q
