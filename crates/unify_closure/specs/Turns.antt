-- The state of the loop over the equations that are left.
use Rattle.std.specs.Prelude.{ℕ, ◌≡◌, ◌<◌, ◌≤◌, ◌+◌, ◌*◌, ◌++◌, Bool, true, false, List, [], ◌∷◌, length, slice_index_or, Option, Some, None}
use Rattle.unify_closure.specs.declared.node.Node.{Node}
use Rattle.unify_closure.specs.declared.node.Node.TheVariants as node
use Rattle.unify_closure.specs.declared.closing.State.{State}
use Rattle.unify_closure.specs.Graph.{node_at}
use Rattle.unify_closure.specs.Classes.{root, AreParents, own}
use Rattle.unify_closure.specs.Closing.{Choice, IsClosing, NeverHold}

-- z was chosen, and the equations between the arguments are put last
pub record IsTakenBy (z : ℕ) (old new : List (ℕ × ℕ)) (choice : Choice) : Type 0 where
  pub pairs : List (ℕ × ℕ)
  pub is : choice ≡ Some (z, pairs)
  pub put : new ≡ old ++ pairs

-- what was chosen, with the equations between the arguments put last
abbrev pub IsTaken : Option ℕ → List (ℕ × ℕ) → List (ℕ × ℕ) → Choice → Type 0
IsTaken None old new choice = choice ≡ None
IsTaken (Some z) old new choice = IsTakenBy z old new choice

-- each of the places is below n
abbrev pub AllBelow : ℕ → List ℕ → Type 0
AllBelow n [] = Unit {0}
AllBelow n (x ∷ xs) = (x < n) × AllBelow n xs

-- the arguments of a node are places below n, and few
abbrev pub HasArguments : ℕ → Node → Type 0
HasArguments n (node.Var m s) = Unit {0}
HasArguments n (node.App name args) = AllBelow n args × (length args ≤ 4096)

-- the arguments are places of the graph, and few
abbrev pub IsGraph : List Node → Type 0
IsGraph g = (p : ℕ) → p < length g → HasArguments (length g) (node_at g p)

-- what stands for the class of a least place
abbrev pub best_at : List ℕ → ℕ → ℕ
best_at best p = slice_index_or best p 0

-- each place has a class, and what stands for a class is a place
pub record IsSound (n : ℕ) (parents best : List ℕ) : Type 0 where
  pub are : AreParents parents
  pub parents_count : length parents ≡ n
  pub best_count : length best ≡ n
  pub best_within : (p : ℕ) → p < n → best_at best p < n

-- the classes of the state are closed
abbrev pub Closes : List Node → State → List (ℕ × ℕ) → List (ℕ × ℕ) → Type 0
Closes g s work input = IsClosing g (root s.parents.items) (best_at s.best.items) work input

-- each turn lowers this
abbrev pub cost : State → ℕ
cost s = 4096 * own s.parents.items + length s.work.items

-- the classes are closed under the equations that are left, or no valuation makes the equations hold
abbrev pub Goes : List Node → State → List (ℕ × ℕ) → Bool → Type 0
Goes g s input true = Closes g s s.work.items input
Goes g s input false = NeverHold g input

-- each place is its own
pub record AreOwn (n : ℕ) (ps : List ℕ) : Type 0 where
  pub count : length ps ≡ n
  pub each : (p : ℕ) → p < n → slice_index_or ps p 0 ≡ p
