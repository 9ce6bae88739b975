-- Places in an order that goes from arguments to applications, by a stack of places that are entered and left.
use Rattle.std.specs.Prelude.{ℕ, ◌≡◌, ◌<◌, ◌+◌, Bool, true, false, nat_eq, if◌then◌else◌, List, [], ◌∷◌, length, map, slice_index_or}
use Rattle.clp_model.specs.declared.tree.Variable.{Variable}
use Rattle.clp_model.specs.declared.tree.Tree.{Tree}
use Rattle.clp_model.specs.Values.{Value, Valuation}
use Rattle.clp_model.proofs.Membership.{Among}
use Rattle.unify_model.specs.Equations.{under}
use Rattle.unify_closure.specs.declared.node.Node.{Node}
use Rattle.unify_closure.specs.declared.node.Node.TheVariants as node
use Rattle.unify_closure.specs.Graph.{node_at, Describes, value_at}

-- the last one first
abbrev pub latest_onto : {A : Type 0} → List A → List A → List A
latest_onto acc [] = acc
latest_onto acc (x ∷ xs) = latest_onto (x ∷ acc) xs

-- the last one first
abbrev pub latest : {A : Type 0} → List A → List A
latest xs = latest_onto [] xs

-- the place that stands for p, unless it is p, and its arguments
abbrev pub kids_by : ℕ → ℕ → Node → List ℕ
kids_by p r (node.Var n s) = if nat_eq r p then [] else r ∷ []
kids_by p r (node.App name args) = if nat_eq r p then args else r ∷ args

-- what stands for a place
abbrev pub rep_of : List ℕ → ℕ → ℕ
rep_of stands p = slice_index_or stands p 0

-- the places that come before a place in the order
abbrev pub kids : List Node → List ℕ → ℕ → List ℕ
kids g stands p = kids_by p (rep_of stands p) (node_at g p)

-- whether a place is marked
abbrev pub is_marked : List Bool → ℕ → Bool
is_marked marks p = slice_index_or marks p false

-- a place, and whether it is left (or entered)
abbrev pub Visit : Type 0
Visit = ℕ × Bool

-- visits that enter the places
abbrev pub entering : List ℕ → List Visit
entering ps = map (λ p. (p, false)) ps

-- where each place has the value of what stands for it, x is a proper part of p, or stands for p
abbrev pub Solves : List Node → List ℕ → (ℕ → Value) → Type 0
Solves g stands value = (p : ℕ) → p < length g → value p ≡ value (rep_of stands p)

-- how many places are not marked
abbrev pub unmarked : List Bool → ℕ
unmarked [] = 0
unmarked (true ∷ bs) = unmarked bs
unmarked (false ∷ bs) = 1 + unmarked bs

-- what stands for a place is a place, and stands for itself
abbrev pub AreStands : List Node → List ℕ → Type 0
AreStands g stands = (p : ℕ) → p < length g → (rep_of stands p < length g) × (rep_of stands (rep_of stands p) ≡ rep_of stands p)

-- no valuation gives each place the value of what stands for it
abbrev pub NeverSolves : List Node → List ℕ → Type 0
NeverSolves g stands = (trees : ℕ → Tree Variable) → Describes g trees → (u : Valuation) → Solves g stands (value_at (under u) trees) → ⊥

-- no place is marked
pub record AreUnmarked (n : ℕ) (bs : List Bool) : Type 0 where
  pub count : length bs ≡ n
  pub each : (p : ℕ) → is_marked bs p ≡ false

-- each place is entered
pub record AreEntered (n : ℕ) (es : List Visit) : Type 0 where
  pub within : (p : ℕ) (b : Bool) → Among (p, b) es → (p < n) × (b ≡ false)
  pub every : (p : ℕ) → p < n → Among (p, false) es
