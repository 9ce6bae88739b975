-- What a visit of the walk keeps.
use Rattle.std.specs.Prelude.{ℕ, ◌≡◌, ◌⊎◌, ◌<◌, ◌+◌, ◌*◌, Bool, true, false, nat_eq, List, [], ◌∷◌, length}
use Rattle.clp_model.specs.declared.tree.Variable.{Variable}
use Rattle.clp_model.specs.declared.tree.Tree.{Tree}
use Rattle.clp_model.specs.Values.{Value, Valuation}
use Rattle.clp_model.proofs.Membership.{Among}
use Rattle.unify_model.specs.Equations.{under}
use Rattle.unify_laws.proofs.Sizes.{nodes}
use Rattle.unify_closure.specs.declared.node.Node.{Node}
use Rattle.unify_closure.specs.declared.sorting.Walk.{Walk}
use Rattle.unify_closure.specs.Graph.{Describes, value_at}
use Rattle.unify_closure.specs.Reading.{IsOrder}
use Rattle.unify_closure.specs.Sorting.{Visit, latest, kids, rep_of, is_marked, Solves, NeverSolves, unmarked}

-- 1 for a place that stands for itself
abbrev pub weight : Bool → ℕ
weight true = 0
weight false = 1

-- a number that is less for a part of a value, and for what stands for a place
abbrev pub key_of : List ℕ → (ℕ → Value) → ℕ → ℕ
key_of stands v p = 2 * nodes (v p) + weight (nat_eq (rep_of stands p) p)

-- under each valuation that gives places the values of what stands for them, x is less
abbrev pub IsBelow : List Node → List ℕ → ℕ → ℕ → Type 0
IsBelow g stands x p =
    (trees : ℕ → Tree Variable) → Describes g trees → (u : Valuation) → Solves g stands (value_at (under u) trees)
    → key_of stands (value_at (under u) trees) x < key_of stands (value_at (under u) trees) p

-- q comes before p in the order
abbrev pub IsKid : List Node → List ℕ → ℕ → ℕ → Type 0
IsKid g stands q p = (p < length g) × Among q (kids g stands p)

-- a place that is to be left: its kids are done or above, and all above are below it in value
abbrev pub IsVisit : (Kid Below : ℕ → ℕ → Type 0) → (Done Above : ℕ → Type 0) → Visit → Type 0
IsVisit Kid Below Done Above (p, false) = Unit {0}
IsVisit Kid Below Done Above (p, true) = ((q : ℕ) → Kid q p → Done q ⊎ Above q) × ((x : ℕ) → Above x → Below x p)

-- the visits of a stack, the next first
abbrev pub IsStack : (Kid Below : ℕ → ℕ → Type 0) → (Done Above : ℕ → Type 0) → List Visit → Type 0
IsStack Kid Below Done Above [] = Unit {0}
IsStack Kid Below Done Above (e ∷ es) = IsVisit Kid Below Done Above e × IsStack Kid Below Done (λ q. Above q ⊎ (q ≡ e.0)) es

-- places that are done, the latest first, and visits that are left, the next first
pub record IsWalk (g : List Node) (stands : List ℕ) (enter left : List Bool) (ord : List ℕ) (es : List Visit) : Type 0 where
  pub enter_count : length enter ≡ length g
  pub left_count : length left ≡ length g
  pub order : IsOrder g (rep_of stands) ord
  pub done : (q : ℕ) → q < length g → is_marked left q ≡ true → Among q ord
  pub marked : (q : ℕ) → Among q ord → is_marked left q ≡ true
  pub stack : IsStack (IsKid g stands) (IsBelow g stands) (λ q. Among q ord) (λ q. ⊥) es
  pub places : (p : ℕ) (b : Bool) → Among (p, b) es → p < length g
  pub grey : (q : ℕ) → q < length g → is_marked enter q ≡ true → Among q ord ⊎ Among (q, true) es
  pub every : (q : ℕ) → q < length g → Among q ord ⊎ ((b : Bool) × Among (q, b) es)

-- the state of a walk, with this stack
abbrev pub Walks : List Node → List ℕ → Walk → List Visit → Type 0
Walks g stands w stack = IsWalk g stands w.entered.items w.left.items (latest w.order.items) (latest stack)

-- the walk goes on, or lies on a cycle
abbrev pub WalksOn : List Node → List ℕ → Walk → Bool → Type 0
WalksOn g stands w true = Walks g stands w w.stack.items
WalksOn g stands w false = NeverSolves g stands

-- each visit lowers this
abbrev pub walk_cost : Walk → ℕ
walk_cost w = 4099 * unmarked w.entered.items + length w.stack.items
