-- The size and the depth of a tree, or that one is past its limit.
use Rattle.std.specs.Prelude.{ℕ, ◌≡◌, ◌≤◌, ◌<◌, suc, List, length, slice_index_or, nat_eq, Option, Some, None}
use Rattle.std.specs.HashMap.{HashMap, get}
use Rattle.clp_model.specs.declared.tree.Variable.{Variable}
use Rattle.clp_model.specs.declared.tree.Tree.{Tree}
use Rattle.clp_model.specs.Trees.{size, depth, total_size, greatest_depth}
use Rattle.term_store.specs.Trees.{tree_at, IsOver}
use Rattle.unify_model.specs.Substituting.{substituted}
use Rattle.substitution.specs.declared.weighing.Weight.{Weight}
use Rattle.substitution.specs.declared.subst.Subst.{Subst}
use Rattle.substitution.specs.Bindings.{bound_variables, height_of}
use Rattle.substitution.specs.Images.{images_of, AreImages}

pub record AreMeasures (w : Weight) (nodes levels : ℕ) : Type 0 where
  pub nodes_are : nodes ≡ w.size
  pub levels_are : levels ≡ w.depth
  pub few : w.size ≤ 4096
  pub flat : w.depth ≤ 256

-- so many nodes and levels, or one of the two is past its limit
abbrev pub HasMeasures : Option Weight → ℕ → ℕ → Type 0
HasMeasures None nodes levels = IsOver nodes levels
HasMeasures (Some w) nodes levels = AreMeasures w nodes levels

-- the weight of a tree
abbrev pub Weighs : Option Weight → Tree Variable → Type 0
Weighs w t = HasMeasures w (size t) (depth t)

-- the weight of several trees together
abbrev pub WeighAll : Option Weight → List (Tree Variable) → Type 0
WeighAll w ts = HasMeasures w (total_size ts) (greatest_depth ts)

abbrev pub weight_at : List (Option Weight) → ℕ → Option Weight
weight_at ws place = slice_index_or ws place None

-- the weights of the images of the first bindings, by their places
abbrev pub HaveWeights : (Variable → Tree Variable) → List Variable → List (Option Weight) → Type 0
HaveWeights f vs ws = (v : Variable) (place : ℕ) → height_of vs v ≡ suc place → place < length ws → Weighs (weight_at ws place) (f v)

-- what is noted of a term is the weight of its tree with the images in it
abbrev pub AreNoted : {S : Type 0} → List (Tree Variable) → (Variable → Tree Variable) → HashMap ℕ (Option Weight) S → Type 0
AreNoted store f noted = (t : ℕ) (w : Option Weight) → get nat_eq noted t ≡ Some w → Weighs w (substituted f (tree_at store t))

-- the substitution was made for this store
pub record IsOf (store : List (Tree Variable)) (s : Subst) : Type 0 where
  pub images : AreImages store s.images
  pub count : length s.weights.items ≡ length s.images.bindings
  pub weights : HaveWeights (images_of store s.images) (bound_variables s.images.bindings) s.weights.items

-- what a variable becomes
abbrev pub images : List (Tree Variable) → Subst → Variable → Tree Variable
images store s = images_of store s.images
