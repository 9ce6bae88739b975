-- Terms in which the images of a substitution were put.
use Rattle.std.specs.Prelude.{ℕ, ◌≡◌, ◌<◌, ◌⊎◌, List, [], ◌∷◌, length, nat_eq, nat_lt, if◌then◌else◌, Some}
use Rattle.std.specs.HashMap.{HashMap, get}
use Rattle.clp_model.specs.declared.tree.Variable.{Variable}
use Rattle.clp_model.specs.declared.tree.Tree.{Tree}
use Rattle.term_store.specs.Trees.{tree_at, HasTree, IsTooLarge}
use Rattle.unify_model.specs.Substituting.{substituted}
use Rattle.substitution.specs.declared.images.Images.{Images}
use Rattle.substitution.specs.Images.{images_of}

-- a tree with the images in it
abbrev pub with_images : List (Tree Variable) → Images → Tree Variable → Tree Variable
with_images store m t = substituted (images_of store m) t

-- what was made of terms of the store are terms of their trees with the images in them
abbrev pub AreMade : {S : Type 0} → List (Tree Variable) → Images → HashMap ℕ ℕ S → Type 0
AreMade store m made = (t r : ℕ) → get nat_eq made t ≡ Some r → (t < length store) × HasTree store r (with_images store m (tree_at store t))

-- one of the trees is past a limit
abbrev pub IsPastAny : List (Tree Variable) → Type 0
IsPastAny [] = ⊥
IsPastAny (t ∷ ts) = IsTooLarge t ⊎ IsPastAny ts

-- a size that does not count beyond the limit
abbrev pub capped : ℕ → ℕ
capped n = if nat_lt n 4097 then n else 4097
