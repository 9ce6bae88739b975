-- Classes of places by a list in which each place has another place of its class that is not greater.
use Rattle.std.specs.Prelude.{ℕ, zero, suc, ◌≡◌, ◌⊎◌, ◌+◌, ◌<◌, ◌≤◌, nat_eq, if◌then◌else◌, List, [], ◌∷◌, length, slice_index_or}

-- the place that a place knows of its class
abbrev pub parent : List ℕ → ℕ → ℕ
parent ps p = slice_index_or ps p 0

-- no place knows a greater one
abbrev pub AreParents : List ℕ → Type 0
AreParents ps = (p : ℕ) → p < length ps → parent ps p ≤ p

-- the place that is reached after at most so many steps
unfoldable pub root_by : ℕ → List ℕ → ℕ → ℕ
root_by zero ps p = p
root_by (suc turns) ps p = if nat_eq (parent ps p) p then p else root_by turns ps (parent ps p)

-- the place to which all of a class come
unfoldable pub root : List ℕ → ℕ → ℕ
root ps p = root_by p ps p

-- the classes are the same
pub record HaveSameRoots (old new : List ℕ) : Type 0 where
  pub count : length new ≡ length old
  pub same : (p : ℕ) → p < length old → root new p ≡ root old p

-- the classes of a and b have become that of k
pub record HaveJoined (old new : List ℕ) (a b k : ℕ) : Type 0 where
  pub count : length new ≡ length old
  pub one : (k ≡ a) ⊎ (k ≡ b)
  pub of_a : (p : ℕ) → p < length old → root old p ≡ a → root new p ≡ k
  pub of_b : (p : ℕ) → p < length old → root old p ≡ b → root new p ≡ k
  pub of_others : (p : ℕ) → p < length old → (root old p ≡ a → ⊥) → (root old p ≡ b → ⊥) → root new p ≡ root old p

-- how many places are the least of their class
unfoldable pub own_from : ℕ → List ℕ → ℕ
own_from i [] = 0
own_from i (p ∷ ps) = (if nat_eq p i then 1 else 0) + own_from (suc i) ps

-- how many classes there are
unfoldable pub own : List ℕ → ℕ
own ps = own_from 0 ps
