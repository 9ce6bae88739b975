-- Which variables are marked.
use Rattle.std.specs.Prelude.{◌≡◌, ℕ, not, ◌&&◌, ◌||◌, Bool, false, List, ◌∷◌, length, slice_index_or}
use Rattle.fold_model.specs.Positions.{is_in}

-- the variable is marked; that of the first mark is 1
abbrev pub is_marked : List Bool → ℕ → Bool
is_marked marks x = slice_index_or (false ∷ marks) x false

-- these variables are marked in addition
pub record Adds (old new : List Bool) (xs : List ℕ) : Type 0 where
  pub count : length new ≡ length old
  pub each : (x : ℕ) → is_marked new x ≡ (is_in xs x || is_marked old x)

-- just these variables of so many are marked
pub record Are (marks : List Bool) (total : ℕ) (xs : List ℕ) : Type 0 where
  pub count : length marks ≡ total
  pub each : (x : ℕ) → is_marked marks x ≡ is_in xs x

-- the variable is marked in the first table, and in neither of the others
abbrev pub is_marked_alone : List Bool → List Bool → List Bool → ℕ → Bool
is_marked_alone ours theirs others x = is_marked ours x && (not (is_marked theirs x) && not (is_marked others x))

-- the variable is marked in the head alone, or in rows alone
abbrev pub is_marked_loose : List Bool → List Bool → List Bool → ℕ → Bool
is_marked_loose head rows body x = is_marked_alone head rows body x || is_marked_alone rows head body x
