-- Texts one after another.
use Rattle.std.specs.Prelude.{ℕ, List, [], ◌∷◌, ◌++◌}

-- the first text after one mark, and each other after another
abbrev pub joined : List ℕ → List ℕ → List (List ℕ) → List ℕ
joined first mark [] = []
joined first mark (x ∷ xs) = first ++ (x ++ joined mark mark xs)
