-- How the code renames: each pair under its new number, in the order of these, and the pairs of one variable added.
use Rattle.std.specs.Prelude.{ℕ, ℤ, ◌+ℤ◌, List, [], ◌∷◌, nat_eq, if◌then◌else◌}

-- each pair under its variable's new number
abbrev pub moved : (ℕ → ℕ) → List (ℕ × ℤ) → List (ℕ × ℤ)
moved f [] = []
moved f (p ∷ ps) = (f p.0, p.1) ∷ moved f ps

-- neighbours of one variable made one, where q is the one in front so far
abbrev pub runs : ℕ × ℤ → List (ℕ × ℤ) → List (ℕ × ℤ)
runs q [] = q ∷ []
runs q (p ∷ ps) = if nat_eq p.0 q.0 then runs (q.0, q.1 +ℤ p.1) ps else q ∷ runs p ps

abbrev pub summed : List (ℕ × ℤ) → List (ℕ × ℤ)
summed [] = []
summed (p ∷ ps) = runs p ps
