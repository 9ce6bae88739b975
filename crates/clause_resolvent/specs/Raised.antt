-- Variables with greater numbers.
use Rattle.std.specs.Prelude.{ℕ, ℤ, ◌+◌, ◌≤◌, List, [], ◌∷◌, All}
use Rattle.clp_model.specs.declared.tree.Variable.{Variable}

-- the variable with a number greater by k
abbrev pub raise : ℕ → Variable → Variable
raise k v = record { number = k + v.number; sort = v.sort }

-- the number of a variable of a stored clause
abbrev pub IsLowNumber : ℕ → Type 0
IsLowNumber n = n ≤ 256

pub record AreLow (vs : List Variable) : Type 0 where
  pub each : All (λ v. IsLowNumber v.number) vs

-- coefficients under variables with greater numbers
abbrev pub raised_pairs : ℕ → List (ℕ × ℤ) → List (ℕ × ℤ)
raised_pairs k [] = []
raised_pairs k (p ∷ ps) = (k + p.0, p.1) ∷ raised_pairs k ps
