-- Printed pieces that follow one another.
use Rattle.std.specs.Prelude.{ℕ, ◌+◌, List, [], ◌∷◌, length, map}
use Rattle.print_model.specs.Joined.{joined}

-- a printed text, and what it is parsed as where this many bytes follow
pub record Piece (A : Type 0) : Type 0 where
  pub text : List ℕ
  pub value : ℕ → A

abbrev pub texts_of : {A : Type 0} → List (Piece A) → List (List ℕ)
texts_of {A} ps = map (λ (p : Piece A). p.text) ps

-- what pieces with this mark between are parsed as, where this many bytes follow the last
abbrev pub placed : {A : Type 0} → List ℕ → List (Piece A) → ℕ → List A
placed mark [] after = []
placed mark (p ∷ ps) after = p.value (length (joined mark mark (texts_of ps)) + after) ∷ placed mark ps after
