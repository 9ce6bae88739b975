-- A comment that is read byte by byte.
use Rattle.std.proofs.Common.{ℕ, Bool, List, if◌then◌else◌}
use Rattle.token_model.specs.White.{in_comment, after_star}

-- within a comment, after a `*` or not
abbrev pub within : Bool → List ℕ → List ℕ → List ℕ
within starred whole text = if starred then after_star whole text else in_comment whole text
