-- What remains behind a token.
use Rattle.std.proofs.Common.{◌≡◌, ◌-◌, length, arith, length-drop}
use Rattle.std.proofs.lemmas.List.{length-take}
use Rattle.token_model.specs.Remaining.{Remaining, ahead, left, next, spelling, next_token}

pub behind_token : (r : Remaining) → length (next r).text ≡ left r - length (spelling r)
unfolding next left spelling
behind_token r = omega (arith, length-drop (next_token r).len (ahead r), length-take (next_token r).len (ahead r))
