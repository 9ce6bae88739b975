use Rattle.std.proofs.Common.{◌≡◌, ◌∷◌, drop}
use Rattle.token_model.specs.White.{after_slash}
use Rattle.token_cursor.proofs.Comments.{within}
use Rattle.token_cursor.proofs.white.after_comment.Given as goal

abbrev pub invariant-loop-at : goal.invariant-loop-at
invariant-loop-at l = after_slash l.text ≡ within l.starred (47 ∷ l.text) (drop l.at l.comment)
