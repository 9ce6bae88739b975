-- White and comments are what may stand between two tokens.
use Rattle.std.proofs.Common.{ℕ, List, [], ◌∷◌, ◌++◌, ap, ◌∙◌, append_assoc}
use Rattle.token_model.specs.White.{skipped}
use Rattle.token_laws.proofs.Skipping.{white, line, comment}
use Rattle.space_laws.specs.Laws.{WhiteIsSpace, LineIsSpace, CommentIsSpace, SpacesAreSpace}

pub white_is_space : WhiteIsSpace
white_is_space bytes h text = white bytes text h

pub line_is_space : LineIsSpace
line_is_space inside h text = ap (λ (z : List ℕ). skipped (37 ∷ z)) (append_assoc inside (10 ∷ []) text) ∙ line inside text h

pub comment_is_space : CommentIsSpace
comment_is_space inside h text = ap (λ (z : List ℕ). skipped (47 ∷ 42 ∷ z)) (append_assoc inside (42 ∷ 47 ∷ []) text) ∙ comment inside text h

pub spaces_are_space : SpacesAreSpace
spaces_are_space space more h k text = ap skipped (append_assoc space more text) ∙ (h (more ++ text) ∙ k text)
