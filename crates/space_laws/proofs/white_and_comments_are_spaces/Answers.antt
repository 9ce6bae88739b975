use Rattle.space_laws.proofs.Spaces.{white_is_space, line_is_space, comment_is_space, spaces_are_space}
use Rattle.space_laws.proofs.white_and_comments_are_spaces.Goals as goal

pub returns-clause-white : goal.returns-clause-white
returns-clause-white c = white_is_space

pub returns-clause-line : goal.returns-clause-line
returns-clause-line c = line_is_space

pub returns-clause-comment : goal.returns-clause-comment
returns-clause-comment c = comment_is_space

pub returns-clause-joined : goal.returns-clause-joined
returns-clause-joined c = spaces_are_space
