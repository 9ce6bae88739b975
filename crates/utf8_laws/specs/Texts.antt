-- What a parser keeps.
use Rattle.std.specs.Prelude.{IsUtf8}
use Rattle.token_model.specs.Remaining.{Remaining}

-- what remains is in UTF-8
unfoldable pub IsText : Remaining → Type 0
IsText r = IsUtf8 r.text
