-- Marks of one byte.
use Rattle.std.specs.Prelude.{ℕ, if◌then◌else◌, ◌==◌}
use Rattle.token_model.specs.declared.token.Lexeme.{Lexeme}
use Rattle.token_model.specs.declared.token.Lexeme.TheVariants as l

-- a mark of one byte that no longer mark begins with
abbrev pub single_by : ℕ → Lexeme
single_by b =
    if 40 == b then l.OpenRound
    else (if 41 == b then l.CloseRound
    else (if 91 == b then l.OpenSquare
    else (if 93 == b then l.CloseSquare
    else (if 123 == b then l.OpenCurly
    else (if 125 == b then l.CloseCurly
    else (if 44 == b then l.Comma
    else (if 124 == b then l.Bar
    else (if 60 == b then l.Less
    else (if 43 == b then l.Plus
    else (if 42 == b then l.Times
    else (if 33 == b then l.Unsupported
    else (if 59 == b then l.Unsupported
    else (if 94 == b then l.Unsupported
    else (if 34 == b then l.Unsupported
    else l.Bad))))))))))))))
