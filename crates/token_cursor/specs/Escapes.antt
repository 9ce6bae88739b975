-- The escapes of a quoted name, and the name that a token stands for.
use Rattle.std.specs.Prelude.{ℕ, Bool, false, ◌||◌, if◌then◌else◌, ◌==◌, List}
use Rattle.token_model.specs.declared.token.Lexeme.{Lexeme}
use Rattle.token_model.specs.declared.token.Lexeme.TheVariants as l
use Rattle.token_model.specs.Names.{escaped_byte, quoted_name}

-- the byte only marks that the next one is meant: a quote or a `\` that stands after no such mark
abbrev pub is_mark : Bool → ℕ → Bool
is_mark after_mark b = if after_mark then false else b == 39 || b == 92

-- the byte that is meant, after such a mark or not
abbrev pub meant : Bool → ℕ → ℕ
meant after_mark b = if after_mark then escaped_byte b else b

-- the name that a token of this spelling stands for
abbrev pub name_by : Lexeme → List ℕ → List ℕ
name_by l.Quoted spelling = quoted_name spelling
name_by _ spelling = spelling
