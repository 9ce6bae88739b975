use Rattle.std.proofs.Common.{List, ℕ, IsUtf8, sym, subst}
use Rattle.token_model.specs.declared.token.Lexeme.{Lexeme}
use Rattle.token_model.specs.Remaining.{lexeme}
use Rattle.token_cursor.specs.Escapes.{name_by}
use Rattle.clp_parser.proofs.reader.Reader.name.Goals as goal

pub name_of-requires : goal.name_of-requires
name_of-requires c =
    let r = c.args.self.now.remaining in
    subst (λ (k : Lexeme). IsUtf8 (name_by k c.take-spelling.result.now)) (sym c.peek-lexeme.ensures)
    (subst (λ (s : List ℕ). IsUtf8 (name_by (lexeme r) s)) (sym c.take-spelling.ensures.spelling) c.take-spelling.ensures.name)
