use Rattle.std.proofs.Common.{◌≡◌, ℕ, List, IfOk, IsUtf8, subst, sym}
use Rattle.token_cursor.specs.Escapes.{name_by}
use Rattle.token_at.specs.Places.{spelling}
use Rattle.token_at.proofs.Places.{token_stands}
use Rattle.token_at.proofs.name.name_of.Goals as goal

pub spelling-requires-clause-order : goal.spelling-requires-clause-order
spelling-requires-clause-order c = (token_stands c.args.text.now c.requires.0 c.args.token.now c.utf8.text c.requires.1 c.requires.2).order

pub spelling-requires-clause-within : goal.spelling-requires-clause-within
spelling-requires-clause-within c = (token_stands c.args.text.now c.requires.0 c.args.token.now c.utf8.text c.requires.1 c.requires.2).within

pub name_of-requires : goal.name_of-requires
name_of-requires c =
    let text = (token_stands c.args.text.now c.requires.0 c.args.token.now c.utf8.text c.requires.1 c.requires.2).name in
    rw c.spelling.ensures (subst (λ (f : List ℕ → List ℕ). IsUtf8 (f (spelling c.args.text.now c.args.token.now))) c.lexeme_of.ensures text)

pub returns : goal.returns
returns c =
    let named : IfOk c.name_of.result (λ name. name ≡ name_by c.lexeme_of.result (spelling c.args.text.now c.args.token.now)) = rw c.spelling.ensures at c.name_of.ensures in
    subst (λ (f : List ℕ → List ℕ). IfOk c.name_of.result (λ name. name ≡ f (spelling c.args.text.now c.args.token.now))) (sym c.lexeme_of.ensures) named
