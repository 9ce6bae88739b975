-- Marks of one byte.
use Rattle.std.proofs.Common.{◌≡◌, ◌≢◌, ℕ, Bool, true, false, List, ◌∷◌, refl, arith, cond}
use Rattle.std.proofs.lemmas.Bool.Decides.{nat_tests}
use Rattle.std.specs.Prelude.{◌==◌, ◌&&◌}
use Rattle.token_model.specs.declared.token.Lexeme.{Lexeme}
use Rattle.token_model.specs.declared.token.Lexeme.TheVariants as l
use Rattle.token_model.specs.declared.token.Token.{Token}
use Rattle.token_model.specs.Marks.{mark}
use Rattle.token_cursor.specs.Singles.{single_by}

differs : (k b : ℕ) → b ≢ k → (k == b) ≡ false
differs k b h = grind (arith, nat_tests)

-- one mark more in the table
with_mark : (t : Bool) (one : Lexeme) (rest : Token) (others : Lexeme) → rest ≡ record { lexeme = others; len = 1 }
    → cond (t && true) (record { lexeme = one; len = 1 }) rest ≡ record { lexeme = cond t one others; len = 1 }
with_mark true one rest others h = refl
with_mark false one rest others h = h

-- of a byte with which no longer mark begins
pub single_mark : (b : ℕ) (text : List ℕ) → b ≢ 61 → b ≢ 92 → b ≢ 45 → b ≢ 58 → b ≢ 62 → b ≢ 63 → b ≢ 47
    → mark (b ∷ text) ≡ record { lexeme = single_by b; len = 1 }
unfolding mark
single_mark b text e1 e2 e3 e4 e5 e6 e7 =
    rw (differs 61 b e1, differs 92 b e2, differs 45 b e3, differs 58 b e4, differs 62 b e5, differs 63 b e6, differs 47 b e7)
    (with_mark (40 == b) l.OpenRound _ _ (with_mark (41 == b) l.CloseRound _ _ (with_mark (91 == b) l.OpenSquare _ _ (with_mark (93 == b) l.CloseSquare _ _ (with_mark (123 == b) l.OpenCurly _ _ (with_mark (125 == b) l.CloseCurly _ _ (with_mark (44 == b) l.Comma _ _ (with_mark (124 == b) l.Bar _ _ (with_mark (60 == b) l.Less _ _ (with_mark (43 == b) l.Plus _ _ (with_mark (42 == b) l.Times _ _ (with_mark (33 == b) l.Unsupported _ _ (with_mark (59 == b) l.Unsupported _ _ (with_mark (94 == b) l.Unsupported _ _ (with_mark (34 == b) l.Unsupported _ _ refl)))))))))))))))
