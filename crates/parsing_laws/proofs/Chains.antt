-- One operand alone is its own chain.
use Rattle.std.proofs.Common.{◌≡◌, ℕ, zero, suc, Bool, true, false, List, [], ◌∷◌, refl, ap, ◌∙◌, Ok, Option, None}
use Rattle.token_model.specs.declared.token.Lexeme.{Lexeme}
use Rattle.token_model.specs.declared.token.Lexeme.TheVariants as l
use Rattle.token_model.specs.Remaining.{Remaining, lexeme, left}
use Rattle.token_model.specs.Parsers.{Outcome, Parser, and_then, ◌>>=◌}
use Rattle.clp_grammar.specs.declared.expression.Operation.{Operation}
use Rattle.clp_grammar.specs.declared.expression.Operator.{Operator}
use Rattle.clp_grammar.specs.declared.expression.Expression.{Expression}
use Rattle.clp_grammar.specs.Input.{Input, here}
use Rattle.clp_grammar.specs.Expressions as grammar
use Rattle.clp_grammar.specs.Expressions.{sum_operation, product_operation, chained, link_by, chain_from, chain, arguments, bracketed, list, expression, signed_by}
use Rattle.parsing_laws.specs.Places.{at}
use Rattle.parsing_laws.specs.Behind.{ends}
use Rattle.parsing_laws.proofs.States.{by_ends}

-- the parsers of the parts of an expression, where this many more brackets may be open
abbrev pub primary : ℕ → Parser Input Expression
primary more = grammar.primary more (arguments more) (bracketed more) (list more)

abbrev pub signed : ℕ → Parser Input Expression
signed more = grammar.signed more (arguments more) (bracketed more) (list more)

abbrev pub product : ℕ → Parser Input Expression
product more = grammar.product more (arguments more) (bracketed more) (list more)

module _ (operation_of : Lexeme → Option Operation) (operand : Parser Input Expression) where
  -- no operator comes next
  pub chain_ends : (n begin : ℕ) (operators : List Operator) (parts : List Expression) (r : Remaining) (names : List (List ℕ)) → operation_of (lexeme r) ≡ None
      → chain_from operation_of operand n begin operators parts (at r names) ≡ Ok (chained begin operators parts, at r names)
  unfolding chain_from
  chain_ends zero begin operators parts r names h = refl
  chain_ends (suc n) begin operators parts r names h =
      ap (λ (o : Option Operation). link_by operation_of operand begin operators parts (chain_from operation_of operand n begin) o (at r names)) h

  -- the first operand, and what follows it
  pub chain_begins : (e : Expression) (r s : Remaining) (names others : List (List ℕ)) → operand (at r names) ≡ Ok (e, at s others)
      → chain operation_of operand (at r names) ≡ chain_from operation_of operand (left s) (left r) [] (e ∷ []) (at s others)
  unfolding chain
  chain_begins e r s names others h =
      ap (λ (o : Outcome Input Expression). and_then o (λ first. here >>= (λ turns. chain_from operation_of operand turns (left r) [] (first ∷ [])))) h

  pub lone : (e : Expression) (r s : Remaining) (names others : List (List ℕ)) → operand (at r names) ≡ Ok (e, at s others) → operation_of (lexeme s) ≡ None
      → chain operation_of operand (at r names) ≡ Ok (e, at s others)
  unfolding chained
  lone e r s names others h stop = chain_begins e r s names others h ∙ chain_ends (left s) (left r) [] (e ∷ []) s others stop

abbrev pub is_sign : Lexeme → Bool
is_sign l.Plus = true
is_sign l.Minus = true
is_sign _ = false

unsigned_by : (more : ℕ) (k : Lexeme) (i : Input) → is_sign k ≡ false → signed_by more (arguments more) (bracketed more) (list more) k i ≡ primary more i
unsigned_by more l.Plus i h = absurd (cc)
unsigned_by more l.Minus i h = absurd (cc)
unsigned_by more _ i h = refl

-- no sign comes next
pub unsigned : (more : ℕ) (r : Remaining) (names : List (List ℕ)) → is_sign (lexeme r) ≡ false → signed more (at r names) ≡ primary more (at r names)
unfolding grammar.signed
unsigned more r names h = unsigned_by more (lexeme r) (at r names) h

-- a primary expression by itself
pub alone : (more : ℕ) (e : Expression) (r s : Remaining) (names others : List (List ℕ)) → is_sign (lexeme r) ≡ false → ends (lexeme s) ≡ true
    → primary more (at r names) ≡ Ok (e, at s others) → expression more (at r names) ≡ Ok (e, at s others)
alone more e r s names others no_sign stop h =
    let end = by_ends (lexeme s) stop in
    let single = lone product_operation (signed more) e r s names others (unsigned more r names no_sign ∙ h) end.product in
    lone sum_operation (product more) e r s names others single end.sum
