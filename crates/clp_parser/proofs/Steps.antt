-- The rules of expressions, step by step.
use Rattle.std.proofs.Common.{◌≡◌, ℕ, zero, suc, ◌+◌, ◌-◌, ◌<◌, Bool, false, if◌then◌else◌, List, [], ◌∷◌, ◌++◌, Ok, refl, ap, ◌∙◌, sym, arith}
use Rattle.std.specs.Prelude.{Option, Some}
use Rattle.token_model.specs.declared.token.Lexeme.{Lexeme}
use Rattle.token_model.specs.declared.token.Lexeme.TheVariants as l
use Rattle.token_model.specs.Parsers.{Parser, Outcome, and_then, pure}
use Rattle.token_model.specs.Remaining.{lexeme}
use Rattle.clp_grammar.specs.declared.expression.Operation.{Operation}
use Rattle.clp_grammar.specs.declared.expression.Operator.{Operator}
use Rattle.clp_grammar.specs.declared.expression.Head.TheVariants as head
use Rattle.clp_grammar.specs.declared.expression.Expression.{Expression, Node}
use Rattle.clp_grammar.specs.Input.{Input, passed, left, eat}
use Rattle.clp_grammar.specs.Expressions.{chain_from, link_by, list, list_with, after_comma}
use Rattle.clp_parser.specs.Levels.{elements}
use Rattle.clp_parser.proofs.Turns.{one_more}

-- ---- chains

-- one more operator and its second operand
link : (operation_of : Lexeme → Option Operation) (operand : Parser Input Expression) (n begin : ℕ) (ops : List Operator) (parts : List Expression) (i j : Input) (o : Operation) (part : Expression)
    → operation_of (lexeme i.remaining) ≡ Some o → operand (passed i) ≡ Ok (part, j)
    → chain_from operation_of operand (suc n) begin ops parts i ≡ chain_from operation_of operand n begin (ops ++ record { operation = o; left = left i } ∷ []) (parts ++ part ∷ []) j
unfolding chain_from
link operation_of operand n begin ops parts i j o part e f =
    ap (λ (s : Option Operation). link_by operation_of operand begin ops parts (chain_from operation_of operand n begin) s i) e
    ∙ ap (λ (z : Outcome Input Expression). and_then z (λ (x : Expression). chain_from operation_of operand n begin (ops ++ record { operation = o; left = left i } ∷ []) (parts ++ x ∷ []))) f

pub turn : {x : Outcome Input Expression} (operation_of : Lexeme → Option Operation) (operand : Parser Input Expression) (count at begin : ℕ) (ops ops' : List Operator) (parts parts' : List Expression) (last last' : Expression)
    (i j : Input) (o : Operation) (place : ℕ) (part : Expression)
    → at < count → x ≡ chain_from operation_of operand (count - at) begin ops (parts ++ last ∷ []) i
    → operation_of (lexeme i.remaining) ≡ Some o → place ≡ left i → operand (passed i) ≡ Ok (part, j)
    → ops' ≡ ops ++ record { operation = o; left = place } ∷ [] → parts' ≡ parts ++ last ∷ [] → last' ≡ part
    → x ≡ chain_from operation_of operand (count - (at + 1)) begin ops' (parts' ++ last' ∷ []) j
turn operation_of operand count at begin ops ops' parts parts' last last' i j o place part below reads e p f os ps ls =
    one_more (λ n. chain_from operation_of operand n begin ops (parts ++ last ∷ []) i) count at below reads
    ∙ link operation_of operand (count - (at + 1)) begin ops (parts ++ last ∷ []) i j o part e f
    ∙ ap (λ (k : ℕ). chain_from operation_of operand (count - (at + 1)) begin (ops ++ record { operation = o; left = k } ∷ []) ((parts ++ last ∷ []) ++ part ∷ []) j) (sym p)
    ∙ ap (λ (z : List Operator). chain_from operation_of operand (count - (at + 1)) begin z ((parts ++ last ∷ []) ++ part ∷ []) j) (sym os)
    ∙ ap (λ (z : List Expression). chain_from operation_of operand (count - (at + 1)) begin ops' (z ++ part ∷ []) j) (sym ps)
    ∙ ap (λ (z : Expression). chain_from operation_of operand (count - (at + 1)) begin ops' (parts' ++ z ∷ []) j) (sym ls)

-- ---- lists

pub list_not_empty : (more : ℕ) (i j : Input) → (more ≡ 0 → ⊥) → eat l.CloseSquare (passed i) ≡ Ok (false, j) → list more i ≡ elements (more - 1) (left i) [] j
unfolding list list_with
list_not_empty zero i j h e = absurd (h refl)
list_not_empty (suc more) i j h e =
    let n : more ≡ suc more - 1 = omega arith in
    ap (λ (z : Outcome Input Bool). and_then z (λ (b : Bool). if◌then◌else◌ b (pure (Node (left i) head.List [])) (elements more (left i) []))) e
    ∙ ap (λ (m : ℕ). elements m (left i) [] j) n

pub further_element : (more place : ℕ) (found : List Expression) (i : Input) → (more ≡ 0 → ⊥) → after_comma more place found i ≡ elements (more - 1) place found (passed i)
unfolding after_comma
further_element zero place found i h = absurd (h refl)
further_element (suc more) place found i h = let n : more ≡ suc more - 1 = omega arith in ap (λ (m : ℕ). elements m place found (passed i)) n
