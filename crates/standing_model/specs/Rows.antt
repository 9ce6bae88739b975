-- What printed rows are parsed as.
use Rattle.std.specs.Prelude.{ℕ, ◌+◌, ℤ, ◌==◌, Bool, false, List, [], ◌∷◌, ◌++◌, length, map, drop, unsigned_abs, if◌then◌else◌}
use Rattle.std.specs.Int.{is_negative}
use Rattle.std.specs.Fmt.{decimal, signed_decimal}
use Rattle.clp_model.specs.declared.sort.Rel.{Rel}
use Rattle.clp_model.specs.declared.sort.Rel.TheVariants.{Eq, Le, Lt}
use Rattle.clp_model.specs.Clauses.{Row}
use Rattle.clp_grammar.specs.declared.expression.Operation.{Operation}
use Rattle.clp_grammar.specs.declared.expression.Operation.TheVariants.{Add, Subtract, Multiply}
use Rattle.clp_grammar.specs.declared.expression.Operator.{Operator}
use Rattle.clp_grammar.specs.declared.expression.Head.TheVariants as head
use Rattle.clp_grammar.specs.declared.expression.Expression.{Expression, Number, Node}
use Rattle.clp_grammar.specs.declared.draft.Relation.{Relation}
use Rattle.clp_grammar.specs.declared.draft.Relation.TheVariants.{Equal, AtMost, Less}
use Rattle.clp_grammar.specs.declared.draft.Comparison.{Comparison}
use Rattle.clp_grammar.specs.Expressions.{chained}
use Rattle.print_model.specs.Terms.{variable_text}
use Rattle.print_model.specs.Rows.{product_text, first_term, later_terms, later_constant, relation_text}
use Rattle.standing_model.specs.Terms.{variable}

abbrev pub number : ℕ → ℕ → Expression
number n after = Number (length (decimal n) + after) n

-- behind a `-`, which stands at this place, or without sign
abbrev pub signed : Bool → ℕ → Expression → Expression
signed is_minus begin e = if is_minus then Node begin head.Minus (e ∷ []) else e

-- A variable after the magnitude of its coefficient, which is left out where it is 1; a sign belongs to what is first.
abbrev pub product : (ℕ → ℕ) → Bool → ℕ → ℕ → ℕ → ℕ → Expression
product place is_minus begin magnitude n after =
    let v = variable place n after in
    let times = 1 + (length (variable_text n) + after) in
    if magnitude == 1 then signed is_minus begin v
    else Node begin (head.Chain (record { operation = Multiply; left = times } ∷ [])) (signed is_minus begin (number magnitude times) ∷ v ∷ [])

abbrev pub joining : ℤ → Operation
joining z = if is_negative z then Subtract else Add

-- an operator and what stands behind it and a space, of this many bytes with what follows
abbrev pub joined_to : ℤ → ℕ → Expression → Operator × Expression
joined_to z behind e = (record { operation = joining z; left = 2 + behind }, e)

-- a constant after terms, which is left out where it is 0
abbrev pub later_number : ℤ → ℕ → List (Operator × Expression)
later_number z after =
    let e = number (unsigned_abs z) after in
    if unsigned_abs z == 0 then [] else joined_to z (length (decimal (unsigned_abs z)) + after) e ∷ []

-- terms after the first, and the constant
abbrev pub later : (ℕ → ℕ) → List (ℕ × ℤ) → ℤ → ℕ → List (Operator × Expression)
later place [] constant after = later_number constant after
later place (p ∷ ps) constant after =
    let follow = length (later_terms ps ++ later_constant constant) + after in
    let begin = length (product_text (unsigned_abs p.1) p.0) + follow in
    joined_to p.1 begin (product place false begin (unsigned_abs p.1) p.0 follow) ∷ later place ps constant after

abbrev pub operators_of : List (Operator × Expression) → List Operator
operators_of xs = map (λ (x : Operator × Expression). x.0) xs

abbrev pub operands_of : List (Operator × Expression) → List Expression
operands_of xs = map (λ (x : Operator × Expression). x.1) xs

-- the terms in order and then the constant
abbrev pub sum : (ℕ → ℕ) → List (ℕ × ℤ) → ℤ → ℕ → Expression
sum place [] constant after = signed (is_negative constant) (length (signed_decimal constant) + after) (number (unsigned_abs constant) after)
sum place (p ∷ ps) constant after =
    let follow = length (later_terms ps ++ later_constant constant) + after in
    let begin = length (first_term p) + follow in
    let first = product place (is_negative p.1) begin (unsigned_abs p.1) p.0 follow in
    let others = later place ps constant after in
    chained begin (operators_of others) (first ∷ operands_of others)

abbrev pub relation_of : Rel → Relation
relation_of Eq = Equal
relation_of Le = AtMost
relation_of Lt = Less

-- the sum compared with 0; the relation stands behind a space
unfoldable pub comparison : (ℕ → ℕ) → Row → ℕ → Comparison
comparison place row after = record {
  left = length (drop 1 (relation_text row.rel)) + after;
  relation = relation_of row.rel;
  first = sum place row.pairs row.constant (length (relation_text row.rel) + after);
  second = Number (1 + after) 0;
}
