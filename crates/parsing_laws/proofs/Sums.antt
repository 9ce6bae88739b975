-- Printed sums and rows are parsed as what stands for them.
use Rattle.std.proofs.Common.{◌≡◌, ℕ, zero, suc, ◌+◌, ◌≤◌, Bool, true, false, List, [], ◌∷◌, ◌++◌, length, map, refl, ap, ◌∙◌, sym, arith, append_assoc, append-nil, length-append, Ok, codes, None, ℤ, pos, negsuc}
use Rattle.std.proofs.lemmas.Bool.{and_parts}
use Rattle.std.proofs.lemmas.Bool.Decides.{nat_tests}
use Rattle.std.specs.Fmt.{decimal, signed_decimal}
use Rattle.std.specs.Int.{is_negative}
use Rattle.std.specs.Prelude.{◌==◌, if◌then◌else◌, unsigned_abs, nat_le, nat_lt, nat_eq}
use Rattle.token_model.specs.declared.token.Lexeme.{Lexeme}
use Rattle.token_model.specs.declared.token.Lexeme.TheVariants as l
use Rattle.token_model.specs.Numbers.{max_number, joins_number}
use Rattle.token_model.specs.White.{skipped}
use Rattle.token_model.specs.Remaining.{Remaining, ahead, lexeme, left}
use Rattle.token_model.specs.Parsers.{Outcome, Parser, and_then}
use Rattle.printed_tokens.proofs.Names.{variable_stays}
use Rattle.printed_tokens.proofs.Numbers.{number_stays}
use Rattle.printed_tokens.proofs.Marks.{minus_is, plus_is}
use Rattle.linear_model.specs.Normal.{pairs_within, limit}
use Rattle.clp_model.specs.Predicates.{with_element}
use Rattle.clp_grammar.specs.declared.expression.Operation.TheVariants.{Add, Subtract}
use Rattle.clp_grammar.specs.declared.expression.Operator.{Operator}
use Rattle.clp_grammar.specs.declared.expression.Expression.{Expression}
use Rattle.clp_grammar.specs.Input.{Input}
use Rattle.clp_grammar.specs.Expressions.{sum_operation, product_operation, chained, chain_from, link_by, expression}
use Rattle.print_model.specs.Terms.{variable_text}
use Rattle.print_model.specs.Rows.{product_text, joint, first_term, later_terms, later_constant, sum_text}
use Rattle.standing_model.specs.Rows as rows
use Rattle.standing_model.specs.Rows.{joining, joined_to, later, later_number, operators_of, operands_of}
use Rattle.parsing_laws.specs.Places.{at, known, met, Placed}
use Rattle.parsing_laws.specs.Behind.{behind, ends, Stops}
use Rattle.parsing_laws.proofs.States.{passes, by_ends}
use Rattle.parsing_laws.proofs.Chains.{signed, product, chain_begins, chain_ends, lone}
use Rattle.parsing_laws.proofs.Factors.{Breaks, sign_text, signed_is, product_is, number_factor}

-- ---- what joins an addend to a sum

-- what stands behind a factor or a product in a sum
record Follows (z : List ℕ) : Type 0 where
  breaks : Breaks z
  no_product : (after_number : Bool) → product_operation (lexeme (behind z after_number)) ≡ None

joint_follows : (c : ℤ) (y : List ℕ) → Follows (joint c ++ y)
unfolding joins_number ahead skipped
joint_follows c y = go (is_negative c)
  where
    go : (t : Bool) → Follows ((if t then codes " - " else codes " + ") ++ y)
    go true = record {
      breaks = record { name = record { word = refl; quote = refl }; number = record { digits = refl; joins = refl } };
      no_product = λ a. ap product_operation (minus_is (behind (32 ∷ 45 ∷ 32 ∷ y) a) 32 y refl refl refl).lexeme;
    }
    go false = record {
      breaks = record { name = record { word = refl; quote = refl }; number = record { digits = refl; joins = refl } };
      no_product = λ a. ap product_operation (plus_is (behind (32 ∷ 43 ∷ 32 ∷ y) a) (32 ∷ y) refl).lexeme;
    }

stops_follow : (z : List ℕ) → Stops ends z → Follows z
stops_follow z h = record { breaks = record { name = h.name; number = h.number }; no_product = λ a. (by_ends (lexeme (behind z a)) (h.next a)).product }

-- an operator is passed, and its operand comes next
joint_passed : (more : ℕ) (c : ℤ) (y : List ℕ) (a : Bool) (names : List (List ℕ)) (n begin : ℕ) (operators : List Operator) (parts : List Expression)
    → chain_from sum_operation (product more) (suc n) begin operators parts (at (behind (joint c ++ y) a) names)
    ≡ and_then (product more (at (behind (32 ∷ y) false) names)) (λ part. chain_from sum_operation (product more) n begin (operators ++ record { operation = joining c; left = 2 + length y } ∷ []) (parts ++ part ∷ []))
unfolding chain_from left ahead skipped
joint_passed more c y a names n begin operators parts = go (is_negative c)
  where
    again : List Operator → List Expression → Parser Input Expression
    again = chain_from sum_operation (product more) n begin

    two : suc (suc (length y)) ≡ 2 + length y
    two = omega arith

    go : (t : Bool) → chain_from sum_operation (product more) (suc n) begin operators parts (at (behind ((if t then codes " - " else codes " + ") ++ y) a) names)
        ≡ and_then (product more (at (behind (32 ∷ y) false) names)) (λ part. chain_from sum_operation (product more) n begin (operators ++ record { operation = if t then Subtract else Add; left = 2 + length y } ∷ []) (parts ++ part ∷ []))
    go true =
        let r = behind (32 ∷ 45 ∷ 32 ∷ y) a in
        let next = minus_is r 32 y refl refl refl in
        ap (λ (k : Lexeme). link_by sum_operation (product more) begin operators parts again (sum_operation k) (at r names)) next.lexeme
        ∙ ap (λ (i : Input). and_then (product more i) (λ part. again (operators ++ record { operation = Subtract; left = suc (suc (length y)) } ∷ []) (parts ++ part ∷ []))) (passes r l.Minus (45 ∷ []) (32 ∷ y) names next)
        ∙ ap (λ (k : ℕ). and_then (product more (at (behind (32 ∷ y) false) names)) (λ part. again (operators ++ record { operation = Subtract; left = k } ∷ []) (parts ++ part ∷ []))) two
    go false =
        let r = behind (32 ∷ 43 ∷ 32 ∷ y) a in
        let next = plus_is r (32 ∷ y) refl in
        ap (λ (k : Lexeme). link_by sum_operation (product more) begin operators parts again (sum_operation k) (at r names)) next.lexeme
        ∙ ap (λ (i : Input). and_then (product more i) (λ part. again (operators ++ record { operation = Add; left = suc (suc (length y)) } ∷ []) (parts ++ part ∷ []))) (passes r l.Plus (43 ∷ []) (32 ∷ y) names next)
        ∙ ap (λ (k : ℕ). and_then (product more (at (behind (32 ∷ y) false) names)) (λ part. again (operators ++ record { operation = Add; left = k } ∷ []) (parts ++ part ∷ []))) two

joint_left : (c : ℤ) (y : List ℕ) (a : Bool) → left (behind (joint c ++ y) a) ≡ 2 + length y
unfolding left ahead skipped
joint_left c y a = go (is_negative c)
  where
    go : (t : Bool) → length (skipped ((if t then codes " - " else codes " + ") ++ y)) ≡ 2 + length y
    go true = omega arith
    go false = omega arith

skipped_space : (y : List ℕ) → ahead (behind (32 ∷ y) false) ≡ skipped y
unfolding ahead skipped
skipped_space y = refl

left_is : (r : Remaining) → left r ≡ length (ahead r)
unfolding left
left_is r = refl

pub in_range : (n : ℕ) → nat_le n limit ≡ true → n ≤ max_number
in_range n h = grind (arith, nat_tests)

-- ---- products and numbers

pub product_stays : (magnitude n : ℕ) (z : List ℕ) → magnitude ≤ max_number → skipped (product_text magnitude n ++ z) ≡ product_text magnitude n ++ z
product_stays magnitude n z small = go (magnitude == 1)
  where
    go : (t : Bool) → skipped ((if t then variable_text n else decimal magnitude ++ (codes "*" ++ variable_text n)) ++ z) ≡ (if t then variable_text n else decimal magnitude ++ (codes "*" ++ variable_text n)) ++ z
    go true = variable_stays n z
    go false =
        let e = append_assoc (decimal magnitude) (42 ∷ variable_text n) z in
        ap skipped e ∙ number_stays magnitude (42 ∷ (variable_text n ++ z)) small ∙ sym e

number_alone : (place : ℕ → ℕ) (is_minus : Bool) (n more : ℕ) (ms : List ℕ) (r : Remaining) (z : List ℕ) → n ≤ max_number → ahead r ≡ sign_text is_minus ++ (decimal n ++ z) → Follows z
    → product more (at r (known ms)) ≡ Ok (rows.signed is_minus (left r) (rows.number n (length z)), at (behind z true) (known ms))
number_alone place is_minus n more ms r z small front follows =
    lone product_operation (signed more) (rows.signed is_minus (left r) (rows.number n (length z))) r (behind z true) (known ms) (known ms)
    (signed_is place (decimal n) (rows.number n) [] true (number_factor place n small) is_minus more ms r z tt front follows.breaks) (follows.no_product true)

-- ---- what follows the first term

abbrev pub tail : List (ℕ × ℤ) → ℤ → List ℕ → List ℕ
tail ps c z = (later_terms ps ++ later_constant c) ++ z

-- a term, and what follows it
tail_is : (p : ℕ × ℤ) (ps : List (ℕ × ℤ)) (c : ℤ) (z : List ℕ) → tail (p ∷ ps) c z ≡ joint p.1 ++ (product_text (unsigned_abs p.1) p.0 ++ tail ps c z)
tail_is p ps c z =
    let text = product_text (unsigned_abs p.1) p.0 in
    ap (λ (y : List ℕ). y ++ z) (append_assoc (joint p.1 ++ text) (later_terms ps) (later_constant c))
    ∙ append_assoc (joint p.1 ++ text) (later_terms ps ++ later_constant c) z ∙ append_assoc (joint p.1) text (tail ps c z)

constant_follows : (c : ℤ) (z : List ℕ) → Stops ends z → Follows (later_constant c ++ z)
constant_follows c z stops = go (unsigned_abs c == 0)
  where
    go : (t : Bool) → Follows ((if t then [] else joint c ++ decimal (unsigned_abs c)) ++ z)
    go true = stops_follow z stops
    go false = rw (append_assoc (joint c) (decimal (unsigned_abs c)) z) (joint_follows c (decimal (unsigned_abs c) ++ z))

tail_follows : (ps : List (ℕ × ℤ)) (c : ℤ) (z : List ℕ) → Stops ends z → Follows (tail ps c z)
tail_follows [] c z stops = constant_follows c z stops
tail_follows (p ∷ ps) c z stops = rw (tail_is p ps c z) (joint_follows p.1 (product_text (unsigned_abs p.1) p.0 ++ tail ps c z))

-- each takes a turn
joint_long : (c : ℤ) (y : List ℕ) → length (joint c ++ y) ≡ 3 + length y
joint_long c y = go (is_negative c)
  where
    go : (t : Bool) → length ((if t then codes " - " else codes " + ") ++ y) ≡ 3 + length y
    go true = omega arith
    go false = omega arith

constant_len : (c : ℤ) (z : List ℕ) (k : ℕ) → length (later_number c k) ≤ length (later_constant c ++ z)
constant_len c z k = go (unsigned_abs c == 0)
  where
    go : (t : Bool) → length (if t then [] else joined_to c (length (decimal (unsigned_abs c)) + k) (rows.number (unsigned_abs c) k) ∷ []) ≤ length ((if t then [] else joint c ++ decimal (unsigned_abs c)) ++ z)
    go true = omega arith
    go false = omega (arith, length-append (joint c ++ decimal (unsigned_abs c)) z, joint_long c (decimal (unsigned_abs c)))

later_len : (place : ℕ → ℕ) (ps : List (ℕ × ℤ)) (c : ℤ) (z : List ℕ) (k : ℕ) → length (later place ps c k) ≤ length (tail ps c z)
later_len place [] c z k = constant_len c z k
later_len place (p ∷ ps) c z k =
    let y = product_text (unsigned_abs p.1) p.0 ++ tail ps c z in
    omega (arith, later_len place ps c z k, ap length (tail_is p ps c z), joint_long p.1 y, length-append (product_text (unsigned_abs p.1) p.0) (tail ps c z))

constant_turns : (c : ℤ) (z : List ℕ) (k : ℕ) (a : Bool) → length (later_number c k) ≤ left (behind (later_constant c ++ z) a)
constant_turns c z k a = go (unsigned_abs c == 0)
  where
    go : (t : Bool) → length (if t then [] else joined_to c (length (decimal (unsigned_abs c)) + k) (rows.number (unsigned_abs c) k) ∷ []) ≤ left (behind ((if t then [] else joint c ++ decimal (unsigned_abs c)) ++ z) a)
    go true = omega arith
    go false = rw (append_assoc (joint c) (decimal (unsigned_abs c)) z) (omega (arith, joint_left c (decimal (unsigned_abs c) ++ z) a))

later_turns : (place : ℕ → ℕ) (ps : List (ℕ × ℤ)) (c : ℤ) (z : List ℕ) (k : ℕ) (a : Bool) → length (later place ps c k) ≤ left (behind (tail ps c z) a)
later_turns place [] c z k a = constant_turns c z k a
later_turns place (p ∷ ps) c z k a =
    let y = product_text (unsigned_abs p.1) p.0 ++ tail ps c z in
    rw (tail_is p ps c z) (omega (arith, later_len place ps c z k, joint_left p.1 y a, length-append (product_text (unsigned_abs p.1) p.0) (tail ps c z)))

-- ---- addends are parsed

abbrev sum_chain : ℕ → ℕ → ℕ → List Operator → List Expression → Parser Input Expression
sum_chain more n begin operators parts = chain_from sum_operation (product more) n begin operators parts

-- the chain with further addends
abbrev with_addends : ℕ → List Operator → List Expression → List (Operator × Expression) → Expression
with_addends begin operators parts xs = chained begin (operators ++ operators_of xs) (parts ++ operands_of xs)

without : (begin : ℕ) (operators : List Operator) (parts : List Expression) → chained begin operators parts ≡ with_addends begin operators parts []
without begin operators parts = ap (λ (v : List Operator). chained begin v parts) (sym (append-nil operators)) ∙ ap (chained begin (operators ++ [])) (sym (append-nil parts))

constant_parsed : (place : ℕ → ℕ) (c : ℤ) (z : List ℕ) (more n begin : ℕ) (operators : List Operator) (parts : List Expression) (ms : List ℕ) (a : Bool) → unsigned_abs c ≤ max_number → Stops ends z
    → length (later_number c (length z)) ≤ n
    → (last : Bool) × (sum_chain more n begin operators parts (at (behind (later_constant c ++ z) a) (known ms)) ≡ Ok (with_addends begin operators parts (later_number c (length z)), at (behind z last) (known ms)))
constant_parsed place c z more n begin operators parts ms a small stops turns = go (unsigned_abs c == 0) n turns
  where
    digits : List ℕ
    digits = decimal (unsigned_abs c)

    addend : Operator × Expression
    addend = joined_to c (length (decimal (unsigned_abs c)) + length z) (rows.number (unsigned_abs c) (length z))

    no_sum : (b : Bool) → sum_operation (lexeme (behind z b)) ≡ None
    no_sum b = (by_ends (lexeme (behind z b)) (stops.next b)).sum

    go : (t : Bool) (n : ℕ) → length (if t then [] else joined_to c (length (decimal (unsigned_abs c)) + length z) (rows.number (unsigned_abs c) (length z)) ∷ []) ≤ n
        → (last : Bool) × (sum_chain more n begin operators parts (at (behind ((if t then [] else joint c ++ decimal (unsigned_abs c)) ++ z) a) (known ms))
        ≡ Ok (with_addends begin operators parts (if t then [] else joined_to c (length (decimal (unsigned_abs c)) + length z) (rows.number (unsigned_abs c) (length z)) ∷ []), at (behind z last) (known ms)))
    go true n h = (
      a,
      chain_ends sum_operation (product more) n begin operators parts (behind z a) (known ms) (no_sum a)
          ∙ ap (λ (e : Expression). Ok (e, at (behind z a) (known ms))) (without begin operators parts),
    )
    go false zero h = absurd (omega arith)
    go false (suc n) h =
        let y = digits ++ z in
        let r = behind (32 ∷ y) false in
        let here : Operator = record { operation = joining c; left = 2 + length y } in
        let e = rows.number (unsigned_abs c) (length z) in (
          true,
          ap (λ (x : List ℕ). sum_chain more (suc n) begin operators parts (at (behind x a) (known ms))) (append_assoc (joint c) digits z)
              ∙ joint_passed more c y a (known ms) n begin operators parts
              ∙ ap (λ (o : Outcome Input Expression). and_then o (λ part. sum_chain more n begin (operators ++ here ∷ []) (parts ++ part ∷ [])))
              (number_alone place false (unsigned_abs c) more ms r z small (skipped_space y ∙ number_stays (unsigned_abs c) z small) (stops_follow z stops))
              ∙ chain_ends sum_operation (product more) n begin (operators ++ here ∷ []) (parts ++ e ∷ []) (behind z true) (known ms) (no_sum true)
              ∙ ap (λ (k : ℕ). Ok (chained begin (operators ++ record { operation = joining c; left = 2 + k } ∷ []) (parts ++ e ∷ []), at (behind z true) (known ms))) (length-append digits z),
        )

later_parsed : (place : ℕ → ℕ) (ps : List (ℕ × ℤ)) (c : ℤ) (z : List ℕ) (more n begin : ℕ) (operators : List Operator) (parts : List Expression) (ms : List ℕ) (a : Bool)
    → pairs_within ps ≡ true → unsigned_abs c ≤ max_number → Stops ends z → length (later place ps c (length z)) ≤ n → Placed place ms (map (λ p. p.0) ps)
    → (last : Bool) × (sum_chain more n begin operators parts (at (behind (tail ps c z) a) (known ms)) ≡ Ok (with_addends begin operators parts (later place ps c (length z)), at (behind z last) (known (met ms (map (λ p. p.0) ps)))))
later_parsed place [] c z more n begin operators parts ms a within small stops turns numbers = constant_parsed place c z more n begin operators parts ms a small stops turns
later_parsed place (p ∷ ps) c z more zero begin operators parts ms a within small stops turns numbers = absurd (omega arith)
later_parsed place (p ∷ ps) c z more (suc n) begin operators parts ms a within small stops turns numbers =
    let both = and_parts (nat_le (unsigned_abs p.1) limit) (pairs_within ps) within in
    let magnitude = unsigned_abs p.1 in
    let few : unsigned_abs p.1 ≤ max_number = in_range (unsigned_abs p.1) both.0 in
    let text = product_text magnitude p.0 in
    let others = tail ps c z in
    let y = text ++ others in
    let r = behind (32 ∷ y) false in
    let follows = tail_follows ps c z stops in
    let e = rows.product place false (left r) magnitude p.0 (length others) in
    let here : Operator = record { operation = joining p.1; left = 2 + length y } in
    let front : ahead (behind (32 ∷ (product_text (unsigned_abs p.1) p.0 ++ tail ps c z)) false) ≡ product_text (unsigned_abs p.1) p.0 ++ tail ps c z = skipped_space y ∙ product_stays magnitude p.0 others few in
    let rest = later_parsed place ps c z more n begin (operators ++ here ∷ []) (parts ++ e ∷ []) (with_element nat_eq ms p.0) false both.1 small stops (omega arith) numbers.1 in
    let xs = later place ps c (length z) in
    let end = at (behind z rest.0) (known (met ms (map (λ p. p.0) (p ∷ ps)))) in
    let size : length y ≡ length text + (length (later_terms ps ++ later_constant c) + length z) = length-append text others ∙ ap (λ (k : ℕ). length text + k) (length-append (later_terms ps ++ later_constant c) z) in
    let begins : left r ≡ length text + (length (later_terms ps ++ later_constant c) + length z) = left_is r ∙ ap length front ∙ size in (
      rest.0,
      ap (λ (x : List ℕ). sum_chain more (suc n) begin operators parts (at (behind x a) (known ms))) (tail_is p ps c z)
          ∙ joint_passed more p.1 y a (known ms) n begin operators parts
          ∙ ap (λ (o : Outcome Input Expression). and_then o (λ part. sum_chain more n begin (operators ++ here ∷ []) (parts ++ part ∷ [])))
          (product_is place false magnitude p.0 more ms r others few (numbers.0, tt) front follows.breaks (follows.no_product false))
          ∙ rest.1
          ∙ ap (λ (v : List Operator). Ok (chained begin v ((parts ++ e ∷ []) ++ operands_of xs), end)) (append_assoc operators (here ∷ []) (operators_of xs))
          ∙ ap (λ (v : List Expression). Ok (chained begin (operators ++ here ∷ operators_of xs) v, end)) (append_assoc parts (e ∷ []) (operands_of xs))
          ∙ ap (λ (k : ℕ). Ok (chained begin (operators ++ record { operation = joining p.1; left = 2 + k } ∷ operators_of xs) (parts ++ e ∷ operands_of xs), end)) size
          ∙ ap (λ (k : ℕ). Ok (chained begin (operators ++ record { operation = joining p.1; left = 2 + (length text + (length (later_terms ps ++ later_constant c) + length z)) } ∷ operators_of xs) (parts ++ rows.product place false k magnitude p.0 (length others) ∷ operands_of xs), end)) begins
          ∙ ap (λ (k : ℕ). Ok (chained begin (operators ++ record { operation = joining p.1; left = 2 + (length text + (length (later_terms ps ++ later_constant c) + length z)) } ∷ operators_of xs) (parts ++ rows.product place false (length text + (length (later_terms ps ++ later_constant c) + length z)) magnitude p.0 k ∷ operands_of xs), end))
          (length-append (later_terms ps ++ later_constant c) z),
    )

-- ---- sums

pub signed_decimal_is : (c : ℤ) → signed_decimal c ≡ sign_text (is_negative c) ++ decimal (unsigned_abs c)
signed_decimal_is (pos n) =
    let e : nat_lt n 0 ≡ false = grind (arith, nat_tests) in
    ap (λ (t : Bool). sign_text t ++ decimal n) (sym e)
signed_decimal_is (negsuc n) = refl

pub sum_is : (place : ℕ → ℕ) (ps : List (ℕ × ℤ)) (c : ℤ) (more : ℕ) (ms : List ℕ) (r : Remaining) (z : List ℕ) → pairs_within ps ≡ true → unsigned_abs c ≤ max_number
    → Placed place ms (map (λ p. p.0) ps) → ahead r ≡ sum_text ps c ++ z → Stops ends z
    → (last : Bool) × (expression more (at r (known ms)) ≡ Ok (rows.sum place ps c (length z), at (behind z last) (known (met ms (map (λ p. p.0) ps)))))
sum_is place [] c more ms r z within small numbers front stops =
    let e = rows.signed (is_negative c) (left r) (rows.number (unsigned_abs c) (length z)) in
    let text : ahead r ≡ sign_text (is_negative c) ++ (decimal (unsigned_abs c) ++ z) = front ∙ ap (λ (y : List ℕ). y ++ z) (signed_decimal_is c) ∙ append_assoc (sign_text (is_negative c)) (decimal (unsigned_abs c)) z in (
      true,
      lone sum_operation (product more) e r (behind z true) (known ms) (known ms) (number_alone place (is_negative c) (unsigned_abs c) more ms r z small text (stops_follow z stops)) (by_ends (lexeme (behind z true)) (stops.next true)).sum
          ∙ ap (λ (k : ℕ). Ok (rows.signed (is_negative c) k (rows.number (unsigned_abs c) (length z)), at (behind z true) (known ms))) (left_is r ∙ ap length front ∙ length-append (signed_decimal c) z),
    )
sum_is place (p ∷ ps) c more ms r z within small numbers front stops =
    let both = and_parts (nat_le (unsigned_abs p.1) limit) (pairs_within ps) within in
    let magnitude = unsigned_abs p.1 in
    let few : unsigned_abs p.1 ≤ max_number = in_range (unsigned_abs p.1) both.0 in
    let text = product_text magnitude p.0 in
    let others = tail ps c z in
    let follow = length (later_terms ps ++ later_constant c) + length z in
    let s = behind others false in
    let follows = tail_follows ps c z stops in
    let e = rows.product place (is_negative p.1) (left r) magnitude p.0 (length others) in
    let xs = later place ps c (length z) in
    let grouped : ahead r ≡ first_term p ++ others = front ∙ append_assoc (first_term p) (later_terms ps ++ later_constant c) z in
    let rest = later_parsed place ps c z more (left s) (left r) [] (e ∷ []) (with_element nat_eq ms p.0) false both.1 small stops (later_turns place ps c z (length z) false) numbers.1 in
    let end = at (behind z rest.0) (known (met ms (map (λ p. p.0) (p ∷ ps)))) in
    let size : length (tail ps c z) ≡ length (later_terms ps ++ later_constant c) + length z = length-append (later_terms ps ++ later_constant c) z in
    let begins : left r ≡ length (first_term p) + (length (later_terms ps ++ later_constant c) + length z) = left_is r ∙ ap length grouped ∙ length-append (first_term p) others ∙ ap (λ (k : ℕ). length (first_term p) + k) size in (
      rest.0,
      chain_begins sum_operation (product more) e r s (known ms) (known (met ms (p.0 ∷ [])))
          (product_is place (is_negative p.1) magnitude p.0 more ms r others few (numbers.0, tt) (grouped ∙ append_assoc (sign_text (is_negative p.1)) text others) follows.breaks (follows.no_product false))
          ∙ rest.1
          ∙ ap (λ (k : ℕ). Ok (chained k (operators_of xs) (rows.product place (is_negative p.1) k magnitude p.0 (length others) ∷ operands_of xs), end)) begins
          ∙ ap (λ (k : ℕ). Ok (chained (length (first_term p) + follow) (operators_of xs) (rows.product place (is_negative p.1) (length (first_term p) + follow) magnitude p.0 k ∷ operands_of xs), end)) size,
    )
