-- The rules of expressions give formed ones.
use Rattle.std.proofs.Common.{◌≡◌, ◌<◌, ◌≤◌, ◌^◌, ℕ, zero, suc, Bool, true, false, List, [], ◌∷◌, ◌++◌, length, if◌then◌else◌, Option, Some, None, refl, arith, length-append}
use Rattle.std.proofs.lemmas.List.Elements.{All-nil, All-cons, All-push, All-weaker}
use Rattle.std.specs.Prelude.{All}
use Rattle.token_model.specs.declared.token.Lexeme.{Lexeme}
use Rattle.token_model.specs.declared.token.Lexeme.TheVariants as l
use Rattle.token_model.specs.Parsers.{Parser, ◌>>◌, ◌<$>◌, pure}
use Rattle.token_model.specs.Remaining.{lexeme, spelling}
use Rattle.token_cursor.specs.Escapes.{name_by}
use Rattle.token_cursor.proofs.Spelled.{next_within, number_in_limit}
use Rattle.clp_grammar.specs.declared.expression.Operation.{Operation}
use Rattle.clp_grammar.specs.declared.expression.Operator.{Operator}
use Rattle.clp_grammar.specs.declared.expression.Head.{Head}
use Rattle.clp_grammar.specs.declared.expression.Head.TheVariants as head
use Rattle.clp_grammar.specs.declared.expression.Expression.{Expression, Variable, Node}
use Rattle.clp_grammar.specs.Input.{Input, passed, left, sees, pass, expect, eat, separated}
use Rattle.clp_grammar.specs.Names.{variable}
use Rattle.clp_grammar.specs.Expressions as e
use Rattle.draft_laws.specs.Formed.{IsNumbered, Fits, IsFormed}
use Rattle.draft_laws.proofs.Parts.{node_formed, number_formed, variable_formed, still_formed, chained_formed}
use Rattle.draft_laws.proofs.ShortNames.{is_name, name_is_short}
use Rattle.draft_laws.proofs.Reading.{IfRead, further, Goes, stays, goes, goes_next, From, Gives, Grows, Anything, AreFew, from_then, at_then, from_known_value, from_pass, from_expect, from_eat, from_variable, from_separated}

pub grows_formed : Grows IsFormed
grows_formed m n w x h = still_formed m n w x h

pub all_formed : (m n : ℕ) → m ≤ n → (xs : List Expression) → All (IsFormed m) xs → All (IsFormed n) xs
all_formed m n w xs h = All-weaker (IsFormed m) (IsFormed n) (λ x f. still_formed m n w x f) xs h

from_formed : (n : ℕ) (x : Expression) → IsFormed n x → From n IsFormed (pure x)
from_formed n x h = from_known_value n IsFormed grows_formed x h

-- ---- chains

module _ (operation_of : Lexeme → Option Operation) (operand : Parser Input Expression) (gives : Gives IsFormed operand) where
  links_formed : (turns n begin : ℕ) (operators : List Operator) (parts : List Expression) → length parts ≡ suc (length operators) → All (IsFormed n) parts → From n IsFormed (e.chain_from operation_of operand turns begin operators parts)
  unfolding e.chain_from
  links_formed zero n begin operators parts same all = from_formed n (e.chained begin operators parts) (chained_formed n begin operators parts same all)
  links_formed (suc turns) n begin operators parts same all = λ i short named. go (links_formed turns) i short named (operation_of (lexeme i.remaining))
    where
      go : ((n begin : ℕ) (operators : List Operator) (parts : List Expression) → length parts ≡ suc (length operators) → All (IsFormed n) parts → From n IsFormed (e.chain_from operation_of operand turns begin operators parts))
          → (i : Input) → length i.remaining.text < 2 ^ 32 → n ≤ length i.names → (o : Option Operation)
          → IfRead (e.link_by operation_of operand begin operators parts (e.chain_from operation_of operand turns begin) o i) (λ x j. Goes i j × IsFormed (length j.names) x)
      go rest i short named None = from_formed n (e.chained begin operators parts) (chained_formed n begin operators parts same all) i short named
      go rest i short named (Some operation) =
          let operator : Operator = record { operation = operation; left = left i } in
          at_then n IsFormed IsFormed operand (λ part. e.chain_from operation_of operand turns begin (operators ++ operator ∷ []) (parts ++ part ∷ [])) i (passed i) (goes_next i) short named (gives n) (λ m w part f.
          rest m begin (operators ++ operator ∷ []) (parts ++ part ∷ []) (omega (arith, same, length-append parts (part ∷ []), length-append operators (operator ∷ []))) (All-push (IsFormed m) parts part (all_formed n m w parts all) f))

  pub chain_formed : Gives IsFormed (e.chain operation_of operand)
  unfolding e.chain
  chain_formed n i short named =
      at_then n IsFormed IsFormed operand (λ first j. e.chain_from operation_of operand (left j) (left i) [] (first ∷ []) j) i i (stays i) short named (gives n) (λ m w first f j s v.
      links_formed (left j) m (left i) [] (first ∷ []) refl (All-cons (IsFormed m) first [] f (All-nil (IsFormed m))) j s v)

-- ---- what stands in brackets is given by others

module _ (more : ℕ) (arguments : Parser Input (List Expression)) (bracketed list : Parser Input Expression)
    (gives_arguments : Gives (AreFew IsFormed) arguments) (gives_bracketed : Gives IsFormed bracketed) (gives_list : Gives IsFormed list) where
  application_formed : (k : Lexeme) → is_name k ≡ true → (n : ℕ) (i : Input) → lexeme i.remaining ≡ k → length i.remaining.text < 2 ^ 32 → n ≤ length i.names
      → IfRead (e.application more arguments bracketed list k i) (λ x j. Goes i j × IsFormed (length j.names) x)
  unfolding e.application
  application_formed k is n i comes short named =
      further (behind (passed i)) (λ x j. Goes (passed i) j × IsFormed (length j.names) x) (λ x j. Goes i j × IsFormed (length j.names) x) (go (sees l.OpenRound (passed i))) (λ x j r. (goes i (passed i) j (goes_next i) r.0, r.1))
    where
      spelled : List ℕ
      spelled = name_by k (spelling i.remaining)

      behind : Parser Input Expression
      behind j = (if sees l.OpenRound j then Node (left i) (head.Application spelled) <$> arguments else pure (Node (left i) (head.Application spelled) [])) j

      go : (t : Bool) → IfRead ((if t then Node (left i) (head.Application spelled) <$> arguments else pure (Node (left i) (head.Application spelled) [])) (passed i)) (λ x j. Goes (passed i) j × IsFormed (length j.names) x)
      go true =
          at_then n (AreFew IsFormed) IsFormed arguments (λ parts. pure (Node (left i) (head.Application spelled) parts)) (passed i) (passed i) (stays (passed i)) (omega (arith, short, next_within i.remaining)) named (gives_arguments n) (λ m w parts f.
          from_formed m (Node (left i) (head.Application spelled) parts) (node_formed m (left i) (head.Application spelled) parts (f.1, name_is_short i.remaining k comes is) f.0))
      go false =
          from_formed n (Node (left i) (head.Application spelled) []) (node_formed n (left i) (head.Application spelled) [] (omega arith, name_is_short i.remaining k comes is) (All-nil (IsFormed n))) (passed i) (omega (arith, short, next_within i.remaining)) named

  primary_formed : Gives IsFormed (e.primary more arguments bracketed list)
  unfolding e.primary
  primary_formed n i short named = go (lexeme i.remaining) refl
    where
      go : (k : Lexeme) → lexeme i.remaining ≡ k → IfRead (e.primary_by more arguments bracketed list k i) (λ x j. Goes i j × IsFormed (length j.names) x)
      go l.Number h = (goes_next i, number_formed (length i.names) (left i) _ (number_in_limit i.remaining h))
      go l.Variable h = at_then n IsNumbered IsFormed variable (λ number. pure (Variable (left i) number)) i i (stays i) short named (from_variable n) (λ m w number f. from_formed m (Variable (left i) number) (variable_formed m (left i) number f))
      go l.Name h = application_formed l.Name refl n i h short named
      go l.Quoted h = application_formed l.Quoted refl n i h short named
      go l.OpenRound h = gives_bracketed n i short named
      go l.OpenSquare h = gives_list n i short named
      go _ h = tt

  sign_formed : (sign : Head) → Fits sign 1 → Gives IsFormed (e.behind_sign more arguments bracketed list sign)
  unfolding e.behind_sign
  sign_formed sign fits n i short named =
      at_then n IsFormed IsFormed (e.primary more arguments bracketed list) (λ part. pure (Node (left i) sign (part ∷ []))) i (passed i) (goes_next i) short named (primary_formed n) (λ m w part f.
      from_formed m (Node (left i) sign (part ∷ [])) (node_formed m (left i) sign (part ∷ []) fits (All-cons (IsFormed m) part [] f (All-nil (IsFormed m)))))

  signed_formed : Gives IsFormed (e.signed more arguments bracketed list)
  unfolding e.signed
  signed_formed n i short named = go (lexeme i.remaining)
    where
      go : (k : Lexeme) → IfRead (e.signed_by more arguments bracketed list k i) (λ x j. Goes i j × IsFormed (length j.names) x)
      go l.Plus = sign_formed head.Plus refl n i short named
      go l.Minus = sign_formed head.Minus refl n i short named
      go _ = primary_formed n i short named

  pub sum_formed : Gives IsFormed (e.sum more arguments bracketed list)
  sum_formed = chain_formed e.sum_operation (e.product more arguments bracketed list) (chain_formed e.product_operation (e.signed more arguments bracketed list) signed_formed)

  -- ---- lists

  closed : {A : Type 0} (n : ℕ) (end : Lexeme) (P : ℕ → A → Type 0) → Grows P → (x : A) → P n x → From n P (expect more end >> pure x)
  closed n end P grows x h = from_then n Anything P (expect more end) (λ u. pure x) (from_expect n more end) (λ m w u t. from_known_value m P grows x (grows n m w x h))

  module _ (after_comma : ℕ → List Expression → Parser Input Expression)
      (gives_more : (n place : ℕ) (found : List Expression) → All (IsFormed n) found → From n IsFormed (after_comma place found)) where
    by_formed : (n place : ℕ) (found : List Expression) → 0 < length found → All (IsFormed n) found → (k : Lexeme) → From n IsFormed (e.elements_by more arguments bracketed list after_comma place found k)
    by_formed n place found some all l.Comma = gives_more n place found all
    by_formed n place found some all l.Bar = λ i short named.
        at_then n IsFormed IsFormed (e.sum more arguments bracketed list) (λ rest. expect more l.CloseSquare >> pure (Node place head.OpenList (found ++ rest ∷ []))) i (passed i) (goes_next i) short named (sum_formed n) (λ m w rest f.
        closed m l.CloseSquare IsFormed grows_formed (Node place head.OpenList (found ++ rest ∷ [])) (node_formed m place head.OpenList (found ++ rest ∷ []) (omega (arith, some, length-append found (rest ∷ []))) (All-push (IsFormed m) found rest (all_formed n m w found all) f)))
    by_formed n place found some all _ = closed n l.CloseSquare IsFormed grows_formed (Node place head.List found) (node_formed n place head.List found tt all)

    pub elements_formed : (n place : ℕ) (found : List Expression) → All (IsFormed n) found → From n IsFormed (e.elements_with more arguments bracketed list after_comma place found)
    unfolding e.elements_with
    elements_formed n place found all i short named =
        at_then n IsFormed IsFormed (e.sum more arguments bracketed list) (λ element j. e.elements_by more arguments bracketed list after_comma place (found ++ element ∷ []) (lexeme j.remaining) j) i i (stays i) short named (sum_formed n) (λ m w element f j s v.
        by_formed m place (found ++ element ∷ []) (omega (arith, length-append found (element ∷ []))) (All-push (IsFormed m) found element (all_formed n m w found all) f) (lexeme j.remaining) j s v)

    pub list_formed : (n place : ℕ) → From n IsFormed (e.list_with more arguments bracketed list after_comma place)
    unfolding e.list_with
    list_formed n place = from_then n Anything IsFormed (eat l.CloseSquare) (λ is_empty. if is_empty then pure (Node place head.List []) else e.elements_with more arguments bracketed list after_comma place []) (from_eat n l.CloseSquare) (λ m w is_empty u. go m is_empty)
      where
        go : (m : ℕ) (t : Bool) → From m IsFormed (if t then pure (Node place head.List []) else e.elements_with more arguments bracketed list after_comma place [])
        go m true = from_formed m (Node place head.List []) (node_formed m place head.List [] tt (All-nil (IsFormed m)))
        go m false = elements_formed m place [] (All-nil (IsFormed m))

-- ---- all levels

few_grow : Grows (AreFew IsFormed)
few_grow m n w xs h = (all_formed m n w xs h.0, h.1)

mutual
  unfolding e.arguments e.bracketed e.list e.after_comma

  arguments_formed : (more : ℕ) → Gives (AreFew IsFormed) (e.arguments more)
  arguments_formed zero n i short named = tt
  arguments_formed (suc more) n i short named =
      let inside = sum_formed more (e.arguments more) (e.bracketed more) (e.list more) (arguments_formed more) (bracketed_formed more) (list_formed_at more) in
      at_then n (AreFew IsFormed) (AreFew IsFormed) (separated (e.expression more)) (λ found. expect more l.CloseRound >> pure found) i (passed i) (goes_next i) short named (from_separated IsFormed (e.expression more) grows_formed inside n) (λ m w found f.
      from_then m Anything (AreFew IsFormed) (expect more l.CloseRound) (λ u. pure found) (from_expect m more l.CloseRound) (λ k v u t. from_known_value k (AreFew IsFormed) few_grow found (few_grow m k v found f)))

  bracketed_formed : (more : ℕ) → Gives IsFormed (e.bracketed more)
  bracketed_formed zero n i short named = tt
  bracketed_formed (suc more) n i short named =
      let inside = sum_formed more (e.arguments more) (e.bracketed more) (e.list more) (arguments_formed more) (bracketed_formed more) (list_formed_at more) in
      at_then n IsFormed IsFormed (e.expression more) (λ part. expect more l.CloseRound >> pure (Node (left i) head.Brackets (part ∷ []))) i (passed i) (goes_next i) short named (inside n) (λ m w part f.
      from_then m Anything IsFormed (expect more l.CloseRound) (λ u. pure (Node (left i) head.Brackets (part ∷ []))) (from_expect m more l.CloseRound) (λ k v u t.
      from_formed k (Node (left i) head.Brackets (part ∷ [])) (node_formed k (left i) head.Brackets (part ∷ []) refl (All-cons (IsFormed k) part [] (still_formed m k v part f) (All-nil (IsFormed k))))))

  list_formed_at : (more : ℕ) → Gives IsFormed (e.list more)
  list_formed_at zero n i short named = tt
  list_formed_at (suc more) n i short named =
      from_then n Anything IsFormed pass (λ u. e.list_with more (e.arguments more) (e.bracketed more) (e.list more) (e.after_comma more) (left i)) (from_pass n) (λ m w u t.
      list_formed more (e.arguments more) (e.bracketed more) (e.list more) (arguments_formed more) (bracketed_formed more) (list_formed_at more) (e.after_comma more) (comma_formed more) m (left i)) i short named

  comma_formed : (more n place : ℕ) (found : List Expression) → All (IsFormed n) found → From n IsFormed (e.after_comma more place found)
  comma_formed zero n place found all i short named = tt
  comma_formed (suc more) n place found all i short named =
      from_then n Anything IsFormed pass (λ u. e.elements_with more (e.arguments more) (e.bracketed more) (e.list more) (e.after_comma more) place found) (from_pass n) (λ m w u t.
      elements_formed more (e.arguments more) (e.bracketed more) (e.list more) (arguments_formed more) (bracketed_formed more) (list_formed_at more) (e.after_comma more) (comma_formed more) m place found (all_formed n m w found all)) i short named

pub expression_formed : (more : ℕ) → Gives IsFormed (e.expression more)
expression_formed more = sum_formed more (e.arguments more) (e.bracketed more) (e.list more) (arguments_formed more) (bracketed_formed more) (list_formed_at more)
