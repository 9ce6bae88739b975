-- The rules of expressions read the same from texts of the same tokens.
use Rattle.std.proofs.Common.{◌≡◌, ◌+◌, ℕ, zero, suc, Bool, true, false, List, [], ◌∷◌, ◌++◌, if◌then◌else◌, Some, None, refl, ap, ◌∙◌, sym, subst, arith}
use Rattle.std.specs.Prelude.{Option, map}
use Rattle.token_model.specs.declared.token.Lexeme.{Lexeme}
use Rattle.token_model.specs.declared.token.Lexeme.TheVariants as l
use Rattle.token_model.specs.declared.fault.Kind.TheVariants.{TooDeep}
use Rattle.token_model.specs.Numbers.{number_value}
use Rattle.token_model.specs.Parsers.{Outcome, Parser, ◌>>◌, ◌<$>◌, pure}
use Rattle.token_model.specs.Remaining.{lexeme, spelling}
use Rattle.clp_grammar.specs.declared.expression.Operation.{Operation}
use Rattle.clp_grammar.specs.declared.expression.Operator.{Operator}
use Rattle.clp_grammar.specs.declared.expression.Head.{Head}
use Rattle.clp_grammar.specs.declared.expression.Head.TheVariants as head
use Rattle.clp_grammar.specs.declared.expression.Expression.{Expression, Number, Variable, Node}
use Rattle.clp_grammar.specs.Input.{Input, passed, left, sees, name, expect, eat, separated}
use Rattle.clp_grammar.specs.Names.{variable}
use Rattle.clp_grammar.specs.Expressions as e
use Rattle.turn_laws.proofs.Reading.{Keeps, Takes, takes_keeps}
use Rattle.turn_laws.proofs.Takes.{arguments_keep, bracketed_takes, list_takes, signed_takes, product_takes, expression_takes}
use Rattle.turn_laws.proofs.Turns.{chain_turns, expression_refuses}
use Rattle.space_laws.specs.Moved.{moved_operator, moved_head, moved}
use Rattle.space_laws.proofs.Meaning.{moved_node}
use Rattle.space_laws.proofs.Reading.{Alike, SameRule, unplaced, alike_then, same_passed, same_left, by_lexeme, by_sees, pure_same, refuse_same, fault_same, eat_same, expect_same, name_same, spelling_same, variable_same, pushed_same, separated_same}

module _ (to : ℕ → ℕ) where
  -- a node of the same head and parts, at other places
  pub node_same : (h : Head) (place other : ℕ) (k : Head) (xs ys : List Expression) → other ≡ to place → k ≡ moved_head to h → ys ≡ map (moved to) xs → Node other k ys ≡ moved to (Node place h xs)
  node_same h place other k xs ys e f g =
      ap (λ (p : ℕ). Node p k ys) e ∙ (ap (λ (c : Head). Node (to place) c ys) f ∙ (ap (λ (zs : List Expression). Node (to place) (moved_head to h) zs) g ∙ sym (moved_node to place h xs)))

  one_same : (x y : Expression) → y ≡ moved to x → y ∷ [] ≡ map (moved to) (x ∷ [])
  one_same x y e = ap (λ (z : Expression). z ∷ []) e

  -- ---- chains

  chained_same : (begin : ℕ) (operators : List Operator) (parts : List Expression) → e.chained (to begin) (map (moved_operator to) operators) (map (moved to) parts) ≡ moved to (e.chained begin operators parts)
  unfolding e.chained
  chained_same begin [] [] = sym (moved_node to begin (head.Chain []) [])
  chained_same begin [] (x ∷ parts) = refl
  chained_same begin (o ∷ operators) [] = sym (moved_node to begin (head.Chain (o ∷ operators)) [])
  chained_same begin (o ∷ operators) (x ∷ parts) = sym (moved_node to begin (head.Chain (o ∷ operators)) (x ∷ parts))

  module _ (operation_of : Lexeme → Option Operation) (none : operation_of l.Finish ≡ None) (operand : Parser Input Expression) (takes : Takes operand) (same : SameRule to (moved to) operand operand) where
    abbrev chains : ℕ → ℕ → List Operator → List Expression → Parser Input Expression
    chains = e.chain_from operation_of operand

    links_same : (n begin : ℕ) (os : List Operator) (xs : List Expression) (other : ℕ) (us : List Operator) (ys : List Expression) → other ≡ to begin → us ≡ map (moved_operator to) os → ys ≡ map (moved to) xs
        → SameRule to (moved to) (chains n begin os xs) (chains n other us ys)
    unfolding e.chain_from
    links_same zero begin os xs other us ys p q r i j h = (ap (λ (b : ℕ). e.chained b us ys) p ∙ (ap (λ (vs : List Operator). e.chained (to begin) vs ys) q ∙ (ap (λ (zs : List Expression). e.chained (to begin) (map (moved_operator to) os) zs) r ∙ chained_same begin os xs)), h)
    links_same (suc n) begin os xs other us ys p q r i j h =
        by_lexeme to (moved to) (λ k. e.link_by operation_of operand begin os xs (chains n begin) (operation_of k)) (λ k. e.link_by operation_of operand other us ys (chains n other) (operation_of k)) i j h (λ k.
        go (λ os xs us ys. links_same n begin os xs other us ys p) (operation_of k))
      where
        go : ((os : List Operator) (xs : List Expression) (us : List Operator) (ys : List Expression) → us ≡ map (moved_operator to) os → ys ≡ map (moved to) xs → SameRule to (moved to) (chains n begin os xs) (chains n other us ys))
            → (o : Option Operation) → Alike to (moved to) (e.link_by operation_of operand begin os xs (chains n begin) o i) (e.link_by operation_of operand other us ys (chains n other) o j)
        go rest None = (ap (λ (b : ℕ). e.chained b us ys) p ∙ (ap (λ (vs : List Operator). e.chained (to begin) vs ys) q ∙ (ap (λ (zs : List Expression). e.chained (to begin) (map (moved_operator to) os) zs) r ∙ chained_same begin os xs)), h)
        go rest (Some operation) =
            let a : Operator = record { operation = operation; left = left i } in
            let b : Operator = record { operation = operation; left = left j } in
            let same_operator : b ≡ moved_operator to a = ap (λ (z : ℕ). record { operation = operation; left = z }) (sym (same_left to i j h)) in
            alike_then to (moved to) (moved to) (operand (passed i)) (operand (passed j)) (λ x. chains n begin (os ++ a ∷ []) (xs ++ x ∷ [])) (λ y. chains n other (us ++ b ∷ []) (ys ++ y ∷ [])) (same (passed i) (passed j) (same_passed to i j h)) (λ x y s.
            rest (os ++ a ∷ []) (xs ++ x ∷ []) (us ++ b ∷ []) (ys ++ y ∷ []) (pushed_same to (moved_operator to) os us a b q same_operator) (pushed_same to (moved to) xs ys x y r s))

    pub chain_same : SameRule to (moved to) (e.chain operation_of operand) (e.chain operation_of operand)
    unfolding e.chain
    chain_same i j h =
        alike_then to (moved to) (moved to) (operand i) (operand j) (λ x k. chains (left k) (left i) [] (x ∷ []) k) (λ y m. chains (left m) (left j) [] (y ∷ []) m) (same i j h) (λ x y s k m g.
        let n : ℕ = left k + left m in
        let turns = chain_turns operation_of none operand (takes_keeps operand takes) in
        subst (λ (o : Outcome Input Expression). Alike to (moved to) o (chains (left m) (left j) [] (y ∷ []) m)) (turns (left k) n (left i) [] (x ∷ []) k (omega arith) (omega arith))
        (subst (λ (o : Outcome Input Expression). Alike to (moved to) (chains n (left i) [] (x ∷ []) k) o) (turns (left m) n (left j) [] (y ∷ []) m (omega arith) (omega arith))
        (links_same n (left i) [] (x ∷ []) (left j) [] (y ∷ []) (sym (same_left to i j h)) refl (one_same x y s) k m g)))

  -- ---- what stands in brackets is given by others

  module _ (more : ℕ) (arguments : Parser Input (List Expression)) (bracketed list : Parser Input Expression)
      (keep : Keeps arguments) (takes_bracketed : Takes bracketed) (takes_list : Takes list)
      (same_arguments : SameRule to (map (moved to)) arguments arguments) (same_bracketed : SameRule to (moved to) bracketed bracketed) (same_list : SameRule to (moved to) list list) where
    application_same : (k : Lexeme) → SameRule to (moved to) (e.application more arguments bracketed list k) (e.application more arguments bracketed list k)
    unfolding e.application
    application_same k i j h =
        alike_then to unplaced (moved to) (name k i) (name k j) (after (left i)) (after (left j)) (name_same to k i j h) (λ spelled other s m n g.
        by_sees to (moved to) l.OpenRound (with_arguments (left i) spelled) (with_arguments (left j) other) m n g (λ t. go spelled other s t m n g))
      where
        with_arguments : ℕ → List ℕ → Bool → Parser Input Expression
        with_arguments place spelled t = if t then Node place (head.Application spelled) <$> arguments else pure (Node place (head.Application spelled) [])

        after : ℕ → List ℕ → Parser Input Expression
        after place spelled j = with_arguments place spelled (sees l.OpenRound j) j

        go : (spelled other : List ℕ) → other ≡ spelled → (t : Bool) → SameRule to (moved to) (with_arguments (left i) spelled t) (with_arguments (left j) other t)
        go spelled other s true m n g =
            alike_then to (map (moved to)) (moved to) (arguments m) (arguments n) (λ xs. pure (Node (left i) (head.Application spelled) xs)) (λ ys. pure (Node (left j) (head.Application other) ys)) (same_arguments m n g) (λ xs ys r.
            pure_same to (moved to) (Node (left i) (head.Application spelled) xs) (Node (left j) (head.Application other) ys) (node_same (head.Application spelled) (left i) (left j) (head.Application other) xs ys (sym (same_left to i j h)) (ap (λ (z : List ℕ). head.Application z) s) r))
        go spelled other s false m n g = (node_same (head.Application spelled) (left i) (left j) (head.Application other) [] [] (sym (same_left to i j h)) (ap (λ (z : List ℕ). head.Application z) s) refl, g)

    primary_same : SameRule to (moved to) (e.primary more arguments bracketed list) (e.primary more arguments bracketed list)
    unfolding e.primary moved
    primary_same i j h = by_lexeme to (moved to) (e.primary_by more arguments bracketed list) (e.primary_by more arguments bracketed list) i j h go
      where
        number_moved : Number (left j) (number_value (spelling j.remaining)) ≡ moved to (Number (left i) (number_value (spelling i.remaining)))
        number_moved = ap (λ (p : ℕ). Number p (number_value (spelling j.remaining))) (sym (same_left to i j h)) ∙ ap (λ (s : List ℕ). Number (to (left i)) (number_value s)) (spelling_same to i j h)

        variable_moved : (n m : ℕ) → m ≡ n → Variable (left j) m ≡ moved to (Variable (left i) n)
        variable_moved n m s = ap (λ (p : ℕ). Variable p m) (sym (same_left to i j h)) ∙ ap (λ (k : ℕ). Variable (to (left i)) k) s

        go : (k : Lexeme) → Alike to (moved to) (e.primary_by more arguments bracketed list k i) (e.primary_by more arguments bracketed list k j)
        go l.Number = (number_moved, same_passed to i j h)
        go l.Variable =
            alike_then to unplaced (moved to) (variable i) (variable j) (λ n. pure (Variable (left i) n)) (λ m. pure (Variable (left j) m)) (variable_same to i j h) (λ n m s.
            pure_same to (moved to) (Variable (left i) n) (Variable (left j) m) (variable_moved n m s))
        go l.Name = application_same l.Name i j h
        go l.Quoted = application_same l.Quoted i j h
        go l.OpenRound = same_bracketed i j h
        go l.OpenSquare = same_list i j h
        go _ = refuse_same to {A = Expression} (moved to) more i j h

    sign_same : (sign : Head) → sign ≡ moved_head to sign → SameRule to (moved to) (e.behind_sign more arguments bracketed list sign) (e.behind_sign more arguments bracketed list sign)
    unfolding e.behind_sign
    sign_same sign fixed i j h =
        alike_then to (moved to) (moved to) (e.primary more arguments bracketed list (passed i)) (e.primary more arguments bracketed list (passed j)) (λ x. pure (Node (left i) sign (x ∷ []))) (λ y. pure (Node (left j) sign (y ∷ []))) (primary_same (passed i) (passed j) (same_passed to i j h)) (λ x y s.
        pure_same to (moved to) (Node (left i) sign (x ∷ [])) (Node (left j) sign (y ∷ [])) (node_same sign (left i) (left j) sign (x ∷ []) (y ∷ []) (sym (same_left to i j h)) fixed (one_same x y s)))

    signed_same : SameRule to (moved to) (e.signed more arguments bracketed list) (e.signed more arguments bracketed list)
    unfolding e.signed
    signed_same i j h = by_lexeme to (moved to) (e.signed_by more arguments bracketed list) (e.signed_by more arguments bracketed list) i j h go
      where
        go : (k : Lexeme) → Alike to (moved to) (e.signed_by more arguments bracketed list k i) (e.signed_by more arguments bracketed list k j)
        go l.Plus = sign_same head.Plus refl i j h
        go l.Minus = sign_same head.Minus refl i j h
        go _ = primary_same i j h

    pub sum_same : SameRule to (moved to) (e.sum more arguments bracketed list) (e.sum more arguments bracketed list)
    sum_same =
        chain_same e.sum_operation refl (e.product more arguments bracketed list) (product_takes more arguments bracketed list keep takes_bracketed takes_list)
        (chain_same e.product_operation refl (e.signed more arguments bracketed list) (signed_takes more arguments bracketed list keep takes_bracketed takes_list) signed_same)

    -- ---- lists

    closed_same : {A : Type 0} (at : A → A) (end : Lexeme) (x y : A) → y ≡ at x → SameRule to at (expect more end >> pure x) (expect more end >> pure y)
    closed_same at end x y s i j h = alike_then to {A = Unit {0}} unplaced at (expect more end i) (expect more end j) (λ u. pure x) (λ u. pure y) (expect_same to more end i j h) (λ u v t. pure_same to at x y s)

    module _ (after_comma : ℕ → List Expression → Parser Input Expression)
        (same_comma : (place other : ℕ) (xs ys : List Expression) → other ≡ to place → ys ≡ map (moved to) xs → SameRule to (moved to) (after_comma place xs) (after_comma other ys)) where
      by_same : (place other : ℕ) (xs ys : List Expression) → other ≡ to place → ys ≡ map (moved to) xs → (k : Lexeme) → SameRule to (moved to) (e.elements_by more arguments bracketed list after_comma place xs k) (e.elements_by more arguments bracketed list after_comma other ys k)
      by_same place other xs ys p q l.Comma = same_comma place other xs ys p q
      by_same place other xs ys p q l.Bar = λ i j h.
          alike_then to (moved to) (moved to) (e.sum more arguments bracketed list (passed i)) (e.sum more arguments bracketed list (passed j)) (λ x. expect more l.CloseSquare >> pure (Node place head.OpenList (xs ++ x ∷ []))) (λ y. expect more l.CloseSquare >> pure (Node other head.OpenList (ys ++ y ∷ []))) (sum_same (passed i) (passed j) (same_passed to i j h)) (λ x y s.
          closed_same (moved to) l.CloseSquare (Node place head.OpenList (xs ++ x ∷ [])) (Node other head.OpenList (ys ++ y ∷ [])) (node_same head.OpenList place other head.OpenList (xs ++ x ∷ []) (ys ++ y ∷ []) p refl (pushed_same to (moved to) xs ys x y q s)))
      by_same place other xs ys p q _ = closed_same (moved to) l.CloseSquare (Node place head.List xs) (Node other head.List ys) (node_same head.List place other head.List xs ys p refl q)

      pub elements_same : (place other : ℕ) (xs ys : List Expression) → other ≡ to place → ys ≡ map (moved to) xs → SameRule to (moved to) (e.elements_with more arguments bracketed list after_comma place xs) (e.elements_with more arguments bracketed list after_comma other ys)
      unfolding e.elements_with
      elements_same place other xs ys p q i j h =
          alike_then to (moved to) (moved to) (e.sum more arguments bracketed list i) (e.sum more arguments bracketed list j) (λ x k. e.elements_by more arguments bracketed list after_comma place (xs ++ x ∷ []) (lexeme k.remaining) k) (λ y m. e.elements_by more arguments bracketed list after_comma other (ys ++ y ∷ []) (lexeme m.remaining) m) (sum_same i j h) (λ x y s k m g.
          by_lexeme to (moved to) (e.elements_by more arguments bracketed list after_comma place (xs ++ x ∷ [])) (e.elements_by more arguments bracketed list after_comma other (ys ++ y ∷ [])) k m g (λ c.
          by_same place other (xs ++ x ∷ []) (ys ++ y ∷ []) p (pushed_same to (moved to) xs ys x y q s) c k m g))

      pub list_with_same : (place other : ℕ) → other ≡ to place → SameRule to (moved to) (e.list_with more arguments bracketed list after_comma place) (e.list_with more arguments bracketed list after_comma other)
      unfolding e.list_with
      list_with_same place other p i j h =
          alike_then to unplaced (moved to) (eat l.CloseSquare i) (eat l.CloseSquare j) (λ t. if t then pure (Node place head.List []) else e.elements_with more arguments bracketed list after_comma place []) (λ t. if t then pure (Node other head.List []) else e.elements_with more arguments bracketed list after_comma other []) (eat_same to l.CloseSquare i j h) (λ t u s.
          subst (λ (v : Bool). SameRule to (moved to) (if t then pure (Node place head.List []) else e.elements_with more arguments bracketed list after_comma place []) (if v then pure (Node other head.List []) else e.elements_with more arguments bracketed list after_comma other [])) (sym s) (go t))
        where
          go : (t : Bool) → SameRule to (moved to) (if t then pure (Node place head.List []) else e.elements_with more arguments bracketed list after_comma place []) (if t then pure (Node other head.List []) else e.elements_with more arguments bracketed list after_comma other [])
          go true = pure_same to (moved to) (Node place head.List []) (Node other head.List []) (node_same head.List place other head.List [] [] p refl refl)
          go false = elements_same place other [] [] p refl

  -- ---- all levels

  mutual
    unfolding e.arguments e.bracketed e.list e.after_comma

    arguments_same : (more : ℕ) → SameRule to (map (moved to)) (e.arguments more) (e.arguments more)
    arguments_same zero i j h = fault_same to TooDeep i.remaining j.remaining h.remaining
    arguments_same (suc more) i j h =
        let inside = sum_same more (e.arguments more) (e.bracketed more) (e.list more) (arguments_keep more) (bracketed_takes more) (list_takes more) (arguments_same more) (bracketed_same more) (list_same more) in
        alike_then to (map (moved to)) (map (moved to)) (separated (e.expression more) (passed i)) (separated (e.expression more) (passed j)) (λ found. expect more l.CloseRound >> pure found) (λ found. expect more l.CloseRound >> pure found) (separated_same to (moved to) (e.expression more) inside (expression_takes more) (expression_refuses more) (passed i) (passed j) (same_passed to i j h)) (λ xs ys s.
        λ k m g. alike_then to {A = Unit {0}} unplaced (map (moved to)) (expect more l.CloseRound k) (expect more l.CloseRound m) (λ u. pure xs) (λ u. pure ys) (expect_same to more l.CloseRound k m g) (λ u v t. pure_same to (map (moved to)) xs ys s))

    bracketed_same : (more : ℕ) → SameRule to (moved to) (e.bracketed more) (e.bracketed more)
    bracketed_same zero i j h = fault_same to TooDeep i.remaining j.remaining h.remaining
    bracketed_same (suc more) i j h =
        let inside = sum_same more (e.arguments more) (e.bracketed more) (e.list more) (arguments_keep more) (bracketed_takes more) (list_takes more) (arguments_same more) (bracketed_same more) (list_same more) in
        alike_then to (moved to) (moved to) (e.expression more (passed i)) (e.expression more (passed j)) (λ x. expect more l.CloseRound >> pure (Node (left i) head.Brackets (x ∷ []))) (λ y. expect more l.CloseRound >> pure (Node (left j) head.Brackets (y ∷ []))) (inside (passed i) (passed j) (same_passed to i j h)) (λ x y s.
        λ k m g. alike_then to {A = Unit {0}} unplaced (moved to) (expect more l.CloseRound k) (expect more l.CloseRound m) (λ u. pure (Node (left i) head.Brackets (x ∷ []))) (λ u. pure (Node (left j) head.Brackets (y ∷ []))) (expect_same to more l.CloseRound k m g) (λ u v t.
        pure_same to (moved to) (Node (left i) head.Brackets (x ∷ [])) (Node (left j) head.Brackets (y ∷ [])) (node_same head.Brackets (left i) (left j) head.Brackets (x ∷ []) (y ∷ []) (sym (same_left to i j h)) refl (one_same x y s))))

    list_same : (more : ℕ) → SameRule to (moved to) (e.list more) (e.list more)
    list_same zero i j h = fault_same to TooDeep i.remaining j.remaining h.remaining
    list_same (suc more) i j h =
        list_with_same more (e.arguments more) (e.bracketed more) (e.list more) (arguments_keep more) (bracketed_takes more) (list_takes more) (arguments_same more) (bracketed_same more) (list_same more) (e.after_comma more) (comma_same more) (left i) (left j) (sym (same_left to i j h)) (passed i) (passed j) (same_passed to i j h)

    comma_same : (more place other : ℕ) (xs ys : List Expression) → other ≡ to place → ys ≡ map (moved to) xs → SameRule to (moved to) (e.after_comma more place xs) (e.after_comma more other ys)
    comma_same zero place other xs ys p q i j h = fault_same to TooDeep i.remaining j.remaining h.remaining
    comma_same (suc more) place other xs ys p q i j h =
        elements_same more (e.arguments more) (e.bracketed more) (e.list more) (arguments_keep more) (bracketed_takes more) (list_takes more) (arguments_same more) (bracketed_same more) (list_same more) (e.after_comma more) (comma_same more) place other xs ys p q (passed i) (passed j) (same_passed to i j h)

  pub expression_same : (more : ℕ) → SameRule to (moved to) (e.expression more) (e.expression more)
  expression_same more = sum_same more (e.arguments more) (e.bracketed more) (e.list more) (arguments_keep more) (bracketed_takes more) (list_takes more) (arguments_same more) (bracketed_same more) (list_same more)
