-- The rules of expressions, goals and clauses take a token each.
use Rattle.std.proofs.Common.{◌≡◌, ◌≢◌, ◌<◌, ◌≤◌, ℕ, zero, suc, Bool, true, false, List, [], ◌∷◌, ◌++◌, cond, if◌then◌else◌, Some, None, refl, arith}
use Rattle.std.specs.Prelude.{Option}
use Rattle.token_model.specs.declared.token.Lexeme.{Lexeme}
use Rattle.token_model.specs.declared.token.Lexeme.TheVariants as l
use Rattle.token_model.specs.Parsers.{Parser, ◌>>=◌, ◌>>◌, ◌<$>◌, pure}
use Rattle.token_model.specs.Remaining as token
use Rattle.token_model.specs.Remaining.{Remaining, lexeme, same_lexeme}
use Rattle.clp_grammar.specs.declared.expression.Operation.{Operation}
use Rattle.clp_grammar.specs.declared.expression.Operator.{Operator}
use Rattle.clp_grammar.specs.declared.expression.Head.{Head}
use Rattle.clp_grammar.specs.declared.expression.Head.TheVariants as head
use Rattle.clp_grammar.specs.declared.expression.Expression.{Expression, Variable, Node}
use Rattle.clp_grammar.specs.declared.draft.Relation.{Relation}
use Rattle.clp_grammar.specs.declared.draft.Comparison.{Comparison}
use Rattle.clp_grammar.specs.declared.draft.Constraint.TheVariants as constraint
use Rattle.clp_grammar.specs.declared.draft.Goal.{Goal}
use Rattle.clp_grammar.specs.declared.draft.Goal.TheVariants as goal
use Rattle.clp_grammar.specs.declared.draft.Draft.{Draft}
use Rattle.clp_grammar.specs.Input.{Input, max_open, passed, left, sees, name, expect, eat, separated}
use Rattle.clp_grammar.specs.Names.{variable}
use Rattle.clp_grammar.specs.Expressions as e
use Rattle.clp_grammar.specs.Goals.{related, relation_of, max_inside, num_variable, num_by, constraint_by, constrained, braces, goal_by, plain_goal, one_goal}
use Rattle.clp_grammar.specs.Drafts.{body, names_met, end, draft}
use Rattle.turn_laws.proofs.Reading.{further, Within, Below, Keeps, Takes, takes_keeps, within_then, below_then, passed_within, passed_below, eat_keeps, expect_keeps, variable_below, separated_keeps}

-- a token that is seen is no end
pub sees_square : (r : Remaining) → token.sees l.CloseSquare r ≡ true → lexeme r ≢ l.Finish
unfolding token.sees same_lexeme
sees_square r h f = let g : same_lexeme l.Finish l.CloseSquare ≡ true = rw f at h in cc

pub sees_curly : (r : Remaining) → token.sees l.OpenCurly r ≡ true → lexeme r ≢ l.Finish
unfolding token.sees same_lexeme
sees_curly r h f = let g : same_lexeme l.Finish l.OpenCurly ≡ true = rw f at h in cc

-- what is within the bytes behind a token is within those from it on
passed_keeps : {A : Type 0} (parser : Parser Input A) → Keeps parser → (i : Input) → Within (left i) (parser (passed i))
passed_keeps parser keeps i = further (parser (passed i)) (λ x j. left j ≤ left (passed i)) (λ x j. left j ≤ left i) (keeps (passed i)) (λ x j h. let p = passed_within i in omega arith)

passed_takes : {A : Type 0} (parser : Parser Input A) → Takes parser → (i : Input) → Below (left i) (parser (passed i))
passed_takes parser takes i = further (parser (passed i)) (λ x j. left j < left (passed i)) (λ x j. left j < left i) (takes (passed i)) (λ x j h. let p = passed_within i in omega arith)

pure_keeps : {A : Type 0} (a : A) → Keeps (pure a)
pure_keeps a i = omega arith

-- ---- chains

module _ (operation_of : Lexeme → Option Operation) (operand : Parser Input Expression) where
  links_keep : Keeps operand → (n begin : ℕ) (operators : List Operator) (parts : List Expression) → Keeps (e.chain_from operation_of operand n begin operators parts)
  unfolding e.chain_from
  links_keep keeps zero begin operators parts i = omega arith
  links_keep keeps (suc n) begin operators parts i = go (links_keep keeps n begin) (operation_of (lexeme i.remaining))
    where
      go : ((operators : List Operator) (parts : List Expression) → Keeps (e.chain_from operation_of operand n begin operators parts)) → (o : Option Operation) → Within (left i) (e.link_by operation_of operand begin operators parts (e.chain_from operation_of operand n begin) o i)
      go rest None = omega arith
      go rest (Some operation) =
          let operator : Operator = record { operation = operation; left = left i } in
          within_then (left i) (operand (passed i)) (λ part. e.chain_from operation_of operand n begin (operators ++ operator ∷ []) (parts ++ part ∷ [])) (passed_keeps operand keeps i) (λ part. rest (operators ++ operator ∷ []) (parts ++ part ∷ []))

  pub chain_takes : Takes operand → Takes (e.chain operation_of operand)
  unfolding e.chain
  chain_takes takes i =
      below_then (left i) (operand i) (λ first j. e.chain_from operation_of operand (left j) (left i) [] (first ∷ []) j) (takes i) (λ first j.
      links_keep (takes_keeps operand takes) (left j) (left i) [] (first ∷ []) j)

-- ---- what stands in brackets is given by others

module _ (more : ℕ) (arguments : Parser Input (List Expression)) (bracketed list : Parser Input Expression) (arguments_keep : Keeps arguments) (bracketed_takes : Takes bracketed) (list_takes : Takes list) where
  application_below : (k : Lexeme) (i : Input) → lexeme i.remaining ≢ l.Finish → Below (left i) (e.application more arguments bracketed list k i)
  unfolding e.application
  application_below k i h =
      below_then (left i) (name k i) (λ spelled j. (if sees l.OpenRound j then Node (left i) (head.Application spelled) <$> arguments else pure (Node (left i) (head.Application spelled) [])) j) (passed_below i h) (λ spelled j. go spelled j (sees l.OpenRound j))
    where
      go : (spelled : List ℕ) (j : Input) (t : Bool) → Within (left j) ((if t then Node (left i) (head.Application spelled) <$> arguments else pure (Node (left i) (head.Application spelled) [])) j)
      go spelled j true = within_then (left j) (arguments j) (λ parts. pure (Node (left i) (head.Application spelled) parts)) (arguments_keep j) (λ parts. pure_keeps (Node (left i) (head.Application spelled) parts))
      go spelled j false = omega arith

  primary_takes : Takes (e.primary more arguments bracketed list)
  unfolding e.primary
  primary_takes i = go (lexeme i.remaining) refl
    where
      go : (k : Lexeme) → lexeme i.remaining ≡ k → Below (left i) (e.primary_by more arguments bracketed list k i)
      go l.Number h = passed_below i (λ f. cc)
      go l.Variable h = below_then (left i) (variable i) (λ number. pure (Variable (left i) number)) (variable_below i (λ f. cc)) (λ number. pure_keeps (Variable (left i) number))
      go l.Name h = application_below l.Name i (λ f. cc)
      go l.Quoted h = application_below l.Quoted i (λ f. cc)
      go l.OpenRound h = bracketed_takes i
      go l.OpenSquare h = list_takes i
      go _ h = tt

  sign_takes : (sign : Head) → Takes (e.behind_sign more arguments bracketed list sign)
  unfolding e.behind_sign
  sign_takes sign i =
      below_then (left i) (e.primary more arguments bracketed list (passed i)) (λ part. pure (Node (left i) sign (part ∷ []))) (passed_takes (e.primary more arguments bracketed list) primary_takes i) (λ part. pure_keeps (Node (left i) sign (part ∷ [])))

  pub signed_takes : Takes (e.signed more arguments bracketed list)
  unfolding e.signed
  signed_takes i = go (lexeme i.remaining)
    where
      go : (k : Lexeme) → Below (left i) (e.signed_by more arguments bracketed list k i)
      go l.Plus = sign_takes head.Plus i
      go l.Minus = sign_takes head.Minus i
      go _ = primary_takes i

  pub product_takes : Takes (e.product more arguments bracketed list)
  product_takes = chain_takes e.product_operation (e.signed more arguments bracketed list) signed_takes

  pub sum_takes : Takes (e.sum more arguments bracketed list)
  sum_takes = chain_takes e.sum_operation (e.product more arguments bracketed list) product_takes

  closed : {A : Type 0} (end : Lexeme) (x : A) → Keeps (expect more end >> pure x)
  closed end x i = within_then (left i) (expect more end i) (λ u. pure x) (expect_keeps more end i) (λ u. pure_keeps x)

  module _ (after_comma : ℕ → List Expression → Parser Input Expression) (comma_keeps : (place : ℕ) (found : List Expression) → Keeps (after_comma place found)) where
    by_keeps : (place : ℕ) (found : List Expression) (k : Lexeme) → Keeps (e.elements_by more arguments bracketed list after_comma place found k)
    by_keeps place found l.Comma = comma_keeps place found
    by_keeps place found l.Bar = λ i.
        within_then (left i) (e.sum more arguments bracketed list (passed i)) (λ rest. expect more l.CloseSquare >> pure (Node place head.OpenList (found ++ rest ∷ []))) (passed_keeps (e.sum more arguments bracketed list) (takes_keeps (e.sum more arguments bracketed list) sum_takes) i) (λ rest.
        closed l.CloseSquare (Node place head.OpenList (found ++ rest ∷ [])))
    by_keeps place found _ = closed l.CloseSquare (Node place head.List found)

    pub elements_take : (place : ℕ) (found : List Expression) → Takes (e.elements_with more arguments bracketed list after_comma place found)
    unfolding e.elements_with
    elements_take place found i =
        below_then (left i) (e.sum more arguments bracketed list i) (λ element j. e.elements_by more arguments bracketed list after_comma place (found ++ element ∷ []) (lexeme j.remaining) j) (sum_takes i) (λ element j.
        by_keeps place (found ++ element ∷ []) (lexeme j.remaining) j)

    pub list_with_takes : (place : ℕ) → Takes (e.list_with more arguments bracketed list after_comma place)
    unfolding e.list_with eat token.after
    list_with_takes place i = go (token.sees l.CloseSquare i.remaining) refl
      where
        go : (t : Bool) → token.sees l.CloseSquare i.remaining ≡ t → Below (left i) ((if t then pure (Node place head.List []) else e.elements_with more arguments bracketed list after_comma place []) (record i { remaining = cond t (token.next i.remaining) i.remaining }))
        go true h = passed_below i (sees_square i.remaining h)
        go false h = elements_take place [] i

-- ---- all levels

mutual
  unfolding e.arguments e.bracketed e.list e.after_comma

  pub arguments_keep : (more : ℕ) → Keeps (e.arguments more)
  arguments_keep zero i = tt
  arguments_keep (suc more) i =
      let inside = sum_takes more (e.arguments more) (e.bracketed more) (e.list more) (arguments_keep more) (bracketed_takes more) (list_takes more) in
      within_then (left i) (separated (e.expression more) (passed i)) (λ found. expect more l.CloseRound >> pure found) (passed_keeps (separated (e.expression more)) (separated_keeps (e.expression more) (takes_keeps (e.expression more) inside)) i) (λ found.
      λ j. within_then (left j) (expect more l.CloseRound j) (λ u. pure found) (expect_keeps more l.CloseRound j) (λ u. pure_keeps found))

  pub bracketed_takes : (more : ℕ) → Takes (e.bracketed more)
  bracketed_takes zero i = tt
  bracketed_takes (suc more) i =
      let inside = sum_takes more (e.arguments more) (e.bracketed more) (e.list more) (arguments_keep more) (bracketed_takes more) (list_takes more) in
      below_then (left i) (e.expression more (passed i)) (λ part. expect more l.CloseRound >> pure (Node (left i) head.Brackets (part ∷ []))) (passed_takes (e.expression more) inside i) (λ part.
      λ j. within_then (left j) (expect more l.CloseRound j) (λ u. pure (Node (left i) head.Brackets (part ∷ []))) (expect_keeps more l.CloseRound j) (λ u. pure_keeps (Node (left i) head.Brackets (part ∷ []))))

  pub list_takes : (more : ℕ) → Takes (e.list more)
  list_takes zero i = tt
  list_takes (suc more) i =
      passed_takes (e.list_with more (e.arguments more) (e.bracketed more) (e.list more) (e.after_comma more) (left i)) (list_with_takes more (e.arguments more) (e.bracketed more) (e.list more) (arguments_keep more) (bracketed_takes more) (list_takes more) (e.after_comma more) (comma_keeps more) (left i)) i

  comma_keeps : (more place : ℕ) (found : List Expression) → Keeps (e.after_comma more place found)
  comma_keeps zero place found i = tt
  comma_keeps (suc more) place found i =
      let elements = e.elements_with more (e.arguments more) (e.bracketed more) (e.list more) (e.after_comma more) place found in
      passed_keeps elements (takes_keeps elements (elements_take more (e.arguments more) (e.bracketed more) (e.list more) (arguments_keep more) (bracketed_takes more) (list_takes more) (e.after_comma more) (comma_keeps more) place found)) i

pub expression_takes : (more : ℕ) → Takes (e.expression more)
expression_takes more = sum_takes more (e.arguments more) (e.bracketed more) (e.list more) (arguments_keep more) (bracketed_takes more) (list_takes more)

-- ---- goals

related_keeps : (more : ℕ) (first : Expression) (relation : Relation) → Keeps (related more first relation)
unfolding related
related_keeps more first relation i =
    within_then (left i) (e.expression more (passed i)) (λ second. pure (record { left = left i; relation = relation; first = first; second = second })) (passed_keeps (e.expression more) (takes_keeps (e.expression more) (expression_takes more)) i) (λ second.
    pure_keeps {A = Comparison} (record { left = left i; relation = relation; first = first; second = second }))

pub constrained_takes : Takes constrained
unfolding constrained
constrained_takes i =
    below_then (left i) (e.expression max_inside i) (λ first j. constraint_by first (relation_of (lexeme j.remaining)) j) (expression_takes max_inside i) (λ first j. go first j (relation_of (lexeme j.remaining)))
  where
    num : (o : Option ℕ) → Keeps (num_by o)
    num (Some number) i = omega arith
    num None i = tt

    go : (first : Expression) (j : Input) (o : Option Relation) → Within (left j) (constraint_by first o j)
    go first j (Some relation) = within_then (left j) (related max_inside first relation j) (λ c. pure (constraint.Comparison c)) (related_keeps max_inside first relation j) (λ c. pure_keeps (constraint.Comparison c))
    go first j None = num (num_variable first) j

braces_below : (i : Input) → lexeme i.remaining ≢ l.Finish → Below (left i) (braces i)
unfolding braces
braces_below i h =
    below_then (left i) (separated constrained (passed i)) (λ found. expect max_inside l.CloseCurly >> pure found)
    (let p = passed_below i h in further (separated constrained (passed i)) (λ x j. left j ≤ left (passed i)) (λ x j. left j < left i) (separated_keeps constrained (takes_keeps constrained constrained_takes) (passed i)) (λ x j s. omega arith))
    (λ found. λ j. within_then (left j) (expect max_inside l.CloseCurly j) (λ u. pure found) (expect_keeps max_inside l.CloseCurly j) (λ u. pure_keeps found))

plain_takes : Takes plain_goal
unfolding plain_goal
plain_takes i =
    below_then (left i) (e.expression max_open i) (λ first j. goal_by first (relation_of (lexeme j.remaining)) j) (expression_takes max_open i) (λ first j. go first j (relation_of (lexeme j.remaining)))
  where
    go : (first : Expression) (j : Input) (o : Option Relation) → Within (left j) (goal_by first o j)
    go first j (Some relation) = within_then (left j) (related max_open first relation j) (λ c. pure (goal.Comparison c)) (related_keeps max_open first relation j) (λ c. pure_keeps (goal.Comparison c))
    go first j None = omega arith

pub goal_takes : Takes one_goal
unfolding one_goal
goal_takes i = go (token.sees l.OpenCurly i.remaining) refl
  where
    go : (t : Bool) → token.sees l.OpenCurly i.remaining ≡ t → Below (left i) ((if t then goal.Braces <$> braces else plain_goal) i)
    go true h = below_then (left i) (braces i) (λ found. pure (goal.Braces found)) (braces_below i (sees_curly i.remaining h)) (λ found. pure_keeps (goal.Braces found))
    go false h = plain_takes i

-- ---- clauses

body_keeps : Keeps body
unfolding body
body_keeps i = within_then (left i) (eat l.If i) (λ has_body. if has_body then separated one_goal else pure []) (eat_keeps l.If i) (λ has_body. go has_body)
  where
    go : (t : Bool) → Keeps {A = List Goal} (if t then separated one_goal else pure [])
    go true = separated_keeps one_goal (takes_keeps one_goal goal_takes)
    go false = pure_keeps {A = List Goal} []

pub draft_takes : (ending : Parser Input (Unit {0})) → Keeps ending → Takes (draft ending)
unfolding draft
draft_takes ending keeps i =
    below_then (left i) (e.expression max_open i) (λ head. body >>= rest head) (expression_takes max_open i) (λ head. λ j.
    within_then (left j) (body j) (rest head) (body_keeps j) (λ goals. λ k.
    within_then (left k) (ending k) (λ u. names_met >>= (λ count. pure (record { head = head; goals = goals; variables = count }))) (keeps k) (λ u m. omega arith)))
  where
    rest : Expression → List Goal → Parser Input Draft
    rest head goals = do
      ending
      count ← names_met
      pure (record { head = head; goals = goals; variables = count })

pub clause_takes : Takes (draft end)
clause_takes = draft_takes end (expect_keeps max_open l.End)
