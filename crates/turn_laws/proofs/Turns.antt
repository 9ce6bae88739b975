-- With more turns the same is read.
use Rattle.std.proofs.Common.{◌≡◌, ◌≢◌, ◌<◌, ◌≤◌, ◌+◌, ◌-◌, ℕ, zero, suc, Bool, true, false, List, [], ◌∷◌, ◌++◌, if◌then◌else◌, nat_lt, length, Some, None, Result, Ok, Err, refl, ap, ◌∙◌, arith}
use Rattle.std.specs.Prelude.{Option}
use Rattle.token_model.specs.declared.token.Lexeme.{Lexeme}
use Rattle.token_model.specs.declared.token.Lexeme.TheVariants as l
use Rattle.token_model.specs.declared.fault.Fault.{Fault}
use Rattle.token_model.specs.declared.fault.Kind.TheVariants.{TooDeep}
use Rattle.token_model.specs.Parsers.{Outcome, Parser, and_then, ◌>>=◌, ◌<$>◌, pure}
use Rattle.token_model.specs.Remaining as token
use Rattle.token_model.specs.Remaining.{Remaining, whole, lexeme, next, same_lexeme}
use Rattle.token_cursor.specs.Utf8.{not_utf8}
use Rattle.clause_store.specs.declared.source.SourceClause.{SourceClause}
use Rattle.clp_grammar.specs.declared.role.Role.{Role}
use Rattle.clp_grammar.specs.declared.role.Role.TheVariants.{Ends, Opens, Closes, Stands, Fails}
use Rattle.clp_grammar.specs.declared.expression.Operation.{Operation}
use Rattle.clp_grammar.specs.declared.expression.Operator.{Operator}
use Rattle.clp_grammar.specs.declared.expression.Expression.{Expression}
use Rattle.clp_grammar.specs.declared.draft.Goal.TheVariants as goal
use Rattle.clp_grammar.specs.declared.draft.Draft.{Draft}
use Rattle.clp_grammar.specs.Input.{Input, start, max_open, passed, left, eat, refusal, separated_from}
use Rattle.clp_grammar.specs.Expressions as e
use Rattle.clp_grammar.specs.Goals.{relation_of, max_inside, constraint_by, constrained, braces, goal_by, plain_goal, one_goal}
use Rattle.clp_grammar.specs.Drafts.{draft, end}
use Rattle.clp_grammar.specs.Directives.{role, directive_by, directive_from, directive}
use Rattle.clp_grammar.specs.Evaluation.{with_value}
use Rattle.clp_grammar.specs.Clauses.{meaning, unless}
use Rattle.clp_grammar.specs.Grammar.{max_clauses, meant, clause_with, clause, next_clause, clauses_by, clauses_from, past_limit, program}
use Rattle.turn_laws.specs.Laws.{factor, product, ArgumentTurns, GoalTurns, ConstraintTurns, ProductTurns, SumTurns, DirectiveTurns, ClauseTurns, ProgramTurns}
use Rattle.turn_laws.proofs.Tokens.{next_no_more, next_fewer, nothing_left}
use Rattle.turn_laws.proofs.Reading.{IfRead, further, Below, Keeps, Takes, takes_keeps, passed_below, eat_keeps}
use Rattle.turn_laws.proofs.Takes.{arguments_keep, bracketed_takes, list_takes, signed_takes, product_takes, expression_takes, constrained_takes, goal_takes, clause_takes}

same_behind : {S A B : Type 0} (o : Outcome S A) (f g : A → Parser S B) → IfRead o (λ a j. f a j ≡ g a j) → and_then o f ≡ and_then o g
same_behind (Ok p) f g h = h
same_behind (Err e) f g h = refl

-- ---- chains

module _ (operation_of : Lexeme → Option Operation) (none : operation_of l.Finish ≡ None) (operand : Parser Input Expression) (keeps : Keeps operand) where
  abbrev chains : ℕ → ℕ → List Operator → List Expression → Parser Input Expression
  chains = e.chain_from operation_of operand

  pub chain_turns : (n m begin : ℕ) (operators : List Operator) (parts : List Expression) (i : Input) → left i ≤ n → n ≤ m → chains m begin operators parts i ≡ chains n begin operators parts i
  unfolding e.chain_from
  chain_turns zero zero begin operators parts i h w = refl
  chain_turns zero (suc m) begin operators parts i h w =
      ap (λ (o : Option Operation). e.link_by operation_of operand begin operators parts (chains m begin) o i) (ap operation_of (nothing_left i.remaining h) ∙ none)
  chain_turns (suc n) zero begin operators parts i h w = absurd (omega arith)
  chain_turns (suc n) (suc m) begin operators parts i h w = go (λ operators parts j f. chain_turns n m begin operators parts j f (omega arith)) (operation_of (lexeme i.remaining)) refl
    where
      go : ((operators : List Operator) (parts : List Expression) (j : Input) → left j ≤ n → chains m begin operators parts j ≡ chains n begin operators parts j)
          → (o : Option Operation) → operation_of (lexeme i.remaining) ≡ o
          → e.link_by operation_of operand begin operators parts (chains m begin) o i ≡ e.link_by operation_of operand begin operators parts (chains n begin) o i
      go rest None s = refl
      go rest (Some operation) s =
          let operator : Operator = record { operation = operation; left = left i } in
          let moved : left (passed i) < left i = passed_below i (λ f. cc (ap operation_of f, none, s)) in
          same_behind (operand (passed i)) (λ part. chains m begin (operators ++ operator ∷ []) (parts ++ part ∷ [])) (λ part. chains n begin (operators ++ operator ∷ []) (parts ++ part ∷ []))
          (further (operand (passed i)) (λ x j. left j ≤ left (passed i)) (λ x j. chains m begin (operators ++ operator ∷ []) (parts ++ x ∷ []) j ≡ chains n begin (operators ++ operator ∷ []) (parts ++ x ∷ []) j) (keeps (passed i)) (λ x j k.
          rest (operators ++ operator ∷ []) (parts ++ x ∷ []) j (omega arith)))

pub products_turn : ProductTurns
products_turn more n m = chain_turns e.product_operation refl (factor more) (takes_keeps (factor more) (signed_takes more (e.arguments more) (e.bracketed more) (e.list more) (arguments_keep more) (bracketed_takes more) (list_takes more))) n m

pub sums_turn : SumTurns
sums_turn more n m = chain_turns e.sum_operation refl (product more) (takes_keeps (product more) (product_takes more (e.arguments more) (e.bracketed more) (e.list more) (arguments_keep more) (bracketed_takes more) (list_takes more))) n m

-- ---- lists

-- at the end of the text it has the fault that the end has
abbrev pub RefusesEnd : {A : Type 0} → Parser Input A → Type 0
RefusesEnd parser = (i : Input) → lexeme i.remaining ≡ l.Finish → parser i ≡ Err (token.refusal i.remaining)

module _ {A : Type 0} (item : Parser Input A) (takes : Takes item) (refuses : RefusesEnd item) where
  abbrev more_items : ℕ → List A → Bool → Parser Input (List A)
  more_items n found goes_on = if goes_on then separated_from item n found else pure found

  pub separated_turns : (n m : ℕ) (found : List A) (i : Input) → left i ≤ n → n ≤ m → separated_from item m found i ≡ separated_from item n found i
  unfolding separated_from refusal
  separated_turns zero zero found i h w = refl
  separated_turns zero (suc m) found i h w =
      ap (λ (o : Outcome Input A). and_then o (λ x. eat l.Comma >>= more_items m (found ++ x ∷ []))) (refuses i (nothing_left i.remaining h))
  separated_turns (suc n) zero found i h w = absurd (omega arith)
  separated_turns (suc n) (suc m) found i h w =
      same_behind (item i) (λ x. eat l.Comma >>= more_items m (found ++ x ∷ [])) (λ x. eat l.Comma >>= more_items n (found ++ x ∷ []))
      (further (item i) (λ x j. left j < left i) (λ x j. (eat l.Comma >>= more_items m (found ++ x ∷ [])) j ≡ (eat l.Comma >>= more_items n (found ++ x ∷ [])) j) (takes i) (λ x j s.
      same_behind (eat l.Comma j) (more_items m (found ++ x ∷ [])) (more_items n (found ++ x ∷ []))
      (further (eat l.Comma j) (λ t k. left k ≤ left j) (λ t k. more_items m (found ++ x ∷ []) t k ≡ more_items n (found ++ x ∷ []) t k) (eat_keeps l.Comma j) (λ t k u.
      go (found ++ x ∷ []) k (separated_turns n m (found ++ x ∷ []) k (omega arith) (omega arith)) t))))
    where
      go : (all : List A) (k : Input) → separated_from item m all k ≡ separated_from item n all k → (t : Bool) → more_items m all t k ≡ more_items n all t k
      go all k rest true = rest
      go all k rest false = refl

-- ---- the end of the text

chain_refuses : (operation_of : Lexeme → Option Operation) (operand : Parser Input Expression) → RefusesEnd operand → RefusesEnd (e.chain operation_of operand)
unfolding e.chain
chain_refuses operation_of operand refuses i h = ap (λ (o : Outcome Input Expression). and_then o (λ first j. e.chain_from operation_of operand (left j) (left i) [] (first ∷ []) j)) (refuses i h)

refusal_is : (more : ℕ) (r : Remaining) → lexeme r ≡ l.Finish → refusal more r ≡ token.refusal r
unfolding refusal
refusal_is zero r h = rw h refl
refusal_is (suc more) r h = refl

module _ (more : ℕ) (arguments : Parser Input (List Expression)) (bracketed list : Parser Input Expression) where
  primary_refuses : RefusesEnd (e.primary more arguments bracketed list)
  unfolding e.primary
  primary_refuses i h = ap (λ (k : Lexeme). e.primary_by more arguments bracketed list k i) h ∙ ap (λ (f : Fault). Err f) (refusal_is more i.remaining h)

  signed_refuses : RefusesEnd (e.signed more arguments bracketed list)
  unfolding e.signed
  signed_refuses i h = ap (λ (k : Lexeme). e.signed_by more arguments bracketed list k i) h ∙ primary_refuses i h

  pub sum_refuses : RefusesEnd (e.sum more arguments bracketed list)
  sum_refuses = chain_refuses e.sum_operation (e.product more arguments bracketed list) (chain_refuses e.product_operation (e.signed more arguments bracketed list) signed_refuses)

pub expression_refuses : (more : ℕ) → RefusesEnd (e.expression more)
expression_refuses more = sum_refuses more (e.arguments more) (e.bracketed more) (e.list more)

pub constrained_refuses : RefusesEnd constrained
unfolding constrained
constrained_refuses i h = ap (λ (o : Outcome Input Expression). and_then o (λ first j. constraint_by first (relation_of (lexeme j.remaining)) j)) (expression_refuses max_inside i h)

plain_refuses : RefusesEnd plain_goal
unfolding plain_goal
plain_refuses i h = ap (λ (o : Outcome Input Expression). and_then o (λ first j. goal_by first (relation_of (lexeme j.remaining)) j)) (expression_refuses max_open i h)

pub goal_refuses : RefusesEnd one_goal
unfolding one_goal token.sees same_lexeme
goal_refuses i h = ap (λ (k : Lexeme). (if same_lexeme k l.OpenCurly then goal.Braces <$> braces else plain_goal) i) h ∙ plain_refuses i h

pub arguments_turn : ArgumentTurns
arguments_turn more = separated_turns (e.expression more) (expression_takes more) (expression_refuses more)

pub goals_turn : GoalTurns
goals_turn = separated_turns one_goal goal_takes goal_refuses

pub constraints_turn : ConstraintTurns
constraints_turn = separated_turns constrained constrained_takes constrained_refuses

-- ---- directives

some_turns : (k : Role) (r : Remaining) → role (lexeme r) ≡ k → k ≢ Fails → token.left (next r) < token.left r
some_turns k r s other = next_fewer r (λ f. other (let p : role (lexeme r) ≡ Fails = ap role f in cc))

pub directives_turn : DirectiveTurns
unfolding directive_from
directives_turn zero zero open_now r h w = refl
directives_turn zero (suc m) open_now r h w = ap (λ (k : Role). directive_by (directive_from m) open_now r k) (ap role (nothing_left r h))
directives_turn (suc n) zero open_now r h w = absurd (omega arith)
directives_turn (suc n) (suc m) open_now r h w = go (λ o s f. directives_turn n m o s f (omega arith)) (role (lexeme r)) refl (nat_lt open_now max_open)
  where
    deeper : ((o : ℕ) (s : Remaining) → token.left s ≤ n → directive_from m o s ≡ directive_from n o s) → token.left (next r) ≤ n → (t : Bool)
        → (if t then directive_from m (open_now + 1) (next r) else Err (token.fault_at TooDeep r)) ≡ (if t then directive_from n (open_now + 1) (next r) else Err (token.fault_at TooDeep r))
    deeper rest s true = rest (open_now + 1) (next r) s
    deeper rest s false = refl

    go : ((o : ℕ) (s : Remaining) → token.left s ≤ n → directive_from m o s ≡ directive_from n o s) → (k : Role) → role (lexeme r) ≡ k → (t : Bool)
        → directive_by (directive_from m) open_now r k ≡ directive_by (directive_from n) open_now r k
    go rest Ends s t = refl
    go rest Opens s t = let moved = some_turns Opens r s (λ f. cc) in deeper rest (omega arith) (nat_lt open_now max_open)
    go rest Closes s t = let moved = some_turns Closes r s (λ f. cc) in rest (open_now - 1) (next r) (omega arith)
    go rest Stands s t = let moved = some_turns Stands r s (λ f. cc) in rest open_now (next r) (omega arith)
    go rest Fails s t = refl

-- ---- programs

-- what holds of a value, if there is one
abbrev pub IfValue : {A E : Type 0} → Result A E → (A → Type 0) → Type 0
IfValue (Ok a) P = P a
IfValue (Err e) P = Unit {0}

same_value : {A B E : Type 0} (o : Result A E) (f g : A → Result B E) → IfValue o (λ a. f a ≡ g a) → with_value o f ≡ with_value o g
same_value (Ok a) f g h = h
same_value (Err e) f g h = refl

further_value : {A E : Type 0} (o : Result A E) (P Q : A → Type 0) → IfValue o P → ((a : A) → P a → Q a) → IfValue o Q
further_value (Ok a) P Q h g = g a h
further_value (Err e) P Q h g = tt

directive_keeps : (n open_now : ℕ) (r : Remaining) → IfValue (directive_from n open_now r) (λ s. token.left s ≤ token.left r)
unfolding directive_from
directive_keeps zero open_now r = tt
directive_keeps (suc n) open_now r = go (λ o. further_value (directive_from n o (next r)) (λ s. token.left s ≤ token.left (next r)) (λ s. token.left s ≤ token.left r) (directive_keeps n o (next r)) (λ s h. let p = next_no_more r in omega arith)) (role (lexeme r)) (nat_lt open_now max_open)
  where
    go : ((o : ℕ) → IfValue (directive_from n o (next r)) (λ s. token.left s ≤ token.left r)) → (k : Role) (t : Bool)
        → IfValue (directive_by (directive_from n) open_now r k) (λ s. token.left s ≤ token.left r)
    go rest Ends t = next_no_more r
    go rest Opens t = deeper (nat_lt open_now max_open)
      where
        deeper : (t : Bool) → IfValue (if t then directive_from n (open_now + 1) (next r) else Err (token.fault_at TooDeep r)) (λ s. token.left s ≤ token.left r)
        deeper true = rest (open_now + 1)
        deeper false = tt
    go rest Closes t = rest (open_now - 1)
    go rest Stands t = rest open_now
    go rest Fails t = tt

pub directive_takes : (r : Remaining) → lexeme r ≡ l.If → IfValue (directive r) (λ s. token.left s < token.left r)
unfolding directive
directive_takes r h =
    let moved : token.left (next r) < token.left r = next_fewer r (λ f. cc) in
    further_value (directive_from (token.left (next r)) 0 (next r)) (λ s. token.left s ≤ token.left (next r)) (λ s. token.left s < token.left r) (directive_keeps (token.left (next r)) 0 (next r)) (λ s k. omega arith)

pub one_clause_takes : (r : Remaining) → IfRead (clause r) (λ c s. token.left s < token.left r)
unfolding clause_with
one_clause_takes r = go (draft end (start r)) (clause_takes (start r))
  where
    value : (d : Result SourceClause Fault) (s : Remaining) → token.left s < token.left r → IfRead (with_value d (λ c. Ok (c, s))) (λ c s. token.left s < token.left r)
    value (Ok c) s h = h
    value (Err f) s h = tt

    go : (o : Outcome Input Draft) → Below (token.left r) o → IfRead (meant o) (λ c s. token.left s < token.left r)
    go (Ok p) h = value (meaning p.0) p.1.remaining h
    go (Err f) h = tt

next_takes : (found : List SourceClause) (r : Remaining) → IfValue (next_clause found r) (λ p. token.left p.1 < token.left r)
unfolding next_clause
next_takes found r = go (nat_lt (length found) max_clauses)
  where
    read : (o : Outcome Remaining SourceClause) → IfRead o (λ c s. token.left s < token.left r) → IfValue o (λ p. token.left p.1 < token.left r)
    read (Ok p) h = h
    read (Err f) h = tt

    go : (t : Bool) → IfValue (if t then clause r else Err (past_limit r)) (λ p. token.left p.1 < token.left r)
    go true = read (clause r) (one_clause_takes r)
    go false = tt

-- so many turns read the same as so many others, where at most the first number of bytes is left
abbrev SameRest : ℕ → ℕ → Type 0
SameRest n m = (all : List SourceClause) (s : Remaining) → token.left s ≤ n → clauses_from m all s ≡ clauses_from n all s

pub clauses_turn : ClauseTurns
unfolding clauses_from
clauses_turn zero zero found r h w = refl
clauses_turn zero (suc m) found r h w = ap (λ (k : Lexeme). clauses_by (clauses_from m) found r k) (nothing_left r h)
clauses_turn (suc n) zero found r h w = absurd (omega arith)
clauses_turn (suc n) (suc m) found r h w = go (λ all s f. clauses_turn n m all s f (omega arith)) (lexeme r) refl
  where
    one : SameRest n m → with_value (next_clause found r) (λ p. clauses_from m (found ++ p.0 ∷ []) p.1) ≡ with_value (next_clause found r) (λ p. clauses_from n (found ++ p.0 ∷ []) p.1)
    one rest =
        same_value (next_clause found r) (λ p. clauses_from m (found ++ p.0 ∷ []) p.1) (λ p. clauses_from n (found ++ p.0 ∷ []) p.1)
        (further_value (next_clause found r) (λ p. token.left p.1 < token.left r) (λ p. clauses_from m (found ++ p.0 ∷ []) p.1 ≡ clauses_from n (found ++ p.0 ∷ []) p.1) (next_takes found r) (λ p k. rest (found ++ p.0 ∷ []) p.1 (omega arith)))

    go : SameRest n m → (k : Lexeme) → lexeme r ≡ k → clauses_by (clauses_from m) found r k ≡ clauses_by (clauses_from n) found r k
    go rest l.Finish s = refl
    go rest l.If s =
        same_value (directive r) (clauses_from m found) (clauses_from n found)
        (further_value (directive r) (λ s. token.left s < token.left r) (λ s. clauses_from m found s ≡ clauses_from n found s) (directive_takes r s) (λ s k. rest found s (omega arith)))
    go rest _ s = one rest

pub programs_turn : ProgramTurns
unfolding program
programs_turn extra text = ap (unless (not_utf8 text)) (clauses_turn (token.left (whole text)) (token.left (whole text) + extra) [] (whole text) (omega arith) (omega arith))
