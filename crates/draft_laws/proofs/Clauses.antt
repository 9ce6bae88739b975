-- The rules of goals and clauses give formed ones, and no text is longer behind a directive.
use Rattle.std.proofs.Common.{◌≡◌, ◌<◌, ◌≤◌, ◌^◌, ◌+◌, ◌-◌, ℕ, zero, suc, Bool, true, false, List, [], length, nat_lt, if◌then◌else◌, Option, Some, None, Result, Ok, Err, refl, subst, arith}
use Rattle.std.proofs.lemmas.List.Elements.{All-nil, All-weaker}
use Rattle.std.specs.Prelude.{All, codes}
use Rattle.std.specs.Str.{bytes_eq}
use Rattle.token_model.specs.declared.token.Lexeme.TheVariants as l
use Rattle.token_model.specs.declared.fault.Kind.TheVariants.{TooDeep}
use Rattle.token_model.specs.declared.fault.Fault.{Fault}
use Rattle.token_model.specs.Parsers.{Parser, ◌>>=◌, ◌>>◌, ◌<$>◌, pure}
use Rattle.token_model.specs.Remaining as token
use Rattle.token_model.specs.Remaining.{Remaining, lexeme}
use Rattle.token_cursor.proofs.Spelled.{next_within}
use Rattle.clp_grammar.specs.declared.expression.Head.TheVariants as head
use Rattle.clp_grammar.specs.declared.expression.Expression.{Expression, Number, Variable, Node', Row_of-Expression, end_of-Expression, more_of-Expression}
use Rattle.clp_grammar.specs.declared.draft.Relation.{Relation}
use Rattle.clp_grammar.specs.declared.draft.Constraint.{Constraint}
use Rattle.clp_grammar.specs.declared.draft.Constraint.TheVariants as constraint
use Rattle.clp_grammar.specs.declared.draft.Goal.{Goal}
use Rattle.clp_grammar.specs.declared.draft.Goal.TheVariants as goal
use Rattle.clp_grammar.specs.declared.draft.Draft.{Draft}
use Rattle.clp_grammar.specs.Input.{Input, max_open, passed, left, sees, expect, eat, separated}
use Rattle.clp_grammar.specs.Expressions.{expression}
use Rattle.clp_grammar.specs.Goals.{related, comparison_by, comparison, relation_of, max_inside, only_variable, num_variable, num_by, constraint_by, constrained, braces, goal_by, plain_goal, one_goal}
use Rattle.clp_grammar.specs.Drafts.{body, end, end_or_finish, draft}
use Rattle.clp_grammar.specs.declared.role.Role.{Role}
use Rattle.clp_grammar.specs.declared.role.Role.TheVariants.{Ends, Opens, Closes, Stands, Fails}
use Rattle.clp_grammar.specs.Directives.{role, directive_by, directive_from, directive}
use Rattle.draft_laws.specs.Formed.{IsNumbered, IsFormed, AreFormed, IsFormedComparison, IsFormedConstraint, IsFormedGoal, IsFormedDraft}
use Rattle.draft_laws.specs.Laws.{DraftsAreFormed, LastDraftsAreFormed, ComparisonsAreFormed, DraftsShorten, ComparisonsShorten, DirectivesShorten}
use Rattle.draft_laws.proofs.Parts.{still_formed}
use Rattle.draft_laws.proofs.Reading.{IfRead, further, told, Goes, stays, goes_next, From, Gives, Grows, Anything, AreFew, from_then, at_then, from_known_value, from_expect, from_eat, from_separated}
use Rattle.draft_laws.proofs.Rules.{expression_formed}

-- ---- relations

grows_comparison : Grows IsFormedComparison
grows_comparison m n w c h = record { first = still_formed m n w c.first h.first; second = still_formed m n w c.second h.second }

related_formed : (more n : ℕ) (first : Expression) (relation : Relation) → IsFormed n first → From n IsFormedComparison (related more first relation)
unfolding related
related_formed more n first relation f i short named =
    at_then n IsFormed IsFormedComparison (expression more) (λ second. pure (record { left = left i; relation = relation; first = first; second = second })) i (passed i) (goes_next i) short named (expression_formed more n) (λ m w second g.
    from_known_value m IsFormedComparison grows_comparison (record { left = left i; relation = relation; first = first; second = second }) (record { first = still_formed n m w first f; second = g }))

comparison_formed : (more : ℕ) → Gives IsFormedComparison (comparison more)
unfolding comparison
comparison_formed more n i short named =
    at_then n IsFormed IsFormedComparison (expression more) (λ first j. comparison_by more first (relation_of (lexeme j.remaining)) j) i i (stays i) short named (expression_formed more n) (λ m w first f j s v.
    go m first f j s v (relation_of (lexeme j.remaining)))
  where
    go : (m : ℕ) (first : Expression) → IsFormed m first → (j : Input) → length j.remaining.text < 2 ^ 32 → m ≤ length j.names → (o : Option Relation)
        → IfRead (comparison_by more first o j) (λ c k. Goes j k × IsFormedComparison (length k.names) c)
    go m first f j s v (Some relation) = related_formed more m first relation f j s v
    go m first f j s v None = tt

-- ---- braces

grows_constraint : Grows IsFormedConstraint
grows_constraint m n w (constraint.Comparison c) h = grows_comparison m n w c h
grows_constraint m n w (constraint.Num k) h = (h.0, omega (arith, h.1, w))

only_formed : (count : ℕ) {m : _} (row : Row_of-Expression m) (number : ℕ) → AreFormed count row → only_variable row ≡ Some number → IsNumbered count number
unfolding AreFormed IsFormed
only_formed count end_of-Expression number h e = cc
only_formed count (more_of-Expression (Variable place k) end_of-Expression) number h e = let same : k ≡ number = cc in subst (IsNumbered count) same h.0
only_formed count (more_of-Expression (Variable place k) (more_of-Expression x xs)) number h e = cc
only_formed count (more_of-Expression (Number place value) xs) number h e = cc
only_formed count (more_of-Expression (Node' place head shape parts) xs) number h e = cc

num_formed : (count : ℕ) (x : Expression) (number : ℕ) → IsFormed count x → num_variable x ≡ Some number → IsNumbered count number
unfolding num_variable IsFormed
num_formed count (Number place value) number h e = cc
num_formed count (Variable place k) number h e = cc
num_formed count (Node' place (head.Application name) shape parts) number h e = go (bytes_eq name (codes "num")) e
  where
    go : (t : Bool) → (if t then only_variable parts else None) ≡ Some number → IsNumbered count number
    go true e = only_formed count parts number h.1 e
    go false e = cc
num_formed count (Node' place head.List shape parts) number h e = cc
num_formed count (Node' place head.OpenList shape parts) number h e = cc
num_formed count (Node' place head.Brackets shape parts) number h e = cc
num_formed count (Node' place head.Plus shape parts) number h e = cc
num_formed count (Node' place head.Minus shape parts) number h e = cc
num_formed count (Node' place (head.Chain operators) shape parts) number h e = cc

constrained_formed : Gives IsFormedConstraint constrained
unfolding constrained
constrained_formed n i short named =
    at_then n IsFormed IsFormedConstraint (expression max_inside) (λ first j. constraint_by first (relation_of (lexeme j.remaining)) j) i i (stays i) short named (expression_formed max_inside n) (λ m w first f j s v.
    go m first f j s v (relation_of (lexeme j.remaining)))
  where
    num : (m : ℕ) (first : Expression) → IsFormed m first → (o : Option ℕ) → num_variable first ≡ o → From m IsFormedConstraint (num_by o)
    num m first f (Some number) e = from_known_value m IsFormedConstraint grows_constraint (constraint.Num number) (num_formed m first number f e)
    num m first f None e = λ i short named. tt

    go : (m : ℕ) (first : Expression) → IsFormed m first → (j : Input) → length j.remaining.text < 2 ^ 32 → m ≤ length j.names → (o : Option Relation)
        → IfRead (constraint_by first o j) (λ c k. Goes j k × IsFormedConstraint (length k.names) c)
    go m first f j s v (Some relation) =
        at_then m IsFormedComparison IsFormedConstraint (related max_inside first relation) (λ c. pure (constraint.Comparison c)) j j (stays j) s v (related_formed max_inside m first relation f) (λ k w c h.
        from_known_value k IsFormedConstraint grows_constraint (constraint.Comparison c) h)
    go m first f j s v None = num m first f (num_variable first) refl j s v

abbrev AllConstraints : ℕ → List Constraint → Type 0
AllConstraints n cs = All (IsFormedConstraint n) cs

grows_constraints : Grows AllConstraints
grows_constraints m n w cs h = All-weaker (IsFormedConstraint m) (IsFormedConstraint n) (λ c f. grows_constraint m n w c f) cs h

braces_formed : Gives AllConstraints braces
unfolding braces
braces_formed n i short named =
    at_then n (AreFew IsFormedConstraint) AllConstraints (separated constrained) (λ found. expect max_inside l.CloseCurly >> pure found) i (passed i) (goes_next i) short named (from_separated IsFormedConstraint constrained grows_constraint constrained_formed n) (λ m w found f.
    from_then m Anything AllConstraints (expect max_inside l.CloseCurly) (λ u. pure found) (from_expect m max_inside l.CloseCurly) (λ k v u t. from_known_value k AllConstraints grows_constraints found (grows_constraints m k v found f.0)))

-- ---- goals

grows_goal : Grows IsFormedGoal
grows_goal m n w (goal.Call x) h = still_formed m n w x h
grows_goal m n w (goal.Comparison c) h = grows_comparison m n w c h
grows_goal m n w (goal.Braces cs) h = grows_constraints m n w cs h

plain_formed : Gives IsFormedGoal plain_goal
unfolding plain_goal
plain_formed n i short named =
    at_then n IsFormed IsFormedGoal (expression max_open) (λ first j. goal_by first (relation_of (lexeme j.remaining)) j) i i (stays i) short named (expression_formed max_open n) (λ m w first f j s v.
    go m first f j s v (relation_of (lexeme j.remaining)))
  where
    go : (m : ℕ) (first : Expression) → IsFormed m first → (j : Input) → length j.remaining.text < 2 ^ 32 → m ≤ length j.names → (o : Option Relation)
        → IfRead (goal_by first o j) (λ c k. Goes j k × IsFormedGoal (length k.names) c)
    go m first f j s v (Some relation) =
        at_then m IsFormedComparison IsFormedGoal (related max_open first relation) (λ c. pure (goal.Comparison c)) j j (stays j) s v (related_formed max_open m first relation f) (λ k w c h.
        from_known_value k IsFormedGoal grows_goal (goal.Comparison c) h)
    go m first f j s v None = from_known_value m IsFormedGoal grows_goal (goal.Call first) f j s v

goal_formed : Gives IsFormedGoal one_goal
unfolding one_goal
goal_formed n i short named = go (sees l.OpenCurly i)
  where
    go : (t : Bool) → IfRead ((if t then goal.Braces <$> braces else plain_goal) i) (λ c k. Goes i k × IsFormedGoal (length k.names) c)
    go true = at_then n AllConstraints IsFormedGoal braces (λ cs. pure (goal.Braces cs)) i i (stays i) short named (braces_formed n) (λ k w cs h. from_known_value k IsFormedGoal grows_goal (goal.Braces cs) h)
    go false = plain_formed n i short named

-- ---- clauses

abbrev AllGoals : ℕ → List Goal → Type 0
AllGoals n gs = All (IsFormedGoal n) gs

grows_goals : Grows AllGoals
grows_goals m n w gs h = All-weaker (IsFormedGoal m) (IsFormedGoal n) (λ g f. grows_goal m n w g f) gs h

body_formed : Gives AllGoals body
unfolding body
body_formed n = from_then n Anything AllGoals (eat l.If) (λ has_body. if has_body then separated one_goal else pure []) (from_eat n l.If) (λ m w has_body u. go m has_body)
  where
    go : (m : ℕ) (t : Bool) → From m AllGoals (if t then separated one_goal else pure [])
    go m true = λ i short named. further (separated one_goal i) (λ gs j. Goes i j × AreFew IsFormedGoal (length j.names) gs) (λ gs j. Goes i j × AllGoals (length j.names) gs)
        (from_separated IsFormedGoal one_goal grows_goal goal_formed m i short named) (λ gs j r. (r.0, r.1.0))
    go m false = from_known_value m AllGoals grows_goals [] (All-nil (IsFormedGoal m))

abbrev Formed : ℕ → Draft → Type 0
Formed n d = IsFormedDraft d

draft_formed : (ending : Parser Input (Unit {0})) → Gives Anything ending → Gives Formed (draft ending)
unfolding draft
draft_formed ending ends n i short named =
    at_then n IsFormed Formed (expression max_open) (λ head. body >>= (λ goals. ending >>= (λ u j. Ok (record { head = head; goals = goals; variables = length j.names }, j)))) i i (stays i) short named (expression_formed max_open n) (λ m w head h.
    from_then m AllGoals Formed body (λ goals. ending >>= (λ u j. Ok (record { head = head; goals = goals; variables = length j.names }, j))) (body_formed m) (λ k v goals g.
    from_then k Anything Formed ending (λ u j. Ok (record { head = head; goals = goals; variables = length j.names }, j)) (ends k) (λ o x u t j s y.
    (stays j, record { head = still_formed m (length j.names) (omega (arith, v, x, y)) head h; goals = grows_goals k (length j.names) (omega (arith, x, y)) goals g }))))

end_reads : Gives Anything end
end_reads n = from_expect n max_open l.End

last_reads : Gives Anything end_or_finish
unfolding end_or_finish
last_reads n i short named = go (sees l.Finish i)
  where
    go : (t : Bool) → IfRead ((if t then pure tt else end) i) (λ (u : Unit {0}) k. Goes i k × Unit {0})
    go true = (stays i, tt)
    go false = end_reads n i short named

-- ---- the laws

pub drafts_formed : DraftsAreFormed
drafts_formed i d j short e = (told (draft end i) (λ d j. Goes i j × IsFormedDraft d) d j (draft_formed end end_reads 0 i short (omega arith)) e).1

pub last_drafts_formed : LastDraftsAreFormed
last_drafts_formed i d j short e = (told (draft end_or_finish i) (λ d j. Goes i j × IsFormedDraft d) d j (draft_formed end_or_finish last_reads 0 i short (omega arith)) e).1

pub comparisons_formed : ComparisonsAreFormed
comparisons_formed more i c j short e = (told (comparison more i) (λ c j. Goes i j × IsFormedComparison (length j.names) c) c j (comparison_formed more 0 i short (omega arith)) e).1

pub drafts_shorten : DraftsShorten
drafts_shorten i d j short e = (told (draft end i) (λ d j. Goes i j × IsFormedDraft d) d j (draft_formed end end_reads 0 i short (omega arith)) e).0.text

pub comparisons_shorten : ComparisonsShorten
comparisons_shorten more i c j short e = (told (comparison more i) (λ c j. Goes i j × IsFormedComparison (length j.names) c) c j (comparison_formed more 0 i short (omega arith)) e).0.text

abbrev Shorter : Remaining → Result Remaining Fault → Type 0
Shorter r (Ok s) = length s.text ≤ length r.text
Shorter r (Err f) = Unit {0}

through : (r : Remaining) (o : Result Remaining Fault) → Shorter (token.next r) o → Shorter r o
through r (Ok s) h = omega (arith, h, next_within r)
through r (Err f) h = tt

from_shorter : (turns open_now : ℕ) (r : Remaining) → Shorter r (directive_from turns open_now r)
unfolding directive_from
from_shorter zero open_now r = tt
from_shorter (suc turns) open_now r = go (λ opens. through r (directive_from turns opens (token.next r)) (from_shorter turns opens (token.next r))) (role (lexeme r))
  where
    go : ((opens : ℕ) → Shorter r (directive_from turns opens (token.next r))) → (what : Role) → Shorter r (directive_by (directive_from turns) open_now r what)
    go rest Ends = next_within r
    go rest Opens = opened (nat_lt open_now max_open)
      where
        opened : (t : Bool) → Shorter r (if t then directive_from turns (open_now + 1) (token.next r) else Err (token.fault_at TooDeep r))
        opened true = rest (open_now + 1)
        opened false = tt
    go rest Closes = rest (open_now - 1)
    go rest Stands = rest open_now
    go rest Fails = tt

pub directives_shorten : DirectivesShorten
unfolding directive
directives_shorten r s e = subst (Shorter r) e (through r (directive r) (from_shorter (token.left (token.next r)) 0 (token.next r)))
