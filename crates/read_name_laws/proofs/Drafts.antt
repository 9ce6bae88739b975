-- The names of clauses that are parsed are in UTF-8, and so is what remains after a clause or a directive.
use Rattle.std.proofs.Common.{◌≡◌, ℕ, zero, suc, ◌+◌, ◌-◌, Bool, true, false, [], nat_lt, if◌then◌else◌, IsUtf8, Option, Some, None, Result, Ok, Err, refl, subst}
use Rattle.std.proofs.lemmas.List.Elements.{All-nil}
use Rattle.std.specs.Prelude.{All}
use Rattle.token_model.specs.declared.token.Lexeme.{Lexeme}
use Rattle.token_model.specs.declared.token.Lexeme.TheVariants as l
use Rattle.token_model.specs.declared.fault.Kind.TheVariants.{TooDeep}
use Rattle.token_model.specs.declared.fault.Fault.{Fault}
use Rattle.token_model.specs.Parsers.{Parser, ◌>>=◌, ◌>>◌, ◌<$>◌, pure}
use Rattle.token_model.specs.Remaining as token
use Rattle.token_model.specs.Remaining.{Remaining, lexeme}
use Rattle.utf8_laws.proofs.Texts.{is_bad, next_of}
use Rattle.clp_grammar.specs.declared.expression.Expression.{Expression}
use Rattle.clp_grammar.specs.declared.draft.Relation.{Relation}
use Rattle.clp_grammar.specs.declared.draft.Comparison.{Comparison}
use Rattle.clp_grammar.specs.declared.draft.Constraint.TheVariants as constraint
use Rattle.clp_grammar.specs.declared.draft.Goal.TheVariants as goal
use Rattle.clp_grammar.specs.declared.draft.Draft.{Draft}
use Rattle.clp_grammar.specs.declared.role.Role.{Role}
use Rattle.clp_grammar.specs.declared.role.Role.TheVariants.{Ends, Opens, Closes, Stands, Fails}
use Rattle.clp_grammar.specs.Input.{Input, max_open, start, passed, left, sees, expect, eat, separated}
use Rattle.clp_grammar.specs.Expressions.{expression}
use Rattle.clp_grammar.specs.Goals.{related, comparison_by, comparison, relation_of, max_inside, num_variable, num_by, constraint_by, constrained, braces, goal_by, plain_goal, one_goal}
use Rattle.clp_grammar.specs.Drafts.{body, end, draft}
use Rattle.clp_grammar.specs.Directives.{role, directive_by, directive_from, directive}
use Rattle.read_name_laws.proofs.Parts.{HasTexts, GoalHasTexts, DraftHasTexts}
use Rattle.read_name_laws.proofs.Reading.{IsText, Reads, From, At, Anything, then_read, told, from_pure, passed_text, from_eat, from_expect, seen, from_separated}
use Rattle.read_name_laws.proofs.Rules.{expression_texts}

-- ---- relations

relation_good : (k : Lexeme) (r : Relation) → relation_of k ≡ Some r → is_bad k ≡ false
relation_good l.Equal r h = refl
relation_good l.NumberEqual r h = refl
relation_good l.AtMost r h = refl
relation_good l.Less r h = refl
relation_good l.AtLeast r h = refl
relation_good l.Greater r h = refl
relation_good _ r h = absurd (cc)

abbrev pub BothHaveTexts : Comparison → Type 0
BothHaveTexts c = HasTexts c.first × HasTexts c.second

related_texts : (more : ℕ) (first : Expression) (relation : Relation) → HasTexts first → (i : Input) → IsText i → relation_of (lexeme i.remaining) ≡ Some relation → Reads BothHaveTexts (related more first relation i)
unfolding related
related_texts more first relation f i u comes =
    then_read HasTexts BothHaveTexts (expression more (passed i)) (λ second. pure (record { left = left i; relation = relation; first = first; second = second }))
    (expression_texts more (passed i) (passed_text i (lexeme i.remaining) u refl (relation_good (lexeme i.remaining) relation comes))) (λ second g.
    from_pure BothHaveTexts (record { left = left i; relation = relation; first = first; second = second }) (f, g))

pub comparison_texts : (more : ℕ) → From BothHaveTexts (comparison more)
unfolding comparison
comparison_texts more i u =
    then_read HasTexts BothHaveTexts (expression more i) (λ first j. comparison_by more first (relation_of (lexeme j.remaining)) j) (expression_texts more i u) (λ first f j v.
    go first f j v (relation_of (lexeme j.remaining)) refl)
  where
    go : (first : Expression) → HasTexts first → (j : Input) → IsText j → (o : Option Relation) → relation_of (lexeme j.remaining) ≡ o → Reads BothHaveTexts (comparison_by more first o j)
    go first f j v (Some relation) e = related_texts more first relation f j v e
    go first f j v None e = tt

-- ---- braces

constrained_reads : From Anything constrained
unfolding constrained
constrained_reads i u =
    then_read HasTexts Anything (expression max_inside i) (λ first j. constraint_by first (relation_of (lexeme j.remaining)) j) (expression_texts max_inside i u) (λ first f j v.
    go first f j v (relation_of (lexeme j.remaining)) refl)
  where
    num : (o : Option ℕ) → From Anything (num_by o)
    num (Some number) j v = (v, tt)
    num None j v = tt

    go : (first : Expression) → HasTexts first → (j : Input) → IsText j → (o : Option Relation) → relation_of (lexeme j.remaining) ≡ o → Reads Anything (constraint_by first o j)
    go first f j v (Some relation) e =
        then_read BothHaveTexts Anything (related max_inside first relation j) (λ c. pure (constraint.Comparison c)) (related_texts max_inside first relation f j v e) (λ c h. from_pure Anything (constraint.Comparison c) tt)
    go first f j v None e = num (num_variable first) j v

braces_read : At l.OpenCurly Anything braces
unfolding braces
braces_read i u comes =
    then_read (All Anything) Anything (separated constrained (passed i)) (λ found. expect max_inside l.CloseCurly >> pure found) (from_separated Anything constrained constrained_reads (passed i) (passed_text i l.OpenCurly u comes refl)) (λ found f j v.
    then_read Anything Anything (expect max_inside l.CloseCurly j) (λ t. pure found) (from_expect max_inside l.CloseCurly refl j v) (λ t w. from_pure Anything found tt))

-- ---- goals

plain_texts : From GoalHasTexts plain_goal
unfolding plain_goal
plain_texts i u =
    then_read HasTexts GoalHasTexts (expression max_open i) (λ first j. goal_by first (relation_of (lexeme j.remaining)) j) (expression_texts max_open i u) (λ first f j v.
    go first f j v (relation_of (lexeme j.remaining)) refl)
  where
    go : (first : Expression) → HasTexts first → (j : Input) → IsText j → (o : Option Relation) → relation_of (lexeme j.remaining) ≡ o → Reads GoalHasTexts (goal_by first o j)
    go first f j v (Some relation) e =
        then_read BothHaveTexts GoalHasTexts (related max_open first relation j) (λ c. pure (goal.Comparison c)) (related_texts max_open first relation f j v e) (λ c h. from_pure GoalHasTexts (goal.Comparison c) h)
    go first f j v None e = (v, f)

goal_texts : From GoalHasTexts one_goal
unfolding one_goal
goal_texts i u = go (sees l.OpenCurly i) refl
  where
    go : (t : Bool) → sees l.OpenCurly i ≡ t → Reads GoalHasTexts ((if t then goal.Braces <$> braces else plain_goal) i)
    go true e = then_read Anything GoalHasTexts (braces i) (λ cs. pure (goal.Braces cs)) (braces_read i u (seen l.OpenCurly i.remaining e)) (λ cs h. from_pure GoalHasTexts (goal.Braces cs) tt)
    go false e = plain_texts i u

-- ---- clauses

body_texts : From (All GoalHasTexts) body
unfolding body
body_texts i u = then_read Anything (All GoalHasTexts) (eat l.If i) (λ has_body. if has_body then separated one_goal else pure []) (from_eat l.If refl i u) (λ has_body t. go has_body)
  where
    go : (t : Bool) → From (All GoalHasTexts) (if t then separated one_goal else pure [])
    go true = from_separated GoalHasTexts one_goal goal_texts
    go false = from_pure (All GoalHasTexts) [] (All-nil GoalHasTexts)

draft_reads : (ending : Parser Input (Unit {0})) → From Anything ending → From DraftHasTexts (draft ending)
unfolding draft
draft_reads ending ends i u =
    then_read HasTexts DraftHasTexts (expression max_open i) (λ head. body >>= (λ goals. ending >>= (λ t j. Ok (record { head = head; goals = goals; variables = _ }, j)))) (expression_texts max_open i u) (λ head h j v.
    then_read (All GoalHasTexts) DraftHasTexts (body j) (λ goals. ending >>= (λ t j. Ok (record { head = head; goals = goals; variables = _ }, j))) (body_texts j v) (λ goals g k w.
    then_read Anything DraftHasTexts (ending k) (λ t j. Ok (record { head = head; goals = goals; variables = _ }, j)) (ends k w) (λ t x m y.
    (y, record { head = h; goals = g }))))

-- a draft has names in UTF-8, and a text in UTF-8 remains after it
pub draft_texts : (r : Remaining) → IsUtf8 r.text → (d : Draft) (j : Input) → draft end (start r) ≡ Ok (d, j) → IsUtf8 j.remaining.text × DraftHasTexts d
draft_texts r u d j e = told DraftHasTexts (draft end (start r)) d j (draft_reads end (from_expect max_open l.End refl) (start r) u) e

-- ---- directives

abbrev RemainsText : Result Remaining Fault → Type 0
RemainsText (Ok s) = IsUtf8 s.text
RemainsText (Err f) = Unit {0}

role_good : (k : Lexeme) → is_bad k ≡ true → role k ≡ Fails
role_good l.Bad h = refl
role_good _ h = absurd (cc)

stands_good : (k : Lexeme) (what : Role) → role k ≡ what → (what ≡ Fails → ⊥) → is_bad k ≡ false
stands_good k what is never = go (is_bad k) refl
  where
    go : (b : Bool) → is_bad k ≡ b → is_bad k ≡ false
    go true e = absurd (let f = role_good k e in never (let g : what ≡ Fails = cc in g))
    go false e = e

from_directive : (turns open_now : ℕ) (r : Remaining) → IsUtf8 r.text → RemainsText (directive_from turns open_now r)
unfolding directive_from
from_directive zero open_now r u = tt
from_directive (suc turns) open_now r u = go (λ opens v. from_directive turns opens (token.next r) v) (role (lexeme r)) refl
  where
    behind : (what : Role) → role (lexeme r) ≡ what → (what ≡ Fails → ⊥) → IsUtf8 (token.next r).text
    behind what e never = next_of r (lexeme r) u refl (stands_good (lexeme r) what e never)

    go : ((opens : ℕ) → IsUtf8 (token.next r).text → RemainsText (directive_from turns opens (token.next r))) → (what : Role) → role (lexeme r) ≡ what → RemainsText (directive_by (directive_from turns) open_now r what)
    go rest Ends e = behind Ends e (λ k. absurd (cc))
    go rest Opens e = opened (nat_lt open_now max_open)
      where
        opened : (t : Bool) → RemainsText (if t then directive_from turns (open_now + 1) (token.next r) else Err (token.fault_at TooDeep r))
        opened true = rest (open_now + 1) (behind Opens e (λ k. absurd (cc)))
        opened false = tt
    go rest Closes e = rest (open_now - 1) (behind Closes e (λ k. absurd (cc)))
    go rest Stands e = rest open_now (behind Stands e (λ k. absurd (cc)))
    go rest Fails e = tt

pub directive_text : (r s : Remaining) → IsUtf8 r.text → lexeme r ≡ l.If → directive r ≡ Ok s → IsUtf8 s.text
unfolding directive
directive_text r s u comes e = subst RemainsText e (from_directive (token.left (token.next r)) 0 (token.next r) (next_of r l.If u comes refl))
