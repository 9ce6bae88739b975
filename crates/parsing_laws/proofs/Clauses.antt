-- Printed clauses are parsed as what stands for them.
use Rattle.std.proofs.Common.{◌≡◌, ℕ, suc, ◌+◌, ◌<◌, ◌≤◌, ◌^◌, Bool, true, false, List, [], ◌∷◌, ◌++◌, length, map, refl, ap, ◌∙◌, sym, subst, arith, cond, append_assoc, append-nil, length-append, Ok, codes, Option}
use Rattle.std.proofs.lemmas.List.{length-map}
use Rattle.std.proofs.lemmas.List.Elements.{All-head, All-tail}
use Rattle.std.specs.List.{list_any}
use Rattle.std.specs.Prelude.{if◌then◌else◌, All, nat_eq, ◌||◌}
use Rattle.std.proofs.lemmas.Bool.Decides.{nat_tests}
use Rattle.token_model.specs.declared.token.Lexeme.{Lexeme}
use Rattle.token_model.specs.declared.token.Lexeme.TheVariants as l
use Rattle.token_model.specs.White.{skipped}
use Rattle.token_model.specs.Remaining.{Remaining, ahead, lexeme, same_lexeme, sees}
use Rattle.token_model.specs.Parsers.{Outcome, Parser, and_then, ◌>>=◌, ◌>>◌, ◌<$>◌, pure}
use Rattle.printed_tokens.proofs.Next.{sees_by, sees_itself}
use Rattle.printed_tokens.proofs.Marks.{open_curly_is, close_curly_is, if_is, end_is}
use Rattle.clp_model.specs.declared.tree.Tree.{Tree}
use Rattle.clp_model.specs.Clauses.{Clause}
use Rattle.clp_model.specs.Trees.{depth, greatest_depth, variables, variables_in}
use Rattle.clp_model.specs.Canonical.{place_in}
use Rattle.clp_model.specs.Predicates.{with_element}
use Rattle.clause_model.specs.Variables.{rows_variables, loose_nums, variables_as_printed}
use Rattle.clp_grammar.specs.declared.expression.Expression.{Expression}
use Rattle.clp_grammar.specs.declared.draft.Relation.{Relation}
use Rattle.clp_grammar.specs.declared.draft.Constraint.{Constraint}
use Rattle.clp_grammar.specs.declared.draft.Goal.{Goal}
use Rattle.clp_grammar.specs.declared.draft.Goal.TheVariants as goal
use Rattle.clp_grammar.specs.declared.draft.Draft.{Draft}
use Rattle.clp_grammar.specs.Input.{Input, start, max_open, peek, expect, separated}
use Rattle.clp_grammar.specs.Goals.{relation_of, max_inside, constrained, goal_by, plain_goal, one_goal}
use Rattle.clp_grammar.specs.Goals as grammar
use Rattle.clp_grammar.specs.Drafts.{body, names_met, end, draft}
use Rattle.print_model.specs.Joined.{joined}
use Rattle.print_model.specs.Terms.{variable_text, atom_text}
use Rattle.print_model.specs.Clauses as text
use Rattle.print_model.specs.Clauses.{clause_text, program_text, end_text}
use Rattle.standing_model.specs.Pieces.{Piece, texts_of, placed}
use Rattle.standing_model.specs.Terms.{atom}
use Rattle.standing_model.specs.Clauses.{constraints, braces, call, goals, body_text, draft_of, drafts_of}
use Rattle.standing_model.specs.Parsable.{HasShortNames, IsParsable}
use Rattle.parsing_laws.specs.Laws.{AreDrafts}
use Rattle.parsing_laws.specs.Places.{at, known, met, Placed, AreSmall}
use Rattle.parsing_laws.proofs.Places.{met-append, placed_parts, placed_by_all}
use Rattle.parsing_laws.specs.Behind.{behind, closes, Stops, IsEndBefore}
use Rattle.parsing_laws.proofs.States.{passes, eats, leaves, expects, stops_ends, stops_close_curly, stops_if, stops_end, no_relation}
use Rattle.parsing_laws.proofs.Lists.{IsItem, AreItems, Closes, all_items}
use Rattle.parsing_laws.proofs.Terms.{IsWritten, begins_term, by_begins, atom_written}
use Rattle.parsing_laws.proofs.Rows.{constraint_items}
use Rattle.parsing_laws.proofs.Texts.{atom_text_is, goals_texts}

-- a comma and a space
white : (z : List ℕ) → skipped (codes " " ++ z) ≡ skipped z
unfolding skipped
white z = refl

-- ---- braces

closes_curly : (z : List ℕ) → Closes (125 ∷ z)
unfolding ahead skipped same_lexeme
closes_curly z = record { stops = stops_close_curly z; no_comma = λ a. ap (λ (k : Lexeme). same_lexeme k l.Comma) (close_curly_is (behind (125 ∷ z) a) z refl).lexeme }

-- what stands between further constraints
abbrev between : {A : Type 0} → List (Piece A) → List ℕ
between ps = joined (codes ", ") (codes ", ") (texts_of ps)

braces_are : (p : Piece Constraint) (ps : List (Piece Constraint)) (z : List ℕ)
    → (joined (codes "{") (codes ", ") (texts_of (p ∷ ps)) ++ codes "}") ++ z ≡ 123 ∷ (p.text ++ (between ps ++ 125 ∷ z))
braces_are p ps z = ap (λ (y : List ℕ). 123 ∷ y) (append_assoc (p.text ++ between ps) (codes "}") z ∙ append_assoc p.text (between ps) (125 ∷ z))

braces_item : (place : ℕ → ℕ) (p : Piece Constraint) (ps : List (Piece Constraint)) (ns : List ℕ) → AreItems constrained place (p ∷ ps) ns
    → IsItem one_goal place (record { text = joined (codes "{") (codes ", ") (texts_of (p ∷ ps)) ++ codes "}"; value = λ after. goal.Braces (placed (codes ", ") (p ∷ ps) (1 + after)) }) ns
unfolding one_goal grammar.braces ahead skipped
braces_item place p ps ns are = record { stays = λ z. refl; long = omega arith; is = is }
  where
    is : (ms : List ℕ) (r : Remaining) (z : List ℕ) → Placed place ms ns → ahead r ≡ (joined (codes "{") (codes ", ") (texts_of (p ∷ ps)) ++ codes "}") ++ z → Stops closes z
        → (a : Bool) × (one_goal (at r (known ms)) ≡ Ok (goal.Braces (placed (codes ", ") (p ∷ ps) (1 + length z)), at (behind z a) (known (met ms ns))))
    is ms r z numbers front stops =
        let inside = p.text ++ (between ps ++ 125 ∷ z) in
        let opens = open_curly_is r inside (front ∙ braces_are p ps z) in
        let all = all_items constrained place (codes " ") white p ps ns ms (behind inside false) (125 ∷ z) are numbers (closes_curly z) (are.2.stays (between ps ++ 125 ∷ z)) in
        let found = placed (codes ", ") (p ∷ ps) (suc (length z)) in
        let names = known (met ms ns) in (
          false,
          ap (λ (b : Bool). (if b then goal.Braces <$> grammar.braces else plain_goal) (at r (known ms))) (sees_itself r l.OpenCurly opens.lexeme)
              ∙ ap (λ (i : Input). and_then (and_then (separated constrained i) (λ xs. expect max_inside l.CloseCurly >> pure xs)) (λ xs. pure (goal.Braces xs))) (passes r l.OpenCurly (123 ∷ []) inside (known ms) opens)
              ∙ ap (λ (o : Outcome Input (List Constraint)). and_then (and_then o (λ xs. expect max_inside l.CloseCurly >> pure xs)) (λ xs. pure (goal.Braces xs))) all.1
              ∙ ap (λ (o : Outcome Input (Unit {0})). and_then (and_then o (λ u. pure found)) (λ xs. pure (goal.Braces xs)))
              (expects (behind (125 ∷ z) all.0) l.CloseCurly (125 ∷ []) z names (close_curly_is (behind (125 ∷ z) all.0) z refl) max_inside)
              ∙ ap (λ (k : ℕ). Ok (goal.Braces (placed (codes ", ") (p ∷ ps) k), at (behind z false) names)) (let f : suc (length z) ≡ 1 + length z = omega arith in f),
        )

-- ---- goals

call_item : (place : ℕ → ℕ) (t : Tree ℕ) → HasShortNames t → depth t ≤ max_open → IsItem one_goal place (call place t) (variables t)
unfolding one_goal plain_goal
call_item place t names deep = record { stays = w.stays; long = w.long; is = is }
  where
    w : IsWritten place (atom place t).text (atom place t).value max_open (variables t)
    w = atom_written place t max_open names deep

    is : (ms : List ℕ) (r : Remaining) (z : List ℕ) → Placed place ms (variables t) → ahead r ≡ (atom place t).text ++ z → Stops closes z
        → (a : Bool) × (one_goal (at r (known ms)) ≡ Ok (goal.Call ((atom place t).value (length z)), at (behind z a) (known (met ms (variables t)))))
    is ms r z numbers front stops =
        let e = (atom place t).value (length z) in
        let no_brace : sees l.OpenCurly r ≡ false = sees_by r (lexeme r) l.OpenCurly refl ∙ (by_begins (lexeme r) (w.begins ms r z numbers front stops.name)).no_brace in (
          false,
          ap (λ (b : Bool). (if b then goal.Braces <$> grammar.braces else plain_goal) (at r (known ms))) no_brace
              ∙ ap (λ (o : Outcome Input Expression). and_then o (λ x. peek >>= (λ next. goal_by x (relation_of next)))) (w.is max_open ms r z (omega arith) numbers front (stops_ends z stops))
              ∙ ap (λ (o : Option Relation). goal_by e o (at (behind z false) (known (met ms (variables t))))) (no_relation (lexeme (behind z false)) (stops.next false)),
        )

call_items : (place : ℕ → ℕ) (ts : List (Tree ℕ)) → All HasShortNames ts → greatest_depth ts ≤ max_open → AreItems one_goal place (map (call place) ts) (variables_in ts)
call_items place [] names deep = refl
call_items place (t ∷ ts) names deep =
    (variables t, variables_in ts, call_item place t (All-head HasShortNames t ts names) (omega arith), call_items place ts (All-tail HasShortNames t ts names) (omega arith), refl)

goal_items : (place : ℕ → ℕ) (ps : List (Piece Constraint)) (xs ys : List ℕ) (calls : List (Piece Goal)) → AreItems constrained place ps xs → AreItems one_goal place calls ys → AreItems one_goal place (braces ps ++ calls) (xs ++ ys)
goal_items place [] xs ys calls are others = rw are others
goal_items place (p ∷ ps) xs ys calls are others = (xs, ys, braces_item place p ps xs are, others, refl)

-- the variables of the goals, in the order of the text
abbrev goal_variables : Clause → List ℕ
goal_variables c = (rows_variables c.rows ++ loose_nums c) ++ variables_in c.body

all_goals : (place : ℕ → ℕ) (c : Clause) → IsParsable c → AreItems one_goal place (goals place c) (goal_variables c)
all_goals place c h =
    goal_items place (constraints place c) (rows_variables c.rows ++ loose_nums c) (variables_in c.body) (map (call place) c.body)
    (constraint_items place c.rows (loose_nums c) h.range)
    (call_items place c.body (All-tail HasShortNames c.head c.body h.names) (omega (arith, h.deep)))

-- ---- bodies

closes_end : (y : List ℕ) → IsEndBefore y → Closes (46 ∷ y)
unfolding ahead skipped same_lexeme
closes_end y h = record { stops = stops_end y h; no_comma = λ a. ap (λ (k : Lexeme). same_lexeme k l.Comma) (end_is (behind (46 ∷ y) a) y h refl).lexeme }

stops_body : (gs : List (Piece Goal)) (y : List ℕ) → IsEndBefore y → Stops closes (body_text gs ++ 46 ∷ y)
stops_body [] y h = stops_end y h
stops_body (g ∷ gs) y h = stops_if (32 ∷ ((g.text ++ between gs) ++ 46 ∷ y))

body_is : (place : ℕ → ℕ) (gs : List (Piece Goal)) (ns ms : List ℕ) (y : List ℕ) → AreItems one_goal place gs ns → Placed place ms ns → IsEndBefore y
    → (last : Bool) × (body (at (behind (body_text gs ++ 46 ∷ y) false) (known ms)) ≡ Ok (placed (codes ", ") gs (suc (length y)), at (behind (46 ∷ y) last) (known (met ms ns))))
unfolding body ahead skipped same_lexeme
body_is place [] ns ms y are numbers h =
    let r = behind (46 ∷ y) false in
    let no_body : same_lexeme (lexeme (behind (46 ∷ y) false)) l.If ≡ false = ap (λ (k : Lexeme). same_lexeme k l.If) (end_is r y h refl).lexeme in (
      false,
      ap (λ (o : Outcome Input Bool). and_then o (λ has_body. if has_body then separated one_goal else pure [])) (leaves r l.If (known ms) no_body)
          ∙ ap (λ (v : List ℕ). Ok ([], at r (known (met ms v)))) (sym are),
    )
body_is place (g ∷ gs) ns ms y are numbers h =
    let inside = g.text ++ (between gs ++ 46 ∷ y) in
    let r = behind (32 ∷ 58 ∷ 45 ∷ 32 ∷ inside) false in
    let all = all_items one_goal place (codes " ") white g gs ns ms (behind (32 ∷ inside) false) (46 ∷ y) are numbers (closes_end y h) (are.2.stays (between gs ++ 46 ∷ y)) in (
      all.0,
      ap (λ (z : List ℕ). body (at (behind (32 ∷ 58 ∷ 45 ∷ 32 ∷ z) false) (known ms))) (append_assoc g.text (between gs) (46 ∷ y))
          ∙ ap (λ (o : Outcome Input Bool). and_then o (λ has_body. if has_body then separated one_goal else pure [])) (eats r l.If (58 ∷ 45 ∷ []) (32 ∷ inside) (known ms) (if_is r (32 ∷ inside) refl))
          ∙ all.1,
    )

-- ---- clauses

small_found : (n : ℕ) (ms : List ℕ) → list_any (λ m. nat_eq m n) ms ≡ true → AreSmall ms → n < 2 ^ 64
small_found n [] e h = cc
small_found n (m ∷ ms) e h = go (nat_eq m n) refl e (small_found n ms)
  where
    go : (t : Bool) → nat_eq m n ≡ t → (t || list_any (λ m. nat_eq m n) ms) ≡ true → (list_any (λ m. nat_eq m n) ms ≡ true → AreSmall ms → n < 2 ^ 64) → n < 2 ^ 64
    go true f e ih = let same : m ≡ n = grind (arith, nat_tests) in rw (sym same) h.0
    go false f e ih = ih e h.1

small_parts : (ms : List ℕ) (n : ℕ) → AreSmall (ms ++ n ∷ []) → AreSmall ms × (n < 2 ^ 64)
small_parts [] n h = (tt, h.0)
small_parts (m ∷ ms) n h = let r = small_parts ms n h.1 in ((h.0, r.0), r.1)

-- where each that is met in all is small, so is each
small_met : (ms ns : List ℕ) → AreSmall (met ms ns) → AreSmall ms × AreSmall ns
small_met ms [] h = (h, tt)
small_met ms (n ∷ ns) h = go (list_any (λ m. nat_eq m n) ms) refl (small_met (with_element nat_eq ms n) ns h)
  where
    go : (t : Bool) → list_any (λ m. nat_eq m n) ms ≡ t → AreSmall (cond t ms (ms ++ n ∷ [])) × AreSmall ns → AreSmall ms × AreSmall (n ∷ ns)
    go true e r = (r.0, (small_found n ms e r.0, r.1))
    go false e r = let p = small_parts ms n r.0 in (p.0, (p.1, r.1))

small_list : (ns : List ℕ) → All (λ n. n < 2 ^ 64) ns → AreSmall ns
small_list [] h = tt
small_list (n ∷ ns) h = (All-head (λ (n : ℕ). n < 2 ^ 64) n ns h, small_list ns (All-tail (λ (n : ℕ). n < 2 ^ 64) n ns h))

-- the names of a clause, in the order of the text
in_order : (c : Clause) → met (met [] (variables c.head)) (goal_variables c) ≡ variables_as_printed c
in_order c =
    let head = variables c.head in
    let rows = rows_variables c.rows in
    let nums = loose_nums c in
    let atoms = variables_in c.body in
    sym (met-append [] head (goal_variables c))
    ∙ ap (λ (v : List ℕ). met [] (v ++ ((rows ++ nums) ++ atoms))) (sym (append-nil head))
    ∙ ap (met []) (sym (append_assoc (head ++ []) (rows ++ nums) atoms) ∙ ap (λ (v : List ℕ). v ++ atoms) (sym (append_assoc (head ++ []) rows nums)))

all_placed : (c : Clause) → IsParsable c → Placed (place_in (variables_as_printed c)) [] (variables c.head ++ goal_variables c)
all_placed c h =
    let is : met [] (variables c.head ++ goal_variables c) ≡ variables_as_printed c = met-append [] (variables c.head) (goal_variables c) ∙ in_order c in
    let small = small_met [] (variables c.head ++ goal_variables c) (subst AreSmall (sym is) (small_list (variables_as_printed c) h.variables)) in
    placed_by_all [] (variables c.head ++ goal_variables c) (variables_as_printed c) tt small.1 (sym is)

-- what follows the goals
abbrev ended : Expression → List Goal → Parser Input Draft
ended head found = end >> (names_met >>= (λ count. pure (record { head = head; goals = found; variables = count })))

pub draft_is : (c : Clause) (r : Remaining) (y : List ℕ) → IsParsable c → IsEndBefore y → ahead r ≡ atom_text c.head ++ (joined (codes " :- ") (codes ", ") (text.goals c) ++ 46 ∷ y)
    → draft end (start r) ≡ Ok (draft_of c (1 + length y), at (behind y false) (known (variables_as_printed c)))
unfolding draft draft_of ahead skipped
draft_is c r y h ends_here front =
    let all = variables_as_printed c in
    let place = place_in all in
    let gs = goals place c in
    let z = body_text gs ++ 46 ∷ y in
    let head = atom place c.head in
    let deep : depth c.head ≤ max_open = omega (arith, h.deep) in
    let w = atom_written place c.head max_open (All-head HasShortNames c.head c.body h.names) deep in
    let parts = placed_parts place [] (variables c.head) (goal_variables c) (all_placed c h) in
    let text : ahead r ≡ (atom (place_in (variables_as_printed c)) c.head).text ++ (body_text (goals (place_in (variables_as_printed c)) c) ++ 46 ∷ y) =
    front ∙ ap (λ (x : List ℕ). x ++ (joined (codes " :- ") (codes ", ") (text.goals c) ++ 46 ∷ y)) (sym (atom_text_is place c.head))
    ∙ ap (λ (xs : List (List ℕ)). head.text ++ (joined (codes " :- ") (codes ", ") xs ++ 46 ∷ y)) (sym (goals_texts place c)) in
    let rest = body_is place gs (goal_variables c) (met [] (variables c.head)) y (all_goals place c h) parts.1 ends_here in
    let last = met (met [] (variables c.head)) (goal_variables c) in
    let final = at (behind y false) (known last) in
    let one : suc (length y) ≡ 1 + length y = omega arith in
    let size : length (body_text (goals (place_in (variables_as_printed c)) c) ++ 46 ∷ y) ≡ length (body_text (goals (place_in (variables_as_printed c)) c)) + (1 + length y) =
    length-append (body_text gs) (46 ∷ y) ∙ ap (λ (k : ℕ). length (body_text gs) + k) one in
    let found = placed (codes ", ") gs (suc (length y)) in
    let close = end_is (behind (46 ∷ y) rest.0) y ends_here refl in
    ap (λ (o : Outcome Input Expression). and_then o (λ e. body >>= (λ xs. ended e xs)))
    (w.is max_open [] r z (omega arith) parts.0 text (stops_ends z (stops_body gs y ends_here)))
    ∙ ap (λ (o : Outcome Input (List Goal)). and_then o (λ xs. ended (head.value (length z)) xs)) rest.1
    ∙ ap (λ (o : Outcome Input (Unit {0})). and_then o (λ u. names_met >>= (λ count. pure (record { head = head.value (length z); goals = found; variables = count }))))
    (expects (behind (46 ∷ y) rest.0) l.End (46 ∷ []) y (known last) close max_open)
    ∙ ap (λ (k : ℕ). Ok (record { head = head.value k; goals = found; variables = length (known last) }, final)) size
    ∙ ap (λ (k : ℕ). Ok (record { head = head.value (length (body_text gs) + (1 + length y)); goals = placed (codes ", ") gs k; variables = length (known last) }, final)) one
    ∙ ap (λ (k : ℕ). Ok (record { head = head.value (length (body_text gs) + (1 + length y)); goals = placed (codes ", ") gs (1 + length y); variables = k }, final)) (length-map last variable_text)
    ∙ ap (λ (ms : List ℕ). Ok (record { head = head.value (length (body_text gs) + (1 + length y)); goals = placed (codes ", ") gs (1 + length y); variables = length ms }, at (behind y false) (known ms))) (in_order c)

-- its first token begins a term
pub clause_begins : (c : Clause) (r : Remaining) (y : List ℕ) → IsParsable c → IsEndBefore y → ahead r ≡ atom_text c.head ++ (joined (codes " :- ") (codes ", ") (text.goals c) ++ 46 ∷ y)
    → begins_term (lexeme r) ≡ true
clause_begins c r y h ends_here front =
    let place = place_in (variables_as_printed c) in
    let gs = goals place c in
    let head = atom place c.head in
    let deep : depth c.head ≤ max_open = omega (arith, h.deep) in
    let w = atom_written place c.head max_open (All-head HasShortNames c.head c.body h.names) deep in
    let parts = placed_parts place [] (variables c.head) (goal_variables c) (all_placed c h) in
    let text : ahead r ≡ head.text ++ (body_text gs ++ 46 ∷ y) =
    front ∙ ap (λ (x : List ℕ). x ++ (joined (codes " :- ") (codes ", ") (text.goals c) ++ 46 ∷ y)) (sym (atom_text_is place c.head))
    ∙ ap (λ (xs : List (List ℕ)). head.text ++ (joined (codes " :- ") (codes ", ") xs ++ 46 ∷ y)) (sym (goals_texts place c)) in
    w.begins [] r (body_text gs ++ 46 ∷ y) parts.0 text (stops_body gs y ends_here).name

-- ---- programs

pub clause_text_is : (c : Clause) (z : List ℕ) → clause_text c ++ z ≡ atom_text c.head ++ (joined (codes " :- ") (codes ", ") (text.goals c) ++ 46 ∷ 10 ∷ z)
unfolding clause_text
clause_text_is c z =
    append_assoc (atom_text c.head) (joined (codes " :- ") (codes ", ") (text.goals c) ++ end_text) z
    ∙ ap (λ (x : List ℕ). atom_text c.head ++ x) (append_assoc (joined (codes " :- ") (codes ", ") (text.goals c)) end_text z)

-- no printed clause begins with white or a comment
pub clause_stays : (c : Clause) (z : List ℕ) → IsParsable c → skipped (clause_text c ++ z) ≡ clause_text c ++ z
clause_stays c z h =
    let place = place_in (variables_as_printed c) in
    let deep : depth c.head ≤ max_open = omega (arith, h.deep) in
    let w = atom_written place c.head max_open (All-head HasShortNames c.head c.body h.names) deep in
    let rest = joined (codes " :- ") (codes ", ") (text.goals c) ++ 46 ∷ 10 ∷ z in
    let e = clause_text_is c z ∙ ap (λ (x : List ℕ). x ++ rest) (sym (atom_text_is place c.head)) in
    ap skipped e ∙ w.stays rest ∙ sym e

pub drafts_are : (cs : List Clause) (r : Remaining) (z : List ℕ) → All IsParsable cs → ahead r ≡ skipped (program_text cs ++ z)
    → (s : Remaining) × AreDrafts r (drafts_of cs (length z)) s × (ahead s ≡ skipped z)
unfolding program_text drafts_of ahead skipped
drafts_are [] r z h front = (r, refl, front)
drafts_are (c ∷ cs) r z h front =
    let own = All-head IsParsable c cs h in
    let others = program_text cs ++ z in
    let text : ahead r ≡ atom_text c.head ++ (joined (codes " :- ") (codes ", ") (text.goals c) ++ 46 ∷ 10 ∷ (program_text cs ++ z)) =
    front ∙ ap skipped (append_assoc (clause_text c) (program_text cs) z) ∙ clause_stays c others own ∙ clause_text_is c others in
    let rest = drafts_are cs (behind (10 ∷ others) false) z (All-tail IsParsable c cs h) refl in
    let first = draft_is c r (10 ∷ others) own (λ a. refl) text in
    let names = known (variables_as_printed c) in
    let size : 1 + suc (length (program_text cs ++ z)) ≡ 2 + (length (program_text cs) + length z) = omega (arith, length-append (program_text cs) z) in (
      rest.0,
      (at (behind (10 ∷ others) false) names, first ∙ ap (λ (k : ℕ). Ok (draft_of c k, at (behind (10 ∷ others) false) names)) size, rest.1),
      rest.2,
    )
