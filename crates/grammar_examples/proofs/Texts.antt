-- The examples compute.
use Rattle.std.proofs.Common.{◌≡◌, ◌<◌, Bool, true, false, ◌&&◌, nat_lt, None, List, [], ◌∷◌, codes, All, ℕ, refl, ap, ◌∙◌, length, arith}
use Rattle.std.proofs.lemmas.Bool.Decides.{nat_tests}
use Rattle.std.proofs.lemmas.List.Elements.{All-nil, All-cons}
use Rattle.std.proofs.lemmas.Str.Ascii.{IsAscii-from_all}
use Rattle.std.proofs.lemmas.Str.{utf8_valid_len-IsUtf8, IsUtf8-from_ascii}
use Rattle.std.specs.Str.Lossy.{utf8_valid_len}
use Rattle.clp_grammar.specs.Clauses.{unless}
use Rattle.clp_grammar.specs.Evaluation.{with_value}
use Rattle.token_model.specs.White.{skipped}
use Rattle.token_model.specs.Names.{word, closing, unescaped, quoted}
use Rattle.token_model.specs.Numbers.{joins_number, lexeme_of_digits, number}
use Rattle.token_model.specs.Marks.{mark, dot}
use Rattle.token_model.specs.Tokens.{token}
use Rattle.token_model.specs.Remaining as r
use Rattle.token_cursor.specs.Utf8.{not_utf8}
use Rattle.linear_model.specs.Gcd.{gcd}
use Rattle.frac_model.specs.Reduced.{reduced}
use Rattle.clp_grammar.specs.declared.expression.Expression.TheBlock.{hidden-the_row-Expression-0}
use denote.Hole.Carrier.{hidden}
use Rattle.clp_grammar.specs.Input as i
use Rattle.clp_grammar.specs.Names as n
use Rattle.clp_grammar.specs.Expressions as e
use Rattle.clp_grammar.specs.Goals as g
use Rattle.clp_grammar.specs.Drafts as d
use Rattle.clp_grammar.specs.Directives as v
use Rattle.clp_grammar.specs.Evaluation as l
use Rattle.clp_grammar.specs.Terms as t
use Rattle.clp_grammar.specs.Clauses as c
use Rattle.clp_grammar.specs.Grammar as p
use Rattle.grammar_examples.specs.Read.{AFact, ListsAndNumbers, Relations, SortConstraint, BarList, ComputedArgument, GoalAndClause}
use Rattle.grammar_examples.specs.Faults.{ProductOfVariables, NoAtom, ReservedHead, ZeroDivisor, LooseBrace, SumOutOfRange, BehindGoal}

are_ascii : List ℕ → Bool
are_ascii [] = true
are_ascii (b ∷ bs) = nat_lt b 128 && are_ascii bs

each_ascii : (bs : List ℕ) → are_ascii bs ≡ true → All (λ b. b < 128) bs
unfolding are_ascii
each_ascii [] h = All-nil _
each_ascii (b ∷ bs) h = by (nat_lt b 128) refl (each_ascii bs) h
  where
    by : (t : Bool) → nat_lt b 128 ≡ t → (are_ascii bs ≡ true → All (λ c. c < 128) bs) → (t && are_ascii bs) ≡ true → All (λ c. c < 128) (b ∷ bs)
    by true e again h = let small : b < 128 = grind (arith, nat_tests) in All-cons (λ c. c < 128) b bs small (again h)
    by false e again h = absurd (cc)

whole_text : (text : List ℕ) → are_ascii text ≡ true → not_utf8 text ≡ None
unfolding not_utf8
whole_text text h =
    let e : utf8_valid_len text ≡ length text = utf8_valid_len-IsUtf8 text (IsUtf8-from_ascii text (IsAscii-from_all text (each_ascii text h))) in
    grind (arith, nat_tests)

-- ASCII is UTF-8, so that the clauses decide
read : (text : List ℕ) → are_ascii text ≡ true → p.program text ≡ p.clauses_from (r.left (r.whole text)) [] (r.whole text)
unfolding p.program
read text h = ap (λ f. unless f (p.clauses_from (r.left (r.whole text)) [] (r.whole text))) (whole_text text h)

read_goal : (text : List ℕ) → are_ascii text ≡ true → p.goal_text text ≡ with_value (p.clause_with d.end_or_finish (r.whole text)) p.alone
unfolding p.goal_text
read_goal text h = ap (λ f. unless f (with_value (p.clause_with d.end_or_finish (r.whole text)) p.alone)) (whole_text text h)

pub programs : AFact × ListsAndNumbers × Relations × SortConstraint × BarList × ComputedArgument × GoalAndClause
unfolding skipped word closing unescaped quoted joins_number lexeme_of_digits number mark dot token r.ahead r.touches_number r.next_token r.lexeme r.spelling r.same_lexeme r.next r.left r.reason r.fault_at r.refusal r.sees r.after r.expect i.refusal i.eat i.expect i.separated_from i.separated n.fresh n.numbered n.variable e.chained e.chain_from e.chain e.application e.primary e.behind_sign e.signed e.elements_with e.list_with e.arguments g.related g.num_variable g.constrained g.braces g.plain_goal g.one_goal d.body d.end_or_finish d.draft v.directive_from v.directive l.linear l.row_of t.with_name t.met t.met_num t.met_all t.compare t.flattened t.place_of t.named t.term_from c.nature c.misplaced c.call c.equate c.evaluated c.meaning p.clause_with p.past_limit p.next_clause p.clauses_from reduced gcd hidden-the_row-Expression-0 hidden are_ascii p.goal_text p.clause_at
programs = (
  read (codes "p(X,'q r',X).") refl ∙ refl,
  read (codes ":- any([(thing. len([],0).") refl ∙ refl,
  read (codes "p :- {X > 3, 1/2*X =< Y-2}, X < Y.") refl ∙ refl,
  read (codes "p(X,Y) :- {num(X)}, true, num(Y).") refl ∙ refl,
  read (codes "len(T,N) :- T = [X|L], N = M+1, len(L,M).") refl ∙ refl,
  read (codes "p(f(X-1),Y).") refl ∙ refl,
  (read_goal (codes " q ") refl ∙ refl, refl),
)

pub faults : ProductOfVariables × NoAtom × ReservedHead × ZeroDivisor × LooseBrace × SumOutOfRange × BehindGoal
unfolding skipped word closing unescaped quoted joins_number lexeme_of_digits number mark dot token r.ahead r.touches_number r.next_token r.lexeme r.spelling r.same_lexeme r.next r.left r.reason r.fault_at r.refusal r.sees r.after r.expect i.refusal i.eat i.expect i.separated_from i.separated n.fresh n.numbered n.variable e.chained e.chain_from e.chain e.application e.primary e.behind_sign e.signed e.elements_with e.list_with e.arguments g.related g.num_variable g.constrained g.braces g.plain_goal g.one_goal d.body d.end_or_finish d.draft v.directive_from v.directive l.linear l.row_of t.with_name t.met t.met_num t.met_all t.compare t.flattened t.place_of t.named t.term_from c.nature c.misplaced c.call c.equate c.evaluated c.meaning p.clause_with p.past_limit p.next_clause p.clauses_from reduced gcd hidden-the_row-Expression-0 hidden are_ascii
faults = (
  read (codes "p(X*Y, Z/0).") refl ∙ refl,
  read (codes "p(1/0) :- q, (X).") refl ∙ refl,
  read (codes "q. (true) :- 3.") refl ∙ refl,
  read (codes "p :- {X = Y/(X-X)}.") refl ∙ refl,
  read (codes "p :- {num((X))}.") refl ∙ refl,
  read (codes "p(2*3, 9223372036854775807 + 1).") refl ∙ refl,
  read_goal (codes "p(X) :- X = 3. q") refl ∙ refl,
)
