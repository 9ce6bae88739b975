-- Printed terms and atoms are parsed as what stands for them.
use Rattle.std.proofs.Common.{◌≡◌, ℕ, zero, suc, ◌+◌, ◌<◌, ◌≤◌, Bool, true, false, List, [], ◌∷◌, ◌++◌, length, map, refl, ap, ◌∙◌, sym, arith, cond, append_assoc, append-nil, length-append, Ok, codes}
use Rattle.std.specs.Prelude.{if◌then◌else◌}
use Rattle.token_model.specs.declared.token.Lexeme.{Lexeme}
use Rattle.token_model.specs.declared.token.Lexeme.TheVariants as l
use Rattle.token_model.specs.White.{skipped}
use Rattle.token_model.specs.Names.{max_name, quoted_name}
use Rattle.token_model.specs.Remaining.{Remaining, ahead, lexeme, left, sees, same_lexeme}
use Rattle.token_model.specs.Parsers.{Outcome, Parser, and_then, ◌>>=◌, ◌>>◌, ◌<$>◌, pure}
use Rattle.printed_tokens.specs.Next.{NextIs, EndsName}
use Rattle.printed_tokens.proofs.Next.{sees_by, sees_itself}
use Rattle.printed_tokens.proofs.Names.{name_is, quoted_back, name_stays, variable_is}
use Rattle.printed_tokens.proofs.Marks.{open_round_is, close_round_is, open_square_is, close_square_is, comma_is, bar_is}
use Rattle.clp_model.specs.declared.tree.Tree.{Tree, Var, App', Row_of-Tree, end_of-Tree, more_of-Tree}
use Rattle.clp_model.specs.Trees.{depth, depths, variables, variables_in_row}
use Rattle.clp_grammar.specs.declared.expression.Head.TheVariants as head
use Rattle.clp_grammar.specs.declared.expression.Expression.{Expression, Node}
use Rattle.clp_grammar.specs.Input.{Input, peek, comes, expect, passed, separated}
use Rattle.clp_grammar.specs.Expressions as grammar
use Rattle.clp_grammar.specs.Expressions.{arguments, bracketed, list, after_comma, expression, primary_by, elements_by, elements_with, list_with}
use Rattle.print_model.specs.Joined.{joined}
use Rattle.print_model.specs.Names.{is_plain, quoted, predicate_text, is_nil, is_dot}
use Rattle.print_model.specs.Terms as printed
use Rattle.print_model.specs.Terms.{variable_text, wholes, arguments_text}
use Rattle.standing_model.specs.Pieces as pieces
use Rattle.standing_model.specs.Pieces.{Piece, placed}
use Rattle.standing_model.specs.Terms as standing
use Rattle.standing_model.specs.Terms.{Standing, texts_of, piece, other, nil, elements, cell, simple, application, applied, row_standing, atom}
use Rattle.standing_model.specs.Parsable.{HasShortNames, HaveShortNames}
use Rattle.parsing_laws.specs.Places.{at, known, met, Placed}
use Rattle.parsing_laws.proofs.Places.{met-append, placed_parts}
use Rattle.parsing_laws.specs.Behind.{behind, ends, closes, Stops}
use Rattle.parsing_laws.proofs.States.{passes, eats, leaves, expects, by_ends, stops_ends, stops_comma, stops_close_round, stops_close_square, stops_bar}
use Rattle.parsing_laws.proofs.Chains.{primary, is_sign, alone}
use Rattle.parsing_laws.proofs.Factors.{variable_factor}
use Rattle.parsing_laws.proofs.Lists.{IsItem, AreItems, Closes, all_items}

-- ---- what begins a term

abbrev pub begins_term : Lexeme → Bool
begins_term l.Name = true
begins_term l.Quoted = true
begins_term l.Variable = true
begins_term l.OpenSquare = true
begins_term _ = false

-- no sign, no closing bracket and no brace
pub record BeginsTerm (k : Lexeme) : Type 0 where
  pub no_sign : is_sign k ≡ false
  pub no_close : same_lexeme k l.CloseSquare ≡ false
  pub no_brace : same_lexeme k l.OpenCurly ≡ false

pub by_begins : (k : Lexeme) → begins_term k ≡ true → BeginsTerm k
unfolding same_lexeme
by_begins l.Name h = record { no_sign = refl; no_close = refl; no_brace = refl }
by_begins l.Quoted h = record { no_sign = refl; no_close = refl; no_brace = refl }
by_begins l.Variable h = record { no_sign = refl; no_close = refl; no_brace = refl }
by_begins l.OpenSquare h = record { no_sign = refl; no_close = refl; no_brace = refl }
by_begins _ h = absurd (cc)

-- ---- what is parsed

-- A text that is parsed as an expression, by how many bytes follow, where this many brackets may be open; it has these
-- variables.
pub record IsWritten (place : ℕ → ℕ) (text : List ℕ) (e : ℕ → Expression) (deep : ℕ) (ns : List ℕ) : Type 0 where
  pub stays : (z : List ℕ) → skipped (text ++ z) ≡ text ++ z
  pub long : 0 < length text
  pub begins : (ms : List ℕ) (r : Remaining) (z : List ℕ) → Placed place ms ns → ahead r ≡ text ++ z → EndsName z → begins_term (lexeme r) ≡ true
  pub is : (more : ℕ) (ms : List ℕ) (r : Remaining) (z : List ℕ) → deep ≤ more → Placed place ms ns → ahead r ≡ text ++ z → Stops ends z
      → expression more (at r (known ms)) ≡ Ok (e (length z), at (behind z false) (known (met ms ns)))

-- what follows an element of a list that was opened here, after those that were found
abbrev more_elements : ℕ → ℕ → List Expression → Parser Input Expression
more_elements more begin found = peek >>= elements_by more (arguments more) (bracketed more) (list more) (after_comma more) begin found

-- a term, by itself and as what follows an element of a list
pub record IsParsed (place : ℕ → ℕ) (s : Standing) (deep : ℕ) (ns : List ℕ) : Type 0 where
  pub whole : IsWritten place s.texts.whole s.whole deep ns
  pub stops : (z : List ℕ) → Stops closes (s.texts.rest ++ z)
  pub rest : (more begin : ℕ) (found : List Expression) (ms : List ℕ) (z : List ℕ) → deep ≤ more → Placed place ms ns
      → more_elements more begin found (at (behind (s.texts.rest ++ z) false) (known ms))
      ≡ Ok (Node begin (s.rest (length z)).head (found ++ (s.rest (length z)).parts), at (behind z false) (known (met ms ns)))

abbrev pub AreParsed : (ℕ → ℕ) → List Standing → ℕ → List ℕ → Type 0
AreParsed place [] deep ns = ns ≡ []
AreParsed place (s ∷ ss) deep ns = (xs : List ℕ) × (ys : List ℕ) × IsParsed place s deep xs × AreParsed place ss deep ys × (ns ≡ xs ++ ys)

pub written_item : (place : ℕ → ℕ) (p : Piece Expression) (deep more : ℕ) (ns : List ℕ) → IsWritten place p.text p.value deep ns → deep ≤ more → IsItem (expression more) place p ns
written_item place p deep more ns w h = record {
  stays = w.stays;
  long = w.long;
  is = λ ms r z numbers front stops. (false, w.is more ms r z h numbers front (stops_ends z stops));
}

are_items : (place : ℕ → ℕ) (ss : List Standing) (deep more : ℕ) (ns : List ℕ) → AreParsed place ss deep ns → deep ≤ more → AreItems (expression more) place (map piece ss) ns
are_items place [] deep more ns h few = h
are_items place (s ∷ ss) deep more ns h few = (h.0, h.1, written_item place (piece s) deep more h.0 h.2.whole few, are_items place ss deep more h.1 h.3 few, h.4)

one_more : (n : ℕ) → suc n ≡ 1 + n
one_more n = omega arith

-- a primary expression by itself, from its first token on
by_primary : (more : ℕ) (e : Expression) (r : Remaining) (z : List ℕ) (names others : List (List ℕ)) → begins_term (lexeme r) ≡ true → Stops ends z
    → primary more (at r names) ≡ Ok (e, at (behind z false) others) → expression more (at r names) ≡ Ok (e, at (behind z false) others)
by_primary more e r z names others b stops h = alone more e r (behind z false) names others (by_begins (lexeme r) b).no_sign (stops.next false) h

-- ---- variables

pub variable_written : (place : ℕ → ℕ) (n deep : ℕ) → IsWritten place (variable_text n) (standing.variable place n) deep (n ∷ [])
variable_written place n deep =
    let factor = variable_factor place n in
    record {
      stays = factor.stays;
      long = omega arith;
      begins = λ ms r z numbers front name. ap begins_term (variable_is r n z numbers.0.small front name).lexeme;
      is = λ more ms r z h numbers front stops. by_primary more (standing.variable place n (length z)) r z (known ms) (known (met ms (n ∷ [])))
          (ap begins_term (variable_is r n z numbers.0.small front stops.name).lexeme) stops
          (factor.is more ms r z numbers front (record { name = stops.name; number = stops.number }));
    }

-- ---- a term that is no list

pub other_parsed : (place : ℕ → ℕ) (text : List ℕ) (e : ℕ → Expression) (deep : ℕ) (ns : List ℕ) → IsWritten place text e deep ns → IsParsed place (other text e) deep ns
unfolding ahead skipped
other_parsed place text e deep ns w = record { whole = w; stops = λ z. stops_bar ((text ++ codes "]") ++ z); rest = rest }
  where
    rest : (more begin : ℕ) (found : List Expression) (ms : List ℕ) (z : List ℕ) → deep ≤ more → Placed place ms ns
        → more_elements more begin found (at (behind ((codes "|" ++ (text ++ codes "]")) ++ z) false) (known ms))
        ≡ Ok (Node begin head.OpenList (found ++ e (1 + length z) ∷ []), at (behind z false) (known (met ms ns)))
    rest more begin found ms z h numbers =
        let inside = text ++ 93 ∷ z in
        let r = behind (124 ∷ inside) false in
        let bar = bar_is r inside refl in
        let close = close_square_is (behind (93 ∷ z) false) z refl in
        ap (λ (y : List ℕ). more_elements more begin found (at (behind (124 ∷ y) false) (known ms))) (append_assoc text (codes "]") z)
        ∙ ap (λ (k : Lexeme). elements_by more (arguments more) (bracketed more) (list more) (after_comma more) begin found k (at r (known ms))) bar.lexeme
        ∙ ap (λ (i : Input). and_then (expression more i) (λ part. expect more l.CloseSquare >> pure (Node begin head.OpenList (found ++ part ∷ [])))) (passes r l.Bar (124 ∷ []) inside (known ms) bar)
        ∙ ap (λ (o : Outcome Input Expression). and_then o (λ part. expect more l.CloseSquare >> pure (Node begin head.OpenList (found ++ part ∷ []))))
        (w.is more ms (behind inside false) (93 ∷ z) h numbers (w.stays (93 ∷ z)) (stops_ends (93 ∷ z) (stops_close_square z)))
        ∙ ap (λ (o : Outcome Input (Unit {0})). and_then o (λ u. pure (Node begin head.OpenList (found ++ e (suc (length z)) ∷ []))))
        (expects (behind (93 ∷ z) false) l.CloseSquare (93 ∷ []) z (known (met ms ns)) close more)
        ∙ ap (λ (k : ℕ). Ok (Node begin head.OpenList (found ++ e k ∷ []), at (behind z false) (known (met ms ns)))) (one_more (length z))

-- ---- the empty list

nil_parsed : (place : ℕ → ℕ) (deep : ℕ) → IsParsed place nil (suc deep) []
unfolding ahead skipped grammar.primary arguments list_with left same_lexeme
nil_parsed place deep = record {
  whole = record {
    stays = λ z. refl;
    long = omega arith;
    begins = λ ms r z numbers front name. ap begins_term (open_square_is r (93 ∷ z) front).lexeme;
    is = is;
  };
  stops = stops_close_square;
  rest = rest;
}
  where
    is : (more : ℕ) (ms : List ℕ) (r : Remaining) (z : List ℕ) → suc deep ≤ more → Placed place ms [] → ahead r ≡ 91 ∷ 93 ∷ z → Stops ends z
        → expression more (at r (known ms)) ≡ Ok (Node (2 + length z) head.List [], at (behind z false) (known ms))
    is zero ms r z h numbers front stops = absurd (omega arith)
    is (suc more) ms r z h numbers front stops =
        let open_is = open_square_is r (93 ∷ z) front in
        let close = close_square_is (behind (93 ∷ z) false) z refl in
        by_primary (suc more) (Node (2 + length z) head.List []) r z (known ms) (known ms) (ap begins_term open_is.lexeme) stops
        (ap (λ (k : Lexeme). primary_by (suc more) (arguments (suc more)) (bracketed (suc more)) (list (suc more)) k (at r (known ms))) open_is.lexeme
        ∙ ap (list_with more (arguments more) (bracketed more) (list more) (after_comma more) (left r)) (passes r l.OpenSquare (91 ∷ []) (93 ∷ z) (known ms) open_is)
        ∙ ap (λ (o : Outcome Input Bool). and_then o (λ is_empty. if is_empty then pure (Node (left r) head.List []) else elements_with more (arguments more) (bracketed more) (list more) (after_comma more) (left r) []))
        (eats (behind (93 ∷ z) false) l.CloseSquare (93 ∷ []) z (known ms) close)
        ∙ ap (λ (k : ℕ). Ok (Node k head.List [], at (behind z false) (known ms))) (let f : left r ≡ 2 + length z = omega (arith, open_is.left) in f))

    rest : (more begin : ℕ) (found : List Expression) (ms : List ℕ) (z : List ℕ) → suc deep ≤ more → Placed place ms []
        → more_elements more begin found (at (behind (93 ∷ z) false) (known ms)) ≡ Ok (Node begin head.List (found ++ []), at (behind z false) (known ms))
    rest more begin found ms z h numbers =
        let r = behind (93 ∷ z) false in
        let close = close_square_is r z refl in
        ap (λ (k : Lexeme). elements_by more (arguments more) (bracketed more) (list more) (after_comma more) begin found k (at r (known ms))) close.lexeme
        ∙ ap (λ (o : Outcome Input (Unit {0})). and_then o (λ u. pure (Node begin head.List found))) (expects r l.CloseSquare (93 ∷ []) z (known ms) close more)
        ∙ ap (λ (v : List Expression). Ok (Node begin head.List v, at (behind z false) (known ms))) (sym (append-nil found))

-- ---- a list of a first element and what follows it

module _ (place : ℕ → ℕ) (s t : Standing) (deep : ℕ) (xs ys : List ℕ) (first : IsParsed place s deep xs) (follows : IsParsed place t deep ys) where
  abbrev cell_text : List ℕ
  cell_text = s.texts.whole ++ t.texts.rest

  elements_parsed : (more begin : ℕ) (found : List Expression) (ms z : List ℕ) → deep ≤ more → Placed place ms (xs ++ ys)
      → elements_with more (arguments more) (bracketed more) (list more) (after_comma more) begin found (at (behind (cell_text ++ z) false) (known ms))
      ≡ Ok (Node begin (elements s t (length z)).head (found ++ (elements s t (length z)).parts), at (behind z false) (known (met ms (xs ++ ys))))
  unfolding elements_with ahead
  elements_parsed more begin found ms z h numbers =
      let parts = placed_parts place ms xs ys numbers in
      let tail = t.texts.rest ++ z in
      let e = s.whole (length tail) in
      let others = (t.rest (length z)).parts in
      let kind = (t.rest (length z)).head in
      let end = at (behind z false) (known (met (met ms xs) ys)) in
      ap (λ (y : List ℕ). elements_with more (arguments more) (bracketed more) (list more) (after_comma more) begin found (at (behind y false) (known ms))) (append_assoc s.texts.whole t.texts.rest z)
      ∙ ap (λ (o : Outcome Input Expression). and_then o (λ element. more_elements more begin (found ++ element ∷ [])))
      (first.whole.is more ms (behind (s.texts.whole ++ tail) false) tail h parts.0 (first.whole.stays tail) (stops_ends tail (follows.stops z)))
      ∙ follows.rest more begin (found ++ e ∷ []) (met ms xs) z h parts.1
      ∙ ap (λ (v : List Expression). Ok (Node begin kind v, end)) (append_assoc found (e ∷ []) others)
      ∙ ap (λ (k : ℕ). Ok (Node begin kind (found ++ s.whole k ∷ others), end)) (length-append t.texts.rest z)
      ∙ ap (λ (v : List ℕ). Ok (Node begin kind (found ++ s.whole (length t.texts.rest + length z) ∷ others), at (behind z false) (known v))) (sym (met-append ms xs ys))

  cell_is : (more : ℕ) (ms : List ℕ) (r : Remaining) (z : List ℕ) → suc deep ≤ more → Placed place ms (xs ++ ys) → ahead r ≡ (codes "[" ++ cell_text) ++ z → Stops ends z
      → expression more (at r (known ms)) ≡ Ok ((cell s t).whole (length z), at (behind z false) (known (met ms (xs ++ ys))))
  unfolding grammar.primary arguments list_with left ahead
  cell_is zero ms r z h numbers front stops = absurd (omega arith)
  cell_is (suc more) ms r z h numbers front stops =
      let inside = cell_text ++ z in
      let tail = t.texts.rest ++ z in
      let open_is = open_square_is r inside front in
      let regrouped = append_assoc s.texts.whole t.texts.rest z in
      let parts = placed_parts place ms xs ys numbers in
      let start : skipped inside ≡ s.texts.whole ++ tail = ap skipped regrouped ∙ first.whole.stays tail in
      let begins = first.whole.begins ms (behind inside false) tail parts.0 start (follows.stops z).name in
      let rest_of = λ (is_empty : Bool). if is_empty then pure (Node (left r) head.List []) else elements_with more (arguments more) (bracketed more) (list more) (after_comma more) (left r) [] in
      by_primary (suc more) ((cell s t).whole (length z)) r z (known ms) (known (met ms (xs ++ ys))) (ap begins_term open_is.lexeme) stops
      (ap (λ (k : Lexeme). primary_by (suc more) (arguments (suc more)) (bracketed (suc more)) (list (suc more)) k (at r (known ms))) open_is.lexeme
      ∙ ap (list_with more (arguments more) (bracketed more) (list more) (after_comma more) (left r)) (passes r l.OpenSquare (91 ∷ []) inside (known ms) open_is)
      ∙ ap (λ (o : Outcome Input Bool). and_then o rest_of) (leaves (behind inside false) l.CloseSquare (known ms) (by_begins (lexeme (behind inside false)) begins).no_close)
      ∙ elements_parsed more (left r) [] ms z (omega arith) numbers
      ∙ ap (λ (k : ℕ). Ok (Node k (elements s t (length z)).head (elements s t (length z)).parts, at (behind z false) (known (met ms (xs ++ ys)))))
      (open_is.left ∙ length-append (91 ∷ cell_text) z))

  cell_rest : (more begin : ℕ) (found : List Expression) (ms z : List ℕ) → suc deep ≤ more → Placed place ms (xs ++ ys)
      → more_elements more begin found (at (behind ((codes "," ++ cell_text) ++ z) false) (known ms))
      ≡ Ok (Node begin (elements s t (length z)).head (found ++ (elements s t (length z)).parts), at (behind z false) (known (met ms (xs ++ ys))))
  unfolding arguments ahead skipped
  cell_rest zero begin found ms z h numbers = absurd (omega arith)
  cell_rest (suc more) begin found ms z h numbers =
      let inside = cell_text ++ z in
      let r = behind (44 ∷ inside) false in
      let comma = comma_is r inside refl in
      ap (λ (k : Lexeme). elements_by (suc more) (arguments (suc more)) (bracketed (suc more)) (list (suc more)) (after_comma (suc more)) begin found k (at r (known ms))) comma.lexeme
      ∙ ap (elements_with more (arguments more) (bracketed more) (list more) (after_comma more) begin found) (passes r l.Comma (44 ∷ []) inside (known ms) comma)
      ∙ elements_parsed more begin found ms z (omega arith) numbers

  cell_parsed : IsParsed place (cell s t) (suc deep) (xs ++ ys)
  unfolding skipped
  cell_parsed = record {
    whole = record {
      stays = λ z. refl;
      long = omega arith;
      begins = λ ms r z numbers front name. ap begins_term (open_square_is r (cell_text ++ z) front).lexeme;
      is = cell_is;
    };
    stops = λ z. stops_comma (cell_text ++ z);
    rest = cell_rest;
  }

-- ---- a name and its arguments

-- after a name that begins at this place
abbrev after_name : ℕ → ℕ → List ℕ → Parser Input Expression
after_name more begin name = do
  has_arguments ← comes l.OpenRound
  if has_arguments then Node begin (head.Application name) <$> arguments more else pure (Node begin (head.Application name) [])

name_first : (more : ℕ) (r : Remaining) (name rest : List ℕ) (names : List (List ℕ)) → length name ≤ max_name → ahead r ≡ predicate_text name ++ rest → EndsName rest
    → primary more (at r names) ≡ after_name more (left r) name (at (behind rest false) names)
unfolding grammar.primary grammar.application predicate_text left
name_first more r name rest names few front ends = go (is_plain name) (name_is r name rest few front ends)
  where
    go : (t : Bool) → NextIs r (cond t l.Name l.Quoted) (cond t name (quoted name)) rest → primary more (at r names) ≡ after_name more (left r) name (at (behind rest false) names)
    go true is =
        ap (λ (k : Lexeme). primary_by more (arguments more) (bracketed more) (list more) k (at r names)) is.lexeme
        ∙ ap (λ (w : List ℕ). after_name more (left r) w (passed (at r names))) is.spelling
        ∙ ap (after_name more (left r) name) (passes r l.Name name rest names is)
    go false is =
        ap (λ (k : Lexeme). primary_by more (arguments more) (bracketed more) (list more) k (at r names)) is.lexeme
        ∙ ap (λ (w : List ℕ). after_name more (left r) w (passed (at r names))) (ap quoted_name is.spelling ∙ quoted_back name)
        ∙ ap (after_name more (left r) name) (passes r l.Quoted (quoted name) rest names is)

name_begins : (r : Remaining) (name rest : List ℕ) → length name ≤ max_name → ahead r ≡ predicate_text name ++ rest → EndsName rest → begins_term (lexeme r) ≡ true
unfolding predicate_text
name_begins r name rest few front ends = ap begins_term (name_is r name rest few front ends).lexeme ∙ go (is_plain name)
  where
    go : (t : Bool) → begins_term (cond t l.Name l.Quoted) ≡ true
    go true = refl
    go false = refl

name_long : (name : List ℕ) → 0 < length (predicate_text name)
unfolding predicate_text
name_long [] = omega arith
name_long (b ∷ bs) = go (is_plain (b ∷ bs))
  where
    go : (t : Bool) → 0 < length (cond t (b ∷ bs) (quoted (b ∷ bs)))
    go true = omega arith
    go false = omega arith

constant_written : (place : ℕ → ℕ) (name : List ℕ) (deep : ℕ) → length name ≤ max_name → IsWritten place (predicate_text name) (applied name []) deep []
unfolding left same_lexeme
constant_written place name deep few = record {
  stays = name_stays name;
  long = name_long name;
  begins = λ ms r z numbers front ends. name_begins r name z few front ends;
  is = is;
}
  where
    is : (more : ℕ) (ms : List ℕ) (r : Remaining) (z : List ℕ) → deep ≤ more → Placed place ms [] → ahead r ≡ predicate_text name ++ z → Stops ends z
        → expression more (at r (known ms)) ≡ Ok (applied name [] (length z), at (behind z false) (known ms))
    is more ms r z h numbers front stops =
        let no_open : sees l.OpenRound (behind z false) ≡ false = sees_by (behind z false) (lexeme (behind z false)) l.OpenRound refl ∙ (by_ends (lexeme (behind z false)) (stops.next false)).no_open in
        let size : left r ≡ length (predicate_text name ++ []) + length z = ap length front ∙ length-append (predicate_text name) z ∙ ap (λ (y : List ℕ). length y + length z) (sym (append-nil (predicate_text name))) in
        by_primary more (applied name [] (length z)) r z (known ms) (known ms) (name_begins r name z few front stops.name) stops
        (name_first more r name z (known ms) few front stops.name
        ∙ ap (λ (b : Bool). cond b (Node (left r) (head.Application name) <$> arguments more) (pure (Node (left r) (head.Application name) [])) (at (behind z false) (known ms))) no_open
        ∙ ap (λ (k : ℕ). Ok (Node k (head.Application name) [], at (behind z false) (known ms))) size)

-- what stands between the arguments
abbrev between : List Standing → List ℕ
between ss = joined (codes ",") (codes ",") (pieces.texts_of (map piece ss))

wholes_are : (ss : List Standing) → wholes (texts_of ss) ≡ pieces.texts_of (map piece ss)
wholes_are [] = refl
wholes_are (s ∷ ss) = ap (λ (z : List (List ℕ)). s.texts.whole ∷ z) (wholes_are ss)

arguments_are : (s : Standing) (ss : List Standing) (z : List ℕ) → arguments_text (texts_of (s ∷ ss)) ++ z ≡ 40 ∷ (s.texts.whole ++ (between ss ++ 41 ∷ z))
arguments_are s ss z =
    let text = joined (codes ",") (codes ",") (wholes (texts_of ss)) in
    ap (λ (y : List ℕ). 40 ∷ y) (append_assoc (s.texts.whole ++ text) (codes ")") z ∙ append_assoc s.texts.whole text (41 ∷ z))
    ∙ ap (λ (ws : List (List ℕ)). 40 ∷ (s.texts.whole ++ (joined (codes ",") (codes ",") ws ++ 41 ∷ z))) (wholes_are ss)

closes_round : (z : List ℕ) → Closes (41 ∷ z)
unfolding ahead skipped same_lexeme
closes_round z = record { stops = stops_close_round z; no_comma = λ a. ap (λ (k : Lexeme). same_lexeme k l.Comma) (close_round_is (behind (41 ∷ z) a) z refl).lexeme }

arguments_parsed : (place : ℕ → ℕ) (s : Standing) (ss : List Standing) (deep more : ℕ) (ns ms : List ℕ) (z : List ℕ) → AreParsed place (s ∷ ss) deep ns → deep ≤ more → Placed place ms ns
    → arguments (suc more) (at (behind (40 ∷ (s.texts.whole ++ (between ss ++ 41 ∷ z))) false) (known ms)) ≡ Ok (placed (codes ",") (map piece (s ∷ ss)) (1 + length z), at (behind z false) (known (met ms ns)))
unfolding arguments ahead skipped
arguments_parsed place s ss deep more ns ms z are h numbers =
    let inside = s.texts.whole ++ (between ss ++ 41 ∷ z) in
    let r = behind (40 ∷ inside) false in
    let open_is = open_round_is r inside refl in
    let stays = are.2.whole.stays (between ss ++ 41 ∷ z) in
    let all = all_items (expression more) place [] (λ y. refl) (piece s) (map piece ss) ns ms (behind inside false) (41 ∷ z) (are_items place (s ∷ ss) deep more ns are h) numbers (closes_round z) stays in
    let found = placed (codes ",") (map piece (s ∷ ss)) (suc (length z)) in
    let close = close_round_is (behind (41 ∷ z) all.0) z refl in
    ap (λ (i : Input). and_then (separated (expression more) i) (λ found. expect more l.CloseRound >> pure found)) (passes r l.OpenRound (40 ∷ []) inside (known ms) open_is)
    ∙ ap (λ (o : Outcome Input (List Expression)). and_then o (λ found. expect more l.CloseRound >> pure found)) all.1
    ∙ ap (λ (o : Outcome Input (Unit {0})). and_then o (λ u. pure found)) (expects (behind (41 ∷ z) all.0) l.CloseRound (41 ∷ []) z (known (met ms ns)) close more)
    ∙ ap (λ (k : ℕ). Ok (placed (codes ",") (map piece (s ∷ ss)) k, at (behind z false) (known (met ms ns)))) (one_more (length z))

ends_open : (z : List ℕ) → EndsName (40 ∷ z)
ends_open z = record { word = refl; quote = refl }

pub application_written : (place : ℕ → ℕ) (name : List ℕ) (s : Standing) (ss : List Standing) (deep : ℕ) (ns : List ℕ) → length name ≤ max_name → AreParsed place (s ∷ ss) deep ns
    → IsWritten place (printed.applied name (texts_of (s ∷ ss))) (applied name (s ∷ ss)) (suc deep) ns
unfolding left ahead skipped
application_written place name s ss deep ns few are = record {
  stays = λ z. ap skipped (regrouped z) ∙ name_stays name (opened z) ∙ sym (regrouped z);
  long = omega (arith, name_long name, length-append (predicate_text name) (arguments_text (texts_of (s ∷ ss))));
  begins = λ ms r z numbers front ends. name_begins r name (opened z) few (front ∙ regrouped z) (ends_open (s.texts.whole ++ (between ss ++ 41 ∷ z)));
  is = is;
}
  where
    opened : List ℕ → List ℕ
    opened z = 40 ∷ (s.texts.whole ++ (between ss ++ 41 ∷ z))

    regrouped : (z : List ℕ) → printed.applied name (texts_of (s ∷ ss)) ++ z ≡ predicate_text name ++ 40 ∷ (s.texts.whole ++ (between ss ++ 41 ∷ z))
    regrouped z = append_assoc (predicate_text name) (arguments_text (texts_of (s ∷ ss))) z ∙ ap (λ (y : List ℕ). predicate_text name ++ y) (arguments_are s ss z)

    is : (more : ℕ) (ms : List ℕ) (r : Remaining) (z : List ℕ) → suc deep ≤ more → Placed place ms ns → ahead r ≡ printed.applied name (texts_of (s ∷ ss)) ++ z → Stops ends z
        → expression more (at r (known ms)) ≡ Ok (applied name (s ∷ ss) (length z), at (behind z false) (known (met ms ns)))
    is zero ms r z h numbers front stops = absurd (omega arith)
    is (suc more) ms r z h numbers front stops =
        let inside = s.texts.whole ++ (between ss ++ 41 ∷ z) in
        let e = applied name (s ∷ ss) (length z) in
        let parts = placed (codes ",") (map piece (s ∷ ss)) (1 + length z) in
        let first = name_begins r name (40 ∷ inside) few (front ∙ regrouped z) (ends_open inside) in
        let opens = open_round_is (behind (40 ∷ inside) false) inside refl in
        let size : left r ≡ length (printed.applied name (texts_of (s ∷ ss))) + length z = ap length front ∙ length-append (printed.applied name (texts_of (s ∷ ss))) z in
        by_primary (suc more) e r z (known ms) (known (met ms ns)) first stops
        (name_first (suc more) r name (40 ∷ inside) (known ms) few (front ∙ regrouped z) (ends_open inside)
        ∙ ap (λ (b : Bool). cond b (Node (left r) (head.Application name) <$> arguments (suc more)) (pure (Node (left r) (head.Application name) [])) (at (behind (40 ∷ inside) false) (known ms)))
        (sees_itself (behind (40 ∷ inside) false) l.OpenRound opens.lexeme)
        ∙ ap (λ (o : Outcome Input (List Expression)). and_then o (λ found. pure (Node (left r) (head.Application name) found))) (arguments_parsed place s ss deep more ns ms z are (omega arith) numbers)
        ∙ ap (λ (k : ℕ). Ok (Node k (head.Application name) parts, at (behind z false) (known (met ms ns)))) size)

-- ---- terms

simple_parsed : (place : ℕ → ℕ) (name : List ℕ) (ss : List Standing) (deep : ℕ) (ns : List ℕ) → length name ≤ max_name → AreParsed place ss deep ns → IsParsed place (simple name ss) (suc deep) ns
simple_parsed place name [] deep ns few are = rw are (go (is_nil name))
  where
    go : (t : Bool) → IsParsed place (cond t nil (other (cond t (codes "[]") (predicate_text name)) (applied name []))) (suc deep) []
    go true = nil_parsed place deep
    go false = other_parsed place (predicate_text name) (applied name []) (suc deep) [] (constant_written place name (suc deep) few)
simple_parsed place name (s ∷ ss) deep ns few are =
    other_parsed place (printed.applied name (texts_of (s ∷ ss))) (applied name (s ∷ ss)) (suc deep) ns (application_written place name s ss deep ns few are)

application_parsed : (place : ℕ → ℕ) (name : List ℕ) (ss : List Standing) (deep : ℕ) (ns : List ℕ) → length name ≤ max_name → AreParsed place ss deep ns → IsParsed place (application name ss) (suc deep) ns
application_parsed place name [] deep ns few are = simple_parsed place name [] deep ns few are
application_parsed place name (s ∷ []) deep ns few are = simple_parsed place name (s ∷ []) deep ns few are
application_parsed place name (s ∷ t ∷ []) deep ns few are = go (is_dot name)
  where
    both : ns ≡ are.0 ++ are.3.0
    both = are.4 ∙ ap (λ (v : List ℕ). are.0 ++ v) (are.3.4 ∙ ap (λ (v : List ℕ). are.3.0 ++ v) are.3.3 ∙ append-nil are.3.0)

    go : (b : Bool) → IsParsed place (cond b (cell s t) (simple name (s ∷ t ∷ []))) (suc deep) ns
    go true = rw both (cell_parsed place s t deep are.0 are.3.0 are.2 are.3.2)
    go false = simple_parsed place name (s ∷ t ∷ []) deep ns few are
application_parsed place name (s ∷ t ∷ u ∷ ss) deep ns few are = simple_parsed place name (s ∷ t ∷ u ∷ ss) deep ns few are

mutual
  unfolding standing.standing HasShortNames depth variables

  pub term_parsed : (place : ℕ → ℕ) (t : Tree ℕ) (deep : ℕ) → HasShortNames t → depth t ≤ deep → IsParsed place (standing.standing place t) deep (variables t)
  term_parsed place (Var n) deep names h = other_parsed place (variable_text n) (standing.variable place n) deep (n ∷ []) (variable_written place n deep)
  term_parsed place (App' name shape args) zero names h = absurd (omega arith)
  term_parsed place (App' name shape args) (suc deep) names h = application_parsed place name (row_standing place args) deep (variables_in_row args) names.0 (row_parsed place _ args deep names.1 (omega arith))

  row_parsed : (place : ℕ → ℕ) (m : _) (ts : Row_of-Tree ℕ m) (deep : ℕ) → HaveShortNames ts → depths ts ≤ deep → AreParsed place (row_standing place ts) deep (variables_in_row ts)
  row_parsed place m end_of-Tree deep names h = refl
  row_parsed place m (more_of-Tree t ts) deep names h =
      (variables t, variables_in_row ts, term_parsed place t deep names.0 (omega arith), row_parsed place _ ts deep names.1 (omega arith), refl)

-- ---- heads and body atoms

pub atom_written : (place : ℕ → ℕ) (t : Tree ℕ) (deep : ℕ) → HasShortNames t → depth t ≤ deep → IsWritten place (atom place t).text (atom place t).value deep (variables t)
unfolding standing.standing atom HasShortNames depth variables
atom_written place (Var n) deep names h = variable_written place n deep
atom_written place (App' name shape args) zero names h = absurd (omega arith)
atom_written place (App' name shape args) (suc deep) names h = go _ args names.1 (omega arith)
  where
    go : (m : _) (ts : Row_of-Tree ℕ m) → HaveShortNames ts → depths ts ≤ deep → IsWritten place (printed.applied name (texts_of (row_standing place ts))) (applied name (row_standing place ts)) (suc deep) (variables_in_row ts)
    go m end_of-Tree short few = rw (append-nil (predicate_text name)) (constant_written place name (suc deep) names.0)
    go m (more_of-Tree t ts) short few = application_written place name (standing.standing place t) (row_standing place ts) deep (variables_in_row (more_of-Tree t ts)) names.0 (row_parsed place _ (more_of-Tree t ts) deep short few)
