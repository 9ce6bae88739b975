-- Printed lists and predicates are read again.
use Rattle.std.proofs.Common.{◌≡◌, ℕ, zero, suc, ◌≤◌, ◌<◌, Bool, true, false, List, [], ◌∷◌, ◌++◌, length, map, refl, ap, ◌∙◌, arith, append_assoc, length-append, codes, Ok, cond}
use Rattle.std.proofs.lemmas.List.Elements.{All-head, All-tail}
use Rattle.std.specs.Fmt.{decimal}
use Rattle.std.proofs.lemmas.Bool.Decides.{nat_tests}
use Rattle.std.proofs.lemmas.Fmt.{decimal_is_IsNumeral}
use Rattle.std.proofs.lemmas.List.{length-map}
use Rattle.std.specs.Char.{digit_value}
use Rattle.std.specs.Prelude.{All, ◌==◌, if◌then◌else◌}
use Rattle.std.specs.Str.Parse.{AllDigits}
use Rattle.clp_model.specs.declared.predicate.Pred.{Pred}
use Rattle.token_model.specs.declared.token.Lexeme.{Lexeme}
use Rattle.token_model.specs.declared.token.Lexeme.TheVariants as l
use Rattle.token_model.specs.declared.fault.Kind.TheVariants.{Unexpected, BadNumber}
use Rattle.token_model.specs.Names.{max_name}
use Rattle.token_model.specs.Tokens.{token}
use Rattle.token_model.specs.Marks.{mark}
use Rattle.token_model.specs.White.{skipped}
use Rattle.token_model.specs.Remaining.{Remaining, ahead, lexeme, sees, same_lexeme}
use Rattle.token_model.specs.Parsers.{Parser, ◌>>◌, ◌<$>◌, pure}
use Rattle.print_model.specs.Joined.{joined}
use Rattle.print_model.specs.Names as names
use Rattle.print_model.specs.Names.{is_plain, quoted}
use Rattle.printed_tokens.specs.Next.{NextIs, EndsName, EndsNumber}
use Rattle.printed_tokens.proofs.Next.{at_front, sees_by, sees_itself}
use Rattle.printed_tokens.proofs.Names.{name_is, name_stays, quoted_back}
use Rattle.printed_tokens.proofs.Numbers.{number_is, number_stays}
use Rattle.printed_tokens.proofs.Marks.{open_square_is, close_square_is, comma_is}
use Rattle.parsing_laws.specs.Behind.{behind}
use Rattle.case_table.specs.declared.rule_word.RuleWord.TheVariants as rule
use Rattle.case_table.specs.Rules.{rule_word}
use Rattle.map_model.specs.declared.shown.Shown.{Shown}
use Rattle.map_model.specs.declared.shown.Shown.TheVariants.{Find, Given}
use Rattle.map_model.specs.declared.shown.Shows.{Shows}
use Rattle.map_model.specs.declared.shown.Shows.TheVariants as shows
use Rattle.script_grammar.specs.Fields.{max_field, word, number32, name, predicate, listed, listed_from, listed_by}
use Rattle.script_grammar.specs.Certificates as grammar
use Rattle.script_grammar.specs.ScriptText.{word_text, predicate_text, list_text, shown_text, all_shown_text, IsField, IsShown, AreShown, IsPredicate}
use Rattle.script_laws.proofs.Tokens.{Reads, Comes, goes_on, reads_nothing, expected, eaten, left_alone, chosen, not_chosen, word_read, number_read, number_ends_at_comma, number_ends_at_bracket}
use Rattle.script_laws.proofs.Certificates.{NoPart, by_left, shown_read, shown_stays, find_comes, name_is_name, bracket_is_no_name, certificate_begins}

-- ---- elements

-- a comma or the bracket that closes a list
data Between : List ℕ → Type 0 where
  comma : (z : List ℕ) → Between (44 ∷ z)
  bracket : (z : List ℕ) → Between (93 ∷ z)

-- such a value is read of its text within a list
record IsElement {A : Type 0} (item : Parser Remaining A) (text_of : A → List ℕ) (x : A) : Type 0 where
  is : (rest : List ℕ) → Between rest → Reads item (text_of x ++ rest) x rest
  opens : (rest : List ℕ) → Between rest → (after_number : Bool) → same_lexeme (lexeme (behind (text_of x ++ rest) after_number)) l.CloseSquare ≡ false
  stays : (rest : List ℕ) → skipped (text_of x ++ rest) ≡ text_of x ++ rest

-- the elements after the first
abbrev further : List (List ℕ) → List ℕ
further texts = joined (codes ",") (codes ",") texts

further_between : (texts : List (List ℕ)) (rest : List ℕ) → Between (further texts ++ 93 ∷ rest)
further_between [] rest = bracket rest
further_between (x ∷ xs) rest = comma ((x ++ further xs) ++ 93 ∷ rest)

further_long : (texts : List (List ℕ)) → length texts ≤ length (further texts)
further_long [] = omega arith
further_long (x ∷ xs) = omega (arith, further_long xs, length-append x (further xs))

further_of : (x : List ℕ) (xs : List (List ℕ)) (rest : List ℕ) → further (x ∷ xs) ++ 93 ∷ rest ≡ 44 ∷ (x ++ (further xs ++ 93 ∷ rest))
further_of x xs rest = ap (λ (z : List ℕ). 44 ∷ z) (append_assoc x (further xs) (93 ∷ rest))

module _ {A : Type 0} (item : Parser Remaining A) (text_of : A → List ℕ) where
  abbrev AreElements : List A → Type 0
  AreElements [] = Unit {0}
  AreElements (x ∷ xs) = IsElement item text_of x × AreElements xs

  -- where a comma follows, or none
  further_by : ℕ → List A → Bool → Parser Remaining (List A)
  further_by n found goes_on = if goes_on then listed_from item n found else pure found

  elements_read : (x : A) (xs found : List A) (turns : ℕ) (rest : List ℕ) → IsElement item text_of x → AreElements xs → length xs < turns
      → Reads (listed_from item turns found) (text_of x ++ (further (map text_of xs) ++ 93 ∷ rest)) (found ++ x ∷ xs) (93 ∷ rest)
  unfolding listed_from same_lexeme ahead skipped further_by
  elements_read x xs found zero rest own all few = absurd (omega arith)
  elements_read x [] found (suc n) rest own all few =
      let other : (a : Bool) → same_lexeme (lexeme (behind (93 ∷ rest) a)) l.Comma ≡ false =
      λ a. ap (λ (k : Lexeme). same_lexeme k l.Comma) (close_square_is (behind (93 ∷ rest) a) rest refl).lexeme in
      goes_on _ (own.is (93 ∷ rest) (bracket rest))
      (goes_on (further_by n (found ++ x ∷ [])) (left_alone l.Comma (93 ∷ rest) other) (reads_nothing (found ++ x ∷ []) (93 ∷ rest)))
  elements_read x (y ∷ ys) found (suc n) rest own all few =
      let others = text_of y ++ (further (map text_of ys) ++ 93 ∷ rest) in
      let again : Reads (listed_from item n (found ++ x ∷ [])) others (found ++ x ∷ y ∷ ys) (93 ∷ rest) =
      rw (append_assoc found (x ∷ []) (y ∷ ys)) at (elements_read y ys (found ++ x ∷ []) n rest all.0 all.1 (omega arith)) in
      let all_read : Reads (listed_from item (suc n) found) (text_of x ++ 44 ∷ others) (found ++ x ∷ y ∷ ys) (93 ∷ rest) =
      goes_on _ (own.is (44 ∷ others) (comma others))
      (goes_on (further_by n (found ++ x ∷ [])) (eaten l.Comma (44 ∷ []) (44 ∷ others) others (λ a. comma_is (behind (44 ∷ others) a) others refl)) again) in
      rw (further_of (text_of y) (map text_of ys) rest) all_read

  enough_turns : (x : A) (xs : List A) (rest : List ℕ) → IsElement item text_of x → length (map text_of xs) < length (skipped (text_of x ++ (further (map text_of xs) ++ 93 ∷ rest)))
  enough_turns x xs rest own =
      rw (own.stays (further (map text_of xs) ++ 93 ∷ rest))
      (omega (arith, further_long (map text_of xs), length-append (text_of x) (further (map text_of xs) ++ 93 ∷ rest), length-append (further (map text_of xs)) (93 ∷ rest)))

  list_text_is : (x : A) (xs : List A) (rest : List ℕ) → list_text (map text_of (x ∷ xs)) ++ rest ≡ 91 ∷ (text_of x ++ (further (map text_of xs) ++ 93 ∷ rest))
  list_text_is x xs rest =
      ap (λ (z : List ℕ). 91 ∷ z) (append_assoc (text_of x) (further (map text_of xs) ++ codes "]") rest ∙ ap (λ (z : List ℕ). text_of x ++ z) (append_assoc (further (map text_of xs)) (codes "]") rest))

  list_read : (xs : List A) (text rest : List ℕ) → AreElements xs → skipped text ≡ list_text (map text_of xs) ++ rest → Reads (listed item) text xs rest
  unfolding listed listed_by ahead skipped
  list_read [] text rest all front =
      goes_on _ (expected l.OpenSquare (91 ∷ []) text (93 ∷ rest) (λ a. open_square_is (behind text a) (93 ∷ rest) front))
      (goes_on (listed_by item) (eaten l.CloseSquare (93 ∷ []) (93 ∷ rest) rest (λ a. close_square_is (behind (93 ∷ rest) a) rest refl)) (reads_nothing [] rest))
  list_read (x ∷ xs) text rest all front =
      let inside = text_of x ++ (further (map text_of xs) ++ 93 ∷ rest) in
      let long : length xs < length (skipped (text_of x ++ (further (map text_of xs) ++ 93 ∷ rest))) = (let e = length-map xs text_of in let t = enough_turns x xs rest all.0 in omega arith) in
      goes_on _ (expected l.OpenSquare (91 ∷ []) text inside (λ a. open_square_is (behind text a) inside (front ∙ list_text_is x xs rest)))
      (goes_on (listed_by item) (left_alone l.CloseSquare inside (all.0.opens (further (map text_of xs) ++ 93 ∷ rest) (further_between (map text_of xs) rest)))
      (goes_on _ (by_left (λ n. listed_from item n []) inside (x ∷ xs) (93 ∷ rest) (elements_read x xs [] (length (skipped inside)) rest all.0 all.1 long))
      (goes_on _ (expected l.CloseSquare (93 ∷ []) (93 ∷ rest) rest (λ a. close_square_is (behind (93 ∷ rest) a) rest refl)) (reads_nothing (x ∷ xs) rest))))

-- ---- numbers

number_ends : (rest : List ℕ) → Between rest → EndsNumber rest
number_ends _ (comma z) = number_ends_at_comma z
number_ends _ (bracket z) = number_ends_at_bracket z

number_is_no_bracket : (k : Lexeme) → k ≡ l.Number → same_lexeme k l.CloseSquare ≡ false
unfolding same_lexeme
number_is_no_bracket k e = ap (λ (found : Lexeme). same_lexeme found l.CloseSquare) e

number_element : (n : ℕ) → IsField n → IsElement number32 decimal n
unfolding ahead
number_element n small = record {
  is = λ rest between. number_read 0 max_field BadNumber n (decimal n ++ rest) rest (omega arith) (omega arith) (omega arith) (number_stays n rest (omega arith)) (number_ends rest between);
  opens = λ rest between a. number_is_no_bracket _ (number_is (behind (decimal n ++ rest) a) n rest (omega arith) (number_stays n rest (omega arith)) (number_ends rest between)).lexeme;
  stays = λ rest. number_stays n rest (omega arith);
}

number_elements : (ns : List ℕ) → All IsField ns → AreElements number32 decimal ns
number_elements [] h = tt
number_elements (n ∷ ns) h = (number_element n (All-head IsField n ns h), number_elements ns (All-tail IsField n ns h))

list_stays : (xs : List (List ℕ)) (z : List ℕ) → skipped (32 ∷ (list_text xs ++ z)) ≡ list_text xs ++ z
unfolding skipped
list_stays [] z = refl
list_stays (x ∷ xs) z = refl

-- numbers in brackets, behind a space
pub fields_read : (ns : List ℕ) (rest : List ℕ) → All IsField ns → Reads (listed number32) (32 ∷ (list_text (map decimal ns) ++ rest)) ns rest
fields_read ns rest h = list_read number32 decimal ns (32 ∷ (list_text (map decimal ns) ++ rest)) rest (number_elements ns h) (list_stays (map decimal ns) rest)

-- ---- what shows several rows

name_ends : (rest : List ℕ) → Between rest → EndsName rest
name_ends _ (comma z) = record { word = refl; quote = refl }
name_ends _ (bracket z) = record { word = refl; quote = refl }

no_part : (rest : List ℕ) → Between rest → NoPart rest
unfolding same_lexeme ahead skipped
no_part _ (comma z) a = ap (λ (k : Lexeme). same_lexeme k l.Over) (comma_is (behind (44 ∷ z) a) z refl).lexeme
no_part _ (bracket z) a = ap (λ (k : Lexeme). same_lexeme k l.Over) (close_square_is (behind (93 ∷ z) a) z refl).lexeme

no_close : (show : Shown) (rest : List ℕ) → Between rest → (a : Bool) → same_lexeme (lexeme (behind (shown_text show ++ rest) a)) l.CloseSquare ≡ false
unfolding same_lexeme
no_close Find rest between a = ap (λ (k : Lexeme). same_lexeme k l.CloseSquare) (find_comes (shown_text Find ++ rest) rest (name_ends rest between) (shown_stays Find rest) a).lexeme
no_close (Given c) rest between a = ap (λ (k : Lexeme). same_lexeme k l.CloseSquare) (certificate_begins c (shown_text (Given c) ++ rest) rest (shown_stays (Given c) rest) a)

shown_element : (show : Shown) → IsShown show → IsElement grammar.shown shown_text show
shown_element show h = record {
  is = λ rest between. shown_read show (shown_text show ++ rest) rest h (name_ends rest between) (no_part rest between) (shown_stays show rest);
  opens = no_close show;
  stays = shown_stays show;
}

shown_elements : (list : List Shown) → All IsShown list → AreElements grammar.shown shown_text list
shown_elements [] h = tt
shown_elements (x ∷ xs) h = (shown_element x (All-head IsShown x xs h), shown_elements xs (All-tail IsShown x xs h))

-- what stands behind `show` and a space
abbrev pub all_text : Shows → List ℕ
all_text shows.Find = rule_word rule.Find
all_text (shows.Each list) = list_text (map shown_text list)

pub all_shown_text_is : (show : Shows) (rest : List ℕ) → all_shown_text show ++ rest ≡ word_text rule.Show ++ 32 ∷ (all_text show ++ rest)
all_shown_text_is shows.Find rest = refl
all_shown_text_is (shows.Each list) rest = refl

list_begins : (xs : List (List ℕ)) (text rest : List ℕ) → skipped text ≡ list_text xs ++ rest → (a : Bool) → lexeme (behind text a) ≡ l.OpenSquare
unfolding ahead
list_begins [] text rest front a = (open_square_is (behind text a) _ front).lexeme
list_begins (x ∷ xs) text rest front a = (open_square_is (behind text a) _ front).lexeme

pub all_shown_read : (show : Shows) (rest : List ℕ) → AreShown show → EndsName rest → Reads grammar.all_shown (32 ∷ (all_text show ++ rest)) show rest
unfolding grammar.all_shown skipped
all_shown_read shows.Find rest h ends =
    let text = 32 ∷ (all_text shows.Find ++ rest) in
    chosen l.Name (word rule.Find >> pure shows.Find) (shows.Each <$> listed grammar.shown) text shows.Find rest (λ a. name_is_name _ (find_comes text rest ends refl a).lexeme)
    (goes_on _ (word_read Unexpected (rule_word rule.Find) text rest refl (omega arith) refl ends) (reads_nothing shows.Find rest))
all_shown_read (shows.Each list) rest h ends =
    let text = 32 ∷ (list_text (map shown_text list) ++ rest) in
    let front = list_stays (map shown_text list) rest in
    not_chosen l.Name (word rule.Find >> pure shows.Find) (shows.Each <$> listed grammar.shown) text (shows.Each list) rest (λ a. bracket_is_no_name _ (list_begins (map shown_text list) text rest front a))
    (goes_on _ (list_read grammar.shown shown_text list text rest (shown_elements list h) front) (reads_nothing (shows.Each list) rest))

-- ---- predicates

name_read : (of : List ℕ) (text rest : List ℕ) → length of ≤ max_name → EndsName rest → skipped text ≡ names.predicate_text of ++ rest → Reads name text of rest
unfolding name names.predicate_text ahead same_lexeme
name_read of text rest short ends front = record { is = λ n. (false, go (is_plain of) n (name_is (behind text n) of rest short front ends)) }
  where
    go : (t : Bool) (n : Bool) → NextIs (behind text n) (cond t l.Name l.Quoted) (cond t of (quoted of)) rest → name (behind text n) ≡ Ok (of, behind rest false)
    go true n comes =
        let r = behind text n in
        rw (sees_itself r l.Name comes.lexeme, comes.lexeme, comes.spelling, comes.next) refl
    go false n comes =
        let r = behind text n in
        let other : sees l.Name r ≡ false = sees_by r l.Quoted l.Name comes.lexeme in
        rw (other, sees_itself r l.Quoted comes.lexeme, comes.lexeme, comes.spelling, comes.next) (ap (λ (z : List ℕ). Ok (z, behind rest false)) (quoted_back of))

digit_is_no_star : (b : ℕ) → digit_value b < 10 → (b == 42) ≡ false
digit_is_no_star b h = grind (arith, nat_tests)

-- a `/` before digits is a mark, and begins no comment
slash_comes : (ds rest : List ℕ) → 0 < length ds → AllDigits 10 ds → Comes (47 ∷ (ds ++ rest)) l.Over (47 ∷ []) (ds ++ rest)
unfolding ahead skipped token mark
slash_comes [] rest some all a = absurd (omega arith)
slash_comes (d ∷ ds) rest some all a =
    let no_star : (d == 42) ≡ false = digit_is_no_star d all.0 in
    let other : (42 == d) ≡ false = grind (arith, nat_tests) in
    at_front (behind (47 ∷ d ∷ (ds ++ rest)) a) (47 ∷ []) (d ∷ (ds ++ rest)) l.Over (rw no_star refl) (λ b. rw other refl)

-- a name, `/` and the number of arguments, behind a space
pub predicate_read : (p : Pred) (rest : List ℕ) → IsPredicate p → EndsNumber rest → Reads predicate (32 ∷ (predicate_text p ++ rest)) p rest
unfolding predicate skipped
predicate_read p rest h ends =
    let digits = decimal p.arity ++ rest in
    let arity = h.arity in
    let d = decimal_is_IsNumeral p.arity (omega arith) in
    let slash : EndsName (47 ∷ digits) = record { word = refl; quote = refl } in
    let front : skipped (32 ∷ (predicate_text p ++ rest)) ≡ names.predicate_text p.name ++ 47 ∷ digits =
    ap skipped (append_assoc (names.predicate_text p.name) (codes "/" ++ decimal p.arity) rest) ∙ name_stays p.name (47 ∷ digits) in
    goes_on _ (name_read p.name (32 ∷ (predicate_text p ++ rest)) (47 ∷ digits) h.short slash front)
    (goes_on _ (expected l.Over (47 ∷ []) (47 ∷ digits) digits (slash_comes (decimal p.arity) rest d.0.0 d.0.1))
    (goes_on _ (number_read 0 max_field BadNumber p.arity digits rest (omega arith) (omega arith) (omega arith) (number_stays p.arity rest (omega arith)) ends) (reads_nothing p rest)))
