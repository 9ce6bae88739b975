-- Printed texts are in UTF-8.
use Rattle.std.proofs.Common.{◌≡◌, ℕ, ◌+◌, ◌<◌, ◌^◌, List, [], ◌∷◌, ◌++◌, length, map, get_or, Bool, true, false, arith, refl, sym, subst, append_assoc, length-append, codes, IsUtf8, ℤ}
use Rattle.std.specs.Prelude.{◌==◌, ◌&&◌, if◌then◌else◌, nat_le, nat_lt, unsigned_abs, All}
use Rattle.std.specs.Int.{is_negative}
use Rattle.std.specs.Str.{is_utf8}
use Rattle.std.specs.Fmt.{decimal}
use Rattle.std.proofs.Math.Seq.{get_or-append_seam, take-append_seam, drop-append-add}
use Rattle.std.proofs.lemmas.Bool.{and_parts}
use Rattle.std.proofs.lemmas.Bool.Decides.{nat_tests}
use Rattle.std.proofs.lemmas.Fmt.{IsAscii-decimal}
use Rattle.std.proofs.lemmas.List.Elements.{All-nil, All-cons, All-head, All-tail}
use Rattle.std.proofs.lemmas.Str.{IsUtf8-nil, IsUtf8-append, IsUtf8-from_ascii, IsUtf8-from_is_utf8, IsUtf8-take, IsUtf8-drop, IsCharBoundary-before_ascii, IsCharBoundary-after_ascii}
use Rattle.std.proofs.lemmas.Str.Ascii.{IsAscii-from_all}
use Rattle.clp_model.specs.declared.sort.Rel.{Rel}
use Rattle.clp_model.specs.declared.sort.Rel.TheVariants.{Eq, Le, Lt}
use Rattle.clp_model.specs.declared.tree.Tree.{Tree, Var, App', Row_of-Tree, end_of-Tree, more_of-Tree}
use Rattle.clp_model.specs.Trees.{variables, variables_in, variables_in_row}
use Rattle.clp_model.specs.Clauses.{Clause, Row}
use Rattle.clp_model.proofs.Membership.{Among, first, next, among_front, among_back, distinct_has}
use Rattle.linear_model.specs.Normal.{limit, pairs_within, is_within}
use Rattle.unify_laws.proofs.Solved.{among_cases}
use Rattle.clause_model.specs.Variables.{row_variables, rows_variables, loose_nums}
use Rattle.clause_laws.proofs.Rows.{all_each, among_rows}
use Rattle.name_laws.specs.Names.{HasNames, RowHasNames, IsAtomOver}
use Rattle.print_model.specs.Names.{is_plain, all_escaped, quoted, predicate_text, is_nil, is_dot}
use Rattle.print_model.specs.Joined.{joined}
use Rattle.print_model.specs.Terms as printed
use Rattle.print_model.specs.Terms.{Texts, wholes, variable_text, texts, row_texts, atom_text, arguments_text}
use Rattle.print_model.specs.Rows.{product_text, joint, first_term, later_term, later_terms, later_constant, sum_text, relation_text, row_text}
use Rattle.print_model.specs.Clauses.{num_text, constraints, braces, goals, end_text, clause_text, program_text}
use Rattle.parsing_laws.proofs.Factors.{sign_text}
use Rattle.parsing_laws.proofs.Sums.{signed_decimal_is}
use Rattle.standing_model.specs.Names.{is_ordinary}
use Rattle.text_laws.specs.Laws.{IsPrintable, PrintedProgramsAreTexts}
use Rattle.text_laws.proofs.Printable.{IsWritable, writable}

-- ---- ASCII

abbrev pub are_low : List ℕ → Bool
are_low [] = true
are_low (b ∷ bs) = nat_lt b 128 && are_low bs

low_byte : (b : ℕ) → nat_lt b 128 ≡ true → b < 128
low_byte b h = grind (arith, nat_tests)

all_low : (bs : List ℕ) → are_low bs ≡ true → All (λ b. b < 128) bs
all_low [] h = All-nil (λ b. b < 128)
all_low (b ∷ bs) h = let both = and_parts (nat_lt b 128) (are_low bs) h in All-cons (λ b. b < 128) b bs (low_byte b both.0) (all_low bs both.1)

pub ascii : (bs : List ℕ) → are_low bs ≡ true → IsUtf8 bs
ascii bs h = IsUtf8-from_ascii bs (IsAscii-from_all bs (all_low bs h))

pub number : (n : ℕ) → n < 2 ^ 64 → IsUtf8 (decimal n)
number n h = IsUtf8-from_ascii (decimal n) (IsAscii-decimal n h)

variable : (n : ℕ) → n < 2 ^ 64 → IsUtf8 (variable_text n)
variable n h = IsUtf8-append (codes "V") (decimal n) (ascii (codes "V") refl) (number n h)

-- ---- names

-- a text goes on after a byte that is ASCII, and is one before it
cut : (front : List ℕ) (b : ℕ) (z : List ℕ) → b < 128 → IsUtf8 (front ++ b ∷ z) → IsUtf8 front × IsUtf8 z
cut front b z low u =
    let w = front ++ b ∷ z in
    let at = get_or-append_seam front b z 0 in
    let within : length front < length w = omega (arith, length-append front (b ∷ z)) in
    let there : get_or w (length front) 0 < 128 = subst (λ x. x < 128) (sym at) low in
    let before = IsUtf8-take w (length front) u (IsCharBoundary-before_ascii w (length front) within there) in
    let behind = IsUtf8-drop w (length front + 1) u (IsCharBoundary-after_ascii w (length front) u within there) in
    (subst IsUtf8 (take-append_seam front (b ∷ z)) before, subst IsUtf8 (drop-append-add front (b ∷ z) 1) behind)

-- with the bytes of what follows escaped
escaped_text : (z front : List ℕ) → IsUtf8 (front ++ z) → IsUtf8 (front ++ all_escaped z)
escaped_text [] front u = u
escaped_text (b ∷ z) front u = by (b == 92) refl (b == 39) refl (b == 10) refl (b == 9) refl (escaped_text z)
  where
    is : (k : ℕ) → (b == k) ≡ true → k < 128 → b < 128
    is k e h = grind (arith, nat_tests)

    instead : (two : List ℕ) → are_low two ≡ true → b < 128 → ((w : List ℕ) → IsUtf8 (w ++ z) → IsUtf8 (w ++ all_escaped z)) → IsUtf8 (front ++ (two ++ all_escaped z))
    instead two low small rest =
        let parts = cut front b z small u in
        IsUtf8-append front (two ++ all_escaped z) parts.0 (IsUtf8-append two (all_escaped z) (ascii two low) (rest [] parts.1))

    by : (p : Bool) → (b == 92) ≡ p → (q : Bool) → (b == 39) ≡ q → (r : Bool) → (b == 10) ≡ r → (s : Bool) → (b == 9) ≡ s → ((w : List ℕ) → IsUtf8 (w ++ z) → IsUtf8 (w ++ all_escaped z))
        → IsUtf8 (front ++ ((if p then codes "\\\\" else (if q then codes "\\'" else (if r then codes "\\n" else (if s then codes "\\t" else b ∷ [])))) ++ all_escaped z))
    by true e q f r g s h rest = instead (codes "\\\\") refl (is 92 e (omega arith)) rest
    by false e true f r g s h rest = instead (codes "\\'") refl (is 39 f (omega arith)) rest
    by false e false f true g s h rest = instead (codes "\\n") refl (is 10 g (omega arith)) rest
    by false e false f false g true h rest = instead (codes "\\t") refl (is 9 h (omega arith)) rest
    by false e false f false g false h rest =
        subst IsUtf8 (append_assoc front (b ∷ []) (all_escaped z)) (rest (front ++ b ∷ []) (subst IsUtf8 (sym (append_assoc front (b ∷ []) z)) u))

pub predicate : (name : List ℕ) → is_utf8 name ≡ true → IsUtf8 (predicate_text name)
unfolding predicate_text
predicate name h = by (is_plain name)
  where
    by : (b : Bool) → IsUtf8 (if b then name else quoted name)
    by true = IsUtf8-from_is_utf8 name h
    by false =
        IsUtf8-append (codes "'") (all_escaped name ++ codes "'") (ascii (codes "'") refl)
        (IsUtf8-append (all_escaped name) (codes "'") (escaped_text name [] (IsUtf8-from_is_utf8 name h)) (ascii (codes "'") refl))

-- ---- texts one after another

abbrev pub AllTexts : List (List ℕ) → Type 0
AllTexts [] = Unit {0}
AllTexts (x ∷ xs) = IsUtf8 x × AllTexts xs

pub join : (begin mark : List ℕ) (xs : List (List ℕ)) → IsUtf8 begin → IsUtf8 mark → AllTexts xs → IsUtf8 (joined begin mark xs)
join begin mark [] f m h = IsUtf8-nil
join begin mark (x ∷ xs) f m h = IsUtf8-append begin (x ++ joined mark mark xs) f (IsUtf8-append x (joined mark mark xs) h.0 (join mark mark xs m m h.1))

both_texts : (xs ys : List (List ℕ)) → AllTexts xs → AllTexts ys → AllTexts (xs ++ ys)
both_texts [] ys h k = k
both_texts (x ∷ xs) ys h k = (h.0, both_texts xs ys h.1 k)

each_text : {A : Type 0} (f : A → List ℕ) (xs : List A) → ((x : A) → Among x xs → IsUtf8 (f x)) → AllTexts (map f xs)
each_text f [] h = tt
each_text f (x ∷ xs) h = (h x first, each_text f xs (λ y a. h y (next a)))

-- ---- terms

abbrev AreTexts : Texts → Type 0
AreTexts x = IsUtf8 x.whole × IsUtf8 x.rest

abbrev AllAreTexts : List Texts → Type 0
AllAreTexts [] = Unit {0}
AllAreTexts (x ∷ xs) = AreTexts x × AllAreTexts xs

wholes_are : (xs : List Texts) → AllAreTexts xs → AllTexts (wholes xs)
wholes_are [] h = tt
wholes_are (x ∷ xs) h = (h.0.0, wholes_are xs h.1)

other_texts : (text : List ℕ) → IsUtf8 text → AreTexts (printed.other text)
other_texts text h = (h, IsUtf8-append (codes "|") (text ++ codes "]") (ascii (codes "|") refl) (IsUtf8-append text (codes "]") h (ascii (codes "]") refl)))

nil_texts : AreTexts printed.nil
nil_texts = (ascii (codes "[]") refl, ascii (codes "]") refl)

cell_texts : (x y : Texts) → AreTexts x → AreTexts y → AreTexts (printed.cell x y)
cell_texts x y h k =
    let inside = IsUtf8-append x.whole y.rest h.0 k.1 in
    (IsUtf8-append (codes "[") (x.whole ++ y.rest) (ascii (codes "[") refl) inside, IsUtf8-append (codes ",") (x.whole ++ y.rest) (ascii (codes ",") refl) inside)

arguments_texts : (xs : List Texts) → AllAreTexts xs → IsUtf8 (arguments_text xs)
arguments_texts [] h = IsUtf8-nil
arguments_texts (x ∷ xs) h =
    IsUtf8-append (joined (codes "(") (codes ",") (wholes (x ∷ xs))) (codes ")")
    (join (codes "(") (codes ",") (wholes (x ∷ xs)) (ascii (codes "(") refl) (ascii (codes ",") refl) (wholes_are (x ∷ xs) h)) (ascii (codes ")") refl)

applied_text : (name : List ℕ) (xs : List Texts) → is_utf8 name ≡ true → AllAreTexts xs → IsUtf8 (printed.applied name xs)
applied_text name xs h k = IsUtf8-append (predicate_text name) (arguments_text xs) (predicate name h) (arguments_texts xs k)

simple_texts : (name : List ℕ) (xs : List Texts) → is_utf8 name ≡ true → AllAreTexts xs → AreTexts (printed.simple name xs)
simple_texts name [] h k = by (is_nil name)
  where
    by : (b : Bool) → AreTexts (if b then printed.nil else printed.other (if b then codes "[]" else predicate_text name))
    by true = nil_texts
    by false = other_texts (predicate_text name) (predicate name h)
simple_texts name (x ∷ xs) h k = other_texts (printed.applied name (x ∷ xs)) (applied_text name (x ∷ xs) h k)

application_texts : (name : List ℕ) (xs : List Texts) → is_utf8 name ≡ true → AllAreTexts xs → AreTexts (printed.application name xs)
application_texts name [] h k = simple_texts name [] h k
application_texts name (x ∷ []) h k = simple_texts name (x ∷ []) h k
application_texts name (x ∷ y ∷ []) h k = by (is_dot name)
  where
    by : (b : Bool) → AreTexts (if b then printed.cell x y else printed.simple name (x ∷ y ∷ []))
    by true = cell_texts x y k.0 k.1.0
    by false = simple_texts name (x ∷ y ∷ []) h k
application_texts name (x ∷ y ∷ z ∷ xs) h k = simple_texts name (x ∷ y ∷ z ∷ xs) h k

-- variables are numbers of 64 bits
abbrev pub AreSmall : List ℕ → Type 0
AreSmall ns = (n : ℕ) → Among n ns → n < 2 ^ 64

mutual
  unfolding texts HasNames variables

  term_texts : (t : Tree ℕ) → HasNames is_utf8 t → AreSmall (variables t) → AreTexts (texts t)
  term_texts (Var n) h small = other_texts (variable_text n) (variable n (small n first))
  term_texts (App' name shape args) h small = application_texts name (row_texts args) h.0 (terms_texts _ args h.1 small)

  terms_texts : (m : _) (ts : Row_of-Tree ℕ m) → RowHasNames is_utf8 ts → AreSmall (variables_in_row ts) → AllAreTexts (row_texts ts)
  terms_texts m end_of-Tree h small = tt
  terms_texts m (more_of-Tree t ts) h small = (
    term_texts t h.0 (λ n a. small n (among_front n (variables t) (variables_in_row ts) a)),
    terms_texts _ ts h.1 (λ n a. small n (among_back n (variables t) (variables_in_row ts) a)),
  )

atom_is_text : (t : Tree ℕ) → HasNames is_utf8 t → AreSmall (variables t) → IsUtf8 (atom_text t)
unfolding atom_text texts HasNames variables
atom_is_text (Var n) h small = variable n (small n first)
atom_is_text (App' name shape args) h small = applied_text name (row_texts args) h.0 (terms_texts _ args h.1 small)

-- ---- rows

abbrev IsInRange : ℤ → Type 0
IsInRange z = nat_le (unsigned_abs z) limit ≡ true

small_number : (n : ℕ) → nat_le n limit ≡ true → n < 2 ^ 64
small_number n h = grind (arith, nat_tests)

product_is_text : (magnitude n : ℕ) → magnitude < 2 ^ 64 → n < 2 ^ 64 → IsUtf8 (product_text magnitude n)
product_is_text magnitude n h k = by (magnitude == 1)
  where
    by : (b : Bool) → IsUtf8 (if b then variable_text n else decimal magnitude ++ (codes "*" ++ variable_text n))
    by true = variable n k
    by false = IsUtf8-append (decimal magnitude) (codes "*" ++ variable_text n) (number magnitude h) (IsUtf8-append (codes "*") (variable_text n) (ascii (codes "*") refl) (variable n k))

joint_is_text : (z : ℤ) → IsUtf8 (joint z)
joint_is_text z = by (is_negative z)
  where
    by : (b : Bool) → IsUtf8 (if b then codes " - " else codes " + ")
    by true = ascii (codes " - ") refl
    by false = ascii (codes " + ") refl

pub sign_is_text : (b : Bool) → IsUtf8 (if b then codes "-" else [])
sign_is_text true = ascii (codes "-") refl
sign_is_text false = IsUtf8-nil

constant_is_text : (z : ℤ) → IsInRange z → IsUtf8 (later_constant z)
constant_is_text z h = by (unsigned_abs z == 0)
  where
    by : (b : Bool) → IsUtf8 (if b then [] else joint z ++ decimal (unsigned_abs z))
    by true = IsUtf8-nil
    by false = IsUtf8-append (joint z) (decimal (unsigned_abs z)) (joint_is_text z) (number (unsigned_abs z) (small_number (unsigned_abs z) h))

terms_are_text : (ps : List (ℕ × ℤ)) → pairs_within ps ≡ true → AreSmall (map (λ p. p.0) ps) → IsUtf8 (later_terms ps)
terms_are_text [] h small = IsUtf8-nil
terms_are_text (p ∷ ps) h small =
    let both = and_parts (nat_le (unsigned_abs p.1) limit) (pairs_within ps) h in
    IsUtf8-append (later_term p) (later_terms ps)
    (IsUtf8-append (joint p.1) (product_text (unsigned_abs p.1) p.0) (joint_is_text p.1) (product_is_text (unsigned_abs p.1) p.0 (small_number (unsigned_abs p.1) both.0) (small p.0 first)))
    (terms_are_text ps both.1 (λ n a. small n (next a)))

sum_is_text : (ps : List (ℕ × ℤ)) (z : ℤ) → pairs_within ps ≡ true → IsInRange z → AreSmall (map (λ p. p.0) ps) → IsUtf8 (sum_text ps z)
sum_is_text [] z h k small =
    subst IsUtf8 (sym (signed_decimal_is z)) (IsUtf8-append (sign_text (is_negative z)) (decimal (unsigned_abs z)) (sign_is_text (is_negative z)) (number (unsigned_abs z) (small_number (unsigned_abs z) k)))
sum_is_text (p ∷ ps) z h k small =
    let both = and_parts (nat_le (unsigned_abs p.1) limit) (pairs_within ps) h in
    IsUtf8-append (first_term p) (later_terms ps ++ later_constant z)
    (IsUtf8-append (if is_negative p.1 then codes "-" else []) (product_text (unsigned_abs p.1) p.0) (sign_is_text (is_negative p.1)) (product_is_text (unsigned_abs p.1) p.0 (small_number (unsigned_abs p.1) both.0) (small p.0 first)))
    (IsUtf8-append (later_terms ps) (later_constant z) (terms_are_text ps both.1 (λ n a. small n (next a))) (constant_is_text z k))

relation_is_text : (rel : Rel) → IsUtf8 (relation_text rel)
relation_is_text Eq = ascii (codes " = 0") refl
relation_is_text Le = ascii (codes " =< 0") refl
relation_is_text Lt = ascii (codes " < 0") refl

pub row_is_text : (r : Row) → is_within r ≡ true → AreSmall (row_variables r) → IsUtf8 (row_text r)
unfolding row_text
row_is_text r h small =
    let both = and_parts (pairs_within r.pairs) (nat_le (unsigned_abs r.constant) limit) h in
    IsUtf8-append (sum_text r.pairs r.constant) (relation_text r.rel) (sum_is_text r.pairs r.constant both.0 both.1 small) (relation_is_text r.rel)

num_is_text : (n : ℕ) → n < 2 ^ 64 → IsUtf8 (num_text n)
num_is_text n h = IsUtf8-append (codes "num(") (variable_text n ++ codes ")") (ascii (codes "num(") refl) (IsUtf8-append (variable_text n) (codes ")") (variable n h) (ascii (codes ")") refl))

-- ---- clauses

among_tree : (t : Tree ℕ) (ts : List (Tree ℕ)) (n : ℕ) → Among t ts → Among n (variables t) → Among n (variables_in ts)
among_tree t [] n a b = elim a [ ]
among_tree t (u ∷ us) n a b = among_cases a
    (λ e. among_front n (variables u) (variables_in us) (subst (λ x. Among n (variables x)) e b))
    (λ k. among_back n (variables u) (variables_in us) (among_tree t us n k b))

braces_texts : (xs : List (List ℕ)) → AllTexts xs → AllTexts (braces xs)
braces_texts [] h = tt
braces_texts (x ∷ xs) h = (
  IsUtf8-append (joined (codes "{") (codes ", ") (x ∷ xs)) (codes "}") (join (codes "{") (codes ", ") (x ∷ xs) (ascii (codes "{") refl) (ascii (codes ", ") refl) h) (ascii (codes "}") refl),
  tt,
)

module _ (c : Clause) (h : IsWritable c) where
  abbrev heads : List ℕ
  heads = variables_in (c.head ∷ [])

  abbrev rows : List ℕ
  rows = rows_variables c.rows

  small : (n : ℕ) → Among n (heads ++ rows ++ loose_nums c ++ variables_in c.body) → n < 2 ^ 64
  small n a = h.small n (distinct_has [] (heads ++ rows ++ loose_nums c ++ variables_in c.body) n a)

  -- before the atoms
  small_front : (n : ℕ) → Among n (heads ++ rows ++ loose_nums c) → n < 2 ^ 64
  small_front n a = small n (among_front n (heads ++ rows ++ loose_nums c) (variables_in c.body) a)

  head_is_text : IsUtf8 (atom_text c.head)
  head_is_text = atom_is_text c.head h.texts.head.names (λ n a. small_front n (among_front n (heads ++ rows) (loose_nums c) (among_front n heads rows (among_front n (variables c.head) [] a))))

  rows_are_texts : AllTexts (map row_text c.rows)
  rows_are_texts = each_text row_text c.rows (λ r a.
      row_is_text r (h.rows r a).1
      (λ n b. small_front n (among_front n (heads ++ rows) (loose_nums c) (among_back n heads rows (among_rows r c.rows n a b)))))

  nums_are_texts : AllTexts (map num_text (loose_nums c))
  nums_are_texts = each_text num_text (loose_nums c) (λ n a. num_is_text n (small_front n (among_back n (heads ++ rows) (loose_nums c) a)))

  atoms_are_texts : AllTexts (map atom_text c.body)
  atoms_are_texts = each_text atom_text c.body (λ t a.
      atom_is_text t (all_each (IsAtomOver is_utf8 is_ordinary) c.body h.texts.body t a).names
      (λ n b. small n (among_back n (heads ++ rows ++ loose_nums c) (variables_in c.body) (among_tree t c.body n a b))))

  -- all but the end
  pub unended_is_text : IsUtf8 (atom_text c.head ++ joined (codes " :- ") (codes ", ") (goals c))
  unended_is_text =
      let all = both_texts (map row_text c.rows) (map num_text (loose_nums c)) rows_are_texts nums_are_texts in
      let gs = both_texts (braces (constraints c)) (map atom_text c.body) (braces_texts (constraints c) all) atoms_are_texts in
      let body = join (codes " :- ") (codes ", ") (goals c) (ascii (codes " :- ") refl) (ascii (codes ", ") refl) gs in
      IsUtf8-append (atom_text c.head) (joined (codes " :- ") (codes ", ") (goals c)) head_is_text body

  clause_is_text : IsUtf8 (clause_text c)
  unfolding clause_text
  clause_is_text =
      let body = joined (codes " :- ") (codes ", ") (goals c) in
      subst IsUtf8 (append_assoc (atom_text c.head) body end_text) (IsUtf8-append (atom_text c.head ++ body) end_text unended_is_text (ascii end_text refl))

pub program_is_text : PrintedProgramsAreTexts
unfolding program_text
program_is_text [] h = IsUtf8-nil
program_is_text (c ∷ cs) h =
    IsUtf8-append (clause_text c) (program_text cs) (clause_is_text c (writable c (All-head IsPrintable c cs h))) (program_is_text cs (All-tail IsPrintable c cs h))
