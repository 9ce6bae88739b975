-- What a parser of scripts reads of a text that is known.
use Rattle.std.proofs.Common.{◌≡◌, ℕ, ◌≤◌, Bool, true, false, List, ◌∷◌, ◌++◌, length, refl, ap, ◌∙◌, arith, Ok, Err}
use Rattle.std.proofs.lemmas.Bool.Decides.{nat_tests}
use Rattle.std.proofs.lemmas.Slice.Eq.{bytes_eq-Decides}
use Rattle.std.specs.Fmt.{decimal}
use Rattle.std.specs.Prelude.{if◌then◌else◌, nat_le}
use Rattle.std.specs.Str.{bytes_eq}
use Rattle.token_model.specs.declared.token.Lexeme.{Lexeme}
use Rattle.token_model.specs.declared.token.Lexeme.TheVariants as l
use Rattle.token_model.specs.declared.fault.Kind.{Kind}
use Rattle.token_model.specs.Names.{max_name}
use Rattle.token_model.specs.Numbers.{max_number, joins_number}
use Rattle.token_model.specs.White.{skipped}
use Rattle.token_model.specs.Remaining as token
use Rattle.token_model.specs.Remaining.{Remaining, ahead, lexeme, spelling, next, sees, same_lexeme, refusal, eat, expect}
use Rattle.token_model.specs.Parsers.{Parser, and_then, ◌>>=◌, pure}
use Rattle.print_model.specs.Names.{is_plain, predicate_text}
use Rattle.printed_tokens.specs.Next.{NextIs, EndsName, EndsNumber, is_number}
use Rattle.printed_tokens.proofs.Next.{sees_by, sees_itself, after_it, after_other}
use Rattle.printed_tokens.proofs.Names.{name_is}
use Rattle.printed_tokens.proofs.Numbers.{number_is, number_back}
use Rattle.parsing_laws.specs.Behind.{behind}
use Rattle.script_grammar.specs.Fields.{word_or, sees_word, number_within}

-- it reads this value, and then this text remains; whether the text stands behind a number makes no difference
pub record Reads {A : Type 0} (p : Parser Remaining A) (text : List ℕ) (a : A) (rest : List ℕ) : Type 0 where
  pub is : (after_number : Bool) → (last : Bool) × (p (behind text after_number) ≡ Ok (a, behind rest last))

-- ---- one after another

pub goes_on : {A B : Type 0} {p : Parser Remaining A} {text middle rest : List ℕ} {a : A} {b : B} (f : A → Parser Remaining B)
    → Reads p text a middle → Reads (f a) middle b rest → Reads (p >>= f) text b rest
goes_on f first second = record {
  is = λ n.
      let u = first.is n in
      let v = second.is u.0 in
      (v.0, ap (λ o. and_then o f) u.1 ∙ v.1);
}

pub reads_nothing : {A : Type 0} (a : A) (text : List ℕ) → Reads (pure a) text a text
reads_nothing a text = record { is = λ n. (n, refl) }

-- ---- tokens

-- this token of these bytes comes next
abbrev pub Comes : List ℕ → Lexeme → List ℕ → List ℕ → Type 0
Comes text what bytes rest = (after_number : Bool) → NextIs (behind text after_number) what bytes rest

pub expected : (what : Lexeme) (bytes text rest : List ℕ) → Comes text what bytes rest → Reads (expect what) text tt rest
unfolding expect
expected what bytes text rest comes = record { is = λ n. (is_number what, go n) }
  where
    go : (n : Bool) → expect what (behind text n) ≡ Ok (tt, behind rest (is_number what))
    go n =
        let r = behind text n in
        ap (λ (b : Bool). if b then Ok (tt, next r) else Err (refusal r)) (sees_itself r what (comes n).lexeme)
        ∙ ap (λ (s : Remaining). Ok (tt, s)) (comes n).next

pub eaten : (what : Lexeme) (bytes text rest : List ℕ) → Comes text what bytes rest → Reads (eat what) text true rest
eaten what bytes text rest comes = record { is = λ n. (is_number what, go n) }
  where
    go : (n : Bool) → eat what (behind text n) ≡ Ok (true, behind rest (is_number what))
    go n =
        let r = behind text n in
        ap (λ (b : Bool). Ok (b, token.after what r)) (sees_itself r what (comes n).lexeme)
        ∙ ap (λ (s : Remaining). Ok (true, s)) (after_it r what (comes n).lexeme ∙ (comes n).next)

pub left_alone : (wanted : Lexeme) (text : List ℕ) → ((after_number : Bool) → same_lexeme (lexeme (behind text after_number)) wanted ≡ false) → Reads (eat wanted) text false text
left_alone wanted text other = record { is = λ n. (n, go n) }
  where
    go : (n : Bool) → eat wanted (behind text n) ≡ Ok (false, behind text n)
    go n =
        let r = behind text n in
        let s : sees wanted r ≡ false = sees_by r (lexeme r) wanted refl ∙ other n in
        ap (λ (b : Bool). Ok (b, token.after wanted r)) s ∙ ap (λ (s : Remaining). Ok (false, s)) (after_other r wanted s)

-- ---- words

pub plain_comes : (bs text rest : List ℕ) → is_plain bs ≡ true → length bs ≤ max_name → skipped text ≡ bs ++ rest → EndsName rest → Comes text l.Name bs rest
unfolding predicate_text ahead
plain_comes bs text rest plain few front ends n = rw plain at (name_is (behind text n) bs rest few (rw plain front) ends)

pub bytes_own : (bs : List ℕ) → bytes_eq bs bs ≡ true
bytes_own bs = (bytes_eq-Decides bs bs).1 refl

pub word_read : (other : Kind) (bs text rest : List ℕ) → is_plain bs ≡ true → length bs ≤ max_name → skipped text ≡ bs ++ rest → EndsName rest → Reads (word_or other bs) text tt rest
unfolding word_or sees_word
word_read other bs text rest plain few front ends = record { is = λ n. (false, go n) }
  where
    go : (n : Bool) → word_or other bs (behind text n) ≡ Ok (tt, behind rest false)
    go n =
        let r = behind text n in
        let comes = plain_comes bs text rest plain few front ends n in
        rw (sees_itself r l.Name comes.lexeme, comes.spelling, bytes_own bs, comes.next) refl

-- ---- numbers

at_most_true : (a b : ℕ) → a ≤ b → nat_le a b ≡ true
at_most_true a b h = grind (arith, nat_tests)

pub number_read : (low high : ℕ) (other : Kind) (n : ℕ) (text rest : List ℕ) → low ≤ n → n ≤ high → n ≤ max_number → skipped text ≡ decimal n ++ rest → EndsNumber rest
    → Reads (number_within low high other) text n rest
unfolding number_within ahead
number_read low high other n text rest least most small front ends = record { is = λ a. (true, go a) }
  where
    go : (a : Bool) → number_within low high other (behind text a) ≡ Ok (n, behind rest true)
    go a =
        let r = behind text a in
        let comes = number_is r n rest small front ends in
        rw (sees_itself r l.Number comes.lexeme, comes.spelling, number_back n small, at_most_true low n least, at_most_true n high most, comes.next) refl

-- ---- what stands behind

pub name_ends_at_space : (z : List ℕ) → EndsName (32 ∷ z)
name_ends_at_space z = record { word = refl; quote = refl }

pub name_ends_at_dot : (z : List ℕ) → EndsName (46 ∷ z)
name_ends_at_dot z = record { word = refl; quote = refl }

pub number_ends_at_space : (z : List ℕ) → EndsNumber (32 ∷ z)
unfolding joins_number
number_ends_at_space z = record { digits = refl; joins = refl }

pub number_ends_at_dot : (z : List ℕ) → EndsNumber (46 ∷ z)
unfolding joins_number
number_ends_at_dot z = record { digits = refl; joins = refl }

pub number_ends_at_comma : (z : List ℕ) → EndsNumber (44 ∷ z)
unfolding joins_number
number_ends_at_comma z = record { digits = refl; joins = refl }

pub number_ends_at_bracket : (z : List ℕ) → EndsNumber (93 ∷ z)
unfolding joins_number
number_ends_at_bracket z = record { digits = refl; joins = refl }

-- ---- choices

-- the way that is taken, where a token of this kind comes next
pub chosen : {A : Type 0} (wanted : Lexeme) (p q : Parser Remaining A) (text : List ℕ) (a : A) (rest : List ℕ) → ((after_number : Bool) → same_lexeme (lexeme (behind text after_number)) wanted ≡ true) → Reads p text a rest
    → Reads (λ r. if sees wanted r then p r else q r) text a rest
chosen wanted p q text a rest one h = record { is = λ n. let u = h.is n in (u.0, ap (λ (b : Bool). if b then p (behind text n) else q (behind text n)) (sees_by (behind text n) (lexeme (behind text n)) wanted refl ∙ one n) ∙ u.1) }

pub not_chosen : {A : Type 0} (wanted : Lexeme) (p q : Parser Remaining A) (text : List ℕ) (a : A) (rest : List ℕ) → ((after_number : Bool) → same_lexeme (lexeme (behind text after_number)) wanted ≡ false) → Reads q text a rest
    → Reads (λ r. if sees wanted r then p r else q r) text a rest
not_chosen wanted p q text a rest other h = record { is = λ n. let u = h.is n in (u.0, ap (λ (b : Bool). if b then p (behind text n) else q (behind text n)) (sees_by (behind text n) (lexeme (behind text n)) wanted refl ∙ other n) ∙ u.1) }
