-- Lists are read the same with every number of turns that is enough: each of their items takes a token.
use Rattle.std.proofs.Common.{◌≡◌, ◌≢◌, ◌<◌, ◌≤◌, ℕ, ℤ, zero, suc, Bool, true, false, ◌&&◌, List, [], ◌∷◌, ◌++◌, nat_le, if◌then◌else◌, Ok, Err, refl, ap, ◌∙◌, sym, subst, arith}
use Rattle.std.specs.Prelude.{pos, neg_ℤ}
use Rattle.std.specs.Str.{bytes_eq}
use Rattle.case_table.specs.declared.rule_word.RuleWord.TheVariants as rule
use Rattle.case_table.specs.Rules.{rule_word}
use Rattle.token_model.specs.declared.token.Lexeme.{Lexeme}
use Rattle.token_model.specs.declared.token.Lexeme.TheVariants as l
use Rattle.token_model.specs.declared.fault.Kind.{Kind}
use Rattle.token_model.specs.declared.fault.Kind.TheVariants.{Unexpected, BadNumber}
use Rattle.token_model.specs.Numbers.{number_value}
use Rattle.token_model.specs.Remaining.{Remaining, lexeme, spelling, next, left, sees, after, same_lexeme, fault_at, refusal, eat, expect}
use Rattle.token_model.specs.Parsers.{Outcome, Parser, and_then, ◌>>=◌, ◌>>◌, ◌<$>◌, pure}
use Rattle.linear_model.specs.Certificates.{Part}
use Rattle.linear_model.specs.Chain.{multiplier_limit, part_of}
use Rattle.farkas_check.specs.declared.cert.Cert.{Cert}
use Rattle.farkas_check.specs.declared.cert.Cert.TheVariants.{One, Two}
use Rattle.map_model.specs.declared.shown.Shown.TheVariants.{Find, Given}
use Rattle.script_grammar.specs.Fields.{max_field, refusal_as, sees_word, word_or, word, number_within, number32, listed_from}
use Rattle.script_grammar.specs.Certificates.{multiplier, multipliers_from, part, certificate, shown}
use Rattle.turn_laws.proofs.Tokens.{next_fewer, nothing_left}
use Rattle.turn_laws.proofs.Reading.{IfRead, then_read, further, after_within}
use Rattle.script_space_laws.specs.Laws.{MultiplierTurns, NumberTurns, ShownTurns}

-- no more bytes are left behind it than before
abbrev Keeps : {A : Type 0} → Parser Remaining A → Type 0
Keeps parser = (r : Remaining) → IfRead (parser r) (λ x s. left s ≤ left r)

-- fewer are
abbrev Takes : {A : Type 0} → Parser Remaining A → Type 0
Takes parser = (r : Remaining) → IfRead (parser r) (λ x s. left s < left r)

-- at the end of the text it reads nothing
abbrev Refuses : {A : Type 0} → Parser Remaining A → Type 0
Refuses parser = (r : Remaining) → lexeme r ≡ l.Finish → parser r ≡ Err (refusal r)

takes_keeps : {A : Type 0} (parser : Parser Remaining A) → Takes parser → Keeps parser
takes_keeps parser h r = further (parser r) (λ x s. left s < left r) (λ x s. left s ≤ left r) (h r) (λ x s g. omega arith)

keeps_then : {A B : Type 0} (parser : Parser Remaining A) (f : A → Parser Remaining B) → Keeps parser → ((a : A) → Keeps (f a)) → Keeps (parser >>= f)
keeps_then parser f h g r = then_read (parser r) f (λ x s. left s ≤ left r) (λ x s. left s ≤ left r) (h r) (λ a s e. further (f a s) (λ x t. left t ≤ left s) (λ x t. left t ≤ left r) (g a s) (λ x t d. omega arith))

takes_then : {A B : Type 0} (parser : Parser Remaining A) (f : A → Parser Remaining B) → Takes parser → ((a : A) → Keeps (f a)) → Takes (parser >>= f)
takes_then parser f h g r = then_read (parser r) f (λ x s. left s < left r) (λ x s. left s < left r) (h r) (λ a s e. further (f a s) (λ x t. left t ≤ left s) (λ x t. left t < left r) (g a s) (λ x t d. omega arith))

-- what is read later takes
then_takes : {A B : Type 0} (parser : Parser Remaining A) (f : A → Parser Remaining B) → Keeps parser → ((a : A) → Takes (f a)) → Takes (parser >>= f)
then_takes parser f h g r = then_read (parser r) f (λ x s. left s ≤ left r) (λ x s. left s < left r) (h r) (λ a s e. further (f a s) (λ x t. left t < left s) (λ x t. left t < left r) (g a s) (λ x t d. omega arith))

-- ---- tokens

pure_keeps : {A : Type 0} (a : A) → Keeps (pure a)
pure_keeps a r = omega arith

eat_keeps : (wanted : Lexeme) → Keeps (eat wanted)
eat_keeps wanted r = after_within wanted r

-- a token that is seen is not the end of the text
seen_stands : (wanted : Lexeme) (r : Remaining) → same_lexeme l.Finish wanted ≡ false → sees wanted r ≡ true → lexeme r ≢ l.Finish
unfolding sees
seen_stands wanted r other h f = let g : same_lexeme l.Finish wanted ≡ true = rw f at h in cc

expect_takes : (wanted : Lexeme) → same_lexeme l.Finish wanted ≡ false → Takes (expect wanted)
unfolding expect
expect_takes wanted other r = go (sees wanted r) refl
  where
    go : (t : Bool) → sees wanted r ≡ t → IfRead (if t then Ok (tt, next r) else Err (refusal r)) (λ (u : Unit {0}) s. left s < left r)
    go true h = next_fewer r (seen_stands wanted r other h)
    go false h = tt

word_takes : (other : Kind) (wanted : List ℕ) → Takes (word_or other wanted)
unfolding word_or sees_word same_lexeme
word_takes other wanted r = go (sees l.Name r) (bytes_eq (spelling r) wanted) refl
  where
    go : (t u : Bool) → sees l.Name r ≡ t → IfRead (if t && u then Ok (tt, next r) else Err (refusal_as other r)) (λ (u : Unit {0}) s. left s < left r)
    go true true h = next_fewer r (seen_stands l.Name r refl h)
    go true false h = tt
    go false u h = tt

number_takes : (low high : ℕ) (other : Kind) → Takes (number_within low high other)
unfolding number_within same_lexeme
number_takes low high other r = go (sees l.Number r) refl (nat_le low (number_value (spelling r)) && nat_le (number_value (spelling r)) high)
  where
    checked : Bool → Outcome Remaining ℕ
    checked u = if u then Ok (number_value (spelling r), next r) else Err (fault_at other r)

    go : (t : Bool) → sees l.Number r ≡ t → (u : Bool) → IfRead (if t then checked u else Err (refusal r)) (λ n s. left s < left r)
    go true h true = next_fewer r (seen_stands l.Number r refl h)
    go true h false = tt
    go false h u = tt

number_refuses : (low high : ℕ) (other : Kind) → Refuses (number_within low high other)
unfolding number_within sees same_lexeme
number_refuses low high other r h = rw h refl

-- ---- lists

-- every number of turns that is at least the count of bytes reads the same
abbrev pub TurnsNeverDecide : {A : Type 0} → Parser Remaining A → Type 0
TurnsNeverDecide {A} item = (n m : ℕ) (found : List A) (r : Remaining) → left r ≤ n → n ≤ m → listed_from item m found r ≡ listed_from item n found r

same_behind : {A B : Type 0} (o : Outcome Remaining A) (f g : A → Parser Remaining B) → IfRead o (λ a r. f a r ≡ g a r) → and_then o f ≡ and_then o g
same_behind (Ok p) f g h = h
same_behind (Err e) f g h = refl

module _ {A : Type 0} (item : Parser Remaining A) where
  -- behind an item: one more, or the list that was found
  abbrev pub more_items : ℕ → List A → Bool → Parser Remaining (List A)
  more_items n found goes_on = if goes_on then listed_from item n found else pure found

  turns_keep : Keeps item → (n : ℕ) (found : List A) → Keeps (listed_from item n found)
  unfolding listed_from
  turns_keep keeps zero found = λ r. tt
  turns_keep keeps (suc n) found =
      keeps_then item (λ x. eat l.Comma >>= more_items n (found ++ x ∷ [])) keeps (λ x.
      keeps_then (eat l.Comma) (more_items n (found ++ x ∷ [])) (eat_keeps l.Comma) (λ goes_on. go (found ++ x ∷ []) (turns_keep keeps n (found ++ x ∷ [])) goes_on))
    where
      go : (all : List A) → Keeps (listed_from item n all) → (t : Bool) → Keeps (more_items n all t)
      go all rest true = rest
      go all rest false = pure_keeps all

  listed_turn : Takes item → Refuses item → TurnsNeverDecide item
  unfolding listed_from
  listed_turn takes refuses zero zero found r h w = refl
  listed_turn takes refuses zero (suc m) found r h w = ap (λ (o : Outcome Remaining A). and_then o (λ x. eat l.Comma >>= more_items m (found ++ x ∷ []))) (refuses r (nothing_left r h))
  listed_turn takes refuses (suc n) zero found r h w = absurd (omega arith)
  listed_turn takes refuses (suc n) (suc m) found r h w =
      same_behind (item r) (λ x. eat l.Comma >>= more_items m (found ++ x ∷ [])) (λ x. eat l.Comma >>= more_items n (found ++ x ∷ []))
      (further (item r) (λ x s. left s < left r) (λ x s. (eat l.Comma >>= more_items m (found ++ x ∷ [])) s ≡ (eat l.Comma >>= more_items n (found ++ x ∷ [])) s) (takes r) (λ x s g.
      let p = after_within l.Comma s in
      go (found ++ x ∷ []) (after l.Comma s) (listed_turn takes refuses n m (found ++ x ∷ []) (after l.Comma s) (omega arith) (omega arith)) (sees l.Comma s)))
    where
      go : (all : List A) (s : Remaining) → listed_from item m all s ≡ listed_from item n all s → (t : Bool) → more_items m all t s ≡ more_items n all t s
      go all s rest true = rest
      go all s rest false = refl

-- ---- multipliers

multiplier_takes : Takes multiplier
unfolding multiplier
multiplier_takes =
    then_takes (eat l.Minus) (λ is_negative. number_within 0 multiplier_limit BadNumber >>= signed is_negative) (eat_keeps l.Minus) (λ is_negative.
    takes_then (number_within 0 multiplier_limit BadNumber) (signed is_negative) (number_takes 0 multiplier_limit BadNumber) (λ magnitude. pure_keeps (if is_negative then neg_ℤ (pos magnitude) else pos magnitude)))
  where
    signed : Bool → ℕ → Parser Remaining ℤ
    signed is_negative magnitude = pure (if is_negative then neg_ℤ (pos magnitude) else pos magnitude)

multiplier_refuses : Refuses multiplier
unfolding multiplier number_within sees after same_lexeme
multiplier_refuses r h = rw h (rw h refl)

-- multipliers are a list
pub multipliers_listed : (n : ℕ) (found : List ℤ) (r : Remaining) → multipliers_from n found r ≡ listed_from multiplier n found r
unfolding multipliers_from listed_from
multipliers_listed zero found r = refl
multipliers_listed (suc n) found r = go (λ all s. multipliers_listed n all s) (multiplier r)
  where
    more : ℤ → Bool → Parser Remaining (List ℤ)
    more x goes_on = if goes_on then multipliers_from n (found ++ x ∷ []) else pure (found ++ x ∷ [])

    by_comma : (x : ℤ) (s : Remaining) → multipliers_from n (found ++ x ∷ []) s ≡ listed_from multiplier n (found ++ x ∷ []) s → (t : Bool) → more x t s ≡ more_items multiplier n (found ++ x ∷ []) t s
    by_comma x s rest true = rest
    by_comma x s rest false = refl

    go : ((all : List ℤ) (s : Remaining) → multipliers_from n all s ≡ listed_from multiplier n all s) → (o : Outcome Remaining ℤ)
        → and_then o (λ x. eat l.Comma >>= more x) ≡ and_then o (λ x. eat l.Comma >>= more_items multiplier n (found ++ x ∷ []))
    go rest (Ok p) = by_comma p.0 (after l.Comma p.1) (rest (found ++ p.0 ∷ []) (after l.Comma p.1)) (sees l.Comma p.1)
    go rest (Err e) = refl

pub multiplier_turn : TurnsNeverDecide multiplier
multiplier_turn = listed_turn multiplier multiplier_takes multiplier_refuses

pub multipliers_turn : MultiplierTurns
multipliers_turn n m found r h w = multipliers_listed m found r ∙ (multiplier_turn n m found r h w ∙ sym (multipliers_listed n found r))

-- ---- numbers

pub numbers_turn : NumberTurns
numbers_turn = listed_turn number32 (number_takes 0 max_field BadNumber) (number_refuses 0 max_field BadNumber)

-- ---- what shows a row

some_multipliers_keep : Keeps (λ r. multipliers_from (left r) [] r)
some_multipliers_keep r =
    subst (λ (o : Outcome Remaining (List ℤ)). IfRead o (λ x s. left s ≤ left r)) (sym (multipliers_listed (left r) [] r))
    (turns_keep multiplier (takes_keeps multiplier multiplier_takes) (left r) [] r)

part_takes : Takes part
unfolding part same_lexeme
part_takes =
    takes_then {A = Unit {0}} (expect l.OpenSquare) (λ u. (λ r. multipliers_from (left r) [] r) >>= last) (expect_takes l.OpenSquare refl) (λ u.
    keeps_then (λ r. multipliers_from (left r) [] r) last some_multipliers_keep (λ found.
    keeps_then {A = Unit {0}} (expect l.CloseSquare) (λ v. pure (part_of found)) (takes_keeps {A = Unit {0}} (expect l.CloseSquare) (expect_takes l.CloseSquare refl)) (λ v. pure_keeps (part_of found))))
  where
    last : List ℤ → Parser Remaining Part
    last found = expect l.CloseSquare >> pure (part_of found)

certificate_takes : Takes certificate
unfolding certificate
certificate_takes = takes_then part (λ first. eat l.Over >>= behind first) part_takes (λ first. keeps_then (eat l.Over) (behind first) (eat_keeps l.Over) (λ t. go first t))
  where
    behind : Part → Bool → Parser Remaining Cert
    behind first has_second = if has_second then Two first <$> part else pure (One first)

    go : (first : Part) (t : Bool) → Keeps (behind first t)
    go first true = keeps_then part (λ second. pure (Two first second)) (takes_keeps part part_takes) (λ second. pure_keeps (Two first second))
    go first false = pure_keeps (One first)

shown_takes : Takes shown
unfolding shown
shown_takes r = go (sees l.Name r)
  where
    go : (t : Bool) → IfRead (if t then (word rule.Find >> pure Find) r else (Given <$> certificate) r) (λ x s. left s < left r)
    go true = takes_then {A = Unit {0}} (word rule.Find) (λ u. pure Find) (word_takes Unexpected (rule_word rule.Find)) (λ u. pure_keeps Find) r
    go false = takes_then certificate (λ c. pure (Given c)) certificate_takes (λ c. pure_keeps (Given c)) r

shown_refuses : Refuses shown
unfolding shown certificate part expect sees same_lexeme
shown_refuses r h = rw h refl

pub shown_turn : ShownTurns
shown_turn = listed_turn shown shown_takes shown_refuses
