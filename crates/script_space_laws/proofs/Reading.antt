-- What is read from texts of the same tokens, by the steps of the rules of scripts.
use Rattle.std.proofs.Common.{◌≡◌, ◌+◌, ◌||◌, ◌&&◌, ℕ, ℤ, zero, suc, Bool, true, false, List, [], ◌∷◌, ◌++◌, nat_le, if◌then◌else◌, Ok, Err, refl, ap, ◌∙◌, sym, subst, arith}
use Rattle.std.specs.Prelude.{pos, neg_ℤ}
use Rattle.std.specs.Str.{bytes_eq}
use Rattle.case_table.specs.declared.rule_word.RuleWord.{RuleWord}
use Rattle.case_table.specs.declared.rule_word.RuleWord.TheVariants as rule
use Rattle.case_table.specs.Rules.{rule_word}
use Rattle.clp_model.specs.declared.predicate.Pred.{Pred}
use Rattle.token_model.specs.declared.token.Lexeme.{Lexeme}
use Rattle.token_model.specs.declared.token.Lexeme.TheVariants as l
use Rattle.token_model.specs.declared.fault.Kind.{Kind}
use Rattle.token_model.specs.declared.fault.Kind.TheVariants.{Unexpected, BadNumber}
use Rattle.token_model.specs.Numbers.{number_value}
use Rattle.token_model.specs.Remaining.{Remaining, lexeme, spelling, next, left, sees, reason, fault_at, refusal, eat, expect}
use Rattle.token_model.specs.Parsers.{Outcome, Parser, and_then, ◌>>=◌, ◌>>◌, ◌<$>◌, pure}
use Rattle.token_cursor.specs.Escapes.{name_by}
use Rattle.linear_model.specs.Certificates.{Part}
use Rattle.linear_model.specs.Chain.{multiplier_limit, part_of}
use Rattle.farkas_check.specs.declared.cert.Cert.{Cert}
use Rattle.farkas_check.specs.declared.cert.Cert.TheVariants.{One, Two}
use Rattle.map_model.specs.declared.shown.Shown.TheVariants.{Find, Given}
use Rattle.map_model.specs.declared.shown.Shows.TheVariants as shows
use Rattle.script_grammar.specs.Fields.{in_place_of, refusal_as, sees_word, word_or, word, number_within, number32, max_field, name, predicate, listed_from, listed_by, listed}
use Rattle.script_grammar.specs.Certificates.{multiplier, multipliers_from, part, certificate, shown, all_shown}
use Rattle.space_laws.specs.Same.{Matches, ReadsAlike}
use Rattle.space_laws.specs.Moved.{moved_fault}
use Rattle.space_laws.proofs.Reading.{matches_next, matches_lexeme, matches_sees, matches_after, fault_same, token_refusal_same}
use Rattle.script_space_laws.proofs.Turns.{TurnsNeverDecide, more_items, multiplier_turn, multipliers_listed, numbers_turn, shown_turn}

-- ---- texts of the same tokens

-- the same is read, wherever texts of the same tokens remain
abbrev pub SameParser : {A : Type 0} → (ℕ → ℕ) → Parser Remaining A → Type 0
SameParser to p = (r s : Remaining) → Matches to r s → ReadsAlike to (p r) (p s)

module _ (to : ℕ → ℕ) where
  pub read_then : {A B : Type 0} (o u : Outcome Remaining A) (f : A → Parser Remaining B) → ReadsAlike to o u → ((a : A) → SameParser to (f a)) → ReadsAlike to (and_then o f) (and_then u f)
  read_then {A} (Ok p) (Ok q) f h same = subst (λ (a : A). ReadsAlike to (f p.0 p.1) (f a q.1)) (sym h.0) (same p.0 p.1 q.1 h.1)
  read_then (Err e) (Err g) f h same = h
  read_then (Ok p) (Err g) f h same = absurd h
  read_then (Err e) (Ok q) f h same = absurd h

  pub then_same : {A B : Type 0} (p : Parser Remaining A) (f : A → Parser Remaining B) → SameParser to p → ((a : A) → SameParser to (f a)) → SameParser to (p >>= f)
  then_same p f h same r s m = read_then (p r) (p s) f (h r s m) same

  pub pure_same : {A : Type 0} (a : A) → SameParser to (pure a)
  pure_same a r s h = (refl, h)

  -- by what is the same of both
  pub by_same : {X A : Type 0} (x y : X) (f : X → Parser Remaining A) (r s : Remaining) → x ≡ y → ((t : X) → ReadsAlike to (f t r) (f t s)) → ReadsAlike to (f x r) (f y s)
  by_same {X} x y f r s e same = subst (λ (z : X). ReadsAlike to (f x r) (f z s)) e (same x)

  pub eat_same : (wanted : Lexeme) → SameParser to (eat wanted)
  eat_same wanted r s h = (sym (matches_sees to wanted r s h), matches_after to wanted r s h)

  pub expect_same : (wanted : Lexeme) → SameParser to (expect wanted)
  unfolding expect
  expect_same wanted r s h = by_same {A = Unit {0}} (sees wanted r) (sees wanted s) (λ t r. if t then Ok (tt, next r) else Err (refusal r)) r s (matches_sees to wanted r s h) go
    where
      go : (t : Bool) → ReadsAlike {A = Unit {0}} to (if t then Ok (tt, next r) else Err (refusal r)) (if t then Ok (tt, next s) else Err (refusal s))
      go true = (refl, matches_next to r s h)
      go false = token_refusal_same to r s h

  pub spelling_same : (r s : Remaining) → Matches to r s → spelling r ≡ spelling s
  spelling_same r s h = (h.tokens 0).spelling

  refusal_as_same : (other : Kind) (r s : Remaining) → Matches to r s → refusal_as other s ≡ moved_fault to (refusal_as other r)
  unfolding refusal_as
  refusal_as_same other r s h = ap (λ (k : Lexeme). fault_at (in_place_of other (reason k)) s) (sym (matches_lexeme to r s h)) ∙ fault_same to (in_place_of other (reason (lexeme r))) r s h

  pub word_or_same : (other : Kind) (wanted : List ℕ) → SameParser to (word_or other wanted)
  unfolding word_or sees_word
  word_or_same other wanted r s h =
      by_same {A = Unit {0}} (sees l.Name r && bytes_eq (spelling r) wanted) (sees l.Name s && bytes_eq (spelling s) wanted) (λ t r. if t then Ok (tt, next r) else Err (refusal_as other r)) r s
      (ap (λ (t : Bool). t && bytes_eq (spelling r) wanted) (matches_sees to l.Name r s h) ∙ ap (λ (z : List ℕ). sees l.Name s && bytes_eq z wanted) (spelling_same r s h)) go
    where
      go : (t : Bool) → ReadsAlike {A = Unit {0}} to (if t then Ok (tt, next r) else Err (refusal_as other r)) (if t then Ok (tt, next s) else Err (refusal_as other s))
      go true = (refl, matches_next to r s h)
      go false = refusal_as_same other r s h

  pub word_same : (wanted : RuleWord) → SameParser to (word wanted)
  word_same wanted = word_or_same Unexpected (rule_word wanted)

  pub number_same : (low high : ℕ) (other : Kind) → SameParser to (number_within low high other)
  unfolding number_within
  number_same low high other r s h =
      by_same (sees l.Number r) (sees l.Number s) (λ t r. if t then checked (number_value (spelling r)) r else Err (refusal r)) r s (matches_sees to l.Number r s h) go
    where
      checked : ℕ → Parser Remaining ℕ
      checked n = λ r. if nat_le low n && nat_le n high then Ok (n, next r) else Err (fault_at other r)

      within : (n : ℕ) (u : Bool) → ReadsAlike to (if u then Ok (n, next r) else Err (fault_at other r)) (if u then Ok (n, next s) else Err (fault_at other s))
      within n true = (refl, matches_next to r s h)
      within n false = fault_same to other r s h

      go : (t : Bool) → ReadsAlike to (if t then checked (number_value (spelling r)) r else Err (refusal r)) (if t then checked (number_value (spelling s)) s else Err (refusal s))
      go true = by_same (spelling r) (spelling s) (λ z r. checked (number_value z) r) r s (spelling_same r s h) (λ z. within (number_value z) (nat_le low (number_value z) && nat_le (number_value z) high))
      go false = token_refusal_same to r s h

  -- ---- lists

  listed_turns_same : {A : Type 0} (item : Parser Remaining A) → SameParser to item → (n : ℕ) (found : List A) → SameParser to (listed_from item n found)
  unfolding listed_from
  listed_turns_same item same zero found = λ r s h. token_refusal_same to r s h
  listed_turns_same {A} item same (suc n) found =
      then_same item (λ x. eat l.Comma >>= more_items item n (found ++ x ∷ [])) same (λ x.
      then_same (eat l.Comma) (more_items item n (found ++ x ∷ [])) (eat_same l.Comma) (λ goes_on. go (found ++ x ∷ []) (listed_turns_same item same n (found ++ x ∷ [])) goes_on))
    where
      go : (all : List A) → SameParser to (listed_from item n all) → (t : Bool) → SameParser to (more_items item n all t)
      go all rest true = rest
      go all rest false = pure_same all

  some_same : {A : Type 0} (item : Parser Remaining A) → TurnsNeverDecide item → SameParser to item → SameParser to (λ r. listed_from item (left r) [] r)
  some_same {A} item turn same r s h =
      let n : ℕ = left r + left s in
      subst (λ (o : Outcome Remaining (List A)). ReadsAlike to o (listed_from item (left s) [] s)) (turn (left r) n [] r (omega arith) (omega arith))
      (subst (λ (o : Outcome Remaining (List A)). ReadsAlike to (listed_from item n [] r) o) (turn (left s) n [] s (omega arith) (omega arith))
      (listed_turns_same item same n [] r s h))

  pub listed_same : {A : Type 0} (item : Parser Remaining A) → TurnsNeverDecide item → SameParser to item → SameParser to (listed item)
  unfolding listed listed_by
  listed_same {A} item turn same =
      then_same {A = Unit {0}} (expect l.OpenSquare) (λ u. eat l.CloseSquare >>= listed_by item) (expect_same l.OpenSquare) (λ u.
      then_same (eat l.CloseSquare) (listed_by item) (eat_same l.CloseSquare) (λ is_empty. go is_empty))
    where
      last : List A → Parser Remaining (List A)
      last found = expect l.CloseSquare >> pure found

      go : (t : Bool) → SameParser to (listed_by item t)
      go true = pure_same []
      go false =
          then_same (λ r. listed_from item (left r) [] r) last (some_same item turn same) (λ found.
          then_same {A = Unit {0}} (expect l.CloseSquare) (λ u. pure found) (expect_same l.CloseSquare) (λ u. pure_same found))

  pub numbers_same : SameParser to (listed number32)
  numbers_same = listed_same number32 numbers_turn (number_same 0 max_field BadNumber)

  -- ---- predicates

  name_same : SameParser to name
  unfolding name
  name_same r s h =
      by_same (sees l.Name r || sees l.Quoted r) (sees l.Name s || sees l.Quoted s) (λ t r. if t then Ok (name_by (lexeme r) (spelling r), next r) else Err (refusal r)) r s
      (ap (λ (t : Bool). t || sees l.Quoted r) (matches_sees to l.Name r s h) ∙ ap (λ (t : Bool). sees l.Name s || t) (matches_sees to l.Quoted r s h)) go
    where
      go : (t : Bool) → ReadsAlike to (if t then Ok (name_by (lexeme r) (spelling r), next r) else Err (refusal r)) (if t then Ok (name_by (lexeme s) (spelling s), next s) else Err (refusal s))
      go true = (sym (ap (λ (k : Lexeme). name_by k (spelling r)) (matches_lexeme to r s h) ∙ ap (name_by (lexeme s)) (spelling_same r s h)), matches_next to r s h)
      go false = token_refusal_same to r s h

  pub predicate_same : SameParser to predicate
  unfolding predicate
  predicate_same =
      then_same name (λ of. expect l.Over >> (number32 >>= made of)) name_same (λ of.
      then_same {A = Unit {0}} (expect l.Over) (λ u. number32 >>= made of) (expect_same l.Over) (λ u.
      then_same number32 (made of) (number_same 0 max_field BadNumber) (λ arity. pure_same (record { name = of; arity = arity }))))
    where
      made : List ℕ → ℕ → Parser Remaining Pred
      made of arity = pure (record { name = of; arity = arity })

  -- ---- certificates

  multiplier_same : SameParser to multiplier
  unfolding multiplier
  multiplier_same =
      then_same (eat l.Minus) (λ is_negative. number_within 0 multiplier_limit BadNumber >>= signed is_negative) (eat_same l.Minus) (λ is_negative.
      then_same (number_within 0 multiplier_limit BadNumber) (signed is_negative) (number_same 0 multiplier_limit BadNumber) (λ magnitude.
      pure_same (if is_negative then neg_ℤ (pos magnitude) else pos magnitude)))
    where
      signed : Bool → ℕ → Parser Remaining ℤ
      signed is_negative magnitude = pure (if is_negative then neg_ℤ (pos magnitude) else pos magnitude)

  multipliers_same : SameParser to (λ r. multipliers_from (left r) [] r)
  multipliers_same r s h =
      subst (λ (o : Outcome Remaining (List ℤ)). ReadsAlike to o (multipliers_from (left s) [] s)) (sym (multipliers_listed (left r) [] r))
      (subst (λ (o : Outcome Remaining (List ℤ)). ReadsAlike to (listed_from multiplier (left r) [] r) o) (sym (multipliers_listed (left s) [] s))
      (some_same multiplier multiplier_turn multiplier_same r s h))

  part_same : SameParser to part
  unfolding part
  part_same =
      then_same {A = Unit {0}} (expect l.OpenSquare) (λ u. (λ r. multipliers_from (left r) [] r) >>= last) (expect_same l.OpenSquare) (λ u.
      then_same (λ r. multipliers_from (left r) [] r) last multipliers_same (λ found.
      then_same {A = Unit {0}} (expect l.CloseSquare) (λ v. pure (part_of found)) (expect_same l.CloseSquare) (λ v. pure_same (part_of found))))
    where
      last : List ℤ → Parser Remaining Part
      last found = expect l.CloseSquare >> pure (part_of found)

  certificate_same : SameParser to certificate
  unfolding certificate
  certificate_same = then_same part (λ first. eat l.Over >>= behind first) part_same (λ first. then_same (eat l.Over) (behind first) (eat_same l.Over) (λ t. go first t))
    where
      behind : Part → Bool → Parser Remaining Cert
      behind first has_second = if has_second then Two first <$> part else pure (One first)

      go : (first : Part) (t : Bool) → SameParser to (behind first t)
      go first true = then_same part (λ second. pure (Two first second)) part_same (λ second. pure_same (Two first second))
      go first false = pure_same (One first)

  pub shown_same : SameParser to shown
  unfolding shown
  shown_same r s h = by_same (sees l.Name r) (sees l.Name s) (λ t r. if t then (word rule.Find >> pure Find) r else (Given <$> certificate) r) r s (matches_sees to l.Name r s h) go
    where
      go : (t : Bool) → ReadsAlike to (if t then (word rule.Find >> pure Find) r else (Given <$> certificate) r) (if t then (word rule.Find >> pure Find) s else (Given <$> certificate) s)
      go true = then_same {A = Unit {0}} (word rule.Find) (λ u. pure Find) (word_same rule.Find) (λ u. pure_same Find) r s h
      go false = then_same certificate (λ c. pure (Given c)) certificate_same (λ c. pure_same (Given c)) r s h

  pub all_shown_same : SameParser to all_shown
  unfolding all_shown
  all_shown_same r s h = by_same (sees l.Name r) (sees l.Name s) (λ t r. if t then (word rule.Find >> pure shows.Find) r else (shows.Each <$> listed shown) r) r s (matches_sees to l.Name r s h) go
    where
      go : (t : Bool) → ReadsAlike to (if t then (word rule.Find >> pure shows.Find) r else (shows.Each <$> listed shown) r) (if t then (word rule.Find >> pure shows.Find) s else (shows.Each <$> listed shown) s)
      go true = then_same {A = Unit {0}} (word rule.Find) (λ u. pure shows.Find) (word_same rule.Find) (λ u. pure_same shows.Find) r s h
      go false = then_same (listed shown) (λ list. pure (shows.Each list)) (listed_same shown shown_turn shown_same) (λ list. pure_same (shows.Each list)) r s h
