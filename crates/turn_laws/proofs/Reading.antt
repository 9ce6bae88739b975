-- What is left behind the steps of rules.
use Rattle.std.proofs.Common.{◌≢◌, ◌<◌, ◌≤◌, ℕ, zero, suc, Bool, true, false, List, [], ◌∷◌, ◌++◌, cond, if◌then◌else◌, Some, None, Ok, Err, arith}
use Rattle.std.specs.Prelude.{Option, position}
use Rattle.std.specs.Str.{bytes_eq}
use Rattle.token_model.specs.declared.token.Lexeme.{Lexeme}
use Rattle.token_model.specs.declared.token.Lexeme.TheVariants as l
use Rattle.token_model.specs.Parsers.{Outcome, Parser, and_then, ◌>>=◌, pure}
use Rattle.token_model.specs.Remaining as token
use Rattle.token_model.specs.Remaining.{Remaining}
use Rattle.clp_grammar.specs.Input.{Input, passed, left, sees, refusal, expect, eat, name, take_token, separated, separated_from}
use Rattle.clp_grammar.specs.Names.{fresh, known_or_new, numbered, variable}
use Rattle.turn_laws.proofs.Tokens.{next_no_more, next_fewer}

-- what was read, if there was no fault
abbrev pub IfRead : {S A : Type 0} → Outcome S A → (A → S → Type 0) → Type 0
IfRead (Ok p) P = P p.0 p.1
IfRead (Err e) P = Unit {0}

pub then_read : {S A B : Type 0} (o : Outcome S A) (f : A → Parser S B) (P : A → S → Type 0) (Q : B → S → Type 0) → IfRead o P → ((a : A) (i : S) → P a i → IfRead (f a i) Q) → IfRead (and_then o f) Q
then_read (Ok p) f P Q h g = g p.0 p.1 h
then_read (Err e) f P Q h g = tt

pub further : {S A : Type 0} (o : Outcome S A) (P Q : A → S → Type 0) → IfRead o P → ((a : A) (i : S) → P a i → Q a i) → IfRead o Q
further (Ok p) P Q h g = g p.0 p.1 h
further (Err e) P Q h g = tt

-- at most so many bytes are left behind it
abbrev pub Within : {A : Type 0} → ℕ → Outcome Input A → Type 0
Within n o = IfRead o (λ x j. left j ≤ n)

-- fewer than so many are
abbrev pub Below : {A : Type 0} → ℕ → Outcome Input A → Type 0
Below n o = IfRead o (λ x j. left j < n)

-- no more bytes are left behind it than before
abbrev pub Keeps : {A : Type 0} → Parser Input A → Type 0
Keeps parser = (i : Input) → Within (left i) (parser i)

-- fewer are
abbrev pub Takes : {A : Type 0} → Parser Input A → Type 0
Takes parser = (i : Input) → Below (left i) (parser i)

pub takes_keeps : {A : Type 0} (parser : Parser Input A) → Takes parser → Keeps parser
takes_keeps parser h i = further (parser i) (λ x j. left j < left i) (λ x j. left j ≤ left i) (h i) (λ x j g. omega arith)

pub within_then : {A B : Type 0} (n : ℕ) (o : Outcome Input A) (f : A → Parser Input B) → Within n o → ((a : A) → Keeps (f a)) → Within n (and_then o f)
within_then n o f h g = then_read o f (λ x j. left j ≤ n) (λ x j. left j ≤ n) h (λ a i r. further (f a i) (λ x j. left j ≤ left i) (λ x j. left j ≤ n) (g a i) (λ x j s. omega arith))

pub below_then : {A B : Type 0} (n : ℕ) (o : Outcome Input A) (f : A → Parser Input B) → Below n o → ((a : A) → Keeps (f a)) → Below n (and_then o f)
below_then n o f h g = then_read o f (λ x j. left j < n) (λ x j. left j < n) h (λ a i r. further (f a i) (λ x j. left j ≤ left i) (λ x j. left j < n) (g a i) (λ x j s. omega arith))

-- what is read later takes
pub then_below : {A B : Type 0} (n : ℕ) (o : Outcome Input A) (f : A → Parser Input B) → Within n o → ((a : A) → Takes (f a)) → Below n (and_then o f)
then_below n o f h g = then_read o f (λ x j. left j ≤ n) (λ x j. left j < n) h (λ a i r. further (f a i) (λ x j. left j < left i) (λ x j. left j < n) (g a i) (λ x j s. omega arith))

-- ---- tokens

pub passed_within : (i : Input) → left (passed i) ≤ left i
passed_within i = next_no_more i.remaining

pub after_within : (wanted : Lexeme) (r : Remaining) → token.left (token.after wanted r) ≤ token.left r
unfolding token.after
after_within wanted r = go (token.sees wanted r)
  where
    go : (t : Bool) → token.left (cond t (token.next r) r) ≤ token.left r
    go true = next_no_more r
    go false = omega arith

pub eat_keeps : (wanted : Lexeme) → Keeps (eat wanted)
unfolding eat
eat_keeps wanted i = after_within wanted i.remaining

pub expect_keeps : (more : ℕ) (wanted : Lexeme) → Keeps (expect more wanted)
unfolding expect
expect_keeps more wanted i = go (sees wanted i)
  where
    go : (t : Bool) → IfRead (if t then Ok (tt, passed i) else Err (refusal more i.remaining)) (λ (u : Unit {0}) j. left j ≤ left i)
    go true = passed_within i
    go false = tt

pub name_keeps : (k : Lexeme) → Keeps (name k)
name_keeps l.Quoted i = passed_within i
name_keeps _ i = passed_within i

fresh_keeps : (word : List ℕ) → Keeps (fresh word)
unfolding fresh
fresh_keeps word i = omega arith

numbered_keeps : (word : List ℕ) → Keeps (numbered word)
unfolding numbered
numbered_keeps word i = go (bytes_eq word (95 ∷ [])) (position (bytes_eq word) i.names)
  where
    known : (o : Option ℕ) → Within (left i) (known_or_new word o i)
    known (Some at) = omega arith
    known None = fresh_keeps word i

    go : (t : Bool) (o : Option ℕ) → Within (left i) ((if t then fresh [] i else known_or_new word o i))
    go true o = fresh_keeps [] i
    go false o = known o

-- a token that is no end is passed
pub passed_below : (i : Input) → token.lexeme i.remaining ≢ l.Finish → left (passed i) < left i
passed_below i h = next_fewer i.remaining h

pub variable_below : (i : Input) → token.lexeme i.remaining ≢ l.Finish → Below (left i) (variable i)
unfolding variable
variable_below i h = below_then (left i) (take_token i) numbered (passed_below i h) (λ word. numbered_keeps word)

-- ---- lists

turns_keep : {A : Type 0} (item : Parser Input A) → Keeps item → (n : ℕ) (found : List A) → Keeps (separated_from item n found)
unfolding separated_from
turns_keep item keeps zero found i = tt
turns_keep {A} item keeps (suc n) found i =
    within_then (left i) (item i) (λ x. eat l.Comma >>= (λ goes_on. if goes_on then separated_from item n (found ++ x ∷ []) else pure (found ++ x ∷ []))) (keeps i) (λ x j.
    within_then (left j) (eat l.Comma j) (λ goes_on. if goes_on then separated_from item n (found ++ x ∷ []) else pure (found ++ x ∷ [])) (eat_keeps l.Comma j) (λ goes_on. go x (turns_keep item keeps n (found ++ x ∷ [])) goes_on))
  where
    go : (x : A) → Keeps (separated_from item n (found ++ x ∷ [])) → (t : Bool) → Keeps (if t then separated_from item n (found ++ x ∷ []) else pure (found ++ x ∷ []))
    go x rest true j = rest j
    go x rest false j = omega arith

pub separated_keeps : {A : Type 0} (item : Parser Input A) → Keeps item → Keeps (separated item)
unfolding separated
separated_keeps item keeps i = turns_keep item keeps (left i) [] i
