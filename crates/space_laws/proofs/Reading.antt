-- What is read from texts of the same tokens, by the steps of rules.
use Rattle.std.proofs.Common.{◌≡◌, ◌+◌, ℕ, zero, suc, Bool, true, false, List, [], ◌∷◌, ◌++◌, length, cond, if◌then◌else◌, Some, None, Ok, Err, refl, ap, ◌∙◌, sym, subst, arith}
use Rattle.std.proofs.lemmas.List.{map-append}
use Rattle.std.specs.Prelude.{Option, map, position}
use Rattle.std.specs.Str.{bytes_eq}
use Rattle.token_model.specs.declared.token.Lexeme.{Lexeme}
use Rattle.token_model.specs.declared.token.Lexeme.TheVariants as l
use Rattle.token_model.specs.declared.fault.Kind.{Kind}
use Rattle.token_model.specs.declared.fault.Kind.TheVariants.{TooDeep}
use Rattle.token_model.specs.Parsers.{Outcome, Parser, and_then, ◌>>=◌, pure}
use Rattle.token_model.specs.Remaining as token
use Rattle.token_model.specs.Remaining.{Remaining, lexeme, spelling, next, same_lexeme}
use Rattle.token_cursor.specs.Escapes.{name_by}
use Rattle.clp_grammar.specs.Input.{Input, max_open, passed, left, sees, is_opening, refusal, expect, eat, name, separated, separated_from}
use Rattle.clp_grammar.specs.Names.{fresh, known_or_new, numbered, variable}
use Rattle.turn_laws.proofs.Reading.{Takes}
use Rattle.turn_laws.proofs.Turns.{RefusesEnd, separated_turns}
use Rattle.space_laws.specs.Same.{Matches}
use Rattle.space_laws.specs.Moved.{moved_fault}

-- texts of the same tokens remain, and the same variables were named
pub record SameInput (to : ℕ → ℕ) (i j : Input) : Type 0 where
  pub names : i.names ≡ j.names
  pub remaining : Matches to i.remaining j.remaining

-- The second outcome is the first at other places: `at` gives a value its other places.
abbrev pub Alike : {A : Type 0} → (ℕ → ℕ) → (A → A) → Outcome Input A → Outcome Input A → Type 0
Alike to at (Ok p) (Ok q) = (q.0 ≡ at p.0) × SameInput to p.1 q.1
Alike to at (Err e) (Err f) = f ≡ moved_fault to e
Alike to at (Ok p) (Err f) = ⊥
Alike to at (Err e) (Ok q) = ⊥

-- so it is wherever texts of the same tokens remain
abbrev pub SameRule : {A : Type 0} → (ℕ → ℕ) → (A → A) → Parser Input A → Parser Input A → Type 0
SameRule to at p q = (i j : Input) → SameInput to i j → Alike to at (p i) (q j)

-- a value without places
abbrev pub unplaced : {A : Type 0} → A → A
unplaced a = a

module _ (to : ℕ → ℕ) where
  pub alike_then : {A B : Type 0} (at : A → A) (on : B → B) (o u : Outcome Input A) (f g : A → Parser Input B) → Alike to at o u → ((a b : A) → b ≡ at a → SameRule to on (f a) (g b)) → Alike to on (and_then o f) (and_then u g)
  alike_then at on (Ok p) (Ok q) f g same rest = rest p.0 q.0 same.0 p.1 q.1 same.1
  alike_then at on (Err e) (Err k) f g same rest = same
  alike_then at on (Ok p) (Err k) f g same rest = absurd same
  alike_then at on (Err e) (Ok q) f g same rest = absurd same

  -- ---- tokens

  pub matches_next : (r s : Remaining) → Matches to r s → Matches to (next r) (next s)
  matches_next r s h = record { tokens = λ n. h.tokens (suc n); places = λ n. h.places (suc n) }

  pub matches_lexeme : (r s : Remaining) → Matches to r s → lexeme r ≡ lexeme s
  matches_lexeme r s h = (h.tokens 0).lexeme

  pub matches_left : (r s : Remaining) → Matches to r s → to (token.left r) ≡ token.left s
  matches_left r s h = h.places 0

  pub matches_sees : (wanted : Lexeme) (r s : Remaining) → Matches to r s → token.sees wanted r ≡ token.sees wanted s
  unfolding token.sees
  matches_sees wanted r s h = ap (λ (k : Lexeme). same_lexeme k wanted) (matches_lexeme r s h)

  pub matches_after : (wanted : Lexeme) (r s : Remaining) → Matches to r s → Matches to (token.after wanted r) (token.after wanted s)
  unfolding token.after
  matches_after wanted r s h = subst (λ (t : Bool). Matches to (cond (token.sees wanted r) (next r) r) (cond t (next s) s)) (matches_sees wanted r s h) (go (token.sees wanted r))
    where
      go : (t : Bool) → Matches to (cond t (next r) r) (cond t (next s) s)
      go true = matches_next r s h
      go false = h

  pub fault_same : (kind : Kind) (r s : Remaining) → Matches to r s → token.fault_at kind s ≡ moved_fault to (token.fault_at kind r)
  unfolding token.fault_at
  fault_same kind r s h = ap (λ (p : ℕ). record { left = p; kind = kind }) (sym (matches_left r s h))

  pub token_refusal_same : (r s : Remaining) → Matches to r s → token.refusal s ≡ moved_fault to (token.refusal r)
  unfolding token.refusal
  token_refusal_same r s h = ap (λ (k : Lexeme). token.fault_at (token.reason k) s) (sym (matches_lexeme r s h)) ∙ fault_same (token.reason (lexeme r)) r s h

  pub refusal_same : (more : ℕ) (r s : Remaining) → Matches to r s → refusal more s ≡ moved_fault to (refusal more r)
  unfolding refusal
  refusal_same zero r s h = ap (λ (k : Lexeme). if is_opening k then token.fault_at TooDeep s else token.refusal s) (sym (matches_lexeme r s h)) ∙ go (is_opening (lexeme r))
    where
      go : (t : Bool) → (if t then token.fault_at TooDeep s else token.refusal s) ≡ moved_fault to (if t then token.fault_at TooDeep r else token.refusal r)
      go true = fault_same TooDeep r s h
      go false = token_refusal_same r s h
  refusal_same (suc more) r s h = token_refusal_same r s h

  -- ---- steps

  pub same_passed : (i j : Input) → SameInput to i j → SameInput to (passed i) (passed j)
  same_passed i j h = record { names = h.names; remaining = matches_next i.remaining j.remaining h.remaining }

  pub same_left : (i j : Input) → SameInput to i j → to (left i) ≡ left j
  same_left i j h = matches_left i.remaining j.remaining h.remaining

  -- by the token that comes next
  pub by_lexeme : {A : Type 0} (at : A → A) (f g : Lexeme → Parser Input A) (i j : Input) → SameInput to i j → ((k : Lexeme) → Alike to at (f k i) (g k j)) → Alike to at (f (lexeme i.remaining) i) (g (lexeme j.remaining) j)
  by_lexeme at f g i j h same = subst (λ (k : Lexeme). Alike to at (f (lexeme i.remaining) i) (g k j)) (matches_lexeme i.remaining j.remaining h.remaining) (same (lexeme i.remaining))

  pub by_sees : {A : Type 0} (at : A → A) (wanted : Lexeme) (f g : Bool → Parser Input A) (i j : Input) → SameInput to i j → ((t : Bool) → Alike to at (f t i) (g t j)) → Alike to at (f (sees wanted i) i) (g (sees wanted j) j)
  by_sees at wanted f g i j h same = subst (λ (t : Bool). Alike to at (f (sees wanted i) i) (g t j)) (matches_sees wanted i.remaining j.remaining h.remaining) (same (sees wanted i))

  pub pure_same : {A : Type 0} (at : A → A) (a b : A) → b ≡ at a → SameRule to at (pure a) (pure b)
  pure_same at a b e i j h = (e, h)

  pub refuse_same : {A : Type 0} (at : A → A) (more : ℕ) (i j : Input) → SameInput to i j → Alike {A = A} to at (Err (refusal more i.remaining)) (Err (refusal more j.remaining))
  refuse_same at more i j h = refusal_same more i.remaining j.remaining h.remaining

  pub eat_same : (wanted : Lexeme) → SameRule to unplaced (eat wanted) (eat wanted)
  unfolding eat
  eat_same wanted i j h = (sym (matches_sees wanted i.remaining j.remaining h.remaining), record { names = h.names; remaining = matches_after wanted i.remaining j.remaining h.remaining })

  pub expect_same : (more : ℕ) (wanted : Lexeme) → SameRule to unplaced (expect more wanted) (expect more wanted)
  unfolding expect
  expect_same more wanted i j h = by_sees {A = Unit {0}} unplaced wanted (λ t i. if t then Ok (tt, passed i) else Err (refusal more i.remaining)) (λ t j. if t then Ok (tt, passed j) else Err (refusal more j.remaining)) i j h (λ t. go t)
    where
      go : (t : Bool) → Alike {A = Unit {0}} to unplaced (if t then Ok (tt, passed i) else Err (refusal more i.remaining)) (if t then Ok (tt, passed j) else Err (refusal more j.remaining))
      go true = (refl, same_passed i j h)
      go false = refusal_same more i.remaining j.remaining h.remaining

  pub spelling_same : (i j : Input) → SameInput to i j → spelling j.remaining ≡ spelling i.remaining
  spelling_same i j h = sym ((h.remaining.tokens 0).spelling)

  pub name_same : (k : Lexeme) → SameRule to unplaced (name k) (name k)
  name_same k i j h = (ap (name_by k) (spelling_same i j h), same_passed i j h)

  fresh_same : (word : List ℕ) → SameRule to unplaced (fresh word) (fresh word)
  unfolding fresh
  fresh_same word i j h =
      (ap (λ (ns : List (List ℕ)). length ns + 1) (sym h.names), record { names = ap (λ (ns : List (List ℕ)). ns ++ word ∷ []) h.names; remaining = h.remaining })

  numbered_same : (word : List ℕ) → SameRule to unplaced (numbered word) (numbered word)
  unfolding numbered
  numbered_same word i j h = go (bytes_eq word (95 ∷ []))
    where
      known : (o : Option ℕ) → Alike to unplaced (known_or_new word o i) (known_or_new word o j)
      known (Some at) = (refl, h)
      known None = fresh_same word i j h

      go : (t : Bool) → Alike to unplaced ((if t then fresh [] i else known_or_new word (position (bytes_eq word) i.names) i)) ((if t then fresh [] j else known_or_new word (position (bytes_eq word) j.names) j))
      go true = fresh_same [] i j h
      go false = subst (λ (ns : List (List ℕ)). Alike to unplaced (known_or_new word (position (bytes_eq word) i.names) i) (known_or_new word (position (bytes_eq word) ns) j)) h.names (known (position (bytes_eq word) i.names))

  pub variable_same : SameRule to unplaced variable variable
  unfolding variable
  variable_same i j h =
      subst (λ (w : List ℕ). Alike to unplaced (numbered (spelling i.remaining) (passed i)) (numbered w (passed j))) (sym (spelling_same i j h)) (numbered_same (spelling i.remaining) (passed i) (passed j) (same_passed i j h))

  -- ---- lists

  -- one more, which are the same at other places
  pub pushed_same : {A : Type 0} (at : A → A) (xs ys : List A) (x y : A) → ys ≡ map at xs → y ≡ at x → ys ++ y ∷ [] ≡ map at (xs ++ x ∷ [])
  pushed_same {A} at xs ys x y e f = ap (λ (zs : List A). zs ++ y ∷ []) e ∙ (ap (λ (z : A). map at xs ++ z ∷ []) f ∙ sym (map-append at xs (x ∷ [])))

  module _ {A : Type 0} (at : A → A) (item : Parser Input A) (same : SameRule to at item item) where
    turns_same : (n : ℕ) (xs ys : List A) → ys ≡ map at xs → SameRule to (map at) (separated_from item n xs) (separated_from item n ys)
    unfolding separated_from
    turns_same zero xs ys e i j h = refusal_same max_open i.remaining j.remaining h.remaining
    turns_same (suc n) xs ys e i j h =
        alike_then at (map at) (item i) (item j) (λ x. eat l.Comma >>= (λ goes_on. if goes_on then separated_from item n (xs ++ x ∷ []) else pure (xs ++ x ∷ []))) (λ y. eat l.Comma >>= (λ goes_on. if goes_on then separated_from item n (ys ++ y ∷ []) else pure (ys ++ y ∷ []))) (same i j h) (λ x y f k m g.
        alike_then unplaced (map at) (eat l.Comma k) (eat l.Comma m) (λ goes_on. if goes_on then separated_from item n (xs ++ x ∷ []) else pure (xs ++ x ∷ [])) (λ goes_on. if goes_on then separated_from item n (ys ++ y ∷ []) else pure (ys ++ y ∷ [])) (eat_same l.Comma k m g) (λ t u p.
        subst (λ (v : Bool). SameRule to (map at) (if t then separated_from item n (xs ++ x ∷ []) else pure (xs ++ x ∷ [])) (if v then separated_from item n (ys ++ y ∷ []) else pure (ys ++ y ∷ []))) (sym p)
        (go (xs ++ x ∷ []) (ys ++ y ∷ []) (pushed_same at xs ys x y e f) (turns_same n (xs ++ x ∷ []) (ys ++ y ∷ []) (pushed_same at xs ys x y e f)) t)))
      where
        go : (more others : List A) → others ≡ map at more → SameRule to (map at) (separated_from item n more) (separated_from item n others) → (t : Bool)
            → SameRule to (map at) (if t then separated_from item n more else pure more) (if t then separated_from item n others else pure others)
        go more others e rest true = rest
        go more others e rest false = pure_same (map at) more others e

    pub separated_same : Takes item → RefusesEnd item → SameRule to (map at) (separated item) (separated item)
    unfolding separated
    separated_same takes refuses i j h =
        let n : ℕ = left i + left j in
        subst (λ (o : Outcome Input (List A)). Alike to (map at) o (separated_from item (left j) [] j)) (separated_turns item takes refuses (left i) n [] i (omega arith) (omega arith))
        (subst (λ (o : Outcome Input (List A)). Alike to (map at) (separated_from item n [] i) o) (separated_turns item takes refuses (left j) n [] j (omega arith) (omega arith))
        (turns_same n [] [] refl i j h))
