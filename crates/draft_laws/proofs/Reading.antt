-- What is read by the steps of rules: the text gets shorter, and variables are added.
use Rattle.std.proofs.Common.{◌≡◌, ◌<◌, ◌≤◌, ◌^◌, ◌+◌, ℕ, zero, suc, Bool, true, false, List, [], ◌∷◌, ◌++◌, length, cond, if◌then◌else◌, Some, None, Ok, Err, refl, subst, arith, length-append}
use Rattle.std.proofs.lemmas.List.Elements.{All-nil, All-push, All-weaker}
use Rattle.std.proofs.lemmas.Bool.Decides.{nat_tests}
use Rattle.std.specs.Prelude.{All, nat_lt, position}
use Rattle.std.specs.List.{position_or_len}
use Rattle.std.specs.Str.{bytes_eq}
use Rattle.token_model.specs.declared.token.Lexeme.{Lexeme}
use Rattle.token_model.specs.declared.token.Lexeme.TheVariants as l
use Rattle.token_model.specs.Parsers.{Outcome, Parser, and_then, ◌>>=◌, ◌<$>◌, pure}
use Rattle.token_model.specs.Remaining as token
use Rattle.token_model.specs.Remaining.{Remaining}
use Rattle.token_cursor.proofs.Spelled.{next_within, left_within}
use Rattle.clp_grammar.specs.Input.{Input, passed, left, sees, refusal, here, pass, eat, expect, take_token, separated, separated_from}
use Rattle.clp_grammar.specs.Names.{fresh, known_or_new, numbered, variable}
use Rattle.draft_laws.specs.Formed.{IsNumbered}

-- what was read, if there was no fault
abbrev pub IfRead : {A : Type 0} → Outcome Input A → (A → Input → Type 0) → Type 0
IfRead (Ok p) P = P p.0 p.1
IfRead (Err e) P = Unit {0}

pub then_read : {A B : Type 0} (o : Outcome Input A) (f : A → Parser Input B) (P : A → Input → Type 0) (Q : B → Input → Type 0) → IfRead o P → ((a : A) (i : Input) → P a i → IfRead (f a i) Q) → IfRead (and_then o f) Q
then_read (Ok p) f P Q h g = g p.0 p.1 h
then_read (Err e) f P Q h g = tt

pub further : {A : Type 0} (o : Outcome Input A) (P Q : A → Input → Type 0) → IfRead o P → ((a : A) (i : Input) → P a i → Q a i) → IfRead o Q
further (Ok p) P Q h g = g p.0 p.1 h
further (Err e) P Q h g = tt

pub told : {A : Type 0} (o : Outcome Input A) (P : A → Input → Type 0) (a : A) (j : Input) → IfRead o P → o ≡ Ok (a, j) → P a j
told o P a j h e = subst (λ (z : Outcome Input _). IfRead z P) e h

-- the text gets no longer, and variables are only added
pub record Goes (i j : Input) : Type 0 where
  pub text : length j.remaining.text ≤ length i.remaining.text
  pub names : length i.names ≤ length j.names

pub stays : (i : Input) → Goes i i
stays i = record { text = omega arith; names = omega arith }

pub goes : (i j k : Input) → Goes i j → Goes j k → Goes i k
goes i j k g h = record { text = omega (arith, g.text, h.text); names = omega (arith, g.names, h.names) }

pub goes_next : (i : Input) → Goes i (passed i)
goes_next i = record { text = next_within i.remaining; names = omega arith }

-- What holds of each value that is read where so many variables are named at least; it holds for as many as are named
-- then.
abbrev pub From : {A : Type 0} → ℕ → (ℕ → A → Type 0) → Parser Input A → Type 0
From n P parser = (i : Input) → length i.remaining.text < 2 ^ 32 → n ≤ length i.names → IfRead (parser i) (λ x j. Goes i j × P (length j.names) x)

-- and where any number are
abbrev pub Gives : {A : Type 0} → (ℕ → A → Type 0) → Parser Input A → Type 0
Gives P parser = (n : ℕ) → From n P parser

abbrev pub Anything : {A : Type 0} → ℕ → A → Type 0
Anything n a = Unit {0}

-- what holds for so many variables holds for more
abbrev pub Grows : {A : Type 0} → (ℕ → A → Type 0) → Type 0
Grows {A} P = (m n : ℕ) → m ≤ n → (x : A) → P m x → P n x

pub from_then : {A B : Type 0} (n : ℕ) (P : ℕ → A → Type 0) (Q : ℕ → B → Type 0) (parser : Parser Input A) (f : A → Parser Input B) → From n P parser → ((m : ℕ) → n ≤ m → (a : A) → P m a → From m Q (f a)) → From n Q (parser >>= f)
from_then n P Q parser f h g i short named =
    then_read (parser i) f (λ x j. Goes i j × P (length j.names) x) (λ y j. Goes i j × Q (length j.names) y) (h i short named) (λ a j r.
    further (f a j) (λ y k. Goes j k × Q (length k.names) y) (λ y k. Goes i k × Q (length k.names) y) (g (length j.names) (omega (arith, named, r.0.names)) a r.1 j (omega (arith, short, r.0.text)) (omega arith)) (λ y k s.
    (goes i j k r.0 s.0, s.1)))

-- the same, where the first parser begins at another place than the rule does
pub at_then : {A B : Type 0} (n : ℕ) (P : ℕ → A → Type 0) (Q : ℕ → B → Type 0) (parser : Parser Input A) (f : A → Parser Input B) (i j : Input) → Goes i j → length i.remaining.text < 2 ^ 32 → n ≤ length i.names → From n P parser
    → ((m : ℕ) → n ≤ m → (a : A) → P m a → From m Q (f a)) → IfRead (and_then (parser j) f) (λ y k. Goes i k × Q (length k.names) y)
at_then n P Q parser f i j g short named h next =
    further (and_then (parser j) f) (λ y k. Goes j k × Q (length k.names) y) (λ y k. Goes i k × Q (length k.names) y)
    (from_then n P Q parser f h next j (omega (arith, short, g.text)) (omega (arith, named, g.names))) (λ y k r. (goes i j k g r.0, r.1))

-- a value that is known beforehand
pub from_pure : {A : Type 0} (n : ℕ) (P : ℕ → A → Type 0) (a : A) → ((m : ℕ) → n ≤ m → P m a) → From n P (pure a)
from_pure n P a h i short named = (stays i, h (length i.names) named)

pub from_known_value : {A : Type 0} (n : ℕ) (P : ℕ → A → Type 0) → Grows P → (a : A) → P n a → From n P (pure a)
from_known_value n P grows a h = from_pure n P a (λ m w. grows n m w a h)

pub from_map : {A B : Type 0} (n : ℕ) (P : ℕ → A → Type 0) (Q : ℕ → B → Type 0) (f : A → B) (parser : Parser Input A) → From n P parser → ((m : ℕ) → n ≤ m → (a : A) → P m a → Q m (f a)) → From n Q (f <$> parser)
from_map n P Q f parser h g i short named =
    then_read (parser i) (λ a. pure (f a)) (λ x j. Goes i j × P (length j.names) x) (λ y j. Goes i j × Q (length j.names) y) (h i short named) (λ a j r.
    (r.0, g (length j.names) (omega (arith, named, r.0.names)) a r.1))

-- ---- tokens

pub from_here : (n : ℕ) → From n Anything here
from_here n i short named = (stays i, tt)

pub from_pass : (n : ℕ) → From n Anything pass
from_pass n i short named = (goes_next i, tt)

after_within : (wanted : Lexeme) (r : Remaining) → length (token.after wanted r).text ≤ length r.text
unfolding token.after
after_within wanted r = go (token.sees wanted r)
  where
    go : (t : Bool) → length (cond t (token.next r) r).text ≤ length r.text
    go true = next_within r
    go false = omega arith

pub from_eat : (n : ℕ) (wanted : Lexeme) → From n Anything (eat wanted)
unfolding eat
from_eat n wanted i short named = (record { text = after_within wanted i.remaining; names = omega arith }, tt)

pub from_expect : (n more : ℕ) (wanted : Lexeme) → From n Anything (expect more wanted)
unfolding expect
from_expect n more wanted i short named = go (sees wanted i)
  where
    go : (t : Bool) → IfRead (if t then Ok (tt, passed i) else Err (refusal more i.remaining)) (λ (u : Unit {0}) j. Goes i j × Unit {0})
    go true = (goes_next i, tt)
    go false = tt

-- ---- variables

from_fresh : (n : ℕ) (word : List ℕ) → From n IsNumbered (fresh word)
unfolding fresh
from_fresh n word i short named =
    let e = length-append i.names (word ∷ []) in
    (record { text = omega arith; names = omega (arith, e) }, (omega arith, omega (arith, e)))

from_known : (n : ℕ) (word : List ℕ) (i : Input) (place : ℕ) (t : Bool) → nat_lt place (length i.names) ≡ t → length i.remaining.text < 2 ^ 32 → n ≤ length i.names
    → IfRead (known_or_new word (cond t (Some place) None) i) (λ k j. Goes i j × IsNumbered (length j.names) k)
from_known n word i place true e short named = (stays i, (omega arith, grind (arith, nat_tests)))
from_known n word i place false e short named = from_fresh n word i short named

from_numbered : (n : ℕ) (word : List ℕ) → From n IsNumbered (numbered word)
unfolding numbered
from_numbered n word i short named = go (bytes_eq word (95 ∷ []))
  where
    place : ℕ
    place = position_or_len (bytes_eq word) i.names

    go : (t : Bool) → IfRead ((if t then fresh [] i else known_or_new word (position (bytes_eq word) i.names) i)) (λ k j. Goes i j × IsNumbered (length j.names) k)
    go true = from_fresh n [] i short named
    go false = from_known n word i place (nat_lt place (length i.names)) refl short named

pub from_variable : (n : ℕ) → From n IsNumbered variable
unfolding variable
from_variable n = from_then n Anything IsNumbered take_token numbered (λ i short named. (goes_next i, tt)) (λ m w word u. from_numbered m word)

-- ---- lists

-- fewer than 2^32 of these
abbrev pub AreFew : {A : Type 0} → (ℕ → A → Type 0) → ℕ → List A → Type 0
AreFew P m xs = All (P m) xs × (length xs < 2 ^ 32)

from_turns : {A : Type 0} (P : ℕ → A → Type 0) (item : Parser Input A) → Grows P → Gives P item → (turns n : ℕ) (found : List A) → All (P n) found → length found + turns < 2 ^ 32 → From n (AreFew P) (separated_from item turns found)
unfolding separated_from
from_turns P item grows gives zero n found all few = λ i short named. tt
from_turns {A} P item grows gives (suc turns) n found all few =
    from_then n P (AreFew P) item (λ x. eat l.Comma >>= (λ goes_on. if goes_on then separated_from item turns (found ++ x ∷ []) else pure (found ++ x ∷ []))) (gives n) (λ m w x p.
    from_then m Anything (AreFew P) (eat l.Comma) (λ goes_on. if goes_on then separated_from item turns (found ++ x ∷ []) else pure (found ++ x ∷ [])) (from_eat m l.Comma) (λ k v goes_on u.
    after (from_turns P item grows gives turns k) x (grows m k v x p) (All-weaker (P n) (P k) (λ y q. grows n k (omega (arith, w, v)) y q) found all) goes_on))
  where
    after : {k : ℕ} → ((found : List A) → All (P k) found → length found + turns < 2 ^ 32 → From k (AreFew P) (separated_from item turns found)) → (x : A) → P k x → All (P k) found → (goes_on : Bool)
        → From k (AreFew P) (if goes_on then separated_from item turns (found ++ x ∷ []) else pure (found ++ x ∷ []))
    after {k} rest x p old true = rest (found ++ x ∷ []) (All-push (P k) found x old p) (omega (arith, few, length-append found (x ∷ [])))
    after {k} rest x p old false =
        from_pure k (AreFew P) (found ++ x ∷ []) (λ m w. (All-weaker (P k) (P m) (λ y q. grows k m w y q) (found ++ x ∷ []) (All-push (P k) found x old p), omega (arith, few, length-append found (x ∷ []))))

pub from_separated : {A : Type 0} (P : ℕ → A → Type 0) (item : Parser Input A) → Grows P → Gives P item → Gives (AreFew P) (separated item)
unfolding separated
from_separated {A} P item grows gives n i short named =
    from_turns P item grows gives (left i) n [] (All-nil (P n)) (omega (arith, short, left_within i.remaining)) i short named
