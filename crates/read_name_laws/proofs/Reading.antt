-- What is read by the steps of rules: what remains is in UTF-8.
use Rattle.std.proofs.Common.{◌≡◌, ◌≢◌, ℕ, zero, suc, Bool, true, false, List, [], ◌∷◌, ◌++◌, if◌then◌else◌, IsUtf8, Option, Some, None, Ok, Err, refl, ap, subst}
use Rattle.std.proofs.lemmas.List.Elements.{All-nil, All-push}
use Rattle.std.specs.Prelude.{All, position}
use Rattle.std.specs.Str.{bytes_eq}
use denote.Enum.Bare.{same_true}
use Rattle.token_model.specs.contracts.token.Lexeme.{the_type}
use Rattle.token_model.specs.declared.token.Lexeme.{Lexeme}
use Rattle.token_model.specs.declared.token.Lexeme.TheVariants as l
use Rattle.token_model.specs.Parsers.{Outcome, Parser, and_then, ◌>>=◌, pure}
use Rattle.token_model.specs.Remaining as token
use Rattle.token_model.specs.Remaining.{Remaining, lexeme}
use Rattle.utf8_laws.proofs.Texts.{is_bad, next_of, after_is_text}
use Rattle.clp_grammar.specs.Input.{Input, passed, left, sees, refusal, eat, expect, separated, separated_from}
use Rattle.clp_grammar.specs.Names.{fresh, known_or_new, numbered, variable}

-- what was read, if there was no fault
abbrev pub IfRead : {A : Type 0} → Outcome Input A → (A → Input → Type 0) → Type 0
IfRead (Ok p) P = P p.0 p.1
IfRead (Err e) P = Unit {0}

-- what remains is in UTF-8
abbrev pub IsText : Input → Type 0
IsText i = IsUtf8 i.remaining.text

-- what is read has the property, and what remains is in UTF-8
abbrev pub Reads : {A : Type 0} → (A → Type 0) → Outcome Input A → Type 0
Reads P o = IfRead o (λ x j. IsText j × P x)

-- so it is wherever a text in UTF-8 remains
abbrev pub From : {A : Type 0} → (A → Type 0) → Parser Input A → Type 0
From P parser = (i : Input) → IsText i → Reads P (parser i)

-- or where such a token comes next
abbrev pub At : {A : Type 0} → Lexeme → (A → Type 0) → Parser Input A → Type 0
At k P parser = (i : Input) → IsText i → lexeme i.remaining ≡ k → Reads P (parser i)

abbrev pub Anything : {A : Type 0} → A → Type 0
Anything a = Unit {0}

pub then_read : {A B : Type 0} (P : A → Type 0) (Q : B → Type 0) (o : Outcome Input A) (f : A → Parser Input B) → Reads P o → ((a : A) → P a → From Q (f a)) → Reads Q (and_then o f)
then_read P Q (Ok p) f h g = g p.0 h.1 p.1 h.0
then_read P Q (Err e) f h g = tt

pub weaker : {A : Type 0} (P Q : A → Type 0) (o : Outcome Input A) → ((a : A) → P a → Q a) → Reads P o → Reads Q o
weaker P Q (Ok p) g h = (h.0, g p.0 h.1)
weaker P Q (Err e) g h = tt

pub told : {A : Type 0} (P : A → Type 0) (o : Outcome Input A) (a : A) (j : Input) → Reads P o → o ≡ Ok (a, j) → IsText j × P a
told P o a j h e = subst (Reads P) e h

pub from_pure : {A : Type 0} (P : A → Type 0) (a : A) → P a → From P (pure a)
from_pure P a h i u = (u, h)

-- ---- tokens

not_bad : (k : Lexeme) → is_bad k ≡ false → k ≢ l.Bad
not_bad k h e = let f : is_bad k ≡ true = ap is_bad e in cc

pub passed_text : (i : Input) (k : Lexeme) → IsText i → lexeme i.remaining ≡ k → is_bad k ≡ false → IsText (passed i)
passed_text i k u e h = next_of i.remaining k u e h

pub from_eat : (wanted : Lexeme) → is_bad wanted ≡ false → From Anything (eat wanted)
unfolding eat
from_eat wanted good i u = (after_is_text wanted i.remaining u (not_bad wanted good), tt)

pub seen : (wanted : Lexeme) (r : Remaining) → token.sees wanted r ≡ true → lexeme r ≡ wanted
unfolding token.sees token.same_lexeme
seen wanted r e = same_true the_type tt (lexeme r) wanted e

pub from_expect : (more : ℕ) (wanted : Lexeme) → is_bad wanted ≡ false → From Anything (expect more wanted)
unfolding expect
from_expect more wanted good i u = go (sees wanted i) refl
  where
    go : (t : Bool) → sees wanted i ≡ t → Reads {A = Unit {0}} Anything (if t then Ok (tt, passed i) else Err (refusal more i.remaining))
    go true e = (passed_text i wanted u (seen wanted i.remaining e) good, tt)
    go false e = tt

-- ---- variables

from_fresh : (word : List ℕ) → From Anything (fresh word)
unfolding fresh
from_fresh word i u = (u, tt)

from_known : (word : List ℕ) (o : Option ℕ) → From Anything (known_or_new word o)
from_known word (Some place) i u = (u, tt)
from_known word None i u = from_fresh word i u

from_numbered : (word : List ℕ) → From Anything (numbered word)
unfolding numbered
from_numbered word i u = go (bytes_eq word (95 ∷ []))
  where
    go : (t : Bool) → Reads Anything (if t then fresh [] i else known_or_new word (position (bytes_eq word) i.names) i)
    go true = from_fresh [] i u
    go false = from_known word (position (bytes_eq word) i.names) i u

pub at_variable : At l.Variable Anything variable
unfolding variable
at_variable i u e = from_numbered _ (passed i) (passed_text i l.Variable u e refl)

-- ---- lists

from_turns : {A : Type 0} (P : A → Type 0) (item : Parser Input A) → From P item → (turns : ℕ) (found : List A) → All P found → From (All P) (separated_from item turns found)
unfolding separated_from
from_turns P item gives zero found all i u = tt
from_turns {A} P item gives (suc turns) found all i u =
    then_read P (All P) (item i) (λ x. eat l.Comma >>= (λ goes_on. if goes_on then separated_from item turns (found ++ x ∷ []) else pure (found ++ x ∷ []))) (gives i u) (λ x p j v.
    then_read Anything (All P) (eat l.Comma j) (λ goes_on. if goes_on then separated_from item turns (found ++ x ∷ []) else pure (found ++ x ∷ [])) (from_eat l.Comma refl j v) (λ goes_on t.
    after (from_turns P item gives turns) x p goes_on))
  where
    after : ((found : List A) → All P found → From (All P) (separated_from item turns found)) → (x : A) → P x → (goes_on : Bool)
        → From (All P) (if goes_on then separated_from item turns (found ++ x ∷ []) else pure (found ++ x ∷ []))
    after rest x p true = rest (found ++ x ∷ []) (All-push P found x all p)
    after rest x p false = from_pure (All P) (found ++ x ∷ []) (All-push P found x all p)

pub from_separated : {A : Type 0} (P : A → Type 0) (item : Parser Input A) → From P item → From (All P) (separated item)
unfolding separated
from_separated {A} P item gives i u = from_turns P item gives (left i) [] (All-nil P) i u
