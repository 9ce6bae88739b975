-- What is known of each value that a parser reads.
use Rattle.std.proofs.Common.{◌≡◌, ℕ, ◌≤◌, Bool, true, false, refl, arith, Result, Ok, Err}
use Rattle.std.proofs.lemmas.Bool.{and_parts}
use Rattle.std.proofs.lemmas.Bool.Decides.{nat_tests}
use Rattle.std.specs.Prelude.{◌&&◌, nat_le, if◌then◌else◌}
use Rattle.token_model.specs.declared.token.Lexeme.TheVariants as l
use Rattle.token_model.specs.declared.fault.Kind.{Kind}
use Rattle.token_model.specs.Numbers.{number_value}
use Rattle.token_model.specs.Remaining.{Remaining, spelling, next, sees, fault_at, refusal}
use Rattle.token_model.specs.Parsers.{Parser, Outcome, and_then, ◌>>=◌, pure}
use Rattle.clp_grammar.specs.Evaluation.{with_value}
use Rattle.script_grammar.specs.Fields.{number_within}

-- ---- results

-- the value, if there is one, is such a one
abbrev pub IfOk : {A E : Type 0} → (A → Type 0) → Result A E → Type 0
IfOk P (Ok a) = P a
IfOk P (Err e) = Unit {0}

pub with_it : {A B E : Type 0} (P : A → Type 0) (Q : B → Type 0) (outcome : Result A E) (f : A → Result B E) → IfOk P outcome → ((a : A) → P a → IfOk Q (f a)) → IfOk Q (with_value outcome f)
with_it P Q (Ok a) f h k = k a h
with_it P Q (Err e) f h k = tt

pub chosen_ok : {A E : Type 0} (P : A → Type 0) (t : Bool) (a : A) (e : E) → P a → IfOk P (if t then Ok a else Err e)
chosen_ok P true a e h = h
chosen_ok P false a e h = tt

pub taken : {A E : Type 0} (P : A → Type 0) (outcome : Result A E) (a : A) → IfOk P outcome → outcome ≡ Ok a → P a
taken P outcome a h e = rw e at h

-- ---- parsers

-- each value that it reads is such a one
pub record Gives {A : Type 0} (P : A → Type 0) (p : Parser Remaining A) : Type 0 where
  pub is : (r : Remaining) → IfOk (λ (x : A × Remaining). P x.0) (p r)

pub gives_then : {A B : Type 0} {P : A → Type 0} {Q : B → Type 0} {p : Parser Remaining A} (f : A → Parser Remaining B) → Gives P p → ((a : A) → P a → Gives Q (f a)) → Gives Q (p >>= f)
gives_then {A} {P} {Q} {p} f first second = record { is = λ r. go (p r) (first.is r) }
  where
    go : (o : Outcome Remaining A) → IfOk (λ x. P x.0) o → IfOk (λ x. Q x.0) (and_then o f)
    go (Ok x) h = (second x.0 h).is x.1
    go (Err e) h = tt

pub gives_this : {A : Type 0} {P : A → Type 0} (a : A) → P a → Gives P (pure a)
gives_this a h = record { is = λ r. h }

abbrev pub Any : {A : Type 0} → A → Type 0
Any a = Unit {0}

pub gives_any : {A : Type 0} (p : Parser Remaining A) → Gives Any p
gives_any {A} p = record { is = λ r. go (p r) }
  where
    go : (o : Outcome Remaining A) → IfOk (λ x. Any x.0) o
    go (Ok x) = tt
    go (Err e) = tt

-- the ways of a choice
pub gives_either : {A : Type 0} {P : A → Type 0} (test : Remaining → Bool) (p q : Parser Remaining A) → Gives P p → Gives P q → Gives P (λ r. if test r then p r else q r)
gives_either {P} test p q h g = record { is = λ r. go r (test r) }
  where
    go : (r : Remaining) (t : Bool) → IfOk (λ x. P x.0) (if t then p r else q r)
    go r true = h.is r
    go r false = g.is r

-- ---- numbers

at_most : (a b : ℕ) → nat_le a b ≡ true → a ≤ b
at_most a b h = grind (arith, nat_tests)

pub gives_within : (low high : ℕ) (other : Kind) → Gives (λ n. (low ≤ n) × (n ≤ high)) (number_within low high other)
unfolding number_within
gives_within low high other = record { is = λ r. go r (sees l.Number r) (number_value (spelling r)) (nat_le low (number_value (spelling r)) && nat_le (number_value (spelling r)) high) refl }
  where
    go : (r : Remaining) (t : Bool) (n : ℕ) (u : Bool) → (nat_le low n && nat_le n high) ≡ u
        → IfOk (λ (x : ℕ × Remaining). (low ≤ x.0) × (x.0 ≤ high)) (if t then (if u then Ok (n, next r) else Err (fault_at other r)) else Err (refusal r))
    go r true n true e = let both = and_parts (nat_le low n) (nat_le n high) e in (at_most low n both.0, at_most n high both.1)
    go r true n false e = tt
    go r false n u e = tt
