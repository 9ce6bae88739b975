-- Parsers over any state, and what a function that reads ensures of its parser.
use Rattle.std.specs.Prelude.{◌≡◌, Result, Ok, Err}
use Rattle.token_model.specs.declared.fault.Fault.{Fault}
use Rattle.token_model.specs.declared.fault.ReadError.{ReadError}
use Rattle.token_model.specs.declared.fault.ReadError.TheVariants as error

-- what was read and the state after it, or the first fault
abbrev pub Outcome : Type 0 → Type 0 → Type 0
Outcome S A = Result (A × S) Fault

abbrev pub Parser : Type 0 → Type 0 → Type 0
Parser S A = S → Outcome S A

-- goes on with what was read
abbrev pub and_then : {S A B : Type 0} → Outcome S A → (A → Parser S B) → Outcome S B
and_then (Ok p) f = f p.0 p.1
and_then (Err e) f = Err e

infixl 10 ◌>>=◌
abbrev pub ◌>>=◌ : {S A B : Type 0} → Parser S A → (A → Parser S B) → Parser S B
p >>= f = λ s. and_then (p s) f

infixl 10 ◌>>◌
abbrev pub ◌>>◌ : {S A B : Type 0} → Parser S A → Parser S B → Parser S B
p >> q = p >>= (λ _. q)

-- reads nothing
abbrev pub pure : {S A : Type 0} → A → Parser S A
pure a = λ s. Ok (a, s)

infixr 11 ◌<$>◌
abbrev pub ◌<$>◌ : {S A B : Type 0} → (A → B) → Parser S A → Parser S B
f <$> p = p >>= (λ a. pure (f a))

-- what was read, or the first fault
abbrev pub value_of : {S A : Type 0} → Outcome S A → Result A Fault
value_of (Ok p) = Ok p.0
value_of (Err e) = Err e

-- the error is the fault of this outcome; want of memory claims nothing
abbrev pub Fails : {S A : Type 0} → Outcome S A → ReadError → Type 0
Fails outcome (error.Fault f) = outcome ≡ Err f
Fails outcome error.NoMemory = Unit {0}

-- the result and the new state are this outcome, unless memory failed
abbrev pub Reads : {S A : Type 0} → Outcome S A → Result A ReadError → S → Type 0
Reads outcome (Ok a) new = outcome ≡ Ok (a, new)
Reads outcome (Err e) new = Fails outcome e

-- the result and the new state are this outcome, where no memory is taken
abbrev pub ReadsExactly : {S A : Type 0} → Outcome S A → Result A Fault → S → Type 0
ReadsExactly outcome (Ok a) new = outcome ≡ Ok (a, new)
ReadsExactly outcome (Err f) new = outcome ≡ Err f

-- the result of reading a whole text is this one, unless memory failed
abbrev pub Gives : {A : Type 0} → Result A Fault → Result A ReadError → Type 0
Gives outcome (Ok a) = outcome ≡ Ok a
Gives outcome (Err (error.Fault f)) = outcome ≡ Err f
Gives outcome (Err error.NoMemory) = Unit {0}
