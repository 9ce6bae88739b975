-- Worked examples of the first fault of a text.
use Rattle.std.specs.Prelude.{◌≡◌, ℕ, ◌-◌, List, length, codes, Err}
use Rattle.token_model.specs.declared.fault.Kind.{Kind}
use Rattle.token_model.specs.declared.fault.Kind.TheVariants as kind
use Rattle.clp_grammar.specs.Grammar.{program, goal_text}

-- the fault of this kind stands at this byte
abbrev pub FailsAt : List ℕ → ℕ → Kind → Type 0
FailsAt text at k = program text ≡ Err (record { left = length text - at; kind = k })

-- of `X*Y` and not of `Z/0`, which comes later
abbrev pub ProductOfVariables : Type 0
ProductOfVariables = FailsAt (codes "p(X*Y, Z/0).") 3 kind.NotLinear

-- grammar comes before atoms, atoms before evaluation
abbrev pub NoAtom : Type 0
NoAtom = FailsAt (codes "p(1/0) :- q, (X).") 13 kind.NotAnAtom

abbrev pub ReservedHead : Type 0
ReservedHead = FailsAt (codes "q. (true) :- 3.") 3 kind.Reserved

-- variables that cancel leave a constant
abbrev pub ZeroDivisor : Type 0
ZeroDivisor = FailsAt (codes "p :- {X = Y/(X-X)}.") 11 kind.ZeroDivisor

-- in braces only `num` of a variable stands without relation
abbrev pub LooseBrace : Type 0
LooseBrace = FailsAt (codes "p :- {num((X))}.") 14 kind.Unexpected

-- at the operator whose result is out of range
abbrev pub SumOutOfRange : Type 0
SumOutOfRange = FailsAt (codes "p(2*3, 9223372036854775807 + 1).") 27 kind.NumberTooLarge

-- the end may be missing, but nothing may follow it
abbrev pub BehindGoal : Type 0
BehindGoal = goal_text (codes "p(X) :- X = 3. q") ≡ Err (record { left = 1; kind = kind.Unexpected })
