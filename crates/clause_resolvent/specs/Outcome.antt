-- What a resolvent is refused for.
use Rattle.std.specs.Prelude.{◌≡◌, Option, Err}
use Rattle.clp_model.specs.Clauses.{Clause as Meaning}
use Rattle.clause_model.specs.Canonical.{Overflow, TooLarge}
use Rattle.clause_model.specs.Load.{loaded_solved}
use Rattle.clause_store.specs.declared.fault.ClauseFault.{ClauseFault}
use Rattle.clause_store.specs.declared.fault.ClauseFault.TheVariants as fault

-- the fault is the one for which the new clause is refused, or want of memory
abbrev pub IsRefusedResolvent : Option Meaning → ClauseFault → Type 0
IsRefusedResolvent o fault.Overflow = loaded_solved o ≡ Err Overflow
IsRefusedResolvent o (fault.TooLarge limit) = loaded_solved o ≡ Err (TooLarge limit)
IsRefusedResolvent o fault.NoMemory = Unit {0}
