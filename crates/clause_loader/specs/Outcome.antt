-- What loading a clause answers.
use Rattle.std.specs.Prelude.{◌≡◌, Err}
use Rattle.clp_model.specs.Clauses.{Clause as Meaning}
use Rattle.clause_model.specs.Canonical.{Overflow, TooLarge}
use Rattle.clause_model.specs.Load.{load_one}
use Rattle.clause_store.specs.declared.fault.ClauseFault.{ClauseFault}
use Rattle.clause_store.specs.declared.fault.ClauseFault.TheVariants as fault

-- the fault is the one for which the source clause is refused
abbrev pub IsRefusedSource : Meaning → ClauseFault → Type 0
IsRefusedSource c fault.Overflow = load_one c ≡ Err Overflow
IsRefusedSource c (fault.TooLarge limit) = load_one c ≡ Err (TooLarge limit)
IsRefusedSource c fault.NoMemory = Unit {0}
