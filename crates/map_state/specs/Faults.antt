-- The refusal that stands for a fault of a new clause.
use Rattle.clause_store.specs.declared.fault.ClauseFault.{ClauseFault}
use Rattle.clause_store.specs.declared.fault.ClauseFault.TheVariants as fault
use Rattle.map_model.specs.declared.refusal.Refusal.{Refusal}
use Rattle.map_model.specs.declared.refusal.Refusal.TheVariants.{Overflow, TooLarge, NoMemory}

-- a row of a new clause has no number, so its overflow has 0
abbrev pub refusal_of : ClauseFault → Refusal
refusal_of fault.Overflow = Overflow 0
refusal_of (fault.TooLarge limit) = TooLarge limit
refusal_of fault.NoMemory = NoMemory
