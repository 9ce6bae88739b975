-- Faults of rows as faults of clauses.
use Rattle.lin_row.specs.declared.row.RowFault.{RowFault}
use Rattle.lin_row.specs.declared.row.RowFault.TheVariants as row
use Rattle.clause_store.specs.declared.fault.ClauseFault.{ClauseFault}
use Rattle.clause_store.specs.declared.fault.ClauseFault.TheVariants as clause

-- the fault of a row as that of the clause that it is for
abbrev pub fault_of : RowFault → ClauseFault
fault_of row.Overflow = clause.Overflow
fault_of row.NoMemory = clause.NoMemory
