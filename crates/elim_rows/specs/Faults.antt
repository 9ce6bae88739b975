-- Faults of rows as faults of the elimination.
use Rattle.lin_row.specs.declared.row.RowFault.{RowFault}
use Rattle.lin_row.specs.declared.row.RowFault.TheVariants.{Overflow, NoMemory}
use Rattle.elim_rows.specs.declared.elimination.ElimFault.{ElimFault}
use Rattle.elim_rows.specs.declared.elimination.ElimFault.TheVariants.{Overflow as TooLarge, NoMemory as OutOfMemory}

-- the fault of a row as the elimination's
abbrev pub fault_of : RowFault → ElimFault
fault_of Overflow = TooLarge
fault_of NoMemory = OutOfMemory
