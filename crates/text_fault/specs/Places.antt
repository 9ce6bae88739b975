-- The places of faults.
use Rattle.std.specs.Prelude.{ℕ, ◌-◌, Result, Ok, Err}
use Rattle.token_model.specs.declared.fault.Fault.{Fault}
use Rattle.text_fault.specs.declared.fault.TextFault.{TextFault}

-- a fault in a text of this length, with the number of bytes before it
abbrev pub placed : ℕ → Fault → TextFault
placed len f = record { at = len - f.left; kind = f.kind }

-- what was read of a whole text of this length, or its fault with its place
abbrev pub located : {A : Type 0} → ℕ → Result A Fault → Result A TextFault
located len (Ok a) = Ok a
located len (Err f) = Err (placed len f)
