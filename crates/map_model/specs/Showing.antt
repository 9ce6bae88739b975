-- Showing a row from rows, and showing that rows have no common solution: by a given certificate, or by the finder's.
use Rattle.std.specs.Prelude.{ℕ, List, Option, Some, None, Result, Ok, Err}
use Rattle.clp_model.specs.declared.limit.Limit.TheVariants.{Chain}
use Rattle.clp_model.specs.Clauses.{Row}
use Rattle.farkas_check.specs.declared.fault.CheckFault.{CheckFault}
use Rattle.farkas_check.specs.declared.fault.CheckFault.TheVariants.{Form}
use Rattle.farkas_check.specs.declared.cert.Cert.{Cert}
use Rattle.farkas_check.specs.declared.cert.Cert.TheVariants.{One, Two}
use Rattle.farkas_check.specs.Checks.{shown_fault, false_fault}
use Rattle.entail_find.specs.declared.questions.Found.{Found}
use Rattle.entail_find.specs.declared.questions.Found.TheVariants as answer
use Rattle.entail_find.specs.declared.fault.FindFault.{FindFault}
use Rattle.entail_find.specs.declared.fault.FindFault.TheVariants as fault
use Rattle.entail_find.specs.Answers.{found, found_false}
use Rattle.map_model.specs.declared.shown.Shown.{Shown}
use Rattle.map_model.specs.declared.shown.Shown.TheVariants.{Find, Given}
use Rattle.map_model.specs.declared.refusal.Refusal.{Refusal}
use Rattle.map_model.specs.declared.refusal.Refusal.TheVariants.{Unentailed, BadMultipliers, Satisfiable, Overflow, TooLarge, NoMemory}

-- the given certificate, unless it has a fault
abbrev pub unless_wrong : ℕ → Cert → Option CheckFault → Result Cert Refusal
unless_wrong place c None = Ok c
unless_wrong place c (Some f) = Err (BadMultipliers place f)

-- why the finder came to no answer
abbrev pub refusal_of : ℕ → FindFault → Refusal
refusal_of place fault.Overflow = Overflow place
refusal_of place fault.TooLong = TooLarge Chain
refusal_of place fault.NoMemory = NoMemory

-- the certificate that the finder made, or the refusal where there is none
abbrev pub unless_none : ℕ → Refusal → Result Found FindFault → Result Cert Refusal
unless_none place none (Ok (answer.Shown c)) = Ok c
unless_none place none (Ok answer.NotEntailed) = Err none
unless_none place none (Err f) = Err (refusal_of place f)

-- the certificate by which the row at this place among those to be shown is shown from the rows
abbrev pub shown_by : ℕ → List Row → Row → Shown → Result Cert Refusal
shown_by place rows target (Given c) = unless_wrong place c (shown_fault rows target c)
shown_by place rows target Find = unless_none place (Unentailed place) (found rows target)

-- the first fault of a certificate that is to show rows false: it has one part
abbrev pub false_fault_of : List Row → Cert → Option CheckFault
false_fault_of rows (One part) = false_fault rows part
false_fault_of rows (Two first second) = Some Form

-- the certificate by which the rows are shown to have no common solution
abbrev pub shown_false_by : List Row → Shown → Result Cert Refusal
shown_false_by rows (Given c) = unless_wrong 1 c (false_fault_of rows c)
shown_false_by rows Find = unless_none 1 Satisfiable (found_false rows)
