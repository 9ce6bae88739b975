-- When a certificate is right, and what is answered then and else.
use Rattle.std.specs.Prelude.{◌≡◌, ⊤, List, Option, Some, None, Result, Ok, Err}
use Rattle.clp_model.specs.Clauses.{Row}
use Rattle.clp_model.specs.declared.sort.Rel.TheVariants.{Eq}
use Rattle.linear_model.specs.Changes.{at_most, flipped}
use Rattle.linear_model.specs.Certificates.{Shows}
use Rattle.farkas_check.specs.declared.fault.CheckFault.{CheckFault}
use Rattle.farkas_check.specs.declared.cert.Cert.{Cert}
use Rattle.farkas_check.specs.declared.cert.Cert.TheVariants.{One, Two}

-- one part shows an inequality; two parts show the halves of an equation
abbrev pub IsRight : List Row → Row → Cert → Type 0
IsRight rows target (One p) = (¬ (target.rel ≡ Eq)) × Shows rows target p
IsRight rows target (Two p q) = (target.rel ≡ Eq) × Shows rows (at_most target) p × Shows rows (at_most (flipped target)) q

-- the fault is the error
abbrev pub answer : Option CheckFault → Result ⊤ CheckFault
answer None = Ok tt
answer (Some f) = Err f
