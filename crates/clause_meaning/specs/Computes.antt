-- What a function that computes with forms ensures of what the rules give.
use Rattle.std.specs.Prelude.{◌≡◌, Result, Ok, Err}
use Rattle.form_model.specs.declared.fault.FormFault.{FormFault}
use Rattle.linear_form.specs.declared.error.FormError.{FormError}
use Rattle.linear_form.specs.declared.error.FormError.TheVariants.{Fault, NoMemory}

-- the result is this one, unless memory failed
abbrev pub Computes : {A : Type 0} → Result A FormFault → Result A FormError → Type 0
Computes outcome (Ok a) = outcome ≡ Ok a
Computes outcome (Err (Fault f)) = outcome ≡ Err f
Computes outcome (Err NoMemory) = Unit {0}
