-- The errors of the code.
use Rattle.form_model.specs.declared.fault.FormFault.{FormFault}
use Rattle.form_model.specs.declared.fault.FormFault.TheVariants as form
use Rattle.frac_model.specs.declared.fault.FracFault.{FracFault}
use Rattle.frac_model.specs.declared.fault.FracFault.TheVariants.{TooLarge, ZeroDivisor}
use Rattle.linear_form.specs.declared.error.FormError.{FormError}
use Rattle.linear_form.specs.declared.error.FormError.TheVariants.{Fault, NoMemory}

abbrev pub fault : FormFault → FormError
fault f = Fault f

abbrev pub no_memory : FormError
no_memory = NoMemory

abbrev pub of_fraction : FracFault → FormFault
of_fraction TooLarge = form.TooLarge
of_fraction ZeroDivisor = form.ZeroDivisor
