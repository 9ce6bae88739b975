-- What a function that reads a whole text ensures of what the text is.
use Rattle.std.specs.Prelude.{◌≡◌, ℕ, Result, Ok, Err}
use Rattle.token_model.specs.declared.fault.Fault.{Fault}
use Rattle.text_fault.specs.declared.fault.TextError.{TextError}
use Rattle.text_fault.specs.declared.fault.TextError.TheVariants as error
use Rattle.text_fault.specs.Places.{located}

-- The result of reading a text of this length is this outcome, its fault with its place in the text; want of memory
-- claims nothing.
abbrev pub Tells : {A : Type 0} → ℕ → Result A Fault → Result A TextError → Type 0
Tells len outcome (Ok a) = outcome ≡ Ok a
Tells len outcome (Err (error.Fault f)) = located len outcome ≡ Err f
Tells len outcome (Err error.NoMemory) = Unit {0}
