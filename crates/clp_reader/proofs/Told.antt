-- What is told of a whole text has what holds of all that it is read as.
use Rattle.std.proofs.Common.{◌≡◌, ℕ, List, [], ◌∷◌}
use Rattle.std.specs.Prelude.{Result, Ok, Err, IfOk, All}
use Rattle.std.proofs.lemmas.List.Elements.{All-nil, All-cons, All-head, All-tail}
use Rattle.token_model.specs.declared.fault.Fault.{Fault}
use Rattle.text_fault.specs.declared.fault.TextError.{TextError}
use Rattle.text_fault.specs.Tells.{Tells}

pub holds_of_told : {A : Type 0} (P : A → Type 0) (len : ℕ) (outcome : Result A Fault) (told : Result A TextError) → Tells len outcome told → ((a : A) → outcome ≡ Ok a → P a) → IfOk told P
holds_of_told P len outcome (Ok a) h each = each a h
holds_of_told P len outcome (Err e) h each = tt

pub each_of : {A : Type 0} (P Q : A → Type 0) → ((a : A) → P a → Q a) → (xs : List A) → All P xs → All Q xs
each_of P Q f [] h = All-nil Q
each_of P Q f (x ∷ xs) h = All-cons Q x xs (f x (All-head P x xs h)) (each_of P Q f xs (All-tail P x xs h))
