-- What a table of words means.
use Rattle.std.proofs.Common.{ap, ◌∙◌, sym}
use Rattle.std.specs.Prelude.{◌≡◌, ℕ, if◌then◌else◌, List, [], ◌∷◌, Option, Some, None}
use Rattle.std.specs.Str.{bytes_eq}

-- the case that was found has this word; where none was found, no case has it
abbrev pub IsCaseOf : {A : Type 0} → (A → List ℕ) → List ℕ → Option A → Type 0
IsCaseOf word text (Some c) = word c ≡ text
IsCaseOf {A} word text None = (c : A) → word c ≡ text → ⊥

-- the first of these cases that has this word, if one has
abbrev pub case_among : {A : Type 0} → (A → List ℕ) → List A → List ℕ → Option A
case_among word [] text = None
case_among word (c ∷ cases) text = if bytes_eq text (word c) then Some c else case_among word cases text

or_else : {A : Type 0} → A → Option A → A
or_else a None = a
or_else a (Some b) = b

-- where each case is found by its word, no two have one word
pub differ : {A : Type 0} (word : A → List ℕ) (cases : List A) → ((c : A) → case_among word cases (word c) ≡ Some c) → (a b : A) → word a ≡ word b → a ≡ b
unfolding or_else
differ word cases own a b e = ap (or_else a) (sym (own a) ∙ ap (case_among word cases) e ∙ own b)
