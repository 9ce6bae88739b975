-- What the outside tells, what it takes, and when it may fail.
use Rattle.std.specs.Prelude.{◌≡◌, ℕ, ◌+◌, ◌-◌, ◌^◌, ◌<◌, ◌≤◌, ◌==◌, min, Bool, false, List, [], ◌∷◌, ◌++◌, length, if◌then◌else◌, Option, Some, None, Result, Ok, Err, IfSome}
use Rattle.std.specs.Str.{bytes_eq}

-- a count after one more, which stays at its last value
abbrev pub raised : ℕ → ℕ
raised count = min (count + 1) (2 ^ 64 - 1)

-- the count rose, or stands at its last value
abbrev pub Rose : ℕ → ℕ → Type 0
Rose before now = raised before ≤ now

-- files, each with its name and its bytes
abbrev pub Files : Type 0
Files = List (List ℕ × List ℕ)

-- the bytes of the first file of this name
abbrev pub file_of : Files → List ℕ → Option (List ℕ)
file_of [] name = None
file_of (f ∷ fs) name = if bytes_eq f.0 name then Some f.1 else file_of fs name

-- where the files are told, the file of this name has these bytes
abbrev pub Tells : Option Files → List ℕ → List ℕ → Type 0
Tells files name bytes = IfSome files (λ fs. file_of fs name ≡ Some bytes)

-- where the files are told, the file of this name has more bytes than `most`
abbrev pub TellsLonger : Option Files → List ℕ → ℕ → Type 0
TellsLonger files name most = IfSome files (λ fs. (bytes : List ℕ) × (file_of fs name ≡ Some bytes) × (most < length bytes))

-- where the bytes that are left are told, there are none
abbrev pub NothingLeft : Option (List ℕ) → Type 0
NothingLeft left = IfSome left (λ bytes. bytes ≡ [])

-- a read of no bytes tells the end of the input, and no other answer does
abbrev pub tells_end : {E : Type 0} → Result ℕ E → Bool
tells_end (Ok n) = n == 0
tells_end (Err e) = false

-- xs is the beginning of ys
abbrev pub IsPrefixOf : List ℕ → List ℕ → Type 0
IsPrefixOf xs ys = (rest : List ℕ) × (xs ++ rest ≡ ys)

-- what was taken is more by a beginning of these bytes, where it is told
abbrev pub TakesPrefix : Option (List ℕ) → Option (List ℕ) → List ℕ → Type 0
TakesPrefix None None bytes = Unit {0}
TakesPrefix None (Some ys) bytes = ⊥
TakesPrefix (Some xs) None bytes = ⊥
TakesPrefix (Some xs) (Some ys) bytes = (piece : List ℕ) × IsPrefixOf piece bytes × (ys ≡ xs ++ piece)

-- where it is told what is left of a reader, these bytes are all of it
abbrev pub IsAllOf : Option (List ℕ) → List ℕ → Type 0
IsAllOf left bytes = IfSome left (λ all. bytes ≡ all)

-- where it is told what is left of a reader, it is more than `most` bytes
abbrev pub IsLongerThan : Option (List ℕ) → ℕ → Type 0
IsLongerThan left most = IfSome left (λ all. most < length all)
