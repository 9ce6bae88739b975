-- Positions in a list. They count from 1.
use Rattle.std.specs.Prelude.{ℕ, suc, ◌-◌, ◌&&◌, Bool, nat_eq, nat_lt, nat_le, if◌then◌else◌, List, [], ◌∷◌, slice_index_or, Option, Some, None}
use Rattle.std.specs.List.{list_any}

abbrev pub in_range : ℕ → ℕ → Bool
in_range count position = nat_lt 0 position && nat_le position count

-- the first of these that is no position of so many elements
abbrev pub first_outside : ℕ → List ℕ → Option ℕ
first_outside count [] = None
first_outside count (p ∷ ps) = if in_range count p then first_outside count ps else Some p

-- the number is in the list
abbrev pub is_in : List ℕ → ℕ → Bool
is_in ns n = list_any (λ m. nat_eq m n) ns

-- the first that is given again, after these
abbrev pub first_again : List ℕ → List ℕ → Option ℕ
first_again before [] = None
first_again before (p ∷ ps) = if is_in before p then Some p else first_again (p ∷ before) ps

-- the first that is given twice
abbrev pub first_repeated : List ℕ → Option ℕ
first_repeated ps = first_again [] ps

-- the elements at these positions, in the order of the positions
abbrev pub at_positions : {A : Type 0} → A → List A → List ℕ → List A
at_positions none xs [] = []
at_positions none xs (p ∷ ps) = slice_index_or xs (p - 1) none ∷ at_positions none xs ps

-- the elements whose positions are given, in their own order, where the first has this position
abbrev pub chosen_from : {A : Type 0} → ℕ → List ℕ → List A → List A
chosen_from n ps [] = []
chosen_from n ps (x ∷ xs) = if is_in ps n then x ∷ chosen_from (suc n) ps xs else chosen_from (suc n) ps xs

-- and those whose positions are not
abbrev pub others_from : {A : Type 0} → ℕ → List ℕ → List A → List A
others_from n ps [] = []
others_from n ps (x ∷ xs) = if is_in ps n then others_from (suc n) ps xs else x ∷ others_from (suc n) ps xs

-- an element in the place of the first whose position is given; the others of these go
abbrev pub replaced_from : {A : Type 0} → A → ℕ → List ℕ → List A → List A
replaced_from a n ps [] = []
replaced_from a n ps (x ∷ xs) = if is_in ps n then a ∷ others_from (suc n) ps xs else x ∷ replaced_from a (suc n) ps xs

abbrev pub chosen : {A : Type 0} → List ℕ → List A → List A
chosen ps xs = chosen_from 1 ps xs

abbrev pub others : {A : Type 0} → List ℕ → List A → List A
others ps xs = others_from 1 ps xs

abbrev pub replaced : {A : Type 0} → A → List ℕ → List A → List A
replaced a ps xs = replaced_from a 1 ps xs
