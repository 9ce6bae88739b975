-- The variables that are in no atom of a definition, and those that are named for them.
use Rattle.std.proofs.Common.{◌≡◌, ℕ, suc, ◌+◌, ◌<◌, ◌≤◌, List, [], ◌∷◌, length, drop, get_or, refl, ap, ◌∙◌, sym, arith, add-one, Bool, true, false, Some}
use Rattle.std.specs.Prelude.{not, if◌then◌else◌}
use Rattle.std.specs.List.{filter}
use Rattle.std.proofs.Math.Seq.{drop-cons}
use Rattle.clp_model.specs.declared.sort.Sort.{Sort}
use Rattle.clp_model.specs.Trees.{variables_in}
use Rattle.clp_model.specs.Clauses.{Clause}
use Rattle.fold_model.specs.Positions.{is_in}
use Rattle.fold_model.specs.Images.{numbers_from, all_variables, outer_variables, is_number_of, first_no_number}
use Rattle.clause_fold.proofs.Loose.{numbers_here}

abbrev pub is_outer : Clause → ℕ → Bool
is_outer n x = not (is_in (variables_in n.body) x)

-- how many from one on
pub outer_here : (n : Clause) (sorts : List Sort) (i : ℕ) → i < length sorts → is_in (variables_in n.body) (suc i) ≡ false
    → length (filter (is_outer n) (numbers_from (suc i) (drop i sorts))) ≡ suc (length (filter (is_outer n) (numbers_from (suc (i + 1)) (drop (i + 1) sorts))))
outer_here n sorts i within e =
    let rest = filter (is_outer n) (numbers_from (suc (i + 1)) (drop (i + 1) sorts)) in
    ap (λ (xs : List ℕ). length (filter (is_outer n) xs)) (numbers_here sorts i within)
    ∙ ap (λ (b : Bool). length (if not b then suc i ∷ rest else rest)) e

pub outer_next : (n : Clause) (sorts : List Sort) (i : ℕ) → i < length sorts → is_in (variables_in n.body) (suc i) ≡ true
    → length (filter (is_outer n) (numbers_from (suc i) (drop i sorts))) ≡ length (filter (is_outer n) (numbers_from (suc (i + 1)) (drop (i + 1) sorts)))
outer_next n sorts i within e =
    let rest = filter (is_outer n) (numbers_from (suc (i + 1)) (drop (i + 1) sorts)) in
    ap (λ (xs : List ℕ). length (filter (is_outer n) xs)) (numbers_here sorts i within)
    ∙ ap (λ (b : Bool). length (if not b then suc i ∷ rest else rest)) e

few_numbers : (k : ℕ) (sorts : List Sort) → length (numbers_from k sorts) ≡ length sorts
few_numbers k [] = refl
few_numbers k (s ∷ ss) = ap suc (few_numbers (suc k) ss)

filtered_few : (p : ℕ → Bool) (xs : List ℕ) → length (filter p xs) ≤ length xs
filtered_few p [] = omega arith
filtered_few p (x ∷ xs) = by (p x) (filtered_few p xs)
  where
    by : (b : Bool) → length (filter p xs) ≤ length xs → length (if b then x ∷ filter p xs else filter p xs) ≤ suc (length xs)
    by true h = omega (arith, h)
    by false h = omega (arith, h)

pub few_outer : (n : Clause) → length (outer_variables n) ≤ length n.sorts
few_outer n = omega (arith, few_numbers 1 n.sorts, filtered_few (is_outer n) (all_variables n))

-- ---- the numbers that are named
pub number_from : (c : Clause) (with : List ℕ) (i d : ℕ) → i < length with
    → first_no_number c (suc i) (drop i with) ≡ (if is_number_of c (get_or with i d) then first_no_number c (suc (i + 1)) (drop (i + 1) with) else Some (suc i))
number_from c with i d within =
    ap (first_no_number c (suc i)) (drop-cons with i d within)
    ∙ ap (λ (k : ℕ). if is_number_of c (get_or with i d) then first_no_number c (suc k) (drop k with) else Some (suc i)) (sym (add-one i))

pub no_number_here : (c : Clause) (with : List ℕ) (i v : ℕ) → i < length with → v ≡ get_or with i v → is_number_of c v ≡ false → first_no_number c (suc i) (drop i with) ≡ Some (suc i)
no_number_here c with i v within item e =
    number_from c with i v within
    ∙ ap (λ (b : Bool). if b then first_no_number c (suc (i + 1)) (drop (i + 1) with) else Some (suc i)) (ap (is_number_of c) (sym item) ∙ e)

pub number_next : (c : Clause) (with : List ℕ) (i v : ℕ) → i < length with → v ≡ get_or with i v → is_number_of c v ≡ true → first_no_number c (suc i) (drop i with) ≡ first_no_number c (suc (i + 1)) (drop (i + 1) with)
number_next c with i v within item e =
    number_from c with i v within
    ∙ ap (λ (b : Bool). if b then first_no_number c (suc (i + 1)) (drop (i + 1) with) else Some (suc i)) (ap (is_number_of c) (sym item) ∙ e)
