-- Elimination of a variable, by an equation that has it (Gauss) or by its bounds in pairs (Fourier-Motzkin), and
-- what it means that it is exact. It speaks of rows, and of rows that remember by which multipliers they came; so it
-- is given `row_of`, and `join`, where `join rel a i b j` is a times i and b times j under the relation.
use Rattle.std.specs.Prelude.{◌≡◌, ℕ, ◌/◌, ℤ, pos, negsuc, ◌*ℤ◌, neg_ℤ, List, [], ◌∷◌, ◌++◌, map, Bool, true, false, not, ◌&&◌, Option, Some, None, unsigned_abs, int_lt, if◌then◌else◌}
use Rattle.std.specs.List.{filter}
use Rattle.clp_model.specs.Values.{Valuation}
use Rattle.clp_model.specs.Clauses.{Row}
use Rattle.clp_model.specs.Predicates.{distinct_after}
use Rattle.clp_model.specs.declared.sort.Rel.{Rel}
use Rattle.clp_model.specs.declared.sort.Rel.TheVariants.{Eq, Le, Lt}
use Rattle.linear_model.specs.Forms.{is_zero, coefficient, combination}
use Rattle.linear_model.specs.Normal.{normal, is_always, row_eq}
use Rattle.linear_model.specs.Gcd.{gcd}

-- each variable but x stands for the same value in both
pub record SameBut (x : ℕ) (u w : Valuation) : Type 0 where
  pub numbers : (v : ℕ) → ¬ (v ≡ x) → w.number v *ℤ pos u.whole ≡ u.number v *ℤ pos w.whole
  pub values : (v : ℕ) → w.value v ≡ u.value v

abbrev pub is_equation : Rel → Bool
is_equation Eq = true
is_equation Le = false
is_equation Lt = false

abbrev pub has : ℕ → Row → Bool
has x r = not (is_zero (coefficient r.pairs x))

-- `<` where one of the two is
abbrev pub stricter : Rel → Rel → Rel
stricter Lt s = Lt
stricter Eq s = s
stricter Le Lt = Lt
stricter Le Le = Le
stricter Le Eq = Le

-- the least factors that make a and b equal in magnitude
abbrev pub factors : ℤ → ℤ → ℕ × ℕ
factors a b = let g = gcd (unsigned_abs a) (unsigned_abs b) in (unsigned_abs b / g, unsigned_abs a / g)

-- the opposite of n where a and b have one sign, else n
abbrev pub opposed : ℤ → ℤ → ℕ → ℤ
opposed (pos a) (pos b) n = neg_ℤ (pos n)
opposed (pos a) (negsuc b) n = pos n
opposed (negsuc a) (pos b) n = pos n
opposed (negsuc a) (negsuc b) n = neg_ℤ (pos n)

-- r without x, by an equation that has x
abbrev pub substituted : {A : Type 0} → (A → Row) → (Rel → ℤ → A → ℤ → A → A) → ℕ → A → A → A
substituted row_of join x e r =
    if has x (row_of r) then
    (let f = factors (coefficient (row_of e).pairs x) (coefficient (row_of r).pairs x) in
    join (row_of r).rel (pos f.1) r (opposed (coefficient (row_of e).pairs x) (coefficient (row_of r).pairs x) f.0) e)
    else r

-- a lower and an upper bound of x together
abbrev pub bounded : {A : Type 0} → (A → Row) → (Rel → ℤ → A → ℤ → A → A) → ℕ → A → A → A
bounded row_of join x l r =
    let f = factors (coefficient (row_of l).pairs x) (coefficient (row_of r).pairs x) in
    join (stricter (row_of l).rel (row_of r).rel) (pos f.0) l (pos f.1) r

-- each lower bound in order with each upper bound in order
abbrev pub bounded_by_each : {A : Type 0} → (A → Row) → (Rel → ℤ → A → ℤ → A → A) → ℕ → List A → List A → List A
bounded_by_each row_of join x [] uppers = []
bounded_by_each row_of join x (l ∷ ls) uppers = map (bounded row_of join x l) uppers ++ bounded_by_each row_of join x ls uppers

abbrev pub with_front : {A : Type 0} → A → Option (A × List A) → Option (A × List A)
with_front r None = None
with_front r (Some p) = Some (p.0, r ∷ p.1)

-- the first equation that has x, and the others
abbrev pub first_equation : {A : Type 0} → (A → Row) → ℕ → List A → Option (A × List A)
first_equation row_of x [] = None
first_equation row_of x (r ∷ rs) = if is_equation (row_of r).rel && has x (row_of r) then Some (r, rs) else with_front r (first_equation row_of x rs)

abbrev pub without : {A : Type 0} → (A → Row) → ℕ → List A → List A
without row_of x rows = filter (λ r. not (has x (row_of r))) rows

-- those with a negative coefficient of x
abbrev pub lowers : {A : Type 0} → (A → Row) → ℕ → List A → List A
lowers row_of x rows = filter (λ r. int_lt (coefficient (row_of r).pairs x) (pos 0)) rows

-- those with a positive coefficient of x
abbrev pub uppers : {A : Type 0} → (A → Row) → ℕ → List A → List A
uppers row_of x rows = filter (λ r. int_lt (pos 0) (coefficient (row_of r).pairs x)) rows

abbrev pub eliminated_by : {A : Type 0} → (A → Row) → (Rel → ℤ → A → ℤ → A → A) → ℕ → List A → Option (A × List A) → List A
eliminated_by row_of join x rows (Some p) = map (substituted row_of join x p.0) p.1
eliminated_by row_of join x rows None = without row_of x rows ++ bounded_by_each row_of join x (lowers row_of x rows) (uppers row_of x rows)

-- the rows that elimination makes, before their normal form
abbrev pub eliminated : {A : Type 0} → (A → Row) → (Rel → ℤ → A → ℤ → A → A) → ℕ → List A → List A
eliminated row_of join x rows = eliminated_by row_of join x rows (first_equation row_of x rows)

abbrev pub row_itself : Row → Row
row_itself r = r

-- in normal form, without true constant rows and rows equal to an earlier one
abbrev pub cleaned : List Row → List Row
cleaned rows = distinct_after row_eq [] (filter (λ r. not (is_always r)) (map normal rows))

-- the elimination of x from rows
abbrev pub elimination : ℕ → List Row → List Row
elimination x rows = cleaned (eliminated row_itself combination x rows)
