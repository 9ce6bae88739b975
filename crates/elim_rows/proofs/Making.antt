-- What an elimination makes, as its loops make it.
use Rattle.std.proofs.Common.{◌≡◌, ◌≢◌, ℕ, zero, suc, List, [], ◌∷◌, ◌++◌, Bool, true, false, map, refl, sym, ◌∙◌, ap, subst, arith}
use Rattle.std.specs.Prelude.{ℤ, pos, negsuc, not, int_lt, nat_eq, unsigned_abs, if◌then◌else◌, Some, None, ◌<ℤ◌}
use Rattle.std.proofs.lemmas.Int.{ints}
use Rattle.std.proofs.lemmas.Bool.Decides.{nat_tests}
use Rattle.std.specs.List.{filter}
use Rattle.clp_model.specs.Clauses.{Row}
use Rattle.clp_model.specs.declared.sort.Rel.{Rel}
use Rattle.linear_model.specs.Forms.{coefficient, combination, is_zero}
use Rattle.linear_model.specs.Normal.{normal, is_within}
use Rattle.linear_model.specs.Elimination.{has, substituted, bounded, bounded_by_each, without, lowers, uppers, eliminated_by, elimination, first_equation, row_itself, factors, opposed}
use Rattle.elim_rows.specs.Made.{made, all_within}
use Rattle.elim_rows.specs.Kept.{Adds, with_row, flat, of_substituted, of_other, of_upper, of_lower}
use Rattle.elim_rows.proofs.Adding.{flat_append, outside_front, outside_back, adds_one, adds_both, rows_are_distinct}

map_append : {A B : Type 0} (f : A → B) (xs ys : List A) → map f (xs ++ ys) ≡ map f xs ++ map f ys
map_append f [] ys = refl
map_append f (x ∷ xs) ys = ap (λ zs. f x ∷ zs) (map_append f xs ys)

flat_map_each : (f : Row → Row) (rows : List Row) → map normal (map f rows) ≡ flat (λ r. normal (f r) ∷ []) rows
flat_map_each f [] = refl
flat_map_each f (r ∷ rs) = ap (λ xs. normal (f r) ∷ xs) (flat_map_each f rs)

flat_filtered : (p : Row → Bool) (f : Row → Row) (rows : List Row) → map normal (map f (filter p rows)) ≡ flat (λ r. if p r then normal (f r) ∷ [] else []) rows
flat_filtered p f [] = refl
flat_filtered p f (r ∷ rs) = by (p r) (flat_filtered p f rs)
  where
    made_of : Row → List Row
    made_of s = if p s then normal (f s) ∷ [] else []

    by : (t : Bool) → map normal (map f (filter p rs)) ≡ flat made_of rs
        → map normal (map f (if t then r ∷ filter p rs else filter p rs)) ≡ (if t then normal (f r) ∷ [] else []) ++ flat made_of rs
    by true ih = ap (λ xs. normal (f r) ∷ xs) ih
    by false ih = ih

flat_kept : (p : Row → Bool) (rows : List Row) → map normal (filter p rows) ≡ flat (λ r. if p r then normal r ∷ [] else []) rows
flat_kept p [] = refl
flat_kept p (r ∷ rs) = by (p r) (flat_kept p rs)
  where
    made_of : Row → List Row
    made_of s = if p s then normal s ∷ [] else []

    by : (t : Bool) → map normal (filter p rs) ≡ flat made_of rs
        → map normal (if t then r ∷ filter p rs else filter p rs) ≡ (if t then normal r ∷ [] else []) ++ flat made_of rs
    by true ih = ap (λ xs. normal r ∷ xs) ih
    by false ih = ih

upper_bounds : (x : ℕ) (l : Row) (rows : List Row) → map normal (map (bounded row_itself combination x l) (uppers row_itself x rows)) ≡ flat (of_upper x l) rows
upper_bounds x l rows = flat_filtered (λ r. int_lt (pos 0) (coefficient r.pairs x)) (bounded row_itself combination x l) rows

all_bounds : (x : ℕ) (rows ls : List Row) → map normal (bounded_by_each row_itself combination x (lowers row_itself x ls) (uppers row_itself x rows)) ≡ flat (of_lower x rows) ls
all_bounds x rows [] = refl
all_bounds x rows (l ∷ ls) = by (int_lt (coefficient l.pairs x) (pos 0)) (all_bounds x rows ls)
  where
    ups : List Row
    ups = uppers row_itself x rows

    rest : List Row
    rest = lowers row_itself x ls

    by : (t : Bool) → map normal (bounded_by_each row_itself combination x rest ups) ≡ flat (of_lower x rows) ls
        → map normal (bounded_by_each row_itself combination x (if t then l ∷ rest else rest) ups) ≡ (if t then flat (of_upper x l) rows else []) ++ flat (of_lower x rows) ls
    by true ih =
        map_append normal (map (bounded row_itself combination x l) ups) (bounded_by_each row_itself combination x rest ups)
        ∙ (ap (λ xs. xs ++ map normal (bounded_by_each row_itself combination x rest ups)) (upper_bounds x l rows) ∙ ap (λ xs. flat (of_upper x l) rows ++ xs) ih)
    by false ih = ih

pub made_by_equation : (x : ℕ) (rows : List Row) (e : Row) (before after : List Row) → first_equation row_itself x rows ≡ Some (e, before ++ after)
    → made x rows ≡ flat (of_substituted x e) before ++ flat (of_substituted x e) after
made_by_equation x rows e before after h =
    ap (λ o. map normal (eliminated_by row_itself combination x rows o)) h
    ∙ (flat_map_each (substituted row_itself combination x e) (before ++ after) ∙ flat_append (of_substituted x e) before after)

pub made_by_bounds : (x : ℕ) (rows : List Row) → first_equation row_itself x rows ≡ None → made x rows ≡ flat (of_other x) rows ++ flat (of_lower x rows) rows
made_by_bounds x rows h =
    ap (λ o. map normal (eliminated_by row_itself combination x rows o)) h
    ∙ (map_append normal (without row_itself x rows) (bounded_by_each row_itself combination x (lowers row_itself x rows) (uppers row_itself x rows))
    ∙ (ap (λ xs. xs ++ map normal (bounded_by_each row_itself combination x (lowers row_itself x rows) (uppers row_itself x rows))) (flat_kept (λ r. not (has x r)) rows)
    ∙ ap (λ xs. flat (of_other x) rows ++ xs) (all_bounds x rows rows)))

-- ---- the parts of an elimination, one after another

module _ (x : ℕ) (rows : List Row) where
  module _ (e : Row) (before after : List Row) (first : first_equation row_itself x rows ≡ Some (e, before ++ after)) where
    pub equation_outside_before : all_within (flat (of_substituted x e) before) ≡ false → all_within (made x rows) ≡ false
    equation_outside_before h = ap all_within (made_by_equation x rows e before after first) ∙ outside_front (flat (of_substituted x e) before) (flat (of_substituted x e) after) h

    pub equation_outside_after : all_within (flat (of_substituted x e) after) ≡ false → all_within (made x rows) ≡ false
    equation_outside_after h = ap all_within (made_by_equation x rows e before after first) ∙ outside_back (flat (of_substituted x e) before) (flat (of_substituted x e) after) h

    pub equation_adds : (between left : List Row) → Adds [] (flat (of_substituted x e) before) between → Adds between (flat (of_substituted x e) after) left → Adds [] (made x rows) left
    equation_adds between left h k =
        subst (λ rs. Adds [] rs left) (sym (made_by_equation x rows e before after first)) (adds_both [] (flat (of_substituted x e) before) between (flat (of_substituted x e) after) left h k)

  module _ (none : first_equation row_itself x rows ≡ None) where
    pub bounds_outside : all_within (flat (of_lower x rows) rows) ≡ false → all_within (made x rows) ≡ false
    bounds_outside h = ap all_within (made_by_bounds x rows none) ∙ outside_back (flat (of_other x) rows) (flat (of_lower x rows) rows) h

    pub bounds_adds : (between left : List Row) → Adds [] (flat (of_other x) rows) between → Adds between (flat (of_lower x rows) rows) left → Adds [] (made x rows) left
    bounds_adds between left h k = subst (λ rs. Adds [] rs left) (sym (made_by_bounds x rows none)) (adds_both [] (flat (of_other x) rows) between (flat (of_lower x rows) rows) left h k)

  -- what is left in the end
  pub left_is : (left : List Row) → Adds [] (made x rows) left → left ≡ elimination x rows
  left_is left h = h.kept ∙ rows_are_distinct [] (made x rows)

-- ---- one row

has_not_zero : (z : ℤ) → z ≢ pos 0 → not (is_zero z) ≡ true
has_not_zero (pos zero) n = absurd (n refl)
has_not_zero (pos (suc m)) n = let t : nat_eq (suc m) 0 ≡ false = grind (arith, nat_tests) in rw t refl
has_not_zero (negsuc m) n = refl

-- by the numbers as the code has them
pub substituted_is : (x : ℕ) (e r : Row) (rel : Rel) (ce cr a b f : ℤ) → rel ≡ r.rel → ce ≡ coefficient e.pairs x → cr ≡ coefficient r.pairs x → cr ≢ pos 0
    → a ≡ pos (factors ce cr).1 → f ≡ pos (factors ce cr).0 → b ≡ opposed ce cr (unsigned_abs f) → substituted row_itself combination x e r ≡ combination rel a r b e
substituted_is x e r rel ce cr a b f k he hr n ha hf hb =
    let t = has_not_zero (coefficient r.pairs x) (λ z. n (hr ∙ z)) in
    let ta : a ≡ pos (factors (coefficient e.pairs x) (coefficient r.pairs x)).1 = rw (← he, ← hr) ha in
    let tb : b ≡ opposed (coefficient e.pairs x) (coefficient r.pairs x) (factors (coefficient e.pairs x) (coefficient r.pairs x)).0 = rw (← he, ← hr) (hb ∙ ap (λ z. opposed ce cr (unsigned_abs z)) hf) in
    rw (t, k, ta, tb) refl

pub outside_one : (s t : Row) → s ≡ t → is_within (normal t) ≡ false → all_within (normal s ∷ []) ≡ false
outside_one s t e h = let w : is_within (normal s) ≡ false = ap (λ r. is_within (normal r)) e ∙ h in rw w refl

pub lower_bound : (x : ℕ) (rows : List Row) (l : Row) → coefficient l.pairs x <ℤ pos 0 → of_lower x rows l ≡ flat (of_upper x l) rows
lower_bound x rows l h = let t : int_lt (coefficient l.pairs x) (pos 0) ≡ true = grind (arith, ints) in rw t refl

pub adds_made : (before after : List Row) (s t row : Row) → s ≡ t → row ≡ normal t → is_within row ≡ true → after ≡ with_row before row → Adds before (normal s ∷ []) after
adds_made before after s t row e f w k =
    let g : row ≡ normal s = f ∙ ap normal (sym e) in
    subst (λ r. Adds before (r ∷ []) after) g (adds_one before row after k w)
