-- Rows that come one after another.
use Rattle.std.proofs.Common.{◌≡◌, ℕ, suc, ◌+◌, ◌<◌, ◌≤◌, List, [], ◌∷◌, ◌++◌, length, get_or, take, drop, drop-cons, Bool, true, false, ◌&&◌, append_assoc, refl, sym, ◌∙◌, ap, subst}
use Rattle.std.specs.Prelude.{not, if◌then◌else◌}
use Rattle.std.specs.List.{filter}
use Rattle.std.proofs.lemmas.List.{append-nil, take_all, take_more, take-append-drop}
use Rattle.clp_model.specs.Clauses.{Row}
use Rattle.clp_model.specs.Predicates.{with_element, distinct_after}
use Rattle.linear_model.specs.Normal.{is_within, is_always, row_eq}
use Rattle.elim_rows.specs.Made.{all_within}
use Rattle.elim_rows.specs.Kept.{with_row, with_rows, Adds, flat}

-- ---- all are within

pub within_append : (rs ss : List Row) → all_within (rs ++ ss) ≡ (all_within rs && all_within ss)
within_append [] ss = refl
within_append (r ∷ rs) ss = by (is_within r) (within_append rs ss)
  where
    by : (t : Bool) → all_within (rs ++ ss) ≡ (all_within rs && all_within ss) → (t && all_within (rs ++ ss)) ≡ ((t && all_within rs) && all_within ss)
    by true ih = ih
    by false ih = refl

and_false : (t : Bool) → (t && false) ≡ false
and_false true = refl
and_false false = refl

pub outside_front : (rs ss : List Row) → all_within rs ≡ false → all_within (rs ++ ss) ≡ false
outside_front rs ss e = within_append rs ss ∙ rw e refl

pub outside_back : (rs ss : List Row) → all_within ss ≡ false → all_within (rs ++ ss) ≡ false
outside_back rs ss e = within_append rs ss ∙ rw e (and_false (all_within rs))

-- ---- rows put last in turn

pub rows_append : (kept rs ss : List Row) → with_rows kept (rs ++ ss) ≡ with_rows (with_rows kept rs) ss
rows_append kept [] ss = refl
rows_append kept (r ∷ rs) ss = rows_append (with_row kept r) rs ss

pub rows_are_distinct : (kept rs : List Row) → with_rows kept rs ≡ distinct_after row_eq kept (filter (λ r. not (is_always r)) rs)
rows_are_distinct kept [] = refl
rows_are_distinct kept (r ∷ rs) = by (is_always r) (rows_are_distinct kept rs) (rows_are_distinct (with_element row_eq kept r) rs)
  where
    rest : List Row
    rest = filter (λ s. not (is_always s)) rs

    by : (t : Bool) → with_rows kept rs ≡ distinct_after row_eq kept rest → with_rows (with_element row_eq kept r) rs ≡ distinct_after row_eq (with_element row_eq kept r) rest
        → with_rows (if t then kept else with_element row_eq kept r) rs ≡ distinct_after row_eq kept (if not t then r ∷ rest else rest)
    by true there other = there
    by false there other = other

pub adds_none : (kept : List Row) → Adds kept [] kept
adds_none kept = record { kept = refl; within = refl }

pub adds_one : (before : List Row) (r : Row) (after : List Row) → after ≡ with_row before r → is_within r ≡ true → Adds before (r ∷ []) after
adds_one before r after e w = record { kept = e; within = rw w refl }

pub adds_both : (before rs between ss after : List Row) → Adds before rs between → Adds between ss after → Adds before (rs ++ ss) after
adds_both before rs between ss after h k = record {
  kept = k.kept ∙ (ap (λ xs. with_rows xs ss) h.kept ∙ sym (rows_append before rs ss));
  within = within_append rs ss ∙ rw (h.within, k.within) refl;
}

-- ---- a loop that adds what g makes of each row

pub flat_append : (g : Row → List Row) (rs ss : List Row) → flat g (rs ++ ss) ≡ flat g rs ++ flat g ss
flat_append g [] ss = refl
flat_append g (r ∷ rs) ss = ap (λ xs. g r ++ xs) (flat_append g rs ss) ∙ sym (append_assoc (g r) (flat g rs) (flat g ss))

pub flat_more : (g : Row → List Row) (rows : List Row) (i : ℕ) (d : Row) → i < length rows → flat g (take (i + 1) rows) ≡ flat g (take i rows) ++ g (get_or rows i d)
flat_more g rows i d h =
    ap (flat g) (take_more rows i d h) ∙ (flat_append g (take i rows) (get_or rows i d ∷ []) ∙ ap (λ xs. flat g (take i rows) ++ xs) (append-nil (g (get_or rows i d))))

pub adds_next : (g : Row → List Row) (rows : List Row) (i : ℕ) (r : Row) (before between after : List Row) → i < length rows → r ≡ get_or rows i r
    → Adds before (flat g (take i rows)) between → Adds between (g r) after → Adds before (flat g (take (i + 1) rows)) after
adds_next g rows i r before between after lt e h k =
    subst (λ xs. Adds before xs after) (sym (flat_more g rows i r lt)) (adds_both before (flat g (take i rows)) between (g (get_or rows i r)) after h (subst (λ s. Adds between (g s) after) e k))

pub adds_all : (g : Row → List Row) (rows : List Row) (i : ℕ) (before after : List Row) → length rows ≤ i → Adds before (flat g (take i rows)) after → Adds before (flat g rows) after
adds_all g rows i before after h k = subst (λ xs. Adds before (flat g xs) after) (take_all i rows h) k

pub outside_at : (g : Row → List Row) (rows : List Row) (i : ℕ) (r : Row) → i < length rows → r ≡ get_or rows i r → all_within (g r) ≡ false → all_within (flat g rows) ≡ false
outside_at g rows i r lt e outside =
    let split : rows ≡ take i rows ++ (get_or rows i r ∷ drop (suc i) rows) = sym (take-append-drop i rows) ∙ ap (λ xs. take i rows ++ xs) (drop-cons rows i r lt) in
    let there : all_within (g (get_or rows i r)) ≡ false = subst (λ s. all_within (g s) ≡ false) e outside in
    ap (λ xs. all_within (flat g xs)) split
    ∙ (ap all_within (flat_append g (take i rows) (get_or rows i r ∷ drop (suc i) rows))
    ∙ outside_back (flat g (take i rows)) (g (get_or rows i r) ++ flat g (drop (suc i) rows)) (outside_front (g (get_or rows i r)) (flat g (drop (suc i) rows)) there))
