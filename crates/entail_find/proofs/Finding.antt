-- The first equation that has the variable, as a loop finds it.
use Rattle.std.proofs.Common.{◌≡◌, ℕ, suc, ◌+◌, ◌<◌, ◌≤◌, List, [], ◌∷◌, ◌++◌, length, get_or, take, drop, drop-cons, add-one, true, false, ◌&&◌, refl, sym, ◌∙◌, ap}
use Rattle.std.specs.Prelude.{Option, Some, None}
use Rattle.std.proofs.lemmas.List.{take_more, drop_all}
use Rattle.linear_model.specs.Items.{Item, item_row}
use Rattle.linear_model.specs.Elimination.{first_equation, with_front, is_equation, has}

abbrev pub found_after : List Item → Option (Item × List Item) → Option (Item × List Item)
found_after [] o = o
found_after (r ∷ rs) o = with_front r (found_after rs o)

after_some : (rs : List Item) (e : Item) (rest : List Item) → found_after rs (Some (e, rest)) ≡ Some (e, rs ++ rest)
after_some [] e rest = refl
after_some (r ∷ rs) e rest = ap (with_front r) (after_some rs e rest)

after_none : (rs : List Item) → found_after rs None ≡ None
after_none [] = refl
after_none (r ∷ rs) = ap (with_front r) (after_none rs)

after_more : (rs : List Item) (r : Item) (o : Option (Item × List Item)) → found_after (rs ++ r ∷ []) o ≡ found_after rs (with_front r o)
after_more [] r o = refl
after_more (s ∷ rs) r o = ap (with_front s) (after_more rs r o)

abbrev first : ℕ → List Item → Option (Item × List Item)
first x rows = first_equation item_row x rows

at_equation : (x : ℕ) (r : Item) (rs : List Item) → (is_equation r.row.rel && has x r.row) ≡ true → first x (r ∷ rs) ≡ Some (r, rs)
at_equation x r rs e = rw e refl

past_other : (x : ℕ) (r : Item) (rs : List Item) → (is_equation r.row.rel && has x r.row) ≡ false → first x (r ∷ rs) ≡ with_front r (first x rs)
past_other x r rs e = rw e refl

pub from_here : (rows : List Item) (i : ℕ) (r : Item) → i < length rows → r ≡ get_or rows i r → drop i rows ≡ r ∷ drop (i + 1) rows
from_here rows i r lt e = rw (add-one, drop-cons rows i r lt) (ap (λ y. y ∷ drop (suc i) rows) (sym e))

pub found_at : (x : ℕ) (rows : List Item) (i : ℕ) (r : Item) → i < length rows → r ≡ get_or rows i r → (is_equation r.row.rel && has x r.row) ≡ true
    → first_equation item_row x rows ≡ found_after (take i rows) (first_equation item_row x (drop i rows)) → first_equation item_row x rows ≡ Some (r, take i rows ++ drop (i + 1) rows)
found_at x rows i r lt e t h =
    h ∙ (ap (λ rs. found_after (take i rows) (first x rs)) (from_here rows i r lt e)
    ∙ (ap (found_after (take i rows)) (at_equation x r (drop (i + 1) rows) t) ∙ after_some (take i rows) r (drop (i + 1) rows)))

pub not_found_at : (x : ℕ) (rows : List Item) (i : ℕ) (r : Item) → i < length rows → r ≡ get_or rows i r → (is_equation r.row.rel && has x r.row) ≡ false
    → first_equation item_row x rows ≡ found_after (take i rows) (first_equation item_row x (drop i rows)) → first_equation item_row x rows ≡ found_after (take (i + 1) rows) (first_equation item_row x (drop (i + 1) rows))
not_found_at x rows i r lt e t h =
    let more : take (i + 1) rows ≡ take i rows ++ r ∷ [] = take_more rows i r lt ∙ ap (λ s. take i rows ++ s ∷ []) (sym e) in
    h ∙ (ap (λ rs. found_after (take i rows) (first x rs)) (from_here rows i r lt e)
    ∙ (ap (found_after (take i rows)) (past_other x r (drop (i + 1) rows) t)
    ∙ (sym (after_more (take i rows) r (first x (drop (i + 1) rows))) ∙ ap (λ rs. found_after rs (first x (drop (i + 1) rows))) (sym more))))

pub not_found : (x : ℕ) (rows : List Item) (i : ℕ) → length rows ≤ i → first_equation item_row x rows ≡ found_after (take i rows) (first_equation item_row x (drop i rows)) → first_equation item_row x rows ≡ None
not_found x rows i h k = k ∙ (ap (λ rs. found_after (take i rows) (first x rs)) (drop_all i rows h) ∙ after_none (take i rows))
