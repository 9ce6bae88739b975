-- What a turn makes, by an equation or by bounds.
use Rattle.std.proofs.Common.{◌≡◌, ℕ, suc, ◌+◌, List, [], ◌∷◌, ◌++◌, take, drop, add-one, Bool, true, false, not, arith, refl, sym, ◌∙◌, ap, subst}
use Rattle.std.specs.Prelude.{All, Some, None, int_lt, if◌then◌else◌}
use Rattle.std.specs.List.{filter, remove}
use Rattle.std.proofs.Math.IntN.{ℤ, pos, negsuc}
use Rattle.std.proofs.lemmas.Int.{ints}
use Rattle.std.proofs.lemmas.List.Elements.{All-nil, All-cons, All-head, All-tail, All-append, All-take, All-drop}
use Rattle.linear_laws.proofs.Sums.{zero_is}
use Rattle.linear_model.specs.Forms.{coefficient, is_zero}
use Rattle.linear_model.specs.Elimination.{has, first_equation, eliminated_by}
use Rattle.linear_model.specs.Items.{Item, item_row, joined, turn}
use Rattle.linear_model.specs.Chain.{all_within}
use Rattle.entail_find.specs.Kept.{Adds}
use Rattle.entail_find.specs.Turning.{by_equation, by_bounds, others_of, lowers_of, uppers_of}
use Rattle.entail_find.proofs.Adding.{adds_both, outside_back}

pub remove_is : (xs : List Item) (k : ℕ) → take k xs ++ drop (k + 1) xs ≡ remove xs k
remove_is xs k = rw add-one refl

pub turn_some : (x : ℕ) (items : List Item) (e : Item) (others : List Item) → first_equation item_row x items ≡ Some (e, others) → turn x items ≡ by_equation x e others
turn_some x items e others h = ap (eliminated_by item_row joined x items) h

pub turn_none : (x : ℕ) (items : List Item) → first_equation item_row x items ≡ None → turn x items ≡ others_of x items ++ by_bounds x (lowers_of x items) (uppers_of x items)
turn_none x items h = ap (eliminated_by item_row joined x items) h

module _ (P : Item → Type 0) (p : Item → Bool) where
  pub all_passed : (xs : List Item) → ((i : Item) → p i ≡ true → P i) → All P (filter p xs)
  all_passed [] h = All-nil P
  all_passed (x ∷ xs) h = by (p x) refl (all_passed xs h)
    where
      by : (t : Bool) → p x ≡ t → All P (filter p xs) → All P (if t then x ∷ filter p xs else filter p xs)
      by true e ih = All-cons P x (filter p xs) (h x e) ih
      by false e ih = ih

  pub all_left : (xs : List Item) → All P xs → All P (filter p xs)
  all_left [] a = All-nil P
  all_left (x ∷ xs) a = by (p x) (all_left xs (All-tail P x xs a))
    where
      by : (t : Bool) → All P (filter p xs) → All P (if t then x ∷ filter p xs else filter p xs)
      by true ih = All-cons P x (filter p xs) (All-head P x xs a) ih
      by false ih = ih

pub all_removed : (P : Item → Type 0) (xs : List Item) (k : ℕ) → All P xs → All P (remove xs k)
all_removed P xs k a = All-append P (take k xs) (drop (suc k) xs) (All-take P k xs a) (All-drop P (suc k) xs a)

pub lower_has : (x : ℕ) (i : Item) → int_lt (coefficient i.row.pairs x) (pos 0) ≡ true → has x i.row ≡ true
lower_has x i e = by (coefficient i.row.pairs x) e
  where
    by : (c : ℤ) → int_lt c (pos 0) ≡ true → not (is_zero c) ≡ true
    by (pos n) e = absurd (grind (arith, ints))
    by (negsuc n) e = refl

pub upper_has : (x : ℕ) (i : Item) → int_lt (pos 0) (coefficient i.row.pairs x) ≡ true → has x i.row ≡ true
upper_has x i e = by (is_zero (coefficient i.row.pairs x)) refl
  where
    by : (t : Bool) → is_zero (coefficient i.row.pairs x) ≡ t → not t ≡ true
    by false k = refl
    by true k =
        let z = zero_is (coefficient i.row.pairs x) k in
        let f : int_lt (pos 0) (pos 0) ≡ true = ap (λ c. int_lt (pos 0) c) (sym z) ∙ e in
        absurd (grind (arith, ints))

pub by_bounds_after : (x : ℕ) (items ls us : List Item) (before between after : List Item) → first_equation item_row x items ≡ None → ls ≡ lowers_of x items → us ≡ uppers_of x items
    → Adds before (others_of x items) between → Adds between (by_bounds x ls us) after → Adds before (turn x items) after
by_bounds_after x items ls us before between after e f g h k =
    subst (λ xs. Adds before xs after) (sym (turn_none x items e ∙ (ap (λ ys. others_of x items ++ by_bounds x ys (uppers_of x items)) (sym f) ∙ ap (λ ys. others_of x items ++ by_bounds x ls ys) (sym g))))
    (adds_both before (others_of x items) between (by_bounds x ls us) after h k)

pub by_bounds_outside : (x : ℕ) (items ls us : List Item) → first_equation item_row x items ≡ None → ls ≡ lowers_of x items → us ≡ uppers_of x items
    → all_within (by_bounds x ls us) ≡ false → all_within (turn x items) ≡ false
by_bounds_outside x items ls us e f g k =
    ap all_within (turn_none x items e ∙ (ap (λ ys. others_of x items ++ by_bounds x ys (uppers_of x items)) (sym f) ∙ ap (λ ys. others_of x items ++ by_bounds x ls ys) (sym g)))
    ∙ outside_back (others_of x items) (by_bounds x ls us) k
