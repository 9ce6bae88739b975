-- Items that come one after another.
use Rattle.std.proofs.Common.{append_assoc, map, ◌≡◌, List, [], ◌∷◌, ◌++◌, length, Bool, true, false, ◌&&◌, arith, refl, sym, ◌∙◌, ap, subst}
use Rattle.std.specs.List.{filter}
use Rattle.std.proofs.lemmas.List.{append-nil}
use Rattle.std.proofs.lemmas.List.Elements.{filter-append}
use Rattle.linear_model.specs.Normal.{is_within}
use Rattle.linear_model.specs.Items.{Item}
use Rattle.linear_model.specs.Chain.{all_within, weights_within}
use Rattle.chain_items.specs.Items.{item_within}
use Rattle.entail_find.specs.Kept.{with_item, with_items, Adds}

pub within_append : (is js : List Item) → all_within (is ++ js) ≡ (all_within is && all_within js)
within_append [] js = refl
within_append (i ∷ is) js = by (is_within i.row && weights_within i.m) (within_append is js)
  where
    by : (t : Bool) → all_within (is ++ js) ≡ (all_within is && all_within js) → (t && all_within (is ++ js)) ≡ ((t && all_within is) && all_within js)
    by true ih = ih
    by false ih = refl

pub and_false : (t : Bool) → (t && false) ≡ false
and_false true = refl
and_false false = refl

pub outside_first : (i : Item) (is : List Item) → item_within i ≡ false → all_within (i ∷ is) ≡ false
outside_first i is e = ap (λ t. t && all_within is) e

pub outside_rest : (i : Item) (is : List Item) → all_within is ≡ false → all_within (i ∷ is) ≡ false
outside_rest i is e = ap (λ t. item_within i && t) e ∙ and_false (item_within i)

pub outside_front : (is js : List Item) → all_within is ≡ false → all_within (is ++ js) ≡ false
outside_front is js e = within_append is js ∙ ap (λ t. t && all_within js) e

pub outside_back : (is js : List Item) → all_within js ≡ false → all_within (is ++ js) ≡ false
outside_back is js e = within_append is js ∙ (ap (λ t. all_within is && t) e ∙ and_false (all_within is))

items_append : (found is js : List Item) → with_items found (is ++ js) ≡ with_items (with_items found is) js
items_append found [] js = refl
items_append found (i ∷ is) js = items_append (with_item found i) is js

pub adds_none : (found : List Item) → Adds found [] found
adds_none found = record { kept = refl; within = refl }

pub adds_both : (before is between js after : List Item) → Adds before is between → Adds between js after → Adds before (is ++ js) after
adds_both before is between js after h k = record {
  kept = k.kept ∙ (ap (λ xs. with_items xs js) h.kept ∙ sym (items_append before is js));
  within = within_append is js ∙ (ap (λ t. t && all_within js) h.within ∙ k.within);
}

pub adds_more : (before : List Item) (i : Item) (between js after : List Item) → Adds before (i ∷ []) between → Adds between js after → Adds before (i ∷ js) after
adds_more before i between js after h k = adds_both before (i ∷ []) between js after h k

-- ---- loops that add what f makes of each item
pub none_left : (xs : List Item) → length xs ≡ 0 → xs ≡ []
none_left [] e = refl
none_left (x ∷ xs) e = absurd (omega arith)

module _ (f : Item → Item) (initial into : List Item) (all rest : List Item) (so_far : (after : List Item) → Adds into (map f rest) after → Adds initial all after) where
  pub mapped_next : (i : Item) (new between : List Item) → rest ≡ i ∷ new → Adds into (f i ∷ []) between → (after : List Item) → Adds between (map f new) after → Adds initial all after
  mapped_next i new between e h after k = so_far after (subst (λ xs. Adds into (map f xs) after) (sym e) (adds_more into (f i) between (map f new) after h k))

  pub mapped_end : rest ≡ [] → Adds initial all into
  mapped_end e = so_far into (subst (λ xs. Adds into (map f xs) into) (sym e) (adds_none into))

module _ (f : Item → Item) (all rest : List Item) (outside : all_within (map f rest) ≡ false → all_within all ≡ false) where
  pub mapped_outside_rest : (i : Item) (new : List Item) → rest ≡ i ∷ new → all_within (map f new) ≡ false → all_within all ≡ false
  mapped_outside_rest i new e k = outside (subst (λ xs. all_within (map f xs) ≡ false) (sym e) (outside_rest (f i) (map f new) k))

  pub mapped_outside : (i : Item) (new : List Item) → rest ≡ i ∷ new → item_within (f i) ≡ false → all_within all ≡ false
  mapped_outside i new e k = outside (subst (λ xs. all_within (map f xs) ≡ false) (sym e) (outside_first (f i) (map f new) k))

-- ---- loops that add what a test lets pass
module _ (p : Item → Bool) where
  filter_first : (i : Item) (new : List Item) → filter p (i ∷ new) ≡ filter p (i ∷ []) ++ filter p new
  filter_first i new = filter-append p (i ∷ []) new

  pub filtered_next : (initial into : List Item) (all rest : List Item) → ((after : List Item) → Adds into (filter p rest) after → Adds initial all after)
      → (i : Item) (new between : List Item) → rest ≡ i ∷ new → Adds into (filter p (i ∷ [])) between → (after : List Item) → Adds between (filter p new) after → Adds initial all after
  filtered_next initial into all rest so_far i new between e h after k =
      so_far after (subst (λ xs. Adds into xs after) (sym (ap (filter p) e ∙ filter_first i new)) (adds_both into (filter p (i ∷ [])) between (filter p new) after h k))

  pub filtered_end : (initial into : List Item) (all rest : List Item) → ((after : List Item) → Adds into (filter p rest) after → Adds initial all after) → rest ≡ [] → Adds initial all into
  filtered_end initial into all rest so_far e = so_far into (subst (λ xs. Adds into (filter p xs) into) (sym e) (adds_none into))

  pub filtered_more : (i : Item) (new rest out old all : List Item) → rest ≡ i ∷ new → out ≡ old ++ filter p (i ∷ []) → old ++ filter p rest ≡ all → out ++ filter p new ≡ all
  filtered_more i new rest out old all e h g =
      ap (λ xs. xs ++ filter p new) h ∙ (append_assoc old (filter p (i ∷ [])) (filter p new) ∙ (ap (λ xs. old ++ xs) (sym (ap (filter p) e ∙ filter_first i new)) ∙ g))

  pub filtered_all : (rest old all : List Item) → rest ≡ [] → old ++ filter p rest ≡ all → old ≡ all
  filtered_all rest old all e g = sym (append-nil old) ∙ (ap (λ xs. old ++ filter p xs) (sym e) ∙ g)
