-- The items that a turn keeps, until there are too many.
use Rattle.std.proofs.Common.{◌≡◌, ◌<◌, ◌≤◌, List, [], ◌∷◌, ◌++◌, length, length-append, Bool, true, false, not, arith, refl, ◌∙◌, ap}
use Rattle.std.specs.Prelude.{nat_lt, nat_le, if◌then◌else◌}
use Rattle.std.specs.List.{filter, list_any}
use Rattle.std.proofs.lemmas.Bool.Decides.{nat_tests}
use Rattle.clp_model.specs.Predicates.{with_element, distinct_after}
use Rattle.linear_model.specs.Normal.{is_always}
use Rattle.linear_model.specs.Items.{Item, same_normal, kept}
use Rattle.linear_model.specs.Chain.{all_within}
use Rattle.entail_find.specs.Kept.{with_item, with_items, Adds}

abbrev kept_after : List Item → List Item → List Item
kept_after found made = distinct_after same_normal found (filter (λ i. not (is_always i.row)) made)

grows : (found : List Item) (i : Item) → length found ≤ length (with_element same_normal found i)
grows found i = by (list_any (λ y. same_normal y i) found)
  where
    by : (t : Bool) → length found ≤ length (if t then found else found ++ i ∷ [])
    by true = omega arith
    by false = omega (arith, length-append found (i ∷ []))

distinct_grows : (found is : List Item) → length found ≤ length (distinct_after same_normal found is)
distinct_grows found [] = omega arith
distinct_grows found (i ∷ is) = let a = grows found i in let b = distinct_grows (with_element same_normal found i) is in omega arith

item_grows : (found : List Item) (i : Item) → length found ≤ length (with_item found i)
item_grows found i = by (nat_lt 1024 (length found)) (is_always i.row)
  where
    by : (s t : Bool) → length found ≤ length (if s then found else if t then found else with_element same_normal found i)
    by true t = omega arith
    by false true = omega arith
    by false false = grows found i

items_grow : (found is : List Item) → length found ≤ length (with_items found is)
items_grow found [] = omega arith
items_grow found (i ∷ is) = let a = item_grows found i in let b = items_grow (with_item found i) is in omega arith

few_same : (found made : List Item) → length (with_items found made) ≤ 1024 → with_items found made ≡ kept_after found made
few_same found [] h = refl
few_same found (i ∷ is) h = by (nat_lt 1024 (length found)) refl (is_always i.row) (few_same found is) (few_same (with_element same_normal found i) is) h
  where
    by : (s : Bool) → nat_lt 1024 (length found) ≡ s → (t : Bool)
        → (length (with_items found is) ≤ 1024 → with_items found is ≡ kept_after found is)
        → (length (with_items (with_element same_normal found i) is) ≤ 1024 → with_items (with_element same_normal found i) is ≡ kept_after (with_element same_normal found i) is)
        → length (with_items (if s then found else if t then found else with_element same_normal found i) is) ≤ 1024
        → with_items (if s then found else if t then found else with_element same_normal found i) is ≡ distinct_after same_normal found (if not t then i ∷ filter (λ j. not (is_always j.row)) is else filter (λ j. not (is_always j.row)) is)
    by true e t there other h = let l : 1024 < length found = grind (arith, nat_tests) in let m = items_grow found is in absurd (omega arith)
    by false e true there other h = there h
    by false e false there other h = other h

many_more : (found made : List Item) → 1024 < length (with_items found made) → 1024 < length (kept_after found made)
many_more found [] h = h
many_more found (i ∷ is) h = by (nat_lt 1024 (length found)) refl (is_always i.row) (many_more found is) (many_more (with_element same_normal found i) is) h
  where
    by : (s : Bool) → nat_lt 1024 (length found) ≡ s → (t : Bool)
        → (1024 < length (with_items found is) → 1024 < length (kept_after found is))
        → (1024 < length (with_items (with_element same_normal found i) is) → 1024 < length (kept_after (with_element same_normal found i) is))
        → 1024 < length (with_items (if s then found else if t then found else with_element same_normal found i) is)
        → 1024 < length (distinct_after same_normal found (if not t then i ∷ filter (λ j. not (is_always j.row)) is else filter (λ j. not (is_always j.row)) is))
    by true e t there other h =
        let l : 1024 < length found = grind (arith, nat_tests) in
        let m = distinct_grows found (if not t then i ∷ filter (λ j. not (is_always j.row)) is else filter (λ j. not (is_always j.row)) is) in
        omega arith
    by false e true there other h = there h
    by false e false there other h = other h

pub few_kept : (made left : List Item) → Adds [] made left → length left ≤ 1024 → (left ≡ kept made) × (all_within made ≡ true) × (nat_le (length (kept made)) 1024 ≡ true)
few_kept made left a h =
    let k = a.kept in
    let l = ap length k in
    let e : left ≡ kept made = k ∙ few_same [] made (omega arith) in
    let m = ap length e in
    (e, a.within, (grind (arith, nat_tests)))

pub many_kept : (made left : List Item) → Adds [] made left → 1024 < length left → (all_within made ≡ true) × (nat_le (length (kept made)) 1024 ≡ false)
many_kept made left a h =
    let l = ap length a.kept in
    let m = many_more [] made (omega arith) in
    (a.within, (grind (arith, nat_tests)))
