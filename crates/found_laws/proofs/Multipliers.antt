-- The multipliers of the items of a chain stay within their range.
use Rattle.std.proofs.Common.{◌≡◌, zero, suc, List, [], ◌∷◌, map, Bool, true, false, ◌&&◌, inl, inr, refl, ◌∙◌, ap}
use Rattle.std.specs.Prelude.{int_lt, unsigned_abs, nat_le, if◌then◌else◌}
use Rattle.std.proofs.Math.IntN.{ℤ, pos, negsuc, neg_ℤ}
use Rattle.std.proofs.lemmas.Bool.{and_parts}
use Rattle.clp_model.specs.Clauses.{Row}
use Rattle.clp_model.proofs.Membership.{Among, first, next, among_either}
use Rattle.linear_model.specs.Normal.{is_within}
use Rattle.linear_model.specs.Changes.{negated}
use Rattle.linear_model.specs.Elimination.{is_equation}
use Rattle.linear_model.specs.Items.{Item, turn}
use Rattle.linear_model.specs.Chain.{Shown, multiplier_limit, weights_within, all_within, begun, first_last, begun_with, chain, places, signed, part_of}
use Rattle.linear_laws.proofs.Lists.{mapped_out}
use Rattle.chain_laws.specs.Laws.{Reaches, here, onward}
use Rattle.chain_laws.proofs.Turns.{kept_from}
use Rattle.chain_laws.proofs.Outcomes.{reached_false}
use Rattle.chain_laws.proofs.Reaching.{first_is}
use Rattle.farkas_check.specs.Parts.{part_within}

-- the multipliers of each item are within their range
abbrev Within : List Item → Type 0
Within items = (i : Item) → Among i items → weights_within i.m ≡ true

-- ---- at the start
zeros_within : (rows : List Row) → weights_within (map (λ _. pos 0) rows) ≡ true
zeros_within [] = refl
zeros_within (r ∷ rows) = zeros_within rows

begun_within : (rows : List Row) → Within (begun rows)
begun_within [] i a = elim a [ ]
begun_within (r ∷ rows) i first = zeros_within rows
begun_within (r ∷ rows) i (next a) =
    mapped_out (λ (j : Item). record { row = j.row; m = pos 0 ∷ j.m }) (begun rows) (λ (j : Item). weights_within j.m ≡ true) (begun_within rows) i a

in_first_last : (items : List Item) (i : Item) → Among i (first_last items) → Among i items
in_first_last [] i a = a
in_first_last (j ∷ items) i a = elim (among_either i items (j ∷ []) a) [ inl b ↦ next b | inr b ↦ only i b ]
  where
    only : (i : Item) → Among i (j ∷ []) → Among i (j ∷ items)
    only i first = first
    only i (next b) = elim b [ ]

begun_with_within : (rows : List Row) (target : Row) → Within (begun_with rows target)
begun_with_within rows target i a = begun_within (negated target ∷ rows) i (in_first_last (begun (negated target ∷ rows)) i a)

-- ---- along a chain
made_within : (items : List Item) → all_within items ≡ true → Within items
made_within [] e i a = elim a [ ]
made_within (j ∷ items) e i first = (and_parts (is_within j.row) (weights_within j.m) (and_parts (is_within j.row && weights_within j.m) (all_within items) e).0).1
made_within (j ∷ items) e i (next a) = made_within items (and_parts (is_within j.row && weights_within j.m) (all_within items) e).1 i a

within_along : {items later : List Item} → Reaches items later → Within items → Within later
within_along here h = h
within_along {items = items} (onward x f l s k r) h = within_along r (λ i a. made_within (turn x items) s i (kept_from (turn x items) i a))

-- ---- with the sign changed
opposite_size : (z : ℤ) → unsigned_abs (neg_ℤ z) ≡ unsigned_abs z
opposite_size (pos zero) = refl
opposite_size (pos (suc n)) = refl
opposite_size (negsuc n) = refl

opposites_within : (ms : List ℤ) → weights_within (map neg_ℤ ms) ≡ weights_within ms
opposites_within [] = refl
opposites_within (m ∷ ms) = ap (λ n. nat_le n multiplier_limit && weights_within (map neg_ℤ ms)) (opposite_size m) ∙ ap (λ b. nat_le (unsigned_abs m) multiplier_limit && b) (opposites_within ms)

signed_within : (i : Item) → weights_within i.m ≡ true → weights_within (signed i) ≡ true
signed_within i w = by (is_equation i.row.rel && int_lt i.row.constant (pos 0))
  where
    by : (b : Bool) → weights_within (if b then map neg_ℤ i.m else i.m) ≡ true
    by true = opposites_within i.m ∙ w
    by false = w

-- ---- what a chain shows
shown_within : (items : List Item) (i : Item) → Within items → chain items ≡ Shown i → weights_within (signed i) ≡ true
shown_within items i h e =
    let r = reached_false (places items) items i e in
    signed_within i (within_along r.1 h i (first_is r.0 i r.2).0)

part_of_within : (ms : List ℤ) → weights_within ms ≡ true → part_within (part_of ms) ≡ true
part_of_within [] e = refl
part_of_within (k ∷ ms) e = e

pub target_within : (rows : List Row) (target : Row) (i : Item) → chain (begun_with rows target) ≡ Shown i → part_within (part_of (signed i)) ≡ true
target_within rows target i e = part_of_within (signed i) (shown_within (begun_with rows target) i (begun_with_within rows target) e)

pub falsehood_within : (rows : List Row) (i : Item) → chain (begun rows) ≡ Shown i → weights_within (signed i) ≡ true
falsehood_within rows i e = shown_within (begun rows) i (begun_within rows) e
