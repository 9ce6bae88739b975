-- What the chain begins with, and its two ends.
use Rattle.std.proofs.Common.{◌≡◌, ℕ, suc, List, [], ◌∷◌, map, length, inl, inr, arith, refl, ap}
use Rattle.std.specs.Prelude.{All}
use Rattle.std.proofs.lemmas.List.Elements.{All-from_recursion, All-contains}
use Rattle.std.proofs.Math.IntN.{ℤ, pos, zero-*ℤ}
use Rattle.std.proofs.lemmas.Int.{ints}
use Rattle.clp_model.specs.Values.{Valuation}
use Rattle.clp_model.specs.Clauses.{Row, RowHolds}
use Rattle.clp_model.specs.declared.sort.Rel.{Rel}
use Rattle.clp_model.specs.declared.sort.Rel.TheVariants.{Eq, Le, Lt}
use Rattle.clp_model.proofs.Membership.{Among, first, next, among_either, among_front, among_mapped, among_last, from_among, all_among}
use Rattle.linear_model.specs.Forms.{IsRising, coefficient}
use Rattle.linear_model.specs.Changes.{negated, flipped, at_most}
use Rattle.linear_model.specs.Certificates.{Entails, weighted_coefficient, weighted_constant, Allowed, Shows, ShowsFalse}
use Rattle.linear_model.specs.Items.{Item}
use Rattle.linear_model.specs.Chain.{Shown, NotEntailed, places, chain, signed, part_of, begun, first_last, begun_with}
use Rattle.linear_laws.proofs.Lists.{mapped_out}
use Rattle.linear_laws.proofs.Opposite.{negated_holds, halves_hold, rising_opposite}
use Rattle.chain_laws.specs.Laws.{RisingRows, HalfNotFound}
use Rattle.chain_laws.proofs.Sums.{OnEquations, Gives, IsSum}
use Rattle.chain_laws.proofs.Certifying.{certifies, certifies_target}
use Rattle.chain_laws.proofs.Variables.{Risings}
use Rattle.chain_laws.proofs.Outcomes.{reached_false}
use Rattle.chain_laws.proofs.Reaching.{sums_along, first_is, nothing_found}

zero_coefficient : (rs : List Row) (v : ℕ) → weighted_coefficient rs (map (λ _. pos 0) rs) v ≡ pos 0
zero_coefficient [] v = refl
zero_coefficient (r ∷ rs) v = let a = zero_coefficient rs v in let b = zero-*ℤ (coefficient r.pairs v) in omega (arith, ints)

zero_constant : (rs : List Row) → weighted_constant rs (map (λ _. pos 0) rs) ≡ pos 0
zero_constant [] = refl
zero_constant (r ∷ rs) = let a = zero_constant rs in let b = zero-*ℤ r.constant in omega (arith, ints)

zero_equations : (rs : List Row) → OnEquations rs (map (λ _. pos 0) rs)
zero_equations [] = tt
zero_equations (r ∷ rs) = (inr refl, zero_equations rs)

zero_allowed : (rs : List Row) → Allowed rs (map (λ _. pos 0) rs)
zero_allowed [] = tt
zero_allowed (r ∷ rs) = (inr (omega (arith, ints)), zero_allowed rs)

own_gives : (r : Row) (rs : List Row) (rel : Rel) → r.rel ≡ rel → Gives rel (r ∷ rs) (pos 1 ∷ map (λ _. pos 0) rs)
own_gives r rs Eq e = (inl e, zero_equations rs)
own_gives r rs Le e = (inr (omega (arith, ints)), zero_allowed rs)
own_gives r rs Lt e = ((inr (omega (arith, ints)), zero_allowed rs), inl (e, omega (arith, ints)))

own_sum : (r : Row) (rs : List Row) → IsSum (r ∷ rs) (record { row = r; m = pos 1 ∷ map (λ _. pos 0) rs })
own_sum r rs = record {
  coefficients = λ v. let a = zero_coefficient rs v in omega (arith, ints);
  constant = let a = zero_constant rs in omega (arith, ints);
  gives = own_gives r rs r.rel refl;
}

later_gives : (r : Row) (rs : List Row) (rel : Rel) (ms : List ℤ) → Gives rel rs ms → Gives rel (r ∷ rs) (pos 0 ∷ ms)
later_gives r rs Eq ms g = (inr refl, g)
later_gives r rs Le ms g = (inr (omega (arith, ints)), g)
later_gives r rs Lt ms g = ((inr (omega (arith, ints)), g.0), inr g.1)

later_sum : (r : Row) (rs : List Row) (i : Item) → IsSum rs i → IsSum (r ∷ rs) (record { row = i.row; m = pos 0 ∷ i.m })
later_sum r rs i s = record {
  coefficients = λ v. let a = s.coefficients v in let b = zero-*ℤ (coefficient r.pairs v) in omega (arith, ints);
  constant = let a = s.constant in let b = zero-*ℤ r.constant in omega (arith, ints);
  gives = later_gives r rs i.row.rel i.m s.gives;
}

begun_sums : (rows : List Row) (i : Item) → Among i (begun rows) → IsSum rows i
begun_sums [] i a = elim a [ ]
begun_sums (r ∷ rs) i first = own_sum r rs
begun_sums (r ∷ rs) i (next a) = mapped_out (λ (j : Item). record { row = j.row; m = pos 0 ∷ j.m }) (begun rs) (IsSum (r ∷ rs)) (λ j b. later_sum r rs j (begun_sums rs j b)) i a

in_first_last : (items : List Item) (i : Item) → Among i (first_last items) → Among i items
in_first_last [] i a = a
in_first_last (j ∷ items) i a = elim (among_either i items (j ∷ []) a) [ inl b ↦ next b | inr b ↦ only i b ]
  where
    only : (i : Item) → Among i (j ∷ []) → Among i (j ∷ items)
    only i first = first
    only i (next b) = elim b [ ]

-- each row has its item
begun_rows : (rows : List Row) (P : Row → Type 0) → ((i : Item) → Among i (begun rows) → P i.row) → (r : Row) → Among r rows → P r
begun_rows [] P h r a = elim a [ ]
begun_rows (s ∷ rs) P h r first = h (record { row = r; m = pos 1 ∷ map (λ _. pos 0) rs }) first
begun_rows (s ∷ rs) P h r (next a) =
    begun_rows rs P (λ i b. h (record { row = i.row; m = pos 0 ∷ i.m }) (next (among_mapped (λ (j : Item). record { row = j.row; m = pos 0 ∷ j.m }) b))) r a

out_first_last : (items : List Item) (i : Item) → Among i items → Among i (first_last items)
out_first_last [] i a = elim a [ ]
out_first_last (j ∷ items) i first = among_last i items
out_first_last (j ∷ items) i (next a) = among_front i items (j ∷ []) a

-- ---- the rows rise
begun_rising : (rows : List Row) → ((r : Row) → Among r rows → IsRising r.pairs) → Risings (begun rows)
begun_rising [] h i a = elim a [ ]
begun_rising (r ∷ rs) h i first = h r first
begun_rising (r ∷ rs) h i (next a) =
    mapped_out (λ (j : Item). record { row = j.row; m = pos 0 ∷ j.m }) (begun rs) (λ (j : Item). IsRising j.row.pairs) (λ j b. begun_rising rs (λ s c. h s (next c)) j b) i a

rows_rise : (rows : List Row) → RisingRows rows → (r : Row) → Among r rows → IsRising r.pairs
rows_rise rows h r a = All-contains (λ (r : Row). IsRising r.pairs) rows r h (from_among a)

with_negated : (rows : List Row) (target : Row) → RisingRows rows → IsRising target.pairs → (r : Row) → Among r (negated target ∷ rows) → IsRising r.pairs
with_negated rows target h t r first = rising_opposite target.pairs t
with_negated rows target h t r (next a) = rows_rise rows h r a

pub begun_rises : (rows : List Row) → RisingRows rows → Risings (begun rows)
begun_rises rows h = begun_rising rows (rows_rise rows h)

pub begun_with_rises : (rows : List Row) (target : Row) → RisingRows rows → IsRising target.pairs → Risings (begun_with rows target)
begun_with_rises rows target h t i a = begun_rising (negated target ∷ rows) (with_negated rows target h t) i (in_first_last (begun (negated target ∷ rows)) i a)

-- ---- each item has a multiplier for each row
zeros : (rs : List Row) → length (map (λ _. pos 0) rs) ≡ length rs
zeros [] = refl
zeros (r ∷ rs) = ap suc (zeros rs)

pub begun_count : (rows : List Row) (i : Item) → Among i (begun rows) → length i.m ≡ length rows
begun_count [] i a = elim a [ ]
begun_count (r ∷ rs) i first = ap suc (zeros rs)
begun_count (r ∷ rs) i (next a) =
    mapped_out (λ (j : Item). record { row = j.row; m = pos 0 ∷ j.m }) (begun rs) (λ (j : Item). length j.m ≡ suc (length rs)) (λ j b. ap suc (begun_count rs j b)) i a

pub begun_with_count : (rows : List Row) (target : Row) (i : Item) → Among i (begun_with rows target) → length i.m ≡ suc (length rows)
begun_with_count rows target i a = begun_count (negated target ∷ rows) i (in_first_last (begun (negated target ∷ rows)) i a)

-- ---- the laws
found_sum : (rows : List Row) (items : List Item) (i : Item) → ((j : Item) → Among j items → IsSum rows j) → chain items ≡ Shown i → ShowsFalse rows (record { k = pos 0; m = signed i })
found_sum rows items i h e =
    let r = reached_false (places items) items i e in
    let k = first_is r.0 i r.2 in
    certifies rows i (sums_along rows r.1 h i k.0) k.1

pub falsehood_shown : (rows : List Row) (i : Item) → chain (begun rows) ≡ Shown i → ShowsFalse rows (record { k = pos 0; m = signed i })
falsehood_shown rows i e = found_sum rows (begun rows) i (begun_sums rows) e

shows_part : (rows : List Row) (target : Row) (ms : List ℤ) → ¬ (target.rel ≡ Eq) → ShowsFalse (negated target ∷ rows) (record { k = pos 0; m = ms }) → Shows rows target (part_of ms)
shows_part rows target [] n s = absurd s.allowed
shows_part rows target (k ∷ ms) n s = certifies_target rows target k ms n s

pub target_shown : (rows : List Row) (target : Row) (i : Item) → ¬ (target.rel ≡ Eq) → chain (begun_with rows target) ≡ Shown i → Shows rows target (part_of (signed i))
target_shown rows target i n e =
    let all = negated target ∷ rows in
    shows_part rows target (signed i) n (found_sum all (begun_with rows target) i (λ j a. begun_sums all j (in_first_last (begun all) j a)) e)

-- one multiplier a row
allowed_length : (rows : List Row) (ms : List ℤ) → Allowed rows ms → length ms ≡ length rows
allowed_length [] [] a = refl
allowed_length [] (m ∷ ms) a = absurd a
allowed_length (r ∷ rs) [] a = absurd a
allowed_length (r ∷ rs) (m ∷ ms) a = ap suc (allowed_length rs ms a.1)

pub falsehood_count : (rows : List Row) (i : Item) → chain (begun rows) ≡ Shown i → length (signed i) ≡ length rows
falsehood_count rows i e = allowed_length rows (signed i) (falsehood_shown rows i e).allowed

pub target_count : (rows : List Row) (target : Row) (i : Item) → ¬ (target.rel ≡ Eq) → chain (begun_with rows target) ≡ Shown i → length (part_of (signed i)).m ≡ length rows
target_count rows target i n e = allowed_length rows (part_of (signed i)).m (target_shown rows target i n e).allowed

pub satisfiable : (rows : List Row) → RisingRows rows → chain (begun rows) ≡ NotEntailed → (u : Valuation) × All (RowHolds u) rows
satisfiable rows h e =
    let s = nothing_found (begun rows) (begun_rises rows h) e in
    (s.0, All-from_recursion (RowHolds s.0) rows (all_among (RowHolds s.0) rows (begun_rows rows (RowHolds s.0) s.1)))

pub not_entailed : (rows : List Row) (target : Row) → ¬ (target.rel ≡ Eq) → RisingRows rows → IsRising target.pairs → chain (begun_with rows target) ≡ NotEntailed → ¬ Entails rows target
not_entailed rows target n g t e h =
    let all = negated target ∷ rows in
    let s = nothing_found (begun_with rows target) (begun_with_rises rows target g t) e in
    let hold = begun_rows all (RowHolds s.0) (λ i a. s.1 i (out_first_last (begun all) i a)) in
    (negated_holds s.0 target n).0 (hold (negated target) first)
    (h s.0 (All-from_recursion (RowHolds s.0) rows (all_among (RowHolds s.0) rows (λ r a. hold r (next a)))))

pub half_not_found : HalfNotFound
half_not_found rows target e g t (inl n) h = not_entailed rows (at_most target) (λ i. cc) g t n (λ u k. ((halves_hold u target e).0 (h u k)).0)
half_not_found rows target e g t (inr n) h = not_entailed rows (at_most (flipped target)) (λ i. cc) g (rising_opposite target.pairs t) n (λ u k. ((halves_hold u target e).0 (h u k)).1)
