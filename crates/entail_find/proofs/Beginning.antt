-- The items at the start are those of the chain.
use Rattle.std.proofs.Common.{◌≡◌, ℕ, zero, suc, ◌+◌, ◌<◌, List, [], ◌∷◌, ◌++◌, length, map, Bool, true, false, arith, refl, sym, ◌∙◌, ap, subst}
use Rattle.std.specs.Prelude.{nat_eq, if◌then◌else◌}
use Rattle.std.proofs.Math.IntN.{ℤ, pos, ◌+ℤ◌}
use Rattle.std.proofs.lemmas.Bool.Decides.{nat_tests}
use Rattle.std.proofs.lemmas.List.Elements.{All-nil, All-head}
use Rattle.clp_model.specs.Clauses.{Row}
use Rattle.linear_model.specs.Forms.{IsRising}
use Rattle.linear_model.specs.Changes.{negated}
use Rattle.linear_model.specs.Items.{Item}
use Rattle.linear_model.specs.Chain.{begun, begun_with, first_last}
use Rattle.chain_items.specs.Sparse.{spread}
use Rattle.chain_items.specs.Items.{item_of}
use Rattle.chain_laws.specs.Laws.{RisingRows, RisingItems, HaveMultipliers}
use Rattle.chain_laws.proofs.Public.{start_rises, start_with_rises, start_counts, start_with_counts}
use Rattle.entail_find.specs.Beginning.{numbered}

abbrev pub one_at : ℕ → List (ℕ × ℤ)
one_at p = (p, pos 1) ∷ []

same_next : (p i : ℕ) → nat_eq (p + 1) (i + 1) ≡ nat_eq p i
same_next p i = by (nat_eq p i) refl
  where
    by : (t : Bool) → nat_eq p i ≡ t → nat_eq (p + 1) (i + 1) ≡ t
    by true e = grind (arith, nat_tests)
    by false e = grind (arith, nat_tests)

shifted : (p i n : ℕ) → spread (i + 1) n (one_at (p + 1)) ≡ spread i n (one_at p)
shifted p i zero = refl
shifted p i (suc n) =
    ap (λ t. ((if t then pos 1 else pos 0) +ℤ pos 0) ∷ spread ((i + 1) + 1) n (one_at (p + 1))) (same_next p i)
    ∙ ap (λ zs. ((if nat_eq p i then pos 1 else pos 0) +ℤ pos 0) ∷ zs) (shifted p (i + 1) n)

not_zero : (p : ℕ) → nat_eq (p + 1) 0 ≡ false
not_zero p = grind (arith, nat_tests)

front : (r : Row) (p n : ℕ) → item_of r (suc n) (one_at (p + 1)) ≡ record { row = r; m = pos 0 ∷ spread 0 n (one_at p) }
front r p n =
    let make : List ℤ → Item = λ ms. record { row = r; m = ms } in
    ap (λ t. make (((if t then pos 1 else pos 0) +ℤ pos 0) ∷ spread 1 n (one_at (p + 1)))) (not_zero p)
    ∙ ap (λ zs. make (pos 0 ∷ zs)) (shifted p 0 n)

fronts : (p n : ℕ) (rows : List Row) → map (λ i. record { row = i.row; m = pos 0 ∷ i.m }) (numbered p n rows) ≡ numbered (p + 1) (suc n) rows
fronts p n [] = refl
fronts p n (r ∷ rs) =
    ap (λ (i : Item). i ∷ map (λ (i : Item). record { row = i.row; m = pos 0 ∷ i.m }) (numbered (p + 1) n rs)) (sym (front r p n))
    ∙ ap (λ is. item_of r (suc n) (one_at (p + 1)) ∷ is) (fronts (p + 1) n rs)

zeros_at : (i : ℕ) (rows : List Row) → 0 < i → map (λ _. pos 0) rows ≡ spread i (length rows) (one_at 0)
zeros_at i [] h = refl
zeros_at i (r ∷ rs) h =
    let e : nat_eq 0 i ≡ false = grind (arith, nat_tests) in
    ap (λ zs. pos 0 ∷ zs) (zeros_at (i + 1) rs (omega arith)) ∙ sym (ap (λ t. ((if t then pos 1 else pos 0) +ℤ pos 0) ∷ spread (i + 1) (length rs) (one_at 0)) e)

pub begun_is : (rows : List Row) → begun rows ≡ numbered 0 (length rows) rows
begun_is [] = refl
begun_is (r ∷ rs) =
    let make : List ℤ → Item = λ ms. record { row = r; m = ms } in
    ap (λ zs. make (pos 1 ∷ zs) ∷ map (λ (i : Item). record { row = i.row; m = pos 0 ∷ i.m }) (begun rs)) (zeros_at 1 rs (omega arith))
    ∙ ap (λ is. item_of r (suc (length rs)) (one_at 0) ∷ is) (ap (map (λ (i : Item). record { row = i.row; m = pos 0 ∷ i.m })) (begun_is rs) ∙ fronts 0 (length rs) rs)

pub begun_with_is : (rows : List Row) (target : Row) → begun_with rows target ≡ numbered 1 (suc (length rows)) rows ++ item_of (negated target) (suc (length rows)) (one_at 0) ∷ []
begun_with_is rows target = ap first_last (begun_is (negated target ∷ rows))

-- ---- how many multipliers there are
abbrev pub count_of : List Item → ℕ
count_of [] = 0
count_of (i ∷ is) = length i.m

counted : (n : ℕ) (items : List Item) → HaveMultipliers n items → HaveMultipliers (count_of items) items
counted n [] h = All-nil (λ (i : Item). length i.m ≡ 0)
counted n (i ∷ is) h = subst (λ k. HaveMultipliers k (i ∷ is)) (sym (All-head (λ (j : Item). length j.m ≡ n) i is h)) h

-- ---- what the chain asks of them
module _ (rows : List Row) (items : List Item) (rise : RisingRows rows) where
  pub starts_rising : items ≡ begun rows → RisingItems items
  starts_rising e = subst RisingItems (sym e) (start_rises rows rise)

  pub starts_counted : items ≡ begun rows → HaveMultipliers (count_of items) items
  starts_counted e = counted (length rows) items (subst (HaveMultipliers (length rows)) (sym e) (start_counts rows))

  module _ (target : Row) (rises : IsRising target.pairs) (e : items ≡ begun_with rows target) where
    pub starts_with_rising : RisingItems items
    starts_with_rising = subst RisingItems (sym e) (start_with_rises rows target rise rises)

    pub starts_with_counted : HaveMultipliers (count_of items) items
    starts_with_counted = counted (suc (length rows)) items (subst (HaveMultipliers (suc (length rows))) (sym e) (start_with_counts rows target))

pub with_target : (rows : List Row) (target n : Row) (c d : ℕ) (first all : List Item) → c ≡ length rows + 1 → d ≡ length rows + 1 → n ≡ negated target → first ≡ numbered 1 c rows → all ≡ first ++ item_of n d (one_at 0) ∷ [] → all ≡ begun_with rows target
with_target rows target n c d first all e e' f g h =
    let k : c ≡ suc (length rows) = omega arith in
    let k' : d ≡ suc (length rows) = omega arith in
    h ∙ (ap (λ xs. xs ++ item_of n d (one_at 0) ∷ []) (g ∙ ap (λ m. numbered 1 m rows) k)
    ∙ (ap (λ m. numbered 1 (suc (length rows)) rows ++ item_of n m (one_at 0) ∷ []) k'
    ∙ (ap (λ r. numbered 1 (suc (length rows)) rows ++ item_of r (suc (length rows)) (one_at 0) ∷ []) f ∙ sym (begun_with_is rows target))))
