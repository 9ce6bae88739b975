-- Coefficients that are divided one by one.
use Rattle.std.proofs.Common.{◌≡◌, ℕ, ◌<◌, ◌≤◌, List, [], ◌∷◌, ◌++◌, Bool, true, false, ◌&&◌, arith, refl, sym, ◌∙◌, ap, subst}
use Rattle.std.proofs.Common.{to_z, of_z}
use Rattle.std.proofs.lemmas.Int.{to_z-of_z, fits_signed_from_abs}
use mir.Syntax.{w64, w128}
use Rattle.lin_row.proofs.Wide.{sum_fits}
use Rattle.std.specs.List.{AllByRecursion}
use Rattle.std.proofs.lemmas.List.Elements.{All-from_recursion}
use Rattle.std.specs.Prelude.{All, nat_le, unsigned_abs}
use Rattle.std.proofs.Math.IntN.{ℤ, ◌+ℤ◌, ◌*ℤ◌}
use Rattle.clp_model.specs.Clauses.{Row}
use Rattle.clp_model.specs.declared.sort.Rel.{Rel}
use Rattle.linear_model.specs.Forms.{combined, combination, IsRising}
use Rattle.lin_row.specs.Rows.{row_of, IsKept}
use Rattle.lin_row.proofs.Rising.{combined_rising}
use Rattle.std.proofs.lemmas.Bool.Decides.{nat_tests}
use Rattle.linear_model.specs.Normal.{pairs_within, is_within, limit}

pub within_test : (n : ℕ) → n ≤ limit → nat_le n limit ≡ true
within_test n h = grind (arith, nat_tests)

pub past_test : (n : ℕ) → limit < n → nat_le n limit ≡ false
past_test n h = grind (arith, nat_tests)

pub and_false : (b : Bool) → (b && false) ≡ false
and_false true = refl
and_false false = refl

pub within_append : (ps qs : List (ℕ × ℤ)) → pairs_within (ps ++ qs) ≡ (pairs_within ps && pairs_within qs)
within_append [] qs = refl
within_append (p ∷ ps) qs = by (nat_le (unsigned_abs p.1) limit) (within_append ps qs)
  where
    by : (b : Bool) → pairs_within (ps ++ qs) ≡ (pairs_within ps && pairs_within qs) → (b && pairs_within (ps ++ qs)) ≡ ((b && pairs_within ps) && pairs_within qs)
    by true ih = ih
    by false ih = refl

pub both : (a b : Bool) → (a && b) ≡ true → (a ≡ true) × (b ≡ true)
both true true e = (refl, refl)
both true false e = cc
both false b e = cc

small_test : (n : ℕ) → nat_le n limit ≡ true → n ≤ limit
small_test n h = grind (arith, nat_tests)

all_within : (ps : List (ℕ × ℤ)) → pairs_within ps ≡ true → AllByRecursion (λ p. unsigned_abs p.1 ≤ limit) ps
all_within [] e = tt
all_within (p ∷ ps) e = let b = both (nat_le (unsigned_abs p.1) limit) (pairs_within ps) e in (small_test (unsigned_abs p.1) b.0, all_within ps b.1)

pub all_small : (ps : List (ℕ × ℤ)) → pairs_within ps ≡ true → All (λ p. unsigned_abs p.1 ≤ limit) ps
all_small ps e = All-from_recursion (λ p. unsigned_abs p.1 ≤ limit) ps (all_within ps e)

-- what the invariant of a row says of its parts
pub within_pairs : (ps : List (ℕ × ℤ)) (c : ℤ) → (pairs_within ps && nat_le (unsigned_abs c) limit) ≡ true → All (λ p. unsigned_abs p.1 ≤ limit) ps
within_pairs ps c e = All-from_recursion (λ p. unsigned_abs p.1 ≤ limit) ps (all_within ps (both (pairs_within ps) (nat_le (unsigned_abs c) limit) e).0)

pub within_constant : (ps : List (ℕ × ℤ)) (c : ℤ) → (pairs_within ps && nat_le (unsigned_abs c) limit) ≡ true → unsigned_abs c ≤ limit
within_constant ps c e = small_test (unsigned_abs c) (both (pairs_within ps) (nat_le (unsigned_abs c) limit) e).1

pub row_small : (r : Row) → is_within r ≡ true → All (λ p. unsigned_abs p.1 ≤ limit) r.pairs
row_small r e = within_pairs r.pairs r.constant e

pub combined_row : (rel : Rel) (a b : ℤ) (r s : Row) (sums : List (ℕ × ℤ)) (k : ℤ) → sums ≡ combined a r.pairs b s.pairs → k ≡ a *ℤ r.constant +ℤ b *ℤ s.constant → row_of rel sums k ≡ combination rel a r b s
combined_row rel a b r s sums k e f =
    let one : List (ℕ × ℤ) → Row = λ ps. row_of rel ps k in
    let two : ℤ → Row = λ z. row_of rel (combined a r.pairs b s.pairs) z in
    ap one e ∙ ap two f

pub row_constant_small : (r : Row) → is_within r ≡ true → unsigned_abs r.constant ≤ limit
row_constant_small r e = within_constant r.pairs r.constant e

pub same_64 : (z : ℤ) → unsigned_abs z ≤ limit → to_z w64 (of_z w64 z) ≡ z
same_64 z h = to_z-of_z w64 z (fits_signed_from_abs w64 z (omega arith))

-- the row of the sums as the code has them
pub made : (rel : Rel) (a b : ℤ) (r s : Row) (first second : List (ℕ × ℤ)) (k : ℤ)
    → unsigned_abs a ≤ limit → unsigned_abs b ≤ limit → is_within r ≡ true → is_within s ≡ true → first ≡ r.pairs → second ≡ s.pairs
    → k ≡ to_z w64 (of_z w64 a) *ℤ to_z w64 (of_z w64 r.constant) +ℤ to_z w64 (of_z w64 b) *ℤ to_z w64 (of_z w64 s.constant)
    → row_of rel (combined (to_z w64 (of_z w64 a)) first (to_z w64 (of_z w64 b)) second) (to_z w128 (of_z w128 k)) ≡ combination rel a r b s
made rel a b r s first second k ha hb hr hs g h i =
    let ea = same_64 a ha in
    let eb = same_64 b hb in
    let er = same_64 r.constant (row_constant_small r hr) in
    let es = same_64 s.constant (row_constant_small s hs) in
    let fits = sum_fits a r.constant b s.constant ha (row_constant_small r hr) hb (row_constant_small s hs) in
    let j : k ≡ a *ℤ r.constant +ℤ b *ℤ s.constant = i ∙ rw (ea, eb, er, es) refl in
    let l : to_z w128 (of_z w128 k) ≡ a *ℤ r.constant +ℤ b *ℤ s.constant = ap (λ z. to_z w128 (of_z w128 z)) j ∙ to_z-of_z w128 (a *ℤ r.constant +ℤ b *ℤ s.constant) fits in
    let m : combined (to_z w64 (of_z w64 a)) first (to_z w64 (of_z w64 b)) second ≡ combined a r.pairs b s.pairs = rw (ea, eb, g, h) refl in
    combined_row rel a b r s _ (to_z w128 (of_z w128 k)) m l

pub sums_rise : (a b : ℤ) (r s : Row) (first second : List (ℕ × ℤ)) → IsKept r → IsKept s → first ≡ r.pairs → second ≡ s.pairs → IsRising (combined a first b second)
sums_rise a b r s first second hr hs g h =
    let m : combined a first b second ≡ combined a r.pairs b s.pairs = rw (g, h) refl in
    subst IsRising (sym m) (combined_rising a r.pairs b s.pairs hr.normal.rising hs.normal.rising)
