-- The laws of equality and order of rows.
use Rattle.std.specs.Prelude.{◌≡◌, ℕ, ℤ, List, [], ◌∷◌, Bool, true, false, ◌&&◌, nat_eq}
use Rattle.std.specs.Bool.{Decides}
use mathlib.Core.Path.{refl, sym, ap, ◌∙◌}
use mathlib.Core.Bool.{true≢false}
use Rattle.std.specs.Ordering.{int_eq, int_cmp, nat_cmp, eq_by_cmp, ordering_then, as_partial_cmp}
use Rattle.std.specs.Cmp.{IsEquivalence, IsTotalOrder, IsPartialOrder, decided, both_tied, po, then_total, on_total, nat_cmp_total, int_cmp_total, signed_Decides, unsigned_Decides, unsigned_ties}
use Rattle.std.specs.Cmp.Lexicographic.{slice_cmp, pointwise, lists_total}
use Rattle.clp_model.specs.Clauses.{Row}
use Rattle.clp_model.specs.declared.sort.Rel.{Rel}
use Rattle.clp_model.specs.declared.sort.Rel.TheVariants.{Eq, Le, Lt}
use Rattle.linear_model.specs.Normal.{rel_eq, pairs_eq, row_eq}
use Rattle.lin_row.specs.Order.{rank, pair_cmp, row_cmp, row_fed}
use Rattle.lin_row.specs.Rows.{row_of}

both : (a b : Bool) → (a && b) ≡ true → (a ≡ true) × (b ≡ true)
both true true e = (refl, refl)
both true false e = absurd (true≢false (sym e))
both false b e = absurd (true≢false (sym e))

joined : (a b : Bool) → a ≡ true → b ≡ true → (a && b) ≡ true
joined true b e f = f
joined false b e f = e

rel_is : (a b : Rel) → rel_eq a b ≡ true → a ≡ b
rel_is Eq Eq e = refl
rel_is Eq Le e = absurd (true≢false (sym e))
rel_is Eq Lt e = absurd (true≢false (sym e))
rel_is Le Eq e = absurd (true≢false (sym e))
rel_is Le Le e = refl
rel_is Le Lt e = absurd (true≢false (sym e))
rel_is Lt Eq e = absurd (true≢false (sym e))
rel_is Lt Le e = absurd (true≢false (sym e))
rel_is Lt Lt e = refl

rel_same : (a : Rel) → rel_eq a a ≡ true
rel_same Eq = refl
rel_same Le = refl
rel_same Lt = refl

pairs_are : (ps qs : List (ℕ × ℤ)) → pairs_eq ps qs ≡ true → ps ≡ qs
pairs_are [] [] e = refl
pairs_are [] (q ∷ qs) e = absurd (true≢false (sym e))
pairs_are (p ∷ ps) [] e = absurd (true≢false (sym e))
pairs_are (p ∷ ps) (q ∷ qs) e =
    let b = both (nat_eq p.0 q.0 && int_eq p.1 q.1) (pairs_eq ps qs) e in
    let d = both (nat_eq p.0 q.0) (int_eq p.1 q.1) b.0 in
    let f = (unsigned_Decides p.0 q.0).0 d.0 in
    let g = (signed_Decides p.1 q.1).0 d.1 in
    let h = pairs_are ps qs b.1 in
    let one : ℕ → List (ℕ × ℤ) = λ v. (v, p.1) ∷ ps in
    let two : ℤ → List (ℕ × ℤ) = λ z. (q.0, z) ∷ ps in
    let three : List (ℕ × ℤ) → List (ℕ × ℤ) = λ xs. q ∷ xs in
    ap one f ∙ (ap two g ∙ ap three h)

pairs_same : (ps : List (ℕ × ℤ)) → pairs_eq ps ps ≡ true
pairs_same [] = refl
pairs_same (p ∷ ps) = joined (nat_eq p.0 p.0 && int_eq p.1 p.1) (pairs_eq ps ps) (joined (nat_eq p.0 p.0) (int_eq p.1 p.1) ((unsigned_Decides p.0 p.0).1 refl) ((signed_Decides p.1 p.1).1 refl)) (pairs_same ps)

pub rows_are : (r s : Row) → row_eq r s ≡ true → r ≡ s
rows_are r s e =
    let b = both (rel_eq r.rel s.rel && pairs_eq r.pairs s.pairs) (int_eq r.constant s.constant) e in
    let d = both (rel_eq r.rel s.rel) (pairs_eq r.pairs s.pairs) b.0 in
    let f = rel_is r.rel s.rel d.0 in
    let g = pairs_are r.pairs s.pairs d.1 in
    let h = (signed_Decides r.constant s.constant).0 b.1 in
    let one : Rel → Row = λ t. row_of t r.pairs r.constant in
    let two : List (ℕ × ℤ) → Row = λ ps. row_of s.rel ps r.constant in
    let three : ℤ → Row = λ z. row_of s.rel s.pairs z in
    ap one f ∙ (ap two g ∙ ap three h)

row_same : (r : Row) → row_eq r r ≡ true
row_same r = joined (rel_eq r.rel r.rel && pairs_eq r.pairs r.pairs) (int_eq r.constant r.constant) (joined (rel_eq r.rel r.rel) (pairs_eq r.pairs r.pairs) (rel_same r.rel) (pairs_same r.pairs)) ((signed_Decides r.constant r.constant).1 refl)

pub row_same_as : (r s : Row) → r ≡ s → row_eq r s ≡ true
row_same_as r s e = ap (λ t. row_eq r t) (sym e) ∙ row_same r

-- `==` holds exactly of equal rows
pub row_decides : (r s : Row) → Decides (row_eq r s) (r ≡ s)
row_decides r s = (rows_are r s, row_same_as r s)

pub row_equivalence : IsEquivalence row_eq
row_equivalence = decided row_eq row_decides

pub row_alike : (r s : Row) → row_eq r s ≡ true → row_fed r ≡ row_fed s
row_alike r s e = ap row_fed (rows_are r s e)

-- the pairs as slices compare them
pub pairs_pointwise : (ps qs : List (ℕ × ℤ)) → pointwise (λ (x y : ℕ × ℤ). nat_eq x.0 y.0 && int_eq x.1 y.1) ps qs ≡ pairs_eq ps qs
pairs_pointwise [] [] = refl
pairs_pointwise [] (q ∷ qs) = refl
pairs_pointwise (p ∷ ps) [] = refl
pairs_pointwise (p ∷ ps) (q ∷ qs) = ap (λ b. (nat_eq p.0 q.0 && int_eq p.1 q.1) && b) (pairs_pointwise ps qs)

-- ---- the order
pub row_total : IsTotalOrder row_cmp
row_total =
    then_total
    (then_total (on_total (λ (r : Row). r.pairs) (lists_total (then_total (on_total (λ (p : ℕ × ℤ). p.0) nat_cmp_total) (on_total (λ (p : ℕ × ℤ). p.1) int_cmp_total))))
    (on_total (λ (r : Row). r.constant) int_cmp_total))
    (on_total (λ (r : Row). rank r.rel) nat_cmp_total)

pairs_tied : (ps qs : List (ℕ × ℤ)) → pairs_eq ps qs ≡ eq_by_cmp (slice_cmp pair_cmp) ps qs
pairs_tied [] [] = refl
pairs_tied [] (q ∷ qs) = refl
pairs_tied (p ∷ ps) [] = refl
pairs_tied (p ∷ ps) (q ∷ qs) =
    both_tied (nat_eq p.0 q.0 && int_eq p.1 q.1) (pairs_eq ps qs) (pair_cmp p q) (slice_cmp pair_cmp ps qs)
    (both_tied (nat_eq p.0 q.0) (int_eq p.1 q.1) (nat_cmp p.0 q.0) (int_cmp p.1 q.1) (unsigned_ties p.0 q.0) refl)
    (pairs_tied ps qs)

rel_tied : (a b : Rel) → rel_eq a b ≡ eq_by_cmp nat_cmp (rank a) (rank b)
rel_tied Eq Eq = refl
rel_tied Eq Le = refl
rel_tied Eq Lt = refl
rel_tied Le Eq = refl
rel_tied Le Le = refl
rel_tied Le Lt = refl
rel_tied Lt Eq = refl
rel_tied Lt Le = refl
rel_tied Lt Lt = refl

pub row_tied : (r s : Row) → row_eq r s ≡ eq_by_cmp row_cmp r s
row_tied r s =
    let a = rel_eq r.rel s.rel in
    let b = pairs_eq r.pairs s.pairs in
    let c = int_eq r.constant s.constant in
    by a b c
    ∙ both_tied (b && c) a (ordering_then (slice_cmp pair_cmp r.pairs s.pairs) (int_cmp r.constant s.constant)) (nat_cmp (rank r.rel) (rank s.rel))
    (both_tied b c (slice_cmp pair_cmp r.pairs s.pairs) (int_cmp r.constant s.constant) (pairs_tied r.pairs s.pairs) refl)
    (rel_tied r.rel s.rel)
  where
    by : (a b c : Bool) → ((a && b) && c) ≡ ((b && c) && a)
    by true true true = refl
    by true true false = refl
    by true false c = refl
    by false true true = refl
    by false true false = refl
    by false false c = refl

pub row_partial_order : IsPartialOrder row_eq (as_partial_cmp row_cmp)
row_partial_order = po row_total row_tied
