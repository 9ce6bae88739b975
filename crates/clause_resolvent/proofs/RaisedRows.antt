-- Rows whose variables are renumbered in their order stay in normal form.
use Rattle.std.proofs.Common.{◌≡◌, ℕ, zero, suc, ◌+◌, ◌<◌, ◌≤◌, List, [], ◌∷◌, ◌++◌, length, map, take, get_or, Bool, true, false, refl, ap, ◌∙◌, sym, subst, arith, All}
use Rattle.std.specs.Prelude.{unsigned_abs, max, int_div, nat_le, nat_lt, ◌&&◌, if◌then◌else◌}
use Rattle.std.proofs.Math.IntN.{ℤ, pos, ◌*ℤ◌, ◌+ℤ◌}
use Rattle.std.proofs.lemmas.Int.{ints}
use Rattle.std.proofs.lemmas.Bool.{lt-ltb}
use Rattle.std.proofs.lemmas.List.{take_more, take_all}
use Rattle.clp_model.specs.declared.sort.Rel.{Rel}
use Rattle.clp_model.specs.declared.sort.Rel.TheVariants.{Eq, Le, Lt}
use Rattle.clp_model.specs.Clauses.{Row}
use Rattle.clp_model.proofs.Membership.{Among, first, next}
use Rattle.linear_model.specs.Forms.{Above, IsRising, is_zero, with_pair, scaled, merged, combined}
use Rattle.linear_model.specs.Gcd.{gcd}
use Rattle.linear_model.specs.Normal.{normal, limit, joint_gcd, row_gcd, divided, divided_pairs, divisor_of, is_flipped, pairs_within, is_within}
use Rattle.linear_model.specs.Changes.{renamed, renamed_pairs}
use Rattle.lin_row.specs.Rows.{row_of, nonzero, VariablesRise, IsKept}
use Rattle.clause_model.specs.Variables.{row_variables, rows_variables}
use Rattle.clause_laws.proofs.Rows.{all_each, each_all, among_rows}
use Rattle.unify_laws.proofs.Solved.{among_cases}
use Rattle.unfold_model.specs.Resolvent.{past}
use Rattle.clause_resolvent.specs.Raised.{raised_pairs, IsLowNumber}

-- ---- the renumbered pairs
one_times : (z : ℤ) → pos 1 *ℤ z ≡ z
one_times z = omega (arith, ints)

scaled_once : (qs : List (ℕ × ℤ)) → IsRising qs → scaled (pos 1) qs ≡ qs
scaled_once [] r = refl
scaled_once (q ∷ qs) r =
    ap (λ (b : Bool). if b then scaled (pos 1) qs else (q.0, pos 1 *ℤ q.1) ∷ scaled (pos 1) qs) (ap is_zero (one_times q.1) ∙ r.0)
    ∙ ap (λ (z : ℤ). (q.0, z) ∷ scaled (pos 1) qs) (one_times q.1)
    ∙ ap (λ (v : List (ℕ × ℤ)). (q.0, q.1) ∷ v) (scaled_once qs r.2)

-- a pair before all others is put in front
in_front : (p : ℕ × ℤ) (qs : List (ℕ × ℤ)) → is_zero p.1 ≡ false → Above p.0 qs → IsRising qs → combined (pos 1) (p ∷ []) (pos 1) qs ≡ p ∷ qs
in_front p [] some above r =
    let none : List (ℕ × ℤ) = [] in
    ap (λ (b : Bool). if b then none else (p.0, pos 1 *ℤ p.1) ∷ none) (ap is_zero (one_times p.1) ∙ some)
    ∙ ap (λ (z : ℤ). (p.0, z) ∷ none) (one_times p.1)
in_front p (q ∷ qs) some above r =
    let rest = scaled (pos 1) (q ∷ qs) in
    let other : List (ℕ × ℤ) = if nat_lt q.0 p.0 then with_pair q.0 (pos 1 *ℤ q.1) (merged (pos 1) p (combined (pos 1) [] (pos 1)) (pos 1) qs) else with_pair p.0 (pos 1 *ℤ p.1 +ℤ pos 1 *ℤ q.1) (scaled (pos 1) qs) in
    ap (λ (b : Bool). if b then with_pair p.0 (pos 1 *ℤ p.1) rest else other) (lt-ltb p.0 q.0 above.0)
    ∙ ap (λ (b : Bool). if b then rest else (p.0, pos 1 *ℤ p.1) ∷ rest) (ap is_zero (one_times p.1) ∙ some)
    ∙ ap (λ (z : ℤ). (p.0, z) ∷ rest) (one_times p.1)
    ∙ ap (λ (v : List (ℕ × ℤ)). (p.0, p.1) ∷ v) (scaled_once (q ∷ qs) r)

above_raised : (k n : ℕ) (ps : List (ℕ × ℤ)) → Above n ps → Above (k + n) (raised_pairs k ps)
above_raised k n [] h = tt
above_raised k n (p ∷ ps) h = (let a = h.0 in omega arith, above_raised k n ps h.1)

rising_raised : (k : ℕ) (ps : List (ℕ × ℤ)) → IsRising ps → IsRising (raised_pairs k ps)
rising_raised k [] r = tt
rising_raised k (p ∷ ps) r = (r.0, above_raised k p.0 ps r.1, rising_raised k ps r.2)

renamed_raised : (k : ℕ) (ps : List (ℕ × ℤ)) → IsRising ps → renamed_pairs (past k) ps ≡ raised_pairs k ps
renamed_raised k [] r = refl
renamed_raised k (p ∷ ps) r =
    ap (λ (qs : List (ℕ × ℤ)). combined (pos 1) ((k + p.0, p.1) ∷ []) (pos 1) qs) (renamed_raised k ps r.2)
    ∙ in_front (k + p.0, p.1) (raised_pairs k ps) r.0 (above_raised k p.0 ps r.1) (rising_raised k ps r.2)

rise : (ps : List (ℕ × ℤ)) → IsRising ps → VariablesRise ps
rise [] r = tt
rise (p ∷ ps) r = (r.1, rise ps r.2)

pub raised_rise : (k : ℕ) (r : Row) → IsKept r → VariablesRise (raised_pairs k r.pairs)
raised_rise k r kept = rise (raised_pairs k r.pairs) (rising_raised k r.pairs kept.normal.rising)

nonzero_stay : (ps : List (ℕ × ℤ)) → IsRising ps → nonzero ps ≡ ps
nonzero_stay [] r = refl
nonzero_stay (p ∷ ps) r =
    ap (λ (b : Bool). if b then nonzero ps else (p.0, p.1) ∷ nonzero ps) r.0
    ∙ ap (λ (v : List (ℕ × ℤ)). (p.0, p.1) ∷ v) (nonzero_stay ps r.2)

-- ---- normal form does not depend on the numbers
gcd_raised : (k n : ℕ) (ps : List (ℕ × ℤ)) → joint_gcd n (raised_pairs k ps) ≡ joint_gcd n ps
gcd_raised k n [] = refl
gcd_raised k n (p ∷ ps) = gcd_raised k (gcd (unsigned_abs p.1) n) ps

flipped_raised : (k : ℕ) (rel : Rel) (ps : List (ℕ × ℤ)) → is_flipped rel (raised_pairs k ps) ≡ is_flipped rel ps
flipped_raised k Eq [] = refl
flipped_raised k Eq (p ∷ ps) = refl
flipped_raised k Le ps = refl
flipped_raised k Lt ps = refl

divided_raised : (k : ℕ) (d : ℤ) (ps : List (ℕ × ℤ)) → divided_pairs d (raised_pairs k ps) ≡ raised_pairs k (divided_pairs d ps)
divided_raised k d [] = refl
divided_raised k d (p ∷ ps) = ap (λ (v : List (ℕ × ℤ)). (k + p.0, int_div p.1 d) ∷ v) (divided_raised k d ps)

within_raised : (k : ℕ) (ps : List (ℕ × ℤ)) → pairs_within (raised_pairs k ps) ≡ pairs_within ps
within_raised k [] = refl
within_raised k (p ∷ ps) = ap (λ (b : Bool). nat_le (unsigned_abs p.1) limit && b) (within_raised k ps)

abbrev raised_row : ℕ → Row → Row
raised_row k r = row_of r.rel (raised_pairs k r.pairs) r.constant

normal_raised : (k : ℕ) (r : Row) → normal (raised_row k r) ≡ raised_row k (normal r)
normal_raised k r =
    let ps = raised_pairs k r.pairs in
    let n = unsigned_abs r.constant in
    ap (λ (b : Bool). divided (divisor_of b (max 1 (joint_gcd n ps))) (raised_row k r)) (flipped_raised k r.rel r.pairs)
    ∙ ap (λ (g : ℕ). divided (divisor_of (is_flipped r.rel r.pairs) (max 1 g)) (raised_row k r)) (gcd_raised k n r.pairs)
    ∙ (let d = divisor_of (is_flipped r.rel r.pairs) (max 1 (row_gcd r)) in ap (λ (qs : List (ℕ × ℤ)). row_of r.rel qs (int_div r.constant d)) (divided_raised k d r.pairs))

renamed_is : (k : ℕ) (r : Row) → IsKept r → renamed (past k) r ≡ raised_row k r
renamed_is k r kept = ap (λ (ps : List (ℕ × ℤ)). row_of r.rel ps r.constant) (renamed_raised k r.pairs kept.normal.rising)

-- what is made of the pairs is the renumbered row
pub made_is : (k : ℕ) (r : Row) (rel : Rel) (pairs : List (ℕ × ℤ)) (constant : ℤ) → IsKept r → rel ≡ r.rel → pairs ≡ raised_pairs k r.pairs → constant ≡ r.constant → normal (row_of rel (nonzero pairs) constant) ≡ renamed (past k) r
made_is k r rel pairs constant kept er ep ec =
    ap (λ (x : Rel). normal (row_of x (nonzero pairs) constant)) er
    ∙ ap (λ (x : List (ℕ × ℤ)). normal (row_of r.rel (nonzero x) constant)) ep
    ∙ ap (λ (x : ℤ). normal (row_of r.rel (nonzero (raised_pairs k r.pairs)) x)) ec
    ∙ ap (λ (x : List (ℕ × ℤ)). normal (row_of r.rel x r.constant)) (nonzero_stay (raised_pairs k r.pairs) (rising_raised k r.pairs kept.normal.rising))
    ∙ normal_raised k r
    ∙ ap (raised_row k) kept.normal.stays
    ∙ sym (renamed_is k r kept)

within_is : (k : ℕ) (r : Row) → IsKept r → is_within (renamed (past k) r) ≡ true
within_is k r kept = ap is_within (renamed_is k r kept) ∙ ap (λ (b : Bool). b && nat_le (unsigned_abs r.constant) limit) (within_raised k r.pairs) ∙ kept.within

-- it is never out of range
pub never_outside : (k : ℕ) (r : Row) (rel : Rel) (pairs : List (ℕ × ℤ)) (constant : ℤ) → IsKept r → rel ≡ r.rel → pairs ≡ raised_pairs k r.pairs → constant ≡ r.constant
    → is_within (normal (row_of rel (nonzero pairs) constant)) ≡ false → ⊥
never_outside k r rel pairs constant kept er ep ec h =
    let e = sym (within_is k r kept) ∙ ap is_within (sym (made_is k r rel pairs constant kept er ep ec)) ∙ h in
    absurd (cc (e))

pub renamed_kept : (k : ℕ) (r : Row) → IsKept r → IsKept (renamed (past k) r)
renamed_kept k r kept = record {
  within = within_is k r kept;
  normal = record {
    rising = subst IsRising (sym (renamed_raised k r.pairs kept.normal.rising)) (rising_raised k r.pairs kept.normal.rising);
    stays = ap normal (renamed_is k r kept) ∙ normal_raised k r ∙ ap (raised_row k) kept.normal.stays ∙ sym (renamed_is k r kept);
  };
}

-- ---- a loop's turn
pairs_push : (k : ℕ) (ps : List (ℕ × ℤ)) (p : ℕ × ℤ) → raised_pairs k (ps ++ p ∷ []) ≡ raised_pairs k ps ++ (k + p.0, p.1) ∷ []
pairs_push k [] p = refl
pairs_push k (q ∷ ps) p = ap (λ (v : List (ℕ × ℤ)). (k + q.0, q.1) ∷ v) (pairs_push k ps p)

pub pairs_more : (k : ℕ) (ps all more : List (ℕ × ℤ)) (i : ℕ) (d q : ℕ × ℤ) → i < length ps → all ≡ raised_pairs k (take i ps) → q ≡ (k + (get_or ps i d).0, (get_or ps i d).1) → more ≡ all ++ q ∷ [] → more ≡ raised_pairs k (take (i + 1) ps)
pairs_more k ps all more i d q within done one is =
    is ∙ ap (λ (v : List (ℕ × ℤ)). v ++ q ∷ []) done ∙ ap (λ (x : ℕ × ℤ). raised_pairs k (take i ps) ++ x ∷ []) one
    ∙ sym (pairs_push k (take i ps) (get_or ps i d)) ∙ sym (ap (raised_pairs k) (take_more ps i d within))

pub pairs_end : (k : ℕ) (ps all : List (ℕ × ℤ)) (i : ℕ) → length ps ≤ i → all ≡ raised_pairs k (take i ps) → all ≡ raised_pairs k ps
pairs_end k ps all i end h = h ∙ ap (raised_pairs k) (take_all i ps end)

rows_push : (f : ℕ → ℕ) (rows : List Row) (r : Row) → map (renamed f) (rows ++ r ∷ []) ≡ map (renamed f) rows ++ renamed f r ∷ []
rows_push f [] r = refl
rows_push f (s ∷ rows) r = ap (λ (v : List Row). renamed f s ∷ v) (rows_push f rows r)

pub rows_more : (f : ℕ → ℕ) (rows all more : List Row) (i : ℕ) (r s : Row) → i < length rows → r ≡ get_or rows i r → all ≡ map (renamed f) (take i rows) → s ≡ renamed f r → more ≡ all ++ s ∷ [] → more ≡ map (renamed f) (take (i + 1) rows)
rows_more f rows all more i r s within item done one is =
    is ∙ ap (λ (v : List Row). v ++ s ∷ []) done ∙ ap (λ (x : Row). map (renamed f) (take i rows) ++ x ∷ []) one
    ∙ sym (rows_push f (take i rows) r) ∙ sym (ap (map (renamed f)) (take_more rows i r within ∙ ap (λ (x : Row). take i rows ++ x ∷ []) (sym item)))

pub rows_end : (f : ℕ → ℕ) (rows all : List Row) (i : ℕ) → length rows ≤ i → all ≡ map (renamed f) (take i rows) → all ≡ map (renamed f) rows
rows_end f rows all i end h = h ∙ ap (map (renamed f)) (take_all i rows end)

among_row : (rows : List Row) (i : ℕ) (d : Row) → i < length rows → Among (get_or rows i d) rows
among_row [] i d w = absurd (omega arith)
among_row (r ∷ rows) zero d w = first
among_row (r ∷ rows) (suc i) d w = next (among_row rows i d (omega arith))

pub row_there : (rows : List Row) (i : ℕ) (r : Row) → i < length rows → r ≡ get_or rows i r → Among r rows
row_there rows i r within item = let P : Row → Type 0 = λ s. Among s rows in subst P (sym item) (among_row rows i r within)

pub kept_row : (rows : List Row) (i : ℕ) (r : Row) → i < length rows → r ≡ get_or rows i r → All IsKept rows → IsKept r
kept_row rows i r within item all = all_each IsKept rows all r (row_there rows i r within item)

pub low_row : (rows : List Row) (i : ℕ) (r : Row) → i < length rows → r ≡ get_or rows i r → All IsLowNumber (rows_variables rows) → All IsLowNumber (row_variables r)
low_row rows i r within item all =
    each_all IsLowNumber (row_variables r) (λ n m. all_each IsLowNumber (rows_variables rows) all n (among_rows r rows n (row_there rows i r within item) m))

-- ---- the variables of renumbered rows
numbers_raised : (k : ℕ) (ps : List (ℕ × ℤ)) (P : ℕ → Type 0) → ((n : ℕ) → Among n (map (λ p. p.0) ps) → P (k + n)) → (n : ℕ) → Among n (map (λ p. p.0) (raised_pairs k ps)) → P n
numbers_raised k [] P h n m = elim m [ ]
numbers_raised k (p ∷ ps) P h n m = among_cases m (λ e. subst P (sym e) (h p.0 first)) (λ a. numbers_raised k ps P (λ i b. h i (next b)) n a)

pub row_raised : (k : ℕ) (r : Row) → IsKept r → (P : ℕ → Type 0) → ((n : ℕ) → Among n (row_variables r) → P (k + n)) → (n : ℕ) → Among n (row_variables (renamed (past k) r)) → P n
row_raised k r kept P h n m = numbers_raised k r.pairs P h n (subst (λ (s : Row). Among n (row_variables s)) (renamed_is k r kept) m)
