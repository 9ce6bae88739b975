-- Rows under renamed variables and under two valuations.
use Rattle.std.proofs.Common.{◌≡◌, ◌↔◌, ℕ, zero, suc, arith, List, [], ◌∷◌, refl, sym, ap, ◌∙◌, subst, map}
use Rattle.std.specs.Prelude.{All}
use Rattle.std.proofs.lemmas.List.Elements.{All-nil}
use Rattle.std.proofs.Math.IntN.{ℤ, pos, ◌+ℤ◌, ◌*ℤ◌}
use Rattle.std.proofs.lemmas.Int.{ints}
use Rattle.clp_model.specs.Values.{Valuation}
use Rattle.clp_model.specs.Clauses.{Row, RowHolds, Compares, sum_of}
use Rattle.clp_model.proofs.Membership.{Among, first, next, among_front, among_back}
use Rattle.linear_model.specs.Changes.{renamed, renamed_pairs}
use Rattle.linear_laws.proofs.Sums.{sum_combined}
use Rattle.clause_model.specs.Variables.{row_variables, rows_variables}

-- ---- lists of rows that all hold
each_at : {A : Type 0} (P : A → Type 0) (xs : List A) → All P xs → (x : A) → Among x xs → P x
each_at P [] h x m = elim m [ ]
each_at P (y ∷ xs) h x first = h 0 x (omega arith)
each_at P (y ∷ xs) h x (next m) = each_at P xs (λ k d lt. h (suc k) d (omega (arith, lt))) x m

pub all_each : {A : Type 0} (P : A → Type 0) (xs : List A) → All P xs → (x : A) → Among x xs → P x
all_each P xs h x m = each_at P xs h x m

pub each_all : {A : Type 0} (P : A → Type 0) (xs : List A) → ((x : A) → Among x xs → P x) → All P xs
each_all P [] h = All-nil P
each_all P (x ∷ xs) h = go (h x first) (each_all P xs (λ y m. h y (next m)))
  where
    go : P x → All P xs → All P (x ∷ xs)
    go one rest zero d lt = one
    go one rest (suc k) d lt = rest k d (omega (arith, lt))

-- ---- the sum under renamed variables
pub sum_renamed : (f : ℕ → ℕ) (g : ℕ → ℤ) (ps : List (ℕ × ℤ)) → sum_of g (renamed_pairs f ps) ≡ sum_of (λ v. g (f v)) ps
sum_renamed f g [] = refl
sum_renamed f g (p ∷ ps) =
    let e = sum_combined g (pos 1) ((f p.0, p.1) ∷ []) (pos 1) (renamed_pairs f ps) in
    let r = sum_renamed f g ps in
    omega (arith, ints)

-- where two functions agree on the variables, so do the sums
pub sum_agrees : (g h : ℕ → ℤ) (ps : List (ℕ × ℤ)) → ((n : ℕ) → Among n (map (λ p. p.0) ps) → g n ≡ h n) → sum_of g ps ≡ sum_of h ps
sum_agrees g h [] same = refl
sum_agrees g h (p ∷ ps) same =
    let e = ap (λ z. p.1 *ℤ z) (same p.0 first) in
    let r = sum_agrees g h ps (λ n m. same n (next m)) in
    cc

-- a row holds under renamed variables where each variable of it stands for what its new name stands for
pub renamed_holds : (f : ℕ → ℕ) (u w : Valuation) (r : Row) → w.whole ≡ u.whole → ((n : ℕ) → Among n (row_variables r) → w.number n ≡ u.number (f n)) → RowHolds u (renamed f r) ↔ RowHolds w r
renamed_holds f u w r e same =
    let s : sum_of u.number (renamed_pairs f r.pairs) ≡ sum_of w.number r.pairs = sum_renamed f u.number r.pairs ∙ sym (sum_agrees w.number (λ v. u.number (f v)) r.pairs same) in
    let t : sum_of u.number (renamed_pairs f r.pairs) +ℤ r.constant *ℤ pos u.whole ≡ sum_of w.number r.pairs +ℤ r.constant *ℤ pos w.whole =
    ap (λ z. z +ℤ r.constant *ℤ pos u.whole) s ∙ ap (λ d. sum_of w.number r.pairs +ℤ r.constant *ℤ pos d) (sym e) in
    ((λ h. subst (Compares r.rel) t h), (λ h. subst (Compares r.rel) (sym t) h))

-- ---- where the variables of a row are in a list of rows
pub among_rows : (r : Row) (rows : List Row) (n : ℕ) → Among r rows → Among n (row_variables r) → Among n (rows_variables rows)
among_rows r [] n m k = elim m [ ]
among_rows r (s ∷ rows) n first k = among_front n (row_variables r) (rows_variables rows) k
among_rows r (s ∷ rows) n (next m) k = among_back n (row_variables s) (rows_variables rows) (among_rows r rows n m k)
