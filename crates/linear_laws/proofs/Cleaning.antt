-- What elimination leaves out changes no solution, and elimination with its normal forms is exact.
use Rattle.std.proofs.Common.{◌≡◌, ℕ, List, [], ◌∷◌, map, Bool, true, false, not, ◌&&◌, inl, inr, arith, refl, ◌∙◌, ap, subst}
use Rattle.std.specs.Prelude.{nat_eq, int_le, All}
use Rattle.std.specs.List.{filter}
use Rattle.std.specs.Ordering.{int_eq}
use Rattle.std.proofs.Math.IntN.{ℤ, pos, ◌+ℤ◌, ◌*ℤ◌, *ℤ_comm}
use Rattle.std.specs.Int.Signed.{◌≤ℤ◌}
use Rattle.std.proofs.lemmas.Int.{ints}
use Rattle.std.proofs.lemmas.Bool.{eqb-true}
use Rattle.std.proofs.lemmas.Bool.Decides.{Decides-int_eq}
use Rattle.std.proofs.lemmas.List.Elements.{All-contains, All-from_recursion}
use Rattle.clp_model.specs.Values.{Valuation}
use Rattle.clp_model.specs.Clauses.{Row, RowHolds, Compares}
use Rattle.clp_model.specs.declared.sort.Rel.{Rel}
use Rattle.clp_model.specs.declared.sort.Rel.TheVariants.{Eq, Le, Lt}
use Rattle.clp_model.proofs.Membership.{Among, among_mapped, from_among, all_among}
use Rattle.linear_model.specs.Forms.{combination}
use Rattle.linear_model.specs.Normal.{rel_eq, pairs_eq, row_eq, compares, is_always, normal}
use Rattle.linear_model.specs.Elimination.{row_itself, eliminated, cleaned}
use Rattle.linear_laws.specs.Laws.{EliminationIsExact}
use Rattle.linear_laws.proofs.Lists.{filter_in, filter_out, mapped_out, distinct_out, distinct_like}
use Rattle.linear_laws.proofs.Bounded.{less_true, not_yes}
use Rattle.linear_laws.proofs.Valuations.{compares_mul}
use Rattle.linear_laws.proofs.Normal.{normal_holds}
use Rattle.linear_laws.proofs.Exact.{AllHold, Joins, exact_there, exact_back}

same_rel : (a b : Rel) → rel_eq a b ≡ true → a ≡ b
same_rel Eq Eq e = refl
same_rel Le Le e = refl
same_rel Lt Lt e = refl
same_rel Eq Le e = cc
same_rel Eq Lt e = cc
same_rel Le Eq e = cc
same_rel Le Lt e = cc
same_rel Lt Eq e = cc
same_rel Lt Le e = cc

all_three : (a b c : Bool) → (a && b && c) ≡ true → (a ≡ true) × (b ≡ true) × (c ≡ true)
all_three true true true e = (refl, refl, refl)
all_three true true false e = cc
all_three true false c e = cc
all_three false b c e = cc

same_int : (a b : ℤ) → int_eq a b ≡ true → a ≡ b
same_int a b e = (Decides-int_eq a b).0 e

same_pair : (p q : ℕ × ℤ) → p.0 ≡ q.0 → p.1 ≡ q.1 → p ≡ q
same_pair p q e f =
    let one : ℕ → ℕ × ℤ = λ n. (n, p.1) in
    let two : ℤ → ℕ × ℤ = λ z. (q.0, z) in
    ap one e ∙ ap two f

same_pairs : (ps qs : List (ℕ × ℤ)) → pairs_eq ps qs ≡ true → ps ≡ qs
same_pairs [] [] e = refl
same_pairs [] (q ∷ qs) e = cc
same_pairs (p ∷ ps) [] e = cc
same_pairs (p ∷ ps) (q ∷ qs) e =
    let f = all_three (nat_eq p.0 q.0) (int_eq p.1 q.1) (pairs_eq ps qs) e in
    let a = same_pair p q (eqb-true p.0 q.0 f.0) (same_int p.1 q.1 f.1) in
    let b = same_pairs ps qs f.2 in
    cc

pub same_row : (r s : Row) → row_eq r s ≡ true → r ≡ s
same_row r s e =
    let f = all_three (rel_eq r.rel s.rel) (pairs_eq r.pairs s.pairs) (int_eq r.constant s.constant) e in
    let one : Rel → Row = λ rel. record { rel = rel; pairs = r.pairs; constant = r.constant } in
    let two : List (ℕ × ℤ) → Row = λ ps. record { rel = s.rel; pairs = ps; constant = r.constant } in
    let three : ℤ → Row = λ c. record { rel = s.rel; pairs = s.pairs; constant = c } in
    ap one (same_rel r.rel s.rel f.0) ∙ (ap two (same_pairs r.pairs s.pairs f.1) ∙ ap three (same_int r.constant s.constant f.2))

-- ---- true constant rows
pub compared : (rel : Rel) (z : ℤ) → compares rel z ≡ true → Compares rel z
compared Eq z e = same_int z (pos 0) e
compared Le z e = at_most_true z (pos 0) e
  where
    at_most_true : (a b : ℤ) → int_le a b ≡ true → a ≤ℤ b
    at_most_true a b h = grind (arith, ints)
compared Lt z e = less_true z (pos 0) e

pub always_holds : (u : Valuation) (r : Row) → is_always r ≡ true → RowHolds u r
always_holds u r e = by r.pairs (compared r.rel r.constant) e
  where
    by : (ps : List (ℕ × ℤ)) → (compares r.rel r.constant ≡ true → Compares r.rel r.constant)
        → is_always (record { rel = r.rel; pairs = ps; constant = r.constant }) ≡ true → RowHolds u (record { rel = r.rel; pairs = ps; constant = r.constant })
    by [] h i =
        let a : Compares r.rel (pos u.whole *ℤ r.constant) = compares_mul r.rel u.whole r.constant u.positive (h i) in
        let b : pos u.whole *ℤ r.constant ≡ pos 0 +ℤ r.constant *ℤ pos u.whole = let c = *ℤ_comm (pos u.whole) r.constant in omega (arith, ints) in
        subst (Compares r.rel) b a
    by (p ∷ ps) h i = absurd (cc)

pub cleaned_out : (rows : List Row) (r : Row) → Among r (cleaned rows) → Among r (map normal rows)
cleaned_out rows r a =
    elim (distinct_out row_eq [] (filter (λ r. not (is_always r)) (map normal rows)) r a) [
      | inl b ↦ elim b [ ]
      | inr b ↦ (filter_out (λ r. not (is_always r)) (map normal rows) r b).0
    ]

pub cleaned_there : (u : Valuation) (rows : List Row) → AllHold row_itself u rows → AllHold row_itself u (cleaned rows)
cleaned_there u rows h r a = mapped_out normal rows (RowHolds u) (λ s c. (normal_holds u s).1 (h s c)) r (cleaned_out rows r a)

pub cleaned_back : (u : Valuation) (rows : List Row) → AllHold row_itself u (cleaned rows) → AllHold row_itself u rows
cleaned_back u rows h r a = (normal_holds u r).0 (by (is_always (normal r)) refl)
  where
    by : (b : Bool) → is_always (normal r) ≡ b → RowHolds u (normal r)
    by true e = always_holds u (normal r) e
    by false e =
        let kept = filter_in (λ r. not (is_always r)) (map normal rows) (normal r) (among_mapped normal a) (not_yes _ e) in
        let l = distinct_like row_eq (λ (s r : Row). s ≡ r) (λ s. refl) same_row [] _ (normal r) kept in
        subst (RowHolds u) l.like (h l.element l.there)

-- ---- the law
all_there : (u : Valuation) (rows : List Row) → All (RowHolds u) rows → AllHold row_itself u rows
all_there u rows h r a = All-contains (RowHolds u) rows r h (from_among a)

all_back : (u : Valuation) (rows : List Row) → AllHold row_itself u rows → All (RowHolds u) rows
all_back u rows h = All-from_recursion (RowHolds u) rows (all_among (RowHolds u) rows h)

row_joins : Joins row_itself combination
row_joins u rel a i b j = (λ h. h, λ h. h)

pub elimination_exact : EliminationIsExact
elimination_exact x rows u = (
  λ h. let e = exact_there row_itself combination row_joins x rows u (cleaned_back u (eliminated row_itself combination x rows) (all_there u _ h)) in (e.0, e.1, all_back e.0 rows e.2),
  λ e. all_back u _ (cleaned_there u (eliminated row_itself combination x rows) (exact_back row_itself combination row_joins x rows u e.0 e.1 (all_there e.0 rows e.2))),
)
