-- A table that has for each number its place in a list.
use Rattle.std.proofs.Common.{◌≡◌, ◌≢◌, ℕ, zero, suc, ◌+◌, ◌-◌, ◌<◌, ◌≤◌, List, [], ◌∷◌, ◌++◌, length, map, take, drop, get_or, set, nat_eq, Bool, true, false, refl, ap, ◌∙◌, sym, subst, arith, eq-eqb, inl, inr, All, Contains}
use Rattle.std.proofs.Math.Seq.{drop-cons}
use Rattle.std.proofs.Math.IntN.{ℤ}
use Rattle.std.proofs.lemmas.Bool.{eqb-true}
use Rattle.std.proofs.lemmas.List.{take_more, take-append-drop, map-append, length-take-le, get_or-set_same, get_or-set_other}
use Rattle.clp_model.specs.Clauses.{Row}
use Rattle.clp_model.specs.Predicates.{distinct_after}
use Rattle.clp_model.specs.Canonical.{place_in}
use Rattle.clp_model.proofs.Membership.{Among, first, next, among_either, among_mapped, to_among}
use Rattle.linear_model.specs.Normal.{normal}
use Rattle.linear_model.specs.Changes.{renamed}
use Rattle.lin_row.specs.Rows.{at}
use Rattle.clause_model.specs.Variables.{row_variables, rows_variables}
use Rattle.clause_laws.proofs.Rows.{all_each, each_all, among_rows}
use Rattle.clause_laws.proofs.Written.{written, written_agrees}
use Rattle.clause_laws.proofs.Again.{place_apart}
use Rattle.clause_store.specs.Stored.{KeepsApart}
use Rattle.clause_laws.proofs.Distinct.{AreDistinct, distinct_made, front_distinct, only_one}
use Rattle.clause_laws.proofs.Upto.{number_equality, place_new}

pub once_distinct : (met : List ℕ) → distinct_after nat_eq [] met ≡ met → AreDistinct met
once_distinct met once = subst AreDistinct once (distinct_made nat_eq number_equality [] met tt)

-- what is written under one number is read there, and nothing else changes
written_there : (table : List ℕ) (n v : ℕ) → 0 < n → n ≤ length table → at (set table (n - 1) v) n ≡ v
written_there table zero v p w = absurd (omega arith)
written_there table (suc k) v p w =
    let e : suc k - 1 ≡ k = omega arith in
    ap (λ (j : ℕ). get_or (set table j v) k 0) e ∙ get_or-set_same table k v 0 (omega arith)

written_other : (table : List ℕ) (n v m : ℕ) → 0 < n → m ≢ n → at (set table (n - 1) v) m ≡ at table m
written_other table zero v m p d = absurd (omega arith)
written_other table (suc k) v zero p d = refl
written_other table (suc k) v (suc j) p d =
    let e : suc k - 1 ≡ k = omega arith in
    ap (λ (i : ℕ). get_or (set table i v) j 0) e ∙ get_or-set_other table k j v 0 (λ q. d (ap suc q))

module _ (met : List ℕ) (once : distinct_after nat_eq [] met ≡ met) (i number : ℕ) (within : i < length met) (item : number ≡ get_or met i 0) where
  split : take i met ++ number ∷ drop (suc i) met ≡ met
  split =
      ap (λ (ns : List ℕ). take i met ++ ns) (ap (λ (n : ℕ). n ∷ drop (suc i) met) item ∙ sym (drop-cons met i 0 within))
      ∙ take-append-drop i met

  pub place_at : place_in met number ≡ i + 1
  place_at =
      let d : AreDistinct (take i met ++ number ∷ drop (suc i) met) = subst AreDistinct (sym split) (once_distinct met once) in
      let n = place_new (take i met) number (drop (suc i) met) (front_distinct (take i met) number (drop (suc i) met) d) in
      let l = length-take-le i met (omega arith) in
      ap (λ (m : List ℕ). place_in m number) (sym split) ∙ (n ∙ omega (arith, l))

  pub place_written : (table : List ℕ) → 0 < number → number ≤ length table → ((n : ℕ) → Among n (take i met) → at table n ≡ place_in met n)
      → (n : ℕ) → Among n (take (i + 1) met) → at (set table (number - 1) (i + 1)) n ≡ place_in met n
  place_written table positive small before n a = by (nat_eq n number) refl
    where
      there : at (set table (number - 1) (i + 1)) number ≡ place_in met number
      there = written_there table number (i + 1) positive small ∙ sym place_at

      more : Among n (take i met ++ number ∷ [])
      more = subst (λ (ns : List ℕ). Among n ns) (take_more met i 0 within ∙ ap (λ (m : ℕ). take i met ++ m ∷ []) (sym item)) a

      by : (b : Bool) → nat_eq n number ≡ b → at (set table (number - 1) (i + 1)) n ≡ place_in met n
      by true e = subst (λ (m : ℕ). at (set table (number - 1) (i + 1)) m ≡ place_in met m) (sym (eqb-true n number e)) there
      by false e = elim (among_either n (take i met) (number ∷ []) more) [
        | inl b ↦ written_other table number (i + 1) n positive (λ q. let t = eq-eqb n number q in cc) ∙ before n b
        | inr b ↦ absurd (let t = eq-eqb n number (only_one n number b) in cc)
      ]

-- ---- rows that are renamed by a table
pub among_get : {A : Type 0} (xs : List A) (i : ℕ) (d : A) → i < length xs → Among (get_or xs i d) xs
among_get [] i d l = absurd (omega arith)
among_get (x ∷ xs) zero d l = first
among_get (x ∷ xs) (suc i) d l = next (among_get xs i d (omega arith))

module _ (met : List ℕ) (rows : List Row) (inside : All (Contains met) (rows_variables rows)) (i : ℕ) (row : Row) (within : i < length rows) (item : row ≡ get_or rows i row) where
  row_among : Among row rows
  row_among = subst (λ (r : Row). Among r rows) (sym item) (among_get rows i row within)

  met_has : (n : ℕ) → Among n (row_variables row) → Among n met
  met_has n a = to_among met n (all_each (Contains met) (rows_variables rows) inside n (among_rows row rows n row_among a))

  pub row_numbered : (count size : ℕ) → size ≡ count → All (λ n. (0 < n) × (n ≤ count)) met → All (λ p. (0 < p.0) × (p.0 ≤ size)) row.pairs
  row_numbered count size e bounds = each_all (λ (p : ℕ × ℤ). (0 < p.0) × (p.0 ≤ size)) row.pairs (λ p a.
      let k = all_each (λ n. (0 < n) × (n ≤ count)) met bounds p.0 (met_has p.0 (among_mapped (λ q. q.0) a)) in
      (k.0, omega (arith, k.1, e)))

  module _ (table : List ℕ) (places : All (λ n. at table n ≡ place_in met n) met) where
    place_of : (n : ℕ) → Among n (row_variables row) → at table n ≡ place_in met n
    place_of n a = all_each (λ n. at table n ≡ place_in met n) met places n (met_has n a)

    pub row_apart : KeepsApart (at table) (row_variables row)
    row_apart m n a b e =
        let x = to_among (row_variables row) m a in
        let y = to_among (row_variables row) n b in
        place_apart met m n (met_has m x) (met_has n y) (sym (place_of m x) ∙ (e ∙ place_of n y))

    pub row_written : (all more : List Row) (r : Row) → all ≡ map (written (place_in met)) (take i rows) → more ≡ all ++ r ∷ [] → r ≡ normal (renamed (at table) row)
        → more ≡ map (written (place_in met)) (take (i + 1) rows)
    row_written all more r before is new =
        let one : r ≡ written (place_in met) row = new ∙ written_agrees (at table) (place_in met) row place_of in
        is ∙ (ap (λ (rs : List Row). rs ++ r ∷ []) before
        ∙ (ap (λ (s : Row). map (written (place_in met)) (take i rows) ++ s ∷ []) one
        ∙ (sym (map-append (written (place_in met)) (take i rows) (row ∷ []))
        ∙ ap (map (written (place_in met))) (ap (λ (s : Row). take i rows ++ s ∷ []) item ∙ sym (take_more rows i row within)))))
