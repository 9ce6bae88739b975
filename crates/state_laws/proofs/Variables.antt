-- In which trees and rows the variables of a clause are.
use Rattle.std.proofs.Common.{◌≡◌, ℕ, zero, suc, ◌<◌, List, [], ◌∷◌, take, drop, map, Bool, true, false, arith, refl, sym, ◌∙◌, ap, subst, inl, inr}
use Rattle.std.specs.Prelude.{remove, nat_eq, not, if◌then◌else◌}
use Rattle.std.proofs.lemmas.Bool.{eqb-true}
use Rattle.std.proofs.lemmas.Bool.Decides.{nat_tests}
use Rattle.std.proofs.Math.IntN.{ℤ, pos, ◌+ℤ◌}
use Rattle.std.proofs.lemmas.Int.{ints}
use Rattle.clp_model.specs.declared.tree.Tree.{Tree}
use Rattle.clp_model.specs.Trees.{mapped_all, mapped, variables, variables_in}
use Rattle.clp_model.specs.Clauses.{Row}
use Rattle.clp_model.proofs.Membership.{Among, first, next, among_front, among_back, among_either}
use Rattle.linear_model.specs.Forms.{is_zero, coefficient, Above, IsRising}
use Rattle.linear_model.specs.Changes.{renamed}
use Rattle.linear_model.specs.Elimination.{has}
use Rattle.linear_laws.proofs.Rising.{first_coefficient}
use Rattle.clause_model.specs.Variables.{row_variables, rows_variables}
use Rattle.clause_laws.proofs.Renaming.{variables_normal}
use Rattle.clause_laws.proofs.Written.{written_from}

-- ---- trees
pub tree_of : (ts : List (Tree ℕ)) (n : ℕ) → Among n (variables_in ts) → (t : Tree ℕ) × Among t ts × Among n (variables t)
tree_of [] n a = elim a [ ]
tree_of (t ∷ ts) n a = elim (among_either n (variables t) (variables_in ts) a) [
  | inl b ↦ (t, first, b)
  | inr b ↦ let w = tree_of ts n b in (w.0, next w.1, w.2)
]

pub of_tree : (t : Tree ℕ) (ts : List (Tree ℕ)) (n : ℕ) → Among t ts → Among n (variables t) → Among n (variables_in ts)
of_tree t [] n m a = elim m [ ]
of_tree t (s ∷ ts) n first a = among_front n (variables t) (variables_in ts) a
of_tree t (s ∷ ts) n (next m) a = among_back n (variables s) (variables_in ts) (of_tree t ts n m a)

-- ---- rows
pub row_of : (rs : List Row) (n : ℕ) → Among n (rows_variables rs) → (r : Row) × Among r rs × Among n (row_variables r)
row_of [] n a = elim a [ ]
row_of (r ∷ rs) n a = elim (among_either n (row_variables r) (rows_variables rs) a) [
  | inl b ↦ (r, first, b)
  | inr b ↦ let w = row_of rs n b in (w.0, next w.1, w.2)
]

-- a variable of a renamed row is what one of the row becomes
pub renamed_from : (f : ℕ → ℕ) (r : Row) (n : ℕ) → Among n (row_variables (renamed f r)) → (m : ℕ) × Among m (row_variables r) × (f m ≡ n)
renamed_from f r n a = written_from f r n (subst (Among n) (sym (variables_normal (renamed f r))) a)

-- ---- the variables of a row that rise are those with a coefficient
above_each : (n : ℕ) (ps : List (ℕ × ℤ)) (v : ℕ) → Above n ps → Among v (map (λ p. p.0) ps) → n < v
above_each n [] v h a = elim a [ ]
above_each n (p ∷ ps) v h first = h.0
above_each n (p ∷ ps) v h (next a) = above_each n ps v h.1 a

behind_first : (p : ℕ × ℤ) (ps : List (ℕ × ℤ)) (v : ℕ) → nat_eq p.0 v ≡ false → coefficient (p ∷ ps) v ≡ coefficient ps v
behind_first p ps v k = ap (λ b. (if b then p.1 else pos 0) +ℤ coefficient ps v) k ∙ omega (arith, ints)

has_each : (ps : List (ℕ × ℤ)) (v : ℕ) → IsRising ps → Among v (map (λ p. p.0) ps) → is_zero (coefficient ps v) ≡ false
has_each [] v r a = elim a [ ]
has_each (p ∷ ps) v r first = ap is_zero (first_coefficient p ps r) ∙ r.0
has_each (p ∷ ps) v r (next a) =
    let l = above_each p.0 ps v r.1 a in
    let k : nat_eq p.0 v ≡ false = grind (arith, nat_tests) in
    ap is_zero (behind_first p ps v k) ∙ has_each ps v r.2 a

each_has : (ps : List (ℕ × ℤ)) (v : ℕ) → is_zero (coefficient ps v) ≡ false → Among v (map (λ p. p.0) ps)
each_has [] v h = absurd (cc)
each_has (p ∷ ps) v h = by (each_has ps v) (nat_eq p.0 v) refl
  where
    by : (is_zero (coefficient ps v) ≡ false → Among v (map (λ p. p.0) ps)) → (b : Bool) → nat_eq p.0 v ≡ b → Among v (map (λ p. p.0) (p ∷ ps))
    by later true k = subst (λ n. Among n (map (λ p. p.0) (p ∷ ps))) (eqb-true p.0 v k) first
    by later false k = next (later (sym (ap is_zero (behind_first p ps v k)) ∙ h))

pub has_among : (r : Row) (v : ℕ) → IsRising r.pairs → Among v (row_variables r) → has v r ≡ true
has_among r v h a = ap not (has_each r.pairs v h a)

pub among_has : (r : Row) (v : ℕ) → has v r ≡ true → Among v (row_variables r)
among_has r v h = each_has r.pairs v (by (is_zero (coefficient r.pairs v)) h)
  where
    by : (b : Bool) → not b ≡ true → b ≡ false
    by false k = refl
    by true k = absurd (cc)

-- ---- parts of lists
pub among_take : {A : Type 0} (i : ℕ) (xs : List A) (x : A) → Among x (take i xs) → Among x xs
among_take zero xs x a = elim a [ ]
among_take (suc i) [] x a = elim a [ ]
among_take (suc i) (y ∷ xs) x first = first
among_take (suc i) (y ∷ xs) x (next a) = next (among_take i xs x a)

pub among_drop : {A : Type 0} (i : ℕ) (xs : List A) (x : A) → Among x (drop i xs) → Among x xs
among_drop zero xs x a = a
among_drop (suc i) [] x a = elim a [ ]
among_drop (suc i) (y ∷ xs) x a = next (among_drop i xs x a)

pub among_remove : {A : Type 0} (xs : List A) (i : ℕ) (x : A) → Among x (remove xs i) → Among x xs
among_remove [] zero x a = elim a [ ]
among_remove [] (suc i) x a = elim a [ ]
among_remove (y ∷ xs) zero x a = next a
among_remove (y ∷ xs) (suc i) x first = first
among_remove (y ∷ xs) (suc i) x (next a) = next (among_remove xs i x a)

pub among_mapped_all : {V W : Type 0} (f : V → W) (ts : List (Tree V)) (u : Tree W) → Among u (mapped_all f ts) → (t : Tree V) × Among t ts × (u ≡ mapped f t)
among_mapped_all f [] u a = elim a [ ]
among_mapped_all f (t ∷ ts) u first = (t, first, refl)
among_mapped_all f (t ∷ ts) u (next a) = let w = among_mapped_all f ts u a in (w.0, next w.1, w.2)

pub among_map : {A B : Type 0} (f : A → B) (xs : List A) (y : B) → Among y (map f xs) → (x : A) × Among x xs × (y ≡ f x)
among_map f [] y a = elim a [ ]
among_map f (x ∷ xs) y first = (x, first, refl)
among_map f (x ∷ xs) y (next a) = let w = among_map f xs y a in (w.0, next w.1, w.2)
