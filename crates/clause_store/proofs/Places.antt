-- The places of numbers in a list.
use Rattle.std.proofs.Common.{◌≡◌, ℕ, suc, ◌<◌, ◌≤◌, cond, nat_eq, List, [], ◌∷◌, length, get_or, drop, ap, ◌∙◌, sym, arith, ◌+◌, add-one}
use Rattle.std.proofs.lemmas.Bool.{cond_both, eqb-true}
use Rattle.std.proofs.lemmas.List.{drop_all}
use Rattle.std.proofs.Math.Seq.{drop-cons}
use Rattle.clp_model.specs.Canonical.{place_in}
use Rattle.clp_model.proofs.Membership.{Among, behind}

pub place_positive : (ms : List ℕ) (n : ℕ) → 0 < place_in ms n
place_positive [] n = omega arith
place_positive (m ∷ ms) n = cond_both (nat_eq m n) 1 (suc (place_in ms n)) (λ v. 0 < v) (λ _. omega arith) (λ _. omega arith)

pub place_within : (ms : List ℕ) (n : ℕ) → Among n ms → place_in ms n ≤ length ms
place_within [] n h = elim h [ ]
place_within (m ∷ ms) n h =
    cond_both (nat_eq m n) 1 (suc (place_in ms n)) (λ v. v ≤ length (m ∷ ms)) (λ _. omega arith)
    (λ f. let rest = place_within ms n (behind m n ms h f) in omega arith)

-- a loop's step from one number to the next
pub place_step : (ms : List ℕ) (i n : ℕ) → i < length ms → place_in (drop i ms) n ≡ cond (nat_eq (get_or ms i 0) n) 1 (suc (place_in (drop (i + 1) ms) n))
place_step ms i n h = ap (λ v. place_in v n) (drop-cons ms i 0 h) ∙ ap (λ k. cond (nat_eq (get_or ms i 0) n) 1 (suc (place_in (drop k ms) n))) (sym (add-one i))

pub place_end : (ms : List ℕ) (i n : ℕ) → length ms ≤ i → place_in (drop i ms) n ≡ 1
place_end ms i n h = ap (λ v. place_in v n) (drop_all i ms h)

-- in a list of numbers in order each number is its own place
place_from : (ms : List ℕ) (from n : ℕ) → ((k : ℕ) → k < length ms → get_or ms k 0 ≡ from + k + 1) → Among n ms → from + place_in ms n ≡ n
place_from [] from n h mn = elim mn [ ]
place_from (m ∷ ms) from n h mn =
    cond_both (nat_eq m n) 1 (suc (place_in ms n)) (λ v. from + v ≡ n) (λ t. omega (arith, eqb-true m n t, h 0 (omega arith)))
    (λ f. let rest : from + 1 + place_in ms n ≡ n = place_from ms (from + 1) n (λ k l. let e : get_or ms k 0 ≡ from + suc k + 1 = h (suc k) (omega arith) in omega arith) (behind m n ms mn f) in omega arith)

pub place_in_order : (ms : List ℕ) (n : ℕ) → ((k : ℕ) → k < length ms → get_or ms k 0 ≡ k + 1) → Among n ms → place_in ms n ≡ n
place_in_order ms n h mn = let e = place_from ms 0 n (λ k l. let i = h k l in omega arith) mn in omega arith
