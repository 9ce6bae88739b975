-- The numbers of the names of a clause, of which the first so many are known.
use Rattle.std.proofs.Common.{◌≡◌, ℕ, zero, suc, ◌+◌, ◌-◌, ◌<◌, ◌≤◌, List, [], ◌∷◌, ◌++◌, length, get_or, arith, refl, sym, ◌∙◌, ap}
use Rattle.std.proofs.Math.ListN.{set, replicate, get_or-append}
use Rattle.std.proofs.Math.Seq.{set-append_seam}
use Rattle.std.proofs.lemmas.List.{append_assoc, get_or-append_right}
use Rattle.clause_laws.proofs.Upto.{numbers, upto, upto_last}

pub length_numbers : (k n : ℕ) → length (numbers k n) ≡ n
length_numbers k zero = refl
length_numbers k (suc n) = ap suc (length_numbers (suc k) n)

number_at : (k n i : ℕ) → i < n → get_or (numbers k n) i 0 ≡ suc (k + i)
number_at k zero i h = absurd (omega arith)
number_at k (suc n) zero h = omega arith
number_at k (suc n) (suc i) h = number_at (suc k) n i (omega arith) ∙ omega arith

-- the first k of n names have their places as their numbers, and the others none
abbrev pub known : ℕ → ℕ → List ℕ
known n k = upto k ++ replicate (n - k) 0

-- the number of a place that is known
pub known_old : (n k p : ℕ) → 0 < p → p ≤ k → get_or (known n k) (p - 1) 0 ≡ p
known_old n k p l h =
    let long = length_numbers 0 k in
    get_or-append (upto k) (replicate (n - k) 0) 0 (p - 1) (omega arith) ∙ number_at 0 k (p - 1) (omega arith) ∙ omega arith

nothing_at : (n : ℕ) → get_or {A = ℕ} (replicate n 0) 0 0 ≡ 0
nothing_at zero = refl
nothing_at (suc n) = refl

-- that of the next place
pub known_next : (n k : ℕ) → get_or (known n k) k 0 ≡ 0
known_next n k =
    let none : k - k ≡ 0 = omega arith in
    get_or-append_right (upto k) (replicate (n - k) 0) k k 0 (length_numbers 0 k) (omega arith) ∙ ap (λ i. get_or (replicate (n - k) 0) i 0) none ∙ nothing_at (n - k)

pub known_more : (n k : ℕ) → k < n → set (known n k) k (suc k) ≡ known n (suc k)
known_more n k h =
    let rest : List ℕ = replicate (n - suc k) 0 in
    let e : n - k ≡ suc (n - suc k) = omega arith in
    ap (λ j. set (upto k ++ replicate j 0) k (suc k)) e
    ∙ ap (λ i. set (upto k ++ 0 ∷ rest) i (suc k)) (sym (length_numbers 0 k))
    ∙ set-append_seam (upto k) 0 rest (suc k)
    ∙ sym (append_assoc (upto k) (suc k ∷ []) rest)
    ∙ ap (λ ns. ns ++ rest) (upto_last k)

pub known_none : (n : ℕ) → known n 0 ≡ replicate n 0
known_none n = let e : n - 0 ≡ n = omega arith in ap (λ j. replicate j 0) e
