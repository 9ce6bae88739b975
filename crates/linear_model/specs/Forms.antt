-- Linear forms, which are lists of variables with their coefficients, and combinations of rows.
use Rattle.std.specs.Prelude.{◌≡◌, ⊤, ◌<◌, ℕ, ℤ, pos, negsuc, ◌*ℤ◌, ◌+ℤ◌, List, [], ◌∷◌, Bool, false, nat_eq, nat_lt, if◌then◌else◌}
use Rattle.clp_model.specs.Clauses.{Row}
use Rattle.clp_model.specs.declared.sort.Rel.{Rel}

abbrev pub is_zero : ℤ → Bool
is_zero (pos n) = nat_eq n 0
is_zero (negsuc n) = false

-- the coefficient of variable v, 0 where it has none
abbrev pub coefficient : List (ℕ × ℤ) → ℕ → ℤ
coefficient [] v = pos 0
coefficient (p ∷ ps) v = (if nat_eq p.0 v then p.1 else pos 0) +ℤ coefficient ps v

-- the pair in front, if its coefficient is not 0
abbrev pub with_pair : ℕ → ℤ → List (ℕ × ℤ) → List (ℕ × ℤ)
with_pair v c ps = if is_zero c then ps else (v, c) ∷ ps

abbrev pub scaled : ℤ → List (ℕ × ℤ) → List (ℕ × ℤ)
scaled b [] = []
scaled b (q ∷ qs) = with_pair q.0 (b *ℤ q.1) (scaled b qs)

-- a times the first pair and what `rest` makes of the second list's pairs from its place on, and b times the second list
abbrev pub merged : ℤ → ℕ × ℤ → (List (ℕ × ℤ) → List (ℕ × ℤ)) → ℤ → List (ℕ × ℤ) → List (ℕ × ℤ)
merged a p rest b [] = with_pair p.0 (a *ℤ p.1) (rest [])
merged a p rest b (q ∷ qs) =
    if nat_lt p.0 q.0 then with_pair p.0 (a *ℤ p.1) (rest (q ∷ qs))
    else if nat_lt q.0 p.0 then with_pair q.0 (b *ℤ q.1) (merged a p rest b qs)
    else with_pair p.0 (a *ℤ p.1 +ℤ b *ℤ q.1) (rest qs)

-- a times the first list and b times the second, both with rising variables
abbrev pub combined : ℤ → List (ℕ × ℤ) → ℤ → List (ℕ × ℤ) → List (ℕ × ℤ)
combined a [] b qs = scaled b qs
combined a (p ∷ ps) b qs = merged a p (combined a ps b) b qs

-- a times row r and b times row s, before it is divided
abbrev pub combination : Rel → ℤ → Row → ℤ → Row → Row
combination rel a r b s =
    record { rel = rel; pairs = combined a r.pairs b s.pairs; constant = a *ℤ r.constant +ℤ b *ℤ s.constant }

abbrev pub Above : ℕ → List (ℕ × ℤ) → Type 0
Above n [] = ⊤
Above n (p ∷ ps) = (n < p.0) × Above n ps

-- variables rise, and no coefficient is 0
abbrev pub IsRising : List (ℕ × ℤ) → Type 0
IsRising [] = ⊤
IsRising (p ∷ ps) = (is_zero p.1 ≡ false) × Above p.0 ps × IsRising ps
