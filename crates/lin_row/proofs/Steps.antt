-- Places in lists.
use Rattle.std.proofs.Common.{◌≡◌, ℕ, suc, ◌+◌, ◌<◌, List, ◌∷◌, length, get_or, drop, drop-cons, add-one, sym, ap}

pub at_head : {A : Type 0} (xs : List A) (i : ℕ) (p : A) → i < length xs → ((d : A) → p ≡ get_or xs i d) → drop i xs ≡ p ∷ drop (i + 1) xs
at_head xs i p h e = rw (add-one, drop-cons xs i p) (ap (λ y. y ∷ drop (suc i) xs) (sym (e p)))
