-- The loop that compares two lists of pairs, each divided.
use Rattle.std.proofs.Common.{◌≡◌, ℕ, ◌+◌, ◌<◌, List, ◌∷◌, length, get_or, drop, Bool, false, ◌&&◌, sym, ◌∙◌, ap}
use Rattle.std.specs.Prelude.{nat_eq, int_div}
use Rattle.std.specs.Ordering.{int_eq}
use Rattle.std.proofs.Math.IntN.{ℤ}
use Rattle.linear_model.specs.Normal.{divided_pairs, pairs_eq}
use Rattle.lin_row.proofs.Steps.{at_head}

pub differ_at : (d e : ℤ) (ps qs : List (ℕ × ℤ)) (i : ℕ) (p q : ℕ × ℤ) (all : Bool)
    → i < length ps → ((x : ℕ × ℤ) → p ≡ get_or ps i x) → i < length qs → ((x : ℕ × ℤ) → q ≡ get_or qs i x)
    → (nat_eq p.0 q.0 && int_eq (int_div p.1 d) (int_div q.1 e)) ≡ false
    → pairs_eq (divided_pairs d (drop i ps)) (divided_pairs e (drop i qs)) ≡ all → false ≡ all
differ_at d e ps qs i p q all h k m n f g =
    let a = at_head ps i p h k in
    let b = at_head qs i q m n in
    let rest = pairs_eq (divided_pairs d (drop (i + 1) ps)) (divided_pairs e (drop (i + 1) qs)) in
    sym (ap (λ t. t && rest) f) ∙ (sym (ap (λ xs. pairs_eq (divided_pairs d xs) (divided_pairs e (drop i qs))) a ∙ ap (λ xs. pairs_eq (divided_pairs d (p ∷ drop (i + 1) ps)) (divided_pairs e xs)) b) ∙ g)
