-- The greatest common divisor of numbers in range is in range.
use Rattle.std.proofs.Common.{◌≡◌, ℕ, zero, suc, ◌≤◌, List, [], ◌∷◌, arith, sym, subst, to_z}
use Rattle.std.specs.Prelude.{All, unsigned_abs}
use Rattle.std.proofs.lemmas.List.Elements.{All-head, All-tail}
use Rattle.std.proofs.Math.IntN.{ℤ, pos}
use Rattle.std.proofs.lemmas.Int.{to_z_pos}
use Rattle.std.proofs.lemmas.Nat.Gcd.{le_of_dvd}
use mir.Syntax.{w64}
use Rattle.linear_model.specs.Gcd.{gcd}
use Rattle.linear_model.specs.Normal.{joint_gcd, limit}
use Rattle.linear_laws.proofs.Gcd.{gcd_is}
use Rattle.chain_items.proofs.Merging.{gcd_of_zero}

gcd_least : (a n b : ℕ) → a ≤ b → n ≤ b → gcd a n ≤ b
gcd_least zero n b h k = subst (λ d. d ≤ b) (sym (gcd_of_zero n)) k
gcd_least (suc a) n b h k = let e : gcd (suc a) n ≤ suc a = le_of_dvd (omega arith) (gcd_is (suc a) n).0 in omega arith

pub divisor_small : (n : ℕ) (ps : List (ℕ × ℤ)) → n ≤ limit → All (λ p. unsigned_abs p.1 ≤ limit) ps → joint_gcd n ps ≤ limit
divisor_small n [] h k = h
divisor_small n (p ∷ ps) h k =
    let P : ℕ × ℤ → Type 0 = λ q. unsigned_abs q.1 ≤ limit in
    divisor_small (gcd (unsigned_abs p.1) n) ps (gcd_least (unsigned_abs p.1) n limit (All-head P p ps k) h) (All-tail P p ps k)

pub as_signed : (n : ℕ) → n ≤ limit → to_z w64 n ≡ pos n
as_signed n h = to_z_pos w64 n (omega arith)
