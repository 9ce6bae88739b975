-- A certificate that is right, and two that are not.
use Rattle.std.proofs.Common.{◌≡◌, Bool, true, false, inl, inr, arith, refl}
use Rattle.std.specs.Prelude.{nat_eq, if◌then◌else◌}
use Rattle.std.proofs.Math.IntN.{pos, neg_ℤ, ◌*ℤ◌, ◌+ℤ◌}
use Rattle.std.proofs.lemmas.Int.{ints}
use Rattle.linear_examples.specs.Chains.{PartShows, NoPartForStrict, NoNegativeMultiplier}

pub part_shows : PartShows
part_shows = record {
  allowed = (inr (omega (arith, ints)), (inl refl, tt));
  not_negative = omega (arith, ints);
  cancels = λ v. by (nat_eq 1 v) (nat_eq 2 v);
  c = pos 1;
  constant = refl;
  enough = inl (omega (arith, ints));
}
  where
    by : (a b : Bool) → pos 1 *ℤ ((if a then pos 1 else pos 0) +ℤ pos 0) +ℤ (neg_ℤ (pos 1) *ℤ ((if a then pos 1 else pos 0) +ℤ ((if b then neg_ℤ (pos 1) else pos 0) +ℤ pos 0)) +ℤ pos 0)
        ≡ pos 1 *ℤ ((if b then pos 1 else pos 0) +ℤ pos 0)
    by true true = refl
    by true false = refl
    by false true = refl
    by false false = refl

pub no_part_for_strict : NoPartForStrict
no_part_for_strict s =
    let e = s.constant in
    elim s.enough [
      | inl p ↦ omega (arith, ints)
      | inr (inl p) ↦ elim p.1 [ inl q ↦ (let k = q.0 in cc) | inr q ↦ q ]
      | inr (inr p) ↦ let k = p.1 in cc
    ]

pub no_negative_multiplier : NoNegativeMultiplier
no_negative_multiplier s = elim s.allowed.0 [ inl e ↦ cc | inr p ↦ omega (arith, ints) ]
