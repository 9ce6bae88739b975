-- A part of a certificate, and the range of its numbers.
use Rattle.std.specs.Prelude.{ℤ, List, Bool, ◌&&◌, unsigned_abs, nat_le}
use Rattle.linear_model.specs.Certificates.{Part}
use Rattle.linear_model.specs.Chain.{multiplier_limit, weights_within}

abbrev pub part : ℤ → List ℤ → Part
part k m = record { k = k; m = m }

-- no number is above the limit
abbrev pub part_within : Part → Bool
part_within p = nat_le (unsigned_abs p.k) multiplier_limit && weights_within p.m
