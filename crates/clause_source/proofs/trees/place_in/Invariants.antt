use Rattle.std.proofs.Common.{◌≡◌, ◌+◌, drop}
use Rattle.clp_model.specs.Canonical.{place_in}
use Rattle.clause_source.proofs.trees.place_in.Given as goal

abbrev pub invariant-loop-m : goal.invariant-loop-m
invariant-loop-m l = record {
  is : l.place ≡ l.m-index + 1;
  rest : place_in l.met l.number ≡ l.m-index + place_in (drop l.m-index l.met) l.number;
}
