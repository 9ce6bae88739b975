use Rattle.std.proofs.Common.{◌≡◌, take}
use Rattle.map_model.proofs.shown.copy_ways.Given as goal

abbrev pub invariant-loop-way : goal.invariant-loop-way
invariant-loop-way l = l.copies ≡ take l.way-index l.ways
