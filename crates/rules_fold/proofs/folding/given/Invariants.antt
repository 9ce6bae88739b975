use Rattle.std.proofs.Common.{◌≡◌, map, take}
use Rattle.map_model.specs.declared.shown.Shown.TheVariants.{Given}
use Rattle.rules_fold.proofs.folding.given.Given as goal

abbrev pub invariant-loop-certificate : goal.invariant-loop-certificate
invariant-loop-certificate l = l.ways ≡ map Given (take l.certificate-index l.certificates)
