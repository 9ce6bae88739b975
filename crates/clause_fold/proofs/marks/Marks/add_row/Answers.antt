use Rattle.std.proofs.Common.{arith, length}
use Rattle.std.proofs.Math.IntN.{pos}
use Rattle.clause_loader.proofs.Tables.{number_at}
use Rattle.clause_loader.specs.WellFormed.{IsNumber}
use Rattle.clause_fold.proofs.marks.Marks.add_row.Goals as goal

pub add-requires : goal.add-requires
add-requires c =
    let k = number_at (IsNumber (length c.args.self.now)) c.args.row.now c.pairs-pair-items.result.now c.loop-pair.pair-index (0, pos 0) c.pairs-pair-items.ensures.value (omega arith) c.requires in
    let e = c.loop-pair.invariant.count in
    (k.0, omega (arith, k.1, e))
