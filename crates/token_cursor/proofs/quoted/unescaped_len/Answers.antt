use Rattle.std.proofs.Common.{length, arith}
use Rattle.token_model.specs.Names.{unescaped}
use Rattle.token_cursor.proofs.Unescaping.{one_more, no_more}
use Rattle.token_cursor.proofs.quoted.unescaped_len.Goals.{then-not-marked, else-not-marked}
use Rattle.token_cursor.proofs.quoted.unescaped_len.Goals as goal

pub loop-b-preserved : goal.loop-b-preserved
loop-b-preserved c =
    let name = c.args.inside.now in
    let l = c.loop-b in
    elim c.if-not-marked.branch [
      | then-not-marked w ↦ record { so_far = rw w.len-is (one_more l.marked c.is_mark-marked.result name l.b-index (length (unescaped name)) l.len c.loop-b-test.true c.is_mark-marked.ensures w.if-not-marked.true l.invariant.so_far); small = omega arith }
      | else-not-marked w ↦ record { so_far = rw w.len-is (no_more l.marked c.is_mark-marked.result name l.b-index (length (unescaped name)) l.len c.loop-b-test.true c.is_mark-marked.ensures w.if-not-marked.false l.invariant.so_far); small = omega arith }
    ]
