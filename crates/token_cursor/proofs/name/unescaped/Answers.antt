use Rattle.token_model.specs.Names.{unescaped}
use Rattle.token_cursor.proofs.Unescaping.{byte_more, no_byte_more}
use Rattle.token_cursor.proofs.name.unescaped.Goals.{then-not-marks+in_ok-push, else-not-marks}
use Rattle.token_cursor.proofs.name.unescaped.Goals as goal

pub loop-b-preserved : goal.loop-b-preserved
loop-b-preserved c =
    let name = c.args.inside.now in
    let l = c.loop-b in
    elim c.if-not-marks.branch [
      | then-not-marks+in_ok-push w ↦ rw (w.name-is, w.marked-is, w.in_ok-push.ensures.items, w.meant.ensures) (byte_more l.marked c.is_mark-marks.result name l.b-index (unescaped name) l.name.items c.loop-b-test.true c.is_mark-marks.ensures w.if-not-marks.true l.invariant)
      | else-not-marks w ↦ rw (w.name-is, w.marked-is) (no_byte_more l.marked c.is_mark-marks.result name l.b-index (unescaped name) l.name.items c.loop-b-test.true c.is_mark-marks.ensures w.if-not-marks.false l.invariant)
    ]
