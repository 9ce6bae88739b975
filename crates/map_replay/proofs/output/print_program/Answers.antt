use Rattle.std.proofs.Common.{arith, ap, ◌++◌, ◌∙◌}
use Rattle.std.specs.Prelude.{string_bytes}
use Rattle.map_replay.proofs.Printing.{text_more, text_done}
use Rattle.map_replay.proofs.output.print_program.Goals as goal

pub loop-id-preserved : goal.loop-id-preserved
loop-id-preserved c =
    text_more _ c.loop-id.id _ _ _ (omega (arith, c.loop-id.auto.id)) (omega (arith, c.next_id-id-end.ensures)) c.loop-id.invariant c.in_ok-print_entry.ensures.ok

pub returns-clause-ok : goal.returns-clause-ok
returns-clause-ok c =
    let done = text_done _ c.loop-id.id _ _ (omega (arith, c.next_id-id-end.ensures)) c.loop-id.invariant in
    c.in_ok-push_str.ensures.bytes ∙ ap (λ xs. string_bytes c.args.into.now ++ xs) (c.as_str.ensures.value ∙ done)
