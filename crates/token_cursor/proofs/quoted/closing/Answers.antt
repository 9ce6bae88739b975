use Rattle.std.proofs.Common.{◌≡◌, length, arith, subst, sym, Some}
use Rattle.std.proofs.lemmas.Grind.{common_steps}
use Rattle.token_model.specs.Names.{closing}
use Rattle.token_cursor.proofs.Closings.{closing_within, Within}
use Rattle.token_cursor.proofs.quoted.closing.Goals as goal

pub returns-in-10 : goal.returns-in-10
unfolding closing
returns-in-10 c =
    let v : c.loop-at.last ≡ closing c.args.text.now = grind (arith, common_steps) in
    record { value = v; within = rw v (closing_within c.args.text.now) }

pub returns-then-b-ne39 : goal.returns-then-b-ne39
unfolding closing
returns-then-b-ne39 c =
    let v : Some c.loop-at.at ≡ closing c.args.text.now = grind (arith, common_steps) in
    record { value = v; within = subst (λ e. Within (length c.args.text.now) e) (sym v) (closing_within c.args.text.now) }

pub returns-then-not-is_escape : goal.returns-then-not-is_escape
unfolding closing
returns-then-not-is_escape c =
    let v : c.loop-at.last ≡ closing c.args.text.now = grind (arith, common_steps) in
    record { value = v; within = rw v (closing_within c.args.text.now) }

pub returns-in_default-place : goal.returns-in_default-place
unfolding closing
returns-in_default-place c =
    let v : c.loop-at.last ≡ closing c.args.text.now = grind (arith, common_steps) in
    record { value = v; within = rw v (closing_within c.args.text.now) }
