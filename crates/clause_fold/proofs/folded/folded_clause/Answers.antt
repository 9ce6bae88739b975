use Rattle.std.proofs.Common.{ap, Err}
use Rattle.clause_fold.proofs.FoldedParts.{folded_raw, folded_is, folded_refused}
use Rattle.clause_fold.proofs.folded.folded_clause.Goals as goal

pub returns-in-Ok-clause-is : goal.returns-in-Ok-clause-is
returns-in-Ok-clause-is c = λ s b.
    folded_is c.args.store.now c.args.scratch.now c.args.n.now c.args.c.now c.args.images.now c.args.at.now c.args.keep.now c.requires.definition c.requires.clause c.requires.images s b c.folded_parts.new.scratch c.in-Ok.raw
    c.in-Ok.ensures.parts

pub returns-in-Ok-clause-raw : goal.returns-in-Ok-clause-raw
returns-in-Ok-clause-raw c =
    folded_raw c.args.store.now c.args.scratch.now c.args.n.now c.args.c.now c.args.images.now c.args.at.now c.args.keep.now c.requires.definition c.requires.clause c.requires.images c.folded_parts.new.scratch c.in-Ok.raw
    c.in-Ok.ensures.parts

pub returns-in-Err-TooLarge-clause-refused : goal.returns-in-Err-TooLarge-clause-refused
returns-in-Err-TooLarge-clause-refused c = λ s b.
    folded_refused c.args.store.now c.args.scratch.now c.args.n.now c.args.c.now c.args.images.now c.args.at.now c.args.keep.now c.requires.definition c.requires.clause c.requires.images s b
    (c.in-Err-TooLarge.ensures.large (ap Err c.in-Err-TooLarge.field-0-is))
