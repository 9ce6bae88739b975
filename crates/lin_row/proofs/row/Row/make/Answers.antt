use Rattle.lin_row.proofs.Rising.{nonzero_rising}
use Rattle.lin_row.proofs.row.Row.make.Goals as goal

pub reduced-requires : goal.reduced-requires
reduced-requires c = record { rising = nonzero_rising c.args.pairs.now c.requires.rise }
