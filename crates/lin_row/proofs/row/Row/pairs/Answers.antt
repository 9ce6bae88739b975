use Rattle.std.proofs.Common.{subst}
use Rattle.lin_row.specs.Rows.{IsKept}
use Rattle.lin_row.proofs.Quotients.{row_small}
use Rattle.lin_row.proofs.row.Row.pairs.Goals as goal

pub returns-clause-small : goal.returns-clause-small
returns-clause-small c = let k = subst IsKept c.self.view_is c.self.invariant in row_small c.args.self.now k.within
