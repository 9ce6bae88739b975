use Rattle.std.proofs.Common.{rules, arith, ◌≤◌, length}
use Rattle.map_base.proofs.Taking.{read_first}
use Rattle.map_base.proofs.memory.MemSourceSource.read.Goals as goal

pub returns-clause-takes : goal.returns-clause-takes
returns-clause-takes c =
    let fits : c.min-n.result ≤ length c.rest-left.result.now = omega arith in
    (read_first c.rest-left.result.now c.copy_from_slice.new.self _ c.args.self.now.bytes.items c.args.self.now.place c.min-n.result c.copy_from_slice.ensures.after (search rules) fits)
