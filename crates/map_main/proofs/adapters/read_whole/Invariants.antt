use Rattle.std.proofs.Common.{◌+◌, ◌-◌, vec_len}
use Rattle.std.specs.Io.KnownBytes.{Consumes}
use Rattle.map_main.proofs.adapters.read_whole.Given as goal

-- the bytes so far are those that the file has given
abbrev pub invariant-loop-buf : goal.invariant-loop-buf
invariant-loop-buf g l = Consumes (g.F.Read.remaining l.initial.file) (g.F.Read.remaining l.file) l.into.items

abbrev pub decreases-loop-buf : goal.decreases-loop-buf
decreases-loop-buf g l = l.most + 1 - vec_len l.into
