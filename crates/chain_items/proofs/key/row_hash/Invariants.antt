use Rattle.std.proofs.Common.{◌≡◌, drop}
use Rattle.linear_model.specs.Normal.{divided_pairs}
use Rattle.chain_items.specs.Keys.{pairs_hash, rel_number}
use Rattle.chain_items.proofs.key.row_hash.Given as goal

abbrev pub invariant-loop-p : goal.invariant-loop-p
invariant-loop-p l = pairs_hash l.hash (divided_pairs l.divisor (drop l.p-index l.pairs)) ≡ pairs_hash (rel_number l.fn.rel) (divided_pairs l.divisor l.pairs)
