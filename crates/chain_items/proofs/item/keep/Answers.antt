use Rattle.std.proofs.Common.{◌≤◌, sym, subst}
use Rattle.std.specs.Prelude.{All, unsigned_abs}
use Rattle.linear_model.specs.Normal.{limit}
use Rattle.chain_items.proofs.Merging.{row_pairs_small}
use Rattle.chain_items.proofs.item.keep.Goals as goal

pub normal_divisor-divisor-requires-clause-pairs_small : goal.normal_divisor-divisor-requires-clause-pairs_small
normal_divisor-divisor-requires-clause-pairs_small c = subst (All (λ p. unsigned_abs p.1 ≤ limit)) (sym c.as_slice.ensures) (row_pairs_small c.args.pairs.items c.args.constant c.requires.within)

pub row_hash-hash-requires-clause-pairs_small : goal.row_hash-hash-requires-clause-pairs_small
row_hash-hash-requires-clause-pairs_small c = subst (All (λ p. unsigned_abs p.1 ≤ limit)) (sym c.as_slice-2.ensures) (row_pairs_small c.args.pairs.items c.args.constant c.requires.within)
