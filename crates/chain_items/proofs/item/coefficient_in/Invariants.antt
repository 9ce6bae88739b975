use Rattle.std.proofs.Common.{◌≡◌, drop}
use Rattle.linear_model.specs.Forms.{IsRising, coefficient}
use Rattle.chain_items.proofs.item.coefficient_in.Given as goal

abbrev pub invariant-loop-p : goal.invariant-loop-p
invariant-loop-p l = record {
  rising : IsRising (drop l.p-index l.pairs);
  so_far : coefficient (drop l.p-index l.pairs) l.variable ≡ coefficient l.pairs l.variable;
}
