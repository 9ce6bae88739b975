use Rattle.std.proofs.Common.{◌≡◌, ℕ, length, take, All}
use Rattle.lin_row.specs.Rows.{at}
use Rattle.term_store.specs.Trees.{Keeps}
use Rattle.substitution.specs.Weights.{images}
use Rattle.clause_loader.specs.Carried.{number_by}
use Rattle.clause_loader.proofs.rows.note_row.Given as goal

abbrev pub invariant-loop-pair : goal.invariant-loop-pair
invariant-loop-pair l = record {
  keeps : Keeps l.fn.store l.store;
  count : length l.table.items ≡ length l.fn.table.items;
  noted : All (λ p. at l.table.items p.0 ≡ number_by l.sorts (images l.fn.store l.s) p.0) (take l.pair-index l.pair-items);
  others : (n : ℕ) → at l.fn.table.items n ≡ number_by l.sorts (images l.fn.store l.s) n → at l.table.items n ≡ number_by l.sorts (images l.fn.store l.s) n;
}
