use Rattle.std.proofs.Common.{◌+◌, ◌*◌}
use Rattle.clp_model.specs.Trees.{size, total_size}
use Rattle.term_store.specs.Trees.{tree_at, trees_at}
use Rattle.term_store.proofs.store.Store.+same.Given as goal

abbrev pub decreases-same : goal.decreases-same
decreases-same l = 2 * size (tree_at l.self.now l.a)

abbrev pub decreases-same_all : goal.decreases-same_all
decreases-same_all l = 2 * total_size (trees_at l.self.now l.xs.now) + 1
