use Rattle.unify_closure.specs.Walks.{Walks, walk_cost}
use Rattle.unify_closure.proofs.sorting.sort.Given as goal

abbrev pub invariant-loop-place : goal.invariant-loop-place
invariant-loop-place l = Walks l.nodes l.stands l.walk l.walk.stack.items

abbrev pub decreases-loop-place : goal.decreases-loop-place
decreases-loop-place l = walk_cost l.walk
