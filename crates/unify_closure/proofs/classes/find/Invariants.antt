use Rattle.std.proofs.Common.{◌≡◌, ◌<◌, length}
use Rattle.unify_closure.specs.Classes.{root, AreParents, HaveSameRoots, own}
use Rattle.unify_closure.proofs.classes.find.Given as goal

abbrev pub invariant-loop-at : goal.invariant-loop-at
invariant-loop-at l = record {
  are : AreParents l.parents.items;
  same : HaveSameRoots l.fn.parents.items l.parents.items;
  own : own l.parents.items ≡ own l.fn.parents.items;
  within : l.at < length l.parents.items;
  root : root l.parents.items l.at ≡ root l.fn.parents.items l.place;
}

abbrev pub decreases-loop-at : goal.decreases-loop-at
decreases-loop-at l = l.at
