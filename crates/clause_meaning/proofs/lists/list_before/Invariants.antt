use Rattle.std.proofs.Common.{◌≡◌, length}
use Rattle.clause_meaning.specs.Known.{list_before}
use Rattle.clause_meaning.proofs.lists.list_before.Given as goal

abbrev pub invariant-loop-element : goal.invariant-loop-element
invariant-loop-element l = list_before l.initial.elements l.initial.list ≡ list_before l.elements l.list

abbrev pub decreases-loop-element : goal.decreases-loop-element
decreases-loop-element l = length l.elements
