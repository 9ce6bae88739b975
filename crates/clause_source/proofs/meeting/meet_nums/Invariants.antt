use Rattle.std.proofs.Common.{◌≡◌, ◌+◌, drop, nat_eq}
use Rattle.clp_model.specs.Predicates.{distinct_after}
use Rattle.clause_model.specs.Variables.{nums_from}
use Rattle.clause_source.proofs.meeting.meet_nums.Given as goal

abbrev pub invariant-loop-sort : goal.invariant-loop-sort
invariant-loop-sort l = record {
  number : l.number ≡ l.sort-index + 1;
  met : distinct_after nat_eq l.met (nums_from l.number (drop l.sort-index l.sorts)) ≡ distinct_after nat_eq l.initial.met (nums_from 1 l.sorts);
}
