use Rattle.std.proofs.Common.{◌≡◌, drop}
use Rattle.term_store.specs.Trees.{AreIn}
use Rattle.clause_store.specs.Stored.{atoms_at}
use Rattle.map_model.specs.Defining.{body_broken}
use Rattle.map_state.specs.Seen.{state_of}
use Rattle.rules_unfold.proofs.conditions.body_broken.Given as goal

abbrev pub invariant-loop-atom : goal.invariant-loop-atom
invariant-loop-atom l = record {
  inside : AreIn l.store (drop l.atom-index l.atoms);
  left : body_broken (state_of l.state) l.pred (atoms_at l.store (drop l.atom-index l.atoms)) ≡ body_broken (state_of l.state) l.pred (atoms_at l.store l.atoms);
}
