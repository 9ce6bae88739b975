use Rattle.std.proofs.Common.{◌≡◌, ◌+◌, ◌*◌, ◌≤◌, drop, nat_eq}
use Rattle.std.specs.List.{list_any}
use Rattle.clp_model.specs.Trees.{size, total_size, variables_in}
use Rattle.term_store.specs.Trees.{tree_at, trees_at, AreIn}
use Rattle.clause_store.specs.Stored.{atoms_at}
use Rattle.rules_rows.proofs.uses.+uses.Given as goal

abbrev pub decreases-uses : goal.decreases-uses
decreases-uses l = 2 * size (tree_at l.store.now l.t)

abbrev pub decreases-any_uses : goal.decreases-any_uses
decreases-any_uses l = 2 * total_size (trees_at l.store.now l.terms.now) + 1

abbrev pub invariant-any_uses-loop-term : goal.invariant-any_uses-loop-term
invariant-any_uses-loop-term l = record {
  inside : AreIn l.store (drop l.term-index l.terms);
  rest : list_any (nat_eq l.var) (variables_in (atoms_at l.store (drop l.term-index l.terms))) ≡ list_any (nat_eq l.var) (variables_in (atoms_at l.store l.terms));
  left : total_size (trees_at l.store (drop l.term-index l.terms)) ≤ total_size (trees_at l.store l.terms);
}
