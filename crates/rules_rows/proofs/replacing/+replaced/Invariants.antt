use Rattle.std.proofs.Common.{◌+◌, ◌*◌, take}
use Rattle.clp_model.specs.Trees.{size, total_size, mapped_all}
use Rattle.term_store.specs.Trees.{tree_at, trees_at, Keeps, HaveTrees}
use Rattle.rules_rows.specs.Replaced.{with_other}
use Rattle.rules_rows.proofs.replacing.+replaced.Given as goal

abbrev pub decreases-replaced : goal.decreases-replaced
decreases-replaced l = 2 * size (tree_at l.from.now l.t)

abbrev pub decreases-replaced_all : goal.decreases-replaced_all
decreases-replaced_all l = 2 * total_size (trees_at l.from.now l.terms.now) + 1

abbrev pub invariant-replaced_all-loop-term : goal.invariant-replaced_all-loop-term
invariant-replaced_all-loop-term l = record {
  keeps : Keeps l.fn.into l.into;
  made : HaveTrees l.into l.all (mapped_all (with_other l.var l.to) (trees_at l.from (take l.term-index l.terms)));
}
