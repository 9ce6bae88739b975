use Rattle.std.proofs.Common.{◌≡◌, false, take}
use Rattle.clause_model.specs.Solved.{typed_equations}
use Rattle.clause_model.specs.Load.{any_side_large}
use Rattle.term_store.specs.Trees.{Keeps}
use Rattle.clause_loader.specs.Carried.{HaveEquations}
use Rattle.clause_loader.proofs.build.sides_of.Given as goal

abbrev pub invariant-loop-equation : goal.invariant-loop-equation
invariant-loop-equation l = record {
  keeps : Keeps l.fn.store l.store;
  made : HaveEquations l.store l.pairs.items (typed_equations l.sorts (take l.equation-index l.equations));
  small : any_side_large (take l.equation-index l.equations) ≡ false;
}
