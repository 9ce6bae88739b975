use Rattle.std.proofs.Common.{sym, map}
use Rattle.clause_store.specs.Stored.{atoms_at}
use Rattle.fold_model.specs.Internal.{number_in}
use Rattle.term_store.specs.Trees.{tree_at}
use Rattle.clause_fold.proofs.Arguments.{other_app}
use Rattle.clause_fold.proofs.definitions.is_other_variable.Goals as goal

pub returns-in-App : goal.returns-in-App
returns-in-App c = sym (other_app (map number_in (atoms_at c.args.store.now c.args.before.now)) (tree_at c.args.store.now c.args.t) _ _ c.in-App.ensures.shows.0)
