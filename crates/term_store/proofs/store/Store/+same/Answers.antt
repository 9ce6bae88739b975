use Rattle.std.proofs.lemmas.Slice.Eq.{bytes_eq-Decides}
use Rattle.std.proofs.Common.{sym}
use Rattle.term_store.specs.Trees.{trees_at}
use Rattle.term_store.proofs.Applications.{same_by_arguments}
use Rattle.term_store.proofs.store.Store.+same.Goals as goal

pub same-returns-then-eq : goal.same-returns-then-eq
same-returns-then-eq t c = same_by_arguments c.in-App-App.f.now c.in-App-App.g.now
    (trees_at c.args.self.now c.in-App-App.xs.now) (trees_at c.args.self.now c.in-App-App.ys.now) _ _ c.same_all.result
    c.in-App-App.ensures.shows.0 c.in-App-App.ensures'.shows.0 ((bytes_eq-Decides _ _).0 (sym c.if-eq.ensures)) c.same_all.ensures
