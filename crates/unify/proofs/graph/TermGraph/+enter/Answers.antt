use Rattle.std.proofs.Common.{◌≡◌, ◌∙◌, ℕ, List, [], ◌∷◌, ◌++◌, take, sym, ap, subst, arith}
use Rattle.clp_model.specs.declared.tree.Tree.{App}
use Rattle.term_store.specs.Trees.{tree_at, trees_at}
use Rattle.term_store.proofs.Keeping.{rest_in, rest_size, trees_at_more}
use Rattle.unify.specs.Graphs.{node_tree, HavePlaces}
use Rattle.unify.proofs.Growing.{grows_itself, grows_twice, enters_after, if_ok_so, places_push, few_arguments}
use Rattle.unify.proofs.graph.TermGraph.+enter.Goals as goal

pub enter-returns-in-Some : goal.enter-returns-in-Some
enter-returns-in-Some t c = record {
  is = c.requires.graph;
  grows = grows_itself c.args.self.now;
  place = c.requires.graph.applications c.args.t c.in-Some.place.now (sym c.in-Some.ensures.value);
}

pub enter-returns-in_ok-args-in-App : goal.enter-returns-in_ok-args-in-App
enter-returns-in_ok-args-in-App t c =
    let store = c.args.store.now in
    let are = c.in_ok-args-in-App.ensures.places in
    let e : tree_at store c.args.t ≡ App c.in-App.name.now (trees_at store c.in-App.args.now) = c.in-App.ensures.shows.0 in
    if_ok_so c.put_application.result _ _
    (λ p h. enters_after store c.args.self.now c.enter_all.new.self _ (tree_at store c.args.t) p c.in_ok-args-in-App.ensures.grows
    (h store c.in_ok-args-in-App.ensures.graph c.requires.within are.within
    (few_arguments (node_tree store c.enter_all.new.self.terms.items) c.in_ok-args-in-App.args (tree_at store c.args.t) c.in-App.name.now (trees_at store c.in-App.args.now) e c.in-App.ensures.small are.are)
    (e ∙ ap (App c.in-App.name.now) (sym are.are))))
    c.put_application.ensures

pub enter_all-loop-term-preserved : goal.enter_all-loop-term-preserved
enter_all-loop-term-preserved t c =
    let store = c.args.store.now in
    let i = c.loop-term.term-index in
    let h = c.in_ok-place.ensures in
    let more = trees_at_more store c.args.terms.now i c.term-item.result (omega arith) c.term-item.is in
    record {
      graph = h.is;
      grows = grows_twice c.args.self.now c.loop-term.self c.enter.new.self c.loop-term.invariant.grows h.grows;
      made = subst (HavePlaces store c.enter.new.self c.push.new.self) (sym more)
          (subst (λ (ps : List ℕ). HavePlaces store c.enter.new.self ps (trees_at store (take i c.args.terms.now) ++ tree_at store c.term-item.result ∷ [])) (sym c.in_ok-push.ensures.ok)
          (places_push store c.loop-term.self c.enter.new.self c.loop-term.places (trees_at store (take i c.args.terms.now)) c.in_ok-place.place (tree_at store c.term-item.result) c.loop-term.invariant.made h.grows h.place));
      rest = rest_in store c.args.terms.now i (omega arith) c.loop-term.invariant.rest;
      left = omega (arith, c.loop-term.invariant.left, rest_size store c.args.terms.now i (omega arith));
    }
