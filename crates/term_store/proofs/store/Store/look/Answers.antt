use Rattle.std.proofs.Common.{◌∙◌, ◌≤◌, ℕ, List, length, ap, sym, subst, arith}
use Rattle.clp_model.specs.declared.tree.Tree.{App}
use Rattle.term_store.specs.declared.store.Node.TheVariants as node
use Rattle.term_store.specs.Trees.{trees_at, AreIn}
use Rattle.term_store.specs.Entries.{part}
use Rattle.term_store.proofs.Built.{length_store, shown}
use Rattle.term_store.proofs.store.Store.look.Goals as goal

pub index-requires : goal.index-requires
index-requires c = omega (arith, length_store c.self.inside.arguments.items c.self.inside.entries.items c.args.self.now c.self.view_is)

pub part-requires-clause-order : goal.part-requires-clause-order
part-requires-clause-order c =
    (shown c.self.inside.arguments.items c.self.inside.entries.items c.args.self.now c.self.view_is c.self.invariant c.t.inside.place c.args.t c.t.view_is c.requires
    c.index.result.now c.index.ensures (node.App c.in-App.name c.in-App.span) c.in-App.is).arguments.order

pub part-requires-clause-within : goal.part-requires-clause-within
part-requires-clause-within c =
    let P : List ℕ → Type 0 = λ v. c.in-App.span.end ≤ length v in
    let found = shown c.self.inside.arguments.items c.self.inside.entries.items c.args.self.now c.self.view_is c.self.invariant c.t.inside.place c.args.t c.t.view_is c.requires
    c.index.result.now c.index.ensures (node.App c.in-App.name c.in-App.span) c.in-App.is in
    subst P (sym c.as_slice.ensures.value) found.arguments.within

pub returns-in-Var-clause-shows : goal.returns-in-Var-clause-shows
returns-in-Var-clause-shows c =
    (shown c.self.inside.arguments.items c.self.inside.entries.items c.args.self.now c.self.view_is c.self.invariant c.t.inside.place c.args.t c.t.view_is c.requires
    c.index.result.now c.index.ensures (node.Var c.in-Var.number c.in-Var.sort) c.in-Var.is).is

pub returns-in-Var-clause-small : goal.returns-in-Var-clause-small
returns-in-Var-clause-small c =
    (shown c.self.inside.arguments.items c.self.inside.entries.items c.args.self.now c.self.view_is c.self.invariant c.t.inside.place c.args.t c.t.view_is c.requires
    c.index.result.now c.index.ensures (node.Var c.in-Var.number c.in-Var.sort) c.in-Var.is).small

pub returns-in-App-clause-shows : goal.returns-in-App-clause-shows
returns-in-App-clause-shows c =
    let found = shown c.self.inside.arguments.items c.self.inside.entries.items c.args.self.now c.self.view_is c.self.invariant c.t.inside.place c.args.t c.t.view_is c.requires
    c.index.result.now c.index.ensures (node.App c.in-App.name c.in-App.span) c.in-App.is in
    let same = c.part.ensures ∙ ap (λ v. part v c.in-App.span) c.as_slice.ensures.value in
    let P : List ℕ → Type 0 = AreIn c.args.self.now in (
      found.is ∙ ap (λ n. App n (trees_at c.args.self.now (part c.self.inside.arguments.items c.in-App.span))) (sym c.as_str.ensures)
          ∙ ap (λ v. App c.as_str.result.now (trees_at c.args.self.now v)) (sym same),
      subst P (sym same) found.arguments.are,
    )

pub returns-in-App-clause-small : goal.returns-in-App-clause-small
returns-in-App-clause-small c =
    (shown c.self.inside.arguments.items c.self.inside.entries.items c.args.self.now c.self.view_is c.self.invariant c.t.inside.place c.args.t c.t.view_is c.requires
    c.index.result.now c.index.ensures (node.App c.in-App.name c.in-App.span) c.in-App.is).small
