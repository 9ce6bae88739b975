use Rattle.std.proofs.Common.{◌≡◌, ◌∙◌, List, ℕ, [], ap, sym, subst}
use Rattle.std.specs.Prelude.{IfOk}
use Rattle.clp_model.specs.declared.tree.Tree.{Tree, App}
use Rattle.clp_model.specs.declared.tree.Variable.{Variable}
use Rattle.term_store.specs.Trees.{trees_at, HasTree, Keeps}
use Rattle.term_store.specs.Entries.{built, part, IsPart}
use Rattle.term_store.proofs.Growing.{seen_kept, are_kept, may_follow}
use Rattle.term_store.proofs.store.Store.add.Goals as goal

pub put-requires-clause-are : goal.put-requires-clause-are
put-requires-clause-are c =
    are_kept c.self.inside.arguments.items c.args.args.now c.as_slice.result.now c.self.inside.entries.items c.self.invariant
    (c.as_slice.ensures.value ∙ c.in_ok-span.ensures.ok)

pub put-requires-clause-may_follow : goal.put-requires-clause-may_follow
put-requires-clause-may_follow c =
    let P : List ℕ → Type 0 = λ v. IsPart v c.args.args.now c.in_ok-span.span in
    let seen = seen_kept c.self.inside.arguments.items c.args.args.now c.as_slice.result.now c.self.inside.entries.items c.args.self.now c.self.view_is c.self.invariant
    (c.as_slice.ensures.value ∙ c.in_ok-span.ensures.ok) in
    may_follow c.as_slice.result.now c.args.args.now (built c.as_slice.result.now [] c.self.inside.entries.items) c.args.self.now c.in_ok-name.name c.in_ok-span.span c.args.size c.args.depth
    seen (subst P (sym c.as_slice.ensures.value) c.in_ok-span.ensures.put) c.requires.within c.requires.size c.requires.depth c.requires.small

pub returns-clause-keeps : goal.returns-clause-keeps
returns-clause-keeps c =
    let new = c.put.new.entries.items in
    let seen = seen_kept c.self.inside.arguments.items c.args.args.now c.as_slice.result.now c.self.inside.entries.items c.args.self.now c.self.view_is c.self.invariant
    (c.as_slice.ensures.value ∙ c.in_ok-span.ensures.ok) in
    let P : List (Tree Variable) → Type 0 = λ v. Keeps v (built c.as_slice.result.now [] new) in
    let Q : List ℕ → Type 0 = λ v. Keeps c.args.self.now (built v [] new) in
    subst Q c.as_slice.ensures.value (subst P seen c.put.ensures.keeps)

pub returns-clause-made : goal.returns-clause-made
returns-clause-made c =
    let new = c.put.new.entries.items in
    let slice = c.as_slice.result.now in
    let store = c.args.self.now in
    let span = c.in_ok-span.span in
    let tree = App c.args.name.now (trees_at store c.args.args.now) in
    let seen = seen_kept c.self.inside.arguments.items c.args.args.now slice c.self.inside.entries.items store c.self.view_is c.self.invariant
    (c.as_slice.ensures.value ∙ c.in_ok-span.ensures.ok) in
    let put : part slice span ≡ c.args.args.now = ap (λ v. part v span) c.as_slice.ensures.value ∙ c.in_ok-span.ensures.put.is in
    let same = ap (λ v. App c.in_ok-name.name (trees_at v (part slice span))) seen ∙ ap (λ v. App c.in_ok-name.name (trees_at store v)) put
    ∙ ap (λ n. App n (trees_at store c.args.args.now)) c.in_ok-name.ensures in
    let P : Tree Variable → Type 0 = λ u. IfOk c.put.result (λ t. HasTree (built slice [] new) t u) in
    let Q : List ℕ → Type 0 = λ v. IfOk c.put.result (λ t. HasTree (built v [] new) t tree) in
    subst Q c.as_slice.ensures.value (subst P same c.put.ensures.made)
