use Rattle.std.proofs.Common.{◌<◌, ◌∙◌, ap, subst, List, length, IfSome}
use Rattle.clp_model.specs.declared.sort.Sort.TheVariants.{Any, Num}
use Rattle.substitution.specs.declared.bindings.Bound.{Bound}
use Rattle.substitution.specs.Bindings.{variable_of, height_at}
use Rattle.substitution.proofs.Places.{place_within}
use Rattle.substitution.proofs.bindings.Bindings.find.Goals as goal

pub returns-in-Any-clause-within : goal.returns-in-Any-clause-within
returns-in-Any-clause-within c =
    let P : List Bound → Type 0 = λ items. IfSome c.copied.result (λ place. place < length items) in
    subst P c.self.view_is (place_within c.self.inside.list.items (variable_of c.args.number Any) c.copied.result (ap height_at (c.copied.ensures ∙ c.get.ensures.value) ∙ c.self.invariant.0 c.args.number))

pub returns-in-Num-clause-within : goal.returns-in-Num-clause-within
returns-in-Num-clause-within c =
    let P : List Bound → Type 0 = λ items. IfSome c.copied-in-Num.result (λ place. place < length items) in
    subst P c.self.view_is (place_within c.self.inside.list.items (variable_of c.args.number Num) c.copied-in-Num.result (ap height_at (c.copied-in-Num.ensures ∙ c.get-in-Num.ensures.value) ∙ c.self.invariant.1 c.args.number))
