use Rattle.std.proofs.Common.{◌∙◌, ℕ, List, sym, ap}
use Rattle.unify_model.specs.Unifying.{most_general_unifier}
use Rattle.unify.specs.Pairs.{equations_at}
use Rattle.clause_store.specs.Source.{meaning_of}
use Rattle.clause_loader.proofs.Loads.{unsolved, none_as}
use Rattle.clause_loader.proofs.solving.solution.Goals as goal

pub returns-clause-none : goal.returns-clause-none
returns-clause-none c =
    let m = meaning_of c.args.source.now in
    none_as c.in_ok-unify.field-0 _ _ (λ h. unsolved m c.in_ok-pairs.ensures.small (ap most_general_unifier (sym c.in_ok-pairs.ensures.made.are ∙ ap (λ (ps : List (ℕ × ℕ)). equations_at c.sides.new.store ps) (sym c.as_slice.ensures.value)) ∙ h)) c.in_ok-unify.ensures.none
