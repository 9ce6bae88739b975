use Rattle.std.proofs.Common.{◌∙◌, ℕ, List, sym, subst}
use Rattle.clause_store.specs.Stored.{clause_in}
use Rattle.clause_fold.specs.Images.{Become}
use Rattle.map_model.specs.Folding.{images}
use Rattle.rules_fold.proofs.Broken.{none_lost}
use Rattle.rules_fold.proofs.images.allowed.Goals as goal

pub returns-in-None-clause-allowed : goal.returns-in-None-clause-allowed
returns-in-None-clause-allowed c =
    let n = clause_in c.args.store.now c.args.n.now in
    let d = clause_in c.args.store.now c.args.c.now in
    let m = c.in_ok-images.ensures.made in
    let s = images n d c.args.with.now m.bindings in
    let P : List ℕ → Type 0 = λ terms. Become c.in_ok-images.images.scratch terms s in
    record {
      made = m;
      atoms = c.in_ok-images.ensures.atoms;
      unbroken = none_lost n d c.args.at.now c.args.with.now c.args.keep.now m.bindings c.in_ok-images.ensures.given (sym (c.in_ok-refusal.ensures s (subst P (sym c.as_slice-terms.ensures) m.become)) ∙ c.in-None.is);
    }
