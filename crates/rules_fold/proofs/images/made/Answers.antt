use Rattle.std.proofs.Common.{◌∙◌, sym, inr}
use Rattle.clause_store.specs.Stored.{clause_in}
use Rattle.clause_fold.specs.Images.{IsMatched}
use Rattle.rules_fold.proofs.Parts.{positions, of_some}
use Rattle.rules_fold.proofs.Broken.{not_given}
use Rattle.rules_fold.proofs.images.made.Goals as goal

pub matched-requires-clause-positions : goal.matched-requires-clause-positions
matched-requires-clause-positions c = positions c.args.store.now c.args.c.now c.args.at.now (sym c.atoms_broken.ensures ∙ c.in_default.is)

pub returns-in-Some-3-clause-refused : goal.returns-in-Some-3-clause-refused
returns-in-Some-3-clause-refused c =
    let n = clause_in c.args.store.now c.args.n.now in
    let d = clause_in c.args.store.now c.args.c.now in
    let m = of_some (λ s. IsMatched c.matched.new.scratch s n d c.args.at.now) c.in_ok-s.field-0 c.in-Some-2.s c.in-Some-2.is c.in_ok-s.ensures.some in
    inr (not_given n d c.args.at.now c.args.with.now c.args.keep.now m.bindings c.in-Some-3.refusal (sym c.atoms_broken.ensures ∙ c.in_default.is) m.matched (sym c.in_ok-refusal.ensures ∙ c.in-Some-3.is))

pub returns-clause-made : goal.returns-clause-made
returns-clause-made c =
    let n = clause_in c.args.store.now c.args.n.now in
    let d = clause_in c.args.store.now c.args.c.now in
    let m = of_some (λ s. IsMatched c.matched.new.scratch s n d c.args.at.now) c.in_ok-s.field-0 c.in-Some-2.s c.in-Some-2.is c.in_ok-s.ensures.some in
    record {
      bindings = m.bindings;
      matched = m.matched;
      are = c.in_ok-terms.ensures.are;
      become = c.in_ok-terms.ensures.trees c.args.at.now m;
    }
