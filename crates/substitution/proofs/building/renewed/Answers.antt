use Rattle.std.proofs.Common.{◌∙◌, ap, sym}
use Rattle.std.proofs.lemmas.Slice.Eq.{bytes_eq-Decides}
use Rattle.clp_model.specs.declared.tree.Tree.{App}
use Rattle.term_store.specs.Trees.{trees_at}
use Rattle.substitution.proofs.building.renewed.Goals as goal

pub returns-then-eq-clause-value : goal.returns-then-eq-clause-value
returns-then-eq-clause-value c = record {
  within = c.requires.within;
  is = c.requires.is ∙ ap (λ ts. App c.args.name.now (trees_at c.args.store.now ts)) ((bytes_eq-Decides c.args.args.now c.args.built.now).0 (sym c.if-eq.ensures));
}
