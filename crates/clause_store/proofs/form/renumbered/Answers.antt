use Rattle.std.proofs.Common.{◌≡◌, map, length, ap, arith}
use Rattle.clp_model.specs.Clauses.{sort_in}
use Rattle.clause_model.specs.Variables.{variables_by_first_occurrence}
use Rattle.clause_store.proofs.Counts.{few_met}
use Rattle.clause_store.proofs.Made.{made_form, made_parts, made_canonical}
use Rattle.clause_store.specs.Stored.{raw_with}
use Rattle.clause_store.proofs.form.renumbered.Goals as goal

pub renamed_parts-requires-clause-few : goal.renamed_parts-requires-clause-few
renamed_parts-requires-clause-few c =
    let raw = c.args.raw.now in
    let few = few_met c.args.store.now raw.head raw.rows raw.atoms raw.sorts c.requires.raw.kept c.requires.within in
    omega (arith, few, ap length c.requires.met, ap (λ rs. length (variables_by_first_occurrence (raw_with c.args.store.now raw rs))) c.requires.clean)

pub returns-clause-form : goal.returns-clause-form
returns-clause-form c =
    let raw = c.args.raw.now in
    let met = c.args.met.now in
    let parts = c.in_ok-parts.parts in
    let sorts_is : c.in_ok-sorts.sorts ≡ map (sort_in raw.sorts) met = cc (c.in_ok-sorts.ensures, c.as_slice.ensures) in
    made_form c.args.store.now raw.head raw.rows raw.atoms raw.sorts c.requires.raw c.renamed_parts.new.store parts.head parts.atoms c.args.rows met parts.rows c.in_ok-sorts.sorts
    c.requires.clean c.requires.met c.in_ok-parts.ensures.rows sorts_is c.in_ok-parts.ensures.terms

pub returns-clause-stored : goal.returns-clause-stored
returns-clause-stored c =
    let raw = c.args.raw.now in
    let met = c.args.met.now in
    let parts = c.in_ok-parts.parts in
    let sorts_is : c.in_ok-sorts.sorts ≡ map (sort_in raw.sorts) met = cc (c.in_ok-sorts.ensures, c.as_slice.ensures) in
    record {
      parts = made_parts c.args.store.now raw.head raw.rows raw.atoms raw.sorts c.requires.raw c.renamed_parts.new.store parts.head parts.atoms c.args.rows met parts.rows c.in_ok-sorts.sorts
          c.requires.clean c.requires.met c.in_ok-parts.ensures.rows sorts_is c.in_ok-parts.ensures.terms;
      canonical = made_canonical c.args.store.now raw.head raw.rows raw.atoms raw.sorts c.requires.raw c.renamed_parts.new.store parts.head parts.atoms c.args.rows met parts.rows c.in_ok-sorts.sorts
          c.requires.clean c.requires.met c.in_ok-parts.ensures.rows sorts_is c.in_ok-parts.ensures.terms c.requires.within;
    }
