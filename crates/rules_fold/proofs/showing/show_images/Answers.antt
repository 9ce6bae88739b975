use Rattle.std.proofs.Common.{◌<◌, ℕ, List, length, get_or, sym, subst, ap, ◌∙◌, arith, All, refl}
use Rattle.clp_model.specs.Clauses.{Row}
use Rattle.clause_model.specs.Variables.{row_variables}
use Rattle.clause_loader.specs.WellFormed.{IsNumber}
use Rattle.clause_loader.proofs.Tables.{rows_at}
use Rattle.clause_fold.proofs.StoredParts.{rows_numbered}
use Rattle.map_state.proofs.Placed.{few_rows}
use Rattle.rules_fold.proofs.ShownImages.{IsShown, goes_on, one_added}
use Rattle.rules_fold.proofs.showing.show_images.Goals as goal

pub show_image-requires-clause-few : goal.show_image-requires-clause-few
show_image-requires-clause-few c =
    let few = few_rows c.args._store.now c.args.c.now c.requires.clause in
    let same = ap length c.as_slice-rows.ensures in
    omega (arith, few, same)

pub show_image-requires-clause-before : goal.show_image-requires-clause-before
show_image-requires-clause-before c =
    let few = few_rows c.args._store.now c.args.n.now c.requires.definition in
    let same = ap length c.as_slice-row-items.ensures in
    omega (arith, few, same)

pub show_image-requires-clause-numbered : goal.show_image-requires-clause-numbered
show_image-requires-clause-numbered c =
    let P : ℕ → Type 0 = λ k. All (IsNumber k) (row_variables c.row-item.result) in
    let item = c.row-item.is ∙ ap (λ (rs : List Row). get_or rs c.loop-row.row-index c.row-item.result) c.as_slice-row-items.ensures in
    let within : c.loop-row.row-index < length c.args.n.now.rows = let same = ap length c.as_slice-row-items.ensures in omega (arith, same) in
    subst P (sym c.requires.numbers)
    (rows_at (IsNumber (length c.args.n.now.sorts)) c.args.n.now.rows c.loop-row.row-index c.row-item.result within item
    (rows_numbered c.args._store.now c.args.n.now c.requires.definition c.args.n.now.rows refl))

pub loop-row-preserved : goal.loop-row-preserved
loop-row-preserved c =
    let numbers = c.args.numbers.now in
    let targets = c.args.n.now.rows in
    let i = c.loop-row.row-index in
    let row = c.row-item.result in
    let cs = c.loop-row.certificates in
    let more = c.show_image.new.certificates in
    let item = c.row-item.is ∙ ap (λ (rs : List Row). get_or rs i row) c.as_slice-row-items.ensures in
    let within : i < length targets = let same = ap length c.as_slice-row-items.ensures in omega (arith, same) in
    let shown = subst (IsShown c.args.show.now numbers cs more row) c.as_slice-rows.ensures c.in_ok-image.ensures.accepted in
    record {
      count = omega (arith, c.in_ok-image.ensures.count);
      left = goes_on c.args.show.now numbers c.args.c.now.rows targets cs i row within item c.loop-row.invariant.left more c.in_ok-image.ensures.count shown;
      added = one_added numbers c.args.remaining.now targets c.loop-row.remaining c.push.new.self i row c.in_ok-image.image within item c.loop-row.invariant.added c.in_ok-image.ensures.value c.in_ok-push.ensures.ok;
    }
