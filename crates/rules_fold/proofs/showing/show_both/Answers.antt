use Rattle.std.proofs.Common.{ℕ, ◌++◌, List, length, sym, subst, ap, ◌∙◌, arith, All}
use Rattle.std.proofs.lemmas.Result.{err_from_is_err_and}
use Rattle.clp_model.specs.declared.tree.Tree.{Tree}
use Rattle.clp_model.specs.Clauses.{Row}
use Rattle.lin_row.specs.Rows.{IsKept}
use Rattle.clause_store.specs.Stored.{clause_in}
use Rattle.fold_model.specs.Positions.{chosen}
use Rattle.map_state.proofs.Placed.{few_rows}
use Rattle.clause_fold.specs.Images.{AreNumbers}
use Rattle.rules_fold.proofs.Counted.{few_others, all_others}
use Rattle.rules_fold.proofs.ShownImages.{images_of, few_remaining, few_certificates, first_not_shown, all_shown, dropped_not_shown}
use Rattle.rules_fold.proofs.showing.show_both.Goals as goal

pub chosen_rows-requires : goal.chosen_rows-requires
chosen_rows-requires c =
    let few = few_rows c.args.store.now c.args.c.now c.requires.clause in
    let same = ap length c.as_slice.ensures in
    omega (arith, few, same)

pub returns-in_err-certificates-clause-refused : goal.returns-in_err-certificates-clause-refused
returns-in_err-certificates-clause-refused c =
    let store = c.args.store.now in
    let p = err_from_is_err_and c.from_residual-in_err-certificates.result c.from_residual-in_err-certificates.ensures.1 in
    rw (p.1, p.2)
    (first_not_shown c.args.show.now c.args.numbers.now c.args.keep.now (clause_in store c.args.n.now) (clause_in store c.args.c.now) c.in_err-certificates.field-0.0 c.in_err-certificates.ensures.refused)

pub show_rows-requires-clause-few : goal.show_rows-requires-clause-few
show_rows-requires-clause-few c =
    let remain = λ (s : ℕ → Tree ℕ) (a : AreNumbers c.args.numbers.now s).
    c.as_slice-2.ensures ∙ c.in_ok-certificates.ensures.remaining s a
    ∙ ap (λ (rs : List Row). rs ++ images_of s c.args.n.now.rows) (c.in_ok-remaining.ensures ∙ ap (chosen c.args.keep.now) c.as_slice.ensures) in
    let few = few_remaining c.args.numbers.now c.args.keep.now c.args.c.now.rows c.args.n.now.rows c.as_slice-2.result.now remain in
    omega (arith, few)

pub show_rows-requires-clause-kept : goal.show_rows-requires-clause-kept
show_rows-requires-clause-kept c =
    let P : List Row → Type 0 = All IsKept in
    subst P (sym c.requires.dropped) (all_others IsKept c.args.keep.now c.args.c.now.rows c.requires.clause.parts.kept)

pub show_rows-requires-clause-few_targets : goal.show_rows-requires-clause-few_targets
show_rows-requires-clause-few_targets c =
    let few = few_rows c.args.store.now c.args.c.now c.requires.clause in
    let less = few_others c.args.keep.now c.args.c.now.rows in
    let same = ap length c.requires.dropped in
    omega (arith, few, less, same)

pub show_rows-requires-clause-few_certificates : goal.show_rows-requires-clause-few_certificates
show_rows-requires-clause-few_certificates c =
    let few = few_rows c.args.store.now c.args.n.now c.requires.definition in
    let count = few_certificates c.args.show.now c.args.numbers.now c.args.c.now.rows c.args.n.now.rows c.in_ok-certificates.certificates c.in_ok-certificates.ensures.accepted in
    omega (arith, few, count)

pub returns-in_err-show_rows-clause-refused : goal.returns-in_err-show_rows-clause-refused
returns-in_err-show_rows-clause-refused c =
    let store = c.args.store.now in
    let remain = λ (s : ℕ → Tree ℕ) (a : AreNumbers c.args.numbers.now s).
    c.as_slice-2.ensures ∙ c.in_ok-certificates.ensures.remaining s a
    ∙ ap (λ (rs : List Row). rs ++ images_of s c.args.n.now.rows) (c.in_ok-remaining.ensures ∙ ap (chosen c.args.keep.now) c.as_slice.ensures) in
    let p = err_from_is_err_and c.from_residual-in_err-show_rows.result c.from_residual-in_err-show_rows.ensures.1 in
    rw (p.1, p.2)
    (dropped_not_shown c.args.show.now c.args.numbers.now c.args.keep.now (clause_in store c.args.n.now) (clause_in store c.args.c.now) c.in_ok-certificates.certificates c.as_slice-2.result.now c.args.dropped.now
    c.in_ok-certificates.ensures.accepted remain c.requires.dropped c.in_err-show_rows.field-0.0 c.in_err-show_rows.ensures.refused)

pub returns-clause-accepted : goal.returns-clause-accepted
returns-clause-accepted c =
    let store = c.args.store.now in
    let remain = λ (s : ℕ → Tree ℕ) (a : AreNumbers c.args.numbers.now s).
    c.as_slice-2.ensures ∙ c.in_ok-certificates.ensures.remaining s a
    ∙ ap (λ (rs : List Row). rs ++ images_of s c.args.n.now.rows) (c.in_ok-remaining.ensures ∙ ap (chosen c.args.keep.now) c.as_slice.ensures) in
    all_shown c.args.show.now c.args.numbers.now c.args.keep.now (clause_in store c.args.n.now) (clause_in store c.args.c.now) c.in_ok-certificates.certificates c.as_slice-2.result.now c.args.dropped.now
    c.in_ok-certificates.ensures.accepted remain c.requires.dropped c.show_rows.new.certificates c.in_ok-show_rows.ensures.accepted
