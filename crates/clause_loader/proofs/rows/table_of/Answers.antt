use Rattle.std.proofs.Common.{◌≡◌, ℕ, length, ◌∙◌, sym, subst, arith, rules}
use Rattle.std.specs.Prelude.{All}
use Rattle.clp_model.specs.declared.tree.Variable.{Variable}
use Rattle.clp_model.specs.declared.tree.Tree.{Tree}
use Rattle.term_store.proofs.Keeping.{keeps_refl, keeps_trans}
use Rattle.substitution.specs.Weights.{images}
use Rattle.substitution.proofs.Kept.{is_of_kept, same_images}
use Rattle.lin_row.specs.Rows.{at}
use Rattle.clause_model.specs.Variables.{row_variables}
use Rattle.clause_loader.specs.Carried.{number_by}
use Rattle.clause_loader.specs.WellFormed.{IsNumber}
use Rattle.clause_loader.proofs.Tables.{rows_at, rows_more, rows_end}
use Rattle.clause_loader.proofs.rows.table_of.Goals as goal

pub loop-row-init : goal.loop-row-init
loop-row-init c = record {
  keeps = keeps_refl c.args.store.now;
  count = search rules;
  noted = λ n m. elim m [ ];
}

pub note_row-requires-clause-of : goal.note_row-requires-clause-of
note_row-requires-clause-of c = is_of_kept c.args.store.now c.loop-row.store c.loop-row.invariant.keeps c.args.s.now c.requires.of

pub note_row-requires-clause-within : goal.note_row-requires-clause-within
note_row-requires-clause-within c =
    let P : ℕ → Type 0 = λ n. All (IsNumber n) (row_variables c.row-item.result) in
    subst P (sym c.loop-row.invariant.count) (rows_at (IsNumber (length c.args.sorts.now)) c.args.rows.now c.loop-row.row-index c.row-item.result (omega arith) c.row-item.is c.requires.within)

pub loop-row-preserved : goal.loop-row-preserved
loop-row-preserved c =
    let same = same_images c.args.store.now c.loop-row.store c.loop-row.invariant.keeps c.args.s.now c.requires.of in
    let f = images c.args.store.now c.args.s.now in
    let sorts = c.args.sorts.now in
    let old = c.loop-row.table.items in
    let new = c.note_row.new.table.items in
    let Q : ℕ → Type 0 = λ n. at new n ≡ number_by sorts f n in
    let R : (Variable → Tree Variable) → Type 0 = λ g. (n : ℕ) → at old n ≡ number_by sorts g n → at new n ≡ number_by sorts g n in
    let S : (Variable → Tree Variable) → Type 0 = λ g. All (λ n. at new n ≡ number_by sorts g n) (row_variables c.row-item.result) in
    let others = subst R same c.in_ok-note_row.ensures.others in
    record {
      keeps = keeps_trans c.args.store.now c.loop-row.store c.note_row.new.store c.loop-row.invariant.keeps c.note_row.ensures.keeps;
      count = c.note_row.ensures.count ∙ c.loop-row.invariant.count;
      noted = rows_more Q c.args.rows.now c.loop-row.row-index c.row-item.result (omega arith) c.row-item.is (λ n m. others n (c.loop-row.invariant.noted n m)) (subst S same c.in_ok-note_row.ensures.noted);
    }

pub returns-clause-noted : goal.returns-clause-noted
returns-clause-noted c =
    let P : ℕ → Type 0 = λ n. at c.loop-row.table.items n ≡ number_by c.args.sorts.now (images c.args.store.now c.args.s.now) n in
    rows_end P c.args.rows.now c.loop-row.row-index (omega arith) c.loop-row.invariant.noted
