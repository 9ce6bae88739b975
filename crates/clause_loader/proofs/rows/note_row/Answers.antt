use Rattle.std.proofs.Common.{◌≡◌, ℕ, length, get_or, ◌∙◌, sym, subst, arith}
use Rattle.std.proofs.Math.IntN.{pos}
use Rattle.clp_model.specs.declared.tree.Variable.{Variable}
use Rattle.clp_model.specs.declared.tree.Tree.{Tree}
use Rattle.term_store.proofs.Keeping.{keeps_trans}
use Rattle.substitution.specs.Weights.{images}
use Rattle.substitution.proofs.Kept.{is_of_kept, same_images}
use Rattle.lin_row.specs.Rows.{at}
use Rattle.clause_loader.specs.Carried.{number_by}
use Rattle.clause_loader.specs.WellFormed.{IsNumber}
use Rattle.clause_loader.proofs.Tables.{number_at, noted_more, noted_end}
use Rattle.clause_loader.proofs.rows.note_row.Goals as goal

pub note_number-requires-clause-of : goal.note_number-requires-clause-of
note_number-requires-clause-of c = is_of_kept c.args.store.now c.loop-pair.store c.loop-pair.invariant.keeps c.args.s.now c.requires.of

pub note_number-requires-clause-within : goal.note_number-requires-clause-within
note_number-requires-clause-within c =
    let P : ℕ → Type 0 = λ n. IsNumber n (get_or c.pairs-pair-items.result.now c.loop-pair.pair-index (0, pos 0)).0 in
    subst P (sym c.loop-pair.invariant.count) (number_at (IsNumber (length c.args.table.now.items)) c.args.row.now c.pairs-pair-items.result.now c.loop-pair.pair-index (0, pos 0) c.pairs-pair-items.ensures.value (omega arith) c.requires.within)

pub loop-pair-preserved : goal.loop-pair-preserved
loop-pair-preserved c =
    let i = c.loop-pair.pair-index in
    let ps = c.pairs-pair-items.result.now in
    let same = same_images c.args.store.now c.loop-pair.store c.loop-pair.invariant.keeps c.args.s.now c.requires.of in
    let f = images c.args.store.now c.args.s.now in
    let sorts = c.args.sorts.now in
    let old = c.loop-pair.table.items in
    let new = c.note_number.new.table.items in
    let number = (get_or ps i (0, pos 0)).0 in
    let P : ℕ → Type 0 = λ n. at old n ≡ number_by sorts f n in
    let Q : ℕ → Type 0 = λ n. at new n ≡ number_by sorts f n in
    let R : (Variable → Tree Variable) → Type 0 = λ g. (n : ℕ) → at old n ≡ number_by sorts g n → at new n ≡ number_by sorts g n in
    let S : (Variable → Tree Variable) → Type 0 = λ g. at new number ≡ number_by sorts g number in
    let others = subst R same c.in_ok-note_number.ensures.others in
    record {
      keeps = keeps_trans c.args.store.now c.loop-pair.store c.note_number.new.store c.loop-pair.invariant.keeps c.note_number.ensures.keeps;
      count = c.note_number.ensures.count ∙ c.loop-pair.invariant.count;
      noted = noted_more P Q ps i (0, pos 0) (omega arith) c.loop-pair.invariant.noted others (subst S same c.in_ok-note_number.ensures.noted);
      others = λ n h. others n (c.loop-pair.invariant.others n h);
    }

pub returns-clause-noted : goal.returns-clause-noted
returns-clause-noted c =
    let P : ℕ → Type 0 = λ n. at c.loop-pair.table.items n ≡ number_by c.args.sorts.now (images c.args.store.now c.args.s.now) n in
    noted_end P c.args.row.now c.pairs-pair-items.result.now c.loop-pair.pair-index c.pairs-pair-items.ensures.value (omega arith) c.loop-pair.invariant.noted
