use Rattle.std.proofs.Common.{◌≡◌, codes, ap, sym, ◌∙◌}
use Rattle.std.proofs.lemmas.Slice.Eq.{bytes_eq-Decides}
use Rattle.token_model.specs.Remaining.{spelling}
use Rattle.clp_grammar.specs.Input.{Input}
use Rattle.row_reader.proofs.Show.{left_at_show}
use Rattle.row_reader.proofs.row.show_word.Goals as goal

pub returns-then-eq-clause-place : goal.returns-then-eq-clause-place
returns-then-eq-clause-place c =
    let r = c.args.reader.now.remaining in
    let same = (bytes_eq-Decides c.take.result.now c.as_slice.result.now).0 (sym c.eq.ensures ∙ c.if-eq.true) in
    let word : spelling r ≡ codes "show" = sym c.take.ensures.spelling ∙ same ∙ c.as_slice.ensures in
    left_at_show r c.take.new.self.remaining word (ap (λ (i : Input). i.remaining) c.take.ensures.next)
