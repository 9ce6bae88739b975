use Rattle.std.proofs.Common.{◌≡◌, ◌++◌, OnOk, string_bytes, sym, subst}
use Rattle.print_model.specs.Terms.{Texts}
use Rattle.clause_printer.proofs.Texts.{has_cell}
use Rattle.clause_printer.proofs.term.+print.Goals as goal

pub term-returns-in-Some : goal.term-returns-in-Some
term-returns-in-Some t c =
    let h = has_cell _ _ _ _ _ _ c.in-App.ensures.shows.0 c.in-App.ensures.shows.1 c.in-Some.ensures.some in
    let P : Texts → Type 0 = λ v. OnOk c.list.result (string_bytes c.list.new.into ≡ string_bytes c.args.into.now ++ v.whole) in
    subst P (sym h.is) c.list.ensures
