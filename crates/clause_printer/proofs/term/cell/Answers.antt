use Rattle.std.proofs.Common.{◌≡◌, true, codes, arith}
use Rattle.std.specs.Str.{bytes_eq}
use Rattle.std.proofs.lemmas.Slice.Eq.{bytes_eq-Decides}
use Rattle.clause_printer.proofs.Texts.{two_items}
use Rattle.clause_printer.proofs.term.cell.Goals as goal

pub returns-in-len2-clause-some : goal.returns-in-len2-clause-some
returns-in-len2-clause-some c =
    let dot : bytes_eq c.args.name.now (codes ".") ≡ true = cc in
    record {
      is_dot = (bytes_eq-Decides c.args.name.now (codes ".")).0 dot;
      are = two_items c.args.args.now _ _ (omega arith) (omega arith) c.first-item.is c.rest-item.is;
    }
