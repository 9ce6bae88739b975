use Rattle.std.proofs.Common.{◌≡◌, true, codes, arith}
use Rattle.std.specs.Str.{bytes_eq}
use Rattle.clp_model.specs.declared.tree.Tree.{App}
use Rattle.script_printer.proofs.Terms.{cell_of_items}
use Rattle.script_printer.proofs.tree.shape_of.Goals as goal

pub returns-in-len2 : goal.returns-in-len2
returns-in-len2 c =
    let dot : bytes_eq c.in-App.name (codes ".") ≡ true = cc in
    let is : c.args.tree.now ≡ App c.in-App.name c.as_slice.result.now = cc in
    cell_of_items _ c.in-App.name c.as_slice.result.now _ _ is (omega arith) (omega arith) c.first-item.is c.rest-item.is dot
