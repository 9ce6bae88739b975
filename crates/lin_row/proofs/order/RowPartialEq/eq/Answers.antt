use Rattle.std.proofs.Common.{◌≡◌, rules, ◌∙◌}
use Rattle.linear_model.specs.Normal.{row_eq}
use Rattle.lin_row.specs.OrderLaws.{row_same_as}
use Rattle.lin_row.proofs.order.RowPartialEq.eq.Goals as goal

pub returns-clause-found : goal.returns-clause-found
returns-clause-found c e =
    let v : c.same_pairs.result ≡ row_eq c.args.self.now c.args.other.now = search rules in
    v ∙ row_same_as c.args.self.now c.args.other.now e
