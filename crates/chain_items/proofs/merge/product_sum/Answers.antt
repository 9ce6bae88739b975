use Rattle.std.proofs.lemmas.Int.{to_z-of_z}
use Rattle.lin_row.proofs.Wide.{sum_exact}
use Rattle.chain_items.proofs.merge.product_sum.Goals as goal

pub returns : goal.returns
returns c =
    let fa = c.ranges.a in
    let fx = c.ranges.x in
    let fb = c.ranges.b in
    let fy = c.ranges.y in
    sum_exact c.product.result c.product-2.result c.args.a c.args.x c.args.b c.args.y
    (simp to_z-of_z at c.product.ensures) (simp to_z-of_z at c.product-2.ensures)
    c.requires.a_small c.requires.x_small c.requires.b_small c.requires.y_small
