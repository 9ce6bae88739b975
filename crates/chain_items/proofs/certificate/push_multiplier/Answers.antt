use Rattle.std.proofs.Common.{◌≤◌, arith, sym, subst}
use Rattle.std.specs.Prelude.{unsigned_abs}
use Rattle.std.proofs.lemmas.Int.{to_z-of_z}
use Rattle.linear_model.specs.Normal.{limit}
use Rattle.linear_model.specs.Chain.{multiplier_limit}
use Rattle.chain_items.proofs.Reading.{each_most}
use Rattle.chain_items.proofs.Whole.{fits_64}
use Rattle.chain_items.proofs.certificate.push_multiplier.Goals as goal

pub signed-requires : goal.signed-requires
signed-requires c =
    let k = subst (λ z. unsigned_abs z ≤ multiplier_limit) (sym c.coefficient_in.ensures) (each_most multiplier_limit c.args.place c.args.weights.now c.requires.rising c.requires.small) in
    let l : unsigned_abs c.coefficient_in.result ≤ limit = omega arith in
    let f = fits_64 c.coefficient_in.result l in
    simp to_z-of_z l
