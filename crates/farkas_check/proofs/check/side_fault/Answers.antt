use Rattle.std.proofs.Common.{◌≡◌, rules, ◌∙◌, ap, to_z, of_z}
use Rattle.std.specs.Prelude.{FitsSigned}
use Rattle.std.proofs.lemmas.Int.{to_z-of_z}
use mir.Syntax.{w64}
use Rattle.farkas_check.specs.Checks.{oriented, allows_equal}
use Rattle.farkas_check.proofs.Sides.{side_first}
use Rattle.farkas_check.proofs.check.side_fault.Goals as goal

pub returns-in-None : goal.returns-in-None
returns-in-None c =
    let rows = c.args.rows.now in
    let target = c.args.target.now in
    let part = c.args.part.now in
    let k_fits : FitsSigned w64 c.k-k.result = search rules in
    let oriented_fits : FitsSigned w64 c.oriented.result = search rules in
    let constant_fits : FitsSigned w64 c.constant.result = search rules in
    let k : to_z w64 (of_z w64 c.k-k.result) ≡ part.k = to_z-of_z w64 c.k-k.result k_fits ∙ c.k-k.ensures.value in
    let w : to_z w64 (of_z w64 c.oriented.result) ≡ oriented c.args.is_flipped part.k = to_z-of_z w64 c.oriented.result oriented_fits ∙ (c.oriented.ensures ∙ ap (oriented c.args.is_flipped) k) in
    let b : to_z w64 (of_z w64 c.constant.result) ≡ target.constant = to_z-of_z w64 c.constant.result constant_fits ∙ c.constant.ensures.value in
    let e : c.allows_equal.result ≡ allows_equal c.args.rel part.k = c.allows_equal.ensures ∙ ap (allows_equal c.args.rel) k in
    let m = c.multipliers.ensures.value in
    let p = c.pairs.ensures.value in
    c.sum_fault.ensures ∙ (rw (w, b, e, m, p) (side_first c.args.is_flipped c.args.rel rows target part c.in-None.ensures.value))
