use Rattle.std.proofs.Common.{◌∙◌, ◌≤◌, length, take, sym, ap, arith}
use Rattle.std.specs.Map.{lookup}
use Rattle.std.specs.List.{position}
use Rattle.std.specs.Str.{bytes_eq}
use Rattle.clp_parser.specs.Names.{few}
use Rattle.clp_parser.proofs.Naming.{found_later, position_within}
use Rattle.clp_parser.proofs.names.Names.place_of.Goals as goal

pub returns-in-None-clause-value : goal.returns-in-None-clause-value
returns-in-None-clause-value c =
    let p = bytes_eq c.args.word.now in
    let names = c.self.inside.names.items in
    let same = c.as_slice-names.ensures.value in
    let many : few ≤ length names = omega (arith, c.if-names-le-FEW.false, ap length same) in
    c.later_place.ensures ∙ ap (lookup p) c.self.invariant
    ∙ found_later c.args.word.now names c.requires.named many (ap (λ v. position p (take few v)) (sym same) ∙ sym c.in-None.ensures.value)
    ∙ ap (position p) c.self.view_is

pub returns-in-None-clause-within : goal.returns-in-None-clause-within
returns-in-None-clause-within c =
    let p = bytes_eq c.args.word.now in
    let names = c.self.inside.names.items in
    let same = c.as_slice-names.ensures.value in
    let many : few ≤ length names = omega (arith, c.if-names-le-FEW.false, ap length same) in
    position_within p c.args.self.now c.later_place.result
    (c.later_place.ensures ∙ ap (lookup p) c.self.invariant
    ∙ found_later c.args.word.now names c.requires.named many (ap (λ v. position p (take few v)) (sym same) ∙ sym c.in-None.ensures.value)
    ∙ ap (position p) c.self.view_is)
