use Rattle.std.proofs.Common.{◌≡◌, ◌∙◌, ◌++◌, ◌∷◌, [], length, cond, nat_lt, sym, ap, drop, arith}
use Rattle.std.specs.List.{position}
use Rattle.std.specs.Map.{lookup}
use Rattle.std.specs.Str.{bytes_eq}
use Rattle.clp_parser.specs.Names.{few, placed, spelled}
use Rattle.clp_parser.proofs.Naming.{new_later, named_later}
use Rattle.clp_parser.proofs.names.Names.push.Goals as goal

pub note_later-requires-clause-new : goal.note_later-requires-clause-new
note_later-requires-clause-new c =
    ap (lookup (bytes_eq c.args.word.now)) c.self.invariant
    ∙ new_later c.args.word.now c.self.inside.names.items c.requires.named (ap (position (bytes_eq c.args.word.now)) c.self.view_is ∙ c.requires.new)

pub invariant_of-self-2 : goal.invariant_of-self-2
invariant_of-self-2 c =
    let names = c.self.inside.names.items in
    let old = spelled c.self.inside.later.entries in
    let place : c.len.result ≡ length names = omega (arith, c.len.ensures, c.in_ok-reserve.ensures.len) in
    let items : c.put.new.names.items ≡ names ++ c.args.word.now ∷ [] =
    c.put.ensures ∙ ap (λ v. v ++ c.in_ok-name.name ∷ []) c.in_ok-reserve.ensures.items ∙ ap (λ w. names ++ w ∷ []) (c.in_ok-name.ensures ∙ c.text_of.ensures) in
    named_later names c.args.word.now old (spelled c.note_later.new.later.entries) c.requires.named c.self.invariant
    (c.in_ok-note_later.ensures.ok ∙ ap (λ n. cond (nat_lt n few) old (old ++ (c.args.word.now, n) ∷ [])) place)
    ∙ ap (λ v. placed few (drop few v)) (sym items)
