use Rattle.std.proofs.Common.{◌∙◌, ◌++◌, ◌∷◌, [], sym, ap, drop}
use Rattle.clp_parser.specs.Names.{few, placed}
use Rattle.clp_parser.proofs.Naming.{unnamed_later}
use Rattle.clp_parser.proofs.names.Names.push_unnamed.Goals as goal

pub invariant_of-self-2 : goal.invariant_of-self-2
invariant_of-self-2 c =
    c.self.invariant ∙ sym (unnamed_later c.self.inside.names.items)
    ∙ ap (λ w. placed few (drop few (c.self.inside.names.items ++ w ∷ []))) (sym c.in_ok-copy_of.ensures)
    ∙ ap (λ v. placed few (drop few v)) (sym c.in_ok-push.ensures.items)
