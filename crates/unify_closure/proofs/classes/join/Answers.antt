use Rattle.std.proofs.Common.{sym}
use Rattle.unify_closure.proofs.Roots.{joined_first, joined_second, own_less, own_parent}
use Rattle.unify_closure.proofs.classes.join.Goals as goal

pub returns-then-a-b-clause-joined : goal.returns-then-a-b-clause-joined
returns-then-a-b-clause-joined c =
    joined_first c.args.parents.now.items c.requires.parents c.args.a c.args.b c.requires.b_within c.if-a-b.true c.requires.a_root c.requires.b_root

pub returns-then-a-b-clause-own : goal.returns-then-a-b-clause-own
returns-then-a-b-clause-own c =
    own_less c.args.parents.now.items c.args.b c.args.a c.requires.b_within (own_parent c.args.parents.now.items c.requires.parents c.args.b c.requires.b_within c.requires.b_root) c.requires.apart

pub returns-else-a-b-clause-joined : goal.returns-else-a-b-clause-joined
returns-else-a-b-clause-joined c =
    joined_second c.args.parents.now.items c.requires.parents c.args.a c.args.b c.requires.a_within c.if-a-b.false c.requires.apart c.requires.a_root c.requires.b_root

pub returns-else-a-b-clause-own : goal.returns-else-a-b-clause-own
returns-else-a-b-clause-own c =
    own_less c.args.parents.now.items c.args.a c.args.b c.requires.a_within (own_parent c.args.parents.now.items c.requires.parents c.args.a c.requires.a_within c.requires.a_root) (λ e. c.requires.apart (sym e))
