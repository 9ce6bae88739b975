use Rattle.std.proofs.Common.{sym, subst}
use Rattle.clp_model.specs.declared.tree.Variable.{Variable}
use Rattle.clp_model.specs.declared.tree.Tree.{Tree}
use Rattle.substitution.specs.Bindings.{variable_of}
use Rattle.substitution.specs.Weights.{Weighs}
use Rattle.std.proofs.Common.{Some}
use Rattle.substitution.proofs.Weighed.{weighs_var}
use Rattle.substitution.proofs.Carried.{unbound_image}
use Rattle.substitution.proofs.weighing.weigh_variable.Goals as goal

pub returns-in-None : goal.returns-in-None
returns-in-None c store h =
    let v = variable_of c.args.number c.args.sort in
    let P : Tree Variable → Type 0 = λ t. Weighs (Some (record { size = 1; depth = 1 })) t in
    subst P (sym (unbound_image store c.args.images.now.kind c.args.images.now.bindings v c.in-None.ensures.none)) (weighs_var v)
