use Rattle.std.proofs.Common.{◌≡◌, ◌<◌, ◌≤◌, ◌*◌, drop}
use Rattle.linear_model.specs.Normal.{limit}
use Rattle.form_model.specs.Forms as spec
use Rattle.linear_form.proofs.row.joint_den.Given as goal

abbrev pub invariant-loop-i : goal.invariant-loop-i
invariant-loop-i l = record {
  so_far : spec.joint_den l.joint (drop l.i l.terms.entries) ≡ spec.joint_den l.initial.joint l.terms.entries;
  positive : 0 < l.joint;
  bound : l.joint ≤ limit * limit;
}
