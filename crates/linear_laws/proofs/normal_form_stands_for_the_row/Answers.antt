use Rattle.linear_laws.proofs.Normal.{normal_holds}
use Rattle.linear_laws.proofs.Normalized.{normal_normal}
use Rattle.linear_laws.proofs.Divided.{normal_is_normal}
use Rattle.linear_laws.proofs.normal_form_stands_for_the_row.Goals as goal

pub returns : goal.returns
returns c = record { same = normal_holds; stays = normal_normal; is_normal = normal_is_normal }
