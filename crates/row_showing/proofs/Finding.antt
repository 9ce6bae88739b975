-- What follows from the certificate that the finder made.
use Rattle.std.proofs.Common.{◌≡◌, List, subst}
use Rattle.clp_model.specs.Clauses.{Row}
use Rattle.linear_model.specs.Certificates.{Entails, Unsatisfiable}
use Rattle.linear_laws.proofs.Certificates.{shown_false}
use Rattle.farkas_check.specs.declared.cert.Cert.{Cert}
use Rattle.farkas_check.specs.declared.cert.Cert.TheVariants.{One, Two}
use Rattle.farkas_check.proofs.Rightness.{right_entails}
use Rattle.entail_find.specs.declared.questions.Found.{Found}
use Rattle.entail_find.specs.declared.questions.Found.TheVariants.{Shown}
use Rattle.entail_find.specs.Answers.{IsRightAnswer, IsRightFalse}

pub found_entails : (rows : List Row) (target : Row) (f : Found) (c : Cert) → f ≡ Shown c → IsRightAnswer rows target f → Entails rows target
found_entails rows target f c e h = right_entails rows target c (subst (IsRightAnswer rows target) e h)

false_shown : (rows : List Row) (c : Cert) → IsRightFalse rows (Shown c) → Unsatisfiable rows
false_shown rows (One p) h = shown_false rows p h.1
false_shown rows (Two p q) h = absurd h

pub found_unsatisfiable : (rows : List Row) (f : Found) (c : Cert) → f ≡ Shown c → IsRightFalse rows f → Unsatisfiable rows
found_unsatisfiable rows f c e h = false_shown rows c (subst (IsRightFalse rows) e h)
