use Rattle.clp_rank.specs.Entries.{setting, Satisfies}
use Rattle.std.specs.Prelude.{Contains}
use Rattle.clp_rank.proofs.Defining.{defining_keeps, old_atoms}
use Rattle.clp_rank.proofs.defining_keeps_rank.Goals as goal

pub returns-clause-ranked : goal.returns-clause-ranked
returns-clause-ranked c = λ defined now_defined old base live n d r. defining_keeps (setting defined) now_defined (Contains base) (Contains live) n (Satisfies old) d r

pub returns-clause-old_atoms : goal.returns-clause-old_atoms
returns-clause-old_atoms c = λ defined now_defined old base live n d a o. old_atoms (setting defined) now_defined (Contains base) (Contains live) n (Satisfies old) d a o
