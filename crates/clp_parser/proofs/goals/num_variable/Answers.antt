use Rattle.std.proofs.Common.{◌∙◌, ap, sym}
use Rattle.clp_grammar.specs.Goals.{num_variable}
use Rattle.clp_parser.specs.Parts.{only_variable}
use Rattle.clp_parser.proofs.Parts.{num_of}
use Rattle.clp_parser.proofs.goals.num_variable.Goals as goal

pub returns-then-is_num : goal.returns-then-is_num
returns-then-is_num c =
    let node = c.in-Node in
    c.only_variable.ensures ∙ ap only_variable c.as_slice.ensures ∙ sym (num_of node.left node.head node.parts (sym c.is_num.ensures ∙ c.if-is_num.true)) ∙ ap num_variable (sym node.is)
