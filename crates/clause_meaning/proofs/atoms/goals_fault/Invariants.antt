use Rattle.std.proofs.Common.{◌≡◌, drop}
use Rattle.clp_grammar.specs.Clauses.{goals_fault}
use Rattle.clause_meaning.proofs.atoms.goals_fault.Given as goal

abbrev pub invariant-loop-goal : goal.invariant-loop-goal
invariant-loop-goal l = goals_fault l.goals ≡ goals_fault (drop l.goal-index l.goals)
