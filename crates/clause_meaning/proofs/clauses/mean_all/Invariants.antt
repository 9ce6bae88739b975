use Rattle.std.proofs.Common.{◌≡◌, drop}
use Rattle.clp_grammar.specs.Clauses.{mean_all}
use Rattle.clause_meaning.proofs.clauses.mean_all.Given as goal

abbrev pub invariant-loop-goal : goal.invariant-loop-goal
invariant-loop-goal l = mean_all l.goals l.fn.known ≡ mean_all (drop l.goal-index l.goals) l.known
