use Rattle.std.proofs.Common.{◌≡◌, drop}
use Rattle.clp_grammar.specs.Clauses.{constrain_all}
use Rattle.clause_meaning.proofs.clauses.constrain_all.Given as goal

abbrev pub invariant-loop-constraint : goal.invariant-loop-constraint
invariant-loop-constraint l = constrain_all l.constraints l.fn.known ≡ constrain_all (drop l.constraint-index l.constraints) l.known
