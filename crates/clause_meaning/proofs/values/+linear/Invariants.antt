use Rattle.std.proofs.Common.{◌≡◌}
use Rattle.clp_grammar.specs.Evaluation.{linear_chain_of, linear_rest_of}
use Rattle.clause_meaning.specs.Numbers.{number_of}
use Rattle.clause_meaning.proofs.values.+linear.Given as goal

abbrev pub invariant-chain-loop-operator : goal.invariant-chain-loop-operator
invariant-chain-loop-operator l =
    linear_chain_of (number_of l.numbers) l.left l.operators l.parts
    ≡ linear_rest_of (number_of l.numbers) l.operator-iterator.a.rest.now l.operator-iterator.b.rest.now l.form
