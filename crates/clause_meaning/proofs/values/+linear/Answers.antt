use Rattle.std.proofs.Common.{◌∙◌, inl, inr}
use Rattle.clause_meaning.specs.Numbers.{number_of}
use Rattle.clause_meaning.proofs.Chains.{chain_end, gives_number, gives_variable, made_computes}
use Rattle.clause_meaning.proofs.values.+linear.Goals as goal

pub linear-returns-in-Number : goal.linear-returns-in-Number
linear-returns-in-Number t c =
    gives_number (number_of c.args.numbers.now) c.args.e.now c.in-Number.left c.in-Number.value c.placed.result c.in-Number.is (c.placed.ensures _ c.whole.ensures)

pub linear-returns-in-Variable : goal.linear-returns-in-Variable
linear-returns-in-Variable t c =
    gives_variable (number_of c.args.numbers.now) c.args.e.now c.in-Variable.left c.in-Variable.number c.number_of.result c.placed-in-Variable.result c.in-Variable.is c.number_of.ensures
    (c.placed-in-Variable.ensures _ (made_computes _ _ c.variable.ensures.value c.variable.ensures.fault))

pub chain-returns : goal.chain-returns
chain-returns t c = c.loop-operator.invariant ∙ chain_end _ _ _ _ (elim c.in-None.ensures.steps [ inl w ↦ inl w.1.0 | inr w ↦ inr w.1.0 ])
