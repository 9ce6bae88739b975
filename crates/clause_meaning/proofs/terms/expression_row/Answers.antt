use Rattle.clp_model.specs.declared.sort.Rel.TheVariants.{Eq}
use Rattle.form_model.specs.Forms as form
use Rattle.clp_grammar.specs.Evaluation.{with_value}
use Rattle.clause_meaning.specs.Numbers.{number_of}
use Rattle.clause_meaning.proofs.Sides.{gives_value}
use Rattle.clause_meaning.proofs.terms.expression_row.Goals as goal

pub returns : goal.returns
returns c = gives_value c.args.begin (number_of c.args.numbers.now) c.args.e.now c.in_ok-value.value (λ f. with_value (form.difference (form.variable c.args.variable) f) (form.row_of Eq))
    c.placed.result c.in_ok-value.ensures (c.placed.ensures _ c.value_row.ensures)
