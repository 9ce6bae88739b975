use Rattle.clp_model.proofs.Membership.{from_among}
use Rattle.rule_laws.proofs.RowRules.{added_row, dropped_row, projected_clause, equated_by_row, false_rows}
use Rattle.rule_laws.proofs.row_rules_keep_instances.Goals as goal

pub returns-clause-added : goal.returns-clause-added
returns-clause-added c = added_row

pub returns-clause-dropped : goal.returns-clause-dropped
returns-clause-dropped c = dropped_row

pub returns-clause-projected : goal.returns-clause-projected
returns-clause-projected c = λ x v none unused. projected_clause x v none (λ a. unused (from_among a))

pub returns-clause-equated : goal.returns-clause-equated
returns-clause-equated c = equated_by_row

pub returns-clause-no_solution : goal.returns-clause-no_solution
returns-clause-no_solution c = false_rows
