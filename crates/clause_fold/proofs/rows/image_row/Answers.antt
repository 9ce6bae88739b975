use Rattle.std.proofs.Common.{◌≡◌, length, ap, sym, ◌∙◌}
use Rattle.linear_model.specs.Normal.{normal, is_within}
use Rattle.clp_model.specs.Clauses.{Row}
use Rattle.clause_loader.proofs.Tables.{all_pairs}
use Rattle.clause_loader.specs.WellFormed.{IsNumber}
use Rattle.clause_fold.proofs.ImageRows.{row_is, if_ok_so}
use Rattle.clause_fold.proofs.rows.image_row.Goals as goal

pub rename-requires : goal.rename-requires
rename-requires c = record { numbered = all_pairs (IsNumber (length c.args.numbers.now)) c.args.row.now c.requires }

pub returns-clause-value : goal.returns-clause-value
returns-clause-value c = if_ok_so c.rename.result _ _ (λ r e s a. e ∙ ap normal (row_is c.args.numbers.now s c.args.row.now a c.requires)) c.rename.ensures.value

pub returns-clause-overflow : goal.returns-clause-overflow
returns-clause-overflow c = λ h s a. ap (λ (r : Row). is_within (normal r)) (sym (row_is c.args.numbers.now s c.args.row.now a c.requires)) ∙ c.rename.ensures.overflow h
