use Rattle.std.proofs.Common.{◌≡◌, ◌∙◌, ap, subst, arith, length, sym}
use Rattle.std.specs.Prelude.{◌↔◌, All, Contains, List, false, ℕ}
use Rattle.clp_model.specs.Values.{Valuation}
use Rattle.clp_model.specs.Clauses.{Row, RowHolds}
use Rattle.linear_model.specs.Elimination.{SameBut, has}
use Rattle.linear_laws.proofs.Cleaning.{elimination_exact}
use Rattle.linear_laws.proofs.Fresh.{variable_is_gone}
use Rattle.elim_rows.proofs.Making.{left_is}
use Rattle.elim_rows.proofs.elimination.eliminate.Goals as goal

pub returns-then-len-gt-MAX_ROWS-clause-too_many : goal.returns-then-len-gt-MAX_ROWS-clause-too_many
returns-then-len-gt-MAX_ROWS-clause-too_many c = λ _.
    let e = left_is c.args.var c.args.rows.now c.in_ok-kept.kept c.in_ok-kept.ensures.value in
    (c.in_ok-kept.ensures.value.within, omega (arith, ap length e, c.len.ensures))

pub returns-clause-value : goal.returns-clause-value
returns-clause-value c = c.in_ok-into_rows.ensures.value ∙ left_is c.args.var c.args.rows.now c.in_ok-kept.kept c.in_ok-kept.ensures.value

pub returns-clause-few : goal.returns-clause-few
returns-clause-few c =
    let e = left_is c.args.var c.args.rows.now c.in_ok-kept.kept c.in_ok-kept.ensures.value in
    omega (arith, ap length e, c.len.ensures)

abbrev IsExact : ℕ → List Row → List Row → Type 0
IsExact x rows left = (u : Valuation) → All (RowHolds u) left ↔ ((w : Valuation) × SameBut x u w × All (RowHolds w) rows)

pub returns-clause-exact : goal.returns-clause-exact
returns-clause-exact c =
    let e = c.in_ok-into_rows.ensures.value ∙ left_is c.args.var c.args.rows.now c.in_ok-kept.kept c.in_ok-kept.ensures.value in
    subst (IsExact c.args.var c.args.rows.now) (sym e) (elimination_exact c.args.var c.args.rows.now)

pub returns-clause-gone : goal.returns-clause-gone
returns-clause-gone c =
    let e = c.in_ok-into_rows.ensures.value ∙ left_is c.args.var c.args.rows.now c.in_ok-kept.kept c.in_ok-kept.ensures.value in
    subst (λ rows. (r : Row) → Contains rows r → has c.args.var r ≡ false) (sym e) (variable_is_gone c.args.var c.args.rows.now)
