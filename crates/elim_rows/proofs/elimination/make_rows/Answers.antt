use Rattle.std.proofs.Common.{◌≡◌, take, drop, ◌+◌, false, subst}
use Rattle.std.proofs.lemmas.List.{take_rest}
use Rattle.std.proofs.lemmas.Result.{err_from_is_err_and}
use Rattle.elim_rows.specs.Made.{all_within}
use Rattle.elim_rows.specs.Kept.{Adds, flat, of_substituted, of_other}
use Rattle.elim_rows.proofs.Making.{equation_outside_before, equation_outside_after, equation_adds, bounds_outside, bounds_adds}
use Rattle.elim_rows.proofs.elimination.make_rows.Goals as goal
use Rattle.elim_rows.proofs.elimination.make_rows.Goals.{in-Some+in_ok-substitute_each-in-Some+in_ok-substitute_each-in-Some-2, in-None+in_ok-keep_others-in-None+in_ok-pair_bounds-in-None}

pub returns-in_err-substitute_each-in-Some-clause-overflow : goal.returns-in_err-substitute_each-in-Some-clause-overflow
returns-in_err-substitute_each-in-Some-clause-overflow c = λ h.
    let p = err_from_is_err_and c.from_residual.result c.from_residual.ensures.1 in
    let made = p.1 in
    let same = p.2 in
    equation_outside_before c.args.var c.args.rows.now c.in-Some.equation.now (take c.in-Some.place c.args.rows.now) (drop (c.in-Some.place + 1) c.args.rows.now) c.in-Some.ensures.first (c.in_err-substitute_each-in-Some.ensures.overflow cc)

pub returns-in_err-substitute_each-in-Some-2-clause-overflow : goal.returns-in_err-substitute_each-in-Some-2-clause-overflow
returns-in_err-substitute_each-in-Some-2-clause-overflow c = λ h.
    let p = err_from_is_err_and c.from_residual-in_err-substitute_each-in-Some-2.result c.from_residual-in_err-substitute_each-in-Some-2.ensures.1 in
    let made = p.1 in
    let same = p.2 in
    equation_outside_after c.args.var c.args.rows.now c.in-Some.equation.now (take c.in-Some.place c.args.rows.now) (drop (c.in-Some.place + 1) c.args.rows.now) c.in-Some.ensures.first (subst (λ rs. all_within (flat (of_substituted c.args.var c.in-Some.equation.now) rs) ≡ false) (take_rest c.args.rows.now (c.in-Some.place + 1)) (c.in_err-substitute_each-in-Some-2.ensures.overflow cc))

pub returns-in_err-pair_bounds-in-None-clause-overflow : goal.returns-in_err-pair_bounds-in-None-clause-overflow
returns-in_err-pair_bounds-in-None-clause-overflow c = λ h.
    let p = err_from_is_err_and c.from_residual-in_err-pair_bounds-in-None.result c.from_residual-in_err-pair_bounds-in-None.ensures.1 in
    let made = p.1 in
    let same = p.2 in
    bounds_outside c.args.var c.args.rows.now c.in-None.ensures.none (c.in_err-pair_bounds-in-None.ensures.overflow cc)

pub returns-clause-value : goal.returns-clause-value
returns-clause-value c =
    elim c.match-first_equation.branch [
      | in-Some+in_ok-substitute_each-in-Some+in_ok-substitute_each-in-Some-2 w ↦
          let x = c.args.var in
          let rows = c.args.rows.now in
          let e = w.in-Some.equation.now in
          let before = take w.in-Some.place rows in
          let after = drop (w.in-Some.place + 1) rows in
          let between = w.substitute_each.new.kept in
          let left = w.substitute_each-in-Some.new.kept in
          rw w.kept-is
          (equation_adds x rows e before after w.in-Some.ensures.first between left
          (subst (λ ks. Adds ks (flat (of_substituted x e) before) between) c.new-kept.ensures w.in_ok-substitute_each-in-Some.ensures.value)
          (subst (λ rs. Adds between (flat (of_substituted x e) rs) left) (take_rest rows (w.in-Some.place + 1)) w.in_ok-substitute_each-in-Some-2.ensures.value))
      | in-None+in_ok-keep_others-in-None+in_ok-pair_bounds-in-None w ↦
          let x = c.args.var in
          let rows = c.args.rows.now in
          let between = w.keep_others.new.kept in
          rw w.kept-is
          (bounds_adds x rows w.in-None.ensures.none between w.pair_bounds.new.kept
          (subst (λ ks. Adds ks (flat (of_other x) rows) between) c.new-kept.ensures w.in_ok-keep_others-in-None.ensures.value) w.in_ok-pair_bounds-in-None.ensures.value)
    ]
