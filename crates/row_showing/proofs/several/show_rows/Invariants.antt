use Rattle.std.proofs.Common.{◌≡◌, ◌+◌, length, drop}
use Rattle.row_showing.specs.Several.{shown_from, after_these, asked}
use Rattle.row_showing.proofs.several.show_rows.Given as goal

abbrev pub invariant-loop-target : goal.invariant-loop-target
invariant-loop-target l = record {
  count : length l.certificates ≡ length l.initial.certificates + l.target-index;
  left : after_these l.initial.certificates (shown_from l.show (length l.initial.certificates) (asked l.rows l.targets))
      ≡ after_these l.certificates (shown_from l.show (length l.certificates) (asked l.rows (drop l.target-index l.targets)));
}
