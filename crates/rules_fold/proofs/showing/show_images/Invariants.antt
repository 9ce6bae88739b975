use Rattle.std.proofs.Common.{◌≡◌, length}
use Rattle.rules_fold.proofs.ShownImages.{IsLeft, AreAdded}
use Rattle.rules_fold.proofs.showing.show_images.Given as goal

abbrev pub invariant-loop-row : goal.invariant-loop-row
invariant-loop-row l = record {
  count : length l.certificates ≡ l.row-index;
  left : IsLeft l.show l.numbers l.c.rows l.n.rows l.certificates l.row-index;
  added : AreAdded l.numbers l.initial.remaining l.n.rows l.remaining l.row-index;
}
