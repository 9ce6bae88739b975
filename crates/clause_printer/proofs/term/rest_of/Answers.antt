use Rattle.std.proofs.Common.{◌≡◌, true, codes, arith}
use Rattle.std.specs.Str.{bytes_eq}
use Rattle.clause_printer.proofs.Texts.{has_cell, is_nil_term, is_other_term}
use Rattle.clause_printer.proofs.term.rest_of.Goals as goal
use Rattle.clause_printer.proofs.term.rest_of.Goals.{then-is_empty+else-eq, else-is_empty}

pub returns-in-Some : goal.returns-in-Some
returns-in-Some c = has_cell _ _ _ _ _ _ c.in-App.ensures.shows.0 c.in-App.ensures.shows.1 c.in-Some.ensures.some

pub returns-in-None : goal.returns-in-None
returns-in-None c =
    let e : bytes_eq c.in-App.name.now (codes "[]") ≡ true = cc in
    is_nil_term _ _ _ _ c.in-App.ensures.shows.0 (grind arith) e

pub returns-in-None-2 : goal.returns-in-None-2
returns-in-None-2 c =
    is_other_term _ _ _ _ c.in-App.ensures.shows.0 c.in-None.ensures.none (elim c.if-is_empty.branch [
      | then-is_empty+else-eq w ↦ λ empty. cc
      | else-is_empty w ↦ λ empty. grind arith
    ])
