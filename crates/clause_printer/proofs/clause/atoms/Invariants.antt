use Rattle.std.proofs.Common.{◌≡◌, ◌++◌, drop, map, string_bytes, codes}
use Rattle.term_store.specs.Trees.{AreIn}
use Rattle.clause_store.specs.Stored.{atoms_at}
use Rattle.print_model.specs.Joined.{joined}
use Rattle.print_model.specs.Terms.{atom_text}
use Rattle.clause_printer.proofs.clause.atoms.Given as goal

abbrev pub invariant-loop-t : goal.invariant-loop-t
invariant-loop-t l = record {
  written : string_bytes l.into ++ joined (codes ", ") (codes ", ") (map atom_text (atoms_at l.store (drop l.t-index l.rest))) ≡ string_bytes l.fn.into ++ joined l.fn.mark (codes ", ") (map atom_text (atoms_at l.store l.fn.atoms));
  inside : AreIn l.store (drop l.t-index l.rest);
}
