use Rattle.std.proofs.Common.{◌≡◌, ◌++◌, drop, map, string_bytes, codes}
use denote.Shadow.{shadow}
use denote.Text.{Utf8}
use Rattle.print_model.specs.Joined.{joined}
use Rattle.print_model.specs.Terms.{atom_text}
use Rattle.script_grammar.specs.ScriptText.{equation_text}
use Rattle.script_printer.proofs.source.others.Given as goal

abbrev pub invariant-loop-sides : goal.invariant-loop-sides
invariant-loop-sides l = record {
  written : string_bytes l.into ++ joined l.mark (codes ", ") (map equation_text (drop l.sides-index l.equations) ++ map atom_text l.atoms)
      ≡ string_bytes l.fn.into ++ joined l.fn.first_mark (codes ", ") (map equation_text l.fn.equations ++ map atom_text l.fn.atoms);
  text : shadow (Utf8 l.mark);
}

abbrev pub invariant-loop-tree : goal.invariant-loop-tree
invariant-loop-tree l = record {
  written : string_bytes l.into ++ joined l.mark (codes ", ") (map atom_text (drop l.tree-index l.atoms))
      ≡ string_bytes l.fn.into ++ joined l.fn.first_mark (codes ", ") (map equation_text l.fn.equations ++ map atom_text l.fn.atoms);
  text : shadow (Utf8 l.mark);
}
