-- How a term is printed.
use Rattle.std.specs.Prelude.{◌≡◌, ℕ, ◌+◌, ◌<◌}
use Rattle.clp_model.specs.declared.tree.Tree.{Tree}
use Rattle.clp_model.specs.Trees.{size}
use Rattle.print_model.specs.Terms.{texts, nil, other, cell, atom_text}
use Rattle.script_printer.specs.declared.tree.Shape.{Shape}
use Rattle.script_printer.specs.declared.tree.Shape.TheVariants as shape

-- a list of a first element and what follows
pub record IsCell (tree first follows : Tree ℕ) : Type 0 where
  pub is : texts tree ≡ cell (texts first) (texts follows)
  pub smaller : size first + size follows < size tree

-- what the term is
abbrev pub HasShape : Tree ℕ → Shape → Type 0
HasShape tree (shape.Cell first follows) = IsCell tree first.now follows.now
HasShape tree shape.Nil = texts tree ≡ nil
HasShape tree shape.Other = texts tree ≡ other (atom_text tree)
