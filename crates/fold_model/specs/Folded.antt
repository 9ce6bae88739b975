-- The folded clause, and the rows that are to be shown for it.
use Rattle.std.specs.Prelude.{ℕ, List, [], ◌++◌, map}
use Rattle.clp_model.specs.declared.tree.Tree.{Tree}
use Rattle.clp_model.specs.Clauses.{Clause, Row}
use Rattle.linear_model.specs.Normal.{normal}
use Rattle.linear_model.specs.Changes.{renamed}
use Rattle.unify_model.specs.Substituting.{substituted}
use Rattle.fold_model.specs.Positions.{chosen, others, replaced}
use Rattle.fold_model.specs.Internal.{number_in}

-- a row that is to be shown, before it is brought into normal form, and the rows from which
pub record Question : Type 0 where
  pub rows : List Row
  pub target : Row

-- what a row of the definition becomes
abbrev pub image_row : (ℕ → Tree ℕ) → Row → Row
image_row s r = renamed (λ x. number_in (s x)) r

-- each row of the definition is shown from the rows of the clause
abbrev pub definition_questions : Clause → Clause → (ℕ → Tree ℕ) → List Question
definition_questions n c s = map (λ r. record { rows = c.rows; target = image_row s r }) n.rows

-- the rows that are kept, and what the rows of the definition become
abbrev pub remaining_rows : Clause → Clause → (ℕ → Tree ℕ) → List ℕ → List Row
remaining_rows n c s keep = chosen keep c.rows ++ map (λ r. normal (image_row s r)) n.rows

-- each row that is dropped is shown from those
abbrev pub dropped_questions : Clause → Clause → (ℕ → Tree ℕ) → List ℕ → List Question
dropped_questions n c s keep = map (λ r. record { rows = remaining_rows n c s keep; target = r }) (others keep c.rows)

-- the rows that are to be shown, in order
abbrev pub questions : Clause → Clause → (ℕ → Tree ℕ) → List ℕ → List Question
questions n c s keep = definition_questions n c s ++ dropped_questions n c s keep

-- The clause c in which the definition's head, with the images in it, stands in the place of the first atom that is
-- folded; the others of these are gone, and so are the rows that are not kept.
abbrev pub folded_clause : Clause → Clause → (ℕ → Tree ℕ) → List ℕ → List ℕ → Clause
folded_clause n c s at keep = record {
  head = c.head;
  equations = [];
  rows = chosen keep c.rows;
  body = replaced (substituted s n.head) at c.body;
  sorts = c.sorts;
}
