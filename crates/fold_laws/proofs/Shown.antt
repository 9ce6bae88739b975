-- What is entailed where the rows that are to be shown are.
use Rattle.std.proofs.Common.{ℕ, List, ◌++◌, map, inl, inr}
use Rattle.std.specs.Prelude.{All, Contains}
use Rattle.clp_model.specs.declared.tree.Tree.{Tree}
use Rattle.clp_model.specs.Values.{Valuation}
use Rattle.clp_model.specs.Clauses.{Clause, Row, RowHolds}
use Rattle.clp_model.proofs.Membership.{Among, to_among, among_front, among_back, among_either, among_mapped}
use Rattle.linear_model.specs.Normal.{normal}
use Rattle.linear_model.specs.Certificates.{Entails}
use Rattle.linear_laws.proofs.Lists.{mapped_out}
use Rattle.linear_laws.proofs.Normal.{normal_holds}
use Rattle.clause_laws.proofs.Rows.{all_each, each_all}
use Rattle.fold_model.specs.Positions.{chosen}
use Rattle.fold_model.specs.Folded.{Question, image_row, definition_questions, remaining_rows, dropped_questions, questions}
use Rattle.fold_laws.proofs.Places.{chosen_or_other}

abbrev IsEntailed : Question → Type 0
IsEntailed q = Entails q.rows (normal q.target)

module _ (n c : Clause) (s : ℕ → Tree ℕ) (keep : List ℕ) (h : All IsEntailed (questions n c s keep)) where
  question : (q : Question) → Among q (questions n c s keep) → IsEntailed q
  question q a = all_each IsEntailed (questions n c s keep) h q a

  abbrev of_definition : Row → Question
  of_definition r = record { rows = c.rows; target = image_row s r }

  abbrev of_dropped : Row → Question
  of_dropped r = record { rows = remaining_rows n c s keep; target = r }

  pub entailed : (r : Row) → Contains n.rows r → Entails c.rows (image_row s r)
  entailed r k u holds =
      let q = question (of_definition r) (among_front (of_definition r) (definition_questions n c s) (dropped_questions n c s keep) (among_mapped of_definition (to_among n.rows r k))) in
      (normal_holds u (image_row s r)).0 (q u holds)

  remain : (u : Valuation) → All (RowHolds u) (chosen keep c.rows ++ map (image_row s) n.rows) → All (RowHolds u) (remaining_rows n c s keep)
  remain u holds = each_all (RowHolds u) (remaining_rows n c s keep) (λ r a. elim (among_either r (chosen keep c.rows) (map (λ r. normal (image_row s r)) n.rows) a) [
    | inl k ↦ all_each (RowHolds u) (chosen keep c.rows ++ map (image_row s) n.rows) holds r (among_front r (chosen keep c.rows) (map (image_row s) n.rows) k)
    | inr k ↦ mapped_out (λ r. normal (image_row s r)) n.rows (RowHolds u) (λ x b. (normal_holds u (image_row s x)).1
        (all_each (RowHolds u) (chosen keep c.rows ++ map (image_row s) n.rows) holds (image_row s x) (among_back (image_row s x) (chosen keep c.rows) (map (image_row s) n.rows) (among_mapped (image_row s) b)))) r k
  ])

  pub dropped : (r : Row) → Contains c.rows r → Entails (chosen keep c.rows ++ map (image_row s) n.rows) r
  dropped r k u holds = elim (chosen_or_other 1 keep c.rows r (to_among c.rows r k)) [
    | inl a ↦ all_each (RowHolds u) (chosen keep c.rows ++ map (image_row s) n.rows) holds r (among_front r (chosen keep c.rows) (map (image_row s) n.rows) a)
    | inr a ↦
        let q = question (of_dropped r) (among_back (of_dropped r) (definition_questions n c s) (dropped_questions n c s keep) (among_mapped of_dropped a)) in
        (normal_holds u r).0 (q u (remain u holds))
  ]
