-- A clause is held, said of its trees and rows one by one.
use Rattle.std.proofs.Common.{◌≡◌, ℕ, ◌<◌, ◌≤◌, [], ◌∷◌, ◌++◌, length, inl, inr}
use Rattle.clp_model.specs.declared.sort.Sort.TheVariants.{Num}
use Rattle.clp_model.specs.declared.tree.Tree.{Tree}
use Rattle.clp_model.specs.Trees.{IsApplication, variables, variables_in}
use Rattle.clp_model.specs.Clauses.{Clause, Row, sort_in}
use Rattle.clp_model.proofs.Membership.{Among, among_front, among_back, among_either}
use Rattle.clause_model.specs.Variables.{row_variables, rows_variables}
use Rattle.clause_model.specs.Solved.{RowsAreNum}
use Rattle.clause_laws.proofs.Rows.{all_each, each_all, among_rows}
use Rattle.unfold_model.specs.Resolvent.{HasPlaces}
use Rattle.rule_laws.specs.Steps.{IsHeld}
use Rattle.state_laws.proofs.Variables.{tree_of, of_tree, row_of}

-- a place among this many
abbrev pub Placed : ℕ → ℕ → Type 0
Placed count n = (0 < n) × (n ≤ count)

abbrev pub TreeFits : ℕ → Tree ℕ → Type 0
TreeFits count t = (n : ℕ) → Among n (variables t) → Placed count n

pub record RowFits (c : Clause) (r : Row) : Type 0 where
  pub placed : (n : ℕ) → Among n (row_variables r) → Placed (length c.sorts) n
  pub num : (n : ℕ) → Among n (row_variables r) → sort_in c.sorts n ≡ Num

pub record Fits (c : Clause) : Type 0 where
  pub applies : (t : Tree ℕ) → Among t (c.head ∷ c.body) → IsApplication t
  pub trees : (t : Tree ℕ) → Among t (c.head ∷ c.body) → TreeFits (length c.sorts) t
  pub rows : (r : Row) → Among r c.rows → RowFits c r

pub places_fit : (c : Clause) → Fits c → HasPlaces c
places_fit c h = each_all (Placed (length c.sorts)) (variables_in (c.head ∷ c.body) ++ rows_variables c.rows) (λ n a.
    elim (among_either n (variables_in (c.head ∷ c.body)) (rows_variables c.rows) a) [
      | inl b ↦ let w = tree_of (c.head ∷ c.body) n b in h.trees w.0 w.1 n w.2
      | inr b ↦ let w = row_of c.rows n b in (h.rows w.0 w.1).placed n w.2
    ])

pub nums_fit : (c : Clause) → Fits c → RowsAreNum c
nums_fit c h = each_all (λ n. sort_in c.sorts n ≡ Num) (rows_variables c.rows) (λ n a. let w = row_of c.rows n a in (h.rows w.0 w.1).num n w.2)

pub held_of : (c : Clause) → c.equations ≡ [] → Fits c → IsHeld c
held_of c none h = record {
  equations = none;
  applications = each_all IsApplication (c.head ∷ c.body) h.applies;
  places = places_fit c h;
  nums = nums_fit c h;
}

-- a clause with these is told by its trees and rows
pub fits_of : (c : Clause) → ((t : Tree ℕ) → Among t (c.head ∷ c.body) → IsApplication t) → HasPlaces c → RowsAreNum c → Fits c
fits_of c applies places nums =
    let each = all_each (Placed (length c.sorts)) (variables_in (c.head ∷ c.body) ++ rows_variables c.rows) places in
    record {
      applies = applies;
      trees = λ t m n a. each n (among_front n (variables_in (c.head ∷ c.body)) (rows_variables c.rows) (of_tree t (c.head ∷ c.body) n m a));
      rows = λ r m. record {
        placed = λ n a. each n (among_back n (variables_in (c.head ∷ c.body)) (rows_variables c.rows) (among_rows r c.rows n m a));
        num = λ n a. all_each (λ n. sort_in c.sorts n ≡ Num) (rows_variables c.rows) nums n (among_rows r c.rows n m a);
      };
    }

pub held_fits : (c : Clause) → IsHeld c → Fits c
held_fits c h = fits_of c (all_each IsApplication (c.head ∷ c.body) h.applications) h.places h.nums
