-- The canonical form of a clause that is held is held, and its source is well-formed.
use Rattle.std.proofs.Common.{◌≡◌, ℕ, ◌≤◌, List, [], ◌∷◌, ◌++◌, length, refl, sym, ◌∙◌, subst, map}
use Rattle.std.specs.Prelude.{All}
use Rattle.std.proofs.lemmas.List.{length-map, append-nil}
use Rattle.std.proofs.lemmas.List.Elements.{All-nil}
use Rattle.clp_model.specs.declared.sort.Sort.{Sort}
use Rattle.clp_model.specs.declared.sort.Sort.TheVariants.{Any, Num}
use Rattle.clp_model.specs.declared.tree.Tree.{Tree}
use Rattle.clp_model.specs.Trees.{IsApplication, mapped, variables, variables_in}
use Rattle.clp_model.specs.Clauses.{Clause, Row, sort_in}
use Rattle.clp_model.specs.Canonical.{place_in}
use Rattle.clp_model.proofs.Membership.{Among, first, next, among_front, among_back, distinct_has, at_place}
use Rattle.clp_model.proofs.RenamedTrees.{variables_mapped, application_mapped}
use Rattle.linear_laws.proofs.Lists.{mapped_out}
use Rattle.unify_laws.proofs.Solved.{among_cases}
use Rattle.clause_model.specs.Variables.{row_variables, rows_variables, variables_by_first_occurrence, loose_nums, variables_as_printed}
use Rattle.clause_model.specs.Canonical.{canonical_form, with_clean_rows, numbered_by}
use Rattle.clause_model.specs.Source.{source_of}
use Rattle.clause_laws.proofs.Rows.{among_rows}
use Rattle.clause_laws.proofs.Renaming.{variables_normal}
use Rattle.clause_laws.proofs.Written.{written, written_from}
use Rattle.clause_laws.proofs.Clean.{cleaned_has}
use Rattle.clause_laws.proofs.Upto.{place_positive, place_front}
use Rattle.rule_laws.specs.Steps.{IsHeld}
use Rattle.map_model.specs.WellFormed.{side_variables, IsWellFormed}
use Rattle.state_laws.proofs.Variables.{of_tree, among_mapped_all}
use Rattle.state_laws.proofs.Sound.{Placed, TreeFits, RowFits, Fits, held_of, held_fits}

-- ---- a clause whose variables are renumbered by their places in a list that has them all
module _ (d : Clause) (fits : Fits d) (met : List ℕ) (in_tree : (t : Tree ℕ) → Among t (d.head ∷ d.body) → (n : ℕ) → Among n (variables t) → Among n met) (in_row : (r : Row) → Among r d.rows → (n : ℕ) → Among n (row_variables r) → Among n met) where
  abbrev sorts : List Sort
  sorts = map (sort_in d.sorts) met

  -- a variable that is met has its place
  placed : (n : ℕ) → Among n met → Placed (length sorts) (place_in met n)
  placed n a =
      let front : place_in met n ≤ length met = subst (λ ms. place_in ms n ≤ length met) (append-nil met) (place_front met [] n a) in
      (place_positive met n, subst (λ k. place_in met n ≤ k) (sym (length-map met (sort_in d.sorts))) front)

  tree_fits : (t : Tree ℕ) → Among t (d.head ∷ d.body) → TreeFits (length sorts) (mapped (place_in met) t)
  tree_fits t m n a = mapped_out (place_in met) (variables t) (Placed (length sorts)) (λ k b. placed k (in_tree t m k b)) n (subst (Among n) (variables_mapped (place_in met) t) a)

  abbrev numbered : Clause
  numbered = numbered_by met d

  row_fits : (r : Row) → Among r d.rows → RowFits numbered (written (place_in met) r)
  row_fits r m =
      let each : (n : ℕ) → Among n (row_variables (written (place_in met) r)) → Placed (length sorts) n × (sort_in sorts n ≡ Num) =
      λ n a. let k = written_from (place_in met) r n a in
      let here = in_row r m k.0 k.1 in
      subst (λ x. Placed (length sorts) x × (sort_in sorts x ≡ Num)) k.2 (placed k.0 here, at_place (sort_in d.sorts) met k.0 Any Any here ∙ (fits.rows r m).num k.0 k.1) in
      record { placed = λ n a. (each n a).0; num = λ n a. (each n a).1 }

  -- each tree is one of the clause, renumbered
  tree_from : (P : Tree ℕ → Type 0) → ((t : Tree ℕ) → Among t (d.head ∷ d.body) → P (mapped (place_in met) t)) → (u : Tree ℕ) → Among u (numbered.head ∷ numbered.body) → P u
  tree_from P each u a = among_cases a
      (λ q. subst P (sym q) (each d.head first))
      (λ m. let k = among_mapped_all (place_in met) d.body u m in subst P (sym k.2) (each k.0 (next k.1)))

  numbered_is_held : IsHeld numbered
  numbered_is_held = held_of numbered refl (record {
    applies = tree_from IsApplication (λ t m. application_mapped (place_in met) t (fits.applies t m));
    trees = tree_from (TreeFits (length sorts)) tree_fits;
    rows = λ r m. mapped_out (written (place_in met)) d.rows (RowFits numbered) row_fits r m;
  })

-- ---- the canonical form
module _ (c : Clause) (h : IsHeld c) where
  abbrev clean : Clause
  clean = with_clean_rows c

  abbrev by_first : List ℕ
  by_first = variables_by_first_occurrence clean

  fits_c : Fits c
  fits_c = held_fits c h

  -- the rows that are left are rows of the clause in normal form
  clean_fits : Fits clean
  clean_fits = record {
    applies = fits_c.applies;
    trees = fits_c.trees;
    rows = λ r m. cleaned_has c.rows (RowFits clean) (λ s k. let f = fits_c.rows s k in record {
      placed = λ n a. f.placed n (subst (Among n) (variables_normal s) a);
      num = λ n a. f.num n (subst (Among n) (variables_normal s) a);
    }) r m;
  }

  met_tree : (t : Tree ℕ) → Among t (clean.head ∷ clean.body) → (n : ℕ) → Among n (variables t) → Among n by_first
  met_tree t m n a =
      distinct_has [] (variables_in (clean.head ∷ clean.body) ++ rows_variables clean.rows) n
      (among_front n (variables_in (clean.head ∷ clean.body)) (rows_variables clean.rows) (of_tree t (clean.head ∷ clean.body) n m a))

  met_row : (r : Row) → Among r clean.rows → (n : ℕ) → Among n (row_variables r) → Among n by_first
  met_row r m n a =
      distinct_has [] (variables_in (clean.head ∷ clean.body) ++ rows_variables clean.rows) n
      (among_back n (variables_in (clean.head ∷ clean.body)) (rows_variables clean.rows) (among_rows r clean.rows n m a))

  pub canonical_is_held : IsHeld (canonical_form c)
  unfolding canonical_form
  canonical_is_held = numbered_is_held clean clean_fits by_first met_tree met_row

  -- ---- the source
  abbrev printed : List ℕ
  printed = variables_as_printed c

  abbrev of_head : List ℕ
  of_head = variables_in (c.head ∷ [])

  abbrev before : List ℕ
  before = of_head ++ rows_variables c.rows ++ loose_nums c

  printed_tree : (t : Tree ℕ) → Among t (c.head ∷ c.body) → (n : ℕ) → Among n (variables t) → Among n printed
  printed_tree t m n a = distinct_has [] (before ++ variables_in c.body) n (among_cases m
      (λ q.
      let b : Among n of_head = among_front n (variables c.head) [] (subst (λ x. Among n (variables x)) q a) in
      among_front n before (variables_in c.body) (among_front n (of_head ++ rows_variables c.rows) (loose_nums c) (among_front n of_head (rows_variables c.rows) b)))
      (λ k. among_back n before (variables_in c.body) (of_tree t c.body n k a)))

  printed_row : (r : Row) → Among r c.rows → (n : ℕ) → Among n (row_variables r) → Among n printed
  printed_row r m n a = distinct_has [] (before ++ variables_in c.body) n
      (among_front n before (variables_in c.body) (among_front n (of_head ++ rows_variables c.rows) (loose_nums c) (among_back n of_head (rows_variables c.rows) (among_rows r c.rows n m a))))

  source_is_held : IsHeld (source_of c)
  unfolding source_of
  source_is_held = numbered_is_held c fits_c printed printed_tree printed_row

-- a clause that is held is well-formed
held_is_formed : (c : Clause) → IsHeld c → IsWellFormed c
held_is_formed c h = record {
  applications = h.applications;
  places = h.places;
  sides = subst (λ es. All (Placed (length c.sorts)) (side_variables es)) (sym h.equations) (All-nil (Placed (length c.sorts)));
  nums = h.nums;
}

pub source_is_formed : (c : Clause) → IsHeld c → IsWellFormed (source_of c)
source_is_formed c h = held_is_formed (source_of c) (source_is_held c h)
