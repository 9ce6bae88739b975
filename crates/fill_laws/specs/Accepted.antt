-- Of which rewriting an accepted step is, and what holds of it then.
use Rattle.std.specs.Prelude.{◌≡◌, ℕ, ◌-◌, List, [], ◌∷◌, map, length, remove, true, Some, None, Ok}
use Rattle.clp_model.specs.declared.predicate.Pred.{Pred}
use Rattle.clp_model.specs.Clauses.{Clause, Row}
use Rattle.clause_model.specs.Load.{load_one}
use Rattle.clause_store.specs.declared.source.SourceClause.{SourceClause}
use Rattle.clause_store.specs.Source.{meaning_of}
use Rattle.unify_model.specs.Substituting.{Binding}
use Rattle.fold_model.specs.Images.{matched_atoms}
use Rattle.fold_model.specs.Folded.{questions, folded_clause}
use Rattle.replace_model.specs.Rows.{with_row, without_row, projected, equated, equation_of}
use Rattle.farkas_check.specs.declared.cert.Cert.{Cert}
use Rattle.map_model.specs.declared.shown.Shown.{Shown}
use Rattle.map_model.specs.declared.shown.Shown.TheVariants.{Given}
use Rattle.map_model.specs.declared.shown.Shows.{Shows}
use Rattle.map_model.specs.declared.shown.Shows.TheVariants.{Each}
use Rattle.map_model.specs.declared.step.Step.{Step}
use Rattle.map_model.specs.declared.step.Step.TheVariants.{Define, Unfold, Fold, DeleteFalse, Merge, Add, Drop, Project, Equate}
use Rattle.map_model.specs.State.{Entry, State, live_at, definition_of}
use Rattle.map_model.specs.Rewriting.{Draft, Rewriting}
use Rattle.map_model.specs.Merging.{first_broken, merged}
use Rattle.fold_model.specs.Positions.{in_range}
use Rattle.map_model.specs.Defining.{definition_broken, definition}
use Rattle.map_model.specs.Unfolding.{resolvents}
use Rattle.map_model.specs.Folding.{unmarked, atoms_broken, images, images_broken}
use Rattle.map_model.specs.ShowingAll.{certificates}
use Rattle.map_model.specs.Showing.{shown_by, shown_false_by}
use Rattle.map_model.specs.Replacing.{variables_broken, row_of, no_row, project_broken, equate_broken}

-- the clause with this id goes, and these come
abbrev pub instead : ℕ → List Draft → Step → Rewriting
instead id drafts step = record { dead = id ∷ []; made = drafts; defines = None; step = step }

-- a clause in the place of the entry's, with its mark
abbrev pub in_its_place : ℕ → Entry → Clause → List Draft
in_its_place id e c = record { clause = c; mark = e.mark; parents = id ∷ [] } ∷ []

-- the conditions of the rule hold in the state s, and the step is this rewriting
pub data IsRewriting (s : State) : Step → Rewriting → Type 0 where
  defines : {source : SourceClause} {c : Clause} → load_one (meaning_of source) ≡ Ok (Some c) → definition_broken s c ≡ None
      → IsRewriting s (Define source) (definition c)
  unfolds : {id at : ℕ} {e : Entry} → live_at s id ≡ Some e → in_range (length e.clause.body) at ≡ true
      → IsRewriting s (Unfold id at) (instead id (resolvents s id e.clause at) (Unfold id at))
  folds : {id : ℕ} {at : List ℕ} {by : Pred} {with keep : List ℕ} {show : Shows} {e : Entry} {n : Clause} {bs : List Binding} {cs : List Cert}
      → live_at s id ≡ Some e → unmarked id e ≡ None → definition_of s by ≡ Some n → atoms_broken e.clause at ≡ None
      → matched_atoms n e.clause at ≡ Some bs → images_broken n e.clause at with keep bs ≡ None
      → certificates (questions n e.clause (images n e.clause with bs) keep) show ≡ Ok cs
      → IsRewriting s (Fold id at by with keep show)
      (instead id (in_its_place id e (folded_clause n e.clause (images n e.clause with bs) at keep)) (Fold id at by with keep (Each (map Given cs))))
  deletes_false : {id : ℕ} {show : Shown} {e : Entry} {c : Cert} → live_at s id ≡ Some e → shown_false_by e.clause.rows show ≡ Ok c
      → IsRewriting s (DeleteFalse id show) (instead id [] (DeleteFalse id (Given c)))
  merges : {id i j : ℕ} {e : Entry} → live_at s id ≡ Some e → first_broken e.clause.body i j ≡ None
      → IsRewriting s (Merge id i j) (instead id (merged e id j ∷ []) (Merge id i j))
  adds : {id : ℕ} {row : Row} {show : Shown} {e : Entry} {c : Cert} → live_at s id ≡ Some e → variables_broken e.clause row.pairs ≡ None
      → shown_by 1 e.clause.rows row show ≡ Ok c
      → IsRewriting s (Add id row show) (instead id (in_its_place id e (with_row e.clause row)) (Add id row (Given c)))
  drops : {id i : ℕ} {show : Shown} {e : Entry} {c : Cert} → live_at s id ≡ Some e → no_row e.clause i ≡ None
      → shown_by 1 (remove e.clause.rows (i - 1)) (row_of e.clause.rows i) show ≡ Ok c
      → IsRewriting s (Drop id i show) (instead id (in_its_place id e (without_row e.clause (i - 1))) (Drop id i (Given c)))
  projects : {id v : ℕ} {e : Entry} → live_at s id ≡ Some e → project_broken e.clause v ≡ None
      → IsRewriting s (Project id v) (instead id (in_its_place id e (projected e.clause v)) (Project id v))
  equates : {id v u : ℕ} {show : Shown} {e : Entry} {c : Cert} → live_at s id ≡ Some e → equate_broken e.clause v u ≡ None
      → shown_by 1 e.clause.rows (equation_of v u) show ≡ Ok c
      → IsRewriting s (Equate id v u show) (instead id (in_its_place id e (equated e.clause v u)) (Equate id v u (Given c)))
