-- An accepted step is the rewriting of its rule.
use Rattle.std.proofs.Common.{◌≡◌, ℕ, ◌-◌, List, [], ◌∷◌, map, length, Bool, true, false, refl, ◌∙◌, ap}
use Rattle.std.specs.Prelude.{remove, Option, Some, None, Result, Ok, Err, nat_le, if◌then◌else◌}
use Rattle.clp_model.specs.declared.limit.Limit.TheVariants.{Steps}
use Rattle.clp_model.specs.declared.predicate.Pred.{Pred}
use Rattle.clp_model.specs.Clauses.{Clause, Row}
use Rattle.clause_model.specs.Canonical as clauses
use Rattle.clause_model.specs.Load.{load_one}
use Rattle.clause_store.specs.declared.source.SourceClause.{SourceClause}
use Rattle.clause_store.specs.Source.{meaning_of}
use Rattle.unify_model.specs.Substituting.{Binding}
use Rattle.fold_model.specs.Images.{matched_atoms}
use Rattle.fold_model.specs.Folded.{questions, folded_clause}
use Rattle.replace_model.specs.Rows.{with_row, without_row, projected, equated, equation_of}
use Rattle.farkas_check.specs.declared.cert.Cert.{Cert}
use Rattle.map_model.specs.declared.shown.Shown.{Shown}
use Rattle.map_model.specs.declared.shown.Shown.TheVariants.{Given}
use Rattle.map_model.specs.declared.shown.Shows.{Shows}
use Rattle.map_model.specs.declared.shown.Shows.TheVariants.{Each}
use Rattle.map_model.specs.declared.step.Step.{Step}
use Rattle.map_model.specs.declared.step.Step.TheVariants.{Define, Unfold, Fold, DeleteFalse, Merge, Add, Drop, Project, Equate}
use Rattle.map_model.specs.declared.refusal.Refusal.{Refusal}
use Rattle.map_model.specs.declared.refusal.Refusal.TheVariants.{NoAtom, TooLarge}
use Rattle.map_model.specs.State.{Entry, State, live_at, definition_of}
use Rattle.map_model.specs.Rewriting.{Rewriting, rewritten, unless_broken}
use Rattle.map_model.specs.Merging.{first_broken, merged, merge_of}
use Rattle.fold_model.specs.Positions.{in_range}
use Rattle.map_model.specs.Defining.{definition_broken, definition, define_loaded}
use Rattle.map_model.specs.Unfolding.{resolvents, unfold_of}
use Rattle.map_model.specs.Folding.{unmarked, atoms_broken, images, images_broken, folded_by, fold_matched, fold_defined, fold_in}
use Rattle.map_model.specs.ShowingAll.{certificates}
use Rattle.map_model.specs.Showing.{shown_by, shown_false_by}
use Rattle.map_model.specs.Deleting.{false_deleted, delete_false_of}
use Rattle.map_model.specs.Replacing.{variables_broken, in_place, in_place_by, for_entry, add_to, row_of, no_row, drop_from, project_broken, project_from, equate_broken, equate_in}
use Rattle.map_model.specs.After.{by_rule, after}
use Rattle.fill_laws.specs.Accepted.{instead, in_its_place, IsRewriting, defines, unfolds, folds, deletes_false, merges, adds, drops, projects, equates}
use Rattle.fill_laws.specs.Laws.{AcceptedStepIsItsRewriting, RewritingOfItsRule}

-- a rewriting of the step that makes the state t
abbrev Makes : State → State → Step → Type 0
Makes s t step = (r : Rewriting) × IsRewriting s step r × (rewritten s r ≡ Ok t)

-- a condition that is not broken, and what follows
unbroken : (o : Option Refusal) (next : Result State Refusal) (t : State) → unless_broken o next ≡ Ok t → (o ≡ None) × (next ≡ Ok t)
unbroken None next t h = (refl, h)
unbroken (Some x) next t h = absurd (cc)

-- an entry that is there, and what follows for it
there : (id : ℕ) (next : Entry → Result State Refusal) (o : Option Entry) (t : State) → for_entry id next o ≡ Ok t → (e : Entry) × (o ≡ Some e) × (next e ≡ Ok t)
there id next None t h = absurd (cc)
there id next (Some e) t h = (e, refl, h)

-- a certificate that is there, and the rewriting with it
certified : (s t : State) (id : ℕ) (e : Entry) (d : Clause) (step : Shown → Step) (o : Result Cert Refusal) → in_place_by s id e d step o ≡ Ok t
    → (c : Cert) × (o ≡ Ok c) × (rewritten s (instead id (in_its_place id e d) (step (Given c))) ≡ Ok t)
certified s t id e d step (Ok c) h = (c, refl, h)
certified s t id e d step (Err x) h = absurd (cc)

module _ (s t : State) where
  define_is : (source : SourceClause) → by_rule s (Define source) ≡ Ok t → Makes s t (Define source)
  define_is source h = by (load_one (meaning_of source)) refl h
    where
      by : (o : Result (Option Clause) clauses.Refusal) → load_one (meaning_of source) ≡ o → define_loaded s o ≡ Ok t → Makes s t (Define source)
      by (Err x) q k = absurd (cc)
      by (Ok None) q k = absurd (cc)
      by (Ok (Some c)) q k =
          let u = unbroken (definition_broken s c) (rewritten s (definition c)) t k in
          (definition c, defines q u.0, u.1)

  unfold_is : (id at : ℕ) → by_rule s (Unfold id at) ≡ Ok t → Makes s t (Unfold id at)
  unfold_is id at h = by (live_at s id) refl h
    where
      within : (e : Entry) → live_at s id ≡ Some e → (b : Bool) → in_range (length e.clause.body) at ≡ b
          → (if b then rewritten s (instead id (resolvents s id e.clause at) (Unfold id at)) else Err (NoAtom at)) ≡ Ok t → Makes s t (Unfold id at)
      within e q true r k = (instead id (resolvents s id e.clause at) (Unfold id at), unfolds q r, k)
      within e q false r k = absurd (cc)

      by : (o : Option Entry) → live_at s id ≡ o → unfold_of s id at o ≡ Ok t → Makes s t (Unfold id at)
      by None q k = absurd (cc)
      by (Some e) q k = within e q (in_range (length e.clause.body) at) refl k

  -- a definition that is there, and what follows for it
  module _ (id : ℕ) (at : List ℕ) (by : Pred) (with keep : List ℕ) (show : Shows) where
    abbrev FoldMakes : Type 0
    FoldMakes = Makes s t (Fold id at by with keep show)

    fold_by : (e : Entry) (n : Clause) (bs : List Binding)
        → live_at s id ≡ Some e → unmarked id e ≡ None → definition_of s by ≡ Some n → atoms_broken e.clause at ≡ None → matched_atoms n e.clause at ≡ Some bs → images_broken n e.clause at with keep bs ≡ None
        → (o : Result (List Cert) Refusal) → certificates (questions n e.clause (images n e.clause with bs) keep) show ≡ o
        → folded_by s id e (folded_clause n e.clause (images n e.clause with bs) at keep) (Fold id at by with keep) o ≡ Ok t → FoldMakes
    fold_by e n bs q u d a m i (Err x) c k = absurd (cc)
    fold_by e n bs q u d a m i (Ok cs) c k =
        (instead id (in_its_place id e (folded_clause n e.clause (images n e.clause with bs) at keep)) (Fold id at by with keep (Each (map Given cs))), folds q u d a m i c, k)

    fold_is_matched : (e : Entry) (n : Clause) → live_at s id ≡ Some e → unmarked id e ≡ None → definition_of s by ≡ Some n → atoms_broken e.clause at ≡ None
        → (o : Option (List Binding)) → matched_atoms n e.clause at ≡ o → fold_matched s id at by with keep show e n o ≡ Ok t → FoldMakes
    fold_is_matched e n q u d a None m k = absurd (cc)
    fold_is_matched e n q u d a (Some bs) m k =
        let asked = certificates (questions n e.clause (images n e.clause with bs) keep) show in
        let v = unbroken (images_broken n e.clause at with keep bs) (folded_by s id e (folded_clause n e.clause (images n e.clause with bs) at keep) (Fold id at by with keep) asked) t k in
        fold_by e n bs q u d a m v.0 asked refl v.1

    fold_is_defined : (e : Entry) → live_at s id ≡ Some e → unmarked id e ≡ None → (o : Option Clause) → definition_of s by ≡ o → fold_defined s id at by with keep show e o ≡ Ok t → FoldMakes
    fold_is_defined e q u None d k = absurd (cc)
    fold_is_defined e q u (Some n) d k =
        let v = unbroken (atoms_broken e.clause at) (fold_matched s id at by with keep show e n (matched_atoms n e.clause at)) t k in
        fold_is_matched e n q u d v.0 (matched_atoms n e.clause at) refl v.1

    fold_is : by_rule s (Fold id at by with keep show) ≡ Ok t → FoldMakes
    fold_is h =
        let w = there id (fold_in s id at by with keep show) (live_at s id) t h in
        let u = unbroken (unmarked id w.0) (fold_defined s id at by with keep show w.0 (definition_of s by)) t w.2 in
        fold_is_defined w.0 w.1 u.0 (definition_of s by) refl u.1

  delete_false_is : (id : ℕ) (show : Shown) → by_rule s (DeleteFalse id show) ≡ Ok t → Makes s t (DeleteFalse id show)
  delete_false_is id show h = by (live_at s id) refl h
    where
      shown : (e : Entry) → live_at s id ≡ Some e → (o : Result Cert Refusal) → shown_false_by e.clause.rows show ≡ o → false_deleted s id o ≡ Ok t → Makes s t (DeleteFalse id show)
      shown e q (Ok c) r k = (instead id [] (DeleteFalse id (Given c)), deletes_false q r, k)
      shown e q (Err x) r k = absurd (cc)

      by : (o : Option Entry) → live_at s id ≡ o → delete_false_of s id show o ≡ Ok t → Makes s t (DeleteFalse id show)
      by None q k = absurd (cc)
      by (Some e) q k = shown e q (shown_false_by e.clause.rows show) refl k

  merge_is : (id i j : ℕ) → by_rule s (Merge id i j) ≡ Ok t → Makes s t (Merge id i j)
  merge_is id i j h = by (live_at s id) refl h
    where
      by : (o : Option Entry) → live_at s id ≡ o → merge_of s id i j o ≡ Ok t → Makes s t (Merge id i j)
      by None q k = absurd (cc)
      by (Some e) q k =
          let r = instead id (merged e id j ∷ []) (Merge id i j) in
          let u = unbroken (first_broken e.clause.body i j) (rewritten s r) t k in
          (r, merges q u.0, u.1)

  add_is : (id : ℕ) (row : Row) (show : Shown) → by_rule s (Add id row show) ≡ Ok t → Makes s t (Add id row show)
  add_is id row show h =
      let w = there id (add_to s id row show) (live_at s id) t h in
      let d = with_row w.0.clause row in
      let shown = shown_by 1 w.0.clause.rows row show in
      let u = unbroken (variables_broken w.0.clause row.pairs) (in_place_by s id w.0 d (Add id row) shown) t w.2 in
      let k = certified s t id w.0 d (Add id row) shown u.1 in
      (instead id (in_its_place id w.0 d) (Add id row (Given k.0)), adds w.1 u.0 k.1, k.2)

  drop_is : (id i : ℕ) (show : Shown) → by_rule s (Drop id i show) ≡ Ok t → Makes s t (Drop id i show)
  drop_is id i show h =
      let w = there id (drop_from s id i show) (live_at s id) t h in
      let d = without_row w.0.clause (i - 1) in
      let shown = shown_by 1 (remove w.0.clause.rows (i - 1)) (row_of w.0.clause.rows i) show in
      let u = unbroken (no_row w.0.clause i) (in_place_by s id w.0 d (Drop id i) shown) t w.2 in
      let k = certified s t id w.0 d (Drop id i) shown u.1 in
      (instead id (in_its_place id w.0 d) (Drop id i (Given k.0)), drops w.1 u.0 k.1, k.2)

  project_is : (id v : ℕ) → by_rule s (Project id v) ≡ Ok t → Makes s t (Project id v)
  project_is id v h =
      let w = there id (project_from s id v) (live_at s id) t h in
      let r = instead id (in_its_place id w.0 (projected w.0.clause v)) (Project id v) in
      let u = unbroken (project_broken w.0.clause v) (rewritten s r) t w.2 in
      (r, projects w.1 u.0, u.1)

  equate_is : (id v u : ℕ) (show : Shown) → by_rule s (Equate id v u show) ≡ Ok t → Makes s t (Equate id v u show)
  equate_is id v u show h =
      let w = there id (equate_in s id v u show) (live_at s id) t h in
      let d = equated w.0.clause v u in
      let shown = shown_by 1 w.0.clause.rows (equation_of v u) show in
      let n = unbroken (equate_broken w.0.clause v u) (in_place_by s id w.0 d (Equate id v u) shown) t w.2 in
      let k = certified s t id w.0 d (Equate id v u) shown n.1 in
      (instead id (in_its_place id w.0 d) (Equate id v u (Given k.0)), equates w.1 n.0 k.1, k.2)

  rule_is : (step : Step) → by_rule s step ≡ Ok t → Makes s t step
  rule_is (Define source) h = define_is source h
  rule_is (Unfold id at) h = unfold_is id at h
  rule_is (Fold id at by with keep show) h = fold_is id at by with keep show h
  rule_is (DeleteFalse id show) h = delete_false_is id show h
  rule_is (Merge id i j) h = merge_is id i j h
  rule_is (Add id row show) h = add_is id row show h
  rule_is (Drop id i show) h = drop_is id i show h
  rule_is (Project id v) h = project_is id v h
  rule_is (Equate id v u show) h = equate_is id v u show h

  -- there may be one step more, and the rule makes the state
  pub by_its_rule : (step : Step) → after s step ≡ Ok t → (nat_le 100000 (length s.steps) ≡ false) × (by_rule s step ≡ Ok t)
  by_its_rule step h = by (nat_le 100000 (length s.steps)) refl h
    where
      by : (b : Bool) → nat_le 100000 (length s.steps) ≡ b → (if b then Err (TooLarge Steps) else by_rule s step) ≡ Ok t → (nat_le 100000 (length s.steps) ≡ false) × (by_rule s step ≡ Ok t)
      by true e k = absurd (cc)
      by false e k = (e, k)

pub accepted_is : AcceptedStepIsItsRewriting
accepted_is s t step h = rule_is s t step (by_its_rule s t step h).1

-- ---- and back
goes_on : (o : Option Refusal) (next : Result State Refusal) → o ≡ None → unless_broken o next ≡ next
goes_on o next h = ap (λ x. unless_broken x next) h

pub rule_of : RewritingOfItsRule
rule_of s _ _ (defines {source} {c} q r) = ap (define_loaded s) q ∙ goes_on (definition_broken s c) (rewritten s (definition c)) r
rule_of s _ _ (unfolds {id} {at} {e} q r) =
    ap (unfold_of s id at) q ∙ ap (λ b. if b then rewritten s (instead id (resolvents s id e.clause at) (Unfold id at)) else Err (NoAtom at)) r
rule_of s _ _ (folds {id} {at} {by} {with} {keep} {show} {e} {n} {bs} {cs} q u d a m i k) =
    let step = Fold id at by with keep in
    let c = folded_clause n e.clause (images n e.clause with bs) at keep in
    let asked = certificates (questions n e.clause (images n e.clause with bs) keep) show in
    ap (for_entry id (fold_in s id at by with keep show)) q
    ∙ (goes_on (unmarked id e) (fold_defined s id at by with keep show e (definition_of s by)) u
    ∙ (ap (fold_defined s id at by with keep show e) d
    ∙ (goes_on (atoms_broken e.clause at) (fold_matched s id at by with keep show e n (matched_atoms n e.clause at)) a
    ∙ (ap (fold_matched s id at by with keep show e n) m
    ∙ (goes_on (images_broken n e.clause at with keep bs) (folded_by s id e c step asked) i
    ∙ ap (folded_by s id e c step) k)))))
rule_of s _ _ (deletes_false {id} {show} {e} {c} q r) = ap (delete_false_of s id show) q ∙ ap (false_deleted s id) r
rule_of s _ _ (merges {id} {i} {j} {e} q r) =
    ap (merge_of s id i j) q ∙ goes_on (first_broken e.clause.body i j) (rewritten s (instead id (merged e id j ∷ []) (Merge id i j))) r
rule_of s _ _ (adds {id} {row} {show} {e} {c} q r k) =
    ap (for_entry id (add_to s id row show)) q
    ∙ (goes_on (variables_broken e.clause row.pairs) (in_place_by s id e (with_row e.clause row) (Add id row) (shown_by 1 e.clause.rows row show)) r
    ∙ ap (in_place_by s id e (with_row e.clause row) (Add id row)) k)
rule_of s _ _ (drops {id} {i} {show} {e} {c} q r k) =
    ap (for_entry id (drop_from s id i show)) q
    ∙ (goes_on (no_row e.clause i) (in_place_by s id e (without_row e.clause (i - 1)) (Drop id i) (shown_by 1 (remove e.clause.rows (i - 1)) (row_of e.clause.rows i) show)) r
    ∙ ap (in_place_by s id e (without_row e.clause (i - 1)) (Drop id i)) k)
rule_of s _ _ (projects {id} {v} {e} q r) =
    ap (for_entry id (project_from s id v)) q ∙ goes_on (project_broken e.clause v) (in_place s id e (projected e.clause v) (Project id v)) r
rule_of s _ _ (equates {id} {v} {u} {show} {e} {c} q r k) =
    ap (for_entry id (equate_in s id v u show)) q
    ∙ (goes_on (equate_broken e.clause v u) (in_place_by s id e (equated e.clause v u) (Equate id v u) (shown_by 1 e.clause.rows (equation_of v u) show)) r
    ∙ ap (in_place_by s id e (equated e.clause v u) (Equate id v u)) k)
