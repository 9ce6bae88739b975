-- What a clause is loaded as.
use Rattle.std.proofs.Common.{◌≡◌, ℕ, Bool, true, false, List, [], ◌∷◌, map, refl, ap, ◌∙◌, sym, arith, inl, inr, Option, Some, None, Ok, Err, All, nat_lt, ◌||◌}
use Rattle.std.specs.Prelude.{not, if◌then◌else◌, Result, IfOk, IfErr, IfNone}
use Rattle.std.proofs.lemmas.Bool.{cond-true, cond-false, lt-ltb, or_left, or_right}
use Rattle.clp_model.specs.declared.sort.Sort.{Sort}
use Rattle.clp_model.specs.declared.limit.Limit.{Limit}
use Rattle.clp_model.specs.declared.limit.Limit.TheVariants.{Shape}
use Rattle.clp_model.specs.declared.tree.Variable.{Variable}
use Rattle.clp_model.specs.declared.tree.Tree.{Tree}
use Rattle.clp_model.specs.Trees.{size, depth, total_size, greatest_depth, mapped, mapped_all}
use Rattle.clp_model.specs.Clauses.{Clause, Row}
use Rattle.clp_model.specs.Canonical.{clause_size, clause_depth, place_in}
use Rattle.clp_model.proofs.RenamedTrees.{total_size_mapped, greatest_depth_mapped}
use Rattle.clp_model.proofs.Trees.{size_mapped, depth_mapped}
use Rattle.std.specs.List.{filter}
use Rattle.clp_model.specs.Predicates.{distinct_after}
use Rattle.linear_model.specs.Normal.{normal, is_within, is_always, row_eq}
use Rattle.linear_model.specs.Elimination.{cleaned}
use Rattle.linear_model.specs.Changes.{renamed}
use Rattle.lin_row.specs.Rows.{IsKept}
use Rattle.linear_laws.proofs.Normalized.{normal_normal}
use Rattle.unify_model.specs.Substituting.{Binding, image}
use Rattle.unify_model.specs.Unifying.{most_general_unifier}
use Rattle.unify_laws.proofs.Substituted.{substituted_agrees}
use Rattle.unify.specs.Unifiers.{Unifies}
use Rattle.substitution.specs.Made.{IsPastAny}
use Rattle.clause_model.specs.Variables.{variables_by_first_occurrence, rows_variables}
use Rattle.clause_model.specs.Canonical.{Overflow, TooLarge, numbered_by, with_clean_rows, canonical_form, limit_past, unless_past, new_clause, all_within}
use Rattle.clause_model.specs.Solved.{typed_variable, typed, typed_equations, number_of, carried_clause, solved_by, solved_clause, variable_number}
use Rattle.clause_model.specs.Load.{any_side_large, made_of, loaded_solved, load_one}
use Rattle.clause_laws.proofs.Rows.{each_all}
use Rattle.clause_store.proofs.RowForms.{within_kept}
use Rattle.term_store.specs.Trees.{IsOver}
use Rattle.clause_loader.specs.Carried.{with_images, all_with_images, number_by, clause_by}
use Rattle.clause_store.specs.declared.clause.Clause.{Clause as Stored}
use Rattle.clause_store.specs.declared.fault.ClauseFault.{ClauseFault}
use Rattle.clause_store.specs.declared.fault.ClauseFault.TheVariants as fault
use Rattle.clause_store.specs.Stored.{clause_in, IsRefused}
use Rattle.clause_loader.specs.Outcome.{IsRefusedSource}
use Rattle.clause_loader.proofs.Growing.{any_over}
use Rattle.clause_loader.proofs.Typed.{over_more}
use Rattle.clause_loader.proofs.Tables.{renamed_as}

-- ---- rows in normal form make the same new clause
abbrev pub with_rows : Clause → List Row → Clause
with_rows c rows = record c { rows = rows }

map_normal : (rows : List Row) → map normal (map normal rows) ≡ map normal rows
map_normal [] = refl
map_normal (r ∷ rows) =
    let a = normal_normal r in
    let b = map_normal rows in
    cc

within_normal : (rows : List Row) → all_within (map normal rows) ≡ all_within rows
within_normal [] = refl
within_normal (r ∷ rows) =
    let a = ap is_within (normal_normal r) in
    let b = within_normal rows in
    cc

clean_normal : (rows : List Row) → cleaned (map normal rows) ≡ cleaned rows
clean_normal rows = ap (λ (rs : List Row). distinct_after row_eq [] (filter (λ r. not (is_always r)) rs)) (map_normal rows)

abbrev form_with : Clause → List Row → Clause
form_with c clean = numbered_by (variables_by_first_occurrence (with_rows c clean)) (with_rows c clean)

form_is : (c : Clause) → canonical_form c ≡ form_with c (cleaned c.rows)
unfolding canonical_form
form_is c = refl

form_normal : (c : Clause) (rows : List Row) → canonical_form (with_rows c (map normal rows)) ≡ canonical_form (with_rows c rows)
form_normal c rows = form_is (with_rows c (map normal rows)) ∙ ap (form_with c) (clean_normal rows) ∙ sym (form_is (with_rows c rows))

pub new_normal : (c : Clause) (rows : List Row) → new_clause (with_rows c (map normal rows)) ≡ new_clause (with_rows c rows)
unfolding new_clause
new_normal c rows =
    ap (λ (b : Bool). if not b then Err Overflow else unless_past (limit_past (canonical_form (with_rows c (map normal rows)))) (canonical_form (with_rows c (map normal rows)))) (within_normal rows)
    ∙ ap (λ (d : Clause). if not (all_within rows) then Err Overflow else unless_past (limit_past d) d) (form_normal c rows)

-- ---- refusals
pub overflow : (c : Clause) → all_within c.rows ≡ false → new_clause c ≡ Err Overflow
unfolding new_clause
overflow c h = ap (λ (b : Bool). if not b then Err Overflow else unless_past (limit_past (canonical_form c)) (canonical_form c)) h

first_limit : (c : Clause) → (nat_lt 4096 (clause_size c) || nat_lt 256 (clause_depth c)) ≡ true → limit_past c ≡ Some Shape
unfolding limit_past
first_limit c h = cond-true _ _ _ h

form_parts : (c : Clause) → ((canonical_form c).head ≡ mapped (place_in (variables_by_first_occurrence (with_clean_rows c))) c.head) × ((canonical_form c).body ≡ mapped_all (place_in (variables_by_first_occurrence (with_clean_rows c))) c.body)
unfolding canonical_form
form_parts c = (refl, refl)

over_shape : (c : Clause) → IsOver (total_size (c.head ∷ c.body)) (greatest_depth (c.head ∷ c.body)) → limit_past c ≡ Some Shape
unfolding clause_size clause_depth
over_shape c (inl h) = first_limit c (or_left _ _ (lt-ltb 4096 (clause_size c) (omega (arith, h))))
over_shape c (inr h) = first_limit c (or_right _ _ (lt-ltb 256 (clause_depth c) (omega (arith, h))))

-- a clause whose rows are in range is refused where its head and atoms are too large
pub shape : (c : Clause) → all_within c.rows ≡ true → IsOver (total_size (c.head ∷ c.body)) (greatest_depth (c.head ∷ c.body)) → new_clause c ≡ Err (TooLarge Shape)
unfolding new_clause
shape c w h =
    let met = variables_by_first_occurrence (with_clean_rows c) in
    let p = form_parts c in
    let past = over_shape (canonical_form c)
    (over_more _ _ _ _
    (omega (arith, ap size p.0, ap total_size p.1, size_mapped (place_in met) c.head, total_size_mapped (place_in met) c.body))
    (omega (arith, ap depth p.0, ap greatest_depth p.1, depth_mapped (place_in met) c.head, greatest_depth_mapped (place_in met) c.body)) h) in
    ap (λ (b : Bool). if not b then Err Overflow else unless_past (limit_past (canonical_form c)) (canonical_form c)) w
    ∙ ap (λ (o : Option Limit). unless_past o (canonical_form c)) past

-- ---- the clause with the images in it
bodies : (sorts : List Sort) (f : Variable → Tree Variable) (ts : List (Tree ℕ)) → mapped_all number_of (all_with_images sorts f ts) ≡ map (λ t. mapped number_of (with_images sorts f t)) ts
bodies sorts f [] = refl
bodies sorts f (t ∷ ts) = ap (λ (v : List (Tree ℕ)). mapped number_of (with_images sorts f t) ∷ v) (bodies sorts f ts)

-- its parts in a store make the same new clause
pub same_new : (f : Variable → Tree Variable) (c : Clause) (head : Tree Variable) (atoms : List (Tree Variable)) (rows : List Row) (sorts : List Sort)
    → head ≡ with_images c.sorts f c.head → atoms ≡ all_with_images c.sorts f c.body → rows ≡ map (λ r. normal (renamed (number_by c.sorts f) r)) c.rows → sorts ≡ c.sorts
    → new_clause (record { head = mapped number_of head; equations = []; rows = rows; body = mapped_all number_of atoms; sorts = sorts }) ≡ new_clause (clause_by f c)
same_new f c head atoms rows sorts eh ea er es =
    let clause : Tree ℕ → List Row → List (Tree ℕ) → List Sort → Clause = λ h r b s. record { head = h; equations = []; rows = r; body = b; sorts = s } in
    let h = ap (mapped number_of) eh in
    let b = ap (mapped_all number_of) ea ∙ bodies c.sorts f c.body in
    let r = er ∙ twice (number_by c.sorts f) c.rows in
    ap (λ (x : Tree ℕ). new_clause (clause x rows (mapped_all number_of atoms) sorts)) h
    ∙ ap (λ (x : List (Tree ℕ)). new_clause (clause (clause_by f c).head rows x sorts)) b
    ∙ ap (λ (x : List Sort). new_clause (clause (clause_by f c).head rows (clause_by f c).body x)) es
    ∙ ap (λ (x : List Row). new_clause (clause (clause_by f c).head x (clause_by f c).body c.sorts)) r
    ∙ new_normal (clause_by f c) (clause_by f c).rows
  where
    twice : (g : ℕ → ℕ) (rs : List Row) → map (λ r. normal (renamed g r)) rs ≡ map normal (map (renamed g) rs)
    twice g [] = refl
    twice g (r ∷ rs) = ap (λ (v : List Row). normal (renamed g r) ∷ v) (twice g rs)

pub kept_within : (g : ℕ → ℕ) (rows kept : List Row) → kept ≡ map (λ r. normal (renamed g r)) rows → All IsKept kept → all_within (map (renamed g) rows) ≡ true
kept_within g rows kept e h = sym (within_normal (map (renamed g) rows)) ∙ ap all_within (sym (e ∙ twice rows)) ∙ within_kept kept h
  where
    twice : (rs : List Row) → map (λ r. normal (renamed g r)) rs ≡ map normal (map (renamed g) rs)
    twice [] = refl
    twice (r ∷ rs) = ap (λ (v : List Row). normal (renamed g r) ∷ v) (twice rs)

pub past_shape : (f : Variable → Tree Variable) (c : Clause) (kept : List Row) → kept ≡ map (λ r. normal (renamed (number_by c.sorts f) r)) c.rows → All IsKept kept
    → IsPastAny (all_with_images c.sorts f (c.head ∷ c.body)) → new_clause (clause_by f c) ≡ Err (TooLarge Shape)
past_shape f c kept e h past =
    let d = clause_by f c in
    let trees = all_with_images c.sorts f c.body in
    shape d (kept_within (number_by c.sorts f) c.rows kept e h)
    (over_more _ _ _ _
    (omega (arith, size_mapped number_of (with_images c.sorts f c.head), total_size_mapped number_of trees, ap total_size (bodies c.sorts f c.body)))
    (omega (arith, depth_mapped number_of (with_images c.sorts f c.head), greatest_depth_mapped number_of trees, ap greatest_depth (bodies c.sorts f c.body)))
    (any_over (all_with_images c.sorts f (c.head ∷ c.body)) past))

-- ---- what a source clause is loaded as
pub refused_side : (c : Clause) → any_side_large c.equations ≡ true → load_one c ≡ Err (TooLarge Shape)
unfolding load_one
refused_side c h = cond-true _ _ _ h

pub unsolved : (c : Clause) → any_side_large c.equations ≡ false → most_general_unifier (typed_equations c.sorts c.equations) ≡ None → load_one c ≡ Ok None
unfolding load_one solved_clause
unsolved c h e = cond-false _ _ _ h ∙ ap (λ (o : Option (List Binding)). loaded_solved (solved_by c o)) e

solved : (c : Clause) (bs : List Binding) → any_side_large c.equations ≡ false → most_general_unifier (typed_equations c.sorts c.equations) ≡ Some bs → load_one c ≡ made_of (new_clause (carried_clause c bs))
unfolding load_one solved_clause
solved c bs h e = cond-false _ _ _ h ∙ ap (λ (o : Option (List Binding)). loaded_solved (solved_by c o)) e

-- images that agree make one clause
agree_tree : (sorts : List Sort) (f g : Variable → Tree Variable) → ((v : Variable) → f v ≡ g v) → (t : Tree ℕ) → mapped number_of (with_images sorts f t) ≡ mapped number_of (with_images sorts g t)
agree_tree sorts f g h t = ap (mapped number_of) (substituted_agrees f g (typed sorts t) (λ v m. h v))

agree_trees : (sorts : List Sort) (f g : Variable → Tree Variable) → ((v : Variable) → f v ≡ g v) → (ts : List (Tree ℕ))
    → map (λ t. mapped number_of (with_images sorts f t)) ts ≡ map (λ t. mapped number_of (with_images sorts g t)) ts
agree_trees sorts f g h [] = refl
agree_trees sorts f g h (t ∷ ts) =
    ap (λ (x : Tree ℕ). x ∷ map (λ t. mapped number_of (with_images sorts f t)) ts) (agree_tree sorts f g h t)
    ∙ ap (λ (v : List (Tree ℕ)). mapped number_of (with_images sorts g t) ∷ v) (agree_trees sorts f g h ts)

pub agree : (f g : Variable → Tree Variable) → ((v : Variable) → f v ≡ g v) → (c : Clause) → clause_by f c ≡ clause_by g c
agree f g h c =
    let clause : Tree ℕ → List Row → List (Tree ℕ) → Clause = λ x r b. record { head = x; equations = []; rows = r; body = b; sorts = c.sorts } in
    let rows = renamed_as (number_by c.sorts f) (number_by c.sorts g) c.rows (each_all (λ n. number_by c.sorts f n ≡ number_by c.sorts g n) (rows_variables c.rows) (λ n m. ap variable_number (h (typed_variable c.sorts n)))) in
    ap (λ (x : Tree ℕ). clause x (clause_by f c).rows (clause_by f c).body) (agree_tree c.sorts f g h c.head)
    ∙ ap (λ (x : List Row). clause (clause_by g c).head x (clause_by f c).body) rows
    ∙ ap (λ (x : List (Tree ℕ)). clause (clause_by g c).head (clause_by g c).rows x) (agree_trees c.sorts f g h c.body)

pub loads : (f : Variable → Tree Variable) (c : Clause) → any_side_large c.equations ≡ false → Unifies (typed_equations c.sorts c.equations) f → load_one c ≡ made_of (new_clause (clause_by f c))
loads f c h u = solved c u.unifier h u.is ∙ ap (λ (d : Clause). made_of (new_clause d)) (sym (agree f (image u.unifier) u.images c))

-- ---- what the calls answer
pub none_as : {S : Type 0} (o : Option S) (P Q : Type 0) → (P → Q) → IfNone o P → IfNone o Q
none_as None P Q f h = f h
none_as (Some s) P Q f h = tt

pub made_as : (r : Result Stored ClauseFault) (store : List (Tree Variable)) (c raw : Clause) → load_one c ≡ made_of (new_clause raw)
    → IfOk r (λ k. new_clause raw ≡ Ok (clause_in store k)) → IfOk r (λ k. load_one c ≡ Ok (Some (clause_in store k)))
made_as (Ok k) store c raw e h = e ∙ ap made_of h
made_as (Err x) store c raw e h = tt

pub fault_as : (x : ClauseFault) (c raw : Clause) → load_one c ≡ made_of (new_clause raw) → IsRefused raw x → IsRefusedSource c x
fault_as fault.Overflow c raw e h = e ∙ ap made_of h
fault_as (fault.TooLarge limit) c raw e h = e ∙ ap made_of h
fault_as fault.NoMemory c raw e h = tt

pub refused_as : (r : Result Stored ClauseFault) (c raw : Clause) → load_one c ≡ made_of (new_clause raw) → IfErr r (IsRefused raw) → IfErr r (IsRefusedSource c)
refused_as (Ok k) c raw e h = tt
refused_as (Err x) c raw e h = fault_as x c raw e h
