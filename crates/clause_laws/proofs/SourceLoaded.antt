-- The source of a canonical clause is loaded as the clause.
use Rattle.std.proofs.Common.{◌≡◌, ℕ, List, [], ◌∷◌, true, refl, sym, ◌∙◌, ap, subst, map}
use Rattle.std.specs.Prelude.{not, if◌then◌else◌, Some, None, Ok, Err}
use Rattle.std.proofs.Math.IntN.{ℤ}
use Rattle.clp_model.specs.declared.sort.Sort.{Sort}
use Rattle.clp_model.specs.declared.tree.Tree.{Tree, Var, App', Row_of-Tree, end_of-Tree, more_of-Tree}
use Rattle.clp_model.specs.Trees.{mapped, mapped_row}
use Rattle.clp_model.specs.Clauses.{Clause, Row}
use Rattle.clp_model.specs.Canonical.{place_in}
use Rattle.clp_model.proofs.Membership.{Among, first, next}
use Rattle.linear_model.specs.Forms.{IsRising}
use Rattle.linear_model.specs.Normal.{is_within, normal}
use Rattle.linear_model.specs.Changes.{renamed}
use Rattle.linear_laws.proofs.Lists.{mapped_out}
use Rattle.unify_model.specs.Substituting.{substituted, substituted_row, image}
use Rattle.unify_model.specs.Unifying.{most_general_unifier}
use Rattle.clause_model.specs.Variables.{variables_as_printed}
use Rattle.clause_model.specs.Canonical.{Overflow, all_within, limit_past, unless_past, new_clause, canonical_form, numbered_by, IsCanonical}
use Rattle.clause_model.specs.Solved.{typed_variable, number_of, carried, carried_clause, typed_equations, image_number, solved_by, solved_clause}
use Rattle.clause_model.specs.Load.{load_one, loaded_solved, made_of}
use Rattle.clause_model.specs.Source.{source_of}
use Rattle.clause_laws.proofs.Renaming.{renamed_same}
use Rattle.clause_laws.proofs.Written.{written, written_rises, written_normal}
use Rattle.clause_laws.proofs.NewClause.{each_within, within_each, written_within}
use Rattle.clause_laws.proofs.Source.{row_is_normal, q_row, source_form}

-- ---- no bindings change nothing
mutual
  unfolding mapped substituted

  pub nothing_carried : (sorts : List Sort) (t : Tree ℕ) → mapped number_of (substituted (image []) (mapped (typed_variable sorts) t)) ≡ t
  nothing_carried sorts (Var n) = refl
  nothing_carried sorts (App' name shape args) = ap (App' name shape) (row_nothing_carried sorts args)

  row_nothing_carried : {m : _} (sorts : List Sort) (ts : Row_of-Tree ℕ m) → mapped_row number_of (substituted_row (image []) (mapped_row (typed_variable sorts) ts)) ≡ ts
  row_nothing_carried sorts end_of-Tree = refl
  row_nothing_carried sorts (more_of-Tree t ts) = let a = nothing_carried sorts t in let b = row_nothing_carried sorts ts in cc

all_nothing : (sorts : List Sort) (ts : List (Tree ℕ)) → map (carried sorts []) ts ≡ ts
all_nothing sorts [] = refl
all_nothing sorts (t ∷ ts) = let a = nothing_carried sorts t in let b = all_nothing sorts ts in cc

rows_nothing : (sorts : List Sort) (rows : List Row) → ((r : Row) → Among r rows → IsRising r.pairs) → map (renamed (image_number sorts [])) rows ≡ rows
rows_nothing sorts [] h = refl
rows_nothing sorts (r ∷ rows) h =
    let a : renamed (image_number sorts []) r ≡ r = ap (λ (ps : List (ℕ × ℤ)). record { rel = r.rel; pairs = ps; constant = r.constant }) (renamed_same (image_number sorts []) r.pairs (h r first) (λ n m. refl)) in
    let b = rows_nothing sorts rows (λ s m. h s (next m)) in
    cc

-- a clause without equations, whose rows rise, is its own solved clause
pub solved_already : (c : Clause) → c.equations ≡ [] → ((r : Row) → Among r c.rows → IsRising r.pairs) → solved_clause c ≡ Some c
unfolding solved_clause most_general_unifier
solved_already c none rises =
    let heads = nothing_carried c.sorts c.head in
    let bodies = all_nothing c.sorts c.body in
    let rows = rows_nothing c.sorts c.rows rises in
    let d : carried_clause c [] ≡ c =
    ap (λ (t : Tree ℕ). record { head = t; equations = []; rows = map (renamed (image_number c.sorts [])) c.rows; body = map (carried c.sorts []) c.body; sorts = c.sorts }) heads
    ∙ (ap (λ (rs : List Row). record { head = c.head; equations = []; rows = rs; body = map (carried c.sorts []) c.body; sorts = c.sorts }) rows
    ∙ (ap (λ (ts : List (Tree ℕ)). record { head = c.head; equations = []; rows = c.rows; body = ts; sorts = c.sorts }) bodies
    ∙ ap (λ (es : List (Tree ℕ × Tree ℕ)). record c { equations = es }) (sym none))) in
    ap (λ (es : List (Tree ℕ × Tree ℕ)). solved_by c (most_general_unifier (typed_equations c.sorts es))) none ∙ ap Some d

module _ (c : Clause) (h : IsCanonical c) where
  abbrev numbered : Clause
  numbered = numbered_by (variables_as_printed c) c

  source_rises : (r : Row) → Among r numbered.rows → IsRising r.pairs
  source_rises r a = mapped_out (written (place_in (variables_as_printed c))) c.rows (λ (x : Row). IsRising x.pairs) (λ s m. written_rises (place_in (variables_as_printed c)) s) r a

  source_within : all_within numbered.rows ≡ true
  source_within =
      let q = place_in (variables_as_printed c) in
      within_each numbered.rows (λ t a. mapped_out (written q) c.rows (λ x. is_within (normal x) ≡ true)
      (λ s m. subst (λ x. is_within x ≡ true) (sym (written_normal q s))
      (written_within q s (row_is_normal c h s m) (q_row c h s m)
      (subst (λ x. is_within x ≡ true) ((row_is_normal c h s m).stays) (each_within c.rows h.range s m)))) t a)

  source_new : new_clause numbered ≡ Ok c
  unfolding new_clause
  source_new =
      let a = source_within in
      let b = source_form c h in
      let l : limit_past (canonical_form numbered) ≡ None = ap limit_past b ∙ h.limits in
      ap (λ t. if not t then Err Overflow else unless_past (limit_past (canonical_form numbered)) (canonical_form numbered)) a
      ∙ (ap (λ o. unless_past o (canonical_form numbered)) l ∙ ap Ok b)

  pub source_is_loaded : load_one (source_of c) ≡ Ok (Some c)
  unfolding load_one source_of
  source_is_loaded = ap loaded_solved (solved_already numbered refl source_rises) ∙ ap made_of source_new
