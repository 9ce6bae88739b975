-- The names and predicates of canonical forms, solved clauses, and of what the rules make.
use Rattle.std.proofs.Common.{◌≡◌, ℕ, zero, suc, List, [], ◌∷◌, ◌++◌, refl, ap, subst, Bool, true, false}
use Rattle.std.specs.Prelude.{if◌then◌else◌, not, length, take, drop, remove, slice_index_or, All, Option, Some, None, Result, Ok, Err}
use Rattle.std.proofs.lemmas.List.Elements.{All-nil, All-cons, All-head, All-tail, All-append, All-take, All-drop, All-map}
use Rattle.clp_model.specs.declared.limit.Limit.{Limit}
use Rattle.clp_model.specs.declared.predicate.Pred.{Pred}
use Rattle.clp_model.specs.declared.sort.Sort.{Sort}
use Rattle.clp_model.specs.declared.tree.Tree.{Tree}
use Rattle.clp_model.specs.Trees.{mapped, mapped_all}
use Rattle.clp_model.specs.Canonical.{place_in}
use Rattle.clp_model.specs.Clauses.{Clause, Row}
use Rattle.clp_meaning.specs.Laws.{without_atom}
use Rattle.linear_model.specs.Elimination.{elimination}
use Rattle.replace_model.specs.Rows.{replacing, equated}
use Rattle.unify_model.specs.Substituting.{Binding, image, substituted}
use Rattle.unify_model.specs.Unifying.{most_general_unifier}
use Rattle.clause_model.specs.Variables.{variables_by_first_occurrence}
use Rattle.clause_model.specs.Canonical.{Refusal, Overflow, all_within, limit_past, unless_past, new_clause, canonical_form, with_clean_rows}
use Rattle.clause_model.specs.Solved.{typed, typed_variable, typed_equations, number_of, carried, carried_clause, solved_by, solved_clause}
use Rattle.unfold_model.specs.Resolvent.{past, joined_clause, resolvent}
use Rattle.name_laws.specs.Names.{HasNames, IsAtomOver, AreOver, EquationsHaveNames}
use Rattle.name_laws.specs.Laws.{CanonicalFormKeepsNames, NewClauseKeepsNames, SolvedClauseKeepsNames, ResolventKeepsNames, WithoutAtomKeepsNames, RowRulesKeepNames}
use Rattle.name_laws.proofs.Trees.{names_mapped, atom_mapped, atom_substituted}
use Rattle.name_laws.proofs.Unifiers.{unifier_keeps}

-- ---- what an answer holds
pub ok_is : {c d : Clause} → ◌≡◌ {A = Result Clause Refusal} (Ok c) (Ok d) → c ≡ d
ok_is {c} e = let back : Result Clause Refusal → Clause = elim [ Ok x ↦ x | Err r ↦ c ] in ap back e

pub some_is : {c d : Clause} → ◌≡◌ {A = Option Clause} (Some c) (Some d) → c ≡ d
some_is {c} e = let back : Option Clause → Clause = elim [ Some x ↦ x | None ↦ c ] in ap back e

-- what is made of a new clause is its canonical form
pub new_is_form : (c d : Clause) → new_clause c ≡ Ok d → canonical_form c ≡ d
unfolding new_clause
new_is_form c d e = by (all_within c.rows) (limit_past (canonical_form c)) e
  where
    by : (b : Bool) (o : Option Limit) → (if not b then Err Overflow else unless_past o (canonical_form c)) ≡ Ok d → canonical_form c ≡ d
    by false o h = absurd (cc)
    by true (Some limit) h = absurd (cc)
    by true None h = ok_is h

module _ (p : List ℕ → Bool) (q : Pred → Bool) where
  pub atoms_mapped : (f : ℕ → ℕ) (ts : List (Tree ℕ)) → All (IsAtomOver p q) ts → All (IsAtomOver p q) (mapped_all f ts)
  atoms_mapped f [] h = All-nil (IsAtomOver p q)
  atoms_mapped f (t ∷ ts) h =
      All-cons (IsAtomOver p q) (mapped f t) (mapped_all f ts) (atom_mapped p q f t (All-head (IsAtomOver p q) t ts h)) (atoms_mapped f ts (All-tail (IsAtomOver p q) t ts h))

  pub form_over : (c : Clause) → AreOver p q c → AreOver p q (canonical_form c)
  unfolding canonical_form
  form_over c h =
      let place = place_in (variables_by_first_occurrence (with_clean_rows c)) in
      record { head = atom_mapped p q place c.head h.head; body = atoms_mapped place c.body h.body }

  -- ---- equations solved
  typed_have : (sorts : List Sort) (es : List (Tree ℕ × Tree ℕ)) → All (λ e. HasNames p e.0 × HasNames p e.1) es → All (λ e. HasNames p e.0 × HasNames p e.1) (typed_equations sorts es)
  typed_have sorts [] h = All-nil (λ e. HasNames p e.0 × HasNames p e.1)
  typed_have sorts (e ∷ es) h =
      let one = All-head (λ x. HasNames p x.0 × HasNames p x.1) e es h in
      All-cons (λ x. HasNames p x.0 × HasNames p x.1) (typed sorts e.0, typed sorts e.1) (typed_equations sorts es)
      (names_mapped p (typed_variable sorts) e.0 one.0, names_mapped p (typed_variable sorts) e.1 one.1)
      (typed_have sorts es (All-tail (λ x. HasNames p x.0 × HasNames p x.1) e es h))

  carried_over : (c : Clause) (bs : List Binding) → EquationsHaveNames p c → most_general_unifier (typed_equations c.sorts c.equations) ≡ Some bs → AreOver p q c → AreOver p q (carried_clause c bs)
  carried_over c bs es e h = record {
    head = atom c.head h.head;
    body = All-map (IsAtomOver p q) (carried c.sorts bs) c.body (each c.body h.body);
  }
    where
      atom : (t : Tree ℕ) → IsAtomOver p q t → IsAtomOver p q (carried c.sorts bs t)
      atom t k =
          atom_mapped p q number_of (substituted (image bs) (typed c.sorts t))
          (atom_substituted p q (image bs) (unifier_keeps p (typed_equations c.sorts c.equations) bs (typed_have c.sorts c.equations es) e) (typed c.sorts t)
          (atom_mapped p q (typed_variable c.sorts) t k))

      each : (ts : List (Tree ℕ)) → All (IsAtomOver p q) ts → All (λ t. IsAtomOver p q (carried c.sorts bs t)) ts
      each ts k i d lt = atom (slice_index_or ts i d) (k i d lt)

  solved_over : (c d : Clause) → EquationsHaveNames p c → AreOver p q c → solved_clause c ≡ Some d → AreOver p q d
  unfolding solved_clause
  solved_over c d es h e = by (most_general_unifier (typed_equations c.sorts c.equations)) refl e
    where
      by : (o : Option (List Binding)) → most_general_unifier (typed_equations c.sorts c.equations) ≡ o → solved_by c o ≡ Some d → AreOver p q d
      by None u k = absurd (cc)
      by (Some bs) u k = subst (AreOver p q) (some_is k) (carried_over c bs es u h)

  -- ---- the rules
  -- the atom at a place, or the head where there is none
  pub atom_or_head : (ts : List (Tree ℕ)) (i : ℕ) (t : Tree ℕ) → IsAtomOver p q t → All (IsAtomOver p q) ts → IsAtomOver p q (slice_index_or ts i t)
  atom_or_head [] i t h k = h
  atom_or_head (u ∷ us) zero t h k = All-head (IsAtomOver p q) u us k
  atom_or_head (u ∷ us) (suc i) t h k = atom_or_head us i t h (All-tail (IsAtomOver p q) u us k)

  joined_over : (c : Clause) (i : ℕ) (e : Clause) → AreOver p q c → AreOver p q e → EquationsHaveNames p (joined_clause c i e) × AreOver p q (joined_clause c i e)
  joined_over c i e h k =
      let f = past (length c.sorts) in (
        All-cons (λ x. HasNames p x.0 × HasNames p x.1) (slice_index_or c.body i c.head, mapped f e.head) []
            ((atom_or_head c.body i c.head h.head h.body).names, names_mapped p f e.head k.head.names) (All-nil (λ x. HasNames p x.0 × HasNames p x.1)),
        record {
          head = h.head;
          body = All-append (IsAtomOver p q) (take i c.body) (mapped_all f e.body ++ drop (suc i) c.body) (All-take (IsAtomOver p q) i c.body h.body)
              (All-append (IsAtomOver p q) (mapped_all f e.body) (drop (suc i) c.body) (atoms_mapped f e.body k.body) (All-drop (IsAtomOver p q) (suc i) c.body h.body));
        },
      )

  resolvent_over : (c : Clause) (i : ℕ) (e d : Clause) → AreOver p q c → AreOver p q e → resolvent c i e ≡ Some d → AreOver p q d
  unfolding resolvent
  resolvent_over c i e d h k r = let j = joined_over c i e h k in solved_over (joined_clause c i e) d j.0 j.1 r

  without_over : (c : Clause) (i : ℕ) → AreOver p q c → AreOver p q (without_atom c i)
  without_over c i h = record {
    head = h.head;
    body = All-append (IsAtomOver p q) (take i c.body) (drop (suc i) c.body) (All-take (IsAtomOver p q) i c.body h.body) (All-drop (IsAtomOver p q) (suc i) c.body h.body);
  }

  -- other rows, and a variable in the place of another
  rows_over : (c : Clause) (rows : List Row) → AreOver p q c → AreOver p q (record c { rows = rows })
  rows_over c rows h = record { head = h.head; body = h.body }

  equated_over : (c : Clause) (v w : ℕ) → AreOver p q c → AreOver p q (equated c v w)
  equated_over c v w h = record { head = atom_mapped p q (replacing v w) c.head h.head; body = atoms_mapped (replacing v w) c.body h.body }

pub form_keeps : CanonicalFormKeepsNames
form_keeps p q c h = form_over p q c h

pub new_keeps : NewClauseKeepsNames
new_keeps p q c d h e = subst (AreOver p q) (new_is_form c d e) (form_over p q c h)

pub solved_keeps : SolvedClauseKeepsNames
solved_keeps p q c d es h e = solved_over p q c d es h e

pub resolvent_keeps : ResolventKeepsNames
resolvent_keeps p q c i e d h k r = resolvent_over p q c i e d h k r

pub without_keeps : WithoutAtomKeepsNames
without_keeps p q c i h = without_over p q c i h

pub row_rules_keep : RowRulesKeepNames
row_rules_keep p q c h = (
  (λ r. rows_over p q c (c.rows ++ r ∷ []) h),
  (λ i. rows_over p q c (remove c.rows i) h),
  (λ v. rows_over p q c (elimination v c.rows) h),
  (λ v w. equated_over p q c v w h),
)
