-- The rules on constraints keep instances, and so the rank.
use Rattle.std.proofs.Common.{◌≡◌, ℕ, zero, suc, ◌<◌, List, [], ◌∷◌, ◌++◌, length, get_or, Bool, true, false, arith, refl, sym, ◌∙◌, ap, subst, map, ◌⊎◌, inl, inr}
use Rattle.std.specs.Prelude.{nat_eq, nat_lt, remove, if◌then◌else◌, All, Contains}
use Rattle.std.proofs.lemmas.Bool.{eqb-true}
use Rattle.std.proofs.lemmas.List.Elements.{All-nil, All-same}
use Rattle.std.proofs.Math.IntN.{ℤ, pos, negsuc, ◌+ℤ◌, ◌*ℤ◌}
use Rattle.std.proofs.lemmas.Int.{ints}
use Rattle.clp_model.specs.declared.sort.Sort.{Sort}
use Rattle.clp_model.specs.declared.sort.Sort.TheVariants.{Any, Num}
use Rattle.clp_model.specs.Trees.{mapped, mapped_all, variables, variables_in}
use Rattle.clp_model.specs.Values.{GroundAtom, Valuation, variable_value, number_over, atom_of}
use Rattle.clp_model.specs.Clauses.{Clause, Row, Instance, EquationHolds, RowHolds, sort_in, ground_of, sum_of}
use Rattle.clp_model.proofs.Membership.{Among, first, next, among_front, among_back, among_mapped}
use Rattle.clp_meaning.specs.Laws.{HaveSameInstances}
use Rattle.linear_model.specs.Changes.{renamed}
use Rattle.linear_model.specs.Certificates.{Entails, Unsatisfiable}
use Rattle.linear_model.specs.Elimination.{SameBut}
use Rattle.linear_laws.proofs.Cleaning.{elimination_exact}
use Rattle.linear_laws.proofs.Lists.{mapped_out}
use Rattle.unify_laws.proofs.Solved.{among_cases}
use Rattle.unify_laws.proofs.Scaling.{same_value}
use Rattle.clp_rank.specs.Rules.{Keeps}
use Rattle.clp_rank.specs.Entries.{Entry, setting}
use Rattle.clause_model.specs.Canonical.{canonical_form}
use Rattle.clause_laws.specs.Laws.{HasNoInstance}
use Rattle.clause_laws.proofs.Rows.{all_each, each_all, renamed_holds}
use Rattle.clause_laws.proofs.Numbering.{value_mapped, atoms_mapped, canonical_form_keeps_instances}
use Rattle.replace_model.specs.Rows.{with_row, without_row, projected, replacing, equated, equation_of}
use Rattle.rule_laws.specs.Rows.{IsReplacement, IsDeletion}
use Rattle.rule_laws.proofs.Unfolding.{same_value_of, same_grounds, all_both, all_front}

-- ---- other rows with the same solutions
rows_changed : (c : Clause) (rows : List Row) → ((u : Valuation) → All (RowHolds u) c.rows → All (RowHolds u) rows) → ((u : Valuation) → All (RowHolds u) rows → All (RowHolds u) c.rows) → HaveSameInstances (record c { rows = rows }) c
rows_changed c rows to from = (
  (λ a body i. record { valuation = i.valuation; equations = i.equations; rows = to i.valuation i.rows; head_is = i.head_is; body_is = i.body_is }),
  (λ a body i. record { valuation = i.valuation; equations = i.equations; rows = from i.valuation i.rows; head_is = i.head_is; body_is = i.body_is }),
)

one_row : (u : Valuation) (r : Row) → RowHolds u r → All (RowHolds u) (r ∷ [])
one_row u r h = each_all (RowHolds u) (r ∷ []) (λ x m. among_cases m (λ e. subst (RowHolds u) (sym e) h) (λ k. elim k [ ]))

pub added_row : (c : Clause) (r : Row) → Entails c.rows r → HaveSameInstances (with_row c r) c
added_row c r shown = rows_changed c (c.rows ++ r ∷ []) (λ u h. all_both u c.rows (r ∷ []) h (one_row u r (shown u h))) (λ u h. all_front u c.rows (r ∷ []) h)

among_removed : (rows : List Row) (i : ℕ) (d r : Row) → i < length rows → Among r rows → (r ≡ get_or rows i d) ⊎ Among r (remove rows i)
among_removed [] i d r l a = elim a [ ]
among_removed (x ∷ rows) zero d r l a = among_cases a (λ e. inl e) (λ m. inr m)
among_removed (x ∷ rows) (suc i) d r l a = among_cases a
    (λ e. inr (subst (λ z. Among z (x ∷ remove rows i)) (sym e) first))
    (λ m. elim (among_removed rows i d r (omega arith) m) [ inl e ↦ inl e | inr k ↦ inr (next k) ])

removed_among : (rows : List Row) (i : ℕ) (r : Row) → Among r (remove rows i) → Among r rows
removed_among [] zero r a = elim a [ ]
removed_among [] (suc i) r a = elim a [ ]
removed_among (x ∷ rows) zero r a = next a
removed_among (x ∷ rows) (suc i) r a = among_cases a (λ e. subst (λ z. Among z (x ∷ rows)) (sym e) first) (λ m. next (removed_among rows i r m))

pub dropped_row : (c : Clause) (i : ℕ) (d : Row) → i < length c.rows → Entails (remove c.rows i) (get_or c.rows i d) → HaveSameInstances (without_row c i) c
dropped_row c i d l shown = rows_changed c (remove c.rows i)
    (λ u h. each_all (RowHolds u) (remove c.rows i) (λ r m. all_each (RowHolds u) c.rows h r (removed_among c.rows i r m)))
    (λ u h. each_all (RowHolds u) c.rows (λ r m. elim (among_removed c.rows i d r l m) [ inl e ↦ subst (RowHolds u) (sym e) (shown u h) | inr k ↦ all_each (RowHolds u) (remove c.rows i) h r k ]))

pub false_rows : (c : Clause) → Unsatisfiable c.rows → HasNoInstance c
false_rows c none a body i = none i.valuation i.rows

-- ---- elimination of a variable that is in no atom
module _ (c : Clause) (v : ℕ) (none : c.equations ≡ []) (unused : ¬ Among v (variables_in (c.head ∷ c.body))) where
  module _ (u w : Valuation) (same : SameBut v u w) where
    value_same : (n : ℕ) (s : Sort) → ¬ (n ≡ v) → variable_value w n s ≡ variable_value u n s
    value_same n Any k = same.values n
    value_same n Num k = same_value (w.number n) (u.number n) w.whole u.whole w.positive u.positive (same.numbers n k)

    agree : (n : ℕ) → Among n (variables_in (c.head ∷ c.body)) → variable_value w n (sort_in c.sorts n) ≡ variable_value u n (sort_in c.sorts n)
    agree n a = value_same n (sort_in c.sorts n) (λ e. unused (subst (λ z. Among z (variables_in (c.head ∷ c.body))) e a))

    head_same : ground_of c.sorts w c.head ≡ ground_of c.sorts u c.head
    head_same = ap atom_of (same_value_of c.sorts c.sorts w u c.head (λ n a. agree n (among_front n (variables c.head) (variables_in c.body) a)))

    body_same : map (ground_of c.sorts w) c.body ≡ map (ground_of c.sorts u) c.body
    body_same = same_grounds c.sorts c.sorts w u c.body (λ n a. agree n (among_back n (variables c.head) (variables_in c.body) a))

  no_equations : (u : Valuation) → All (EquationHolds c.sorts u) c.equations
  no_equations u = All-same (EquationHolds c.sorts u) c.equations [] none (All-nil (EquationHolds c.sorts u))

  itself : (u : Valuation) → SameBut v u u
  itself u = record { numbers = λ n k. refl; values = λ n. refl }

  pub projected_clause : HaveSameInstances (projected c v) c
  projected_clause = (
    (λ a body i. record { valuation = i.valuation; equations = i.equations; rows = (elimination_exact v c.rows i.valuation).1 (i.valuation, itself i.valuation, i.rows); head_is = i.head_is; body_is = i.body_is }),
    (λ a body i.
        let x = (elimination_exact v c.rows i.valuation).0 i.rows in
        record { valuation = x.0; equations = no_equations x.0; rows = x.2; head_is = i.head_is ∙ sym (head_same i.valuation x.0 x.1); body_is = i.body_is ∙ sym (body_same i.valuation x.0 x.1) }),
  )

-- ---- one variable in the place of another that is equal to it
module _ (c : Clause) (v w : ℕ) (none : c.equations ≡ []) (nv : sort_in c.sorts v ≡ Num) (nw : sort_in c.sorts w ≡ Num) (equal : (u : Valuation) → All (RowHolds u) c.rows → u.number v ≡ u.number w) where
  abbrev f : ℕ → ℕ
  f = replacing v w

  at_v : (n : ℕ) → ((n ≡ v) × (f n ≡ w)) ⊎ (f n ≡ n)
  at_v n = by (nat_eq n v) refl
    where
      by : (b : Bool) → nat_eq n v ≡ b → ((n ≡ v) × (f n ≡ w)) ⊎ (f n ≡ n)
      by true e = inl (eqb-true n v e, ap (λ b. if b then w else n) e)
      by false e = inr (ap (λ b. if b then w else n) e)

  -- u, with the number of w for v
  abbrev moved : Valuation → Valuation
  moved u = record { whole = u.whole; positive = u.positive; number = λ n. u.number (f n); value = u.value }

  -- a variable has under the one what its new name has under the other
  moved_value : (u : Valuation) (n : ℕ) → variable_value u (f n) (sort_in c.sorts (f n)) ≡ variable_value (moved u) n (sort_in c.sorts n)
  moved_value u n = elim (at_v n) [
    | inl k ↦
        ap (variable_value u (f n)) (ap (sort_in c.sorts) k.1 ∙ nw) ∙ sym (ap (variable_value (moved u) n) (ap (sort_in c.sorts) k.0 ∙ nv))
    | inr e ↦ ap (λ m. variable_value u (f n) (sort_in c.sorts m)) e ∙ by (sort_in c.sorts n) e
  ]
    where
      by : (s : Sort) → f n ≡ n → variable_value u (f n) s ≡ variable_value (moved u) n s
      by Any e = ap u.value e
      by Num e = refl

  kept_value : (u : Valuation) → u.number v ≡ u.number w → (n : ℕ) → variable_value u (f n) (sort_in c.sorts (f n)) ≡ variable_value u n (sort_in c.sorts n)
  kept_value u q n = elim (at_v n) [
    | inl k ↦
        ap (λ m. variable_value u m (sort_in c.sorts m)) k.1 ∙ (ap (variable_value u w) nw
        ∙ (ap (λ (z : ℤ). number_over z u.whole u.positive) (sym q) ∙ sym (ap (λ m. variable_value u m (sort_in c.sorts m)) k.0 ∙ ap (variable_value u v) nv)))
    | inr e ↦ ap (λ m. variable_value u m (sort_in c.sorts m)) e
  ]

  kept_number : (u : Valuation) → u.number v ≡ u.number w → (n : ℕ) → u.number n ≡ u.number (f n)
  kept_number u q n = elim (at_v n) [
    | inl k ↦ ap u.number k.0 ∙ (q ∙ sym (ap u.number k.1))
    | inr e ↦ sym (ap u.number e)
  ]

  no_equation : (u : Valuation) → All (EquationHolds c.sorts u) c.equations
  no_equation u = All-same (EquationHolds c.sorts u) c.equations [] none (All-nil (EquationHolds c.sorts u))

  pub equated_clause : HaveSameInstances (equated c v w) c
  equated_clause = (
    (λ a body i.
        let u = i.valuation in
        let q = equal u i.rows in
        let head : ground_of c.sorts u (mapped f c.head) ≡ ground_of c.sorts u c.head = ap atom_of (value_mapped f (sort_in c.sorts) (sort_in c.sorts) u u c.head (λ n m. kept_value u q n)) in
        let atoms : map (ground_of c.sorts u) (mapped_all f c.body) ≡ map (ground_of c.sorts u) c.body = atoms_mapped f (sort_in c.sorts) (sort_in c.sorts) u u c.body (λ n m. kept_value u q n) in
        record {
          valuation = u;
          equations = All-nil (EquationHolds c.sorts u);
          rows = each_all (RowHolds u) (map (renamed f) c.rows) (λ r m. mapped_out (renamed f) c.rows (RowHolds u) (λ s k. (renamed_holds f u u s refl (λ n x. kept_number u q n)).1 (all_each (RowHolds u) c.rows i.rows s k)) r m);
          head_is = i.head_is ∙ sym head;
          body_is = i.body_is ∙ sym atoms;
        }),
    (λ a body i.
        let u = i.valuation in
        let x = moved u in
        let head : ground_of c.sorts u (mapped f c.head) ≡ ground_of c.sorts x c.head = ap atom_of (value_mapped f (sort_in c.sorts) (sort_in c.sorts) u x c.head (λ n m. moved_value u n)) in
        let atoms : map (ground_of c.sorts u) (mapped_all f c.body) ≡ map (ground_of c.sorts x) c.body = atoms_mapped f (sort_in c.sorts) (sort_in c.sorts) u x c.body (λ n m. moved_value u n) in
        record {
          valuation = x;
          equations = no_equation x;
          rows = each_all (RowHolds x) c.rows (λ s k. (renamed_holds f u x s refl (λ n y. refl)).0 (all_each (RowHolds u) (map (renamed f) c.rows) i.rows (renamed f s) (among_mapped (renamed f) k)));
          head_is = i.head_is ∙ head;
          body_is = i.body_is ∙ atoms;
        }),
  )

-- what the equation of two variables says
difference : (x y : ℤ) → (pos 1 *ℤ x +ℤ (negsuc 0 *ℤ y +ℤ pos 0)) +ℤ pos 0 *ℤ pos 1 ≡ pos 0 → x ≡ y
difference x y e = let a = one_times x in let b = minus_one y in omega (arith, ints)
  where
    one_times : (x : ℤ) → pos 1 *ℤ x ≡ x
    one_times x = omega (arith, ints)

    minus_one : (y : ℤ) → (negsuc 0 *ℤ y) +ℤ y ≡ pos 0
    minus_one y = omega (arith, ints)

equation_says : (u : Valuation) (v w : ℕ) → RowHolds u (equation_of v w) → u.number v ≡ u.number w
equation_says u v w h = by (nat_lt v w) h
  where
    zero_constant : pos 0 *ℤ pos u.whole ≡ pos 0 *ℤ pos 1
    zero_constant = omega (arith, ints)

    by : (b : Bool) → sum_of u.number (if b then (v, pos 1) ∷ (w, negsuc 0) ∷ [] else (w, pos 1) ∷ (v, negsuc 0) ∷ []) +ℤ pos 0 *ℤ pos u.whole ≡ pos 0 → u.number v ≡ u.number w
    by true h = difference (u.number v) (u.number w) (ap (λ z. (pos 1 *ℤ u.number v +ℤ (negsuc 0 *ℤ u.number w +ℤ pos 0)) +ℤ z) (sym zero_constant) ∙ h)
    by false h = sym (difference (u.number w) (u.number v) (ap (λ z. (pos 1 *ℤ u.number w +ℤ (negsuc 0 *ℤ u.number v +ℤ pos 0)) +ℤ z) (sym zero_constant) ∙ h))

pub equated_by_row : (c : Clause) (v w : ℕ) → c.equations ≡ [] → sort_in c.sorts v ≡ Num → sort_in c.sorts w ≡ Num → Entails c.rows (equation_of v w) → HaveSameInstances (equated c v w) c
equated_by_row c v w none nv nw shown = equated_clause c v w none nv nw (λ u h. equation_says u v w (shown u h))

-- ---- the records
module _ (defined : GroundAtom → Bool) (live live' : List Entry) (k : Entry) where
  pub replacement_keeps : (c : Clause) → HaveSameInstances c k.clause → IsReplacement live live' k c → Keeps (setting defined) (Contains live) (Contains live') k
  replacement_keeps c same h =
      let form = canonical_form_keeps_instances c h.no_equations in
      let new : Entry = record { clause = canonical_form c; mark = k.mark } in
      record {
        was = h.was;
        kept = h.kept;
        instead = λ a body i. (new, h.now, refl, form.0 a body (same.0 a body i));
        old = λ r l. elim (h.old r l) [
          | inl e ↦ inr (ap (λ (x : Entry). x.mark) e, λ a body i. same.1 a body (form.1 a body (subst (λ (x : Entry). Instance x.clause a body) e i)))
          | inr o ↦ inl o
        ];
      }

  pub deletion_keeps : HasNoInstance k.clause → IsDeletion live live' k → Keeps (setting defined) (Contains live) (Contains live') k
  deletion_keeps none h = record {
    was = h.was;
    kept = h.kept;
    instead = λ a body i. absurd (none a body i);
    old = λ r l. inl (h.old r l);
  }
