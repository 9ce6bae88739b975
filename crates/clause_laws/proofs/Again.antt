-- The canonical form of a canonical form.
use Rattle.std.proofs.Common.{◌≡◌, ℕ, zero, suc, ◌+◌, ◌-◌, ◌<◌, ◌≤◌, List, [], ◌∷◌, ◌++◌, length, Bool, true, false, arith, refl, sym, ◌∙◌, ap, subst, eq-eqb, map, ◌⊎◌, inl, inr}
use Rattle.std.specs.Prelude.{slice_index_or, nat_eq, if◌then◌else◌}
use Rattle.std.proofs.lemmas.Bool.{eqb-true}
use Rattle.std.proofs.lemmas.List.{append_assoc, append-nil, length-append}
use Rattle.clp_model.specs.declared.sort.Sort.{Sort}
use Rattle.clp_model.specs.declared.sort.Sort.TheVariants.{Any}
use Rattle.clp_model.specs.declared.tree.Tree.{Tree}
use Rattle.clp_model.specs.Trees.{mapped, mapped_all, variables, variables_in}
use Rattle.clp_model.specs.Clauses.{Clause, Row, sort_in}
use Rattle.clp_model.specs.Predicates.{distinct_after}
use Rattle.clp_model.specs.Canonical.{place_in}
use Rattle.clp_model.proofs.Membership.{Among, first, next, among_front, among_back, among_either, distinct_has, distinct_append, at_place, at_own_place}
use Rattle.clp_model.proofs.RenamedTrees.{all_variables_mapped, mapped_twice, all_mapped_twice}
use Rattle.linear_model.specs.Forms.{IsRising}
use Rattle.linear_model.specs.Normal.{normal, IsNormal}
use Rattle.linear_model.specs.Changes.{renamed}
use Rattle.linear_model.specs.Elimination.{cleaned}
use Rattle.linear_laws.proofs.Normalized.{normal_normal}
use Rattle.linear_laws.proofs.Divided.{normal_is_normal}
use Rattle.unify_laws.proofs.Solved.{among_cases}
use Rattle.clause_model.specs.Variables.{row_variables, rows_variables, variables_by_first_occurrence}
use Rattle.clause_model.specs.Canonical.{numbered_by, with_clean_rows, canonical_form, HasRisingRows}
use Rattle.clause_laws.proofs.Rows.{all_each, among_rows}
use Rattle.clause_laws.proofs.Distinct.{AreDistinct, distinct_made, distinct_extends, distinct_from, front_distinct}
use Rattle.clause_laws.proofs.Renaming.{IsInjectiveOn}
use Rattle.clause_laws.proofs.Upto.{number_equality, numbers, upto, upto_has, upto_within, numbers_within, numbers_has, numbers_increase, numbers_join, place_upto, place_positive, place_front, place_new, numbered_list, rising_adds}
use Rattle.clause_laws.proofs.Written.{written, written_from, written_into, written_rises, written_twice, written_stays, written_normal}
use Rattle.clause_laws.proofs.Clean.{AreClean, clean_stays, cleaned_has, cleaned_is_clean, written_clean}

-- ---- places behind what was found
pub place_behind : (found xs : List ℕ) (v : ℕ) → ¬ Among v found → place_in (found ++ xs) v ≡ length found + place_in xs v
place_behind [] xs v n = omega arith
place_behind (m ∷ found) xs v n = by (nat_eq m v) refl (place_behind found xs v (λ a. n (next a)))
  where
    by : (b : Bool) → nat_eq m v ≡ b → place_in (found ++ xs) v ≡ length found + place_in xs v → (if b then 1 else suc (place_in (found ++ xs) v)) ≡ suc (length found) + place_in xs v
    by true e h = absurd (n (subst (λ z. Among z (m ∷ found)) (eqb-true m v e) first))
    by false e h = omega arith

-- the number at a place
pub at_a_place : (more rest : List ℕ) → AreDistinct (more ++ rest) → (j : ℕ) → 0 < j → j ≤ length more → (v : ℕ) × Among v more × (place_in (more ++ rest) v ≡ j)
at_a_place [] rest d j l h = absurd (omega arith)
at_a_place (m ∷ more) rest d zero l h = absurd (omega arith)
at_a_place (m ∷ more) rest d (suc zero) l h = (m, first, ap (λ b. if b then 1 else suc (place_in (more ++ rest) m)) (eq-eqb m m refl))
at_a_place (m ∷ more) rest d (suc (suc j)) l h =
    let k = at_a_place more rest d.1 (suc j) (omega arith) (omega arith) in
    (k.0, next k.1, by (nat_eq m k.0) refl (among_front k.0 more rest k.1) k.2)
  where
    by : {v : ℕ} (b : Bool) → nat_eq m v ≡ b → Among v (more ++ rest) → place_in (more ++ rest) v ≡ suc j → (if b then 1 else suc (place_in (more ++ rest) v)) ≡ suc (suc j)
    by {v} true e a q = absurd (d.0 (subst (λ z. Among z (more ++ rest)) (sym (eqb-true m v e)) a))
    by false e a q = ap suc q

behind_distinct : (found xs : List ℕ) → AreDistinct (found ++ xs) → AreDistinct xs
behind_distinct [] xs d = d
behind_distinct (m ∷ found) xs d = behind_distinct found xs d.1

pub not_before : (found : List ℕ) (more rest : List ℕ) → AreDistinct (found ++ (more ++ rest)) → (v : ℕ) → Among v more → ¬ Among v found
not_before [] more rest d v a b = elim b [ ]
not_before (m ∷ found) more rest d v a b = among_cases b
    (λ e. d.0 (among_back m found (more ++ rest) (among_front m more rest (subst (λ z. Among z more) e a))))
    (λ k. not_before found more rest d.1 v a k)

-- ---- names by places keep apart what is in the list
pub place_apart : (met : List ℕ) (m n : ℕ) → Among m met → Among n met → place_in met m ≡ place_in met n → m ≡ n
place_apart met m n a b e = sym (at_own_place met m a) ∙ (ap (λ p. slice_index_or (0 ∷ met) p 0) e ∙ at_own_place met n b)

module _ (met : List ℕ) (d : AreDistinct met) where
  abbrev f : ℕ → ℕ
  f = place_in met

  -- a row in new numbers adds to the numbers found those of its new variables, in their order
  row_adds : (found rest : List ℕ) (r : Row) → IsRising r.pairs → distinct_after nat_eq found (row_variables r) ++ rest ≡ met → distinct_after nat_eq (upto (length found)) (row_variables (written f r)) ≡ upto (length (distinct_after nat_eq found (row_variables r)))
  row_adds found rest r rises e =
      let x = distinct_extends nat_eq number_equality found (row_variables r) in
      let more = x.0 in
      let whole : found ++ (more ++ rest) ≡ met = sym (append_assoc found more rest) ∙ (ap (λ g. g ++ rest) (sym x.1) ∙ e) in
      let dist : AreDistinct (found ++ (more ++ rest)) = subst AreDistinct (sym whole) d in
      let new_place : (v : ℕ) → Among v more → f v ≡ length found + place_in (more ++ rest) v =
      λ v a. subst (λ g. place_in g v ≡ length found + place_in (more ++ rest) v) whole (place_behind found (more ++ rest) v (not_before found more rest dist v a)) in
      let inside : (v : ℕ) → Among v (row_variables r) → Among v (found ++ more) = λ v a. subst (Among v) x.1 (distinct_has found (row_variables r) v a) in
      let in_met : (v : ℕ) → Among v (row_variables r) → Among v met =
      λ v a. subst (Among v) e (among_front v (distinct_after nat_eq found (row_variables r)) rest (distinct_has found (row_variables r) v a)) in
      let apart : IsInjectiveOn (row_variables r) f = λ m n a b q. place_apart met m n (in_met m a) (in_met n b) q in
      let from : (n : ℕ) → Among n (row_variables (written f r)) → Among n (upto (length found)) ⊎ Among n (numbers (length found) (length more)) =
      λ n a. let k = written_from f r n a in
      elim (among_either k.0 found more (inside k.0 k.1)) [
        | inl b ↦
            let l : f k.0 ≤ length found = subst (λ g. place_in g k.0 ≤ length found) whole (place_front found (more ++ rest) k.0 b) in
            let p = place_positive met k.0 in
            inl (upto_has (length found) n (omega (arith, k.2)) (omega (arith, k.2)))
        | inr b ↦
            let q = new_place k.0 b in
            let l = place_front more rest k.0 b in
            let p = place_positive (more ++ rest) k.0 in
            inr (numbers_has (length found) (length more) n (omega (arith, k.2)) (omega (arith, k.2)))
      ] in
      let has : (n : ℕ) → Among n (numbers (length found) (length more)) → Among n (row_variables (written f r)) × ¬ Among n (upto (length found)) =
      λ n a. let w = numbers_within (length found) (length more) n a in
      let k = at_a_place more rest (behind_distinct found (more ++ rest) dist) (n - length found) (omega (arith, w.0)) (omega (arith, w.1)) in
      let q : f k.0 ≡ n = new_place k.0 k.1 ∙ omega (arith, k.2, w.0) in
      let there : Among k.0 (row_variables r) = elim (distinct_from nat_eq number_equality found (row_variables r) k.0 (subst (Among k.0) (sym x.1) (among_back k.0 found more k.1))) [ inl b ↦ absurd (not_before found more rest dist k.0 k.1 b) | inr b ↦ b ] in
      (subst (λ m. Among m (row_variables (written f r))) q (written_into f r rises apart k.0 there), λ b. let v = upto_within (length found) n b in absurd (omega (arith, w.0, v.1))) in
      let count : length found + length more ≡ length (distinct_after nat_eq found (row_variables r)) = sym (ap length x.1 ∙ length-append found more) in
      rising_adds (upto (length found)) (numbers (length found) (length more)) (written f r).pairs (written_rises f r) (numbers_increase (length found) (length more)) from has
      ∙ (numbers_join (length found) (length more) ∙ ap upto count)

  pub rows_add : (found rest : List ℕ) (rows : List Row) → ((r : Row) → Among r rows → IsRising r.pairs) → distinct_after nat_eq found (rows_variables rows) ++ rest ≡ met
      → distinct_after nat_eq (upto (length found)) (rows_variables (map (written f) rows)) ≡ upto (length (distinct_after nat_eq found (rows_variables rows)))
  rows_add found rest [] rises e = refl
  rows_add found rest (r ∷ rows) rises e =
      let split = distinct_append found (row_variables r) (rows_variables rows) in
      let next_found = distinct_after nat_eq found (row_variables r) in
      let e' : distinct_after nat_eq next_found (rows_variables rows) ++ rest ≡ met = ap (λ g. g ++ rest) (sym split) ∙ e in
      let x = distinct_extends nat_eq number_equality next_found (rows_variables rows) in
      let one = row_adds found (x.0 ++ rest) r (rises r first) (sym (append_assoc next_found x.0 rest) ∙ (ap (λ g. g ++ rest) (sym x.1) ∙ e')) in
      distinct_append (upto (length found)) (row_variables (written f r)) (rows_variables (map (written f) rows))
      ∙ (ap (λ g. distinct_after nat_eq g (rows_variables (map (written f) rows))) one
      ∙ (rows_add next_found rest rows (λ s m. rises s (next m)) e' ∙ ap (λ g. upto (length g)) (sym split)))

-- ---- places of the list itself
map_places : (found xs : List ℕ) → AreDistinct (found ++ xs) → map (place_in (found ++ xs)) xs ≡ numbers (length found) (length xs)
map_places found [] d = refl
map_places found (x ∷ xs) d =
    let n = front_distinct found x xs d in
    let a = place_new found x xs n in
    let shift : (found ++ x ∷ []) ++ xs ≡ found ++ x ∷ xs = append_assoc found (x ∷ []) xs in
    let count : length (found ++ x ∷ []) ≡ suc (length found) = (let l = length-append found (x ∷ []) in let one : length (x ∷ []) ≡ 1 = refl in omega arith) in
    let b : map (place_in (found ++ x ∷ xs)) xs ≡ numbers (suc (length found)) (length xs) =
    ap (λ g. map (place_in g) xs) (sym shift) ∙ (map_places (found ++ x ∷ []) xs (subst AreDistinct (sym shift) d) ∙ ap (λ k. numbers k (length xs)) count) in
    cc

pub places_upto : (met : List ℕ) → AreDistinct met → map (place_in met) met ≡ upto (length met)
places_upto met d = map_places [] met d

pub sorts_at : (h : ℕ → Sort) (met ns : List ℕ) → ((k : ℕ) → Among k ns → Among k met) → map (sort_in (map h met)) (map (place_in met) ns) ≡ map h ns
sorts_at h met [] inside = refl
sorts_at h met (n ∷ ns) inside =
    let a = at_place h met n Any Any (inside n first) in
    let b = sorts_at h met ns (λ k m. inside k (next m)) in
    cc

pub same_parts : {h k : Tree ℕ} {b d : List (Tree ℕ)} {rs qs : List Row} {ss ts : List Sort} → h ≡ k → b ≡ d → rs ≡ qs → ss ≡ ts
    → ◌≡◌ {A = Clause} (record { head = h; equations = []; rows = rs; body = b; sorts = ss }) (record { head = k; equations = []; rows = qs; body = d; sorts = ts })
same_parts {k = k} {b = b} {d = d} {rs = rs} {qs = qs} {ss = ss} p q s t =
    ap (λ (x : Tree ℕ). record { head = x; equations = []; rows = rs; body = b; sorts = ss }) p
    ∙ (ap (λ (x : List (Tree ℕ)). record { head = k; equations = []; rows = rs; body = x; sorts = ss }) q
    ∙ (ap (λ (x : List Row). record { head = k; equations = []; rows = x; body = d; sorts = ss }) s
    ∙ ap (λ (x : List Sort). record { head = k; equations = []; rows = qs; body = d; sorts = x }) t))

-- ---- a clause with clean rows, numbered by first occurrence, is in canonical form
module _ (c : Clause) (clean : AreClean c.rows) (rising : (r : Row) → Among r c.rows → IsRising r.pairs) (none : c.equations ≡ []) where
  abbrev T : List ℕ
  T = variables_in (c.head ∷ c.body)

  abbrev met : List ℕ
  met = variables_by_first_occurrence c

  abbrev g : ℕ → ℕ
  g = place_in met

  abbrev numbered : Clause
  numbered = numbered_by met c

  met_distinct : AreDistinct met
  met_distinct = distinct_made nat_eq number_equality [] (T ++ rows_variables c.rows) tt

  pub in_met_tree : (n : ℕ) → Among n T → Among n met
  in_met_tree n a = distinct_has [] (T ++ rows_variables c.rows) n (among_front n T (rows_variables c.rows) a)

  pub in_met_row : (r : Row) → Among r c.rows → (n : ℕ) → Among n (row_variables r) → Among n met
  in_met_row r a n b = distinct_has [] (T ++ rows_variables c.rows) n (among_back n T (rows_variables c.rows) (among_rows r c.rows n a b))

  apart : (r : Row) → Among r c.rows → IsInjectiveOn (row_variables r) g
  apart r a m n x y e = place_apart met m n (in_met_row r a m x) (in_met_row r a n y) e

  is_normal : (r : Row) → Among r c.rows → IsNormal r
  is_normal r a = record { rising = rising r a; stays = clean.normal_rows r a }

  -- what is written tells the row: the numbers are read back
  tells : (r s : Row) → Among r c.rows → Among s c.rows → written g r ≡ written g s → r ≡ s
  tells r s a b e = sym (back r a) ∙ (ap (written old) e ∙ back s b)
    where
      old : ℕ → ℕ
      old n = slice_index_or (0 ∷ met) n 0

      back : (r : Row) → Among r c.rows → written old (written g r) ≡ r
      back r a =
          written_twice g old r (λ m n x y q. ap g (sym (at_own_place met m (in_met_row r a m x)) ∙ (q ∙ at_own_place met n (in_met_row r a n y))))
          ∙ written_stays (λ n. old (g n)) r (is_normal r a) (λ n m. at_own_place met n (in_met_row r a n m))

  pub numbered_clean : AreClean numbered.rows
  numbered_clean = written_clean g c.rows (λ r a. (is_normal r a, apart r a)) tells clean

  -- the variables of the numbered clause by first occurrence are the numbers from 1 on
  pub met_again : variables_by_first_occurrence numbered ≡ upto (length met)
  met_again =
      let T' = variables_in (numbered.head ∷ numbered.body) in
      let R = rows_variables c.rows in
      let e1 = distinct_append [] T' (rows_variables numbered.rows) in
      let e2 : T' ≡ map g T = all_variables_mapped g (c.head ∷ c.body) in
      let e3 = distinct_append [] T R in
      let x = distinct_extends nat_eq number_equality (distinct_after nat_eq [] T) R in
      let e4 = numbered_list met [] T x.0 (sym x.1 ∙ sym e3) in
      let e5 = rows_add met met_distinct (distinct_after nat_eq [] T) [] c.rows rising (append-nil (distinct_after nat_eq (distinct_after nat_eq [] T) R) ∙ sym e3) in
      e1 ∙ (ap (λ t. distinct_after nat_eq (distinct_after nat_eq [] t) (rows_variables numbered.rows)) e2
      ∙ (ap (λ t. distinct_after nat_eq t (rows_variables numbered.rows)) e4
      ∙ (e5 ∙ ap (λ t. upto (length t)) (sym e3))))

  own_number : (n : ℕ) → Among n met → place_in (upto (length met)) (g n) ≡ g n
  own_number n a =
      let l : g n ≤ length met = subst (λ t. place_in t n ≤ length met) (append-nil met) (place_front met [] n a) in
      place_upto (length met) (g n) (place_positive met n) l

  rows_again : (rows : List Row) → ((r : Row) → Among r rows → Among r c.rows) → map (λ r. normal (renamed (place_in (upto (length met))) r)) (map (written g) rows) ≡ map (written g) rows
  rows_again [] inside = refl
  rows_again (r ∷ rows) inside =
      let a = written_stays (place_in (upto (length met))) (written g r) (record { rising = written_rises g r; stays = written_normal g r })
      (λ n m. let k = written_from g r n m in subst (λ z. place_in (upto (length met)) z ≡ z) k.2 (own_number k.0 (in_met_row r (inside r first) k.0 k.1))) in
      let b = rows_again rows (λ s m. inside s (next m)) in
      cc

  pub numbered_is_canonical : canonical_form numbered ≡ numbered
  unfolding canonical_form
  numbered_is_canonical =
      let cl : cleaned numbered.rows ≡ numbered.rows = clean_stays numbered.rows numbered_clean in
      let same : with_clean_rows numbered ≡ numbered = ap (λ (rs : List Row). record numbered { rows = rs }) cl in
      let n = upto (length met) in
      let heads : mapped (place_in n) (mapped g c.head) ≡ mapped g c.head =
      mapped_twice g (place_in n) g c.head (λ v a. own_number v (in_met_tree v (among_front v (variables c.head) (variables_in c.body) a))) in
      let bodies : mapped_all (place_in n) (mapped_all g c.body) ≡ mapped_all g c.body =
      all_mapped_twice g (place_in n) g c.body (λ v a. own_number v (in_met_tree v (among_back v (variables c.head) (variables_in c.body) a))) in
      let rows : map (λ r. normal (renamed (place_in n) r)) numbered.rows ≡ numbered.rows = rows_again c.rows (λ r m. m) in
      let sorts : map (sort_in numbered.sorts) n ≡ numbered.sorts =
      ap (map (sort_in numbered.sorts)) (sym (places_upto met met_distinct)) ∙ sorts_at (sort_in c.sorts) met met (λ k a. a) in
      let form : List ℕ → Clause → Clause = λ ms d. numbered_by ms d in
      ap (λ d. numbered_by (variables_by_first_occurrence d) d) same
      ∙ (ap (λ ms. numbered_by ms numbered) met_again
      ∙ same_parts heads bodies rows sorts)

-- ---- the law
pub rows_of_clean : (c : Clause) → HasRisingRows c → (r : Row) → Among r (with_clean_rows c).rows → IsNormal r
rows_of_clean c h r a = cleaned_has c.rows IsNormal (λ s m. normal_is_normal s (all_each (λ r. IsRising r.pairs) c.rows h s m)) r a

pub canonical_again : (c : Clause) → HasRisingRows c → canonical_form (canonical_form c) ≡ canonical_form c
unfolding canonical_form
canonical_again c h = numbered_is_canonical (record (with_clean_rows c) { equations = [] }) (cleaned_is_clean c.rows (λ r m. normal_normal r)) (λ r a. (rows_of_clean c h r a).rising) refl
