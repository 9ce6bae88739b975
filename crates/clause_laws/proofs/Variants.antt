-- Two closed clauses have one canonical form exactly where they are equal up to the numbers of their variables.
use Rattle.std.proofs.Common.{◌≡◌, ◌↔◌, ℕ, suc, ◌<◌, ◌≤◌, List, [], ◌∷◌, ◌++◌, length, Bool, true, false, refl, sym, ◌∙◌, ap, subst, eq-eqb, map, inl, inr}
use Rattle.std.specs.Prelude.{slice_index_or, nat_eq, if◌then◌else◌, Contains}
use Rattle.std.proofs.lemmas.Bool.{eqb-true}
use Rattle.std.proofs.lemmas.List.{length-map, append-nil, map-append}
use Rattle.clp_model.specs.declared.sort.Sort.{Sort}
use Rattle.clp_model.specs.declared.sort.Sort.TheVariants.{Any}
use Rattle.clp_model.specs.declared.tree.Tree.{Tree}
use Rattle.clp_model.specs.Trees.{mapped, mapped_all, variables, variables_in}
use Rattle.clp_model.specs.Clauses.{Clause, Row, sort_in}
use Rattle.clp_model.specs.Predicates.{distinct_after}
use Rattle.clp_model.specs.Canonical.{place_in}
use Rattle.clp_model.proofs.Membership.{Among, first, next, to_among, from_among, among_front, among_back, among_either, among_mapped, distinct_has, distinct_append, at_place, at_own_place}
use Rattle.clp_model.proofs.RenamedTrees.{all_variables_mapped, mapped_twice, all_mapped_twice, mapped_to_itself, all_mapped_to_themselves}
use Rattle.unify_laws.proofs.Solved.{among_cases}
use Rattle.clause_model.specs.Variables.{row_variables, rows_variables, variables_by_first_occurrence}
use Rattle.clause_model.specs.Canonical.{with_clean_rows, canonical_form, HasRisingRows}
use Rattle.clause_model.specs.Variants.{IsClosed, Renames, AreVariants}
use Rattle.clause_laws.proofs.Rows.{all_each, among_rows}
use Rattle.clause_laws.proofs.Distinct.{AreDistinct, distinct_made, distinct_from, among_or_not, with_old, with_new}
use Rattle.clause_laws.proofs.Upto.{number_equality, place_front, place_positive}
use Rattle.clause_laws.proofs.Written.{written, written_twice, written_agrees, written_stays}
use Rattle.clause_laws.proofs.Renaming.{variables_normal}
use Rattle.clause_laws.proofs.Clean.{cleaned_has}
use Rattle.clause_laws.proofs.Again.{at_a_place, place_apart, rows_of_clean, same_parts}

-- ---- lists of numbers under names that keep them apart
abbrev pub Apart : List ℕ → (ℕ → ℕ) → Type 0
Apart ns f = (m n : ℕ) → Among m ns → Among n ns → f m ≡ f n → m ≡ n

module _ (f : ℕ → ℕ) (all : List ℕ) (apart : Apart all f) where
  among_back_mapped : (ns : List ℕ) → ((k : ℕ) → Among k ns → Among k all) → (n : ℕ) → Among n all → Among (f n) (map f ns) → Among n ns
  among_back_mapped [] inside n a m = elim m [ ]
  among_back_mapped (k ∷ ns) inside n a m = among_cases m
      (λ e. subst (λ z. Among z (k ∷ ns)) (apart k n (inside k first) a (sym e)) first)
      (λ b. next (among_back_mapped ns (λ j c. inside j (next c)) n a b))

  pub distinct_mapped : (found xs : List ℕ) → ((k : ℕ) → Among k found → Among k all) → ((k : ℕ) → Among k xs → Among k all) → distinct_after nat_eq (map f found) (map f xs) ≡ map f (distinct_after nat_eq found xs)
  distinct_mapped found [] i j = refl
  distinct_mapped found (x ∷ xs) i j = elim (among_or_not nat_eq number_equality x found) [
    | inl a ↦
        ap (λ g. distinct_after nat_eq g (map f xs)) (with_old nat_eq number_equality (map f found) (f x) (among_mapped f a))
        ∙ (distinct_mapped found xs i (λ k b. j k (next b)) ∙ ap (λ g. map f (distinct_after nat_eq g xs)) (sym (with_old nat_eq number_equality found x a)))
    | inr n ↦
        let absent : ¬ Among (f x) (map f found) = (λ b. n (among_back_mapped found i x (j x first) b)) in
        let i' : (k : ℕ) → Among k (found ++ x ∷ []) → Among k all = (λ k b. elim (among_either k found (x ∷ []) b) [ inl c ↦ i k c | inr c ↦ among_cases c (λ e. subst (λ z. Among z all) (sym e) (j x first)) (λ d. elim d [ ]) ]) in
        ap (λ g. distinct_after nat_eq g (map f xs)) (with_new nat_eq number_equality (map f found) (f x) absent ∙ sym (map-append f found (x ∷ [])))
        ∙ (distinct_mapped (found ++ x ∷ []) xs i' (λ k b. j k (next b)) ∙ ap (λ g. map f (distinct_after nat_eq g xs)) (sym (with_new nat_eq number_equality found x n)))
  ]

  pub place_mapped : (ns : List ℕ) → ((k : ℕ) → Among k ns → Among k all) → (n : ℕ) → Among n all → place_in (map f ns) (f n) ≡ place_in ns n
  place_mapped [] inside n a = refl
  place_mapped (m ∷ ns) inside n a = by (nat_eq m n) refl (nat_eq (f m) (f n)) refl (place_mapped ns (λ k b. inside k (next b)) n a)
    where
      by : (s : Bool) → nat_eq m n ≡ s → (t : Bool) → nat_eq (f m) (f n) ≡ t → place_in (map f ns) (f n) ≡ place_in ns n
          → (if t then 1 else suc (place_in (map f ns) (f n))) ≡ (if s then 1 else suc (place_in ns n))
      by true e true k h = refl
      by false e false k h = ap suc h
      by true e false k h = let q = eq-eqb (f m) (f n) (ap f (eqb-true m n e)) in absurd (cc)
      by false e true k h = let q = eq-eqb m n (apart m n (inside m first) a (eqb-true (f m) (f n) k)) in absurd (cc)

-- what is there already adds nothing
absorbed : (found xs : List ℕ) → ((k : ℕ) → Among k xs → Among k found) → distinct_after nat_eq found xs ≡ found
absorbed found [] h = refl
absorbed found (x ∷ xs) h = ap (λ g. distinct_after nat_eq g xs) (with_old nat_eq number_equality found x (h x first)) ∙ absorbed found xs (λ k a. h k (next a))

-- ---- what is at a place has this place
abbrev at : List ℕ → ℕ → ℕ
at met n = slice_index_or (0 ∷ met) n 0

place_of_at : (met : List ℕ) → AreDistinct met → (j : ℕ) → 0 < j → j ≤ length met → (place_in met (at met j) ≡ j) × Among (at met j) met
place_of_at met d j l h =
    let k = at_a_place met [] (subst AreDistinct (sym (append-nil met)) d) j l h in
    let p : place_in met k.0 ≡ j = subst (λ g. place_in g k.0 ≡ j) (append-nil met) k.2 in
    let e : at met j ≡ k.0 = ap (at met) (sym p) ∙ at_own_place met k.0 k.1 in
    (ap (place_in met) e ∙ p, subst (λ z. Among z met) (sym e) k.1)

place_bounds : (met : List ℕ) (n : ℕ) → Among n met → (0 < place_in met n) × (place_in met n ≤ length met)
place_bounds met n a = (place_positive met n, subst (λ g. place_in g n ≤ length met) (append-nil met) (place_front met [] n a))

-- ---- a clause with clean rows
abbrev trees : Clause → List ℕ
trees c = variables_in (c.head ∷ c.body)

abbrev met_of : Clause → List ℕ
met_of c = variables_by_first_occurrence (with_clean_rows c)

distinct_met : (c : Clause) → AreDistinct (met_of c)
distinct_met c = distinct_made nat_eq number_equality [] (trees c ++ rows_variables (with_clean_rows c).rows) tt

met_tree : (c : Clause) (n : ℕ) → Among n (trees c) → Among n (met_of c)
met_tree c n a = distinct_has [] (trees c ++ rows_variables (with_clean_rows c).rows) n (among_front n (trees c) (rows_variables (with_clean_rows c).rows) a)

met_row : (c : Clause) (r : Row) → Among r (with_clean_rows c).rows → (n : ℕ) → Among n (row_variables r) → Among n (met_of c)
met_row c r a n b = distinct_has [] (trees c ++ rows_variables (with_clean_rows c).rows) n (among_back n (trees c) (rows_variables (with_clean_rows c).rows) (among_rows r (with_clean_rows c).rows n a b))

-- of a closed clause, the variables of a clean row are in the trees
closed_row : (c : Clause) → IsClosed c → (r : Row) → Among r (with_clean_rows c).rows → (n : ℕ) → Among n (row_variables r) → Among n (trees c)
closed_row c closed r a = cleaned_has c.rows (λ s. (n : ℕ) → Among n (row_variables s) → Among n (trees c))
    (λ s m n b. to_among (trees c) n (all_each (Contains (trees c)) (rows_variables c.rows) closed n (among_rows s c.rows n m (subst (Among n) (variables_normal s) b)))) r a

closed_rows : (c : Clause) → IsClosed c → (rows : List Row) → ((r : Row) → Among r rows → Among r (with_clean_rows c).rows) → (n : ℕ) → Among n (rows_variables rows) → Among n (trees c)
closed_rows c closed [] inside n a = elim a [ ]
closed_rows c closed (r ∷ rows) inside n a = elim (among_either n (row_variables r) (rows_variables rows) a) [
  | inl b ↦ closed_row c closed r (inside r first) n b
  | inr b ↦ closed_rows c closed rows (λ s m. inside s (next m)) n b
]

closed_met : (c : Clause) → IsClosed c → met_of c ≡ distinct_after nat_eq [] (trees c)
closed_met c closed =
    distinct_append [] (trees c) (rows_variables (with_clean_rows c).rows)
    ∙ absorbed (distinct_after nat_eq [] (trees c)) (rows_variables (with_clean_rows c).rows) (λ k a. distinct_has [] (trees c) k (closed_rows c closed (with_clean_rows c).rows (λ r m. m) k a))

-- ---- a renaming makes the canonical forms equal
module _ (c d : Clause) (hc : HasRisingRows c) (hd : HasRisingRows d) (kc : IsClosed c) (kd : IsClosed d) (f : ℕ → ℕ) (r : Renames f c d) where
  apart_c : Apart (trees c) f
  apart_c m n a b e = r.injective m n (from_among a) (from_among b) e

  trees_d : trees d ≡ map f (trees c)
  trees_d = ap (λ (t : Tree ℕ). variables_in (t ∷ d.body)) (sym r.head) ∙ (ap (λ (ts : List (Tree ℕ)). variables_in (mapped f c.head ∷ ts)) (sym r.body) ∙ all_variables_mapped f (c.head ∷ c.body))

  met_d : met_of d ≡ map f (met_of c)
  met_d =
      closed_met d kd ∙ (ap (distinct_after nat_eq []) trees_d
      ∙ (distinct_mapped f (trees c) apart_c [] (trees c) (λ k a. elim a [ ]) (λ k a. a) ∙ ap (map f) (sym (closed_met c kc))))

  met_inside : (k : ℕ) → Among k (met_of c) → Among k (trees c)
  met_inside k a = from_distinct (trees c) k (subst (Among k) (closed_met c kc) a)
    where
      from_distinct : (xs : List ℕ) (k : ℕ) → Among k (distinct_after nat_eq [] xs) → Among k xs
      from_distinct xs k a = elim (distinct_from nat_eq number_equality [] xs k a) [ inl b ↦ elim b [ ] | inr b ↦ b ]

  place_d : (n : ℕ) → Among n (trees c) → place_in (met_of d) (f n) ≡ place_in (met_of c) n
  place_d n a = ap (λ g. place_in g (f n)) met_d ∙ place_mapped f (trees c) apart_c (met_of c) met_inside n a

  d_rows : (rows : List Row) → ((s : Row) → Among s rows → Among s (with_clean_rows c).rows) → map (written (place_in (met_of d))) (map (written f) rows) ≡ map (written (place_in (met_of c))) rows
  d_rows [] inside = refl
  d_rows (s ∷ rows) inside =
      let m = inside s first in
      let into : (n : ℕ) → Among n (row_variables s) → Among (f n) (met_of d) = λ n a. subst (Among (f n)) (sym met_d) (among_mapped f (met_row c s m n a)) in
      let a = written_twice f (place_in (met_of d)) s (λ i j x y e. place_apart (met_of d) (f i) (f j) (into i x) (into j y) e)
      ∙ written_agrees (λ n. place_in (met_of d) (f n)) (place_in (met_of c)) s (λ n x. place_d n (closed_row c kc s m n x)) in
      let b = d_rows rows (λ t k. inside t (next k)) in
      cc

  d_sorts : (ns : List ℕ) → ((k : ℕ) → Among k ns → Among k (trees c)) → map (sort_in d.sorts) (map f ns) ≡ map (sort_in c.sorts) ns
  d_sorts [] inside = refl
  d_sorts (n ∷ ns) inside =
      let a = r.sorts n (from_among (inside n first)) in
      let b = d_sorts ns (λ k m. inside k (next m)) in
      cc

  pub renaming_makes_equal : canonical_form c ≡ canonical_form d
  unfolding canonical_form
  renaming_makes_equal = sym (same_parts
      (ap (mapped (place_in (met_of d))) (sym r.head) ∙ mapped_twice f (place_in (met_of d)) (place_in (met_of c)) c.head (λ n a. place_d n (among_front n (variables c.head) (variables_in c.body) a)))
      (ap (mapped_all (place_in (met_of d))) (sym r.body) ∙ all_mapped_twice f (place_in (met_of d)) (place_in (met_of c)) c.body (λ n a. place_d n (among_back n (variables c.head) (variables_in c.body) a)))
      (ap (map (written (place_in (met_of d)))) (sym r.rows) ∙ d_rows (with_clean_rows c).rows (λ s m. m))
      (ap (map (sort_in d.sorts)) met_d ∙ d_sorts (met_of c) met_inside))

-- ---- clauses of one canonical form are renamed by the places of their variables
module _ (c d : Clause) (hc : HasRisingRows c) (hd : HasRisingRows d) (e : canonical_form c ≡ canonical_form d) where
  abbrev fc : ℕ → ℕ
  fc = place_in (met_of c)

  abbrev fd : ℕ → ℕ
  fd = place_in (met_of d)

  abbrev gd : ℕ → ℕ
  gd n = at (met_of d) n

  abbrev over : ℕ → ℕ
  over n = gd (fc n)

  same_head : mapped fc c.head ≡ mapped fd d.head
  unfolding canonical_form
  same_head = ap (λ (x : Clause). x.head) e

  same_body : mapped_all fc c.body ≡ mapped_all fd d.body
  unfolding canonical_form
  same_body = ap (λ (x : Clause). x.body) e

  same_rows : map (written fc) (with_clean_rows c).rows ≡ map (written fd) (with_clean_rows d).rows
  unfolding canonical_form
  same_rows = ap (λ (x : Clause). x.rows) e

  same_sorts : map (sort_in c.sorts) (met_of c) ≡ map (sort_in d.sorts) (met_of d)
  unfolding canonical_form
  same_sorts = ap (λ (x : Clause). x.sorts) e

  lengths : length (met_of c) ≡ length (met_of d)
  lengths = sym (length-map (met_of c) (sort_in c.sorts)) ∙ (ap length same_sorts ∙ length-map (met_of d) (sort_in d.sorts))

  -- the place of a variable of c is a place of d's list
  place_there : (n : ℕ) → Among n (met_of c) → (fd (over n) ≡ fc n) × Among (over n) (met_of d)
  place_there n a =
      let b = place_bounds (met_of c) n a in
      place_of_at (met_of d) (distinct_met d) (fc n) b.0 (subst (λ l. fc n ≤ l) lengths b.1)

  own : (n : ℕ) → Among n (met_of d) → gd (fd n) ≡ n
  own n a = at_own_place (met_of d) n a

  apart_over : (m n : ℕ) → Among m (met_of c) → Among n (met_of c) → over m ≡ over n → fc m ≡ fc n
  apart_over m n a b q = sym (place_there m a).0 ∙ (ap fd q ∙ (place_there n b).0)

  over_rows : (rows : List Row) → ((s : Row) → Among s rows → Among s (with_clean_rows c).rows) → map (written gd) (map (written fc) rows) ≡ map (written over) rows
  over_rows [] inside = refl
  over_rows (s ∷ rows) inside =
      let m = inside s first in
      let a = written_twice fc gd s (λ i j x y q. apart_over i j (met_row c s m i x) (met_row c s m j y) q) in
      let b = over_rows rows (λ t k. inside t (next k)) in
      cc

  back_rows : (rows : List Row) → ((s : Row) → Among s rows → Among s (with_clean_rows d).rows) → map (written gd) (map (written fd) rows) ≡ rows
  back_rows [] inside = refl
  back_rows (s ∷ rows) inside =
      let m = inside s first in
      let a = written_twice fd gd s (λ i j x y q. ap fd (sym (own i (met_row d s m i x)) ∙ (q ∙ own j (met_row d s m j y))))
      ∙ written_stays (λ n. gd (fd n)) s (rows_of_clean d hd s m) (λ n x. own n (met_row d s m n x)) in
      let b = back_rows rows (λ t k. inside t (next k)) in
      cc

  sorts_there : (n : ℕ) → Among n (met_of c) → sort_in d.sorts (over n) ≡ sort_in c.sorts n
  sorts_there n a =
      let k = place_there n a in
      sym (at_place (sort_in d.sorts) (met_of d) (over n) Any Any k.1)
      ∙ (ap (λ j. sort_in (map (sort_in d.sorts) (met_of d)) j) k.0
      ∙ (ap (λ (ss : List Sort). sort_in ss (fc n)) (sym same_sorts)
      ∙ at_place (sort_in c.sorts) (met_of c) n Any Any a))

  pub equal_makes_renaming : AreVariants c d
  equal_makes_renaming = (
    over,
    record {
      injective = λ m n a b q. let x = met_tree c m (to_among (trees c) m a) in let y = met_tree c n (to_among (trees c) n b) in place_apart (met_of c) m n x y (apart_over m n x y q);
      head =
          sym (mapped_twice fc gd over c.head (λ n a. refl)) ∙ (ap (mapped gd) same_head
          ∙ (mapped_twice fd gd (λ n. gd (fd n)) d.head (λ n a. refl) ∙ mapped_to_itself (λ n. gd (fd n)) d.head (λ n a. own n (met_tree d n (among_front n (variables d.head) (variables_in d.body) a)))));
      body =
          sym (all_mapped_twice fc gd over c.body (λ n a. refl)) ∙ (ap (mapped_all gd) same_body
          ∙ (all_mapped_twice fd gd (λ n. gd (fd n)) d.body (λ n a. refl) ∙ all_mapped_to_themselves (λ n. gd (fd n)) d.body (λ n a. own n (met_tree d n (among_back n (variables d.head) (variables_in d.body) a)))));
      sorts = λ n a. sorts_there n (met_tree c n (to_among (trees c) n a));
      rows =
          sym (over_rows (with_clean_rows c).rows (λ s m. m)) ∙ (ap (map (written gd)) same_rows ∙ back_rows (with_clean_rows d).rows (λ s m. m));
    },
  )

pub variants_exactly : (c d : Clause) → HasRisingRows c → HasRisingRows d → IsClosed c → IsClosed d → (canonical_form c ≡ canonical_form d) ↔ AreVariants c d
variants_exactly c d hc hd kc kd = ((λ e. equal_makes_renaming c d hc hd e), (λ v. renaming_makes_equal c d hc hd kc kd v.0 v.1))
