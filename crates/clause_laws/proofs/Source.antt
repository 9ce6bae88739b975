-- The source of a clause is loaded as this clause.
use Rattle.std.proofs.Common.{◌≡◌, ℕ, zero, suc, ◌+◌, ◌<◌, List, [], ◌∷◌, ◌++◌, length, arith, refl, sym, ◌∙◌, ap, subst, map, ◌⊎◌, inl, inr}
use Rattle.std.specs.Prelude.{nat_eq}
use Rattle.std.proofs.lemmas.List.{append_assoc, append-nil, length-append, map-append}
use Rattle.std.proofs.Math.IntN.{ℤ}
use Rattle.clp_model.specs.declared.tree.Tree.{Tree}
use Rattle.clp_model.specs.Trees.{mapped, mapped_all, variables, variables_in}
use Rattle.clp_model.specs.Clauses.{Clause, Row, sort_in}
use Rattle.clp_model.specs.Predicates.{distinct_after}
use Rattle.clp_model.specs.Canonical.{place_in}
use Rattle.clp_model.proofs.Membership.{Among, first, next, among_front, among_back, among_either, among_mapped, distinct_has, distinct_append}
use Rattle.clp_model.proofs.RenamedTrees.{all_variables_mapped, mapped_twice, all_mapped_twice, mapped_to_itself, all_mapped_to_themselves}
use Rattle.linear_model.specs.Forms.{Above, IsRising}
use Rattle.linear_model.specs.Normal.{IsNormal}
use Rattle.linear_laws.proofs.Normalized.{normal_normal}
use Rattle.unify_laws.proofs.Solved.{among_cases}
use Rattle.clause_model.specs.Variables.{row_variables, rows_variables, variables_by_first_occurrence, variables_as_printed, loose_nums}
use Rattle.clause_model.specs.Canonical.{numbered_by, with_clean_rows, canonical_form, IsCanonical}
use Rattle.clause_model.specs.Source.{source_of}
use Rattle.clause_laws.proofs.Rows.{all_each, among_rows}
use Rattle.clause_laws.proofs.Distinct.{AreDistinct, distinct_made, distinct_from, distinct_extends, among_or_not, with_old, with_new, only_one}
use Rattle.clause_laws.proofs.Upto.{number_equality, numbers, upto, upto_within, numbers_increase, Increases, place_upto, place_positive, place_new, rising_adds}
use Rattle.clause_laws.proofs.Renaming.{IsInjectiveOn}
use Rattle.clause_laws.proofs.Written.{written, written_from, written_into, written_rises, written_twice, written_stays}
use Rattle.clause_laws.proofs.Clean.{AreClean, clean_stays, cleaned_is_clean, written_clean}
use Rattle.clause_laws.proofs.Again.{place_behind, place_apart, not_before, sorts_at, same_parts, met_again, numbered_clean, rows_of_clean}
use Rattle.clause_laws.proofs.Variants.{Apart, distinct_mapped, place_mapped}

-- ---- new elements of a list in rising order are put in this order
ordered : (found xs rest : List ℕ) (n m : ℕ) → Increases xs → Among n xs → Among m xs → n < m → ¬ Among n found → ¬ Among m found
    → place_in (distinct_after nat_eq found xs ++ rest) n < place_in (distinct_after nat_eq found xs ++ rest) m
ordered found [] rest n m i a b l k j = elim a [ ]
ordered found (x ∷ xs) rest n m i a b l k j = elim (among_or_not nat_eq number_equality x found) [
  | inl there ↦
      let a' = among_cases a (λ e. absurd (k (subst (λ z. Among z found) (sym e) there))) (λ c. c) in
      let b' = among_cases b (λ e. absurd (j (subst (λ z. Among z found) (sym e) there))) (λ c. c) in
      let h = ordered found xs rest n m i.1 a' b' l k j in
      subst (λ f. place_in (distinct_after nat_eq f xs ++ rest) n < place_in (distinct_after nat_eq f xs ++ rest) m) (sym (with_old nat_eq number_equality found x there)) h
  | inr absent ↦
      let same = with_new nat_eq number_equality found x absent in
      let m_after : Among m xs = among_cases b (λ e. absurd (among_cases a (λ q. omega arith) (λ c. let r = i.0 n c in omega arith))) (λ c. c) in
      let not_m : ¬ Among m (found ++ x ∷ []) = (λ c. elim (among_either m found (x ∷ []) c) [ inl d ↦ j d | inr d ↦ let e = only_one m x d in let r = i.0 m m_after in absurd (omega arith) ]) in
      subst (λ f. place_in (distinct_after nat_eq f xs ++ rest) n < place_in (distinct_after nat_eq f xs ++ rest) m) (sym same)
      (among_cases a
      (λ e. put_first found x xs rest n m e absent not_m)
      (λ c. ordered (found ++ x ∷ []) xs rest n m i.1 c m_after l
      (λ d. elim (among_either n found (x ∷ []) d) [ inl g ↦ k g | inr g ↦ let q = only_one n x g in let r = i.0 n c in absurd (omega arith) ]) not_m))
]
  where
    put_first : (found : List ℕ) (x : ℕ) (xs rest : List ℕ) (n m : ℕ) → n ≡ x → ¬ Among x found → ¬ Among m (found ++ x ∷ []) → place_in (distinct_after nat_eq (found ++ x ∷ []) xs ++ rest) n < place_in (distinct_after nat_eq (found ++ x ∷ []) xs ++ rest) m
    put_first found x xs rest n m e absent not_m =
        let more = distinct_extends nat_eq number_equality (found ++ x ∷ []) xs in
        let shape : distinct_after nat_eq (found ++ x ∷ []) xs ++ rest ≡ (found ++ x ∷ []) ++ (more.0 ++ rest) = ap (λ g. g ++ rest) more.1 ∙ append_assoc (found ++ x ∷ []) more.0 rest in
        let split : (found ++ x ∷ []) ++ (more.0 ++ rest) ≡ found ++ x ∷ (more.0 ++ rest) = append_assoc found (x ∷ []) (more.0 ++ rest) in
        let one : place_in (distinct_after nat_eq (found ++ x ∷ []) xs ++ rest) n ≡ suc (length found) =
        ap (λ g. place_in g n) (shape ∙ split) ∙ (ap (place_in (found ++ x ∷ (more.0 ++ rest))) e ∙ place_new found x (more.0 ++ rest) absent) in
        let two : place_in (distinct_after nat_eq (found ++ x ∷ []) xs ++ rest) m ≡ length (found ++ x ∷ []) + place_in (more.0 ++ rest) m =
        ap (λ g. place_in g m) shape ∙ place_behind (found ++ x ∷ []) (more.0 ++ rest) m not_m in
        let count : length (found ++ x ∷ []) ≡ suc (length found) = (let q = length-append found (x ∷ []) in let o : length (x ∷ []) ≡ 1 = refl in omega arith) in
        let p = place_positive (more.0 ++ rest) m in
        omega arith

rising_increases : (ps : List (ℕ × ℤ)) → IsRising ps → Increases (map (λ p. p.0) ps)
rising_increases [] r = tt
rising_increases (p ∷ ps) r = (after p.0 ps r.1, rising_increases ps r.2)
  where
    after : (n : ℕ) (ps : List (ℕ × ℤ)) → Above n ps → (m : ℕ) → Among m (map (λ p. p.0) ps) → n < m
    after n [] a m k = elim k [ ]
    after n (q ∷ qs) a m k = among_cases k (λ e. let b = a.0 in omega arith) (λ l. after n qs a.1 m l)

-- ---- lists
rows_variables_append : (xs ys : List Row) → rows_variables (xs ++ ys) ≡ rows_variables xs ++ rows_variables ys
rows_variables_append [] ys = refl
rows_variables_append (r ∷ xs) ys = ap (λ ns. row_variables r ++ ns) (rows_variables_append xs ys) ∙ sym (append_assoc (row_variables r) (rows_variables xs) (rows_variables ys))

prefix_numbers : (k n : ℕ) (xs ys : List ℕ) → xs ++ ys ≡ numbers k n → xs ≡ numbers k (length xs)
prefix_numbers k n [] ys e = refl
prefix_numbers k zero (x ∷ xs) ys e = absurd (cc)
prefix_numbers k (suc n) (x ∷ xs) ys e =
    let a : x ≡ suc k = head_of e in
    let b = prefix_numbers (suc k) n xs ys (tail_of e) in
    cc
  where
    head_of : {x y : ℕ} {xs ys : List ℕ} → x ∷ xs ≡ y ∷ ys → x ≡ y
    head_of {x} e = let f : List ℕ → ℕ = elim [ [] ↦ x | (z ∷ zs) ↦ z ] in ap f e

    tail_of : {x y : ℕ} {xs ys : List ℕ} → x ∷ xs ≡ y ∷ ys → xs ≡ ys
    tail_of {x} {y} {xs} e = let f : List ℕ → List ℕ = elim [ [] ↦ xs | (z ∷ zs) ↦ zs ] in ap f e

increases_behind : (xs ys : List ℕ) → Increases (xs ++ ys) → Increases ys
increases_behind [] ys i = i
increases_behind (x ∷ xs) ys i = increases_behind xs ys i.1

unmapped : (f : ℕ → ℕ) (xs : List ℕ) (m : ℕ) → Among m (map f xs) → (n : ℕ) × Among n xs × (f n ≡ m)
unmapped f [] m a = elim a [ ]
unmapped f (x ∷ xs) m a = among_cases a (λ e. (x, first, sym e)) (λ b. let k = unmapped f xs m b in (k.0, next k.1, k.2))

mapped_increases : (f : ℕ → ℕ) (xs : List ℕ) → Increases xs → ((n m : ℕ) → Among n xs → Among m xs → n < m → f n < f m) → Increases (map f xs)
mapped_increases f [] i h = tt
mapped_increases f (x ∷ xs) i h =
    ((λ m a. let k = unmapped f xs m a in subst (λ z. f x < z) k.2 (h x k.0 first (next k.1) (i.0 k.0 k.1))), mapped_increases f xs i.1 (λ n m a b l. h n m (next a) (next b) l))

-- ---- what is known of a canonical clause
module _ (c : Clause) (h : IsCanonical c) where
  abbrev base : Clause
  base = record (with_clean_rows c) { equations = [] }

  base_clean : AreClean base.rows
  base_clean = cleaned_is_clean c.rows (λ r m. normal_normal r)

  base_rises : (r : Row) → Among r base.rows → IsRising r.pairs
  base_rises r a = (rows_of_clean c h.rising r a).rising

  is_numbered : numbered_by (variables_by_first_occurrence base) base ≡ c
  unfolding canonical_form
  is_numbered = h.form

  pub clean_rows : AreClean c.rows
  clean_rows = subst (λ (x : Clause). AreClean x.rows) is_numbered (numbered_clean base base_clean base_rises refl)

  pub no_equation : c.equations ≡ []
  no_equation = ap (λ (x : Clause). x.equations) (sym is_numbered)

  pub row_is_normal : (r : Row) → Among r c.rows → IsNormal r
  row_is_normal r a = record { rising = all_each (λ (r : Row). IsRising r.pairs) c.rows h.rising r a; stays = clean_rows.normal_rows r a }

  abbrev count : ℕ
  count = length (variables_by_first_occurrence base)

  pub by_first : variables_by_first_occurrence c ≡ upto count
  by_first = ap variables_by_first_occurrence (sym is_numbered) ∙ met_again base base_clean base_rises refl

  -- its sorts, read by number
  pub sorts_read : map (sort_in c.sorts) (upto count) ≡ c.sorts
  sorts_read =
      let same : with_clean_rows c ≡ c = ap (λ (rs : List Row). record c { rows = rs }) (clean_stays c.rows clean_rows) in
      let e : variables_by_first_occurrence base ≡ upto count = ap variables_by_first_occurrence same ∙ by_first in
      ap (map (sort_in c.sorts)) (sym e) ∙ ap (λ (x : Clause). x.sorts) is_numbered

  abbrev T : List ℕ
  T = variables_in (c.head ∷ c.body)

  tree_within : (n : ℕ) → Among n T → Among n (upto count)
  tree_within n a = subst (Among n) by_first (distinct_has [] (T ++ rows_variables c.rows) n (among_front n T (rows_variables c.rows) a))

  row_within : (r : Row) → Among r c.rows → (n : ℕ) → Among n (row_variables r) → Among n (upto count)
  row_within r m n a = subst (Among n) by_first (distinct_has [] (T ++ rows_variables c.rows) n (among_back n T (rows_variables c.rows) (among_rows r c.rows n m a)))

  -- ---- in the order of the text
  abbrev H : List ℕ
  H = variables_in (c.head ∷ [])

  abbrev p : List ℕ
  p = variables_as_printed c

  abbrev q : ℕ → ℕ
  q = place_in p

  p_distinct : AreDistinct p
  p_distinct = distinct_made nat_eq number_equality [] (H ++ rows_variables c.rows ++ loose_nums c ++ variables_in c.body) tt

  printed_head : (n : ℕ) → Among n H → Among n p
  printed_head n a = distinct_has [] (H ++ rows_variables c.rows ++ loose_nums c ++ variables_in c.body) n
      (among_front n (H ++ rows_variables c.rows ++ loose_nums c) (variables_in c.body) (among_front n (H ++ rows_variables c.rows) (loose_nums c) (among_front n H (rows_variables c.rows) a)))

  printed_row : (n : ℕ) → Among n (rows_variables c.rows) → Among n p
  printed_row n a = distinct_has [] (H ++ rows_variables c.rows ++ loose_nums c ++ variables_in c.body) n
      (among_front n (H ++ rows_variables c.rows ++ loose_nums c) (variables_in c.body) (among_front n (H ++ rows_variables c.rows) (loose_nums c) (among_back n H (rows_variables c.rows) a)))

  printed_body : (n : ℕ) → Among n (variables_in c.body) → Among n p
  printed_body n a = distinct_has [] (H ++ rows_variables c.rows ++ loose_nums c ++ variables_in c.body) n
      (among_back n (H ++ rows_variables c.rows ++ loose_nums c) (variables_in c.body) a)

  head_of_tree : (n : ℕ) → Among n T → Among n H ⊎ Among n (variables_in c.body)
  head_of_tree n a = elim (among_either n (variables c.head) (variables_in c.body) a) [ inl b ↦ inl (among_front n (variables c.head) [] b) | inr b ↦ inr b ]

  tree_of_head : (n : ℕ) → Among n H → Among n T
  tree_of_head n a = elim (among_either n (variables c.head) [] a) [ inl b ↦ among_front n (variables c.head) (variables_in c.body) b | inr b ↦ elim b [ ] ]

  printed_tree : (n : ℕ) → Among n T → Among n p
  printed_tree n a = elim (head_of_tree n a) [ inl b ↦ printed_head n b | inr b ↦ printed_body n b ]

  -- each number up to the count is printed
  printed : (n : ℕ) → Among n (upto count) → Among n p
  printed n a = elim (distinct_from nat_eq number_equality [] (T ++ rows_variables c.rows) n (subst (Among n) (sym by_first) a)) [
    | inl b ↦ elim b [ ]
    | inr b ↦ elim (among_either n T (rows_variables c.rows) b) [ inl d ↦ printed_tree n d | inr d ↦ printed_row n d ]
  ]

  q_apart : Apart (upto count) q
  q_apart m n a b e = place_apart p m n (printed m a) (printed n b) e

  -- ---- one row after those before it
  abbrev tail : List ℕ
  tail = loose_nums c ++ variables_in c.body

  -- the printed list begins with the head, the rows before and this row
  printed_so : (done : List Row) (r : Row) (rows : List Row) → done ++ r ∷ rows ≡ c.rows → (rest : List ℕ) × (p ≡ distinct_after nat_eq (distinct_after nat_eq [] (H ++ rows_variables done)) (row_variables r) ++ rest)
  printed_so done r rows e =
      let before = H ++ rows_variables done in
      let behind = rows_variables rows ++ loose_nums c ++ variables_in c.body in
      let a : rows_variables c.rows ≡ rows_variables done ++ (row_variables r ++ rows_variables rows) = ap rows_variables (sym e) ∙ rows_variables_append done (r ∷ rows) in
      let b : H ++ rows_variables c.rows ++ loose_nums c ++ variables_in c.body ≡ before ++ (row_variables r ++ behind) =
      ap (λ ns. H ++ ns ++ loose_nums c ++ variables_in c.body) a
      ∙ regroup H (rows_variables done) (row_variables r) (rows_variables rows) (loose_nums c) (variables_in c.body) in
      let d = distinct_append [] before (row_variables r ++ behind) in
      let f = distinct_append (distinct_after nat_eq [] before) (row_variables r) behind in
      let x = distinct_extends nat_eq number_equality (distinct_after nat_eq (distinct_after nat_eq [] before) (row_variables r)) behind in
      (x.0, ap (distinct_after nat_eq []) b ∙ (d ∙ (f ∙ x.1)))
    where
      regroup : (h d r s l b : List ℕ) → h ++ (d ++ (r ++ s)) ++ l ++ b ≡ (h ++ d) ++ (r ++ (s ++ l ++ b))
      regroup h d r s l b =
          ap (λ x. (x ++ l) ++ b) (sym (append_assoc h d (r ++ s)))
          ∙ (ap (λ x. x ++ b) (append_assoc (h ++ d) (r ++ s) l)
          ∙ (append_assoc (h ++ d) ((r ++ s) ++ l) b
          ∙ ap (λ x. (h ++ d) ++ x) (ap (λ x. x ++ b) (append_assoc r s l) ∙ append_assoc r (s ++ l) b)))

  module _ (done : List Row) (r : Row) (rows : List Row) (e : done ++ r ∷ rows ≡ c.rows) (k : ℕ) (so : distinct_after nat_eq [] (T ++ rows_variables done) ≡ upto k) where
    r_in : Among r c.rows
    r_in = subst (Among r) e (among_back r done (r ∷ rows) first)

    abbrev more : List ℕ
    more = (distinct_extends nat_eq number_equality (upto k) (row_variables r)).0

    grown : distinct_after nat_eq (upto k) (row_variables r) ≡ upto k ++ more
    grown = (distinct_extends nat_eq number_equality (upto k) (row_variables r)).1

    -- it is numbers from 1 on again
    next_so : distinct_after nat_eq [] (T ++ rows_variables (done ++ r ∷ [])) ≡ upto k ++ more
    next_so =
        let a : rows_variables (done ++ r ∷ []) ≡ rows_variables done ++ row_variables r = rows_variables_append done (r ∷ []) ∙ ap (λ ns. rows_variables done ++ ns) (append-nil (row_variables r)) in
        ap (λ ns. distinct_after nat_eq [] (T ++ ns)) a
        ∙ (ap (distinct_after nat_eq []) (sym (append_assoc T (rows_variables done) (row_variables r)))
        ∙ (distinct_append [] (T ++ rows_variables done) (row_variables r)
        ∙ (ap (λ f. distinct_after nat_eq f (row_variables r)) so ∙ grown)))

    whole : (rest : List ℕ) × ((upto k ++ more) ++ rest ≡ upto count)
    whole =
        let a : rows_variables c.rows ≡ rows_variables (done ++ r ∷ []) ++ rows_variables rows =
        ap rows_variables (sym e ∙ sym (append_assoc done (r ∷ []) rows)) ∙ rows_variables_append (done ++ r ∷ []) rows in
        let x = distinct_extends nat_eq number_equality (upto k ++ more) (rows_variables rows) in
        let b : variables_by_first_occurrence c ≡ distinct_after nat_eq (upto k ++ more) (rows_variables rows) =
        ap (λ ns. distinct_after nat_eq [] (T ++ ns)) a
        ∙ (ap (distinct_after nat_eq []) (sym (append_assoc T (rows_variables (done ++ r ∷ [])) (rows_variables rows)))
        ∙ (distinct_append [] (T ++ rows_variables (done ++ r ∷ [])) (rows_variables rows)
        ∙ ap (λ f. distinct_after nat_eq f (rows_variables rows)) next_so)) in
        (x.0, sym x.1 ∙ (sym b ∙ by_first))

    grown_is : upto k ++ more ≡ upto (length (upto k ++ more))
    grown_is = prefix_numbers 0 count (upto k ++ more) whole.0 whole.1

    more_increases : Increases more
    more_increases = increases_behind (upto k) more (subst Increases (sym grown_is) (numbers_increase 0 (length (upto k ++ more))))

    more_new : (n : ℕ) → Among n more → ¬ Among n (upto k)
    more_new n a b =
        let d : AreDistinct (upto k ++ (more ++ [])) = subst (λ ms. AreDistinct (upto k ++ ms)) (sym (append-nil more)) (subst AreDistinct grown (distinct_made nat_eq number_equality (upto k) (row_variables r) (subst AreDistinct so (distinct_made nat_eq number_equality [] (T ++ rows_variables done) tt)))) in
        not_before (upto k) more [] d n a b

    more_in_row : (n : ℕ) → Among n more → Among n (row_variables r)
    more_in_row n a = elim (distinct_from nat_eq number_equality (upto k) (row_variables r) n (subst (Among n) (sym grown) (among_back n (upto k) more a))) [
      | inl b ↦ absurd (more_new n a b)
      | inr b ↦ b
    ]

    row_known : (n : ℕ) → Among n (row_variables r) → Among n (upto k) ⊎ Among n more
    row_known n a = among_either n (upto k) more (subst (Among n) grown (distinct_has (upto k) (row_variables r) n a))

    in_count : (n : ℕ) → Among n (row_variables r) → Among n (upto count)
    in_count n a = row_within r r_in n a

    found_in_count : (n : ℕ) → Among n (upto k) → Among n (upto count)
    found_in_count n a = subst (Among n) whole.1 (among_front n (upto k ++ more) whole.0 (among_front n (upto k) more a))

    -- not met before in the text
    not_printed : (n : ℕ) → Among n more → ¬ Among n (distinct_after nat_eq [] (H ++ rows_variables done))
    not_printed n a b = elim (distinct_from nat_eq number_equality [] (H ++ rows_variables done) n b) [
      | inl d ↦ elim d [ ]
      | inr d ↦ more_new n a (subst (Among n) so (elim (among_either n H (rows_variables done) d) [
        | inl x ↦ distinct_has [] (T ++ rows_variables done) n (among_front n T (rows_variables done) (tree_of_head n x))
        | inr x ↦ distinct_has [] (T ++ rows_variables done) n (among_back n T (rows_variables done) x)
      ]))
    ]

    q_rises : (n m : ℕ) → Among n more → Among m more → n < m → q n < q m
    q_rises n m a b l =
        let s = printed_so done r rows e in
        subst (λ ps. place_in ps n < place_in ps m) (sym s.1)
        (ordered (distinct_after nat_eq [] (H ++ rows_variables done)) (row_variables r) s.0 n m (rising_increases r.pairs (row_is_normal r r_in).rising)
        (more_in_row n a) (more_in_row m b) l (not_printed n a) (not_printed m b))

    row_step : distinct_after nat_eq (map q (upto k)) (row_variables (written q r)) ≡ map q (upto k ++ more)
    row_step =
        let apart : IsInjectiveOn (row_variables r) q = λ m n a b x. q_apart m n (in_count m a) (in_count n b) x in
        let from : (n : ℕ) → Among n (row_variables (written q r)) → Among n (map q (upto k)) ⊎ Among n (map q more) =
        λ n a. let w = written_from q r n a in elim (row_known w.0 w.1) [
          | inl b ↦ inl (subst (λ z. Among z (map q (upto k))) w.2 (among_mapped q b))
          | inr b ↦ inr (subst (λ z. Among z (map q more)) w.2 (among_mapped q b))
        ] in
        let has : (n : ℕ) → Among n (map q more) → Among n (row_variables (written q r)) × ¬ Among n (map q (upto k)) =
        λ n a. let w = unmapped q more n a in (
          subst (λ z. Among z (row_variables (written q r))) w.2 (written_into q r (row_is_normal r r_in).rising apart w.0 (more_in_row w.0 w.1)),
          λ b. let y = unmapped q (upto k) n b in
              let same : y.0 ≡ w.0 = q_apart y.0 w.0 (found_in_count y.0 y.1) (in_count w.0 (more_in_row w.0 w.1)) (y.2 ∙ sym w.2) in
              more_new w.0 w.1 (subst (λ z. Among z (upto k)) same y.1),
        ) in
        rising_adds (map q (upto k)) (map q more) (written q r).pairs (written_rises q r) (mapped_increases q more more_increases q_rises) from has ∙ sym (map-append q (upto k) more)

  rows_step : (done rows : List Row) → done ++ rows ≡ c.rows → (k : ℕ) → distinct_after nat_eq [] (T ++ rows_variables done) ≡ upto k
      → distinct_after nat_eq (map q (upto k)) (rows_variables (map (written q) rows)) ≡ map q (distinct_after nat_eq (upto k) (rows_variables rows))
  rows_step done [] e k so = refl
  rows_step done (r ∷ rows) e k so =
      let m = more done r rows e k so in
      let l = length (upto k ++ m) in
      let is = grown_is done r rows e k so in
      let i = rows_step (done ++ r ∷ []) rows (append_assoc done (r ∷ []) rows ∙ e) l (next_so done r rows e k so ∙ is) in
      distinct_append (map q (upto k)) (row_variables (written q r)) (rows_variables (map (written q) rows))
      ∙ (ap (λ f. distinct_after nat_eq f (rows_variables (map (written q) rows))) (row_step done r rows e k so ∙ ap (map q) is)
      ∙ (i ∙ sym (ap (map q) (distinct_append (upto k) (row_variables r) (rows_variables rows)
      ∙ ap (λ f. distinct_after nat_eq f (rows_variables rows)) (grown done r rows e k so ∙ is)))))

  -- ---- the source numbered again
  abbrev source : Clause
  source = source_of c

  source_is : source ≡ numbered_by p c
  unfolding source_of
  source_is = refl

  abbrev numbered : Clause
  numbered = numbered_by p c

  trees_so : (k : ℕ) × (distinct_after nat_eq [] T ≡ upto k)
  trees_so =
      let x = distinct_extends nat_eq number_equality (distinct_after nat_eq [] T) (rows_variables c.rows) in
      let e : distinct_after nat_eq [] T ++ x.0 ≡ upto count = sym x.1 ∙ (sym (distinct_append [] T (rows_variables c.rows)) ∙ by_first) in
      (length (distinct_after nat_eq [] T), prefix_numbers 0 count (distinct_after nat_eq [] T) x.0 e)

  first_again : variables_by_first_occurrence numbered ≡ map q (upto count)
  first_again =
      let t : variables_in (numbered.head ∷ numbered.body) ≡ map q T = all_variables_mapped q (c.head ∷ c.body) in
      let k = trees_so in
      let so : distinct_after nat_eq [] (T ++ rows_variables []) ≡ upto k.0 = ap (distinct_after nat_eq []) (append-nil T) ∙ k.1 in
      let a : distinct_after nat_eq [] (map q T) ≡ map q (upto k.0) = distinct_mapped q (upto count) q_apart [] T (λ n b. elim b [ ]) tree_within ∙ ap (map q) k.1 in
      distinct_append [] (variables_in (numbered.head ∷ numbered.body)) (rows_variables numbered.rows)
      ∙ (ap (λ ns. distinct_after nat_eq (distinct_after nat_eq [] ns) (rows_variables numbered.rows)) t
      ∙ (ap (λ f. distinct_after nat_eq f (rows_variables numbered.rows)) a
      ∙ (rows_step [] c.rows refl k.0 so
      ∙ ap (map q) (ap (λ f. distinct_after nat_eq f (rows_variables c.rows)) (sym k.1) ∙ (sym (distinct_append [] T (rows_variables c.rows)) ∙ by_first)))))

  pub q_row : (r : Row) → Among r c.rows → IsInjectiveOn (row_variables r) q
  q_row r a m n x y e = q_apart m n (row_within r a m x) (row_within r a n y) e

  abbrev back : ℕ → ℕ
  back = place_in (map q (upto count))

  back_is : (n : ℕ) → Among n (upto count) → back (q n) ≡ n
  back_is n a = place_mapped q (upto count) q_apart (upto count) (λ k b. b) n a ∙ (let w = upto_within count n a in place_upto count n w.0 w.1)

  row_back : (r : Row) → Among r c.rows → written back (written q r) ≡ r
  row_back r a =
      written_twice q back r (λ m n x y e. ap q (sym (back_is m (row_within r a m x)) ∙ (e ∙ back_is n (row_within r a n y))))
      ∙ written_stays (λ n. back (q n)) r (row_is_normal r a) (λ n x. back_is n (row_within r a n x))

  rows_back : (rows : List Row) → ((r : Row) → Among r rows → Among r c.rows) → map (written back) (map (written q) rows) ≡ rows
  rows_back [] inside = refl
  rows_back (r ∷ rows) inside = let a = row_back r (inside r first) in let b = rows_back rows (λ s m. inside s (next m)) in cc

  numbered_rows_clean : AreClean numbered.rows
  numbered_rows_clean = written_clean q c.rows (λ r a. (row_is_normal r a, q_row r a)) (λ r s a b e. sym (row_back r a) ∙ (ap (written back) e ∙ row_back s b)) clean_rows

  pub source_form : canonical_form numbered ≡ c
  unfolding canonical_form
  source_form =
      let same : with_clean_rows numbered ≡ numbered = ap (λ (rs : List Row). record numbered { rows = rs }) (clean_stays numbered.rows numbered_rows_clean) in
      let heads : mapped back (mapped q c.head) ≡ c.head =
      mapped_twice q back (λ n. back (q n)) c.head (λ n a. refl) ∙ mapped_to_itself (λ n. back (q n)) c.head (λ n a. back_is n (tree_within n (among_front n (variables c.head) (variables_in c.body) a))) in
      let bodies : mapped_all back (mapped_all q c.body) ≡ c.body =
      all_mapped_twice q back (λ n. back (q n)) c.body (λ n a. refl) ∙ all_mapped_to_themselves (λ n. back (q n)) c.body (λ n a. back_is n (tree_within n (among_back n (variables c.head) (variables_in c.body) a))) in
      let sorts : map (sort_in numbered.sorts) (map q (upto count)) ≡ c.sorts = sorts_at (sort_in c.sorts) p (upto count) printed ∙ sorts_read in
      let whole : ◌≡◌ {A = Clause} (record { head = c.head; equations = []; rows = c.rows; body = c.body; sorts = c.sorts }) c = ap (λ (es : List (Tree ℕ × Tree ℕ)). record c { equations = es }) (sym no_equation) in
      ap (λ d. numbered_by (variables_by_first_occurrence d) d) same
      ∙ (ap (λ ms. numbered_by ms numbered) first_again
      ∙ (same_parts heads bodies (rows_back c.rows (λ r m. m)) sorts ∙ whole))
