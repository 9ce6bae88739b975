-- The variables of a source are numbered as they are printed, so that a source is its own source.
use Rattle.std.proofs.Common.{◌≡◌, ℕ, suc, ◌+◌, ◌-◌, ◌<◌, ◌≤◌, List, [], ◌∷◌, ◌++◌, length, map, Bool, true, false, not, arith, refl, sym, ◌∙◌, ap, subst, ◌⊎◌, inl, inr, ℤ, pos}
use Rattle.std.specs.Prelude.{if◌then◌else◌, nat_eq}
use Rattle.std.specs.List.{filter, list_any}
use Rattle.std.proofs.lemmas.List.{append_assoc, append-nil, length-append, length-map}
use Rattle.clp_model.specs.declared.sort.Sort.{Sort}
use Rattle.clp_model.specs.declared.sort.Sort.TheVariants.{Any, Num}
use Rattle.clp_model.specs.Trees.{mapped, mapped_all, variables, variables_in}
use Rattle.clp_model.specs.Clauses.{Clause, Row, sort_in}
use Rattle.clp_model.specs.Canonical.{place_in}
use Rattle.clp_model.specs.Predicates.{distinct_after}
use Rattle.clp_model.proofs.Membership.{Among, first, next, among_front, among_back, among_either, at_place, distinct_has, distinct_append}
use Rattle.clp_model.proofs.RenamedTrees.{all_variables_mapped, mapped_twice, all_mapped_twice}
use Rattle.linear_model.specs.Forms.{Above, IsRising}
use Rattle.linear_laws.proofs.Lists.{filter_in, filter_out}
use Rattle.clause_model.specs.Variables.{is_num, row_variables, rows_variables, nums_from, loose_nums, variables_as_printed}
use Rattle.clause_model.specs.Canonical.{numbered_by, IsCanonical}
use Rattle.clause_model.specs.Source.{source_of}
use Rattle.clause_laws.proofs.Rows.{among_rows}
use Rattle.clause_laws.proofs.Distinct.{AreDistinct, distinct_made, distinct_from, distinct_extends, among_or_not, found_among, among_found}
use Rattle.clause_laws.proofs.Upto.{number_equality, numbers, upto, upto_has, upto_within, numbers_has, numbers_within, numbers_increase, numbers_join, Increases, place_upto, place_positive, place_front, numbered_list, rising_adds}
use Rattle.clause_laws.proofs.Renaming.{IsInjectiveOn}
use Rattle.clause_laws.proofs.Written.{written, written_from, written_rises, written_normal, written_stays}
use Rattle.clause_laws.proofs.Source.{row_is_normal}
use Rattle.clause_laws.proofs.Again.{place_behind, at_a_place, not_before, place_apart, rows_add, places_upto, sorts_at, same_parts}
use Rattle.clause_source.proofs.Counts.{few_numbers}
use Rattle.evaluation_laws.proofs.Clauses.{unlisted, num_listed, listed_num}
use Rattle.text_laws.proofs.Printable.{listed_within, printed_listed, sorts_few}

-- ---- rising lists

-- each number with the coefficient 1
ones : List ℕ → List (ℕ × ℤ)
ones ns = map (λ n. (n, pos 1)) ns

ones_are : (ns : List ℕ) → map (λ (p : ℕ × ℤ). p.0) (ones ns) ≡ ns
unfolding ones
ones_are [] = refl
ones_are (n ∷ ns) = ap (λ ms. n ∷ ms) (ones_are ns)

above_ones : (n : ℕ) (ns : List ℕ) → ((m : ℕ) → Among m ns → n < m) → Above n (ones ns)
unfolding ones
above_ones n [] h = tt
above_ones n (m ∷ ns) h = (h m first, above_ones n ns (λ k a. h k (next a)))

rising_ones : (ns : List ℕ) → Increases ns → IsRising (ones ns)
unfolding ones
rising_ones [] h = tt
rising_ones (n ∷ ns) h = (refl, above_ones n ns h.0, rising_ones ns h.1)

filter_increases : (t : ℕ → Bool) (ns : List ℕ) → Increases ns → Increases (filter t ns)
filter_increases t [] h = tt
filter_increases t (n ∷ ns) h = by (t n) (filter_increases t ns h.1)
  where
    by : (b : Bool) → Increases (filter t ns) → Increases (if b then n ∷ filter t ns else filter t ns)
    by true i = ((λ m a. h.0 m (filter_out t ns m a).0), i)
    by false i = i

nums_increase : (k : ℕ) (ss : List Sort) → Increases (nums_from k ss)
nums_increase k [] = tt
nums_increase k (s ∷ ss) = by (is_num s) (nums_increase (suc k) ss)
  where
    by : (b : Bool) → Increases (nums_from (suc k) ss) → Increases (if b then k ∷ nums_from (suc k) ss else nums_from (suc k) ss)
    by true i = ((λ m a. let r = unlisted (suc k) ss m a in omega (arith, r.1)), i)
    by false i = i

-- ---- the Num variables in no row

loose_increase : (d : Clause) → Increases (loose_nums d)
loose_increase d = filter_increases (λ n. not (list_any (λ m. nat_eq m n) (rows_variables d.rows))) (nums_from 1 d.sorts) (nums_increase 1 d.sorts)

loose_out : (d : Clause) (n : ℕ) → Among n (loose_nums d) → (sort_in d.sorts n ≡ Num) × ¬ Among n (rows_variables d.rows)
loose_out d n a =
    let o = filter_out (λ k. not (list_any (λ m. nat_eq m k) (rows_variables d.rows))) (nums_from 1 d.sorts) n a in
    (listed_num d.sorts n o.0, λ b. let t = among_found nat_eq number_equality n (rows_variables d.rows) b in let u = o.1 in absurd (cc))

loose_in : (d : Clause) (n : ℕ) → sort_in d.sorts n ≡ Num → ¬ Among n (rows_variables d.rows) → Among n (loose_nums d)
loose_in d n e apart = filter_in (λ k. not (list_any (λ m. nat_eq m k) (rows_variables d.rows))) (nums_from 1 d.sorts) n (num_listed d.sorts n e) (by (list_any (λ m. nat_eq m n) (rows_variables d.rows)) refl)
  where
    by : (b : Bool) → list_any (λ m. nat_eq m n) (rows_variables d.rows) ≡ b → not b ≡ true
    by true f = absurd (apart (found_among nat_eq number_equality n (rows_variables d.rows) f))
    by false f = refl

-- each variable of rows in new numbers is what one of the rows becomes
rows_from : (f : ℕ → ℕ) (rows : List Row) (n : ℕ) → Among n (rows_variables (map (written f) rows)) → (v : ℕ) × Among v (rows_variables rows) × (f v ≡ n)
rows_from f [] n a = elim a [ ]
rows_from f (r ∷ rows) n a = elim (among_either n (row_variables (written f r)) (rows_variables (map (written f) rows)) a) [
  | inl b ↦ let k = written_from f r n b in (k.0, among_front k.0 (row_variables r) (rows_variables rows) k.1, k.2)
  | inr b ↦ let k = rows_from f rows n b in (k.0, among_back k.0 (row_variables r) (rows_variables rows) k.1, k.2)
]

behind_distinct : (xs ys : List ℕ) → AreDistinct (xs ++ ys) → AreDistinct ys
behind_distinct [] ys d = d
behind_distinct (x ∷ xs) ys d = behind_distinct xs ys d.1

module _ (c : Clause) (h : IsCanonical c) where
  abbrev heads : List ℕ
  heads = variables_in (c.head ∷ [])

  abbrev rows : List ℕ
  rows = rows_variables c.rows

  abbrev nums : List ℕ
  nums = loose_nums c

  abbrev atoms : List ℕ
  atoms = variables_in c.body

  abbrev names : List ℕ
  names = variables_as_printed c

  abbrev place : ℕ → ℕ
  place = place_in names

  abbrev source : Clause
  source = numbered_by names c

  names_distinct : AreDistinct names
  names_distinct = distinct_made nat_eq number_equality [] (heads ++ rows ++ nums ++ atoms) tt

  -- ---- what is met after the head, the rows, and the Num variables in no row
  abbrev one : List ℕ
  one = distinct_after nat_eq [] heads

  abbrev two : List ℕ
  two = distinct_after nat_eq one rows

  abbrev three : List ℕ
  three = distinct_after nat_eq two nums

  names_are : names ≡ distinct_after nat_eq three atoms
  names_are =
      distinct_append [] (heads ++ rows ++ nums) atoms
      ∙ ap (λ f. distinct_after nat_eq f atoms) (distinct_append [] (heads ++ rows) nums ∙ ap (λ f. distinct_after nat_eq f nums) (distinct_append [] heads rows))

  abbrev in_rows : List ℕ
  in_rows = (distinct_extends nat_eq number_equality one rows).0

  abbrev in_nums : List ℕ
  in_nums = (distinct_extends nat_eq number_equality two nums).0

  abbrev in_atoms : List ℕ
  in_atoms = (distinct_extends nat_eq number_equality three atoms).0

  after_three : three ++ in_atoms ≡ names
  after_three = sym (distinct_extends nat_eq number_equality three atoms).1 ∙ sym names_are

  after_two : two ++ (in_nums ++ in_atoms) ≡ names
  after_two = sym (append_assoc two in_nums in_atoms) ∙ (ap (λ f. f ++ in_atoms) (sym (distinct_extends nat_eq number_equality two nums).1) ∙ after_three)

  after_one : one ++ (in_rows ++ (in_nums ++ in_atoms)) ≡ names
  after_one = sym (append_assoc one in_rows (in_nums ++ in_atoms)) ∙ (ap (λ f. f ++ (in_nums ++ in_atoms)) (sym (distinct_extends nat_eq number_equality one rows).1) ∙ after_two)

  three_among : (v : ℕ) → Among v three → Among v names
  three_among v a = subst (Among v) after_three (among_front v three in_atoms a)

  row_named : (v : ℕ) → Among v rows → Among v names
  row_named v a = subst (Among v) after_two (among_front v two (in_nums ++ in_atoms) (distinct_has one rows v a))

  -- ---- sorts

  sort_at : (v : ℕ) → Among v names → sort_in source.sorts (place v) ≡ sort_in c.sorts v
  sort_at v a = at_place (sort_in c.sorts) names v Any Any a

  -- a Num variable is in a row, or in none
  num_found : (v : ℕ) → sort_in c.sorts v ≡ Num → Among v three
  num_found v e = elim (among_or_not nat_eq number_equality v rows) [
    | inl a ↦ subst (Among v) (sym (distinct_extends nat_eq number_equality two nums).1) (among_front v two in_nums (distinct_has one rows v a))
    | inr apart ↦ distinct_has two nums v (loose_in c v e apart)
  ]

  numbered : (n : ℕ) → 0 < n → n ≤ length names → (v : ℕ) × Among v names × (place v ≡ n)
  numbered n l m =
      let k = at_a_place names [] (subst AreDistinct (sym (append-nil names)) names_distinct) n l m in
      (k.0, k.1, subst (λ g. place_in g k.0 ≡ n) (append-nil names) k.2)

  -- ---- the Num variables in no row of the source

  abbrev known : ℕ
  known = length two

  abbrev more : ℕ
  more = length in_nums

  behind_two : AreDistinct (two ++ (in_nums ++ in_atoms))
  behind_two = subst AreDistinct (sym after_two) names_distinct

  place_in_nums : (v : ℕ) → Among v in_nums → place v ≡ known + place_in (in_nums ++ in_atoms) v
  place_in_nums v a = subst (λ g. place_in g v ≡ known + place_in (in_nums ++ in_atoms) v) after_two (place_behind two (in_nums ++ in_atoms) v (not_before two in_nums in_atoms behind_two v a))

  nums_come_from : (n : ℕ) → Among n (loose_nums source) → Among n (upto known) ⊎ Among n (numbers known more)
  nums_come_from n a =
      let o = loose_out source n a in
      let w = listed_within source.sorts n (num_listed source.sorts n o.0) in
      let long = length-map names (sort_in c.sorts) in
      let k = numbered n w.0 (let u = w.1 in omega (arith, long)) in
      let v = k.0 in
      let num : sort_in c.sorts v ≡ Num = sym (sort_at v k.1) ∙ (ap (sort_in source.sorts) k.2 ∙ o.0) in
      let positive = w.0 in
      elim (among_either v two in_nums (subst (Among v) (distinct_extends nat_eq number_equality two nums).1 (num_found v num))) [
        | inl b ↦
            let l : place v ≤ known = subst (λ g. place_in g v ≤ known) after_two (place_front two (in_nums ++ in_atoms) v b) in
            inl (upto_has known n positive (omega (arith, k.2)))
        | inr b ↦
            let e = place_in_nums v b in
            let l = place_front in_nums in_atoms v b in
            let p = place_positive (in_nums ++ in_atoms) v in
            inr (numbers_has known more n (omega (arith, k.2)) (omega (arith, k.2)))
      ]

  all_nums : (n : ℕ) → Among n (numbers known more) → Among n (loose_nums source) × ¬ Among n (upto known)
  all_nums n a =
      let w = numbers_within known more n a in
      let low = w.0 in
      let high = w.1 in
      let k = at_a_place in_nums in_atoms (behind_distinct two (in_nums ++ in_atoms) behind_two) (n - known) (omega (arith, low)) (omega (arith, high)) in
      let v = k.0 in
      let is : place v ≡ n = place_in_nums v k.1 ∙ omega (arith, k.2, low) in
      let found : Among v three = subst (Among v) (sym (distinct_extends nat_eq number_equality two nums).1) (among_back v two in_nums k.1) in
      let named = three_among v found in
      let loose : Among v nums = elim (distinct_from nat_eq number_equality two nums v found) [
        | inl b ↦ absurd (not_before two in_nums in_atoms behind_two v k.1 b)
        | inr b ↦ b
      ] in
      let o = loose_out c v loose in
      let num : sort_in source.sorts n ≡ Num = ap (sort_in source.sorts) (sym is) ∙ (sort_at v named ∙ o.0) in (
        loose_in source n num (λ b. let u = rows_from place c.rows n b in o.1 (subst (λ z. Among z rows) (place_apart names u.0 v (row_named u.0 u.1) named (u.2 ∙ sym is)) u.1)),
        λ b. let u = (upto_within known n b).1 in absurd (omega (arith, low)),
      )

  nums_add : distinct_after nat_eq (upto known) (loose_nums source) ≡ upto (length three)
  nums_add =
      let ns = loose_nums source in
      let own = ones_are ns in
      let count : known + more ≡ length three = sym (ap (λ xs. length xs) (distinct_extends nat_eq number_equality two nums).1 ∙ length-append two in_nums) in
      ap (distinct_after nat_eq (upto known)) (sym own)
      ∙ (rising_adds (upto known) (numbers known more) (ones ns) (rising_ones ns (loose_increase source)) (numbers_increase known more)
      (λ n a. nums_come_from n (subst (Among n) own a)) (λ n a. let r = all_nums n a in (subst (Among n) (sym own) r.0, r.1))
      ∙ (numbers_join known more ∙ ap upto count))

  -- ---- the variables of the source, as it is printed, are the numbers from 1 on

  heads_are : variables_in (source.head ∷ []) ≡ map place heads
  heads_are = all_variables_mapped place (c.head ∷ [])

  atoms_are : variables_in source.body ≡ map place atoms
  atoms_are = all_variables_mapped place c.body

  printed_again : variables_as_printed source ≡ upto (length names)
  printed_again =
      let first_is : distinct_after nat_eq [] (variables_in (source.head ∷ [])) ≡ upto (length one) = ap (distinct_after nat_eq []) heads_are ∙ numbered_list names [] heads (in_rows ++ (in_nums ++ in_atoms)) after_one in
      let second_is = rows_add names names_distinct one (in_nums ++ in_atoms) c.rows (λ r a. (row_is_normal c h r a).rising) after_two in
      let last_is = numbered_list names three atoms [] (append-nil (distinct_after nat_eq three atoms) ∙ sym names_are) in
      let heads' = variables_in (source.head ∷ []) in
      let rows' = rows_variables source.rows in
      let nums' = loose_nums source in
      let atoms' = variables_in source.body in
      distinct_append [] (heads' ++ rows' ++ nums') atoms'
      ∙ (ap (λ f. distinct_after nat_eq f atoms')
      (distinct_append [] (heads' ++ rows') nums'
      ∙ (ap (λ f. distinct_after nat_eq f nums') (distinct_append [] heads' rows' ∙ (ap (λ f. distinct_after nat_eq f rows') first_is ∙ second_is)) ∙ nums_add))
      ∙ (ap (distinct_after nat_eq (upto (length three))) atoms_are ∙ (last_is ∙ ap (λ f. upto (length f)) (sym names_are))))

  pub source_printed : variables_as_printed (source_of c) ≡ upto (length names)
  unfolding source_of
  source_printed = printed_again

  pub names_few : length names ≤ 256
  names_few =
      let few = few_numbers (length c.sorts) names names_distinct (λ n a. printed_listed c h n a) in
      let sorts = sorts_few c h in
      omega arith

  -- ---- so it stays as it is

  own_number : (n : ℕ) → Among n names → place_in (upto (length names)) (place n) ≡ place n
  own_number n a =
      let l : place n ≤ length names = subst (λ t. place_in t n ≤ length names) (append-nil names) (place_front names [] n a) in
      place_upto (length names) (place n) (place_positive names n) l

  rows_stay : (rs : List Row) → ((r : Row) → Among r rs → Among r c.rows) → map (written (place_in (upto (length names)))) (map (written place) rs) ≡ map (written place) rs
  rows_stay [] inside = refl
  rows_stay (r ∷ rs) inside =
      let a = written_stays (place_in (upto (length names))) (written place r) (record { rising = written_rises place r; stays = written_normal place r })
      (λ n m. let k = written_from place r n m in
      subst (λ z. place_in (upto (length names)) z ≡ z) k.2 (own_number k.0 (row_named k.0 (among_rows r c.rows k.0 (inside r first) k.1)))) in
      let b = rows_stay rs (λ s m. inside s (next m)) in
      cc

  head_named : (v : ℕ) → Among v (variables c.head) → Among v names
  head_named v a = distinct_has [] (heads ++ rows ++ nums ++ atoms) v
      (among_front v (heads ++ rows ++ nums) atoms (among_front v (heads ++ rows) nums (among_front v heads rows (among_front v (variables c.head) [] a))))

  atom_named : (v : ℕ) → Among v atoms → Among v names
  atom_named v a = distinct_has [] (heads ++ rows ++ nums ++ atoms) v (among_back v (heads ++ rows ++ nums) atoms a)

  pub source_again : source_of (source_of c) ≡ source_of c
  unfolding source_of
  source_again =
      let own = upto (length names) in
      let head : mapped (place_in own) (mapped place c.head) ≡ mapped place c.head = mapped_twice place (place_in own) place c.head (λ v a. own_number v (head_named v a)) in
      let body : mapped_all (place_in own) (mapped_all place c.body) ≡ mapped_all place c.body = all_mapped_twice place (place_in own) place c.body (λ v a. own_number v (atom_named v a)) in
      let sorts : map (sort_in source.sorts) own ≡ source.sorts = ap (map (sort_in source.sorts)) (sym (places_upto names names_distinct)) ∙ sorts_at (sort_in c.sorts) names names (λ k a. a) in
      ap (λ ms. numbered_by ms source) printed_again ∙ same_parts head body (rows_stay c.rows (λ r m. m)) sorts

  pub row_place : (r : Row) → Among r c.rows → IsInjectiveOn (row_variables r) place
  row_place r a m n x y e = place_apart names m n (row_named m (among_rows r c.rows m a x)) (row_named n (among_rows r c.rows n a y)) e
