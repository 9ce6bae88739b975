-- What the rules on constraints make of a clause may take its place.
use Rattle.std.proofs.Common.{◌≡◌, ℕ, ◌-◌, List, [], ◌∷◌, ◌++◌, length, map, Bool, true, false, arith, refl, sym, ap, subst, inl, inr, eq-eqb}
use Rattle.std.specs.Prelude.{Option, Some, None, nat_eq, remove, ◌||◌, if◌then◌else◌}
use Rattle.std.specs.List.{list_any}
use Rattle.std.proofs.Math.IntN.{ℤ}
use Rattle.clp_model.specs.declared.sort.Sort.{Sort}
use Rattle.clp_model.specs.declared.sort.Sort.TheVariants.{Any, Num}
use Rattle.clp_model.specs.declared.tree.Tree.{Tree}
use Rattle.clp_model.specs.Trees.{IsApplication, mapped, variables, variables_in}
use Rattle.clp_model.specs.Clauses.{Clause, Row, sort_in}
use Rattle.clp_model.proofs.Membership.{Among, first, next, among_either, to_among, from_among}
use Rattle.clp_model.proofs.RenamedTrees.{variables_mapped, application_mapped}
use Rattle.linear_model.specs.Forms.{IsRising}
use Rattle.linear_model.specs.Changes.{renamed}
use Rattle.linear_model.specs.Certificates.{Entails}
use Rattle.linear_model.specs.Elimination.{elimination}
use Rattle.linear_laws.proofs.Lists.{mapped_out}
use Rattle.linear_laws.proofs.Renamed.{rising_renamed}
use Rattle.linear_laws.proofs.Fresh.{elimination_rises, no_variable_comes}
use Rattle.unify_laws.proofs.Solved.{among_cases}
use Rattle.clause_model.specs.Variables.{row_variables}
use Rattle.clause_model.specs.Canonical.{IsCanonical}
use Rattle.clause_laws.proofs.Rows.{all_each, each_all}
use Rattle.replace_model.specs.Rows.{with_row, without_row, projected, replacing, equated, equation_of}
use Rattle.rule_laws.specs.Steps.{IsHeld}
use Rattle.rule_laws.proofs.RowRules.{added_row, dropped_row, projected_clause, equated_by_row}
use Rattle.map_model.specs.declared.refusal.Refusal.{Refusal}
use Rattle.map_model.specs.declared.refusal.Refusal.TheVariants.{LooseVariable, NotNumber, NoRow, StillUsed}
use Rattle.fold_model.specs.Positions.{in_range}
use Rattle.map_model.specs.Replacing.{is_number, loose, not_number, variables_broken, row_of, no_row, still_used, elimination_broken, project_broken, same_variable, equate_broken}
use Rattle.map_model.specs.Rewriting.{or_next}
use Rattle.state_laws.proofs.Variables.{has_among, among_has, renamed_from, among_remove, among_mapped_all}
use Rattle.state_laws.proofs.Sound.{Placed, TreeFits, RowFits, Fits, held_of, held_fits}
use Rattle.state_laws.proofs.Known.{equated_speaks}
use Rattle.state_laws.proofs.Unfolded.{place_of}
use Rattle.state_laws.proofs.Replaced.{MayReplace}

-- ---- conditions that are not broken
neither : (a b : Option Refusal) → or_next a b ≡ None → (a ≡ None) × (b ≡ None)
neither None b h = (refl, h)
neither (Some r) b h = absurd (cc)

unless : (b : Bool) (r : Refusal) → (if b then None else Some r) ≡ None → b ≡ true
unless true r h = refl
unless false r h = absurd (cc)

when : (b : Bool) (r : Refusal) → (if b then Some r else None) ≡ None → b ≡ false
when true r h = absurd (cc)
when false r h = refl

number_is : (s : Sort) → is_number s ≡ true → s ≡ Num
number_is Any h = absurd (cc)
number_is Num h = refl

is_placed : (c : Clause) (v : ℕ) → loose c v ≡ None → Placed (length c.sorts) v
is_placed c v h =
    let p = place_of (length c.sorts) v (unless (in_range (length c.sorts) v) (LooseVariable v) h) in
    let low = p.0 in
    let high = p.1 in
    (low, omega arith)

is_num : (c : Clause) (v : ℕ) → not_number c v ≡ None → sort_in c.sorts v ≡ Num
is_num c v h = number_is (sort_in c.sorts v) (unless (is_number (sort_in c.sorts v)) (NotNumber v) h)

each_right : (c : Clause) (ps : List (ℕ × ℤ)) → variables_broken c ps ≡ None → (n : ℕ) → Among n (map (λ p. p.0) ps) → Placed (length c.sorts) n × (sort_in c.sorts n ≡ Num)
each_right c [] h n a = elim a [ ]
each_right c (p ∷ ps) h n a =
    let one = neither (loose c p.0) (or_next (not_number c p.0) (variables_broken c ps)) h in
    let two = neither (not_number c p.0) (variables_broken c ps) one.1 in
    among_cases a
    (λ q. subst (λ m. Placed (length c.sorts) m × (sort_in c.sorts m ≡ Num)) (sym q) (is_placed c p.0 one.0, is_num c p.0 two.0))
    (λ m. each_right c ps two.1 n m)

any_of : (v : ℕ) (xs : List ℕ) → Among v xs → list_any (nat_eq v) xs ≡ true
any_of v [] a = elim a [ ]
any_of v (x ∷ xs) first = ap (λ b. b || list_any (nat_eq v) xs) (eq-eqb v v refl)
any_of v (x ∷ xs) (next a) = by (nat_eq v x) (any_of v xs a)
  where
    by : (b : Bool) → list_any (nat_eq v) xs ≡ true → (b || list_any (nat_eq v) xs) ≡ true
    by true h = refl
    by false h = h

is_unused : (c : Clause) (v : ℕ) → still_used c v ≡ None → ¬ Among v (variables_in (c.head ∷ c.body))
is_unused c v h a =
    let used = any_of v (variables_in (c.head ∷ c.body)) a in
    let unused = when (list_any (nat_eq v) (variables_in (c.head ∷ c.body))) (StillUsed v) h in
    absurd (cc)

-- ---- other rows in the same clause
module _ (c : Clause) (held : IsHeld c) (canonical : IsCanonical c) where
  fits : Fits c
  fits = held_fits c held

  risen : (r : Row) → Among r c.rows → IsRising r.pairs
  risen = all_each (λ r. IsRising r.pairs) c.rows canonical.rising

  with_rows : (rows : List Row) → ((r : Row) → Among r rows → RowFits c r) → IsHeld (record c { rows = rows })
  with_rows rows each = held_of (record c { rows = rows }) held.equations (record {
    applies = fits.applies;
    trees = fits.trees;
    rows = λ r a. let k = each r a in record { placed = k.placed; num = k.num };
  })

  -- ---- add
  pub added_may : (row : Row) → IsRising row.pairs → variables_broken c row.pairs ≡ None → Entails c.rows row → MayReplace (with_row c row) c
  added_may row rising right shown = record {
    same = added_row c row shown;
    held = with_rows (c.rows ++ row ∷ []) (each RowFits' fits.rows (record { placed = λ n a. (each_right c row.pairs right n a).0; num = λ n a. (each_right c row.pairs right n a).1 }));
    rising = each_all (λ r. IsRising r.pairs) (c.rows ++ row ∷ []) (each (λ r. IsRising r.pairs) risen rising);
    speaks = λ known h. h;
  }
    where
      RowFits' : Row → Type 0
      RowFits' r = RowFits c r

      each : (P : Row → Type 0) → ((r : Row) → Among r c.rows → P r) → P row → (r : Row) → Among r (c.rows ++ row ∷ []) → P r
      each P old new r a = elim (among_either r c.rows (row ∷ []) a) [ inl m ↦ old r m | inr m ↦ among_cases m (λ q. subst P (sym q) new) (λ b. elim b [ ]) ]

  -- ---- drop
  pub dropped_may : (i : ℕ) → no_row c i ≡ None → Entails (remove c.rows (i - 1)) (row_of c.rows i) → MayReplace (without_row c (i - 1)) c
  dropped_may i right shown =
      let p = place_of (length c.rows) i (unless (in_range (length c.rows) i) (NoRow i) right) in
      record {
        same = dropped_row c (i - 1) _ p.1 shown;
        held = with_rows (remove c.rows (i - 1)) (λ r a. fits.rows r (among_remove c.rows (i - 1) r a));
        rising = each_all (λ r. IsRising r.pairs) (remove c.rows (i - 1)) (λ r a. risen r (among_remove c.rows (i - 1) r a));
        speaks = λ known h. h;
      }

  -- ---- project
  module _ (v : ℕ) (right : project_broken c v ≡ None) where
    unused : ¬ Among v (variables_in (c.head ∷ c.body))
    unused =
        let one = neither (loose c v) (or_next (not_number c v) (or_next (still_used c v) (elimination_broken c v))) right in
        let two = neither (not_number c v) (or_next (still_used c v) (elimination_broken c v)) one.1 in
        is_unused c v (neither (still_used c v) (elimination_broken c v) two.1).0

    rises : (r : Row) → Among r (elimination v c.rows) → IsRising r.pairs
    rises r a = elimination_rises v c.rows (λ x l. risen x (to_among c.rows x l)) r (from_among a)

    row_fits : (r : Row) → Among r (elimination v c.rows) → RowFits c r
    row_fits r a = record { placed = λ n m. (each n m).0; num = λ n m. (each n m).1 }
      where
        each : (n : ℕ) → Among n (row_variables r) → Placed (length c.sorts) n × (sort_in c.sorts n ≡ Num)
        each n m =
            let w = no_variable_comes v c.rows r n (from_among a) (has_among r n (rises r a) m) in
            let k = fits.rows w.0 (to_among c.rows w.0 w.1) in
            let there = among_has w.0 n w.2 in
            (k.placed n there, k.num n there)

    pub projected_may : MayReplace (projected c v) c
    projected_may = record {
      same = projected_clause c v held.equations unused;
      held = with_rows (elimination v c.rows) row_fits;
      rising = each_all (λ r. IsRising r.pairs) (elimination v c.rows) rises;
      speaks = λ known h. h;
    }

  -- ---- equate
  module _ (v u : ℕ) (right : equate_broken c v u ≡ None) (shown : Entails c.rows (equation_of v u)) where
    abbrev f : ℕ → ℕ
    f = replacing v u

    abbrev count : ℕ
    count = length c.sorts

    numbers : (Placed count u) × (sort_in c.sorts v ≡ Num) × (sort_in c.sorts u ≡ Num)
    numbers =
        let one = neither (loose c v) (or_next (loose c u) (or_next (same_variable v u) (or_next (not_number c v) (not_number c u)))) right in
        let two = neither (loose c u) (or_next (same_variable v u) (or_next (not_number c v) (not_number c u))) one.1 in
        let three = neither (same_variable v u) (or_next (not_number c v) (not_number c u)) two.1 in
        let four = neither (not_number c v) (not_number c u) three.1 in
        (is_placed c u two.0, is_num c v four.0, is_num c u four.1)

    -- what holds of u and of n holds of what becomes of n
    becomes : (P : ℕ → Type 0) (n : ℕ) → P u → P n → P (f n)
    becomes P n one other = by (nat_eq n v)
      where
        by : (b : Bool) → P (if b then u else n)
        by true = one
        by false = other

    tree_fits : (t : Tree ℕ) → TreeFits count t → TreeFits count (mapped f t)
    tree_fits t h n a = mapped_out f (variables t) (Placed count) (λ k b. becomes (Placed count) k numbers.0 (h k b)) n (subst (Among n) (variables_mapped f t) a)

    tree_from : (P : Tree ℕ → Type 0) → ((t : Tree ℕ) → Among t (c.head ∷ c.body) → P (mapped f t)) → (x : Tree ℕ) → Among x ((equated c v u).head ∷ (equated c v u).body) → P x
    tree_from P each x a = among_cases a
        (λ q. subst P (sym q) (each c.head first))
        (λ m. let k = among_mapped_all f c.body x m in subst P (sym k.2) (each k.0 (next k.1)))

    row_became : (r : Row) → Among r c.rows → RowFits (equated c v u) (renamed f r)
    row_became r m = record { placed = λ n a. (each n a).0; num = λ n a. (each n a).1 }
      where
        Right : ℕ → Type 0
        Right n = Placed count n × (sort_in c.sorts n ≡ Num)

        each : (n : ℕ) → Among n (row_variables (renamed f r)) → Placed count n × (sort_in c.sorts n ≡ Num)
        each n a =
            let w = renamed_from f r n a in
            let k = fits.rows r m in
            subst Right w.2 (becomes Right w.0 (numbers.0, numbers.2) (k.placed w.0 w.1, k.num w.0 w.1))

    pub equated_may : MayReplace (equated c v u) c
    equated_may = record {
      same = equated_by_row c v u held.equations numbers.1 numbers.2 shown;
      held = held_of (equated c v u) refl (record {
        applies = tree_from IsApplication (λ t m. application_mapped f t (fits.applies t m));
        trees = tree_from (TreeFits count) (λ t m. tree_fits t (fits.trees t m));
        rows = λ r a. mapped_out (renamed f) c.rows (RowFits (equated c v u)) row_became r a;
      });
      rising = each_all (λ r. IsRising r.pairs) (map (renamed f) c.rows) (λ r a. mapped_out (renamed f) c.rows (λ x. IsRising x.pairs) (λ x m. rising_renamed f x) r a);
      speaks = λ known h. equated_speaks known c v u h;
    }
