-- What loading and the rules make of clauses that are held is held.
use Rattle.std.proofs.Common.{◌≡◌, ℕ, zero, suc, ◌+◌, ◌<◌, List, [], ◌∷◌, ◌++◌, length, take, drop, get_or, arith, refl, sym, ap, subst, Bool, true, false, Option, Some, None, Result, Ok, Err, inl, inr, map}
use Rattle.std.specs.Prelude.{remove, if◌then◌else◌}
use Rattle.std.proofs.lemmas.List.{length-append}
use Rattle.clp_model.specs.declared.limit.Limit.TheVariants.{Shape}
use Rattle.clp_model.specs.declared.tree.Tree.{Tree}
use Rattle.clp_model.specs.Trees.{IsApplication, mapped, mapped_all, variables}
use Rattle.clp_model.specs.declared.sort.Sort.TheVariants.{Num}
use Rattle.clp_model.specs.Clauses.{Clause, Row, sort_in}
use Rattle.clp_model.proofs.Membership.{Among, first, next, among_either}
use Rattle.clp_model.proofs.RenamedTrees.{variables_mapped, application_mapped}
use Rattle.clp_meaning.specs.Laws.{without_atom}
use Rattle.linear_model.specs.Changes.{renamed}
use Rattle.linear_laws.proofs.Lists.{mapped_out}
use Rattle.unify_laws.proofs.Solved.{among_cases}
use Rattle.clause_model.specs.Variables.{row_variables, rows_variables}
use Rattle.clause_model.specs.Canonical.{Refusal, TooLarge, canonical_form, new_clause, HasRisingRows, IsCanonical}
use Rattle.clause_model.specs.Solved.{solved_clause}
use Rattle.clause_model.specs.Load.{load_one, loaded_solved, made_of, any_side_large}
use Rattle.clause_laws.proofs.Rows.{all_each, each_all, among_rows}
use Rattle.clause_laws.proofs.NewClause.{new_clause_is_canonical}
use Rattle.clause_laws.proofs.Loading.{solved_shape}
use Rattle.unfold_model.specs.Resolvent.{past, joined_clause, resolvent}
use Rattle.rule_laws.specs.Steps.{IsHeld}
use Rattle.rule_laws.proofs.Unfolding.{nums_joined}
use Rattle.map_model.specs.WellFormed.{side_variables, IsWellFormed}
use Rattle.state_laws.specs.Laws.{LoadedClausesAreHeld}
use Rattle.state_laws.proofs.Variables.{renamed_from, among_take, among_drop, among_remove, among_mapped_all}
use Rattle.state_laws.proofs.Sound.{Placed, TreeFits, Fits, held_of, held_fits, places_fit, nums_fit}
use Rattle.state_laws.proofs.Solved.{solved_is_held}
use Rattle.state_laws.proofs.Numbered.{canonical_is_held}

-- a new clause that is made of one that is held
pub new_is_held : (c d : Clause) → IsHeld c → HasRisingRows c → new_clause c ≡ Ok d → (d ≡ canonical_form c) × IsHeld d × IsCanonical d
new_is_held c d h rising e =
    let k = new_clause_is_canonical c d rising e in
    (k.0, subst IsHeld (sym k.0) (canonical_is_held c h), k.1)

-- ---- loading
some_is : {d x : Clause} → ◌≡◌ {A = Result (Option Clause) Refusal} (Ok (Some d)) (Ok (Some x)) → d ≡ x
some_is {d} e = let back : Result (Option Clause) Refusal → Clause = elim [ Ok None ↦ d | Ok (Some y) ↦ y | Err r ↦ d ] in ap back e

pub loaded_is_held : LoadedClausesAreHeld
unfolding load_one
loaded_is_held c d w e = by (any_side_large c.equations) e
  where
    made : (s : Clause) → solved_clause c ≡ Some s → (o : Result Clause Refusal) → new_clause s ≡ o → made_of o ≡ Ok (Some d) → IsHeld d × IsCanonical d
    made s q (Err r) n h = absurd (cc)
    made s q (Ok x) n h =
        let k = new_is_held s x (solved_is_held c s w q) (solved_shape c s q).1 n in
        subst (λ (y : Clause). IsHeld y × IsCanonical y) (some_is h) (k.1, k.2)

    solved : (o : Option Clause) → solved_clause c ≡ o → loaded_solved o ≡ Ok (Some d) → IsHeld d × IsCanonical d
    solved None q h = absurd (cc)
    solved (Some s) q h = made s q (new_clause s) refl h

    by : (b : Bool) → (if b then Err (TooLarge Shape) else loaded_solved (solved_clause c)) ≡ Ok (Some d) → IsHeld d × IsCanonical d
    by true h = absurd (cc)
    by false h = solved (solved_clause c) refl h

-- ---- merging
pub without_is_held : (c : Clause) (i : ℕ) → IsHeld c → IsHeld (without_atom c i)
without_is_held c i h =
    let fits = held_fits c h in
    let inside : (t : Tree ℕ) → Among t (c.head ∷ remove c.body i) → Among t (c.head ∷ c.body) =
    λ t a. among_cases a (λ q. subst (λ x. Among x (c.head ∷ c.body)) (sym q) first) (λ m. next (among_remove c.body i t m)) in
    held_of (without_atom c i) h.equations (record {
      applies = λ t a. fits.applies t (inside t a);
      trees = λ t a. fits.trees t (inside t a);
      rows = λ r a. let k = fits.rows r a in record { placed = k.placed; num = k.num };
    })

-- ---- unfolding
among_at : {A : Type 0} (xs : List A) (i : ℕ) (d : A) → i < length xs → Among (get_or xs i d) xs
among_at [] i d h = absurd (omega arith)
among_at (x ∷ xs) zero d h = first
among_at (x ∷ xs) (suc i) d h = next (among_at xs i d (omega arith))

module _ (c e : Clause) (i : ℕ) (inside : i < length c.body) (hc : IsHeld c) (he : IsHeld e) where
  abbrev k : ℕ
  k = length c.sorts

  abbrev J : Clause
  J = joined_clause c i e

  abbrev count : ℕ
  count = length (c.sorts ++ e.sorts)

  of_c : Fits c
  of_c = held_fits c hc

  of_e : Fits e
  of_e = held_fits e he

  long : count ≡ k + length e.sorts
  long = length-append c.sorts e.sorts

  first_placed : (n : ℕ) → Placed k n → Placed count n
  first_placed n h = let a = h.1 in let b = long in (h.0, omega arith)

  past_placed : (n : ℕ) → Placed (length e.sorts) n → Placed count (past k n)
  past_placed n h = let a = h.0 in let b = h.1 in let l = long in (omega arith, omega arith)

  first_tree : (t : Tree ℕ) → Among t (c.head ∷ c.body) → TreeFits count t
  first_tree t m n a = first_placed n (of_c.trees t m n a)

  past_tree : (t : Tree ℕ) → Among t (e.head ∷ e.body) → TreeFits count (mapped (past k) t)
  past_tree t m n a = mapped_out (past k) (variables t) (Placed count) (λ v b. past_placed v (of_e.trees t m v b)) n (subst (Among n) (variables_mapped (past k) t) a)

  -- each tree is one of c, or of the body of e past it
  tree_from : (P : Tree ℕ → Type 0) → ((t : Tree ℕ) → Among t (c.head ∷ c.body) → P t) → ((t : Tree ℕ) → Among t (e.head ∷ e.body) → P (mapped (past k) t)) → (u : Tree ℕ) → Among u (J.head ∷ J.body) → P u
  tree_from P one two u a = among_cases a
      (λ q. subst P (sym q) (one c.head first))
      (λ m. elim (among_either u (take i c.body) (mapped_all (past k) e.body ++ drop (suc i) c.body) m) [
        | inl b ↦ one u (next (among_take i c.body u b))
        | inr b ↦ elim (among_either u (mapped_all (past k) e.body) (drop (suc i) c.body) b) [
          | inl x ↦ let w = among_mapped_all (past k) e.body u x in subst P (sym w.2) (two w.0 (next w.1))
          | inr x ↦ one u (next (among_drop (suc i) c.body u x))
        ]
      ])

  row_placed : (r : Row) → Among r J.rows → (n : ℕ) → Among n (row_variables r) → Placed count n
  row_placed r m n a = elim (among_either r c.rows (map (renamed (past k)) e.rows) m) [
    | inl b ↦ first_placed n ((of_c.rows r b).placed n a)
    | inr b ↦ mapped_out (renamed (past k)) e.rows (λ s. Among n (row_variables s) → Placed count n) (λ s x y. let w = renamed_from (past k) s n y in subst (Placed count) w.2 (past_placed w.0 ((of_e.rows s x).placed w.0 w.1))) r b a
  ]

  side_placed : (n : ℕ) → Among n (side_variables J.equations) → Placed count n
  side_placed n a = elim (among_either n (variables (get_or c.body i c.head)) (variables (mapped (past k) e.head) ++ []) a) [
    | inl b ↦ first_tree (get_or c.body i c.head) (next (among_at c.body i c.head inside)) n b
    | inr b ↦ elim (among_either n (variables (mapped (past k) e.head)) [] b) [ inl x ↦ past_tree e.head first n x | inr x ↦ elim x [ ] ]
  ]

  joined_fits : Fits J
  joined_fits = record {
    applies = tree_from IsApplication of_c.applies (λ t m. application_mapped (past k) t (of_e.applies t m));
    trees = tree_from (TreeFits count) first_tree past_tree;
    rows = λ r m. record { placed = row_placed r m; num = row_num r m };
  }
    where
      row_num : (r : Row) → Among r J.rows → (n : ℕ) → Among n (row_variables r) → sort_in J.sorts n ≡ Num
      row_num r m n a = all_each (λ n. sort_in J.sorts n ≡ Num) (rows_variables J.rows) (nums_joined c e i inside hc he) n (among_rows r J.rows n m a)

  joined_is_well_formed : IsWellFormed J
  joined_is_well_formed = record {
    applications = each_all IsApplication (J.head ∷ J.body) joined_fits.applies;
    places = places_fit J joined_fits;
    sides = each_all (Placed count) (side_variables J.equations) side_placed;
    nums = nums_fit J joined_fits;
  }

  pub resolvent_is_held : (d : Clause) → resolvent c i e ≡ Some d → IsHeld d × HasRisingRows d
  unfolding resolvent
  resolvent_is_held d q = (solved_is_held J d joined_is_well_formed q, (solved_shape J d q).1)
