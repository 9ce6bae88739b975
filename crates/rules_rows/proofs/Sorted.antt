-- The parts of a clause with other rows, or with one variable in the place of another.
use Rattle.std.proofs.Common.{◌≡◌, ℕ, zero, suc, ◌<◌, ◌≤◌, List, [], ◌∷◌, ◌++◌, length, map, refl, ap, ◌∙◌, sym, subst, arith, All, ◌⊎◌, inl, inr, Bool, true, false, nat_eq, remove}
use Rattle.std.specs.Prelude.{if◌then◌else◌, Err}
use Rattle.std.proofs.lemmas.Bool.{eqb-true}
use Rattle.std.proofs.lemmas.List.Edits.{length-remove}
use Rattle.clp_model.specs.declared.sort.Sort.{Sort}
use Rattle.clp_model.specs.declared.sort.Sort.TheVariants.{Num}
use Rattle.clp_model.specs.declared.tree.Variable.{Variable}
use Rattle.clp_model.specs.declared.tree.Tree.{Tree}
use Rattle.clp_model.specs.Trees.{mapped, mapped_all, variables_in, IsApplication}
use Rattle.clp_model.specs.Clauses.{Row, sort_in}
use Rattle.clp_model.specs.Clauses.{Clause as Meaning}
use Rattle.clp_model.proofs.Membership.{Among, first, next, among_either}
use Rattle.clp_model.proofs.RenamedTrees.{all_variables_mapped, application_mapped, mapped_twice, all_mapped_twice}
use Rattle.linear_model.specs.Normal.{normal}
use Rattle.linear_model.specs.Changes.{renamed}
use Rattle.linear_laws.proofs.Lists.{mapped_out}
use Rattle.lin_row.specs.Rows.{IsKept}
use Rattle.unify_laws.proofs.Solved.{among_cases}
use Rattle.clause_model.specs.Variables.{row_variables, rows_variables}
use Rattle.clause_model.specs.Canonical.{new_clause, all_within, Overflow}
use Rattle.clause_laws.proofs.Rows.{all_each, each_all, among_rows}
use Rattle.clause_laws.proofs.Written.{written_from}
use Rattle.term_store.specs.Trees.{tree_at, trees_at, HasTree, HaveTrees}
use Rattle.clause_store.specs.declared.clause.Clause.{Clause}
use Rattle.clause_store.specs.Stored.{number_of, clause_of, clause_in, HasSort, IsNum, AreParts, IsStored}
use Rattle.clause_store.proofs.RowForms.{from_rows}
use Rattle.clause_loader.proofs.Loads.{new_normal, overflow}
use Rattle.replace_model.specs.Rows.{replacing, equated}
use Rattle.rules_rows.specs.Replaced.{with_other}

-- ---- the variables of rows
pub nums_of : (sorts : List Sort) (rows : List Row) → ((r : Row) → Among r rows → (n : ℕ) → Among n (row_variables r) → IsNum sorts n) → All (IsNum sorts) (rows_variables rows)
nums_of sorts rows h = each_all (IsNum sorts) (rows_variables rows) (λ n m. let r = from_rows rows n m in h r.0 r.1 n r.2)

pub num_in : (sorts : List Sort) (rows : List Row) → All (IsNum sorts) (rows_variables rows) → (r : Row) → Among r rows → (n : ℕ) → Among n (row_variables r) → IsNum sorts n
num_in sorts rows h r m n k = all_each (IsNum sorts) (rows_variables rows) h n (among_rows r rows n m k)

-- ---- a row put last
last_or : {A : Type 0} (x y : A) (xs : List A) → Among y (xs ++ x ∷ []) → Among y xs ⊎ (y ≡ x)
last_or x y xs m = elim (among_either y xs (x ∷ []) m) [
  | inl a ↦ inl a
  | inr b ↦ inr (among_cases b (λ e. e) (λ k. elim k [ ]))
]

pub nums_more : (sorts : List Sort) (rows all : List Row) (r : Row) → all ≡ rows ++ r ∷ [] → All (IsNum sorts) (rows_variables rows) → ((n : ℕ) → Among n (row_variables r) → IsNum sorts n) → All (IsNum sorts) (rows_variables all)
nums_more sorts rows all r is h k =
    let P : List Row → Type 0 = λ v. All (IsNum sorts) (rows_variables v) in
    subst P (sym is) (nums_of sorts (rows ++ r ∷ []) (λ s m n a. elim (last_or r s rows m) [
      | inl b ↦ num_in sorts rows h s b n a
      | inr e ↦ k n (subst (λ (t : Row). Among n (row_variables t)) e a)
    ]))

pub kept_more : (rows all : List Row) (r : Row) → all ≡ rows ++ r ∷ [] → All IsKept rows → IsKept r → All IsKept all
kept_more rows all r is h k =
    subst (λ (v : List Row). All IsKept v) (sym is) (each_all IsKept (rows ++ r ∷ []) (λ s m. elim (last_or r s rows m) [
      | inl b ↦ all_each IsKept rows h s b
      | inr e ↦ subst IsKept (sym e) k
    ]))

-- a copy of the rows with a copy of the row put last
pub copied_last : (rows seen all : List Row) (r s : Row) → seen ≡ rows → s ≡ r → all ≡ seen ++ s ∷ [] → all ≡ rows ++ r ∷ []
copied_last rows seen all r s e d is = is ∙ ap (λ (v : List Row). v ++ s ∷ []) e ∙ ap (λ (t : Row). rows ++ t ∷ []) d

-- ---- a row removed
removed_among : (rows : List Row) (i : ℕ) (r : Row) → Among r (remove rows i) → Among r rows
removed_among [] zero r a = elim a [ ]
removed_among [] (suc i) r a = elim a [ ]
removed_among (x ∷ rows) zero r a = next a
removed_among (x ∷ rows) (suc i) r a = among_cases a (λ e. subst (λ (z : Row). Among z (x ∷ rows)) (sym e) first) (λ m. next (removed_among rows i r m))

pub kept_without : (rows all : List Row) (i : ℕ) → all ≡ remove rows i → All IsKept rows → All IsKept all
kept_without rows all i is h =
    subst (λ (v : List Row). All IsKept v) (sym is) (each_all IsKept (remove rows i) (λ r m. all_each IsKept rows h r (removed_among rows i r m)))

pub nums_without : (sorts : List Sort) (rows all : List Row) (i : ℕ) → all ≡ remove rows i → All (IsNum sorts) (rows_variables rows) → All (IsNum sorts) (rows_variables all)
nums_without sorts rows all i is h =
    let P : List Row → Type 0 = λ v. All (IsNum sorts) (rows_variables v) in
    subst P (sym is) (nums_of sorts (remove rows i) (λ r m n a. num_in sorts rows h r (removed_among rows i r m) n a))

few_without : (rows : List Row) (i : ℕ) → i < length rows → length rows ≤ 128 → length (remove rows i) ≤ 128
few_without rows i w h = omega (arith, length-remove rows i w)

pub few_left : (rows all : List Row) (i : ℕ) → all ≡ remove rows i → i < length rows → length rows ≤ 128 → length all ≤ 128
few_left rows all i is w h = subst (λ (v : List Row). length v ≤ 128) (sym is) (few_without rows i w h)

-- ---- other rows
module _ (scratch store : List (Tree Variable)) (copy c : Clause) (rows : List Row) (same : clause_in scratch copy ≡ clause_in store c) where
  pub rows_are : clause_of scratch copy.head rows copy.atoms copy.sorts ≡ record (clause_in store c) { rows = rows }
  rows_are = ap (λ (d : Meaning). record d { rows = rows }) same

  pub rows_parts : IsStored scratch copy → All IsKept rows → All (IsNum c.sorts) (rows_variables rows) → AreParts scratch copy.head rows copy.atoms copy.sorts
  rows_parts stored kept nums = record {
    within = stored.parts.within;
    applications = stored.parts.applications;
    sorted = stored.parts.sorted;
    kept = kept;
    nums = subst (λ (ss : List Sort). All (IsNum ss) (rows_variables rows)) (sym (ap (λ (d : Meaning). d.sorts) same)) nums;
  }

-- ---- one variable in the place of another
at_var : (v w n : ℕ) → ((n ≡ v) × (replacing v w n ≡ w)) ⊎ (replacing v w n ≡ n)
at_var v w n = by (nat_eq n v) refl
  where
    by : (b : Bool) → nat_eq n v ≡ b → ((n ≡ v) × (replacing v w n ≡ w)) ⊎ (replacing v w n ≡ n)
    by true e = inl (eqb-true n v e, ap (λ (b : Bool). if b then w else n) e)
    by false e = inr (ap (λ (b : Bool). if b then w else n) e)

numbers_moved : (v w : ℕ) (t : Tree Variable) → mapped number_of (mapped (with_other v w) t) ≡ mapped (replacing v w) (mapped number_of t)
numbers_moved v w t =
    mapped_twice (with_other v w) number_of (λ x. replacing v w x.number) t (λ x m. refl)
    ∙ sym (mapped_twice number_of (replacing v w) (λ x. replacing v w x.number) t (λ x m. refl))

all_numbers_moved : (v w : ℕ) (ts : List (Tree Variable)) → mapped_all number_of (mapped_all (with_other v w) ts) ≡ mapped_all (replacing v w) (mapped_all number_of ts)
all_numbers_moved v w ts =
    all_mapped_twice (with_other v w) number_of (λ x. replacing v w x.number) ts (λ x m. refl)
    ∙ sym (all_mapped_twice number_of (replacing v w) (λ x. replacing v w x.number) ts (λ x m. refl))

applications_mapped : {V W : Type 0} (f : V → W) (ts : List (Tree V)) → ((t : Tree V) → Among t ts → IsApplication t) → (u : Tree W) → Among u (mapped_all f ts) → IsApplication u
applications_mapped f [] h u m = elim m [ ]
applications_mapped f (t ∷ ts) h u m = among_cases m (λ e. subst IsApplication (sym e) (application_mapped f t (h t first))) (λ a. applications_mapped f ts (λ x b. h x (next b)) u a)

module _ (sorts : List Sort) (v w : ℕ) (nv : IsNum sorts v) (nw : IsNum sorts w) where
  -- the variable that stands in the place of one has its sort
  moved_sort : (x : Variable) → HasSort sorts x → HasSort sorts (with_other v w x)
  moved_sort x h = elim (at_var v w x.number) [
    | inl k ↦
        let s : x.sort ≡ Num = sym h.sort ∙ ap (sort_in sorts) k.0 ∙ nv.sort in
        record {
          positive = subst (λ (n : ℕ). 0 < n) (sym k.1) nw.positive;
          within = subst (λ (n : ℕ). n ≤ length sorts) (sym k.1) nw.within;
          sort = ap (sort_in sorts) k.1 ∙ nw.sort ∙ sym s;
        }
    | inr e ↦ record {
      positive = subst (λ (n : ℕ). 0 < n) (sym e) h.positive;
      within = subst (λ (n : ℕ). n ≤ length sorts) (sym e) h.within;
      sort = ap (sort_in sorts) e ∙ h.sort;
    }
  ]

  moved_num : (n : ℕ) → IsNum sorts n → IsNum sorts (replacing v w n)
  moved_num n h = let k = moved_sort (record { number = n; sort = Num }) h in record { positive = k.positive; within = k.within; sort = k.sort }

  moved_sorted : (ts : List (Tree Variable)) → All (HasSort sorts) (variables_in ts) → All (HasSort sorts) (variables_in (mapped_all (with_other v w) ts))
  moved_sorted ts h =
      subst (λ (vs : List Variable). All (HasSort sorts) vs) (sym (all_variables_mapped (with_other v w) ts))
      (each_all (HasSort sorts) (map (with_other v w) (variables_in ts))
      (mapped_out (with_other v w) (variables_in ts) (HasSort sorts) (λ x m. moved_sort x (all_each (HasSort sorts) (variables_in ts) h x m))))

  moved_nums : (rows : List Row) → All (IsNum sorts) (rows_variables rows) → All (IsNum sorts) (rows_variables (map (λ r. normal (renamed (replacing v w) r)) rows))
  moved_nums rows h =
      nums_of sorts (map (λ r. normal (renamed (replacing v w) r)) rows)
      (mapped_out (λ r. normal (renamed (replacing v w) r)) rows (λ s. (n : ℕ) → Among n (row_variables s) → IsNum sorts n)
      (λ r m n a. let k = written_from (replacing v w) r n a in subst (IsNum sorts) k.2 (moved_num k.0 (num_in sorts rows h r m k.0 k.1))))

module _ (scratch store : List (Tree Variable)) (c : Clause) (v w : ℕ) (stored : IsStored store c) where
  module _ (head : ℕ) (rows : List Row) (atoms : List ℕ) (sorts : List Sort)
      (one : HasTree scratch head (mapped (with_other v w) (tree_at store c.head))) (all : HaveTrees scratch atoms (mapped_all (with_other v w) (trees_at store c.atoms)))
      (made : rows ≡ map (λ r. normal (renamed (replacing v w) r)) c.rows) (same : sorts ≡ c.sorts) where
    trees : trees_at scratch (head ∷ atoms) ≡ mapped_all (with_other v w) (trees_at store (c.head ∷ c.atoms))
    trees = let a = one.is in let b = all.are in cc

    pub moved_parts : IsNum c.sorts v → IsNum c.sorts w → All IsKept rows → AreParts scratch head rows atoms sorts
    moved_parts nv nw kept =
        let P : List (Tree Variable) → Type 0 = All IsApplication in
        let Q : List (Tree Variable) → Type 0 = λ ts. All (HasSort c.sorts) (variables_in ts) in
        let N : List Row → Type 0 = λ rs. All (IsNum c.sorts) (rows_variables rs) in
        let R : List Sort → Type 0 = AreParts scratch head rows atoms in
        let old = trees_at store (c.head ∷ c.atoms) in
        subst R (sym same) (record {
          within = (one.within, all.within);
          applications = subst P (sym trees) (each_all IsApplication (mapped_all (with_other v w) old) (applications_mapped (with_other v w) old (all_each IsApplication old stored.parts.applications)));
          sorted = subst Q (sym trees) (moved_sorted c.sorts v w nv nw old stored.parts.sorted);
          kept = kept;
          nums = subst N (sym made) (moved_nums c.sorts v w nv nw c.rows stored.parts.nums);
        })

    -- the same new clause is made of it
    pub moved_same : new_clause (clause_of scratch head rows atoms sorts) ≡ new_clause (equated (clause_in store c) v w)
    moved_same =
        let parts : Tree ℕ → List Row → List (Tree ℕ) → List Sort → Meaning = λ h r b s. record { head = h; equations = []; rows = r; body = b; sorts = s } in
        let d = equated (clause_in store c) v w in
        let h = ap (mapped number_of) one.is ∙ numbers_moved v w (tree_at store c.head) in
        let b = ap (mapped_all number_of) all.are ∙ all_numbers_moved v w (trees_at store c.atoms) in
        ap (λ (x : Tree ℕ). new_clause (parts x rows (mapped_all number_of (trees_at scratch atoms)) sorts)) h
        ∙ ap (λ (x : List (Tree ℕ)). new_clause (parts d.head rows x sorts)) b
        ∙ ap (λ (x : List Sort). new_clause (parts d.head rows d.body x)) same
        ∙ ap (λ (x : List Row). new_clause (parts d.head x d.body c.sorts)) (made ∙ twice c.rows)
        ∙ new_normal d d.rows
      where
        twice : (rs : List Row) → map (λ r. normal (renamed (replacing v w) r)) rs ≡ map normal (map (renamed (replacing v w)) rs)
        twice [] = refl
        twice (r ∷ rs) = ap (λ (x : List Row). normal (renamed (replacing v w) r) ∷ x) (twice rs)

-- a row of it is out of range
pub moved_outside : (c : Meaning) (v w : ℕ) (seen : List Row) → seen ≡ c.rows → all_within (map (renamed (replacing v w)) seen) ≡ false → new_clause (equated c v w) ≡ Err Overflow
moved_outside c v w seen e h = overflow (equated c v w) (ap (λ (rs : List Row). all_within (map (renamed (replacing v w)) rs)) (sym e) ∙ h)
