-- What holds of the source of a stored clause.
use Rattle.std.proofs.Common.{◌≡◌, ℕ, suc, ◌+◌, ◌<◌, ◌≤◌, List, [], ◌∷◌, ◌++◌, length, map, All, Contains, Bool, true, false, arith, ap, ◌∙◌, sym, subst, inl, inr}
use Rattle.std.specs.Prelude.{nat_eq, if◌then◌else◌, Ok, Some}
use Rattle.std.specs.List.{filter, AllByRecursion}
use Rattle.std.proofs.lemmas.List.{length-map}
use Rattle.std.proofs.lemmas.List.Elements.{All-from_recursion, recursion_from_All}
use Rattle.clp_model.specs.declared.sort.Sort.{Sort}
use Rattle.clp_model.specs.declared.tree.Variable.{Variable}
use Rattle.clp_model.specs.declared.tree.Tree.{Tree}
use Rattle.clp_model.specs.Trees.{size, total_size, mapped, mapped_all, variables, variables_in, name_of, arguments_of, IsApplication}
use Rattle.clp_model.specs.Clauses.{Clause as Meaning, Row, sort_in}
use Rattle.clp_model.specs.Predicates.{distinct_after}
use Rattle.clp_model.specs.Canonical.{place_in}
use Rattle.clp_model.proofs.Trees.{size_app, size_positive, application_is}
use Rattle.clp_model.proofs.Membership.{Among, first, next, from_among, among_front, among_back, among_either, distinct_has}
use Rattle.clp_model.proofs.RenamedTrees.{all_variables_mapped, application_mapped, total_size_mapped}
use Rattle.linear_laws.proofs.Lists.{mapped_out}
use Rattle.unify_laws.proofs.Solved.{among_cases}
use Rattle.clause_model.specs.Variables.{is_num, nums_from, rows_variables, loose_nums, variables_as_printed}
use Rattle.clause_model.specs.Canonical.{numbered_by}
use Rattle.clause_model.specs.Load.{load_one}
use Rattle.clause_model.specs.Source.{source_of}
use Rattle.clause_laws.proofs.Rows.{all_each, each_all}
use Rattle.clause_laws.proofs.Distinct.{AreDistinct, distinct_made, distinct_from, distinct_stays}
use Rattle.clause_laws.proofs.Upto.{number_equality}
use Rattle.clause_laws.proofs.Written.{written}
use Rattle.clause_laws.proofs.SourceLoaded.{source_is_loaded}
use Rattle.term_store.specs.Trees.{trees_at}
use Rattle.clause_store.specs.declared.clause.Clause.{Clause}
use Rattle.clause_store.specs.declared.source.SourceClause.{SourceClause}
use Rattle.clause_store.specs.Source.{meaning_of}
use Rattle.clause_store.specs.Stored.{number_of, atom_at, atoms_at, clause_in, HasSort, IsNum, IsStored}
use Rattle.clause_store.proofs.Places.{place_positive, place_within}
use Rattle.clause_store.proofs.Counts.{small_clause, few_sorts, size_in}
use Rattle.clause_store.proofs.RowForms.{written_nums}
use Rattle.clause_loader.specs.WellFormed.{IsNumber, side_variables, IsWellFormed, IsNarrowAtom, IsNarrow}
use Rattle.clause_source.proofs.Counts.{few_numbers}

-- ---- the numbers of the Num variables
filtered : (test : ℕ → Bool) (n : ℕ) (ns : List ℕ) → Among n (filter test ns) → Among n ns
filtered test n [] a = a
filtered test n (m ∷ ns) a = by (test m) a (λ b. filtered test n ns b)
  where
    by : (b : Bool) → Among n (if b then m ∷ filter test ns else filter test ns) → (Among n (filter test ns) → Among n ns) → Among n (m ∷ ns)
    by true k again = among_cases k (λ e. subst (λ z. Among z (m ∷ ns)) (sym e) first) (λ l. next (again l))
    by false k again = next (again k)

nums_within : (k n : ℕ) (sorts : List Sort) → Among n (nums_from k sorts) → (k ≤ n) × (n < k + length sorts)
nums_within k n [] a = elim a [ ]
nums_within k n (s ∷ sorts) a = by (is_num s) a (λ b. let w = nums_within (suc k) n sorts b in (omega (arith, w.0), omega (arith, w.1)))
  where
    by : (b : Bool) → Among n (if b then k ∷ nums_from (suc k) sorts else nums_from (suc k) sorts) → (Among n (nums_from (suc k) sorts) → (k ≤ n) × (n < k + suc (length sorts))) → (k ≤ n) × (n < k + suc (length sorts))
    by true m later = among_cases m (λ e. (omega arith, omega arith)) later
    by false m later = later m

-- ---- the size of an application
length_total : {V : Type 0} (ts : List (Tree V)) → length ts ≤ total_size ts
length_total [] = omega arith
length_total (t ∷ ts) = let a = length_total ts in let b = size_positive t in omega arith

few_arguments : {V : Type 0} (t : Tree V) → IsApplication t → length (arguments_of t) ≤ size t
few_arguments t h =
    let is : size t ≡ 1 + total_size (arguments_of t) = ap size (application_is t h) ∙ size_app (name_of t) (arguments_of t) in
    omega (arith, is, length_total (arguments_of t))

size_among : {V : Type 0} (t : Tree V) (ts : List (Tree V)) → Among t ts → size t ≤ total_size ts
size_among t [] a = elim a [ ]
size_among t (u ∷ ts) a = among_cases a
    (λ e. let same : size t ≡ size u = ap size e in omega (arith, same))
    (λ b. let w = size_among t ts b in omega arith)

applications_mapped : {V W : Type 0} (f : V → W) (ts : List (Tree V)) → AllByRecursion IsApplication ts → AllByRecursion IsApplication (mapped_all f ts)
applications_mapped f [] h = tt
applications_mapped f (t ∷ ts) h = (application_mapped f t h.0, applications_mapped f ts h.1)

-- ---- a stored clause
module _ (store : List (Tree Variable)) (c : Clause) (h : IsStored store c) where
  abbrev meaning : Meaning
  meaning = clause_in store c

  abbrev met : List ℕ
  met = variables_as_printed meaning

  abbrev head_variables : List ℕ
  head_variables = variables_in (meaning.head ∷ [])

  abbrev trees : List (Tree ℕ)
  trees = atoms_at store (c.head ∷ c.atoms)

  -- the variables of the text, in order, as often as they are met
  abbrev all : List ℕ
  all = head_variables ++ rows_variables c.rows ++ loose_nums meaning ++ variables_in meaning.body

  in_trees : (n : ℕ) → Among n (variables_in trees) → IsNumber (length c.sorts) n
  in_trees n a =
      let vs = variables_in (trees_at store (c.head ∷ c.atoms)) in
      mapped_out number_of vs (IsNumber (length c.sorts)) (λ v m. let s = all_each (HasSort c.sorts) vs h.parts.sorted v m in (s.positive, s.within)) n
      (subst (Among n) (all_variables_mapped number_of (trees_at store (c.head ∷ c.atoms))) a)

  tree_of_head : (n : ℕ) → Among n head_variables → Among n (variables_in trees)
  tree_of_head n a = elim (among_either n (variables meaning.head) [] a) [ inl b ↦ among_front n (variables meaning.head) (variables_in meaning.body) b | inr b ↦ elim b [ ] ]

  in_all : (n : ℕ) → Among n all → IsNumber (length c.sorts) n
  in_all n a = elim (among_either n (head_variables ++ rows_variables c.rows ++ loose_nums meaning) (variables_in meaning.body) a) [
    | inl b ↦ elim (among_either n (head_variables ++ rows_variables c.rows) (loose_nums meaning) b) [
      | inl d ↦ elim (among_either n head_variables (rows_variables c.rows) d) [
        | inl e ↦ in_trees n (tree_of_head n e)
        | inr e ↦ let s = all_each (IsNum c.sorts) (rows_variables c.rows) h.parts.nums n e in (s.positive, s.within)
      ]
      | inr d ↦ let w = nums_within 1 n c.sorts (filtered _ n (nums_from 1 c.sorts) d) in (omega (arith, w.0), omega (arith, w.1))
    ]
    | inr b ↦ in_trees n (among_back n (variables meaning.head) (variables_in meaning.body) b)
  ]

  in_met : (n : ℕ) → Among n met → IsNumber (length c.sorts) n
  in_met n a = elim (distinct_from nat_eq number_equality [] all n a) [ inl b ↦ elim b [ ] | inr b ↦ in_all n b ]

  met_distinct : AreDistinct met
  met_distinct = distinct_made nat_eq number_equality [] all tt

  pub met_once : distinct_after nat_eq [] met ≡ met
  met_once = distinct_stays nat_eq number_equality [] met met_distinct

  pub met_within : All (λ n. (0 < n) × (n ≤ length c.sorts)) met
  met_within = each_all (λ n. (0 < n) × (n ≤ length c.sorts)) met in_met

  pub met_few : length met ≤ 256
  met_few =
      let few = few_numbers (length c.sorts) met met_distinct in_met in
      omega (arith, few, few_sorts meaning h.canonical.limits)

  row_met : (n : ℕ) → Among n (rows_variables c.rows) → Among n met
  row_met n a = distinct_has [] all n
      (among_front n (head_variables ++ rows_variables c.rows ++ loose_nums meaning) _ (among_front n (head_variables ++ rows_variables c.rows) _ (among_back n head_variables _ a)))

  head_met : (n : ℕ) → Among n head_variables → Among n met
  head_met n a = distinct_has [] all n
      (among_front n (head_variables ++ rows_variables c.rows ++ loose_nums meaning) _ (among_front n (head_variables ++ rows_variables c.rows) _ (among_front n head_variables _ a)))

  body_met : (n : ℕ) → Among n (variables_in meaning.body) → Among n met
  body_met n a = distinct_has [] all n (among_back n (head_variables ++ rows_variables c.rows ++ loose_nums meaning) _ a)

  tree_met : (n : ℕ) → Among n (variables_in trees) → Among n met
  tree_met n a = elim (among_either n (variables meaning.head) (variables_in meaning.body) a) [ inl b ↦ head_met n (among_front n (variables meaning.head) [] b) | inr b ↦ body_met n b ]

  pub met_rows : All (Contains met) (rows_variables c.rows)
  met_rows = each_all (Contains met) (rows_variables c.rows) (λ n a. from_among (row_met n a))

  -- ---- what is made of it
  module _ (s : SourceClause) (is : meaning_of s ≡ source_of meaning) where
    numbered_is : meaning_of s ≡ numbered_by met meaning
    unfolding source_of
    numbered_is = is

    trees_are : s.head ∷ s.atoms ≡ mapped_all (place_in met) trees
    trees_are = ap (λ (m : Meaning). m.head ∷ m.body) numbered_is

    sorts_are : s.sorts ≡ map (sort_in c.sorts) met
    sorts_are = ap (λ (m : Meaning). m.sorts) numbered_is

    count_sorts : length s.sorts ≡ length met
    count_sorts = ap length sorts_are ∙ length-map met (sort_in c.sorts)

    applications_are : All IsApplication (s.head ∷ s.atoms)
    applications_are =
        let P : List (Tree ℕ) → Type 0 = All IsApplication in
        subst P (sym trees_are) (All-from_recursion IsApplication (mapped_all (place_in met) trees)
        (applications_mapped (place_in met) trees (applications_mapped number_of (trees_at store (c.head ∷ c.atoms)) (recursion_from_All IsApplication (trees_at store (c.head ∷ c.atoms)) h.parts.applications))))

    variables_are : variables_in (s.head ∷ s.atoms) ≡ map (place_in met) (variables_in trees)
    variables_are = ap variables_in trees_are ∙ all_variables_mapped (place_in met) trees

    numbered_are : (n : ℕ) → Among n (variables_in (s.head ∷ s.atoms)) → IsNumber (length s.sorts) n
    numbered_are n a =
        mapped_out (place_in met) (variables_in trees) (IsNumber (length s.sorts))
        (λ m k. (place_positive met m, let w = place_within met m (tree_met m k) in omega (arith, w, count_sorts)))
        n (subst (Among n) variables_are a)

    nums_are : All (IsNum s.sorts) (rows_variables s.rows)
    nums_are =
        let P : List Row → Type 0 = λ rs. All (IsNum s.sorts) (rows_variables rs) in
        let Q : List Sort → Type 0 = λ ss. All (IsNum ss) (rows_variables (map (written (place_in met)) c.rows)) in
        subst P (sym (ap (λ (m : Meaning). m.rows) numbered_is)) (subst Q (sym sorts_are) (written_nums met c.sorts c.rows row_met h.parts.nums))

    no_sides : All (IsNumber (length s.sorts)) (side_variables s.equations)
    no_sides =
        let P : List (Tree ℕ × Tree ℕ) → Type 0 = λ es. All (IsNumber (length s.sorts)) (side_variables es) in
        subst P (sym (ap (λ (m : Meaning). m.equations) numbered_is)) (each_all (IsNumber (length s.sorts)) [] (λ n a. elim a [ ]))

    pub is_formed : IsWellFormed s
    is_formed = record {
      applications = applications_are;
      numbered = each_all (IsNumber (length s.sorts)) (variables_in (s.head ∷ s.atoms)) numbered_are;
      sides = no_sides;
      nums = nums_are;
    }

    small : total_size (s.head ∷ s.atoms) ≤ 4096
    small =
        let same : total_size (s.head ∷ s.atoms) ≡ total_size (trees_at store (c.head ∷ c.atoms)) =
        ap total_size trees_are ∙ (total_size_mapped (place_in met) trees ∙ total_size_mapped number_of (trees_at store (c.head ∷ c.atoms))) in
        omega (arith, same, size_in store c.head c.rows c.atoms c.sorts, small_clause meaning h.canonical.limits)

    pub is_narrow : IsNarrow s
    is_narrow = each_all IsNarrowAtom (s.head ∷ s.atoms) (λ t a.
        let app = all_each IsApplication (s.head ∷ s.atoms) applications_are t a in
        record { application = app; few = omega (arith, few_arguments t app, size_among t (s.head ∷ s.atoms) a, small) })

    pub is_loaded_again : load_one (meaning_of s) ≡ Ok (Some meaning)
    is_loaded_again = ap load_one is ∙ source_is_loaded meaning h.canonical

-- the source by its parts
pub source_made : (store : List (Tree Variable)) (c : Clause) (met : List ℕ) → met ≡ variables_as_printed (clause_in store c)
    → (head : Tree ℕ) (equations : List (Tree ℕ × Tree ℕ)) (rs rows : List Row) (ts : List ℕ) (atoms : List (Tree ℕ)) (ss sorts : List Sort)
    → head ≡ mapped (place_in met) (atom_at store c.head) → equations ≡ [] → rs ≡ c.rows → rows ≡ map (written (place_in met)) rs
    → ts ≡ c.atoms → atoms ≡ mapped_all (place_in met) (atoms_at store ts) → ss ≡ c.sorts → sorts ≡ map (sort_in ss) met
    → ◌≡◌ {A = Meaning} (record { head = head; equations = equations; rows = rows; body = atoms; sorts = sorts }) (source_of (clause_in store c))
unfolding source_of
source_made store c met is head equations rs rows ts atoms ss sorts head_is none rs_are rows_are ts_are atoms_are ss_are sorts_are =
    let d = clause_in store c in
    let one : rows ≡ map (written (place_in met)) c.rows = rows_are ∙ ap (map (written (place_in met))) rs_are in
    let two : atoms ≡ mapped_all (place_in met) (atoms_at store c.atoms) = atoms_are ∙ ap (λ xs. mapped_all (place_in met) (atoms_at store xs)) ts_are in
    let three : sorts ≡ map (sort_in c.sorts) met = sorts_are ∙ ap (λ xs. map (sort_in xs) met) ss_are in
    let whole : ◌≡◌ {A = Meaning} (record { head = head; equations = equations; rows = rows; body = atoms; sorts = sorts }) (numbered_by met d) = same_parts_with head_is none one two three in
    whole ∙ ap (λ m. numbered_by m d) is
  where
    same_parts_with : {h k : Tree ℕ} {e f : List (Tree ℕ × Tree ℕ)} {r s : List Row} {a b : List (Tree ℕ)} {t u : List Sort} → h ≡ k → e ≡ f → r ≡ s → a ≡ b → t ≡ u
        → ◌≡◌ {A = Meaning} (record { head = h; equations = e; rows = r; body = a; sorts = t }) (record { head = k; equations = f; rows = s; body = b; sorts = u })
    same_parts_with p q r s t = cc (p, q, r, s, t)
