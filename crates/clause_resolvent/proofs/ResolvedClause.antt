-- The joined clause, and what is made of its parts where its equation is solved.
use Rattle.std.proofs.Common.{◌≡◌, ℕ, zero, suc, ◌+◌, ◌<◌, List, [], ◌∷◌, ◌++◌, length, map, take, drop, slice_index_or, Option, Some, None, Ok, Err, refl, ap, ◌∙◌, sym, subst, arith, All, inl, inr, false, true, Bool, IsTrue, ◌↔◌, ◌⊎◌, Result, IfErr, IfSome, IfNone}
use Rattle.clp_model.specs.declared.sort.Sort.{Sort}
use Rattle.clp_model.specs.declared.sort.Sort.TheVariants.{Num}
use Rattle.clp_model.specs.declared.tree.Variable.{Variable}
use Rattle.clp_model.specs.declared.tree.Tree.{Tree}
use Rattle.clp_model.specs.Trees.{mapped, mapped_all, variables, variables_in, IsApplication}
use Rattle.clp_model.specs.Clauses.{Row}
use Rattle.clp_model.specs.Clauses.{Clause as Meaning}
use Rattle.clp_model.specs.Predicates.{predicate_of}
use Rattle.clp_model.proofs.Membership.{Among, first, next, among_front, among_back, among_either}
use Rattle.clp_model.proofs.RenamedTrees.{all_variables_mapped, application_mapped}
use Rattle.clp_model.specs.declared.limit.Limit.{Limit}
use Rattle.linear_model.specs.Normal.{normal}
use Rattle.linear_model.specs.Changes.{renamed}
use Rattle.linear_laws.proofs.Lists.{mapped_out}
use Rattle.lin_row.specs.Rows.{IsKept}
use Rattle.unify_model.specs.Substituting.{Binding, substituted, substituted_all, image}
use Rattle.unify_model.specs.Equations.{Equation}
use Rattle.unify_model.specs.Unifying.{most_general_unifier}
use Rattle.unify_laws.proofs.Solved.{among_cases}
use Rattle.unify_laws.proofs.Matched.{head_of, tail_of}
use Rattle.unify.specs.Unifiers.{Unifies}
use Rattle.substitution.specs.Made.{IsPastAny}
use Rattle.term_store.specs.Trees.{tree_at, trees_at, AreIn, HasTree, HaveTrees, Keeps}
use Rattle.term_store.proofs.Keeping.{has_tree_kept}
use Rattle.clause_model.specs.Variables.{row_variables, rows_variables}
use Rattle.clause_model.specs.Canonical.{TooLarge, new_clause, all_within}
use Rattle.clause_model.specs.Solved.{typed, typed_equations, solved_by, solved_clause}
use Rattle.clause_model.specs.Load.{made_of, loaded_solved}
use Rattle.clause_laws.proofs.Rows.{all_each, each_all, among_rows}
use Rattle.clause_store.specs.declared.source.SourceClause.{SourceClause}
use Rattle.clause_store.specs.declared.clause.Clause.{Clause}
use Rattle.clause_store.specs.declared.clause.RawClause.{RawClause}
use Rattle.clause_store.specs.declared.fault.ClauseFault.{ClauseFault}
use Rattle.clause_store.specs.declared.fault.ClauseFault.TheVariants as fault
use Rattle.clause_store.specs.Stored.{number_of, atom_at, atoms_at, clause_in, raw_in, HasSort, IsNum, IsRaw, IsStored, IsRefused}
use Rattle.clause_store.proofs.RowForms.{from_rows}
use Rattle.clause_loader.specs.WellFormed.{IsNumber, side_variables, IsWellFormed}
use Rattle.clause_loader.specs.Carried.{with_images, all_with_images, number_by, clause_by}
use Rattle.clause_loader.proofs.Parts.{are_parts}
use Rattle.clause_loader.proofs.Loads.{agree, same_new, overflow, past_shape}
use Rattle.unfold_model.specs.Resolvent.{past, joined_clause, resolvent}
use Rattle.clause_resolvent.specs.Raised.{raise}
use Rattle.clause_resolvent.specs.Joined.{IsJoined}
use Rattle.clause_resolvent.specs.Applied.{HasRows, IsUnapplied}
use Rattle.clause_resolvent.specs.Outcome.{IsRefusedResolvent}
use Rattle.clause_resolvent.proofs.SamePredicate.{none_unify}
use Rattle.clause_resolvent.proofs.RaisedTerms.{among_item}
use Rattle.clause_resolvent.proofs.RaisedRows.{row_raised}
use Rattle.clause_resolvent.proofs.JoinedParts.{head_sorted, atoms_sorted, sorted_front, sorted_back, typed_again, typed_raised}

-- ---- parts of lists
among_take : {A : Type 0} (x : A) (xs : List A) (i : ℕ) → Among x (take i xs) → Among x xs
among_take x [] zero m = elim m [ ]
among_take x [] (suc i) m = elim m [ ]
among_take x (y ∷ xs) zero m = elim m [ ]
among_take x (y ∷ xs) (suc i) m = elim (among_either x (y ∷ []) (take i xs) m) [
  | inl a ↦ among_front x (y ∷ []) xs a
  | inr b ↦ among_back x (y ∷ []) xs (among_take x xs i b)
]

among_drop : {A : Type 0} (x : A) (xs : List A) (i : ℕ) → Among x (drop i xs) → Among x xs
among_drop x [] zero m = m
among_drop x [] (suc i) m = m
among_drop x (y ∷ xs) zero m = m
among_drop x (y ∷ xs) (suc i) m = next (among_drop x xs i m)

variable_either : {V : Type 0} (n : V) (xs ys : List (Tree V)) → Among n (variables_in (xs ++ ys)) → Among n (variables_in xs) ⊎ Among n (variables_in ys)
variable_either n [] ys m = inr m
variable_either n (x ∷ xs) ys m = elim (among_either n (variables x) (variables_in (xs ++ ys)) m) [
  | inl a ↦ inl (among_front n (variables x) (variables_in xs) a)
  | inr b ↦ (elim (variable_either n xs ys b) [ inl k ↦ inl (among_back n (variables x) (variables_in xs) k) | inr k ↦ inr k ])
]

variable_take : {V : Type 0} (n : V) (xs : List (Tree V)) (i : ℕ) → Among n (variables_in (take i xs)) → Among n (variables_in xs)
variable_take n [] zero m = elim m [ ]
variable_take n [] (suc i) m = elim m [ ]
variable_take n (x ∷ xs) zero m = elim m [ ]
variable_take n (x ∷ xs) (suc i) m = elim (among_either n (variables x) (variables_in (take i xs)) m) [
  | inl a ↦ among_front n (variables x) (variables_in xs) a
  | inr b ↦ among_back n (variables x) (variables_in xs) (variable_take n xs i b)
]

variable_drop : {V : Type 0} (n : V) (xs : List (Tree V)) (i : ℕ) → Among n (variables_in (drop i xs)) → Among n (variables_in xs)
variable_drop n [] zero m = m
variable_drop n [] (suc i) m = m
variable_drop n (x ∷ xs) zero m = m
variable_drop n (x ∷ xs) (suc i) m = among_back n (variables x) (variables_in xs) (variable_drop n xs i m)

-- ---- numbers of variables
numbers_of : (P : ℕ → Type 0) (ts : List (Tree Variable)) → ((v : Variable) → Among v (variables_in ts) → P v.number) → (n : ℕ) → Among n (variables_in (mapped_all number_of ts)) → P n
numbers_of P ts h n m = mapped_out number_of (variables_in ts) P h n (subst (λ (vs : List ℕ). Among n vs) (all_variables_mapped number_of ts) m)

past_numbers_of : (P : ℕ → Type 0) (k : ℕ) (ts : List (Tree Variable)) → ((v : Variable) → Among v (variables_in ts) → P (k + v.number)) → (n : ℕ) → Among n (variables_in (mapped_all (past k) (mapped_all number_of ts))) → P n
past_numbers_of P k ts h n m =
    mapped_out (past k) (variables_in (mapped_all number_of ts)) P (λ i a. numbers_of (λ j. P (k + j)) ts h i a) n
    (subst (λ (vs : List ℕ). Among n vs) (all_variables_mapped (past k) (mapped_all number_of ts)) m)

applications_mapped : {V W : Type 0} (f : V → W) (ts : List (Tree V)) → ((t : Tree V) → Among t ts → IsApplication t) → (u : Tree W) → Among u (mapped_all f ts) → IsApplication u
applications_mapped f [] h u m = elim m [ ]
applications_mapped f (t ∷ ts) h u m = among_cases m (λ e. subst IsApplication (sym e) (application_mapped f t (h t first))) (λ a. applications_mapped f ts (λ x b. h x (next b)) u a)

-- ---- the atom at a place
atom_there : (store : List (Tree Variable)) (terms : List ℕ) (i : ℕ) (d : Tree ℕ) → i < length terms → slice_index_or (atoms_at store terms) i d ≡ atom_at store (slice_index_or terms i 0)
atom_there store [] i d w = absurd (omega arith)
atom_there store (t ∷ ts) zero d w = refl
atom_there store (t ∷ ts) (suc i) d w = atom_there store ts i d (omega arith)

term_there : (store : List (Tree Variable)) (terms : List ℕ) (i : ℕ) → i < length terms → AreIn store terms → slice_index_or terms i 0 < length store
term_there store [] i w h = absurd (omega arith)
term_there store (t ∷ ts) zero w h = h.0
term_there store (t ∷ ts) (suc i) w h = term_there store ts i (omega arith) h.1

tree_there : (store : List (Tree Variable)) (terms : List ℕ) (i : ℕ) → i < length terms → Among (tree_at store (slice_index_or terms i 0)) (trees_at store terms)
tree_there store [] i w = absurd (omega arith)
tree_there store (t ∷ ts) zero w = first
tree_there store (t ∷ ts) (suc i) w = next (tree_there store ts i (omega arith))

pub place_term : (store : List (Tree Variable)) (c : Clause) (place term : ℕ) → IsStored store c → place < length c.atoms → term ≡ slice_index_or c.atoms place 0 → term < length store
place_term store c place term h w e = let P : ℕ → Type 0 = λ t. t < length store in subst P (sym e) (term_there store c.atoms place w h.parts.within.1)

pub place_application : (store : List (Tree Variable)) (c : Clause) (place term : ℕ) → IsStored store c → place < length c.atoms → term ≡ slice_index_or c.atoms place 0 → IsApplication (tree_at store term)
place_application store c place term h w e =
    let P : ℕ → Type 0 = λ t. IsApplication (tree_at store t) in
    subst P (sym e) (all_each IsApplication (trees_at store (c.head ∷ c.atoms)) h.parts.applications (tree_at store (slice_index_or c.atoms place 0)) (next (tree_there store c.atoms place w)))

pub head_application : (store : List (Tree Variable)) (c : Clause) → IsStored store c → IsApplication (tree_at store c.head)
head_application store c h = all_each IsApplication (trees_at store (c.head ∷ c.atoms)) h.parts.applications (tree_at store c.head) first

-- ---- the joined clause
module _ (store : List (Tree Variable)) (c e : Clause) (place : ℕ) (one : IsStored store c) (two : IsStored store e) (within : place < length c.atoms) where
  abbrev whole : Meaning
  whole = joined_clause (clause_in store c) place (clause_in store e)

  abbrev source : SourceClause
  source = record { head = whole.head; equations = whole.equations; rows = whole.rows; atoms = whole.body; sorts = whole.sorts }

  abbrev count : ℕ
  count = length (c.sorts ++ e.sorts)

  abbrev chosen : ℕ
  chosen = slice_index_or c.atoms place 0

  chosen_sorted : (v : Variable) → Among v (variables (tree_at store chosen)) → HasSort c.sorts v
  chosen_sorted v m = atoms_sorted store c one v (among_item store c.atoms place 0 within v m)

  -- the equation of the atom and the head
  pub equations_are : typed_equations whole.sorts whole.equations ≡ (tree_at store chosen, mapped (raise (length c.sorts)) (tree_at store e.head)) ∷ []
  equations_are =
      let pair : Tree Variable → Tree Variable → List Equation = λ x y. (x, y) ∷ [] in
      let right = typed (c.sorts ++ e.sorts) (mapped (past (length c.sorts)) (atom_at store e.head)) in
      ap (λ (x : Tree Variable). pair x right)
      (ap (typed (c.sorts ++ e.sorts)) (atom_there store c.atoms place (atom_at store c.head) within)
      ∙ typed_again (c.sorts ++ e.sorts) (tree_at store chosen) (λ v m. sorted_front c.sorts e.sorts v (chosen_sorted v m)))
      ∙ ap (pair (tree_at store chosen)) (typed_raised c.sorts e.sorts (tree_at store e.head) (λ v m. head_sorted store e two v m))

  -- atoms whose predicates differ do not unify
  pub atoms_differ : (term : ℕ) (r : Bool) → term ≡ chosen → r ≡ false → IsTrue r ↔ (predicate_of (tree_at store term) ≡ predicate_of (tree_at store e.head)) → most_general_unifier (typed_equations whole.sorts whole.equations) ≡ None
  atoms_differ term r is unlike k =
      none_unify (tree_at store chosen) (tree_at store e.head) (typed_equations whole.sorts whole.equations) (length c.sorts)
      (place_application store c place chosen one within refl) (head_application store e two)
      (λ q. let bad : false ≡ true = sym unlike ∙ k.1 (ap (λ (t : ℕ). predicate_of (tree_at store t)) is ∙ q) in absurd (cc (bad)))
      equations_are

  -- the terms of the atom and the head have the equation
  pub terms_equated : (mid new : List (Tree Variable)) (left right term by : ℕ) → Keeps mid new → HasTree mid left (tree_at store term) → HasTree new right (mapped (raise by) (tree_at store e.head)) → term ≡ chosen → by ≡ length c.sorts
      → (tree_at new left, tree_at new right) ∷ [] ≡ typed_equations whole.sorts whole.equations
  terms_equated mid new left right term by keeps l r is same =
      let pair : Tree Variable → Tree Variable → List Equation = λ x y. (x, y) ∷ [] in
      ap (λ (x : Tree Variable). pair x (tree_at new right)) ((has_tree_kept mid new left (tree_at store term) keeps l).is ∙ ap (tree_at store) is)
      ∙ ap (pair (tree_at store chosen)) (r.is ∙ ap (λ (k : ℕ). mapped (raise k) (tree_at store e.head)) same)
      ∙ sym equations_are

  of_first : (v : Variable) → HasSort c.sorts v → IsNumber count v.number
  of_first v h = let s = sorted_front c.sorts e.sorts v h in (s.positive, s.within)

  of_second : (v : Variable) → HasSort e.sorts v → IsNumber count (length c.sorts + v.number)
  of_second v h = let s = sorted_back c.sorts e.sorts v h in (s.positive, s.within)

  atoms_numbered : (n : ℕ) → Among n (variables_in (atoms_at store c.atoms)) → IsNumber count n
  atoms_numbered n m = numbers_of (IsNumber count) (trees_at store c.atoms) (λ v a. of_first v (atoms_sorted store c one v a)) n m

  body_numbered : (n : ℕ) → Among n (variables_in whole.body) → IsNumber count n
  body_numbered n m =
      let b = atoms_at store c.atoms in
      let mid = mapped_all (past (length c.sorts)) (atoms_at store e.atoms) in
      elim (variable_either n (take place b) (mid ++ drop (suc place) b) m) [
        | inl a ↦ atoms_numbered n (variable_take n b place a)
        | inr k ↦ (elim (variable_either n mid (drop (suc place) b) k) [
          | inl a ↦ past_numbers_of (IsNumber count) (length c.sorts) (trees_at store e.atoms) (λ v a. of_second v (atoms_sorted store e two v a)) n a
          | inr a ↦ atoms_numbered n (variable_drop n b (suc place) a)
        ])
      ]

  head_numbered : (n : ℕ) → Among n (variables whole.head) → IsNumber count n
  head_numbered n m =
      numbers_of (IsNumber count) (tree_at store c.head ∷ [])
      (λ v a. of_first v (elim (among_either v (variables (tree_at store c.head)) [] a) [ inl b ↦ head_sorted store c one v b | inr b ↦ elim b [ ] ]))
      n (among_front n (variables whole.head) [] m)

  all_numbered : (n : ℕ) → Among n (variables_in (whole.head ∷ whole.body)) → IsNumber count n
  all_numbered n m = elim (among_either n (variables whole.head) (variables_in whole.body) m) [ inl a ↦ head_numbered n a | inr b ↦ body_numbered n b ]

  left_numbered : (n : ℕ) → Among n (variables (slice_index_or (atoms_at store c.atoms) place (atom_at store c.head))) → IsNumber count n
  left_numbered n m =
      let k = subst (λ (t : Tree ℕ). Among n (variables t)) (atom_there store c.atoms place (atom_at store c.head) within) m in
      numbers_of (IsNumber count) (tree_at store chosen ∷ [])
      (λ v a. of_first v (elim (among_either v (variables (tree_at store chosen)) [] a) [ inl b ↦ chosen_sorted v b | inr b ↦ elim b [ ] ]))
      n (among_front n (variables (atom_at store chosen)) [] k)

  right_numbered : (n : ℕ) → Among n (variables (mapped (past (length c.sorts)) (atom_at store e.head))) → IsNumber count n
  right_numbered n m =
      past_numbers_of (IsNumber count) (length c.sorts) (tree_at store e.head ∷ [])
      (λ v a. of_second v (elim (among_either v (variables (tree_at store e.head)) [] a) [ inl b ↦ head_sorted store e two v b | inr b ↦ elim b [ ] ]))
      n (among_front n (variables (mapped (past (length c.sorts)) (atom_at store e.head))) [] m)

  sides_numbered : (n : ℕ) → Among n (side_variables whole.equations) → IsNumber count n
  sides_numbered n m =
      let l = variables (slice_index_or (atoms_at store c.atoms) place (atom_at store c.head)) in
      let r = variables (mapped (past (length c.sorts)) (atom_at store e.head)) in
      elim (among_either n l (r ++ []) m) [
        | inl a ↦ left_numbered n a
        | inr b ↦ (elim (among_either n r [] b) [ inl a ↦ right_numbered n a | inr a ↦ elim a [ ] ])
      ]

  atoms_applied : (d : Clause) → IsStored store d → (t : Tree ℕ) → Among t (atoms_at store d.atoms) → IsApplication t
  atoms_applied d h t m = applications_mapped number_of (trees_at store d.atoms) (λ x a. all_each IsApplication (trees_at store (d.head ∷ d.atoms)) h.parts.applications x (next a)) t m

  body_applied : (t : Tree ℕ) → Among t whole.body → IsApplication t
  body_applied t m =
      let b = atoms_at store c.atoms in
      let mid = mapped_all (past (length c.sorts)) (atoms_at store e.atoms) in
      elim (among_either t (take place b) (mid ++ drop (suc place) b) m) [
        | inl a ↦ atoms_applied c one t (among_take t b place a)
        | inr k ↦ (elim (among_either t mid (drop (suc place) b) k) [
          | inl a ↦ applications_mapped (past (length c.sorts)) (atoms_at store e.atoms) (λ x a. atoms_applied e two x a) t a
          | inr a ↦ atoms_applied c one t (among_drop t b (suc place) a)
        ])
      ]

  all_applied : (t : Tree ℕ) → Among t (whole.head ∷ whole.body) → IsApplication t
  all_applied t m = among_cases m (λ q. subst IsApplication (sym q) (application_mapped number_of (tree_at store c.head) (head_application store c one))) (λ a. body_applied t a)

  row_num : (r : Row) → Among r whole.rows → (n : ℕ) → Among n (row_variables r) → IsNum whole.sorts n
  row_num r m n a =
      let k = length c.sorts in
      elim (among_either r c.rows (map (renamed (past k)) e.rows) m) [
        | inl b ↦ sorted_front c.sorts e.sorts (record { number = n; sort = Num }) (all_each (IsNum c.sorts) (rows_variables c.rows) one.parts.nums n (among_rows r c.rows n b a))
        | inr b ↦ mapped_out (renamed (past k)) e.rows (λ s. (i : ℕ) → Among i (row_variables s) → IsNum whole.sorts i)
            (λ s d i f. row_raised k s (all_each IsKept e.rows two.parts.kept s d) (IsNum whole.sorts)
            (λ j g. sorted_back c.sorts e.sorts (record { number = j; sort = Num }) (all_each (IsNum e.sorts) (rows_variables e.rows) two.parts.nums j (among_rows s e.rows j d g))) i f)
            r b n a
      ]

  nums : All (IsNum whole.sorts) (rows_variables whole.rows)
  nums = each_all (IsNum whole.sorts) (rows_variables whole.rows) (λ n m. let k = from_rows whole.rows n m in row_num k.0 k.1 n k.2)

  formed : IsWellFormed source
  formed = record {
    applications = each_all IsApplication (whole.head ∷ whole.body) all_applied;
    numbered = each_all (IsNumber count) (variables_in (whole.head ∷ whole.body)) all_numbered;
    sides = each_all (IsNumber count) (side_variables whole.equations) sides_numbered;
    nums = nums;
  }

  -- ---- the parts with the images in them
  module _ (mid : List (Tree Variable)) (raw : RawClause) (joined : IsJoined mid raw whole) where
    pub raw_in_store : AreIn mid (raw.head ∷ raw.atoms)
    raw_in_store = (joined.head.within, joined.atoms.within)

    pub raw_numbered : All (IsNumber (length raw.sorts)) (rows_variables raw.rows)
    raw_numbered =
        let P : List Sort → Type 0 = λ ss. All (IsNumber (length ss)) (rows_variables raw.rows) in
        let Q : List Row → Type 0 = λ rs. All (IsNumber count) (rows_variables rs) in
        subst P (sym joined.sorts) (subst Q (sym joined.rows)
        (each_all (IsNumber count) (rows_variables whole.rows) (λ n m. let k = all_each (IsNum whole.sorts) (rows_variables whole.rows) nums n m in (k.positive, k.within))))

    module _ (f : Variable → Tree Variable) where
      trees_are : substituted_all f (trees_at mid (raw.head ∷ raw.atoms)) ≡ all_with_images whole.sorts f (whole.head ∷ whole.body)
      trees_are =
          ap (λ (t : Tree Variable). substituted f t ∷ substituted_all f (trees_at mid raw.atoms)) joined.head.is
          ∙ ap (λ (ts : List (Tree Variable)). substituted f (typed whole.sorts whole.head) ∷ substituted_all f ts) joined.atoms.are

      abbrev done : List Sort → List Row → List Row
      done sorts rows = map (λ r. normal (renamed (number_by sorts f) r)) rows

      rows_done : (made : List Row) → made ≡ done raw.sorts raw.rows → made ≡ done whole.sorts whole.rows
      rows_done made h = h ∙ ap (λ (ss : List Sort). done ss raw.rows) joined.sorts ∙ ap (done whole.sorts) joined.rows

      -- why it is refused
      pub refused_by : (x : ClauseFault) → IsUnapplied (number_by raw.sorts f) raw.rows (substituted_all f (trees_at mid (raw.head ∷ raw.atoms))) x → IsRefused (clause_by f whole) x
      refused_by fault.Overflow h =
          overflow (clause_by f whole)
          (ap all_within (sym (ap (λ (ss : List Sort). map (renamed (number_by ss f)) raw.rows) joined.sorts ∙ ap (map (renamed (number_by whole.sorts f))) joined.rows)) ∙ h)
      refused_by (fault.TooLarge limit) h =
          past_shape f whole h.1.0 (rows_done h.1.0 h.1.1.are) h.1.1.kept (subst IsPastAny trees_are h.2)
          ∙ ap (λ (l : Limit). Err (TooLarge l)) (sym h.0)
      refused_by fault.NoMemory h = tt

      module _ (new : List (Tree Variable)) (made : RawClause) (terms : HaveTrees new (made.head ∷ made.atoms) (substituted_all f (trees_at mid (raw.head ∷ raw.atoms))))
          (rows : HasRows (number_by raw.sorts f) raw.rows made.rows) (sorts : made.sorts ≡ raw.sorts) where
        split : trees_at new (made.head ∷ made.atoms) ≡ all_with_images whole.sorts f (whole.head ∷ whole.body)
        split = terms.are ∙ trees_are

        head_is : tree_at new made.head ≡ with_images whole.sorts f whole.head
        head_is = head_of split

        atoms_are : trees_at new made.atoms ≡ all_with_images whole.sorts f whole.body
        atoms_are = tail_of split

        pub made_raw : Unifies (typed_equations whole.sorts whole.equations) f → IsRaw new made
        made_raw u =
            are_parts new f source made.head made.rows made.atoms made.sorts formed u
            (record { within = terms.within.0; is = head_is }) (record { within = terms.within.1; are = atoms_are })
            (rows_done made.rows rows.are) rows.kept (sorts ∙ joined.sorts)

        pub made_same : new_clause (raw_in new made) ≡ new_clause (clause_by f whole)
        made_same = same_new f whole _ _ made.rows made.sorts head_is atoms_are (rows_done made.rows rows.are) (sorts ∙ joined.sorts)

-- ---- what the calls answer
pub refused_so : (a b : Meaning) (x : ClauseFault) → new_clause a ≡ new_clause b → IsRefused a x → IsRefused b x
refused_so a b fault.Overflow e h = sym e ∙ h
refused_so a b (fault.TooLarge limit) e h = sym e ∙ h
refused_so a b fault.NoMemory e h = tt

pub solved_is : (f : Variable → Tree Variable) (c : Meaning) (i : ℕ) (e : Meaning) → Unifies (typed_equations (joined_clause c i e).sorts (joined_clause c i e).equations) f
    → loaded_solved (resolvent c i e) ≡ made_of (new_clause (clause_by f (joined_clause c i e)))
unfolding resolvent solved_clause
solved_is f c i e u =
    let w = joined_clause c i e in
    ap (λ (o : Option (List Binding)). loaded_solved (solved_by w o)) u.is
    ∙ ap (λ (d : Meaning). made_of (new_clause d)) (sym (agree f (image u.unifier) u.images w))

pub unsolved_is : (c : Meaning) (i : ℕ) (e : Meaning) → most_general_unifier (typed_equations (joined_clause c i e).sorts (joined_clause c i e).equations) ≡ None → loaded_solved (resolvent c i e) ≡ Ok None
unfolding resolvent solved_clause
unsolved_is c i e h = ap (λ (o : Option (List Binding)). loaded_solved (solved_by (joined_clause c i e) o)) h

pub refused_resolvent : (f : Variable → Tree Variable) (c : Meaning) (i : ℕ) (e : Meaning) (x : ClauseFault) → Unifies (typed_equations (joined_clause c i e).sorts (joined_clause c i e).equations) f
    → IsRefused (clause_by f (joined_clause c i e)) x → IsRefusedResolvent (resolvent c i e) x
refused_resolvent f c i e fault.Overflow u h = solved_is f c i e u ∙ ap made_of h
refused_resolvent f c i e (fault.TooLarge limit) u h = solved_is f c i e u ∙ ap made_of h
refused_resolvent f c i e fault.NoMemory u h = tt

pub if_err_so : {A E : Type 0} (r : Result A E) (P Q : E → Type 0) → ((x : E) → P x → Q x) → IfErr r P → IfErr r Q
if_err_so (Ok a) P Q f h = tt
if_err_so (Err x) P Q f h = f x h

pub some_so : {S : Type 0} (o : Option S) (P Q : S → Type 0) → ((s : S) → P s → Q s) → IfSome o P → IfSome o Q
some_so None P Q f h = tt
some_so (Some s) P Q f h = f s h

pub some_there : {S : Type 0} (o : Option S) (P : S → Type 0) (s : S) → o ≡ Some s → IfSome o P → P s
some_there o P s e h = let R : Option _ → Type 0 = λ x. IfSome x P in subst R e h

pub none_there : {S : Type 0} (o : Option S) (P : Type 0) → o ≡ None → IfNone o P → P
none_there o P e h = let R : Option _ → Type 0 = λ x. IfNone x P in subst R e h
