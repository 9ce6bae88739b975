-- The trees of joined clauses, each variable with its sort.
use Rattle.std.proofs.Common.{◌≡◌, ℕ, zero, suc, ◌+◌, ◌-◌, ◌<◌, ◌≤◌, List, [], ◌∷◌, ◌++◌, length, take, drop, slice_range, slice_index_or, refl, ap, ◌∙◌, sym, subst, arith, All, inl, inr, Result, IfOk, Ok, Err}
use Rattle.std.proofs.lemmas.List.{length-append, take_rest}
use Rattle.clp_model.specs.declared.sort.Sort.{Sort}
use Rattle.clp_model.specs.declared.sort.Sort.TheVariants.{Any}
use Rattle.clp_model.specs.declared.tree.Variable.{Variable}
use Rattle.clp_model.specs.declared.tree.Tree.{Tree}
use Rattle.clp_model.specs.Trees.{mapped, mapped_all, variables, variables_in}
use Rattle.clp_model.specs.Clauses.{Row, sort_in}
use Rattle.clp_model.proofs.Membership.{Among, among_front, among_back, among_either}
use Rattle.clp_model.proofs.RenamedTrees.{mapped_twice, all_mapped_twice, mapped_to_itself, all_mapped_to_themselves}
use Rattle.term_store.specs.Trees.{tree_at, trees_at, AreIn, HaveTrees, Keeps}
use Rattle.term_store.proofs.Keeping.{have_trees_kept, keeps_trans}
use Rattle.lin_row.specs.Rows.{IsKept}
use Rattle.clause_model.specs.Variables.{rows_variables}
use Rattle.clause_model.specs.Solved.{typed_variable, typed}
use Rattle.clause_laws.proofs.Rows.{all_each, each_all}
use Rattle.clause_store.specs.declared.clause.Clause.{Clause}
use Rattle.clause_store.specs.Stored.{number_of, atom_at, atoms_at, clause_in, HasSort, IsNum, IsStored}
use Rattle.clause_store.proofs.Counts.{few_sorts}
use Rattle.clause_loader.specs.Carried.{typed_all}
use Rattle.unfold_model.specs.Resolvent.{past, joined_clause}
use Rattle.clause_resolvent.specs.Raised.{raise, AreLow, IsLowNumber}

-- ---- parts of a list
pub front_range : {A : Type 0} (xs ys : List A) (n : ℕ) → ys ≡ slice_range xs 0 n → ys ≡ take n xs
front_range xs ys n e = let z : n - 0 ≡ n = omega arith in e ∙ ap (λ (k : ℕ). take k xs) z

pub back_range : {A : Type 0} (xs ys : List A) (n : ℕ) → ys ≡ slice_range xs n (length xs) → ys ≡ drop n xs
back_range xs ys n e = e ∙ take_rest xs n

in_front : (store : List (Tree Variable)) (terms : List ℕ) (i : ℕ) → AreIn store terms → AreIn store (take i terms)
in_front store [] zero h = tt
in_front store [] (suc i) h = tt
in_front store (t ∷ ts) zero h = tt
in_front store (t ∷ ts) (suc i) h = (h.0, in_front store ts i h.1)

in_back : (store : List (Tree Variable)) (terms : List ℕ) (i : ℕ) → AreIn store terms → AreIn store (drop i terms)
in_back store [] zero h = tt
in_back store [] (suc i) h = tt
in_back store (t ∷ ts) zero h = h
in_back store (t ∷ ts) (suc i) h = in_back store ts i h.1

atoms_in : (store : List (Tree Variable)) (c : Clause) → IsStored store c → AreIn store c.atoms
atoms_in store c h = h.parts.within.1

pub front_in : (store : List (Tree Variable)) (c : Clause) (place : ℕ) (all xs : List ℕ) → IsStored store c → all ≡ c.atoms → xs ≡ take place all → AreIn store xs
front_in store c place all xs h e d = let P : List ℕ → Type 0 = AreIn store in subst P (sym (d ∙ ap (take place) e)) (in_front store c.atoms place (atoms_in store c h))

pub back_in : (store : List (Tree Variable)) (c : Clause) (place : ℕ) (all xs : List ℕ) → IsStored store c → all ≡ c.atoms → xs ≡ drop (place + 1) all → AreIn store xs
back_in store c place all xs h e d = let P : List ℕ → Type 0 = AreIn store in subst P (sym (d ∙ ap (drop (place + 1)) e)) (in_back store c.atoms (place + 1) (atoms_in store c h))

-- ---- the variables of a stored clause
pub few_variables : (store : List (Tree Variable)) (c : Clause) → IsStored store c → length c.sorts ≤ 256
few_variables store c h = few_sorts (clause_in store c) h.canonical.limits

all_sorted : (store : List (Tree Variable)) (c : Clause) → IsStored store c → (v : Variable) → Among v (variables_in (trees_at store (c.head ∷ c.atoms))) → HasSort c.sorts v
all_sorted store c h v m = all_each (HasSort c.sorts) (variables_in (trees_at store (c.head ∷ c.atoms))) h.parts.sorted v m

pub head_sorted : (store : List (Tree Variable)) (c : Clause) → IsStored store c → (v : Variable) → Among v (variables (tree_at store c.head)) → HasSort c.sorts v
head_sorted store c h v m = all_sorted store c h v (among_front v (variables (tree_at store c.head)) (variables_in (trees_at store c.atoms)) m)

pub atoms_sorted : (store : List (Tree Variable)) (c : Clause) → IsStored store c → (v : Variable) → Among v (variables_in (trees_at store c.atoms)) → HasSort c.sorts v
atoms_sorted store c h v m = all_sorted store c h v (among_back v (variables (tree_at store c.head)) (variables_in (trees_at store c.atoms)) m)

low : (store : List (Tree Variable)) (c : Clause) → IsStored store c → (v : Variable) → HasSort c.sorts v → IsLowNumber v.number
low store c h v s = let few = few_variables store c h in let w = s.within in omega arith

pub head_low : (store : List (Tree Variable)) (c : Clause) → IsStored store c → AreLow (variables (tree_at store c.head))
head_low store c h = record { each = each_all (λ v. IsLowNumber v.number) (variables (tree_at store c.head)) (λ v m. low store c h v (head_sorted store c h v m)) }

pub atoms_low : (store : List (Tree Variable)) (c : Clause) (terms : List ℕ) → IsStored store c → terms ≡ c.atoms → AreLow (variables_in (trees_at store terms))
atoms_low store c terms h e =
    let P : List ℕ → Type 0 = λ ts. AreLow (variables_in (trees_at store ts)) in
    subst P (sym e) (record { each = each_all (λ v. IsLowNumber v.number) (variables_in (trees_at store c.atoms)) (λ v m. low store c h v (atoms_sorted store c h v m)) })

pub terms_in : (store : List (Tree Variable)) (c : Clause) (terms : List ℕ) → IsStored store c → terms ≡ c.atoms → AreIn store terms
terms_in store c terms h e = let P : List ℕ → Type 0 = AreIn store in subst P (sym e) (atoms_in store c h)

pub rows_low : (store : List (Tree Variable)) (c : Clause) (rows : List Row) → IsStored store c → rows ≡ c.rows → All IsLowNumber (rows_variables rows)
rows_low store c rows h e =
    let P : List Row → Type 0 = λ rs. All IsLowNumber (rows_variables rs) in
    subst P (sym e) (each_all IsLowNumber (rows_variables c.rows)
    (λ n m. let k = all_each (IsNum c.sorts) (rows_variables c.rows) h.parts.nums n m in let few = few_variables store c h in let w = k.within in omega arith))

pub rows_kept : (store : List (Tree Variable)) (c : Clause) (rows : List Row) → IsStored store c → rows ≡ c.rows → All IsKept rows
rows_kept store c rows h e = let P : List Row → Type 0 = All IsKept in subst P (sym e) h.parts.kept

-- ---- the sorts of joined clauses
front : (xs ys : List Sort) (i : ℕ) (d : Sort) → i < length xs → slice_index_or (xs ++ ys) i d ≡ slice_index_or xs i d
front [] ys i d w = absurd (omega arith)
front (x ∷ xs) ys zero d w = refl
front (x ∷ xs) ys (suc i) d w = front xs ys i d (omega arith)

back : (xs ys : List Sort) (j i : ℕ) (d : Sort) → j ≡ length xs + i → slice_index_or (xs ++ ys) j d ≡ slice_index_or ys i d
back [] ys j i d e = let same : j ≡ i = omega (arith, e) in ap (λ (k : ℕ). slice_index_or ys k d) same
back (x ∷ xs) ys zero i d e = absurd (omega (arith, e))
back (x ∷ xs) ys (suc j) i d e = back xs ys j i d (omega (arith, e))

module _ (cs es : List Sort) where
  sort_front : (n : ℕ) → 0 < n → n ≤ length cs → sort_in (cs ++ es) n ≡ sort_in cs n
  sort_front zero p w = absurd (omega arith)
  sort_front (suc i) p w = front cs es i Any (omega arith)

  sort_back : (n : ℕ) (m : ℕ) → 0 < n → m ≡ length cs + n → sort_in (cs ++ es) m ≡ sort_in es n
  sort_back zero m p e = absurd (omega arith)
  sort_back (suc i) zero p e = absurd (omega (arith, e))
  sort_back (suc i) (suc j) p e = back cs es j i Any (omega (arith, e))

  pub sorted_front : (v : Variable) → HasSort cs v → HasSort (cs ++ es) v
  sorted_front v h = record {
    positive = h.positive;
    within = let w = h.within in omega (arith, length-append cs es);
    sort = sort_front v.number h.positive h.within ∙ h.sort;
  }

  pub sorted_back : (v : Variable) → HasSort es v → HasSort (cs ++ es) (raise (length cs) v)
  sorted_back v h = record {
    positive = let p = h.positive in omega arith;
    within = let w = h.within in omega (arith, length-append cs es);
    sort = sort_back v.number (length cs + v.number) h.positive refl ∙ h.sort;
  }

abbrev variable_of : ℕ → Sort → Variable
variable_of n s = record { number = n; sort = s }

own : (sorts : List Sort) (v : Variable) → HasSort sorts v → typed_variable sorts v.number ≡ v
own sorts v h = ap (variable_of v.number) h.sort

-- ---- trees with their sorts again
pub typed_again : (sorts : List Sort) (t : Tree Variable) → ((v : Variable) → Among v (variables t) → HasSort sorts v) → typed sorts (mapped number_of t) ≡ t
typed_again sorts t h = mapped_twice number_of (typed_variable sorts) (λ v. v) t (λ v m. own sorts v (h v m)) ∙ mapped_to_itself (λ v. v) t (λ v m. refl)

typed_all_again : (sorts : List Sort) (ts : List (Tree Variable)) → ((v : Variable) → Among v (variables_in ts) → HasSort sorts v) → typed_all sorts (mapped_all number_of ts) ≡ ts
typed_all_again sorts ts h = all_mapped_twice number_of (typed_variable sorts) (λ v. v) ts (λ v m. own sorts v (h v m)) ∙ all_mapped_to_themselves (λ v. v) ts (λ v m. refl)

abbrev raised_number : ℕ → Variable → ℕ
raised_number k v = k + v.number

pub typed_raised : (cs es : List Sort) (t : Tree Variable) → ((v : Variable) → Among v (variables t) → HasSort es v) → typed (cs ++ es) (mapped (past (length cs)) (mapped number_of t)) ≡ mapped (raise (length cs)) t
typed_raised cs es t h =
    ap (typed (cs ++ es)) (mapped_twice number_of (past (length cs)) (raised_number (length cs)) t (λ v m. refl))
    ∙ mapped_twice (raised_number (length cs)) (typed_variable (cs ++ es)) (raise (length cs)) t (λ v m. own (cs ++ es) (raise (length cs) v) (sorted_back cs es v (h v m)))

typed_all_raised : (cs es : List Sort) (ts : List (Tree Variable)) → ((v : Variable) → Among v (variables_in ts) → HasSort es v) → typed_all (cs ++ es) (mapped_all (past (length cs)) (mapped_all number_of ts)) ≡ mapped_all (raise (length cs)) ts
typed_all_raised cs es ts h =
    ap (typed_all (cs ++ es)) (all_mapped_twice number_of (past (length cs)) (raised_number (length cs)) ts (λ v m. refl))
    ∙ all_mapped_twice (raised_number (length cs)) (typed_variable (cs ++ es)) (raise (length cs)) ts (λ v m. own (cs ++ es) (raise (length cs) v) (sorted_back cs es v (h v m)))

-- ---- the atoms
front_atoms : (store : List (Tree Variable)) (terms : List ℕ) (i : ℕ) → take i (atoms_at store terms) ≡ atoms_at store (take i terms)
front_atoms store [] zero = refl
front_atoms store [] (suc i) = refl
front_atoms store (t ∷ ts) zero = refl
front_atoms store (t ∷ ts) (suc i) = ap (λ (v : List (Tree ℕ)). atom_at store t ∷ v) (front_atoms store ts i)

back_atoms : (store : List (Tree Variable)) (terms : List ℕ) (i : ℕ) → drop i (atoms_at store terms) ≡ atoms_at store (drop i terms)
back_atoms store [] zero = refl
back_atoms store [] (suc i) = refl
back_atoms store (t ∷ ts) zero = refl
back_atoms store (t ∷ ts) (suc i) = back_atoms store ts i

front_variable : (store : List (Tree Variable)) (terms : List ℕ) (i : ℕ) (v : Variable) → Among v (variables_in (trees_at store (take i terms))) → Among v (variables_in (trees_at store terms))
front_variable store [] zero v m = elim m [ ]
front_variable store [] (suc i) v m = elim m [ ]
front_variable store (t ∷ ts) zero v m = elim m [ ]
front_variable store (t ∷ ts) (suc i) v m = elim (among_either v (variables (tree_at store t)) (variables_in (trees_at store (take i ts))) m) [
  | inl a ↦ among_front v (variables (tree_at store t)) (variables_in (trees_at store ts)) a
  | inr b ↦ among_back v (variables (tree_at store t)) (variables_in (trees_at store ts)) (front_variable store ts i v b)
]

back_variable : (store : List (Tree Variable)) (terms : List ℕ) (i : ℕ) (v : Variable) → Among v (variables_in (trees_at store (drop i terms))) → Among v (variables_in (trees_at store terms))
back_variable store [] zero v m = m
back_variable store [] (suc i) v m = m
back_variable store (t ∷ ts) zero v m = m
back_variable store (t ∷ ts) (suc i) v m = among_back v (variables (tree_at store t)) (variables_in (trees_at store ts)) (back_variable store ts i v m)

typed_both : (sorts : List Sort) (xs ys : List (Tree ℕ)) → typed_all sorts (xs ++ ys) ≡ typed_all sorts xs ++ typed_all sorts ys
typed_both sorts [] ys = refl
typed_both sorts (x ∷ xs) ys = ap (λ (v : List (Tree Variable)). typed sorts x ∷ v) (typed_both sorts xs ys)

trees_both : (store : List (Tree Variable)) (xs ys : List ℕ) → trees_at store (xs ++ ys) ≡ trees_at store xs ++ trees_at store ys
trees_both store [] ys = refl
trees_both store (x ∷ xs) ys = ap (λ (v : List (Tree Variable)). tree_at store x ∷ v) (trees_both store xs ys)

in_both : (store : List (Tree Variable)) (xs ys : List ℕ) → AreIn store xs → AreIn store ys → AreIn store (xs ++ ys)
in_both store [] ys a b = b
in_both store (x ∷ xs) ys a b = (a.0, in_both store xs ys a.1 b)

have_both : (store : List (Tree Variable)) (xs ys : List ℕ) (ts us : List (Tree Variable)) → HaveTrees store xs ts → HaveTrees store ys us → HaveTrees store (xs ++ ys) (ts ++ us)
have_both store xs ys ts us a b = record {
  within = in_both store xs ys a.within b.within;
  are = trees_both store xs ys ∙ ap (λ (v : List (Tree Variable)). v ++ trees_at store ys) a.are ∙ ap (λ (v : List (Tree Variable)). ts ++ v) b.are;
}

assoc : (xs ys zs : List (Tree Variable)) → (xs ++ ys) ++ zs ≡ xs ++ (ys ++ zs)
assoc [] ys zs = refl
assoc (x ∷ xs) ys zs = ap (λ (v : List (Tree Variable)). x ∷ v) (assoc xs ys zs)

module _ (store : List (Tree Variable)) (c e : Clause) (first_stored : IsStored store c) (second_stored : IsStored store e) where
  abbrev sorts : List Sort
  sorts = c.sorts ++ e.sorts

  pub head_typed : typed sorts (atom_at store c.head) ≡ tree_at store c.head
  head_typed = typed_again sorts (tree_at store c.head) (λ v m. sorted_front c.sorts e.sorts v (head_sorted store c first_stored v m))

  body_typed : (place : ℕ) → typed_all sorts (joined_clause (clause_in store c) place (clause_in store e)).body
      ≡ (trees_at store (take place c.atoms) ++ mapped_all (raise (length c.sorts)) (trees_at store e.atoms)) ++ trees_at store (drop (place + 1) c.atoms)
  body_typed place =
      let b = clause_in store c in
      let mid = mapped_all (past (length c.sorts)) (atoms_at store e.atoms) in
      let one : suc place ≡ place + 1 = omega arith in
      let A : typed_all sorts (take place b.body) ≡ trees_at store (take place c.atoms) =
      ap (typed_all sorts) (front_atoms store c.atoms place) ∙ typed_all_again sorts (trees_at store (take place c.atoms)) (λ v m. sorted_front c.sorts e.sorts v (atoms_sorted store c first_stored v (front_variable store c.atoms place v m))) in
      let B : typed_all sorts mid ≡ mapped_all (raise (length c.sorts)) (trees_at store e.atoms) =
      typed_all_raised c.sorts e.sorts (trees_at store e.atoms) (λ v m. atoms_sorted store e second_stored v m) in
      let C : typed_all sorts (drop (suc place) b.body) ≡ trees_at store (drop (place + 1) c.atoms) =
      ap (λ (k : ℕ). typed_all sorts (drop k b.body)) one
      ∙ ap (typed_all sorts) (back_atoms store c.atoms (place + 1)) ∙ typed_all_again sorts (trees_at store (drop (place + 1) c.atoms)) (λ v m. sorted_front c.sorts e.sorts v (atoms_sorted store c first_stored v (back_variable store c.atoms (place + 1) v m))) in
      typed_both sorts (take place b.body) (mid ++ drop (suc place) b.body)
      ∙ ap (λ (v : List (Tree Variable)). typed_all sorts (take place b.body) ++ v) (typed_both sorts mid (drop (suc place) b.body))
      ∙ ap (λ (v : List (Tree Variable)). v ++ (typed_all sorts mid ++ typed_all sorts (drop (suc place) b.body))) A
      ∙ ap (λ (v : List (Tree Variable)). trees_at store (take place c.atoms) ++ (v ++ typed_all sorts (drop (suc place) b.body))) B
      ∙ ap (λ (v : List (Tree Variable)). trees_at store (take place c.atoms) ++ (mapped_all (raise (length c.sorts)) (trees_at store e.atoms) ++ v)) C
      ∙ sym (assoc (trees_at store (take place c.atoms)) (mapped_all (raise (length c.sorts)) (trees_at store e.atoms)) (trees_at store (drop (place + 1) c.atoms)))

  -- the atoms one after another
  pub atoms_have : (place by : ℕ) (terms : List ℕ) (one two new : List (Tree Variable)) (xs ys zs all : List ℕ)
      → Keeps one two → Keeps two new → by ≡ length c.sorts → terms ≡ e.atoms
      → HaveTrees one xs (trees_at store (take place c.atoms)) → HaveTrees two ys (mapped_all (raise by) (trees_at store terms)) → HaveTrees new zs (trees_at store (drop (place + 1) c.atoms))
      → all ≡ (xs ++ ys) ++ zs → HaveTrees new all (typed_all sorts (joined_clause (clause_in store c) place (clause_in store e)).body)
  atoms_have place by terms one two new xs ys zs all k l eb et a b d is =
      let B : ℕ → Type 0 = λ n. HaveTrees two ys (mapped_all (raise n) (trees_at store terms)) in
      let C : List ℕ → Type 0 = λ ts. HaveTrees two ys (mapped_all (raise (length c.sorts)) (trees_at store ts)) in
      let mid = subst C et (subst B eb b) in
      let A = have_trees_kept one new xs (trees_at store (take place c.atoms)) (keeps_trans one two new k l) a in
      let M = have_trees_kept two new ys (mapped_all (raise (length c.sorts)) (trees_at store e.atoms)) l mid in
      let H = have_both new (xs ++ ys) zs _ _ (have_both new xs ys _ _ A M) d in
      let P : List ℕ → Type 0 = λ v. HaveTrees new v (typed_all sorts (joined_clause (clause_in store c) place (clause_in store e)).body) in
      let Q : List (Tree Variable) → Type 0 = HaveTrees new ((xs ++ ys) ++ zs) in
      subst P (sym is) (subst Q (sym (body_typed place)) H)

pub if_ok_so : {A E : Type 0} (r : Result A E) (P Q : A → Type 0) → ((a : A) → P a → Q a) → IfOk r P → IfOk r Q
if_ok_so (Ok a) P Q f h = f a h
if_ok_so (Err x) P Q f h = tt
