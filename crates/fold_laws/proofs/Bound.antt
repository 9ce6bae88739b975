-- What the variables of a definition become.
use Rattle.std.proofs.Common.{◌≡◌, ℕ, zero, suc, ◌+◌, ◌-◌, ◌<◌, ◌≤◌, List, [], ◌∷◌, ◌++◌, map, length, arith, refl, sym, ◌∙◌, ap, subst, Bool, true, false, ◌⊎◌, inl, inr, Some, None}
use Rattle.std.specs.Prelude.{nat_eq, not, if◌then◌else◌, slice_index_or}
use Rattle.std.proofs.lemmas.Bool.{eqb-true}
use Rattle.clp_model.specs.declared.sort.Sort.{Sort}
use Rattle.clp_model.specs.declared.sort.Sort.TheVariants.{Any, Num}
use Rattle.clp_model.specs.declared.tree.Variable.{Variable}
use Rattle.clp_model.specs.declared.tree.Tree.{Tree, Var, App', Row_of-Tree, end_of-Tree, more_of-Tree}
use Rattle.clp_model.specs.Trees.{mapped, mapped_row, mapped_all, variables, variables_in_row, variables_in}
use Rattle.clp_model.specs.Clauses.{Clause, sort_in}
use Rattle.clp_model.proofs.Membership.{Among, first, next, among_front, among_back, among_either, among_mapped}
use Rattle.clp_model.proofs.Trees.{variables_var}
use Rattle.clp_model.proofs.RenamedTrees.{all_variables_mapped, all_mapped_twice, all_mapped_to_themselves}
use Rattle.linear_laws.proofs.Lists.{filter_in, filter_out, mapped_out}
use Rattle.unify_model.specs.Substituting.{substituted, substituted_row, substituted_all, same_variable, Binding}
use Rattle.unify_model.specs.Matching.{takes, is_number, image_at_once, IsMatching}
use Rattle.unify_laws.proofs.Variables.{both, same_is, same_itself}
use Rattle.unify_laws.proofs.Substituted.{substituted_agrees}
use Rattle.unify_laws.proofs.Matchings.{matched_is}
use Rattle.unify_laws.proofs.Solved.{among_cases}
use Rattle.clause_model.specs.Solved.{typed_variable, number_of}
use Rattle.clause_model.specs.Variables.{is_num}
use Rattle.clause_laws.proofs.Distinct.{found_among, among_found, only_one}
use Rattle.clause_laws.proofs.Upto.{number_equality}
use Rattle.rule_laws.specs.Folding.{RespectsSorts}
use Rattle.fold_model.specs.Positions.{in_range, is_in, at_positions}
use Rattle.fold_model.specs.Images.{typed_all, matched_atoms, numbers_from, all_variables, outer_variables, is_number_of, first_no_number, bad_with, named_bindings, all_bindings, image_in}

-- ---- numbers
pub in_is : (ns : List ℕ) (n : ℕ) → is_in ns n ≡ true → Among n ns
in_is ns n e = found_among nat_eq number_equality n ns e

pub is_then_in : (ns : List ℕ) (n : ℕ) → Among n ns → is_in ns n ≡ true
is_then_in ns n a = among_found nat_eq number_equality n ns a

pub not_in : (ns : List ℕ) (n : ℕ) → is_in ns n ≡ false → ¬ Among n ns
not_in ns n e a = let k = is_then_in ns n a in absurd (cc)

pub numbers_have : (k : ℕ) (sorts : List Sort) (x : ℕ) → k ≤ x → x < k + length sorts → Among x (numbers_from k sorts)
numbers_have k [] x l u = absurd (omega (arith, l, u))
numbers_have k (s ∷ ss) x l u = by (nat_eq k x) refl (λ below. numbers_have (suc k) ss x below (omega (arith, u)))
  where
    above : nat_eq k x ≡ false → suc k ≤ x
    above e = grind arith

    by : (b : Bool) → nat_eq k x ≡ b → (suc k ≤ x → Among x (numbers_from (suc k) ss)) → Among x (k ∷ numbers_from (suc k) ss)
    by true e again = subst (λ z. Among z (k ∷ numbers_from (suc k) ss)) (eqb-true k x e) first
    by false e again = next (again (above e))

num_at : (sorts : List Sort) (i : ℕ) → slice_index_or sorts i Any ≡ Num → i < length sorts
num_at [] i e = absurd (cc)
num_at (s ∷ ss) zero e = omega arith
num_at (s ∷ ss) (suc i) e = let h = num_at ss i e in omega (arith, h)

pub num_inside : (sorts : List Sort) (x : ℕ) → sort_in sorts x ≡ Num → (1 ≤ x) × (x ≤ length sorts)
num_inside sorts zero e = absurd (cc)
num_inside sorts (suc i) e = let h = num_at sorts i e in (omega arith, omega (arith, h))

not_false : (b : Bool) → b ≡ false → not b ≡ true
not_false false e = refl
not_false true e = absurd (cc)

is_the_number : (k : Sort) → is_num k ≡ true → k ≡ Num
is_the_number Num e = refl
is_the_number Any e = absurd (cc)

-- ---- variables of what is put in
mutual
  unfolding substituted variables

  -- the variables of the image of a variable stand in the substituted tree
  goes_to : {V W : Type 0} (f : V → Tree W) (v : V) (w : W) (t : Tree V) → Among v (variables t) → Among w (variables (f v)) → Among w (variables (substituted f t))
  goes_to f v w (Var x) a b = among_cases a (λ q. subst (λ z. Among w (variables (f z))) q b) (λ k. elim k [ ])
  goes_to f v w (App' name shape args) a b = row_goes_to f v w args a b

  row_goes_to : {V W : Type 0} {m : _} (f : V → Tree W) (v : V) (w : W) (ts : Row_of-Tree V m) → Among v (variables_in_row ts) → Among w (variables (f v)) → Among w (variables_in_row (substituted_row f ts))
  row_goes_to f v w end_of-Tree a b = elim a [ ]
  row_goes_to f v w (more_of-Tree t ts) a b = elim (among_either v (variables t) (variables_in_row ts) a) [
    | inl k ↦ among_front w (variables (substituted f t)) (variables_in_row (substituted_row f ts)) (goes_to f v w t k b)
    | inr k ↦ among_back w (variables (substituted f t)) (variables_in_row (substituted_row f ts)) (row_goes_to f v w ts k b)
  ]

all_goes_to : {V W : Type 0} (f : V → Tree W) (v : V) (w : W) (ts : List (Tree V)) → Among v (variables_in ts) → Among w (variables (f v)) → Among w (variables_in (substituted_all f ts))
all_goes_to f v w [] a b = elim a [ ]
all_goes_to f v w (t ∷ ts) a b = elim (among_either v (variables t) (variables_in ts) a) [
  | inl k ↦ among_front w (variables (substituted f t)) (variables_in (substituted_all f ts)) (goes_to f v w t k b)
  | inr k ↦ among_back w (variables (substituted f t)) (variables_in (substituted_all f ts)) (all_goes_to f v w ts k b)
]

mutual
  unfolding substituted mapped

  -- numbers instead of variables with sorts
  through : {U V W X : Type 0} (h : U → V) (g : V → Tree W) (j : W → X) (t : Tree U) → mapped j (substituted g (mapped h t)) ≡ substituted (λ x. mapped j (g (h x))) t
  through h g j (Var x) = refl
  through h g j (App' name shape args) = ap (App' name shape) (row_through h g j args)

  row_through : {U V W X : Type 0} {m : _} (h : U → V) (g : V → Tree W) (j : W → X) (ts : Row_of-Tree U m) → mapped_row j (substituted_row g (mapped_row h ts)) ≡ substituted_row (λ x. mapped j (g (h x))) ts
  row_through h g j end_of-Tree = refl
  row_through h g j (more_of-Tree t ts) =
      let a = through h g j t in
      let b = row_through h g j ts in
      cc

-- ---- the bindings
module _ (n c : Clause) (bs : List Binding) where
  skips : (xs vs : List ℕ) (v : Variable) → ¬ Among v.number xs → image_at_once (named_bindings n c xs vs ++ bs) v ≡ image_at_once bs v
  skips [] vs v h = refl
  skips (x ∷ xs) [] v h = refl
  skips (x ∷ xs) (y ∷ ys) v h = by (same_variable (typed_variable n.sorts x) v) refl (skips xs ys v (λ m. h (next m)))
    where
      by : (b : Bool) → same_variable (typed_variable n.sorts x) v ≡ b → image_at_once (named_bindings n c xs ys ++ bs) v ≡ image_at_once bs v
          → (if b then Var (typed_variable c.sorts y) else image_at_once (named_bindings n c xs ys ++ bs) v) ≡ image_at_once bs v
      by true e again =
          let q : x ≡ v.number = ap (λ (z : Variable). z.number) (same_is (typed_variable n.sorts x) v e) in
          absurd (h (subst (λ z. Among z (x ∷ xs)) q first))
      by false e again = again

  -- a named variable becomes a Num variable of the clause
  abbrev IsNamed : ℕ → Tree Variable → Type 0
  IsNamed x t = (y : ℕ) × (t ≡ Var (typed_variable c.sorts y)) × (sort_in c.sorts y ≡ Num)

  abbrev Again : ℕ → List ℕ → List ℕ → ℕ → Type 0
  Again place xs ys x = first_no_number c (suc place) ys ≡ None → Among x xs → IsNamed x (image_at_once (named_bindings n c xs ys ++ bs) (typed_variable n.sorts x))

  named : (place : ℕ) (xs vs : List ℕ) → first_no_number c place vs ≡ None → length vs ≡ length xs → (x : ℕ) → Among x xs → IsNamed x (image_at_once (named_bindings n c xs vs ++ bs) (typed_variable n.sorts x))
  named place [] vs e l x a = elim a [ ]
  named place (z ∷ xs) [] e l x a = absurd (cc)
  named place (z ∷ xs) (y ∷ ys) e l x a = by (is_number_of c y) refl (λ k m. named (suc place) xs ys k (omega (arith, l)) x m) e
    where
      at : Again place xs ys x → is_number_of c y ≡ true → first_no_number c (suc place) ys ≡ None → (b : Bool) → same_variable (typed_variable n.sorts z) (typed_variable n.sorts x) ≡ b
          → IsNamed x (if b then Var (typed_variable c.sorts y) else image_at_once (named_bindings n c xs ys ++ bs) (typed_variable n.sorts x))
      at again k e true i = (y, refl, is_the_number (sort_in c.sorts y) (both (in_range (length c.sorts) y) (is_num (sort_in c.sorts y)) k).1)
      at again k e false i = among_cases a
          (λ q. absurd (let t = same_itself (typed_variable n.sorts x) in let u = ap (λ z. same_variable (typed_variable n.sorts z) (typed_variable n.sorts x)) q in cc))
          (λ m. again e m)

      by : (b : Bool) → is_number_of c y ≡ b → Again place xs ys x → (if b then first_no_number c (suc place) ys else Some place) ≡ None → IsNamed x (image_at_once (named_bindings n c (z ∷ xs) (y ∷ ys) ++ bs) (typed_variable n.sorts x))
      by true k again e = at again k e (same_variable (typed_variable n.sorts z) (typed_variable n.sorts x)) refl
      by false k again e = absurd (cc)

-- ---- a clause whose atoms at the positions are matched, with the images that are named
module _ (n c : Clause) (at with : List ℕ) (bs : List Binding) (m : matched_atoms n c at ≡ Some bs) (w : bad_with n c with ≡ None) where
  abbrev patterns : List (Tree Variable)
  patterns = typed_all n.sorts n.body

  abbrev atoms : List (Tree ℕ)
  atoms = at_positions c.head c.body at

  abbrev pub s : ℕ → Tree ℕ
  s = image_in n (all_bindings n c with bs)

  is_matching : IsMatching patterns (typed_all c.sorts atoms) (image_at_once bs)
  unfolding matched_atoms
  is_matching = matched_is patterns (typed_all c.sorts atoms) bs m

  -- as many are named as there are, and each is a Num variable
  named_all : (b : Bool) → nat_eq (length with) (length (outer_variables n)) ≡ b → (if b then first_no_number c 1 with else Some 0) ≡ None → (length with ≡ length (outer_variables n)) × (first_no_number c 1 with ≡ None)
  named_all true e k = (eqb-true (length with) (length (outer_variables n)) e, k)
  named_all false e k = absurd (cc)

  named_are : (length with ≡ length (outer_variables n)) × (first_no_number c 1 with ≡ None)
  named_are = named_all (nat_eq (length with) (length (outer_variables n))) refl w

  -- a variable of the atoms isn't named
  of_atoms : (x : ℕ) → Among x (variables_in n.body) → s x ≡ mapped number_of (image_at_once bs (typed_variable n.sorts x))
  of_atoms x a = ap (mapped number_of) (skips n c bs (outer_variables n) with (typed_variable n.sorts x) (λ k.
      let o = filter_out (λ y. not (is_in (variables_in n.body) y)) (all_variables n) x k in
      let i = is_then_in (variables_in n.body) x a in
      absurd (cc)))

  -- the variables of the images have the sorts of the clause
  sorts_are : (x : ℕ) → Among x (variables_in n.body) → (v : Variable) → Among v (variables (image_at_once bs (typed_variable n.sorts x))) → v.sort ≡ sort_in c.sorts v.number
  sorts_are x a v k =
      let p : Among (typed_variable n.sorts x) (variables_in patterns) = subst (λ (vs : List Variable). Among (typed_variable n.sorts x) vs) (sym (all_variables_mapped (typed_variable n.sorts) n.body)) (among_mapped (typed_variable n.sorts) a) in
      let t : Among v (variables_in (substituted_all (image_at_once bs) patterns)) = all_goes_to (image_at_once bs) (typed_variable n.sorts x) v patterns p k in
      let u : Among v (map (typed_variable c.sorts) (variables_in atoms)) = subst (λ (vs : List Variable). Among v vs) (ap (λ (ts : List (Tree Variable)). variables_in ts) is_matching.is ∙ all_variables_mapped (typed_variable c.sorts) atoms) t in
      mapped_out (typed_variable c.sorts) (variables_in atoms) (λ (v : Variable). v.sort ≡ sort_in c.sorts v.number) (λ y b. refl) v u

  abbrev IsNumber : Tree ℕ → Type 0
  IsNumber t = (y : ℕ) × (t ≡ Var y) × (sort_in c.sorts y ≡ Num)

  number_out : (t : Tree Variable) → takes Num t ≡ true → ((v : Variable) → Among v (variables t) → v.sort ≡ sort_in c.sorts v.number) → IsNumber (mapped number_of t)
  unfolding mapped variables
  number_out (Var v) e h = (v.number, refl, sym (h v first) ∙ is_num_sort v.sort e)
    where
      is_num_sort : (k : Sort) → is_number k ≡ true → k ≡ Num
      is_num_sort Num e = refl
      is_num_sort Any e = absurd (cc)
  number_out (App' name shape args) e h = absurd (cc)

  pub respects : RespectsSorts n c s
  unfolding mapped
  respects x e = by (is_in (variables_in n.body) x) refl
    where
      inside : Among x (all_variables n)
      inside = let r = num_inside n.sorts x e in numbers_have 1 n.sorts x r.0 (omega (arith, r.1))

      by : (b : Bool) → is_in (variables_in n.body) x ≡ b → IsNumber (s x)
      by true i =
          let a = in_is (variables_in n.body) x i in
          let v = typed_variable n.sorts x in
          let t : takes Num (image_at_once bs v) ≡ true = ap (λ k. takes k (image_at_once bs v)) (sym e) ∙ is_matching.respects v in
          subst IsNumber (sym (of_atoms x a)) (number_out (image_at_once bs v) t (sorts_are x a))
      by false i =
          let o : Among x (outer_variables n) = filter_in (λ y. not (is_in (variables_in n.body) y)) (all_variables n) x inside (not_false (is_in (variables_in n.body) x) i) in
          let r = named n c bs 1 (outer_variables n) with named_are.1 named_are.0 x o in
          (r.0, ap (mapped number_of) r.1, r.2)

  -- the atoms of the definition become those at the positions
  each_is : (ts : List (Tree ℕ)) → ((x : ℕ) → Among x (variables_in ts) → Among x (variables_in n.body)) → mapped_all number_of (substituted_all (image_at_once bs) (typed_all n.sorts ts)) ≡ map (substituted s) ts
  each_is [] h = refl
  each_is (t ∷ ts) h =
      let a : mapped number_of (substituted (image_at_once bs) (mapped (typed_variable n.sorts) t)) ≡ substituted s t
      = through (typed_variable n.sorts) (image_at_once bs) number_of t
      ∙ substituted_agrees (λ x. mapped number_of (image_at_once bs (typed_variable n.sorts x))) s t (λ x k. sym (of_atoms x (h x (among_front x (variables t) (variables_in ts) k)))) in
      let b = each_is ts (λ x k. h x (among_back x (variables t) (variables_in ts) k)) in
      cc

  pub atoms_are : atoms ≡ map (substituted s) n.body
  atoms_are =
      sym (all_mapped_twice (typed_variable c.sorts) number_of (λ x. x) atoms (λ x k. refl) ∙ all_mapped_to_themselves (λ x. x) atoms (λ x k. refl))
      ∙ (ap (λ (ts : List (Tree Variable)). mapped_all number_of ts) (sym is_matching.is)
      ∙ each_is n.body (λ x k. k))

  -- ---- where the variables of an image come from
  tree_at : (ps : List ℕ) (y : ℕ) → Among y (variables_in (at_positions c.head c.body ps)) → Among y (variables_in (c.head ∷ c.body))
  tree_at [] y a = elim a [ ]
  tree_at (p ∷ ps) y a = elim (among_either y (variables (slice_index_or c.body (p - 1) c.head)) (variables_in (at_positions c.head c.body ps)) a) [
    | inl k ↦ at_place c.body (p - 1) k
    | inr k ↦ tree_at ps y k
  ]
    where
      at_place : (ts : List (Tree ℕ)) (i : ℕ) → Among y (variables (slice_index_or ts i c.head)) → Among y (variables_in (c.head ∷ ts))
      at_place [] i k = among_front y (variables c.head) [] k
      at_place (t ∷ ts) zero k = among_back y (variables c.head) (variables_in (t ∷ ts)) (among_front y (variables t) (variables_in ts) k)
      at_place (t ∷ ts) (suc i) k = elim (among_either y (variables c.head) (variables_in ts) (at_place ts i k)) [
        | inl m ↦ among_front y (variables c.head) (variables_in (t ∷ ts)) m
        | inr m ↦ among_back y (variables c.head) (variables_in (t ∷ ts)) (among_back y (variables t) (variables_in ts) m)
      ]

  -- it is one of the clause's trees, or a Num variable that is named
  pub image_variables : (x : ℕ) → 1 ≤ x → x ≤ length n.sorts → (y : ℕ) → Among y (variables (s x)) → Among y (variables_in (c.head ∷ c.body)) ⊎ ((1 ≤ y) × (y ≤ length c.sorts))
  unfolding mapped
  image_variables x l u y a = by (is_in (variables_in n.body) x) refl
    where
      by : (b : Bool) → is_in (variables_in n.body) x ≡ b → Among y (variables_in (c.head ∷ c.body)) ⊎ ((1 ≤ y) × (y ≤ length c.sorts))
      by true i = inl (tree_at at y (subst (λ (ts : List (Tree ℕ)). Among y (variables_in ts)) (sym atoms_are) (all_goes_to s x y n.body (in_is (variables_in n.body) x i) a)))
      by false i =
          let o : Among x (outer_variables n) = filter_in (λ y. not (is_in (variables_in n.body) y)) (all_variables n) x (numbers_have 1 n.sorts x l (omega (arith, u))) (not_false (is_in (variables_in n.body) x) i) in
          let r = named n c bs 1 (outer_variables n) with named_are.1 named_are.0 x o in
          let is : s x ≡ Var r.0 = ap (mapped number_of) r.1 in
          let y_is : y ≡ r.0 = only_one y r.0 (subst (λ (vs : List ℕ). Among y vs) (variables_var r.0) (subst (λ (t : Tree ℕ). Among y (variables t)) is a)) in
          inr (num_inside c.sorts y (ap (sort_in c.sorts) y_is ∙ r.2))
