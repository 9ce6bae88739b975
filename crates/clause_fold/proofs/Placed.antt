-- What the variables of a definition become, in the order of their numbers.
use Rattle.std.proofs.Common.{◌≡◌, ℕ, zero, suc, ◌+◌, ◌-◌, ◌<◌, ◌≤◌, List, [], ◌∷◌, ◌++◌, length, map, drop, get_or, nat_eq, refl, ap, ◌∙◌, sym, subst, arith, add-one, Bool, true, false, Option, Some, None, All, ◌⊎◌, inl, inr}
use Rattle.std.specs.Prelude.{not, nat_lt, nat_le, if◌then◌else◌, slice_index_or}
use Rattle.std.specs.List.{filter}
use Rattle.std.proofs.Math.Seq.{drop-cons}
use Rattle.std.proofs.lemmas.Bool.{eqb-true, ltb-true, leb-true}
use Rattle.std.proofs.lemmas.List.{append_assoc, drop_all}
use Rattle.clp_model.specs.declared.sort.Sort.{Sort}
use Rattle.clp_model.specs.declared.sort.Sort.TheVariants.{Any}
use Rattle.clp_model.specs.declared.tree.Variable.{Variable}
use Rattle.clp_model.specs.declared.tree.Tree.{Tree, Var}
use Rattle.clp_model.specs.Trees.{mapped, mapped_all, variables, variables_in}
use Rattle.clp_model.specs.Clauses.{Clause as Meaning, sort_in}
use Rattle.clp_model.proofs.Trees.{variables_var}
use Rattle.clp_model.proofs.Membership.{Among, first, next, among_front, among_back, among_either, among_mapped}
use Rattle.clp_model.proofs.RenamedTrees.{all_variables_mapped}
use Rattle.linear_laws.proofs.Lists.{filter_out, mapped_out}
use Rattle.lin_row.specs.Rows.{at}
use Rattle.unify_model.specs.Substituting.{substituted_all, same_variable, Binding}
use Rattle.unify_model.specs.Matching.{image_at_once, matched, IsMatching}
use Rattle.unify_laws.proofs.Variables.{both, same_is, same_itself}
use Rattle.unify_laws.proofs.Solved.{among_cases}
use Rattle.unify_laws.proofs.Matchings.{matched_is}
use Rattle.term_store.specs.Trees.{tree_at, trees_at, AreIn, HasTree, Keeps}
use Rattle.term_store.proofs.Keeping.{keeps_all, keeps_trans, keeps_in, trees_at_push, are_in_push}
use Rattle.substitution.specs.declared.subst.Subst.{Subst}
use Rattle.substitution.specs.Weights.{IsOf, images}
use Rattle.clause_model.specs.Solved.{typed_variable}
use Rattle.clause_model.specs.Variables.{is_num}
use Rattle.clause_laws.proofs.Distinct.{found_among, among_found}
use Rattle.clause_laws.proofs.Upto.{number_equality}
use Rattle.clause_laws.proofs.Rows.{all_each, each_all}
use Rattle.clause_store.specs.declared.clause.Clause.{Clause}
use Rattle.clause_store.specs.Stored.{number_of, atom_at, atoms_at, clause_in, HasSort, IsStored}
use Rattle.clause_store.proofs.Counts.{length_trees_at}
use Rattle.clause_loader.specs.WellFormed.{IsNumber}
use Rattle.fold_model.specs.Positions.{in_range, is_in, at_positions}
use Rattle.fold_model.specs.Images.{typed_all, matched_atoms, numbers_from, all_variables, outer_variables, is_number_of, first_no_number, bad_with, named_bindings, all_bindings, image_in}
use Rattle.clause_fold.specs.Images.{IsMatched, AreImages, Become, image_by}
use Rattle.clause_fold.proofs.StoredParts.{head_numbered, atoms_numbered}
use Rattle.clause_fold.proofs.Loose.{numbers_here}
use Rattle.clause_fold.proofs.Named.{is_outer, outer_here, outer_next}
use Rattle.clause_fold.proofs.Substituted.{all_goes_to}

abbrev variable_named : ℕ → Sort → Variable
variable_named n s = record { number = n; sort = s }

-- the first of the named variables, and those behind it
abbrev pub first_named : Meaning → List ℕ → Tree Variable
first_named c [] = Var (typed_variable c.sorts 0)
first_named c (v ∷ vs) = Var (typed_variable c.sorts v)

abbrev pub rest_named : List ℕ → List ℕ
rest_named [] = []
rest_named (v ∷ vs) = vs

-- what these variables become: those of the atoms by the images, and the others the named variables in order
abbrev pub placed : (Variable → Tree Variable) → Meaning → Meaning → List ℕ → List ℕ → List (Tree Variable)
placed f n c [] vs = []
placed f n c (x ∷ xs) vs = if is_in (variables_in n.body) x then f (typed_variable n.sorts x) ∷ placed f n c xs vs else first_named c vs ∷ placed f n c xs (rest_named vs)

-- ---- a loop's turn
module _ (f : Variable → Tree Variable) (n c : Meaning) (i : ℕ) (within : i < length n.sorts) where
  abbrev rest : List ℕ
  rest = numbers_from (suc (i + 1)) (drop (i + 1) n.sorts)

  pub placed_inner : (vs : List ℕ) → is_in (variables_in n.body) (suc i) ≡ true → placed f n c (numbers_from (suc i) (drop i n.sorts)) vs ≡ f (typed_variable n.sorts (suc i)) ∷ placed f n c rest vs
  placed_inner vs e =
      ap (λ (xs : List ℕ). placed f n c xs vs) (numbers_here n.sorts i within)
      ∙ ap (λ (b : Bool). if b then f (typed_variable n.sorts (suc i)) ∷ placed f n c rest vs else first_named c vs ∷ placed f n c rest (rest_named vs)) e

  pub placed_outer : (with : List ℕ) (j d : ℕ) → j < length with → is_in (variables_in n.body) (suc i) ≡ false
      → placed f n c (numbers_from (suc i) (drop i n.sorts)) (drop j with) ≡ Var (typed_variable c.sorts (get_or with j d)) ∷ placed f n c rest (drop (j + 1) with)
  placed_outer with j d inside e =
      ap (λ (xs : List ℕ). placed f n c xs (drop j with)) (numbers_here n.sorts i within)
      ∙ ap (λ (b : Bool). if b then f (typed_variable n.sorts (suc i)) ∷ placed f n c rest (drop j with) else first_named c (drop j with) ∷ placed f n c rest (rest_named (drop j with))) e
      ∙ ap (λ (vs : List ℕ). first_named c vs ∷ placed f n c rest (rest_named vs)) (drop-cons with j d inside)
      ∙ ap (λ (k : ℕ). Var (typed_variable c.sorts (get_or with j d)) ∷ placed f n c rest (drop k with)) (sym (add-one j))

pub made_more : (old new : List (Tree Variable)) (terms more : List ℕ) (t : ℕ) (tree : Tree Variable) (rest all : List (Tree Variable))
    → AreIn old terms → Keeps old new → HasTree new t tree → more ≡ terms ++ t ∷ [] → trees_at old terms ++ tree ∷ rest ≡ all → trees_at new more ++ rest ≡ all
made_more old new terms more t tree rest all inside keeps has is h =
    ap (λ (ts : List ℕ). trees_at new ts ++ rest) is
    ∙ ap (λ (ts : List (Tree Variable)). ts ++ rest) (trees_at_push new terms t ∙ ap (λ (x : Tree Variable). trees_at new terms ++ x ∷ []) has.is ∙ ap (λ (ts : List (Tree Variable)). ts ++ tree ∷ []) (keeps_all old new keeps terms inside))
    ∙ append_assoc (trees_at old terms) (tree ∷ []) rest
    ∙ h

pub inside_more : (old new : List (Tree Variable)) (terms more : List ℕ) (t : ℕ) (tree : Tree Variable) → AreIn old terms → Keeps old new → HasTree new t tree → more ≡ terms ++ t ∷ [] → AreIn new more
inside_more old new terms more t tree inside keeps has is =
    let P : List ℕ → Type 0 = AreIn new in subst P (sym is) (are_in_push new terms t (keeps_in old new keeps terms inside) has.within)

no_more : {A : Type 0} (xs : List A) → xs ++ [] ≡ xs
no_more [] = refl
no_more {A} (x ∷ xs) = ap (λ (v : List A). x ∷ v) (no_more xs)

pub placed_end : (f : Variable → Tree Variable) (n c : Meaning) (trees all : List (Tree Variable)) (vs : List ℕ) (i : ℕ) → length n.sorts ≤ i → trees ++ placed f n c (numbers_from (suc i) (drop i n.sorts)) vs ≡ all → trees ≡ all
placed_end f n c trees all vs i end h =
    sym (no_more trees) ∙ ap (λ (ss : List Sort). trees ++ placed f n c (numbers_from (suc i) ss) vs) (sym (drop_all i n.sorts end)) ∙ h

-- ---- the numbers of the variables
numbers_above : (k : ℕ) (sorts : List Sort) (x : ℕ) → Among x (numbers_from k sorts) → k ≤ x
numbers_above k [] x m = elim m [ ]
numbers_above k (s ∷ ss) x m = among_cases m (λ q. omega (arith, q)) (λ a. let h = numbers_above (suc k) ss x a in omega (arith, h))

pub length_numbers : (k : ℕ) (sorts : List Sort) → length (numbers_from k sorts) ≡ length sorts
length_numbers k [] = refl
length_numbers k (s ∷ ss) = ap suc (length_numbers (suc k) ss)

length_placed : (f : Variable → Tree Variable) (n c : Meaning) (xs vs : List ℕ) → length (placed f n c xs vs) ≡ length xs
length_placed f n c [] vs = refl
length_placed f n c (x ∷ xs) vs = by (is_in (variables_in n.body) x) (λ ws. length_placed f n c xs ws)
  where
    by : (b : Bool) → ((ws : List ℕ) → length (placed f n c xs ws) ≡ length xs)
        → length (if b then f (typed_variable n.sorts x) ∷ placed f n c xs vs else first_named c vs ∷ placed f n c xs (rest_named vs)) ≡ suc (length xs)
    by true h = ap suc (h vs)
    by false h = ap suc (h (rest_named vs))

-- the x-th of what is made of each
mapped_there : {B : Type 0} (g : ℕ → B) (k : ℕ) (sorts : List Sort) (i : ℕ) (d : B) → i < length sorts → slice_index_or (map g (numbers_from k sorts)) i d ≡ g (k + i)
mapped_there g k [] i d w = absurd (omega arith)
mapped_there {B} g k (s ∷ ss) zero d w = ap g (omega arith)
mapped_there {B} g k (s ∷ ss) (suc i) d w =
    let e : suc k + i ≡ k + suc i = omega arith in
    mapped_there g (suc k) ss i d (omega arith) ∙ ap g e

tree_there : (store : List (Tree Variable)) (terms : List ℕ) (i d : ℕ) (e : Tree Variable) → i < length terms → tree_at store (slice_index_or terms i d) ≡ slice_index_or (trees_at store terms) i e
tree_there store [] i d e w = absurd (omega arith)
tree_there store (t ∷ ts) zero d e w = refl
tree_there store (t ∷ ts) (suc i) d e w = tree_there store ts i d e (omega arith)

-- ---- the images by the bindings
module _ (n c : Meaning) (bs : List Binding) where
  skips : (xs vs : List ℕ) (v : Variable) → ¬ Among v.number xs → image_at_once (named_bindings n c xs vs ++ bs) v ≡ image_at_once bs v
  skips [] vs v h = refl
  skips (x ∷ xs) [] v h = refl
  skips (x ∷ xs) (y ∷ ys) v h = by (same_variable (typed_variable n.sorts x) v) refl (skips xs ys v (λ m. h (next m)))
    where
      by : (b : Bool) → same_variable (typed_variable n.sorts x) v ≡ b → image_at_once (named_bindings n c xs ys ++ bs) v ≡ image_at_once bs v
          → (if b then Var (typed_variable c.sorts y) else image_at_once (named_bindings n c xs ys ++ bs) v) ≡ image_at_once bs v
      by true e again =
          let q : x ≡ v.number = ap (λ (z : Variable). z.number) (same_is (typed_variable n.sorts x) v e) in
          absurd (h (subst (λ z. Among z (x ∷ xs)) q first))
      by false e again = again

  abbrev outer_of : ℕ → List Sort → List ℕ
  outer_of k ss = filter (is_outer n) (numbers_from k ss)

  abbrev image_of : List ℕ → List ℕ → ℕ → Tree Variable
  image_of xs vs x = image_at_once (named_bindings n c xs vs ++ bs) (typed_variable n.sorts x)

  -- variables that are another one than the first that is named
  behind : (x v : ℕ) (xs vs ys : List ℕ) → ((y : ℕ) → Among y ys → x < y) → map (image_of xs vs) ys ≡ map (image_of (x ∷ xs) (v ∷ vs)) ys
  behind x v xs vs [] h = refl
  behind x v xs vs (y ∷ ys) h =
      let a = one (same_variable (typed_variable n.sorts x) (typed_variable n.sorts y)) refl in
      let b = behind x v xs vs ys (λ z m. h z (next m)) in
      cc
    where
      one : (b : Bool) → same_variable (typed_variable n.sorts x) (typed_variable n.sorts y) ≡ b → image_of xs vs y ≡ (if b then Var (typed_variable c.sorts v) else image_of xs vs y)
      one true e =
          let q : x ≡ y = ap (λ (z : Variable). z.number) (same_is (typed_variable n.sorts x) (typed_variable n.sorts y) e) in
          let l = h y first in
          absurd (omega (arith, q, l))
      one false e = refl

  module _ (f : Variable → Tree Variable) (are : (v : Variable) → f v ≡ image_at_once bs v) where
    step : (k : ℕ) (F more : List ℕ) → ((y : ℕ) → Among y more → k < y) → ¬ Among k F → (b : Bool) → (vs : List ℕ) → length vs ≡ length (if not b then k ∷ F else F)
        → ((ws : List ℕ) → length ws ≡ length F → placed f n c more ws ≡ map (image_of F ws) more)
        → (if b then f (typed_variable n.sorts k) ∷ placed f n c more vs else first_named c vs ∷ placed f n c more (rest_named vs)) ≡ map (image_of (if not b then k ∷ F else F) vs) (k ∷ more)
    step k F more above not_there true vs e again =
        let a = are (typed_variable n.sorts k) ∙ sym (skips F vs (typed_variable n.sorts k) not_there) in
        let b = again vs e in
        cc
    step k F more above not_there false [] e again = absurd (cc)
    step k F more above not_there false (v ∷ vs) e again =
        let t = same_itself (typed_variable n.sorts k) in
        let a : Var (typed_variable c.sorts v) ≡ image_of (k ∷ F) (v ∷ vs) k = sym (ap (λ (b : Bool). if b then Var (typed_variable c.sorts v) else image_of F vs k) t) in
        let b = again vs (omega (arith, e)) ∙ behind k v F vs more above in
        cc

    pub placed_is : (k : ℕ) (ss : List Sort) (vs : List ℕ) → length vs ≡ length (outer_of k ss) → placed f n c (numbers_from k ss) vs ≡ map (image_of (outer_of k ss) vs) (numbers_from k ss)
    placed_is k [] vs e = refl
    placed_is k (s ∷ ss) vs e =
        let above : (y : ℕ) → Among y (numbers_from (suc k) ss) → k < y = λ y m. let h = numbers_above (suc k) ss y m in omega (arith, h) in
        let not_there : ¬ Among k (outer_of (suc k) ss) = λ m. let h = above k (filter_out (is_outer n) (numbers_from (suc k) ss) k m).0 in absurd (omega (arith, h)) in
        step k (outer_of (suc k) ss) (numbers_from (suc k) ss) above not_there (is_in (variables_in n.body) k) vs e (λ ws l. placed_is (suc k) ss ws l)

-- ---- the variables of the images
named_each : (c : Meaning) (place : ℕ) (vs : List ℕ) → first_no_number c place vs ≡ None → (v : ℕ) → Among v vs → is_number_of c v ≡ true
named_each c place [] e v m = elim m [ ]
named_each c place (w ∷ vs) e v m = by (is_number_of c w) refl e (λ k a. named_each c (suc place) vs k v a)
  where
    by : (b : Bool) → is_number_of c w ≡ b → (if b then first_no_number c (suc place) vs else Some place) ≡ None → (first_no_number c (suc place) vs ≡ None → Among v vs → is_number_of c v ≡ true) → is_number_of c v ≡ true
    by true i e again = among_cases m (λ q. ap (is_number_of c) q ∙ i) (λ a. again e a)
    by false i e again = absurd (cc)

named_all : (n c : Meaning) (with : List ℕ) (b : Bool) → nat_eq (length with) (length (outer_variables n)) ≡ b → (if b then first_no_number c 1 with else Some 0) ≡ None → (length with ≡ length (outer_variables n)) × (first_no_number c 1 with ≡ None)
named_all n c with true e k = (eqb-true (length with) (length (outer_variables n)) e, k)
named_all n c with false e k = absurd (cc)

pub named_are : (n c : Meaning) (with : List ℕ) → bad_with n c with ≡ None → (length with ≡ length (outer_variables n)) × (first_no_number c 1 with ≡ None)
named_are n c with h = named_all n c with (nat_eq (length with) (length (outer_variables n))) refl h

numbered_sort : (c : Meaning) (v : ℕ) → is_number_of c v ≡ true → HasSort c.sorts (typed_variable c.sorts v)
numbered_sort c v e =
    let r = both (in_range (length c.sorts) v) (is_num (sort_in c.sorts v)) e in
    let p = both (nat_lt 0 v) (nat_le v (length c.sorts)) r.0 in
    record { positive = ltb-true 0 v p.0; within = leb-true v (length c.sorts) p.1; sort = refl }

index_either : (d : Tree ℕ) (xs : List (Tree ℕ)) (i y : ℕ) → Among y (variables (slice_index_or xs i d)) → Among y (variables d) ⊎ Among y (variables_in xs)
index_either d [] i y m = inl m
index_either d (x ∷ xs) zero y m = inr (among_front y (variables x) (variables_in xs) m)
index_either d (x ∷ xs) (suc i) y m = elim (index_either d xs i y m) [ inl a ↦ inl a | inr b ↦ inr (among_back y (variables x) (variables_in xs) b) ]

chosen_either : (d : Tree ℕ) (xs : List (Tree ℕ)) (ps : List ℕ) (y : ℕ) → Among y (variables_in (at_positions d xs ps)) → Among y (variables d) ⊎ Among y (variables_in xs)
chosen_either d xs [] y m = elim m [ ]
chosen_either d xs (p ∷ ps) y m = elim (among_either y (variables (slice_index_or xs (p - 1) d)) (variables_in (at_positions d xs ps)) m) [
  | inl a ↦ index_either d xs (p - 1) y a
  | inr b ↦ chosen_either d xs ps y b
]

placed_sorted : (f : Variable → Tree Variable) (n c : Meaning) → ((x : ℕ) → Among x (variables_in n.body) → (w : Variable) → Among w (variables (f (typed_variable n.sorts x))) → HasSort c.sorts w)
    → (xs vs : List ℕ) → length vs ≡ length (filter (is_outer n) xs) → ((v : ℕ) → Among v vs → HasSort c.sorts (typed_variable c.sorts v)) → (w : Variable) → Among w (variables_in (placed f n c xs vs)) → HasSort c.sorts w
placed_sorted f n c inner [] vs l named w m = elim m [ ]
placed_sorted f n c inner (x ∷ xs) vs l named w m = by (is_in (variables_in n.body) x) refl vs l named m (λ ws k a. placed_sorted f n c inner xs ws k a w)
  where
    by : (b : Bool) → is_in (variables_in n.body) x ≡ b → (vs : List ℕ) → length vs ≡ length (if not b then x ∷ filter (is_outer n) xs else filter (is_outer n) xs) → ((v : ℕ) → Among v vs → HasSort c.sorts (typed_variable c.sorts v))
        → Among w (variables_in (if b then f (typed_variable n.sorts x) ∷ placed f n c xs vs else first_named c vs ∷ placed f n c xs (rest_named vs)))
        → ((ws : List ℕ) → length ws ≡ length (filter (is_outer n) xs) → ((v : ℕ) → Among v ws → HasSort c.sorts (typed_variable c.sorts v)) → Among w (variables_in (placed f n c xs ws)) → HasSort c.sorts w)
        → HasSort c.sorts w
    by true i vs l named m again = elim (among_either w (variables (f (typed_variable n.sorts x))) (variables_in (placed f n c xs vs)) m) [
      | inl a ↦ inner x (found_among nat_eq number_equality x (variables_in n.body) i) w a
      | inr b ↦ again vs l named b
    ]
    by false i [] l named m again = absurd (cc)
    by false i (v ∷ vs) l named m again = elim (among_either w (variables (Var (typed_variable c.sorts v))) (variables_in (placed f n c xs vs)) m) [
      | inl a ↦ among_cases (subst (λ (us : List Variable). Among w us) (variables_var (typed_variable c.sorts v)) a) (λ q. subst (HasSort c.sorts) (sym q) (named v first)) (λ k. elim k [ ])
      | inr b ↦ again vs (omega (arith, l)) (λ u k. named u (next k)) b
    ]

-- ---- two stored clauses, and what was matched
module _ (store scratch new : List (Tree Variable)) (n c : Clause) (definition : IsStored store n) (clause : IsStored store c) (s : Subst) (positions with terms : List ℕ)
    (m : IsMatched scratch s (clause_in store n) (clause_in store c) positions) (named : bad_with (clause_in store n) (clause_in store c) with ≡ None)
    (inside : AreIn new terms) (made : trees_at new terms ≡ placed (images scratch s) (clause_in store n) (clause_in store c) (all_variables (clause_in store n)) with) where
  abbrev N : Meaning
  N = clause_in store n

  abbrev C : Meaning
  C = clause_in store c

  abbrev atoms : List (Tree ℕ)
  atoms = at_positions C.head C.body positions

  is_matching : IsMatching (typed_all N.sorts N.body) (typed_all C.sorts atoms) (image_at_once m.bindings)
  unfolding matched_atoms
  is_matching = matched_is (typed_all N.sorts N.body) (typed_all C.sorts atoms) m.bindings m.matched

  atom_numbered : (y : ℕ) → Among y (variables_in atoms) → HasSort C.sorts (typed_variable C.sorts y)
  atom_numbered y a =
      let h : IsNumber (length c.sorts) y = elim (chosen_either C.head C.body positions y a) [
        | inl k ↦ all_each (IsNumber (length c.sorts)) (variables (atom_at store c.head)) (head_numbered store c clause) y k
        | inr k ↦ all_each (IsNumber (length c.sorts)) (variables_in (atoms_at store c.atoms)) (atoms_numbered store c clause c.atoms refl) y k
      ] in
      record { positive = h.0; within = h.1; sort = refl }

  inner_sorted : (x : ℕ) → Among x (variables_in N.body) → (w : Variable) → Among w (variables (images scratch s (typed_variable N.sorts x))) → HasSort C.sorts w
  inner_sorted x a w k =
      let p : Among (typed_variable N.sorts x) (variables_in (typed_all N.sorts N.body)) = subst (λ (vs : List Variable). Among (typed_variable N.sorts x) vs) (sym (all_variables_mapped (typed_variable N.sorts) N.body)) (among_mapped (typed_variable N.sorts) a) in
      let j = subst (λ (t : Tree Variable). Among w (variables t)) (m.are (typed_variable N.sorts x)) k in
      let t = all_goes_to (image_at_once m.bindings) (typed_variable N.sorts x) w (typed_all N.sorts N.body) p j in
      let u : Among w (map (typed_variable C.sorts) (variables_in atoms)) = subst (λ (vs : List Variable). Among w vs) (ap (λ (ts : List (Tree Variable)). variables_in ts) is_matching.is ∙ all_variables_mapped (typed_variable C.sorts) atoms) t in
      mapped_out (typed_variable C.sorts) (variables_in atoms) (HasSort C.sorts) atom_numbered w u

  counts : (length with ≡ length (outer_variables N)) × (first_no_number C 1 with ≡ None)
  counts = named_are N C with named

  pub are_images : AreImages new terms (length n.sorts) c.sorts
  are_images = record {
    within = inside;
    count = sym (length_trees_at new terms) ∙ ap length made ∙ length_placed (images scratch s) N C (all_variables N) with ∙ length_numbers 1 n.sorts;
    sorted = subst (λ (ts : List (Tree Variable)). All (HasSort c.sorts) (variables_in ts)) (sym made)
        (each_all (HasSort c.sorts) (variables_in (placed (images scratch s) N C (all_variables N) with))
        (placed_sorted (images scratch s) N C inner_sorted (all_variables N) with counts.0 (λ v a. numbered_sort C v (named_each C 1 with counts.1 v a))));
  }

  one_becomes : (x : ℕ) → IsNumber (length terms) x → image_by new terms x ≡ image_in N (all_bindings N C with m.bindings) x
  one_becomes zero h = absurd (let p = h.0 in omega (arith, p))
  one_becomes (suc i) h =
      let below : i < length terms = let w = h.1 in omega (arith, w) in
      let count = are_images.count in
      let d : Tree Variable = Var (variable_named 0 Any) in
      let e : 1 + i ≡ suc i = omega arith in
      ap (mapped number_of) (
      tree_there new terms i 0 d below
      ∙ ap (λ (ts : List (Tree Variable)). slice_index_or ts i d) (made ∙ placed_is N C m.bindings (images scratch s) m.are 1 n.sorts with counts.0)
      ∙ mapped_there (image_of N C m.bindings (outer_variables N) with) 1 n.sorts i d (omega (arith, below, count))
      ∙ ap (image_of N C m.bindings (outer_variables N) with) e
      )

  pub becomes : Become new terms (image_in N (all_bindings N C with m.bindings))
  becomes = record { each = one_becomes }

-- ---- a turn of the loop, with what it made
pub record Turn (first old new : List (Tree Variable)) (f : Variable → Tree Variable) (n c : Meaning) (terms more with : List ℕ) (i j k : ℕ) : Type 0 where
  pub keeps : Keeps first new
  pub inside : AreIn new more
  pub made : trees_at new more ++ placed f n c (numbers_from (suc (i + 1)) (drop (i + 1) n.sorts)) (drop k with) ≡ placed f n c (all_variables n) with
  pub left : k + length (filter (is_outer n) (numbers_from (suc (i + 1)) (drop (i + 1) n.sorts))) ≡ length with

module _ (first old new : List (Tree Variable)) (f : Variable → Tree Variable) (n c : Meaning) (terms more with : List ℕ) (i j k t : ℕ) (within : i < length n.sorts)
    (keeps : Keeps first old) (inside : AreIn old terms)
    (made : trees_at old terms ++ placed f n c (numbers_from (suc i) (drop i n.sorts)) (drop j with) ≡ placed f n c (all_variables n) with)
    (left : j + length (filter (is_outer n) (numbers_from (suc i) (drop i n.sorts))) ≡ length with) (later : Keeps old new) (is : more ≡ terms ++ t ∷ []) where
  pub inner_turn : is_in (variables_in n.body) (suc i) ≡ true → k ≡ j → HasTree new t (f (typed_variable n.sorts (suc i))) → Turn first old new f n c terms more with i j k
  inner_turn e same has = record {
    keeps = keeps_trans first old new keeps later;
    inside = inside_more old new terms more t (f (typed_variable n.sorts (suc i))) inside later has is;
    made = ap (λ (m : ℕ). trees_at new more ++ placed f n c (rest f n c i within) (drop m with)) same
        ∙ made_more old new terms more t (f (typed_variable n.sorts (suc i))) (placed f n c (rest f n c i within) (drop j with)) (placed f n c (all_variables n) with) inside later has is
        (ap (λ (ts : List (Tree Variable)). trees_at old terms ++ ts) (sym (placed_inner f n c i within (drop j with) e)) ∙ made);
    left = let o = outer_next n n.sorts i within e in omega (arith, o, same, left);
  }

  pub outer_turn : is_in (variables_in n.body) (suc i) ≡ false → k ≡ j + 1 → j < length with → (d : ℕ) → HasTree new t (Var (typed_variable c.sorts (get_or with j d))) → Turn first old new f n c terms more with i j k
  outer_turn e same below d has = record {
    keeps = keeps_trans first old new keeps later;
    inside = inside_more old new terms more t (Var (typed_variable c.sorts (get_or with j d))) inside later has is;
    made = ap (λ (m : ℕ). trees_at new more ++ placed f n c (rest f n c i within) (drop m with)) same
        ∙ made_more old new terms more t (Var (typed_variable c.sorts (get_or with j d))) (placed f n c (rest f n c i within) (drop (j + 1) with)) (placed f n c (all_variables n) with) inside later has is
        (ap (λ (ts : List (Tree Variable)). trees_at old terms ++ ts) (sym (placed_outer f n c i within with j d below e)) ∙ made);
    left = let o = outer_here n n.sorts i within e in omega (arith, o, same, left);
  }

pub typed_here : (sorts given : List Sort) (m n : ℕ) (sort : Sort) → given ≡ sorts → sort ≡ sort_in given m → m ≡ n → variable_named m sort ≡ typed_variable sorts n
typed_here sorts given m n sort g is e = ap (variable_named m) (is ∙ ap (λ (ss : List Sort). sort_in ss m) g) ∙ ap (typed_variable sorts) e
