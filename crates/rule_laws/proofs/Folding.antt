-- A folding meets what the rank asks of it.
use Rattle.std.proofs.Common.{◌≡◌, ℕ, suc, ◌*◌, ◌<◌, List, [], ◌∷◌, ◌++◌, length, Bool, true, false, refl, sym, ◌∙◌, ap, subst, eq-eqb, map, ◌⊎◌, inl, inr}
use Rattle.std.specs.Prelude.{nat_eq, if◌then◌else◌, All, Contains, Option, Some, None}
use Rattle.std.specs.List.{AllByRecursion}
use Rattle.std.proofs.lemmas.Bool.{eqb-true}
use Rattle.std.proofs.lemmas.List.Elements.{All-nil}
use Rattle.std.proofs.Math.IntN.{ℤ, pos, ◌*ℤ◌, *ℤ_comm, pos-*ℤ-pos}
use Rattle.std.proofs.Math.Nat.{mul_comm}
use Rattle.clp_rationals.proofs.Whole.{mul_assoc_ℤ}
use Rattle.clp_rationals.proofs.Lowest.{cancel_ℤ}
use Rattle.clp_model.specs.declared.sort.Sort.{Sort}
use Rattle.clp_model.specs.declared.sort.Sort.TheVariants.{Any, Num}
use Rattle.clp_model.specs.declared.tree.Tree.{Tree, Var, App', Row_of-Tree, end_of-Tree, more_of-Tree, items-the_row-Tree}
use Rattle.clp_model.specs.declared.predicate.Pred.{Pred}
use Rattle.clp_model.specs.Predicates.{predicate_of, ground_predicate}
use Rattle.clp_model.specs.Trees.{variables, variables_in_row, variables_in, IsApplication, name_of, arguments_of}
use Rattle.clp_model.specs.Values.{GroundAtom, Value, Named, Valuation, variable_value, number_over, value_of, row_values, atom_of}
use Rattle.clp_model.specs.Clauses.{Clause, Row, Instance, EquationHolds, RowHolds, sort_in, ground_of}
use Rattle.clp_model.proofs.Membership.{Among, first, next, to_among, from_among, among_front, among_back, among_either}
use Rattle.linear_laws.proofs.Lists.{mapped_out}
use Rattle.linear_laws.proofs.Refining.{positive_product}
use Rattle.unify_model.specs.Substituting.{substituted, substituted_row}
use Rattle.unify_laws.proofs.Solved.{among_cases}
use Rattle.unify_laws.proofs.Scaling.{same_value, cross_of_same}
use Rattle.unify_laws.proofs.Apart.{named_values, and_value, and_rest}
use Rattle.clp_rank.specs.Rules.{Removed, here, later, Taken, nothing, taking, Folded, Unfolded, Folds}
use Rattle.clp_rank.specs.Entries.{Entry, setting}
use Rattle.clause_model.specs.Variables.{row_variables, rows_variables}
use Rattle.clause_model.specs.Canonical.{canonical_form}
use Rattle.clause_laws.proofs.Rows.{all_each, each_all, renamed_holds, among_rows}
use Rattle.clause_laws.proofs.Numbering.{canonical_form_keeps_instances}
use Rattle.clause_laws.proofs.Distinct.{among_or_not}
use Rattle.clause_laws.proofs.Upto.{number_equality}
use Rattle.rule_laws.specs.Steps.{IsHeld}
use Rattle.rule_laws.specs.Folding.{is_among, defined_in, RespectsSorts, IsInternal, IsFolded, IsFolding}
use Rattle.fold_model.specs.Folded.{image_row}
use Rattle.fold_model.specs.Internal.{number_in}
use Rattle.rule_laws.proofs.Joint.{scaled_row}
use Rattle.rule_laws.proofs.Unfolding.{same_value_of, same_grounds, same_named, none_hold}
use Rattle.rule_laws.proofs.Predicates.{grounds_predicate}

-- ---- the value of a tree under a substitution
module _ (f g : ℕ → Sort) (u w : Valuation) (s : ℕ → Tree ℕ) where
  mutual
    unfolding value_of substituted variables

    pub value_of_image : (t : Tree ℕ) → ((x : ℕ) → Among x (variables t) → value_of f u (s x) ≡ variable_value w x (g x)) → value_of f u (substituted s t) ≡ value_of g w t
    value_of_image (Var x) h = h x first
    value_of_image (App' name shape args) h = ap (Named name) (row_of_image args h)

    row_of_image : {m : _} (ts : Row_of-Tree ℕ m) → ((x : ℕ) → Among x (variables_in_row ts) → value_of f u (s x) ≡ variable_value w x (g x)) → row_values f u (substituted_row s ts) ≡ row_values g w ts
    row_of_image end_of-Tree h = refl
    row_of_image (more_of-Tree t ts) h =
        let a = value_of_image t (λ x m. h x (among_front x (variables t) (variables_in_row ts) m)) in
        let b = row_of_image ts (λ x m. h x (among_back x (variables t) (variables_in_row ts) m)) in
        cc

  -- and back: equal values give each variable the value of its image
  mutual
    unfolding value_of substituted variables

    pub image_of_value : (t : Tree ℕ) → value_of f u (substituted s t) ≡ value_of g w t → (x : ℕ) → Among x (variables t) → value_of f u (s x) ≡ variable_value w x (g x)
    image_of_value (Var y) e x a = among_cases a (λ q. ap (λ z. value_of f u (s z)) q ∙ (e ∙ sym (ap (λ z. variable_value w z (g z)) q))) (λ k. elim k [ ])
    image_of_value (App' name shape args) e x a = image_of_row args (named_values e) x a

    image_of_row : {m : _} (ts : Row_of-Tree ℕ m) → row_values f u (substituted_row s ts) ≡ row_values g w ts → (x : ℕ) → Among x (variables_in_row ts) → value_of f u (s x) ≡ variable_value w x (g x)
    image_of_row end_of-Tree e x a = elim a [ ]
    image_of_row (more_of-Tree t ts) e x a = elim (among_either x (variables t) (variables_in_row ts) a) [
      | inl b ↦ image_of_value t (and_value e) x b
      | inr b ↦ image_of_row ts (and_rest e) x b
    ]

  pub grounds_of_images : (ts : List (Tree ℕ)) → ((x : ℕ) → Among x (variables_in ts) → value_of f u (s x) ≡ variable_value w x (g x)) → map (λ t. atom_of (value_of f u t)) (map (substituted s) ts) ≡ map (λ t. atom_of (value_of g w t)) ts
  grounds_of_images [] h = refl
  grounds_of_images (t ∷ ts) h =
      let a = ap atom_of (value_of_image t (λ x m. h x (among_front x (variables t) (variables_in ts) m))) in
      let b = grounds_of_images ts (λ x m. h x (among_back x (variables t) (variables_in ts) m)) in
      cc

-- ---- the predicate of a tree under a substitution
abbrev of_arity : List ℕ → ℕ → Pred
of_arity name n = record { name = name; arity = n }

module _ (s : ℕ → Tree ℕ) where
  lengths : {m : _} (ts : Row_of-Tree ℕ m) → length (items-the_row-Tree ℕ m (substituted_row s ts)) ≡ length (items-the_row-Tree ℕ m ts)
  unfolding substituted
  lengths end_of-Tree = refl
  lengths (more_of-Tree t ts) = ap suc (lengths ts)

  applies_still : (t : Tree ℕ) → IsApplication t → IsApplication (substituted s t)
  unfolding IsApplication substituted
  applies_still (Var x) q = absurd q
  applies_still (App' name shape args) q = tt

  same_predicate_of : (t : Tree ℕ) → IsApplication t → predicate_of (substituted s t) ≡ predicate_of t
  unfolding IsApplication substituted name_of arguments_of
  same_predicate_of (Var x) q = absurd q
  same_predicate_of (App' name shape args) q = ap (of_arity name) (lengths args)

-- ---- places taken out of a list, and a place put in
removed_mapped : {A B : Type 0} (g : A → B) {x : A} {xs ys : List A} → Removed x xs ys → Removed (g x) (map g xs) (map g ys)
removed_mapped g here = here
removed_mapped g (later r) = later (removed_mapped g r)

pub taken_mapped : {A B : Type 0} (g : A → B) {xs fs rest : List A} → Taken xs fs rest → Taken (map g xs) (map g fs) (map g rest)
taken_mapped g nothing = nothing
taken_mapped g (taking r t) = taking (removed_mapped g r) (taken_mapped g t)

-- ---- the definition's instance under the images
module _ (c n : Clause) (s : ℕ → Tree ℕ) (respects : RespectsSorts n c s) where
  -- the variables of n by the values of their images
  abbrev pub imaged : Valuation → Valuation
  imaged u = record { whole = u.whole; positive = u.positive; number = λ x. u.number (number_in (s x)); value = λ x. value_of (sort_in c.sorts) u (s x) }

  pub imaged_value : (u : Valuation) (x : ℕ) → value_of (sort_in c.sorts) u (s x) ≡ variable_value (imaged u) x (sort_in n.sorts x)
  unfolding value_of
  imaged_value u x = by (sort_in n.sorts x) refl
    where
      by : (k : Sort) → sort_in n.sorts x ≡ k → value_of (sort_in c.sorts) u (s x) ≡ variable_value (imaged u) x k
      by Any e = refl
      by Num e =
          let r = respects x e in
          ap (value_of (sort_in c.sorts) u) r.1 ∙ (ap (variable_value u r.0) r.2
          ∙ sym (ap (λ (t : Tree ℕ). number_over (u.number (number_in t)) u.whole u.positive) r.1))

-- ---- u, but with what w gives the internal variables of n for their images
module _ (c n : Clause) (s : ℕ → Tree ℕ) (u w : Valuation) where
  abbrev image : ℕ → ℕ
  image x = number_in (s x)

  -- the first of these variables whose image is z
  abbrev find : List ℕ → ℕ → Option ℕ
  find [] z = None
  find (x ∷ xs) z = if nat_eq (image x) z then Some x else find xs z

  abbrev number_by : Option ℕ → ℕ → ℤ
  number_by None z = u.number z *ℤ pos w.whole
  number_by (Some x) z = w.number x *ℤ pos u.whole

  abbrev value_at : Option ℕ → ℕ → Value
  value_at None z = u.value z
  value_at (Some x) z = w.value x

  abbrev exchanged : List ℕ → Valuation
  exchanged xs = record {
    whole = u.whole * w.whole;
    positive = positive_product u.whole w.whole u.positive w.positive;
    number = λ z. number_by (find xs z) z;
    value = λ z. value_at (find xs z) z;
  }

  find_none : (xs : List ℕ) (z : ℕ) → ((x : ℕ) → Among x xs → ¬ (image x ≡ z)) → find xs z ≡ None
  find_none [] z h = refl
  find_none (x ∷ xs) z h = by (nat_eq (image x) z) refl (find_none xs z (λ y m. h y (next m)))
    where
      by : (b : Bool) → nat_eq (image x) z ≡ b → find xs z ≡ None → (if b then Some x else find xs z) ≡ None
      by true e i = absurd (h x first (eqb-true (image x) z e))
      by false e i = i

  find_some : (xs : List ℕ) (x : ℕ) → Among x xs → ((y : ℕ) → Among y xs → image y ≡ image x → y ≡ x) → find xs (image x) ≡ Some x
  find_some [] x a h = elim a [ ]
  find_some (y ∷ xs) x a h = by (nat_eq (image y) (image x)) refl (λ m. find_some xs x m (λ z k. h z (next k)))
    where
      by : (b : Bool) → nat_eq (image y) (image x) ≡ b → (Among x xs → find xs (image x) ≡ Some x) → (if b then Some y else find xs (image x)) ≡ Some x
      by true e again = ap Some (h y first (eqb-true (image y) (image x) e))
      by false e again = among_cases a (λ q. absurd (let k = eq-eqb (image y) (image x) (ap image (sym q)) in cc)) again

  -- where z is no image of these, it stands for what it stands for under u
  outside_value : (xs : List ℕ) (z : ℕ) (k : Sort) → find xs z ≡ None → variable_value (exchanged xs) z k ≡ variable_value u z k
  outside_value xs z Any e = ap (λ o. value_at o z) e
  outside_value xs z Num e =
      same_value ((exchanged xs).number z) (u.number z) (u.whole * w.whole) u.whole (exchanged xs).positive u.positive
      (ap (λ o. number_by o z *ℤ pos u.whole) e
      ∙ (mul_assoc_ℤ (u.number z) (pos w.whole) (pos u.whole)
      ∙ ap (λ y. u.number z *ℤ y) (*ℤ_comm (pos w.whole) (pos u.whole) ∙ pos-*ℤ-pos u.whole w.whole)))

  -- and the image of one of these stands for what this one stands for under w
  inside_value : (xs : List ℕ) (x : ℕ) (k : Sort) → find xs (image x) ≡ Some x → variable_value (exchanged xs) (image x) k ≡ variable_value w x k
  inside_value xs x Any e = ap (λ o. value_at o (image x)) e
  inside_value xs x Num e =
      same_value ((exchanged xs).number (image x)) (w.number x) (u.whole * w.whole) w.whole (exchanged xs).positive w.positive
      (ap (λ o. number_by o (image x) *ℤ pos w.whole) e
      ∙ (mul_assoc_ℤ (w.number x) (pos u.whole) (pos w.whole)
      ∙ ap (λ y. w.number x *ℤ y) (pos-*ℤ-pos u.whole w.whole)))

-- ---- the variables of the definition that are not in its head
abbrev all_variables : Clause → List ℕ
all_variables n = variables_in n.body ++ rows_variables n.rows

abbrev in_list : (x : ℕ) (xs : List ℕ) → Among x xs ⊎ ¬ Among x xs
in_list x xs = among_or_not nat_eq number_equality x xs

abbrev inner_of : List ℕ → List ℕ → List ℕ
inner_of head [] = []
inner_of head (x ∷ xs) = elim (in_list x head) [ inl a ↦ inner_of head xs | inr a ↦ x ∷ inner_of head xs ]

inner_in : (head xs : List ℕ) (x : ℕ) → Among x xs → ¬ Among x head → Among x (inner_of head xs)
inner_in head [] x a k = elim a [ ]
inner_in head (y ∷ xs) x a k = by (in_list y head) (λ m. inner_in head xs x m k)
  where
    by : (o : Among y head ⊎ ¬ Among y head) → (Among x xs → Among x (inner_of head xs)) → Among x (elim o [ inl a ↦ inner_of head xs | inr a ↦ y ∷ inner_of head xs ])
    by (inl b) again = again (among_cases a (λ e. absurd (k (subst (λ z. Among z head) (sym e) b))) (λ m. m))
    by (inr b) again = among_cases a (λ e. subst (λ z. Among z (y ∷ inner_of head xs)) (sym e) first) (λ m. next (again m))

inner_out : (head xs : List ℕ) (x : ℕ) → Among x (inner_of head xs) → Among x xs × ¬ Among x head
inner_out head [] x a = elim a [ ]
inner_out head (y ∷ xs) x a = by (in_list y head) a (λ m. inner_out head xs x m)
  where
    by : (o : Among y head ⊎ ¬ Among y head) → Among x (elim o [ inl a ↦ inner_of head xs | inr a ↦ y ∷ inner_of head xs ]) → (Among x (inner_of head xs) → Among x xs × ¬ Among x head) → Among x (y ∷ xs) × ¬ Among x head
    by (inl b) m again = let r = again m in (next r.0, r.1)
    by (inr b) m again = among_cases m (λ e. (subst (λ z. Among z (y ∷ xs)) (sym e) first, subst (λ z. ¬ Among z head) (sym e) b)) (λ k. let r = again k in (next r.0, r.1))

-- ---- a clause c that is folded
module _ (c n folded : Clause) (s : ℕ → Tree ℕ) (hc : IsHeld c) (hn : IsHeld n) (f : IsFolded c n folded s) where
  abbrev inner : List ℕ
  inner = inner_of (variables n.head) (all_variables n)

  is_internal : (x : ℕ) → Among x inner → IsInternal n x
  is_internal x a = let k = inner_out (variables n.head) (all_variables n) x a in (from_among k.0, λ b. k.1 (to_among (variables n.head) x b))

  internal_or_head : (x : ℕ) → Among x (all_variables n) → Among x (variables n.head) ⊎ Among x inner
  internal_or_head x a = elim (in_list x (variables n.head)) [ inl b ↦ inl b | inr b ↦ inr (inner_in (variables n.head) (all_variables n) x a b) ]

  head_applies : IsApplication n.head
  head_applies = all_each IsApplication (n.head ∷ n.body) hn.applications n.head first

  -- what the definition's atom becomes
  abbrev atom : Tree ℕ
  atom = substituted s n.head

  -- ---- forwards
  made_instance : (a : GroundAtom) (body : List GroundAtom) (t : Instance c a body) → Folded (setting (λ _. false)) (record { clause = folded; mark = true }) (record { clause = n; mark = true }) a body
  made_instance a body t =
      let u = t.valuation in
      let w = imaged c n s f.respects u in
      let g = ground_of c.sorts u in
      let same : (x : ℕ) → value_of (sort_in c.sorts) u (s x) ≡ variable_value w x (sort_in n.sorts x) = imaged_value c n s f.respects u in
      let head : g atom ≡ ground_of n.sorts w n.head = ap atom_of (value_of_image (sort_in c.sorts) (sort_in n.sorts) u w s n.head (λ x m. same x)) in
      let atoms : map g (map (substituted s) n.body) ≡ map (ground_of n.sorts w) n.body = grounds_of_images (sort_in c.sorts) (sort_in n.sorts) u w s n.body (λ x m. same x) in
      let defines : Instance n (g atom) (map g (map (substituted s) n.body)) = record {
        valuation = w;
        equations = none_hold n hn.equations w;
        rows = each_all (RowHolds w) n.rows (λ r m. (renamed_holds (λ x. number_in (s x)) u w r refl (λ x k. refl)).0 (f.entailed r (from_among m) u t.rows));
        head_is = head;
        body_is = atoms;
      } in
      let gives : Instance folded a (map g f.new_body) = subst (λ (x : Clause). Instance x a (map g f.new_body)) (sym f.is) (record {
        valuation = u;
        equations = All-nil (EquationHolds c.sorts u);
        rows = each_all (RowHolds u) f.kept (λ r m. all_each (RowHolds u) c.rows t.rows r (to_among c.rows r (f.of_rows r (from_among m))));
        head_is = t.head_is;
        body_is = refl;
      }) in
      record {
        atom = g atom;
        folded = map g (map (substituted s) n.body);
        rest = map g f.rest;
        new_body = map g f.new_body;
        takes = subst (λ xs. Taken xs (map g (map (substituted s) n.body)) (map g f.rest)) (sym t.body_is) (taken_mapped g f.taken);
        puts = removed_mapped g f.put;
        defines = defines;
        gives = gives;
      }

  -- ---- backwards: u makes the folded clause's rows hold, w those of the definition, whose head has the atom's value
  module _ (u w : Valuation) (met : value_of (sort_in c.sorts) u atom ≡ value_of (sort_in n.sorts) w n.head) where
    abbrev v : Valuation
    v = exchanged c n s u w inner

    free : (z : ℕ) → ((x : ℕ) → IsInternal n x → ¬ (number_in (s x) ≡ z)) → find c n s u w inner z ≡ None
    free z h = find_none c n s u w inner z (λ x m. h x (is_internal x m))

    own_image : (x : ℕ) → Among x inner → find c n s u w inner (number_in (s x)) ≡ Some x
    own_image x a = find_some c n s u w inner x a (λ y m e. f.internal.own y x (is_internal y m) (is_internal x a) e)

    free_value : (z : ℕ) → ((x : ℕ) → IsInternal n x → ¬ (number_in (s x) ≡ z)) → variable_value v z (sort_in c.sorts z) ≡ variable_value u z (sort_in c.sorts z)
    free_value z h = outside_value c n s u w inner z (sort_in c.sorts z) (free z h)

    -- where no variable of a tree is such an image, the tree keeps its value
    free_tree : (t : Tree ℕ) → ((x : ℕ) → IsInternal n x → ¬ Among (number_in (s x)) (variables t)) → value_of (sort_in c.sorts) v t ≡ value_of (sort_in c.sorts) u t
    free_tree t h = same_value_of c.sorts c.sorts v u t (λ z a. free_value z (λ x i e. h x i (subst (λ y. Among y (variables t)) (sym e) a)))

    -- each variable of the definition has under w what its image has under v
    image_value : (x : ℕ) → Among x (variables n.head) ⊎ Among x inner → value_of (sort_in c.sorts) v (s x) ≡ variable_value w x (sort_in n.sorts x)
    unfolding value_of
    image_value x (inl a) =
        free_tree (s x) (λ y i b. f.internal.not_in_images y x i (from_among a) (from_among b))
        ∙ image_of_value (sort_in c.sorts) (sort_in n.sorts) u w s n.head met x a
    image_value x (inr a) =
        let i = is_internal x a in
        ap (value_of (sort_in c.sorts) v) (f.internal.image x i)
        ∙ (ap (variable_value v (number_in (s x))) (f.internal.sort x i)
        ∙ inside_value c n s u w inner x (sort_in n.sorts x) (own_image x a))

    -- and a Num variable the number, both over the common denominator
    image_number : (x : ℕ) → sort_in n.sorts x ≡ Num → Among x (variables n.head) ⊎ Among x inner → v.number (number_in (s x)) ≡ w.number x *ℤ pos u.whole
    unfolding value_of
    image_number x q a =
        let r = f.respects x q in
        let e : variable_value v r.0 (sort_in c.sorts r.0) ≡ variable_value w x (sort_in n.sorts x) = ap (value_of (sort_in c.sorts) v) (sym r.1) ∙ image_value x a in
        let k : number_over (v.number r.0) v.whole v.positive ≡ number_over (w.number x) w.whole w.positive =
        ap (variable_value v r.0) (sym r.2) ∙ (e ∙ ap (variable_value w x) q) in
        let cross = cross_of_same (v.number r.0) (w.number x) v.whole w.whole v.positive w.positive k in
        let z : v.number (number_in (s x)) ≡ v.number r.0 = ap (λ (t : Tree ℕ). v.number (number_in t)) r.1 in
        z ∙ cancelled (v.number r.0) (w.number x) u.whole w.whole w.positive cross
      where
        cancelled : (p q : ℤ) (d e : ℕ) → 0 < e → p *ℤ pos e ≡ q *ℤ pos (d * e) → p ≡ q *ℤ pos d
        cancelled p q d e h x = cancel_ℤ p (q *ℤ pos d) e h (x ∙ (ap (λ z. q *ℤ z) (sym (pos-*ℤ-pos d e)) ∙ sym (mul_assoc_ℤ q (pos d) (pos e))))

    abbrev by_images : Valuation
    by_images = record { whole = v.whole; positive = v.positive; number = λ x. v.number (number_in (s x)); value = λ x. v.value (number_in (s x)) }

    known_row : (r : Row) → Among r n.rows → (x : ℕ) → Among x (row_variables r) → Among x (variables n.head) ⊎ Among x inner
    known_row r m x a = internal_or_head x (among_back x (variables_in n.body) (rows_variables n.rows) (among_rows r n.rows x m a))

    num_row : (r : Row) → Among r n.rows → (x : ℕ) → Among x (row_variables r) → sort_in n.sorts x ≡ Num
    num_row r m x a = all_each (λ i. sort_in n.sorts i ≡ Num) (rows_variables n.rows) hn.nums x (among_rows r n.rows x m a)

    definition_row : (r : Row) → Among r n.rows → RowHolds w r → RowHolds v (image_row s r)
    definition_row r m h =
        let a = renamed_holds (λ x. number_in (s x)) v by_images r refl (λ x k. refl) in
        let b = scaled_row u.whole u.positive by_images w r (mul_comm u.whole w.whole) (λ x k. image_number x (num_row r m x k) (known_row r m x k)) in
        a.1 (b.1 h)

    free_row : (r : Row) → Among r f.kept → RowHolds u r → RowHolds v r
    free_row r m h =
        (scaled_row w.whole w.positive v u r refl
        (λ z a. ap (λ o. number_by c n s u w o z) (free z (λ x i e. f.internal.not_in_rows x i (from_among (among_rows r f.kept (number_in (s x)) m (subst (λ y. Among y (row_variables r)) (sym e) a))))))).1 h

    -- the folded clause's instance under u, with the definition's under w, is an instance of c under v
    module _ (folded_rows : All (RowHolds u) f.kept) (definition_rows : All (RowHolds w) n.rows) where
      all_hold : All (RowHolds v) (f.kept ++ map (image_row s) n.rows)
      all_hold = each_all (RowHolds v) (f.kept ++ map (image_row s) n.rows) (λ r m. elim (among_either r f.kept (map (image_row s) n.rows) m) [
        | inl k ↦ free_row r k (all_each (RowHolds u) f.kept folded_rows r k)
        | inr k ↦ mapped_out (image_row s) n.rows (RowHolds v) (λ x y. definition_row x y (all_each (RowHolds w) n.rows definition_rows x y)) r k
      ])

      rows_hold : All (RowHolds v) c.rows
      rows_hold = each_all (RowHolds v) c.rows (λ r m. f.dropped r (from_among m) v all_hold)

      head_kept : ground_of c.sorts v c.head ≡ ground_of c.sorts u c.head
      head_kept = ap atom_of (free_tree c.head (λ x i a. f.internal.not_in_head x i (from_among a)))

      rest_kept : map (ground_of c.sorts v) f.rest ≡ map (ground_of c.sorts u) f.rest
      rest_kept = same_grounds c.sorts c.sorts v u f.rest (λ z a. free_value z (λ x i e. f.internal.not_in_rest x i (from_among (subst (λ y. Among y (variables_in f.rest)) (sym e) a))))

      body_met : map (ground_of c.sorts v) (map (substituted s) n.body) ≡ map (ground_of n.sorts w) n.body
      body_met = grounds_of_images (sort_in c.sorts) (sort_in n.sorts) v w s n.body (λ x a. image_value x (internal_or_head x (among_front x (variables_in n.body) (rows_variables n.rows) a)))

  abbrev shape : Clause
  shape = record { head = c.head; equations = []; rows = f.kept; body = f.new_body; sorts = c.sorts }

  -- whatever instance of the definition has the atom as its head, c has an instance with its body
  abbrev Back : Clause → GroundAtom → List GroundAtom → Type 0
  Back x a new_body = (t : Instance x a new_body) (d : List GroundAtom) → Instance n (ground_of c.sorts t.valuation atom) d → (body : List GroundAtom) × Taken body d (map (ground_of c.sorts t.valuation) f.rest) × Instance c a body

  back_shape : (a : GroundAtom) (new_body : List GroundAtom) → Back shape a new_body
  back_shape a new_body t d i =
      let u = t.valuation in
      let w = i.valuation in
      let met : value_of (sort_in c.sorts) u atom ≡ value_of (sort_in n.sorts) w n.head =
      same_named (sort_in c.sorts) (sort_in n.sorts) u w atom n.head (applies_still s n.head head_applies) head_applies i.head_is in
      let v = exchanged c n s u w inner in
      let g = ground_of c.sorts v in
      let folds : map g (map (substituted s) n.body) ≡ d = body_met u w met t.rows i.rows ∙ sym i.body_is in
      let rest : map g f.rest ≡ map (ground_of c.sorts u) f.rest = rest_kept u w met t.rows i.rows in (
        map g c.body,
        subst (λ xs. Taken (map g c.body) xs (map (ground_of c.sorts u) f.rest)) folds (subst (λ xs. Taken (map g c.body) (map g (map (substituted s) n.body)) xs) rest (taken_mapped g f.taken)),
        record { valuation = v; equations = none_hold c hc.equations v; rows = rows_hold u w met t.rows i.rows; head_is = t.head_is ∙ sym (head_kept u w met t.rows i.rows); body_is = refl },
      )

  pub back_instance : (a : GroundAtom) (new_body : List GroundAtom) → Back folded a new_body
  back_instance a new_body = subst (λ x. Back x a new_body) (sym f.is) (back_shape a new_body)

  new_body_is : (a : GroundAtom) (new_body : List GroundAtom) (t : Instance folded a new_body) → Removed (ground_of c.sorts t.valuation atom) new_body (map (ground_of c.sorts t.valuation) f.rest)
  new_body_is a new_body = subst (λ (x : Clause). (t : Instance x a new_body) → Removed (ground_of c.sorts t.valuation atom) new_body (map (ground_of c.sorts t.valuation) f.rest)) (sym f.is)
      (λ (t : Instance shape a new_body). subst (λ xs. Removed (ground_of c.sorts t.valuation atom) xs (map (ground_of c.sorts t.valuation) f.rest)) (sym t.body_is) (removed_mapped (ground_of c.sorts t.valuation) f.put))

-- ---- the record that the rank asks for
module _ (preds : List Pred) (base live live' : List Entry) (k n : Entry) (folded : Clause) (s : ℕ → Tree ℕ) (h : IsFolding preds base live live' k n folded s) where
  abbrev c : Clause
  c = k.clause

  abbrev made_entry : Entry
  made_entry = record { clause = canonical_form folded; mark = true }

  no_equations : folded.equations ≡ []
  no_equations = ap (λ (x : Clause). x.equations) h.folds.is

  forth : (a : GroundAtom) (body : List GroundAtom) → Instance c a body → Folded (setting (defined_in preds)) made_entry n a body
  forth a body t =
      let m = made_instance c n.clause folded s h.held h.definition h.folds a body t in
      let form = canonical_form_keeps_instances folded no_equations in
      record { atom = m.atom; folded = m.folded; rest = m.rest; new_body = m.new_body; takes = m.takes; puts = m.puts; defines = m.defines; gives = form.0 a m.new_body m.gives }

  -- the predicate of an instance's head is that of the clause's head
  head_predicate : (e : Clause) → IsHeld e → (a : GroundAtom) (body : List GroundAtom) → Instance e a body → ground_predicate a ≡ predicate_of e.head
  head_predicate e held a body i = ap ground_predicate i.head_is ∙ grounds_predicate (sort_in e.sorts) i.valuation e.head (all_each IsApplication (e.head ∷ e.body) held.applications e.head first)

  back : (a : GroundAtom) (new_body : List GroundAtom) → Instance (canonical_form folded) a new_body → Unfolded (setting (defined_in preds)) (Contains base) k n a new_body
  back a new_body i =
      let t = (canonical_form_keeps_instances folded no_equations).1 a new_body i in
      let g = ground_of c.sorts t.valuation in
      let atom = substituted s n.clause.head in
      let head_is : ground_predicate (g atom) ≡ predicate_of n.clause.head =
      grounds_predicate (sort_in c.sorts) t.valuation atom (applies_still s n.clause.head (all_each IsApplication (n.clause.head ∷ n.clause.body) h.definition.applications n.clause.head first))
      ∙ same_predicate_of s n.clause.head (all_each IsApplication (n.clause.head ∷ n.clause.body) h.definition.applications n.clause.head first) in
      record {
        atom = g atom;
        rest = map g h.folds.rest;
        puts = new_body_is c n.clause folded s h.held h.definition h.folds a new_body t;
        alone = λ e d l j. subst (λ (x : Entry). Instance x.clause (g atom) d) (h.only e l (sym (head_predicate e.clause (h.base_held e l) (g atom) d j) ∙ head_is)) j;
        each = λ d j. let r = back_instance c n.clause folded s h.held h.definition h.folds a new_body t d j in (r.0, r.1, r.2);
      }

  initials : (a : GroundAtom) (body : List GroundAtom) → Instance n.clause a body → (defined_in preds a ≡ true) × AllByRecursion (λ b. defined_in preds b ≡ false) body
  initials a body i = (
    ap (is_among preds) (head_predicate n.clause h.definition a body i) ∙ h.defined,
    subst (AllByRecursion (λ b. defined_in preds b ≡ false)) (sym i.body_is)
        (all_initial n.clause.body (λ t m. (all_each IsApplication (n.clause.head ∷ n.clause.body) h.definition.applications t (next m), all_each (λ t. is_among preds (predicate_of t) ≡ false) n.clause.body h.initial t m)) i.valuation),
  )
    where
      all_initial : (ts : List (Tree ℕ)) → ((t : Tree ℕ) → Among t ts → IsApplication t × (is_among preds (predicate_of t) ≡ false)) → (u : Valuation) → AllByRecursion (λ b. defined_in preds b ≡ false) (map (ground_of n.clause.sorts u) ts)
      all_initial [] q u = tt
      all_initial (t ∷ ts) q u = let p = q t first in (ap (is_among preds) (grounds_predicate (sort_in n.clause.sorts) u t p.0) ∙ p.1, all_initial ts (λ x m. q x (next m)) u)

  pub folds : Folds (setting (defined_in preds)) (Contains base) (Contains live) (Contains live') k made_entry n
  folds = record {
    was = h.was;
    marked = h.marked;
    same_mark = refl;
    now = h.now;
    in_base = h.in_base;
    initials = initials;
    kept = h.kept;
    old = h.old;
    made = forth;
    from = back;
  }
