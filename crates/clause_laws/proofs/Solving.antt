-- A clause whose equations are solved has the same instances.
use Rattle.std.proofs.Common.{◌≡◌, ◌↔◌, ℕ, zero, suc, arith, List, [], ◌∷◌, refl, sym, ap, ◌∙◌, subst, Option, Some, None, inl, inr, map}
use Rattle.std.specs.Prelude.{All}
use Rattle.std.proofs.lemmas.List.Elements.{All-nil}
use Rattle.clp_model.specs.declared.sort.Sort.{Sort}
use Rattle.clp_model.specs.declared.sort.Sort.TheVariants.{Num}
use Rattle.clp_model.specs.declared.tree.Variable.{Variable}
use Rattle.clp_model.specs.declared.tree.Tree.{Tree, Var, App', Row_of-Tree, end_of-Tree, more_of-Tree}
use Rattle.clp_model.specs.Trees.{mapped, mapped_row, variables, variables_in_row}
use Rattle.clp_model.specs.Values.{number_over, Named, Valuation, GroundAtom, value_of, row_values, variable_value, atom_of}
use Rattle.clp_model.specs.Clauses.{Row, Clause, Instance, EquationHolds, RowHolds, ground_of, sort_in}
use Rattle.clp_model.proofs.Membership.{Among, first, next, among_front, among_back, among_mapped}
use Rattle.clp_model.proofs.RenamedTrees.{variables_mapped}
use Rattle.unify_model.specs.Substituting.{substituted, Binding, image}
use Rattle.unify_model.specs.Equations.{AllHold, under, value_by, row_by}
use Rattle.unify_model.specs.Unifying.{most_general_unifier}
use Rattle.unify_model.specs.Solving.{Agrees, IsImage}
use Rattle.clause_model.specs.Variables.{rows_variables}
use Rattle.clause_laws.proofs.Rows.{all_each, each_all, renamed_holds, among_rows}
use Rattle.linear_model.specs.Changes.{renamed}
use Rattle.clause_model.specs.Solved.{image_number, variable_number, RowsAreNum, typed_variable, typed, typed_equations, number_of, carried, carried_clause, solved_by, solved_clause}
use Rattle.unify_laws.proofs.Substituted.{value_substituted, value_agrees, came_from}
use Rattle.unify_laws.proofs.Good.{EachOf, OfEquations}
use Rattle.unify_laws.proofs.Triangular.{AreTriangular, of_image}
use Rattle.unify_laws.proofs.Solved.{TriangularIfAny, among_cases}
use Rattle.unify_laws.proofs.Moved.{moved, tree_moved, moved_agrees}
use Rattle.unify_laws.proofs.Moved.{image_number as number_image, number_under}
use Rattle.unify_laws.proofs.Scaling.{cross_of_same}
use Rattle.unify_laws.proofs.Marks.{variable_at}
use Rattle.clp_rationals.proofs.Lowest.{cancel_ℤ}
use Rattle.unify_laws.proofs.Laws.{mgu_triangular, mgu_is_solution, mgu_has_none}

-- the value of a tree by the numbers of its variables, and by its variables with their sorts
mutual
  unfolding mapped value_of value_by

  pub typed_value : (sorts : List Sort) (u : Valuation) (t : Tree ℕ) → value_of (sort_in sorts) u t ≡ value_by (under u) (typed sorts t)
  typed_value sorts u (Var n) = refl
  typed_value sorts u (App' name shape args) = ap (Named name) (row_typed_value sorts u args)

  row_typed_value : {m : _} (sorts : List Sort) (u : Valuation) (ts : Row_of-Tree ℕ m) → row_values (sort_in sorts) u ts ≡ row_by (under u) (mapped_row (typed_variable sorts) ts)
  row_typed_value sorts u end_of-Tree = refl
  row_typed_value sorts u (more_of-Tree t ts) = let p = typed_value sorts u t in let q = row_typed_value sorts u ts in cc

mutual
  unfolding mapped value_of value_by variables

  pub number_value : (sorts : List Sort) (u : Valuation) (t : Tree Variable) → EachOf (λ v. v.sort ≡ sort_in sorts v.number) (variables t) → value_of (sort_in sorts) u (mapped number_of t) ≡ value_by (under u) t
  number_value sorts u (Var v) h = ap (variable_value u v.number) (sym (h v first))
  number_value sorts u (App' name shape args) h = ap (Named name) (row_number_value sorts u args h)

  row_number_value : {m : _} (sorts : List Sort) (u : Valuation) (ts : Row_of-Tree Variable m) → EachOf (λ v. v.sort ≡ sort_in sorts v.number) (variables_in_row ts) → row_values (sort_in sorts) u (mapped_row number_of ts) ≡ row_by (under u) ts
  row_number_value sorts u end_of-Tree h = refl
  row_number_value sorts u (more_of-Tree t ts) h =
      let p = number_value sorts u t (λ v m. h v (among_front v (variables t) (variables_in_row ts) m)) in
      let q = row_number_value sorts u ts (λ v m. h v (among_back v (variables t) (variables_in_row ts) m)) in
      cc

of_map : {V : Type 0} (f : V → Variable) (P : Variable → Type 0) → ((x : V) → P (f x)) → (xs : List V) → EachOf P (map f xs)
of_map f P h [] v m = elim m [ ]
of_map f P h (x ∷ xs) v m = go m (λ k. of_map f P h xs v k)
  where
    go : Among v (map f (x ∷ xs)) → (Among v (map f xs) → P v) → P v
    go k again = among_cases k (λ q. subst P (sym q) (h x)) again

module _ (sorts : List Sort) where
  abbrev Right : Variable → Type 0
  Right v = v.sort ≡ sort_in sorts v.number

  typed_right : (t : Tree ℕ) → EachOf Right (variables (typed sorts t))
  typed_right t v m = of_map (typed_variable sorts) Right (λ n. refl) (variables t) v (subst (Among v) (variables_mapped (typed_variable sorts) t) m)

  equations_right : (es : List (Tree ℕ × Tree ℕ)) → OfEquations Right (typed_equations sorts es)
  equations_right [] = tt
  equations_right (e ∷ es) = ((typed_right e.0, typed_right e.1), equations_right es)

  carried_right : (bs : List Binding) → AreTriangular Right bs → (t : Tree ℕ) → EachOf Right (variables (substituted (image bs) (typed sorts t)))
  carried_right bs tri t w m = let c = came_from (image bs) w (typed sorts t) m in elim (of_image Right bs tri c.0 w c.2) [ inl q ↦ subst Right (sym q) (typed_right t c.0 c.1) | inr k ↦ k ]

  -- where each variable has the value of its image, a tree keeps its value
  carried_value : (u : Valuation) (bs : List Binding) → AreTriangular Right bs → Agrees (under u) (image bs) → (t : Tree ℕ) → value_of (sort_in sorts) u (carried sorts bs t) ≡ value_of (sort_in sorts) u t
  carried_value u bs tri h t =
      number_value sorts u (substituted (image bs) (typed sorts t)) (carried_right bs tri t)
      ∙ value_substituted (under u) (image bs) (typed sorts t)
      ∙ sym (value_agrees (under u) (λ v. value_by (under u) (image bs v)) (typed sorts t) (λ v m. h v))
      ∙ sym (typed_value sorts u t)

  all_carried : (u : Valuation) (bs : List Binding) → AreTriangular Right bs → Agrees (under u) (image bs) → (ts : List (Tree ℕ)) → map (ground_of sorts u) (map (carried sorts bs) ts) ≡ map (ground_of sorts u) ts
  all_carried u bs tri h [] = refl
  all_carried u bs tri h (t ∷ ts) = let p = ap atom_of (carried_value u bs tri h t) in let q = all_carried u bs tri h ts in cc

pub clause_of : {c d : Clause} → Some c ≡ Some d → c ≡ d
clause_of {c} e = let back : Option Clause → Clause = elim [ None ↦ c | Some x ↦ x ] in ap back e

module _ (sorts : List Sort) where
  -- under the valuation that gives each variable the value of its image, a tree has the value of the carried tree
  moved_value : (u : Valuation) (bs : List Binding) → AreTriangular (Right sorts) bs → ((v : Variable) → IsImage v (image bs v)) → (t : Tree ℕ) → value_of (sort_in sorts) u (carried sorts bs t) ≡ value_of (sort_in sorts) (moved u (image bs)) t
  moved_value u bs tri h t =
      number_value sorts u (substituted (image bs) (typed sorts t)) (carried_right sorts bs tri t)
      ∙ sym (tree_moved u (image bs) h (typed sorts t)) ∙ sym (typed_value sorts (moved u (image bs)) t)

  all_moved : (u : Valuation) (bs : List Binding) → AreTriangular (Right sorts) bs → ((v : Variable) → IsImage v (image bs v)) → (ts : List (Tree ℕ)) → map (ground_of sorts u) (map (carried sorts bs) ts) ≡ map (ground_of sorts (moved u (image bs))) ts
  all_moved u bs tri h [] = refl
  all_moved u bs tri h (t ∷ ts) = let p = ap atom_of (moved_value u bs tri h t) in let q = all_moved u bs tri h ts in cc

-- ---- the equations of a clause
hold_from : (sorts : List Sort) (u : Valuation) (es : List (Tree ℕ × Tree ℕ)) → All (EquationHolds sorts u) es → AllHold (under u) (typed_equations sorts es)
hold_from sorts u [] h = tt
hold_from sorts u (e ∷ es) h = (
  sym (typed_value sorts u e.0) ∙ h 0 e (omega arith) ∙ typed_value sorts u e.1,
  hold_from sorts u es (λ k d lt. h (suc k) d (omega (arith, lt))),
)

hold_to : (sorts : List Sort) (u : Valuation) (es : List (Tree ℕ × Tree ℕ)) → AllHold (under u) (typed_equations sorts es) → All (EquationHolds sorts u) es
hold_to sorts u [] h = All-nil (EquationHolds sorts u)
hold_to sorts u (e ∷ es) h = go (typed_value sorts u e.0 ∙ h.0 ∙ sym (typed_value sorts u e.1)) (hold_to sorts u es h.1)
  where
    go : EquationHolds sorts u e → All (EquationHolds sorts u) es → All (EquationHolds sorts u) (e ∷ es)
    go one rest zero d lt = one
    go one rest (suc k) d lt = rest k d (omega (arith, lt))

-- ---- instances
triangular_of : (sorts : List Sort) (es : List (Tree ℕ × Tree ℕ)) (bs : List Binding) → most_general_unifier (typed_equations sorts es) ≡ Some bs → AreTriangular (Right sorts) bs
triangular_of sorts es bs e = subst (TriangularIfAny (Right sorts)) e (mgu_triangular (Right sorts) (typed_equations sorts es) (equations_right sorts es))

-- ---- rows
-- the image of a Num variable is a Num variable; n is its number
module _ (sorts : List Sort) (bs : List Binding) (images : (v : Variable) → IsImage v (image bs v)) where
  stands : (n : ℕ) → sort_in sorts n ≡ Num → (r : Variable) × (image bs (typed_variable sorts n) ≡ Var r) × (r.sort ≡ Num)
  stands n e = number_image (typed_variable sorts n) (image bs (typed_variable sorts n)) (images (typed_variable sorts n)) e

  as_num : (n : ℕ) → sort_in sorts n ≡ Num → typed_variable sorts n ≡ variable_at n Num
  as_num n e = ap (λ s. variable_at n s) e

  -- a Num variable and the variable that stands for it have one number under a valuation that agrees
  one_number : (u : Valuation) → Agrees (under u) (image bs) → (n : ℕ) → sort_in sorts n ≡ Num → u.number n ≡ u.number (image_number sorts bs n)
  unfolding value_by
  one_number u agrees n e =
      let k = stands n e in
      let a : variable_value u n (sort_in sorts n) ≡ variable_value u k.0.number k.0.sort = agrees (typed_variable sorts n) ∙ ap (value_by (under u)) k.1 in
      let b : number_over (u.number n) u.whole u.positive ≡ number_over (u.number k.0.number) u.whole u.positive =
      ap (variable_value u n) (sym e) ∙ a ∙ ap (variable_value u k.0.number) k.2 in
      let c : u.number n ≡ u.number k.0.number = cancel_ℤ (u.number n) (u.number k.0.number) u.whole u.positive (cross_of_same (u.number n) (u.number k.0.number) u.whole u.whole u.positive u.positive b) in
      c ∙ sym (ap (λ t. u.number (variable_number t)) k.1)

  -- under the valuation of the images a Num variable has the number of what stands for it
  moved_number : (u : Valuation) (n : ℕ) → sort_in sorts n ≡ Num → (moved u (image bs)).number n ≡ u.number (image_number sorts bs n)
  unfolding number_under
  moved_number u n e =
      let k = stands n e in
      ap (λ v. number_under u (image bs v)) (sym (as_num n e)) ∙ (ap (number_under u) k.1 ∙ sym (ap (λ t. u.number (variable_number t)) k.1))

  -- rows with the bindings carried out hold under u exactly where the rows hold under a valuation with these numbers
  module _ (rows : List Row) (nums : All (λ n. sort_in sorts n ≡ Num) (rows_variables rows)) (u w : Valuation) (same : w.whole ≡ u.whole) (numbers : (n : ℕ) → sort_in sorts n ≡ Num → w.number n ≡ u.number (image_number sorts bs n)) where
    one_row : (r : Row) → Among r rows → RowHolds u (renamed (image_number sorts bs) r) ↔ RowHolds w r
    one_row r m = renamed_holds (image_number sorts bs) u w r same (λ n k. numbers n (all_each (λ i. sort_in sorts i ≡ Num) (rows_variables rows) nums n (among_rows r rows n m k)))

  rows_there : (rows : List Row) → (u w : Valuation) → ((r : Row) → Among r rows → RowHolds u (renamed (image_number sorts bs) r) ↔ RowHolds w r) → All (RowHolds w) rows → All (RowHolds u) (map (renamed (image_number sorts bs)) rows)
  rows_there rows u w h a = each_all (RowHolds u) (map (renamed (image_number sorts bs)) rows) (λ r m. from_map rows h a r m)
    where
      from_map : (rs : List Row) → ((r : Row) → Among r rs → RowHolds u (renamed (image_number sorts bs) r) ↔ RowHolds w r) → All (RowHolds w) rs → (r : Row) → Among r (map (renamed (image_number sorts bs)) rs) → RowHolds u r
      from_map [] h a r m = elim m [ ]
      from_map (s ∷ rs) h a r m = among_cases m (λ q. subst (RowHolds u) (sym q) ((h s first).1 (all_each (RowHolds w) (s ∷ rs) a s first))) (λ k. from_map rs (λ x i. h x (next i)) (each_all (RowHolds w) rs (λ x i. all_each (RowHolds w) (s ∷ rs) a x (next i))) r k)

  rows_back : (rows : List Row) → (u w : Valuation) → ((r : Row) → Among r rows → RowHolds u (renamed (image_number sorts bs) r) ↔ RowHolds w r) → All (RowHolds u) (map (renamed (image_number sorts bs)) rows) → All (RowHolds w) rows
  rows_back rows u w h a = each_all (RowHolds w) rows (λ r m. (h r m).0 (all_each (RowHolds u) (map (renamed (image_number sorts bs)) rows) a (renamed (image_number sorts bs) r) (among_mapped (renamed (image_number sorts bs)) m)))

carried_has : (c : Clause) (bs : List Binding) → RowsAreNum c → most_general_unifier (typed_equations c.sorts c.equations) ≡ Some bs → (a : GroundAtom) (body : List GroundAtom) → Instance c a body → Instance (carried_clause c bs) a body
carried_has c bs nums e a body i =
    let solution = mgu_is_solution (typed_equations c.sorts c.equations) bs e in
    let tri = triangular_of c.sorts c.equations bs e in
    let agrees : Agrees (under i.valuation) (image bs) = (solution.solutions i.valuation).0 (hold_from c.sorts i.valuation c.equations i.equations) in
    record {
      valuation = i.valuation;
      equations = All-nil (EquationHolds c.sorts i.valuation);
      rows = rows_there c.sorts bs solution.images c.rows i.valuation i.valuation (one_row c.sorts bs solution.images c.rows nums i.valuation i.valuation refl (one_number c.sorts bs solution.images i.valuation agrees)) i.rows;
      head_is = i.head_is ∙ ap atom_of (sym (carried_value c.sorts i.valuation bs tri agrees c.head));
      body_is = i.body_is ∙ sym (all_carried c.sorts i.valuation bs tri agrees c.body);
    }

carried_had : (c : Clause) (bs : List Binding) → RowsAreNum c → most_general_unifier (typed_equations c.sorts c.equations) ≡ Some bs → (a : GroundAtom) (body : List GroundAtom) → Instance (carried_clause c bs) a body → Instance c a body
carried_had c bs nums e a body i =
    let solution = mgu_is_solution (typed_equations c.sorts c.equations) bs e in
    let tri = triangular_of c.sorts c.equations bs e in
    let u = moved i.valuation (image bs) in
    let agrees : Agrees (under u) (image bs) = moved_agrees i.valuation (image bs) solution.images solution.settled in
    record {
      valuation = u;
      equations = hold_to c.sorts u c.equations ((solution.solutions u).1 agrees);
      rows = rows_back c.sorts bs solution.images c.rows i.valuation u (one_row c.sorts bs solution.images c.rows nums i.valuation u refl (moved_number c.sorts bs solution.images i.valuation)) i.rows;
      head_is = i.head_is ∙ ap atom_of (moved_value c.sorts i.valuation bs tri solution.images c.head);
      body_is = i.body_is ∙ all_moved c.sorts i.valuation bs tri solution.images c.body;
    }

pub solved_keeps : (c d : Clause) → RowsAreNum c → solved_clause c ≡ Some d → (a : GroundAtom) (body : List GroundAtom) → Instance d a body ↔ Instance c a body
unfolding solved_clause
solved_keeps c d nums e a body = go (most_general_unifier (typed_equations c.sorts c.equations)) refl e
  where
    go : (o : Option (List Binding)) → most_general_unifier (typed_equations c.sorts c.equations) ≡ o → solved_by c o ≡ Some d → Instance d a body ↔ Instance c a body
    go None q h = absurd (cc)
    go (Some bs) q h =
        let k : carried_clause c bs ≡ d = clause_of h in
        ((λ i. carried_had c bs nums q a body (subst (λ x. Instance x a body) (sym k) i)), (λ i. subst (λ x. Instance x a body) k (carried_has c bs nums q a body i)))

pub unsolved_none : (c : Clause) → solved_clause c ≡ None → (a : GroundAtom) (body : List GroundAtom) → Instance c a body → ⊥
unfolding solved_clause
unsolved_none c e a body i = go (most_general_unifier (typed_equations c.sorts c.equations)) refl e
  where
    go : (o : Option (List Binding)) → most_general_unifier (typed_equations c.sorts c.equations) ≡ o → solved_by c o ≡ None → ⊥
    go None q h = mgu_has_none (typed_equations c.sorts c.equations) q i.valuation (hold_from c.sorts i.valuation c.equations i.equations)
    go (Some bs) q h = absurd (cc)
