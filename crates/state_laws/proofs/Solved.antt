-- A well-formed clause whose equations are solved is held.
use Rattle.std.proofs.Common.{◌≡◌, ℕ, List, [], ◌∷◌, ◌++◌, length, refl, sym, ◌∙◌, subst, Option, Some, None, inl, inr}
use Rattle.clp_model.specs.declared.sort.Sort.TheVariants.{Num}
use Rattle.clp_model.specs.declared.tree.Variable.{Variable}
use Rattle.clp_model.specs.declared.tree.Tree.{Tree, Var, App'}
use Rattle.clp_model.specs.Trees.{IsApplication, mapped, variables}
use Rattle.clp_model.specs.Clauses.{Clause, Row, sort_in}
use Rattle.clp_model.proofs.Membership.{Among, first, among_front, among_back}
use Rattle.clp_model.proofs.Trees.{variables_var}
use Rattle.clp_model.proofs.RenamedTrees.{variables_mapped, application_mapped}
use Rattle.linear_model.specs.Changes.{renamed}
use Rattle.linear_laws.proofs.Lists.{mapped_out}
use Rattle.unify_model.specs.Substituting.{substituted, Binding, image}
use Rattle.unify_model.specs.Unifying.{most_general_unifier}
use Rattle.unify_laws.proofs.Substituted.{came_from}
use Rattle.unify_laws.proofs.Good.{EachOf, OfEquations}
use Rattle.unify_laws.proofs.Triangular.{AreTriangular, of_image}
use Rattle.unify_laws.proofs.Solved.{TriangularIfAny}
use Rattle.unify_laws.proofs.Moved.{image_number as number_image}
use Rattle.unify_laws.proofs.Laws.{mgu_triangular, mgu_is_solution}
use Rattle.clause_model.specs.Variables.{row_variables}
use Rattle.clause_model.specs.Solved.{typed_variable, typed, typed_equations, number_of, carried, variable_number, image_number, carried_clause, solved_by, solved_clause}
use Rattle.clause_laws.proofs.Rows.{all_each}
use Rattle.clause_laws.proofs.Solving.{clause_of}
use Rattle.rule_laws.specs.Steps.{IsHeld}
use Rattle.map_model.specs.WellFormed.{side_variables, IsWellFormed}
use Rattle.state_laws.proofs.Variables.{renamed_from}
use Rattle.state_laws.proofs.Sound.{Placed, TreeFits, RowFits, Fits, held_of, fits_of}

application_substituted : {V W : Type 0} (f : V → Tree W) (t : Tree V) → IsApplication t → IsApplication (substituted f t)
unfolding IsApplication substituted
application_substituted f (Var v) h = absurd h
application_substituted f (App' name shape args) h = tt

-- an application stays one
application_carried : {V W U : Type 0} (f : V → W) (g : W → Tree U) (h : U → V) (t : Tree V) → IsApplication t → IsApplication (mapped h (substituted g (mapped f t)))
application_carried f g h t a = application_mapped h (substituted g (mapped f t)) (application_substituted g (mapped f t) (application_mapped f t a))

module _ (c : Clause) (w : IsWellFormed c) (bs : List Binding) (e : most_general_unifier (typed_equations c.sorts c.equations) ≡ Some bs) where
  abbrev count : ℕ
  count = length c.sorts

  -- a variable that has its place and its sort
  abbrev Right : Variable → Type 0
  Right v = Placed count v.number × (v.sort ≡ sort_in c.sorts v.number)

  fits : Fits c
  fits = fits_of c (all_each IsApplication (c.head ∷ c.body) w.applications) w.places w.nums

  typed_right : (t : Tree ℕ) → TreeFits count t → EachOf Right (variables (typed c.sorts t))
  typed_right t h v m = mapped_out (typed_variable c.sorts) (variables t) Right (λ n a. (h n a, refl)) v (subst (Among v) (variables_mapped (typed_variable c.sorts) t) m)

  equations_right : (es : List (Tree ℕ × Tree ℕ)) → ((n : ℕ) → Among n (side_variables es) → Placed count n) → OfEquations Right (typed_equations c.sorts es)
  equations_right [] h = tt
  equations_right (q ∷ es) h = (
    (
      typed_right q.0 (λ n a. h n (among_front n (variables q.0) (variables q.1 ++ side_variables es) a)),
      typed_right q.1 (λ n a. h n (among_back n (variables q.0) (variables q.1 ++ side_variables es) (among_front n (variables q.1) (side_variables es) a))),
    ),
    equations_right es (λ n a. h n (among_back n (variables q.0) (variables q.1 ++ side_variables es) (among_back n (variables q.1) (side_variables es) a))),
  )

  triangular : AreTriangular Right bs
  triangular = subst (TriangularIfAny Right) e (mgu_triangular Right (typed_equations c.sorts c.equations) (equations_right c.equations (all_each (Placed count) (side_variables c.equations) w.sides)))

  image_right : (v r : Variable) → Right v → Among r (variables (image bs v)) → Right r
  image_right v r h m = elim (of_image Right bs triangular v r m) [ inl q ↦ subst Right (sym q) h | inr k ↦ k ]

  carried_fits : (t : Tree ℕ) → TreeFits count t → TreeFits count (carried c.sorts bs t)
  carried_fits t h n a =
      mapped_out number_of (variables (substituted (image bs) (typed c.sorts t))) (Placed count)
      (λ v m. let k = came_from (image bs) v (typed c.sorts t) m in (image_right k.0 v (typed_right t h k.0 k.1) k.2).0)
      n (subst (Among n) (variables_mapped number_of (substituted (image bs) (typed c.sorts t))) a)

  -- the variable that stands for a Num variable has its place and is Num
  number_right : (n : ℕ) → Placed count n → sort_in c.sorts n ≡ Num → Placed count (image_number c.sorts bs n) × (sort_in c.sorts (image_number c.sorts bs n) ≡ Num)
  number_right n h s =
      let v = typed_variable c.sorts n in
      let k = number_image v (image bs v) ((mgu_is_solution (typed_equations c.sorts c.equations) bs e).images v) s in
      let a : Among k.0 (variables (image bs v)) = subst (λ t. Among k.0 (variables t)) (sym k.1) (subst (Among k.0) (sym (variables_var k.0)) first) in
      let r = image_right v k.0 (h, refl) a in
      subst (λ t. Placed count (variable_number t) × (sort_in c.sorts (variable_number t) ≡ Num)) (sym k.1) (r.0, sym r.1 ∙ k.2)

  row_carried : (r : Row) → RowFits c r → RowFits (carried_clause c bs) (renamed (image_number c.sorts bs) r)
  row_carried r h =
      let each : (n : ℕ) → Among n (row_variables (renamed (image_number c.sorts bs) r)) → Placed count n × (sort_in c.sorts n ≡ Num) =
      λ n a. let k = renamed_from (image_number c.sorts bs) r n a in
      subst (λ m. Placed count m × (sort_in c.sorts m ≡ Num)) k.2 (number_right k.0 (h.placed k.0 k.1) (h.num k.0 k.1)) in
      record { placed = λ n a. (each n a).0; num = λ n a. (each n a).1 }

  carried_is_held : IsHeld (carried_clause c bs)
  carried_is_held = held_of (carried_clause c bs) refl (record {
    applies = λ t m. mapped_out (carried c.sorts bs) (c.head ∷ c.body) IsApplication (λ u k. application_carried (typed_variable c.sorts) (image bs) number_of u (fits.applies u k)) t m;
    trees = λ t m. mapped_out (carried c.sorts bs) (c.head ∷ c.body) (TreeFits count) (λ u k. carried_fits u (fits.trees u k)) t m;
    rows = λ r m. mapped_out (renamed (image_number c.sorts bs)) c.rows (RowFits (carried_clause c bs)) (λ u k. row_carried u (fits.rows u k)) r m;
  })

pub solved_is_held : (c d : Clause) → IsWellFormed c → solved_clause c ≡ Some d → IsHeld d
unfolding solved_clause
solved_is_held c d w e = by (most_general_unifier (typed_equations c.sorts c.equations)) refl e
  where
    by : (o : Option (List Binding)) → most_general_unifier (typed_equations c.sorts c.equations) ≡ o → solved_by c o ≡ Some d → IsHeld d
    by None q h = absurd (cc)
    by (Some bs) q h = subst IsHeld (clause_of h) (carried_is_held c w bs q)
