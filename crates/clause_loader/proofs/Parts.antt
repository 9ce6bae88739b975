-- The parts of a source clause with what solves its equations are those of a clause.
use Rattle.std.proofs.Common.{◌≡◌, ℕ, List, [], ◌∷◌, ◌++◌, length, map, refl, ap, ◌∙◌, sym, subst, inl, inr, All}
use Rattle.clp_model.specs.declared.sort.Sort.{Sort}
use Rattle.clp_model.specs.declared.tree.Variable.{Variable}
use Rattle.clp_model.specs.declared.tree.Tree.{Tree, Var, App'}
use Rattle.clp_model.specs.Trees.{mapped, variables, variables_in, IsApplication}
use Rattle.clp_model.specs.Clauses.{Row}
use Rattle.clp_model.proofs.Membership.{Among, first, next, among_front, among_back, among_either}
use Rattle.clp_model.proofs.RenamedTrees.{variables_mapped}
use Rattle.std.proofs.lemmas.List.Elements.{All-nil, All-cons, All-head, All-tail}
use Rattle.linear_model.specs.Normal.{normal}
use Rattle.linear_model.specs.Changes.{renamed}
use Rattle.lin_row.specs.Rows.{IsKept}
use Rattle.unify_model.specs.Substituting.{substituted}
use Rattle.unify_laws.proofs.Substituted.{came_from}
use Rattle.unify_laws.proofs.Good.{EachOf, OfEquations}
use Rattle.unify_laws.proofs.Triangular.{AreTriangular, of_image}
use Rattle.unify_laws.proofs.Solved.{TriangularIfAny, among_cases}
use Rattle.unify_laws.proofs.Moved.{image_number}
use Rattle.unify_laws.proofs.Laws.{mgu_triangular}
use Rattle.unify.specs.Unifiers.{Unifies}
use Rattle.clause_model.specs.Variables.{row_variables, rows_variables}
use Rattle.clause_model.specs.Solved.{typed_variable, typed, typed_equations, variable_number}
use Rattle.clause_laws.proofs.Rows.{all_each, each_all}
use Rattle.clause_laws.proofs.Written.{written_from}
use Rattle.clause_store.specs.declared.source.SourceClause.{SourceClause}
use Rattle.clause_store.specs.Stored.{HasSort, IsNum, AreParts}
use Rattle.term_store.specs.Trees.{trees_at, HasTree, HaveTrees}
use Rattle.clause_loader.specs.WellFormed.{IsNumber, side_variables, IsWellFormed}
use Rattle.clause_loader.specs.Carried.{with_images, all_with_images, number_by}

application_images : (sorts : List Sort) (f : Variable → Tree Variable) (t : Tree ℕ) → IsApplication t → IsApplication (with_images sorts f t)
unfolding mapped substituted IsApplication
application_images sorts f (Var n) h = absurd h
application_images sorts f (App' name shape args) h = tt

applications_images : (sorts : List Sort) (f : Variable → Tree Variable) (ts : List (Tree ℕ)) → All IsApplication ts → All IsApplication (all_with_images sorts f ts)
applications_images sorts f [] all = All-nil IsApplication
applications_images sorts f (t ∷ ts) all =
    All-cons IsApplication (with_images sorts f t) (all_with_images sorts f ts)
    (application_images sorts f t (All-head IsApplication t ts all)) (applications_images sorts f ts (All-tail IsApplication t ts all))

module _ (sorts : List Sort) where
  of_numbers : (ns : List ℕ) → ((n : ℕ) → Among n ns → IsNumber (length sorts) n) → (v : Variable) → Among v (map (typed_variable sorts) ns) → HasSort sorts v
  of_numbers [] h v m = elim m [ ]
  of_numbers (n ∷ ns) h v m =
      among_cases m
      (λ q. subst (HasSort sorts) (sym q) (let k = h n first in record { positive = k.0; within = k.1; sort = refl }))
      (λ k. of_numbers ns (λ i a. h i (next a)) v k)

  typed_sorted : (t : Tree ℕ) → ((n : ℕ) → Among n (variables t) → IsNumber (length sorts) n) → EachOf (HasSort sorts) (variables (typed sorts t))
  typed_sorted t h v m = of_numbers (variables t) h v (subst (λ vs. Among v vs) (variables_mapped (typed_variable sorts) t) m)

  sides_sorted : (es : List (Tree ℕ × Tree ℕ)) → ((n : ℕ) → Among n (side_variables es) → IsNumber (length sorts) n) → OfEquations (HasSort sorts) (typed_equations sorts es)
  sides_sorted [] h = tt
  sides_sorted (e ∷ es) h = (
    (
      typed_sorted e.0 (λ n m. h n (among_front n (variables e.0) (variables e.1 ++ side_variables es) m)),
      typed_sorted e.1 (λ n m. h n (among_back n (variables e.0) (variables e.1 ++ side_variables es) (among_front n (variables e.1) (side_variables es) m))),
    ),
    sides_sorted es (λ n m. h n (among_back n (variables e.0) (variables e.1 ++ side_variables es) (among_back n (variables e.1) (side_variables es) m))),
  )

  module _ (es : List (Tree ℕ × Tree ℕ)) (f : Variable → Tree Variable) (sides : All (IsNumber (length sorts)) (side_variables es)) (u : Unifies (typed_equations sorts es) f) where
    triangular : AreTriangular (HasSort sorts) u.unifier
    triangular = subst (TriangularIfAny (HasSort sorts)) u.is (mgu_triangular (HasSort sorts) (typed_equations sorts es) (sides_sorted es (λ n m. all_each (IsNumber (length sorts)) (side_variables es) sides n m)))

    image_sorted : (v w : Variable) → HasSort sorts v → Among w (variables (f v)) → HasSort sorts w
    image_sorted v w h m =
        elim (of_image (HasSort sorts) u.unifier triangular v w (subst (λ (t : Tree Variable). Among w (variables t)) (u.images v) m)) [
          | inl q ↦ subst (HasSort sorts) (sym q) h
          | inr k ↦ k
        ]

    tree_sorted : (t : Tree ℕ) → ((n : ℕ) → Among n (variables t) → IsNumber (length sorts) n) → EachOf (HasSort sorts) (variables (with_images sorts f t))
    tree_sorted t h w m = let c = came_from f w (typed sorts t) m in image_sorted c.0 w (typed_sorted t h c.0 c.1) c.2

    trees_sorted : (ts : List (Tree ℕ)) → ((n : ℕ) → Among n (variables_in ts) → IsNumber (length sorts) n) → EachOf (HasSort sorts) (variables_in (all_with_images sorts f ts))
    trees_sorted [] h w m = elim m [ ]
    trees_sorted (t ∷ ts) h w m =
        elim (among_either w (variables (with_images sorts f t)) (variables_in (all_with_images sorts f ts)) m) [
          | inl a ↦ tree_sorted t (λ n k. h n (among_front n (variables t) (variables_in ts) k)) w a
          | inr b ↦ trees_sorted ts (λ n k. h n (among_back n (variables t) (variables_in ts) k)) w b
        ]

    -- the variable that a Num variable becomes is Num
    number_sorted : (n : ℕ) → IsNum sorts n → IsNum sorts (number_by sorts f n)
    unfolding variables
    number_sorted n h =
        let v = typed_variable sorts n in
        let k = image_number v (f v) (u.general.images v) h.sort in
        let own : HasSort sorts v = record { positive = h.positive; within = h.within; sort = refl } in
        let has : HasSort sorts k.0 = image_sorted v k.0 own (subst (λ (t : Tree Variable). Among k.0 (variables t)) (sym k.1) first) in
        let same : number_by sorts f n ≡ k.0.number = ap variable_number k.1 in
        subst (IsNum sorts) (sym same) (record { positive = has.positive; within = has.within; sort = has.sort ∙ k.2 })

    rows_sorted : (rows : List Row) → ((n : ℕ) → Among n (rows_variables rows) → IsNum sorts n) → (w : ℕ) → Among w (rows_variables (map (λ r. normal (renamed (number_by sorts f) r)) rows)) → IsNum sorts w
    rows_sorted [] h w m = elim m [ ]
    rows_sorted (r ∷ rows) h w m =
        elim (among_either w (row_variables (normal (renamed (number_by sorts f) r))) (rows_variables (map (λ r. normal (renamed (number_by sorts f) r)) rows)) m) [
          | inl a ↦ (let c = written_from (number_by sorts f) r w a in subst (IsNum sorts) c.2 (number_sorted c.0 (h c.0 (among_front c.0 (row_variables r) (rows_variables rows) c.1))))
          | inr b ↦ rows_sorted rows (λ n k. h n (among_back n (row_variables r) (rows_variables rows) k)) w b
        ]

-- the parts are those of a clause
pub are_parts : (store : List (Tree Variable)) (f : Variable → Tree Variable) (s : SourceClause) (head : ℕ) (rows : List Row) (atoms : List ℕ) (sorts : List Sort)
    → IsWellFormed s → Unifies (typed_equations s.sorts s.equations) f → HasTree store head (with_images s.sorts f s.head) → HaveTrees store atoms (all_with_images s.sorts f s.atoms)
    → rows ≡ map (λ r. normal (renamed (number_by s.sorts f) r)) s.rows → All IsKept rows → sorts ≡ s.sorts → AreParts store head rows atoms sorts
are_parts store f s head rows atoms sorts formed u one all er kept same =
    let trees = all_with_images s.sorts f (s.head ∷ s.atoms) in
    let e : trees_at store (head ∷ atoms) ≡ trees = let a = one.is in let b = all.are in cc in
    let P : List (Tree Variable) → Type 0 = All IsApplication in
    let Q : List (Tree Variable) → Type 0 = λ ts. All (HasSort s.sorts) (variables_in ts) in
    let N : List Row → Type 0 = λ rs. All (IsNum s.sorts) (rows_variables rs) in
    let R : List Sort → Type 0 = AreParts store head rows atoms in
    let done = map (λ r. normal (renamed (number_by s.sorts f) r)) s.rows in
    subst R (sym same)
    (record {
      within = (one.within, all.within);
      applications = subst P (sym e) (applications_images s.sorts f (s.head ∷ s.atoms) formed.applications);
      sorted = subst Q (sym e) (each_all (HasSort s.sorts) (variables_in trees) (trees_sorted s.sorts s.equations f formed.sides u (s.head ∷ s.atoms) (λ n m. all_each (IsNumber (length s.sorts)) (variables_in (s.head ∷ s.atoms)) formed.numbered n m)));
      kept = kept;
      nums = subst N (sym er) (each_all (IsNum s.sorts) (rows_variables done) (rows_sorted s.sorts s.equations f formed.sides u s.rows (λ n m. all_each (IsNum s.sorts) (rows_variables s.rows) formed.nums n m)));
    })
