-- The most general unifier is the solution.
use Rattle.std.proofs.Common.{◌≡◌, ◌↔◌, ℕ, List, [], ◌∷◌, length, refl, sym, subst, arith, Option, Some, None, inl, inr}
use Rattle.clp_model.specs.declared.sort.Sort.{Sort}
use Rattle.clp_model.specs.declared.sort.Sort.TheVariants.{Any, Num}
use Rattle.clp_model.specs.declared.tree.Variable.{Variable}
use Rattle.clp_model.specs.declared.tree.Tree.{Tree}
use Rattle.clp_model.specs.Trees.{variables}
use Rattle.clp_model.specs.Values.{Valuation, number_over, variable_value}
use Rattle.clp_model.proofs.Membership.{Among, first, next, among_front, among_back, among_either}
use Rattle.unify_model.specs.Substituting.{Binding, image}
use Rattle.unify_model.specs.Equations.{Equation, AllHold, under}
use Rattle.unify_model.specs.Unifying.{all_apart, variables_of, solved_all, most_general_unifier}
use Rattle.unify_model.specs.Solving.{IsMostGeneralUnifier, HasNoSolution}
use Rattle.unify_laws.proofs.Apart.{IsNumber, Means, all_apart_mean}
use Rattle.unify_laws.proofs.Good.{EachOf, AllGood, GoodIfAny, OfEquations, all_apart_good}
use Rattle.unify_laws.proofs.Triangular.{AreTriangular, triangular_weaker, settled, images, bound_agrees, agrees_bound}
use Rattle.unify_laws.proofs.Solved.{solved_means, solved_triangular, among_cases, then_means, TriangularIfAny, then_triangular}
use Rattle.unify_laws.proofs.Unique.{only_solution, solution_has_one}

number_value : (u : Valuation) (n : ℕ) (s : Sort) → s ≡ Num → IsNumber (variable_value u n s)
unfolding number_over
number_value u n Num e = tt
number_value u n Any e = absurd (cc)

pub under_numbers : (u : Valuation) (v : Variable) → v.sort ≡ Num → IsNumber (under u v)
under_numbers u v e = number_value u v.number v.sort e

-- ---- the bindings speak of their own variables
good_of : (P Q : Variable → Type 0) → ((v : Variable) → P v → Q v) → (bs : List Binding) → AllGood P bs → AllGood Q bs
good_of P Q h [] g = tt
good_of P Q h (b ∷ bs) g = (record { left = h b.0 g.0.left; right = λ v m. h v (g.0.right v m); directed = g.0.directed }, good_of P Q h bs g.1)

own : (P : Variable → Type 0) (bs : List Binding) → AllGood P bs → AllGood (λ v. Among v (variables_of bs) × P v) bs
own P [] g = tt
own P (b ∷ bs) g = (
  record { left = (first, g.0.left); right = λ v m. (next (among_front v (variables b.1) (variables_of bs) m), g.0.right v m); directed = g.0.directed },
  good_of (λ v. Among v (variables_of bs) × P v) (λ v. Among v (variables_of (b ∷ bs)) × P v) (λ v k. (next (among_back v (variables b.1) (variables_of bs) k.0), k.1)) bs (own P bs g.1),
)

each_good : (P : Variable → Type 0) (bs : List Binding) → AllGood P bs → EachOf P (variables_of bs)
each_good P [] g v m = elim m [ ]
each_good P (b ∷ bs) g v m = go m (λ k. each_good P bs g.1 v k)
  where
    go : Among v (variables_of (b ∷ bs)) → (Among v (variables_of bs) → P v) → P v
    go k again = among_cases k (λ q. subst P (sym q) g.0.left) (λ n. elim (among_either v (variables b.1) (variables_of bs) n) [ inl x ↦ g.0.right v x | inr x ↦ again x ])

any_equations : (es : List Equation) → OfEquations (λ v. Unit {0}) es
any_equations [] = tt
any_equations (e ∷ es) = (((λ v m. tt), (λ v m. tt)), any_equations es)

apart_good_by : (P : Variable → Type 0) (es : List Equation) → OfEquations P es → (bs : List Binding) → all_apart es ≡ Some bs → AllGood P bs
apart_good_by P es of bs e = subst (GoodIfAny P) e (all_apart_good P es of)

apart_own : (es : List Equation) (bs : List Binding) → all_apart es ≡ Some bs → AllGood (λ v. Among v (variables_of bs)) bs
apart_own es bs e = good_of (λ v. Among v (variables_of bs) × Unit {0}) (λ v. Among v (variables_of bs)) (λ v k. k.0) bs (own (λ v. Unit {0}) bs (apart_good_by (λ v. Unit {0}) es (any_equations es) bs e))

mgu_means : (es : List Equation) (u : Valuation) → Means (under u) (most_general_unifier es) (AllHold (under u) es)
unfolding most_general_unifier
mgu_means es u =
    then_means (under u) (all_apart es) (AllHold (under u) es) solved_all (all_apart_mean (under u) (under_numbers u) es)
    (λ bs e. solved_means (under u) (under_numbers u) (length (variables_of bs)) (variables_of bs) (omega arith) bs (apart_own es bs e))

-- the bindings are triangular, and speak of the variables of the equations
pub mgu_triangular : (P : Variable → Type 0) (es : List Equation) → OfEquations P es → TriangularIfAny P (most_general_unifier es)
unfolding most_general_unifier
mgu_triangular P es of =
    then_triangular P (all_apart es) solved_all
    (λ bs e. weaker bs e (solved_all bs) (solved_triangular (length (variables_of bs)) (variables_of bs) bs (apart_own es bs e)))
  where
    weaker : (bs : List Binding) → all_apart es ≡ Some bs → (o : Option (List Binding)) → TriangularIfAny (λ v. Among v (variables_of bs)) o → TriangularIfAny P o
    weaker bs e None t = tt
    weaker bs e (Some cs) t = triangular_weaker (λ v. Among v (variables_of bs)) P (λ v m. each_good P bs (apart_good_by P es of bs e) v m) cs t

-- triangular bindings that say the same as the equations are the solution
pub triangular_solution : (P : Variable → Type 0) (es : List Equation) (bs : List Binding) → AreTriangular P bs → ((u : Valuation) → Means (under u) (Some bs) (AllHold (under u) es)) → IsMostGeneralUnifier es (image bs)
triangular_solution P es bs t m = record {
  solutions = λ u. ((λ h. bound_agrees (under u) bs ((m u).0 h)), (λ h. (m u).1 (agrees_bound P (under u) bs t h)));
  settled = settled P bs t;
  images = images P bs t;
}

pub mgu_is_solution : (es : List Equation) (bs : List Binding) → most_general_unifier es ≡ Some bs → IsMostGeneralUnifier es (image bs)
mgu_is_solution es bs e =
    triangular_solution (λ v. Unit {0}) es bs (subst (TriangularIfAny (λ v. Unit {0})) e (mgu_triangular (λ v. Unit {0}) es (any_equations es)))
    (λ u. subst (λ o. Means (under u) o (AllHold (under u) es)) e (mgu_means es u))

pub mgu_has_none : (es : List Equation) → most_general_unifier es ≡ None → HasNoSolution es
mgu_has_none es e u = subst (λ o. Means (under u) o (AllHold (under u) es)) e (mgu_means es u)

-- ---- what is found in another way
pub found_is_mgu : (es : List Equation) (s : Variable → Tree Variable) → IsMostGeneralUnifier es s → (bs : List Binding) × (most_general_unifier es ≡ Some bs) × ((v : Variable) → image bs v ≡ s v)
found_is_mgu es s i = go (most_general_unifier es) refl
  where
    go : (o : Option (List Binding)) → most_general_unifier es ≡ o → (bs : List Binding) × (most_general_unifier es ≡ Some bs) × ((v : Variable) → image bs v ≡ s v)
    go None e = absurd (solution_has_one es s i (mgu_has_none es e))
    go (Some bs) e = (bs, e, λ v. only_solution es (image bs) s (mgu_is_solution es bs e) i v)

pub none_is_mgu : (es : List Equation) → HasNoSolution es → most_general_unifier es ≡ None
none_is_mgu es none = go (most_general_unifier es) refl
  where
    go : (o : Option (List Binding)) → most_general_unifier es ≡ o → o ≡ None
    go None e = refl
    go (Some bs) e = absurd (solution_has_one es (image bs) (mgu_is_solution es bs e) none)

pub none_exactly : (es : List Equation) → (most_general_unifier es ≡ None) ↔ HasNoSolution es
none_exactly es = (mgu_has_none es, none_is_mgu es)
