-- The classes of variables that equations make equal, and the variables that they do not hold.
use Rattle.std.proofs.Common.{◌≡◌, ◌↔◌, List, [], ◌∷◌, refl, sym, ap, ◌∙◌, subst, Bool, true, false, ◌||◌, Some, ◌⊎◌}
use Rattle.std.specs.Prelude.{IsTrue}
use Rattle.clp_model.specs.declared.tree.Variable.{Variable}
use Rattle.clp_model.specs.declared.tree.Tree.{Tree, Var}
use Rattle.unify_model.specs.Substituting.{substituted, Binding, comes_before, occurs, image}
use Rattle.unify_model.specs.Equations.{Equation, value_by, under}
use Rattle.unify_model.specs.Unifying.{most_general_unifier}
use Rattle.unify_model.specs.Solving.{IsMostGeneralUnifier}
use Rattle.unify_laws.specs.Laws.{AreEquated, occurs_in}
use Rattle.unify_laws.proofs.Variables.{among_passes}
use Rattle.unify_laws.proofs.Marks.{standing, under_standing, standing_agrees, same_under_marks}
use Rattle.unify_laws.proofs.Good.{OfEquations}
use Rattle.unify_laws.proofs.Triangular.{untouched}
use Rattle.unify_laws.proofs.Solved.{TriangularIfAny}
use Rattle.unify_laws.proofs.Laws.{mgu_triangular, mgu_is_solution}
use Rattle.unify_laws.proofs.Applications.{substituted_var}

module _ (es : List Equation) (s : Variable → Tree Variable) (i : IsMostGeneralUnifier es s) where
  pub one_image : (v w : Variable) → s v ≡ s w → AreEquated es v w
  one_image v w q u h = let a = (i.solutions u).0 h in a v ∙ ap (value_by (under u)) q ∙ sym (a w)

  pub image_of_equated : (v w : Variable) → AreEquated es v w → s v ≡ s w
  image_of_equated v w h =
      let u = standing s in
      let all = (i.solutions u).1 (standing_agrees s i.images i.settled) in
      same_under_marks (s v) (s w) (sym (under_standing s i.images v) ∙ h u all ∙ under_standing s i.images w)

  stands_for_itself : (v r : Variable) → s v ≡ Var r → s r ≡ Var r
  stands_for_itself v r e = sym (substituted_var s r) ∙ ap (substituted s) (sym e) ∙ i.settled v ∙ e

  pub least_stands : (v r : Variable) → s v ≡ Var r → AreEquated es v r × ((w : Variable) → AreEquated es v w → (r ≡ w) ⊎ IsTrue (comes_before r w))
  least_stands v r e =
      (one_image v r (e ∙ sym (stands_for_itself v r e)), λ w h. (i.images w).least r (sym (image_of_equated v w h) ∙ e))

pub each_image : (es : List Equation) (bs : List Binding) → most_general_unifier es ≡ Some bs → (v w : Variable) → (image bs v ≡ image bs w) ↔ AreEquated es v w
each_image es bs e v w = (one_image es (image bs) (mgu_is_solution es bs e) v w, image_of_equated es (image bs) (mgu_is_solution es bs e) v w)

pub least_of_class : (es : List Equation) (bs : List Binding) → most_general_unifier es ≡ Some bs → (v r : Variable) → image bs v ≡ Var r → AreEquated es v r × ((w : Variable) → AreEquated es v w → (r ≡ w) ⊎ IsTrue (comes_before r w))
least_of_class es bs e v r q = least_stands es (image bs) (mgu_is_solution es bs e) v r q

pub image_settled : (es : List Equation) (bs : List Binding) → most_general_unifier es ≡ Some bs → (v : Variable) → substituted (image bs) (image bs v) ≡ image bs v
image_settled es bs e = (mgu_is_solution es bs e).settled

-- ---- variables that the equations do not hold
left_or : (a b c : Bool) → a ≡ true → ((a || b) || c) ≡ true
left_or true b c e = refl
left_or false b c e = absurd (cc)

middle_or : (a b c : Bool) → b ≡ true → ((a || b) || c) ≡ true
middle_or true b c e = refl
middle_or false true c e = refl
middle_or false false c e = absurd (cc)

right_or : (a b c : Bool) → c ≡ true → ((a || b) || c) ≡ true
right_or true b c e = refl
right_or false true c e = refl
right_or false false c e = e

of_weaker : (P Q : Variable → Type 0) → ((v : Variable) → P v → Q v) → (es : List Equation) → OfEquations P es → OfEquations Q es
of_weaker P Q h [] of = tt
of_weaker P Q h (e ∷ es) of = (((λ v m. h v (of.0.0 v m)), (λ v m. h v (of.0.1 v m))), of_weaker P Q h es of.1)

of_own : (es : List Equation) → OfEquations (λ v. occurs_in v es ≡ true) es
of_own [] = tt
of_own (e ∷ es) = (
  (
    (λ v m. left_or (occurs v e.0) (occurs v e.1) (occurs_in v es) (among_passes m)),
    (λ v m. middle_or (occurs v e.0) (occurs v e.1) (occurs_in v es) (among_passes m)),
  ),
  of_weaker (λ v. occurs_in v es ≡ true) (λ v. occurs_in v (e ∷ es) ≡ true) (λ v h. right_or (occurs v e.0) (occurs v e.1) (occurs_in v es) h) es (of_own es),
)

pub others_stay : (es : List Equation) (bs : List Binding) → most_general_unifier es ≡ Some bs → (v : Variable) → occurs_in v es ≡ false → image bs v ≡ Var v
others_stay es bs e v h =
    untouched (λ w. occurs_in w es ≡ true) bs (subst (TriangularIfAny (λ w. occurs_in w es ≡ true)) e (mgu_triangular (λ w. occurs_in w es ≡ true) es (of_own es))) v (λ k. absurd (cc))
