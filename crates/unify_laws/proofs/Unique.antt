-- The solution of equations is unique.
use Rattle.std.proofs.Common.{◌≡◌, List, refl, sym, ap, ◌∙◌, ◌⊎◌, inl, inr, true}
use Rattle.clp_model.specs.declared.tree.Variable.{Variable}
use Rattle.clp_model.specs.declared.tree.Tree.{Tree, Var, App'}
use Rattle.clp_model.specs.Trees.{variables}
use Rattle.clp_model.proofs.Membership.{Among}
use Rattle.unify_model.specs.Substituting.{substituted, comes_before}
use Rattle.unify_model.specs.Equations.{Equation, value_by, under}
use Rattle.unify_model.specs.Solving.{Agrees, IsMostGeneralUnifier, HasNoSolution}
use Rattle.unify_laws.proofs.Variables.{before_twice, not_before}
use Rattle.unify_laws.proofs.Substituted.{substituted_by_itself, value_substituted}
use Rattle.unify_laws.proofs.Marks.{mark, standing, under_standing, tree_standing, standing_agrees, same_under_marks, each_alike}

-- the images of one solution, with another carried out in them, are the images of the other
one_in_other : (es : List Equation) (s r : Variable → Tree Variable) → IsMostGeneralUnifier es s → IsMostGeneralUnifier es r → (v : Variable) → s v ≡ substituted s (r v)
one_in_other es s r i j v =
    let u = standing s in
    let agrees : Agrees (under u) r = (j.solutions u).0 ((i.solutions u).1 (standing_agrees s i.images i.settled)) in
    same_under_marks (s v) (substituted s (r v)) (sym (under_standing s i.images v) ∙ agrees v ∙ tree_standing s i.images (r v))

-- a variable of an image is its own image
fixed : (es : List Equation) (r : Variable → Tree Variable) → IsMostGeneralUnifier es r → (v w : Variable) → Among w (variables (r v)) → r w ≡ Var w
unfolding value_by
fixed es r j v w m =
    same_under_marks (r w) (Var w)
    (each_alike (λ x. value_by mark (r x)) mark (r v) (sym (value_substituted mark r (r v)) ∙ ap (value_by mark) (j.settled v)) w m)

-- what becomes a variable is a variable
variable_before : (f : Variable → Tree Variable) (w : Variable) (t : Tree Variable) → Var w ≡ substituted f t → (x : Variable) × (t ≡ Var x) × (f x ≡ Var w)
unfolding substituted
variable_before f w (Var x) e = (x, refl, sym e)
variable_before f w (App' name shape args) e = absurd (cc)

-- two variables of which neither comes before the other
least_both : (x w : Variable) → (x ≡ w) ⊎ (comes_before x w ≡ true) → (w ≡ x) ⊎ (comes_before w x ≡ true) → x ≡ w
least_both x w (inl e) k = e
least_both x w (inr h) (inl e) = sym e
least_both x w (inr h) (inr k) = absurd (not_before x (before_twice x w x h k))

same_variables : (es : List Equation) (s r : Variable → Tree Variable) → IsMostGeneralUnifier es s → IsMostGeneralUnifier es r → (w : Variable) → r w ≡ Var w → s w ≡ Var w
same_variables es s r i j w e =
    let b = variable_before r w (s w) (sym e ∙ one_in_other es r s j i w) in
    let q : b.0 ≡ w = least_both b.0 w ((i.images w).least b.0 b.1) ((j.images b.0).least w b.2) in
    b.1 ∙ ap Var q

pub only_solution : (es : List Equation) (s r : Variable → Tree Variable) → IsMostGeneralUnifier es s → IsMostGeneralUnifier es r → (v : Variable) → s v ≡ r v
only_solution es s r i j v =
    one_in_other es s r i j v ∙ substituted_by_itself s (r v) (λ w m. same_variables es s r i j w (fixed es r j v w m))

pub solution_has_one : (es : List Equation) (s : Variable → Tree Variable) → IsMostGeneralUnifier es s → HasNoSolution es → ⊥
solution_has_one es s i none = none (standing s) ((i.solutions (standing s)).1 (standing_agrees s i.images i.settled))
