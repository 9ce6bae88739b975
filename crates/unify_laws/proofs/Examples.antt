-- Worked examples.
use Rattle.std.proofs.Common.{◌≡◌, ℕ, [], ◌∷◌, refl, Some, None}
use Rattle.std.specs.Prelude.{codes}
use Rattle.clp_model.specs.declared.sort.Sort.TheVariants.{Any, Num}
use Rattle.clp_model.specs.declared.tree.Variable.{Variable}
use Rattle.clp_model.specs.declared.tree.Tree.{Tree, Var, App}
use Rattle.clp_model.specs.declared.tree.Tree.TheBlock as block
use Rattle.clp_model.specs.Trees.{variables}
use Rattle.unify_model.specs.Substituting.{substituted}
use Rattle.unify_model.specs.Unifying.{most_general_unifier, apart}

abbrev any : ℕ → Variable
any n = record { number = n; sort = Any }

abbrev num : ℕ → Variable
num n = record { number = n; sort = Num }

abbrev p : Tree Variable → Tree Variable → Tree Variable
p t u = App (codes "p") (t ∷ u ∷ [])

abbrev f : Tree Variable → Tree Variable
f t = App (codes "f") (t ∷ [])

-- V1 = V3, V3 = V2 where V3 is Num: all stand for V3
least_number : most_general_unifier ((Var (any 1), Var (num 3)) ∷ (Var (num 3), Var (any 2)) ∷ []) ≡ Some ((any 1, Var (num 3)) ∷ (any 2, Var (num 3)) ∷ [])
unfolding most_general_unifier apart substituted variables
least_number = refl

-- V3 = V2, V2 = V1: all stand for V1
least_any : most_general_unifier ((Var (any 3), Var (any 2)) ∷ (Var (any 2), Var (any 1)) ∷ []) ≡ Some ((any 3, Var (any 2)) ∷ (any 2, Var (any 1)) ∷ [])
unfolding most_general_unifier apart substituted variables
least_any = refl

-- a Num variable is no application
number_is_no_application : most_general_unifier ((Var (num 1), f (Var (any 2))) ∷ []) ≡ None
unfolding most_general_unifier apart substituted variables block.hidden-the_row-Tree-0 denote.Hole.Carrier.hidden
number_is_no_application = refl

-- p(X, X) and p(Y, f(Y)) don't unify
occurs_check : most_general_unifier ((p (Var (any 1)) (Var (any 1)), p (Var (any 2)) (f (Var (any 2)))) ∷ []) ≡ None
unfolding most_general_unifier apart substituted variables block.hidden-the_row-Tree-0 denote.Hole.Carrier.hidden
occurs_check = refl

-- p(X, f(X)) = p(f(Y), Z): X is f(Y), and Z is f(f(Y))
binds : most_general_unifier ((p (Var (any 1)) (f (Var (any 1))), p (f (Var (any 2))) (Var (any 3))) ∷ []) ≡ Some ((any 1, f (Var (any 2))) ∷ (any 3, f (f (Var (any 2)))) ∷ [])
unfolding most_general_unifier apart substituted variables block.hidden-the_row-Tree-0 denote.Hole.Carrier.hidden
binds = refl
