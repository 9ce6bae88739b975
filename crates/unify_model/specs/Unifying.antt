-- The most general unifier: equations are taken apart into bindings, and bindings are carried out one after another.
use Rattle.std.specs.Prelude.{ℕ, zero, suc, List, [], ◌∷◌, ◌++◌, length, Option, Some, None, if◌then◌else◌}
use Rattle.std.specs.Str.{bytes_eq}
use Rattle.clp_model.specs.declared.sort.Sort.{Sort}
use Rattle.clp_model.specs.declared.sort.Sort.TheVariants.{Any, Num}
use Rattle.clp_model.specs.declared.tree.Variable.{Variable}
use Rattle.clp_model.specs.declared.tree.Tree.{Tree, Var, App', Row_of-Tree, end_of-Tree, more_of-Tree}
use Rattle.clp_model.specs.Trees.{variables}
use Rattle.unify_model.specs.Substituting.{substituted, same_variable, comes_before, occurs, Binding, replacing}
use Rattle.unify_model.specs.Equations.{Equation}

-- both lists, where both are
abbrev pub joined : Option (List Binding) → Option (List Binding) → Option (List Binding)
joined (Some bs) (Some cs) = Some (bs ++ cs)
joined _ _ = None

abbrev pub then_by : Option (List Binding) → (List Binding → Option (List Binding)) → Option (List Binding)
then_by None f = None
then_by (Some bs) f = f bs

-- equal variables are dropped; of two others the later one is bound to the earlier
abbrev pub of_variables : Variable → Variable → Option (List Binding)
of_variables v w =
    if same_variable v w then Some []
    else (if comes_before v w then Some ((w, Var v) ∷ []) else Some ((v, Var w) ∷ []))

-- a Num variable is no application
abbrev pub of_application : Sort → Variable → Tree Variable → Option (List Binding)
of_application Any v t = Some ((v, t) ∷ [])
of_application Num v t = None

-- the equation of two trees as bindings of variables: None where two applications differ in name or number of arguments
unfoldable mutual
  pub apart : Tree Variable → Tree Variable → Option (List Binding)
  apart (Var v) (Var w) = of_variables v w
  apart (Var v) (App' g shape us) = of_application v.sort v (App' g shape us)
  apart (App' f shape ts) (Var w) = of_application w.sort w (App' f shape ts)
  apart (App' f shape ts) (App' g shape' us) = if bytes_eq f g then row_apart ts us else None

  pub row_apart : {m n : _} → Row_of-Tree Variable m → Row_of-Tree Variable n → Option (List Binding)
  row_apart end_of-Tree end_of-Tree = Some []
  row_apart (more_of-Tree t ts) (more_of-Tree u us) = joined (apart t u) (row_apart ts us)
  row_apart end_of-Tree (more_of-Tree u us) = None
  row_apart (more_of-Tree t ts) end_of-Tree = None

abbrev pub all_apart : List Equation → Option (List Binding)
all_apart [] = Some []
all_apart (e ∷ es) = joined (apart e.0 e.1) (all_apart es)

-- the bindings as equations, with one binding carried out in them
abbrev pub carried_out : Binding → List Binding → List Equation
carried_out b [] = []
carried_out b (c ∷ cs) = (replacing b c.0, substituted (replacing b) c.1) ∷ carried_out b cs

abbrev pub with_first : Binding → Option (List Binding) → Option (List Binding)
with_first b None = None
with_first b (Some bs) = Some (b ∷ bs)

-- The first binding is carried out in the others, which are then taken apart and solved. Each turn takes a variable away,
-- so that as many turns as there are variables are enough.
abbrev pub solved : ℕ → List Binding → Option (List Binding)
solved turns [] = Some []
solved zero (b ∷ bs) = None
solved (suc turns) (b ∷ bs) = if occurs b.0 b.1 then None else with_first b (then_by (all_apart (carried_out b bs)) (solved turns))

abbrev pub variables_of : List Binding → List Variable
variables_of [] = []
variables_of (b ∷ bs) = b.0 ∷ variables b.1 ++ variables_of bs

abbrev pub solved_all : List Binding → Option (List Binding)
solved_all bs = solved (length (variables_of bs)) bs

-- the most general unifier, as bindings to be carried out one after another, or None where there is none
unfoldable pub most_general_unifier : List Equation → Option (List Binding)
most_general_unifier es = then_by (all_apart es) solved_all

-- the same of two lists of trees
abbrev pub list_apart : List (Tree Variable) → List (Tree Variable) → Option (List Binding)
list_apart [] [] = Some []
list_apart (t ∷ ts) (u ∷ us) = joined (apart t u) (list_apart ts us)
list_apart _ _ = None
