-- The laws of the most general unifier and of matching.
use Rattle.std.specs.Prelude.{◌≡◌, ◌↔◌, Bool, false, ◌||◌, List, [], ◌∷◌, Some, None, IsTrue, ◌⊎◌}
use Rattle.clp_model.specs.declared.tree.Variable.{Variable}
use Rattle.clp_model.specs.declared.tree.Tree.{Tree, Var}
use Rattle.clp_model.specs.Values.{Valuation}
use Rattle.unify_model.specs.Substituting.{Binding, substituted, comes_before, occurs, image}
use Rattle.unify_model.specs.Equations.{Equation, AllHold, under}
use Rattle.unify_model.specs.Unifying.{most_general_unifier}
use Rattle.unify_model.specs.Solving.{IsMostGeneralUnifier, HasNoSolution}
use Rattle.unify_model.specs.Matching.{image_at_once, matched, IsMatching, HasNoMatching}

-- the images of the most general unifier solve the equations, are settled, and are the least
abbrev pub UnifierIsMostGeneral : Type 0
UnifierIsMostGeneral = (es : List Equation) (bs : List Binding) → most_general_unifier es ≡ Some bs → IsMostGeneralUnifier es (image bs)

-- there is none exactly where no valuation makes the equations hold
abbrev pub NoneIsNoSolution : Type 0
NoneIsNoSolution = (es : List Equation) → (most_general_unifier es ≡ None) ↔ HasNoSolution es

-- what fulfils the definition has one image for each variable
abbrev pub UnifierIsUnique : Type 0
UnifierIsUnique = (es : List Equation) (s r : Variable → Tree Variable) → IsMostGeneralUnifier es s → IsMostGeneralUnifier es r → (v : Variable) → s v ≡ r v

-- an image of an image is the image
abbrev pub ImageOfImageIsImage : Type 0
ImageOfImageIsImage = (es : List Equation) (bs : List Binding) → most_general_unifier es ≡ Some bs → (v : Variable) → substituted (image bs) (image bs v) ≡ image bs v

-- two variables have the same value under every valuation that makes the equations hold
abbrev pub AreEquated : List Equation → Variable → Variable → Type 0
AreEquated es v w = (u : Valuation) → AllHold (under u) es → under u v ≡ under u w

-- variables have one image exactly where the equations make them equal
abbrev pub OneImageForEach : Type 0
OneImageForEach = (es : List Equation) (bs : List Binding) → most_general_unifier es ≡ Some bs → (v w : Variable) → (image bs v ≡ image bs w) ↔ AreEquated es v w

-- a variable that is an image is of the class that it stands for, and comes before all others of it: Num before Any, and then the lower number
abbrev pub LeastVariableStands : Type 0
LeastVariableStands = (es : List Equation) (bs : List Binding) → most_general_unifier es ≡ Some bs → (v r : Variable) → image bs v ≡ Var r →
    AreEquated es v r × ((w : Variable) → AreEquated es v w → (r ≡ w) ⊎ IsTrue (comes_before r w))

-- whether the equations hold the variable
abbrev pub occurs_in : Variable → List Equation → Bool
occurs_in v [] = false
occurs_in v (e ∷ es) = (occurs v e.0 || occurs v e.1) || occurs_in v es

-- a variable that the equations do not hold is its own image
abbrev pub OtherVariablesStay : Type 0
OtherVariablesStay = (es : List Equation) (bs : List Binding) → most_general_unifier es ≡ Some bs → (v : Variable) → occurs_in v es ≡ false → image bs v ≡ Var v

-- ---- matching
-- the bindings that are matched, carried out at once, are a matching
abbrev pub MatchedIsMatching : Type 0
MatchedIsMatching = (patterns targets : List (Tree Variable)) (bs : List Binding) → matched patterns targets ≡ Some bs → IsMatching patterns targets (image_at_once bs)

-- there are none exactly where no substitution that respects sorts makes the targets of the patterns
abbrev pub NoneIsNoMatching : Type 0
NoneIsNoMatching = (patterns targets : List (Tree Variable)) → (matched patterns targets ≡ None) ↔ HasNoMatching patterns targets

-- a matching has one image for each variable
abbrev pub MatchingIsUnique : Type 0
MatchingIsUnique = (patterns targets : List (Tree Variable)) (f g : Variable → Tree Variable) → IsMatching patterns targets f → IsMatching patterns targets g → (v : Variable) → f v ≡ g v
