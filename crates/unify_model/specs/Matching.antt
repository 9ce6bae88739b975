-- One-sided matching: what the variables of a pattern become. The variables of the target are constants.
use Rattle.std.specs.Prelude.{◌≡◌, Bool, true, false, ◌&&◌, List, [], ◌∷◌, Option, Some, None, if◌then◌else◌}
use Rattle.std.specs.List.{list_any}
use Rattle.std.specs.Str.{bytes_eq}
use Rattle.clp_model.specs.declared.sort.Sort.{Sort}
use Rattle.clp_model.specs.declared.sort.Sort.TheVariants.{Any, Num}
use Rattle.clp_model.specs.declared.tree.Variable.{Variable}
use Rattle.clp_model.specs.declared.tree.Tree.{Tree, Var, App', Row_of-Tree, end_of-Tree, more_of-Tree}
use Rattle.clp_model.specs.Trees.{variables_in}
use Rattle.unify_model.specs.Substituting.{substituted_all, same_variable, Binding}
use Rattle.unify_model.specs.Unifying.{joined}

abbrev pub is_number : Sort → Bool
is_number Num = true
is_number Any = false

-- whether a variable of this sort may become this tree
abbrev pub takes : Sort → Tree Variable → Bool
takes Any t = true
takes Num (Var v) = is_number v.sort
takes Num (App' name shape args) = false

-- what each variable of a tree becomes, in the order of the text
unfoldable mutual
  pub met : Tree Variable → Tree Variable → Option (List Binding)
  met (Var v) u = if takes v.sort u then Some ((v, u) ∷ []) else None
  met (App' f shape ts) (App' g shape' us) = if bytes_eq f g then row_met ts us else None
  met (App' f shape ts) (Var w) = None

  pub row_met : {m n : _} → Row_of-Tree Variable m → Row_of-Tree Variable n → Option (List Binding)
  row_met end_of-Tree end_of-Tree = Some []
  row_met (more_of-Tree t ts) (more_of-Tree u us) = joined (met t u) (row_met ts us)
  row_met end_of-Tree (more_of-Tree u us) = None
  row_met (more_of-Tree t ts) end_of-Tree = None

-- what takes the place of a variable when all bindings are carried out at once
abbrev pub image_at_once : List Binding → Variable → Tree Variable
image_at_once [] v = Var v
image_at_once (b ∷ bs) v = if same_variable b.0 v then b.1 else image_at_once bs v

abbrev pub Respects : (Variable → Tree Variable) → Type 0
Respects f = (v : Variable) → takes v.sort (f v) ≡ true

-- ---- the bindings of one variable
-- whether two trees are equal
unfoldable mutual
  pub same_tree : Tree Variable → Tree Variable → Bool
  same_tree (Var v) (Var w) = same_variable v w
  same_tree (App' f shape ts) (App' g shape' us) = bytes_eq f g && same_row ts us
  same_tree (Var v) (App' g shape us) = false
  same_tree (App' f shape ts) (Var w) = false

  pub same_row : {m n : _} → Row_of-Tree Variable m → Row_of-Tree Variable n → Bool
  same_row end_of-Tree end_of-Tree = true
  same_row (more_of-Tree t ts) (more_of-Tree u us) = same_tree t u && same_row ts us
  same_row end_of-Tree (more_of-Tree u us) = false
  same_row (more_of-Tree t ts) end_of-Tree = false

-- whether the variable of a binding has the same tree in all the others
abbrev pub agrees_with : Binding → List Binding → Bool
agrees_with b [] = true
agrees_with b (c ∷ cs) = (if same_variable b.0 c.0 then same_tree b.1 c.1 else true) && agrees_with b cs

-- whether each variable has one tree
abbrev pub consistent : List Binding → Bool
consistent [] = true
consistent (b ∷ bs) = agrees_with b bs && consistent bs

-- what each variable of the patterns becomes
abbrev pub list_met : List (Tree Variable) → List (Tree Variable) → Option (List Binding)
list_met [] [] = Some []
list_met (t ∷ ts) (u ∷ us) = joined (met t u) (list_met ts us)
list_met _ _ = None

abbrev pub if_consistent : Option (List Binding) → Option (List Binding)
if_consistent None = None
if_consistent (Some bs) = if consistent bs then Some bs else None

-- the bindings that, carried out at once, make the targets of the patterns, or None where there are none
unfoldable pub matched : List (Tree Variable) → List (Tree Variable) → Option (List Binding)
matched patterns targets = if_consistent (list_met patterns targets)

-- the images respect sorts and make the targets of the patterns; every variable that the patterns do not hold is its own image
pub record IsMatching (patterns targets : List (Tree Variable)) (f : Variable → Tree Variable) : Type 0 where
  pub respects : Respects f
  pub is : substituted_all f patterns ≡ targets
  pub others : (v : Variable) → list_any (same_variable v) (variables_in patterns) ≡ false → f v ≡ Var v

-- no substitution that respects sorts makes the targets of the patterns
abbrev pub HasNoMatching : List (Tree Variable) → List (Tree Variable) → Type 0
HasNoMatching patterns targets = (f : Variable → Tree Variable) → Respects f → substituted_all f patterns ≡ targets → ⊥
