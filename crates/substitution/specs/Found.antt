-- Bindings that are found while patterns meet targets.
use Rattle.std.specs.Prelude.{ℕ, ◌≡◌, ◌<◌, Bool, true, false, List, get_or}
use Rattle.clp_model.specs.declared.tree.Variable.{Variable}
use Rattle.clp_model.specs.declared.tree.Tree.{Tree}
use Rattle.clp_model.proofs.Membership.{Among}
use Rattle.term_store.specs.Trees.{tree_at}
use Rattle.unify_model.specs.Substituting.{substituted}
use Rattle.unify_model.specs.Matching.{image_at_once, Respects}
use Rattle.unify_laws.proofs.Matched.{AllBecome}
use Rattle.unify_laws.proofs.Matchings.{AllTake}
use Rattle.substitution.specs.declared.bindings.Bound.{Bound}
use Rattle.substitution.specs.Bindings.{bound, AreBound}

-- what is claimed of a substitution
abbrev pub Claim : Type 1
Claim = (Variable → Tree Variable) → Type 0

-- the terms are of the store, and each variable becomes the tree of its binding where all are put in at once
pub record AreFound (store : List (Tree Variable)) (items : List Bound) : Type 0 where
  pub terms : AreBound store items
  pub once : AllBecome (image_at_once (bound store items)) (bound store items)

-- the bindings pass a test that the variables pass, and respect sorts
abbrev pub AllPass : (Variable → Bool) → List (Tree Variable) → List Bound → Type 0
AllPass p store items = AllTake (λ v. p v ≡ true) (bound store items)

-- the bindings after what was claimed of these variables: a substitution that respects sorts gives them exactly where it
-- gives those before and the claim holds
pub record IsMet (store : List (Tree Variable)) (vs : List Variable) (old new : List Bound) (claim : Claim) : Type 0 where
  pub found : AreFound store new
  pub takes : (p : Variable → Bool) → ((v : Variable) → Among v vs → p v ≡ true) → AllPass p store old → AllPass p store new
  pub all : (f : Variable → Tree Variable) → Respects f → AllBecome f (bound store new) → AllBecome f (bound store old) × claim f
  pub only : (f : Variable → Tree Variable) → Respects f → AllBecome f (bound store old) → claim f → AllBecome f (bound store new)

-- no substitution that respects sorts and gives the bindings fulfils the claim
abbrev pub NeverMet : List (Tree Variable) → List Bound → Claim → Type 0
NeverMet store old claim = (f : Variable → Tree Variable) → Respects f → AllBecome f (bound store old) → claim f → ⊥

abbrev pub MetIf : Bool → List (Tree Variable) → List Variable → List Bound → List Bound → Claim → Type 0
MetIf true store vs old new claim = IsMet store vs old new claim
MetIf false store vs old new claim = NeverMet store old claim

-- the first so many targets are made of their patterns
abbrev pub EachIs : List (Tree Variable) → List ℕ → List ℕ → ℕ → Claim
EachIs store ps ts n f = (k : ℕ) → k < n → substituted f (tree_at store (get_or ps k 0)) ≡ tree_at store (get_or ts k 0)
