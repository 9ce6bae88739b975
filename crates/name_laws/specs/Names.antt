-- Of which names and predicates a clause is made.
use Rattle.std.specs.Prelude.{◌≡◌, ℕ, Bool, true, List, All, Option, Some, Contains}
use Rattle.clp_model.specs.declared.tree.Tree.{Tree, Var, App', Row_of-Tree, end_of-Tree, more_of-Tree}
use Rattle.clp_model.specs.declared.predicate.Pred.{Pred}
use Rattle.clp_model.specs.Trees.{IsApplication}
use Rattle.clp_model.specs.Clauses.{Clause}
use Rattle.clp_model.specs.Predicates.{predicate_of}
use Rattle.clause_store.specs.Source.{meaning_of}
use Rattle.map_model.specs.declared.step.Step.{Step}
use Rattle.map_model.specs.declared.step.Step.TheVariants.{Define}
use Rattle.map_model.specs.State.{State, live_clauses}

-- each name in the tree passes the test
unfoldable mutual
  pub HasNames : {V : Type 0} → (List ℕ → Bool) → Tree V → Type 0
  HasNames p (Var v) = Unit {0}
  HasNames p (App' name shape args) = (p name ≡ true) × RowHasNames p args

  pub RowHasNames : {V : Type 0} {m : _} → (List ℕ → Bool) → Row_of-Tree V m → Type 0
  RowHasNames p end_of-Tree = Unit {0}
  RowHasNames p (more_of-Tree t ts) = HasNames p t × RowHasNames p ts

-- an application whose predicate passes the test q, and each of whose names passes the test p
pub record IsAtomOver {V : Type 0} (p : List ℕ → Bool) (q : Pred → Bool) (atom : Tree V) : Type 0 where
  pub application : IsApplication atom
  pub predicate : q (predicate_of atom) ≡ true
  pub names : HasNames p atom

-- so are the head and the body atoms of a clause
pub record AreOver (p : List ℕ → Bool) (q : Pred → Bool) (c : Clause) : Type 0 where
  pub head : IsAtomOver p q c.head
  pub body : All (IsAtomOver p q) c.body

-- each name in both sides of each equation passes the test
abbrev pub EquationsHaveNames : (List ℕ → Bool) → Clause → Type 0
EquationsHaveNames p c = All (λ e. HasNames p e.0 × HasNames p e.1) c.equations

-- each clause at these places, some of which may be empty
abbrev pub EachPlaced : (Clause → Type 0) → List (Option Clause) → Type 0
EachPlaced P clauses = (c : Clause) → Contains clauses (Some c) → P c

-- each live clause and each kept definition of a state
abbrev pub EachKept : (Clause → Type 0) → State → Type 0
EachKept P s = All P (live_clauses s) × All P s.definitions

-- so is the definition that a step adds, with its equations
abbrev pub IsStepOver : (List ℕ → Bool) → (Pred → Bool) → Step → Type 0
IsStepOver p q (Define source) = EquationsHaveNames p (meaning_of source) × AreOver p q (meaning_of source)
IsStepOver p q _ = Unit {0}
