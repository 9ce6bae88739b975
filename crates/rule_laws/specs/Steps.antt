-- What a step makes of a program of marked clauses.
use Rattle.std.specs.Prelude.{◌≡◌, ◌⊎◌, ℕ, ◌<◌, List, [], ◌∷◌, length, true, Contains, Some, All}
use Rattle.clp_model.specs.Trees.{IsApplication}
use Rattle.clp_model.specs.Clauses.{Clause}
use Rattle.clp_meaning.specs.Laws.{HasTwice, without_atom}
use Rattle.clp_rank.specs.Entries.{Entry}
use Rattle.clause_model.specs.Canonical.{canonical_form}
use Rattle.clause_model.specs.Solved.{RowsAreNum}
use Rattle.unfold_model.specs.Resolvent.{resolvent, HasPlaces}

-- a clause as a program holds it: without equations, its head and atoms are applications, its variables have their
-- places, and those of rows are Num
pub record IsHeld (c : Clause) : Type 0 where
  pub equations : c.equations ≡ []
  pub applications : All IsApplication (c.head ∷ c.body)
  pub places : HasPlaces c
  pub nums : RowsAreNum c

-- the entry of a resolvent
abbrev pub resolved : Clause → Entry
resolved d = record { clause = canonical_form d; mark = true }

-- k is replaced by the marked canonical forms of its resolvents, at place i of its body, with all live clauses, itself among them
pub record IsUnfolding (live next : List Entry) (k : Entry) (i : ℕ) : Type 0 where
  pub was : Contains live k
  pub place : i < length k.clause.body
  pub held : (e : Entry) → Contains live e → IsHeld e.clause
  pub kept : (e : Entry) → Contains live e → (e ≡ k) ⊎ Contains next e
  pub made : (e : Entry) (d : Clause) → Contains live e → resolvent k.clause i e.clause ≡ Some d → Contains next (resolved d)
  pub old : (r : Entry) → Contains next r → Contains live r ⊎ ((e : Entry) × (d : Clause) × Contains live e × (resolvent k.clause i e.clause ≡ Some d) × (r ≡ resolved d))

-- k is replaced by the canonical form of its clause without the second of two equal atoms, with its mark
pub record IsMerge (live next : List Entry) (k : Entry) (first second : ℕ) : Type 0 where
  pub was : Contains live k
  pub held : IsHeld k.clause
  pub twice : HasTwice k.clause first second
  pub now : Contains next (record { clause = canonical_form (without_atom k.clause second); mark = k.mark })
  pub kept : (e : Entry) → Contains live e → (e ≡ k) ⊎ Contains next e
  pub old : (r : Entry) → Contains next r → (r ≡ record { clause = canonical_form (without_atom k.clause second); mark = k.mark }) ⊎ Contains live r
