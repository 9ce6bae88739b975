-- What keeps instances, and what keeps provability.
use Rattle.std.specs.Prelude.{◌≡◌, ◌≢◌, ◌⊎◌, ◌↔◌, ℕ, ◌<◌, List, [], Contains, length, slice_index_or, remove, Ok}
use Rattle.clp_model.specs.declared.tree.Tree.{Tree}
use Rattle.clp_model.specs.declared.clause.SourceClause.{SourceClause}
use Rattle.clp_model.specs.Values.{GroundAtom}
use Rattle.clp_model.specs.Clauses.{Clause, Instance, of_source}
use Rattle.clp_model.specs.Proof.{Provable}
use Rattle.clp_model.specs.Canonical.{canonical_form, new_clause, IsCanonical}

-- a clause without equations and rows
pub record HasNoConstraint (c : Clause) : Type 0 where
  pub equations : c.equations ≡ []
  pub rows : c.rows ≡ []

-- each instance of d is an instance of c
abbrev pub HasInstancesOf : Clause → Clause → Type 0
HasInstancesOf c d = (a : GroundAtom) (body : List GroundAtom) → Instance d a body → Instance c a body

abbrev pub HaveSameInstances : Clause → Clause → Type 0
HaveSameInstances c d = HasInstancesOf c d × HasInstancesOf d c

abbrev pub CanonicalFormKeepsInstances : Type 0
CanonicalFormKeepsInstances = (c : Clause) → HasNoConstraint c → HaveSameInstances (canonical_form c) c

-- the clause that a source clause is loaded as
abbrev pub LoadedClauseKeepsInstances : Type 0
LoadedClauseKeepsInstances =
    (s : SourceClause) (c : Clause) → new_clause (of_source s) ≡ Ok c → HaveSameInstances c (of_source s)

-- what a new clause becomes is its canonical form, which is canonical and within the limits
abbrev pub NewClauseIsCanonical : Type 0
NewClauseIsCanonical = (c d : Clause) → new_clause c ≡ Ok d → (d ≡ canonical_form c) × IsCanonical d

-- a canonical clause within the limits stays as it is
abbrev pub CanonicalClauseStays : Type 0
CanonicalClauseStays = (c : Clause) → IsCanonical c → new_clause c ≡ Ok c

-- each clause of p has its instances among those of some clause of q
abbrev pub HasClausesOf : List Clause → List Clause → Type 0
HasClausesOf q p = (c : Clause) → Contains p c → (d : Clause) × Contains q d × HasInstancesOf d c

abbrev pub SameInstancesKeepProvability : Type 0
SameInstancesKeepProvability =
    (p q : List Clause) → HasClausesOf q p → HasClausesOf p q → (a : GroundAtom) → Provable q a ↔ Provable p a

-- two places of the body hold the same atom
pub record HasTwice (c : Clause) (first second : ℕ) : Type 0 where
  pub apart : first ≢ second
  pub first_within : first < length c.body
  pub second_within : second < length c.body
  pub same : (d : Tree ℕ) → slice_index_or c.body first d ≡ slice_index_or c.body second d

-- the clause without the atom at this place
abbrev pub without_atom : Clause → ℕ → Clause
without_atom c at = record c { body = remove c.body at }

-- q has the clauses of p, but d in the place of c
pub record Replaced (p q : List Clause) (c d : Clause) : Type 0 where
  pub was : Contains p c
  pub now : Contains q d
  pub kept : (x : Clause) → Contains p x → (x ≡ c) ⊎ Contains q x
  pub old : (x : Clause) → Contains q x → (x ≡ d) ⊎ Contains p x

abbrev pub MergeKeepsProvability : Type 0
MergeKeepsProvability =
    (p q : List Clause) (c : Clause) (first second : ℕ) → HasNoConstraint c → HasTwice c first second
    → Replaced p q c (canonical_form (without_atom c second)) → (a : GroundAtom) → Provable q a ↔ Provable p a
