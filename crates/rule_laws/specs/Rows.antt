-- What the rules on constraints make of a program of marked clauses.
use Rattle.std.specs.Prelude.{◌≡◌, ◌⊎◌, List, [], Contains}
use Rattle.clp_model.specs.Clauses.{Clause}
use Rattle.clp_rank.specs.Entries.{Entry}
use Rattle.clause_model.specs.Canonical.{canonical_form}

-- k is replaced by the canonical form of a clause without equations, with its mark
pub record IsReplacement (live next : List Entry) (k : Entry) (c : Clause) : Type 0 where
  pub was : Contains live k
  pub no_equations : c.equations ≡ []
  pub now : Contains next (record { clause = canonical_form c; mark = k.mark })
  pub kept : (e : Entry) → Contains live e → (e ≡ k) ⊎ Contains next e
  pub old : (r : Entry) → Contains next r → (r ≡ record { clause = canonical_form c; mark = k.mark }) ⊎ Contains live r

-- k is removed
pub record IsDeletion (live next : List Entry) (k : Entry) : Type 0 where
  pub was : Contains live k
  pub kept : (e : Entry) → Contains live e → (e ≡ k) ⊎ Contains next e
  pub old : (r : Entry) → Contains next r → Contains live r
