-- The rank said of least proofs.
use Rattle.std.specs.Prelude.{◌≡◌, ℕ, ◌+◌, ◌<◌, ◌≤◌, List, [], ◌∷◌, true}
use Rattle.std.specs.List.{AllZip}
use Rattle.clp_model.specs.Proof.{Proof, Proofs}
use Rattle.clp_rank.specs.Weight.{weight}
use Rattle.clp_rank.specs.Ranked.{Setting, InstanceIn}

abbrev pub total : List ℕ → ℕ
total [] = 0
total (w ∷ ws) = w + total ws

-- w is the weight of a least proof of a
pub record IsLeast (s : Setting) (base : s.Clause → Type 0) (a : s.Atom) (w : ℕ) : Type 0 where
  pub proof : Proof (InstanceIn s base) a
  pub weighs : weight s.defined proof ≡ w
  pub least : (q : Proof (InstanceIn s base) a) → w ≤ weight s.defined q

-- the rule on least weights: the sum over the body is at most w, and less where the clause is marked
pub record LeastCarried (s : Setting) (base live : s.Clause → Type 0) (a : s.Atom) (w : ℕ) : Type 0 where
  pub clause : s.Clause
  pub is_live : live clause
  pub body : List s.Atom
  pub instance : s.instance_of clause a body
  pub proofs : Proofs (InstanceIn s base) body
  pub no_more : (ws : List ℕ) → AllZip (IsLeast s base) body ws → total ws ≤ w
  pub less : (ws : List ℕ) → AllZip (IsLeast s base) body ws → s.mark clause ≡ true → total ws < w
