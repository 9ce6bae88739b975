-- When a program proves what its base proves.
use Rattle.std.specs.Prelude.{◌≡◌, ℕ, ◌<◌, ◌≤◌, List, Bool, true, false}
use Rattle.std.specs.List.{AllByRecursion}
use Rattle.clp_model.specs.Proof.{Proof, Proofs}
use Rattle.clp_rank.specs.Weight.{weight, weights}

-- the atoms, the clauses with their instances and marks, and the predicates that are defined
pub record Setting : Type 1 where
  pub Atom : Type 0
  pub Clause : Type 0
  pub instance_of : Clause → Atom → List Atom → Type 0
  pub mark : Clause → Bool
  pub defined : Atom → Bool

-- an instance of a clause of the program
abbrev pub InstanceIn : (s : Setting) → (s.Clause → Type 0) → s.Atom → List s.Atom → Type 0
InstanceIn s program a body = (c : s.Clause) × program c × s.instance_of c a body

-- an instance of a live clause carries the proof p: its body has proofs that weigh no more, and less where it is marked
pub record Carried (s : Setting) (base live : s.Clause → Type 0) (a : s.Atom) (weight_of : ℕ) : Type 0 where
  pub clause : s.Clause
  pub is_live : live clause
  pub body : List s.Atom
  pub instance : s.instance_of clause a body
  pub proofs : Proofs (InstanceIn s base) body
  pub no_more : weights s.defined proofs ≤ weight_of
  pub less : s.mark clause ≡ true → weights s.defined proofs < weight_of

pub record Ranked (s : Setting) (base live : s.Clause → Type 0) : Type 0 where
  pub unmarked_head : (c : s.Clause) (a : s.Atom) (body : List s.Atom) → live c → s.mark c ≡ false → s.instance_of c a body → s.defined a ≡ true
  pub unmarked_body : (c : s.Clause) (a : s.Atom) (body : List s.Atom) → live c → s.mark c ≡ false → s.instance_of c a body → AllByRecursion (λ b. s.defined b ≡ false) body
  pub sound : (c : s.Clause) (a : s.Atom) (body : List s.Atom) → live c → s.instance_of c a body → Proofs (InstanceIn s base) body → Proof (InstanceIn s base) a
  pub carries : (a : s.Atom) (p : Proof (InstanceIn s base) a) → Carried s base live a (weight s.defined p)
