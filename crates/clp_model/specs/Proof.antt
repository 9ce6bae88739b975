-- Proof trees, and what is provable: the least model of a program.
use Rattle.std.specs.Prelude.{ℕ, suc, ◌+◌, List, [], ◌∷◌, Contains}
use Rattle.clp_model.specs.Values.{GroundAtom}
use Rattle.clp_model.specs.Clauses.{Clause, Instance}

-- a finite tree of atoms; each node with its children, in order, is given by the rule
mutual
  pub data Proof {A : Type 0} (rule : A → List A → Type 0) : A → Type 0 where
    Node : {a : A} {body : List A} → rule a body → Proofs rule body → Proof rule a

  pub data Proofs {A : Type 0} (rule : A → List A → Type 0) : List A → Type 0 where
    NoProof : Proofs rule []
    AndProof : {a : A} {body : List A} → Proof rule a → Proofs rule body → Proofs rule (a ∷ body)

-- the number of nodes
abbrev mutual
  pub proof_size : {A : Type 0} {rule : A → List A → Type 0} {a : A} → Proof rule a → ℕ
  proof_size (Node r ps) = suc (proofs_size ps)

  pub proofs_size : {A : Type 0} {rule : A → List A → Type 0} {body : List A} → Proofs rule body → ℕ
  proofs_size NoProof = 0
  proofs_size (AndProof p ps) = proof_size p + proofs_size ps

-- an instance of some clause of the program
abbrev pub InstanceIn : List Clause → GroundAtom → List GroundAtom → Type 0
InstanceIn program a body = (c : Clause) × Contains program c × Instance c a body

-- some proof in the program has this root
abbrev pub Provable : List Clause → GroundAtom → Type 0
Provable program a = Proof (InstanceIn program) a
