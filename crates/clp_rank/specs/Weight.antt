-- The weight of a proof.
use Rattle.std.specs.Prelude.{ℕ, ◌+◌, ◌-◌, List, Bool, if◌then◌else◌}
use Rattle.clp_model.specs.Proof.{Proof, Proofs, NoProof, AndProof, proof_size}

-- the number of nodes, less one where the root's predicate is defined
abbrev pub weight : {A : Type 0} {rule : A → List A → Type 0} → (A → Bool) → {a : A} → Proof rule a → ℕ
weight defined {a} p = proof_size p - (if defined a then 1 else 0)

abbrev pub weights : {A : Type 0} {rule : A → List A → Type 0} → (A → Bool) → {body : List A} → Proofs rule body → ℕ
weights defined NoProof = 0
weights defined (AndProof p ps) = weight defined p + weights defined ps
