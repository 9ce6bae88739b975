-- The one induction over proof trees: where each node can be carried over, each proof can.
use Rattle.std.proofs.Common.{List}
use Rattle.clp_model.specs.Proof.{Proof, Node, Proofs, NoProof, AndProof}

-- what the rule p gives, with a body that q proves, q proves
abbrev pub Carries : {A : Type 0} → (p q : A → List A → Type 0) → Type 0
Carries {A} p q = (a : A) (body : List A) → p a body → Proofs q body → Proof q a

mutual
  pub carried : {A : Type 0} (p q : A → List A → Type 0) → Carries p q → {a : A} → Proof p a → Proof q a
  carried p q h (Node r ps) = h _ _ r (all_carried p q h ps)

  pub all_carried : {A : Type 0} (p q : A → List A → Type 0) → Carries p q → {body : List A} → Proofs p body → Proofs q body
  all_carried p q h NoProof = NoProof
  all_carried p q h (AndProof x xs) = AndProof (carried p q h x) (all_carried p q h xs)
