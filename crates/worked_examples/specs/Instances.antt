-- Examples of equations, instances and proofs.
use Rattle.std.specs.Prelude.{◌≡◌, ◌<◌, pos, negsuc, [], ◌∷◌}
use Rattle.clp_model.specs.declared.sort.Sort.TheVariants.{Any, Num}
use Rattle.clp_model.specs.declared.sort.Rel.TheVariants.{Le}
use Rattle.clp_model.specs.declared.tree.Tree.{Var, App}
use Rattle.clp_model.specs.Values.{Valuation, number_over}
use Rattle.clp_model.specs.Clauses.{Clause, EquationHolds, Instance}
use Rattle.clp_model.specs.Proof.{Provable, proof_size}
use Rattle.worked_examples.specs.Samples.{f, p, q, a, b, constant, ground, one_goal, two_clauses}

-- f(V1) = f(a) holds where V1 is a
abbrev pub EquationAtA : Type 0
EquationAtA = (u : Valuation) → u.value 1 ≡ constant a → EquationHolds (Any ∷ []) u (App f (Var 1 ∷ []), App f (App a [] ∷ []))

-- and not where V1 is b
abbrev pub EquationAtB : Type 0
EquationAtB = (u : Valuation) → u.value 1 ≡ constant b → EquationHolds (Any ∷ []) u (App f (Var 1 ∷ []), App f (App a [] ∷ [])) → ⊥

-- p(a) with the body q(a) is an instance of p(V1) :- q(V1)
abbrev pub InstanceAtA : Type 0
InstanceAtA = Instance one_goal (ground p (constant a)) (ground q (constant a) ∷ [])

-- p(a) with the body q(b) is not
abbrev pub NoInstance : Type 0
NoInstance = Instance one_goal (ground p (constant a)) (ground q (constant b) ∷ []) → ⊥

-- p(V1) where V1 - 1 =< 0
abbrev pub bounded : Clause
bounded =
    record {
      head = App p (Var 1 ∷ []);
      equations = [];
      rows = record { rel = Le; pairs = (1, pos 1) ∷ []; constant = negsuc 0 } ∷ [];
      body = [];
      sorts = Num ∷ [];
    }

-- p(1/2) is an instance of it
abbrev pub InstanceWithRow : Type 0
InstanceWithRow = (h : 0 < 2) → Instance bounded (ground p (number_over (pos 1) 2 h)) []

-- p(2) is not
abbrev pub NoInstanceWithRow : Type 0
NoInstanceWithRow = (h : 0 < 1) → Instance bounded (ground p (number_over (pos 2) 1 h)) [] → ⊥

-- p(a) has a proof of two nodes from p(V1) :- q(V1) and q(a)
abbrev pub ProofOfTwoNodes : Type 0
ProofOfTwoNodes = (t : Provable two_clauses (ground p (constant a))) × (proof_size t ≡ 2)

-- q(b) has none
abbrev pub NotProvable : Type 0
NotProvable = Provable two_clauses (ground q (constant b)) → ⊥

-- nor has p(b), whose only clause asks for q(b)
abbrev pub NotProvableAbove : Type 0
NotProvableAbove = Provable two_clauses (ground p (constant b)) → ⊥
