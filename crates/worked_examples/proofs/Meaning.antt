-- Equations, instances and proofs.
use Rattle.std.proofs.Common.{◌≡◌, ℕ, ◌<◌, List, [], ◌∷◌, refl, sym, ◌∙◌, ap, subst, arith, get_or}
use Rattle.std.specs.Prelude.{pos}
use Rattle.std.proofs.lemmas.List.Elements.{All-nil}
use Rattle.clp_model.specs.declared.sort.Sort.{Sort}
use Rattle.clp_model.specs.declared.sort.Sort.TheVariants.{Any}
use Rattle.clp_model.specs.declared.tree.Tree.{Var, App}
use Rattle.clp_model.specs.Values.{Value, Number, Named, Values, NoValue, AndValue, GroundAtom, Valuation, value_of, atom_of}
use Rattle.clp_model.specs.Clauses.{Clause, Instance, ground_of, sort_in, RowHolds, EquationHolds}
use Rattle.clp_model.specs.Proof.{Proof, Node, Proofs, NoProof, AndProof, Provable, InstanceIn}
use Rattle.clp_model.proofs.Membership.{Among, first, next, to_among}
use Rattle.worked_examples.specs.Samples.{f, p, q, a, b, constant, ground, one_goal, fact, two_clauses}
use Rattle.worked_examples.specs.Instances.{EquationAtA, EquationAtB, InstanceAtA, NoInstance, ProofOfTwoNodes, NotProvable, NotProvableAbove}
use Rattle.worked_examples.proofs.Values.{value_app, value_var}

abbrev sorts : ℕ → Sort
sorts = sort_in (Any ∷ [])

-- ---- the first byte of the first argument tells values apart
abbrev name_byte : Value → ℕ
name_byte (Named name vs) = get_or name 0 0
name_byte (Number g low) = 0

abbrev argument_byte : Values → ℕ
argument_byte NoValue = 0
argument_byte (AndValue v vs) = name_byte v

abbrev value_byte : Value → ℕ
value_byte (Named name vs) = argument_byte vs
value_byte (Number g low) = 0

differ : (m n : ℕ) → n < m → m ≡ n → ⊥
differ m n h e = omega arith

-- ---- values of terms
with_variable : (u : Valuation) (name : List ℕ) → value_of sorts u (App name (Var 1 ∷ [])) ≡ Named name (AndValue (u.value 1) NoValue)
with_variable u name = value_app sorts u name (Var 1 ∷ []) ∙ ap (λ v. Named name (AndValue v NoValue)) (value_var sorts u 1)

with_constant : (sort : ℕ → Sort) (u : Valuation) (name c : List ℕ) → value_of sort u (App name (App c [] ∷ [])) ≡ Named name (AndValue (constant c) NoValue)
with_constant sort u name c = value_app sort u name (App c [] ∷ []) ∙ ap (λ v. Named name (AndValue v NoValue)) (value_app sort u c [])

-- ---- equations
pub equation_at_a : EquationAtA
equation_at_a u e =
    with_variable u f ∙ (ap (λ v. Named f (AndValue v NoValue)) e ∙ sym (with_constant sorts u f a))

pub equation_at_b : EquationAtB
equation_at_b u e h =
    let same : Named f (AndValue (constant b) NoValue) ≡ Named f (AndValue (constant a) NoValue) =
    ap (λ v. Named f (AndValue v NoValue)) (sym e) ∙ (sym (with_variable u f) ∙ (h ∙ with_constant sorts u f a)) in
    differ 98 97 (omega arith) (ap value_byte same)

-- ---- instances
-- each variable is this value
abbrev each_is : Value → Valuation
each_is v = record { whole = 1; positive = omega arith; number = λ n. pos 0; value = λ n. v }

ground_variable : (u : Valuation) (name : List ℕ) → ground_of (Any ∷ []) u (App name (Var 1 ∷ [])) ≡ ground name (u.value 1)
ground_variable u name = ap atom_of (with_variable u name)

ground_constant : (u : Valuation) (name c : List ℕ) → ground_of [] u (App name (App c [] ∷ [])) ≡ ground name (constant c)
ground_constant u name c = ap atom_of (with_constant (sort_in []) u name c)

pub instance_at_a : InstanceAtA
instance_at_a =
    let u = each_is (constant a) in
    record {
      valuation = u;
      equations = All-nil (EquationHolds (Any ∷ []) u);
      rows = All-nil (RowHolds u);
      head_is = sym (ground_variable u p);
      body_is = ap (λ x. x ∷ []) (sym (ground_variable u q));
    }

abbrev atom_byte : GroundAtom → ℕ
atom_byte x = argument_byte x.args

abbrev predicate_byte : GroundAtom → ℕ
predicate_byte x = get_or x.name 0 0

abbrev first_byte : List GroundAtom → ℕ
first_byte [] = 0
first_byte (x ∷ xs) = atom_byte x

pub no_instance : NoInstance
no_instance i =
    let head : 97 ≡ name_byte (i.valuation.value 1) = ap atom_byte (i.head_is ∙ ground_variable i.valuation p) in
    let body : 98 ≡ name_byte (i.valuation.value 1) = ap first_byte (i.body_is ∙ ap (λ x. x ∷ []) (ground_variable i.valuation q)) in
    omega arith

-- ---- proofs
abbrev first_value : GroundAtom → Value
first_value x = elim (x.args) [ NoValue ↦ constant b | AndValue v vs ↦ v ]

fact_at_a : Instance fact (ground q (constant a)) []
fact_at_a =
    let u = each_is (constant a) in
    record {
      valuation = u;
      equations = All-nil (EquationHolds [] u);
      rows = All-nil (RowHolds u);
      head_is = sym (ground_constant u q a);
      body_is = refl;
    }

abbrev proof_of_q : Provable two_clauses (ground q (constant a))
proof_of_q = Node (fact, (1, omega arith, refl), fact_at_a) NoProof

abbrev proof_of_p : Provable two_clauses (ground p (constant a))
proof_of_p = Node (one_goal, (0, omega arith, refl), instance_at_a) (AndProof proof_of_q NoProof)

pub proof_of_two_nodes : ProofOfTwoNodes
proof_of_two_nodes = (proof_of_p, refl)

-- no clause has an instance with the head q(b)
no_clause : (c : Clause) (body : List GroundAtom) → Among c two_clauses → Instance c (ground q (constant b)) body → ⊥
no_clause c body first i =
    differ 113 112 (omega arith) (ap predicate_byte (i.head_is ∙ ground_variable i.valuation p))
no_clause c body (next first) i =
    differ 98 97 (omega arith) (ap atom_byte (i.head_is ∙ ground_constant i.valuation q a))
no_clause c body (next (next m)) i = elim m [ ]

pub not_provable : NotProvable
not_provable (Node (c, inside, i) ps) = no_clause c _ (to_among two_clauses c inside) i

proof_of_one : {rule : GroundAtom → List GroundAtom → Type 0} (x : GroundAtom) → Proofs rule (x ∷ []) → Proof rule x
proof_of_one x (AndProof t ts) = t

-- one with the head p(b) has the body q(b)
no_clause_above : (c : Clause) (body : List GroundAtom) → Among c two_clauses → Instance c (ground p (constant b)) body → Proofs (InstanceIn two_clauses) body → ⊥
no_clause_above c body first i ps =
    let head : constant b ≡ i.valuation.value 1 = ap first_value (i.head_is ∙ ground_variable i.valuation p) in
    let only : body ≡ ground q (constant b) ∷ [] = i.body_is ∙ (ap (λ x. x ∷ []) (ground_variable i.valuation q) ∙ ap (λ v. ground q v ∷ []) (sym head)) in
    not_provable (proof_of_one _ (subst (Proofs (InstanceIn two_clauses)) only ps))
no_clause_above c body (next first) i ps =
    differ 113 112 (omega arith) (sym (ap predicate_byte (i.head_is ∙ ground_constant i.valuation q a)))
no_clause_above c body (next (next m)) i ps = elim m [ ]

pub not_provable_above : NotProvableAbove
not_provable_above (Node (c, inside, i) ps) = no_clause_above c _ (to_among two_clauses c inside) i ps
