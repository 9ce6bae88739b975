-- A program is ranked over itself.
use Rattle.std.proofs.Common.{◌≡◌, suc, ◌-◌, ◌<◌, ◌≤◌, List, Bool, true, false, arith, if◌then◌else◌}
use Rattle.clp_model.specs.Proof.{Proof, Node, Proofs, NoProof, AndProof, proofs_size}
use Rattle.clp_rank.specs.Weight.{weight, weights}
use Rattle.clp_rank.specs.Ranked.{Setting, InstanceIn, Carried, Ranked}

-- a weight is at most the number of nodes
pub weights_at_most : {A : Type 0} {rule : A → List A → Type 0} (defined : A → Bool) {body : List A} (ps : Proofs rule body) → weights defined ps ≤ proofs_size ps
weights_at_most defined NoProof = omega arith
weights_at_most defined (AndProof p ps) = let h = weights_at_most defined ps in omega arith

-- the start: every clause is marked, and none is defined
pub started : (s : Setting) (base : s.Clause → Type 0) → ((c : s.Clause) → base c → s.mark c ≡ true) → ((a : s.Atom) → s.defined a ≡ false) → (a : s.Atom) (p : Proof (InstanceIn s base) a) → Carried s base base a (weight s.defined p)
started s base marked none a (Node (c, l, i) ps) =
    let few = weights_at_most s.defined ps in
    let lt : weights s.defined ps < suc (proofs_size ps) - (if s.defined a then 1 else 0) = rw (none a) (omega arith) in
    record { clause = c; is_live = l; body = _; instance = i; proofs = ps; no_more = omega arith; less = λ _. lt }

-- the start: every clause is marked, and is in the base
pub start_ranked : (s : Setting) (base : s.Clause → Type 0) → ((c : s.Clause) → base c → s.mark c ≡ true) → ((a : s.Atom) → s.defined a ≡ false) → Ranked s base base
start_ranked s base marked none = record {
  unmarked_head = λ c a body l m i. let e = marked c l in absurd (cc);
  unmarked_body = λ c a body l m i. let e = marked c l in absurd (cc);
  sound = λ c a body l i ps. Node (c, l, i) ps;
  carries = started s base marked none;
}
