-- The rank speaks of programs by what is in them, whatever way this is told.
use Rattle.std.proofs.Common.{◌≡◌, ◌-◌, List, suc, refl, ap, arith, if◌then◌else◌}
use Rattle.clp_model.specs.Proof.{Proof, Node, Proofs, NoProof, AndProof, proof_size, proofs_size}
use Rattle.clp_rank.specs.Weight.{weight, weights}
use Rattle.clp_rank.specs.Ranked.{Setting, InstanceIn, Carried, Ranked}

-- proofs in a program are proofs in one that has its clauses, with as many nodes
module _ (s : Setting) (base other : s.Clause → Type 0) (to : (c : s.Clause) → base c → other c) where
  mutual
    moved : {a : s.Atom} (p : Proof (InstanceIn s base) a) → (q : Proof (InstanceIn s other) a) × (proof_size q ≡ proof_size p)
    moved (Node (c, l, i) ps) = let qs = all_moved ps in (Node (c, to c l, i) qs.0, ap suc qs.1)

    all_moved : {body : List s.Atom} (ps : Proofs (InstanceIn s base) body) → (qs : Proofs (InstanceIn s other) body) × (proofs_size qs ≡ proofs_size ps)
    all_moved NoProof = (NoProof, refl)
    all_moved (AndProof p ps) =
        let q = moved p in let qs = all_moved ps in (AndProof q.0 qs.0, omega (arith, q.1, qs.1))

  moved_weights : {body : List s.Atom} (ps : Proofs (InstanceIn s base) body) → (qs : Proofs (InstanceIn s other) body) × (weights s.defined qs ≡ weights s.defined ps)
  moved_weights NoProof = (NoProof, refl)
  moved_weights (AndProof {a} p ps) =
      let q = moved p in
      let qs = moved_weights ps in
      let e : weight s.defined q.0 ≡ weight s.defined p = ap (λ n. n - (if s.defined a then 1 else 0)) q.1 in
      (AndProof q.0 qs.0, omega (arith, e, qs.1))

module _ (s : Setting) (base base' live live' : s.Clause → Type 0) (to : (c : s.Clause) → base c → base' c) (from : (c : s.Clause) → base' c → base c) (onto : (c : s.Clause) → live c → live' c) (out : (c : s.Clause) → live' c → live c) where
  pub rank_told : Ranked s base live → Ranked s base' live'
  rank_told r = record {
    unmarked_head = λ c a body l. r.unmarked_head c a body (out c l);
    unmarked_body = λ c a body l. r.unmarked_body c a body (out c l);
    sound = λ c a body l i ps. (moved s base base' to (r.sound c a body (out c l) i (all_moved s base' base from ps).0)).0;
    carries = carries;
  }
    where
      carries : (a : s.Atom) (p : Proof (InstanceIn s base') a) → Carried s base' live' a (weight s.defined p)
      carries a p =
          let q = moved s base' base from p in
          let k = r.carries a q.0 in
          let qs = moved_weights s base base' to k.proofs in
          let e : weight s.defined q.0 ≡ weight s.defined p = ap (λ n. n - (if s.defined a then 1 else 0)) q.1 in
          record {
            clause = k.clause;
            is_live = onto k.clause k.is_live;
            body = k.body;
            instance = k.instance;
            proofs = qs.0;
            no_more = omega (arith, qs.1, e, k.no_more);
            less = λ m. let lt = k.less m in omega (arith, qs.1, e, lt);
          }
