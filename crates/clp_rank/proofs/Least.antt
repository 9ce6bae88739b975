-- What the rank says of least proofs, where there are any.
use Rattle.std.proofs.Common.{◌≡◌, ℕ, ◌≤◌, List, [], ◌∷◌, refl, arith}
use Rattle.std.specs.List.{AllZip}
use Rattle.clp_model.specs.Proof.{Proof, Proofs, NoProof, AndProof}
use Rattle.clp_rank.specs.Weight.{weight, weights}
use Rattle.clp_rank.specs.Least.{total, IsLeast, LeastCarried}
use Rattle.clp_rank.specs.Ranked.{Setting, InstanceIn, Carried, Ranked}

module _ (s : Setting) (base live : s.Clause → Type 0) where
  abbrev B : s.Atom → List s.Atom → Type 0
  B = InstanceIn s base

  sum_least : {body : List s.Atom} (ps : Proofs B body) (ws : List ℕ) → AllZip (IsLeast s base) body ws → total ws ≤ weights s.defined ps
  sum_least NoProof [] h = omega arith
  sum_least NoProof (w ∷ ws) h = absurd h
  sum_least (AndProof p ps) [] h = absurd h
  sum_least (AndProof p ps) (w ∷ ws) h =
      let one = h.0.least p in let others = sum_least ps ws h.1 in omega arith

  pub least_form : Ranked s base live → (a : s.Atom) (w : ℕ) → IsLeast s base a w → LeastCarried s base live a w
  least_form r a w l =
      let c = r.carries a l.proof in
      record {
        clause = c.clause;
        is_live = c.is_live;
        body = c.body;
        instance = c.instance;
        proofs = c.proofs;
        no_more = λ ws h. let le = sum_least c.proofs ws h in omega (arith, l.weighs, c.no_more);
        less = λ ws h m. let le = sum_least c.proofs ws h in let lt = c.less m in omega (arith, l.weighs);
      }

  -- and back, where each provable atom has a least proof
  module _ (has_least : (a : s.Atom) → Proof B a → (w : ℕ) × IsLeast s base a w) where
    all_least : {body : List s.Atom} → Proofs B body → (ws : List ℕ) × AllZip (IsLeast s base) body ws × (qs : Proofs B body) × (weights s.defined qs ≡ total ws)
    all_least NoProof = ([], tt, NoProof, refl)
    all_least (AndProof p ps) =
        let l = has_least _ p in let ls = all_least ps in
        (l.0 ∷ ls.0, (l.1, ls.1), AndProof l.1.proof ls.2, omega (arith, l.1.weighs, ls.3))

    pub from_least_form : ((a : s.Atom) (w : ℕ) → IsLeast s base a w → LeastCarried s base live a w) → (a : s.Atom) (p : Proof B a) → Carried s base live a (weight s.defined p)
    from_least_form h a p =
        let l = has_least a p in
        let c = h a l.0 l.1 in
        let ls = all_least c.proofs in
        let le = c.no_more ls.0 ls.1 in
        let below = l.1.least p in
        record {
          clause = c.clause;
          is_live = c.is_live;
          body = c.body;
          instance = c.instance;
          proofs = ls.2;
          no_more = omega (arith, ls.3);
          less = λ m. let lt = c.less ls.0 ls.1 m in omega (arith, ls.3);
        }
