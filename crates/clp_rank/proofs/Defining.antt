-- A definition keeps Ranked, and no proof of an old atom changes.
use Rattle.std.proofs.Common.{◌≡◌, suc, ◌-◌, ◌≤◌, inl, inr, List, [], ◌∷◌, Bool, false, refl, arith, ◌∙◌, ap, subst, if◌then◌else◌}
use Rattle.std.specs.List.{AllByRecursion}
use Rattle.clp_model.specs.Proof.{Proof, Node, Proofs, NoProof, AndProof, proof_size, proofs_size}
use Rattle.clp_rank.specs.Weight.{weight, weights}
use Rattle.clp_rank.specs.Ranked.{Setting, InstanceIn, Carried, Ranked}
use Rattle.clp_rank.specs.Rules.{Defines, With, now_defined}
use Rattle.clp_rank.proofs.Starting.{weights_at_most}

module _ (s : Setting) (defined' : s.Atom → Bool) (base live : s.Clause → Type 0) (n : s.Clause) (old : s.Atom → Type 0) (d : Defines s defined' base live n old) where
  abbrev B : s.Atom → List s.Atom → Type 0
  B = InstanceIn s base

  abbrev B' : s.Atom → List s.Atom → Type 0
  B' = InstanceIn s (With s base n)

  -- proofs of old atoms are the same in both, with as many nodes
  mutual
    lifted : {a : s.Atom} (p : Proof B a) → (q : Proof B' a) × (proof_size q ≡ proof_size p)
    lifted (Node (c, l, i) ps) = let qs = lifted_all ps in (Node (c, inl l, i) qs.0, ap suc qs.1)

    lifted_all : {body : List s.Atom} (ps : Proofs B body) → (qs : Proofs B' body) × (proofs_size qs ≡ proofs_size ps)
    lifted_all NoProof = (NoProof, refl)
    lifted_all (AndProof p ps) =
        let q = lifted p in let qs = lifted_all ps in (AndProof q.0 qs.0, omega (arith, q.1, qs.1))

  as_n : {c : s.Clause} {a : s.Atom} {body : List s.Atom} → c ≡ n → s.instance_of c a body → s.instance_of n a body
  as_n {c} {a} {body} e i = subst (λ x. s.instance_of x a body) e i

  mutual
    lowered : {a : s.Atom} (p : Proof B' a) → old a → (q : Proof B a) × (proof_size q ≡ proof_size p)
    lowered (Node (c, l, i) ps) o =
        elim l [
          | inl b ↦ let qs = lowered_all ps (d.base_body c _ _ b i) in (Node (c, b, i) qs.0, ap suc qs.1)
          | inr e ↦ absurd (d.fresh _ _ (as_n e i) o)
        ]

    lowered_all : {body : List s.Atom} (ps : Proofs B' body) → AllByRecursion old body → (qs : Proofs B body) × (proofs_size qs ≡ proofs_size ps)
    lowered_all NoProof o = (NoProof, refl)
    lowered_all (AndProof p ps) o =
        let q = lowered p o.0 in let qs = lowered_all ps o.1 in (AndProof q.0 qs.0, omega (arith, q.1, qs.1))

  -- lifted proofs of old atoms weigh the same
  lifted_weights : {body : List s.Atom} (ps : Proofs B body) → AllByRecursion old body → (qs : Proofs B' body) × (weights defined' qs ≡ weights s.defined ps)
  lifted_weights NoProof o = (NoProof, refl)
  lifted_weights (AndProof p ps) o =
      let q = lifted p in
      let qs = lifted_weights ps o.1 in
      let e : weight defined' q.0 ≡ weight s.defined p = rw (d.same _ o.0, q.1) refl in
      (AndProof q.0 qs.0, omega (arith, e, qs.1))

  -- a new atom's proof is its definition's instance, with old proofs
  carries : (r : Ranked s base live) (a : s.Atom) (p : Proof B' a) → Carried (now_defined s defined') (With s base n) (With s live n) a (weight defined' p)
  carries r a (Node (c, inl b, i) ps) =
      let o = d.base_head c a _ b i in
      let q = lowered (Node (c, inl b, i) ps) o in
      let old_one = r.carries a q.0 in
      let qs = lifted_weights old_one.proofs (d.live_body old_one.clause a old_one.body old_one.is_live old_one.instance) in
      let e : weight s.defined q.0 ≡ suc (proofs_size ps) - (if defined' a then 1 else 0) = rw (d.same a o, q.1) refl in
      record {
        clause = old_one.clause;
        is_live = inl old_one.is_live;
        body = old_one.body;
        instance = old_one.instance;
        proofs = qs.0;
        no_more = omega (arith, qs.1, e, old_one.no_more);
        less = λ m. let lt = old_one.less m in omega (arith, qs.1, e);
      }
  carries r a (Node (c, inr e, i) ps) =
      let here = as_n e i in
      let few = weights_at_most defined' ps in
      let le : weights defined' ps ≤ suc (proofs_size ps) - (if defined' a then 1 else 0) = rw (d.new_head a _ here) (omega arith) in
      record {
        clause = n;
        is_live = inr refl;
        body = _;
        instance = here;
        proofs = ps;
        no_more = le;
        less = λ m. absurd (cc (m, d.unmarked));
      }

  -- what was provable is provable by the same proofs, and nothing more of the old atoms
  pub old_atoms : (a : s.Atom) → old a → (Proof B a → Proof B' a) × (Proof B' a → Proof B a)
  old_atoms a o = (λ p. (lifted p).0, λ p. (lowered p o).0)

  all_lowered : {body : List s.Atom} → Proofs B' body → AllByRecursion old body → Proofs B body
  all_lowered ps o = (lowered_all ps o).0

  same_all : (body : List s.Atom) → AllByRecursion old body → AllByRecursion (λ b. s.defined b ≡ false) body → AllByRecursion (λ b. defined' b ≡ false) body
  same_all [] o h = tt
  same_all (b ∷ body) o h = (d.same b o.0 ∙ h.0, same_all body o.1 h.1)

  pub defining_keeps : Ranked s base live → Ranked (now_defined s defined') (With s base n) (With s live n)
  defining_keeps r = record {
    unmarked_head = λ c a body l m i. elim l [ inl o ↦ d.same a (d.live_head c a body o i) ∙ r.unmarked_head c a body o m i | inr e ↦ d.new_head a body (as_n e i) ];
    unmarked_body = λ c a body l m i. elim l [ inl o ↦ same_all body (d.live_body c a body o i) (r.unmarked_body c a body o m i) | inr e ↦ d.new_body a body (as_n e i) ];
    sound = λ c a body l i ps. elim l [ inl o ↦ (lifted (r.sound c a body o i (all_lowered ps (d.live_body c a body o i)))).0 | inr e ↦ Node (n, inr refl, as_n e i) ps ];
    carries = carries r;
  }
