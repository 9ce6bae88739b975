-- A folding keeps Ranked.
use Rattle.std.proofs.Common.{◌≡◌, ℕ, ◌<◌, inl, inr, List, true, false, refl, arith, ◌∙◌, ap, subst}
use Rattle.std.specs.List.{AllByRecursion}
use Rattle.clp_model.specs.Proof.{Proof, Node, Proofs, NoProof, AndProof, proof_size, proofs_size}
use Rattle.clp_rank.specs.Weight.{weight, weights}
use Rattle.clp_rank.specs.Ranked.{Setting, InstanceIn, Carried, Ranked}
use Rattle.clp_rank.specs.Rules.{Unfolded, Folds}
use Rattle.clp_rank.proofs.Splitting.{taken_out, put_in, all_out, all_in}

module _ (s : Setting) (base live live' : s.Clause → Type 0) (k k' n : s.Clause) (f : Folds s base live live' k k' n) (r : Ranked s base live) where
  abbrev B : s.Atom → List s.Atom → Type 0
  B = InstanceIn s base

  -- proofs of initial atoms weigh their nodes
  initial_weights : {body : List s.Atom} (ps : Proofs B body) → AllByRecursion (λ b. s.defined b ≡ false) body → weights s.defined ps ≡ proofs_size ps
  initial_weights NoProof h = refl
  initial_weights (AndProof {a = a} p ps) h =
      let e : weight s.defined p ≡ proof_size p = rw h.0 (omega arith) in
      let es = initial_weights ps h.1 in omega arith

  -- the root of a defined atom isn't counted
  defined_weight : (a : s.Atom) {body : List s.Atom} (i : B a body) (ps : Proofs B body) → s.defined a ≡ true → weight s.defined (Node i ps) ≡ proofs_size ps
  defined_weight a i ps e = rw e (omega arith)

  -- the instance at the root of a proof, with the proofs of its body
  root : {a : s.Atom} → Proof B a → (body : List s.Atom) × B a body × Proofs B body
  root (Node i ps) = (_, i, ps)

  sound_folded : (a : s.Atom) (new_body : List s.Atom) → Unfolded s base k n a new_body → Proofs B new_body → Proof B a
  sound_folded a new_body u ps =
      let o = taken_out B s.defined u.puts ps in
      let t = root o.proof in
      let back = u.each t.0 (u.alone t.1.0 t.0 t.1.1 t.1.2) in
      r.sound k a back.0 f.was back.2 (all_in B s.defined back.1 t.2 o.others)

  carries_k : (a : s.Atom) (w : ℕ) (c : Carried s base live a w) → c.clause ≡ k → s.instance_of k a c.body → Carried s base live' a w
  carries_k a w c e i =
      let made = f.made a c.body i in
      let parts = all_out B s.defined made.takes c.proofs in
      let facts = f.initials made.atom made.folded made.defines in
      let inst : B made.atom made.folded = (n, f.in_base, made.defines) in
      let whole = put_in B s.defined made.puts (Node inst parts.left) parts.right in
      let light = defined_weight made.atom inst parts.left facts.0 in
      let plain = initial_weights parts.left facts.1 in
      let strict : weights s.defined c.proofs < w = c.less (ap s.mark e ∙ f.marked) in
      let lt : weights s.defined whole.proofs < w = omega (arith, whole.sum, parts.sum, light, plain) in
      record {
        clause = k';
        is_live = f.now;
        body = made.new_body;
        instance = made.gives;
        proofs = whole.proofs;
        no_more = omega arith;
        less = λ _. lt;
      }

  carries : (a : s.Atom) (p : Proof B a) → Carried s base live' a (weight s.defined p)
  carries a p =
      let c = r.carries a p in
      elim (f.kept c.clause c.is_live) [
        | inl e ↦ carries_k a _ c e (subst (λ x. s.instance_of x a c.body) e c.instance)
        | inr l ↦ record { clause = c.clause; is_live = l; body = c.body; instance = c.instance; proofs = c.proofs; no_more = c.no_more; less = c.less }
      ]

  pub folding_keeps : Ranked s base live'
  folding_keeps = record {
    unmarked_head = λ c a body l m i. elim (f.old c l) [ inl e ↦ absurd (cc (f.same_mark, m, ap s.mark e)) | inr o ↦ r.unmarked_head c a body o m i ];
    unmarked_body = λ c a body l m i. elim (f.old c l) [ inl e ↦ absurd (cc (f.same_mark, m, ap s.mark e)) | inr o ↦ r.unmarked_body c a body o m i ];
    sound = λ c a body l i ps. elim (f.old c l) [ inl e ↦ sound_folded a body (f.from a body (subst (λ x. s.instance_of x a body) e i)) ps | inr o ↦ r.sound c a body o i ps ];
    carries = carries;
  }
