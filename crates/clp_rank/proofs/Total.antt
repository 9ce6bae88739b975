-- A ranked program proves just what its base proves.
use Rattle.std.proofs.Common.{◌≡◌, ℕ, zero, suc, ◌<◌, ◌≤◌, ◌⊎◌, inl, inr, ◌↔◌, List, Bool, true, false, refl, arith}
use Rattle.std.specs.List.{AllByRecursion}
use Rattle.clp_model.specs.Proof.{Proof, Node, Proofs, NoProof, AndProof}
use Rattle.clp_rank.specs.Weight.{weight, weights}
use Rattle.clp_rank.specs.Ranked.{Setting, InstanceIn, Carried, Ranked}

pub either_way : (b : Bool) → (b ≡ true) ⊎ (b ≡ false)
either_way true = inl refl
either_way false = inr refl

module _ (s : Setting) (base live : s.Clause → Type 0) (r : Ranked s base live) where
  mutual
    pub back : {a : s.Atom} → Proof (InstanceIn s live) a → Proof (InstanceIn s base) a
    back (Node (c, l, i) ps) = r.sound c _ _ l i (back_all ps)

    pub back_all : {body : List s.Atom} → Proofs (InstanceIn s live) body → Proofs (InstanceIn s base) body
    back_all NoProof = NoProof
    back_all (AndProof p ps) = AndProof (back p) (back_all ps)

  abbrev Below : ℕ → Type 0
  Below w = (a : s.Atom) (p : Proof (InstanceIn s base) a) → weight s.defined p < w → Proof (InstanceIn s live) a

  all_below : (w : ℕ) → Below w → {body : List s.Atom} (ps : Proofs (InstanceIn s base) body) → weights s.defined ps < w → Proofs (InstanceIn s live) body
  all_below w h NoProof lt = NoProof
  all_below w h (AndProof p ps) lt = AndProof (h _ p (omega arith)) (all_below w h ps (omega arith))

  marked_step : (w : ℕ) → Below w → (a : s.Atom) (p : Proof (InstanceIn s base) a) → weight s.defined p ≤ w → (c : Carried s base live a (weight s.defined p)) → s.mark c.clause ≡ true → Proof (InstanceIn s live) a
  marked_step w h a p le c e =
      let lt : weights s.defined c.proofs < w = omega (arith, c.less e) in
      Node (c.clause, c.is_live, c.instance) (all_below w h c.proofs lt)

  initial_step : (w : ℕ) → Below w → (a : s.Atom) (p : Proof (InstanceIn s base) a) → weight s.defined p ≤ w → s.defined a ≡ false → Proof (InstanceIn s live) a
  initial_step w h a p le initial =
      let c = r.carries a p in
      elim (either_way (s.mark c.clause)) [
        | inl e ↦ marked_step w h a p le c e
        | inr e ↦ let d = r.unmarked_head c.clause a c.body c.is_live e c.instance in absurd (cc)
      ]

  all_initial : (w : ℕ) → Below w → {body : List s.Atom} (ps : Proofs (InstanceIn s base) body) → weights s.defined ps ≤ w → AllByRecursion (λ b. s.defined b ≡ false) body → Proofs (InstanceIn s live) body
  all_initial w h NoProof le initial = NoProof
  all_initial w h (AndProof p ps) le initial =
      AndProof (initial_step w h _ p (omega arith) initial.0) (all_initial w h ps (omega arith) initial.1)

  step : (w : ℕ) → Below w → (a : s.Atom) (p : Proof (InstanceIn s base) a) → weight s.defined p ≤ w → Proof (InstanceIn s live) a
  step w h a p le =
      let c = r.carries a p in
      elim (either_way (s.mark c.clause)) [
        | inl e ↦ marked_step w h a p le c e
        | inr e ↦
            let few : weights s.defined c.proofs ≤ w = omega (arith, c.no_more) in
            Node (c.clause, c.is_live, c.instance) (all_initial w h c.proofs few (r.unmarked_body c.clause a c.body c.is_live e c.instance))
      ]

  below : (w : ℕ) → Below w
  below zero a p lt = absurd (omega arith)
  below (suc w) a p lt = step w (below w) a p (omega arith)

  pub same_meaning : (a : s.Atom) → Proof (InstanceIn s live) a ↔ Proof (InstanceIn s base) a
  same_meaning a = (back, λ p. below (suc (weight s.defined p)) a p (omega arith))
