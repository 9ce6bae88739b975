-- Proofs of two lists, and of a list without one element, with their weights.
use Rattle.std.proofs.Common.{◌≡◌, ℕ, ◌+◌, List, [], ◌∷◌, ◌++◌, Bool, refl, arith, subst}
use Rattle.clp_rank.specs.Rules.{Removed, here, later, Taken, nothing, taking}
use Rattle.clp_model.specs.Proof.{Proof, Proofs, NoProof, AndProof}
use Rattle.clp_rank.specs.Weight.{weight, weights}

module _ {A : Type 0} (rule : A → List A → Type 0) (defined : A → Bool) where
  -- proofs of the parts, which weigh together what the whole does
  pub record Both (xs ys : List A) (total : ℕ) : Type 0 where
    pub left : Proofs rule xs
    pub right : Proofs rule ys
    pub sum : weights defined left + weights defined right ≡ total

  pub record One (x : A) (ys : List A) (total : ℕ) : Type 0 where
    pub proof : Proof rule x
    pub others : Proofs rule ys
    pub sum : weight defined proof + weights defined others ≡ total

  pub record Whole (xs : List A) (total : ℕ) : Type 0 where
    pub proofs : Proofs rule xs
    pub sum : weights defined proofs ≡ total

  pub joined : {xs ys : List A} (ps : Proofs rule xs) (qs : Proofs rule ys) → Whole (xs ++ ys) (weights defined ps + weights defined qs)
  joined NoProof qs = record { proofs = qs; sum = omega arith }
  joined (AndProof p ps) qs =
      let w = joined ps qs in record { proofs = AndProof p w.proofs; sum = omega (arith, w.sum) }

  pub split : (xs : List A) {ys : List A} (ps : Proofs rule (xs ++ ys)) → Both xs ys (weights defined ps)
  split [] ps = record { left = NoProof; right = ps; sum = omega arith }
  split (x ∷ xs) (AndProof p ps) =
      let b = split xs ps in record { left = AndProof p b.left; right = b.right; sum = omega (arith, b.sum) }

  pub taken_out : {x : A} {xs ys : List A} → Removed x xs ys → (ps : Proofs rule xs) → One x ys (weights defined ps)
  taken_out here (AndProof p ps) = record { proof = p; others = ps; sum = refl }
  taken_out (later r) (AndProof p ps) =
      let o = taken_out r ps in record { proof = o.proof; others = AndProof p o.others; sum = omega (arith, o.sum) }

  pub put_in : {x : A} {xs ys : List A} → Removed x xs ys → (p : Proof rule x) (ps : Proofs rule ys) → Whole xs (weight defined p + weights defined ps)
  put_in here p ps = record { proofs = AndProof p ps; sum = refl }
  put_in (later r) p (AndProof q qs) =
      let w = put_in r p qs in record { proofs = AndProof q w.proofs; sum = omega (arith, w.sum) }

  pub all_out : {xs fs rest : List A} → Taken xs fs rest → (ps : Proofs rule xs) → Both fs rest (weights defined ps)
  all_out nothing ps = record { left = NoProof; right = ps; sum = omega arith }
  all_out (taking r t) ps =
      let o = taken_out r ps in
      let b = all_out t o.others in
      record { left = AndProof o.proof b.left; right = b.right; sum = omega (arith, o.sum, b.sum) }

  pub all_in : {xs fs rest : List A} → Taken xs fs rest → Proofs rule fs → Proofs rule rest → Proofs rule xs
  all_in nothing NoProof qs = qs
  all_in (taking r t) (AndProof p ps) qs = (put_in r p (all_in t ps qs)).proofs

  pub moved : {xs ys : List A} → xs ≡ ys → (ps : Proofs rule xs) → Whole ys (weights defined ps)
  moved e ps = subst (λ zs. Whole zs (weights defined ps)) e (record { proofs = ps; sum = refl })
