-- An unfolding keeps Ranked.
use Rattle.std.proofs.Common.{◌≡◌, ℕ, ◌+◌, ◌<◌, inl, inr, List, [], ◌∷◌, ◌++◌, true, false, arith, ◌∙◌, ap, subst}
use Rattle.std.specs.List.{AllByRecursion}
use Rattle.clp_model.specs.Proof.{Proof, Proofs, NoProof, AndProof}
use Rattle.clp_rank.specs.Weight.{weight, weights}
use Rattle.clp_rank.specs.Ranked.{Setting, InstanceIn, Carried, Ranked}
use Rattle.clp_rank.specs.Rules.{Resolvent, Unfolds}
use Rattle.clp_rank.proofs.Splitting.{joined, split, moved}
use Rattle.clp_rank.proofs.Total.{either_way}

all_at : {A : Type 0} (P : A → Type 0) (xs : List A) (y : A) (zs : List A) → AllByRecursion P (xs ++ (y ∷ zs)) → P y
all_at P [] y zs h = h.0
all_at P (x ∷ xs) y zs h = all_at P xs y zs h.1

module _ (s : Setting) (base live live' : s.Clause → Type 0) (k : s.Clause) (u : Unfolds s live live' k) (r : Ranked s base live) where
  abbrev B : s.Atom → List s.Atom → Type 0
  B = InstanceIn s base

  sound_resolvent : (a : s.Atom) (body : List s.Atom) → Resolvent s live k a body → Proofs B body → Proof B a
  sound_resolvent a body v ps =
      let first = split B s.defined v.before (subst (Proofs B) v.is ps) in
      let second = split B s.defined v.inner first.right in
      let one : Proof B v.atom = r.sound v.by v.atom v.inner v.is_live v.served second.left in
      r.sound k a _ u.was v.outer (joined B s.defined first.left (AndProof one second.right)).proofs

  -- the atom at the place is initial where k is unmarked, and so a marked clause serves it
  lighter : (a : s.Atom) (body : List s.Atom) (i : s.instance_of k a body) (w : ℕ) (c : Carried s base live (u.has_atom a body i).here w) → s.mark k ≡ false → weights s.defined c.proofs < w
  lighter a body i w c e =
      let at = u.has_atom a body i in
      let initials : AllByRecursion (λ b. s.defined b ≡ false) (at.before ++ (at.here ∷ at.after)) = subst (AllByRecursion (λ b. s.defined b ≡ false)) at.is (r.unmarked_body k a body u.was e i) in
      let initial : s.defined at.here ≡ false = all_at (λ b. s.defined b ≡ false) at.before at.here at.after initials in
      elim (either_way (s.mark c.clause)) [
        | inl m ↦ c.less m
        | inr m ↦ let d = r.unmarked_head c.clause at.here c.body c.is_live m c.instance in absurd (cc)
      ]

  -- the proofs of a body that has an atom at a place: its own, and the others
  record Parted (before : List s.Atom) (here : s.Atom) (after : List s.Atom) (total : ℕ) : Type 0 where
    pub left : Proofs B before
    pub one : Proof B here
    pub right : Proofs B after
    pub sum : weights s.defined left + (weight s.defined one + weights s.defined right) ≡ total

  parted : (before : List s.Atom) (here : s.Atom) (after : List s.Atom) (ps : Proofs B (before ++ (here ∷ after))) → Parted before here after (weights s.defined ps)
  parted [] here after (AndProof p ps) = record { left = NoProof; one = p; right = ps; sum = omega arith }
  parted (x ∷ xs) here after (AndProof p ps) =
      let b = parted xs here after ps in record { left = AndProof p b.left; one = b.one; right = b.right; sum = omega (arith, b.sum) }

  carries_k : (a : s.Atom) (w : ℕ) (c : Carried s base live a w) → s.instance_of k a c.body → (s.mark k ≡ true → weights s.defined c.proofs < w) → Carried s base live' a w
  carries_k a w c i less =
      let at = u.has_atom a c.body i in
      let whole = moved B s.defined at.is c.proofs in
      let parts = parted at.before at.here at.after whole.proofs in
      let inner = r.carries at.here parts.one in
      let tail = joined B s.defined inner.proofs parts.right in
      let all = joined B s.defined parts.left tail.proofs in
      let made = u.made a c.body i inner.clause inner.body inner.is_live inner.instance in
      let lt : weights s.defined all.proofs < w =
      elim (either_way (s.mark k)) [
        | inl m ↦ let l = less m in omega (arith, whole.sum, parts.sum, inner.no_more, tail.sum, all.sum)
        | inr m ↦ let l = lighter a c.body i _ inner m in omega (arith, whole.sum, parts.sum, c.no_more, tail.sum, all.sum)
      ] in
      record {
        clause = made.0;
        is_live = made.1;
        body = _;
        instance = made.3;
        proofs = all.proofs;
        no_more = omega arith;
        less = λ _. lt;
      }

  carries : (a : s.Atom) (p : Proof B a) → Carried s base live' a (weight s.defined p)
  carries a p =
      let c = r.carries a p in
      elim (u.kept c.clause c.is_live) [
        | inl e ↦ carries_k a _ c (subst (λ x. s.instance_of x a c.body) e c.instance) (λ m. c.less (ap s.mark e ∙ m))
        | inr l ↦ record { clause = c.clause; is_live = l; body = c.body; instance = c.instance; proofs = c.proofs; no_more = c.no_more; less = c.less }
      ]

  pub unfolding_keeps : Ranked s base live'
  unfolding_keeps = record {
    unmarked_head = λ c a body l m i. elim (u.from c l) [ inl o ↦ r.unmarked_head c a body o m i | inr n ↦ absurd (cc (n.0, m)) ];
    unmarked_body = λ c a body l m i. elim (u.from c l) [ inl o ↦ r.unmarked_body c a body o m i | inr n ↦ absurd (cc (n.0, m)) ];
    sound = λ c a body l i ps. elim (u.from c l) [ inl o ↦ r.sound c a body o i ps | inr n ↦ sound_resolvent a body (n.1 a body i) ps ];
    carries = carries;
  }
