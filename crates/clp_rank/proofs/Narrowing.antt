-- Taking a repeated atom out of a clause keeps the rank.
use Rattle.std.proofs.Common.{◌≡◌, ℕ, ◌<◌, inl, inr, List, true, false, arith, sym, ◌∙◌, ap, subst}
use Rattle.std.specs.List.{AllByRecursion}
use Rattle.clp_model.specs.Proof.{Proof, Proofs}
use Rattle.clp_rank.specs.Weight.{weights}
use Rattle.clp_rank.specs.Ranked.{Setting, InstanceIn, Carried, Ranked}
use Rattle.clp_rank.specs.Rules.{Removed, here, later, Narrows}
use Rattle.clp_rank.proofs.Splitting.{taken_out, put_in}

pub all_without : {A : Type 0} (P : A → Type 0) {x : A} {xs ys : List A} → Removed x xs ys → AllByRecursion P xs → AllByRecursion P ys
all_without P here h = h.1
all_without P (later r) h = (h.0, all_without P r h.1)

module _ (s : Setting) (base live live' : s.Clause → Type 0) (k k' : s.Clause) (n : Narrows s live live' k k') (r : Ranked s base live) where
  abbrev B : s.Atom → List s.Atom → Type 0
  B = InstanceIn s base

  carries_k : (a : s.Atom) (w : ℕ) (c : Carried s base live a w) → c.clause ≡ k → s.instance_of k a c.body → Carried s base live' a w
  carries_k a w c e i =
      let made = n.made a c.body i in
      let out = taken_out B s.defined made.2 c.proofs in
      record {
        clause = k';
        is_live = n.now;
        body = made.1;
        instance = made.3;
        proofs = out.others;
        no_more = omega (arith, out.sum, c.no_more);
        less = λ m. let lt : weights s.defined c.proofs < w = c.less (ap s.mark e ∙ (sym n.same_mark ∙ m)) in omega (arith, out.sum);
      }

  sound_k' : (a : s.Atom) (fewer : List s.Atom) → s.instance_of k' a fewer → Proofs B fewer → Proof B a
  sound_k' a fewer i ps =
      let back = n.from a fewer i in
      let one = taken_out B s.defined back.4 ps in
      r.sound k a back.1 n.was back.5 (put_in B s.defined back.3 one.proof ps).proofs

  unmarked_body_k' : (a : s.Atom) (fewer : List s.Atom) → s.mark k' ≡ false → s.instance_of k' a fewer → AllByRecursion (λ b. s.defined b ≡ false) fewer
  unmarked_body_k' a fewer m i =
      let back = n.from a fewer i in
      all_without (λ b. s.defined b ≡ false) back.3 (r.unmarked_body k a back.1 n.was (sym n.same_mark ∙ m) back.5)

  unmarked_head_k' : (a : s.Atom) (fewer : List s.Atom) → s.mark k' ≡ false → s.instance_of k' a fewer → s.defined a ≡ true
  unmarked_head_k' a fewer m i =
      let back = n.from a fewer i in r.unmarked_head k a back.1 n.was (sym n.same_mark ∙ m) back.5

  pub narrowing_keeps : Ranked s base live'
  narrowing_keeps = record {
    unmarked_head = λ c a body l m i. elim (n.old c l) [ inl e ↦ unmarked_head_k' a body (sym (ap s.mark e) ∙ m) (subst (λ x. s.instance_of x a body) e i) | inr o ↦ r.unmarked_head c a body o m i ];
    unmarked_body = λ c a body l m i. elim (n.old c l) [ inl e ↦ unmarked_body_k' a body (sym (ap s.mark e) ∙ m) (subst (λ x. s.instance_of x a body) e i) | inr o ↦ r.unmarked_body c a body o m i ];
    sound = λ c a body l i ps. elim (n.old c l) [ inl e ↦ sound_k' a body (subst (λ x. s.instance_of x a body) e i) ps | inr o ↦ r.sound c a body o i ps ];
    carries = λ a p. let c = r.carries a p in
        elim (n.kept c.clause c.is_live) [
          | inl e ↦ carries_k a _ c e (subst (λ x. s.instance_of x a c.body) e c.instance)
          | inr l ↦ record { clause = c.clause; is_live = l; body = c.body; instance = c.instance; proofs = c.proofs; no_more = c.no_more; less = c.less }
        ];
  }
