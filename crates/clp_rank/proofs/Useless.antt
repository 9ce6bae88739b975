-- Deleting the clauses of useless predicates keeps the rank.
use Rattle.std.proofs.Common.{inl, inr, List}
use Rattle.clp_model.specs.Proof.{Proof, Node, Proofs, NoProof, AndProof}
use Rattle.clp_rank.specs.Ranked.{Setting, InstanceIn, Ranked}
use Rattle.clp_rank.specs.Rules.{Removed, here, later, Useless}
use Rattle.clp_rank.proofs.Total.{same_meaning}

module _ (s : Setting) (live live' : s.Clause → Type 0) (inside : s.Atom → Type 0) (u : Useless s live live' inside) where
  mutual
    pub never : {a : s.Atom} → Proof (InstanceIn s live) a → inside a → ⊥
    never (Node (c, l, i) ps) h = let b = u.loops c _ _ l i h in never_in b.2 b.3 ps

    never_in : {b : s.Atom} {body others : List s.Atom} → Removed b body others → inside b → Proofs (InstanceIn s live) body → ⊥
    never_in r h NoProof = elim r [ ]
    never_in here h (AndProof p ps) = never p h
    never_in (later r) h (AndProof p ps) = never_in r h ps

pub useless_keeps : (s : Setting) (base live live' : s.Clause → Type 0) (inside : s.Atom → Type 0) → Useless s live live' inside → Ranked s base live → Ranked s base live'
useless_keeps s base live live' inside u r = record {
  unmarked_head = λ c a body l m i. r.unmarked_head c a body (u.old c l) m i;
  unmarked_body = λ c a body l m i. r.unmarked_body c a body (u.old c l) m i;
  sound = λ c a body l i ps. r.sound c a body (u.old c l) i ps;
  carries = λ a p. let c = r.carries a p in
      elim (u.kept c.clause a c.body c.is_live c.instance) [
        | inl l ↦ record { clause = c.clause; is_live = l; body = c.body; instance = c.instance; proofs = c.proofs; no_more = c.no_more; less = c.less }
        | inr h ↦ absurd (never s live live' inside u ((same_meaning s base live r a).1 p) h.4)
      ];
}
