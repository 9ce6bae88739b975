-- Definitions prove nothing of initial predicates.
use Rattle.std.proofs.Common.{◌≡◌, ℕ, List, [], ◌∷◌, ◌++◌, map, sym, ◌∙◌, ap, subst, inl, inr, true}
use Rattle.std.specs.List.{AllByRecursion}
use Rattle.clp_model.specs.declared.tree.Tree.{Tree}
use Rattle.clp_model.specs.Trees.{IsApplication}
use Rattle.clp_model.specs.Values.{GroundAtom}
use Rattle.clp_model.specs.Clauses.{Clause, Instance, sort_in, ground_of}
use Rattle.clp_model.specs.Predicates.{predicate_of, ground_predicate}
use Rattle.clp_model.specs.Proof.{Proof, Proofs, Node, NoProof, AndProof, Provable, InstanceIn}
use Rattle.clp_model.proofs.Carrying.{carried}
use Rattle.clp_model.proofs.Membership.{Among, first, next, among_front, among_either, to_among, from_among}
use Rattle.clause_laws.proofs.Rows.{all_each}
use Rattle.rule_laws.proofs.Dropping.{head_predicate}
use Rattle.rule_laws.proofs.Predicates.{grounds_predicate}
use Rattle.map_model.specs.State.{State, is_among}
use Rattle.state_laws.specs.KeptState.{loaded_clauses, IsKeptState}
use Rattle.state_laws.specs.Laws.{LiveAndLoadedProveTheSame}
use Rattle.state_laws.proofs.Known.{known_speaks}
use Rattle.state_laws.proofs.Base.{loaded_both, definition_kept}
use Rattle.state_laws.proofs.Provable.{live_and_base}

module _ (s : State) (k : IsKeptState s) where
  abbrev IsInitial : GroundAtom → Type 0
  IsInitial a = is_among s.initials (ground_predicate a) ≡ true

  abbrev base : List Clause
  base = loaded_clauses s ++ s.definitions

  -- the atoms of an instance of a loaded clause are of initial predicates
  atoms_initial : (c : Clause) → Among c (loaded_clauses s) → (a : GroundAtom) (body : List GroundAtom) → Instance c a body → AllByRecursion IsInitial body
  atoms_initial c m a body i =
      let both = loaded_both s k c m in
      let applies = all_each IsApplication (c.head ∷ c.body) both.0.applications in
      subst (AllByRecursion IsInitial) (sym i.body_is) (all_of c.body (λ t n. (applies t (next n), known_speaks s.initials c both.1 t (next n))))
    where
      all_of : (ts : List (Tree ℕ)) → ((t : Tree ℕ) → Among t ts → IsApplication t × (is_among s.initials (predicate_of t) ≡ true)) → AllByRecursion IsInitial (map (ground_of c.sorts i.valuation) ts)
      all_of [] q = tt
      all_of (t ∷ ts) q =
          let p = q t first in
          (ap (is_among s.initials) (grounds_predicate (sort_in c.sorts) i.valuation t p.0) ∙ p.1, all_of ts (λ x n. q x (next n)))

  -- no instance of a definition is of one
  not_initial : (c : Clause) → Among c s.definitions → (a : GroundAtom) (body : List GroundAtom) → Instance c a body → IsInitial a → ⊥
  not_initial c m a body i o =
      let n = definition_kept s k c m in
      let fresh = n.fresh in
      let same = ap (is_among s.initials) (head_predicate c n.held a body i) in
      cc

  mutual
    lowered : {a : GroundAtom} → Proof (InstanceIn base) a → IsInitial a → Proof (InstanceIn (loaded_clauses s)) a
    lowered (Node (c, l, i) ps) o = elim (among_either c (loaded_clauses s) s.definitions (to_among base c l)) [
      | inl m ↦ Node (c, from_among m, i) (all_lowered ps (atoms_initial c m _ _ i))
      | inr m ↦ absurd (not_initial c m _ _ i o)
    ]

    all_lowered : {body : List GroundAtom} → Proofs (InstanceIn base) body → AllByRecursion IsInitial body → Proofs (InstanceIn (loaded_clauses s)) body
    all_lowered NoProof o = NoProof
    all_lowered (AndProof p ps) o = AndProof (lowered p o.0) (all_lowered ps o.1)

  lifted : (a : GroundAtom) → Provable (loaded_clauses s) a → Provable base a
  lifted a p = carried (InstanceIn (loaded_clauses s)) (InstanceIn base)
      (λ b body r ps. Node (r.0, from_among (among_front r.0 (loaded_clauses s) s.definitions (to_among (loaded_clauses s) r.0 r.1)), r.2) ps) p

pub live_and_loaded : LiveAndLoadedProveTheSame
live_and_loaded s k a o =
    let same = live_and_base s k a in
    ((λ p. lowered s k (same.0 p) o), (λ p. same.1 (lifted s k a p)))
