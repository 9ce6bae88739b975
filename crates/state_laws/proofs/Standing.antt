-- Clauses at places prove what the clauses that they stand for prove.
use Rattle.std.proofs.Common.{◌≡◌, ◌↔◌, List, [], ◌∷◌, ◌++◌, map, refl, sym, ap, subst}
use Rattle.std.specs.Prelude.{Option, Some, None}
use Rattle.clp_model.specs.Values.{GroundAtom}
use Rattle.clp_model.specs.Clauses.{Clause, Instance}
use Rattle.clp_model.specs.Proof.{Provable, Node, InstanceIn}
use Rattle.clp_model.proofs.Carrying.{carried}
use Rattle.clp_model.proofs.Membership.{Among, first, next, to_among, from_among}
use Rattle.clp_meaning.specs.Laws.{HaveSameInstances}
use Rattle.unify_laws.proofs.Solved.{among_cases}
use Rattle.clause_model.specs.Canonical.{IsCanonical}
use Rattle.clause_laws.specs.Laws.{AllStand}
use Rattle.map_model.specs.WellFormed.{clauses_at}

-- ---- places
pub places_of : (cs : List Clause) → clauses_at (map Some cs) ≡ cs
places_of [] = refl
places_of (c ∷ cs) = ap (λ ds. c ∷ ds) (places_of cs)

pub places_append : (ds es : List (Option Clause)) → clauses_at (ds ++ es) ≡ clauses_at ds ++ clauses_at es
places_append [] es = refl
places_append (None ∷ ds) es = places_append ds es
places_append (Some d ∷ ds) es = ap (λ cs. d ∷ cs) (places_append ds es)

pub stand_both : (ds es : List (Option Clause)) (cs fs : List Clause) → AllStand ds cs → AllStand es fs → AllStand (ds ++ es) (cs ++ fs)
stand_both [] es [] fs h k = k
stand_both [] es (c ∷ cs) fs h k = absurd h
stand_both (d ∷ ds) es [] fs h k = absurd h
stand_both (d ∷ ds) es (c ∷ cs) fs h k = (h.0, stand_both ds es cs fs h.1 k)

-- canonical clauses stand for themselves
pub itself_stands : (cs : List Clause) → ((c : Clause) → Among c cs → IsCanonical c) → AllStand (map Some cs) cs
itself_stands [] h = tt
itself_stands (c ∷ cs) h = ((((λ a body i. i), (λ a body i. i)), h c first), itself_stands cs (λ d m. h d (next m)))

-- ---- what is provable
-- an instance of a source clause is one of the clause at its place
stands_for : (ds : List (Option Clause)) (cs : List Clause) → AllStand ds cs → (c : Clause) → Among c cs → (a : GroundAtom) (body : List GroundAtom) → Instance c a body → (d : Clause) × Among d (clauses_at ds) × Instance d a body
stands_for [] [] h c m a body i = elim m [ ]
stands_for [] (x ∷ cs) h c m a body i = absurd h
stands_for (d ∷ ds) [] h c m a body i = absurd h
stands_for (None ∷ ds) (x ∷ cs) h c m a body i = among_cases m
    (λ q. absurd (h.0 a body (subst (λ y. Instance y a body) q i)))
    (λ n. stands_for ds cs h.1 c n a body i)
stands_for (Some d ∷ ds) (x ∷ cs) h c m a body i = among_cases m
    (λ q. (d, first, h.0.0.0 a body (subst (λ y. Instance y a body) q i)))
    (λ n. let w = stands_for ds cs h.1 c n a body i in (w.0, next w.1, w.2))

-- and back
stood_for : (ds : List (Option Clause)) (cs : List Clause) → AllStand ds cs → (d : Clause) → Among d (clauses_at ds) → (c : Clause) × Among c cs × HaveSameInstances d c
stood_for [] [] h d m = elim m [ ]
stood_for [] (x ∷ cs) h d m = absurd h
stood_for (e ∷ ds) [] h d m = absurd h
stood_for (None ∷ ds) (x ∷ cs) h d m = let w = stood_for ds cs h.1 d m in (w.0, next w.1, w.2)
stood_for (Some e ∷ ds) (x ∷ cs) h d m = among_cases m
    (λ q. (x, first, subst (λ y. HaveSameInstances y x) (sym q) h.0.0))
    (λ n. let w = stood_for ds cs h.1 d n in (w.0, next w.1, w.2))

pub standing_proves : (ds : List (Option Clause)) (cs : List Clause) → AllStand ds cs → (a : GroundAtom) → Provable (clauses_at ds) a ↔ Provable cs a
standing_proves ds cs all a =
    let at = clauses_at ds in (
      (λ q. carried (InstanceIn at) (InstanceIn cs) (λ b body r ps. let w = stood_for ds cs all r.0 (to_among at r.0 r.1) in Node (w.0, from_among w.1, w.2.1 b body r.2) ps) q),
      (λ q. carried (InstanceIn cs) (InstanceIn at) (λ b body r ps. let w = stands_for ds cs all r.0 (to_among cs r.0 r.1) b body r.2 in Node (w.0, from_among w.1, w.2) ps) q),
    )
