-- The live clauses of a state prove what its base proves.
use Rattle.std.proofs.Common.{◌≡◌, ◌↔◌, List, [], ◌∷◌, ◌++◌, map, refl, sym, ◌∙◌, ap, subst, true}
use Rattle.std.specs.Prelude.{Contains}
use Rattle.std.proofs.lemmas.List.{map-append}
use Rattle.clp_model.specs.Values.{GroundAtom}
use Rattle.clp_model.specs.Clauses.{Clause, Instance}
use Rattle.clp_model.specs.Proof.{Provable, Node, InstanceIn}
use Rattle.clp_model.proofs.Carrying.{carried}
use Rattle.clp_model.proofs.Membership.{to_among, from_among, among_mapped}
use Rattle.clp_rank.specs.Ranked.{InstanceIn as InstanceOf}
use Rattle.clp_rank.specs.Entries.{Entry as Marked, setting, ProvableBy}
use Rattle.clp_rank.proofs.Total.{same_meaning}
use Rattle.map_model.specs.State.{Entry, State, entries_where, is_loaded, live_entries, live_clauses, base_clauses}
use Rattle.state_laws.specs.KeptState.{marked, unmarked, live_of, base_of, defined_by}
use Rattle.state_laws.specs.Laws.{LiveAndBaseProveTheSame}
use Rattle.state_laws.proofs.Variables.{among_map}

abbrev clause_of : Marked → Clause
clause_of x = x.clause

-- what entries prove, their clauses prove, and back
proves : (program : List Marked) (a : GroundAtom) → ProvableBy program a → Provable (map clause_of program) a
proves program a p = carried (InstanceOf (setting (λ _. true)) (Contains program)) (InstanceIn (map clause_of program))
    (λ b body r ps. Node (r.0.clause, from_among (among_mapped clause_of (to_among program r.0 r.1)), r.2) ps) p

proved : (program : List Marked) (a : GroundAtom) → Provable (map clause_of program) a → ProvableBy program a
proved program a p = carried (InstanceIn (map clause_of program)) (InstanceOf (setting (λ _. true)) (Contains program))
    (λ b body r ps.
    let k = among_map clause_of program r.0 (to_among (map clause_of program) r.0 r.1) in
    Node (k.0, from_among k.1, subst (λ c. Instance c b body) k.2 r.2) ps) p

-- ---- the clauses of marked entries
of_marked : (es : List Entry) → map clause_of (map marked es) ≡ map (λ e. e.clause) es
of_marked [] = refl
of_marked (e ∷ es) = ap (λ cs. e.clause ∷ cs) (of_marked es)

of_unmarked : (cs : List Clause) → map clause_of (map unmarked cs) ≡ cs
of_unmarked [] = refl
of_unmarked (c ∷ cs) = ap (λ ds. c ∷ ds) (of_unmarked cs)

live_is : (s : State) → map clause_of (live_of s) ≡ live_clauses s
live_is s = of_marked (live_entries s)

base_is : (s : State) → map clause_of (base_of s) ≡ base_clauses s
base_is s =
    let loaded = entries_where is_loaded s.entries in
    map-append clause_of (map marked loaded) (map unmarked s.definitions)
    ∙ (ap (λ cs. cs ++ map clause_of (map unmarked s.definitions)) (of_marked loaded) ∙ ap (λ ds. map (λ e. e.clause) loaded ++ ds) (of_unmarked s.definitions))

pub live_and_base : LiveAndBaseProveTheSame
live_and_base s k a =
    let same : ProvableBy (live_of s) a ↔ ProvableBy (base_of s) a = same_meaning (setting (defined_by s)) (Contains (base_of s)) (Contains (live_of s)) k.ranked a in (
      (λ p. subst (λ cs. Provable cs a) (base_is s) (proves (base_of s) a (same.0 (proved (live_of s) a (subst (λ cs. Provable cs a) (sym (live_is s)) p))))),
      (λ p. subst (λ cs. Provable cs a) (live_is s) (proves (live_of s) a (same.1 (proved (base_of s) a (subst (λ cs. Provable cs a) (sym (base_is s)) p))))),
    )
