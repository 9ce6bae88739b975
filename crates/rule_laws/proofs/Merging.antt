-- A merge meets what the rank asks of it.
use Rattle.std.proofs.Common.{ℕ, List, get_or, Bool, refl, sym, subst, map}
use Rattle.std.specs.Prelude.{remove, Contains}
use Rattle.clp_model.specs.declared.tree.Tree.{Tree, Var}
use Rattle.clp_model.specs.Values.{GroundAtom}
use Rattle.clp_model.specs.Clauses.{Clause, Instance, ground_of}
use Rattle.clp_meaning.specs.Laws.{without_atom}
use Rattle.clp_meaning.proofs.Merging.{removed_at, other_left}
use Rattle.clp_meaning.proofs.Merging.{Removed as Gone, here as gone_here, later as gone_later}
use Rattle.clp_rank.specs.Rules.{Removed, here, later, Narrows}
use Rattle.clp_rank.specs.Entries.{Entry, setting}
use Rattle.clause_model.specs.Canonical.{canonical_form}
use Rattle.clause_laws.proofs.Numbering.{canonical_form_keeps_instances}
use Rattle.rule_laws.specs.Steps.{IsMerge}

removed_grounds : {A B : Type 0} (g : A → B) {x : A} {xs ys : List A} → Gone x xs ys → Removed (g x) (map g xs) (map g ys)
removed_grounds g gone_here = here
removed_grounds g (gone_later r) = later (removed_grounds g r)

module _ (defined : GroundAtom → Bool) (live live' : List Entry) (k : Entry) (i j : ℕ) (h : IsMerge live live' k i j) where
  abbrev c : Clause
  c = k.clause

  abbrev less : Clause
  less = without_atom c j

  abbrev any : Tree ℕ
  any = Var 0

  abbrev t : Tree ℕ
  t = get_or c.body j any

  taken : Gone t c.body (remove c.body j)
  taken = removed_at c.body j any h.twice.second_within

  again : (rest : List (Tree ℕ)) × Gone t (remove c.body j) rest
  again =
      let o = other_left c.body i j any h.twice.first_within h.twice.second_within h.twice.apart in
      (o.0, subst (λ y. Gone y (remove c.body j) o.0) (h.twice.same any) o.1)

  narrowed : (a : GroundAtom) (body : List GroundAtom) → Instance c a body → (b : GroundAtom) × (fewer : List GroundAtom) × Removed b body fewer × Instance (canonical_form less) a fewer
  narrowed a body s =
      let g = ground_of c.sorts s.valuation in
      let one : Instance less a (map g (remove c.body j)) = record { valuation = s.valuation; equations = s.equations; rows = s.rows; head_is = s.head_is; body_is = refl } in (
        g t,
        map g (remove c.body j),
        subst (λ xs. Removed (g t) xs (map g (remove c.body j))) (sym s.body_is) (removed_grounds g taken),
        (canonical_form_keeps_instances less h.held.equations).0 a (map g (remove c.body j)) one,
      )

  widened : (a : GroundAtom) (fewer : List GroundAtom) → Instance (canonical_form less) a fewer → (b : GroundAtom) × (body : List GroundAtom) × (others : List GroundAtom) × Removed b body fewer × Removed b fewer others × Instance c a body
  widened a fewer s =
      let o = (canonical_form_keeps_instances less h.held.equations).1 a fewer s in
      let g = ground_of c.sorts o.valuation in (
        g t,
        map g c.body,
        map g again.0,
        subst (λ xs. Removed (g t) (map g c.body) xs) (sym o.body_is) (removed_grounds g taken),
        subst (λ xs. Removed (g t) xs (map g again.0)) (sym o.body_is) (removed_grounds g again.1),
        record { valuation = o.valuation; equations = o.equations; rows = o.rows; head_is = o.head_is; body_is = refl },
      )

  pub narrows : Narrows (setting defined) (Contains live) (Contains live') k (record { clause = canonical_form less; mark = k.mark })
  narrows = record { was = h.was; now = h.now; same_mark = refl; kept = h.kept; old = h.old; made = narrowed; from = widened }
