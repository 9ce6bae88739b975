-- Deletion of covered clauses and of useless predicates, and definitions, meet what the rank asks of them.
use Rattle.std.proofs.Common.{◌≡◌, ℕ, List, [], ◌∷◌, Bool, true, false, refl, sym, ◌∙◌, ap, subst, map, inl, inr}
use Rattle.std.specs.Prelude.{Contains}
use Rattle.std.specs.List.{AllByRecursion}
use Rattle.clp_model.specs.declared.tree.Tree.{Tree}
use Rattle.clp_model.specs.declared.predicate.Pred.{Pred}
use Rattle.clp_model.specs.Trees.{IsApplication}
use Rattle.clp_model.specs.Values.{GroundAtom, variable_value, value_of, atom_of}
use Rattle.clp_model.specs.Clauses.{Clause, Instance, RowHolds, sort_in, ground_of}
use Rattle.clp_model.specs.Predicates.{predicate_of, ground_predicate}
use Rattle.clp_model.proofs.Membership.{Among, first, next, to_among, from_among}
use Rattle.unify_model.specs.Substituting.{substituted}
use Rattle.clp_rank.specs.Rules.{Removed, here, later, Taken, Subsumed, Useless, Defines}
use Rattle.clp_rank.specs.Entries.{Entry, setting}
use Rattle.clause_laws.proofs.Rows.{all_each, each_all, renamed_holds}
use Rattle.rule_laws.specs.Steps.{IsHeld}
use Rattle.rule_laws.specs.Folding.{is_among, defined_in}
use Rattle.fold_model.specs.Internal.{number_in}
use Rattle.rule_laws.specs.Dropping.{Covers, IsSubsumption, IsUseless, IsKnown, IsDefinition, OfKnown}
use Rattle.rule_laws.proofs.Predicates.{grounds_predicate}
use Rattle.rule_laws.proofs.Unfolding.{none_hold}
use Rattle.rule_laws.proofs.Folding.{imaged, imaged_value, value_of_image, grounds_of_images, taken_mapped}

-- ---- a covered clause
covered : (c e : Clause) (s : ℕ → Tree ℕ) → IsHeld e → Covers e c s → (a : GroundAtom) (body : List GroundAtom) → Instance c a body → (fewer : List GroundAtom) × (rest : List GroundAtom) × Taken body fewer rest × Instance e a fewer
covered c e s he h a body t =
    let u = t.valuation in
    let w = imaged c e s h.respects u in
    let g = ground_of c.sorts u in
    let same : (x : ℕ) → value_of (sort_in c.sorts) u (s x) ≡ variable_value w x (sort_in e.sorts x) = imaged_value c e s h.respects u in
    let head : g c.head ≡ ground_of e.sorts w e.head = ap g (sym h.head) ∙ ap atom_of (value_of_image (sort_in c.sorts) (sort_in e.sorts) u w s e.head (λ x m. same x)) in
    let atoms : map g (map (substituted s) e.body) ≡ map (ground_of e.sorts w) e.body = grounds_of_images (sort_in c.sorts) (sort_in e.sorts) u w s e.body (λ x m. same x) in (
      map g (map (substituted s) e.body),
      map g h.rest,
      subst (λ xs. Taken xs (map g (map (substituted s) e.body)) (map g h.rest)) (sym t.body_is) (taken_mapped g h.taken),
      record {
        valuation = w;
        equations = none_hold e he.equations w;
        rows = each_all (RowHolds w) e.rows (λ r m. (renamed_holds (λ x. number_in (s x)) u w r refl (λ x k. refl)).0 (h.entailed r (from_among m) u t.rows));
        head_is = t.head_is ∙ head;
        body_is = atoms;
      },
    )

pub subsumed : (defined : GroundAtom → Bool) (live live' : List Entry) (k e : Entry) (s : ℕ → Tree ℕ) → IsSubsumption live live' k e s → Subsumed (setting defined) (Contains live) (Contains live') k e
subsumed defined live live' k e s h = record {
  stays = h.stays;
  marked = h.marked;
  kept = h.kept;
  old = h.old;
  made = λ a body t. let r = covered k.clause e.clause s h.held h.covers a body t in (r.0, r.1, r.2, r.3);
}

-- ---- predicates of instances
pub head_predicate : (c : Clause) → IsHeld c → (a : GroundAtom) (body : List GroundAtom) → Instance c a body → ground_predicate a ≡ predicate_of c.head
head_predicate c held a body i = ap ground_predicate i.head_is ∙ grounds_predicate (sort_in c.sorts) i.valuation c.head (all_each IsApplication (c.head ∷ c.body) held.applications c.head first)

-- what holds of the predicates of the atoms holds of the ground atoms
atoms_predicates : (P : Pred → Type 0) (c : Clause) → IsHeld c → ((t : Tree ℕ) → Among t c.body → P (predicate_of t)) → (a : GroundAtom) (body : List GroundAtom) → Instance c a body → AllByRecursion (λ b. P (ground_predicate b)) body
atoms_predicates P c held h a body i =
    subst (AllByRecursion (λ b. P (ground_predicate b))) (sym i.body_is) (all_of c.body (λ t m. (all_each IsApplication (c.head ∷ c.body) held.applications t (next m), h t m)))
  where
    all_of : (ts : List (Tree ℕ)) → ((t : Tree ℕ) → Among t ts → IsApplication t × P (predicate_of t)) → AllByRecursion (λ b. P (ground_predicate b)) (map (ground_of c.sorts i.valuation) ts)
    all_of [] q = tt
    all_of (t ∷ ts) q = let p = q t first in (subst P (sym (grounds_predicate (sort_in c.sorts) i.valuation t p.0)) p.1, all_of ts (λ x m. q x (next m)))

among_removed : {A B : Type 0} (g : A → B) {x : A} {xs : List A} → Among x xs → (others : List B) × Removed (g x) (map g xs) others
among_removed g (first {xs = xs}) = (map g xs, here)
among_removed g (next {y = y} a) = let r = among_removed g a in (g y ∷ r.0, later r.1)

-- ---- useless predicates
module _ (defined : GroundAtom → Bool) (set : List Pred) (live live' : List Entry) (h : IsUseless set live live') where
  abbrev Inside : GroundAtom → Type 0
  Inside a = defined_in set a ≡ true

  loops : (x : Entry) (a : GroundAtom) (body : List GroundAtom) → Contains live x → Instance x.clause a body → Inside a → (b : GroundAtom) × (others : List GroundAtom) × Removed b body others × Inside b
  loops x a body l i inside =
      let held = h.held x l in
      let c = x.clause in
      let p = head_predicate c held a body i in
      let t = h.loops x l (ap (is_among set) (sym p) ∙ inside) in
      let m = to_among c.body t.0 t.1 in
      let g = ground_of c.sorts i.valuation in
      let r = among_removed g m in (
        g t.0,
        r.0,
        subst (λ xs. Removed (g t.0) xs r.0) (sym i.body_is) r.1,
        ap (is_among set) (grounds_predicate (sort_in c.sorts) i.valuation t.0 (all_each IsApplication (c.head ∷ c.body) held.applications t.0 (next m))) ∙ t.2,
      )

  pub useless : Useless (setting defined) (Contains live) (Contains live') Inside
  useless = record {
    kept = λ x a body l i. elim (h.kept x l) [
      | inl e ↦
          let inside : Inside a = ap (is_among set) (head_predicate x.clause (h.held x l) a body i) ∙ e in
          let r = loops x a body l i inside in
          inr (r.0, r.1, r.2, r.3, inside)
      | inr n ↦ inl n
    ];
    loops = loops;
    old = h.old;
  }

-- ---- definitions
module _ (known preds preds' : List Pred) (base live : List Entry) (n : Entry) (h : IsDefinition known preds preds' base live n) where
  of_head : (x : Entry) → IsHeld x.clause × IsKnown known x.clause → (a : GroundAtom) (body : List GroundAtom) → Instance x.clause a body → OfKnown known a
  of_head x k a body i = ap (is_among known) (head_predicate x.clause k.0 a body i) ∙ k.1.head

  of_body : (x : Entry) → IsHeld x.clause × IsKnown known x.clause → (a : GroundAtom) (body : List GroundAtom) → Instance x.clause a body → AllByRecursion (OfKnown known) body
  of_body x k a body i = atoms_predicates (λ p. is_among known p ≡ true) x.clause k.0 (λ t m. all_each (λ t. is_among known (predicate_of t) ≡ true) x.clause.body k.1.atoms t m) a body i

  pub defines : Defines (setting (defined_in preds)) (defined_in preds') (Contains base) (Contains live) n (OfKnown known)
  defines = record {
    base_head = λ x a body l i. of_head x (h.base_held x l) a body i;
    base_body = λ x a body l i. of_body x (h.base_held x l) a body i;
    live_head = λ x a body l i. of_head x (h.live_held x l) a body i;
    live_body = λ x a body l i. of_body x (h.live_held x l) a body i;
    same = λ a o. h.same (ground_predicate a) o;
    fresh = λ a body i o. let e = ap (is_among known) (head_predicate n.clause h.held a body i) ∙ h.fresh in absurd (both_ways (is_among known (ground_predicate a)) o e);
    new_head = λ a body i. ap (is_among preds') (head_predicate n.clause h.held a body i) ∙ h.defined;
    new_body = λ a body i. atoms_predicates (λ p. is_among preds' p ≡ false) n.clause h.held (λ t m. all_each (λ t. is_among preds' (predicate_of t) ≡ false) n.clause.body h.initial t m) a body i;
    unmarked = h.unmarked;
  }
    where
      both_ways : (b : Bool) → b ≡ true → b ≡ false → ⊥
      both_ways b p q = cc
