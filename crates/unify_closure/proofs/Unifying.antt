-- What unify owes, by what its calls ensure.
use Rattle.std.proofs.Common.{◌≡◌, ℕ, ◌<◌, List, [], ◌∷◌, length, refl, sym, ap, ◌∙◌, subst, inl, inr}
use Rattle.clp_model.specs.declared.tree.Variable.{Variable}
use Rattle.clp_model.specs.declared.tree.Tree.{Tree}
use Rattle.clp_model.specs.Values.{Value}
use Rattle.clp_model.proofs.Membership.{Among}
use Rattle.unify_model.specs.Substituting.{Binding, image}
use Rattle.unify_model.specs.Equations.{AllHold, under}
use Rattle.unify_model.specs.Solving.{IsMostGeneralUnifier}
use Rattle.unify_laws.proofs.Triangular.{AreTriangular}
use Rattle.unify_laws.proofs.Laws.{none_is_mgu}
use Rattle.unify_closure.specs.declared.node.Node.{Node}
use Rattle.unify_closure.specs.declared.closing.State.{State}
use Rattle.unify_closure.specs.Graph.{node_at, Describes, PairsHold, value_at}
use Rattle.unify_closure.specs.Classes.{root}
use Rattle.unify_closure.specs.Closing.{NeverHold}
use Rattle.unify_closure.specs.Turns.{best_at, Closes, AllBelow}
use Rattle.unify_closure.specs.Reading.{IsOrder, with_binding, bindings, equations, HasOnePlace}
use Rattle.unify_closure.specs.Sorting.{rep_of, latest, latest_onto, Solves, NeverSolves, AreStands}
use Rattle.unify_closure.specs.Solved.{StandsFor, AreMostGeneral, HasNoUnifier}
use Rattle.unify_closure.proofs.Reading.{is_mgu, is_solution, in_order}

to_pairs : (trees : ℕ → Tree Variable) (a : Variable → Value) (es : List (ℕ × ℕ)) → AllHold a (equations trees es) → PairsHold (value_at a trees) es
to_pairs trees a [] h = tt
to_pairs trees a (e ∷ es) h = (h.0, to_pairs trees a es h.1)

pub never_mgu : (g : List Node) (input : List (ℕ × ℕ)) → NeverHold g input → HasNoUnifier g input
never_mgu g input never trees d = none_is_mgu (equations trees input) (λ u h. never trees d u (to_pairs trees (under u) input h))

module _ (g : List Node) (s : State) (input : List (ℕ × ℕ)) (is : Closes g s [] input) (stands : List ℕ) (f : StandsFor (length g) s stands) where
  abbrev c : ℕ → ℕ
  c p = root s.parents.items p

  abbrev b : ℕ → ℕ
  b p = best_at s.best.items p

  pub are_stands : AreStands g stands
  are_stands p lt =
      let w = is.best_is p lt in
      let e = f.each p lt in
      (subst (λ m. m < length g) (sym e) w.0, ap (rep_of stands) e ∙ f.each (b (c p)) w.0 ∙ ap b w.1 ∙ sym e)

  pub never_solves : NeverSolves g stands → NeverHold g input
  never_solves never trees d u h = never trees d u solves
    where
      v : ℕ → Value
      v = value_at (under u) trees

      same : (p : ℕ) → p < length g → value_at (under u) trees p ≡ value_at (under u) trees (c p)
      same = ((is.means trees d u).0 h).0

      solves : Solves g stands (value_at (under u) trees)
      solves p lt =
          let w = is.best_is p lt in
          same p lt ∙ ap (value_at (under u) trees) (sym w.1) ∙ sym (same (b (c p)) w.0) ∙ ap (value_at (under u) trees) (sym (f.each p lt))

  order_same : (ps : List ℕ) → IsOrder g (rep_of stands) ps → IsOrder g (λ p. b (c p)) ps
  order_same [] o = tt
  order_same (p ∷ ps) o = (
    record {
      within = o.0.within;
      new = o.0.new;
      arguments = o.0.arguments;
      stands = elim o.0.stands [ inl q ↦ inl (sym (f.each p o.0.within) ∙ q) | inr m ↦ inr (subst (λ z. Among z ps) (f.each p o.0.within) m) ];
    },
    order_same ps o.1,
  )

  bindings_same : (trees : ℕ → Tree Variable) (ps : List ℕ) → IsOrder g (rep_of stands) ps → bindings g trees (λ p. b (c p)) ps ≡ bindings g trees (rep_of stands) ps
  bindings_same trees [] o = refl
  bindings_same trees (p ∷ ps) o =
      ap (λ r. with_binding trees p (node_at g p) r (bindings g trees (λ q. b (c q)) ps)) (sym (f.each p o.0.within))
      ∙ ap (λ bs. with_binding trees p (node_at g p) (rep_of stands p) bs) (bindings_same trees ps o.1)

  pub reads_mgu : HasOnePlace g → (order : List ℕ) → IsOrder g (rep_of stands) (latest order) → ((p : ℕ) → p < length g → Among p (latest order)) → (trees : ℕ → Tree Variable) → Describes g trees → AreMostGeneral (equations trees input) (bindings g trees (rep_of stands) (latest order))
  reads_mgu one order o every trees d =
      let m = is_mgu g trees d one c b input is (latest order) (order_same (latest order) o) every in
      let same = bindings_same trees (latest order) o in
      record {
        images = record { unifier = m.0; is = m.1; images = λ v. m.2 v ∙ ap (λ (bs : List Binding). image bs v) same };
        solution = subst (λ (bs : List Binding). IsMostGeneralUnifier (equations trees input) (image bs)) same (is_solution g trees d one c b input is (latest order) (order_same (latest order) o) every);
        order = subst (AreTriangular (λ v. Unit {0})) same (in_order g trees d one c b input is (latest order) (order_same (latest order) o) every);
      }

-- ---- the places of an order
part_ordered : (g : List Node) (rep : ℕ → ℕ) (acc xs : List ℕ) → IsOrder g rep (latest_onto acc xs) → IsOrder g rep acc
part_ordered g rep acc [] o = o
part_ordered g rep acc (x ∷ xs) o = (part_ordered g rep (x ∷ acc) xs o).1

all_below : (g : List Node) (rep : ℕ → ℕ) (acc xs : List ℕ) → IsOrder g rep (latest_onto acc xs) → AllBelow (length g) xs
all_below g rep acc [] o = tt
all_below g rep acc (x ∷ xs) o = ((part_ordered g rep (x ∷ acc) xs o).0.within, all_below g rep (x ∷ acc) xs o)

pub order_below : (g : List Node) (rep : ℕ → ℕ) (order : List ℕ) → IsOrder g rep (latest order) → AllBelow (length g) order
order_below g rep order o = all_below g rep [] order o
