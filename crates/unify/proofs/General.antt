-- What is read off is what unify owes.
use Rattle.std.proofs.Common.{◌≡◌, ℕ, List, sym, ap, ◌∙◌, subst}
use mathlib.Core.Path.{fun_ext}
use Rattle.clp_model.specs.declared.tree.Variable.{Variable}
use Rattle.clp_model.specs.declared.tree.Tree.{Tree}
use Rattle.unify_model.specs.Substituting.{Binding, image}
use Rattle.unify_model.specs.Equations.{Equation}
use Rattle.unify_model.specs.Solving.{IsMostGeneralUnifier}
use Rattle.unify_closure.specs.declared.node.Node.{Node}
use Rattle.unify_closure.specs.declared.solving.Solved.{Solved}
use Rattle.unify_closure.specs.Graph.{Describes}
use Rattle.unify_closure.specs.Reading.{equations}
use Rattle.unify_closure.specs.Solved.{AreMostGeneral, IsMostGeneral, read_bindings}
use Rattle.unify.specs.declared.graph.TermGraph.{TermGraph}
use Rattle.unify.specs.Graphs.{node_tree}
use Rattle.unify.specs.Pairs.{AreEntered, equations_at}
use Rattle.unify.specs.Unifiers.{Unifies}

pub unifies : (es : List Equation) (bs : List Binding) (f : Variable → Tree Variable) → AreMostGeneral es bs → ((v : Variable) → f v ≡ image bs v) → Unifies es f
unifies es bs f h e = record {
  unifier = h.images.unifier;
  is = h.images.is;
  images = λ v. e v ∙ sym (h.images.images v);
  general = subst (IsMostGeneralUnifier es) (fun_ext (λ v. sym (e v))) h.solution;
}

-- the bindings that are read off the solved graph
pub are_general : (store : List (Tree Variable)) (g : TermGraph) (pairs es eqs : List (ℕ × ℕ)) (ns : List Node) (ts : List ℕ) (s : Solved) (bs : List Binding)
    → AreEntered store g pairs es → ns ≡ g.nodes.items → ts ≡ g.terms.items → eqs ≡ es → IsMostGeneral ns eqs s → bs ≡ read_bindings ns (node_tree store ts) s → AreMostGeneral (equations_at store pairs) bs
are_general store g pairs es eqs ns ts s bs h e f k m r =
    let trees : ℕ → Tree Variable = node_tree store ts in
    let same : trees ≡ node_tree store g.terms.items = ap (node_tree store) f in
    let describes : Describes ns trees = subst (λ (xs : List Node). Describes xs trees) (sym e) (subst (Describes g.nodes.items) (sym same) h.graph.nodes.trees) in
    let are : equations trees eqs ≡ equations_at store pairs = ap (equations trees) k ∙ ap (λ (t : ℕ → Tree Variable). equations t es) same ∙ h.are in
    subst (AreMostGeneral (equations_at store pairs)) (sym r) (subst (λ (qs : List Equation). AreMostGeneral qs (read_bindings ns trees s)) are (m trees describes))
