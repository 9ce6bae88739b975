-- Unfoldings: the resolvents are found first, and then the steps compute.
use Rattle.std.proofs.Common.{◌≡◌, ◌∷◌, [], refl, Some, None}
use Rattle.std.specs.Prelude.{Ok}
use Rattle.clp_model.specs.declared.tree.Tree.TheBlock as block
use Rattle.clp_model.specs.Trees.{mapped, variables, size, depth}
use Rattle.clp_model.specs.Canonical.{clause_size, clause_depth}
use Rattle.clp_model.specs.Predicates.{initial_predicates}
use Rattle.clp_model.proofs.Trees.{size_app, name_of_app, arguments_of_app}
use Rattle.unify_model.specs.Substituting.{substituted}
use Rattle.unify_model.specs.Unifying.{most_general_unifier, apart}
use Rattle.clause_model.specs.Canonical.{canonical_form, limit_past, new_clause}
use Rattle.clause_model.specs.Solved.{solved_clause}
use Rattle.unfold_model.specs.Resolvent.{resolvent}
use Rattle.print_model.specs.Names.{predicate_text}
use Rattle.print_model.specs.Clauses.{program_text, clause_text}
use Rattle.print_model.proofs.Applications.{atom_app}
use Rattle.worked_examples.specs.Samples.{p, q, r}
use Rattle.worked_examples.specs.Unfoldings.{calling, unrelated, recursive, unit, UnfoldWithoutResolvent, LiveWithoutResolvent, PrintedWithoutResolvent, UnfoldWithItself, LiveAfterUnfold, PrintedAfterUnfold}

-- ---- resolvents
calling_with_itself : resolvent calling 0 calling ≡ None
unfolding resolvent solved_clause most_general_unifier apart substituted variables mapped block.hidden-the_row-Tree-0 denote.Hole.Carrier.hidden
calling_with_itself = refl

calling_with_unrelated : resolvent calling 0 unrelated ≡ None
unfolding resolvent solved_clause most_general_unifier apart substituted variables mapped block.hidden-the_row-Tree-0 denote.Hole.Carrier.hidden
calling_with_unrelated = refl

recursive_with_itself : resolvent recursive 0 recursive ≡ Some recursive
unfolding resolvent solved_clause most_general_unifier apart substituted variables mapped block.hidden-the_row-Tree-0 denote.Hole.Carrier.hidden
recursive_with_itself = refl

recursive_with_unit : resolvent recursive 0 unit ≡ Some unit
unfolding resolvent solved_clause most_general_unifier apart substituted variables mapped block.hidden-the_row-Tree-0 denote.Hole.Carrier.hidden
recursive_with_unit = refl

-- ---- sizes and canonical forms
size_calling : clause_size calling ≡ 2
unfolding clause_size
size_calling = simp size_app refl

size_unrelated : clause_size unrelated ≡ 1
unfolding clause_size
size_unrelated = simp size_app refl

size_recursive : clause_size recursive ≡ 2
unfolding clause_size
size_recursive = simp size_app refl

size_unit : clause_size unit ≡ 1
unfolding clause_size
size_unit = simp size_app refl

new_recursive : new_clause recursive ≡ Ok recursive
unfolding new_clause limit_past canonical_form clause_size clause_depth size depth mapped variables block.hidden-the_row-Tree-0 denote.Hole.Carrier.hidden
new_recursive = refl

new_unit : new_clause unit ≡ Ok unit
unfolding new_clause limit_past canonical_form clause_size clause_depth size depth mapped variables block.hidden-the_row-Tree-0 denote.Hole.Carrier.hidden
new_unit = refl

-- ---- predicates
predicates_unrelated : initial_predicates (calling ∷ unrelated ∷ []) ≡ record { name = p; arity = 0 } ∷ record { name = q; arity = 0 } ∷ record { name = r; arity = 0 } ∷ []
predicates_unrelated = simp (name_of_app, arguments_of_app) refl

predicates_recursive : initial_predicates (recursive ∷ unit ∷ []) ≡ record { name = p; arity = 0 } ∷ []
predicates_recursive = simp (name_of_app, arguments_of_app) refl

-- ---- without a resolvent
pub unfold_without_resolvent : UnfoldWithoutResolvent
unfold_without_resolvent = rw (calling_with_itself, calling_with_unrelated, size_calling, size_unrelated, predicates_unrelated) refl

pub live_without_resolvent : LiveWithoutResolvent
live_without_resolvent = (refl, refl)

pub printed_without_resolvent : PrintedWithoutResolvent
unfolding program_text clause_text predicate_text
printed_without_resolvent = simp atom_app

-- ---- a clause unfolded with itself
pub unfold_with_itself : UnfoldWithItself
unfold_with_itself = rw (recursive_with_itself, recursive_with_unit, new_recursive, new_unit, size_recursive, size_unit, predicates_recursive) refl

pub live_after_unfold : LiveAfterUnfold
live_after_unfold = (refl, refl)

pub printed_after_unfold : PrintedAfterUnfold
unfolding program_text clause_text predicate_text
printed_after_unfold = simp atom_app
