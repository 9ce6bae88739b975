-- Canonical forms and merges: they compute, once the trees are seen by their arguments.
use Rattle.std.proofs.Common.{◌≡◌, true, false, [], ◌∷◌, refl, ◌∙◌}
use Rattle.std.specs.Prelude.{None, Ok}
use Rattle.clp_model.specs.declared.tree.Tree.{Var, App}
use Rattle.clp_model.specs.Canonical.{clause_size, clause_depth}
use Rattle.clp_model.specs.Predicates.{initial_predicates}
use Rattle.clp_model.proofs.Trees.{size_app, size_var, depth_app, depth_var, variables_app, variables_var, mapped_app, mapped_var, name_of_app, arguments_of_app}
use Rattle.clause_model.specs.Variables.{variables_by_first_occurrence}
use Rattle.clause_model.specs.Canonical.{canonical_form, with_clean_rows, limit_past, new_clause}
use Rattle.print_model.specs.Names.{predicate_text}
use Rattle.print_model.specs.Clauses.{program_text, clause_text}
use Rattle.print_model.proofs.Applications.{atom_app}
use Rattle.map_model.specs.SameTree.{same_tree}
use Rattle.worked_examples.specs.Samples.{p, q}
use Rattle.worked_examples.specs.Merges.{scattered, repeated, single, CanonicalNumbers, SizeAndDepth, MergeGives, LiveAfterMerge, PrintedAfterMerge, MergeOfNoClause, MergeOfNoAtom, MergeOfOneAtom, MergeOfUnequalAtoms}
use Rattle.worked_examples.proofs.Trees.{same_app, same_var}

-- ---- canonical forms
met : variables_by_first_occurrence (with_clean_rows scattered) ≡ 5 ∷ 2 ∷ 7 ∷ []
met = simp (variables_app, variables_var) refl

pub canonical_numbers : CanonicalNumbers
unfolding canonical_form
canonical_numbers = rw met (simp (mapped_app, mapped_var) refl)

pub size_and_depth : SizeAndDepth
unfolding clause_size clause_depth
size_and_depth = (simp (size_app, size_var) refl, simp (depth_app, depth_var) refl)

-- ---- a merge
same_q : same_tree (App q []) (App q []) ≡ true
same_q = same_app q q [] []

size_repeated : clause_size repeated ≡ 3
unfolding clause_size
size_repeated = simp size_app refl

size_single : clause_size single ≡ 2
unfolding clause_size
size_single = simp size_app refl

depth_single : clause_depth single ≡ 1
unfolding clause_depth
depth_single = simp depth_app refl

met_single : variables_by_first_occurrence (with_clean_rows single) ≡ []
met_single = simp variables_app refl

canonical_single : canonical_form single ≡ single
unfolding canonical_form
canonical_single = rw met_single (simp mapped_app refl)

limit_single : limit_past single ≡ None
unfolding limit_past
limit_single = rw (size_single, depth_single) refl

new_single : new_clause single ≡ Ok single
unfolding new_clause
new_single = rw (canonical_single, limit_single) refl

predicates_repeated : initial_predicates (repeated ∷ []) ≡ record { name = p; arity = 0 } ∷ record { name = q; arity = 0 } ∷ []
predicates_repeated = simp (name_of_app, arguments_of_app) refl

pub merge_gives : MergeGives
merge_gives = rw (same_q, size_repeated, new_single, size_single, predicates_repeated) refl

pub live_after_merge : LiveAfterMerge
live_after_merge = (refl, refl)

pub printed_after_merge : PrintedAfterMerge
unfolding program_text clause_text predicate_text
printed_after_merge = simp atom_app

-- ---- refused merges
pub merge_of_no_clause : MergeOfNoClause
merge_of_no_clause = (refl, refl)

pub merge_of_no_atom : MergeOfNoAtom
merge_of_no_atom = (refl, refl)

pub merge_of_one_atom : MergeOfOneAtom
merge_of_one_atom = refl

unequal_atoms : same_tree (App q (Var 1 ∷ [])) (App q (Var 2 ∷ [])) ≡ false
unequal_atoms = same_app q q (Var 1 ∷ []) (Var 2 ∷ []) ∙ rw (same_var 1 2) refl

pub merge_of_unequal_atoms : MergeOfUnequalAtoms
merge_of_unequal_atoms = rw unequal_atoms refl
