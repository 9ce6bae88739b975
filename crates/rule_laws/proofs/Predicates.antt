-- The predicate of a ground atom is that of its atom.
use Rattle.std.proofs.Common.{◌≡◌, ℕ, suc, List, length, refl, ap}
use Rattle.clp_model.specs.declared.sort.Sort.{Sort}
use Rattle.clp_model.specs.declared.tree.Tree.{Tree, Var, App', Row_of-Tree, end_of-Tree, more_of-Tree, items-the_row-Tree}
use Rattle.clp_model.specs.declared.predicate.Pred.{Pred}
use Rattle.clp_model.specs.Trees.{IsApplication, name_of, arguments_of}
use Rattle.clp_model.specs.Values.{Valuation, value_of, row_values, count_of, atom_of}
use Rattle.clp_model.specs.Predicates.{predicate_of, ground_predicate}

count_row : (f : ℕ → Sort) (u : Valuation) (m : _) (ts : Row_of-Tree ℕ m) → count_of (row_values f u ts) ≡ length (items-the_row-Tree ℕ m ts)
unfolding value_of
count_row f u m end_of-Tree = refl
count_row f u m (more_of-Tree t ts) = ap suc (count_row f u _ ts)

abbrev of_arity : List ℕ → ℕ → Pred
of_arity name n = record { name = name; arity = n }

pub grounds_predicate : (f : ℕ → Sort) (u : Valuation) (t : Tree ℕ) → IsApplication t → ground_predicate (atom_of (value_of f u t)) ≡ predicate_of t
unfolding value_of IsApplication name_of arguments_of
grounds_predicate f u (Var n) h = absurd h
grounds_predicate f u (App' name shape args) h = ap (of_arity name) (count_row f u _ args)
