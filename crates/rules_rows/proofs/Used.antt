-- Whether a variable is in one of several terms.
use Rattle.std.proofs.Common.{◌≡◌, ℕ, ◌+◌, ◌<◌, List, ◌∷◌, length, drop, get_or, ◌||◌, nat_eq, ap, ◌∙◌, sym, add-one}
use Rattle.std.specs.List.{list_any}
use Rattle.std.proofs.Math.Seq.{drop-cons}
use Rattle.std.proofs.lemmas.List.Folds.{list_any-append}
use Rattle.clp_model.specs.declared.tree.Variable.{Variable}
use Rattle.clp_model.specs.declared.tree.Tree.{Tree}
use Rattle.clp_model.specs.Trees.{variables, variables_in}
use Rattle.clause_store.specs.Stored.{atom_at, atoms_at}

-- in the terms from the one at place i on
pub used_from : (store : List (Tree Variable)) (v : ℕ) (terms : List ℕ) (i term : ℕ) → i < length terms → term ≡ get_or terms i term
    → list_any (nat_eq v) (variables_in (atoms_at store (drop i terms)))
    ≡ (list_any (nat_eq v) (variables (atom_at store term)) || list_any (nat_eq v) (variables_in (atoms_at store (drop (i + 1) terms))))
used_from store v terms i term within item =
    let rest : List ℕ = drop (i + 1) terms in
    ap (λ (ts : List ℕ). list_any (nat_eq v) (variables_in (atoms_at store ts)))
    (drop-cons terms i term within ∙ ap (λ (k : ℕ). get_or terms i term ∷ drop k terms) (sym (add-one i)) ∙ ap (λ (t : ℕ). t ∷ rest) (sym item))
    ∙ list_any-append (nat_eq v) (variables (atom_at store term)) (variables_in (atoms_at store rest))
