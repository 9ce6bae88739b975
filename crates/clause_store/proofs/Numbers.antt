-- The numbers of the variables of a tree.
use Rattle.std.proofs.Common.{◌≡◌, ℕ, ◌+◌, ◌<◌, List, [], ◌∷◌, ◌++◌, length, drop, get_or, nat_eq, ap, ◌∙◌, sym, add-one}
use Rattle.std.proofs.Math.Seq.{drop-cons}
use Rattle.clp_model.specs.declared.sort.Sort.{Sort}
use Rattle.clp_model.specs.declared.tree.Variable.{Variable}
use Rattle.clp_model.specs.declared.tree.Tree.{Tree, App}
use Rattle.clp_model.specs.Trees.{mapped, mapped_all, variables, variables_in}
use Rattle.clp_model.specs.Predicates.{distinct_after}
use Rattle.clp_model.specs.Clauses.{Row}
use Rattle.clause_model.specs.Variables.{row_variables, rows_variables}
use Rattle.clp_model.proofs.Trees.{mapped_app, mapped_var, variables_app, variables_var}
use Rattle.clp_model.proofs.Membership.{distinct_append}
use Rattle.term_store.specs.Trees.{variable}
use Rattle.clause_store.specs.Stored.{number_of, atom_at, atoms_at}

pub numbers_var : (tree : Tree Variable) (n : ℕ) (s : Sort) → tree ≡ variable n s → variables (mapped number_of tree) ≡ n ∷ []
numbers_var tree n s is = ap (λ t. variables (mapped number_of t)) is ∙ ap variables (mapped_var number_of (record { number = n; sort = s })) ∙ variables_var n

pub numbers_app : (tree : Tree Variable) (name : List ℕ) (ts : List (Tree Variable)) → tree ≡ App name ts → variables (mapped number_of tree) ≡ variables_in (mapped_all number_of ts)
numbers_app tree name ts is = ap (λ t. variables (mapped number_of t)) is ∙ ap variables (mapped_app number_of name ts) ∙ variables_app name (mapped_all number_of ts)

-- the variables of the rest, after one more term
pub met_more : (store : List (Tree Variable)) (terms found : List ℕ) (i term : ℕ) → i < length terms → term ≡ get_or terms i term
    → distinct_after nat_eq (distinct_after nat_eq found (variables (atom_at store term))) (variables_in (atoms_at store (drop (i + 1) terms))) ≡ distinct_after nat_eq found (variables_in (atoms_at store (drop i terms)))
met_more store terms found i term within item =
    let rest : List ℕ = drop (i + 1) terms in
    sym (distinct_append found (variables (atom_at store term)) (variables_in (atoms_at store rest)))
    ∙ ap (λ (ts : List ℕ). distinct_after nat_eq found (variables_in (atoms_at store ts)))
    (ap (λ (t : ℕ). t ∷ rest) item ∙ ap (λ (k : ℕ). get_or terms i term ∷ drop k terms) (add-one i) ∙ sym (drop-cons terms i term within))

-- the variables of a clause are those of the head, then those of the body, and then those of the rows
pub met_three : (t : Tree ℕ) (ts : List (Tree ℕ)) (rows : List Row)
    → distinct_after nat_eq (distinct_after nat_eq (distinct_after nat_eq [] (variables t)) (variables_in ts)) (rows_variables rows) ≡ distinct_after nat_eq [] (variables_in (t ∷ ts) ++ rows_variables rows)
met_three t ts rows =
    ap (λ (found : List ℕ). distinct_after nat_eq found (rows_variables rows)) (sym (distinct_append [] (variables t) (variables_in ts)))
    ∙ sym (distinct_append [] (variables_in (t ∷ ts)) (rows_variables rows))

-- the variables of the rest, after one more row
pub rows_more : (rows : List Row) (found : List ℕ) (i : ℕ) (row : Row) → i < length rows → row ≡ get_or rows i row
    → distinct_after nat_eq (distinct_after nat_eq found (row_variables row)) (rows_variables (drop (i + 1) rows)) ≡ distinct_after nat_eq found (rows_variables (drop i rows))
rows_more rows found i row within item =
    let rest : List Row = drop (i + 1) rows in
    sym (distinct_append found (row_variables row) (rows_variables rest))
    ∙ ap (λ (rs : List Row). distinct_after nat_eq found (rows_variables rs))
    (ap (λ (r : Row). r ∷ rest) item ∙ ap (λ (k : ℕ). get_or rows i row ∷ drop k rows) (add-one i) ∙ sym (drop-cons rows i row within))
