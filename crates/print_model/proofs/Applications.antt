-- The texts of applications by the lists of their arguments.
use Rattle.std.proofs.Common.{◌≡◌, ℕ, List, ◌∷◌, map, refl, ap, ◌∙◌}
use Rattle.clp_model.specs.declared.tree.Tree.{Tree, Var, App, Row_of-Tree, end_of-Tree, more_of-Tree, items-the_row-Tree}
use Rattle.clp_model.specs.declared.tree.Tree.TheBlock.{items_hidden-the_row-Tree-0, hidden-the_row-Tree-0}
use Rattle.print_model.specs.Terms.{variable_text, other, application, applied, texts, row_texts, atom_text}

row_items : (n : _) (ts : Row_of-Tree ℕ n) → row_texts ts ≡ map texts (items-the_row-Tree ℕ n ts)
unfolding texts
row_items n end_of-Tree = refl
row_items n (more_of-Tree t ts) = ap (λ v. texts t ∷ v) (row_items _ ts)

hidden_texts : (ts : List (Tree ℕ)) → row_texts (hidden-the_row-Tree-0 ℕ ts) ≡ map texts ts
hidden_texts ts = row_items _ (hidden-the_row-Tree-0 ℕ ts) ∙ ap (map texts) (items_hidden-the_row-Tree-0 ℕ ts)

pub texts_app : (name : List ℕ) (ts : List (Tree ℕ)) → texts (App name ts) ≡ application name (map texts ts)
unfolding texts
texts_app name ts = ap (application name) (hidden_texts ts)

pub texts_var : (n : ℕ) → texts (Var n) ≡ other (variable_text n)
unfolding texts
texts_var n = refl

pub atom_app : (name : List ℕ) (ts : List (Tree ℕ)) → atom_text (App name ts) ≡ applied name (map texts ts)
unfolding atom_text
atom_app name ts = ap (applied name) (hidden_texts ts)

pub atom_var : (n : ℕ) → atom_text (Var n) ≡ variable_text n
unfolding atom_text
atom_var n = refl
