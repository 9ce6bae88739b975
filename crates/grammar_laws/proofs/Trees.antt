-- Lists of terms over so many variables, and applications and lists of them.
use Rattle.std.proofs.Common.{◌≡◌, ℕ, ◌≤◌, List, [], ◌∷◌, length, true, refl, sym, subst, arith}
use Rattle.std.specs.Prelude.{All, codes}
use Rattle.std.proofs.lemmas.List.Elements.{All-nil, All-cons, All-head, All-tail, All-append}
use Rattle.std.proofs.lemmas.Bool.Decides.{nat_tests}
use Rattle.clp_model.specs.declared.tree.Tree.{Tree, App, Row_of-Tree, end_of-Tree, more_of-Tree, items-the_row-Tree}
use Rattle.clp_model.specs.declared.tree.Tree.TheBlock.{items_hidden-the_row-Tree-0, hidden-the_row-Tree-0}
use Rattle.clp_model.specs.Trees.{variables, variables_in}
use Rattle.clp_model.proofs.Trees.{variables_app}
use Rattle.clause_loader.specs.WellFormed.{IsNumber}
use Rattle.token_model.specs.Names.{max_name}
use Rattle.standing_model.specs.Names.{is_short}
use Rattle.name_laws.specs.Names.{HasNames, RowHasNames}
use Rattle.clp_grammar.specs.Terms.{cell, empty_list, list_of, open_list}
use Rattle.grammar_laws.proofs.Known.{IsTerm}

row_names : (m : _) (ts : Row_of-Tree ℕ m) → All (HasNames is_short) (items-the_row-Tree ℕ m ts) → RowHasNames is_short ts
unfolding HasNames
row_names m end_of-Tree h = tt
row_names m (more_of-Tree t ts) h =
    (All-head (HasNames is_short) t (items-the_row-Tree ℕ _ ts) h, row_names _ ts (All-tail (HasNames is_short) t (items-the_row-Tree ℕ _ ts) h))

names_app : (name : List ℕ) (ts : List (Tree ℕ)) → is_short name ≡ true → All (HasNames is_short) ts → HasNames is_short (App name ts)
unfolding HasNames
names_app name ts short h =
    (short, row_names _ (hidden-the_row-Tree-0 ℕ ts) (subst (All (HasNames is_short)) (sym (items_hidden-the_row-Tree-0 ℕ ts)) h))

pub all_numbered : (count : ℕ) (ts : List (Tree ℕ)) → All (IsTerm count) ts → All (IsNumber count) (variables_in ts)
all_numbered count [] h = All-nil (IsNumber count)
all_numbered count (t ∷ ts) h =
    All-append (IsNumber count) (variables t) (variables_in ts) (All-head (IsTerm count) t ts h).numbered (all_numbered count ts (All-tail (IsTerm count) t ts h))

all_names : (count : ℕ) (ts : List (Tree ℕ)) → All (IsTerm count) ts → All (HasNames is_short) ts
all_names count [] h = All-nil (HasNames is_short)
all_names count (t ∷ ts) h = All-cons (HasNames is_short) t ts (All-head (IsTerm count) t ts h).names (all_names count ts (All-tail (IsTerm count) t ts h))

pub short_name : (name : List ℕ) → length name ≤ max_name → is_short name ≡ true
short_name name h = grind (arith, nat_tests)

pub application_term : (count : ℕ) (name : List ℕ) (ts : List (Tree ℕ)) → is_short name ≡ true → All (IsTerm count) ts → IsTerm count (App name ts)
application_term count name ts short h = record {
  numbered = subst (All (IsNumber count)) (sym (variables_app name ts)) (all_numbered count ts h);
  names = names_app name ts short (all_names count ts h);
}

cell_term : (count : ℕ) (first rest : Tree ℕ) → IsTerm count first → IsTerm count rest → IsTerm count (cell first rest)
cell_term count first rest h k =
    application_term count (codes ".") (first ∷ rest ∷ []) refl (All-cons (IsTerm count) first (rest ∷ []) h (All-cons (IsTerm count) rest [] k (All-nil (IsTerm count))))

empty_term : (count : ℕ) → IsTerm count empty_list
empty_term count = application_term count (codes "[]") [] refl (All-nil (IsTerm count))

pub list_term : (count : ℕ) (ts : List (Tree ℕ)) → All (IsTerm count) ts → IsTerm count (list_of ts)
list_term count [] h = empty_term count
list_term count (t ∷ ts) h = cell_term count t (list_of ts) (All-head (IsTerm count) t ts h) (list_term count ts (All-tail (IsTerm count) t ts h))

pub open_list_term : (count : ℕ) (ts : List (Tree ℕ)) → All (IsTerm count) ts → IsTerm count (open_list ts)
open_list_term count [] h = empty_term count
open_list_term count (t ∷ []) h = All-head (IsTerm count) t [] h
open_list_term count (t ∷ (u ∷ us)) h =
    cell_term count t (open_list (u ∷ us)) (All-head (IsTerm count) t (u ∷ us) h) (open_list_term count (u ∷ us) (All-tail (IsTerm count) t (u ∷ us) h))
