-- The trees of lists, from the last element to the first.
use Rattle.std.proofs.Common.{◌≡◌, ℕ, List, [], ◌∷◌, ◌++◌, refl, ap}
use Rattle.clp_model.specs.declared.tree.Tree.{Tree}
use Rattle.clp_grammar.specs.Terms.{cell, empty_list, list_of, open_list}
use Rattle.clause_meaning.specs.Known.{list_before}

-- the last element goes to the rest
pub last_before : (ts : List (Tree ℕ)) (t rest : Tree ℕ) → list_before (ts ++ t ∷ []) rest ≡ list_before ts (cell t rest)
last_before [] t rest = refl
last_before (u ∷ ts) t rest = ap (cell u) (last_before ts t rest)

pub list_is : (ts : List (Tree ℕ)) → list_before ts empty_list ≡ list_of ts
list_is [] = refl
list_is (t ∷ ts) = ap (cell t) (list_is ts)

pub open_is : (ts : List (Tree ℕ)) (rest : Tree ℕ) → list_before ts rest ≡ open_list (ts ++ rest ∷ [])
open_is [] rest = refl
open_is (t ∷ []) rest = refl
open_is (t ∷ (u ∷ ts)) rest = ap (cell t) (open_is (u ∷ ts) rest)
