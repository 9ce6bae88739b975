-- The texts of the terms of a store.
use Rattle.std.specs.Prelude.{◌≡◌, ℕ, ◌+◌, ◌<◌, List, [], ◌∷◌, length, map, codes}
use Rattle.clp_model.specs.declared.tree.Variable.{Variable}
use Rattle.clp_model.specs.declared.tree.Tree.{Tree}
use Rattle.clp_model.specs.Trees.{size}
use Rattle.term_store.specs.Trees.{tree_at}
use Rattle.clause_store.specs.Stored.{atom_at}
use Rattle.print_model.specs.Terms.{Texts, texts, nil, other, cell, simple, application}
use Rattle.clause_printer.specs.declared.term.Rest.{Rest}
use Rattle.clause_printer.specs.declared.term.Rest.TheVariants as rest

abbrev pub texts_at : List (Tree Variable) → ℕ → Texts
texts_at store t = texts (atom_at store t)

abbrev pub all_texts_at : List (Tree Variable) → List ℕ → List Texts
all_texts_at store ts = map (texts_at store) ts

-- the name with these arguments is the list of a first element and what follows
pub record IsCell (name : List ℕ) (args : List ℕ) (first follows : ℕ) : Type 0 where
  pub is_dot : name ≡ codes "."
  pub are : args ≡ first ∷ follows ∷ []

-- the name with these arguments is no list with elements
abbrev pub IsNoCell : List ℕ → List ℕ → Type 0
IsNoCell name args = (f : ℕ → Texts) → application name (map f args) ≡ simple name (map f args)

-- a term of the store that is the list of two others
pub record HasCell (store : List (Tree Variable)) (t first follows : ℕ) : Type 0 where
  pub within : first < length store
  pub follows_within : follows < length store
  pub is : texts_at store t ≡ cell (texts_at store first) (texts_at store follows)
  pub smaller : size (tree_at store first) + size (tree_at store follows) < size (tree_at store t)

-- what the term is where it follows an element of a list
abbrev pub Follows : List (Tree Variable) → ℕ → Rest → Type 0
Follows store t (rest.Cell first follows) = HasCell store t first follows
Follows store t rest.Nil = texts_at store t ≡ nil
Follows store t rest.Other = texts_at store t ≡ other (texts_at store t).whole
