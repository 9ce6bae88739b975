-- The text of terms and atoms. Variables are V1, V2 and so on.
use Rattle.std.specs.Prelude.{ℕ, List, [], ◌∷◌, ◌++◌, map, codes, if◌then◌else◌}
use Rattle.std.specs.Fmt.{decimal}
use Rattle.clp_model.specs.declared.tree.Tree.{Tree, Var, App', Row_of-Tree, end_of-Tree, more_of-Tree}
use Rattle.print_model.specs.Names.{predicate_text, name_text, is_nil, is_dot}
use Rattle.print_model.specs.Joined.{joined}

-- V and the number
abbrev pub variable_text : ℕ → List ℕ
variable_text n = codes "V" ++ decimal n

-- a term by itself, and as what follows an element of a list, with the bracket that closes the list
pub record Texts : Type 0 where
  pub whole : List ℕ
  pub rest : List ℕ

-- a term that is no list
abbrev pub other : List ℕ → Texts
other text = record { whole = text; rest = codes "|" ++ (text ++ codes "]") }

-- the empty list
abbrev pub nil : Texts
nil = record { whole = codes "[]"; rest = codes "]" }

-- the list of a first element and what follows it
abbrev pub cell : Texts → Texts → Texts
cell first rest = record { whole = codes "[" ++ (first.whole ++ rest.rest); rest = codes "," ++ (first.whole ++ rest.rest) }

abbrev pub wholes : List Texts → List (List ℕ)
wholes ts = map (λ t. t.whole) ts

-- nothing, or the arguments in brackets with `,` between
abbrev pub arguments_text : List Texts → List ℕ
arguments_text [] = []
arguments_text (t ∷ ts) = joined (codes "(") (codes ",") (wholes (t ∷ ts)) ++ codes ")"

-- a name and its arguments in brackets
abbrev pub applied : List ℕ → List Texts → List ℕ
applied name args = predicate_text name ++ arguments_text args

-- a name alone, or with arguments, that is no list with elements
abbrev pub simple : List ℕ → List Texts → Texts
simple name [] = if is_nil name then nil else other (name_text name)
simple name (t ∷ ts) = other (applied name (t ∷ ts))

-- a name and its arguments: the name `.` with two of them is a list with elements
abbrev pub application : List ℕ → List Texts → Texts
application name [] = simple name []
application name (t ∷ []) = simple name (t ∷ [])
application name (t ∷ u ∷ []) = if is_dot name then cell t u else simple name (t ∷ u ∷ [])
application name (t ∷ u ∷ v ∷ ts) = simple name (t ∷ u ∷ v ∷ ts)

unfoldable mutual
  pub texts : Tree ℕ → Texts
  texts (Var n) = other (variable_text n)
  texts (App' name shape args) = application name (row_texts args)

  pub row_texts : {m : _} → Row_of-Tree ℕ m → List Texts
  row_texts end_of-Tree = []
  row_texts (more_of-Tree t ts) = texts t ∷ row_texts ts

-- a term
abbrev pub term_text : Tree ℕ → List ℕ
term_text t = (texts t).whole

-- a head or body atom, whose own name makes no list
unfoldable pub atom_text : Tree ℕ → List ℕ
atom_text (Var n) = variable_text n
atom_text (App' name shape args) = applied name (row_texts args)
