-- What printed terms and atoms are parsed as. A function tells the place of each variable's name among the names of the
-- clause.
use Rattle.std.specs.Prelude.{ℕ, ◌+◌, List, [], ◌∷◌, length, map, codes, if◌then◌else◌}
use Rattle.clp_model.specs.declared.tree.Tree.{Tree, Var, App', Row_of-Tree, end_of-Tree, more_of-Tree}
use Rattle.clp_grammar.specs.declared.expression.Head.{Head}
use Rattle.clp_grammar.specs.declared.expression.Head.TheVariants as head
use Rattle.clp_grammar.specs.declared.expression.Expression.{Expression, Variable, Node}
use Rattle.print_model.specs.Names.{name_text, is_nil, is_dot}
use Rattle.print_model.specs.Terms as printed
use Rattle.print_model.specs.Terms.{Texts, variable_text}
use Rattle.standing_model.specs.Pieces.{Piece, placed}

-- elements of a list that stand behind others, and what all of them make
pub record Tail : Type 0 where
  pub head : Head
  pub parts : List Expression

-- A term with its texts: the expression that it is by itself, and what it is where it follows an element of a list, each
-- by how many bytes follow.
pub record Standing : Type 0 where
  pub texts : Texts
  pub whole : ℕ → Expression
  pub rest : ℕ → Tail

abbrev pub texts_of : List Standing → List Texts
texts_of ss = map (λ (s : Standing). s.texts) ss

-- a term that is no list
abbrev pub other : List ℕ → (ℕ → Expression) → Standing
other text whole = record {
  texts = printed.other text;
  whole = whole;
  rest = λ after. record { head = head.OpenList; parts = whole (1 + after) ∷ [] };
}

-- the empty list
abbrev pub nil : Standing
nil = record { texts = printed.nil; whole = λ after. Node (2 + after) head.List []; rest = λ after. record { head = head.List; parts = [] } }

-- the elements from this first one on, before what follows it
abbrev pub elements : Standing → Standing → ℕ → Tail
elements first rest after = let tail = rest.rest after in record {
  head = tail.head;
  parts = first.whole (length rest.texts.rest + after) ∷ tail.parts;
}

-- the list of a first element and what follows it
abbrev pub cell : Standing → Standing → Standing
cell first rest = record {
  texts = printed.cell first.texts rest.texts;
  whole = λ after. let all = elements first rest after in Node (length (printed.cell first.texts rest.texts).whole + after) all.head all.parts;
  rest = elements first rest;
}

-- by itself
abbrev pub piece : Standing → Piece Expression
piece s = record { text = s.texts.whole; value = s.whole }

-- a name and its arguments in brackets
abbrev pub applied : List ℕ → List Standing → ℕ → Expression
applied name ss after = Node (length (printed.applied name (texts_of ss)) + after) (head.Application name) (placed (codes ",") (map piece ss) (1 + after))

-- a name alone, or with arguments, that is no list with elements
abbrev pub simple : List ℕ → List Standing → Standing
simple name [] = if is_nil name then nil else other (name_text name) (applied name [])
simple name (s ∷ ss) = other (printed.applied name (texts_of (s ∷ ss))) (applied name (s ∷ ss))

-- a name and its arguments: the name `.` with two of them is a list with elements
abbrev pub application : List ℕ → List Standing → Standing
application name [] = simple name []
application name (s ∷ []) = simple name (s ∷ [])
application name (s ∷ t ∷ []) = if is_dot name then cell s t else simple name (s ∷ t ∷ [])
application name (s ∷ t ∷ u ∷ ss) = simple name (s ∷ t ∷ u ∷ ss)

abbrev pub variable : (ℕ → ℕ) → ℕ → ℕ → Expression
variable place n after = Variable (length (variable_text n) + after) (place n)

unfoldable mutual
  pub standing : (ℕ → ℕ) → Tree ℕ → Standing
  standing place (Var n) = other (variable_text n) (variable place n)
  standing place (App' name shape args) = application name (row_standing place args)

  pub row_standing : {m : _} → (ℕ → ℕ) → Row_of-Tree ℕ m → List Standing
  row_standing place end_of-Tree = []
  row_standing place (more_of-Tree t ts) = standing place t ∷ row_standing place ts

-- a head or body atom, whose own name makes no list
unfoldable pub atom : (ℕ → ℕ) → Tree ℕ → Piece Expression
atom place (Var n) = record { text = variable_text n; value = variable place n }
atom place (App' name shape args) =
    let ss = row_standing place args in record { text = printed.applied name (texts_of ss); value = applied name ss }
