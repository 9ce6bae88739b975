-- What is said of expressions, by the lists of their parts.
use Rattle.std.proofs.Common.{◌≡◌, ◌≤◌, ℕ, suc, List, [], ◌∷◌, length, refl, ap, ◌∙◌, sym, subst, arith}
use Rattle.std.specs.Prelude.{All}
use Rattle.std.proofs.lemmas.List.Elements.{All-nil, All-cons, All-head, All-tail}
use Rattle.token_model.specs.Numbers.{max_number}
use Rattle.clp_grammar.specs.declared.expression.Operator.{Operator}
use Rattle.clp_grammar.specs.declared.expression.Head.{Head}
use Rattle.clp_grammar.specs.declared.expression.Head.TheVariants as head
use Rattle.clp_grammar.specs.declared.expression.Expression.{Expression, Number, Variable, Node, Node', Row_of-Expression, end_of-Expression, more_of-Expression, items-the_row-Expression}
use Rattle.clp_grammar.specs.declared.expression.Expression.TheBlock.{items_hidden-the_row-Expression-0, hidden-the_row-Expression-0}
use Rattle.clp_grammar.specs.Expressions.{chained}
use Rattle.draft_laws.specs.Formed.{IsNumbered, Fits, IsFormed, AreFormed, row_length}
use Rattle.draft_laws.specs.Laws.{NodesByParts}

row_length_items : (m : _) (xs : Row_of-Expression m) → row_length xs ≡ length (items-the_row-Expression m xs)
row_length_items m end_of-Expression = refl
row_length_items m (more_of-Expression x xs) = ap suc (row_length_items _ xs)

row_to_list : (count : ℕ) (m : _) (xs : Row_of-Expression m) → AreFormed count xs → All (IsFormed count) (items-the_row-Expression m xs)
unfolding AreFormed
row_to_list count m end_of-Expression h = All-nil (IsFormed count)
row_to_list count m (more_of-Expression x xs) h = All-cons (IsFormed count) x (items-the_row-Expression _ xs) h.0 (row_to_list count _ xs h.1)

list_to_row : (count : ℕ) (m : _) (xs : Row_of-Expression m) → All (IsFormed count) (items-the_row-Expression m xs) → AreFormed count xs
unfolding AreFormed
list_to_row count m end_of-Expression h = tt
list_to_row count m (more_of-Expression x xs) h =
    (All-head (IsFormed count) x (items-the_row-Expression _ xs) h, list_to_row count _ xs (All-tail (IsFormed count) x (items-the_row-Expression _ xs) h))

parts_length : (parts : List Expression) → row_length (hidden-the_row-Expression-0 parts) ≡ length parts
parts_length parts = row_length_items _ (hidden-the_row-Expression-0 parts) ∙ ap length (items_hidden-the_row-Expression-0 parts)

pub node_formed : (count place : ℕ) (h : Head) (parts : List Expression) → Fits h (length parts) → All (IsFormed count) parts → IsFormed count (Node place h parts)
unfolding IsFormed
node_formed count place h parts fits all =
    (subst (Fits h) (sym (parts_length parts)) fits, list_to_row count _ (hidden-the_row-Expression-0 parts) (subst (All (IsFormed count)) (sym (items_hidden-the_row-Expression-0 parts)) all))

pub formed_node : (count place : ℕ) (h : Head) (parts : List Expression) → IsFormed count (Node place h parts) → Fits h (length parts) × All (IsFormed count) parts
unfolding IsFormed
formed_node count place h parts f =
    (subst (Fits h) (parts_length parts) f.0, subst (All (IsFormed count)) (items_hidden-the_row-Expression-0 parts) (row_to_list count _ (hidden-the_row-Expression-0 parts) f.1))

pub nodes_by_parts : NodesByParts
nodes_by_parts count place h parts = (λ f. formed_node count place h parts f, λ f. node_formed count place h parts f.0 f.1)

pub number_formed : (count place value : ℕ) → value ≤ max_number → IsFormed count (Number place value)
unfolding IsFormed
number_formed count place value h = h

pub variable_formed : (count place number : ℕ) → IsNumbered count number → IsFormed count (Variable place number)
unfolding IsFormed
variable_formed count place number h = h

-- more variables may be named
mutual
  unfolding IsFormed AreFormed

  pub still_formed : (m n : ℕ) → m ≤ n → (x : Expression) → IsFormed m x → IsFormed n x
  still_formed m n w (Number place value) h = h
  still_formed m n w (Variable place number) h = (h.0, omega (arith, h.1, w))
  still_formed m n w (Node' place h shape parts) f = (f.0, still_row m n w parts f.1)

  still_row : (m n : ℕ) → m ≤ n → {k : _} (xs : Row_of-Expression k) → AreFormed m xs → AreFormed n xs
  still_row m n w end_of-Expression h = tt
  still_row m n w (more_of-Expression x xs) h = (still_formed m n w x h.0, still_row m n w xs h.1)

pub chained_formed : (count begin : ℕ) (operators : List Operator) (parts : List Expression) → length parts ≡ suc (length operators) → All (IsFormed count) parts → IsFormed count (chained begin operators parts)
unfolding chained
chained_formed count begin [] [] e all = absurd (omega (arith, e))
chained_formed count begin [] (x ∷ parts) e all = All-head (IsFormed count) x parts all
chained_formed count begin (o ∷ operators) parts e all = node_formed count begin (head.Chain (o ∷ operators)) parts (omega arith, e) all
