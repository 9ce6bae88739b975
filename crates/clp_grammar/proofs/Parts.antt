-- How what is said of expressions goes from an expression with parts to the list of its parts.
use Rattle.std.proofs.Common.{◌≡◌, ℕ, List, [], ◌∷◌, None, Result, Ok, Err, if◌then◌else◌, codes, refl, ap, ◌∙◌}
use Rattle.std.specs.Str.{bytes_eq}
use Rattle.token_model.specs.Parsers.{Outcome, Parser, and_then, ◌<$>◌, pure}
use Rattle.form_model.specs.Forms as form
use Rattle.form_model.specs.Forms.{Form}
use Rattle.clp_model.specs.declared.tree.Tree.{Tree, App}
use Rattle.clp_grammar.specs.declared.expression.Operator.{Operator}
use Rattle.clp_grammar.specs.declared.expression.Head.{Head}
use Rattle.clp_grammar.specs.declared.expression.Head.TheVariants as head
use Rattle.clp_grammar.specs.declared.expression.Expression.{Expression, Number, Variable, Node, Node', Row_of-Expression, end_of-Expression, more_of-Expression, items-the_row-Expression}
use Rattle.clp_grammar.specs.declared.expression.Expression.TheBlock.{items_hidden-the_row-Expression-0, hidden-the_row-Expression-0}
use Rattle.clp_grammar.specs.Evaluation.{linear, only_linear, linear_chain, linear_rest, only_linear_of, linear_chain_of, linear_rest_of, linear_by, negated, placed, with_value, operated}
use Rattle.clp_grammar.specs.Terms.{Meaning, met_all, met_parts, met_each, met_num, place_of, term_from, only_term, terms, only_term_of, terms_of, term_by, named, flattened, list_of, open_list}
use Rattle.clp_grammar.specs.declared.nature.Nature.TheVariants.{Other}
use Rattle.clp_grammar.specs.Clauses.{nature, only_nature, nature_of_name, name_nature_of, only_nature_of, nature_by}
use Rattle.clp_grammar.specs.Goals.{num_variable, only_variable, only_variable_of, num_variable_by}

same_after : {A B E : Type 0} (r : Result A E) (f g : A → Result B E) → ((a : A) → f a ≡ g a) → with_value r f ≡ with_value r g
same_after (Ok a) f g same = same a
same_after (Err e) f g same = refl

-- ---- places
pub place_of_node : (place : ℕ) (h : Head) (parts : List Expression) → place_of (Node place h parts) ≡ place
unfolding place_of
place_of_node place h parts = refl

pub place_of_number : (place value : ℕ) → place_of (Number place value) ≡ place
unfolding place_of
place_of_number place value = refl

pub place_of_variable : (place n : ℕ) → place_of (Variable place n) ≡ place
unfolding place_of
place_of_variable place n = refl

-- ---- variables
met_parts-items : (k : _) (parts : Row_of-Expression k) (m : Meaning) → met_parts parts m ≡ met_each (items-the_row-Expression k parts) m
unfolding met_all
met_parts-items k end_of-Expression m = refl
met_parts-items k (more_of-Expression part parts) m = met_parts-items _ parts (met_all part m)

pub met_all_node : (place : ℕ) (h : Head) (parts : List Expression) (m : Meaning) → met_all (Node place h parts) m ≡ met_each parts m
unfolding met_all
met_all_node place h parts m =
    met_parts-items _ (hidden-the_row-Expression-0 parts) m ∙ ap (λ ps. met_each ps m) (items_hidden-the_row-Expression-0 parts)

pub met_all_number : (place value : ℕ) (m : Meaning) → met_all (Number place value) m ≡ m
unfolding met_all
met_all_number place value m = refl

pub met_all_variable : (place n : ℕ) (m : Meaning) → met_all (Variable place n) m ≡ met_num n m
unfolding met_all
met_all_variable place n m = refl

-- ---- linear expressions
only_linear-items : (number_of : ℕ → ℕ) (place : ℕ) (k : _) (parts : Row_of-Expression k) → only_linear number_of place parts ≡ only_linear_of number_of place (items-the_row-Expression k parts)
unfolding linear
only_linear-items number_of place k end_of-Expression = refl
only_linear-items number_of place k (more_of-Expression part parts) = refl

linear_rest-items : (number_of : ℕ → ℕ) (operators : List Operator) (k : _) (parts : Row_of-Expression k) (f : Form) → linear_rest number_of operators parts f ≡ linear_rest_of number_of operators (items-the_row-Expression k parts) f
unfolding linear
linear_rest-items number_of operators k end_of-Expression f = refl
linear_rest-items number_of [] k (more_of-Expression part parts) f = refl
linear_rest-items number_of (o ∷ operators) k (more_of-Expression part parts) f =
    same_after (linear number_of part) _ _ (λ g. same_after (operated o f g) _ _ (λ h. linear_rest-items number_of operators _ parts h))

linear_chain-items : (number_of : ℕ → ℕ) (place : ℕ) (operators : List Operator) (k : _) (parts : Row_of-Expression k) → linear_chain number_of place operators parts ≡ linear_chain_of number_of place operators (items-the_row-Expression k parts)
unfolding linear
linear_chain-items number_of place operators k end_of-Expression = refl
linear_chain-items number_of place operators k (more_of-Expression part parts) =
    same_after (linear number_of part) _ _ (λ f. linear_rest-items number_of operators _ parts f)

only_linear_is : (number_of : ℕ → ℕ) (place : ℕ) (parts : List Expression) → only_linear number_of place (hidden-the_row-Expression-0 parts) ≡ only_linear_of number_of place parts
only_linear_is number_of place parts =
    only_linear-items number_of place _ (hidden-the_row-Expression-0 parts) ∙ ap (only_linear_of number_of place) (items_hidden-the_row-Expression-0 parts)

pub linear_node : (number_of : ℕ → ℕ) (place : ℕ) (h : Head) (parts : List Expression) → linear number_of (Node place h parts) ≡ linear_by number_of place h parts
unfolding linear
linear_node number_of place (head.Application name) parts = refl
linear_node number_of place head.List parts = refl
linear_node number_of place head.OpenList parts = refl
linear_node number_of place head.Brackets parts = only_linear_is number_of place parts
linear_node number_of place head.Plus parts = only_linear_is number_of place parts
linear_node number_of place head.Minus parts = ap negated (only_linear_is number_of place parts)
linear_node number_of place (head.Chain operators) parts =
    linear_chain-items number_of place operators _ (hidden-the_row-Expression-0 parts)
    ∙ ap (linear_chain_of number_of place operators) (items_hidden-the_row-Expression-0 parts)

pub linear_number : (number_of : ℕ → ℕ) (place value : ℕ) → linear number_of (Number place value) ≡ placed place (form.if_small_form (form.whole value))
unfolding linear
linear_number number_of place value = refl

pub linear_variable : (number_of : ℕ → ℕ) (place n : ℕ) → linear number_of (Variable place n) ≡ Ok (form.variable (number_of n))
unfolding linear
linear_variable number_of place n = refl

-- ---- terms
same_then : {S A B : Type 0} (r : Outcome S A) (f g : A → Parser S B) → ((a : A) (s : S) → f a s ≡ g a s) → and_then r f ≡ and_then r g
same_then (Ok p) f g same = same p.0 p.1
same_then (Err e) f g same = refl

only_term-items : (begin : ℕ) (k : _) (parts : Row_of-Expression k) (m : Meaning) → only_term begin parts m ≡ only_term_of begin (items-the_row-Expression k parts) m
unfolding term_from
only_term-items begin k end_of-Expression m = refl
only_term-items begin k (more_of-Expression part parts) m = refl

terms-items : (k : _) (parts : Row_of-Expression k) (m : Meaning) → terms parts m ≡ terms_of (items-the_row-Expression k parts) m
unfolding term_from
terms-items k end_of-Expression m = refl
terms-items k (more_of-Expression part parts) m =
    same_then (term_from (place_of part) part m) _ _
    (λ t n. ap (λ r. and_then r (λ ts. pure (t ∷ ts))) (terms-items _ parts n))

terms_is : {B : Type 0} (f : List (Tree ℕ) → B) (parts : List Expression) (m : Meaning) → (f <$> terms (hidden-the_row-Expression-0 parts)) m ≡ (f <$> terms_of parts) m
terms_is f parts m = ap (λ r. and_then r (λ ts. pure (f ts)))
    (terms-items _ (hidden-the_row-Expression-0 parts) m ∙ ap (λ ps. terms_of ps m) (items_hidden-the_row-Expression-0 parts))

pub term_from_node : (begin place : ℕ) (h : Head) (parts : List Expression) (m : Meaning) → term_from begin (Node place h parts) m ≡ term_by begin place h parts m
unfolding term_from
term_from_node begin place (head.Application name) parts m = terms_is (App name) parts m
term_from_node begin place head.List parts m = terms_is list_of parts m
term_from_node begin place head.OpenList parts m = terms_is open_list parts m
term_from_node begin place head.Brackets parts m =
    only_term-items begin _ (hidden-the_row-Expression-0 parts) m ∙ ap (λ ps. only_term_of begin ps m) (items_hidden-the_row-Expression-0 parts)
term_from_node begin place head.Plus parts m = refl
term_from_node begin place head.Minus parts m = refl
term_from_node begin place (head.Chain operators) parts m = refl

pub term_from_number : (begin place value : ℕ) (m : Meaning) → term_from begin (Number place value) m ≡ flattened begin (Number place value) m
unfolding term_from
term_from_number begin place value m = refl

pub term_from_variable : (begin place n : ℕ) (m : Meaning) → term_from begin (Variable place n) m ≡ named n m
unfolding term_from
term_from_variable begin place n m = refl

-- ---- heads and goals
nature_of_name-items : (name : List ℕ) (k : _) (parts : Row_of-Expression k) → nature_of_name name parts ≡ name_nature_of name (items-the_row-Expression k parts)
nature_of_name-items name k end_of-Expression = refl
nature_of_name-items name k (more_of-Expression part parts) = refl

only_nature-items : (k : _) (parts : Row_of-Expression k) → only_nature parts ≡ only_nature_of (items-the_row-Expression k parts)
unfolding nature
only_nature-items k end_of-Expression = refl
only_nature-items k (more_of-Expression part parts) = refl

pub nature_node : (place : ℕ) (h : Head) (parts : List Expression) → nature (Node place h parts) ≡ nature_by h parts
unfolding nature
nature_node place (head.Application name) parts =
    nature_of_name-items name _ (hidden-the_row-Expression-0 parts) ∙ ap (name_nature_of name) (items_hidden-the_row-Expression-0 parts)
nature_node place head.List parts = refl
nature_node place head.OpenList parts = refl
nature_node place head.Brackets parts =
    only_nature-items _ (hidden-the_row-Expression-0 parts) ∙ ap only_nature_of (items_hidden-the_row-Expression-0 parts)
nature_node place head.Plus parts = refl
nature_node place head.Minus parts = refl
nature_node place (head.Chain operators) parts = refl

pub nature_number : (place value : ℕ) → nature (Number place value) ≡ Other
unfolding nature
nature_number place value = refl

pub nature_variable : (place n : ℕ) → nature (Variable place n) ≡ Other
unfolding nature
nature_variable place n = refl

-- ---- braces
only_variable-items : (k : _) (parts : Row_of-Expression k) → only_variable parts ≡ only_variable_of (items-the_row-Expression k parts)
only_variable-items k end_of-Expression = refl
only_variable-items k (more_of-Expression (Number place value) parts) = refl
only_variable-items k (more_of-Expression (Variable place n) end_of-Expression) = refl
only_variable-items k (more_of-Expression (Variable place n) (more_of-Expression part parts)) = refl
only_variable-items k (more_of-Expression (Node' place h shape inner) parts) = refl

pub num_variable_node : (place : ℕ) (h : Head) (parts : List Expression) → num_variable (Node place h parts) ≡ num_variable_by h parts
unfolding num_variable
num_variable_node place (head.Application name) parts =
    ap (λ v. if bytes_eq name (codes "num") then v else None)
    (only_variable-items _ (hidden-the_row-Expression-0 parts) ∙ ap only_variable_of (items_hidden-the_row-Expression-0 parts))
num_variable_node place head.List parts = refl
num_variable_node place head.OpenList parts = refl
num_variable_node place head.Brackets parts = refl
num_variable_node place head.Plus parts = refl
num_variable_node place head.Minus parts = refl
num_variable_node place (head.Chain operators) parts = refl

pub num_variable_number : (place value : ℕ) → num_variable (Number place value) ≡ None
unfolding num_variable
num_variable_number place value = refl

pub num_variable_variable : (place n : ℕ) → num_variable (Variable place n) ≡ None
unfolding num_variable
num_variable_variable place n = refl
