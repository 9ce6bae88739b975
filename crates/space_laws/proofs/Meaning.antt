-- A clause at other places means the same.
use Rattle.std.proofs.Common.{◌≡◌, ◌+◌, ℕ, List, [], ◌∷◌, ◌++◌, length, Some, None, Result, Ok, Err, refl, ap, ◌∙◌}
use Rattle.std.specs.Prelude.{Option, map}
use Rattle.std.specs.Option.{option_or}
use Rattle.clp_model.specs.Clauses.{Row}
use Rattle.clp_model.specs.declared.sort.Rel.TheVariants.{Eq}
use Rattle.clp_model.specs.declared.tree.Tree.{Tree, App}
use Rattle.clause_store.specs.declared.source.SourceClause.{SourceClause}
use Rattle.form_model.specs.declared.fault.FormFault.{FormFault}
use Rattle.form_model.specs.Forms as form
use Rattle.form_model.specs.Forms.{Form}
use Rattle.token_model.specs.declared.fault.Fault.{Fault}
use Rattle.token_model.specs.Parsers.{Outcome, Parser, and_then, ◌>>=◌, pure, value_of}
use Rattle.clp_grammar.specs.declared.nature.Nature.{Nature}
use Rattle.clp_grammar.specs.declared.nature.Nature.TheVariants.{Atom, True, Other}
use Rattle.clp_grammar.specs.declared.expression.Operator.{Operator}
use Rattle.clp_grammar.specs.declared.expression.Head.{Head}
use Rattle.clp_grammar.specs.declared.expression.Head.TheVariants as head
use Rattle.clp_grammar.specs.declared.expression.Expression.{Expression, Number, Variable, Node, Node', Row_of-Expression, end_of-Expression, more_of-Expression, items-the_row-Expression}
use Rattle.clp_grammar.specs.declared.expression.Expression.TheBlock.{items_hidden-the_row-Expression-0, hidden-the_row-Expression-0}
use Rattle.clp_grammar.specs.declared.draft.Relation.{Relation}
use Rattle.clp_grammar.specs.declared.draft.Relation.TheVariants.{Equal, NumberEqual, AtMost, Less, AtLeast, Greater}
use Rattle.clp_grammar.specs.declared.draft.Comparison.{Comparison}
use Rattle.clp_grammar.specs.declared.draft.Constraint.{Constraint}
use Rattle.clp_grammar.specs.declared.draft.Constraint.TheVariants as constraint
use Rattle.clp_grammar.specs.declared.draft.Goal.{Goal}
use Rattle.clp_grammar.specs.declared.draft.Goal.TheVariants as goal
use Rattle.clp_grammar.specs.declared.draft.Draft.{Draft}
use Rattle.clp_grammar.specs.Evaluation.{linear, only_linear, linear_chain, linear_rest, only_linear_of, linear_chain_of, linear_rest_of, negated, placed, with_value, computed, operated, row_by, row_of}
use Rattle.clp_grammar.specs.Terms.{Meaning, met_all, met_parts, met_each, place_of, term_from, only_term, terms, term, only_term_of, terms_of, named, flattened, flattened_by, value_row, list_of, open_list, keeping, compare, with_row, number_in, sides_met, nothing}
use Rattle.clp_grammar.specs.Clauses.{nature, only_nature, nature_of_name, name_nature_of, only_nature_of, head_fault_by, call_fault_by, goal_fault, goals_fault, misplaced, with_atom, call_by, call, equate, relate_by, constrain, constrain_all, mean, mean_all, evaluated, unless, meaning}
use Rattle.clp_grammar.proofs.Parts.{met_all_node, linear_node, term_from_node, nature_node}
use Rattle.space_laws.specs.Moved.{moved_fault, moved_result, moved_operator, moved_head, moved, moved_parts, moved_comparison, moved_constraint, moved_goal, moved_draft}
use Rattle.space_laws.specs.Laws.{PlacesMeanNothing}

module _ (to : ℕ → ℕ) where
  parts_by_items : (m : _) (parts : Row_of-Expression m) → moved_parts to parts ≡ map (moved to) (items-the_row-Expression m parts)
  unfolding moved
  parts_by_items m end_of-Expression = refl
  parts_by_items m (more_of-Expression part parts) = ap (λ (ps : List Expression). moved to part ∷ ps) (parts_by_items _ parts)

  -- a node by the list of its parts
  pub moved_node : (place : ℕ) (h : Head) (parts : List Expression) → moved to (Node place h parts) ≡ Node (to place) (moved_head to h) (map (moved to) parts)
  unfolding moved
  moved_node place h parts =
      ap (λ (ps : List Expression). Node (to place) (moved_head to h) ps) (parts_by_items _ (hidden-the_row-Expression-0 parts) ∙ ap (map (moved to)) (items_hidden-the_row-Expression-0 parts))

  pub moved_place : (x : Expression) → place_of (moved to x) ≡ to (place_of x)
  unfolding moved place_of
  moved_place (Number place value) = refl
  moved_place (Variable place n) = refl
  moved_place (Node' place h shape parts) = refl

  -- ---- steps

  placed_moved : {A : Type 0} (place : ℕ) (o : Result A FormFault) → placed (to place) o ≡ moved_result to (placed place o)
  placed_moved place (Ok a) = refl
  placed_moved place (Err e) = refl

  value_moved : {A B : Type 0} (o u : Result A Fault) (f g : A → Result B Fault) → o ≡ moved_result to u → ((a : A) → f a ≡ moved_result to (g a)) → with_value o f ≡ moved_result to (with_value u g)
  value_moved {A} {B} o u f g same rest = ap (λ (z : Result A Fault). with_value z f) same ∙ go u
    where
      go : (u : Result A Fault) → with_value (moved_result to u) f ≡ moved_result to (with_value u g)
      go (Ok a) = rest a
      go (Err e) = refl

  negated_moved : (o u : Result Form Fault) → o ≡ moved_result to u → negated o ≡ moved_result to (negated u)
  negated_moved o u same = ap negated same ∙ go u
    where
      go : (u : Result Form Fault) → negated (moved_result to u) ≡ moved_result to (negated u)
      go (Ok f) = refl
      go (Err e) = refl

  -- ---- linear expressions

  module _ (number_of : ℕ → ℕ) where
    mutual
      unfolding moved linear

      linear_moved : (x : Expression) → linear number_of (moved to x) ≡ moved_result to (linear number_of x)
      linear_moved (Number place value) = placed_moved place (form.if_small_form (form.whole value))
      linear_moved (Variable place n) = refl
      linear_moved (Node' place (head.Application name) shape parts) = refl
      linear_moved (Node' place head.List shape parts) = refl
      linear_moved (Node' place head.OpenList shape parts) = refl
      linear_moved (Node' place head.Brackets shape parts) = linear_node number_of (to place) head.Brackets (moved_parts to parts) ∙ only_moved place parts
      linear_moved (Node' place head.Plus shape parts) = linear_node number_of (to place) head.Plus (moved_parts to parts) ∙ only_moved place parts
      linear_moved (Node' place head.Minus shape parts) = linear_node number_of (to place) head.Minus (moved_parts to parts) ∙ negated_moved (only_linear_of number_of (to place) (moved_parts to parts)) (only_linear number_of place parts) (only_moved place parts)
      linear_moved (Node' place (head.Chain operators) shape parts) = linear_node number_of (to place) (head.Chain (map (moved_operator to) operators)) (moved_parts to parts) ∙ chain_moved place operators parts

      only_moved : (place : ℕ) {m : _} (parts : Row_of-Expression m) → only_linear_of number_of (to place) (moved_parts to parts) ≡ moved_result to (only_linear number_of place parts)
      only_moved place end_of-Expression = refl
      only_moved place (more_of-Expression part parts) = linear_moved part

      chain_moved : (place : ℕ) (operators : List Operator) {m : _} (parts : Row_of-Expression m) → linear_chain_of number_of (to place) (map (moved_operator to) operators) (moved_parts to parts) ≡ moved_result to (linear_chain number_of place operators parts)
      chain_moved place operators end_of-Expression = refl
      chain_moved place operators (more_of-Expression part parts) =
          value_moved (linear number_of (moved to part)) (linear number_of part) (linear_rest_of number_of (map (moved_operator to) operators) (moved_parts to parts)) (linear_rest number_of operators parts) (linear_moved part) (λ f. rest_moved operators parts f)

      rest_moved : (operators : List Operator) {m : _} (parts : Row_of-Expression m) (f : Form) → linear_rest_of number_of (map (moved_operator to) operators) (moved_parts to parts) f ≡ moved_result to (linear_rest number_of operators parts f)
      rest_moved operators end_of-Expression f = refl
      rest_moved [] (more_of-Expression part parts) f = refl
      rest_moved (o ∷ operators) (more_of-Expression part parts) f =
          value_moved (linear number_of (moved to part)) (linear number_of part) (λ g. with_value (operated (moved_operator to o) f g) (linear_rest_of number_of (map (moved_operator to) operators) (moved_parts to parts))) (λ g. with_value (operated o f g) (linear_rest number_of operators parts)) (linear_moved part) (λ g.
          value_moved (operated (moved_operator to o) f g) (operated o f g) (linear_rest_of number_of (map (moved_operator to) operators) (moved_parts to parts)) (linear_rest number_of operators parts) (placed_moved o.left (computed o.operation f g)) (λ h. rest_moved operators parts h))

    pub row_moved : (c : Comparison) → row_of number_of (moved_comparison to c) ≡ moved_result to (row_of number_of c)
    unfolding row_of
    row_moved c =
        value_moved (linear number_of (moved to c.first)) (linear number_of c.first) (λ f. with_value (linear number_of (moved to c.second)) (λ g. placed (to c.left) (row_by c.relation f g))) (λ f. with_value (linear number_of c.second) (λ g. placed c.left (row_by c.relation f g))) (linear_moved c.first) (λ f.
        value_moved (linear number_of (moved to c.second)) (linear number_of c.second) (λ g. placed (to c.left) (row_by c.relation f g)) (λ g. placed c.left (row_by c.relation f g)) (linear_moved c.second) (λ g. placed_moved c.left (row_by c.relation f g)))

    value_row_moved : (begin v : ℕ) (x : Expression) → value_row (to begin) v number_of (moved to x) ≡ moved_result to (value_row begin v number_of x)
    value_row_moved begin v x =
        let rest = λ (f : Form). with_value (form.difference (form.variable v) f) (form.row_of Eq) in
        value_moved (linear number_of (moved to x)) (linear number_of x) (λ f. placed (to begin) (rest f)) (λ f. placed begin (rest f)) (linear_moved x) (λ f. placed_moved begin (rest f))

  -- ---- variables

  mutual
    unfolding moved met_all

    met_moved : (x : Expression) (m : Meaning) → met_all (moved to x) m ≡ met_all x m
    met_moved (Number place value) m = refl
    met_moved (Variable place n) m = refl
    met_moved (Node' place h shape parts) m = met_all_node (to place) (moved_head to h) (moved_parts to parts) m ∙ each_moved parts m

    each_moved : {k : _} (parts : Row_of-Expression k) (m : Meaning) → met_each (moved_parts to parts) m ≡ met_parts parts m
    each_moved end_of-Expression m = refl
    each_moved (more_of-Expression part parts) m = ap (met_each (moved_parts to parts)) (met_moved part m) ∙ each_moved parts (met_all part m)

  sides_moved : (c : Comparison) (m : Meaning) → sides_met (moved_comparison to c) m ≡ sides_met c m
  sides_moved c m = ap (met_all (moved to c.second)) (met_moved c.first m) ∙ met_moved c.second (met_all c.first m)

  -- ---- terms

  then_moved : {S A B : Type 0} (o u : Outcome S A) (f g : A → Parser S B) → o ≡ moved_result to u → ((a : A) (s : S) → f a s ≡ moved_result to (g a s)) → and_then o f ≡ moved_result to (and_then u g)
  then_moved {S} {A} {B} o u f g same rest = ap (λ (z : Outcome S A). and_then z f) same ∙ go u
    where
      go : (u : Outcome S A) → and_then (moved_result to u) f ≡ moved_result to (and_then u g)
      go (Ok p) = rest p.0 p.1
      go (Err e) = refl

  flattened_by_moved : (known : Meaning) (o u : Result Row Fault) → o ≡ moved_result to u → flattened_by known o ≡ moved_result to (flattened_by known u)
  flattened_by_moved known o u same = ap (flattened_by known) same ∙ go u
    where
      go : (u : Result Row Fault) → flattened_by known (moved_result to u) ≡ moved_result to (flattened_by known u)
      go (Ok row) = refl
      go (Err e) = refl

  flattened_moved : (begin : ℕ) (x : Expression) (m : Meaning) → flattened (to begin) (moved to x) m ≡ moved_result to (flattened begin x m)
  unfolding flattened
  flattened_moved begin x m =
      let known = met_all x m in
      ap (λ (k : Meaning). flattened_by k (value_row (to begin) (length k.sorts + 1) (number_in k) (moved to x))) (met_moved x m)
      ∙ flattened_by_moved known (value_row (to begin) (length known.sorts + 1) (number_in known) (moved to x)) (value_row begin (length known.sorts + 1) (number_in known) x) (value_row_moved (number_in known) begin (length known.sorts + 1) x)

  mutual
    unfolding moved term_from named

    term_moved : (begin : ℕ) (x : Expression) (m : Meaning) → term_from (to begin) (moved to x) m ≡ moved_result to (term_from begin x m)
    term_moved begin (Number place value) m = flattened_moved begin (Number place value) m
    term_moved begin (Variable place n) m = refl
    term_moved begin (Node' place (head.Application name) shape parts) m =
        term_from_node (to begin) (to place) (head.Application name) (moved_parts to parts) m ∙ then_moved (terms_of (moved_parts to parts) m) (terms parts m) (λ ts. pure (App name ts)) (λ ts. pure (App name ts)) (terms_moved parts m) (λ ts k. refl)
    term_moved begin (Node' place head.List shape parts) m =
        term_from_node (to begin) (to place) head.List (moved_parts to parts) m ∙ then_moved (terms_of (moved_parts to parts) m) (terms parts m) (λ ts. pure (list_of ts)) (λ ts. pure (list_of ts)) (terms_moved parts m) (λ ts k. refl)
    term_moved begin (Node' place head.OpenList shape parts) m =
        term_from_node (to begin) (to place) head.OpenList (moved_parts to parts) m ∙ then_moved (terms_of (moved_parts to parts) m) (terms parts m) (λ ts. pure (open_list ts)) (λ ts. pure (open_list ts)) (terms_moved parts m) (λ ts k. refl)
    term_moved begin (Node' place head.Brackets shape parts) m = term_from_node (to begin) (to place) head.Brackets (moved_parts to parts) m ∙ only_term_moved begin parts m
    term_moved begin (Node' place head.Plus shape parts) m = flattened_moved begin (Node' place head.Plus shape parts) m
    term_moved begin (Node' place head.Minus shape parts) m = flattened_moved begin (Node' place head.Minus shape parts) m
    term_moved begin (Node' place (head.Chain operators) shape parts) m = flattened_moved begin (Node' place (head.Chain operators) shape parts) m

    only_term_moved : (begin : ℕ) {k : _} (parts : Row_of-Expression k) (m : Meaning) → only_term_of (to begin) (moved_parts to parts) m ≡ moved_result to (only_term begin parts m)
    only_term_moved begin end_of-Expression m = refl
    only_term_moved begin (more_of-Expression part parts) m = term_moved begin part m

    terms_moved : {k : _} (parts : Row_of-Expression k) (m : Meaning) → terms_of (moved_parts to parts) m ≡ moved_result to (terms parts m)
    terms_moved end_of-Expression m = refl
    terms_moved (more_of-Expression part parts) m =
        then_moved (term (moved to part) m) (term part m) (λ t. terms_of (moved_parts to parts) >>= (λ ts. pure (t ∷ ts))) (λ t. terms parts >>= (λ ts. pure (t ∷ ts))) (ap (λ (p : ℕ). term_from p (moved to part) m) (moved_place part) ∙ term_moved (place_of part) part m) (λ t n.
        then_moved (terms_of (moved_parts to parts) n) (terms parts n) (λ ts. pure (t ∷ ts)) (λ ts. pure (t ∷ ts)) (terms_moved parts n) (λ ts k. refl))

  pub whole_term_moved : (x : Expression) (m : Meaning) → term (moved to x) m ≡ moved_result to (term x m)
  whole_term_moved x m = ap (λ (p : ℕ). term_from p (moved to x) m) (moved_place x) ∙ term_moved (place_of x) x m

  -- ---- heads and goals that are no atoms

  named_moved : (name : List ℕ) {k : _} (parts : Row_of-Expression k) → name_nature_of name (moved_parts to parts) ≡ nature_of_name name parts
  unfolding moved
  named_moved name end_of-Expression = refl
  named_moved name (more_of-Expression part parts) = refl

  mutual
    unfolding moved nature

    nature_moved : (x : Expression) → nature (moved to x) ≡ nature x
    nature_moved (Number place value) = refl
    nature_moved (Variable place n) = refl
    nature_moved (Node' place (head.Application name) shape parts) = nature_node (to place) (head.Application name) (moved_parts to parts) ∙ named_moved name parts
    nature_moved (Node' place head.List shape parts) = refl
    nature_moved (Node' place head.OpenList shape parts) = refl
    nature_moved (Node' place head.Brackets shape parts) = nature_node (to place) head.Brackets (moved_parts to parts) ∙ only_nature_moved parts
    nature_moved (Node' place head.Plus shape parts) = refl
    nature_moved (Node' place head.Minus shape parts) = refl
    nature_moved (Node' place (head.Chain operators) shape parts) = refl

    only_nature_moved : {k : _} (parts : Row_of-Expression k) → only_nature_of (moved_parts to parts) ≡ only_nature parts
    only_nature_moved end_of-Expression = refl
    only_nature_moved (more_of-Expression part parts) = nature_moved part

  -- a fault, if there is one
  abbrev pub moved_option : Option Fault → Option Fault
  moved_option None = None
  moved_option (Some f) = Some (moved_fault to f)

  head_fault_moved : (x : Expression) → head_fault_by (place_of (moved to x)) (nature (moved to x)) ≡ moved_option (head_fault_by (place_of x) (nature x))
  head_fault_moved x = ap (λ (p : ℕ). head_fault_by p (nature (moved to x))) (moved_place x) ∙ (ap (head_fault_by (to (place_of x))) (nature_moved x) ∙ go (nature x))
    where
      go : (k : Nature) → head_fault_by (to (place_of x)) k ≡ moved_option (head_fault_by (place_of x) k)
      go Atom = refl
      go True = refl
      go Other = refl

  call_fault_moved : (x : Expression) → call_fault_by (place_of (moved to x)) (nature (moved to x)) ≡ moved_option (call_fault_by (place_of x) (nature x))
  call_fault_moved x = ap (λ (p : ℕ). call_fault_by p (nature (moved to x))) (moved_place x) ∙ (ap (call_fault_by (to (place_of x))) (nature_moved x) ∙ go (nature x))
    where
      go : (k : Nature) → call_fault_by (to (place_of x)) k ≡ moved_option (call_fault_by (place_of x) k)
      go Atom = refl
      go True = refl
      go Other = refl

  goal_fault_moved : (g : Goal) → goal_fault (moved_goal to g) ≡ moved_option (goal_fault g)
  goal_fault_moved (goal.Call x) = call_fault_moved x
  goal_fault_moved (goal.Comparison c) = refl
  goal_fault_moved (goal.Braces constraints) = refl

  pub or_moved : (o u p q : Option Fault) → o ≡ moved_option p → u ≡ moved_option q → option_or o u ≡ moved_option (option_or p q)
  or_moved o u p q e f = ap (λ (z : Option Fault). option_or z u) e ∙ go p
    where
      go : (p : Option Fault) → option_or (moved_option p) u ≡ moved_option (option_or p q)
      go None = f
      go (Some g) = refl

  goals_fault_moved : (goals : List Goal) → goals_fault (map (moved_goal to) goals) ≡ moved_option (goals_fault goals)
  goals_fault_moved [] = refl
  goals_fault_moved (g ∷ goals) = or_moved (goal_fault (moved_goal to g)) (goals_fault (map (moved_goal to) goals)) (goal_fault g) (goals_fault goals) (goal_fault_moved g) (goals_fault_moved goals)

  misplaced_moved : (d : Draft) → misplaced (moved_draft to d) ≡ moved_option (misplaced d)
  unfolding misplaced
  misplaced_moved d =
      or_moved (head_fault_by (place_of (moved to d.head)) (nature (moved to d.head))) (goals_fault (map (moved_goal to) d.goals)) (head_fault_by (place_of d.head) (nature d.head)) (goals_fault d.goals) (head_fault_moved d.head) (goals_fault_moved d.goals)

  -- ---- goals

  keeping_moved : (o u : Result Row Fault) (f : Row → Meaning) → o ≡ moved_result to u → keeping o f ≡ moved_result to (keeping u f)
  keeping_moved o u f same = ap (λ (z : Result Row Fault). keeping z f) same ∙ go u
    where
      go : (u : Result Row Fault) → keeping (moved_result to u) f ≡ moved_result to (keeping u f)
      go (Ok row) = refl
      go (Err e) = refl

  compare_moved : (c : Comparison) (m : Meaning) → compare (moved_comparison to c) m ≡ moved_result to (compare c m)
  unfolding compare
  compare_moved c m =
      let known = sides_met c m in
      ap (λ (k : Meaning). keeping (row_of (number_in k) (moved_comparison to c)) (λ row. with_row row k)) (sides_moved c m)
      ∙ keeping_moved (row_of (number_in known) (moved_comparison to c)) (row_of (number_in known) c) (λ row. with_row row known) (row_moved (number_in known) c)

  equate_moved : (c : Comparison) (m : Meaning) → equate (moved_comparison to c) m ≡ moved_result to (equate c m)
  unfolding equate
  equate_moved c m =
      then_moved (term (moved to c.first) m) (term c.first m) (λ first. term (moved to c.second) >>= last first) (λ first. term c.second >>= last first) (whole_term_moved c.first m) (λ first n.
      then_moved (term (moved to c.second) n) (term c.second n) (last first) (last first) (whole_term_moved c.second n) (λ second k. refl))
    where
      last : Tree ℕ → Tree ℕ → Parser Meaning (Unit {0})
      last first second = λ m. Ok (tt, record m { equations = m.equations ++ (first, second) ∷ [] })

  call_moved : (x : Expression) (m : Meaning) → call (moved to x) m ≡ moved_result to (call x m)
  unfolding call
  call_moved x m = ap (λ (k : Nature). call_by k (moved to x) m) (nature_moved x) ∙ go (nature x)
    where
      last : Tree ℕ → Parser Meaning (Unit {0})
      last atom = λ n. Ok (tt, with_atom atom n)

      as_atom : (term (moved to x) >>= last) m ≡ moved_result to ((term x >>= last) m)
      as_atom = then_moved (term (moved to x) m) (term x m) last last (whole_term_moved x m) (λ atom n. refl)

      go : (k : Nature) → call_by k (moved to x) m ≡ moved_result to (call_by k x m)
      go Atom = as_atom
      go True = refl
      go Other = as_atom

  relate_moved : (relation : Relation) (c : Comparison) (m : Meaning) → relate_by relation (moved_comparison to c) m ≡ moved_result to (relate_by relation c m)
  relate_moved Equal c m = equate_moved c m
  relate_moved NumberEqual c m = compare_moved c m
  relate_moved AtMost c m = compare_moved c m
  relate_moved Less c m = compare_moved c m
  relate_moved AtLeast c m = compare_moved c m
  relate_moved Greater c m = compare_moved c m

  constrain_moved : (c : Constraint) (m : Meaning) → constrain (moved_constraint to c) m ≡ moved_result to (constrain c m)
  constrain_moved (constraint.Comparison c) m = compare_moved c m
  constrain_moved (constraint.Num n) m = refl

  constraints_moved : (constraints : List Constraint) (m : Meaning) → constrain_all (map (moved_constraint to) constraints) m ≡ moved_result to (constrain_all constraints m)
  constraints_moved [] m = refl
  constraints_moved (c ∷ constraints) m =
      then_moved (constrain (moved_constraint to c) m) (constrain c m) (λ u. constrain_all (map (moved_constraint to) constraints)) (λ u. constrain_all constraints) (constrain_moved c m) (λ u n. constraints_moved constraints n)

  goal_moved : (g : Goal) (m : Meaning) → mean (moved_goal to g) m ≡ moved_result to (mean g m)
  goal_moved (goal.Call x) m = call_moved x m
  goal_moved (goal.Comparison c) m = relate_moved c.relation c m
  goal_moved (goal.Braces constraints) m = constraints_moved constraints m

  goals_moved : (goals : List Goal) (m : Meaning) → mean_all (map (moved_goal to) goals) m ≡ moved_result to (mean_all goals m)
  goals_moved [] m = refl
  goals_moved (g ∷ goals) m =
      then_moved (mean (moved_goal to g) m) (mean g m) (λ u. mean_all (map (moved_goal to) goals)) (λ u. mean_all goals) (goal_moved g m) (λ u n. goals_moved goals n)

  -- ---- clauses

  evaluated_moved : (d : Draft) (m : Meaning) → evaluated (moved_draft to d) m ≡ moved_result to (evaluated d m)
  unfolding evaluated
  evaluated_moved d m =
      then_moved (term (moved to d.head) m) (term d.head m) (λ head. mean_all (map (moved_goal to) d.goals) >>= (λ u. last head)) (λ head. mean_all d.goals >>= (λ u. last head)) (whole_term_moved d.head m) (λ head n.
      then_moved (mean_all (map (moved_goal to) d.goals) n) (mean_all d.goals n) (λ u. last head) (λ u. last head) (goals_moved d.goals n) (λ u k. refl))
    where
      last : Tree ℕ → Parser Meaning SourceClause
      last head = λ m. Ok (record { head = head; equations = m.equations; rows = m.rows; atoms = m.atoms; sorts = m.sorts }, m)

  read_moved : {S A : Type 0} (o u : Outcome S A) → o ≡ moved_result to u → value_of o ≡ moved_result to (value_of u)
  read_moved {S} {A} o u same = ap value_of same ∙ go u
    where
      go : (u : Outcome S A) → value_of (moved_result to u) ≡ moved_result to (value_of u)
      go (Ok p) = refl
      go (Err e) = refl

  pub unless_moved : {A : Type 0} (o p : Option Fault) (u q : Result A Fault) → o ≡ moved_option p → u ≡ moved_result to q → unless o u ≡ moved_result to (unless p q)
  unless_moved {A} o p u q e f = ap (λ (z : Option Fault). unless z u) e ∙ go p
    where
      go : (p : Option Fault) → unless (moved_option p) u ≡ moved_result to (unless p q)
      go None = f
      go (Some g) = refl

  pub meaning_moved : (d : Draft) → meaning (moved_draft to d) ≡ moved_result to (meaning d)
  unfolding meaning
  meaning_moved d =
      unless_moved (misplaced (moved_draft to d)) (misplaced d) (value_of (evaluated (moved_draft to d) (nothing d.variables))) (value_of (evaluated d (nothing d.variables))) (misplaced_moved d)
      (read_moved (evaluated (moved_draft to d) (nothing d.variables)) (evaluated d (nothing d.variables)) (evaluated_moved d (nothing d.variables)))

pub places_mean_nothing : PlacesMeanNothing
places_mean_nothing to d = meaning_moved to d
