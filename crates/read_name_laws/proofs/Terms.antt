-- The terms that expressions stand for have names in UTF-8.
use Rattle.std.proofs.Common.{◌≡◌, ◌<◌, ℕ, List, [], ◌∷◌, ◌++◌, Bool, true, false, nat_eq, refl, sym, ◌∙◌, subst, arith, if◌then◌else◌, Option, Some, None, Result, Ok, Err, codes}
use Rattle.std.specs.Prelude.{All}
use Rattle.std.specs.Str.{is_utf8}
use Rattle.std.proofs.lemmas.List.Elements.{All-nil, All-cons, All-head, All-tail, All-push}
use Rattle.std.proofs.lemmas.Str.{IsUtf8-from_ascii, is_utf8-from_IsUtf8}
use Rattle.std.proofs.lemmas.Str.Ascii.{IsAscii-from_all}
use Rattle.token_model.specs.declared.fault.Fault.{Fault}
use Rattle.token_model.specs.Parsers.{Outcome, Parser, and_then, pure, value_of}
use Rattle.clp_model.specs.declared.tree.Tree.{Tree, Var, App, Row_of-Tree, end_of-Tree, more_of-Tree, items-the_row-Tree}
use Rattle.clp_model.specs.declared.tree.Tree.TheBlock.{items_hidden-the_row-Tree-0, hidden-the_row-Tree-0}
use Rattle.clp_model.specs.Clauses.{Row}
use Rattle.clause_store.specs.declared.source.SourceClause.{SourceClause}
use Rattle.name_laws.specs.Names.{HasNames, RowHasNames}
use Rattle.clp_grammar.specs.declared.nature.Nature.{Nature}
use Rattle.clp_grammar.specs.declared.nature.Nature.TheVariants.{Atom, True, Other}
use Rattle.clp_grammar.specs.declared.expression.Head.TheVariants as head
use Rattle.clp_grammar.specs.declared.expression.Expression.{Expression, Number, Variable, Node', Row_of-Expression, end_of-Expression, more_of-Expression}
use Rattle.clp_grammar.specs.declared.draft.Relation.{Relation}
use Rattle.clp_grammar.specs.declared.draft.Relation.TheVariants.{Equal, NumberEqual, AtMost, Less, AtLeast, Greater}
use Rattle.clp_grammar.specs.declared.draft.Comparison.{Comparison}
use Rattle.clp_grammar.specs.declared.draft.Constraint.{Constraint}
use Rattle.clp_grammar.specs.declared.draft.Constraint.TheVariants as constraint
use Rattle.clp_grammar.specs.declared.draft.Goal.{Goal}
use Rattle.clp_grammar.specs.declared.draft.Goal.TheVariants as goal
use Rattle.clp_grammar.specs.declared.draft.Draft.{Draft}
use Rattle.clp_grammar.specs.Evaluation.{row_of}
use Rattle.clp_grammar.specs.Terms.{Meaning, nothing, number_in, met, met_num, with_name, met_all, met_parts, with_row, keeping, sides_met, compare, value_row, flattened_by, flattened, list_of, open_list, cell, empty_list, place_of, named, term_from, only_term, terms, term}
use Rattle.clp_grammar.specs.Clauses.{nature, with_atom, call_by, call, equate, relate_by, constrain_all, mean, mean_all, evaluated, unless, meaning}
use Rattle.read_name_laws.specs.Laws.{HasTextNames}
use Rattle.read_name_laws.proofs.Parts.{HasTexts, HaveTexts, GoalHasTexts, DraftHasTexts}

abbrev HasTextTree : Tree ℕ → Type 0
HasTextTree t = HasNames is_utf8 t

-- ---- trees

row_names : (m : _) (ts : Row_of-Tree ℕ m) → All HasTextTree (items-the_row-Tree ℕ m ts) → RowHasNames is_utf8 ts
unfolding HasNames
row_names m end_of-Tree h = tt
row_names m (more_of-Tree t ts) h = (All-head HasTextTree t (items-the_row-Tree ℕ _ ts) h, row_names _ ts (All-tail HasTextTree t (items-the_row-Tree ℕ _ ts) h))

names_app : (name : List ℕ) (ts : List (Tree ℕ)) → is_utf8 name ≡ true → All HasTextTree ts → HasTextTree (App name ts)
unfolding HasNames
names_app name ts is h = (is, row_names _ (hidden-the_row-Tree-0 ℕ ts) (subst (All HasTextTree) (sym (items_hidden-the_row-Tree-0 ℕ ts)) h))

names_var : (n : ℕ) → HasTextTree (Var n)
unfolding HasNames
names_var n = tt

dot : is_utf8 (codes ".") ≡ true
dot = is_utf8-from_IsUtf8 (codes ".") (IsUtf8-from_ascii (codes ".") (IsAscii-from_all (codes ".") (All-cons (λ (b : ℕ). b < 128) 46 [] (omega arith) (All-nil (λ (b : ℕ). b < 128)))))

nil : is_utf8 (codes "[]") ≡ true
nil = is_utf8-from_IsUtf8 (codes "[]") (IsUtf8-from_ascii (codes "[]") (IsAscii-from_all (codes "[]") (All-cons (λ (b : ℕ). b < 128) 91 (93 ∷ []) (omega arith) (All-cons (λ (b : ℕ). b < 128) 93 [] (omega arith) (All-nil (λ (b : ℕ). b < 128))))))

cell_names : (t u : Tree ℕ) → HasTextTree t → HasTextTree u → HasTextTree (cell t u)
cell_names t u h k = names_app (codes ".") (t ∷ u ∷ []) dot (All-cons HasTextTree t (u ∷ []) h (All-cons HasTextTree u [] k (All-nil HasTextTree)))

empty_names : HasTextTree empty_list
empty_names = names_app (codes "[]") [] nil (All-nil HasTextTree)

list_names : (ts : List (Tree ℕ)) → All HasTextTree ts → HasTextTree (list_of ts)
list_names [] h = empty_names
list_names (t ∷ ts) h = cell_names t (list_of ts) (All-head HasTextTree t ts h) (list_names ts (All-tail HasTextTree t ts h))

open_names : (ts : List (Tree ℕ)) → All HasTextTree ts → HasTextTree (open_list ts)
open_names [] h = empty_names
open_names (t ∷ []) h = All-head HasTextTree t [] h
open_names (t ∷ (u ∷ us)) h = cell_names t (open_list (u ∷ us)) (All-head HasTextTree t (u ∷ us) h) (open_names (u ∷ us) (All-tail HasTextTree t (u ∷ us) h))

-- ---- what is known of a clause

abbrev BothAreTexts : Tree ℕ × Tree ℕ → Type 0
BothAreTexts e = HasTextTree e.0 × HasTextTree e.1

record IsKnown (m : Meaning) : Type 0 where
  equations : All BothAreTexts m.equations
  atoms : All HasTextTree m.atoms

-- the value has the property, and what is known still has names in UTF-8, unless there is a fault
abbrev Makes : {A : Type 0} → (A → Type 0) → Outcome Meaning A → Type 0
Makes P (Ok p) = P p.0 × IsKnown p.1
Makes P (Err e) = Unit {0}

then_makes : {A B : Type 0} (P : A → Type 0) (Q : B → Type 0) (o : Outcome Meaning A) (f : A → Parser Meaning B) → Makes P o → ((a : A) → P a → (m : Meaning) → IsKnown m → Makes Q (f a m)) → Makes Q (and_then o f)
then_makes P Q (Ok p) f h g = g p.0 h.0 p.1 h.1
then_makes P Q (Err e) f h g = tt

abbrev Anything : {A : Type 0} → A → Type 0
Anything a = Unit {0}

-- equations and atoms stay where variables are met
record SameParts (m n : Meaning) : Type 0 where
  equations : n.equations ≡ m.equations
  atoms : n.atoms ≡ m.atoms

still_known : (m n : Meaning) → SameParts m n → IsKnown m → IsKnown n
still_known m n s k = record { equations = subst (All BothAreTexts) (sym s.equations) k.equations; atoms = subst (All HasTextTree) (sym s.atoms) k.atoms }

same_after : (m n k : Meaning) → SameParts m n → SameParts n k → SameParts m k
same_after m n k s t = record { equations = t.equations ∙ s.equations; atoms = t.atoms ∙ s.atoms }

met_same : (n : ℕ) (m : Meaning) → SameParts m (met n m)
unfolding met with_name
met_same n m = go (nat_eq (number_in m n) 0)
  where
    go : (b : Bool) → SameParts m (if b then with_name n m else m)
    go true = record { equations = refl; atoms = refl }
    go false = record { equations = refl; atoms = refl }

met_num_same : (n : ℕ) (m : Meaning) → SameParts m (met_num n m)
unfolding met_num
met_num_same n m = let s = met_same n m in record { equations = s.equations; atoms = s.atoms }

mutual
  unfolding met_all

  all_same : (e : Expression) (m : Meaning) → SameParts m (met_all e m)
  all_same (Number place value) m = record { equations = refl; atoms = refl }
  all_same (Variable place n) m = met_num_same n m
  all_same (Node' place h shape parts) m = parts_same parts m

  parts_same : {k : _} (parts : Row_of-Expression k) (m : Meaning) → SameParts m (met_parts parts m)
  parts_same end_of-Expression m = record { equations = refl; atoms = refl }
  parts_same (more_of-Expression part parts) m = same_after m (met_all part m) (met_parts parts (met_all part m)) (all_same part m) (parts_same parts (met_all part m))

compare_makes : (c : Comparison) (m : Meaning) → IsKnown m → Makes Anything (compare c m)
unfolding compare
compare_makes c m known = go (row_of (number_in (sides_met c m)) c)
  where
    go : (r : Result Row Fault) → Makes Anything (keeping r (λ row. with_row row (sides_met c m)))
    go (Ok row) =
        let k = still_known m (sides_met c m) (same_after m (met_all c.first m) (sides_met c m) (all_same c.first m) (all_same c.second (met_all c.first m))) known in
        (tt, record { equations = k.equations; atoms = k.atoms })
    go (Err e) = tt

flattened_makes : (begin : ℕ) (e : Expression) (m : Meaning) → IsKnown m → Makes HasTextTree (flattened begin e m)
unfolding flattened
flattened_makes begin e m known = go (value_row begin _ (number_in (met_all e m)) e)
  where
    go : (r : Result Row Fault) → Makes HasTextTree (flattened_by (met_all e m) r)
    go (Ok row) = let k = still_known m (met_all e m) (all_same e m) known in (names_var _, record { equations = k.equations; atoms = k.atoms })
    go (Err f) = tt

named_makes : (n : ℕ) (m : Meaning) → IsKnown m → Makes HasTextTree (named n m)
unfolding named
named_makes n m known = (names_var _, still_known m (met n m) (met_same n m) known)

-- ---- terms

made : (f : List (Tree ℕ) → Tree ℕ) → ((ts : List (Tree ℕ)) → All HasTextTree ts → HasTextTree (f ts)) → (o : Outcome Meaning (List (Tree ℕ))) → Makes (All HasTextTree) o → Makes HasTextTree (and_then o (λ ts. pure (f ts)))
made f makes o h = then_makes (All HasTextTree) HasTextTree o (λ ts. pure (f ts)) h (λ ts all m known. (makes ts all, known))

mutual
  unfolding term_from HasTexts

  term_makes : (begin : ℕ) (e : Expression) (m : Meaning) → IsKnown m → HasTexts e → Makes HasTextTree (term_from begin e m)
  term_makes begin (Number place value) m known h = flattened_makes begin (Number place value) m known
  term_makes begin (Variable place n) m known h = named_makes n m known
  term_makes begin (Node' place (head.Application name) shape parts) m known h = made (App name) (λ ts all. names_app name ts h.0 all) (terms parts m) (terms_make parts m known h.1)
  term_makes begin (Node' place head.List shape parts) m known h = made list_of list_names (terms parts m) (terms_make parts m known h.1)
  term_makes begin (Node' place head.OpenList shape parts) m known h = made open_list open_names (terms parts m) (terms_make parts m known h.1)
  term_makes begin (Node' place head.Brackets shape parts) m known h = only_makes begin parts m known h.1
  term_makes begin (Node' place head.Plus shape parts) m known h = flattened_makes begin (Node' place head.Plus shape parts) m known
  term_makes begin (Node' place head.Minus shape parts) m known h = flattened_makes begin (Node' place head.Minus shape parts) m known
  term_makes begin (Node' place (head.Chain operators) shape parts) m known h = flattened_makes begin (Node' place (head.Chain operators) shape parts) m known

  only_makes : {k : _} (begin : ℕ) (parts : Row_of-Expression k) (m : Meaning) → IsKnown m → HaveTexts parts → Makes HasTextTree (only_term begin parts m)
  only_makes begin end_of-Expression m known h = tt
  only_makes begin (more_of-Expression part parts) m known h = term_makes begin part m known h.0

  terms_make : {k : _} (parts : Row_of-Expression k) (m : Meaning) → IsKnown m → HaveTexts parts → Makes (All HasTextTree) (terms parts m)
  terms_make end_of-Expression m known h = (All-nil HasTextTree, known)
  terms_make (more_of-Expression part parts) m known h =
      then_makes HasTextTree (All HasTextTree) (term_from (place_of part) part m) (λ t k. and_then (terms parts k) (λ ts. pure (t ∷ ts))) (term_makes (place_of part) part m known h.0) (λ t is k more.
      rest t is k (terms_make parts k more h.1))
    where
      rest : (t : Tree ℕ) → HasTextTree t → (k : Meaning) → Makes (All HasTextTree) (terms parts k) → Makes (All HasTextTree) (and_then (terms parts k) (λ ts. pure (t ∷ ts)))
      rest t is k others = then_makes (All HasTextTree) (All HasTextTree) (terms parts k) (λ ts. pure (t ∷ ts)) others (λ ts all n known. (All-cons HasTextTree t ts is all, known))

-- ---- goals

call_makes : (e : Expression) (m : Meaning) → IsKnown m → HasTexts e → Makes Anything (call e m)
unfolding call
call_makes e m known h = go (nature e)
  where
    atom : Makes {A = Unit {0}} Anything (and_then (term e m) (λ t k. Ok (tt, with_atom t k)))
    atom = then_makes HasTextTree Anything (term e m) (λ t k. Ok (tt, with_atom t k)) (term_makes (place_of e) e m known h) (λ t is k more.
        (tt, record { equations = more.equations; atoms = All-push HasTextTree k.atoms t more.atoms is }))

    go : (n : Nature) → Makes Anything (call_by n e m)
    go True = (tt, known)
    go Atom = atom
    go Other = atom

equate_makes : (c : Comparison) (m : Meaning) → IsKnown m → HasTexts c.first → HasTexts c.second → Makes Anything (equate c m)
unfolding equate
equate_makes c m known first second =
    then_makes HasTextTree Anything (term c.first m) (λ t k. and_then (term c.second k) (λ u n. Ok (tt, record n { equations = n.equations ++ (t, u) ∷ [] }))) (term_makes (place_of c.first) c.first m known first) (λ t is k more.
    then_makes HasTextTree Anything (term c.second k) (λ u n. Ok (tt, record n { equations = n.equations ++ (t, u) ∷ [] })) (term_makes (place_of c.second) c.second k more second) (λ u are n all.
    (tt, record { equations = All-push BothAreTexts n.equations (t, u) all.equations (is, are); atoms = all.atoms })))

constraints_make : (cs : List Constraint) (m : Meaning) → IsKnown m → Makes Anything (constrain_all cs m)
constraints_make [] m known = (tt, known)
constraints_make (constraint.Comparison c ∷ cs) m known = then_makes Anything Anything (compare c m) (λ u. constrain_all cs) (compare_makes c m known) (λ u t k more. constraints_make cs k more)
constraints_make (constraint.Num n ∷ cs) m known = constraints_make cs (met_num n m) (still_known m (met_num n m) (met_num_same n m) known)

goal_makes : (g : Goal) (m : Meaning) → IsKnown m → GoalHasTexts g → Makes Anything (mean g m)
goal_makes (goal.Call e) m known h = call_makes e m known h
goal_makes (goal.Comparison c) m known h = go c.relation
  where
    go : (r : Relation) → Makes Anything (relate_by r c m)
    go Equal = equate_makes c m known h.0 h.1
    go NumberEqual = compare_makes c m known
    go AtMost = compare_makes c m known
    go Less = compare_makes c m known
    go AtLeast = compare_makes c m known
    go Greater = compare_makes c m known
goal_makes (goal.Braces cs) m known h = constraints_make cs m known

goals_make : (gs : List Goal) (m : Meaning) → IsKnown m → All GoalHasTexts gs → Makes Anything (mean_all gs m)
goals_make [] m known h = (tt, known)
goals_make (g ∷ gs) m known h = then_makes Anything Anything (mean g m) (λ u. mean_all gs) (goal_makes g m known (All-head GoalHasTexts g gs h)) (λ u t k more. goals_make gs k more (All-tail GoalHasTexts g gs h))

-- ---- clauses

draft_makes : (d : Draft) → DraftHasTexts d → Makes HasTextNames (evaluated d (nothing d.variables))
unfolding evaluated
draft_makes d h =
    let m = nothing d.variables in
    let known : IsKnown (nothing d.variables) = record { equations = All-nil BothAreTexts; atoms = All-nil HasTextTree } in
    then_makes HasTextTree HasTextNames (term d.head m) (λ t k. and_then (mean_all d.goals k) (λ u n. Ok (record { head = t; equations = n.equations; rows = n.rows; atoms = n.atoms; sorts = n.sorts }, n)))
    (term_makes (place_of d.head) d.head m known h.head) (λ t is k more.
    then_makes Anything HasTextNames (mean_all d.goals k) (λ u n. Ok (record { head = t; equations = n.equations; rows = n.rows; atoms = n.atoms; sorts = n.sorts }, n)) (goals_make d.goals k more h.goals) (λ u w n all.
    (record { atoms = All-cons HasTextTree t n.atoms is all.atoms; equations = all.equations }, all)))

pub meaning_texts : (d : Draft) (c : SourceClause) → DraftHasTexts d → meaning d ≡ Ok c → HasTextNames c
unfolding meaning
meaning_texts d c h e = go (evaluated d (nothing d.variables)) (draft_makes d h) _ e
  where
    go : (o : Outcome Meaning SourceClause) → Makes HasTextNames o → (f : Option Fault) → unless f (value_of o) ≡ Ok c → HasTextNames c
    go (Ok p) makes None is = let same : p.0 ≡ c = cc in subst HasTextNames same makes.0
    go (Err x) makes None is = absurd (cc)
    go o makes (Some x) is = absurd (cc)
