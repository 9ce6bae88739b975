-- What is evaluated step by step, and the variables of linear expressions.
use Rattle.std.proofs.Common.{ℕ, ◌+◌, [], length, arith}
use Rattle.std.specs.Prelude.{Result, Ok, Err}
use Rattle.std.proofs.lemmas.List.Elements.{All-nil, All-cons, All-push}
use Rattle.clp_model.specs.declared.sort.Sort.TheVariants.{Num}
use Rattle.clp_model.specs.declared.sort.Rel.TheVariants.{Eq}
use Rattle.clp_model.specs.declared.tree.Tree.{Var}
use Rattle.clp_model.specs.Trees.{variables}
use Rattle.clp_model.specs.Clauses.{Row}
use Rattle.clause_store.specs.Stored.{IsNum}
use Rattle.clause_loader.specs.WellFormed.{IsNumber}
use Rattle.name_laws.specs.Names.{HasNames}
use Rattle.token_model.specs.declared.fault.Fault.{Fault}
use Rattle.token_model.specs.Parsers.{Outcome, Parser, and_then}
use Rattle.form_model.specs.Forms as form
use Rattle.form_model.specs.Forms.{Form}
use Rattle.clp_grammar.specs.declared.expression.Expression.{Expression, Number, Variable, Node', Row_of-Expression, end_of-Expression, more_of-Expression}
use Rattle.clp_grammar.specs.declared.draft.Comparison.{Comparison}
use Rattle.clp_grammar.specs.Evaluation.{placed, with_value, linear, row_of}
use Rattle.clp_grammar.specs.Terms.{Meaning, number_in, with_new, met, met_all, met_parts, with_row, keeping, sides_met, compare, value_row, flattened_by, flattened, named}
use Rattle.draft_laws.specs.Formed.{IsNumbered, IsFormed, AreFormed, IsFormedComparison}
use Rattle.grammar_laws.specs.Variables.{EachVariable, EachVariableOf}
use Rattle.grammar_laws.proofs.Sorts.{pushed, num_pushed, one_more}
use Rattle.grammar_laws.proofs.Rows.{each_weaker, IsRowOver, IfRow, linear_has, placed_row_has, then_row, difference_row_has, row_has}
use Rattle.grammar_laws.proofs.Known.{IsTerm, IsKnown, Step, stays, steps, IsMetNum, still_met, new_step, met_step, met_num_step}

-- ---- steps one after another

-- What holds of the value, where there are then so many variables, and what is known then, if there is no fault. The
-- property is one that holds for more variables too.
abbrev pub After : {A : Type 0} → ℕ → Meaning → (ℕ → A → Type 0) → Outcome Meaning A → Type 0
After count m P (Ok p) = Step count m p.1 × P (length p.1.sorts) p.0
After count m P (Err e) = Unit {0}

pub after_step : {A : Type 0} (count : ℕ) (l m : Meaning) (P : ℕ → A → Type 0) (o : Outcome Meaning A) → Step count l m → After count m P o → After count l P o
after_step count l m P (Ok p) s h = (steps count l m p.1 s h.0, h.1)
after_step count l m P (Err e) s h = tt

pub then_after : {A B : Type 0} (count : ℕ) (m : Meaning) (P : ℕ → A → Type 0) (Q : ℕ → B → Type 0) (o : Outcome Meaning A) (f : A → Parser Meaning B) → After count m P o
    → ((a : A) (k : Meaning) → Step count m k → P (length k.sorts) a → After count k Q (f a k)) → After count m Q (and_then o f)
then_after count m P Q (Ok p) f h g = after_step count m p.1 Q (f p.0 p.1) h.0 (g p.0 p.1 h.0 h.1)
then_after count m P Q (Err e) f h g = tt

abbrev pub Anything : {A : Type 0} → ℕ → A → Type 0
Anything n a = Unit {0}

-- ---- linear expressions: their variables are numbers

mutual
  unfolding met_all EachVariable IsFormed

  pub all_met : (count : ℕ) (e : Expression) (m : Meaning) → IsKnown count m → IsFormed count e → Step count m (met_all e m) × EachVariable (IsMetNum (met_all e m)) e
  all_met count (Number place value) m known f = (stays count m known, tt)
  all_met count (Variable place n) m known f = met_num_step count m known n f
  all_met count (Node' place head shape parts) m known f = parts_met count parts m known f.1

  parts_met : {k : _} (count : ℕ) (parts : Row_of-Expression k) (m : Meaning) → IsKnown count m → AreFormed count parts → Step count m (met_parts parts m) × EachVariableOf (IsMetNum (met_parts parts m)) parts
  parts_met count end_of-Expression m known f = (stays count m known, tt)
  parts_met count (more_of-Expression part parts) m known f =
      let one = all_met count part m known f.0 in
      let rest = parts_met count parts (met_all part m) one.0.known f.1 in (
        steps count m (met_all part m) (met_parts parts (met_all part m)) one.0 rest.0,
        (each_weaker (IsMetNum (met_all part m)) (IsMetNum (met_parts parts (met_all part m))) (λ n k. still_met (met_all part m) (met_parts parts (met_all part m)) rest.0.grows n k) part one.1, rest.1),
      )

-- a row more
pub row_step : (count : ℕ) (m : Meaning) (row : Row) → IsKnown count m → IsRowOver (IsNum m.sorts) row → Step count m (with_row row m)
row_step count m row known h =
    let same = stays count m known in
    record {
      grows = record { sorts = same.grows.sorts; numbers = same.grows.numbers };
      known = record {
        names = known.names;
        numbers = known.numbers;
        parts = record {
          sides_over = known.parts.sides_over;
          rows_over = All-push (IsRowOver (IsNum m.sorts)) m.rows row known.parts.rows_over h;
          atoms_over = known.parts.atoms_over;
        };
      };
    }

-- a relation between linear expressions
pub compared : (count : ℕ) (c : Comparison) (m : Meaning) → IsKnown count m → IsFormedComparison count c → After count m Anything (compare c m)
unfolding compare
compared count c m known f =
    let one = all_met count c.first m known f.first in
    let two = all_met count c.second (met_all c.first m) one.0.known f.second in
    let k = sides_met c m in
    let first = each_weaker (IsMetNum (met_all c.first m)) (IsMetNum k) (λ n h. still_met (met_all c.first m) k two.0.grows n h) c.first one.1 in
    keep k (steps count m (met_all c.first m) k one.0 two.0) (row_of (number_in k) c) (row_has (IsNum k.sorts) (number_in k) c first two.1)
  where
    keep : (k : Meaning) → Step count m k → (r : Result Row Fault) → IfRow (IsNum k.sorts) r → After count m Anything (keeping r (λ row. with_row row k))
    keep k s (Ok row) h = (steps count m k (with_row row k) s (row_step count k row s.known h), tt)
    keep k s (Err e) h = tt

-- a variable is a term
pub variable_term : (count v : ℕ) → IsNumber count v → IsTerm count (Var v)
unfolding variables HasNames
variable_term count v h = record { numbered = All-cons (IsNumber count) v [] h (All-nil (IsNumber count)); names = tt }

-- a linear expression is a new variable with a row
pub is_flattened : (count begin : ℕ) (e : Expression) (m : Meaning) → IsKnown count m → IsFormed count e → After count m IsTerm (flattened begin e m)
unfolding flattened
is_flattened count begin e m known f =
    let one = all_met count e m known f in
    flat (met_all e m) one.0 (value_row begin (length (met_all e m).sorts + 1) (number_in (met_all e m)) e) (row (met_all e m) one.1)
  where
    row : (k : Meaning) → EachVariable (IsMetNum k) e → IfRow (IsNum (with_new Num k).sorts) (value_row begin (length k.sorts + 1) (number_in k) e)
    row k h =
        let P = IsNum (with_new Num k).sorts in
        let v = length k.sorts + 1 in
        let wider = each_weaker (IsMetNum k) (λ n. P (number_in k n)) (λ n x. (pushed k.sorts Num).nums (number_in k n) x) e h in
        then_row P (linear (number_in k) e) (λ g. placed begin (with_value (form.difference (form.variable v) g) (form.row_of Eq))) (linear_has P (number_in k) e wider) (λ g x.
        placed_row_has P begin (with_value (form.difference (form.variable v) g) (form.row_of Eq)) (difference_row_has P Eq (form.variable v) g (num_pushed k.sorts, tt) x))

    flat : (k : Meaning) → Step count m k → (r : Result Row Fault) → IfRow (IsNum (with_new Num k).sorts) r → After count m IsTerm (flattened_by k r)
    flat k s (Ok row) h =
        let new = new_step count k Num s.known in
        let full = row_step count (with_new Num k) row new.known h in (
          steps count m k (with_row row (with_new Num k)) s (steps count k (with_new Num k) (with_row row (with_new Num k)) new full),
          variable_term (length (with_new Num k).sorts) (length k.sorts + 1) (omega arith, omega (arith, one_more k.sorts Num)),
        )
    flat k s (Err e) h = tt

-- the variable of a name
pub is_named : (count n : ℕ) (m : Meaning) → IsKnown count m → IsNumbered count n → After count m IsTerm (named n m)
unfolding named
is_named count n m known h =
    let one = met_step count m known n h in
    (one.0, variable_term (length (met n m).sorts) (number_in (met n m) n) (one.1, one.0.known.numbers n))
