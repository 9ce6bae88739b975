-- What goals add to what is known of a clause.
use Rattle.std.proofs.Common.{◌≡◌, ℕ, List, [], ◌∷◌, ◌++◌, length, refl}
use Rattle.std.specs.Prelude.{All, Option, Some, None, Ok}
use Rattle.std.specs.Option.{option_or}
use Rattle.std.proofs.lemmas.List.Elements.{All-head, All-tail, All-push}
use Rattle.clp_model.specs.declared.tree.Tree.{Tree}
use Rattle.token_model.specs.declared.fault.Fault.{Fault}
use Rattle.token_model.specs.Parsers.{and_then}
use Rattle.clp_grammar.specs.declared.nature.Nature.{Nature}
use Rattle.clp_grammar.specs.declared.nature.Nature.TheVariants.{Atom, True, Other}
use Rattle.clp_grammar.specs.declared.expression.Expression.{Expression}
use Rattle.clp_grammar.specs.declared.draft.Relation.{Relation}
use Rattle.clp_grammar.specs.declared.draft.Relation.TheVariants.{Equal, NumberEqual, AtMost, Less, AtLeast, Greater}
use Rattle.clp_grammar.specs.declared.draft.Comparison.{Comparison}
use Rattle.clp_grammar.specs.declared.draft.Constraint.{Constraint}
use Rattle.clp_grammar.specs.declared.draft.Constraint.TheVariants as constraint
use Rattle.clp_grammar.specs.declared.draft.Goal.{Goal}
use Rattle.clp_grammar.specs.declared.draft.Goal.TheVariants as goal
use Rattle.clp_grammar.specs.Terms.{Meaning, place_of, term}
use Rattle.clp_grammar.specs.Clauses.{nature, call_fault_by, goal_fault, goals_fault, with_atom, call_by, call, equate, relate_by, constrain, constrain_all, mean, mean_all}
use Rattle.draft_laws.specs.Formed.{IsFormed, IsFormedComparison, IsFormedConstraint, IsFormedGoal}
use Rattle.grammar_laws.proofs.Known.{IsTerm, IsAtom, AreSides, IsKnown, Step, stays, term_wider, met_num_step}
use Rattle.grammar_laws.proofs.Evaluating.{After, then_after, Anything, compared}
use Rattle.grammar_laws.proofs.Terms.{is_term, is_atom}

-- an atom more
atom_step : (count : ℕ) (m : Meaning) (t : Tree ℕ) → IsKnown count m → IsAtom (length m.sorts) t → Step count m (with_atom t m)
atom_step count m t known h =
    let same = stays count m known in
    record {
      grows = record { sorts = same.grows.sorts; numbers = same.grows.numbers };
      known = record {
        names = known.names;
        numbers = known.numbers;
        parts = record {
          sides_over = known.parts.sides_over;
          rows_over = known.parts.rows_over;
          atoms_over = All-push (IsAtom (length m.sorts)) m.atoms t known.parts.atoms_over h;
        };
      };
    }

abbrev with_equation : Tree ℕ × Tree ℕ → Meaning → Meaning
with_equation e m = record m { equations = m.equations ++ e ∷ [] }

-- an equation more
equation_step : (count : ℕ) (m : Meaning) (e : Tree ℕ × Tree ℕ) → IsKnown count m → AreSides (length m.sorts) e → Step count m (with_equation e m)
equation_step count m e known h =
    let same = stays count m known in
    record {
      grows = record { sorts = same.grows.sorts; numbers = same.grows.numbers };
      known = record {
        names = known.names;
        numbers = known.numbers;
        parts = record {
          sides_over = All-push (AreSides (length m.sorts)) m.equations e known.parts.sides_over h;
          rows_over = known.parts.rows_over;
          atoms_over = known.parts.atoms_over;
        };
      };
    }

called : (count : ℕ) (e : Expression) (m : Meaning) → IsKnown count m → IsFormed count e → call_fault_by (place_of e) (nature e) ≡ None → After count m Anything (call e m)
unfolding call
called count e m known f right = by (nature e) refl right
  where
    by : (n : Nature) → nature e ≡ n → call_fault_by (place_of e) n ≡ None → After count m Anything (call_by n e m)
    by True is right = (stays count m known, tt)
    by Atom is right = then_after count m IsAtom Anything (term e m) (λ t k. Ok (tt, with_atom t k)) (is_atom count (place_of e) e m known f is) (λ t k s h. (atom_step count k t s.known h, tt))
    by Other is right = absurd (cc)

equated : (count : ℕ) (c : Comparison) (m : Meaning) → IsKnown count m → IsFormedComparison count c → After count m Anything (equate c m)
unfolding equate
equated count c m known f =
    then_after count m IsTerm Anything (term c.first m) (λ t k. and_then (term c.second k) (λ u l. Ok (tt, with_equation (t, u) l))) (is_term count (place_of c.first) c.first m known f.first) (λ t k s h.
    then_after count k IsTerm Anything (term c.second k) (λ u l. Ok (tt, with_equation (t, u) l)) (is_term count (place_of c.second) c.second k s.known f.second) (λ u l r i. (
      equation_step count l (t, u) r.known (record { first = term_wider (length k.sorts) (length l.sorts) r.grows.sorts.longer t h; second = i }),
      tt,
    )))

related : (count : ℕ) (relation : Relation) (c : Comparison) (m : Meaning) → IsKnown count m → IsFormedComparison count c → After count m Anything (relate_by relation c m)
related count Equal c m known f = equated count c m known f
related count NumberEqual c m known f = compared count c m known f
related count AtMost c m known f = compared count c m known f
related count Less c m known f = compared count c m known f
related count AtLeast c m known f = compared count c m known f
related count Greater c m known f = compared count c m known f

constrained : (count : ℕ) (c : Constraint) (m : Meaning) → IsKnown count m → IsFormedConstraint count c → After count m Anything (constrain c m)
constrained count (constraint.Comparison c) m known f = compared count c m known f
constrained count (constraint.Num n) m known f = ((met_num_step count m known n f).0, tt)

all_constrained : (count : ℕ) (cs : List Constraint) (m : Meaning) → IsKnown count m → All (IsFormedConstraint count) cs → After count m Anything (constrain_all cs m)
all_constrained count [] m known f = (stays count m known, tt)
all_constrained count (c ∷ cs) m known f =
    then_after count m Anything Anything (constrain c m) (λ u. constrain_all cs) (constrained count c m known (All-head (IsFormedConstraint count) c cs f)) (λ u k s h.
    all_constrained count cs k s.known (All-tail (IsFormedConstraint count) c cs f))

meant : (count : ℕ) (g : Goal) (m : Meaning) → IsKnown count m → IsFormedGoal count g → goal_fault g ≡ None → After count m Anything (mean g m)
meant count (goal.Call e) m known f right = called count e m known f right
meant count (goal.Comparison c) m known f right = related count c.relation c m known f
meant count (goal.Braces cs) m known f right = all_constrained count cs m known f

-- neither is a fault
pub no_fault : (o p : Option Fault) → option_or o p ≡ None → (o ≡ None) × (p ≡ None)
no_fault None p h = (refl, h)
no_fault (Some f) p h = absurd (cc)

pub all_meant : (count : ℕ) (gs : List Goal) (m : Meaning) → IsKnown count m → All (IsFormedGoal count) gs → goals_fault gs ≡ None → After count m Anything (mean_all gs m)
all_meant count [] m known f right = (stays count m known, tt)
all_meant count (g ∷ gs) m known f right =
    let both = no_fault (goal_fault g) (goals_fault gs) right in
    then_after count m Anything Anything (mean g m) (λ u. mean_all gs) (meant count g m known (All-head (IsFormedGoal count) g gs f) both.0) (λ u k s h.
    all_meant count gs k s.known (All-tail (IsFormedGoal count) g gs f) both.1)
