-- What solving, loading and the rules keep of names and predicates.
use Rattle.std.specs.Prelude.{◌≡◌, ℕ, Bool, List, All, Option, Some, Ok}
use Rattle.clp_model.specs.declared.tree.Variable.{Variable}
use Rattle.clp_model.specs.declared.predicate.Pred.{Pred}
use Rattle.clp_model.specs.Clauses.{Clause, Row}
use Rattle.unify_model.specs.Substituting.{Binding, image}
use Rattle.unify_model.specs.Equations.{Equation}
use Rattle.unify_model.specs.Unifying.{most_general_unifier}
use Rattle.clause_model.specs.Canonical.{canonical_form, new_clause}
use Rattle.clause_model.specs.Solved.{solved_clause}
use Rattle.clause_model.specs.Load.{load_one, load, Program}
use Rattle.clp_meaning.specs.Laws.{without_atom}
use Rattle.unfold_model.specs.Resolvent.{resolvent}
use Rattle.replace_model.specs.Rows.{with_row, without_row, projected, equated}
use Rattle.fold_model.specs.Images.{matched_atoms}
use Rattle.fold_model.specs.Folded.{folded_clause}
use Rattle.map_model.specs.declared.step.Step.{Step}
use Rattle.map_model.specs.State.{State, start_state}
use Rattle.map_model.specs.Folding.{images}
use Rattle.map_model.specs.After.{after, run}
use Rattle.name_laws.specs.Names.{HasNames, AreOver, EquationsHaveNames, EachPlaced, EachKept, IsStepOver}

-- the names in the images are among those of the equations
abbrev pub UnifierKeepsNames : Type 0
UnifierKeepsNames =
    (p : List ℕ → Bool) (es : List Equation) (bs : List Binding) → All (λ e. HasNames p e.0 × HasNames p e.1) es
    → most_general_unifier es ≡ Some bs → (v : Variable) → HasNames p (image bs v)

abbrev pub CanonicalFormKeepsNames : Type 0
CanonicalFormKeepsNames = (p : List ℕ → Bool) (q : Pred → Bool) (c : Clause) → AreOver p q c → AreOver p q (canonical_form c)

abbrev pub NewClauseKeepsNames : Type 0
NewClauseKeepsNames = (p : List ℕ → Bool) (q : Pred → Bool) (c d : Clause) → AreOver p q c → new_clause c ≡ Ok d → AreOver p q d

abbrev pub SolvedClauseKeepsNames : Type 0
SolvedClauseKeepsNames =
    (p : List ℕ → Bool) (q : Pred → Bool) (c d : Clause) → EquationsHaveNames p c → AreOver p q c
    → solved_clause c ≡ Some d → AreOver p q d

abbrev pub LoadedClauseKeepsNames : Type 0
LoadedClauseKeepsNames =
    (p : List ℕ → Bool) (q : Pred → Bool) (c d : Clause) → EquationsHaveNames p c → AreOver p q c
    → load_one c ≡ Ok (Some d) → AreOver p q d

-- each clause of a loaded program
abbrev pub LoadingKeepsNames : Type 0
LoadingKeepsNames =
    (p : List ℕ → Bool) (q : Pred → Bool) (source : List Clause) (program : Program)
    → All (λ c. EquationsHaveNames p c × AreOver p q c) source → load source ≡ Ok program
    → EachPlaced (AreOver p q) program.clauses

abbrev pub ResolventKeepsNames : Type 0
ResolventKeepsNames =
    (p : List ℕ → Bool) (q : Pred → Bool) (c : Clause) (i : ℕ) (e d : Clause) → AreOver p q c → AreOver p q e
    → resolvent c i e ≡ Some d → AreOver p q d

abbrev pub WithoutAtomKeepsNames : Type 0
WithoutAtomKeepsNames =
    (p : List ℕ → Bool) (q : Pred → Bool) (c : Clause) (i : ℕ) → AreOver p q c → AreOver p q (without_atom c i)

-- what the rules on constraints make of a clause
abbrev pub RowRulesKeepNames : Type 0
RowRulesKeepNames =
    (p : List ℕ → Bool) (q : Pred → Bool) (c : Clause) → AreOver p q c
    → ((r : Row) → AreOver p q (with_row c r))
    × ((i : ℕ) → AreOver p q (without_row c i))
    × ((v : ℕ) → AreOver p q (projected c v))
    × ((v w : ℕ) → AreOver p q (equated c v w))

-- a clause c that is folded by a definition n
abbrev pub FoldedClauseKeepsNames : Type 0
FoldedClauseKeepsNames =
    (p : List ℕ → Bool) (q : Pred → Bool) (n c : Clause) (at with keep : List ℕ) (bs : List Binding) → AreOver p q n → AreOver p q c
    → matched_atoms n c at ≡ Some bs → AreOver p q (folded_clause n c (images n c with bs) at keep)

-- of the live clauses and the kept definitions of a start state, of the state after a step, and of that after a script
abbrev pub StartKeepsNames : Type 0
StartKeepsNames =
    (p : List ℕ → Bool) (q : Pred → Bool) (clauses : List (Option Clause)) (predicates : List Pred)
    → EachPlaced (AreOver p q) clauses → EachKept (AreOver p q) (start_state clauses predicates)

abbrev pub StepKeepsNames : Type 0
StepKeepsNames =
    (p : List ℕ → Bool) (q : Pred → Bool) (s t : State) (step : Step) → EachKept (AreOver p q) s → IsStepOver p q step
    → after s step ≡ Ok t → EachKept (AreOver p q) t

abbrev pub RunKeepsNames : Type 0
RunKeepsNames =
    (p : List ℕ → Bool) (q : Pred → Bool) (s t : State) (steps : List Step) → EachKept (AreOver p q) s → All (IsStepOver p q) steps
    → run s steps ≡ Ok t → EachKept (AreOver p q) t
