-- The laws of the names of clauses and steps that are read.
use Rattle.std.specs.Prelude.{◌≡◌, ◌<◌, ◌^◌, ℕ, Bool, true, List, ◌∷◌, length, All, Ok}
use Rattle.std.specs.Str.{is_utf8}
use Rattle.clp_model.specs.declared.predicate.Pred.{Pred}
use Rattle.clause_store.specs.declared.source.SourceClause.{SourceClause}
use Rattle.clause_store.specs.Source.{meaning_of}
use Rattle.standing_model.specs.Names.{is_short, is_ordinary}
use Rattle.linear_model.specs.Normal.{IsNormal}
use Rattle.name_laws.specs.Names.{HasNames, AreOver, EquationsHaveNames, IsStepOver}
use Rattle.clp_grammar.specs.Grammar.{program}
use Rattle.grammar_laws.specs.Read.{IsReadClause}
use Rattle.map_model.specs.declared.step.Step.{Step}
use Rattle.map_model.specs.FormedSteps.{IsFormedStep}
use Rattle.script_grammar.specs.Script.{script}
use Rattle.read_name_laws.specs.Steps.{IsStepOf}

-- each name in the head, the atoms and the equations is in UTF-8
pub record HasTextNames (c : SourceClause) : Type 0 where
  pub atoms : All (HasNames is_utf8) (c.head ∷ c.atoms)
  pub equations : EquationsHaveNames is_utf8 (meaning_of c)

abbrev pub ReadProgramsHaveTextNames : Type 0
ReadProgramsHaveTextNames = (text : List ℕ) (cs : List SourceClause) → program text ≡ Ok cs → All HasTextNames cs

-- the clauses of definitions, and the predicates by whose definitions is folded
abbrev pub ReadScriptsHaveTextNames : Type 0
ReadScriptsHaveTextNames =
    (text : List ℕ) (steps : List Step) → script text ≡ Ok steps → All (IsStepOf HasTextNames (λ _. Unit {0}) (λ name. is_utf8 name ≡ true)) steps

-- what names and predicates a clause has, once it is known that its names are in UTF-8
abbrev pub TextNamesAreOver : Type 0
TextNamesAreOver = (p : List ℕ → Bool) (q : Pred → Bool) (c : SourceClause) → HasTextNames c → AreOver p q (meaning_of c) → AreOver is_utf8 q (meaning_of c)

-- the clauses of definitions are such as are read in programs, and the rows that are added are in normal form
abbrev pub ReadStepsHaveKeptParts : Type 0
ReadStepsHaveKeptParts =
    (text : List ℕ) (steps : List Step) → length text < 2 ^ 32 → script text ≡ Ok steps
    → All (IsStepOf IsReadClause IsNormal (λ _. Unit {0})) steps

-- and so the steps are formed
abbrev pub ReadStepsAreFormed : Type 0
ReadStepsAreFormed = (text : List ℕ) (steps : List Step) → length text < 2 ^ 32 → script text ≡ Ok steps → All IsFormedStep steps

-- and their names and predicates are such as may be written
abbrev pub ReadStepsAreOver : Type 0
ReadStepsAreOver =
    (text : List ℕ) (steps : List Step) → length text < 2 ^ 32 → script text ≡ Ok steps
    → All (IsStepOver is_short is_ordinary) steps × All (IsStepOver is_utf8 is_ordinary) steps
