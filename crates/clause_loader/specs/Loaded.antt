-- What a loaded program stands for.
use Rattle.std.specs.Prelude.{◌≡◌, ℕ, List, [], ◌∷◌, map, Option, Some, None, option_map, Result, Err}
use Rattle.clp_model.specs.declared.tree.Variable.{Variable}
use Rattle.clp_model.specs.declared.tree.Tree.{Tree}
use Rattle.clp_model.specs.Clauses.{Clause as Meaning}
use Rattle.clause_model.specs.Canonical.{Overflow, TooLarge}
use Rattle.clause_model.specs.Load.{Program, Refused, loaded_after}
use Rattle.clause_store.specs.declared.clause.Clause.{Clause}
use Rattle.clause_store.specs.Stored.{clause_in, IsStored}
use Rattle.clause_loader.specs.declared.program.Loaded.{Loaded}
use Rattle.clause_loader.specs.declared.program.LoadFault.{LoadFault}
use Rattle.clause_loader.specs.declared.program.LoadFault.TheVariants as fault

-- the clause at a place, if it has one
abbrev pub place_in : List (Tree Variable) → Option Clause → Option Meaning
place_in store o = option_map (clause_in store) o

abbrev pub clauses_in : List (Tree Variable) → List (Option Clause) → List (Option Meaning)
clauses_in store clauses = map (place_in store) clauses

-- the program that was loaded
abbrev pub program_of : Loaded → Program
program_of l = record { clauses = clauses_in l.store l.clauses.items; predicates = l.preds }

-- a place is empty, or its clause is stored
abbrev pub IsStoredPlace : List (Tree Variable) → Option Clause → Type 0
IsStoredPlace store None = Unit {0}
IsStoredPlace store (Some c) = IsStored store c

-- each clause is stored
abbrev pub AreStored : List (Tree Variable) → List (Option Clause) → Type 0
AreStored store [] = Unit {0}
AreStored store (o ∷ cs) = IsStoredPlace store o × AreStored store cs

-- the outcome is the fault's refusal of the fault's clause
abbrev pub IsStopped : {A : Type 0} → Result A Refused → LoadFault → Type 0
IsStopped outcome (fault.Overflow clause) = outcome ≡ Err (clause, Overflow)
IsStopped outcome (fault.TooLarge clause limit) = outcome ≡ Err (clause, TooLarge limit)
IsStopped outcome fault.NoMemory = Unit {0}

-- loading that comes to this clause stops there
abbrev pub StopsAt : ℕ → ℕ → Meaning → LoadFault → Type 0
StopsAt place nodes c f = (found : List (Option Meaning)) (rest : List Meaning) → IsStopped (loaded_after place found nodes (c ∷ rest)) f
