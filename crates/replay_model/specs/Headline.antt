-- The headline: what is provable from the program that is written.
use Rattle.std.specs.Prelude.{◌≡◌, ◌↔◌, ℕ, List, ◌++◌, map, Contains, Ok}
use Rattle.clause_store.specs.declared.source.SourceClause.{SourceClause}
use Rattle.clp_model.specs.Values.{GroundAtom}
use Rattle.clause_store.specs.Source.{meaning_of}
use Rattle.clp_model.specs.Proof.{Provable}
use Rattle.clp_model.specs.Predicates.{ground_predicate, predicate_of, program_predicates}
use Rattle.clp_grammar.specs.Grammar.{program}
use Rattle.clause_model.specs.Load.{Program, load}
use Rattle.map_model.specs.declared.step.Step.{Step}
use Rattle.map_model.specs.Defined.{definitions_of}
use Rattle.script_grammar.specs.Script.{script}

-- The bytes that are written read as a program whose clauses load, and in which
-- a ground atom of a predicate of the input program has a proof exactly if it has one in the input program,
-- and a ground atom of a predicate that the script defines has a proof exactly if it has one in the input
-- program with the script's definitions added. Proofs are over the source clauses as they were read.
pub record KeepsProvability (program_bytes script_bytes written : List ℕ) : Type 0 where
  pub source : List SourceClause
  pub source_is : program program_bytes ≡ Ok source
  pub steps : List Step
  pub steps_are : script script_bytes ≡ Ok steps
  pub result : List SourceClause
  pub result_is : program written ≡ Ok result
  pub loaded : Program
  pub loads : load (map meaning_of result) ≡ Ok loaded
  pub initial : (a : GroundAtom) → Contains (program_predicates (map meaning_of source)) (ground_predicate a)
      → Provable (map meaning_of result) a ↔ Provable (map meaning_of source) a
  pub defined : (a : GroundAtom) → Contains (map (λ c. predicate_of c.head) (definitions_of steps)) (ground_predicate a)
      → Provable (map meaning_of result) a ↔ Provable (map meaning_of source ++ definitions_of steps) a
