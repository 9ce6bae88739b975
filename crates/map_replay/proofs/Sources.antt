-- The clauses of definitions that are read may be loaded.
use Rattle.std.proofs.Common.{◌≡◌, ◌<◌, ◌^◌, List, length, ℕ}
use Rattle.std.proofs.lemmas.List.Elements.{All-weaker}
use Rattle.std.specs.Prelude.{All, Ok}
use Rattle.linear_model.specs.Normal.{IsNormal}
use Rattle.grammar_laws.specs.Read.{IsReadClause}
use Rattle.read_name_laws.specs.Steps.{IsStepOf}
use Rattle.read_name_laws.proofs.Steps.{parts}
use Rattle.map_model.specs.declared.step.Step.{Step}
use Rattle.map_model.specs.declared.step.Step.TheVariants.{Define}
use Rattle.script_grammar.specs.Script.{script}
use Rattle.map_replay.specs.Sources.{HasFormedSource}

abbrev IsRead : Step → Type 0
IsRead = IsStepOf IsReadClause IsNormal (λ _. Unit {0})

source_formed : (s : Step) → IsRead s → HasFormedSource s
source_formed (Define source) h = h.formed
source_formed _ h = tt

pub sources_formed : (text : List ℕ) (steps : List Step) → length text < 2 ^ 32 → script text ≡ Ok steps → All HasFormedSource steps
sources_formed text steps short e = All-weaker IsRead HasFormedSource source_formed steps (parts text steps short e)
