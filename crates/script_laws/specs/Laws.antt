-- The laws of scripts: what is printed is read again, and what is read is a script.
use Rattle.std.specs.Prelude.{◌≡◌, ℕ, true, List, All, Some, Ok}
use Rattle.std.specs.Str.{is_utf8}
use Rattle.clp_model.specs.Clauses.{Clause, Row}
use Rattle.clause_model.specs.Source.{source_of}
use Rattle.clause_store.specs.Source.{meaning_of}
use Rattle.token_model.specs.Remaining.{Remaining}
use Rattle.row_grammar.specs.Row.{row_to_show}
use Rattle.map_model.specs.declared.step.Step.{Step}
use Rattle.map_model.specs.declared.step.Step.TheVariants.{Define, Fold}
use Rattle.text_laws.specs.Laws.{IsPrintable}
use Rattle.script_grammar.specs.Script.{script, line}
use Rattle.script_grammar.specs.ScriptText.{step_text, script_text, IsRow, IsInRange, IsScript}

-- ---- what is printed is read again

-- The clause of a definition is the source of a clause that can be printed, so that its variables are numbered as they are met
-- in the text; and the name of the predicate by whose definition is folded is in UTF-8. The steps of a history are such.
abbrev pub IsPrintableStep : Step → Type 0
IsPrintableStep (Define source) = (c : Clause) × IsPrintable c × (meaning_of source ≡ source_of c)
IsPrintableStep (Fold id at by with keep show) = is_utf8 by.name ≡ true
IsPrintableStep _ = Unit {0}

-- such a step whose numbers are in range is read again from its printed text
abbrev pub PrintedStepsAreReadAgain : Type 0
PrintedStepsAreReadAgain = (s : Step) → IsInRange s → IsPrintableStep s → line (step_text s) ≡ Ok (Some s)

-- and so is a script
abbrev pub PrintedScriptsAreReadAgain : Type 0
PrintedScriptsAreReadAgain = (steps : List Step) → IsScript steps → All IsPrintableStep steps → script (script_text steps) ≡ Ok steps

-- ---- what is read can be written

-- the row of a step that adds one is in normal form and in range, and its variables can be written
abbrev pub WhatIsReadIsARow : Type 0
WhatIsReadIsARow = (r s : Remaining) (row : Row) → row_to_show r ≡ Ok (row, s) → IsRow row

-- the numbers of a step are in range
abbrev pub WhatIsReadIsAStep : Type 0
WhatIsReadIsAStep = (text : List ℕ) (s : Step) → line text ≡ Ok (Some s) → IsInRange s

-- so are those of the steps of a script, which has no more than it may have
abbrev pub WhatIsReadIsAScript : Type 0
WhatIsReadIsAScript = (text : List ℕ) (steps : List Step) → script text ≡ Ok steps → IsScript steps
