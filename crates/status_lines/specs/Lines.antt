-- The lines that say why there is no program to write.
use Rattle.std.specs.Prelude.{ℕ, List, [], ◌++◌, codes, decimal}
use Rattle.clp_model.specs.declared.limit.Limit.{Limit}
use Rattle.case_table.specs.declared.refusal_word.RefusalWord.TheVariants as word
use Rattle.case_table.specs.Refusals.{refusal_word}
use Rattle.map_model.specs.declared.refusal.Refusal.{Refusal}
use Rattle.map_base.specs.Refusals.{limit_text, refusal_line}
use Rattle.text_fault.specs.declared.fault.TextFault.{TextFault}
use Rattle.text_fault.specs.Words.{kind_word}
use Rattle.clause_loader.specs.declared.program.LoadFault.{LoadFault}
use Rattle.clause_loader.specs.declared.program.LoadFault.TheVariants as load_fault
use Rattle.replay_model.specs.declared.replay_fault.ReplayFault.{ReplayFault}
use Rattle.replay_model.specs.declared.replay_fault.ReplayFault.TheVariants as fault

-- how many bytes a program and a script may have
abbrev pub max_program : ℕ
max_program = 1048576

abbrev pub max_script : ℕ
max_script = 16777216

-- a program, or a script, has more bytes than it may have
unfoldable pub long_program_line : List ℕ
long_program_line = codes "bad program: longer than " ++ decimal max_program ++ codes " bytes\n"

unfoldable pub long_script_line : List ℕ
long_script_line = codes "bad script: longer than " ++ decimal max_script ++ codes " bytes\n"

-- after this beginning, the place of a fault, from 0, and its words
abbrev pub text_line : List ℕ → TextFault → List ℕ
text_line beginning f = beginning ++ codes "byte " ++ decimal f.at ++ codes ": " ++ kind_word f.kind ++ codes "\n"

-- a row of this clause, counted from 1, is out of range
abbrev pub overflow_line : ℕ → List ℕ
overflow_line clause = codes "bad program: clause " ++ decimal clause ++ codes ": " ++ refusal_word word.Overflow ++ codes "\n"

-- this clause, counted from 1, is past a limit
abbrev pub too_large_line : ℕ → Limit → List ℕ
too_large_line clause limit = codes "bad program: clause " ++ decimal clause ++ codes ": " ++ refusal_word word.TooLarge ++ codes " " ++ limit_text limit ++ codes "\n"

-- the step of this number is refused
abbrev pub refused_line : ℕ → Refusal → List ℕ
refused_line number refusal = codes "refused: step " ++ decimal number ++ codes ": " ++ refusal_line refusal ++ codes "\n"

-- why a program was not loaded; want of memory has no line
abbrev pub load_line : LoadFault → List ℕ
load_line (load_fault.Overflow clause) = overflow_line clause
load_line (load_fault.TooLarge clause limit) = too_large_line clause limit
load_line load_fault.NoMemory = []

-- why a script was not applied to a program; want of memory has no line
abbrev pub fault_line : ReplayFault → List ℕ
fault_line (fault.Program f) = text_line (codes "bad program: ") f
fault_line (fault.Load f) = load_line f
fault_line (fault.Script f) = text_line (codes "bad script: ") f
fault_line (fault.Refused number refusal) = refused_line number refusal
fault_line fault.NoMemory = []
