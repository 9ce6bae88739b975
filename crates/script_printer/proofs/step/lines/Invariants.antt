use Rattle.std.proofs.Common.{◌≡◌, ◌++◌, drop, string_bytes}
use Rattle.script_grammar.specs.ScriptText.{steps_text}
use Rattle.script_printer.proofs.step.lines.Given as goal

abbrev pub invariant-loop-one : goal.invariant-loop-one
invariant-loop-one l = string_bytes l.into ++ steps_text (drop l.one-index l.steps) ≡ string_bytes l.fn.into ++ steps_text l.fn.steps
