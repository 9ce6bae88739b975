-- What an answer tells of a question.
use Rattle.std.specs.Prelude.{List}
use Rattle.clp_model.specs.Clauses.{Row}
use Rattle.linear_model.specs.Certificates.{Entails}
use Rattle.find_bench.specs.declared.answer.Answer.{Answer}
use Rattle.find_bench.specs.declared.answer.Answer.TheVariants.{Unasked, Shown, NotEntailed, Overflow, TooLong, NoMemory, TooManyRows}

-- only `shown` and `not entailed` tell something
abbrev pub Tells : List Row → Row → Answer → Type 0
Tells rows target Shown = Entails rows target
Tells rows target NotEntailed = ¬ Entails rows target
Tells rows target Unasked = Unit {0}
Tells rows target Overflow = Unit {0}
Tells rows target TooLong = Unit {0}
Tells rows target NoMemory = Unit {0}
Tells rows target TooManyRows = Unit {0}
