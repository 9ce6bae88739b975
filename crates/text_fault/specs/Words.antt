-- The words of faults.
use Rattle.std.specs.Prelude.{ℕ, List}
use Rattle.token_model.specs.declared.fault.Kind.{Kind}
use Rattle.token_model.specs.declared.fault.Kind.TheVariants as kind
use Rattle.case_table.specs.declared.fault_word.FaultWord.{FaultWord}
use Rattle.case_table.specs.declared.fault_word.FaultWord.TheVariants as word
use Rattle.case_table.specs.Faults.{fault_word}

-- a kind of fault as a case of the table of their words
abbrev pub kind_case : Kind → FaultWord
kind_case kind.NotUtf8 = word.NotUtf8
kind_case kind.BadToken = word.BadToken
kind_case kind.NumberTooLarge = word.NumberTooLarge
kind_case kind.NameTooLong = word.NameTooLong
kind_case kind.TooDeep = word.TooDeep
kind_case kind.Unsupported = word.Unsupported
kind_case kind.Unexpected = word.Unexpected
kind_case kind.UnexpectedEnd = word.UnexpectedEnd
kind_case kind.NotAnAtom = word.NotAnAtom
kind_case kind.Reserved = word.Reserved
kind_case kind.NotLinear = word.NotLinear
kind_case kind.ZeroDivisor = word.ZeroDivisor
kind_case kind.TooMany = word.TooMany
kind_case kind.NoVersion = word.NoVersion
kind_case kind.Version = word.Version
kind_case kind.BadVariable = word.BadVariable
kind_case kind.BadNumber = word.BadNumber

-- its words
abbrev pub kind_word : Kind → List ℕ
kind_word k = fault_word (kind_case k)
