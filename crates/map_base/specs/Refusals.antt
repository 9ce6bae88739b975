-- The text of a refusal.
use Rattle.std.specs.Prelude.{ℕ, List, [], ◌++◌, codes, decimal}
use Rattle.clp_model.specs.declared.limit.Limit.{Limit}
use Rattle.clp_model.specs.declared.limit.Limit.TheVariants.{Shape, Atoms, Variables, Rows, Clauses, Nodes, Steps, Chain}
use Rattle.clp_model.specs.declared.predicate.Pred.{Pred}
use Rattle.clause_store.specs.Names.{name_text}
use Rattle.farkas_check.specs.declared.fault.CheckFault.{CheckFault}
use Rattle.farkas_check.specs.declared.fault.CheckFault.TheVariants.{Form, Count, Negative, NotConstant, WrongSign}
use Rattle.case_table.specs.declared.limit_word.LimitWord.{LimitWord}
use Rattle.case_table.specs.declared.limit_word.LimitWord.TheVariants as limit
use Rattle.case_table.specs.declared.fault_word.FaultWord.{FaultWord}
use Rattle.case_table.specs.declared.fault_word.FaultWord.TheVariants as check
use Rattle.case_table.specs.declared.refusal_word.RefusalWord.{RefusalWord}
use Rattle.case_table.specs.declared.refusal_word.RefusalWord.TheVariants as word
use Rattle.case_table.specs.Limits.{limit_word}
use Rattle.case_table.specs.Faults.{fault_word}
use Rattle.case_table.specs.Refusals.{refusal_word}
use Rattle.map_model.specs.declared.refusal.Refusal.{Refusal}
use Rattle.map_model.specs.declared.refusal.Refusal.TheVariants.{NoClause, NoAtom, NoRow, RepeatedPosition, NotFresh, HeadNotVariables, EmptyDefinition, RecursiveDefinition, UnknownPredicate, LooseVariable, Unmarked, NoDefinition, NoMatch, BadWith, LostVariable, Unentailed, BadMultipliers, Satisfiable, StillUsed, NotEqualAtoms, NotNumber, Overflow, TooLarge, NoMemory}

-- a limit as a case of the table of their words
abbrev pub limit_case : Limit → LimitWord
limit_case Shape = limit.Shape
limit_case Atoms = limit.Atoms
limit_case Variables = limit.Variables
limit_case Rows = limit.Rows
limit_case Clauses = limit.Clauses
limit_case Nodes = limit.Nodes
limit_case Steps = limit.Steps
limit_case Chain = limit.Chain

-- the word of a limit
abbrev pub limit_text : Limit → List ℕ
limit_text l = limit_word (limit_case l)

-- a fault of a certificate as a case of the table of the words of faults
abbrev pub check_case : CheckFault → FaultWord
check_case Form = check.Form
check_case Count = check.Count
check_case Negative = check.Negative
check_case NotConstant = check.NotConstant
check_case WrongSign = check.WrongSign

-- the number that the line begins with
abbrev pub refusal_number : Refusal → ℕ
refusal_number (NoClause id) = 1
refusal_number (NoAtom position) = 2
refusal_number (NoRow position) = 3
refusal_number (RepeatedPosition position) = 4
refusal_number (NotFresh p) = 5
refusal_number (HeadNotVariables argument) = 6
refusal_number EmptyDefinition = 7
refusal_number (RecursiveDefinition p) = 8
refusal_number (UnknownPredicate p) = 9
refusal_number (LooseVariable variable) = 10
refusal_number (Unmarked id) = 11
refusal_number (NoDefinition p) = 12
refusal_number NoMatch = 13
refusal_number (BadWith place) = 14
refusal_number (LostVariable variable) = 15
refusal_number (Unentailed place) = 16
refusal_number (BadMultipliers place fault) = 17
refusal_number Satisfiable = 18
refusal_number (StillUsed variable) = 20
refusal_number (NotEqualAtoms first second) = 21
refusal_number (NotNumber variable) = 22
refusal_number (Overflow place) = 23
refusal_number (TooLarge limit) = 24
refusal_number NoMemory = 25

-- a refusal without its fields
abbrev pub refusal_case : Refusal → RefusalWord
refusal_case (NoClause id) = word.NoClause
refusal_case (NoAtom position) = word.NoAtom
refusal_case (NoRow position) = word.NoRow
refusal_case (RepeatedPosition position) = word.RepeatedPosition
refusal_case (NotFresh p) = word.NotFresh
refusal_case (HeadNotVariables argument) = word.HeadNotVariables
refusal_case EmptyDefinition = word.EmptyDefinition
refusal_case (RecursiveDefinition p) = word.RecursiveDefinition
refusal_case (UnknownPredicate p) = word.UnknownPredicate
refusal_case (LooseVariable variable) = word.LooseVariable
refusal_case (Unmarked id) = word.Unmarked
refusal_case (NoDefinition p) = word.NoDefinition
refusal_case NoMatch = word.NoMatch
refusal_case (BadWith place) = word.BadWith
refusal_case (LostVariable variable) = word.LostVariable
refusal_case (Unentailed place) = word.Unentailed
refusal_case (BadMultipliers place fault) = word.BadMultipliers
refusal_case Satisfiable = word.Satisfiable
refusal_case (StillUsed variable) = word.StillUsed
refusal_case (NotEqualAtoms first second) = word.NotEqualAtoms
refusal_case (NotNumber variable) = word.NotNumber
refusal_case (Overflow place) = word.Overflow
refusal_case (TooLarge limit) = word.TooLarge
refusal_case NoMemory = word.NoMemory

-- a predicate: its name, as it is printed, and how many arguments it has
abbrev pub pred_text : Pred → List ℕ
pred_text p = name_text p.name ++ codes "/" ++ decimal p.arity

-- the fields, each after a space
abbrev pub refusal_fields : Refusal → List ℕ
refusal_fields (NoClause id) = codes " " ++ decimal id
refusal_fields (NoAtom position) = codes " " ++ decimal position
refusal_fields (NoRow position) = codes " " ++ decimal position
refusal_fields (RepeatedPosition position) = codes " " ++ decimal position
refusal_fields (NotFresh p) = codes " " ++ pred_text p
refusal_fields (HeadNotVariables argument) = codes " " ++ decimal argument
refusal_fields EmptyDefinition = []
refusal_fields (RecursiveDefinition p) = codes " " ++ pred_text p
refusal_fields (UnknownPredicate p) = codes " " ++ pred_text p
refusal_fields (LooseVariable variable) = codes " " ++ decimal variable
refusal_fields (Unmarked id) = codes " " ++ decimal id
refusal_fields (NoDefinition p) = codes " " ++ pred_text p
refusal_fields NoMatch = []
refusal_fields (BadWith place) = codes " " ++ decimal place
refusal_fields (LostVariable variable) = codes " " ++ decimal variable
refusal_fields (Unentailed place) = codes " " ++ decimal place
refusal_fields (BadMultipliers place fault) = codes " " ++ decimal place ++ codes " " ++ fault_word (check_case fault)
refusal_fields Satisfiable = []
refusal_fields (StillUsed variable) = codes " " ++ decimal variable
refusal_fields (NotEqualAtoms first second) = codes " " ++ decimal first ++ codes " " ++ decimal second
refusal_fields (NotNumber variable) = codes " " ++ decimal variable
refusal_fields (Overflow place) = codes " " ++ decimal place
refusal_fields (TooLarge limit) = codes " " ++ limit_text limit
refusal_fields NoMemory = []

-- number, words and fields
abbrev pub refusal_line : Refusal → List ℕ
refusal_line r = decimal (refusal_number r) ++ codes " " ++ refusal_word (refusal_case r) ++ refusal_fields r
