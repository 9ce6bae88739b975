-- The words of refusals.
use Rattle.std.specs.Prelude.{◌≡◌, refl, ℕ, List, [], ◌∷◌, Some, codes}
use Rattle.case_table.specs.declared.refusal_word.RefusalWord.{RefusalWord}
use Rattle.case_table.specs.declared.refusal_word.RefusalWord.TheVariants.{NoClause, NoAtom, NoRow, RepeatedPosition, NotFresh, HeadNotVariables, EmptyDefinition, RecursiveDefinition, UnknownPredicate, LooseVariable, Unmarked, NoDefinition, NoMatch, BadWith, LostVariable, Unentailed, BadMultipliers, Satisfiable, NotUseless, StillUsed, NotEqualAtoms, NotNumber, Overflow, TooLarge, NoMemory}
use Rattle.case_table.specs.Tables.{case_among, differ}

abbrev pub refusal_word : RefusalWord → List ℕ
refusal_word NoClause = codes "no clause"
refusal_word NoAtom = codes "no atom"
refusal_word NoRow = codes "no row"
refusal_word RepeatedPosition = codes "repeated position"
refusal_word NotFresh = codes "not fresh"
refusal_word HeadNotVariables = codes "head not variables"
refusal_word EmptyDefinition = codes "empty definition"
refusal_word RecursiveDefinition = codes "recursive definition"
refusal_word UnknownPredicate = codes "unknown predicate"
refusal_word LooseVariable = codes "loose variable"
refusal_word Unmarked = codes "unmarked"
refusal_word NoDefinition = codes "no definition"
refusal_word NoMatch = codes "no match"
refusal_word BadWith = codes "bad with"
refusal_word LostVariable = codes "lost variable"
refusal_word Unentailed = codes "unentailed"
refusal_word BadMultipliers = codes "bad multipliers"
refusal_word Satisfiable = codes "satisfiable"
refusal_word NotUseless = codes "not useless"
refusal_word StillUsed = codes "still used"
refusal_word NotEqualAtoms = codes "not equal atoms"
refusal_word NotNumber = codes "not number"
refusal_word Overflow = codes "overflow"
refusal_word TooLarge = codes "too large"
refusal_word NoMemory = codes "no memory"

abbrev pub refusal_words : List RefusalWord
refusal_words = NoClause ∷ NoAtom ∷ NoRow ∷ RepeatedPosition ∷ NotFresh ∷ HeadNotVariables ∷ EmptyDefinition ∷ RecursiveDefinition ∷ UnknownPredicate ∷ LooseVariable ∷ Unmarked ∷ NoDefinition ∷ NoMatch ∷ BadWith ∷ LostVariable ∷ Unentailed ∷ BadMultipliers ∷ Satisfiable ∷ NotUseless ∷ StillUsed ∷ NotEqualAtoms ∷ NotNumber ∷ Overflow ∷ TooLarge ∷ NoMemory ∷ []

pub found_by_word : (c : RefusalWord) → case_among refusal_word refusal_words (refusal_word c) ≡ Some c
found_by_word NoClause = refl
found_by_word NoAtom = refl
found_by_word NoRow = refl
found_by_word RepeatedPosition = refl
found_by_word NotFresh = refl
found_by_word HeadNotVariables = refl
found_by_word EmptyDefinition = refl
found_by_word RecursiveDefinition = refl
found_by_word UnknownPredicate = refl
found_by_word LooseVariable = refl
found_by_word Unmarked = refl
found_by_word NoDefinition = refl
found_by_word NoMatch = refl
found_by_word BadWith = refl
found_by_word LostVariable = refl
found_by_word Unentailed = refl
found_by_word BadMultipliers = refl
found_by_word Satisfiable = refl
found_by_word NotUseless = refl
found_by_word StillUsed = refl
found_by_word NotEqualAtoms = refl
found_by_word NotNumber = refl
found_by_word Overflow = refl
found_by_word TooLarge = refl
found_by_word NoMemory = refl

pub refusal_words_differ : (a b : RefusalWord) → refusal_word a ≡ refusal_word b → a ≡ b
refusal_words_differ = differ refusal_word refusal_words found_by_word
