-- The marks of relations.
use Rattle.std.specs.Prelude.{◌≡◌, refl, ℕ, List, [], ◌∷◌, Some, codes}
use Rattle.case_table.specs.declared.relation_word.RelationWord.{RelationWord}
use Rattle.case_table.specs.declared.relation_word.RelationWord.TheVariants.{Equal, NumberEqual, AtMost, Less, AtLeast, Greater}
use Rattle.case_table.specs.Tables.{case_among, differ}

abbrev pub relation_word : RelationWord → List ℕ
relation_word Equal = codes "="
relation_word NumberEqual = codes "=:="
relation_word AtMost = codes "=<"
relation_word Less = codes "<"
relation_word AtLeast = codes ">="
relation_word Greater = codes ">"

abbrev pub relation_words : List RelationWord
relation_words = Equal ∷ NumberEqual ∷ AtMost ∷ Less ∷ AtLeast ∷ Greater ∷ []

pub found_by_word : (c : RelationWord) → case_among relation_word relation_words (relation_word c) ≡ Some c
found_by_word Equal = refl
found_by_word NumberEqual = refl
found_by_word AtMost = refl
found_by_word Less = refl
found_by_word AtLeast = refl
found_by_word Greater = refl

pub relation_words_differ : (a b : RelationWord) → relation_word a ≡ relation_word b → a ≡ b
relation_words_differ = differ relation_word relation_words found_by_word
