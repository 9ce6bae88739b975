-- The words of limits.
use Rattle.std.specs.Prelude.{◌≡◌, refl, ℕ, List, [], ◌∷◌, Some, codes}
use Rattle.case_table.specs.declared.limit_word.LimitWord.{LimitWord}
use Rattle.case_table.specs.declared.limit_word.LimitWord.TheVariants.{Shape, Atoms, Variables, Rows, Clauses, Nodes, Steps, Chain}
use Rattle.case_table.specs.Tables.{case_among, differ}

abbrev pub limit_word : LimitWord → List ℕ
limit_word Shape = codes "shape"
limit_word Atoms = codes "atoms"
limit_word Variables = codes "variables"
limit_word Rows = codes "rows"
limit_word Clauses = codes "clauses"
limit_word Nodes = codes "nodes"
limit_word Steps = codes "steps"
limit_word Chain = codes "chain"

abbrev pub limit_words : List LimitWord
limit_words = Shape ∷ Atoms ∷ Variables ∷ Rows ∷ Clauses ∷ Nodes ∷ Steps ∷ Chain ∷ []

pub found_by_word : (c : LimitWord) → case_among limit_word limit_words (limit_word c) ≡ Some c
found_by_word Shape = refl
found_by_word Atoms = refl
found_by_word Variables = refl
found_by_word Rows = refl
found_by_word Clauses = refl
found_by_word Nodes = refl
found_by_word Steps = refl
found_by_word Chain = refl

pub limit_words_differ : (a b : LimitWord) → limit_word a ≡ limit_word b → a ≡ b
limit_words_differ = differ limit_word limit_words found_by_word
