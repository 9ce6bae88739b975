-- The words of the steps of a script.
use Rattle.std.specs.Prelude.{◌≡◌, refl, ℕ, List, [], ◌∷◌, Option, Some, codes}
use Rattle.case_table.specs.declared.rule_word.RuleWord.{RuleWord}
use Rattle.case_table.specs.declared.rule_word.RuleWord.TheVariants.{Define, Unfold, At, Fold, By, With, Keep, Show, Delete, False, Useless, Merge, Add, Row, Drop, Project, Var, Equate, To, Find}
use Rattle.case_table.specs.Tables.{case_among, differ}

abbrev pub rule_word : RuleWord → List ℕ
rule_word Define = codes "define"
rule_word Unfold = codes "unfold"
rule_word At = codes "at"
rule_word Fold = codes "fold"
rule_word By = codes "by"
rule_word With = codes "with"
rule_word Keep = codes "keep"
rule_word Show = codes "show"
rule_word Delete = codes "delete"
rule_word False = codes "false"
rule_word Useless = codes "useless"
rule_word Merge = codes "merge"
rule_word Add = codes "add"
rule_word Row = codes "row"
rule_word Drop = codes "drop"
rule_word Project = codes "project"
rule_word Var = codes "var"
rule_word Equate = codes "equate"
rule_word To = codes "to"
rule_word Find = codes "find"

abbrev pub rule_words : List RuleWord
rule_words = Define ∷ Unfold ∷ At ∷ Fold ∷ By ∷ With ∷ Keep ∷ Show ∷ Delete ∷ False ∷ Useless ∷ Merge ∷ Add ∷ Row ∷ Drop ∷ Project ∷ Var ∷ Equate ∷ To ∷ Find ∷ []

-- the case that has this word, if one has
abbrev pub rule_case : List ℕ → Option RuleWord
rule_case = case_among rule_word rule_words

pub found_by_word : (c : RuleWord) → rule_case (rule_word c) ≡ Some c
found_by_word Define = refl
found_by_word Unfold = refl
found_by_word At = refl
found_by_word Fold = refl
found_by_word By = refl
found_by_word With = refl
found_by_word Keep = refl
found_by_word Show = refl
found_by_word Delete = refl
found_by_word False = refl
found_by_word Useless = refl
found_by_word Merge = refl
found_by_word Add = refl
found_by_word Row = refl
found_by_word Drop = refl
found_by_word Project = refl
found_by_word Var = refl
found_by_word Equate = refl
found_by_word To = refl
found_by_word Find = refl

pub rule_words_differ : (a b : RuleWord) → rule_word a ≡ rule_word b → a ≡ b
rule_words_differ = differ rule_word rule_words found_by_word
