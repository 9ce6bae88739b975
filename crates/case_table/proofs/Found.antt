-- What a table's contract says of a word is what the search among its cases gives.
use Rattle.std.proofs.Common.{◌≡◌, ℕ, Bool, true, false, List, [], ◌∷◌, Option, Some, None, refl, ap, ◌∙◌, sym, cond}
use Rattle.std.proofs.lemmas.Slice.Eq.{bytes_eq-Decides}
use Rattle.std.specs.Str.{bytes_eq}
use Rattle.case_table.specs.Tables.{IsCaseOf, case_among}
use Rattle.case_table.specs.declared.rule_word.RuleWord.{RuleWord}
use Rattle.case_table.specs.Rules.{rule_word, rule_words, rule_case, found_by_word}

none_among : {A : Type 0} (word : A → List ℕ) (cases : List A) (text : List ℕ) → ((c : A) → word c ≡ text → ⊥) → None ≡ case_among word cases text
none_among word [] text none = refl
none_among {A} word (c ∷ cases) text none = go (none_among word cases text none) (bytes_eq text (word c)) refl
  where
    go : None ≡ case_among word cases text → (t : Bool) → bytes_eq text (word c) ≡ t → None ≡ cond t (Some c) (case_among word cases text)
    go rest true e = absurd (none c (sym ((bytes_eq-Decides text (word c)).0 e)))
    go rest false e = rest

found_is : {A : Type 0} (word : A → List ℕ) (cases : List A) → ((c : A) → case_among word cases (word c) ≡ Some c) → (text : List ℕ) (found : Option A) → IsCaseOf word text found → found ≡ case_among word cases text
found_is word cases own text (Some c) e = sym (own c) ∙ ap (case_among word cases) e
found_is word cases own text None none = none_among word cases text none

pub rule_case_is : (text : List ℕ) (found : Option RuleWord) → IsCaseOf rule_word text found → found ≡ rule_case text
rule_case_is = found_is rule_word rule_words found_by_word
