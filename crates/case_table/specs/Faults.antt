-- The words of the faults of a text, and of those of a certificate.
use Rattle.std.specs.Prelude.{◌≡◌, refl, ℕ, List, [], ◌∷◌, Some, codes}
use Rattle.case_table.specs.declared.fault_word.FaultWord.{FaultWord}
use Rattle.case_table.specs.declared.fault_word.FaultWord.TheVariants.{NotUtf8, BadToken, NumberTooLarge, NameTooLong, TooDeep, Unsupported, Unexpected, UnexpectedEnd, NotAnAtom, Reserved, NotLinear, ZeroDivisor, TooMany, NoVersion, Version, BadVariable, BadNumber, Form, Count, Negative, NotConstant, WrongSign}
use Rattle.case_table.specs.Tables.{case_among, differ}

abbrev pub fault_word : FaultWord → List ℕ
fault_word NotUtf8 = codes "not utf-8"
fault_word BadToken = codes "bad token"
fault_word NumberTooLarge = codes "number too large"
fault_word NameTooLong = codes "name too long"
fault_word TooDeep = codes "too deep"
fault_word Unsupported = codes "unsupported"
fault_word Unexpected = codes "unexpected"
fault_word UnexpectedEnd = codes "unexpected end"
fault_word NotAnAtom = codes "not an atom"
fault_word Reserved = codes "reserved"
fault_word NotLinear = codes "not linear"
fault_word ZeroDivisor = codes "zero divisor"
fault_word TooMany = codes "too many"
fault_word NoVersion = codes "no version"
fault_word Version = codes "version"
fault_word BadVariable = codes "bad variable"
fault_word BadNumber = codes "bad number"
fault_word Form = codes "form"
fault_word Count = codes "count"
fault_word Negative = codes "negative"
fault_word NotConstant = codes "not constant"
fault_word WrongSign = codes "wrong sign"

abbrev pub fault_words : List FaultWord
fault_words = NotUtf8 ∷ BadToken ∷ NumberTooLarge ∷ NameTooLong ∷ TooDeep ∷ Unsupported ∷ Unexpected ∷ UnexpectedEnd ∷ NotAnAtom ∷ Reserved ∷ NotLinear ∷ ZeroDivisor ∷ TooMany ∷ NoVersion ∷ Version ∷ BadVariable ∷ BadNumber ∷ Form ∷ Count ∷ Negative ∷ NotConstant ∷ WrongSign ∷ []

pub found_by_word : (c : FaultWord) → case_among fault_word fault_words (fault_word c) ≡ Some c
found_by_word NotUtf8 = refl
found_by_word BadToken = refl
found_by_word NumberTooLarge = refl
found_by_word NameTooLong = refl
found_by_word TooDeep = refl
found_by_word Unsupported = refl
found_by_word Unexpected = refl
found_by_word UnexpectedEnd = refl
found_by_word NotAnAtom = refl
found_by_word Reserved = refl
found_by_word NotLinear = refl
found_by_word ZeroDivisor = refl
found_by_word TooMany = refl
found_by_word NoVersion = refl
found_by_word Version = refl
found_by_word BadVariable = refl
found_by_word BadNumber = refl
found_by_word Form = refl
found_by_word Count = refl
found_by_word Negative = refl
found_by_word NotConstant = refl
found_by_word WrongSign = refl

pub fault_words_differ : (a b : FaultWord) → fault_word a ≡ fault_word b → a ≡ b
fault_words_differ = differ fault_word fault_words found_by_word
