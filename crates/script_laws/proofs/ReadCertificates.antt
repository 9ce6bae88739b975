-- Certificates that are read are in range.
use Rattle.std.proofs.Common.{◌≡◌, ℕ, zero, suc, ◌≤◌, Bool, true, false, List, [], ◌∷◌, ◌++◌, refl, arith, ℤ, pos}
use Rattle.std.proofs.lemmas.Bool.{and_parts}
use Rattle.std.proofs.lemmas.Bool.Decides.{nat_tests}
use Rattle.std.specs.Prelude.{nat_le, unsigned_abs, neg_ℤ, if◌then◌else◌}
use Rattle.token_model.specs.declared.token.Lexeme.TheVariants as l
use Rattle.token_model.specs.declared.fault.Kind.TheVariants.{BadNumber}
use Rattle.token_model.specs.Remaining.{left, sees, eat, expect}
use Rattle.token_model.specs.Parsers.{◌>>=◌, ◌>>◌, ◌<$>◌, pure}
use Rattle.linear_model.specs.Certificates.{Part}
use Rattle.linear_model.specs.Chain.{multiplier_limit, part_of, weights_within}
use Rattle.farkas_check.specs.declared.cert.Cert.TheVariants.{One, Two}
use Rattle.farkas_check.specs.Parts.{part_within}
use Rattle.map_model.specs.declared.shown.Shown.TheVariants.{Find, Given}
use Rattle.case_table.specs.declared.rule_word.RuleWord.TheVariants as rule
use Rattle.script_grammar.specs.Fields.{word, number_within}
use Rattle.script_grammar.specs.Certificates as grammar
use Rattle.script_grammar.specs.Certificates.{multiplier, multipliers_from}
use Rattle.script_grammar.specs.ScriptText.{IsCertificate, IsShown}
use Rattle.script_laws.proofs.Outcomes.{Gives, gives_then, gives_this, gives_any, gives_either, gives_within}

-- ---- multipliers

IsMultiplier : ℤ → Type 0
IsMultiplier z = nat_le (unsigned_abs z) multiplier_limit ≡ true

AreMultipliers : List ℤ → Type 0
AreMultipliers ms = weights_within ms ≡ true

true_if : (a b : ℕ) → a ≤ b → nat_le a b ≡ true
true_if a b h = grind (arith, nat_tests)

signed_within : (is_negative : Bool) (n : ℕ) → n ≤ multiplier_limit → IsMultiplier (if is_negative then neg_ℤ (pos n) else pos n)
unfolding IsMultiplier
signed_within false n h = true_if n multiplier_limit h
signed_within true zero h = refl
signed_within true (suc n) h = true_if (suc n) multiplier_limit h

gives_multiplier : Gives IsMultiplier multiplier
unfolding multiplier
gives_multiplier =
    gives_then (λ is_negative. number_within 0 multiplier_limit BadNumber >>= (λ n. pure (if is_negative then neg_ℤ (pos n) else pos n))) (gives_any (eat l.Minus))
    (λ is_negative _. gives_then _ (gives_within 0 multiplier_limit BadNumber) (λ n h. gives_this (if is_negative then neg_ℤ (pos n) else pos n) (signed_within is_negative n h.1)))

one_more : (ms : List ℤ) (m : ℤ) → AreMultipliers ms → IsMultiplier m → AreMultipliers (ms ++ m ∷ [])
unfolding AreMultipliers IsMultiplier
one_more [] m h g = rw g refl
one_more (k ∷ ms) m h g =
    let both = and_parts (nat_le (unsigned_abs k) multiplier_limit) (weights_within ms) h in
    rw both.0 (one_more ms m both.1 g)

further_or_not : (n : ℕ) (found : List ℤ) (goes_on : Bool) → AreMultipliers found → Gives AreMultipliers (multipliers_from n found) → Gives AreMultipliers (if goes_on then multipliers_from n found else pure found)
further_or_not n found true h k = k
further_or_not n found false h k = gives_this found h

gives_multipliers : (turns : ℕ) (found : List ℤ) → AreMultipliers found → Gives AreMultipliers (multipliers_from turns found)
unfolding multipliers_from
gives_multipliers zero found h = record { is = λ r. tt }
gives_multipliers (suc n) found h =
    gives_then _ gives_multiplier
    (λ m g. gives_then (λ goes_on. if goes_on then multipliers_from n (found ++ m ∷ []) else pure (found ++ m ∷ [])) (gives_any (eat l.Comma)) (λ goes_on _. let k = one_more found m h g in further_or_not n (found ++ m ∷ []) goes_on k (gives_multipliers n (found ++ m ∷ []) k)))

-- ---- parts and certificates

IsPart : Part → Type 0
IsPart p = part_within p ≡ true

within_of : (ms : List ℤ) → AreMultipliers ms → IsPart (part_of ms)
unfolding AreMultipliers IsPart
within_of [] h = refl
within_of (k ∷ ms) h = h

gives_part : Gives IsPart grammar.part
unfolding grammar.part AreMultipliers
gives_part =
    gives_then _ (gives_any (expect l.OpenSquare))
    (λ _ _. gives_then _ (record { is = λ r. (gives_multipliers (left r) [] refl).is r })
    (λ found h. gives_then _ (gives_any (expect l.CloseSquare)) (λ _ _. gives_this (part_of found) (within_of found h))))

gives_certificate : Gives IsCertificate grammar.certificate
unfolding grammar.certificate IsPart
gives_certificate =
    gives_then _ gives_part
    (λ first h. gives_then (λ has_second. if has_second then Two first <$> grammar.part else pure (One first)) (gives_any (eat l.Over)) (λ has_second _. by first h has_second))
  where
    by : (first : Part) → IsPart first → (has_second : Bool) → Gives IsCertificate (if has_second then Two first <$> grammar.part else pure (One first))
    by first h true = gives_then _ gives_part (λ second g. gives_this (Two first second) (h, g))
    by first h false = gives_this (One first) h

pub gives_shown : Gives IsShown grammar.shown
unfolding grammar.shown
gives_shown =
    gives_either (sees l.Name) (word rule.Find >> pure Find) (Given <$> grammar.certificate)
    (gives_then _ (gives_any (word rule.Find)) (λ _ _. gives_this Find tt)) (gives_then _ gives_certificate (λ c h. gives_this (Given c) h))
