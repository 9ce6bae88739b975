-- Certificates as a script writes them.
use Rattle.std.specs.Prelude.{ℕ, zero, suc, ℤ, pos, neg_ℤ, if◌then◌else◌, List, [], ◌∷◌, ◌++◌}
use Rattle.case_table.specs.declared.rule_word.RuleWord.TheVariants as rule
use Rattle.token_model.specs.declared.token.Lexeme.TheVariants as l
use Rattle.token_model.specs.declared.fault.Kind.TheVariants.{BadNumber}
use Rattle.token_model.specs.Remaining.{Remaining, left, sees, eat, expect, refuse}
use Rattle.token_model.specs.Parsers.{Parser, ◌>>=◌, ◌>>◌, ◌<$>◌, pure}
use Rattle.linear_model.specs.Certificates.{Part}
use Rattle.linear_model.specs.Chain.{multiplier_limit, part_of}
use Rattle.farkas_check.specs.declared.cert.Cert.{Cert}
use Rattle.farkas_check.specs.declared.cert.Cert.TheVariants.{One, Two}
use Rattle.map_model.specs.declared.shown.Shown.{Shown}
use Rattle.map_model.specs.declared.shown.Shown.TheVariants.{Find, Given}
use Rattle.map_model.specs.declared.shown.Shows.{Shows}
use Rattle.map_model.specs.declared.shown.Shows.TheVariants as shows
use Rattle.script_grammar.specs.Fields.{word, number_within, listed}

-- a multiplier, with or without a `-` before it
unfoldable pub multiplier : Parser Remaining ℤ
multiplier = do
  is_negative ← eat l.Minus
  magnitude ← number_within 0 multiplier_limit BadNumber
  pure (if is_negative then neg_ℤ (pos magnitude) else pos magnitude)

-- One or more multipliers, with commas between. The number bounds the turns, and each takes a token, so the count of
-- bytes is enough.
unfoldable pub multipliers_from : ℕ → List ℤ → Parser Remaining (List ℤ)
multipliers_from zero found = refuse
multipliers_from (suc n) found = do
  m ← multiplier
  goes_on ← eat l.Comma
  if goes_on then multipliers_from n (found ++ m ∷ []) else pure (found ++ m ∷ [])

-- the multiplier of the target, and one for each row
unfoldable pub part : Parser Remaining Part
part = do
  expect l.OpenSquare
  found ← (λ r. multipliers_from (left r) [] r)
  expect l.CloseSquare
  pure (part_of found)

-- one part, or two with a `/` between
unfoldable pub certificate : Parser Remaining Cert
certificate = do
  first ← part
  has_second ← eat l.Over
  if has_second then Two first <$> part else pure (One first)

-- `find`, or a certificate, which begins with no name
unfoldable pub shown : Parser Remaining Shown
shown = λ r. if sees l.Name r then (word rule.Find >> pure Find) r else (Given <$> certificate) r

-- `find`, or what shows each of several rows, which begins with no name
unfoldable pub all_shown : Parser Remaining Shows
all_shown = λ r. if sees l.Name r then (word rule.Find >> pure shows.Find) r else (shows.Each <$> listed shown) r
