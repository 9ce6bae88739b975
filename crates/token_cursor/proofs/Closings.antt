-- A quoted name that is read byte by byte.
use Rattle.std.proofs.Common.{◌<◌, ◌≤◌, ℕ, suc, ◌+◌, Bool, true, false, if◌then◌else◌, cond, List, [], ◌∷◌, length, arith}
use Rattle.std.specs.Prelude.{◌==◌, Option, Some, None, option_map, IfSome}
use Rattle.token_model.specs.Names.{closing, after_quote, after_backslash, is_escape, or_here}
use Rattle.token_cursor.specs.declared.quoted.Place.{Place}
use Rattle.token_cursor.specs.declared.quoted.Place.TheVariants as p

-- the end that lies so far on, or else the one that was met before
abbrev pub later : Option ℕ → ℕ → Option ℕ → Option ℕ
later last at None = last
later last at (Some n) = Some (at + n)

-- after a quote
abbrev pub past_quote : Option ℕ → ℕ → List ℕ → Option ℕ
past_quote last at [] = Some at
past_quote last at (b ∷ text) = if b == 39 then later (Some at) (suc at) (closing text) else Some at

-- after a `\`
abbrev pub past_backslash : Option ℕ → ℕ → List ℕ → Option ℕ
past_backslash last at [] = last
past_backslash last at (b ∷ text) = if is_escape b then later last (suc at) (closing text) else last

-- where the name ends, by what is left of it
abbrev pub closes : Place → Option ℕ → ℕ → List ℕ → Option ℕ
closes p.Inside last at text = later last at (closing text)
closes p.AfterQuote last at text = past_quote last at text
closes p.AfterBackslash last at text = past_backslash last at text

-- a quoted name ends within its text
abbrev pub Within : ℕ → Option ℕ → Type 0
Within most end = IfSome end (λ n. (0 < n) × (n ≤ most))

mutual
  unfolding closing after_quote after_backslash

  pub closing_within : (text : List ℕ) → Within (length text) (closing text)
  closing_within [] = tt
  closing_within (b ∷ text) = go (closing text) (closing_within text) (quote_within text) (backslash_within text) (b == 39) (b == 92) (b == 10)
    where
      go : (end : Option ℕ) → Within (length text) end → Within (suc (length text)) (after_quote text) → Within (suc (length text)) (after_backslash text)
          → (t u v : Bool) → Within (suc (length text)) (cond t (after_quote text) (cond u (after_backslash text) (cond v None (option_map suc end))))
      go end h q s true u v = q
      go end h q s false true v = s
      go end h q s false false true = tt
      go None h q s false false false = tt
      go (Some n) h q s false false false = (omega arith, omega arith)

  quote_within : (text : List ℕ) → Within (suc (length text)) (after_quote text)
  quote_within [] = (omega arith, omega arith)
  quote_within (b ∷ text) = go (b == 39) (closing text) (closing_within text)
    where
      go : (t : Bool) (end : Option ℕ) → Within (length text) end → Within (suc (suc (length text))) (cond t (or_here end) (Some 1))
      go false end h = (omega arith, omega arith)
      go true None h = (omega arith, omega arith)
      go true (Some n) h = (omega arith, omega arith)

  backslash_within : (text : List ℕ) → Within (suc (length text)) (after_backslash text)
  backslash_within [] = tt
  backslash_within (b ∷ text) = go (is_escape b) (closing text) (closing_within text)
    where
      go : (t : Bool) (end : Option ℕ) → Within (length text) end → Within (suc (suc (length text))) (cond t (option_map (λ n. suc (suc n)) end) None)
      go false end h = tt
      go true None h = tt
      go true (Some n) h = (omega arith, omega arith)
