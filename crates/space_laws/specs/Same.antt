-- Texts of the same tokens.
use Rattle.std.specs.Prelude.{◌≡◌, ◌<◌, ◌++◌, ℕ, zero, suc, List, Result, Ok, Err}
use Rattle.token_model.specs.Remaining.{Remaining, next_token, lexeme, spelling, next, left}
use Rattle.token_model.specs.declared.fault.Fault.{Fault}
use Rattle.token_model.specs.Parsers.{Outcome}
use Rattle.token_model.specs.White.{skipped}
use Rattle.space_laws.specs.Moved.{moved_fault}

-- what remains behind so many tokens
abbrev pub behind : ℕ → Remaining → Remaining
behind zero r = r
behind (suc n) r = behind n (next r)

-- the same token comes next
pub record SameToken (r s : Remaining) : Type 0 where
  pub lexeme : lexeme r ≡ lexeme s
  pub spelling : spelling r ≡ spelling s

-- the tokens are the same, one after another
abbrev pub SameTokens : Remaining → Remaining → Type 0
SameTokens r s = (n : ℕ) → SameToken (behind n r) (behind n s)

-- the place of each token in the first text goes to the place of the same token in the second
abbrev pub SendsPlaces : (ℕ → ℕ) → Remaining → Remaining → Type 0
SendsPlaces to r s = (n : ℕ) → to (left (behind n r)) ≡ left (behind n s)

-- the same tokens stand at these places
pub record Matches (to : ℕ → ℕ) (r s : Remaining) : Type 0 where
  pub tokens : SameTokens r s
  pub places : SendsPlaces to r s

-- the same was read, and texts of the same tokens remain; or the same fault was met
abbrev pub ReadsAlike : {A : Type 0} → (ℕ → ℕ) → Outcome Remaining A → Outcome Remaining A → Type 0
ReadsAlike to (Ok p) (Ok q) = (q.0 ≡ p.0) × Matches to p.1 q.1
ReadsAlike to (Err e) (Err f) = f ≡ moved_fault to e
ReadsAlike to (Ok p) (Err f) = ⊥
ReadsAlike to (Err e) (Ok q) = ⊥

-- ---- faults

-- a fault of the same kind at the same token
pub record IsSameFault (r s : Remaining) (e f : Fault) : Type 0 where
  pub kind : e.kind ≡ f.kind
  -- of each text the token behind so many others
  pub place : (n : ℕ) × (e.left ≡ left (behind n r)) × (f.left ≡ left (behind n s))

-- the same value, or the same fault
abbrev pub SameResult : {A : Type 0} → Remaining → Remaining → Result A Fault → Result A Fault → Type 0
SameResult r s (Ok a) (Ok b) = a ≡ b
SameResult r s (Err e) (Err f) = IsSameFault r s e f
SameResult r s (Ok a) (Err f) = ⊥
SameResult r s (Err e) (Ok b) = ⊥

-- ---- white and comments

-- it is passed over: white, or whole comments
abbrev pub IsSpace : List ℕ → Type 0
IsSpace space = (text : List ℕ) → skipped (space ++ text) ≡ skipped text

-- The second text is the first with this put in behind so many tokens, and none of these and not the next one is
-- another token there.
pub record IsPutIn (space : List ℕ) (n : ℕ) (r s : Remaining) : Type 0 where
  pub before : (k : ℕ) → k < n → SameToken (behind k r) (behind k s)
  pub here : (behind n s).text ≡ space ++ (behind n r).text
  pub token : next_token (behind n r) ≡ next_token (behind n s)
