-- Of the marks with which a text begins the longest is taken.
use Rattle.std.proofs.Common.{◌≡◌, ◌≤◌, ◌+◌, ℕ, Bool, true, false, ◌&&◌, cond, List, [], ◌∷◌, length, refl, inl, inr, subst, arith}
use Rattle.std.proofs.lemmas.Bool.{and_parts}
use Rattle.std.proofs.lemmas.Bool.Decides.{nat_tests}
use Rattle.std.specs.Prelude.{nat_lt}
use Rattle.token_model.specs.declared.token.Lexeme.{Lexeme}
use Rattle.token_model.specs.declared.token.Token.{Token}
use Rattle.token_model.specs.Marks.{begins_with, first_of, mark, marks}
use Rattle.token_laws.specs.Laws.{IsOneOf, LongestMarkIsTaken}

-- no mark is longer than this
abbrev up_to : ℕ → List (List ℕ × Lexeme) → Bool
up_to most [] = true
up_to most (m ∷ ms) = nat_lt (length m.0) (1 + most) && up_to most ms

-- longer ones come first
abbrev falling : List (List ℕ × Lexeme) → Bool
falling [] = true
falling (m ∷ ms) = up_to (length m.0) ms && falling ms

below : (k most : ℕ) → nat_lt k (1 + most) ≡ true → k ≤ most
below k most h = grind (arith, nat_tests)

within : (most : ℕ) (ms : List (List ℕ × Lexeme)) (m : List ℕ × Lexeme) → up_to most ms ≡ true → IsOneOf m ms → length m.0 ≤ most
within most [] m h i = absurd i
within most (n ∷ ns) m h (inl e) = rw e (below (length n.0) most (and_parts _ _ h).0)
within most (n ∷ ns) m h (inr i) = within most ns m (and_parts _ _ h).1 i

longest_of : (ms : List (List ℕ × Lexeme)) (m : List ℕ × Lexeme) (text : List ℕ) → falling ms ≡ true → IsOneOf m ms → begins_with m.0 text ≡ true → length m.0 ≤ (first_of ms text).len
longest_of [] m text f i b = absurd i
longest_of (n ∷ ns) m text f (inl e) b =
    let c : begins_with n.0 text ≡ true = subst (λ (x : List ℕ × Lexeme). begins_with x.0 text ≡ true) e b in
    rw (e, c) (omega arith)
longest_of (n ∷ ns) m text f (inr i) b = go (begins_with n.0 text) (within (length n.0) ns m (and_parts _ _ f).0 i) (longest_of ns m text (and_parts _ _ f).1 i b)
  where
    go : (t : Bool) → length m.0 ≤ length n.0 → length m.0 ≤ (first_of ns text).len → length m.0 ≤ (cond {A = Token} t (record { lexeme = n.1; len = length n.0 }) (first_of ns text)).len
    go true h k = h
    go false h k = k

pub longest : LongestMarkIsTaken
unfolding mark
longest m text i b = longest_of marks m text refl i b
