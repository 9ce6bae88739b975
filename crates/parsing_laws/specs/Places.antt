-- The places of the variables of a printed clause.
use Rattle.std.specs.Prelude.{◌≡◌, ◌<◌, ◌^◌, ℕ, nat_eq, List, [], ◌∷◌, map}
use Rattle.token_model.specs.Remaining.{Remaining}
use Rattle.clp_model.specs.Canonical.{place_in}
use Rattle.clp_model.specs.Predicates.{with_element, distinct_after}
use Rattle.clp_grammar.specs.Input.{Input}
use Rattle.print_model.specs.Terms.{variable_text}

-- the names of variables that were met
abbrev pub known : List ℕ → List (List ℕ)
known ms = map variable_text ms

-- those and further ones
abbrev pub met : List ℕ → List ℕ → List ℕ
met ms ns = distinct_after nat_eq ms ns

abbrev pub at : Remaining → List (List ℕ) → Input
at r names = record { remaining = r; names = names }

abbrev pub AreSmall : List ℕ → Type 0
AreSmall [] = Unit {0}
AreSmall (m ∷ ms) = (m < 2 ^ 64) × AreSmall ms

-- a variable that comes next, after these, has this place
pub record IsNext (place : ℕ → ℕ) (ms : List ℕ) (n : ℕ) : Type 0 where
  pub small : n < 2 ^ 64
  pub others : AreSmall ms
  pub is : place n ≡ place_in ms n

-- so has each of these that come next, after those
abbrev pub Placed : (ℕ → ℕ) → List ℕ → List ℕ → Type 0
Placed place ms [] = Unit {0}
Placed place ms (n ∷ ns) = IsNext place ms n × Placed place (with_element nat_eq ms n) ns
