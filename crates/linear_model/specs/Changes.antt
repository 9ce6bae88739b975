-- A row with its variables renamed, its negation, and the row of the opposite sum.
use Rattle.std.specs.Prelude.{ℕ, ℤ, pos, neg_ℤ, List, [], ◌∷◌}
use Rattle.clp_model.specs.Clauses.{Row}
use Rattle.clp_model.specs.declared.sort.Rel.{Rel}
use Rattle.clp_model.specs.declared.sort.Rel.TheVariants.{Eq, Le, Lt}
use Rattle.linear_model.specs.Forms.{combined}

-- each variable by its new number, and the coefficients of variables that become one added
abbrev pub renamed_pairs : (ℕ → ℕ) → List (ℕ × ℤ) → List (ℕ × ℤ)
renamed_pairs f [] = []
renamed_pairs f (p ∷ ps) = combined (pos 1) ((f p.0, p.1) ∷ []) (pos 1) (renamed_pairs f ps)

-- before it is divided
abbrev pub renamed : (ℕ → ℕ) → Row → Row
renamed f r = record { rel = r.rel; pairs = renamed_pairs f r.pairs; constant = r.constant }

abbrev pub opposite_pairs : List (ℕ × ℤ) → List (ℕ × ℤ)
opposite_pairs [] = []
opposite_pairs (p ∷ ps) = (p.0, neg_ℤ p.1) ∷ opposite_pairs ps

-- the opposite sum under the same relation
abbrev pub flipped : Row → Row
flipped r = record { rel = r.rel; pairs = opposite_pairs r.pairs; constant = neg_ℤ r.constant }

abbrev pub opposite_rel : Rel → Rel
opposite_rel Eq = Eq
opposite_rel Le = Lt
opposite_rel Lt = Le

-- the negation of an inequality: that of `L =< 0` is `-L < 0`, that of `L < 0` is `-L =< 0`
abbrev pub negated : Row → Row
negated r = record { rel = opposite_rel r.rel; pairs = opposite_pairs r.pairs; constant = neg_ℤ r.constant }

-- the half `L =< 0` of an equation
abbrev pub at_most : Row → Row
at_most r = record { rel = Le; pairs = r.pairs; constant = r.constant }
