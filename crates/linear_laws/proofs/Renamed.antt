-- A renamed row holds where the row holds under the valuation carried along.
use Rattle.std.proofs.Common.{◌≡◌, ℕ, List, [], ◌∷◌, arith, refl, sym, ◌∙◌, ap, subst}
use Rattle.std.specs.Prelude.{◌↔◌}
use Rattle.std.proofs.Math.IntN.{ℤ, pos, ◌+ℤ◌, ◌*ℤ◌}
use Rattle.std.proofs.lemmas.Int.{ints}
use Rattle.clp_model.specs.Values.{Valuation}
use Rattle.clp_model.specs.Clauses.{Row, RowHolds, Compares, sum_of}
use Rattle.linear_model.specs.Forms.{IsRising}
use Rattle.linear_model.specs.Changes.{renamed_pairs, renamed}
use Rattle.linear_laws.specs.Laws.{carried}
use Rattle.linear_laws.proofs.Sums.{sum_combined}
use Rattle.linear_laws.proofs.Rising.{rising_onto}

renamed_sum : (f : ℕ → ℕ) (g : ℕ → ℤ) (ps : List (ℕ × ℤ)) → sum_of g (renamed_pairs f ps) ≡ sum_of (λ v. g (f v)) ps
renamed_sum f g [] = refl
renamed_sum f g (p ∷ ps) =
    let a = sum_combined g (pos 1) ((f p.0, p.1) ∷ []) (pos 1) (renamed_pairs f ps) in
    let b = renamed_sum f g ps in
    a ∙ omega (arith, ints)

pub renamed_holds : (f : ℕ → ℕ) (u : Valuation) (r : Row) → RowHolds u (renamed f r) ↔ RowHolds (carried f u) r
renamed_holds f u r =
    let e = ap (λ z. z +ℤ r.constant *ℤ pos u.whole) (renamed_sum f u.number r.pairs) in
    (λ h. subst (Compares r.rel) e h, λ h. subst (Compares r.rel) (sym e) h)

rising_renamed_pairs : (f : ℕ → ℕ) (ps : List (ℕ × ℤ)) → IsRising (renamed_pairs f ps)
rising_renamed_pairs f [] = tt
rising_renamed_pairs f (p ∷ ps) = rising_onto (pos 1) (f p.0, p.1) (pos 1) (renamed_pairs f ps) (rising_renamed_pairs f ps)

-- for every row, also one whose own variables don't rise
pub rising_renamed : (f : ℕ → ℕ) (r : Row) → IsRising (renamed f r).pairs
rising_renamed f r = rising_renamed_pairs f r.pairs
