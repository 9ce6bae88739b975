-- Instances of a clause with a row.
use Rattle.std.proofs.Common.{◌≡◌, ℕ, zero, suc, ◌<◌, [], ◌∷◌, refl, sym, ◌∙◌, ap, arith}
use Rattle.std.proofs.Math.IntN.{ℤ, pos, negsuc, ◌*ℤ◌, ◌+ℤ◌}
use Rattle.std.specs.Prelude.{◌≤ℤ◌, All}
use Rattle.std.proofs.lemmas.Int.{ints}
use Rattle.std.proofs.lemmas.List.Elements.{All-nil}
use Rattle.clp_model.specs.declared.sort.Sort.TheVariants.{Num}
use Rattle.clp_model.specs.declared.sort.Rel.TheVariants.{Le}
use Rattle.clp_model.specs.declared.tree.Tree.{Var, App}
use Rattle.clp_model.specs.Values.{Value, Named, NoValue, AndValue, GroundAtom, Valuation, number_over, atom_of}
use Rattle.clp_model.specs.Clauses.{Row, ground_of, sort_in, RowHolds, EquationHolds}
use Rattle.worked_examples.specs.Samples.{p, a, constant, ground}
use Rattle.worked_examples.specs.Instances.{bounded, InstanceWithRow, NoInstanceWithRow}
use Rattle.worked_examples.proofs.Values.{value_app, value_var, cross_of_same}

-- the ground atom p(V1) where V1 is a number
ground_number : (u : Valuation) → ground_of (Num ∷ []) u (App p (Var 1 ∷ [])) ≡ ground p (number_over (u.number 1) u.whole u.positive)
ground_number u =
    ap atom_of (value_app (sort_in (Num ∷ [])) u p (Var 1 ∷ []) ∙ ap (λ v. Named p (AndValue v NoValue)) (value_var (sort_in (Num ∷ [])) u 1))

pub instance_with_row : InstanceWithRow
instance_with_row h =
    let u : Valuation = record { whole = 2; positive = h; number = λ n. pos 1; value = λ n. constant a } in
    record {
      valuation = u;
      equations = All-nil (EquationHolds (Num ∷ []) u);
      rows = holds u refl refl;
      head_is = sym (ground_number u);
      body_is = refl;
    }
  where
    holds : (u : Valuation) → u.number 1 ≡ pos 1 → u.whole ≡ 2 → All (RowHolds u) bounded.rows
    holds u e w zero d k = rw (e, w) (omega (arith, ints))
    holds u e w (suc n) d k = absurd (omega arith)

-- ---- p(2)
abbrev first_value : GroundAtom → Value
first_value x = elim (x.args) [ NoValue ↦ constant a | AndValue v vs ↦ v ]

too_large : (n : ℤ) (d : ℕ) → 0 < d → pos 2 *ℤ pos d ≡ n *ℤ pos 1 → ((pos 1 *ℤ n +ℤ pos 0) +ℤ negsuc 0 *ℤ pos d) ≤ℤ pos 0 → ⊥
too_large n d h e k = omega (arith, ints)

pub no_instance_with_row : NoInstanceWithRow
no_instance_with_row h i =
    let u = i.valuation in
    let same : number_over (pos 2) 1 h ≡ number_over (u.number 1) u.whole u.positive = ap first_value (i.head_is ∙ ground_number u) in
    let no_row : Row = record { rel = Le; pairs = []; constant = pos 0 } in
    too_large (u.number 1) u.whole u.positive (cross_of_same (pos 2) (u.number 1) 1 u.whole h u.positive same) (i.rows 0 no_row (omega arith))
