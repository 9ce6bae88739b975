-- The value of an application by the list of its arguments, and equal values for equal rationals.
use Rattle.std.proofs.Common.{◌≡◌, ℕ, ◌<◌, List, map, refl, ap, subst, ◌∙◌, sym}
use Rattle.std.proofs.Math.IntN.{ℤ, pos, ◌*ℤ◌, *ℤ_comm}
use mathlib.Core.HLevel.{Σ_prop_path}
use Rattle.clp_rationals.specs.Fraction.{Fraction, IsLowest, IsOver}
use Rattle.clp_rationals.proofs.Whole.{mul_assoc_ℤ}
use Rattle.clp_rationals.proofs.Lowest.{lowest_over, only_one, lowest_prop, cancel_ℤ}
use Rattle.clp_model.specs.declared.sort.Sort.{Sort}
use Rattle.clp_model.specs.declared.tree.Tree.{Tree, Var, App, Row_of-Tree, end_of-Tree, more_of-Tree, items-the_row-Tree}
use Rattle.clp_model.specs.declared.tree.Tree.TheBlock.{items_hidden-the_row-Tree-0, hidden-the_row-Tree-0}
use Rattle.clp_model.specs.Values.{Value, Number, Named, values_of_list, Valuation, value_of, row_values, variable_value, number_over}

values-items : (sort : ℕ → Sort) (u : Valuation) (n : _) (ts : Row_of-Tree ℕ n) → row_values sort u ts ≡ values_of_list (map (value_of sort u) (items-the_row-Tree ℕ n ts))
unfolding value_of
values-items sort u n end_of-Tree = refl
values-items sort u n (more_of-Tree t ts) = let e = values-items sort u _ ts in cc

pub value_app : (sort : ℕ → Sort) (u : Valuation) (name : List ℕ) (ts : List (Tree ℕ)) → value_of sort u (App name ts) ≡ Named name (values_of_list (map (value_of sort u) ts))
unfolding value_of
value_app sort u name ts =
    let every : List (Tree ℕ) → Value = λ us. Named name (values_of_list (map (value_of sort u) us)) in
    ap (Named name) (values-items sort u _ (hidden-the_row-Tree-0 ℕ ts)) ∙ ap every (items_hidden-the_row-Tree-0 ℕ ts)

pub value_var : (sort : ℕ → Sort) (u : Valuation) (n : ℕ) → value_of sort u (Var n) ≡ variable_value u n (sort n)
unfolding value_of
value_var sort u n = refl

-- ---- equal rationals
swap_last : (x y z : ℤ) → (x *ℤ y) *ℤ z ≡ (x *ℤ z) *ℤ y
swap_last x y z = mul_assoc_ℤ x y z ∙ (ap (λ k. x *ℤ k) (*ℤ_comm y z) ∙ sym (mul_assoc_ℤ x z y))

-- what is over w and e is over v and d
also_over : (v w : ℤ) (d e : ℕ) → 0 < e → v *ℤ pos e ≡ w *ℤ pos d → (g : Fraction) → IsOver w e g → IsOver v d g
also_over v w d e he cross g over =
    cancel_ℤ _ _ e he
    (swap_last g.num (pos d) (pos e) ∙ (ap (λ z. z *ℤ pos d) over ∙ (swap_last w (pos g.den) (pos d) ∙ (ap (λ z. z *ℤ pos g.den) (sym cross) ∙ swap_last v (pos e) (pos g.den)))))

same_number : (g h : Fraction) (low : IsLowest g) (low' : IsLowest h) → g ≡ h → Number g low ≡ Number h low'
same_number g h low low' e =
    let pair : (g, low) ≡ (h, low') = Σ_prop_path {B = IsLowest} lowest_prop e in
    let as_value : ((k : Fraction) × IsLowest k) → Value = λ s. Number s.0 s.1 in
    ap as_value pair

-- fractions with equal cross products are the same value
pub same_value : (v w : ℤ) (d e : ℕ) (hd : 0 < d) (he : 0 < e) → v *ℤ pos e ≡ w *ℤ pos d → number_over v d hd ≡ number_over w e he
unfolding number_over
same_value v w d e hd he cross =
    let g = lowest_over v d hd in
    let h = lowest_over w e he in
    same_number g.0 h.0 g.1 h.1 (only_one v d hd g.0 h.0 g.1 h.1 g.2 (also_over v w d e he cross h.0 h.2))

fraction_of : (g h : Fraction) (low : IsLowest g) (low' : IsLowest h) → Number g low ≡ Number h low' → g ≡ h
fraction_of g h low low' e =
    let back : Value → Fraction = λ x. elim x [ Number k l ↦ k | Named name vs ↦ g ] in ap back e

crossed : (v w : ℤ) (d e : ℕ) (g h : Fraction) → 0 < g.den → g ≡ h → IsOver v d g → IsOver w e h → v *ℤ pos e ≡ w *ℤ pos d
crossed v w d e g h positive same over over' =
    let w_over : g.num *ℤ pos e ≡ w *ℤ pos g.den = subst (λ x. IsOver w e x) (sym same) over' in
    cancel_ℤ _ _ g.den positive
    (swap_last v (pos e) (pos g.den) ∙ (ap (λ z. z *ℤ pos e) (sym over) ∙ (swap_last g.num (pos d) (pos e) ∙ (ap (λ z. z *ℤ pos d) w_over ∙ swap_last w (pos g.den) (pos d)))))

-- and where they are the same value, the cross products are equal
pub cross_of_same : (v w : ℤ) (d e : ℕ) (hd : 0 < d) (he : 0 < e) → number_over v d hd ≡ number_over w e he → v *ℤ pos e ≡ w *ℤ pos d
unfolding number_over
cross_of_same v w d e hd he same =
    let g = lowest_over v d hd in
    let h = lowest_over w e he in
    crossed v w d e g.0 h.0 g.1.positive (fraction_of g.0 h.0 g.1 h.1 same) g.2 h.2
