-- What a combination of two items is, from their parts.
use Rattle.std.proofs.Common.{◌≡◌, ℕ, ◌<◌, List, max, Bool, true, false, ◌&&◌, ◌⊎◌, inl, inr, arith, refl, sym, ◌∙◌, ap, subst}
use Rattle.std.specs.Prelude.{unsigned_abs, int_div, nat_le}
use Rattle.std.specs.Int.{◌∣◌}
use Rattle.std.proofs.Math.IntN.{ℤ, pos, ◌+ℤ◌, ◌*ℤ◌}
use Rattle.clp_model.specs.Clauses.{Row}
use Rattle.clp_model.specs.declared.sort.Rel.{Rel}
use Rattle.linear_model.specs.Forms.{IsRising, combined, combination}
use Rattle.linear_model.specs.Normal.{joint_gcd, row_gcd, divided_pairs, divided, is_within, limit}
use Rattle.linear_model.specs.Items.{Item, divided_weights, item_divisor, reduced, joined}
use Rattle.linear_model.specs.Chain.{weights_within, multiplier_limit}
use Rattle.linear_laws.proofs.Rising.{rising_combined}
use Rattle.linear_laws.proofs.Divided.{rising_divided, divides_on}
use Rattle.linear_laws.proofs.Normal.{exact, max_divides}
use Rattle.chain_items.specs.Sparse.{spread, at_most, Below}
use Rattle.chain_items.specs.Items.{row_of, item_of, item_within, IsPast, IsPastRange, AreQuotients}
use Rattle.chain_items.proofs.Spread.{spread_weights, spread_divisor, spread_within, spread_quotients, below_combined, below_divided}
use Rattle.chain_items.proofs.Merging.{most_is_within, most_test, past_test, and_false}

three : (x y z : Bool) → (y ≡ false) ⊎ ((x ≡ false) ⊎ (z ≡ false)) → ((x && y) && z) ≡ false
three x y z (inl e) = ap (λ t. (x && t) && z) e ∙ ap (λ t. t && z) (and_false x)
three x y z (inr (inl e)) = ap (λ t. (t && y) && z) e
three x y z (inr (inr e)) = ap (λ t. (x && y) && t) e ∙ and_false (x && y)

not_in_range : (k : ℤ) (ps us : List (ℕ × ℤ)) → IsPast k ps us → ((at_most limit ps && nat_le (unsigned_abs k) limit) && at_most multiplier_limit us) ≡ false
not_in_range k ps us (inl h) = three (at_most limit ps) (nat_le (unsigned_abs k) limit) (at_most multiplier_limit us) (inl (past_test (unsigned_abs k) limit h))
not_in_range k ps us (inr (inl h)) = three (at_most limit ps) (nat_le (unsigned_abs k) limit) (at_most multiplier_limit us) (inr (inl h))
not_in_range k ps us (inr (inr h)) = three (at_most limit ps) (nat_le (unsigned_abs k) limit) (at_most multiplier_limit us) (inr (inr h))

module _ (rel : Rel) (a b : ℤ) (r s : Row) (n : ℕ) (ws vs : List (ℕ × ℤ)) (rw' : IsRising ws) (rv : IsRising vs) (bw : Below n ws) (bv : Below n vs) where
  abbrev pub places : List (ℕ × ℤ)
  places = combined a ws b vs

  abbrev pub joint : ℕ
  joint = max 1 (joint_gcd (row_gcd (combination rel a r b s)) places)

  places_rise : IsRising places
  places_rise = rising_combined a ws b vs rw' rv

  places_below : Below n places
  places_below = below_combined n a ws b vs bw bv

  divisor_same : item_divisor (item_of (combination rel a r b s) n places) ≡ pos joint
  divisor_same = ap (λ g. pos (max 1 g)) (spread_divisor (row_gcd (combination rel a r b s)) n places places_rise places_below)

  pub joined_is : joined rel a (item_of r n ws) b (item_of s n vs) ≡ item_of (divided (pos joint) (combination rel a r b s)) n (divided_pairs (pos joint) places)
  joined_is =
      let make : List ℤ → Item = λ ms. record { row = combination rel a r b s; m = ms } in
      let whole : ℤ → Item = λ d. record { row = divided d (combination rel a r b s); m = divided_weights d (spread 0 n places) } in
      let done : List ℤ → Item = λ ms. record { row = divided (pos joint) (combination rel a r b s); m = ms } in
      ap (λ ms. reduced (make ms)) (spread_weights a ws b vs 0 n) ∙ (ap whole divisor_same ∙ ap done (spread_quotients joint 0 n places places_rise))

  joint_divides : joint ∣ joint_gcd (row_gcd (combination rel a r b s)) places
  joint_divides = max_divides (joint_gcd (row_gcd (combination rel a r b s)) places)

  pub joint_positive : 0 < joint
  joint_positive = omega arith

  pub row_rises : IsRising r.pairs → IsRising s.pairs → IsRising (divided_pairs (pos joint) (combined a r.pairs b s.pairs))
  row_rises g h =
      rising_divided (pos joint) joint (λ z. exact z joint joint_positive) (unsigned_abs (a *ℤ r.constant +ℤ b *ℤ s.constant)) (combined a r.pairs b s.pairs)
      (divides_on joint (row_gcd (combination rel a r b s)) places joint_divides)
      (rising_combined a r.pairs b s.pairs g h)

  pub quotients_rise : IsRising (divided_pairs (pos joint) places)
  quotients_rise = rising_divided (pos joint) joint (λ z. exact z joint joint_positive) (row_gcd (combination rel a r b s)) places joint_divides places_rise

  pub quotients_below : Below n (divided_pairs (pos joint) places)
  quotients_below = below_divided n (pos joint) places places_below

  -- ---- in range, or past it
  module _ (gr : IsRising r.pairs) (gs : IsRising s.pairs) where
    abbrev made : Item
    made = item_of (divided (pos joint) (combination rel a r b s)) n (divided_pairs (pos joint) places)

    whole_within : item_within made ≡ ((at_most limit (divided_pairs (pos joint) (combined a r.pairs b s.pairs)) && nat_le (unsigned_abs (int_div (a *ℤ r.constant +ℤ b *ℤ s.constant) (pos joint))) limit)
        && at_most multiplier_limit (divided_pairs (pos joint) places))
    whole_within =
        let c = nat_le (unsigned_abs (int_div (a *ℤ r.constant +ℤ b *ℤ s.constant) (pos joint))) limit in
        ap (λ t. (t && c) && weights_within (spread 0 n (divided_pairs (pos joint) places))) (sym (most_is_within (divided_pairs (pos joint) (combined a r.pairs b s.pairs))))
        ∙ ap (λ t. (at_most limit (divided_pairs (pos joint) (combined a r.pairs b s.pairs)) && c) && t) (spread_within n (divided_pairs (pos joint) places) quotients_rise quotients_below)

    pub past_range : IsPastRange a b r.pairs r.constant ws s.pairs s.constant vs → item_within (joined rel a (item_of r n ws) b (item_of s n vs)) ≡ false
    past_range h =
        ap item_within joined_is
        ∙ (whole_within ∙ not_in_range (int_div (a *ℤ r.constant +ℤ b *ℤ s.constant) (pos joint)) (divided_pairs (pos joint) (combined a r.pairs b s.pairs)) (divided_pairs (pos joint) places) h.past)

    module _ (ps : List (ℕ × ℤ)) (c : ℤ) (us : List (ℕ × ℤ)) (q : AreQuotients a b r.pairs r.constant ws s.pairs s.constant vs ps c us) where
      pub new_rises : IsRising ps
      new_rises = subst IsRising (sym q.pairs_are) (row_rises gr gs)

      pub new_within : is_within (row_of rel ps c) ≡ true
      new_within =
          let e = sym (most_is_within ps) ∙ q.pairs_within in
          let f = most_test (unsigned_abs c) limit q.constant_within in
          rw (e, f) refl

      pub new_places_rise : IsRising us
      new_places_rise = subst IsRising (sym q.weights_are) quotients_rise

      pub new_places_below : Below n us
      new_places_below = subst (Below n) (sym q.weights_are) quotients_below

      pub new_is : item_of (row_of rel ps c) n us ≡ joined rel a (item_of r n ws) b (item_of s n vs)
      new_is =
          let one : List (ℕ × ℤ) → Item = λ xs. item_of (row_of rel xs c) n us in
          let two : ℤ → Item = λ z. item_of (row_of rel (divided_pairs (pos joint) (combined a r.pairs b s.pairs)) z) n us in
          let three : List (ℕ × ℤ) → Item = λ xs. item_of (divided (pos joint) (combination rel a r b s)) n xs in
          ap one q.pairs_are ∙ (ap two q.constant_is ∙ (ap three q.weights_are ∙ sym joined_is))

      pub new_item_within : item_within (item_of (row_of rel ps c) n us) ≡ true
      new_item_within =
          let e = new_within in
          let f = spread_within n us new_places_rise new_places_below ∙ q.weights_within in
          rw (e, f) refl
