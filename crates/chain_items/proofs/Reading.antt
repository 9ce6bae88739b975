-- Reading an item: a coefficient, and comparison by the normal form.
use Rattle.std.proofs.Common.{◌≡◌, ◌≢◌, ℕ, zero, suc, ◌+◌, ◌<◌, ◌≤◌, List, [], ◌∷◌, ◌++◌, map, append_assoc, ◌-◌, length, get_or, drop, drop-cons, add-one, max, Bool, true, false, ◌&&◌, arith, refl, sym, ◌∙◌, ap, subst}
use Rattle.std.specs.Prelude.{nat_le, nat_eq, int_lt, unsigned_abs, if◌then◌else◌}
use Rattle.std.proofs.Math.IntN.{ℤ, pos, negsuc, neg_ℤ, ◌+ℤ◌}
use Rattle.std.proofs.lemmas.Int.{ints}
use Rattle.std.proofs.lemmas.Bool.{eqb-true}
use Rattle.clp_model.specs.Clauses.{Row}
use Rattle.linear_model.specs.Forms.{IsRising, coefficient}
use Rattle.linear_model.specs.Normal.{pairs_within, limit, is_flipped, divisor_of, row_gcd}
use Rattle.linear_model.specs.Chain.{weights_within, multiplier_limit, signed}
use Rattle.linear_model.specs.Elimination.{is_equation}
use Rattle.linear_model.specs.Items.{Item}
use Rattle.linear_laws.proofs.Rising.{absent, first_coefficient, first_is_least}
use Rattle.chain_items.specs.Sparse.{spread, at_most, sign, Below}
use Rattle.chain_items.specs.Items.{item_of, item_within, IsItem, normal_divisor}
use Rattle.chain_items.proofs.Merging.{both, small_test, most_is_within}
use Rattle.chain_items.proofs.Spread.{spread_within}

at_place : (ps : List (ℕ × ℤ)) (i : ℕ) (d : ℕ × ℤ) → i < length ps → drop i ps ≡ get_or ps i d ∷ drop (i + 1) ps
at_place ps i d h = rw (add-one, drop-cons ps i d) refl

module _ (ps : List (ℕ × ℤ)) (i : ℕ) (d : ℕ × ℤ) (v : ℕ) (h : i < length ps) (r : IsRising (drop i ps)) (so_far : coefficient (drop i ps) v ≡ coefficient ps v) where
  rest_rises : IsRising (get_or ps i d ∷ drop (i + 1) ps)
  rest_rises = subst IsRising (at_place ps i d h) r

  pub met : (get_or ps i d).0 ≡ v → (get_or ps i d).1 ≡ coefficient ps v
  met e =
      sym (first_coefficient (get_or ps i d) (drop (i + 1) ps) rest_rises)
      ∙ (ap (coefficient (get_or ps i d ∷ drop (i + 1) ps)) e ∙ (ap (λ xs. coefficient xs v) (sym (at_place ps i d h)) ∙ so_far))

  pub gone_past : v < (get_or ps i d).0 → pos 0 ≡ coefficient ps v
  gone_past k = sym (first_is_least (get_or ps i d) (drop (i + 1) ps) v rest_rises k) ∙ (ap (λ xs. coefficient xs v) (sym (at_place ps i d h)) ∙ so_far)

-- ---- all numbers are in their ranges
pub each_most : (bound v : ℕ) (ps : List (ℕ × ℤ)) → IsRising ps → at_most bound ps ≡ true → unsigned_abs (coefficient ps v) ≤ bound
each_most bound v [] r e = omega arith
each_most bound v (p ∷ ps) r e = by (both (nat_le (unsigned_abs p.1) bound) (at_most bound ps) e) (each_most bound v ps r.2) (nat_eq p.0 v) refl
  where
    by : (nat_le (unsigned_abs p.1) bound ≡ true) × (at_most bound ps ≡ true) → (at_most bound ps ≡ true → unsigned_abs (coefficient ps v) ≤ bound)
        → (b : Bool) → nat_eq p.0 v ≡ b → unsigned_abs ((if b then p.1 else pos 0) +ℤ coefficient ps v) ≤ bound
    by w ih false k = let e : pos 0 +ℤ coefficient ps v ≡ coefficient ps v = omega (arith, ints) in subst (λ z. unsigned_abs z ≤ bound) (sym e) (ih w.1)
    by w ih true k =
        let s : p.0 ≡ v = eqb-true p.0 v k in
        let z : coefficient ps v ≡ pos 0 = ap (coefficient ps) (sym s) ∙ absent p.0 ps r.1 in
        let e : p.1 +ℤ coefficient ps v ≡ p.1 = omega (arith, ints) in
        subst (λ z. unsigned_abs z ≤ bound) (sym e) (small_test (unsigned_abs p.1) bound w.0)

pub each_small : (v : ℕ) (ps : List (ℕ × ℤ)) → IsRising ps → pairs_within ps ≡ true → unsigned_abs (coefficient ps v) ≤ limit
each_small v ps r e = each_most limit v ps r (most_is_within ps ∙ e)

module _ (x : Item) (r : Row) (n : ℕ) (ws : List (ℕ × ℤ)) (d : ℤ) (h : ℕ) (e : item_of r n ws ≡ x) (k : IsItem r n ws d h) where
  pub seen_within : item_within x ≡ true
  seen_within =
      let a = k.within in
      let b = spread_within n ws k.places_rise k.places_below ∙ k.multipliers_within in
      let i : item_within (item_of r n ws) ≡ true = rw (a, b) refl in
      sym (ap item_within e) ∙ i

  pub seen_rising : IsRising x.row.pairs
  seen_rising = subst (λ (z : Item). IsRising z.row.pairs) e k.rising

  pub seen_small : (v : ℕ) → unsigned_abs (coefficient x.row.pairs v) ≤ limit
  seen_small v = subst (λ (z : Item). unsigned_abs (coefficient z.row.pairs v) ≤ limit) e (each_small v r.pairs k.rising (both (pairs_within r.pairs) (nat_le (unsigned_abs r.constant) limit) k.within).0)

-- ---- the divisor of the normal form
divisor_not_zero : (b : Bool) (g : ℕ) → 0 < g → divisor_of b g ≢ pos 0
divisor_not_zero true g h e = omega (arith, ints)
divisor_not_zero false g h e = omega (arith, ints)

pub normal_not_zero : (r : Row) (d : ℤ) → d ≡ normal_divisor r → d ≢ pos 0
normal_not_zero r d e f = divisor_not_zero (is_flipped r.rel r.pairs) (max 1 (row_gcd r)) (omega arith) (sym e ∙ f)

-- ---- certificates
opposite_size : (z : ℤ) → unsigned_abs (neg_ℤ z) ≡ unsigned_abs z
opposite_size (pos zero) = refl
opposite_size (pos (suc n)) = omega arith
opposite_size (negsuc n) = omega arith

sign_size : (b : Bool) (z : ℤ) → unsigned_abs (sign b z) ≡ unsigned_abs z
sign_size true z = opposite_size z
sign_size false z = refl

signs_within : (b : Bool) (ms : List ℤ) → weights_within (map (sign b) ms) ≡ weights_within ms
signs_within b [] = refl
signs_within b (m ∷ ms) =
    ap (λ n. nat_le n multiplier_limit && weights_within (map (sign b) ms)) (sign_size b m)
    ∙ ap (λ t. nat_le (unsigned_abs m) multiplier_limit && t) (signs_within b ms)

same_signs : (ms : List ℤ) → map (sign false) ms ≡ ms
same_signs [] = refl
same_signs (m ∷ ms) = ap (λ xs. m ∷ xs) (same_signs ms)

signs_are : (b : Bool) (ms : List ℤ) → map (sign b) ms ≡ (if b then map neg_ℤ ms else ms)
signs_are true [] = refl
signs_are true (m ∷ ms) = ap (λ xs. neg_ℤ m ∷ xs) (signs_are true ms)
signs_are false ms = same_signs ms

pub certificate_is : (x : Item) (r : Row) (n : ℕ) (ws us : List (ℕ × ℤ)) (b : Bool) (out : List ℤ) → item_of r n ws ≡ x → us ≡ ws
    → b ≡ (is_equation r.rel && int_lt r.constant (pos 0)) → out ≡ map (sign b) (spread 0 n us) → out ≡ signed x
certificate_is x r n ws us b out e f g h =
    h ∙ (ap (λ zs. map (sign b) (spread 0 n zs)) f ∙ (signs_are b (spread 0 n ws) ∙ (ap (λ t. if t then map neg_ℤ (spread 0 n ws) else spread 0 n ws) g ∙ ap signed e)))

pub certificate_within : (n : ℕ) (ws us : List (ℕ × ℤ)) (b : Bool) (out : List ℤ) → us ≡ ws → IsRising ws → Below n ws → at_most multiplier_limit ws ≡ true
    → out ≡ map (sign b) (spread 0 n us) → weights_within out ≡ true
certificate_within n ws us b out f r k m h =
    ap weights_within (h ∙ ap (λ zs. map (sign b) (spread 0 n zs)) f) ∙ (signs_within b (spread 0 n ws) ∙ (spread_within n ws r k ∙ m))

pub one_more : (b : Bool) (ws : List (ℕ × ℤ)) (n i : ℕ) (out old all : List ℤ) → i < n → out ≡ old ++ sign b (coefficient ws i) ∷ []
    → old ++ map (sign b) (spread i (n - i) ws) ≡ all → out ++ map (sign b) (spread (i + 1) (n - (i + 1)) ws) ≡ all
one_more b ws n i out old all h e g =
    let s : n - i ≡ suc (n - (i + 1)) = omega arith in
    let a : map (sign b) (spread i (n - i) ws) ≡ sign b (coefficient ws i) ∷ map (sign b) (spread (i + 1) (n - (i + 1)) ws) = ap (λ k. map (sign b) (spread i k ws)) s in
    ap (λ xs. xs ++ map (sign b) (spread (i + 1) (n - (i + 1)) ws)) e
    ∙ (append_assoc old (sign b (coefficient ws i) ∷ []) (map (sign b) (spread (i + 1) (n - (i + 1)) ws)) ∙ (ap (λ xs. old ++ xs) (sym a) ∙ g))
