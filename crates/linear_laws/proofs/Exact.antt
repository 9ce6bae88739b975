-- Elimination is exact, for rows and for all that has a row.
use Rattle.std.proofs.Common.{◌≡◌, ℕ, suc, ◌*◌, ◌<◌, ◌/◌, List, map, Bool, true, false, not, ◌&&◌, inl, inr, arith, refl, sym, ◌∙◌, ap, subst}
use Rattle.std.specs.Prelude.{unsigned_abs, Option, Some, None, if◌then◌else◌, ◌↔◌}
use Rattle.std.proofs.Math.IntN.{ℤ, pos, negsuc, neg_ℤ, ◌+ℤ◌, ◌*ℤ◌}
use Rattle.std.proofs.lemmas.Int.{ints}
use Rattle.clp_rationals.proofs.Whole.{mul_neg, neg_mul}
use Rattle.clp_model.specs.Values.{Valuation}
use Rattle.clp_model.specs.Clauses.{Row, RowHolds, Compares}
use Rattle.clp_model.specs.declared.sort.Rel.{Rel}
use Rattle.clp_model.specs.declared.sort.Rel.TheVariants.{Eq, Le, Lt}
use Rattle.clp_model.proofs.Membership.{Among, among_front, among_back, among_mapped}
use Rattle.linear_model.specs.Forms.{is_zero, coefficient, combination}
use Rattle.linear_model.specs.Elimination.{SameBut, is_equation, has, factors, opposed, stricter, substituted, bounded, first_equation, without, lowers, uppers, eliminated_by, eliminated}
use Rattle.linear_laws.proofs.Ring.{mul_zero, one_of_three}
use Rattle.linear_laws.proofs.Factors.{factors_cross, factors_positive_0, factors_positive_1}
use Rattle.linear_laws.proofs.Valuations.{row_value, value_combined, compares_mul, compares_back, holds_without}
use Rattle.linear_laws.proofs.Refining.{refined, refined_same, zeroed, zeroed_same, value_refined, positive_product}
use Rattle.linear_laws.proofs.Bounds.{IsBound, between}
use Rattle.linear_laws.proofs.Common.{size, common, common_positive, times_back, at_lower, at_upper, pair_value}
use Rattle.linear_laws.proofs.Lists.{filter_in, filter_out}
use Rattle.linear_laws.proofs.Bounded.{IsLower, IsUpper, lower_is, upper_is, lower_size, upper_size, bounded_free, substituted_free, less_true, true_less, zero_has, negative_has, positive_has}
use Rattle.linear_laws.proofs.Steps.{Found, found, none_found, is_lower, is_upper, is_free, pair_in, made}

-- ---- some valuation that differs at x alone makes an equation's value 0
solved_by : (u : Valuation) (x : ℕ) (e : Row) (c : ℤ) → coefficient e.pairs x ≡ c → 0 < unsigned_abs c → (w : Valuation) × SameBut x u w × (row_value w e ≡ pos 0)
solved_by u x e (pos n) i h =
    let v = row_value (zeroed u x) e in
    let a = value_refined u n h x (neg_ℤ v) e in
    let b = ap (λ z. z *ℤ neg_ℤ v) i in
    let d = mul_neg (pos n) v in
    (refined u n h x (neg_ℤ v), refined_same u n h x (neg_ℤ v), a ∙ omega (arith, ints))
solved_by u x e (negsuc n) i h =
    let v = row_value (zeroed u x) e in
    let a = value_refined u (suc n) h x v e in
    let b = ap (λ z. z *ℤ v) i in
    let d = neg_mul (pos (suc n)) v in
    (refined u (suc n) h x v, refined_same u (suc n) h x v, a ∙ omega (arith, ints))

value_when_equal : (w : Valuation) (e : Row) → e.rel ≡ Eq → RowHolds w e → row_value w e ≡ pos 0
value_when_equal w e i h = subst (λ rel. Compares rel (row_value w e)) i h

equal_when_zero : (w : Valuation) (e : Row) → e.rel ≡ Eq → row_value w e ≡ pos 0 → RowHolds w e
equal_when_zero w e i h = subst (λ rel. Compares rel (row_value w e)) (sym i) h

-- the row that an equation has freed of x holds exactly where the old one does
both : (x : ℕ) (u w : Valuation) → SameBut x u w → (e : Row) → row_value w e ≡ pos 0 → (r : Row) → 0 < unsigned_abs (coefficient e.pairs x)
    → let f = factors (coefficient e.pairs x) (coefficient r.pairs x) in
    RowHolds u (combination r.rel (pos f.1) r (opposed (coefficient e.pairs x) (coefficient r.pairs x) f.0) e) ↔ RowHolds w r
both x u w same e zero_value r h =
    let c = coefficient e.pairs x in
    let d = coefficient r.pairs x in
    let f = factors c d in
    let b = opposed c d f.0 in
    let n = combination r.rel (pos f.1) r b e in
    let free = holds_without x u w same n (substituted_free x e r) in
    let z : b *ℤ row_value w e ≡ pos 0 = ap (λ y. b *ℤ y) zero_value ∙ mul_zero b in
    let v : row_value w n ≡ pos f.1 *ℤ row_value w r = value_combined w r.rel (pos f.1) r b e ∙ omega (arith, ints) in
    let p = factors_positive_1 c d h in (
      λ hold. compares_back r.rel f.1 (row_value w r) p (subst (Compares r.rel) v (free.0 hold)),
      λ hold. free.1 (subst (Compares r.rel) (sym v) (compares_mul r.rel f.1 (row_value w r) p hold)),
    )

-- ---- bounds
module _ (u : Valuation) (x : ℕ) (rows : List Row) where
  -- the bound of a row as a whole number over the common denominator
  abbrev bound : Row → ℤ
  bound r = pos (common x rows / size x r) *ℤ row_value (zeroed u x) r

  pair_holds : (l r : Row) → Among l rows → Among r rows → IsLower x l → IsUpper x r
      → (let f = factors (coefficient l.pairs x) (coefficient r.pairs x) in RowHolds u (combination (stricter l.rel r.rel) (pos f.0) l (pos f.1) r))
      → Compares (stricter l.rel r.rel) (bound l +ℤ bound r)
  pair_holds l r al ar hl hr h =
      let c = coefficient l.pairs x in
      let d = coefficient r.pairs x in
      let f = factors c d in
      let n = combination (stricter l.rel r.rel) (pos f.0) l (pos f.1) r in
      let m = common x rows in
      let s = m / size x l in
      let t = m / size x r in
      let z = zeroed u x in
      let p = lower_size x l hl in
      let q = upper_size x r hr in
      let at_zero : Compares (stricter l.rel r.rel) (pos f.0 *ℤ row_value z l +ℤ pos f.1 *ℤ row_value z r) =
      subst (Compares (stricter l.rel r.rel)) (value_combined z (stricter l.rel r.rel) (pos f.0) l (pos f.1) r)
      ((holds_without x u z (zeroed_same u x) n (bounded_free x l r hl hr)).0 h) in
      let e = pair_value f.0 f.1 (size x l) (size x r) s t m (row_value z l) (row_value z r) (sym (factors_cross c d)) (times_back x rows l al p) (times_back x rows r ar q) in
      compares_back (stricter l.rel r.rel) (f.0 * size x l) (bound l +ℤ bound r) (positive_product f.0 (size x l) (factors_positive_0 c d q) p)
      (subst (Compares (stricter l.rel r.rel)) (sym e) (compares_mul (stricter l.rel r.rel) m _ (common_positive x rows) at_zero))

  twice : 0 < 2 * common x rows
  twice = positive_product 2 (common x rows) (omega arith) (common_positive x rows)

  lower_holds : (y : ℤ) (l : Row) → Among l rows → IsLower x l → Compares l.rel (bound l +ℤ bound l +ℤ neg_ℤ y) → RowHolds (refined u (2 * common x rows) twice x y) l
  lower_holds y l a h c =
      let z = row_value (zeroed u x) l in
      let m = common x rows in
      let p = lower_size x l h in
      let e = ap (λ k. k *ℤ y +ℤ pos (2 * m) *ℤ z) (lower_is x l h) in
      let f = at_lower (size x l) (m / size x l) m y z (times_back x rows l a p) in
      subst (Compares l.rel) (sym (value_refined u (2 * m) twice x y l ∙ (e ∙ f))) (compares_mul l.rel (size x l) _ p c)

  upper_holds : (y : ℤ) (r : Row) → Among r rows → IsUpper x r → Compares r.rel (y +ℤ (bound r +ℤ bound r)) → RowHolds (refined u (2 * common x rows) twice x y) r
  upper_holds y r a h c =
      let z = row_value (zeroed u x) r in
      let m = common x rows in
      let p = upper_size x r h in
      let e = ap (λ k. k *ℤ y +ℤ pos (2 * m) *ℤ z) (upper_is x r h) in
      let f = at_upper (size x r) (m / size x r) m y z (times_back x rows r a p) in
      subst (Compares r.rel) (sym (value_refined u (2 * m) twice x y r ∙ (e ∙ f))) (compares_mul r.rel (size x r) _ p c)

no_equation : (rel : Rel) (b : Bool) → (is_equation rel && b) ≡ false → b ≡ true → IsBound rel
no_equation Eq true e h k = cc
no_equation Eq false e h k = cc
no_equation Le b e h k = cc
no_equation Lt b e h k = cc

compares_sum : (a b : Rel) (y z : ℤ) → Compares a y → Compares b z → Compares (stricter a b) (y +ℤ z)
compares_sum Eq Eq y z h k = omega (arith, ints)
compares_sum Eq Le y z h k = omega (arith, ints)
compares_sum Eq Lt y z h k = omega (arith, ints)
compares_sum Le Eq y z h k = omega (arith, ints)
compares_sum Le Le y z h k = omega (arith, ints)
compares_sum Le Lt y z h k = omega (arith, ints)
compares_sum Lt Eq y z h k = omega (arith, ints)
compares_sum Lt Le y z h k = omega (arith, ints)
compares_sum Lt Lt y z h k = omega (arith, ints)

-- ---- the law, for a `join` that makes the row of a combination up to its solutions
abbrev pub AllHold : {A : Type 0} → (A → Row) → Valuation → List A → Type 0
AllHold {A} row_of u items = (i : A) → Among i items → RowHolds u (row_of i)

abbrev pub Joins : {A : Type 0} → (A → Row) → (Rel → ℤ → A → ℤ → A → A) → Type 0
Joins {A} row_of join = (u : Valuation) (rel : Rel) (a : ℤ) (i : A) (b : ℤ) (j : A) → RowHolds u (row_of (join rel a i b j)) ↔ RowHolds u (combination rel a (row_of i) b (row_of j))

module _ {A : Type 0} (row_of : A → Row) (join : Rel → ℤ → A → ℤ → A → A) (joins : Joins row_of join) (x : ℕ) (items : List A) where
  there_by_equation : (u w : Valuation) → SameBut x u w → (e : A) → row_value w (row_of e) ≡ pos 0 → 0 < unsigned_abs (coefficient (row_of e).pairs x)
      → (i : A) → RowHolds u (row_of (substituted row_of join x e i)) → RowHolds w (row_of i)
  there_by_equation u w same e z h i = by (has x (row_of i)) refl
    where
      by : (b : Bool) → has x (row_of i) ≡ b
          → RowHolds u (row_of (if b then
          (let f = factors (coefficient (row_of e).pairs x) (coefficient (row_of i).pairs x) in
          join (row_of i).rel (pos f.1) i (opposed (coefficient (row_of e).pairs x) (coefficient (row_of i).pairs x) f.0) e)
          else i))
          → RowHolds w (row_of i)
      by true s hold = (both x u w same (row_of e) z (row_of i) h).0 ((joins u _ _ i _ e).0 hold)
      by false s hold = (holds_without x u w same (row_of i) (zero_has (coefficient (row_of i).pairs x) s)).0 hold

  equation_there : (u : Valuation) (p : A × List A) → Found row_of x items p → AllHold row_of u (map (substituted row_of join x p.0) p.1)
      → (w : Valuation) × SameBut x u w × AllHold row_of w items
  equation_there u p f h =
      let s = solved_by u x (row_of p.0) (coefficient (row_of p.0).pairs x) refl f.has_it in (
        s.0,
        s.1,
        λ i a. elim (f.all i a) [
          | inl e ↦ subst (λ j. RowHolds s.0 (row_of j)) (sym e) (equal_when_zero s.0 (row_of p.0) f.equation s.2)
          | inr b ↦ there_by_equation u s.0 s.1 p.0 s.2 f.has_it i (h (substituted row_of join x p.0 i) (among_mapped (substituted row_of join x p.0) b))
        ],
      )

  is_bound : first_equation row_of x items ≡ None → (i : A) → Among i items → has x (row_of i) ≡ true → IsBound (row_of i).rel
  is_bound none i a e = no_equation (row_of i).rel (has x (row_of i)) (none_found row_of x items none i a) e

  pairs_there : (u : Valuation) → first_equation row_of x items ≡ None → AllHold row_of u (eliminated_by row_of join x items None)
      → (w : Valuation) × SameBut x u w × AllHold row_of w items
  pairs_there u none h =
      let rows = map row_of items in
      let n : A → ℤ = λ i. bound u x rows (row_of i) in
      let b = between (λ i. (row_of i).rel) n (lowers row_of x items) (uppers row_of x items)
      (λ l a. let o = filter_out (is_lower row_of x) items l a in is_bound none l o.0 (negative_has (coefficient (row_of l).pairs x) (less_true (coefficient (row_of l).pairs x) (pos 0) o.1)))
      (λ r a. let o = filter_out (is_upper row_of x) items r a in is_bound none r o.0 (positive_has (coefficient (row_of r).pairs x) (less_true (pos 0) (coefficient (row_of r).pairs x) o.1)))
      (λ l r al ar.
      let ol = filter_out (is_lower row_of x) items l al in
      let or = filter_out (is_upper row_of x) items r ar in
      pair_holds u x rows (row_of l) (row_of r) (among_mapped row_of ol.0) (among_mapped row_of or.0) (less_true _ _ ol.1) (less_true _ _ or.1)
      ((joins u _ _ l _ r).0 (h (bounded row_of join x l r) (among_back _ (without row_of x items) _ (pair_in row_of join x (lowers row_of x items) (uppers row_of x items) l r al ar))))) in
      let w = refined u (2 * common x rows) (twice u x rows) x b.y in
      let same = refined_same u (2 * common x rows) (twice u x rows) x b.y in (
        w,
        same,
        λ r a. elim (one_of_three (coefficient (row_of r).pairs x)) [
          | inl l ↦ lower_holds u x rows b.y (row_of r) (among_mapped row_of a) l (b.above r (filter_in (is_lower row_of x) items r a (true_less _ _ l)))
          | inr (inl z) ↦ (holds_without x u w same (row_of r) z).0 (h r (among_front r (without row_of x items) _ (filter_in (is_free row_of x) items r a (ap (λ c. not (not (is_zero c))) z))))
          | inr (inr g) ↦ upper_holds u x rows b.y (row_of r) (among_mapped row_of a) g (b.under r (filter_in (is_upper row_of x) items r a (true_less _ _ g)))
        ],
      )

  pub exact_there : (u : Valuation) → AllHold row_of u (eliminated row_of join x items) → (w : Valuation) × SameBut x u w × AllHold row_of w items
  exact_there u = by (first_equation row_of x items) refl
    where
      by : (o : Option (A × List A)) → first_equation row_of x items ≡ o → AllHold row_of u (eliminated_by row_of join x items o) → (w : Valuation) × SameBut x u w × AllHold row_of w items
      by (Some p) e h = equation_there u p (found row_of x items p e) h
      by None e h = pairs_there u e h

  pub exact_back : (u w : Valuation) → SameBut x u w → AllHold row_of w items → AllHold row_of u (eliminated row_of join x items)
  exact_back u w same h =
      made row_of join x items (λ i. RowHolds u (row_of i)) (record {
        left = λ i a z. (holds_without x u w same (row_of i) z).1 (h i a);
        by_equation = λ e i ae ai q p.
            (joins u _ _ i _ e).1 ((both x u w same (row_of e) (value_when_equal w (row_of e) q (h e ae)) (row_of i) p).1 (h i ai));
        by_bounds = λ l r al ar hl hr. (joins u _ _ l _ r).1 (one (row_of l) (row_of r) hl hr (h l al) (h r ar));
      })
    where
      one : (l r : Row) → IsLower x l → IsUpper x r → RowHolds w l → RowHolds w r
          → let f = factors (coefficient l.pairs x) (coefficient r.pairs x) in RowHolds u (combination (stricter l.rel r.rel) (pos f.0) l (pos f.1) r)
      one l r hl hr kl kr =
          let f = factors (coefficient l.pairs x) (coefficient r.pairs x) in
          let p = factors_positive_0 (coefficient l.pairs x) (coefficient r.pairs x) (upper_size x r hr) in
          let q = factors_positive_1 (coefficient l.pairs x) (coefficient r.pairs x) (lower_size x l hl) in
          (holds_without x u w same (combination (stricter l.rel r.rel) (pos f.0) l (pos f.1) r) (bounded_free x l r hl hr)).1
          (subst (Compares (stricter l.rel r.rel)) (sym (value_combined w (stricter l.rel r.rel) (pos f.0) l (pos f.1) r))
          (compares_sum l.rel r.rel (pos f.0 *ℤ row_value w l) (pos f.1 *ℤ row_value w r) (compares_mul l.rel f.0 (row_value w l) p kl) (compares_mul r.rel f.1 (row_value w r) q kr)))
