-- What elimination makes of a list: each element comes from the old ones in one of three ways.
use Rattle.std.proofs.Common.{◌≡◌, ℕ, ◌<◌, List, [], ◌∷◌, map, Bool, true, false, not, ◌&&◌, ◌⊎◌, inl, inr, refl, subst}
use Rattle.std.specs.Prelude.{Option, Some, None, unsigned_abs, int_lt, if◌then◌else◌}
use Rattle.std.proofs.Math.IntN.{ℤ, pos}
use Rattle.clp_model.specs.Clauses.{Row}
use Rattle.clp_model.specs.declared.sort.Rel.{Rel}
use Rattle.clp_model.specs.declared.sort.Rel.TheVariants.{Eq, Le, Lt}
use Rattle.clp_model.proofs.Membership.{Among, first, next, among_front, among_back, among_either, among_mapped}
use Rattle.linear_model.specs.Forms.{coefficient}
use Rattle.linear_model.specs.Elimination.{is_equation, has, factors, opposed, substituted, bounded, bounded_by_each, with_front, first_equation, without, lowers, uppers, eliminated_by, eliminated}
use Rattle.linear_laws.proofs.Lists.{filter_out, mapped_out}
use Rattle.linear_laws.proofs.Bounded.{IsLower, IsUpper, less_true, not_back, not_zero, zero_has}

is_eq : (rel : Rel) → is_equation rel ≡ true → rel ≡ Eq
is_eq Eq e = refl
is_eq Le e = cc
is_eq Lt e = cc

pub and_0 : (a b : Bool) → (a && b) ≡ true → a ≡ true
and_0 true b e = refl
and_0 false b e = cc

pub and_1 : (a b : Bool) → (a && b) ≡ true → b ≡ true
and_1 true b e = e
and_1 false b e = cc

-- the first equation that has x, and the others
pub record Found {A : Type 0} (row_of : A → Row) (x : ℕ) (items : List A) (p : A × List A) : Type 0 where
  pub equation : (row_of p.0).rel ≡ Eq
  pub has_it : 0 < unsigned_abs (coefficient (row_of p.0).pairs x)
  pub there : Among p.0 items
  pub others : (i : A) → Among i p.1 → Among i items
  pub all : (i : A) → Among i items → (i ≡ p.0) ⊎ Among i p.1

module _ {A : Type 0} (row_of : A → Row) (x : ℕ) where
  found_front : (i : A) (is : List A) (o : Option (A × List A)) → ((p : A × List A) → o ≡ Some p → Found row_of x is p)
      → (p : A × List A) → with_front i o ≡ Some p → Found row_of x (i ∷ is) p
  found_front i is None h p e = cc
  found_front i is (Some q) h p e =
      let f = h q refl in
      let k : (q.0, i ∷ q.1) ≡ p = cc in
      subst (Found row_of x (i ∷ is)) k (record {
        equation = f.equation;
        has_it = f.has_it;
        there = next f.there;
        others = λ j a. split j a f.others;
        all = λ j a. joined j a f.all;
      })
    where
      split : (j : A) → Among j (i ∷ q.1) → ((j : A) → Among j q.1 → Among j is) → Among j (i ∷ is)
      split j first k = first
      split j (next a) k = next (k j a)

      joined : (j : A) → Among j (i ∷ is) → ((j : A) → Among j is → (j ≡ q.0) ⊎ Among j q.1) → (j ≡ q.0) ⊎ Among j (i ∷ q.1)
      joined j first k = inr first
      joined j (next a) k = elim (k j a) [ inl e ↦ inl e | inr b ↦ inr (next b) ]

  pub found : (items : List A) (p : A × List A) → first_equation row_of x items ≡ Some p → Found row_of x items p
  found [] p e = cc
  found (i ∷ is) p e = by (found is) (is_equation (row_of i).rel && has x (row_of i)) refl e
    where
      by : ((p : A × List A) → first_equation row_of x is ≡ Some p → Found row_of x is p) → (b : Bool) → (is_equation (row_of i).rel && has x (row_of i)) ≡ b
          → (if b then Some (i, is) else with_front i (first_equation row_of x is)) ≡ Some p → Found row_of x (i ∷ is) p
      by ih true s t =
          let k : (i, is) ≡ p = cc in
          subst (Found row_of x (i ∷ is)) k (record {
            equation = is_eq (row_of i).rel (and_0 (is_equation (row_of i).rel) (has x (row_of i)) s);
            has_it = not_zero (coefficient (row_of i).pairs x) (and_1 (is_equation (row_of i).rel) (has x (row_of i)) s);
            there = first;
            others = λ j a. next a;
            all = λ j a. split j a;
          })
        where
          split : (j : A) → Among j (i ∷ is) → (j ≡ i) ⊎ Among j is
          split j first = inl refl
          split j (next a) = inr a
      by ih false s t = found_front i is (first_equation row_of x is) ih p t

  pub none_found : (items : List A) → first_equation row_of x items ≡ None → (i : A) → Among i items → (is_equation (row_of i).rel && has x (row_of i)) ≡ false
  none_found [] e i a = elim a [ ]
  none_found (j ∷ is) e i a = by (none_found is) (is_equation (row_of j).rel && has x (row_of j)) refl e i a
    where
      none_front : (o : Option (A × List A)) → with_front j o ≡ None → o ≡ None
      none_front None h = refl
      none_front (Some q) h = cc

      by : (first_equation row_of x is ≡ None → (i : A) → Among i is → (is_equation (row_of i).rel && has x (row_of i)) ≡ false)
          → (b : Bool) → (is_equation (row_of j).rel && has x (row_of j)) ≡ b
          → (if b then Some (j, is) else with_front j (first_equation row_of x is)) ≡ None
          → (i : A) → Among i (j ∷ is) → (is_equation (row_of i).rel && has x (row_of i)) ≡ false
      by ih true s t i m = cc
      by ih false s t i first = s
      by ih false s t i (next m) = ih (none_front (first_equation row_of x is) t) i m

-- ---- every element that elimination makes
abbrev pub is_lower : {A : Type 0} → (A → Row) → ℕ → A → Bool
is_lower row_of x i = int_lt (coefficient (row_of i).pairs x) (pos 0)

abbrev pub is_upper : {A : Type 0} → (A → Row) → ℕ → A → Bool
is_upper row_of x i = int_lt (pos 0) (coefficient (row_of i).pairs x)

abbrev pub is_free : {A : Type 0} → (A → Row) → ℕ → A → Bool
is_free row_of x i = not (has x (row_of i))

module _ {A : Type 0} (row_of : A → Row) (join : Rel → ℤ → A → ℤ → A → A) (x : ℕ) where
  pub pair_in : (ls us : List A) (l r : A) → Among l ls → Among r us → Among (bounded row_of join x l r) (bounded_by_each row_of join x ls us)
  pair_in [] us l r a b = elim a [ ]
  pair_in (s ∷ ls) us l r first b = among_front _ _ _ (among_mapped (bounded row_of join x l) b)
  pair_in (s ∷ ls) us l r (next a) b = among_back _ (map (bounded row_of join x s) us) _ (pair_in ls us l r a b)

  pair_out : (ls us : List A) (P : A → Type 0) → ((l r : A) → Among l ls → Among r us → P (bounded row_of join x l r)) → (j : A) → Among j (bounded_by_each row_of join x ls us) → P j
  pair_out [] us P h j a = elim a [ ]
  pair_out (l ∷ ls) us P h j a =
      elim (among_either j (map (bounded row_of join x l) us) (bounded_by_each row_of join x ls us) a) [
        | inl b ↦ mapped_out (bounded row_of join x l) us P (λ r c. h l r first c) j b
        | inr b ↦ pair_out ls us P (λ k r c d. h k r (next c) d) j b
      ]

  -- what holds of an element without x, of one that an equation has freed of it, and of one made of two bounds
  pub record Made (items : List A) (P : A → Type 0) : Type 0 where
    pub left : (i : A) → Among i items → coefficient (row_of i).pairs x ≡ pos 0 → P i
    pub by_equation : (e i : A) → Among e items → Among i items → (row_of e).rel ≡ Eq → 0 < unsigned_abs (coefficient (row_of e).pairs x)
        → let f = factors (coefficient (row_of e).pairs x) (coefficient (row_of i).pairs x) in
        P (join (row_of i).rel (pos f.1) i (opposed (coefficient (row_of e).pairs x) (coefficient (row_of i).pairs x) f.0) e)
    pub by_bounds : (l r : A) → Among l items → Among r items → IsLower x (row_of l) → IsUpper x (row_of r) → P (bounded row_of join x l r)

  substituted_out : (items : List A) (P : A → Type 0) → Made items P → (e i : A) → Among e items → Among i items → (row_of e).rel ≡ Eq → 0 < unsigned_abs (coefficient (row_of e).pairs x) → P (substituted row_of join x e i)
  substituted_out items P m e i ae ai q h = by (m.by_equation e i ae ai q h) (has x (row_of i)) refl
    where
      by : (let f = factors (coefficient (row_of e).pairs x) (coefficient (row_of i).pairs x) in
          P (join (row_of i).rel (pos f.1) i (opposed (coefficient (row_of e).pairs x) (coefficient (row_of i).pairs x) f.0) e))
          → (b : Bool) → has x (row_of i) ≡ b
          → P (if b then
          (let f = factors (coefficient (row_of e).pairs x) (coefficient (row_of i).pairs x) in
          join (row_of i).rel (pos f.1) i (opposed (coefficient (row_of e).pairs x) (coefficient (row_of i).pairs x) f.0) e)
          else i)
      by p true s = p
      by p false s = m.left i ai (zero_has (coefficient (row_of i).pairs x) s)

  pub made : (items : List A) (P : A → Type 0) → Made items P → (j : A) → Among j (eliminated row_of join x items) → P j
  made items P m j = by (first_equation row_of x items) refl
    where
      by : (o : Option (A × List A)) → first_equation row_of x items ≡ o → Among j (eliminated_by row_of join x items o) → P j
      by (Some p) e a =
          let f = found row_of x items p e in
          mapped_out (substituted row_of join x p.0) p.1 P (λ i b. substituted_out items P m p.0 i f.there (f.others i b) f.equation f.has_it) j a
      by None e a =
          elim (among_either j (without row_of x items) (bounded_by_each row_of join x (lowers row_of x items) (uppers row_of x items)) a) [
            | inl b ↦ let o = filter_out (is_free row_of x) items j b in m.left j o.0 (zero_has _ (not_back _ o.1))
            | inr b ↦ pair_out (lowers row_of x items) (uppers row_of x items) P (λ l r al ar.
                let ol = filter_out (is_lower row_of x) items l al in
                let or = filter_out (is_upper row_of x) items r ar in
                m.by_bounds l r ol.0 or.0 (less_true _ _ ol.1) (less_true _ _ or.1)) j b
          ]
