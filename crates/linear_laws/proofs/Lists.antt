-- Members of filtered, mapped and distinct lists.
use Rattle.std.proofs.Common.{◌≡◌, List, [], ◌∷◌, ◌++◌, map, Bool, true, false, ◌⊎◌, inl, inr, refl, sym, subst}
use Rattle.std.specs.Prelude.{if◌then◌else◌, ◌||◌}
use Rattle.std.specs.List.{filter, list_any}
use Rattle.clp_model.specs.Predicates.{with_element, distinct_after}
use Rattle.clp_model.proofs.Membership.{Among, first, next, among_front, among_either, among_last}

pub filter_in : {A : Type 0} (t : A → Bool) (xs : List A) (x : A) → Among x xs → t x ≡ true → Among x (filter t xs)
filter_in t [] x a e = elim a [ ]
filter_in {A} t (y ∷ xs) x a e = by (filter_in t xs) (t y) refl x a e
  where
    by : ((x : A) → Among x xs → t x ≡ true → Among x (filter t xs)) → (b : Bool) → t y ≡ b → (x : A) → Among x (y ∷ xs) → t x ≡ true
        → Among x (if b then y ∷ filter t xs else filter t xs)
    by ih true i x first h = first
    by ih true i x (next m) h = next (ih x m h)
    by ih false i x first h = absurd (cc)
    by ih false i x (next m) h = ih x m h

pub filter_out : {A : Type 0} (t : A → Bool) (xs : List A) (x : A) → Among x (filter t xs) → Among x xs × (t x ≡ true)
filter_out t [] x a = elim a [ ]
filter_out {A} t (y ∷ xs) x a = by (filter_out t xs) (t y) refl x a
  where
    by : ((x : A) → Among x (filter t xs) → Among x xs × (t x ≡ true)) → (b : Bool) → t y ≡ b → (x : A)
        → Among x (if b then y ∷ filter t xs else filter t xs) → Among x (y ∷ xs) × (t x ≡ true)
    by ih true i x first = (first, i)
    by ih true i x (next m) = let h = ih x m in (next h.0, h.1)
    by ih false i x m = let h = ih x m in (next h.0, h.1)

pub mapped_out : {A B : Type 0} (f : A → B) (xs : List A) (P : B → Type 0) → ((x : A) → Among x xs → P (f x)) → (y : B) → Among y (map f xs) → P y
mapped_out f [] P h y a = elim a [ ]
mapped_out f (x ∷ xs) P h y first = h x first
mapped_out f (x ∷ xs) P h y (next a) = mapped_out f xs P (λ t b. h t (next b)) y a

-- ---- distinct elements
with_out : {A : Type 0} (same : A → A → Bool) (found : List A) (x y : A) → Among y (with_element same found x) → Among y found ⊎ (y ≡ x)
with_out {A} same found x y = by (list_any (λ z. same z x) found)
  where
    only : (y : A) → Among y (x ∷ []) → y ≡ x
    only y first = refl
    only y (next a) = elim a [ ]

    by : (b : Bool) → Among y (if b then found else found ++ x ∷ []) → Among y found ⊎ (y ≡ x)
    by true a = inl a
    by false a = elim (among_either y found (x ∷ []) a) [ inl b ↦ inl b | inr c ↦ inr (only y c) ]

pub distinct_out : {A : Type 0} (same : A → A → Bool) (found xs : List A) (y : A) → Among y (distinct_after same found xs) → Among y found ⊎ Among y xs
distinct_out same found [] y a = inl a
distinct_out same found (x ∷ xs) y a =
    elim (distinct_out same (with_element same found x) xs y a) [
      | inl b ↦ elim (with_out same found x y b) [ inl c ↦ inl c | inr e ↦ inr (subst (λ s. Among s (x ∷ xs)) (sym e) first) ]
      | inr b ↦ inr (next b)
    ]

with_keeps : {A : Type 0} (same : A → A → Bool) (found : List A) (x y : A) → Among y found → Among y (with_element same found x)
with_keeps same found x y m = by (list_any (λ z. same z x) found)
  where
    by : (b : Bool) → Among y (if b then found else found ++ x ∷ [])
    by true = m
    by false = among_front y found (x ∷ []) m

distinct_keeps : {A : Type 0} (same : A → A → Bool) (found xs : List A) (y : A) → Among y found → Among y (distinct_after same found xs)
distinct_keeps same found [] y m = m
distinct_keeps same found (x ∷ xs) y m = distinct_keeps same (with_element same found x) xs y (with_keeps same found x y m)

-- an element of the list that is like y
pub record LikeIn {A : Type 0} (Like : A → A → Type 0) (y : A) (xs : List A) : Type 0 where
  pub element : A
  pub there : Among element xs
  pub like : Like element y

module _ {A : Type 0} (same : A → A → Bool) (Like : A → A → Type 0) (self : (x : A) → Like x x) (same_like : (x y : A) → same x y ≡ true → Like x y) where
  in_more : (y z : A) (xs : List A) → LikeIn Like y xs → LikeIn Like y (z ∷ xs)
  in_more y z xs l = record { element = l.element; there = next l.there; like = l.like }

  any_like : (found : List A) (y : A) → list_any (λ z. same z y) found ≡ true → LikeIn Like y found
  any_like [] y e = absurd (cc)
  any_like (x ∷ found) y e = by (same x y) refl (any_like found y) e
    where
      by : (b : Bool) → same x y ≡ b → (list_any (λ z. same z y) found ≡ true → LikeIn Like y found) → (b || list_any (λ z. same z y) found) ≡ true → LikeIn Like y (x ∷ found)
      by true s ih h = record { element = x; there = first; like = same_like x y s }
      by false s ih h = in_more y x found (ih h)

  with_like : (found : List A) (y : A) → LikeIn Like y (with_element same found y)
  with_like found y = by (list_any (λ z. same z y) found) refl
    where
      by : (b : Bool) → list_any (λ z. same z y) found ≡ b → LikeIn Like y (if b then found else found ++ y ∷ [])
      by true e = any_like found y e
      by false e = record { element = y; there = among_last y found; like = self y }

  pub distinct_like : (found xs : List A) (y : A) → Among y xs → LikeIn Like y (distinct_after same found xs)
  distinct_like found [] y m = elim m [ ]
  distinct_like found (x ∷ xs) y first =
      let l = with_like found y in
      record { element = l.element; there = distinct_keeps same (with_element same found y) xs l.element l.there; like = l.like }
  distinct_like found (x ∷ xs) y (next m) = distinct_like (with_element same found x) xs y m
