-- Lists without repeats.
use Rattle.std.proofs.Common.{◌≡◌, List, [], ◌∷◌, ◌++◌, Bool, true, false, refl, sym, ◌∙◌, ap, subst, ◌⊎◌, inl, inr}
use Rattle.std.specs.Prelude.{◌||◌, if◌then◌else◌}
use Rattle.std.specs.List.{list_any}
use Rattle.std.proofs.lemmas.List.{append_assoc, append-nil}
use Rattle.clp_model.specs.Predicates.{with_element, distinct_after}
use Rattle.unify_laws.proofs.Solved.{among_cases}
use Rattle.clp_model.proofs.Membership.{Among, first, next, among_back, among_either}

-- no element is equal to a later one
abbrev pub AreDistinct : {A : Type 0} → List A → Type 0
AreDistinct [] = Unit {0}
AreDistinct {A} (x ∷ xs) = (¬ Among x xs) × AreDistinct xs

pub only_one : {A : Type 0} (k x : A) → Among k (x ∷ []) → k ≡ x
only_one k x first = refl
only_one k x (next a) = elim a [ ]

-- x, put last, is equal to none before it
pub last_distinct : {A : Type 0} (xs : List A) (x : A) → AreDistinct xs → ¬ Among x xs → AreDistinct (xs ++ x ∷ [])
last_distinct [] x d n = ((λ a. elim a [ ]), tt)
last_distinct (y ∷ xs) x d n = (
  (λ a. elim (among_either y xs (x ∷ []) a) [ inl k ↦ d.0 k | inr k ↦ n (subst (λ z. Among z (y ∷ xs)) (only_one y x k) first) ]),
  last_distinct xs x d.1 (λ a. n (next a)),
)

pub front_distinct : {A : Type 0} (xs : List A) (x : A) (ys : List A) → AreDistinct (xs ++ x ∷ ys) → ¬ Among x xs
front_distinct [] x ys d a = elim a [ ]
front_distinct (y ∷ xs) x ys d a = among_cases a
    (λ e. d.0 (subst (λ z. Among z (xs ++ x ∷ ys)) e (among_back x xs (x ∷ ys) first)))
    (λ k. front_distinct xs x ys d.1 k)

-- a test of equality
pub record IsEquality {A : Type 0} (same : A → A → Bool) : Type 0 where
  pub sound : (x y : A) → same x y ≡ true → x ≡ y
  pub reflexive : (x : A) → same x x ≡ true

either_true : (a b : Bool) → b ≡ true → (a || b) ≡ true
either_true true b h = refl
either_true false b h = h

module _ {A : Type 0} (same : A → A → Bool) (is : IsEquality same) where
  pub found_among : (x : A) (found : List A) → list_any (λ y. same y x) found ≡ true → Among x found
  found_among x [] e = absurd (cc)
  found_among x (y ∷ found) e = by (found_among x found) (same y x) refl e
    where
      by : (list_any (λ z. same z x) found ≡ true → Among x found) → (b : Bool) → same y x ≡ b → (b || list_any (λ z. same z x) found) ≡ true → Among x (y ∷ found)
      by again true k h = subst (λ z. Among z (y ∷ found)) (is.sound y x k) first
      by again false k h = next (again h)

  pub among_found : (x : A) (found : List A) → Among x found → list_any (λ y. same y x) found ≡ true
  among_found x [] a = elim a [ ]
  among_found x (y ∷ found) a = among_cases a
      (λ e. let q : same y x ≡ true = subst (λ w. same y w ≡ true) (sym e) (is.reflexive y) in ap (λ b. b || list_any (λ w. same w x) found) q)
      (λ k. either_true (same y x) (list_any (λ w. same w x) found) (among_found x found k))

  not_found : (x : A) (found : List A) → ¬ Among x found → list_any (λ y. same y x) found ≡ false
  not_found x found n = by (list_any (λ y. same y x) found) refl
    where
      by : (b : Bool) → list_any (λ y. same y x) found ≡ b → b ≡ false
      by false e = refl
      by true e = absurd (n (found_among x found e))

  -- x is there, or is put last
  pub with_old : (found : List A) (x : A) → Among x found → with_element same found x ≡ found
  with_old found x a = ap (λ b. if b then found else found ++ x ∷ []) (among_found x found a)

  pub with_new : (found : List A) (x : A) → ¬ Among x found → with_element same found x ≡ found ++ x ∷ []
  with_new found x n = ap (λ b. if b then found else found ++ x ∷ []) (not_found x found n)

  pub among_or_not : (x : A) (found : List A) → Among x found ⊎ ¬ Among x found
  among_or_not x found = by (list_any (λ y. same y x) found) refl
    where
      by : (b : Bool) → list_any (λ y. same y x) found ≡ b → Among x found ⊎ ¬ Among x found
      by true e = inl (found_among x found e)
      by false e = inr (λ a. let t = among_found x found a in cc)

  -- a list without repeats stays
  pub distinct_stays : (found xs : List A) → AreDistinct (found ++ xs) → distinct_after same found xs ≡ found ++ xs
  distinct_stays found [] d = sym (append-nil found)
  distinct_stays found (x ∷ xs) d =
      let n = front_distinct found x xs d in
      ap (λ f. distinct_after same f xs) (with_new found x n)
      ∙ (distinct_stays (found ++ x ∷ []) xs (subst AreDistinct (sym (append_assoc found (x ∷ []) xs)) d)
      ∙ append_assoc found (x ∷ []) xs)

  -- and what is made has no repeats
  pub distinct_made : (found xs : List A) → AreDistinct found → AreDistinct (distinct_after same found xs)
  distinct_made found [] d = d
  distinct_made found (x ∷ xs) d = elim (among_or_not x found) [
    | inl a ↦ subst (λ f. AreDistinct (distinct_after same f xs)) (sym (with_old found x a)) (distinct_made found xs d)
    | inr n ↦ subst (λ f. AreDistinct (distinct_after same f xs)) (sym (with_new found x n)) (distinct_made (found ++ x ∷ []) xs (last_distinct found x d n))
  ]

  -- what was found stands in front
  pub distinct_extends : (found xs : List A) → (rest : List A) × (distinct_after same found xs ≡ found ++ rest)
  distinct_extends found [] = ([], sym (append-nil found))
  distinct_extends found (x ∷ xs) = elim (among_or_not x found) [
    | inl a ↦ let r = distinct_extends found xs in (r.0, ap (λ f. distinct_after same f xs) (with_old found x a) ∙ r.1)
    | inr n ↦
        let r = distinct_extends (found ++ x ∷ []) xs in
        (x ∷ r.0, ap (λ f. distinct_after same f xs) (with_new found x n) ∙ (r.1 ∙ append_assoc found (x ∷ []) r.0))
  ]

  -- each element of what is made was found or is in the list
  pub distinct_from : (found xs : List A) (y : A) → Among y (distinct_after same found xs) → Among y found ⊎ Among y xs
  distinct_from found [] y a = inl a
  distinct_from found (x ∷ xs) y a = elim (among_or_not x found) [
    | inl k ↦ elim (distinct_from found xs y (subst (λ f. Among y (distinct_after same f xs)) (with_old found x k) a)) [ inl f ↦ inl f | inr m ↦ inr (next m) ]
    | inr n ↦ elim (distinct_from (found ++ x ∷ []) xs y (subst (λ f. Among y (distinct_after same f xs)) (with_new found x n) a)) [
      | inl f ↦ elim (among_either y found (x ∷ []) f) [ inl g ↦ inl g | inr g ↦ inr (subst (λ z. Among z (x ∷ xs)) (sym (only_one y x g)) first) ]
      | inr m ↦ inr (next m)
    ]
  ]
