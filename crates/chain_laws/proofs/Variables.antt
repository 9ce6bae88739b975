-- The least variable of a chain's items, and lists of all their variables.
use Rattle.std.proofs.Common.{◌≡◌, ℕ, zero, suc, ◌+◌, ◌<◌, ◌≤◌, List, [], ◌∷◌, ◌++◌, map, length, Bool, true, false, not, ◌⊎◌, inl, inr, arith, refl, ◌∙◌, ap, subst, eq-eqb}
use Rattle.std.specs.Prelude.{Option, Some, None, nat_eq, nat_lt, if◌then◌else◌}
use Rattle.std.specs.List.{filter}
use Rattle.std.proofs.Math.IntN.{ℤ, pos, ◌+ℤ◌}
use Rattle.std.proofs.lemmas.Int.{ints}
use Rattle.std.proofs.lemmas.Bool.{eqb-true, ltb-true, ltb-false}
use Rattle.std.proofs.lemmas.List.{length-append, length-map}
use Rattle.clp_model.proofs.Membership.{Among, first, next, among_front, among_back}
use Rattle.linear_model.specs.Forms.{IsRising, is_zero, coefficient}
use Rattle.linear_model.specs.Elimination.{has}
use Rattle.linear_model.specs.Items.{Item, turn, kept}
use Rattle.linear_model.specs.Chain.{first_variable, lesser, least_variable, places}
use Rattle.linear_laws.proofs.Rising.{first_coefficient, first_is_least}
use Rattle.linear_laws.proofs.Bounded.{not_yes, zero_has_not}
use Rattle.linear_laws.proofs.Lists.{filter_in}
use Rattle.chain_laws.proofs.Turns.{kept_from, turn_rising, turn_gone, turn_none_comes}

abbrev pub Risings : List Item → Type 0
Risings items = (i : Item) → Among i items → IsRising i.row.pairs

-- ---- the least variable
abbrev pub Least : List Item → Option ℕ → Type 0
Least items None = (i : Item) → Among i items → i.row.pairs ≡ []
Least items (Some x) = ((i : Item) × Among i items × (has x i.row ≡ true)) × ((i : Item) → Among i items → (v : ℕ) → v < x → coefficient i.row.pairs v ≡ pos 0)

has_first : (i : Item) (p : ℕ × ℤ) (ps : List (ℕ × ℤ)) → i.row.pairs ≡ p ∷ ps → IsRising (p ∷ ps) → has p.0 i.row ≡ true
has_first i p ps e r =
    let a : coefficient i.row.pairs p.0 ≡ p.1 = ap (λ qs. coefficient qs p.0) e ∙ first_coefficient p ps r in
    let b : is_zero (coefficient i.row.pairs p.0) ≡ false = ap is_zero a ∙ r.0 in
    not_yes (is_zero (coefficient i.row.pairs p.0)) b

zero_first : (i : Item) (p : ℕ × ℤ) (ps : List (ℕ × ℤ)) (v : ℕ) → i.row.pairs ≡ p ∷ ps → IsRising (p ∷ ps) → v < p.0 → coefficient i.row.pairs v ≡ pos 0
zero_first i p ps v e r h = ap (λ qs. coefficient qs v) e ∙ first_is_least p ps v r h

zero_empty : (i : Item) (v : ℕ) → i.row.pairs ≡ [] → coefficient i.row.pairs v ≡ pos 0
zero_empty i v e = ap (λ qs. coefficient qs v) e

one_more : (i : Item) (items : List Item) (ps : List (ℕ × ℤ)) → i.row.pairs ≡ ps → IsRising ps → (o : Option ℕ) → Least items o → Least (i ∷ items) (lesser (first_variable ps) o)
one_more i items [] e r None l = all
  where
    all : (j : Item) → Among j (i ∷ items) → j.row.pairs ≡ []
    all j first = e
    all j (next a) = l j a
one_more i items [] e r (Some x) l = ((l.0.0, next l.0.1, l.0.2), all)
  where
    all : (j : Item) → Among j (i ∷ items) → (v : ℕ) → v < x → coefficient j.row.pairs v ≡ pos 0
    all j first v h = zero_empty i v e
    all j (next a) v h = l.1 j a v h
one_more i items (p ∷ ps) e r None l = ((i, first, has_first i p ps e r), all)
  where
    all : (j : Item) → Among j (i ∷ items) → (v : ℕ) → v < p.0 → coefficient j.row.pairs v ≡ pos 0
    all j first v h = zero_first i p ps v e r h
    all j (next a) v h = zero_empty j v (l j a)
one_more i items (p ∷ ps) e r (Some x) l = by (nat_lt x p.0) refl
  where
    by : (b : Bool) → nat_lt x p.0 ≡ b → Least (i ∷ items) (Some (if b then x else p.0))
    by true c = ((l.0.0, next l.0.1, l.0.2), all)
      where
        all : (j : Item) → Among j (i ∷ items) → (v : ℕ) → v < x → coefficient j.row.pairs v ≡ pos 0
        all j first v h = let k = ltb-true x p.0 c in zero_first i p ps v e r (omega arith)
        all j (next a) v h = l.1 j a v h
    by false c = ((i, first, has_first i p ps e r), all)
      where
        all : (j : Item) → Among j (i ∷ items) → (v : ℕ) → v < p.0 → coefficient j.row.pairs v ≡ pos 0
        all j first v h = zero_first i p ps v e r h
        all j (next a) v h = let k = ltb-false x p.0 c in l.1 j a v (omega arith)

pub least : (items : List Item) → Risings items → Least items (least_variable items)
least [] h = λ i a. elim a [ ]
least (i ∷ items) h = one_more i items i.row.pairs refl (h i first) (least_variable items) (least items (λ j a. h j (next a)))

-- ---- the variables are among xs
abbrev pub Within : List ℕ → List Item → Type 0
Within xs items = (v : ℕ) → ¬ (Among v xs) → (i : Item) → Among i items → coefficient i.row.pairs v ≡ pos 0

-- rising rows with variables among xs, of which there are at most n
pub record Bounded (n : ℕ) (xs : List ℕ) (items : List Item) : Type 0 where
  pub rising : Risings items
  pub within : Within xs items
  pub few : length xs ≤ n

abbrev pub removed : ℕ → List ℕ → List ℕ
removed x xs = filter (λ v. not (nat_eq v x)) xs

removed_shorter : (x : ℕ) (xs : List ℕ) → length (removed x xs) ≤ length xs
removed_shorter x [] = omega arith
removed_shorter x (v ∷ xs) = by (nat_eq v x) (removed_shorter x xs)
  where
    by : (b : Bool) → length (removed x xs) ≤ length xs → length (if not b then v ∷ removed x xs else removed x xs) ≤ suc (length xs)
    by true ih = omega arith
    by false ih = omega arith

removed_less : (x : ℕ) (xs : List ℕ) → Among x xs → length (removed x xs) < length xs
removed_less x [] a = elim a [ ]
removed_less x (v ∷ xs) first = by (nat_eq v v) (eq-eqb v v refl) (removed_shorter v xs)
  where
    by : (b : Bool) → b ≡ true → length (removed v xs) ≤ length xs → length (if not b then v ∷ removed v xs else removed v xs) < suc (length xs)
    by true e ih = omega arith
    by false e ih = cc
removed_less x (v ∷ xs) (next a) = by (nat_eq v x) (removed_less x xs a)
  where
    by : (b : Bool) → length (removed x xs) < length xs → length (if not b then v ∷ removed x xs else removed x xs) < suc (length xs)
    by true ih = omega arith
    by false ih = omega arith

-- what isn't among those left is x, or isn't among xs
not_left : (x : ℕ) (xs : List ℕ) (v : ℕ) → ¬ (Among v (removed x xs)) → (v ≡ x) ⊎ (¬ (Among v xs))
not_left x xs v n = by (nat_eq v x) refl
  where
    by : (b : Bool) → nat_eq v x ≡ b → (v ≡ x) ⊎ (¬ (Among v xs))
    by true e = inl (eqb-true v x e)
    by false e = inr (λ a. n (filter_in (λ v. not (nat_eq v x)) xs v a (not_yes _ e)))

among_or_not : (x : ℕ) (xs : List ℕ) → Among x xs ⊎ (¬ (Among x xs))
among_or_not x [] = inr (λ a. elim a [ ])
among_or_not x (v ∷ xs) = by (nat_eq v x) refl (among_or_not x xs)
  where
    by : (b : Bool) → nat_eq v x ≡ b → Among x xs ⊎ (¬ (Among x xs)) → Among x (v ∷ xs) ⊎ (¬ (Among x (v ∷ xs)))
    by true e o = inl (subst (λ y. Among y (v ∷ xs)) (eqb-true v x e) first)
    by false e (inl a) = inl (next a)
    by false e (inr n) = inr (λ a. neither a)
      where
        -- x is not v, and is not among the others
        differs : (y : ℕ) → y ≡ x → Among y (v ∷ xs) → (¬ (Among y xs)) → (v ≡ y)
        differs y q first m = refl
        differs y q (next a) m = absurd (m a)

        neither : Among x (v ∷ xs) → ⊥
        neither a = let k = eq-eqb v x (differs x refl a n) in cc

-- ---- one turn leaves one variable less
variable_among : (n : ℕ) (xs : List ℕ) (items : List Item) (x : ℕ) → Bounded n xs items → least_variable items ≡ Some x → Among x xs
variable_among n xs items x b e = elim (among_or_not x xs) [
  | inl a ↦ a
  | inr m ↦
      let l = subst (Least items) e (least items b.rising) in
      let z = b.within x m l.0.0 l.0.1 in
      let h = l.0.2 in
      absurd (let k = zero_has_not x l.0.0.row z in cc)
]

pub none_left : (xs : List ℕ) (items : List Item) → Bounded zero xs items → least_variable items ≡ None
none_left xs items b = by (least_variable items) refl
  where
    empty : (x : ℕ) (ys : List ℕ) → length ys ≤ 0 → Among x ys → ⊥
    empty x [] h a = elim a [ ]
    empty x (y ∷ ys) h a = omega arith

    by : (o : Option ℕ) → least_variable items ≡ o → o ≡ None
    by None e = refl
    by (Some x) e = absurd (empty x xs b.few (variable_among zero xs items x b e))

pub one_less : (n : ℕ) (xs : List ℕ) (items : List Item) (x : ℕ) → Bounded (suc n) xs items → least_variable items ≡ Some x → Bounded n (removed x xs) (kept (turn x items))
one_less n xs items x b e = record {
  rising = λ i a. turn_rising x items b.rising i (kept_from (turn x items) i a);
  within = λ v m i a. elim (not_left x xs v m) [
    | inl q ↦ ap (coefficient i.row.pairs) q ∙ turn_gone x items i (kept_from (turn x items) i a)
    | inr k ↦ turn_none_comes x items v (b.within v k) i (kept_from (turn x items) i a)
  ];
  few = let l = removed_less x xs (variable_among (suc n) xs items x b e) in let f = b.few in omega arith;
}

-- each turn's variable is greater than the one before
pub least_rises : (items : List Item) (x y : ℕ) → Risings items → least_variable items ≡ Some x → least_variable (kept (turn x items)) ≡ Some y → x < y
least_rises items x y h e f = by (compared x y)
  where
    compared : (m n : ℕ) → (m < n) ⊎ ((n ≡ m) ⊎ (n < m))
    compared m n = by_less (nat_lt m n) refl (nat_lt n m) refl
      where
        by_less : (s : Bool) → nat_lt m n ≡ s → (t : Bool) → nat_lt n m ≡ t → (m < n) ⊎ ((n ≡ m) ⊎ (n < m))
        by_less true s t u = inl (ltb-true m n s)
        by_less false s true u = inr (inr (ltb-true n m u))
        by_less false s false u = let a = ltb-false m n s in let b = ltb-false n m u in inr (inl (omega arith))

    later : Least (kept (turn x items)) (Some y)
    later = subst (Least (kept (turn x items))) f (least (kept (turn x items)) (λ i a. turn_rising x items h i (kept_from (turn x items) i a)))

    none : (j : Item) → coefficient j.row.pairs y ≡ pos 0 → has y j.row ≡ true → ⊥
    none j z k = let n = zero_has_not y j.row z in cc

    by : (x < y) ⊎ ((y ≡ x) ⊎ (y < x)) → x < y
    by (inl l) = l
    by (inr (inl q)) =
        let j = later.0 in
        absurd (none j.0 (ap (coefficient j.0.row.pairs) q ∙ turn_gone x items j.0 (kept_from (turn x items) j.0 j.1)) j.2)
    by (inr (inr l)) =
        let j = later.0 in
        let old = subst (Least items) e (least items h) in
        absurd (none j.0 (turn_none_comes x items y (λ i a. old.1 i a y l) j.0 (kept_from (turn x items) j.0 j.1)) j.2)

-- ---- the variables of the items, as often as they occur
names : List (ℕ × ℤ) → List ℕ
names ps = map (λ p. p.0) ps

pub variables : List Item → List ℕ
variables [] = []
variables (i ∷ items) = names i.row.pairs ++ variables items

count_is : (items : List Item) → length (variables items) ≡ places items
unfolding variables names
count_is [] = refl
count_is (i ∷ items) = let f : ℕ × ℤ → ℕ = λ p. p.0 in length-append (map f i.row.pairs) (variables items) ∙ (ap (λ n. n + length (variables items)) (length-map i.row.pairs f) ∙ ap (λ n. length i.row.pairs + n) (count_is items))

no_pair : (v : ℕ) (ps : List (ℕ × ℤ)) → ¬ (Among v (names ps)) → coefficient ps v ≡ pos 0
unfolding names
no_pair v [] n = refl
no_pair v (p ∷ ps) n = by (nat_eq p.0 v) refl (no_pair v ps (λ a. n (next a)))
  where
    by : (b : Bool) → nat_eq p.0 v ≡ b → coefficient ps v ≡ pos 0 → (if b then p.1 else pos 0) +ℤ coefficient ps v ≡ pos 0
    by true e ih = absurd (n (subst (λ y. Among y (names (p ∷ ps))) (eqb-true p.0 v e) first))
    by false e ih = omega (arith, ints)

no_item : (items : List Item) → Within (variables items) items
unfolding variables
no_item [] v n i a = elim a [ ]
no_item (i ∷ items) v n j first = no_pair v j.row.pairs (λ a. n (among_front v (names j.row.pairs) (variables items) a))
no_item (i ∷ items) v n j (next a) = no_item items v (λ b. n (among_back v (names i.row.pairs) (variables items) b)) j a

pub all_variables : (items : List Item) (n : ℕ) → Risings items → places items ≤ n → Bounded n (variables items) items
all_variables items n h l = record { rising = h; within = no_item items; few = let c = count_is items in omega arith }
