-- The numbers from 1 on, and lists that are numbered by first occurrence.
use Rattle.std.proofs.Common.{◌≡◌, ℕ, zero, suc, ◌+◌, ◌<◌, ◌≤◌, List, [], ◌∷◌, ◌++◌, length, Bool, true, false, arith, refl, sym, ◌∙◌, ap, subst, eq-eqb, map, ◌⊎◌, inl, inr}
use Rattle.std.specs.Prelude.{nat_eq, if◌then◌else◌}
use Rattle.std.proofs.lemmas.Bool.{eqb-true}
use Rattle.std.proofs.lemmas.List.{append_assoc, append-nil, length-append}
use Rattle.std.proofs.Math.IntN.{ℤ}
use Rattle.clp_model.specs.Predicates.{distinct_after}
use Rattle.clp_model.specs.Canonical.{place_in}
use Rattle.clp_model.proofs.Membership.{Among, first, next, among_front, among_back, among_either}
use Rattle.linear_model.specs.Forms.{Above, IsRising}
use Rattle.unify_laws.proofs.Solved.{among_cases}
use Rattle.clause_laws.proofs.Distinct.{IsEquality, only_one, with_old, with_new, among_or_not, distinct_extends}

pub number_equality : IsEquality nat_eq
number_equality = record { sound = eqb-true; reflexive = λ n. eq-eqb n n refl }

-- n numbers, the first of which is k + 1
abbrev pub numbers : ℕ → ℕ → List ℕ
numbers k zero = []
numbers k (suc n) = suc k ∷ numbers (suc k) n

abbrev pub upto : ℕ → List ℕ
upto n = numbers 0 n

apart : (m i : ℕ) → ¬ (m ≡ i) → m ≤ i → m < i
apart zero zero d l = absurd (d refl)
apart zero (suc i) d l = omega arith
apart (suc m) zero d l = absurd (omega arith)
apart (suc m) (suc i) d l = let r = apart m i (λ e. d (ap suc e)) (omega arith) in omega arith

equal_where : (m n : ℕ) → m ≤ n → ¬ (suc m ≤ n) → m ≡ n
equal_where zero zero a b = refl
equal_where zero (suc n) a b = absurd (b (omega arith))
equal_where (suc m) zero a b = absurd (omega arith)
equal_where (suc m) (suc n) a b = ap suc (equal_where m n (omega arith) (λ q. b (omega arith)))

over : (k n : ℕ) → ¬ (n ≤ k) → k < n
over zero zero a = absurd (a (omega arith))
over zero (suc n) a = omega arith
over (suc k) zero a = absurd (a (omega arith))
over (suc k) (suc n) a = let i = over k n (λ q. a (omega arith)) in omega arith

after : (m : ℕ) (ps : List (ℕ × ℤ)) → Above m ps → (n : ℕ) → Among n (map (λ p. p.0) ps) → m < n
after m [] a n i = elim i [ ]
after m (q ∷ qs) a n i = among_cases i (λ e. let b = a.0 in omega arith) (λ k. after m qs a.1 n k)

numbers_last : (k n : ℕ) → numbers k n ++ suc (k + n) ∷ [] ≡ numbers k (suc n)
numbers_last k zero = ap (λ m. suc m ∷ []) (omega arith)
numbers_last k (suc n) =
    let e : suc (k + suc n) ≡ suc (suc k + n) = omega arith in
    ap (λ m. suc k ∷ (numbers (suc k) n ++ m ∷ [])) e ∙ ap (λ ns. suc k ∷ ns) (numbers_last (suc k) n)

pub upto_last : (n : ℕ) → upto n ++ suc n ∷ [] ≡ upto (suc n)
upto_last n = ap (λ m. upto n ++ suc m ∷ []) (let e : n ≡ 0 + n = omega arith in e) ∙ numbers_last 0 n

pub numbers_has : (k n i : ℕ) → k < i → i ≤ k + n → Among i (numbers k n)
numbers_has k zero i l h = absurd (omega arith)
numbers_has k (suc n) i l h = by (nat_eq (suc k) i) refl (λ m. numbers_has (suc k) n i m (omega arith))
  where
    by : (b : Bool) → nat_eq (suc k) i ≡ b → (suc k < i → Among i (numbers (suc k) n)) → Among i (numbers k (suc n))
    by true e again = subst (λ j. Among j (numbers k (suc n))) (eqb-true (suc k) i e) first
    by false e again = let d : ¬ (suc k ≡ i) = (λ q. let t = eq-eqb (suc k) i q in cc) in next (again (apart (suc k) i d l))

pub upto_has : (n i : ℕ) → 0 < i → i ≤ n → Among i (upto n)
upto_has n i l h = numbers_has 0 n i l (omega arith)

pub numbers_within : (k n i : ℕ) → Among i (numbers k n) → (k < i) × (i ≤ k + n)
numbers_within k zero i a = elim a [ ]
numbers_within k (suc n) i a = among_cases a (λ e. (omega arith, omega arith)) (λ m. let r = numbers_within (suc k) n i m in (omega (arith, r.0), omega (arith, r.1)))

pub upto_within : (n i : ℕ) → Among i (upto n) → (0 < i) × (i ≤ n)
upto_within n i a = let r = numbers_within 0 n i a in (r.0, omega (arith, r.1))

place_numbers : (k n i : ℕ) → k < i → i ≤ k + n → k + place_in (numbers k n) i ≡ i
place_numbers k zero i l h = absurd (omega arith)
place_numbers k (suc n) i l h = by (nat_eq (suc k) i) refl (λ m. place_numbers (suc k) n i m (omega arith))
  where
    by : (b : Bool) → nat_eq (suc k) i ≡ b → (suc k < i → suc k + place_in (numbers (suc k) n) i ≡ i) → k + (if b then 1 else suc (place_in (numbers (suc k) n) i)) ≡ i
    by true e again = let q = eqb-true (suc k) i e in omega arith
    by false e again = let d : ¬ (suc k ≡ i) = (λ q. let t = eq-eqb (suc k) i q in cc) in let r = again (apart (suc k) i d l) in omega arith

-- a number is its own place in them
pub place_upto : (n i : ℕ) → 0 < i → i ≤ n → place_in (upto n) i ≡ i
place_upto n i l h = let r = place_numbers 0 n i l (omega arith) in omega arith

-- ---- places in a list and in what extends it
pub place_positive : (met : List ℕ) (v : ℕ) → 0 < place_in met v
place_positive [] v = omega arith
place_positive (m ∷ met) v = by (nat_eq m v)
  where
    by : (b : Bool) → 0 < (if b then 1 else suc (place_in met v))
    by true = omega arith
    by false = omega arith

pub place_front : (found rest : List ℕ) (v : ℕ) → Among v found → place_in (found ++ rest) v ≤ length found
place_front [] rest v a = elim a [ ]
place_front (m ∷ found) rest v a = by (nat_eq m v) refl
    (among_cases a (λ e. inl (sym e)) (λ k. inr (place_front found rest v k)))
  where
    by : (b : Bool) → nat_eq m v ≡ b → (m ≡ v) ⊎ (place_in (found ++ rest) v ≤ length found) → (if b then 1 else suc (place_in (found ++ rest) v)) ≤ suc (length found)
    by true e h = omega arith
    by false e (inl q) = absurd (let t = eq-eqb m v q in cc)
    by false e (inr l) = omega arith

pub place_new : (found : List ℕ) (x : ℕ) (rest : List ℕ) → ¬ Among x found → place_in (found ++ x ∷ rest) x ≡ suc (length found)
place_new [] x rest n = ap (λ b. if b then 1 else suc (place_in rest x)) (eq-eqb x x refl)
place_new (m ∷ found) x rest n = by (nat_eq m x) refl (place_new found x rest (λ a. n (next a)))
  where
    by : (b : Bool) → nat_eq m x ≡ b → place_in (found ++ x ∷ rest) x ≡ suc (length found) → (if b then 1 else suc (place_in (found ++ x ∷ rest) x)) ≡ suc (suc (length found))
    by true e h = absurd (n (subst (λ z. Among z (m ∷ found)) (eqb-true m x e) first))
    by false e h = ap suc h

-- ---- a list whose elements are numbered by their places in the list of first occurrences
pub numbered_list : (met found xs rest : List ℕ) → distinct_after nat_eq found xs ++ rest ≡ met → distinct_after nat_eq (upto (length found)) (map (place_in met) xs) ≡ upto (length (distinct_after nat_eq found xs))
numbered_list met found [] rest e = refl
numbered_list met found (x ∷ xs) rest e = elim (among_or_not nat_eq number_equality x found) [
  | inl a ↦
      let same = with_old nat_eq number_equality found x a in
      let whole : distinct_after nat_eq found xs ++ rest ≡ met = subst (λ f. distinct_after nat_eq f xs ++ rest ≡ met) same e in
      let more = distinct_extends nat_eq number_equality found xs in
      let place : place_in met x ≤ length found =
      subst (λ m. place_in m x ≤ length found) (sym (append_assoc found more.0 rest) ∙ (ap (λ f. f ++ rest) (sym more.1) ∙ whole)) (place_front found (more.0 ++ rest) x a) in
      let old = with_old nat_eq number_equality (upto (length found)) (place_in met x) (upto_has (length found) (place_in met x) (place_positive met x) place) in
      ap (λ f. distinct_after nat_eq f (map (place_in met) xs)) old
      ∙ (numbered_list met found xs rest whole ∙ ap (λ f. upto (length (distinct_after nat_eq f xs))) (sym same))
  | inr n ↦
      let same = with_new nat_eq number_equality found x n in
      let whole : distinct_after nat_eq (found ++ x ∷ []) xs ++ rest ≡ met = subst (λ f. distinct_after nat_eq f xs ++ rest ≡ met) same e in
      let more = distinct_extends nat_eq number_equality (found ++ x ∷ []) xs in
      let shape : found ++ x ∷ (more.0 ++ rest) ≡ met =
      sym (append_assoc found (x ∷ []) (more.0 ++ rest)) ∙ (sym (append_assoc (found ++ x ∷ []) more.0 rest) ∙ (ap (λ f. f ++ rest) (sym more.1) ∙ whole)) in
      let place : place_in met x ≡ suc (length found) = subst (λ m. place_in m x ≡ suc (length found)) shape (place_new found x (more.0 ++ rest) n) in
      let absent : ¬ Among (place_in met x) (upto (length found)) = (λ a. let w = upto_within (length found) (place_in met x) a in absurd (omega (arith, w.1))) in
      let new = with_new nat_eq number_equality (upto (length found)) (place_in met x) absent in
      let count : suc (length found) ≡ length (found ++ x ∷ []) = (let l = length-append found (x ∷ []) in let one : length (x ∷ []) ≡ 1 = refl in omega arith) in
      let longer : upto (length found) ++ place_in met x ∷ [] ≡ upto (length (found ++ x ∷ [])) =
      ap (λ m. upto (length found) ++ m ∷ []) place ∙ (upto_last (length found) ∙ ap upto count) in
      ap (λ f. distinct_after nat_eq f (map (place_in met) xs)) (new ∙ longer)
      ∙ (numbered_list met (found ++ x ∷ []) xs rest whole ∙ ap (λ f. upto (length (distinct_after nat_eq f xs))) (sym same))
]

-- ---- a rising list that adds numbers in their order
abbrev pub Increases : List ℕ → Type 0
Increases [] = Unit {0}
Increases (n ∷ ns) = ((m : ℕ) → Among m ns → n < m) × Increases ns

pub numbers_increase : (k n : ℕ) → Increases (numbers k n)
numbers_increase k zero = tt
numbers_increase k (suc n) = ((λ m a. let w = numbers_within (suc k) n m a in omega (arith, w.0)), numbers_increase (suc k) n)

pub numbers_join : (k n : ℕ) → upto k ++ numbers k n ≡ upto (k + n)
numbers_join k zero = append-nil (upto k) ∙ ap upto (let e : k ≡ k + zero = omega arith in e)
numbers_join k (suc n) =
    sym (append_assoc (upto k) (suc k ∷ []) (numbers (suc k) n))
    ∙ (ap (λ f. f ++ numbers (suc k) n) (upto_last k)
    ∙ (numbers_join (suc k) n ∙ ap upto (let e : suc k + n ≡ k + suc n = omega arith in e)))

-- the step to a new element, which is the first of the new ones
module _ (found : List ℕ) where
  abbrev Goal : List ℕ → List (ℕ × ℤ) → Type 0
  Goal news ps = IsRising ps → Increases news → ((n : ℕ) → Among n (map (λ p. p.0) ps) → Among n found ⊎ Among n news) → ((n : ℕ) → Among n news → Among n (map (λ p. p.0) ps) × ¬ Among n found) → distinct_after nat_eq found (map (λ p. p.0) ps) ≡ found ++ news

new : (found news : List ℕ) (p : ℕ × ℤ) (ps : List (ℕ × ℤ)) → IsRising (p ∷ ps) → Increases news → ((n : ℕ) → Among n (map (λ p. p.0) (p ∷ ps)) → Among n found ⊎ Among n news)
    → ((n : ℕ) → Among n news → Among n (map (λ p. p.0) (p ∷ ps)) × ¬ Among n found) → ¬ Among p.0 found → ((rest : List ℕ) → Goal (found ++ p.0 ∷ []) rest ps) → distinct_after nat_eq found (map (λ p. p.0) (p ∷ ps)) ≡ found ++ news
new found [] p ps r i from has a again = elim (from p.0 first) [ inl f ↦ absurd (a f) | inr m ↦ elim m [ ] ]
new found (h ∷ news) p ps r i from has a again =
    let is : p.0 ≡ h = elim (from p.0 first) [
      | inl f ↦ absurd (a f)
      | inr m ↦ among_cases m (λ e. e) (λ k. among_cases ((has h first).0) (λ e. sym e) (λ l. absurd (let b = after p.0 ps r.1 h l in let c = i.0 p.0 k in omega arith)))
    ] in
    let from' : (n : ℕ) → Among n (map (λ p. p.0) ps) → Among n (found ++ p.0 ∷ []) ⊎ Among n news =
    λ n m. elim (from n (next m)) [
      | inl f ↦ inl (among_front n found (p.0 ∷ []) f)
      | inr k ↦ among_cases k (λ e. inl (among_back n found (p.0 ∷ []) (subst (λ z. Among z (p.0 ∷ [])) (is ∙ sym e) first))) (λ l. inr l)
    ] in
    let has' : (n : ℕ) → Among n news → Among n (map (λ p. p.0) ps) × ¬ Among n (found ++ p.0 ∷ []) =
    λ n m. let k = has n (next m) in let larger = i.0 n m in
    (among_cases k.0 (λ e. absurd (omega (arith, is, e))) (λ l. l), λ f. elim (among_either n found (p.0 ∷ []) f) [ inl g ↦ k.1 g | inr g ↦ let e = only_one n p.0 g in absurd (omega arith) ]) in
    ap (λ f. distinct_after nat_eq f (map (λ p. p.0) ps)) (with_new nat_eq number_equality found p.0 a)
    ∙ (again news r.2 i.1 from' has' ∙ (append_assoc found (p.0 ∷ []) news ∙ ap (λ n. found ++ n ∷ news) is))

-- its elements are found already, or are the new ones, all of which it has
pub rising_adds : (found news : List ℕ) (ps : List (ℕ × ℤ)) → IsRising ps → Increases news → ((n : ℕ) → Among n (map (λ p. p.0) ps) → Among n found ⊎ Among n news)
    → ((n : ℕ) → Among n news → Among n (map (λ p. p.0) ps) × ¬ Among n found) → distinct_after nat_eq found (map (λ p. p.0) ps) ≡ found ++ news
rising_adds found [] [] r i from has = sym (append-nil found)
rising_adds found (n ∷ news) [] r i from has = elim ((has n first).0) [ ]
rising_adds found news (p ∷ ps) r i from has = elim (among_or_not nat_eq number_equality p.0 found) [
  | inl a ↦
      ap (λ f. distinct_after nat_eq f (map (λ p. p.0) ps)) (with_old nat_eq number_equality found p.0 a)
      ∙ rising_adds found news ps r.2 i (λ n m. from n (next m)) (λ n m. let h = has n m in (among_cases h.0 (λ e. absurd (h.1 (subst (λ z. Among z found) (sym e) a))) (λ k. k), h.1))
  | inr a ↦ new found news p ps r i from has a (λ rest r' i' f' h'. rising_adds (found ++ p.0 ∷ []) rest ps r' i' f' h')
]
