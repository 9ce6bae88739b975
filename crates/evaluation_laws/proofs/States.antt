-- What is known of a clause while what stands for its text is evaluated: its variables are met in the order of the text,
-- so that each gets its place as its number.
use Rattle.std.proofs.Common.{◌≡◌, ℕ, zero, suc, ◌+◌, ◌-◌, ◌<◌, ◌≤◌, List, [], ◌∷◌, ◌++◌, length, map, get_or, Bool, true, false, arith, refl, sym, ◌∙◌, ap, subst, eq-eqb, ◌⊎◌, inl, inr, Ok}
use Rattle.std.specs.Prelude.{nat_eq, if◌then◌else◌, ◌||◌}
use Rattle.std.specs.List.{list_any}
use Rattle.std.proofs.Math.ListN.{set}
use Rattle.std.proofs.lemmas.Bool.{eqb-true}
use Rattle.std.proofs.lemmas.Bool.Decides.{nat_tests}
use Rattle.std.proofs.lemmas.List.{append_assoc, length-map, length-append, map-append}
use Rattle.clp_model.specs.declared.sort.Sort.{Sort}
use Rattle.clp_model.specs.declared.sort.Sort.TheVariants.{Any, Num}
use Rattle.clp_model.specs.declared.tree.Tree.{Tree, Var}
use Rattle.clp_model.specs.Clauses.{Row}
use Rattle.clp_model.specs.Canonical.{place_in}
use Rattle.clp_model.specs.Predicates.{with_element, distinct_after}
use Rattle.clp_model.proofs.Membership.{Among, first, next, among_last, among_front, distinct_append, distinct_keeps}
use Rattle.unify_laws.proofs.Solved.{among_cases}
use Rattle.clause_laws.proofs.Distinct.{AreDistinct, with_old, with_new, among_or_not, distinct_extends, found_among}
use Rattle.clause_laws.proofs.Upto.{number_equality, place_positive, place_front, place_new}
use Rattle.clp_grammar.specs.Terms.{Meaning, nothing, number_in, met, met_num, with_name, with_num, named}
use Rattle.evaluation_laws.proofs.Numbers.{known, known_old, known_next, known_more, known_none}

-- a variable that was told to be a number is one
abbrev pub sort_by : List ℕ → ℕ → Sort
sort_by nums n = if list_any (λ m. nat_eq m n) nums then Num else Any

-- with one more variable, and with these
abbrev pub with_variable : List ℕ → ℕ → List ℕ
with_variable found n = with_element nat_eq found n

abbrev pub with_variables : List ℕ → List ℕ → List ℕ
with_variables found ns = distinct_after nat_eq found ns

-- ---- lists of variables

with_element-among : (found : List ℕ) (n : ℕ) → Among n (with_variable found n)
with_element-among found n = elim (among_or_not nat_eq number_equality n found) [
  | inl a ↦ subst (λ ns. Among n ns) (sym (with_old nat_eq number_equality found n a)) a
  | inr k ↦ subst (λ ns. Among n ns) (sym (with_new nat_eq number_equality found n k)) (among_last n found)
]

with_element-keeps : (found : List ℕ) (n m : ℕ) → Among m found → Among m (with_variable found n)
with_element-keeps found n m a = elim (among_or_not nat_eq number_equality n found) [
  | inl k ↦ subst (λ ns. Among m ns) (sym (with_old nat_eq number_equality found n k)) a
  | inr k ↦ subst (λ ns. Among m ns) (sym (with_new nat_eq number_equality found n k)) (among_front m found (n ∷ []) a)
]

distinct_front : (xs ys : List ℕ) → AreDistinct (xs ++ ys) → AreDistinct xs
distinct_front [] ys d = tt
distinct_front (x ∷ xs) ys d = ((λ a. d.0 (among_front x xs ys a)), distinct_front xs ys d.1)

place_within : (found rest : List ℕ) (n : ℕ) → Among n found → place_in (found ++ rest) n ≡ place_in found n
place_within [] rest n a = elim a [ ]
place_within (m ∷ found) rest n a = by (nat_eq m n) refl (among_cases a (λ e. inl (sym e)) (λ k. inr (place_within found rest n k)))
  where
    by : (b : Bool) → nat_eq m n ≡ b → (m ≡ n) ⊎ (place_in (found ++ rest) n ≡ place_in found n) → (if b then 1 else suc (place_in (found ++ rest) n)) ≡ (if b then 1 else suc (place_in found n))
    by true e h = refl
    by false e (inl q) = absurd (let t = eq-eqb m n q in cc)
    by false e (inr l) = ap suc l

-- ---- a variable becomes a number

sorts_stay : (found nums : List ℕ) (n : ℕ) → ¬ Among n found → map (sort_by nums) found ≡ map (sort_by (n ∷ nums)) found
sorts_stay [] nums n new = refl
sorts_stay (m ∷ found) nums n new = by (nat_eq n m) refl (sorts_stay found nums n (λ a. new (next a)))
  where
    by : (b : Bool) → nat_eq n m ≡ b → map (sort_by nums) found ≡ map (sort_by (n ∷ nums)) found → map (sort_by nums) (m ∷ found) ≡ map (sort_by (n ∷ nums)) (m ∷ found)
    by true e again = absurd (new (subst (λ k. Among k (m ∷ found)) (sym (eqb-true n m e)) first))
    by false e again =
        ap (λ ss. sort_by nums m ∷ ss) again
        ∙ ap (λ b. (if b || list_any (λ k. nat_eq k m) nums then Num else Any) ∷ map (sort_by (n ∷ nums)) found) (sym e)

sorts_become : (found nums : List ℕ) (n : ℕ) → AreDistinct found → Among n found → set (map (sort_by nums) found) (place_in found n - 1) Num ≡ map (sort_by (n ∷ nums)) found
sorts_become [] nums n d a = elim a [ ]
sorts_become (m ∷ found) nums n d a = by (nat_eq m n) refl (among_cases a (λ e. inl (sym e)) (λ k. inr (sorts_become found nums n d.1 k)))
  where
    rest : List Sort
    rest = map (sort_by nums) found

    by : (b : Bool) → nat_eq m n ≡ b → (m ≡ n) ⊎ (set rest (place_in found n - 1) Num ≡ map (sort_by (n ∷ nums)) found)
        → set (sort_by nums m ∷ rest) ((if b then 1 else suc (place_in found n)) - 1) Num ≡ sort_by (n ∷ nums) m ∷ map (sort_by (n ∷ nums)) found
    by true e h =
        let q : m ≡ n = eqb-true m n e in
        let own : nat_eq n m ≡ true = eq-eqb n m (sym q) in
        ap (λ ss. Num ∷ ss) (sorts_stay found nums n (λ k. d.0 (subst (λ x. Among x found) (sym q) k)))
        ∙ ap (λ b. (if b || list_any (λ k. nat_eq k m) nums then Num else Any) ∷ map (sort_by (n ∷ nums)) found) (sym own)
    by false e (inl q) = absurd (let t = eq-eqb m n q in cc)
    by false e (inr again) =
        let other : nat_eq n m ≡ false = apart (nat_eq n m) refl in
        let up = place_positive found n in
        let index : suc (place_in found n) - 1 ≡ suc (place_in found n - 1) = omega arith in
        ap (λ i. set (sort_by nums m ∷ rest) i Num) index
        ∙ ap (λ ss. sort_by nums m ∷ ss) again
        ∙ ap (λ b. (if b || list_any (λ k. nat_eq k m) nums then Num else Any) ∷ map (sort_by (n ∷ nums)) found) (sym other)
      where
        apart : (b : Bool) → nat_eq n m ≡ b → b ≡ false
        apart true k = absurd (let t = eq-eqb m n (sym (eqb-true n m k)) in cc)
        apart false k = refl

-- each of these was found
abbrev pub AreWithin : List ℕ → List ℕ → Type 0
AreWithin found nums = (n : ℕ) → Among n nums → Among n found

module _ (names : List ℕ) where
  -- the place of a variable among the names, which is its number
  abbrev pub place : ℕ → ℕ
  place n = place_in names n

  -- these are the first of the names
  abbrev pub AreFirst : List ℕ → Type 0
  AreFirst found = (rest : List ℕ) × (found ++ rest ≡ names)

  abbrev pub state : List ℕ → List ℕ → List Row → List (Tree ℕ) → Meaning
  state found nums rows atoms = record {
    numbers = known (length names) (length found);
    sorts = map (sort_by nums) found;
    equations = [];
    rows = rows;
    atoms = atoms;
  }

  pub begins : nothing (length names) ≡ state [] [] [] []
  begins = ap (λ ns. record { numbers = ns; sorts = []; equations = []; rows = []; atoms = [] }) (sym (known_none (length names)))

  -- where further variables are first, so are those before
  pub first_before : (found ns : List ℕ) → AreFirst (with_variables found ns) → AreFirst found
  first_before found ns f =
      let more = distinct_extends nat_eq number_equality found ns in
      (more.0 ++ f.0, sym (append_assoc found more.0 f.0) ∙ ap (λ xs. xs ++ f.0) (sym more.1) ∙ f.1)

  -- the number of a variable that was found
  pub number_found : (found nums : List ℕ) (rows : List Row) (atoms : List (Tree ℕ)) (n : ℕ) → AreFirst found → Among n found → number_in (state found nums rows atoms) (place n) ≡ place n
  number_found found nums rows atoms n f a =
      known_old (length names) (length found) (place n) (place_positive names n)
      (subst (λ ns. place_in ns n ≤ length found) f.1 (place_front found f.0 n a))

  -- ---- a name is met

  new_sort : (found nums : List ℕ) (n : ℕ) → AreWithin found nums → ¬ Among n found → sort_by nums n ≡ Any
  new_sort found nums n within new = by (list_any (λ m. nat_eq m n) nums) refl
    where
      by : (b : Bool) → list_any (λ m. nat_eq m n) nums ≡ b → (if b then Num else Any) ≡ Any
      by true e = absurd (new (within n (found_among nat_eq number_equality n nums e)))
      by false e = refl

  met_old : (found nums : List ℕ) (rows : List Row) (atoms : List (Tree ℕ)) (n : ℕ) → AreFirst found → Among n found → met (place n) (state found nums rows atoms) ≡ state found nums rows atoms
  unfolding met
  met_old found nums rows atoms n f a =
      let m = state found nums rows atoms in
      let other : nat_eq (place n) 0 ≡ false = positive (place n) (place_positive names n) in
      ap (λ k. if nat_eq k 0 then with_name (place n) m else m) (number_found found nums rows atoms n f a)
      ∙ ap (λ b. if b then with_name (place n) m else m) other
    where
      positive : (k : ℕ) → 0 < k → nat_eq k 0 ≡ false
      positive zero h = absurd (omega arith)
      positive (suc k) h = grind (arith, nat_tests)

  met_new : (found nums : List ℕ) (rows : List Row) (atoms : List (Tree ℕ)) (n : ℕ) → AreFirst (found ++ n ∷ []) → ¬ Among n found → AreWithin found nums
      → met (place n) (state found nums rows atoms) ≡ state (found ++ n ∷ []) nums rows atoms
  unfolding met with_name
  met_new found nums rows atoms n f new within =
      let m = state found nums rows atoms in
      let k = length found in
      let here : place n ≡ suc k = ap (λ ns. place_in ns n) (sym (sym (append_assoc found (n ∷ []) f.0) ∙ f.1)) ∙ place_new found n f.0 new in
      let index : place n - 1 ≡ k = omega arith in
      let long : k < length names = (let e = ap length f.1 in let l = length-append (found ++ n ∷ []) f.0 in let s = length-append found (n ∷ []) in omega arith) in
      let count : length m.sorts + 1 ≡ suc k = (let e = length-map found (sort_by nums) in omega arith) in
      let size : suc k ≡ length (found ++ n ∷ []) = (let s = length-append found (n ∷ []) in omega arith) in
      let sorts : m.sorts ++ Any ∷ [] ≡ map (sort_by nums) (found ++ n ∷ []) =
      ap (λ s. m.sorts ++ s ∷ []) (sym (new_sort found nums n within new)) ∙ sym (map-append (sort_by nums) found (n ∷ [])) in
      ap (λ i. if nat_eq (get_or m.numbers i 0) 0 then record m { numbers = set m.numbers i (length m.sorts + 1); sorts = m.sorts ++ Any ∷ [] } else m) index
      ∙ ap (λ v. if nat_eq v 0 then record m { numbers = set m.numbers k (length m.sorts + 1); sorts = m.sorts ++ Any ∷ [] } else m) (known_next (length names) k)
      ∙ ap (λ v. record m { numbers = set m.numbers k v; sorts = m.sorts ++ Any ∷ [] }) count
      ∙ ap (λ ns. record m { numbers = ns; sorts = m.sorts ++ Any ∷ [] }) (known_more (length names) k long ∙ ap (known (length names)) size)
      ∙ ap (λ ss. record m { numbers = known (length names) (length (found ++ n ∷ [])); sorts = ss }) sorts

  pub met_is : (found nums : List ℕ) (rows : List Row) (atoms : List (Tree ℕ)) (n : ℕ) → AreFirst (with_variable found n) → AreWithin found nums
      → met (place n) (state found nums rows atoms) ≡ state (with_variable found n) nums rows atoms
  met_is found nums rows atoms n f within = elim (among_or_not nat_eq number_equality n found) [
    | inl a ↦
        let e = with_old nat_eq number_equality found n a in
        met_old found nums rows atoms n (subst AreFirst e f) a ∙ ap (λ ns. state ns nums rows atoms) (sym e)
    | inr k ↦
        let e = with_new nat_eq number_equality found n k in
        met_new found nums rows atoms n (subst AreFirst e f) k within ∙ ap (λ ns. state ns nums rows atoms) (sym e)
  ]

  pub named_is : (found nums : List ℕ) (rows : List Row) (atoms : List (Tree ℕ)) (n : ℕ) → AreFirst (with_variable found n) → AreWithin found nums
      → named (place n) (state found nums rows atoms) ≡ Ok (Var (place n), state (with_variable found n) nums rows atoms)
  unfolding named
  named_is found nums rows atoms n f within =
      ap (λ m. Ok (Var (number_in m (place n)), m)) (met_is found nums rows atoms n f within)
      ∙ ap (λ k. Ok (Var k, state (with_variable found n) nums rows atoms)) (number_found (with_variable found n) nums rows atoms n f (with_element-among found n))

  -- ---- a variable is a number

  pub met_num_is : (found nums : List ℕ) (rows : List Row) (atoms : List (Tree ℕ)) (n : ℕ) → AreFirst (with_variable found n) → AreWithin found nums
      → AreDistinct names → met_num (place n) (state found nums rows atoms) ≡ state (with_variable found n) (n ∷ nums) rows atoms
  unfolding met_num
  met_num_is found nums rows atoms n f within distinct =
      let more = with_variable found n in
      let m = state more nums rows atoms in
      let a = with_element-among found n in
      let here : place n ≡ place_in more n = ap (λ ns. place_in ns n) (sym f.1) ∙ place_within more f.0 n a in
      ap (λ k. with_num (number_in k (place n)) k) (met_is found nums rows atoms n f within)
      ∙ ap (λ v. with_num v m) (number_found more nums rows atoms n f a ∙ here)
      ∙ ap (λ ss. record m { sorts = ss }) (sorts_become more nums n (distinct_front more f.0 (subst AreDistinct (sym f.1) distinct)) a)

-- what was told of variables stays within those that were found
pub within_more : (found nums : List ℕ) (n : ℕ) → AreWithin found nums → AreWithin (with_variable found n) nums
within_more found nums n within m a = with_element-keeps found n m (within m a)

pub within_told : (found nums : List ℕ) (n : ℕ) → AreWithin found nums → AreWithin (with_variable found n) (n ∷ nums)
within_told found nums n within m a = among_cases a (λ e. subst (λ k. Among k (with_variable found n)) (sym e) (with_element-among found n)) (λ k. within_more found nums n within m k)

-- ---- how much is known

-- which variables were found, which of them are numbers, and the rows and atoms so far
pub record Known : Type 0 where
  pub found : List ℕ
  pub nums : List ℕ
  pub rows : List Row
  pub atoms : List (Tree ℕ)

abbrev pub meant : List ℕ → Known → Meaning
meant names k = state names k.found k.nums k.rows k.atoms

-- after these variables
abbrev pub having : Known → List ℕ → Known
having k ns = record k { found = with_variables k.found ns }

-- after these variables the first of the names were found
pub record CanMeet (names : List ℕ) (k : Known) (ns : List ℕ) : Type 0 where
  pub first : AreFirst names (with_variables k.found ns)
  pub within : AreWithin k.found k.nums

pub having_both : (k : Known) (xs ys : List ℕ) → having (having k xs) ys ≡ having k (xs ++ ys)
having_both k xs ys = ap (λ ns. record k { found = ns }) (sym (distinct_append k.found xs ys))

pub meet_front : (names : List ℕ) (k : Known) (xs ys : List ℕ) → CanMeet names k (xs ++ ys) → CanMeet names k xs
meet_front names k xs ys can = record {
  first = first_before names (with_variables k.found xs) ys (subst (AreFirst names) (distinct_append k.found xs ys) can.first);
  within = can.within;
}

pub meet_back : (names : List ℕ) (k : Known) (xs ys : List ℕ) → CanMeet names k (xs ++ ys) → CanMeet names (having k xs) ys
meet_back names k xs ys can = record {
  first = subst (AreFirst names) (distinct_append k.found xs ys) can.first;
  within = λ n a. distinct_keeps k.found xs n (can.within n a);
}
