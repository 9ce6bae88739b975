-- Rows that are cleaned and written in new numbers.
use Rattle.std.proofs.Common.{◌≡◌, ℕ, suc, ◌+◌, ◌<◌, ◌≤◌, List, [], ◌∷◌, length, map, drop, get_or, All, Result, IfOk, Bool, true, false, refl, ap, ◌∙◌, sym, subst, arith, add-one, inl, inr}
use Rattle.std.specs.Prelude.{not, nat_lt, if◌then◌else◌}
use Rattle.std.specs.List.{filter}
use Rattle.std.proofs.Math.Seq.{drop-cons}
use Rattle.std.proofs.Math.IntN.{ℤ, pos, ◌+ℤ◌, ◌*ℤ◌}
use Rattle.std.proofs.lemmas.Int.{ints}
use Rattle.std.proofs.lemmas.Bool.{ltb-false}
use Rattle.std.proofs.lemmas.List.{length-map}
use Rattle.clp_model.specs.declared.sort.Sort.{Sort}
use Rattle.clp_model.specs.declared.sort.Sort.TheVariants.{Any}
use Rattle.clp_model.specs.declared.sort.Rel.TheVariants.{Eq}
use Rattle.clp_model.specs.Clauses.{Row, sort_in}
use Rattle.clp_model.specs.Predicates.{with_element, distinct_after}
use Rattle.clp_model.specs.Canonical.{place_in, rows_size}
use Rattle.clp_model.proofs.Membership.{Among, first, next, among_front, among_back, among_either, at_place}
use Rattle.linear_model.specs.Forms.{Above, IsRising, is_zero, with_pair, scaled, merged, combined}
use Rattle.linear_model.specs.Normal.{normal, is_always, row_eq, is_within}
use Rattle.linear_model.specs.Changes.{renamed, renamed_pairs}
use Rattle.linear_model.specs.Elimination.{cleaned}
use Rattle.linear_laws.proofs.Renamed.{rising_renamed}
use Rattle.linear_laws.proofs.Lists.{mapped_out}
use Rattle.lin_row.specs.Rows.{IsKept}
use Rattle.unify_laws.proofs.Solved.{among_cases}
use Rattle.clause_model.specs.Variables.{row_variables, rows_variables}
use Rattle.clause_model.specs.Canonical.{all_within}
use Rattle.clause_laws.proofs.Rows.{all_each, each_all, among_rows}
use Rattle.clause_laws.proofs.Renaming.{IsInjectiveOn, variables_normal}
use Rattle.clause_laws.proofs.Written.{written, written_from, written_rises, written_normal, written_stays}
use Rattle.clause_laws.proofs.Clean.{cleaned_has}
use Rattle.clause_laws.proofs.Again.{place_apart}
use Rattle.clause_laws.proofs.NewClause.{written_within}
use Rattle.clause_store.specs.Stored.{IsNum}
use Rattle.clause_store.proofs.Places.{place_positive, place_within, place_in_order}

-- ---- rows that are kept
pub kept_at : (rows : List Row) → All IsKept rows → (r : Row) → Among r rows → IsKept r
kept_at rows kept r m = all_each IsKept rows kept r m

map_itself : (f : Row → Row) (rows : List Row) → ((r : Row) → Among r rows → f r ≡ r) → map f rows ≡ rows
map_itself f [] h = refl
map_itself f (r ∷ rows) h = let a = h r first in let b = map_itself f rows (λ s m. h s (next m)) in cc

abbrev pub is_open : Row → Bool
is_open r = not (is_always r)

-- rows in normal form are cleaned without a change of any of them
pub cleaned_kept : (rows : List Row) → All IsKept rows → cleaned rows ≡ distinct_after row_eq [] (filter is_open rows)
cleaned_kept rows kept = ap (λ (rs : List Row). distinct_after row_eq [] (filter is_open rs)) (map_itself normal rows (λ r m. (kept_at rows kept r m).normal.stays))

-- one more row
pub clean_more : (rows kept now : List Row) (i : ℕ) (row : Row) → i < length rows → row ≡ get_or rows i row → now ≡ (if is_always row then kept else with_element row_eq kept row)
    → distinct_after row_eq now (filter is_open (drop (i + 1) rows)) ≡ distinct_after row_eq kept (filter is_open (drop i rows))
clean_more rows kept now i row within item is =
    by (is_always row) is ∙ ap (λ (rs : List Row). distinct_after row_eq kept (filter is_open rs)) (sym split)
  where
    rest : List Row
    rest = drop (i + 1) rows

    split : drop i rows ≡ row ∷ rest
    split = drop-cons rows i row within ∙ (ap (λ (r : Row). r ∷ drop (suc i) rows) (sym item) ∙ ap (λ (k : ℕ). row ∷ drop k rows) (sym (add-one i)))

    by : (t : Bool) → now ≡ (if t then kept else with_element row_eq kept row)
        → distinct_after row_eq now (filter is_open rest) ≡ distinct_after row_eq kept (if not t then row ∷ filter is_open rest else filter is_open rest)
    by true e = ap (λ (k : List Row). distinct_after row_eq k (filter is_open rest)) e
    by false e = ap (λ (k : List Row). distinct_after row_eq k (filter is_open rest)) e

pub clean_result : {E : Type 0} (r : Result (List Row) E) (rows clean : List Row) → rows ≡ clean → IfOk r (λ found. found ≡ rows) → IfOk r (λ found. found ≡ clean)
clean_result r rows clean e h = let P : List Row → Type 0 = λ rs. IfOk r (λ found. found ≡ rs) in subst P e h

pub within_kept : (rows : List Row) → All IsKept rows → all_within rows ≡ true
within_kept rows kept = go rows (λ r m. kept_at rows kept r m)
  where
    go : (rs : List Row) → ((r : Row) → Among r rs → IsKept r) → all_within rs ≡ true
    go [] h = refl
    go (r ∷ rs) h =
        let k = h r first in
        let a : is_within (normal r) ≡ true = ap is_within k.normal.stays ∙ k.within in
        let b = go rs (λ s m. h s (next m)) in
        cc

pub rising_kept : (rows : List Row) → All IsKept rows → All (λ r. IsRising r.pairs) rows
rising_kept rows kept = each_all (λ r. IsRising r.pairs) rows (λ r m. (kept_at rows kept r m).normal.rising)

-- each cleaned row is one of the rows
pub cleaned_among : (rows : List Row) → All IsKept rows → (r : Row) → Among r (cleaned rows) → Among r rows
cleaned_among rows kept r a =
    cleaned_has rows (λ s. Among s rows) (λ s m. subst (λ t. Among t rows) (sym (kept_at rows kept s m).normal.stays) m) r a

pub cleaned_are_kept : (rows : List Row) → All IsKept rows → All IsKept (cleaned rows)
cleaned_are_kept rows kept = each_all IsKept (cleaned rows) (λ r a. kept_at rows kept r (cleaned_among rows kept r a))

-- ---- the variables of rows
pub from_rows : (rows : List Row) (n : ℕ) → Among n (rows_variables rows) → (r : Row) × Among r rows × Among n (row_variables r)
from_rows [] n a = elim a [ ]
from_rows (r ∷ rows) n a = elim (among_either n (row_variables r) (rows_variables rows) a) [
  | inl b ↦ (r, first, b)
  | inr b ↦ let k = from_rows rows n b in (k.0, next k.1, k.2)
]

pub cleaned_variables : (rows : List Row) → All IsKept rows → (n : ℕ) → Among n (rows_variables (cleaned rows)) → Among n (rows_variables rows)
cleaned_variables rows kept n a = let k = from_rows (cleaned rows) n a in among_rows k.0 rows n (cleaned_among rows kept k.0 k.1) k.2

-- ---- as many coefficients in new numbers
one_scaled : (qs : List (ℕ × ℤ)) → IsRising qs → length (scaled (pos 1) qs) ≡ length qs
one_scaled [] r = refl
one_scaled (q ∷ qs) r =
    let same : pos 1 *ℤ q.1 ≡ q.1 = omega (arith, ints) in
    let some : is_zero (pos 1 *ℤ q.1) ≡ false = ap is_zero same ∙ r.0 in
    let rest = one_scaled qs r.2 in
    ap (λ b. length {A = ℕ × ℤ} (if b then scaled (pos 1) qs else (q.0, pos 1 *ℤ q.1) ∷ scaled (pos 1) qs)) some ∙ ap suc rest

-- a pair of a new variable adds one
one_more : (p : ℕ × ℤ) (qs : List (ℕ × ℤ)) → is_zero p.1 ≡ false → IsRising qs → ¬ Among p.0 (map (λ q. q.0) qs) → length (merged (pos 1) p (combined (pos 1) [] (pos 1)) (pos 1) qs) ≡ suc (length qs)
one_more p [] some r absent =
    let same : pos 1 *ℤ p.1 ≡ p.1 = omega (arith, ints) in
    ap (λ b. length {A = ℕ × ℤ} (if b then [] else (p.0, pos 1 *ℤ p.1) ∷ [])) (ap is_zero same ∙ some)
one_more p (q ∷ qs) some r absent =
    by (nat_lt p.0 q.0) refl (nat_lt q.0 p.0) refl (one_more p qs some r.2 (λ a. absent (next a)))
  where
    p_some : is_zero (pos 1 *ℤ p.1) ≡ false
    p_some = let same : pos 1 *ℤ p.1 ≡ p.1 = omega (arith, ints) in ap is_zero same ∙ some

    q_some : is_zero (pos 1 *ℤ q.1) ≡ false
    q_some = let same : pos 1 *ℤ q.1 ≡ q.1 = omega (arith, ints) in ap is_zero same ∙ r.0

    by : (s : Bool) → nat_lt p.0 q.0 ≡ s → (t : Bool) → nat_lt q.0 p.0 ≡ t → length (merged (pos 1) p (combined (pos 1) [] (pos 1)) (pos 1) qs) ≡ suc (length qs)
        → length {A = ℕ × ℤ} (if s then with_pair p.0 (pos 1 *ℤ p.1) (scaled (pos 1) (q ∷ qs)) else if t then with_pair q.0 (pos 1 *ℤ q.1) (merged (pos 1) p (combined (pos 1) [] (pos 1)) (pos 1) qs) else with_pair p.0 (pos 1 *ℤ p.1 +ℤ pos 1 *ℤ q.1) (scaled (pos 1) qs)) ≡ suc (suc (length qs))
    by true e t f ih =
        ap (λ b. length {A = ℕ × ℤ} (if b then scaled (pos 1) (q ∷ qs) else (p.0, pos 1 *ℤ p.1) ∷ scaled (pos 1) (q ∷ qs))) p_some
        ∙ ap suc (one_scaled (q ∷ qs) r)
    by false e true f ih =
        ap (λ b. length {A = ℕ × ℤ} (if b then merged (pos 1) p (combined (pos 1) [] (pos 1)) (pos 1) qs else (q.0, pos 1 *ℤ q.1) ∷ merged (pos 1) p (combined (pos 1) [] (pos 1)) (pos 1) qs)) q_some
        ∙ ap suc ih
    by false e false f ih =
        let l = ltb-false p.0 q.0 e in
        let m = ltb-false q.0 p.0 f in
        let same : q.0 ≡ p.0 = omega arith in
        absurd (absent (subst (λ n. Among n (map (λ q. q.0) (q ∷ qs))) same first))

above_absent : (n m : ℕ) (ps : List (ℕ × ℤ)) → Above n ps → m ≤ n → ¬ Among m (map (λ p. p.0) ps)
above_absent n m [] h l a = elim a [ ]
above_absent n m (p ∷ ps) h l a = among_cases a (λ e. let k = h.0 in absurd (omega arith)) (λ b. above_absent n m ps h.1 l b)

abbrev row_of : List (ℕ × ℤ) → Row
row_of ps = record { rel = Eq; pairs = ps; constant = pos 0 }

renamed_length : (f : ℕ → ℕ) (ps : List (ℕ × ℤ)) → IsRising ps → IsInjectiveOn (map (λ p. p.0) ps) f → length (renamed_pairs f ps) ≡ length ps
renamed_length f [] r apart = refl
renamed_length f (p ∷ ps) r apart =
    let rest = renamed_length f ps r.2 (λ m n a b e. apart m n (next a) (next b) e) in
    one_more (f p.0, p.1) (renamed_pairs f ps) r.0 (rising_renamed f (row_of ps)) absent ∙ ap suc rest
  where
    absent : ¬ Among (f p.0) (map (λ q. q.0) (renamed_pairs f ps))
    absent a =
        let s : Row = row_of ps in
        let k = written_from f s (f p.0) (subst (λ (vs : List ℕ). Among (f p.0) vs) (sym (variables_normal (renamed f s))) a) in
        above_absent p.0 p.0 ps r.1 (omega arith) (subst (λ (n : ℕ). Among n (map (λ q. q.0) ps)) (apart k.0 p.0 (next k.1) first k.2) k.1)

variables_length : (r : Row) → length (row_variables r) ≡ length r.pairs
variables_length r = length-map r.pairs (λ p. p.0)

pub written_length : (f : ℕ → ℕ) (r : Row) → IsRising r.pairs → IsInjectiveOn (row_variables r) f → length (written f r).pairs ≡ length r.pairs
written_length f r rising apart =
    sym (variables_length (written f r)) ∙ (ap length (variables_normal (renamed f r)) ∙ (variables_length (renamed f r) ∙ renamed_length f r.pairs rising apart))

-- ---- rows that are written by the places of their variables in a list
module _ (met : List ℕ) where
  abbrev place : ℕ → ℕ
  place = place_in met

  abbrev Inside : List Row → Type 0
  Inside rows = (n : ℕ) → Among n (rows_variables rows) → Among n met

  apart_in : (rows : List Row) → Inside rows → (r : Row) → Among r rows → IsInjectiveOn (row_variables r) place
  apart_in rows inside r m i j a b e = place_apart met i j (inside i (among_rows r rows i m a)) (inside j (among_rows r rows j m b)) e

  pub written_size : (rows : List Row) → All IsKept rows → Inside rows → rows_size (map (written place) rows) ≡ rows_size rows
  written_size rows kept inside = go rows (λ r m. (kept_at rows kept r m).normal.rising) (apart_in rows inside)
    where
      go : (rs : List Row) → ((r : Row) → Among r rs → IsRising r.pairs) → ((r : Row) → Among r rs → IsInjectiveOn (row_variables r) place) → rows_size (map (written place) rs) ≡ rows_size rs
      go [] h k = refl
      go (r ∷ rs) h k =
          let one = written_length place r (h r first) (k r first) in
          let rest = go rs (λ s m. h s (next m)) (λ s m. k s (next m)) in
          omega (arith, one, rest)

  pub written_are_kept : (rows : List Row) → All IsKept rows → Inside rows → All IsKept (map (written place) rows)
  written_are_kept rows kept inside = each_all IsKept (map (written place) rows) (λ t a. mapped_out (written place) rows IsKept (λ r m.
      let k = kept_at rows kept r m in
      record {
        within = written_within place r k.normal (apart_in rows inside r m) k.within;
        normal = record { rising = written_rises place r; stays = written_normal place r };
      }) t a)

  -- each variable of a written row is the place of a variable of the rows
  variables_written : (rows : List Row) (n : ℕ) → Among n (rows_variables (map (written place) rows)) → (m : ℕ) × Among m (rows_variables rows) × (place m ≡ n)
  variables_written [] n a = elim a [ ]
  variables_written (r ∷ rows) n a = elim (among_either n (row_variables (written place r)) (rows_variables (map (written place) rows)) a) [
    | inl b ↦ let k = written_from place r n b in (k.0, among_front k.0 (row_variables r) (rows_variables rows) k.1, k.2)
    | inr b ↦ let k = variables_written rows n b in (k.0, among_back k.0 (row_variables r) (rows_variables rows) k.1, k.2)
  ]

  pub written_nums : (sorts : List Sort) (rows : List Row) → Inside rows → All (IsNum sorts) (rows_variables rows) → All (IsNum (map (sort_in sorts) met)) (rows_variables (map (written place) rows))
  written_nums sorts rows inside nums = each_all (IsNum (map (sort_in sorts) met)) (rows_variables (map (written place) rows)) (λ n a.
      let k = variables_written rows n a in
      let P : ℕ → Type 0 = IsNum (map (sort_in sorts) met) in
      subst P k.2 (record {
        positive = place_positive met k.0;
        within = let l = place_within met k.0 (inside k.0 k.1) in omega (arith, length-map met (sort_in sorts));
        sort = at_place (sort_in sorts) met k.0 Any Any (inside k.0 k.1) ∙ (all_each (IsNum sorts) (rows_variables rows) nums k.0 k.1).sort;
      }))

  -- where the variables are numbered in order, the rows stay
  pub written_same : (rows : List Row) → All IsKept rows → Inside rows → ((k : ℕ) → k < length met → get_or met k 0 ≡ k + 1) → rows ≡ map (written place) rows
  written_same rows kept inside order =
      sym (map_itself (written place) rows (λ r m. written_stays place r (kept_at rows kept r m).normal (λ n a. place_in_order met n order (inside n (among_rows r rows n m a)))))
