-- A table of the numbers of what variables become.
use Rattle.std.proofs.Common.{◌≡◌, ◌≢◌, ℕ, zero, suc, ◌+◌, ◌-◌, ◌<◌, ◌≤◌, List, [], ◌∷◌, ◌++◌, length, map, take, get_or, set, nat_eq, Bool, true, false, refl, ap, ◌∙◌, sym, subst, arith, All, ◌&&◌, inl, inr}
use Rattle.std.proofs.lemmas.Bool.{eqb-true, eqb-false}
use Rattle.std.proofs.lemmas.List.{take_more, take_all, get_or-set_same, get_or-set_other}
use Rattle.std.specs.Prelude.{Result, IfOk}
use Rattle.std.proofs.lemmas.List.Elements.{All-more, All-weaker}
use Rattle.std.proofs.Math.IntN.{ℤ}
use Rattle.clp_model.specs.Clauses.{Row}
use Rattle.clp_model.proofs.Membership.{Among, first, next, among_either, among_front, among_back, among_mapped}
use Rattle.linear_model.specs.Normal.{normal, is_within}
use Rattle.linear_model.specs.Changes.{renamed}
use Rattle.lin_row.specs.Rows.{at}
use Rattle.clause_model.specs.Variables.{row_variables, rows_variables}
use Rattle.clause_model.specs.Canonical.{all_within}
use Rattle.clause_laws.proofs.Rows.{all_each, each_all, among_rows}
use Rattle.clause_laws.proofs.Renaming.{renamed_agrees}

-- what is written under one number is read there, and nothing else changes
pub written_there : (table : List ℕ) (n v : ℕ) → 0 < n → n ≤ length table → at (set table (n - 1) v) n ≡ v
written_there table zero v p w = absurd (omega arith)
written_there table (suc k) v p w =
    let e : suc k - 1 ≡ k = omega arith in
    ap (λ (j : ℕ). get_or (set table j v) k 0) e ∙ get_or-set_same table k v 0 (omega arith)

written_other : (table : List ℕ) (n v m : ℕ) → 0 < n → m ≢ n → at (set table (n - 1) v) m ≡ at table m
written_other table zero v m p d = absurd (omega arith)
written_other table (suc k) v zero p d = refl
written_other table (suc k) v (suc j) p d =
    let e : suc k - 1 ≡ k = omega arith in
    ap (λ (i : ℕ). get_or (set table i v) j 0) e ∙ get_or-set_other table k j v 0 (λ q. d (ap suc q))

-- what is right stays so where what is right is written
pub others_stay : (f : ℕ → ℕ) (table : List ℕ) (n v : ℕ) → 0 < n → n ≤ length table → v ≡ f n → (m : ℕ) → at table m ≡ f m → at (set table (n - 1) v) m ≡ f m
others_stay f table n v p w is m h = by (nat_eq m n) refl
  where
    by : (b : Bool) → nat_eq m n ≡ b → at (set table (n - 1) v) m ≡ f m
    by true e =
        let same : m ≡ n = eqb-true m n e in
        ap (at (set table (n - 1) v)) same ∙ written_there table n v p w ∙ is ∙ ap f (sym same)
    by false e = written_other table n v m p (eqb-false m n e) ∙ h

-- ---- the pairs of a row, and rows, in turn
pairs_all : (P : ℕ → Type 0) (ps : List (ℕ × ℤ)) → All (λ p. P p.0) ps → All P (map (λ p. p.0) ps)
pairs_all P ps h = each_all P (map (λ p. p.0) ps) (λ n m. go ps n (λ p k. all_each (λ (q : ℕ × ℤ). P q.0) ps h p k) m)
  where
    go : (qs : List (ℕ × ℤ)) (n : ℕ) → ((p : ℕ × ℤ) → Among p qs → P p.0) → Among n (map (λ p. p.0) qs) → P n
    go [] n k m = elim m [ ]
    go (q ∷ qs) n k first = k q first
    go (q ∷ qs) n k (next m) = go qs n (λ p a. k p (next a)) m

pub row_all : (P : ℕ → Type 0) (r : Row) → All (λ p. P p.0) r.pairs → All P (row_variables r)
row_all P r h = pairs_all P r.pairs h

pub all_pairs : (P : ℕ → Type 0) (r : Row) → All P (row_variables r) → All (λ p. P p.0) r.pairs
all_pairs P r h = each_all (λ (p : ℕ × ℤ). P p.0) r.pairs (λ p m. all_each P (row_variables r) h p.0 (among_mapped (λ (q : ℕ × ℤ). q.0) m))

rows_push : (rows : List Row) (r : Row) → rows_variables (rows ++ r ∷ []) ≡ rows_variables rows ++ (row_variables r ++ [])
rows_push [] r = refl
rows_push (s ∷ rows) r = ap (λ (v : List ℕ). row_variables s ++ v) (rows_push rows r) ∙ sym (assoc (row_variables s) (rows_variables rows) (row_variables r ++ []))
  where
    assoc : (xs ys zs : List ℕ) → (xs ++ ys) ++ zs ≡ xs ++ (ys ++ zs)
    assoc [] ys zs = refl
    assoc (x ∷ xs) ys zs = ap (λ (v : List ℕ). x ∷ v) (assoc xs ys zs)

-- the variables of one more row
pub rows_more : (P : ℕ → Type 0) (rows : List Row) (i : ℕ) (r : Row) → i < length rows → r ≡ get_or rows i r
    → ((n : ℕ) → Among n (rows_variables (take i rows)) → P n) → All P (row_variables r) → (n : ℕ) → Among n (rows_variables (take (i + 1) rows)) → P n
rows_more P rows i r within item done one n m =
    let Q : List Row → Type 0 = λ v. Among n (rows_variables v) in
    let R : List ℕ → Type 0 = λ v. Among n v in
    let k = subst R (rows_push (take i rows) r) (subst Q (take_more rows i r within ∙ ap (λ (x : Row). take i rows ++ x ∷ []) (sym item)) m) in
    elim (among_either n (rows_variables (take i rows)) (row_variables r ++ []) k) [
      | inl a ↦ done n a
      | inr b ↦ (elim (among_either n (row_variables r) [] b) [ inl c ↦ all_each P (row_variables r) one n c | inr d ↦ elim d [ ] ])
    ]

among_get : (xs : List Row) (i : ℕ) (d : Row) → i < length xs → Among (get_or xs i d) xs
among_get [] i d w = absurd (omega arith)
among_get (x ∷ xs) zero d w = first
among_get (x ∷ xs) (suc i) d w = next (among_get xs i d (omega arith))

-- the variables of a row of the list
pub rows_at : (P : ℕ → Type 0) (rows : List Row) (i : ℕ) (r : Row) → i < length rows → r ≡ get_or rows i r → All P (rows_variables rows) → All P (row_variables r)
rows_at P rows i r within item all =
    let Q : Row → Type 0 = λ s. All P (row_variables s) in
    let m = among_get rows i r within in
    subst Q (sym item) (each_all P (row_variables (get_or rows i r)) (λ n a. all_each P (rows_variables rows) all n (among_rows (get_or rows i r) rows n m a)))

pub rows_end : (P : ℕ → Type 0) (rows : List Row) (i : ℕ) → length rows ≤ i → ((n : ℕ) → Among n (rows_variables (take i rows)) → P n) → All P (rows_variables rows)
rows_end P rows i end h =
    let Q : List Row → Type 0 = λ v. All P (rows_variables v) in
    subst Q (take_all i rows end) (each_all P (rows_variables (take i rows)) h)

-- ---- renamed rows
abbrev pub written : (ℕ → ℕ) → Row → Row
written f r = normal (renamed f r)

map_push : (f : ℕ → ℕ) (rows : List Row) (r : Row) → map (written f) (rows ++ r ∷ []) ≡ map (written f) rows ++ written f r ∷ []
map_push f [] r = refl
map_push f (s ∷ rows) r = ap (λ (v : List Row). written f s ∷ v) (map_push f rows r)

pub written_more : (f : ℕ → ℕ) (rows all more : List Row) (i : ℕ) (r s : Row) → i < length rows → r ≡ get_or rows i r → all ≡ map (written f) (take i rows) → s ≡ written f r → more ≡ all ++ s ∷ []
    → more ≡ map (written f) (take (i + 1) rows)
written_more f rows all more i r s within item done one is =
    is ∙ ap (λ (v : List Row). v ++ s ∷ []) done ∙ ap (λ (x : Row). map (written f) (take i rows) ++ x ∷ []) one
    ∙ sym (map_push f (take i rows) r) ∙ sym (ap (map (written f)) (take_more rows i r within ∙ ap (λ (x : Row). take i rows ++ x ∷ []) (sym item)))

pub written_end : (f : ℕ → ℕ) (rows all : List Row) (i : ℕ) → length rows ≤ i → all ≡ map (written f) (take i rows) → all ≡ map (written f) rows
written_end f rows all i end h = h ∙ ap (map (written f)) (take_all i rows end)

and_false : (b : Bool) → (b && false) ≡ false
and_false true = refl
and_false false = refl

outside_get : (f : ℕ → ℕ) (rows : List Row) (i : ℕ) (d : Row) → i < length rows → is_within (written f (get_or rows i d)) ≡ false → all_within (map (renamed f) rows) ≡ false
outside_get f [] i d w h = absurd (omega arith)
outside_get f (r ∷ rows) zero d w h = ap (λ (b : Bool). b && all_within (map (renamed f) rows)) h
outside_get f (r ∷ rows) (suc i) d w h = ap (λ (b : Bool). is_within (written f r) && b) (outside_get f rows i d (omega arith) h) ∙ and_false (is_within (written f r))

pub outside : (f : ℕ → ℕ) (rows : List Row) (i : ℕ) (r : Row) → i < length rows → r ≡ get_or rows i r → is_within (written f r) ≡ false → all_within (map (renamed f) rows) ≡ false
outside f rows i r within item h =
    let P : Row → Type 0 = λ s. is_within (written f s) ≡ false in
    outside_get f rows i r within (subst P item h)

-- ---- with another table
pub renamed_as : (f g : ℕ → ℕ) (rows : List Row) → All (λ n. f n ≡ g n) (rows_variables rows) → map (renamed f) rows ≡ map (renamed g) rows
renamed_as f g rows h = go rows (λ n m. all_each (λ n. f n ≡ g n) (rows_variables rows) h n m)
  where
    go : (rs : List Row) → ((n : ℕ) → Among n (rows_variables rs) → f n ≡ g n) → map (renamed f) rs ≡ map (renamed g) rs
    go [] k = refl
    go (r ∷ rs) k =
        let one = renamed_agrees f g r.pairs (λ n m. k n (among_front n (row_variables r) (rows_variables rs) m)) in
        let row : List (ℕ × ℤ) → Row = λ ps. record { rel = r.rel; pairs = ps; constant = r.constant } in
        ap (λ (ps : List (ℕ × ℤ)). row ps ∷ map (renamed f) rs) one
        ∙ ap (λ (v : List Row). renamed g r ∷ v) (go rs (λ n m. k n (among_back n (row_variables r) (rows_variables rs) m)))

map_twice : (f : ℕ → ℕ) (rows : List Row) → map (written f) rows ≡ map normal (map (renamed f) rows)
map_twice f [] = refl
map_twice f (r ∷ rows) = ap (λ (v : List Row). written f r ∷ v) (map_twice f rows)

pub written_as : (f g : ℕ → ℕ) (rows : List Row) → All (λ n. f n ≡ g n) (rows_variables rows) → map (written f) rows ≡ map (written g) rows
written_as f g rows h = map_twice f rows ∙ ap (map normal) (renamed_as f g rows h) ∙ sym (map_twice g rows)

-- ---- a loop's turn
pub noted_more : (P Q : ℕ → Type 0) (ps : List (ℕ × ℤ)) (i : ℕ) (d : ℕ × ℤ) → i < length ps → All (λ p. P p.0) (take i ps) → ((n : ℕ) → P n → Q n) → Q (get_or ps i d).0 → All (λ p. Q p.0) (take (i + 1) ps)
noted_more P Q ps i d within all more one =
    All-more (λ (p : ℕ × ℤ). Q p.0) ps i d within (All-weaker (λ (p : ℕ × ℤ). P p.0) (λ (p : ℕ × ℤ). Q p.0) (λ p h. more p.0 h) (take i ps) all) one

pub noted_end : (P : ℕ → Type 0) (r : Row) (ps : List (ℕ × ℤ)) (i : ℕ) → ps ≡ r.pairs → length ps ≤ i → All (λ p. P p.0) (take i ps) → All P (row_variables r)
noted_end P r ps i e end h =
    let Q : List (ℕ × ℤ) → Type 0 = λ qs. All (λ p. P p.0) qs in
    row_all P r (subst Q (take_all i ps end ∙ e) h)

pub number_at : (P : ℕ → Type 0) (r : Row) (ps : List (ℕ × ℤ)) (i : ℕ) (d : ℕ × ℤ) → ps ≡ r.pairs → i < length ps → All P (row_variables r) → P (get_or ps i d).0
number_at P r ps i d e within h =
    let Q : List (ℕ × ℤ) → Type 0 = λ qs. All (λ p. P p.0) qs in
    subst Q (sym e) (all_pairs P r h) i d within

pub if_ok_rows : {E : Type 0} (r : Result (List Row) E) (xs ys : List Row) → xs ≡ ys → IfOk r (λ rs. rs ≡ xs) → IfOk r (λ rs. rs ≡ ys)
if_ok_rows r xs ys e h = let P : List Row → Type 0 = λ zs. IfOk r (λ rs. rs ≡ zs) in subst P e h
