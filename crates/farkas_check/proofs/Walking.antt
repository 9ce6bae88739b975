-- The walk through the variables meets each that occurs.
use Rattle.std.proofs.Common.{◌≡◌, ℕ, ◌+◌, ◌<◌, ◌≤◌, ◌⊎◌, inl, inr, List, [], ◌∷◌, Bool, true, false, ◌&&◌, ◌||◌, Option, Some, None, arith, refl, sym, ◌∙◌, ap, subst}
use Rattle.std.specs.Prelude.{⊤, nat_le, nat_lt, nat_eq, if◌then◌else◌}
use Rattle.std.specs.Ordering.{int_eq}
use Rattle.std.proofs.Math.IntN.{ℤ, pos, ◌+ℤ◌, ◌*ℤ◌}
use Rattle.std.proofs.lemmas.Int.{ints}
use Rattle.std.proofs.lemmas.Bool.Decides.{nat_tests}
use Rattle.clp_model.specs.Clauses.{Row}
use Rattle.linear_model.specs.Forms.{coefficient}
use Rattle.linear_model.specs.Certificates.{weighted_coefficient}
use Rattle.linear_laws.proofs.Ring.{mul_zero}
use Rattle.farkas_check.specs.Walk.{precedes, nearer, least_from, least_in_rows, next_variable}
use Rattle.farkas_check.specs.Checks.{cancels_at, each_passes, each_row_passes, cancels}
use Rattle.farkas_check.proofs.Sums.{both}

-- ---- whether a variable occurs
abbrev mentions : ℕ → List (ℕ × ℤ) → Bool
mentions v [] = false
mentions v (p ∷ ps) = nat_eq p.0 v || mentions v ps

abbrev mentions_any : ℕ → List Row → Bool
mentions_any v [] = false
mentions_any v (r ∷ rs) = mentions v r.pairs || mentions_any v rs

neither : (a b : Bool) → (a || b) ≡ false → (a ≡ false) × (b ≡ false)
neither true b e = cc
neither false b e = (refl, e)

either_of : (a b : Bool) → (a || b) ≡ true → (a ≡ true) ⊎ (b ≡ true)
either_of true b e = inl refl
either_of false b e = inr e

pub cases : (b : Bool) → (b ≡ true) ⊎ (b ≡ false)
cases true = inl refl
cases false = inr refl

absent : (ps : List (ℕ × ℤ)) (v : ℕ) → mentions v ps ≡ false → coefficient ps v ≡ pos 0
absent [] v e = refl
absent (p ∷ ps) v e =
    let b = neither (nat_eq p.0 v) (mentions v ps) e in
    let k = absent ps v b.1 in
    let f : (if nat_eq p.0 v then p.1 else pos 0) ≡ pos 0 = rw b.0 refl in
    ap (λ z. z +ℤ coefficient ps v) f ∙ omega (arith, ints)

nothing_weighed : (rows : List Row) (ms : List ℤ) (v : ℕ) → mentions_any v rows ≡ false → weighted_coefficient rows ms v ≡ pos 0
nothing_weighed [] ms v e = refl
nothing_weighed (r ∷ rs) [] v e = refl
nothing_weighed (r ∷ rs) (m ∷ ms) v e =
    let b = neither (mentions v r.pairs) (mentions_any v rs) e in
    let k = nothing_weighed rs ms v b.1 in
    let f : m *ℤ coefficient r.pairs v ≡ pos 0 = ap (λ z. m *ℤ z) (absent r.pairs v b.0) ∙ mul_zero m in
    omega (arith, ints)

zero_is_zero : (a b : ℤ) → a ≡ pos 0 → b ≡ pos 0 → int_eq a b ≡ true
zero_is_zero a b e f = rw (e, f) refl

unmentioned : (rows : List Row) (ms : List ℤ) (k : ℤ) (pairs : List (ℕ × ℤ)) (v : ℕ) → mentions_any v rows ≡ false → mentions v pairs ≡ false → cancels_at rows ms k pairs v ≡ true
unmentioned rows ms k pairs v e f =
    zero_is_zero (weighted_coefficient rows ms v) (k *ℤ coefficient pairs v) (nothing_weighed rows ms v e) (ap (λ z. k *ℤ z) (absent pairs v f) ∙ mul_zero k)

passing : (t : ℕ → Bool) (ps : List (ℕ × ℤ)) (v : ℕ) → each_passes t ps ≡ true → mentions v ps ≡ true → t v ≡ true
passing t [] v e f = cc
passing t (p ∷ ps) v e f =
    let b = both (t p.0) (each_passes t ps) e in
    elim (either_of (nat_eq p.0 v) (mentions v ps) f) [
      | inl h ↦ let g : p.0 ≡ v = grind (arith, nat_tests) in subst (λ n. t n ≡ true) g b.0
      | inr h ↦ passing t ps v b.1 h
    ]

passing_row : (t : ℕ → Bool) (rows : List Row) (v : ℕ) → each_row_passes t rows ≡ true → mentions_any v rows ≡ true → t v ≡ true
passing_row t [] v e f = cc
passing_row t (r ∷ rs) v e f =
    let b = both (each_passes t r.pairs) (each_row_passes t rs) e in
    elim (either_of (mentions v r.pairs) (mentions_any v rs) f) [
      | inl h ↦ passing t r.pairs v b.0 h
      | inr h ↦ passing_row t rs v b.1 h
    ]

passes_all : (t : ℕ → Bool) (ps : List (ℕ × ℤ)) → ((v : ℕ) → t v ≡ true) → each_passes t ps ≡ true
passes_all t [] h = refl
passes_all t (p ∷ ps) h = let a = h p.0 in let b = passes_all t ps h in rw (a, b) refl

rows_pass_all : (t : ℕ → Bool) (rows : List Row) → ((v : ℕ) → t v ≡ true) → each_row_passes t rows ≡ true
rows_pass_all t [] h = refl
rows_pass_all t (r ∷ rs) h = let a = passes_all t r.pairs h in let b = rows_pass_all t rs h in rw (a, b) refl

module _ (rows : List Row) (ms : List ℤ) (k : ℤ) (pairs : List (ℕ × ℤ)) where
  abbrev test : ℕ → Bool
  test = cancels_at rows ms k pairs

  pub every : cancels rows ms k pairs ≡ true → (v : ℕ) → cancels_at rows ms k pairs v ≡ true
  unfolding cancels
  every e v =
      let b = both (each_row_passes test rows) (each_passes test pairs) e in
      elim (cases (mentions_any v rows)) [
        | inl h ↦ passing_row test rows v b.0 h
        | inr h ↦ elim (cases (mentions v pairs)) [
          | inl g ↦ passing test pairs v b.1 g
          | inr g ↦ unmentioned rows ms k pairs v h g
        ]
      ]

  pub all_cancel : ((v : ℕ) → cancels_at rows ms k pairs v ≡ true) → cancels rows ms k pairs ≡ true
  unfolding cancels
  all_cancel h = let a = rows_pass_all test rows h in let b = passes_all test pairs h in rw (a, b) refl

  pub one_fails : (v : ℕ) → cancels_at rows ms k pairs v ≡ false → false ≡ cancels rows ms k pairs
  one_fails v e = elim (cases (cancels rows ms k pairs)) [
    | inl h ↦ let g = every h v in cc
    | inr h ↦ sym h
  ]

-- ---- the walk
abbrev Below : Option ℕ → ℕ → Type 0
Below None w = ⊤
Below (Some v) w = w < v

abbrev IsFrom : ℕ → Option ℕ → Type 0
IsFrom from None = ⊤
IsFrom from (Some v) = from ≤ v

nearer_below : (from v w : ℕ) (found : Option ℕ) → Below (nearer from v found) w → Below found w
nearer_below from v w None h = tt
nearer_below from v w (Some u) h = by (nat_le from v && nat_lt v u) refl h
  where
    by : (b : Bool) → (nat_le from v && nat_lt v u) ≡ b → Below (if b then Some v else Some u) w → w < u
    by true e h = let c = both (nat_le from v) (nat_lt v u) e in let d : v < u = grind (arith, nat_tests) in omega arith
    by false e h = h

nearer_skips : (from v w : ℕ) (found : Option ℕ) → from ≤ w → Below (nearer from v found) w → nat_eq v w ≡ false
nearer_skips from v w None l h = by (nat_le from v && true) refl h
  where
    by : (b : Bool) → (nat_le from v && true) ≡ b → Below (if b then Some v else None) w → nat_eq v w ≡ false
    by true e h = grind (arith, nat_tests)
    by false e h = by_le (nat_le from v) refl e
      where
        by_le : (b : Bool) → nat_le from v ≡ b → (b && true) ≡ false → nat_eq v w ≡ false
        by_le true f e = cc
        by_le false f e = grind (arith, nat_tests)
nearer_skips from v w (Some u) l h = by (nat_le from v) (nat_lt v u) refl refl h
  where
    by : (b c : Bool) → nat_le from v ≡ b → nat_lt v u ≡ c → Below (if b && c then Some v else Some u) w → nat_eq v w ≡ false
    by true true e f h = grind (arith, nat_tests)
    by true false e f h = grind (arith, nat_tests)
    by false c e f h = grind (arith, nat_tests)

nearer_from : (from v : ℕ) (found : Option ℕ) → IsFrom from found → IsFrom from (nearer from v found)
nearer_from from v found h = by (nat_le from v) (precedes v found) refl
  where
    by : (b c : Bool) → nat_le from v ≡ b → IsFrom from (if b && c then Some v else found)
    by true true e = grind (arith, nat_tests)
    by true false e = h
    by false c e = h

least_below : (from : ℕ) (ps : List (ℕ × ℤ)) (found : Option ℕ) (w : ℕ) → Below (least_from from ps found) w → Below found w
least_below from [] found w h = h
least_below from (p ∷ ps) found w h = nearer_below from p.0 w found (least_below from ps (nearer from p.0 found) w h)

least_skips : (from : ℕ) (ps : List (ℕ × ℤ)) (found : Option ℕ) (w : ℕ) → from ≤ w → Below (least_from from ps found) w → mentions w ps ≡ false
least_skips from [] found w l h = refl
least_skips from (p ∷ ps) found w l h =
    let a = nearer_skips from p.0 w found l (least_below from ps (nearer from p.0 found) w h) in
    let b = least_skips from ps (nearer from p.0 found) w l h in
    rw (a, b) refl

least_is_from : (from : ℕ) (ps : List (ℕ × ℤ)) (found : Option ℕ) → IsFrom from found → IsFrom from (least_from from ps found)
least_is_from from [] found h = h
least_is_from from (p ∷ ps) found h = least_is_from from ps (nearer from p.0 found) (nearer_from from p.0 found h)

rows_below : (from : ℕ) (rows : List Row) (found : Option ℕ) (w : ℕ) → Below (least_in_rows from rows found) w → Below found w
rows_below from [] found w h = h
rows_below from (r ∷ rs) found w h = least_below from r.pairs found w (rows_below from rs (least_from from r.pairs found) w h)

rows_skip : (from : ℕ) (rows : List Row) (found : Option ℕ) (w : ℕ) → from ≤ w → Below (least_in_rows from rows found) w → mentions_any w rows ≡ false
rows_skip from [] found w l h = refl
rows_skip from (r ∷ rs) found w l h =
    let a = least_skips from r.pairs found w l (rows_below from rs (least_from from r.pairs found) w h) in
    let b = rows_skip from rs (least_from from r.pairs found) w l h in
    rw (a, b) refl

rows_are_from : (from : ℕ) (rows : List Row) (found : Option ℕ) → IsFrom from found → IsFrom from (least_in_rows from rows found)
rows_are_from from [] found h = h
rows_are_from from (r ∷ rs) found h = rows_are_from from rs (least_from from r.pairs found) (least_is_from from r.pairs found h)

module _ (from : ℕ) (rows : List Row) (ms : List ℤ) (k : ℤ) (pairs : List (ℕ × ℤ)) where
  skipped : (w : ℕ) → from ≤ w → Below (next_variable from rows pairs) w → cancels_at rows ms k pairs w ≡ true
  unfolding next_variable
  skipped w l h =
      let found = least_from from pairs None in
      unmentioned rows ms k pairs w (rows_skip from rows found w l h) (least_skips from pairs None w l (rows_below from rows found w h))

  pub next_is_from : (v : ℕ) → Some v ≡ next_variable from rows pairs → from ≤ v
  unfolding next_variable
  next_is_from v e = subst (IsFrom from) (sym e) (rows_are_from from rows (least_from from pairs None) (least_is_from from pairs None tt))

  -- what is passed: the variables below `from`, then also those up to the next
  pub passed_more : ((w : ℕ) → w < from → cancels_at rows ms k pairs w ≡ true) → (v : ℕ) → Some v ≡ next_variable from rows pairs → cancels_at rows ms k pairs v ≡ true
      → (w : ℕ) → w < v + 1 → cancels_at rows ms k pairs w ≡ true
  passed_more h v e t w l = by (nat_lt w from) (nat_lt w v) refl refl
    where
      by : (b c : Bool) → nat_lt w from ≡ b → nat_lt w v ≡ c → cancels_at rows ms k pairs w ≡ true
      by true c f g = h w (grind (arith, nat_tests))
      by false true f g = skipped w (grind (arith, nat_tests)) (subst (λ o. Below o w) e (grind (arith, nat_tests)))
      by false false f g = let i : v ≡ w = grind (arith, nat_tests) in subst (λ n. cancels_at rows ms k pairs n ≡ true) i t

  pub passed_all : ((w : ℕ) → w < from → cancels_at rows ms k pairs w ≡ true) → None ≡ next_variable from rows pairs → true ≡ cancels rows ms k pairs
  passed_all h e = sym (all_cancel rows ms k pairs each)
    where
      each : (w : ℕ) → cancels_at rows ms k pairs w ≡ true
      each w = by (nat_lt w from) refl
        where
          by : (b : Bool) → nat_lt w from ≡ b → cancels_at rows ms k pairs w ≡ true
          by true f = h w (grind (arith, nat_tests))
          by false f = skipped w (grind (arith, nat_tests)) (subst (λ o. Below o w) e tt)
