-- What holds along a chain.
use Rattle.std.proofs.Common.{◌≡◌, ℕ, List, [], ◌∷◌, length, Bool, true, false, not, ◌&&◌, arith, refl, subst}
use Rattle.std.specs.Prelude.{Some, None, if◌then◌else◌}
use Rattle.std.proofs.Math.IntN.{ℤ, pos}
use Rattle.clp_model.specs.Values.{Valuation, Named, NoValue}
use Rattle.clp_model.specs.Clauses.{Row, RowHolds}
use Rattle.clp_model.proofs.Membership.{Among, first, next}
use Rattle.linear_model.specs.Forms.{IsRising}
use Rattle.linear_model.specs.Normal.{is_constant, compares, is_always}
use Rattle.linear_model.specs.Items.{Item, item_row, turn}
use Rattle.linear_model.specs.Chain.{NotEntailed, is_never, first_false, chain}
use Rattle.linear_laws.proofs.Cleaning.{always_holds}
use Rattle.linear_laws.proofs.Exact.{AllHold}
use Rattle.chain_laws.specs.Laws.{Reaches, here, onward}
use Rattle.chain_laws.proofs.Sums.{IsSum}
use Rattle.chain_laws.proofs.Turns.{kept_from, turn_rising, turn_sums, turn_multipliers, turn_back}
use Rattle.chain_laws.proofs.Variables.{Risings, Least, least}
use Rattle.chain_laws.proofs.Outcomes.{outcome_is_exact}

-- what a turn keeps, a chain keeps
pub kept_along : (P : Item → Type 0)
    → ((x : ℕ) (items : List Item) → ((i : Item) → Among i items → P i) → (i : Item) → Among i (turn x items) → P i)
    → {items later : List Item} → Reaches items later → ((i : Item) → Among i items → P i) → (i : Item) → Among i later → P i
kept_along P t here h = h
kept_along P t {items = items} (onward x f l s k r) h = kept_along P t r (λ i a. t x items h i (kept_from (turn x items) i a))

pub rising_along : {items later : List Item} → Reaches items later → Risings items → Risings later
rising_along r h = kept_along (λ (i : Item). IsRising i.row.pairs) (λ x items k. turn_rising x items k) r h

pub multipliers_along : (n : ℕ) {items later : List Item} → Reaches items later → ((i : Item) → Among i items → length i.m ≡ n) → (i : Item) → Among i later → length i.m ≡ n
multipliers_along n r h = kept_along (λ (i : Item). length i.m ≡ n) (λ x items k. turn_multipliers n x items k) r h

pub sums_along : (rows : List Row) {items later : List Item} → Reaches items later → ((i : Item) → Among i items → IsSum rows i) → (i : Item) → Among i later → IsSum rows i
sums_along rows r h = kept_along (IsSum rows) (λ x items k. turn_sums rows x items k) r h

-- a solution at the end gives one at the start
solved_back : {items later : List Item} → Reaches items later → (u : Valuation) → AllHold item_row u later → (w : Valuation) × AllHold item_row w items
solved_back here u h = (u, h)
solved_back {items = items} (onward x f l s k r) u h = let e = solved_back r u h in turn_back x items e.0 e.1

-- ---- the end
pub first_is : (items : List Item) (i : Item) → first_false items ≡ Some i → Among i items × (is_never i.row ≡ true)
first_is [] i e = cc
first_is (j ∷ items) i e = by (first_is items i) (is_never j.row) refl e
  where
    by : (first_false items ≡ Some i → Among i items × (is_never i.row ≡ true)) → (b : Bool) → is_never j.row ≡ b → (if b then Some j else first_false items) ≡ Some i
        → Among i (j ∷ items) × (is_never i.row ≡ true)
    by ih true s t = let e : j ≡ i = cc in (subst (λ k. Among k (j ∷ items)) e first, subst (λ (k : Item). is_never k.row ≡ true) e s)
    by ih false s t = let k = ih t in (next k.0, k.1)

none_false : (items : List Item) → first_false items ≡ None → (i : Item) → Among i items → is_never i.row ≡ false
none_false [] e i a = elim a [ ]
none_false (j ∷ items) e i a = by (none_false items) (is_never j.row) refl e i a
  where
    by : (first_false items ≡ None → (i : Item) → Among i items → is_never i.row ≡ false) → (b : Bool) → is_never j.row ≡ b
        → (if b then Some j else first_false items) ≡ None → (i : Item) → Among i (j ∷ items) → is_never i.row ≡ false
    by ih true s n i m = cc
    by ih false s n i first = s
    by ih false s n i (next m) = ih n i m

any_valuation : Valuation
any_valuation = record { whole = 1; positive = omega arith; number = λ v. pos 0; value = λ v. Named [] NoValue }

constant_holds : (u : Valuation) (r : Row) → r.pairs ≡ [] → is_never r ≡ false → RowHolds u r
constant_holds u r e n = always_holds u r (by r.pairs e n)
  where
    flipped : (b : Bool) → not b ≡ false → b ≡ true
    flipped true h = refl
    flipped false h = cc

    by : (ps : List (ℕ × ℤ)) → ps ≡ [] → (is_constant ps && not (compares r.rel r.constant)) ≡ false → is_always (record { rel = r.rel; pairs = ps; constant = r.constant }) ≡ true
    by [] e h = flipped (compares r.rel r.constant) h
    by (p ∷ ps) e h = cc

pub nothing_found : (items : List Item) → Risings items → chain items ≡ NotEntailed → (u : Valuation) × AllHold item_row u items
nothing_found items h e =
    let r = (outcome_is_exact items NotEntailed h).0 e in
    let l = subst (Least r.0) r.2.1 (least r.0 (rising_along r.1 h)) in
    solved_back r.1 any_valuation (λ i a. constant_holds any_valuation i.row (l i a) (none_false r.0 r.2.0 i a))
