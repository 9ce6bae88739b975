-- What one turn of the chain keeps.
use Rattle.std.proofs.Common.{◌≡◌, ℕ, zero, suc, List, [], ◌∷◌, length, arith, Bool, true, false, not, inl, inr, refl, ◌∙◌, ap, subst}
use Rattle.std.specs.List.{filter}
use Rattle.std.proofs.Math.IntN.{ℤ, pos}
use Rattle.clp_model.specs.Values.{Valuation}
use Rattle.clp_model.specs.Clauses.{Row, RowHolds}
use Rattle.clp_model.specs.declared.sort.Rel.{Rel}
use Rattle.clp_model.proofs.Membership.{Among}
use Rattle.linear_model.specs.Forms.{IsRising, coefficient}
use Rattle.linear_model.specs.Normal.{normal, is_always}
use Rattle.linear_model.specs.Elimination.{factors, opposed, stricter}
use Rattle.linear_model.specs.Items.{Item, item_row, weights, item_combination, divided_weights, item_divisor, joined, turn, same_normal, kept}
use Rattle.linear_laws.proofs.Factors.{factors_positive_0, factors_positive_1}
use Rattle.linear_laws.proofs.Lists.{filter_in, filter_out, distinct_out, distinct_like}
use Rattle.linear_laws.proofs.Bounded.{lower_size, upper_size, not_yes}
use Rattle.linear_laws.proofs.Steps.{made}
use Rattle.linear_laws.proofs.Exact.{AllHold, exact_there}
use Rattle.linear_laws.proofs.Fresh.{gone, none_comes, still_rising}
use Rattle.linear_laws.proofs.Normal.{normal_holds}
use Rattle.linear_laws.proofs.Cleaning.{same_row, always_holds}
use Rattle.chain_laws.proofs.Sums.{IsSum}
use Rattle.chain_laws.proofs.SumsKept.{sum_by_equation, sum_of_two}
use Rattle.chain_laws.proofs.SumsReduced.{reduced_sum}
use Rattle.chain_laws.proofs.Reduced.{item_joins, item_keeps}

-- ---- true constant rows and repeats
pub kept_from : (items : List Item) (i : Item) → Among i (kept items) → Among i items
kept_from items i a =
    elim (distinct_out same_normal [] (filter (λ i. not (is_always i.row)) items) i a) [
      | inl b ↦ elim b [ ]
      | inr b ↦ (filter_out (λ i. not (is_always i.row)) items i b).0
    ]

abbrev Like : Item → Item → Type 0
Like i j = normal i.row ≡ normal j.row

kept_hold : (u : Valuation) (items : List Item) → AllHold item_row u (kept items) → AllHold item_row u items
kept_hold u items h i a = by (is_always i.row) refl
  where
    by : (b : Bool) → is_always i.row ≡ b → RowHolds u i.row
    by true e = always_holds u i.row e
    by false e =
        let k = filter_in (λ (i : Item). not (is_always i.row)) items i a (not_yes _ e) in
        let l = distinct_like same_normal Like (λ i. refl) (λ i j s. same_row (normal i.row) (normal j.row) s) [] _ i k in
        (normal_holds u i.row).0 (subst (RowHolds u) l.like ((normal_holds u l.element.row).1 (h l.element l.there)))

-- ---- variables, solutions
pub turn_rising : (x : ℕ) (items : List Item) → ((i : Item) → Among i items → IsRising i.row.pairs) → (j : Item) → Among j (turn x items) → IsRising j.row.pairs
turn_rising x items h = still_rising item_row joined item_keeps x items h

pub turn_gone : (x : ℕ) (items : List Item) (j : Item) → Among j (turn x items) → coefficient j.row.pairs x ≡ pos 0
turn_gone x items = gone item_row joined item_keeps x items

pub turn_none_comes : (x : ℕ) (items : List Item) (v : ℕ) → ((i : Item) → Among i items → coefficient i.row.pairs v ≡ pos 0) → (j : Item) → Among j (turn x items) → coefficient j.row.pairs v ≡ pos 0
turn_none_comes x items v h = none_comes item_row joined item_keeps x items v h

pub turn_back : (x : ℕ) (items : List Item) (u : Valuation) → AllHold item_row u (kept (turn x items)) → (w : Valuation) × AllHold item_row w items
turn_back x items u h = let e = exact_there item_row joined item_joins x items u (kept_hold u (turn x items) h) in (e.0, e.2)

-- ---- multipliers
pub turn_sums : (rows : List Row) (x : ℕ) (items : List Item) → ((i : Item) → Among i items → IsSum rows i) → (j : Item) → Among j (turn x items) → IsSum rows j
turn_sums rows x items h =
    made item_row joined x items (IsSum rows) (record {
      left = λ i a z. h i a;
      by_equation = λ e i ae ai q p.
          let c = coefficient e.row.pairs x in
          let d = coefficient i.row.pairs x in
          let f = factors c d in
          reduced_sum rows (item_combination i.row.rel (pos f.1) i (opposed c d f.0) e) (sum_by_equation rows f.1 i (opposed c d f.0) e (factors_positive_1 c d p) q (h i ai) (h e ae));
      by_bounds = λ l r al ar hl hr.
          let c = coefficient l.row.pairs x in
          let d = coefficient r.row.pairs x in
          let f = factors c d in
          reduced_sum rows (item_combination (stricter l.row.rel r.row.rel) (pos f.0) l (pos f.1) r)
          (sum_of_two rows f.0 l f.1 r (factors_positive_0 c d (upper_size x r.row hr)) (factors_positive_1 c d (lower_size x l.row hl)) (h l al) (h r ar));
    })

length_weights : (n : ℕ) (a : ℤ) (ms : List ℤ) (b : ℤ) (ns : List ℤ) → length ms ≡ n → length ns ≡ n → length (weights a ms b ns) ≡ n
length_weights n a [] b ns e f = e
length_weights n a (m ∷ ms) b [] e f = f
length_weights n a (m ∷ ms) b (k ∷ ns) e f = more n (λ n e f. length_weights n a ms b ns e f) e f
  where
    more : (n : ℕ) → ((n : ℕ) → length ms ≡ n → length ns ≡ n → length (weights a ms b ns) ≡ n) → suc (length ms) ≡ n → suc (length ns) ≡ n → suc (length (weights a ms b ns)) ≡ n
    more zero ih e f = absurd (omega arith)
    more (suc n) ih e f = ap suc (ih n (omega arith) (omega arith))

length_divided : (d : ℤ) (ms : List ℤ) → length (divided_weights d ms) ≡ length ms
length_divided d [] = refl
length_divided d (m ∷ ms) = ap suc (length_divided d ms)

length_joined : (n : ℕ) (rel : Rel) (a : ℤ) (i : Item) (b : ℤ) (j : Item) → length i.m ≡ n → length j.m ≡ n → length (joined rel a i b j).m ≡ n
length_joined n rel a i b j e f = length_divided (item_divisor (item_combination rel a i b j)) (weights a i.m b j.m) ∙ length_weights n a i.m b j.m e f

pub turn_multipliers : (n x : ℕ) (items : List Item) → ((i : Item) → Among i items → length i.m ≡ n) → (j : Item) → Among j (turn x items) → length j.m ≡ n
turn_multipliers n x items h =
    made item_row joined x items (λ (j : Item). length j.m ≡ n) (record {
      left = λ i a z. h i a;
      by_equation = λ e i ae ai q p.
          let c = coefficient e.row.pairs x in
          let d = coefficient i.row.pairs x in
          let f = factors c d in
          length_joined n i.row.rel (pos f.1) i (opposed c d f.0) e (h i ai) (h e ae);
      by_bounds = λ l r al ar hl hr.
          let f = factors (coefficient l.row.pairs x) (coefficient r.row.pairs x) in
          length_joined n (stricter l.row.rel r.row.rel) (pos f.0) l (pos f.1) r (h l al) (h r ar);
    })
