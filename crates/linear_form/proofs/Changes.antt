-- Terms that are added one by one, and that are changed in place one by one.
use Rattle.std.proofs.Common.{◌≡◌, ℕ, zero, suc, ◌+◌, ◌≤◌, List, [], ◌∷◌, length, drop, drop-cons, add-one, Bool, true, false, ◌&&◌, not, nat_eq, cond, slice_get, Some, arith, refl, sym, ◌∙◌, ap, subst}
use Rattle.std.specs.Prelude.{if◌then◌else◌}
use Rattle.std.specs.List.{AllByRecursion, IsDistinct}
use Rattle.std.specs.Map.{lookup, keys_of, values_of}
use Rattle.std.proofs.lemmas.Bool.Decides.{nat_tests}
use Rattle.std.proofs.lemmas.Option.{slice_get_within, get_or_from_slice_get}
use Rattle.indexmap.specs.IndexMap.{insert_entry, set_value_at}
use Rattle.clp_rationals.specs.Fraction.{Fraction}
use Rattle.frac_model.specs.Reduced as frac
use Rattle.frac_model.specs.Results.{is_small}
use Rattle.linear_model.specs.Forms.{is_zero}
use Rattle.form_model.specs.Forms.{are_small, all_zero, each, with_term, with_terms}
use Rattle.linear_form.specs.Terms.{sum_with, is_large, each_from, are_small_to}

abbrev Terms : Type 0
Terms = List (ℕ × Fraction)

-- ---- one more term
pub inserted : (v : ℕ) (c s : Fraction) (ps : Terms) → s ≡ sum_with (lookup (nat_eq v) ps) c → insert_entry nat_eq ps v s ≡ with_term v c ps
inserted v c s [] e = ap (λ x. (v, x) ∷ []) e
inserted v c s (p ∷ ps) e = by (nat_eq v p.0) (inserted v c s ps) e
  where
    by : (b : Bool) → (s ≡ sum_with (lookup (nat_eq v) ps) c → insert_entry nat_eq ps v s ≡ with_term v c ps)
        → s ≡ sum_with (cond b (Some p.1) (lookup (nat_eq v) ps)) c
        → (if b then (p.0, s) ∷ ps else p ∷ insert_entry nat_eq ps v s) ≡ (if b then (p.0, frac.sum p.1 c) ∷ ps else p ∷ with_term v c ps)
    by true ih e = ap (λ x. (p.0, x) ∷ ps) e
    by false ih e = ap (λ xs. p ∷ xs) (ih e)

both : (a b : Bool) → (a && b) ≡ true → (a ≡ true) × (b ≡ true)
both true true e = (refl, refl)
both true false e = cc
both false b e = cc

pub with_term_small : (v : ℕ) (c : Fraction) (ps : Terms) → is_small (sum_with (lookup (nat_eq v) ps) c) ≡ true → are_small ps ≡ true → are_small (with_term v c ps) ≡ true
with_term_small v c [] e h = rw e refl
with_term_small v c (p ∷ ps) e h = by (nat_eq v p.0) (with_term_small v c ps) e (both (is_small p.1) (are_small ps) h)
  where
    by : (b : Bool) → (is_small (sum_with (lookup (nat_eq v) ps) c) ≡ true → are_small ps ≡ true → are_small (with_term v c ps) ≡ true)
        → is_small (sum_with (cond b (Some p.1) (lookup (nat_eq v) ps)) c) ≡ true → (is_small p.1 ≡ true) × (are_small ps ≡ true)
        → are_small (if b then (p.0, frac.sum p.1 c) ∷ ps else p ∷ with_term v c ps) ≡ true
    by true ih e h = let a = h.1 in rw (e, a) refl
    by false ih e h = let a = h.0 in let b = ih e h.1 in rw (a, b) refl

same_test : (n : ℕ) → nat_eq n n ≡ true
same_test n = grind (arith, nat_tests)

not_small : (f : Fraction) → is_small f ≡ false → not (is_small f) ≡ true
not_small f e = rw e refl

pub large_sum : (v : ℕ) (c : Fraction) (ps : Terms) → is_small (sum_with (lookup (nat_eq v) ps) c) ≡ false → is_large v (with_term v c ps) ≡ true
large_sum v c [] e = let t = same_test v in rw t (not_small c e)
large_sum v c (p ∷ ps) e = by (nat_eq v p.0) refl (large_sum v c ps) e
  where
    by : (b : Bool) → nat_eq v p.0 ≡ b → (is_small (sum_with (lookup (nat_eq v) ps) c) ≡ false → is_large v (with_term v c ps) ≡ true)
        → is_small (sum_with (cond b (Some p.1) (lookup (nat_eq v) ps)) c) ≡ false
        → is_large v (if b then (p.0, frac.sum p.1 c) ∷ ps else p ∷ with_term v c ps) ≡ true
    by true t ih e = ap (λ b. if b then not (is_small (frac.sum p.1 c)) else is_large v ps) t ∙ not_small (frac.sum p.1 c) e
    by false t ih e = ap (λ b. if b then not (is_small p.1) else is_large v (with_term v c ps)) t ∙ ih e

-- ---- a coefficient that is out of range stays
large_other : (v w : ℕ) (c : Fraction) (ps : Terms) → nat_eq v w ≡ false → is_large v (with_term w c ps) ≡ is_large v ps
large_other v w c [] n = ap (λ b. if b then not (is_small c) else false) n
large_other v w c (p ∷ ps) n = by (nat_eq w p.0) refl (large_other v w c ps n)
  where
    by : (b : Bool) → nat_eq w p.0 ≡ b → is_large v (with_term w c ps) ≡ is_large v ps
        → is_large v (if b then (p.0, frac.sum p.1 c) ∷ ps else p ∷ with_term w c ps) ≡ is_large v (p ∷ ps)
    by true t ih =
        let f : nat_eq v p.0 ≡ false = grind (arith, nat_tests) in
        ap (λ b. if b then not (is_small (frac.sum p.1 c)) else is_large v ps) f ∙ sym (ap (λ b. if b then not (is_small p.1) else is_large v ps) f)
    by false t ih = ap (λ x. if nat_eq v p.0 then not (is_small p.1) else x) ih

large_stays : (v : ℕ) (ps qs : Terms) → AllByRecursion (λ w. nat_eq v w ≡ false) (keys_of qs) → is_large v ps ≡ true → is_large v (with_terms ps qs) ≡ true
large_stays v ps [] a e = e
large_stays v ps (q ∷ qs) a e = large_stays v (with_term q.0 q.1 ps) qs a.1 (large_other v q.0 q.1 ps a.0 ∙ e)

and_false : (b : Bool) → (b && false) ≡ false
and_false true = refl
and_false false = refl

large_refused : (v : ℕ) (ps : Terms) → is_large v ps ≡ true → are_small ps ≡ false
large_refused v [] e = cc
large_refused v (p ∷ ps) e = by (nat_eq v p.0) (is_small p.1) (large_refused v ps) e
  where
    by : (b s : Bool) → (is_large v ps ≡ true → are_small ps ≡ false) → (if b then not s else is_large v ps) ≡ true → (s && are_small ps) ≡ false
    by true true ih e = cc
    by true false ih e = refl
    by false s ih e = ap (λ x. s && x) (ih e) ∙ and_false s

-- ---- the turns of the sum
pub front : {X : Type 0} (xs : List X) (i : ℕ) (x : X) → slice_get xs i ≡ Some x → drop i xs ≡ x ∷ drop (i + 1) xs
front xs i x e =
    let d = drop-cons xs i x (slice_get_within xs i x e) in
    let g = get_or_from_slice_get xs i x x e in
    d ∙ (ap (λ y. y ∷ drop (suc i) xs) g ∙ ap (λ n. x ∷ drop n xs) (sym (add-one i)))

tail_distinct : (i : ℕ) (qs : Terms) → IsDistinct nat_eq (keys_of qs) → IsDistinct nat_eq (keys_of (drop i qs))
unfolding IsDistinct
tail_distinct zero qs d = d
tail_distinct (suc i) [] d = d
tail_distinct (suc i) (q ∷ qs) d = tail_distinct i qs d.1

module _ (ps qs all now : Terms) (i : ℕ) (t : ℕ × Fraction) (at : slice_get qs i ≡ Some t) (so_far : with_terms ps (drop i qs) ≡ all) where
  unfolded : with_terms (with_term t.0 t.1 ps) (drop (i + 1) qs) ≡ all
  unfolded = sym (ap (λ xs. with_terms ps xs) (front qs i t at)) ∙ so_far

  pub sum_goes_on : now ≡ with_term t.0 t.1 ps → with_terms now (drop (i + 1) qs) ≡ all
  sum_goes_on e = ap (λ xs. with_terms xs (drop (i + 1) qs)) e ∙ unfolded

  pub sum_is_refused : IsDistinct nat_eq (keys_of qs) → is_large t.0 (with_term t.0 t.1 ps) ≡ true → are_small all ≡ false
  unfolding IsDistinct
  sum_is_refused d e =
      let k = subst (λ xs. IsDistinct nat_eq (keys_of xs)) (front qs i t at) (tail_distinct i qs d) in
      ap are_small (sym unfolded) ∙ large_refused t.0 (with_terms (with_term t.0 t.1 ps) (drop (i + 1) qs)) (large_stays t.0 (with_term t.0 t.1 ps) (drop (i + 1) qs) k.0 e)

-- ---- changes in place
some_same : {X : Type 0} (x y : X) → Some x ≡ Some y → x ≡ y
some_same x y e = cc

module _ (g : Fraction → Fraction) where
  pub each_goes_on : (i : ℕ) (ps : Terms) (c w : Fraction) → slice_get (values_of ps) i ≡ Some c → w ≡ g c → each_from g (i + 1) (set_value_at ps i w) ≡ each_from g i ps
  each_goes_on i ps c w at e = ap (λ n. each_from g n (set_value_at ps i w)) (add-one i) ∙ by i ps at
    where
      by : (i : ℕ) (ps : Terms) → slice_get (values_of ps) i ≡ Some c → each_from g (suc i) (set_value_at ps i w) ≡ each_from g i ps
      by zero [] at = refl
      by (suc i) [] at = refl
      by zero (p ∷ ps) at = let s : p.1 ≡ c = some_same p.1 c at in ap (λ x. (p.0, x) ∷ each g ps) (e ∙ ap g (sym s))
      by (suc i) (p ∷ ps) at = ap (λ xs. p ∷ xs) (by i ps at)

  pub each_ends : (i : ℕ) (ps : Terms) → length ps ≤ i → each_from g i ps ≡ ps
  each_ends zero [] h = refl
  each_ends zero (p ∷ ps) h = absurd (omega arith)
  each_ends (suc i) [] h = refl
  each_ends (suc i) (p ∷ ps) h = ap (λ xs. p ∷ xs) (each_ends i ps (omega arith))

  pub each_is_refused : (i : ℕ) (ps : Terms) (c : Fraction) → slice_get (values_of ps) i ≡ Some c → is_small (g c) ≡ false → are_small (each_from g i ps) ≡ false
  each_is_refused zero [] c at e = cc
  each_is_refused (suc i) [] c at e = cc
  each_is_refused zero (p ∷ ps) c at e =
      let s : p.1 ≡ c = some_same p.1 c at in
      let f : is_small (g p.1) ≡ false = ap (λ x. is_small (g x)) s ∙ e in
      rw f refl
  each_is_refused (suc i) (p ∷ ps) c at e = ap (λ b. is_small p.1 && b) (each_is_refused i ps c at e) ∙ and_false (is_small p.1)

pub small_goes_on : (i : ℕ) (ps : Terms) (w : Fraction) → is_small w ≡ true → are_small_to i ps ≡ true → are_small_to (i + 1) (set_value_at ps i w) ≡ true
small_goes_on i ps w e h = ap (λ n. are_small_to n (set_value_at ps i w)) (add-one i) ∙ by i ps h
  where
    by : (i : ℕ) (ps : Terms) → are_small_to i ps ≡ true → are_small_to (suc i) (set_value_at ps i w) ≡ true
    by zero [] h = refl
    by (suc i) [] h = refl
    by zero (p ∷ ps) h = rw e refl
    by (suc i) (p ∷ ps) h = let b = both (is_small p.1) (are_small_to i ps) h in let s = b.0 in let r = by i ps b.1 in rw (s, r) refl

pub small_ends : (i : ℕ) (ps : Terms) → length ps ≤ i → are_small_to i ps ≡ true → are_small ps ≡ true
small_ends zero [] h e = refl
small_ends zero (p ∷ ps) h e = absurd (omega arith)
small_ends (suc i) [] h e = refl
small_ends (suc i) (p ∷ ps) h e = let b = both (is_small p.1) (are_small_to i ps) e in let s = b.0 in let r = small_ends i ps (omega arith) b.1 in rw (s, r) refl

-- ---- whether all are 0
module _ (ps : Terms) (i : ℕ) (t : ℕ × Fraction) (all : Bool) (at : slice_get ps i ≡ Some t) (so_far : all_zero (drop i ps) ≡ all) where
  pub zero_goes_on : is_zero t.1.num ≡ true → all_zero (drop (i + 1) ps) ≡ all
  zero_goes_on e = sym (ap all_zero (front ps i t at) ∙ ap (λ b. b && all_zero (drop (i + 1) ps)) e) ∙ so_far

  pub zero_found : is_zero t.1.num ≡ false → false ≡ all
  zero_found e = sym (ap all_zero (front ps i t at) ∙ ap (λ b. b && all_zero (drop (i + 1) ps)) e) ∙ so_far

pub length_changed : (ps : Terms) (i : ℕ) (w : Fraction) → length (set_value_at ps i w) ≡ length ps
length_changed [] i w = refl
length_changed (p ∷ ps) zero w = refl
length_changed (p ∷ ps) (suc i) w = ap suc (length_changed ps i w)
