-- The table by which a repeat is found.
use Rattle.std.proofs.Common.{◌≡◌, ◌≢◌, ℕ, suc, ◌+◌, ◌-◌, ◌<◌, ◌≤◌, ◌/◌, ◌^◌, List, [], ◌∷◌, ◌++◌, length, get_or, set, Bool, true, false, arith, refl, sym, ◌∙◌, ap, length-append, length-set, eqb-true}
use Rattle.std.specs.Prelude.{nat_eq, nat_lt}
use Rattle.std.specs.List.{list_any}
use Rattle.std.proofs.Math.Seq.{get_or-append_seam}
use Rattle.std.proofs.lemmas.List.{get_or_append_left, get_or-set_same, get_or-set_other, get_or-map, map-append}
use Rattle.std.proofs.lemmas.List.Elements.{All-from_get_or}
use Rattle.std.proofs.lemmas.List.Folds.{list_any_at, list_any_none}
use Rattle.std.proofs.lemmas.Bool.Decides.{nat_tests}
use Rattle.linear_model.specs.Normal.{normal}
use Rattle.linear_model.specs.Items.{Item, same_normal}
use Rattle.lin_row.specs.OrderLaws.{rows_are}
use Rattle.chain_items.specs.Keys.{row_hash}
use Rattle.entail_find.specs.Kept.{IsTable, bucket, buckets}

pub table_empty : (heads next : List ℕ) → length heads ≡ 1024 → length next ≡ 1025 → ((b : ℕ) → get_or heads b 0 ≡ 0) → IsTable [] heads next
table_empty heads next h k z = record {
  heads_length = h;
  next_length = k;
  few = omega arith;
  heads_within = λ b. let e = z b in omega arith;
  heads_in = λ b p. let e = z b in absurd (omega arith);
  heads_last = λ k p. absurd (omega arith);
  next_within = λ i p. absurd (omega arith);
  next_in = λ i p q. absurd (omega arith);
  next_last = λ k i p q e. absurd (omega arith);
}

-- one more at the end
module _ (bs heads next : List ℕ) (b : ℕ) (t : IsTable bs heads next) (room : length bs < 1025) (small : b < 1024) where
  abbrev n : ℕ
  n = length bs

  abbrev more : List ℕ
  more = bs ++ b ∷ []

  abbrev heads' : List ℕ
  heads' = set heads b (n + 1)

  abbrev next' : List ℕ
  next' = set next n (get_or heads b 0)

  more_length : length more ≡ n + 1
  more_length = omega (arith, length-append bs (b ∷ []))

  old_at : (k : ℕ) → k < n → get_or more k 0 ≡ get_or bs k 0
  old_at k h = get_or_append_left bs (b ∷ []) 0 k h

  new_at : get_or more n 0 ≡ b
  new_at = get_or-append_seam bs b [] 0

  head_here : get_or heads' b 0 ≡ n + 1
  head_here = let e = t.heads_length in get_or-set_same heads b (n + 1) 0 (omega arith)

  head_there : (c : ℕ) → c ≢ b → get_or heads' c 0 ≡ get_or heads c 0
  head_there c h = get_or-set_other heads b c (n + 1) 0 h

  next_here : get_or next' n 0 ≡ get_or heads b 0
  next_here = let e = t.next_length in get_or-set_same next n (get_or heads b 0) 0 (omega arith)

  next_there : (i : ℕ) → i ≢ n → get_or next' i 0 ≡ get_or next i 0
  next_there i h = get_or-set_other next n i (get_or heads b 0) 0 h

  split : (P : Type 0) (c d : ℕ) → (c ≡ d → P) → (c ≢ d → P) → P
  split P c d f g = by (nat_eq c d) refl
    where
      by : (u : Bool) → nat_eq c d ≡ u → P
      by true e = f (eqb-true c d e)
      by false e = g (λ k. absurd (let z : nat_eq c d ≡ true = grind (arith, nat_tests) in cc))

  put_heads_within : (c : ℕ) → get_or heads' c 0 ≤ length more
  put_heads_within c =
      let l = more_length in
      split (get_or heads' c 0 ≤ length more) c b
      (λ e. let h : get_or heads' c 0 ≡ n + 1 = ap (λ k. get_or heads' k 0) e ∙ head_here in omega arith)
      (λ e. let h = head_there c e in let k = t.heads_within c in omega arith)

  put_heads_in : (c : ℕ) → 0 < get_or heads' c 0 → get_or more (get_or heads' c 0 - 1) 0 ≡ c
  put_heads_in c p =
      split (get_or more (get_or heads' c 0 - 1) 0 ≡ c) c b
      (λ e.
      let h : get_or heads' c 0 - 1 ≡ n = let k : get_or heads' c 0 ≡ n + 1 = ap (λ k. get_or heads' k 0) e ∙ head_here in omega arith in
      ap (λ k. get_or more k 0) h ∙ (new_at ∙ sym e))
      (λ e.
      let h = head_there c e in
      let k = t.heads_within c in
      let q : 0 < get_or heads c 0 = omega arith in
      let l : get_or heads c 0 - 1 < n = omega arith in
      ap (λ k. get_or more (k - 1) 0) h ∙ (old_at (get_or heads c 0 - 1) l ∙ t.heads_in c q))

  last_of : (k : ℕ) → k < n → k < get_or heads' (get_or bs k 0) 0
  last_of k h =
      split (k < get_or heads' (get_or bs k 0) 0) (get_or bs k 0) b
      (λ e. let i : get_or heads' (get_or bs k 0) 0 ≡ n + 1 = ap (λ c. get_or heads' c 0) e ∙ head_here in omega arith)
      (λ e. let i = head_there (get_or bs k 0) e in let j = t.heads_last k h in omega arith)

  put_heads_last : (k : ℕ) → k < length more → k < get_or heads' (get_or more k 0) 0
  put_heads_last k h =
      let l = more_length in
      split (k < get_or heads' (get_or more k 0) 0) k n
      (λ e. let i : get_or heads' (get_or more k 0) 0 ≡ n + 1 = ap (λ c. get_or heads' c 0) (ap (λ j. get_or more j 0) e ∙ new_at) ∙ head_here in omega arith)
      (λ e. let m : k < n = omega arith in let i = ap (λ c. get_or heads' c 0) (old_at k m) in let j = last_of k m in omega arith)

  put_next_within : (i : ℕ) → i < length more → get_or next' i 0 ≤ i
  put_next_within i h =
      let l = more_length in
      split (get_or next' i 0 ≤ i) i n
      (λ e. let a : get_or next' i 0 ≡ get_or heads b 0 = ap (λ j. get_or next' j 0) e ∙ next_here in let k = t.heads_within b in omega arith)
      (λ e. let m : i < n = omega arith in let a = next_there i e in let k = t.next_within i m in omega arith)

  put_next_in : (i : ℕ) → i < length more → 0 < get_or next' i 0 → get_or more (get_or next' i 0 - 1) 0 ≡ get_or more i 0
  put_next_in i h p =
      let l = more_length in
      split (get_or more (get_or next' i 0 - 1) 0 ≡ get_or more i 0) i n
      (λ e.
      let a : get_or next' i 0 ≡ get_or heads b 0 = ap (λ j. get_or next' j 0) e ∙ next_here in
      let k = t.heads_within b in
      let q : 0 < get_or heads b 0 = omega arith in
      let m : get_or heads b 0 - 1 < n = omega arith in
      ap (λ j. get_or more (j - 1) 0) a ∙ (old_at (get_or heads b 0 - 1) m ∙ (t.heads_in b q ∙ sym (ap (λ j. get_or more j 0) e ∙ new_at))))
      (λ e.
      let m : i < n = omega arith in
      let a = next_there i e in
      let k = t.next_within i m in
      let q : 0 < get_or next i 0 = omega arith in
      let r : get_or next i 0 - 1 < n = omega arith in
      ap (λ j. get_or more (j - 1) 0) a ∙ (old_at (get_or next i 0 - 1) r ∙ (t.next_in i m q ∙ sym (old_at i m))))

  put_next_last : (k i : ℕ) → k < i → i < length more → get_or more k 0 ≡ get_or more i 0 → k < get_or next' i 0
  put_next_last k i h p s =
      let l = more_length in
      split (k < get_or next' i 0) i n
      (λ e.
      let m : k < n = omega arith in
      let a : get_or next' i 0 ≡ get_or heads b 0 = ap (λ j. get_or next' j 0) e ∙ next_here in
      let c : get_or bs k 0 ≡ b = sym (old_at k m) ∙ (s ∙ (ap (λ j. get_or more j 0) e ∙ new_at)) in
      let d = t.heads_last k m in
      let f = ap (λ j. get_or heads j 0) c in
      omega arith)
      (λ e.
      let m : i < n = omega arith in
      let r : k < n = omega arith in
      let a = next_there i e in
      let c : get_or bs k 0 ≡ get_or bs i 0 = sym (old_at k r) ∙ (s ∙ old_at i m) in
      let d = t.next_last k i h m c in
      omega arith)

  pub table_put : IsTable more heads' next'
  table_put = record {
    heads_length = length-set heads b (n + 1) ∙ t.heads_length;
    next_length = length-set next n (get_or heads b 0) ∙ t.next_length;
    few = let l = more_length in omega arith;
    heads_within = put_heads_within;
    heads_in = put_heads_in;
    heads_last = put_heads_last;
    next_within = put_next_within;
    next_in = put_next_in;
    next_last = put_next_last;
  }

-- ---- items
pub same_bucket : (i j : Item) → same_normal i j ≡ true → bucket i ≡ bucket j
same_bucket i j e = ap (λ r. row_hash r / 2 ^ 54) (rows_are (normal i.row) (normal j.row) e)

bucket_at : (items : List Item) (k : ℕ) (d : Item) → k < length items → get_or (buckets items) k 0 ≡ bucket (get_or items k d)
bucket_at items k d h = get_or-map bucket items k d 0 h

other_bucket : (i j : Item) → (bucket i ≡ bucket j → Unit {0} → ⊥) → same_normal i j ≡ false
other_bucket i j h = by (same_normal i j) refl
  where
    by : (t : Bool) → same_normal i j ≡ t → same_normal i j ≡ false
    by true e = absurd (h (same_bucket i j e) tt)
    by false e = e

pub length_buckets : (items : List Item) → length (buckets items) ≡ length items
length_buckets [] = refl
length_buckets (i ∷ items) = ap suc (length_buckets items)

module _ (items : List Item) (heads next : List ℕ) (t : IsTable (buckets items) heads next) (x : Item) where
  -- where the search begins
  pub begins_within : get_or heads (bucket x) 0 ≤ length items
  begins_within = let e = length_buckets items in let k = t.heads_within (bucket x) in omega arith

  pub begins_none : (k : ℕ) (d : Item) → get_or heads (bucket x) 0 ≤ k → k < length items → same_normal (get_or items k d) x ≡ false
  begins_none k d h l =
      other_bucket (get_or items k d) x
      (λ e _.
      let a : get_or (buckets items) k 0 ≡ bucket x = bucket_at items k d l ∙ e in
      let b = t.heads_last k (let e = length_buckets items in omega arith) in
      let c = ap (λ j. get_or heads j 0) a in
      omega arith)

  -- a step of the search
  module _ (end : ℕ) (p : 0 < end) (w : end ≤ length items) (i : get_or (buckets items) (end - 1) 0 ≡ bucket x) (here : (d : Item) → same_normal (get_or items (end - 1) d) x ≡ false)
      (none : (k : ℕ) (d : Item) → end ≤ k → k < length items → same_normal (get_or items k d) x ≡ false) where
    last : end - 1 < length (buckets items)
    last = let e = length_buckets items in omega arith

    pub step_less : get_or next (end - 1) 0 < end
    step_less = let k = t.next_within (end - 1) last in omega arith

    pub step_in : 0 < get_or next (end - 1) 0 → get_or (buckets items) (get_or next (end - 1) 0 - 1) 0 ≡ bucket x
    step_in q = t.next_in (end - 1) last q ∙ i

    pub step_none : (k : ℕ) (d : Item) → get_or next (end - 1) 0 ≤ k → k < length items → same_normal (get_or items k d) x ≡ false
    step_none k d h l = by (nat_lt k (end - 1)) refl
      where
        past : k < end - 1 → same_normal (get_or items k d) x ≡ false
        past m =
            other_bucket (get_or items k d) x
            (λ e _.
            let a : get_or (buckets items) k 0 ≡ get_or (buckets items) (end - 1) 0 = bucket_at items k d l ∙ (e ∙ sym i) in
            let b = t.next_last k (end - 1) m last a in
            omega arith)

        at : nat_eq k (end - 1) ≡ true → same_normal (get_or items k d) x ≡ false
        at e = let q = eqb-true k (end - 1) e in ap (λ j. same_normal (get_or items j d) x) q ∙ here d

        by : (u : Bool) → nat_lt k (end - 1) ≡ u → same_normal (get_or items k d) x ≡ false
        by true e = past (grind (arith, nat_tests))
        by false e = by_at (nat_eq k (end - 1)) refl
          where
            by_at : (u : Bool) → nat_eq k (end - 1) ≡ u → same_normal (get_or items k d) x ≡ false
            by_at true f = at f
            by_at false f = none k d (grind (arith, nat_tests)) l

pub none_same : (items : List Item) (x d : Item) → ((k : ℕ) → k < length items → same_normal (get_or items k d) x ≡ false) → list_any (λ y. same_normal y x) items ≡ false
none_same items x d h = list_any_none (λ y. same_normal y x) items (All-from_get_or (λ y. same_normal y x ≡ false) items d h)

pub one_same : (items : List Item) (x : Item) (k : ℕ) (d : Item) → k < length items → same_normal (get_or items k d) x ≡ true → list_any (λ y. same_normal y x) items ≡ true
one_same items x k d h e = list_any_at (λ y. same_normal y x) items k d h e

pub buckets_more : (items : List Item) (x : Item) → buckets (items ++ x ∷ []) ≡ buckets items ++ bucket x ∷ []
buckets_more items x = map-append bucket items (x ∷ [])
