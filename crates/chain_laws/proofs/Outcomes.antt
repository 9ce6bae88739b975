-- How a chain ends: each outcome comes exactly where the chain reaches items at which it ends so.
use Rattle.std.proofs.Common.{◌≡◌, ℕ, zero, suc, ◌≤◌, List, length, Bool, true, false, not, ◌⊎◌, inl, inr, arith, refl, ◌∙◌, ap, subst}
use Rattle.std.specs.Prelude.{Option, Some, None, nat_le, if◌then◌else◌, ◌↔◌}
use Rattle.linear_model.specs.Items.{Item, turn, kept}
use Rattle.linear_model.specs.Chain.{Outcome, Shown, NotEntailed, Overflow, TooLong, first_false, least_variable, all_within, unless_false, after_turn, turn_by, chain_within, places, chain}
use Rattle.chain_laws.specs.Laws.{Reaches, here, onward, Ends}
use Rattle.chain_laws.proofs.Variables.{Risings, Bounded, none_left, one_less, all_variables}

abbrev Reach : List Item → Outcome → Type 0
Reach items o = (later : List Item) × Reaches items later × Ends later o

-- ---- from the outcome to the items that are reached
module _ (go_on : List Item → Outcome) (items : List Item) (none : first_false items ≡ None) (x : ℕ) (least : least_variable items ≡ Some x) (ih : Reach (kept (turn x items)) (go_on (kept (turn x items)))) where
  turned : Reach items (after_turn go_on (turn x items))
  turned = by (all_within (turn x items)) (nat_le (length (kept (turn x items))) 1024) refl refl
    where
      by : (s t : Bool) → all_within (turn x items) ≡ s → nat_le (length (kept (turn x items))) 1024 ≡ t
          → Reach items (if not s then Overflow else if t then go_on (kept (turn x items)) else TooLong)
      by true true s t = (ih.0, onward x none least s t ih.1, ih.2)
      by true false s t = (items, here, (none, (x, least, s, t)))
      by false t s u = (items, here, (none, (x, least, s)))

pub reached : (n : ℕ) (xs : List ℕ) (items : List Item) → Bounded n xs items → Reach items (chain_within n items)
reached zero xs items b = by (first_false items) refl
  where
    by : (o : Option Item) → first_false items ≡ o → Reach items (unless_false o NotEntailed)
    by (Some i) e = (items, here, e)
    by None e = (items, here, (e, none_left xs items b))
reached (suc n) xs items b = by (λ ys later c. reached n ys later c) (first_false items) refl
  where
    next_turn : ((ys : List ℕ) (later : List Item) → Bounded n ys later → Reach later (chain_within n later)) → first_false items ≡ None
        → (o : Option ℕ) → least_variable items ≡ o → Reach items (turn_by (chain_within n) items o)
    next_turn ih e None l = (items, here, (e, l))
    next_turn ih e (Some x) l = turned (chain_within n) items e x l (ih _ (kept (turn x items)) (one_less n xs items x b l))

    by : ((ys : List ℕ) (later : List Item) → Bounded n ys later → Reach later (chain_within n later)) → (o : Option Item) → first_false items ≡ o
        → Reach items (unless_false o (turn_by (chain_within n) items (least_variable items)))
    by ih (Some i) e = (items, here, e)
    by ih None e = next_turn ih e (least_variable items) refl

-- ---- from the items that are reached to the outcome
stops_at_false : (n : ℕ) (items : List Item) (i : Item) → first_false items ≡ Some i → chain_within n items ≡ Shown i
stops_at_false zero items i e = ap (λ o. unless_false o NotEntailed) e
stops_at_false (suc n) items i e = ap (λ o. unless_false o (turn_by (chain_within n) items (least_variable items))) e

stops_without_variable : (n : ℕ) (items : List Item) → first_false items ≡ None → least_variable items ≡ None → chain_within n items ≡ NotEntailed
stops_without_variable zero items e l = ap (λ o. unless_false o NotEntailed) e
stops_without_variable (suc n) items e l = ap (λ o. unless_false o (turn_by (chain_within n) items (least_variable items))) e ∙ ap (turn_by (chain_within n) items) l

takes_turn : (n : ℕ) (items : List Item) (x : ℕ) → first_false items ≡ None → least_variable items ≡ Some x → chain_within (suc n) items ≡ after_turn (chain_within n) (turn x items)
takes_turn n items x e l = ap (λ o. unless_false o (turn_by (chain_within n) items (least_variable items))) e ∙ ap (turn_by (chain_within n) items) l

abbrev after : (List Item → Outcome) → List Item → Bool → Bool → Outcome
after go_on made s t = if not s then Overflow else if t then go_on (kept made) else TooLong

turn_goes_on : (go_on : List Item → Outcome) (made : List Item) → all_within made ≡ true → nat_le (length (kept made)) 1024 ≡ true → after_turn go_on made ≡ go_on (kept made)
turn_goes_on go_on made s t = ap (λ b. after go_on made b (nat_le (length (kept made)) 1024)) s ∙ ap (λ b. after go_on made true b) t

turn_overflows : (go_on : List Item → Outcome) (made : List Item) → all_within made ≡ false → after_turn go_on made ≡ Overflow
turn_overflows go_on made s = ap (λ b. after go_on made b (nat_le (length (kept made)) 1024)) s

turn_is_long : (go_on : List Item → Outcome) (made : List Item) → all_within made ≡ true → nat_le (length (kept made)) 1024 ≡ false → after_turn go_on made ≡ TooLong
turn_is_long go_on made s t = ap (λ b. after go_on made b (nat_le (length (kept made)) 1024)) s ∙ ap (λ b. after go_on made true b) t

-- with a variable left there is a turn left
no_turn_left : (xs : List ℕ) (items : List Item) (x : ℕ) → Bounded zero xs items → least_variable items ≡ Some x → ⊥
no_turn_left xs items x b l = let e = none_left xs items b in cc

ends_so : (n : ℕ) (xs : List ℕ) (items : List Item) (o : Outcome) → Bounded n xs items → Ends items o → chain_within n items ≡ o
ends_so n xs items (Shown i) b e = stops_at_false n items i e
ends_so n xs items NotEntailed b e = stops_without_variable n items e.0 e.1
ends_so zero xs items Overflow b e = absurd (no_turn_left xs items e.1.0 b e.1.1)
ends_so (suc n) xs items Overflow b e = takes_turn n items e.1.0 e.0 e.1.1 ∙ turn_overflows (chain_within n) (turn e.1.0 items) e.1.2
ends_so zero xs items TooLong b e = absurd (no_turn_left xs items e.1.0 b e.1.1)
ends_so (suc n) xs items TooLong b e = takes_turn n items e.1.0 e.0 e.1.1 ∙ turn_is_long (chain_within n) (turn e.1.0 items) e.1.2 e.1.3

pub ended : (o : Outcome) {items later : List Item} → Reaches items later → Ends later o → (n : ℕ) (xs : List ℕ) → Bounded n xs items → chain_within n items ≡ o
ended o {items = items} here e n xs b = ends_so n xs items o b e
ended o {items = items} (onward x f l s t r) e zero xs b = absurd (no_turn_left xs items x b l)
ended o {items = items} (onward x f l s t r) e (suc n) xs b =
    takes_turn n items x f l
    ∙ (turn_goes_on (chain_within n) (turn x items) s t ∙ ended o r e n _ (one_less n xs items x b l))

-- ---- the laws
pub outcome_is_exact : (items : List Item) (o : Outcome) → Risings items → (chain items ≡ o) ↔ Reach items o
outcome_is_exact items o h =
    let b = all_variables items (places items) h (omega arith) in (
      λ e. subst (Reach items) e (reached (places items) _ items b),
      λ r. ended o r.1 r.2 (places items) _ b,
    )

pub turns_suffice : (items : List Item) (n : ℕ) → Risings items → places items ≤ n → chain_within n items ≡ chain items
turns_suffice items n h l =
    let r = reached (places items) _ items (all_variables items (places items) h (omega arith)) in
    ended (chain items) r.1 r.2 n _ (all_variables items n h l)

-- enough turns are as good as any others
steady : (n : ℕ) (xs : List ℕ) (m : ℕ) (ys : List ℕ) (items : List Item) → Bounded n xs items → Bounded m ys items → chain_within n items ≡ chain_within m items
steady n xs m ys items b c = let r = reached m ys items c in ended (chain_within m items) r.1 r.2 n xs b

module _ (items : List Item) (h : Risings items) where
  by_turn : (n : ℕ) (x : ℕ) → first_false items ≡ None → least_variable items ≡ Some x → places items ≤ n → after_turn (chain_within n) (turn x items) ≡ after_turn chain (turn x items)
  by_turn n x f l k = by (all_within (turn x items)) (nat_le (length (kept (turn x items))) 1024)
    where
      by : (s t : Bool) → after (chain_within n) (turn x items) s t ≡ after chain (turn x items) s t
      by true true =
          let b = one_less n _ items x (all_variables items (suc n) h (omega arith)) l in
          steady n _ (places (kept (turn x items))) _ (kept (turn x items)) b (all_variables (kept (turn x items)) (places (kept (turn x items))) b.rising (omega arith))
      by true false = refl
      by false t = refl

  by_variable : (o : Option ℕ) → first_false items ≡ None → least_variable items ≡ o → turn_by (chain_within (places items)) items o ≡ turn_by chain items o
  by_variable None f l = refl
  by_variable (Some x) f l = by_turn (places items) x f l (omega arith)

  -- a chain goes by turns until it ends
  pub goes_by_turns : chain items ≡ unless_false (first_false items) (turn_by chain items (least_variable items))
  goes_by_turns =
      steady (places items) _ (suc (places items)) _ items (all_variables items (places items) h (omega arith)) (all_variables items (suc (places items)) h (omega arith))
      ∙ by (first_false items) refl
    where
      by : (o : Option Item) → first_false items ≡ o
          → unless_false o (turn_by (chain_within (places items)) items (least_variable items)) ≡ unless_false o (turn_by chain items (least_variable items))
      by (Some i) f = refl
      by None f = by_variable (least_variable items) f refl

-- ---- what is shown is reached, also where variables don't rise
abbrev ReachFalse : List Item → Item → Type 0
ReachFalse items i = (later : List Item) × Reaches items later × (first_false later ≡ Some i)

shown_of : (o : Option Item) (p : Outcome) (i : Item) → unless_false o p ≡ Shown i → (o ≡ Some i) ⊎ ((o ≡ None) × (p ≡ Shown i))
shown_of None p i e = inr (refl, e)
shown_of (Some j) p i e = inl (let f : j ≡ i = cc in ap Some f)

pub reached_false : (n : ℕ) (items : List Item) (i : Item) → chain_within n items ≡ Shown i → ReachFalse items i
reached_false zero items i e = elim (shown_of (first_false items) NotEntailed i e) [ inl f ↦ (items, here, f) | inr f ↦ absurd (let g = f.1 in cc) ]
reached_false (suc n) items i e =
    elim (shown_of (first_false items) (turn_by (chain_within n) items (least_variable items)) i e) [
      | inl f ↦ (items, here, f)
      | inr f ↦ by (λ later h. reached_false n later i h) f.0 (least_variable items) refl f.1
    ]
  where
    within : ((later : List Item) → chain_within n later ≡ Shown i → ReachFalse later i) → first_false items ≡ None → (x : ℕ) → least_variable items ≡ Some x
        → (s t : Bool) → all_within (turn x items) ≡ s → nat_le (length (kept (turn x items))) 1024 ≡ t → after (chain_within n) (turn x items) s t ≡ Shown i → ReachFalse items i
    within ih f x l true true s t k = let r = ih (kept (turn x items)) k in (r.0, onward x f l s t r.1, r.2)
    within ih f x l true false s t k = cc
    within ih f x l false t s u k = cc

    by : ((later : List Item) → chain_within n later ≡ Shown i → ReachFalse later i) → first_false items ≡ None → (o : Option ℕ) → least_variable items ≡ o
        → turn_by (chain_within n) items o ≡ Shown i → ReachFalse items i
    by ih f None l k = cc
    by ih f (Some x) l k = within ih f x l (all_within (turn x items)) (nat_le (length (kept (turn x items))) 1024) refl refl k
