-- The loop of a chain.
use Rattle.std.proofs.Common.{◌≡◌, ℕ, ◌+◌, ◌-◌, ◌^◌, ◌<◌, List, [], length, get_or, drop, Bool, true, false, not, arith, refl, sym, ◌∙◌, ap, subst}
use Rattle.std.specs.Prelude.{Option, Some, None, nat_le, nat_lt, if◌then◌else◌}
use Rattle.std.proofs.lemmas.Bool.Decides.{nat_tests}
use Rattle.linear_model.specs.Items.{Item, turn, kept}
use Rattle.linear_model.specs.Chain as chains
use Rattle.linear_model.specs.Chain.{Outcome, Shown, NotEntailed, first_false, is_never, lesser, first_variable, least_variable, all_within, unless_false, after_turn, turn_by, chain}
use Rattle.chain_laws.specs.Laws.{RisingItems, HaveMultipliers}
use Rattle.chain_laws.proofs.Public.{by_turns, variables_rise, turn_rises, kept_rises, turn_keeps_count, kept_keeps_count}
use Rattle.entail_find.specs.Answers.{TurnFault, IsFault}
use Rattle.entail_find.specs.declared.fault.FindFault.{FindFault}
use Rattle.entail_find.specs.declared.fault.FindFault.TheVariants as faults
use Rattle.entail_find.proofs.Finding.{from_here}

-- ---- the first false item
pub false_here : (items : List Item) (k : ℕ) (i d : Item) → k < length items → i ≡ get_or items k i → i ≡ get_or items k d → is_never i.row ≡ true
    → first_false (drop k items) ≡ first_false items → first_false items ≡ Some (get_or items k d)
false_here items k i d h e f t g =
    let a : first_false (drop k items) ≡ Some i = ap first_false (from_here items k i h e) ∙ ap (λ b. if b then Some i else first_false (drop (k + 1) items)) t in
    sym g ∙ (a ∙ ap (λ j. Some j) f)

-- ---- the least variable
lesser_none : (a : Option ℕ) → lesser a None ≡ a
lesser_none None = refl
lesser_none (Some x) = refl

lesser_assoc : (a b c : Option ℕ) → lesser (lesser a b) c ≡ lesser a (lesser b c)
lesser_assoc None b c = refl
lesser_assoc (Some x) None c = refl
lesser_assoc (Some x) (Some y) None = refl
lesser_assoc (Some x) (Some y) (Some z) = ap (λ n. Some n) (three x y z)
  where
    three : (x y z : ℕ) → (if nat_lt z (if nat_lt y x then y else x) then z else if nat_lt y x then y else x) ≡ (if nat_lt (if nat_lt z y then z else y) x then if nat_lt z y then z else y else x)
    three x y z = by (nat_lt y x) refl (nat_lt z y) refl (nat_lt z x) refl
      where
        by : (s : Bool) → nat_lt y x ≡ s → (t : Bool) → nat_lt z y ≡ t → (u : Bool) → nat_lt z x ≡ u
            → (if nat_lt z (if s then y else x) then z else if s then y else x) ≡ (if nat_lt (if t then z else y) x then if t then z else y else x)
        by true e true f true g = rw (f, g) refl
        by true e true f false g = absurd (grind (arith, nat_tests))
        by true e false f u g = rw (f, e) refl
        by false e true f true g = rw g refl
        by false e true f false g = rw g refl
        by false e false f true g = absurd (grind (arith, nat_tests))
        by false e false f false g = rw (g, e) refl

pub least_next : (items : List Item) (k : ℕ) (i : Item) (least now : Option ℕ) → k < length items → i ≡ get_or items k i → now ≡ lesser least (first_variable i.row.pairs)
    → lesser least (least_variable (drop k items)) ≡ least_variable items → lesser now (least_variable (drop (k + 1) items)) ≡ least_variable items
least_next items k i least now h e f g =
    ap (λ a. lesser a (least_variable (drop (k + 1) items))) f
    ∙ (lesser_assoc least (first_variable i.row.pairs) (least_variable (drop (k + 1) items)) ∙ (ap (λ xs. lesser least (least_variable xs)) (sym (from_here items k i h e)) ∙ g))

pub least_end : (items : List Item) (rest : List Item) (least : Option ℕ) → rest ≡ [] → lesser least (least_variable rest) ≡ least_variable items → least ≡ least_variable items
least_end items rest least e g = sym (lesser_none least) ∙ (ap (λ xs. lesser least (least_variable xs)) (sym e) ∙ g)

-- ---- what the chain does
abbrev pub above : Option ℕ → ℕ
above None = 0
above (Some x) = 2 ^ 32 - x

module _ (items : List Item) (rising : RisingItems items) where
  pub shown : (i : Item) → first_false items ≡ Some i → chain items ≡ Shown i
  shown i e = by_turns items rising ∙ ap (λ o. unless_false o (turn_by chain items (least_variable items))) e

  pub ended : first_false items ≡ None → least_variable items ≡ None → chain items ≡ NotEntailed
  ended e f = by_turns items rising ∙ (ap (λ o. unless_false o (turn_by chain items (least_variable items))) e ∙ ap (turn_by chain items) f)

  goes : (x : ℕ) → first_false items ≡ None → least_variable items ≡ Some x → chain items ≡ after_turn chain (turn x items)
  goes x e f = by_turns items rising ∙ (ap (λ o. unless_false o (turn_by chain items (least_variable items))) e ∙ ap (turn_by chain items) f)

  pub goes_on : (x : ℕ) → first_false items ≡ None → least_variable items ≡ Some x → all_within (turn x items) ≡ true → nat_le (length (kept (turn x items))) 1024 ≡ true → chain items ≡ chain (kept (turn x items))
  goes_on x e f w n =
      goes x e f
      ∙ (ap (λ t. if not t then chains.Overflow else if nat_le (length (kept (turn x items))) 1024 then chain (kept (turn x items)) else chains.TooLong) w
      ∙ ap (λ t. if t then chain (kept (turn x items)) else chains.TooLong) n)

  pub faulty : (x : ℕ) (fault : FindFault) → first_false items ≡ None → least_variable items ≡ Some x → TurnFault (turn x items) fault → IsFault (chain items) fault
  faulty x faults.Overflow e f w = goes x e f ∙ ap (λ t. if not t then chains.Overflow else if nat_le (length (kept (turn x items))) 1024 then chain (kept (turn x items)) else chains.TooLong) w
  faulty x faults.TooLong e f w =
      goes x e f
      ∙ (ap (λ t. if not t then chains.Overflow else if nat_le (length (kept (turn x items))) 1024 then chain (kept (turn x items)) else chains.TooLong) w.0
      ∙ ap (λ t. if t then chain (kept (turn x items)) else chains.TooLong) w.1)
  faulty x faults.NoMemory e f w = tt

  pub smaller : (x : ℕ) → x < 2 ^ 32 → least_variable items ≡ Some x → above (least_variable (kept (turn x items))) < above (least_variable items)
  smaller x h e = by (least_variable (kept (turn x items))) (λ y f. variables_rise items x y rising e f)
    where
      by : (o : Option ℕ) → ((y : ℕ) → o ≡ Some y → x < y) → above o < above (least_variable items)
      by None f = subst (λ p. 0 < above p) (sym e) (omega arith)
      by (Some y) f = let k = f y refl in subst (λ p. 2 ^ 32 - y < above p) (sym e) (omega arith)

  pub rising_on : (x : ℕ) (left : List Item) → left ≡ kept (turn x items) → RisingItems left
  rising_on x left e = subst RisingItems (sym e) (kept_rises (turn x items) (turn_rises x items rising))

pub counts_on : (n x : ℕ) (items left : List Item) → HaveMultipliers n items → left ≡ kept (turn x items) → HaveMultipliers n left
counts_on n x items left h e = subst (HaveMultipliers n) (sym e) (kept_keeps_count n (turn x items) (turn_keeps_count n x items h))

pub fault_carried : (o p : Outcome) (fault : FindFault) → o ≡ p → IsFault o fault → IsFault p fault
fault_carried o p faults.Overflow e h = sym e ∙ h
fault_carried o p faults.TooLong e h = sym e ∙ h
fault_carried o p faults.NoMemory e h = tt
