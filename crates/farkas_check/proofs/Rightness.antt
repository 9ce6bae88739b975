-- A certificate has no fault exactly where it is right.
use Rattle.std.proofs.Common.{◌≡◌, suc, ◌⊎◌, inl, inr, List, [], ◌∷◌, length, Bool, true, false, ◌&&◌, ◌||◌, Option, Some, None, arith, refl, sym, ◌∙◌, ap, subst}
use Rattle.std.specs.Prelude.{not, nat_eq, int_lt, if◌then◌else◌, Ok, ◌↔◌, OnOk}
use Rattle.std.specs.Ordering.{int_eq}
use Rattle.std.proofs.Math.IntN.{ℤ, pos, neg_ℤ, ◌+ℤ◌, ◌*ℤ◌, zero-*ℤ}
use Rattle.std.specs.Int.Signed.{◌<ℤ◌, ◌≤ℤ◌}
use Rattle.std.proofs.lemmas.Int.{ints}
use Rattle.std.proofs.lemmas.Bool.Decides.{nat_tests}
use Rattle.clp_model.specs.Clauses.{Row}
use Rattle.clp_model.specs.declared.sort.Rel.{Rel}
use Rattle.clp_model.specs.declared.sort.Rel.TheVariants.{Eq, Le, Lt}
use Rattle.linear_model.specs.Elimination.{is_equation}
use Rattle.linear_model.specs.Changes.{at_most, flipped}
use Rattle.linear_model.specs.Forms.{coefficient}
use Rattle.linear_model.specs.Certificates.{Part, weighted_coefficient, weighted_constant, Allowed, StrictUsed, Shows, ShowsFalse, Entails}
use Rattle.linear_laws.proofs.Bounded.{less_true, true_less}
use Rattle.linear_laws.proofs.Certificates.{shown_is_entailed, equation_is_entailed}
use Rattle.farkas_check.specs.declared.fault.CheckFault.{CheckFault}
use Rattle.farkas_check.specs.declared.fault.CheckFault.TheVariants.{Form, Count, Negative, NotConstant, WrongSign}
use Rattle.farkas_check.specs.declared.cert.Cert.{Cert}
use Rattle.farkas_check.specs.declared.cert.Cert.TheVariants.{One, Two}
use Rattle.farkas_check.specs.Checks.{is_strict, is_negative, any_negative, is_strictly_used, strict_used, cancels, is_enough, sum_fault, weights_fault, first_of, allows_equal, check_fault, shown_fault, never, false_fault}
use Rattle.farkas_check.specs.Right.{IsRight, answer}
use Rattle.farkas_check.proofs.Sums.{both}
use Rattle.farkas_check.proofs.Walking.{every, all_cancel}

-- ---- tests and facts
equal_true : (a b : ℤ) → int_eq a b ≡ true → a ≡ b
equal_true a b h = grind (arith, ints)

true_equal : (a b : ℤ) → a ≡ b → int_eq a b ≡ true
true_equal a b h = grind (arith, ints)

less_false : (a b : ℤ) → int_lt a b ≡ false → b ≤ℤ a
less_false a b h = grind (arith, ints)

false_less : (a b : ℤ) → b ≤ℤ a → int_lt a b ≡ false
false_less a b h = grind (arith, ints)

neither : (a b : Bool) → (a || b) ≡ false → (a ≡ false) × (b ≡ false)
neither true b e = cc
neither false b e = (refl, e)

either_of : (a b : Bool) → (a || b) ≡ true → (a ≡ true) ⊎ (b ≡ true)
either_of true b e = inl refl
either_of false b e = inr e

or_right : (a b : Bool) → b ≡ true → (a || b) ≡ true
or_right true b e = refl
or_right false b e = e

-- ---- the multipliers by themselves
allowed_one : (r : Row) (m : ℤ) → is_negative r m ≡ false → (r.rel ≡ Eq) ⊎ (pos 0 ≤ℤ m)
allowed_one r m = by r.rel
  where
    by : (rel : Rel) → (not (is_equation rel) && int_lt m (pos 0)) ≡ false → (rel ≡ Eq) ⊎ (pos 0 ≤ℤ m)
    by Eq e = inl refl
    by Le e = inr (less_false m (pos 0) e)
    by Lt e = inr (less_false m (pos 0) e)

one_allowed : (r : Row) (m : ℤ) → (r.rel ≡ Eq) ⊎ (pos 0 ≤ℤ m) → is_negative r m ≡ false
one_allowed r m = by r.rel
  where
    by : (rel : Rel) → (rel ≡ Eq) ⊎ (pos 0 ≤ℤ m) → (not (is_equation rel) && int_lt m (pos 0)) ≡ false
    by Eq h = refl
    by Le (inl e) = cc
    by Le (inr l) = false_less m (pos 0) l
    by Lt (inl e) = cc
    by Lt (inr l) = false_less m (pos 0) l

allowed_of : (rows : List Row) (ms : List ℤ) → length ms ≡ length rows → any_negative rows ms ≡ false → Allowed rows ms
allowed_of [] [] l e = tt
allowed_of [] (m ∷ ms) l e = absurd (omega arith)
allowed_of (r ∷ rs) [] l e = absurd (omega arith)
allowed_of (r ∷ rs) (m ∷ ms) l e =
    let b = neither (is_negative r m) (any_negative rs ms) e in
    (allowed_one r m b.0, allowed_of rs ms (omega arith) b.1)

allowed_back : (rows : List Row) (ms : List ℤ) → Allowed rows ms → (length ms ≡ length rows) × (any_negative rows ms ≡ false)
allowed_back [] [] a = (refl, refl)
allowed_back [] (m ∷ ms) a = absurd a
allowed_back (r ∷ rs) [] a = absurd a
allowed_back (r ∷ rs) (m ∷ ms) a =
    let k = allowed_back rs ms a.1 in
    let e = one_allowed r m a.0 in
    (ap suc k.0, rw (e, k.1) refl)

strict_one : (r : Row) (m : ℤ) → is_strictly_used r m ≡ true → (r.rel ≡ Lt) × (pos 0 <ℤ m)
strict_one r m = by r.rel
  where
    by : (rel : Rel) → (is_strict rel && int_lt (pos 0) m) ≡ true → (rel ≡ Lt) × (pos 0 <ℤ m)
    by Eq e = cc
    by Le e = cc
    by Lt e = (refl, less_true (pos 0) m e)

one_strict : (r : Row) (m : ℤ) → (r.rel ≡ Lt) × (pos 0 <ℤ m) → is_strictly_used r m ≡ true
one_strict r m h = let a = h.0 in let b = true_less (pos 0) m h.1 in rw (a, b) refl

strict_of : (rows : List Row) (ms : List ℤ) → strict_used rows ms ≡ true → StrictUsed rows ms
strict_of [] ms e = cc
strict_of (r ∷ rs) [] e = cc
strict_of (r ∷ rs) (m ∷ ms) e = elim (either_of (is_strictly_used r m) (strict_used rs ms) e) [
  | inl h ↦ inl (strict_one r m h)
  | inr h ↦ inr (strict_of rs ms h)
]

strict_back : (rows : List Row) (ms : List ℤ) → StrictUsed rows ms → strict_used rows ms ≡ true
strict_back [] ms s = absurd s
strict_back (r ∷ rs) [] s = absurd s
strict_back (r ∷ rs) (m ∷ ms) (inl h) = let e = one_strict r m h in rw e refl
strict_back (r ∷ rs) (m ∷ ms) (inr h) = or_right (is_strictly_used r m) (strict_used rs ms) (strict_back rs ms h)

-- ---- no fault
none_first : (f g : Option CheckFault) → first_of f g ≡ None → (f ≡ None) × (g ≡ None)
none_first None g e = (refl, e)
none_first (Some f) g e = cc

no_weights_fault : (rows : List Row) (part : Part) → weights_fault rows part ≡ None → Allowed rows part.m × (pos 0 ≤ℤ part.k)
no_weights_fault rows part e =
    let b = by (nat_eq (length part.m) (length rows)) (int_lt part.k (pos 0) || any_negative rows part.m) e in
    let n = neither (int_lt part.k (pos 0)) (any_negative rows part.m) b.1 in
    let l : length part.m ≡ length rows = let t = b.0 in grind (arith, nat_tests) in
    (allowed_of rows part.m l n.1, less_false part.k (pos 0) n.0)
  where
    by : (a b : Bool) → (if not a then Some Count else if b then Some Negative else None) ≡ None → (a ≡ true) × (b ≡ false)
    by true true e = cc
    by true false e = (refl, refl)
    by false b e = cc

weights_faultless : (rows : List Row) (part : Part) → Allowed rows part.m → pos 0 ≤ℤ part.k → weights_fault rows part ≡ None
weights_faultless rows part a l =
    let b = allowed_back rows part.m a in
    let c : nat_eq (length part.m) (length rows) ≡ true = let t = b.0 in grind (arith, nat_tests) in
    let d = false_less part.k (pos 0) l in
    let e = b.1 in
    rw (c, d, e) refl

-- what is left of the constants
enough_of : (rows : List Row) (rel : Rel) (k sum needed c : ℤ) (ms : List ℤ) → sum ≡ needed +ℤ c → is_enough sum needed (strict_used rows ms) (allows_equal rel k) ≡ true
    → (pos 0 <ℤ c) ⊎ (((c ≡ pos 0) × StrictUsed rows ms) ⊎ ((c ≡ pos 0) × (rel ≡ Le) × (pos 0 <ℤ k)))
enough_of rows rel k sum needed c ms e h = elim (either_of (int_lt needed sum) (int_eq sum needed && (strict_used rows ms || allows_equal rel k)) h) [
  | inl l ↦ let a = less_true needed sum l in inl (omega (arith, ints))
  | inr q ↦
      let b = both (int_eq sum needed) (strict_used rows ms || allows_equal rel k) q in
      let a = equal_true sum needed b.0 in
      let z : c ≡ pos 0 = omega (arith, ints) in
      elim (either_of (strict_used rows ms) (allows_equal rel k) b.1) [
        | inl s ↦ inr (inl (z, strict_of rows ms s))
        | inr s ↦ let p = allowed rel s in inr (inr (z, p.0, p.1))
      ]
]
  where
    allowed : (rel : Rel) → allows_equal rel k ≡ true → (rel ≡ Le) × (pos 0 <ℤ k)
    allowed Eq e = cc
    allowed Le e = (refl, less_true (pos 0) k e)
    allowed Lt e = cc

enough_back : (rows : List Row) (rel : Rel) (k sum needed c : ℤ) (ms : List ℤ) → sum ≡ needed +ℤ c
    → (pos 0 <ℤ c) ⊎ (((c ≡ pos 0) × StrictUsed rows ms) ⊎ ((c ≡ pos 0) × (rel ≡ Le) × (pos 0 <ℤ k)))
    → is_enough sum needed (strict_used rows ms) (allows_equal rel k) ≡ true
enough_back rows rel k sum needed c ms e (inl l) =
    let a = true_less needed sum (omega (arith, ints)) in rw a refl
enough_back rows rel k sum needed c ms e (inr (inl h)) =
    let z = h.0 in
    let a = true_equal sum needed (omega (arith, ints)) in
    let s = strict_back rows ms h.1 in
    or_right (int_lt needed sum) (int_eq sum needed && (strict_used rows ms || allows_equal rel k)) (rw (a, s) refl)
enough_back rows rel k sum needed c ms e (inr (inr h)) =
    let z = h.0 in
    let a = true_equal sum needed (omega (arith, ints)) in
    let s : allows_equal rel k ≡ true = let r = h.1 in rw r (true_less (pos 0) k h.2) in
    or_right (int_lt needed sum) (int_eq sum needed && (strict_used rows ms || allows_equal rel k)) (rw a (or_right (strict_used rows ms) (allows_equal rel k) s))

no_sum_fault : (a b : Bool) → (if not a then Some NotConstant else if not b then Some WrongSign else None) ≡ None → (a ≡ true) × (b ≡ true)
no_sum_fault true true e = (refl, refl)
no_sum_fault true false e = cc
no_sum_fault false b e = cc

left : (a b : ℤ) → a ≡ b +ℤ (a +ℤ neg_ℤ b)
left a b = omega (arith, ints)

pub faultless_shows : (rows : List Row) (target : Row) (part : Part) → check_fault rows target part ≡ None → Shows rows target part
faultless_shows rows target part e =
    let f = none_first (weights_fault rows part) (sum_fault rows part.m part.k target.pairs target.constant (allows_equal target.rel part.k)) e in
    let w = no_weights_fault rows part f.0 in
    let sum = weighted_constant rows part.m in
    let needed = part.k *ℤ target.constant in
    let s = no_sum_fault (cancels rows part.m part.k target.pairs) (is_enough sum needed (strict_used rows part.m) (allows_equal target.rel part.k)) f.1 in
    record {
      allowed = w.0;
      not_negative = w.1;
      cancels = λ v. equal_true (weighted_coefficient rows part.m v) (part.k *ℤ coefficient target.pairs v) (every rows part.m part.k target.pairs s.0 v);
      c = sum +ℤ neg_ℤ needed;
      constant = left sum needed;
      enough = enough_of rows target.rel part.k sum needed (sum +ℤ neg_ℤ needed) part.m (left sum needed) s.1;
    }

pub shows_faultless : (rows : List Row) (target : Row) (part : Part) → Shows rows target part → check_fault rows target part ≡ None
shows_faultless rows target part s =
    let w = weights_faultless rows part s.allowed s.not_negative in
    let a = all_cancel rows part.m part.k target.pairs (λ v. true_equal (weighted_coefficient rows part.m v) (part.k *ℤ coefficient target.pairs v) (s.cancels v)) in
    let b = enough_back rows target.rel part.k (weighted_constant rows part.m) (part.k *ℤ target.constant) s.c part.m s.constant s.enough in
    ap (λ f. first_of f (sum_fault rows part.m part.k target.pairs target.constant (allows_equal target.rel part.k))) w ∙ rw (a, b) refl

-- ---- certificates
equation_test : (rel : Rel) → is_equation rel ≡ true → rel ≡ Eq
equation_test Eq e = refl
equation_test Le e = cc
equation_test Lt e = cc

no_equation : (rel : Rel) → is_equation rel ≡ false → ¬ (rel ≡ Eq)
no_equation Eq e h = cc
no_equation Le e h = cc
no_equation Lt e h = cc

not_equation : (rel : Rel) → ¬ (rel ≡ Eq) → is_equation rel ≡ false
not_equation Eq h = absurd (h refl)
not_equation Le h = refl
not_equation Lt h = refl

form_first : (b : Bool) (f : Option CheckFault) → (if b then Some Form else f) ≡ None → (b ≡ false) × (f ≡ None)
form_first true f e = cc
form_first false f e = (refl, e)

form_last : (b : Bool) (f : Option CheckFault) → (if b then f else Some Form) ≡ None → (b ≡ true) × (f ≡ None)
form_last true f e = (refl, e)
form_last false f e = cc

pub faultless_is_right : (rows : List Row) (target : Row) (cert : Cert) → shown_fault rows target cert ≡ None → IsRight rows target cert
faultless_is_right rows target (One p) e =
    let f = form_first (is_equation target.rel) (check_fault rows target p) e in
    (no_equation target.rel f.0, faultless_shows rows target p f.1)
faultless_is_right rows target (Two p q) e =
    let f = form_last (is_equation target.rel) (first_of (check_fault rows (at_most target) p) (check_fault rows (at_most (flipped target)) q)) e in
    let g = none_first (check_fault rows (at_most target) p) (check_fault rows (at_most (flipped target)) q) f.1 in
    (equation_test target.rel f.0, faultless_shows rows (at_most target) p g.0, faultless_shows rows (at_most (flipped target)) q g.1)

pub right_is_faultless : (rows : List Row) (target : Row) (cert : Cert) → IsRight rows target cert → shown_fault rows target cert ≡ None
right_is_faultless rows target (One p) h =
    let a = not_equation target.rel h.0 in
    let b = shows_faultless rows target p h.1 in
    ap (λ t. if t then Some Form else check_fault rows target p) a ∙ b
right_is_faultless rows target (Two p q) h =
    let a = ap is_equation h.0 in
    let b = shows_faultless rows (at_most target) p h.1 in
    let c = shows_faultless rows (at_most (flipped target)) q h.2 in
    ap (λ t. if t then first_of (check_fault rows (at_most target) p) (check_fault rows (at_most (flipped target)) q) else Some Form) a
    ∙ (ap (λ f. first_of f (check_fault rows (at_most (flipped target)) q)) b ∙ c)

pub right_entails : (rows : List Row) (target : Row) (cert : Cert) → IsRight rows target cert → Entails rows target
right_entails rows target (One p) h = shown_is_entailed rows target p h.0 h.1
right_entails rows target (Two p q) h = equation_is_entailed rows target p q h.0 h.1 h.2

-- ---- rows shown false
pub faultless_shows_false : (rows : List Row) (part : Part) → false_fault rows part ≡ None → (part.k ≡ pos 0) × ShowsFalse rows part
faultless_shows_false rows part e =
    let f = form_last (int_eq part.k (pos 0)) (check_fault rows never part) e in
    let z = equal_true part.k (pos 0) f.0 in
    let s = faultless_shows rows never part f.1 in
    let zero_k : (y : ℤ) → part.k *ℤ y ≡ pos 0 = λ y. ap (λ x. x *ℤ y) z ∙ zero-*ℤ y in
    let same : weighted_constant rows part.m ≡ s.c = let a = s.constant in let b = zero_k (pos 0) in omega (arith, ints) in (
      z,
      record {
        allowed = s.allowed;
        cancels = λ v. s.cancels v ∙ zero_k (pos 0);
        enough = subst (λ c. (pos 0 <ℤ c) ⊎ ((c ≡ pos 0) × StrictUsed rows part.m)) (sym same) (without s.c s.enough);
      },
    )
  where
    without : (c : ℤ) → (pos 0 <ℤ c) ⊎ (((c ≡ pos 0) × StrictUsed rows part.m) ⊎ ((c ≡ pos 0) × (Lt ≡ Le) × (pos 0 <ℤ part.k))) → (pos 0 <ℤ c) ⊎ ((c ≡ pos 0) × StrictUsed rows part.m)
    without c (inl h) = inl h
    without c (inr (inl h)) = inr h
    without c (inr (inr h)) = let e = h.1 in cc

pub shows_false_faultless : (rows : List Row) (part : Part) → part.k ≡ pos 0 → ShowsFalse rows part → false_fault rows part ≡ None
shows_false_faultless rows part z s =
    let a = true_equal part.k (pos 0) z in
    let zero_k : (y : ℤ) → part.k *ℤ y ≡ pos 0 = λ y. ap (λ x. x *ℤ y) z ∙ zero-*ℤ y in
    let b = shows_faultless rows never part (record {
      allowed = s.allowed;
      not_negative = omega (arith, ints);
      cancels = λ v. s.cancels v ∙ sym (zero_k (pos 0));
      c = weighted_constant rows part.m;
      constant = let b = zero_k (pos 0) in omega (arith, ints);
      enough = elim s.enough [ inl h ↦ inl h | inr h ↦ inr (inl h) ];
    }) in
    ap (λ t. if t then check_fault rows never part else Some Form) a ∙ b

-- ---- answers
pub ok_where_none : (f : Option CheckFault) (P : Type 0) → (f ≡ None → P) → (P → f ≡ None) → (answer f ≡ Ok tt) ↔ P
ok_where_none None P h k = (λ _. h refl, λ _. refl)
ok_where_none (Some f) P h k = (λ e. cc, λ p. let e = k p in cc)

pub on_ok : (f : Option CheckFault) (P : Type 0) → (f ≡ None → P) → OnOk (answer f) P
on_ok None P h = h refl
on_ok (Some f) P h = tt
