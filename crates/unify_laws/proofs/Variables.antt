-- Equality and order of variables.
use Rattle.std.proofs.Common.{◌≡◌, ℕ, List, [], ◌∷◌, refl, ap, ◌∙◌, subst, arith, Bool, true, false, ◌&&◌, ◌||◌, eq-eqb}
use Rattle.std.specs.Prelude.{nat_eq, nat_lt}
use Rattle.std.specs.List.{list_any}
use Rattle.std.proofs.lemmas.Bool.{eqb-true}
use Rattle.clp_model.specs.declared.sort.Sort.{Sort}
use Rattle.clp_model.specs.declared.sort.Sort.TheVariants.{Any, Num}
use Rattle.clp_model.specs.declared.tree.Variable.{Variable}
use Rattle.clp_model.specs.declared.tree.Tree.{Tree}
use Rattle.clp_model.specs.Trees.{variables}
use Rattle.clp_model.proofs.Membership.{Among, first, next}
use Rattle.unify_model.specs.Substituting.{same_sort, same_variable, sorts_before, comes_before, occurs}

pub both : (a b : Bool) → (a && b) ≡ true → (a ≡ true) × (b ≡ true)
both true true h = (refl, refl)
both true false h = absurd (cc)
both false b h = absurd (cc)

same_sort_is : (s r : Sort) → same_sort s r ≡ true → s ≡ r
same_sort_is Any Any h = refl
same_sort_is Num Num h = refl
same_sort_is Any Num h = absurd (cc)
same_sort_is Num Any h = absurd (cc)

same_sort_itself : (s : Sort) → same_sort s s ≡ true
same_sort_itself Any = refl
same_sort_itself Num = refl

variable_from : {v w : Variable} → v.number ≡ w.number → v.sort ≡ w.sort → v ≡ w
variable_from {v} {w} e e' =
    let one : ℕ → Variable = λ n. record { number = n; sort = v.sort } in
    let two : Sort → Variable = λ s. record { number = w.number; sort = s } in
    ap one e ∙ ap two e'

pub same_is : (v w : Variable) → same_variable v w ≡ true → v ≡ w
same_is v w h =
    let p = both (nat_eq v.number w.number) (same_sort v.sort w.sort) h in
    variable_from (eqb-true v.number w.number p.0) (same_sort_is v.sort w.sort p.1)

pub same_itself : (v : Variable) → same_variable v v ≡ true
same_itself v = let a : nat_eq v.number v.number ≡ true = eq-eqb v.number v.number refl in let b = same_sort_itself v.sort in cc

pub differs : (v w : Variable) → same_variable v w ≡ false → v ≡ w → ⊥
differs v w h e = let a = same_itself v in let b = ap (same_variable v) e in cc

pub differ_so : (v w : Variable) → (v ≡ w → ⊥) → same_variable v w ≡ false
differ_so v w h = go (same_variable v w) refl
  where
    go : (b : Bool) → same_variable v w ≡ b → b ≡ false
    go true e = absurd (h (same_is v w e))
    go false e = refl

-- ---- the order
by_number : (m n : ℕ) → (m ≡ n → ⊥) → nat_lt m n ≡ false → nat_lt n m ≡ true
by_number m n h e = grind arith

either_before : (s r : Sort) (m n : ℕ) → (m ≡ n → s ≡ r → ⊥) → sorts_before s r (nat_lt m n) ≡ false → sorts_before r s (nat_lt n m) ≡ true
either_before Any Any m n h e = by_number m n (λ q. h q refl) e
either_before Num Num m n h e = by_number m n (λ q. h q refl) e
either_before Any Num m n h e = refl
either_before Num Any m n h e = absurd (cc)

pub other_before : (v w : Variable) → same_variable v w ≡ false → comes_before v w ≡ false → comes_before w v ≡ true
other_before v w h e = either_before v.sort w.sort v.number w.number (λ a b. differs v w h (variable_from a b)) e

not_lower : (n : ℕ) → nat_lt n n ≡ true → ⊥
not_lower n h = grind arith

sorts_not_before : (s : Sort) (n : ℕ) → sorts_before s s (nat_lt n n) ≡ true → ⊥
sorts_not_before Any n h = not_lower n h
sorts_not_before Num n h = not_lower n h

pub not_before : (v : Variable) → comes_before v v ≡ true → ⊥
not_before v h = sorts_not_before v.sort v.number h

lower_twice : (k m n : ℕ) → nat_lt k m ≡ true → nat_lt m n ≡ true → nat_lt k n ≡ true
lower_twice k m n h e = grind arith

sorts_twice : (s r q : Sort) (k m n : ℕ) → sorts_before s r (nat_lt k m) ≡ true → sorts_before r q (nat_lt m n) ≡ true → sorts_before s q (nat_lt k n) ≡ true
sorts_twice Any Any Any k m n h e = lower_twice k m n h e
sorts_twice Num Num Num k m n h e = lower_twice k m n h e
sorts_twice Num Num Any k m n h e = refl
sorts_twice Num Any Any k m n h e = refl
sorts_twice Any Num q k m n h e = absurd (cc)
sorts_twice Any Any Num k m n h e = absurd (cc)
sorts_twice Num Any Num k m n h e = absurd (cc)

pub before_twice : (u v w : Variable) → comes_before u v ≡ true → comes_before v w ≡ true → comes_before u w ≡ true
before_twice u v w h e = sorts_twice u.sort v.sort w.sort u.number v.number w.number h e

number_before : (s r : Sort) (b : Bool) → sorts_before s r b ≡ true → r ≡ Num → s ≡ Num
number_before Num r b h e = refl
number_before Any Any b h e = absurd (cc)
number_before Any Num b h e = absurd (cc)

pub before_number : (v w : Variable) → comes_before v w ≡ true → w.sort ≡ Num → v.sort ≡ Num
before_number v w h e = number_before v.sort w.sort (nat_lt v.number w.number) h e

-- ---- what the test of occurrence says
pub among_test : (v : Variable) (ws : List Variable) → list_any (same_variable v) ws ≡ true → Among v ws
among_test v [] h = absurd (cc)
among_test v (w ∷ ws) h = go (same_variable v w) refl (λ k. among_test v ws k) h
  where
    go : (b : Bool) → same_variable v w ≡ b → (list_any (same_variable v) ws ≡ true → Among v ws) → (b || list_any (same_variable v) ws) ≡ true → Among v (w ∷ ws)
    go true e again h = subst (λ x. Among v (x ∷ ws)) (same_is v w e) first
    go false e again h = next (again h)

pub among_passes : {v : Variable} {ws : List Variable} → Among v ws → list_any (same_variable v) ws ≡ true
among_passes {v} first = let a = same_itself v in cc
among_passes {v} (next {y = w} m) = go (same_variable v w) (among_passes m)
  where
    go : (b : Bool) {r : Bool} → r ≡ true → (b || r) ≡ true
    go true e = refl
    go false e = e

pub occurs_is : (v : Variable) (t : Tree Variable) → occurs v t ≡ true → Among v (variables t)
occurs_is v t h = among_test v (variables t) h

pub occurs_not : (v : Variable) (t : Tree Variable) → occurs v t ≡ false → Among v (variables t) → ⊥
occurs_not v t h m = let e = among_passes m in cc
