-- Each item of the chain is the sum that its multipliers say.
use Rattle.std.proofs.Common.{◌≡◌, ℕ, ◌<◌, List, [], ◌∷◌, ◌⊎◌, inl, inr, arith, sym, ◌∙◌, ap, subst}
use Rattle.std.specs.Prelude.{⊤}
use Rattle.std.proofs.Math.IntN.{ℤ, pos, ◌+ℤ◌, ◌*ℤ◌}
use Rattle.std.specs.Int.Signed.{◌<ℤ◌, ◌≤ℤ◌}
use Rattle.std.proofs.lemmas.Int.{ints}
use Rattle.clp_rationals.proofs.Whole.{mul_assoc_ℤ, mul_add_ℤ}
use Rattle.clp_model.specs.Clauses.{Row}
use Rattle.clp_model.specs.declared.sort.Rel.{Rel}
use Rattle.clp_model.specs.declared.sort.Rel.TheVariants.{Eq, Le, Lt}
use Rattle.linear_model.specs.Forms.{coefficient}
use Rattle.linear_model.specs.Elimination.{stricter}
use Rattle.linear_model.specs.Certificates.{weighted_coefficient, weighted_constant, Allowed, StrictUsed}
use Rattle.linear_laws.proofs.Ring.{add_mul_ℤ, mul_zero, mul_at_least, mul_above}
use Rattle.linear_laws.proofs.Sums.{coefficient_combined}
use Rattle.linear_model.specs.Items.{Item, weights, item_combination}
use Rattle.chain_laws.proofs.Sums.{OnEquations, Gives, IsSum}

-- ---- one multiplier for each row
abbrev Fits : List Row → List ℤ → Type 0
Fits [] [] = ⊤
Fits [] (m ∷ ms) = ⊥
Fits (r ∷ rs) [] = ⊥
Fits (r ∷ rs) (m ∷ ms) = Fits rs ms

fits_equations : (rs : List Row) (ms : List ℤ) → OnEquations rs ms → Fits rs ms
fits_equations [] [] h = tt
fits_equations [] (m ∷ ms) h = absurd h
fits_equations (r ∷ rs) [] h = absurd h
fits_equations (r ∷ rs) (m ∷ ms) h = fits_equations rs ms h.1

fits_allowed : (rs : List Row) (ms : List ℤ) → Allowed rs ms → Fits rs ms
fits_allowed [] [] h = tt
fits_allowed [] (m ∷ ms) h = absurd h
fits_allowed (r ∷ rs) [] h = absurd h
fits_allowed (r ∷ rs) (m ∷ ms) h = fits_allowed rs ms h.1

fits : (rel : Rel) (rs : List Row) (ms : List ℤ) → Gives rel rs ms → Fits rs ms
fits Eq rs ms h = fits_equations rs ms h
fits Le rs ms h = fits_allowed rs ms h
fits Lt rs ms h = fits_allowed rs ms h.0

two_products : (a b m n z s t : ℤ) → (a *ℤ m +ℤ b *ℤ n) *ℤ z +ℤ (a *ℤ s +ℤ b *ℤ t) ≡ a *ℤ (m *ℤ z +ℤ s) +ℤ b *ℤ (n *ℤ z +ℤ t)
two_products a b m n z s t =
    let e = add_mul_ℤ (a *ℤ m) (b *ℤ n) z in
    let f = mul_assoc_ℤ a m z in
    let g = mul_assoc_ℤ b n z in
    let h = mul_add_ℤ a (m *ℤ z) s in
    let i = mul_add_ℤ b (n *ℤ z) t in
    omega (arith, ints)

two_zeros : (a b : ℤ) → pos 0 ≡ a *ℤ pos 0 +ℤ b *ℤ pos 0
two_zeros a b = let e = mul_zero a in let f = mul_zero b in omega (arith, ints)

coefficient_weights : (rs : List Row) (a : ℤ) (ms : List ℤ) (b : ℤ) (ns : List ℤ) (v : ℕ) → Fits rs ms → Fits rs ns
    → weighted_coefficient rs (weights a ms b ns) v ≡ a *ℤ weighted_coefficient rs ms v +ℤ b *ℤ weighted_coefficient rs ns v
coefficient_weights [] a ms b ns v h k = two_zeros a b
coefficient_weights (r ∷ rs) a [] b ns v h k = absurd h
coefficient_weights (r ∷ rs) a (m ∷ ms) b [] v h k = absurd k
coefficient_weights (r ∷ rs) a (m ∷ ms) b (n ∷ ns) v h k =
    ap (λ z. (a *ℤ m +ℤ b *ℤ n) *ℤ coefficient r.pairs v +ℤ z) (coefficient_weights rs a ms b ns v h k)
    ∙ two_products a b m n (coefficient r.pairs v) (weighted_coefficient rs ms v) (weighted_coefficient rs ns v)

constant_weights : (rs : List Row) (a : ℤ) (ms : List ℤ) (b : ℤ) (ns : List ℤ) → Fits rs ms → Fits rs ns
    → weighted_constant rs (weights a ms b ns) ≡ a *ℤ weighted_constant rs ms +ℤ b *ℤ weighted_constant rs ns
constant_weights [] a ms b ns h k = two_zeros a b
constant_weights (r ∷ rs) a [] b ns h k = absurd h
constant_weights (r ∷ rs) a (m ∷ ms) b [] h k = absurd k
constant_weights (r ∷ rs) a (m ∷ ms) b (n ∷ ns) h k =
    ap (λ z. (a *ℤ m +ℤ b *ℤ n) *ℤ r.constant +ℤ z) (constant_weights rs a ms b ns h k)
    ∙ two_products a b m n r.constant (weighted_constant rs ms) (weighted_constant rs ns)

-- ---- the signs
pub equations_allowed : (rs : List Row) (ms : List ℤ) → OnEquations rs ms → Allowed rs ms
equations_allowed [] [] h = tt
equations_allowed [] (m ∷ ms) h = absurd h
equations_allowed (r ∷ rs) [] h = absurd h
equations_allowed (r ∷ rs) (m ∷ ms) h = (elim h.0 [ inl e ↦ inl e | inr z ↦ inr (omega (arith, ints)) ], equations_allowed rs ms h.1)

pub allowed : (rel : Rel) (rs : List Row) (ms : List ℤ) → Gives rel rs ms → Allowed rs ms
allowed Eq rs ms h = equations_allowed rs ms h
allowed Le rs ms h = h
allowed Lt rs ms h = h.0

at_least_sum : (a b : ℕ) (m n : ℤ) → pos 0 ≤ℤ m → pos 0 ≤ℤ n → pos 0 ≤ℤ (pos a *ℤ m +ℤ pos b *ℤ n)
at_least_sum a b m n h k = let e = mul_at_least a m h in let f = mul_at_least b n k in omega (arith, ints)

above_left : (a b : ℕ) (m n : ℤ) → 0 < a → pos 0 <ℤ m → pos 0 ≤ℤ n → pos 0 <ℤ (pos a *ℤ m +ℤ pos b *ℤ n)
above_left a b m n p h k = let e = mul_above a m p h in let f = mul_at_least b n k in omega (arith, ints)

above_right : (a b : ℕ) (m n : ℤ) → 0 < b → pos 0 ≤ℤ m → pos 0 <ℤ n → pos 0 <ℤ (pos a *ℤ m +ℤ pos b *ℤ n)
above_right a b m n p h k = let e = mul_at_least a m h in let f = mul_above b n p k in omega (arith, ints)

not_both : (rel : Rel) → rel ≡ Lt → rel ≡ Eq → ⊥
not_both Eq e f = cc
not_both Le e f = cc
not_both Lt e f = cc

-- two sums with factors that are not negative
allowed_two : (rs : List Row) (a : ℕ) (ms : List ℤ) (b : ℕ) (ns : List ℤ) → Allowed rs ms → Allowed rs ns → Allowed rs (weights (pos a) ms (pos b) ns)
allowed_two [] a [] b ns h k = tt
allowed_two [] a (m ∷ ms) b ns h k = absurd h
allowed_two (r ∷ rs) a [] b ns h k = absurd h
allowed_two (r ∷ rs) a (m ∷ ms) b [] h k = absurd k
allowed_two (r ∷ rs) a (m ∷ ms) b (n ∷ ns) h k = (one h.0 k.0, allowed_two rs a ms b ns h.1 k.1)
  where
    one : (r.rel ≡ Eq) ⊎ (pos 0 ≤ℤ m) → (r.rel ≡ Eq) ⊎ (pos 0 ≤ℤ n) → (r.rel ≡ Eq) ⊎ (pos 0 ≤ℤ (pos a *ℤ m +ℤ pos b *ℤ n))
    one (inl e) q = inl e
    one (inr p) (inl e) = inl e
    one (inr p) (inr q) = inr (at_least_sum a b m n p q)

strict_left : (rs : List Row) (a : ℕ) (ms : List ℤ) (b : ℕ) (ns : List ℤ) → 0 < a → Allowed rs ns → StrictUsed rs ms → StrictUsed rs (weights (pos a) ms (pos b) ns)
strict_left [] a ms b ns p k s = absurd s
strict_left (r ∷ rs) a [] b ns p k s = absurd s
strict_left (r ∷ rs) a (m ∷ ms) b [] p k s = absurd k
strict_left (r ∷ rs) a (m ∷ ms) b (n ∷ ns) p k (inl s) = inl (s.0, one k.0)
  where
    one : (r.rel ≡ Eq) ⊎ (pos 0 ≤ℤ n) → pos 0 <ℤ (pos a *ℤ m +ℤ pos b *ℤ n)
    one (inl e) = absurd (not_both r.rel s.0 e)
    one (inr q) = above_left a b m n p s.1 q
strict_left (r ∷ rs) a (m ∷ ms) b (n ∷ ns) p k (inr s) = inr (strict_left rs a ms b ns p k.1 s)

strict_right : (rs : List Row) (a : ℕ) (ms : List ℤ) (b : ℕ) (ns : List ℤ) → 0 < b → Allowed rs ms → StrictUsed rs ns → StrictUsed rs (weights (pos a) ms (pos b) ns)
strict_right [] a ms b ns p k s = absurd s
strict_right (r ∷ rs) a [] b ns p k s = absurd k
strict_right (r ∷ rs) a (m ∷ ms) b [] p k s = absurd s
strict_right (r ∷ rs) a (m ∷ ms) b (n ∷ ns) p k (inl s) = inl (s.0, one k.0)
  where
    one : (r.rel ≡ Eq) ⊎ (pos 0 ≤ℤ m) → pos 0 <ℤ (pos a *ℤ m +ℤ pos b *ℤ n)
    one (inl e) = absurd (not_both r.rel s.0 e)
    one (inr q) = above_right a b m n p q s.1
strict_right (r ∷ rs) a (m ∷ ms) b (n ∷ ns) p k (inr s) = inr (strict_right rs a ms b ns p k.1 s)

-- a sum and any multiple of a sum of equations
equations_two : (rs : List Row) (a : ℤ) (ms : List ℤ) (b : ℤ) (ns : List ℤ) → OnEquations rs ms → OnEquations rs ns → OnEquations rs (weights a ms b ns)
equations_two [] a [] b ns h k = tt
equations_two [] a (m ∷ ms) b ns h k = absurd h
equations_two (r ∷ rs) a [] b ns h k = absurd h
equations_two (r ∷ rs) a (m ∷ ms) b [] h k = absurd k
equations_two (r ∷ rs) a (m ∷ ms) b (n ∷ ns) h k = (one h.0 k.0, equations_two rs a ms b ns h.1 k.1)
  where
    one : (r.rel ≡ Eq) ⊎ (m ≡ pos 0) → (r.rel ≡ Eq) ⊎ (n ≡ pos 0) → (r.rel ≡ Eq) ⊎ ((a *ℤ m +ℤ b *ℤ n) ≡ pos 0)
    one (inl e) q = inl e
    one (inr p) (inl e) = inl e
    one (inr p) (inr q) = inr (ap (λ z. a *ℤ z +ℤ b *ℤ n) p ∙ (ap (λ z. a *ℤ pos 0 +ℤ b *ℤ z) q ∙ sym (two_zeros a b)))

scaled_zero : (a b m n : ℤ) → n ≡ pos 0 → a *ℤ m +ℤ b *ℤ n ≡ a *ℤ m
scaled_zero a b m n e = let f : b *ℤ n ≡ pos 0 = ap (λ z. b *ℤ z) e ∙ mul_zero b in omega (arith, ints)

allowed_equation : (rs : List Row) (a : ℕ) (ms : List ℤ) (b : ℤ) (ns : List ℤ) → Allowed rs ms → OnEquations rs ns → Allowed rs (weights (pos a) ms b ns)
allowed_equation [] a [] b ns h k = tt
allowed_equation [] a (m ∷ ms) b ns h k = absurd h
allowed_equation (r ∷ rs) a [] b ns h k = absurd h
allowed_equation (r ∷ rs) a (m ∷ ms) b [] h k = absurd k
allowed_equation (r ∷ rs) a (m ∷ ms) b (n ∷ ns) h k = (one h.0 k.0, allowed_equation rs a ms b ns h.1 k.1)
  where
    one : (r.rel ≡ Eq) ⊎ (pos 0 ≤ℤ m) → (r.rel ≡ Eq) ⊎ (n ≡ pos 0) → (r.rel ≡ Eq) ⊎ (pos 0 ≤ℤ (pos a *ℤ m +ℤ b *ℤ n))
    one (inl e) q = inl e
    one (inr p) (inl e) = inl e
    one (inr p) (inr q) = inr (subst (λ z. pos 0 ≤ℤ z) (sym (scaled_zero (pos a) b m n q)) (mul_at_least a m p))

strict_equation : (rs : List Row) (a : ℕ) (ms : List ℤ) (b : ℤ) (ns : List ℤ) → 0 < a → OnEquations rs ns → StrictUsed rs ms → StrictUsed rs (weights (pos a) ms b ns)
strict_equation [] a ms b ns p k s = absurd s
strict_equation (r ∷ rs) a [] b ns p k s = absurd s
strict_equation (r ∷ rs) a (m ∷ ms) b [] p k s = absurd k
strict_equation (r ∷ rs) a (m ∷ ms) b (n ∷ ns) p k (inl s) = inl (s.0, one k.0)
  where
    one : (r.rel ≡ Eq) ⊎ (n ≡ pos 0) → pos 0 <ℤ (pos a *ℤ m +ℤ b *ℤ n)
    one (inl e) = absurd (not_both r.rel s.0 e)
    one (inr q) = subst (λ z. pos 0 <ℤ z) (sym (scaled_zero (pos a) b m n q)) (mul_above a m p s.1)
strict_equation (r ∷ rs) a (m ∷ ms) b (n ∷ ns) p k (inr s) = inr (strict_equation rs a ms b ns p k.1 s)

gives_equation : (rel : Rel) (rs : List Row) (a : ℕ) (ms : List ℤ) (b : ℤ) (ns : List ℤ) → 0 < a → Gives rel rs ms → OnEquations rs ns → Gives rel rs (weights (pos a) ms b ns)
gives_equation Eq rs a ms b ns p h k = equations_two rs (pos a) ms b ns h k
gives_equation Le rs a ms b ns p h k = allowed_equation rs a ms b ns h k
gives_equation Lt rs a ms b ns p h k = (allowed_equation rs a ms b ns h.0 k, strict_equation rs a ms b ns p k h.1)

gives_two : (rel rel' : Rel) (rs : List Row) (a : ℕ) (ms : List ℤ) (b : ℕ) (ns : List ℤ) → 0 < a → 0 < b → Gives rel rs ms → Gives rel' rs ns → Gives (stricter rel rel') rs (weights (pos a) ms (pos b) ns)
gives_two Eq Eq rs a ms b ns p q h k = equations_two rs (pos a) ms (pos b) ns h k
gives_two Eq Le rs a ms b ns p q h k = allowed_two rs a ms b ns (equations_allowed rs ms h) k
gives_two Eq Lt rs a ms b ns p q h k = (allowed_two rs a ms b ns (equations_allowed rs ms h) k.0, strict_right rs a ms b ns q (equations_allowed rs ms h) k.1)
gives_two Le Eq rs a ms b ns p q h k = allowed_two rs a ms b ns h (equations_allowed rs ns k)
gives_two Le Le rs a ms b ns p q h k = allowed_two rs a ms b ns h k
gives_two Le Lt rs a ms b ns p q h k = (allowed_two rs a ms b ns h k.0, strict_right rs a ms b ns q h k.1)
gives_two Lt Eq rs a ms b ns p q h k = (allowed_two rs a ms b ns h.0 (equations_allowed rs ns k), strict_left rs a ms b ns p (equations_allowed rs ns k) h.1)
gives_two Lt Le rs a ms b ns p q h k = (allowed_two rs a ms b ns h.0 k, strict_left rs a ms b ns p k h.1)
gives_two Lt Lt rs a ms b ns p q h k = (allowed_two rs a ms b ns h.0 k.0, strict_left rs a ms b ns p k.0 h.1)

-- ---- combinations of items
sums_combined : (rows : List Row) (rel : Rel) (a : ℤ) (i : Item) (b : ℤ) (j : Item) → IsSum rows i → IsSum rows j → Gives rel rows (weights a i.m b j.m) → IsSum rows (item_combination rel a i b j)
sums_combined rows rel a i b j s t g =
    let p = fits i.row.rel rows i.m s.gives in
    let q = fits j.row.rel rows j.m t.gives in
    record {
      coefficients = λ v.
          coefficient_combined v a i.row.pairs b j.row.pairs
          ∙ (ap (λ z. a *ℤ z +ℤ b *ℤ coefficient j.row.pairs v) (s.coefficients v)
          ∙ (ap (λ z. a *ℤ weighted_coefficient rows i.m v +ℤ b *ℤ z) (t.coefficients v)
          ∙ sym (coefficient_weights rows a i.m b j.m v p q)));
      constant =
          ap (λ z. a *ℤ z +ℤ b *ℤ j.row.constant) s.constant
          ∙ (ap (λ z. a *ℤ weighted_constant rows i.m +ℤ b *ℤ z) t.constant
          ∙ sym (constant_weights rows a i.m b j.m p q));
      gives = g;
    }

pub sum_by_equation : (rows : List Row) (a : ℕ) (i : Item) (b : ℤ) (e : Item) → 0 < a → e.row.rel ≡ Eq → IsSum rows i → IsSum rows e → IsSum rows (item_combination i.row.rel (pos a) i b e)
sum_by_equation rows a i b e p eq s t =
    sums_combined rows i.row.rel (pos a) i b e s t (gives_equation i.row.rel rows a i.m b e.m p s.gives (subst (λ rel. Gives rel rows e.m) eq t.gives))

pub sum_of_two : (rows : List Row) (a : ℕ) (i : Item) (b : ℕ) (j : Item) → 0 < a → 0 < b → IsSum rows i → IsSum rows j → IsSum rows (item_combination (stricter i.row.rel j.row.rel) (pos a) i (pos b) j)
sum_of_two rows a i b j p q s t =
    sums_combined rows (stricter i.row.rel j.row.rel) (pos a) i (pos b) j s t (gives_two i.row.rel j.row.rel rows a i.m b j.m p q s.gives t.gives)
