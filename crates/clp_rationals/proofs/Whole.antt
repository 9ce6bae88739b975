-- Laws of whole numbers that the library lacks.
use Rattle.std.proofs.Common.{◌≡◌, ℕ, zero, suc, ◌*◌, arith, refl, sym, ◌∙◌, ap}
use Rattle.std.proofs.Math.IntN.{ℤ, pos, negsuc, neg_ℤ, ◌+ℤ◌, ◌*ℤ◌, *ℤ_comm, pos-*ℤ-pos, negsuc-*ℤ-pos, negsuc-*ℤ-negsuc, pos-*ℤ-negsuc, zero-*ℤ, neg_ℤ-neg_ℤ, neg_ℤ-+ℤ, suc_ℤ-*ℤ}
use Rattle.std.proofs.lemmas.Int.{ints}
use Rattle.std.proofs.Math.Nat.{mul_assoc}

-- each number is a natural or the opposite of one
pub by_sign : (P : ℤ → Type 0) → ((n : ℕ) → P (pos n)) → ((n : ℕ) → P (neg_ℤ (pos n))) → (z : ℤ) → P z
by_sign P p n (pos k) = p k
by_sign P p n (negsuc k) = n (suc k)

neg_pos : (n : ℕ) (b : ℤ) → neg_ℤ (pos n) *ℤ b ≡ neg_ℤ (pos n *ℤ b)
neg_pos zero b = rw (zero-*ℤ b) refl
neg_pos (suc n) (pos m) = negsuc-*ℤ-pos n m ∙ ap neg_ℤ (sym (pos-*ℤ-pos (suc n) m))
neg_pos (suc n) (negsuc m) = negsuc-*ℤ-negsuc n m ∙ (sym (neg_ℤ-neg_ℤ (pos (suc n * suc m))) ∙ ap neg_ℤ (sym (pos-*ℤ-negsuc (suc n) m)))

pub neg_mul : (a b : ℤ) → neg_ℤ a *ℤ b ≡ neg_ℤ (a *ℤ b)
neg_mul a b =
    by_sign (λ z. neg_ℤ z *ℤ b ≡ neg_ℤ (z *ℤ b)) (λ n. neg_pos n b)
    (λ n. ap (λ z. z *ℤ b) (neg_ℤ-neg_ℤ (pos n)) ∙ (sym (neg_ℤ-neg_ℤ (pos n *ℤ b)) ∙ ap neg_ℤ (sym (neg_pos n b)))) a

pub mul_neg : (a b : ℤ) → a *ℤ neg_ℤ b ≡ neg_ℤ (a *ℤ b)
mul_neg a b = *ℤ_comm a (neg_ℤ b) ∙ (neg_mul b a ∙ ap neg_ℤ (*ℤ_comm b a))

assoc_pos : (a b c : ℕ) → (pos a *ℤ pos b) *ℤ pos c ≡ pos a *ℤ (pos b *ℤ pos c)
assoc_pos a b c = simp (pos-*ℤ-pos, mul_assoc)

assoc_1 : (a b : ℕ) (c : ℤ) → (pos a *ℤ pos b) *ℤ c ≡ pos a *ℤ (pos b *ℤ c)
assoc_1 a b c =
    by_sign (λ z. (pos a *ℤ pos b) *ℤ z ≡ pos a *ℤ (pos b *ℤ z)) (assoc_pos a b)
    (λ n. simp (mul_neg, assoc_pos)) c

assoc_2 : (a : ℕ) (b c : ℤ) → (pos a *ℤ b) *ℤ c ≡ pos a *ℤ (b *ℤ c)
assoc_2 a b c =
    by_sign (λ z. (pos a *ℤ z) *ℤ c ≡ pos a *ℤ (z *ℤ c)) (λ n. assoc_1 a n c)
    (λ n. simp (mul_neg, neg_mul, assoc_1)) b

pub mul_assoc_ℤ : (a b c : ℤ) → (a *ℤ b) *ℤ c ≡ a *ℤ (b *ℤ c)
mul_assoc_ℤ a b c =
    by_sign (λ z. (z *ℤ b) *ℤ c ≡ z *ℤ (b *ℤ c)) (λ n. assoc_2 n b c)
    (λ n. simp (neg_mul, assoc_2)) a

add_pos : (n : ℕ) (b c : ℤ) → pos n *ℤ (b +ℤ c) ≡ pos n *ℤ b +ℤ pos n *ℤ c
add_pos zero b c = simp zero-*ℤ
add_pos (suc n) b c =
    let e : (z : ℤ) → pos (suc n) *ℤ z ≡ pos n *ℤ z +ℤ z = λ z. suc_ℤ-*ℤ (pos n) z in
    let h = add_pos n b c in
    e (b +ℤ c) ∙ (ap (λ z. z +ℤ (b +ℤ c)) h ∙ (regroup (pos n *ℤ b) (pos n *ℤ c) b c ∙ (ap (λ z. z +ℤ (pos n *ℤ c +ℤ c)) (sym (e b)) ∙ ap (λ z. pos (suc n) *ℤ b +ℤ z) (sym (e c)))))
  where
    regroup : (x y b c : ℤ) → (x +ℤ y) +ℤ (b +ℤ c) ≡ (x +ℤ b) +ℤ (y +ℤ c)
    regroup x y b c = omega (arith, ints)

pub mul_add_ℤ : (a b c : ℤ) → a *ℤ (b +ℤ c) ≡ a *ℤ b +ℤ a *ℤ c
mul_add_ℤ a b c =
    by_sign (λ z. z *ℤ (b +ℤ c) ≡ z *ℤ b +ℤ z *ℤ c) (λ n. add_pos n b c)
    (λ n. simp (neg_mul, add_pos, neg_ℤ-+ℤ)) a
