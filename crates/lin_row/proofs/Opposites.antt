-- A row with opposite signs, and the half of an equation, are in normal form where the row is.
use Rattle.std.proofs.Common.{◌≡◌, ◌≢◌, ℕ, zero, suc, ◌+◌, ◌<◌, ◌≤◌, ◌/◌, max, List, [], ◌∷◌, ◌++◌, length, get_or, take, drop, drop-cons, add-one, set, Bool, true, false, ◌&&◌, arith, refl, sym, ◌∙◌, ap, subst}
use Rattle.std.specs.Prelude.{All, nat_le, unsigned_abs, int_lt, int_div}
use Rattle.std.proofs.Math.IntN.{ℤ, pos, negsuc, neg_ℤ, neg_ℤ-neg_ℤ}
use Rattle.std.proofs.lemmas.Int.{ints}
use Rattle.std.proofs.lemmas.Bool.Decides.{nat_tests}
use Rattle.std.proofs.Common.{to_z, of_z}
use Rattle.std.proofs.lemmas.List.{take_more, take_more_set, drop_all, take_all, append-nil}
use Rattle.std.specs.List.{refill}
use mir.Syntax.{w64}
use Rattle.clp_model.specs.Clauses.{Row}
use Rattle.clp_model.specs.declared.sort.Rel.{Rel}
use Rattle.clp_model.specs.declared.sort.Rel.TheVariants.{Eq, Le, Lt}
use Rattle.linear_model.specs.Gcd.{gcd}
use Rattle.linear_model.specs.Forms.{is_zero, Above, IsRising}
use Rattle.linear_model.specs.Normal.{joint_gcd, row_gcd, divided_pairs, divided, divisor_of, first_is_negative, is_flipped, IsNormal, pairs_within, is_within, limit}
use Rattle.linear_model.specs.Changes.{opposite_pairs, opposite_rel, at_most}
use Rattle.lin_row.specs.Rows.{row_of, IsKept}
use Rattle.lin_row.proofs.Quotients.{same_64, row_constant_small}

abs_opposite : (z : ℤ) → unsigned_abs (neg_ℤ z) ≡ unsigned_abs z
abs_opposite (pos zero) = refl
abs_opposite (pos (suc n)) = refl
abs_opposite (negsuc n) = refl

zero_opposite : (z : ℤ) → is_zero z ≡ false → is_zero (neg_ℤ z) ≡ false
zero_opposite (pos zero) e = e
zero_opposite (pos (suc n)) e = refl
zero_opposite (negsuc n) e = grind (arith, nat_tests)

within_opposite : (ps : List (ℕ × ℤ)) → pairs_within (opposite_pairs ps) ≡ pairs_within ps
within_opposite [] = refl
within_opposite (p ∷ ps) =
    let e = ap (λ n. nat_le n limit) (abs_opposite p.1) in
    let f = within_opposite ps in
    ap (λ b. b && pairs_within (opposite_pairs ps)) e ∙ ap (λ b. nat_le (unsigned_abs p.1) limit && b) f

above_opposite : (n : ℕ) (ps : List (ℕ × ℤ)) → Above n ps → Above n (opposite_pairs ps)
above_opposite n [] a = tt
above_opposite n (p ∷ ps) a = (a.0, above_opposite n ps a.1)

pub rising_opposite : (ps : List (ℕ × ℤ)) → IsRising ps → IsRising (opposite_pairs ps)
rising_opposite [] r = tt
rising_opposite (p ∷ ps) r = (zero_opposite p.1 r.0, above_opposite p.0 ps r.1, rising_opposite ps r.2)

joint_opposite : (n : ℕ) (ps : List (ℕ × ℤ)) → joint_gcd n (opposite_pairs ps) ≡ joint_gcd n ps
joint_opposite n [] = refl
joint_opposite n (p ∷ ps) =
    ap (λ m. joint_gcd (gcd m n) (opposite_pairs ps)) (abs_opposite p.1) ∙ joint_opposite (gcd (unsigned_abs p.1) n) ps

quotient_opposite : (z : ℤ) (m : ℕ) → 0 < m → int_div (neg_ℤ z) (pos m) ≡ neg_ℤ (int_div z (pos m))
quotient_opposite (pos zero) m h = ap (λ n. pos n) e ∙ sym (ap (λ n. neg_ℤ (pos n)) e)
  where
    e : 0 / m ≡ 0
    e = omega arith
quotient_opposite (pos (suc n)) m h = refl
quotient_opposite (negsuc n) m h = sym (neg_ℤ-neg_ℤ (pos (suc n / m)))

divided_opposite : (m : ℕ) → 0 < m → (ps : List (ℕ × ℤ)) → divided_pairs (pos m) (opposite_pairs ps) ≡ opposite_pairs (divided_pairs (pos m) ps)
divided_opposite m h [] = refl
divided_opposite m h (p ∷ ps) =
    let one : ℤ → List (ℕ × ℤ) = λ z. (p.0, z) ∷ divided_pairs (pos m) (opposite_pairs ps) in
    let two : List (ℕ × ℤ) → List (ℕ × ℤ) = λ xs. (p.0, neg_ℤ (int_div p.1 (pos m))) ∷ xs in
    ap one (quotient_opposite p.1 m h) ∙ ap two (divided_opposite m h ps)

-- an equation in normal form begins with a positive coefficient
turned : (z : ℤ) (m : ℕ) → 0 < m → int_lt z (pos 0) ≡ true → int_div z (neg_ℤ (pos m)) ≡ z → ⊥
turned (pos n) m h e f = let k : int_lt (pos n) (pos 0) ≡ false = grind (arith, ints) in cc
turned (negsuc n) zero h e f = absurd (omega arith)
turned (negsuc n) (suc m) h e f = cc

not_negative : (ps : List (ℕ × ℤ)) (b : Bool) (m : ℕ) → 0 < m → first_is_negative ps ≡ b → divided_pairs (divisor_of b m) ps ≡ ps → b ≡ false
not_negative [] b m h e f = sym e
not_negative (p ∷ ps) false m h e f = refl
not_negative (p ∷ ps) true m h e f = absurd (turned p.1 m h e (let g : int_div p.1 (neg_ℤ (pos m)) ≡ p.1 = cc in g))

plain : (rel : Rel) (ps : List (ℕ × ℤ)) (m : ℕ) → 0 < m → divided_pairs (divisor_of (is_flipped rel ps) m) ps ≡ ps → is_flipped rel ps ≡ false
plain Eq ps m h e = not_negative ps (first_is_negative ps) m h refl e
plain Le ps m h e = refl
plain Lt ps m h e = refl

-- the parts of a row in normal form stay where they are divided
module _ (r : Row) (k : IsNormal r) where
  abbrev m : ℕ
  m = max 1 (row_gcd r)

  up : 0 < m
  up = omega arith

  flat : is_flipped r.rel r.pairs ≡ false
  flat = plain r.rel r.pairs m up (ap (λ (s : Row). s.pairs) k.stays)

  stays : divided (pos m) r ≡ r
  stays = sym (ap (λ b. divided (divisor_of b m) r) flat) ∙ k.stays

  pairs_stay : divided_pairs (pos m) r.pairs ≡ r.pairs
  pairs_stay = ap (λ (s : Row). s.pairs) stays

  constant_stays : int_div r.constant (pos m) ≡ r.constant
  constant_stays = ap (λ (s : Row). s.constant) stays

  -- under a relation that never flips
  module _ (rel : Rel) (free : (ps : List (ℕ × ℤ)) → is_flipped rel ps ≡ false) where
    pub turned_normal : IsNormal (row_of rel (opposite_pairs r.pairs) (neg_ℤ r.constant))
    turned_normal =
        let s = row_of rel (opposite_pairs r.pairs) (neg_ℤ r.constant) in
        let a : row_gcd s ≡ row_gcd r = ap (λ n. joint_gcd n (opposite_pairs r.pairs)) (abs_opposite r.constant) ∙ joint_opposite (unsigned_abs r.constant) r.pairs in
        let b = ap (λ t. divided (divisor_of t (max 1 (row_gcd s))) s) (free s.pairs) in
        let c = ap (λ n. divided (pos (max 1 n)) s) a in
        let one : List (ℕ × ℤ) → Row = λ ps. row_of rel ps (int_div (neg_ℤ r.constant) (pos m)) in
        let two : ℤ → Row = λ z. row_of rel (opposite_pairs r.pairs) z in
        let d = ap one (divided_opposite m up r.pairs ∙ ap opposite_pairs pairs_stay) in
        let e = ap two (quotient_opposite r.constant m up ∙ ap neg_ℤ constant_stays) in
        record { rising = rising_opposite r.pairs k.rising; stays = b ∙ (c ∙ (d ∙ e)) }

    pub same_normal : IsNormal (row_of rel r.pairs r.constant)
    same_normal =
        let s = row_of rel r.pairs r.constant in
        let b = ap (λ t. divided (divisor_of t (max 1 (row_gcd s))) s) (free r.pairs) in
        let one : List (ℕ × ℤ) → Row = λ ps. row_of rel ps (int_div r.constant (pos m)) in
        let two : ℤ → Row = λ z. row_of rel r.pairs z in
        record { rising = k.rising; stays = b ∙ (ap one pairs_stay ∙ ap two constant_stays) }

turned_within : (rel : Rel) (r : Row) → is_within r ≡ true → is_within (row_of rel (opposite_pairs r.pairs) (neg_ℤ r.constant)) ≡ true
turned_within rel r w =
    let e = within_opposite r.pairs in
    let f = ap (λ n. nat_le n limit) (abs_opposite r.constant) in
    ap (λ b. b && nat_le (unsigned_abs (neg_ℤ r.constant)) limit) e ∙ (ap (λ b. pairs_within r.pairs && b) f ∙ w)

free_of : (rel : Rel) → rel ≢ Eq → (ps : List (ℕ × ℤ)) → is_flipped rel ps ≡ false
free_of Eq h ps = absurd (h refl)
free_of Le h ps = refl
free_of Lt h ps = refl

pub turned_kept : (r : Row) (rel : Rel) → rel ≢ Eq → IsKept r → IsKept (row_of rel (opposite_pairs r.pairs) (neg_ℤ r.constant))
turned_kept r rel h k = record { within = turned_within rel r k.within; normal = turned_normal r k.normal rel (free_of rel h) }

pub half_kept : (r : Row) → IsKept r → IsKept (at_most r)
half_kept r k = record { within = k.within; normal = same_normal r k.normal Le (λ ps. refl) }

pub opposite_rel_is : (rel : Rel) → rel ≢ Eq → opposite_rel rel ≢ Eq
opposite_rel_is Eq h = h
opposite_rel_is Le h = λ e. cc
opposite_rel_is Lt h = λ e. cc

-- ---- the turns of the loop that takes the opposites, place by place
opposite_append : (ps qs : List (ℕ × ℤ)) → opposite_pairs (ps ++ qs) ≡ opposite_pairs ps ++ opposite_pairs qs
opposite_append [] qs = refl
opposite_append (p ∷ ps) qs = ap (λ xs. (p.0, neg_ℤ p.1) ∷ xs) (opposite_append ps qs)

module _ (now new old : List (ℕ × ℤ)) (i : ℕ) (q : ℕ × ℤ) where
  abbrev p : ℕ × ℤ
  p = get_or old i (0, pos 0)

  pub opposite_more : i < length now → length now ≡ length old → new ≡ set now i q → q ≡ (p.0, neg_ℤ p.1)
      → take i now ≡ opposite_pairs (take i old) → take (i + 1) new ≡ opposite_pairs (take (i + 1) old)
  opposite_more h l e f g =
      let a = take_more_set now i q h in
      let j : i < length old = omega arith in
      let b : take (i + 1) old ≡ take i old ++ p ∷ [] = take_more old i (0, pos 0) j in
      ap (take (i + 1)) e ∙ (a ∙ (ap (λ xs. xs ++ q ∷ []) g ∙ (ap (λ x. opposite_pairs (take i old) ++ x ∷ []) f ∙ (sym (opposite_append (take i old) (p ∷ [])) ∙ ap opposite_pairs (sym b)))))

length_opposite : (ps : List (ℕ × ℤ)) → length (opposite_pairs ps) ≡ length ps
length_opposite [] = refl
length_opposite (p ∷ ps) = ap suc (length_opposite ps)

-- a list that is written over by one as long
pub refilled : (n : ℕ) (xs ws lent : List (ℕ × ℤ)) → n ≡ length xs → lent ≡ xs → ws ≡ opposite_pairs lent → refill n xs ws ≡ opposite_pairs xs
refilled n xs ws lent e f g =
    let h : ws ≡ opposite_pairs xs = g ∙ ap opposite_pairs f in
    let k : length ws ≡ length xs = ap length h ∙ length_opposite xs in
    let a : drop (length ws) xs ≡ [] = drop_all (length ws) xs (omega arith) in
    ap (λ ys. take n (ws ++ ys)) a ∙ (ap (take n) (append-nil ws) ∙ (take_all n ws (omega arith) ∙ h))

pub all_lent : (xs ys : List (ℕ × ℤ)) → ys ≡ xs → All (λ p. unsigned_abs p.1 ≤ limit) xs → All (λ p. unsigned_abs p.1 ≤ limit) ys
all_lent xs ys e h = subst (All (λ p. unsigned_abs p.1 ≤ limit)) (sym e) h

pub turned_parts : (r : Row) (rel : Rel) (ws : List (ℕ × ℤ)) (k : ℤ) → rel ≢ Eq → IsKept r → ws ≡ opposite_pairs r.pairs → k ≡ neg_ℤ r.constant → IsKept (row_of rel ws (to_z w64 (of_z w64 k)))
turned_parts r rel ws k h i e f =
    let s : unsigned_abs k ≤ limit = subst (λ z. unsigned_abs z ≤ limit) (sym f) (subst (λ n. n ≤ limit) (sym (abs_opposite r.constant)) (row_constant_small r i.within)) in
    let one : List (ℕ × ℤ) → Row = λ xs. row_of rel xs (to_z w64 (of_z w64 k)) in
    let two : ℤ → Row = λ z. row_of rel (opposite_pairs r.pairs) z in
    subst IsKept (sym (ap one e ∙ ap two (same_64 k s ∙ f))) (turned_kept r rel h i)

pub same_element : (now old : List (ℕ × ℤ)) (i : ℕ) → i < length now → length now ≡ length old → drop i now ≡ drop i old → get_or now i (0, pos 0) ≡ get_or old i (0, pos 0)
same_element now old i h l e =
    let j : i < length old = omega arith in
    let f : get_or now i (0, pos 0) ∷ drop (suc i) now ≡ get_or old i (0, pos 0) ∷ drop (suc i) old = sym (drop-cons now i (0, pos 0) h) ∙ (e ∙ drop-cons old i (0, pos 0) j) in
    cc

pub same_rest : (now old : List (ℕ × ℤ)) (i : ℕ) → i < length now → length now ≡ length old → drop i now ≡ drop i old → drop (i + 1) now ≡ drop (i + 1) old
same_rest now old i h l e =
    let j : i < length old = omega arith in
    let f : get_or now i (0, pos 0) ∷ drop (suc i) now ≡ get_or old i (0, pos 0) ∷ drop (suc i) old = sym (drop-cons now i (0, pos 0) h) ∙ (e ∙ drop-cons old i (0, pos 0) j) in
    let k : drop (suc i) now ≡ drop (suc i) old = cc in
    ap (λ n. drop n now) (add-one i) ∙ (k ∙ sym (ap (λ n. drop n old) (add-one i)))
