-- Elimination by pairs of bounds is exact.
use Rattle.std.proofs.Common.{◌≡◌, List, [], ◌∷◌, arith, refl, subst}
use Rattle.std.proofs.Math.IntN.{ℤ, pos, neg_ℤ, ◌+ℤ◌}
use Rattle.std.specs.Int.Signed.{◌<ℤ◌, ◌≤ℤ◌}
use Rattle.std.proofs.lemmas.Int.{ints, by_lt_z}
use Rattle.clp_model.specs.Clauses.{Compares}
use Rattle.clp_model.specs.declared.sort.Rel.{Rel}
use Rattle.clp_model.specs.declared.sort.Rel.TheVariants.{Eq, Le, Lt}
use Rattle.clp_model.proofs.Membership.{Among, first, next}
use Rattle.linear_model.specs.Elimination.{stricter}

-- ---- the greatest of a list
pub record Greatest {A : Type 0} (n : A → ℤ) (xs : List A) : Type 0 where
  pub top : A
  pub there : Among top xs
  pub most : (s : A) → Among s xs → n s ≤ℤ n top

pub greatest : {A : Type 0} (n : A → ℤ) (r : A) (rs : List A) → Greatest n (r ∷ rs)
greatest {A} n r [] = record { top = r; there = first; most = λ s a. one s a }
  where
    one : (s : A) → Among s (r ∷ []) → n s ≤ℤ n r
    one s first = omega (arith, ints)
    one s (next a) = elim a [ ]
greatest {A} n r (t ∷ rs) = by (greatest n t rs)
  where
    by : Greatest n (t ∷ rs) → Greatest n (r ∷ (t ∷ rs))
    by g = by_lt_z (n r) (n g.top) (λ l. record { top = g.top; there = next g.there; most = λ s a. up s a l }) (λ l. record { top = r; there = first; most = λ s a. down s a l })
      where
        up : (s : A) → Among s (r ∷ (t ∷ rs)) → n r <ℤ n g.top → n s ≤ℤ n g.top
        up s first l = omega (arith, ints)
        up s (next a) l = g.most s a

        down : (s : A) → Among s (r ∷ (t ∷ rs)) → n g.top ≤ℤ n r → n s ≤ℤ n r
        down s first l = omega (arith, ints)
        down s (next a) l = let m = g.most s a in omega (arith, ints)

-- ---- a number between the bounds
abbrev pub IsBound : Rel → Type 0
IsBound rel = ¬ (rel ≡ Eq)

weaker_left : (a b : Rel) (z y : ℤ) → IsBound a → y ≤ℤ pos 0 → Compares (stricter a b) z → Compares a (y +ℤ z)
weaker_left Eq b z y h i c = absurd (h refl)
weaker_left Lt b z y h i c = omega (arith, ints)
weaker_left Le Eq z y h i c = omega (arith, ints)
weaker_left Le Le z y h i c = omega (arith, ints)
weaker_left Le Lt z y h i c = omega (arith, ints)

weaker_right : (a b : Rel) (z y : ℤ) → IsBound b → y ≤ℤ pos 0 → Compares (stricter a b) z → Compares b (y +ℤ z)
weaker_right a Eq z y h i c = absurd (h refl)
weaker_right Eq Le z y h i c = omega (arith, ints)
weaker_right Eq Lt z y h i c = omega (arith, ints)
weaker_right Le Le z y h i c = omega (arith, ints)
weaker_right Le Lt z y h i c = omega (arith, ints)
weaker_right Lt Le z y h i c = omega (arith, ints)
weaker_right Lt Lt z y h i c = omega (arith, ints)

below_holds : (rel : Rel) (z : ℤ) → IsBound rel → z <ℤ pos 0 → Compares rel z
below_holds Eq z h l = absurd (h refl)
below_holds Le z h l = omega (arith, ints)
below_holds Lt z h l = l

module _ {A : Type 0} (rel_of : A → Rel) (n : A → ℤ) where
  pub record Between (lowers uppers : List A) : Type 0 where
    pub y : ℤ
    pub above : (l : A) → Among l lowers → Compares (rel_of l) (n l +ℤ n l +ℤ neg_ℤ y)
    pub under : (r : A) → Among r uppers → Compares (rel_of r) (y +ℤ (n r +ℤ n r))

  lower : (l g h : A) → IsBound (rel_of l) → n l ≤ℤ n g → Compares (stricter (rel_of l) (rel_of h)) (n l +ℤ n h) → Compares (rel_of l) (n l +ℤ n l +ℤ neg_ℤ (n g +ℤ neg_ℤ (n h)))
  lower l g h b m c =
      let e : (n l +ℤ neg_ℤ (n g)) +ℤ (n l +ℤ n h) ≡ n l +ℤ n l +ℤ neg_ℤ (n g +ℤ neg_ℤ (n h)) = omega (arith, ints) in
      subst (Compares (rel_of l)) e (weaker_left (rel_of l) (rel_of h) (n l +ℤ n h) (n l +ℤ neg_ℤ (n g)) b (omega (arith, ints)) c)

  upper : (r g h : A) → IsBound (rel_of r) → n r ≤ℤ n h → Compares (stricter (rel_of g) (rel_of r)) (n g +ℤ n r) → Compares (rel_of r) ((n g +ℤ neg_ℤ (n h)) +ℤ (n r +ℤ n r))
  upper r g h b m c =
      let e : (n r +ℤ neg_ℤ (n h)) +ℤ (n g +ℤ n r) ≡ (n g +ℤ neg_ℤ (n h)) +ℤ (n r +ℤ n r) = omega (arith, ints) in
      subst (Compares (rel_of r)) e (weaker_right (rel_of g) (rel_of r) (n g +ℤ n r) (n r +ℤ neg_ℤ (n h)) b (omega (arith, ints)) c)

  pub between : (lowers uppers : List A)
      → ((l : A) → Among l lowers → IsBound (rel_of l)) → ((r : A) → Among r uppers → IsBound (rel_of r))
      → ((l r : A) → Among l lowers → Among r uppers → Compares (stricter (rel_of l) (rel_of r)) (n l +ℤ n r))
      → Between lowers uppers
  between [] [] b c h = record { y = pos 0; above = λ l a. elim a [ ]; under = λ r a. elim a [ ] }
  between (l ∷ ls) [] b c h =
      let g = greatest n l ls in
      record {
        y = n g.top +ℤ n g.top +ℤ pos 1;
        above = λ s a. let m = g.most s a in below_holds (rel_of s) _ (b s a) (omega (arith, ints));
        under = λ r a. elim a [ ];
      }
  between [] (r ∷ rs) b c h =
      let g = greatest n r rs in
      record {
        y = neg_ℤ (n g.top +ℤ n g.top +ℤ pos 1);
        above = λ s a. elim a [ ];
        under = λ s a. let m = g.most s a in below_holds (rel_of s) _ (c s a) (omega (arith, ints));
      }
  between (l ∷ ls) (r ∷ rs) b c h =
      let g = greatest n l ls in
      let k = greatest n r rs in
      record {
        y = n g.top +ℤ neg_ℤ (n k.top);
        above = λ s a. lower s g.top k.top (b s a) (g.most s a) (h s k.top a k.there);
        under = λ s a. upper s g.top k.top (c s a) (k.most s a) (h g.top s g.there a);
      }
