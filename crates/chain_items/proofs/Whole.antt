-- The combination of two items that are seen by their parts.
use Rattle.std.proofs.Common.{◌≡◌, ℕ, zero, suc, ◌+◌, ◌≤◌, List, length, true, false, arith, refl, sym, ◌∙◌, ap, subst}
use Rattle.std.specs.Prelude.{FitsSigned, unsigned_abs}
use Rattle.std.proofs.Math.IntN.{ℤ}
use Rattle.std.proofs.lemmas.Int.{fits_signed_from_abs}
use mir.Syntax.{w64}
use Rattle.clp_model.specs.Clauses.{Row}
use Rattle.clp_model.specs.declared.sort.Rel.{Rel}
use Rattle.linear_model.specs.Forms.{IsRising}
use Rattle.linear_model.specs.Normal.{is_within, limit}
use Rattle.linear_model.specs.Items.{Item, joined}
use Rattle.chain_items.specs.Sparse.{spread, Below}
use Rattle.chain_items.specs.Items.{row_of, item_of, item_within, IsItem, IsPastRange, AreQuotients}
use Rattle.chain_items.proofs.Merging.{row_constant_small}
use Rattle.chain_items.proofs.Joined.{new_rises, new_within, new_places_rise, new_places_below, new_is, new_item_within, past_range}

pub spread_length : (i n : ℕ) (ws : List (ℕ × ℤ)) → length (spread i n ws) ≡ n
spread_length i zero ws = refl
spread_length i (suc n) ws = let h = spread_length (i + 1) n ws in omega arith

pub fits_64 : (z : ℤ) → unsigned_abs z ≤ limit → FitsSigned w64 z
fits_64 z h = fits_signed_from_abs w64 z (omega arith)

pub row_constant_fits : (r : Row) → is_within r ≡ true → FitsSigned w64 r.constant
row_constant_fits r e = fits_64 r.constant (row_constant_small r.pairs r.constant e)

-- with the lists that the slices show
pub carried : (a b : ℤ) (ps ps' : List (ℕ × ℤ)) (c : ℤ) (ws ws' qs qs' : List (ℕ × ℤ)) (d : ℤ) (vs vs' out : List (ℕ × ℤ)) (k : ℤ) (us : List (ℕ × ℤ))
    → ps' ≡ ps → ws' ≡ ws → qs' ≡ qs → vs' ≡ vs → AreQuotients a b ps' c ws' qs' d vs' out k us → AreQuotients a b ps c ws qs d vs out k us
carried a b ps ps' c ws ws' qs qs' d vs vs' out k us e f g h q =
    subst (λ xs. AreQuotients a b xs c ws qs d vs out k us) e
    (subst (λ xs. AreQuotients a b ps' c xs qs d vs out k us) f
    (subst (λ xs. AreQuotients a b ps' c ws' xs d vs out k us) g
    (subst (λ xs. AreQuotients a b ps' c ws' qs' d xs out k us) h q)))

pub past_carried : (a b : ℤ) (ps ps' : List (ℕ × ℤ)) (c : ℤ) (ws ws' qs qs' : List (ℕ × ℤ)) (d : ℤ) (vs vs' : List (ℕ × ℤ))
    → ps' ≡ ps → ws' ≡ ws → qs' ≡ qs → vs' ≡ vs → IsPastRange a b ps' c ws' qs' d vs' → IsPastRange a b ps c ws qs d vs
past_carried a b ps ps' c ws ws' qs qs' d vs vs' e f g h q =
    subst (λ xs. IsPastRange a b xs c ws qs d vs) e
    (subst (λ xs. IsPastRange a b ps' c xs qs d vs) f
    (subst (λ xs. IsPastRange a b ps' c ws' xs d vs) g
    (subst (λ xs. IsPastRange a b ps' c ws' qs' d xs) h q)))

module _ (rel : Rel) (a b : ℤ) (x y : Item) (r s : Row) (n m : ℕ) (ws vs : List (ℕ × ℤ)) (d e : ℤ) (h k : ℕ)
    (fx : item_of r n ws ≡ x) (fy : item_of s m vs ≡ y) (same : length x.m ≡ length y.m) (kx : IsItem r n ws d h) (ky : IsItem s m vs e k) where
  count_same : m ≡ n
  count_same =
      let i = ap (λ (z : Item). length z.m) fx in
      let j = ap (λ (z : Item). length z.m) fy in
      let p = spread_length 0 n ws in
      let q = spread_length 0 m vs in
      omega arith

  second_below : Below n vs
  second_below = subst (λ l. Below l vs) count_same ky.places_below

  both_are : joined rel a (item_of r n ws) b (item_of s n vs) ≡ joined rel a x b y
  both_are = ap (λ z. joined rel a z b (item_of s n vs)) fx ∙ ap (λ z. joined rel a x b z) (ap (λ l. item_of s l vs) (sym count_same) ∙ fy)

  pub overflows : IsPastRange a b r.pairs r.constant ws s.pairs s.constant vs → item_within (joined rel a x b y) ≡ false
  overflows p = sym (ap item_within both_are) ∙ past_range rel a b r s n ws vs kx.places_rise ky.places_rise kx.places_below second_below kx.rising ky.rising p

  module _ (ps : List (ℕ × ℤ)) (c : ℤ) (us : List (ℕ × ℤ)) (q : AreQuotients a b r.pairs r.constant ws s.pairs s.constant vs ps c us) where
    pub keep_rising : IsRising ps
    keep_rising = new_rises rel a b r s n ws vs kx.places_rise ky.places_rise kx.places_below second_below kx.rising ky.rising ps c us q

    pub keep_within : is_within (row_of rel ps c) ≡ true
    keep_within = new_within rel a b r s n ws vs kx.places_rise ky.places_rise kx.places_below second_below kx.rising ky.rising ps c us q

    pub keep_places_rise : IsRising us
    keep_places_rise = new_places_rise rel a b r s n ws vs kx.places_rise ky.places_rise kx.places_below second_below kx.rising ky.rising ps c us q

    pub keep_places_below : Below n us
    keep_places_below = new_places_below rel a b r s n ws vs kx.places_rise ky.places_rise kx.places_below second_below kx.rising ky.rising ps c us q

    pub keep_is : item_of (row_of rel ps c) n us ≡ joined rel a x b y
    keep_is = new_is rel a b r s n ws vs kx.places_rise ky.places_rise kx.places_below second_below kx.rising ky.rising ps c us q ∙ both_are

    pub keep_item_within : item_within (item_of (row_of rel ps c) n us) ≡ true
    keep_item_within = new_item_within rel a b r s n ws vs kx.places_rise ky.places_rise kx.places_below second_below kx.rising ky.rising ps c us q
