-- The elements at positions, and the others, from a place on.
use Rattle.std.proofs.Common.{◌≡◌, ℕ, suc, ◌+◌, ◌-◌, ◌<◌, ◌≤◌, List, [], ◌∷◌, ◌++◌, length, drop, get_or, Bool, true, false, Some, None, refl, ap, ◌∙◌, sym, add-one, if◌then◌else◌}
use Rattle.std.specs.Prelude.{nat_lt, nat_le, slice_index_or}
use Rattle.std.proofs.lemmas.Bool.{ltb-true, leb-true}
use Rattle.std.proofs.lemmas.List.{append_assoc}
use Rattle.std.proofs.Math.Seq.{drop-cons}
use Rattle.unify_laws.proofs.Variables.{both}
use Rattle.fold_model.specs.Positions.{in_range, first_outside, is_in, at_positions, chosen_from, others_from, replaced_from}
use Rattle.clause_fold.proofs.Walks.{outside_from}

-- ---- positions
pub record IsInside (count : ℕ) (ps : List ℕ) (i p : ℕ) : Type 0 where
  pub positive : 0 < p
  pub within : p ≤ count
  pub rest : first_outside count (drop (i + 1) ps) ≡ None

pub inside_at : (count : ℕ) (ps : List ℕ) (i d : ℕ) → i < length ps → first_outside count (drop i ps) ≡ None → IsInside count ps i (get_or ps i d)
inside_at count ps i d within none = by (in_range count (get_or ps i d)) refl (sym (outside_from count ps i d within) ∙ none)
  where
    p : ℕ
    p = get_or ps i d

    by : (b : Bool) → in_range count p ≡ b → (if b then first_outside count (drop (i + 1) ps) else Some p) ≡ None → IsInside count ps i p
    by true e h = let r = both (nat_lt 0 p) (nat_le p count) e in record { positive = ltb-true 0 p r.0; within = leb-true p count r.1; rest = h }
    by false e h = absurd (cc (h))

pub at_more : {A : Type 0} (d : A) (xs made all : List A) (ps : List ℕ) (i e : ℕ) (x : A) → i < length ps → x ≡ slice_index_or xs (get_or ps i e - 1) d
    → made ++ at_positions d xs (drop i ps) ≡ all → (made ++ x ∷ []) ++ at_positions d xs (drop (i + 1) ps) ≡ all
at_more {A} d xs made all ps i e x within item h =
    append_assoc made (x ∷ []) (at_positions d xs (drop (i + 1) ps))
    ∙ (ap (λ (ys : List A). made ++ ys) (sym (ap (at_positions d xs) (drop-cons ps i e within)
    ∙ (ap (λ (y : A). y ∷ at_positions d xs (drop (suc i) ps)) (sym item) ∙ ap (λ (k : ℕ). x ∷ at_positions d xs (drop k ps)) (sym (add-one i)))))
    ∙ h)

-- ---- elements, of which the one at place i has the position one more
module _ {A : Type 0} (ps : List ℕ) (xs made all : List A) (i : ℕ) (d : A) (within : i < length xs) where
  put : (ys : List A) → made ++ get_or xs i d ∷ ys ≡ (made ++ get_or xs i d ∷ []) ++ ys
  put ys = sym (append_assoc made (get_or xs i d ∷ []) ys)

  others_here : others_from (suc i) ps (drop i xs) ≡ (if is_in ps (suc i) then others_from (suc (i + 1)) ps (drop (i + 1) xs) else get_or xs i d ∷ others_from (suc (i + 1)) ps (drop (i + 1) xs))
  others_here =
      ap (others_from (suc i) ps) (drop-cons xs i d within)
      ∙ ap (λ (k : ℕ). if is_in ps (suc i) then others_from (suc k) ps (drop k xs) else get_or xs i d ∷ others_from (suc k) ps (drop k xs)) (sym (add-one i))

  pub others_skip : is_in ps (suc i) ≡ true → made ++ others_from (suc i) ps (drop i xs) ≡ all → made ++ others_from (suc (i + 1)) ps (drop (i + 1) xs) ≡ all
  others_skip e h = ap (λ (ys : List A). made ++ ys) (sym (others_here ∙ ap (λ (b : Bool). if b then others_from (suc (i + 1)) ps (drop (i + 1) xs) else get_or xs i d ∷ others_from (suc (i + 1)) ps (drop (i + 1) xs)) e)) ∙ h

  pub others_more : is_in ps (suc i) ≡ false → made ++ others_from (suc i) ps (drop i xs) ≡ all → (made ++ get_or xs i d ∷ []) ++ others_from (suc (i + 1)) ps (drop (i + 1) xs) ≡ all
  others_more e h =
      sym (put (others_from (suc (i + 1)) ps (drop (i + 1) xs)))
      ∙ (ap (λ (ys : List A). made ++ ys) (sym (others_here ∙ ap (λ (b : Bool). if b then others_from (suc (i + 1)) ps (drop (i + 1) xs) else get_or xs i d ∷ others_from (suc (i + 1)) ps (drop (i + 1) xs)) e)) ∙ h)

  chosen_here : chosen_from (suc i) ps (drop i xs) ≡ (if is_in ps (suc i) then get_or xs i d ∷ chosen_from (suc (i + 1)) ps (drop (i + 1) xs) else chosen_from (suc (i + 1)) ps (drop (i + 1) xs))
  chosen_here =
      ap (chosen_from (suc i) ps) (drop-cons xs i d within)
      ∙ ap (λ (k : ℕ). if is_in ps (suc i) then get_or xs i d ∷ chosen_from (suc k) ps (drop k xs) else chosen_from (suc k) ps (drop k xs)) (sym (add-one i))

  pub chosen_skip : is_in ps (suc i) ≡ false → made ++ chosen_from (suc i) ps (drop i xs) ≡ all → made ++ chosen_from (suc (i + 1)) ps (drop (i + 1) xs) ≡ all
  chosen_skip e h = ap (λ (ys : List A). made ++ ys) (sym (chosen_here ∙ ap (λ (b : Bool). if b then get_or xs i d ∷ chosen_from (suc (i + 1)) ps (drop (i + 1) xs) else chosen_from (suc (i + 1)) ps (drop (i + 1) xs)) e)) ∙ h

  pub chosen_more : is_in ps (suc i) ≡ true → made ++ chosen_from (suc i) ps (drop i xs) ≡ all → (made ++ get_or xs i d ∷ []) ++ chosen_from (suc (i + 1)) ps (drop (i + 1) xs) ≡ all
  chosen_more e h =
      sym (put (chosen_from (suc (i + 1)) ps (drop (i + 1) xs)))
      ∙ (ap (λ (ys : List A). made ++ ys) (sym (chosen_here ∙ ap (λ (b : Bool). if b then get_or xs i d ∷ chosen_from (suc (i + 1)) ps (drop (i + 1) xs) else chosen_from (suc (i + 1)) ps (drop (i + 1) xs)) e)) ∙ h)

  -- before an element is put in the place of the first
  module _ (a : A) where
    replaced_here : replaced_from a (suc i) ps (drop i xs) ≡ (if is_in ps (suc i) then a ∷ others_from (suc (i + 1)) ps (drop (i + 1) xs) else get_or xs i d ∷ replaced_from a (suc (i + 1)) ps (drop (i + 1) xs))
    replaced_here =
        ap (replaced_from a (suc i) ps) (drop-cons xs i d within)
        ∙ ap (λ (k : ℕ). if is_in ps (suc i) then a ∷ others_from (suc k) ps (drop k xs) else get_or xs i d ∷ replaced_from a (suc k) ps (drop k xs)) (sym (add-one i))

    pub replaced_put : is_in ps (suc i) ≡ true → made ++ replaced_from a (suc i) ps (drop i xs) ≡ all → (made ++ a ∷ []) ++ others_from (suc (i + 1)) ps (drop (i + 1) xs) ≡ all
    replaced_put e h =
        append_assoc made (a ∷ []) (others_from (suc (i + 1)) ps (drop (i + 1) xs))
        ∙ (ap (λ (ys : List A). made ++ ys) (sym (replaced_here ∙ ap (λ (b : Bool). if b then a ∷ others_from (suc (i + 1)) ps (drop (i + 1) xs) else get_or xs i d ∷ replaced_from a (suc (i + 1)) ps (drop (i + 1) xs)) e)) ∙ h)

    pub replaced_more : is_in ps (suc i) ≡ false → made ++ replaced_from a (suc i) ps (drop i xs) ≡ all → (made ++ get_or xs i d ∷ []) ++ replaced_from a (suc (i + 1)) ps (drop (i + 1) xs) ≡ all
    replaced_more e h =
        sym (put (replaced_from a (suc (i + 1)) ps (drop (i + 1) xs)))
        ∙ (ap (λ (ys : List A). made ++ ys) (sym (replaced_here ∙ ap (λ (b : Bool). if b then a ∷ others_from (suc (i + 1)) ps (drop (i + 1) xs) else get_or xs i d ∷ replaced_from a (suc (i + 1)) ps (drop (i + 1) xs)) e)) ∙ h)
