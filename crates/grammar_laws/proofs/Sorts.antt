-- Sorts as variables are added and become numbers.
use Rattle.std.proofs.Common.{◌≡◌, ℕ, zero, suc, ◌+◌, ◌-◌, ◌<◌, ◌≤◌, List, [], ◌∷◌, ◌++◌, length, get_or, set, nat_eq, Bool, true, false, refl, ◌∙◌, ap, subst, arith, length-append, length-set}
use Rattle.std.proofs.Math.ListN.{get_or-append}
use Rattle.std.proofs.Math.Seq.{get_or-append_seam}
use Rattle.std.proofs.lemmas.List.{get_or-set_same, get_or-set_other}
use Rattle.std.proofs.lemmas.Bool.{eqb-true, eqb-false}
use Rattle.clp_model.specs.declared.sort.Sort.{Sort}
use Rattle.clp_model.specs.declared.sort.Sort.TheVariants.{Any, Num}
use Rattle.clause_store.specs.Stored.{IsNum}

-- there are more variables, and each that was a number still is
pub record Widens (old new : List Sort) : Type 0 where
  pub longer : length old ≤ length new
  pub nums : (v : ℕ) → IsNum old v → IsNum new v

pub same_sorts : (sorts : List Sort) → Widens sorts sorts
same_sorts sorts = record { longer = omega arith; nums = λ v h. h }

pub widens : (r s t : List Sort) → Widens r s → Widens s t → Widens r t
widens r s t g h = record { longer = omega (arith, g.longer, h.longer); nums = λ v k. h.nums v (g.nums v k) }

pub one_more : (sorts : List Sort) (sort : Sort) → length (sorts ++ sort ∷ []) ≡ length sorts + 1
one_more sorts sort = let e = length-append sorts (sort ∷ []) in omega (arith, e)

pub pushed : (sorts : List Sort) (sort : Sort) → Widens sorts (sorts ++ sort ∷ [])
pushed sorts sort = record { longer = omega (arith, one_more sorts sort); nums = go }
  where
    go : (v : ℕ) → IsNum sorts v → IsNum (sorts ++ sort ∷ []) v
    go zero h = absurd (omega (arith, h.positive))
    go (suc k) h = record {
      positive = h.positive;
      within = omega (arith, h.within, one_more sorts sort);
      sort = get_or-append sorts (sort ∷ []) Any k (omega (arith, h.within)) ∙ h.sort;
    }

pub num_pushed : (sorts : List Sort) → IsNum (sorts ++ Num ∷ []) (length sorts + 1)
num_pushed sorts = subst (IsNum (sorts ++ Num ∷ [])) (let e : suc (length sorts) ≡ length sorts + 1 = omega arith in e) (record {
  positive = omega arith;
  within = omega (arith, one_more sorts Num);
  sort = get_or-append_seam sorts Num [] Any;
})

pub made_num : (sorts : List Sort) (k : ℕ) → Widens sorts (set sorts k Num)
made_num sorts k = record { longer = omega (arith, length-set sorts k Num); nums = go }
  where
    go : (v : ℕ) → IsNum sorts v → IsNum (set sorts k Num) v
    go zero h = absurd (omega (arith, h.positive))
    go (suc j) h = record {
      positive = h.positive;
      within = omega (arith, h.within, length-set sorts k Num);
      sort = by (nat_eq j k) refl;
    }
      where
        by : (b : Bool) → nat_eq j k ≡ b → get_or (set sorts k Num) j Any ≡ Num
        by true e = let same : j ≡ k = eqb-true j k e in
            ap (λ (i : ℕ). get_or (set sorts k Num) i Any) same ∙ get_or-set_same sorts k Num Any (let w = h.within in omega (arith, w, same))
        by false e = get_or-set_other sorts k j Num Any (eqb-false j k e) ∙ h.sort

pub num_made : (sorts : List Sort) (v : ℕ) → 0 < v → v ≤ length sorts → IsNum (set sorts (v - 1) Num) v
num_made sorts zero p w = absurd (omega arith)
num_made sorts (suc k) p w = record {
  positive = p;
  within = omega (arith, w, length-set sorts (suc k - 1) Num);
  sort = let e : suc k - 1 ≡ k = omega arith in ap (λ (j : ℕ). get_or (set sorts j Num) k Any) e ∙ get_or-set_same sorts k Num Any (omega arith);
}
