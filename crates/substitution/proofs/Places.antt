-- The places of the bindings.
use Rattle.std.proofs.Common.{◌≡◌, ℕ, suc, ◌+◌, ◌<◌, ◌≤◌, length, List, [], ◌∷◌, ◌++◌, refl, sym, ap, ◌∙◌, subst, arith, Bool, true, false, Option, Some, None, IfSome}
use Rattle.std.specs.Prelude.{if◌then◌else◌}
use Rattle.clp_model.specs.declared.tree.Variable.{Variable}
use Rattle.unify_model.specs.Substituting.{same_variable}
use Rattle.substitution.specs.declared.bindings.Bound.{Bound}
use Rattle.substitution.specs.Bindings.{variable_of, bound_variables, bound_variables_onto, height_of, height_at, HasPlaces}

pub names_push : (vs : List Variable) (items : List Bound) (b : Bound) → bound_variables_onto vs (items ++ b ∷ []) ≡ variable_of b.number b.sort ∷ bound_variables_onto vs items
names_push vs [] b = refl
names_push vs (x ∷ xs) b = names_push (variable_of x.number x.sort ∷ vs) xs b

names_length : (vs : List Variable) (items : List Bound) → length (bound_variables_onto vs items) ≡ length vs + length items
names_length vs [] = omega arith
names_length vs (x ∷ xs) = let e = names_length (variable_of x.number x.sort ∷ vs) xs in omega (arith, e)

pub count_is : (items : List Bound) → length (bound_variables items) ≡ length items
count_is items = let e = names_length [] items in omega (arith, e)

pub height_within : (vs : List Variable) (v : Variable) → height_of vs v ≤ length vs
height_within [] v = omega arith
height_within (w ∷ ws) v = go (same_variable w v) (height_within ws v)
  where
    go : (b : Bool) → height_of ws v ≤ length ws → (if b then suc (length ws) else height_of ws v) ≤ suc (length ws)
    go true h = omega arith
    go false h = omega (arith, h)

pub place_within : (items : List Bound) (v : Variable) (o : Option ℕ) → height_at o ≡ height_of (bound_variables items) v → IfSome o (λ place. place < length items)
place_within items v None e = tt
place_within items v (Some place) e = let h = height_within (bound_variables items) v in let c = count_is items in omega (arith, e, h, c)

-- the places after one more binding
pub places_more : (items room more : List Bound) (b : Bound) (any numbers any' numbers' : ℕ → Option ℕ) → room ≡ items → more ≡ room ++ b ∷ [] → HasPlaces (bound_variables items) any numbers
    → ((vs : List Variable) → length vs ≡ length room → HasPlaces vs any numbers → HasPlaces (variable_of b.number b.sort ∷ vs) any' numbers')
    → HasPlaces (bound_variables more) any' numbers'
places_more items room more b any numbers any' numbers' same is h step =
    let P : List Variable → Type 0 = λ vs. HasPlaces vs any' numbers' in
    subst P (sym (ap bound_variables (is ∙ ap (λ xs. xs ++ b ∷ []) same) ∙ names_push [] items b)) (step (bound_variables items) (count_is items ∙ ap length (sym same)) h)
