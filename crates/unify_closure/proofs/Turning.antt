-- What a turn of the loop owes.
use Rattle.std.proofs.Common.{◌≡◌, ℕ, zero, suc, ◌<◌, ◌≤◌, ◌+◌, List, [], ◌∷◌, ◌++◌, length, drop, refl, sym, ap, ◌∙◌, subst, arith, Bool, true, false, ◌&&◌, Some, None, ◌⊎◌, inl, inr}
use Rattle.std.specs.Prelude.{if◌then◌else◌, slice_index_or, nat_eq}
use Rattle.std.specs.List.{zip}
use Rattle.std.specs.Str.{bytes_eq}
use Rattle.clp_model.specs.declared.sort.Sort.TheVariants.{Any, Num}
use Rattle.unify_model.specs.Substituting.{same_variable, comes_before}
use Rattle.unify_closure.specs.declared.node.Node.{Node}
use Rattle.unify_closure.specs.declared.node.Node.TheVariants as node
use Rattle.unify_closure.specs.Graph.{variable_of, PairsWithin}
use Rattle.unify_closure.specs.Closing.{Choice, chosen}
use Rattle.unify_closure.specs.Turns.{AllBelow, HasArguments, AreOwn}

-- ---- the pairs of arguments
pub pair_more : (xs ys : List ℕ) (i : ℕ) (d : ℕ) → i < length xs → length xs ≡ length ys → zip (drop i xs) (drop i ys) ≡ (slice_index_or xs i d, slice_index_or ys i d) ∷ zip (drop (suc i) xs) (drop (suc i) ys)
pair_more [] ys i d lt e = absurd (omega (arith, lt))
pair_more (x ∷ xs) [] i d lt e = absurd (omega (arith, e))
pair_more (x ∷ xs) (y ∷ ys) zero d lt e = refl
pair_more (x ∷ xs) (y ∷ ys) (suc i) d lt e = pair_more xs ys i d (omega (arith, lt)) (omega (arith, e))

zip_within : (n : ℕ) (xs ys : List ℕ) → AllBelow n xs → AllBelow n ys → PairsWithin n (zip xs ys)
zip_within n [] ys h k = tt
zip_within n (x ∷ xs) [] h k = tt
zip_within n (x ∷ xs) (y ∷ ys) h k = ((h.0, k.0), zip_within n xs ys h.1 k.1)

zip_few : (xs ys : List ℕ) → length (zip xs ys) ≤ length xs
zip_few [] ys = omega arith
zip_few (x ∷ xs) [] = omega arith
zip_few (x ∷ xs) (y ∷ ys) = let h = zip_few xs ys in omega (arith, h)

pub record IsFew (n x y z : ℕ) (pairs : List (ℕ × ℕ)) : Type 0 where
  pub one : (z ≡ x) ⊎ (z ≡ y)
  pub within : PairsWithin n pairs
  pub few : length pairs ≤ 4096

abbrev FewIfAny : ℕ → ℕ → ℕ → Choice → Type 0
FewIfAny n x y None = Unit {0}
FewIfAny n x y (Some c) = IsFew n x y c.0 c.1

few_none : (n x y : ℕ) (z : ℕ) → (z ≡ x) ⊎ (z ≡ y) → IsFew n x y z []
few_none n x y z w = record { one = w; within = tt; few = omega arith }

few_by : (n x y : ℕ) (g h : Node) → HasArguments n g → HasArguments n h → FewIfAny n x y (chosen x y g h)
few_by n x y (node.Var m s) (node.Var k r) a b = go (same_variable (variable_of m s) (variable_of k r)) (comes_before (variable_of m s) (variable_of k r))
  where
    go : (same before : Bool) → FewIfAny n x y (if same then Some (x, []) else (if before then Some (x, []) else Some (y, [])))
    go true before = few_none n x y x (inl refl)
    go false true = few_none n x y x (inl refl)
    go false false = few_none n x y y (inr refl)
few_by n x y (node.Var m Any) (node.App g ys) a b = few_none n x y y (inr refl)
few_by n x y (node.Var m Num) (node.App g ys) a b = tt
few_by n x y (node.App f xs) (node.Var m Any) a b = few_none n x y x (inl refl)
few_by n x y (node.App f xs) (node.Var m Num) a b = tt
few_by n x y (node.App f xs) (node.App g ys) a b = go (bytes_eq f g && nat_eq (length xs) (length ys))
  where
    go : (c : Bool) → FewIfAny n x y (if c then Some (x, zip xs ys) else None)
    go true = record { one = inl refl; within = zip_within n xs ys a.0 b.0; few = (let h = zip_few xs ys in omega (arith, h, a.1)) }
    go false = tt

pub is_few : (n x y z : ℕ) (pairs : List (ℕ × ℕ)) (g h : Node) → HasArguments n g → HasArguments n h → chosen x y g h ≡ Some (z, pairs) → IsFew n x y z pairs
is_few n x y z pairs g h a b e = subst (FewIfAny n x y) e (few_by n x y g h a b)

-- ---- places by themselves
own_end : (ps : List ℕ) (v p : ℕ) → p ≡ length ps → slice_index_or (ps ++ v ∷ []) p 0 ≡ v
own_end [] v zero e = refl
own_end [] v (suc p) e = absurd (omega (arith, e))
own_end (q ∷ ps) v zero e = absurd (omega (arith, e))
own_end (q ∷ ps) v (suc p) e = own_end ps v p (omega (arith, e))

own_front : (ps : List ℕ) (v p : ℕ) → p < length ps → slice_index_or (ps ++ v ∷ []) p 0 ≡ slice_index_or ps p 0
own_front [] v p lt = absurd (omega (arith, lt))
own_front (q ∷ ps) v zero lt = refl
own_front (q ∷ ps) v (suc p) lt = own_front ps v p (omega (arith, lt))

length_more : (ps : List ℕ) (v : ℕ) → length (ps ++ v ∷ []) ≡ suc (length ps)
length_more [] v = refl
length_more (q ∷ ps) v = ap suc (length_more ps v)

pub own_more : (n : ℕ) (ps : List ℕ) → AreOwn n ps → AreOwn (n + 1) (ps ++ n ∷ [])
own_more n ps h = record { count = (let e = length_more ps n in let c = h.count in omega (arith, e, c)); each = each }
  where
    go : (p : ℕ) → (p ≡ n) ⊎ (p < n) → slice_index_or (ps ++ n ∷ []) p 0 ≡ p
    go p (inl e) = own_end ps n p (e ∙ sym h.count) ∙ sym e
    go p (inr lt) = own_front ps n p (subst (λ m. p < m) (sym h.count) lt) ∙ h.each p lt

    either : (p : ℕ) → p < n + 1 → (b : Bool) → nat_eq p n ≡ b → (p ≡ n) ⊎ (p < n)
    either p lt true e = inl (grind (arith, e))
    either p lt false e = inr (grind (arith, e, lt))

    each : (p : ℕ) → p < n + 1 → slice_index_or (ps ++ n ∷ []) p 0 ≡ p
    each p lt = go p (either p lt (nat_eq p n) refl)
