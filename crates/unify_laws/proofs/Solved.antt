-- What the most general unifier means, and that its bindings are triangular.
use Rattle.std.proofs.Common.{◌≡◌, ℕ, zero, suc, ◌<◌, ◌≤◌, List, [], ◌∷◌, length, refl, sym, ap, ◌∙◌, subst, arith, Bool, true, false, Option, Some, None}
use Rattle.std.specs.Prelude.{if◌then◌else◌}
use Rattle.clp_model.specs.declared.sort.Sort.TheVariants.{Num}
use Rattle.clp_model.specs.declared.tree.Variable.{Variable}
use Rattle.clp_model.specs.declared.tree.Tree.{Tree, Var, App'}
use Rattle.clp_model.specs.Trees.{variables, IsApplication}
use Rattle.clp_model.specs.Values.{Value}
use Rattle.clp_model.proofs.Membership.{Among, first, next}
use Rattle.unify_model.specs.Substituting.{substituted, Binding, same_variable, occurs, replacing}
use Rattle.unify_model.specs.Equations.{value_by, AllHold}
use Rattle.unify_model.specs.Unifying.{then_by, all_apart, carried_out, with_first, solved}
use Rattle.unify_laws.proofs.Variables.{same_is, differs, occurs_is, occurs_not, not_before}
use Rattle.unify_laws.proofs.Substituted.{value_substituted, value_agrees, came_from}
use Rattle.unify_laws.proofs.Sizes.{not_its_part}
use Rattle.unify_laws.proofs.Apart.{IsNumber, Bound, AllBound, Means, all_apart_mean}
use Rattle.unify_laws.proofs.Good.{IsDirected, EachOf, IsGood, AllGood, GoodIfAny, OfEquations, all_apart_good}
use Rattle.unify_laws.proofs.Triangular.{Without, AreTriangular, triangular_weaker}

-- ---- the variables that are left
abbrev left_out : Variable → List Variable → List Variable
left_out x [] = []
left_out x (v ∷ vs) = if same_variable x v then left_out x vs else v ∷ left_out x vs

no_more : (x : Variable) (vs : List Variable) → length (left_out x vs) ≤ length vs
no_more x [] = omega arith
no_more x (v ∷ vs) = go (same_variable x v) (no_more x vs)
  where
    go : (b : Bool) → length (left_out x vs) ≤ length vs → length (if b then left_out x vs else v ∷ left_out x vs) ≤ suc (length vs)
    go true h = omega (arith, h)
    go false h = omega (arith, h)

fewer : {x : Variable} {vs : List Variable} → Among x vs → length (left_out x vs) < length vs
fewer {x} (first {xs = vs}) = go (same_variable x x) refl
  where
    go : (b : Bool) → same_variable x x ≡ b → length (if b then left_out x vs else x ∷ left_out x vs) < suc (length vs)
    go true e = let h = no_more x vs in omega (arith, h)
    go false e = absurd (differs x x e refl)
fewer {x} (next {y = v} {xs = vs} m) = go (same_variable x v) (fewer m)
  where
    go : (b : Bool) → length (left_out x vs) < length vs → length (if b then left_out x vs else v ∷ left_out x vs) < suc (length vs)
    go true h = omega (arith, h)
    go false h = omega (arith, h)

stays : {x v : Variable} {vs : List Variable} → Among v vs → (x ≡ v → ⊥) → Among v (left_out x vs)
stays {x} {v} (first {xs = vs}) d = go (same_variable x v) refl
  where
    go : (b : Bool) → same_variable x v ≡ b → Among v (if b then left_out x vs else v ∷ left_out x vs)
    go true e = absurd (d (same_is x v e))
    go false e = first
stays {x} {v} (next {y = w} {xs = vs} m) d = go (same_variable x w) (stays m d)
  where
    go : (b : Bool) → Among v (left_out x vs) → Among v (if b then left_out x vs else w ∷ left_out x vs)
    go true k = k
    go false k = next k

pub among_cases : {A Q : Type 0} {x y : A} {xs : List A} → Among x (y ∷ xs) → (x ≡ y → Q) → (Among x xs → Q) → Q
among_cases first f g = f refl
among_cases (next m) f g = g m

left_out_is : (x : Variable) (vs : List Variable) (v : Variable) → Among v (left_out x vs) → Among v vs × (x ≡ v → ⊥)
left_out_is x [] v m = elim m [ ]
left_out_is x (w ∷ ws) v m = go (same_variable x w) refl (λ k. left_out_is x ws v k) m
  where
    go : (b : Bool) → same_variable x w ≡ b → (Among v (left_out x ws) → Among v ws × (x ≡ v → ⊥)) → Among v (if b then left_out x ws else w ∷ left_out x ws) → Among v (w ∷ ws) × (x ≡ v → ⊥)
    go true e again k = let p = again k in (next p.0, p.1)
    go false e again k = among_cases k (λ q. (subst (λ z. Among z (w ∷ ws)) (sym q) first, λ z. differs x w e (z ∙ q))) (λ m. let p = again m in (next p.0, p.1))

-- ---- one binding carried out
-- a binding that occurs nowhere in its tree leaves of its tree's variables, and of others, all but its own
replaced_by : (P : Variable → Type 0) (b : Binding) → EachOf P (variables b.1) → (Among b.0 (variables b.1) → ⊥) → (v : Variable) → P v → EachOf (Without P b.0) (variables (replacing b v))
unfolding variables
replaced_by P b each never v h = go (same_variable b.0 v) refl
  where
    go : (c : Bool) → same_variable b.0 v ≡ c → EachOf (Without P b.0) (variables (if c then b.1 else Var v))
    go true e w m = (each w m, λ q. never (subst (λ x. Among x (variables b.1)) (sym q) m))
    go false e w first = (h, differs b.0 w e)
    go false e w (next m) = elim m [ ]

carried_of : (P : Variable → Type 0) (b : Binding) → EachOf P (variables b.1) → (Among b.0 (variables b.1) → ⊥) → (bs : List Binding) → AllGood P bs → OfEquations (Without P b.0) (carried_out b bs)
carried_of P b each never [] h = tt
carried_of P b each never (c ∷ cs) h = (
  (
    replaced_by P b each never c.0 h.0.left,
    λ w m. let f = came_from (replacing b) w c.1 m in replaced_by P b each never f.0 (h.0.right f.0 f.1) w f.2,
  ),
  carried_of P b each never cs h.1,
)

-- where the binding holds, a variable has the value of what replaces it
replaced_value : (a : Variable → Value) (b : Binding) → Bound a b → (v : Variable) → value_by a (replacing b v) ≡ a v
unfolding value_by
replaced_value a b h v = go (same_variable b.0 v) refl
  where
    go : (c : Bool) → same_variable b.0 v ≡ c → value_by a (if c then b.1 else Var v) ≡ a v
    go true e = sym h ∙ ap a (same_is b.0 v e)
    go false e = refl

carried_tree : (a : Variable → Value) (b : Binding) → Bound a b → (t : Tree Variable) → value_by a (substituted (replacing b) t) ≡ value_by a t
carried_tree a b h t = value_substituted a (replacing b) t ∙ value_agrees (λ v. value_by a (replacing b v)) a t (λ v m. replaced_value a b h v)

carried_from : (a : Variable → Value) (b : Binding) → Bound a b → (bs : List Binding) → AllBound a bs → AllHold a (carried_out b bs)
carried_from a b h [] k = tt
carried_from a b h (c ∷ cs) k = (replaced_value a b h c.0 ∙ k.0 ∙ sym (carried_tree a b h c.1), carried_from a b h cs k.1)

carried_to : (a : Variable → Value) (b : Binding) → Bound a b → (bs : List Binding) → AllHold a (carried_out b bs) → AllBound a bs
carried_to a b h [] k = tt
carried_to a b h (c ∷ cs) k = (sym (replaced_value a b h c.0) ∙ k.0 ∙ carried_tree a b h c.1, carried_to a b h cs k.1)

-- ---- the turns
-- a directed binding whose variable occurs in its tree never holds
directed_part : (a : Variable → Value) (x : Variable) (t : Tree Variable) → IsDirected x t → Among x (variables t) → a x ≡ value_by a t → ⊥
unfolding variables IsApplication
directed_part a x (Var w) d first = λ e. not_before x d
directed_part a x (Var w) d (next m) = elim m [ ]
directed_part a x (App' name shape args) d m = not_its_part a x (App' name shape args) tt m

pub then_means : (a : Variable → Value) (o : Option (List Binding)) (P : Type 0) (f : List Binding → Option (List Binding)) → Means a o P → ((cs : List Binding) → o ≡ Some cs → Means a (f cs) (AllBound a cs)) → Means a (then_by o f) P
then_means a None P f m h = m
then_means a (Some cs) P f m h = go (f cs) (h cs refl)
  where
    go : (o : Option (List Binding)) → Means a o (AllBound a cs) → Means a o P
    go None k = λ p. k (m.0 p)
    go (Some ds) k = ((λ p. k.0 (m.0 p)), (λ all. m.1 (k.1 all)))

first_means : (a : Variable → Value) (b : Binding) (o : Option (List Binding)) (P Q : Type 0) → (Bound a b → P → Q) → (Bound a b → Q → P) → Means a o P → Means a (with_first b o) (Bound a b × Q)
first_means a b None P Q to from m = λ h. m (from h.0 h.1)
first_means a b (Some bs) P Q to from m = ((λ h. (h.0, m.0 (from h.0 h.1))), (λ all. (all.0, to all.0 (m.1 all.1))))

good_some : (P : Variable → Type 0) (o : Option (List Binding)) (cs : List Binding) → GoodIfAny P o → o ≡ Some cs → AllGood P cs
good_some P o cs h e = subst (GoodIfAny P) e h

good_weaker : (P Q : Variable → Type 0) → ((v : Variable) → P v → Q v) → (bs : List Binding) → AllGood P bs → AllGood Q bs
good_weaker P Q h [] g = tt
good_weaker P Q h (b ∷ bs) g = (record { left = h b.0 g.0.left; right = λ v m. h v (g.0.right v m); directed = g.0.directed }, good_weaker P Q h bs g.1)

-- the bindings that the others are taken apart into speak of the variables that are left
rest_good : (vs : List Variable) (b : Binding) (bs : List Binding) → IsGood (λ v. Among v vs) b → occurs b.0 b.1 ≡ false → AllGood (λ v. Among v vs) bs → (cs : List Binding) → all_apart (carried_out b bs) ≡ Some cs → AllGood (λ v. Among v (left_out b.0 vs)) cs
rest_good vs b bs g e h cs q =
    good_weaker (Without (λ v. Among v vs) b.0) (λ v. Among v (left_out b.0 vs)) (λ v k. stays k.0 k.1) cs
    (good_some (Without (λ v. Among v vs) b.0) (all_apart (carried_out b bs)) cs
    (all_apart_good (Without (λ v. Among v vs) b.0) (carried_out b bs) (carried_of (λ v. Among v vs) b g.right (occurs_not b.0 b.1 e) bs h)) q)

module _ (a : Variable → Value) (numbers : (v : Variable) → v.sort ≡ Num → IsNumber (a v)) where
  pub solved_means : (turns : ℕ) (vs : List Variable) → length vs ≤ turns → (bs : List Binding) → AllGood (λ v. Among v vs) bs → Means a (solved turns bs) (AllBound a bs)
  solved_means turns vs le [] h = ((λ k. tt), (λ k. tt))
  solved_means zero vs le (b ∷ bs) h = let k = fewer h.0.left in absurd (omega (arith, le, k))
  solved_means (suc turns) vs le (b ∷ bs) h = go (occurs b.0 b.1) refl (λ ws short cs good. solved_means turns ws short cs good)
    where
      go : (c : Bool) → occurs b.0 b.1 ≡ c → ((ws : List Variable) → length ws ≤ turns → (cs : List Binding) → AllGood (λ v. Among v ws) cs → Means a (solved turns cs) (AllBound a cs)) → Means a (if c then None else with_first b (then_by (all_apart (carried_out b bs)) (solved turns))) (AllBound a (b ∷ bs))
      go true e again = λ k. directed_part a b.0 b.1 h.0.directed (occurs_is b.0 b.1 e) k.0
      go false e again =
          let short : length (left_out b.0 vs) ≤ turns = (let k = fewer h.0.left in omega (arith, le, k)) in
          first_means a b (then_by (all_apart (carried_out b bs)) (solved turns)) (AllHold a (carried_out b bs)) (AllBound a bs) (λ k. carried_to a b k bs) (λ k. carried_from a b k bs)
          (then_means a (all_apart (carried_out b bs)) (AllHold a (carried_out b bs)) (solved turns) (all_apart_mean a numbers (carried_out b bs))
          (λ cs q. again (left_out b.0 vs) short cs (rest_good vs b bs h.0 e h.1 cs q)))

abbrev pub TriangularIfAny : (Variable → Type 0) → Option (List Binding) → Type 0
TriangularIfAny P None = Unit {0}
TriangularIfAny P (Some bs) = AreTriangular P bs

pub then_triangular : (P : Variable → Type 0) (o : Option (List Binding)) (f : List Binding → Option (List Binding)) → ((cs : List Binding) → o ≡ Some cs → TriangularIfAny P (f cs)) → TriangularIfAny P (then_by o f)
then_triangular P None f h = tt
then_triangular P (Some cs) f h = h cs refl

first_triangular : (P Q : Variable → Type 0) (b : Binding) (o : Option (List Binding)) → P b.0 → EachOf (Without P b.0) (variables b.1) → IsDirected b.0 b.1 → ((v : Variable) → Q v → Without P b.0 v) → TriangularIfAny Q o → TriangularIfAny P (with_first b o)
first_triangular P Q b None h each d to t = tt
first_triangular P Q b (Some bs) h each d to t = (h, each, d, triangular_weaker Q (Without P b.0) to bs t)

pub solved_triangular : (turns : ℕ) (vs : List Variable) → (bs : List Binding) → AllGood (λ v. Among v vs) bs → TriangularIfAny (λ v. Among v vs) (solved turns bs)
solved_triangular turns vs [] h = tt
solved_triangular zero vs (b ∷ bs) h = tt
solved_triangular (suc turns) vs (b ∷ bs) h = go (occurs b.0 b.1) refl (λ ws cs good. solved_triangular turns ws cs good)
  where
    go : (c : Bool) → occurs b.0 b.1 ≡ c → ((ws : List Variable) (cs : List Binding) → AllGood (λ v. Among v ws) cs → TriangularIfAny (λ v. Among v ws) (solved turns cs)) → TriangularIfAny (λ v. Among v vs) (if c then None else with_first b (then_by (all_apart (carried_out b bs)) (solved turns)))
    go true e again = tt
    go false e again =
        first_triangular (λ v. Among v vs) (λ v. Among v (left_out b.0 vs)) b (then_by (all_apart (carried_out b bs)) (solved turns)) h.0.left
        (λ v m. (h.0.right v m, λ q. occurs_not b.0 b.1 e (subst (λ x. Among x (variables b.1)) (sym q) m))) h.0.directed (left_out_is b.0 vs)
        (then_triangular (λ v. Among v (left_out b.0 vs)) (all_apart (carried_out b bs)) (solved turns)
        (λ cs q. again (left_out b.0 vs) cs (rest_good vs b bs h.0 e h.1 cs q)))
