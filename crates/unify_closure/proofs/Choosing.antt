-- What the choice between two nodes says.
use Rattle.std.proofs.Common.{◌≡◌, ℕ, suc, List, [], ◌∷◌, length, map, refl, sym, ap, ◌∙◌, subst, arith, Bool, true, false, ◌&&◌, Some, None, ◌⊎◌, inl, inr}
use Rattle.std.specs.Prelude.{if◌then◌else◌, nat_eq}
use Rattle.std.specs.List.{zip}
use Rattle.std.specs.Str.{bytes_eq}
use Rattle.std.proofs.lemmas.Bool.{eqb-true, eq-eqb}
use Rattle.std.proofs.lemmas.Slice.Eq.{bytes_eq-Decides}
use Rattle.clp_model.specs.declared.sort.Sort.{Sort}
use Rattle.clp_model.specs.declared.sort.Sort.TheVariants.{Any, Num}
use Rattle.clp_model.specs.declared.tree.Variable.{Variable}
use Rattle.clp_model.specs.declared.tree.Tree.{Tree, Var, App}
use Rattle.clp_model.specs.Values.{Value, Named}
use Rattle.unify_model.specs.Substituting.{same_variable, comes_before}
use Rattle.unify_model.specs.Equations.{value_by}
use Rattle.unify_laws.proofs.Variables.{same_is, other_before, before_twice, before_number}
use Rattle.unify_laws.proofs.Apart.{IsNumber, named_name, named_values, and_value, and_rest}
use Rattle.unify_laws.proofs.Applications.{value_app, list_by}
use Rattle.unify_closure.specs.declared.node.Node.{Node}
use Rattle.unify_closure.specs.declared.node.Node.TheVariants as node
use Rattle.unify_closure.specs.Graph.{variable_of, all_of, tree_of, PairsHold, value_at}
use Rattle.unify_closure.specs.Closing.{Stands, Choice, if_any, chosen}

-- ---- one node standing for another
pub stands_itself : (label : ℕ → ℕ) (x : Node) → Stands label x x
stands_itself label (node.Var n s) = inl refl
stands_itself label (node.App f xs) = (refl, refl)

any_not_num : Any ≡ Num → ⊥
any_not_num e = absurd (cc)

sort_cases : (s : Sort) → (s ≡ Any) ⊎ (s ≡ Num)
sort_cases Any = inl refl
sort_cases Num = inr refl

-- what comes after an Any variable is an Any variable
any_after : (v w : Variable) → comes_before w v ≡ true → w.sort ≡ Any → v.sort ≡ Any
any_after v w h e = elim (sort_cases v.sort) [ inl q ↦ q | inr q ↦ absurd (any_not_num (sym e ∙ before_number w v h q)) ]

var_twice : (u v w : Variable) → (v ≡ u) ⊎ (comes_before v u ≡ true) → (w ≡ v) ⊎ (comes_before w v ≡ true) → (w ≡ u) ⊎ (comes_before w u ≡ true)
var_twice u v w (inl e) (inl q) = inl (q ∙ e)
var_twice u v w (inl e) (inr k) = inr (subst (λ x. comes_before w x ≡ true) e k)
var_twice u v w (inr h) (inl q) = inr (subst (λ x. comes_before x u ≡ true) (sym q) h)
var_twice u v w (inr h) (inr k) = inr (before_twice w v u k h)

var_any : (v w : Variable) → (w ≡ v) ⊎ (comes_before w v ≡ true) → w.sort ≡ Any → v.sort ≡ Any
var_any v w (inl e) q = ap (λ (x : Variable). x.sort) (sym e) ∙ q
var_any v w (inr h) q = any_after v w h q

pub stands_twice : (label : ℕ → ℕ) (x y z : Node) → Stands label x y → Stands label y z → Stands label x z
stands_twice label (node.Var n s) (node.Var m r) (node.Var k q) h e = var_twice (variable_of n s) (variable_of m r) (variable_of k q) h e
stands_twice label (node.Var n s) (node.Var m r) (node.App g ys) h e = var_any (variable_of n s) (variable_of m r) h e
stands_twice label (node.Var n s) (node.App g ys) (node.App f xs) h e = h
stands_twice label (node.App f xs) (node.App g ys) (node.App k zs) h e = (h.0 ∙ e.0, h.1 ∙ e.1)
stands_twice label (node.Var n s) (node.App g ys) (node.Var m r) h e = absurd e
stands_twice label (node.App f xs) (node.App g ys) (node.Var m r) h e = absurd e
stands_twice label (node.App f xs) (node.Var m r) z h e = absurd h

-- ---- the arguments
zip_labels : {X : Type 0} (label : ℕ → X) (xs ys : List ℕ) → length xs ≡ length ys → PairsHold label (zip xs ys) → map label xs ≡ map label ys
zip_labels label [] [] e h = refl
zip_labels label (x ∷ xs) (y ∷ ys) e h = let p = h.0 in let q = zip_labels label xs ys (omega (arith, e)) h.1 in cc
zip_labels label [] (y ∷ ys) e h = absurd (omega (arith, e))
zip_labels label (x ∷ xs) [] e h = absurd (omega (arith, e))

zip_values : (a : Variable → Value) (trees : ℕ → Tree Variable) (xs ys : List ℕ) → list_by a (all_of trees xs) ≡ list_by a (all_of trees ys) → PairsHold (value_at a trees) (zip xs ys)
zip_values a trees [] ys e = tt
zip_values a trees (x ∷ xs) [] e = tt
zip_values a trees (x ∷ xs) (y ∷ ys) e = (and_value e, zip_values a trees xs ys (and_rest e))

same_length : (a : Variable → Value) (trees : ℕ → Tree Variable) (xs ys : List ℕ) → list_by a (all_of trees xs) ≡ list_by a (all_of trees ys) → length xs ≡ length ys
same_length a trees [] [] e = refl
same_length a trees (x ∷ xs) (y ∷ ys) e = ap suc (same_length a trees xs ys (and_rest e))
same_length a trees [] (y ∷ ys) e = absurd (cc)
same_length a trees (x ∷ xs) [] e = absurd (cc)

-- ---- what the choice says
pub record Chooses (label : ℕ → ℕ) (x y z : Node) (pairs : List (ℕ × ℕ)) : Type 0 where
  pub left : PairsHold label pairs → Stands label x z
  pub right : PairsHold label pairs → Stands label y z

pub record HasChosen (p q : ℕ) (x y : Node) (r : ℕ) (pairs : List (ℕ × ℕ)) : Type 0 where
  pub one : ((r ≡ p) × ((label : ℕ → ℕ) → Chooses label x y x pairs)) ⊎ ((r ≡ q) × ((label : ℕ → ℕ) → Chooses label x y y pairs))
  pub hold : (a : Variable → Value) (trees : ℕ → Tree Variable) → value_by a (tree_of trees x) ≡ value_by a (tree_of trees y) → PairsHold (value_at a trees) pairs

-- the choice, by cases
abbrev pub IsChoice : ℕ → ℕ → Node → Node → Choice → Type 0
IsChoice p q x y None = (a : Variable → Value) → ((v : Variable) → v.sort ≡ Num → IsNumber (a v)) → (trees : ℕ → Tree Variable) → value_by a (tree_of trees x) ≡ value_by a (tree_of trees y) → ⊥
IsChoice p q x y (Some c) = HasChosen p q x y c.0 c.1

variables_chosen : (p q : ℕ) (n : ℕ) (s : Sort) (m : ℕ) (r : Sort) (same : Bool) → same_variable (variable_of n s) (variable_of m r) ≡ same → (before : Bool) → comes_before (variable_of n s) (variable_of m r) ≡ before → IsChoice p q (node.Var n s) (node.Var m r) (if same then Some (p, []) else (if before then Some (p, []) else Some (q, [])))
variables_chosen p q n s m r true e before d =
    record { one = inl (refl, λ label. record { left = λ h. inl refl; right = λ h. inl (same_is (variable_of n s) (variable_of m r) e) }); hold = λ a trees h. tt }
variables_chosen p q n s m r false e true d =
    record { one = inl (refl, λ label. record { left = λ h. inl refl; right = λ h. inr d }); hold = λ a trees h. tt }
variables_chosen p q n s m r false e false d =
    record { one = inr (refl, λ label. record { left = λ h. inr (other_before (variable_of n s) (variable_of m r) e d); right = λ h. inl refl }); hold = λ a trees h. tt }

not_application : (a : Variable → Value) → ((v : Variable) → v.sort ≡ Num → IsNumber (a v)) → (trees : ℕ → Tree Variable) (v : Variable) → v.sort ≡ Num → (g : List ℕ) (ys : List ℕ) → value_by a (Var v) ≡ value_by a (App g (all_of trees ys)) → ⊥
unfolding value_by
not_application a numbers trees v e g ys h = subst IsNumber (h ∙ value_app a g (all_of trees ys)) (numbers v e)

application_chosen : (p q : ℕ) (n : ℕ) (s : Sort) (g ys : List ℕ) → IsChoice p q (node.Var n s) (node.App g ys) (if_any s q)
application_chosen p q n Any g ys =
    record { one = inr (refl, λ label. record { left = λ h. refl; right = λ h. (refl, refl) }); hold = λ a trees h. tt }
application_chosen p q n Num g ys = λ a numbers trees h. not_application a numbers trees (variable_of n Num) refl g ys h

application_kept : (p q : ℕ) (m : ℕ) (r : Sort) (f xs : List ℕ) → IsChoice p q (node.App f xs) (node.Var m r) (if_any r p)
application_kept p q m Any f xs =
    record { one = inl (refl, λ label. record { left = λ h. (refl, refl); right = λ h. refl }); hold = λ a trees h. tt }
application_kept p q m Num f xs = λ a numbers trees h. not_application a numbers trees (variable_of m Num) refl f xs (sym h)

named_both : (a : Variable → Value) (trees : ℕ → Tree Variable) (f g xs ys : List ℕ) → value_by a (App f (all_of trees xs)) ≡ value_by a (App g (all_of trees ys)) → Named f (list_by a (all_of trees xs)) ≡ Named g (list_by a (all_of trees ys))
named_both a trees f g xs ys h = sym (value_app a f (all_of trees xs)) ∙ h ∙ value_app a g (all_of trees ys)

applications_chosen : (p q : ℕ) (f g xs ys : List ℕ) (b c : Bool) → bytes_eq f g ≡ b → nat_eq (length xs) (length ys) ≡ c → IsChoice p q (node.App f xs) (node.App g ys) (if b && c then Some (p, zip xs ys) else None)
applications_chosen p q f g xs ys true true e d =
    record {
      one = inl (refl, λ label. record { left = λ h. (refl, refl); right = λ h. (sym ((bytes_eq-Decides f g).0 e), sym (zip_labels label xs ys (eqb-true (length xs) (length ys) d) h)) });
      hold = λ a trees h. zip_values a trees xs ys (named_values (named_both a trees f g xs ys h));
    }
applications_chosen p q f g xs ys true false e d =
    λ a numbers trees h. let k = eq-eqb (length xs) (length ys) (same_length a trees xs ys (named_values (named_both a trees f g xs ys h))) in absurd (cc)
applications_chosen p q f g xs ys false c e d =
    λ a numbers trees h. let k = (bytes_eq-Decides f g).1 (named_name (named_both a trees f g xs ys h)) in absurd (cc)

pub is_choice : (p q : ℕ) (x y : Node) → IsChoice p q x y (chosen p q x y)
is_choice p q (node.Var n s) (node.Var m r) =
    variables_chosen p q n s m r (same_variable (variable_of n s) (variable_of m r)) refl (comes_before (variable_of n s) (variable_of m r)) refl
is_choice p q (node.Var n s) (node.App g ys) = application_chosen p q n s g ys
is_choice p q (node.App f xs) (node.Var m r) = application_kept p q m r f xs
is_choice p q (node.App f xs) (node.App g ys) = applications_chosen p q f g xs ys (bytes_eq f g) (nat_eq (length xs) (length ys)) refl refl
