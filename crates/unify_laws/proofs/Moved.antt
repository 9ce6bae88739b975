-- The valuation that gives each variable the value of its image under another valuation.
use Rattle.std.proofs.Common.{◌≡◌, ℕ, refl, sym, ap, ◌∙◌, subst, inl, inr}
use Rattle.std.proofs.Math.IntN.{ℤ, pos}
use Rattle.clp_model.specs.declared.sort.Sort.{Sort}
use Rattle.clp_model.specs.declared.sort.Sort.TheVariants.{Any, Num}
use Rattle.clp_model.specs.declared.tree.Variable.{Variable}
use Rattle.clp_model.specs.declared.tree.Tree.{Tree, Var, App'}
use Rattle.clp_model.specs.Values.{Valuation, number_over, variable_value}
use Rattle.unify_model.specs.Substituting.{substituted}
use Rattle.unify_model.specs.Equations.{value_by, under}
use Rattle.unify_model.specs.Solving.{Agrees, IsImage}
use Rattle.unify_laws.proofs.Variables.{before_number}
use Rattle.unify_laws.proofs.Substituted.{value_substituted, value_agrees}
use Rattle.unify_laws.proofs.Marks.{variable_at}

unfoldable pub number_under : Valuation → Tree Variable → ℤ
number_under u (Var v) = u.number v.number
number_under u (App' name shape args) = pos 0

abbrev pub moved : Valuation → (Variable → Tree Variable) → Valuation
moved u s = record {
  whole = u.whole;
  positive = u.positive;
  number = λ n. number_under u (s (variable_at n Num));
  value = λ n. value_by (under u) (s (variable_at n Any));
}

of_number : (u : Valuation) (r : Variable) → r.sort ≡ Num → number_over (u.number r.number) u.whole u.positive ≡ under u r
of_number u r e = ap (variable_value u r.number) (sym e)

number_is : (u : Valuation) (t : Tree Variable) (r : Variable) → t ≡ Var r → r.sort ≡ Num → number_over (number_under u t) u.whole u.positive ≡ value_by (under u) t
unfolding number_under value_by
number_is u t r e q = subst (λ x. number_over (number_under u x) u.whole u.positive ≡ value_by (under u) x) (sym e) (of_number u r q)

-- the variable that stands for a Num variable is a Num variable
pub image_number : (v : Variable) (t : Tree Variable) → IsImage v t → v.sort ≡ Num → (r : Variable) × (t ≡ Var r) × (r.sort ≡ Num)
image_number v t i e =
    let k = i.number e in
    let q : k.0.sort ≡ Num = elim (i.least k.0 k.1) [ inl same ↦ ap (λ (x : Variable). x.sort) same ∙ e | inr before ↦ before_number k.0 v before e ] in
    (k.0, k.1, q)

moved_at : (u : Valuation) (s : Variable → Tree Variable) → ((v : Variable) → IsImage v (s v)) → (n : ℕ) (r : Sort) → variable_value (moved u s) n r ≡ value_by (under u) (s (variable_at n r))
moved_at u s h n Any = refl
moved_at u s h n Num = let k = image_number (variable_at n Num) (s (variable_at n Num)) (h (variable_at n Num)) refl in number_is u (s (variable_at n Num)) k.0 k.1 k.2

pub under_moved : (u : Valuation) (s : Variable → Tree Variable) → ((v : Variable) → IsImage v (s v)) → (v : Variable) → under (moved u s) v ≡ value_by (under u) (s v)
under_moved u s h v = moved_at u s h v.number v.sort

pub tree_moved : (u : Valuation) (s : Variable → Tree Variable) → ((v : Variable) → IsImage v (s v)) → (t : Tree Variable) → value_by (under (moved u s)) t ≡ value_by (under u) (substituted s t)
tree_moved u s h t = value_agrees (under (moved u s)) (λ v. value_by (under u) (s v)) t (λ v m. under_moved u s h v) ∙ sym (value_substituted (under u) s t)

pub moved_agrees : (u : Valuation) (s : Variable → Tree Variable) → ((v : Variable) → IsImage v (s v)) → ((v : Variable) → substituted s (s v) ≡ s v) → Agrees (under (moved u s)) s
moved_agrees u s h settled v = under_moved u s h v ∙ ap (value_by (under u)) (sym (settled v)) ∙ sym (tree_moved u s h (s v))
