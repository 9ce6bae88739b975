-- A valuation under which trees are equal only where they are the same, with a substitution carried out.
use Rattle.std.proofs.Common.{◌≡◌, ℕ, suc, negsuc, ◌<◌, ◌+◌, ◌*◌, List, refl, sym, ap, ◌∙◌, subst, arith, inl, inr}
use Rattle.std.proofs.Math.IntN.{ℤ, pos, ◌*ℤ◌, pos-*ℤ-pos}
use Rattle.clp_model.specs.declared.sort.Sort.{Sort}
use Rattle.clp_model.specs.declared.sort.Sort.TheVariants.{Any, Num}
use Rattle.clp_model.specs.declared.tree.Variable.{Variable}
use Rattle.clp_model.specs.declared.tree.Tree.{Tree, Var, App, App', Row_of-Tree, end_of-Tree, more_of-Tree, items-the_row-Tree}
use Rattle.clp_model.specs.Trees.{variables, variables_in_row}
use Rattle.clp_model.specs.Values.{Value, Values, Named, Valuation, number_over, variable_value}
use Rattle.clp_model.proofs.Trees.{out_app}
use Rattle.clp_model.proofs.Membership.{Among, first, next, among_either}
use Rattle.unify_model.specs.Substituting.{substituted}
use Rattle.unify_model.specs.Equations.{value_by, row_by, under}
use Rattle.unify_model.specs.Solving.{Agrees, IsImage}
use Rattle.unify_laws.proofs.Scaling.{cross_of_same}
use Rattle.unify_laws.proofs.Substituted.{value_substituted, value_agrees}
use Rattle.unify_laws.proofs.Apart.{named_name, named_values, and_value, and_rest}

pub one_positive : 0 < 1
one_positive = omega arith

-- a whole number for each variable, none for two
abbrev pub code_by : ℕ → Sort → ℕ
code_by n Any = n + n
code_by n Num = suc (n + n)

abbrev pub code : Variable → ℕ
code v = code_by v.number v.sort

same_number : (n m : ℕ) (s r : Sort) → code_by n s ≡ code_by m r → (n ≡ m) × (s ≡ r)
same_number n m Any Any e = (omega (arith, e), refl)
same_number n m Num Num e = (omega (arith, e), refl)
same_number n m Any Num e = absurd (omega (arith, e))
same_number n m Num Any e = absurd (omega (arith, e))

abbrev pub mark : Variable → Value
mark v = number_over (pos (code v)) 1 one_positive

pos_injective : {m n : ℕ} → pos m ≡ pos n → m ≡ n
pos_injective {m} e = let back : ℤ → ℕ = elim [ pos k ↦ k | negsuc k ↦ m ] in ap back e

mark_injective : (v w : Variable) → mark v ≡ mark w → v ≡ w
mark_injective v w e =
    let q : pos (code v) *ℤ pos 1 ≡ pos (code w) *ℤ pos 1 = cross_of_same (pos (code v)) (pos (code w)) 1 1 one_positive one_positive e in
    let k : code v * 1 ≡ code w * 1 = pos_injective (sym (pos-*ℤ-pos (code v) 1) ∙ q ∙ pos-*ℤ-pos (code w) 1) in
    let c : code v ≡ code w = omega (arith, k) in
    let p = same_number v.number w.number v.sort w.sort c in
    let one : ℕ → Variable = λ n. record { number = n; sort = v.sort } in
    let two : Sort → Variable = λ s. record { number = w.number; sort = s } in
    ap one p.0 ∙ ap two p.1

not_named : (v : Variable) (name : List ℕ) (vs : Values) → mark v ≡ Named name vs → ⊥
unfolding number_over
not_named v name vs e = absurd (cc)

mutual
  unfolding value_by

  -- under the marks, trees are equal only where they are the same
  pub same_under_marks : (t u : Tree Variable) → value_by mark t ≡ value_by mark u → t ≡ u
  same_under_marks (Var v) (Var w) e = ap Var (mark_injective v w e)
  same_under_marks (Var v) (App' g shape us) e = absurd (not_named v g (row_by mark us) e)
  same_under_marks (App' f shape ts) (Var w) e = absurd (not_named w f (row_by mark ts) (sym e))
  same_under_marks (App' f shape ts) (App' g shape' us) e =
      sym (out_app f shape ts) ∙ ap (App f) (row_same_under_marks _ ts _ us (named_values e)) ∙ ap (λ n. App n (items-the_row-Tree Variable _ us)) (named_name e) ∙ out_app g shape' us

  row_same_under_marks : (m : _) (ts : Row_of-Tree Variable m) (n : _) (us : Row_of-Tree Variable n) → row_by mark ts ≡ row_by mark us → items-the_row-Tree Variable m ts ≡ items-the_row-Tree Variable n us
  row_same_under_marks m end_of-Tree n end_of-Tree e = refl
  row_same_under_marks m (more_of-Tree t ts) n (more_of-Tree u us) e =
      let p = same_under_marks t u (and_value e) in
      let q = row_same_under_marks _ ts _ us (and_rest e) in
      cc
  row_same_under_marks m end_of-Tree n (more_of-Tree u us) e = absurd (cc)
  row_same_under_marks m (more_of-Tree t ts) n end_of-Tree e = absurd (cc)

mutual
  unfolding value_by variables

  -- where a tree has one value under two assignments, each of its variables has
  pub each_alike : (a b : Variable → Value) (t : Tree Variable) → value_by a t ≡ value_by b t → (w : Variable) → Among w (variables t) → a w ≡ b w
  each_alike a b (Var v) e w first = e
  each_alike a b (Var v) e w (next m) = elim m [ ]
  each_alike a b (App' name shape args) e w m = row_each_alike a b args (named_values e) w m

  row_each_alike : {m : _} (a b : Variable → Value) (ts : Row_of-Tree Variable m) → row_by a ts ≡ row_by b ts → (w : Variable) → Among w (variables_in_row ts) → a w ≡ b w
  row_each_alike a b end_of-Tree e w m = elim m [ ]
  row_each_alike a b (more_of-Tree t ts) e w m =
      elim (among_either w (variables t) (variables_in_row ts) m) [
        | inl k ↦ each_alike a b t (and_value e) w k
        | inr k ↦ row_each_alike a b ts (and_rest e) w k
      ]

-- ---- the valuation
abbrev pub variable_at : ℕ → Sort → Variable
variable_at n s = record { number = n; sort = s }

unfoldable pub number_at : Tree Variable → ℤ
number_at (Var v) = pos (code v)
number_at (App' name shape args) = pos 0

-- each variable has the value of its image under the marks
abbrev pub standing : (Variable → Tree Variable) → Valuation
standing s = record {
  whole = 1;
  positive = one_positive;
  number = λ n. number_at (s (variable_at n Num));
  value = λ n. value_by mark (s (variable_at n Any));
}

number_is : (t : Tree Variable) (r : Variable) → t ≡ Var r → number_over (number_at t) 1 one_positive ≡ value_by mark t
unfolding number_at value_by
number_is t r e = subst (λ x. number_over (number_at x) 1 one_positive ≡ value_by mark x) (sym e) refl

standing_at : (s : Variable → Tree Variable) → ((v : Variable) → IsImage v (s v)) → (n : ℕ) (r : Sort) → variable_value (standing s) n r ≡ value_by mark (s (variable_at n r))
standing_at s h n Any = refl
standing_at s h n Num = let k = (h (variable_at n Num)).number refl in number_is (s (variable_at n Num)) k.0 k.1

pub under_standing : (s : Variable → Tree Variable) → ((v : Variable) → IsImage v (s v)) → (v : Variable) → under (standing s) v ≡ value_by mark (s v)
under_standing s h v = standing_at s h v.number v.sort

-- the value of any tree
pub tree_standing : (s : Variable → Tree Variable) → ((v : Variable) → IsImage v (s v)) → (t : Tree Variable) → value_by (under (standing s)) t ≡ value_by mark (substituted s t)
tree_standing s h t = value_agrees (under (standing s)) (λ v. value_by mark (s v)) t (λ v m. under_standing s h v) ∙ sym (value_substituted mark s t)

-- each variable has the value of its image
pub standing_agrees : (s : Variable → Tree Variable) → ((v : Variable) → IsImage v (s v)) → ((v : Variable) → substituted s (s v) ≡ s v) → Agrees (under (standing s)) s
standing_agrees s h settled v = under_standing s h v ∙ ap (value_by mark) (sym (settled v)) ∙ sym (tree_standing s h (s v))
