-- A value is no proper part of itself.
use Rattle.std.proofs.Common.{◌≡◌, ℕ, ◌+◌, ◌≤◌, ap, arith, inl, inr}
use Rattle.clp_model.specs.declared.tree.Tree.{Tree, Var, App', Row_of-Tree, end_of-Tree, more_of-Tree}
use Rattle.clp_model.specs.Trees.{variables, variables_in_row, IsApplication}
use Rattle.clp_model.specs.Values.{Value, Values, Number, Named, AndValue, NoValue}
use Rattle.clp_model.proofs.Membership.{Among, first, next, among_either}
use Rattle.unify_model.specs.Equations.{value_by, row_by}

abbrev mutual
  pub nodes : Value → ℕ
  nodes (Number f lowest) = 1
  nodes (Named name vs) = 1 + all_nodes vs

  pub all_nodes : Values → ℕ
  all_nodes NoValue = 0
  all_nodes (AndValue v vs) = nodes v + all_nodes vs

mutual
  unfolding variables value_by

  part_is_no_larger : {V : Type 0} (a : V → Value) (v : V) (t : Tree V) → Among v (variables t) → nodes (a v) ≤ nodes (value_by a t)
  part_is_no_larger a v (Var w) first = omega arith
  part_is_no_larger a v (Var w) (next m) = elim m [ ]
  part_is_no_larger a v (App' name shape args) m = let h = row_is_no_smaller a v args m in omega (arith, h)

  row_is_no_smaller : {V : Type 0} {m : _} (a : V → Value) (v : V) (ts : Row_of-Tree V m) → Among v (variables_in_row ts) → nodes (a v) ≤ all_nodes (row_by a ts)
  row_is_no_smaller a v end_of-Tree m = elim m [ ]
  row_is_no_smaller a v (more_of-Tree t ts) m =
      elim (among_either v (variables t) (variables_in_row ts) m) [
        | inl b ↦ (let h = part_is_no_larger a v t b in omega (arith, h))
        | inr b ↦ (let h = row_is_no_smaller a v ts b in omega (arith, h))
      ]

-- a variable that occurs in an application has not its value
pub not_its_part : {V : Type 0} (a : V → Value) (v : V) (t : Tree V) → IsApplication t → Among v (variables t) → a v ≡ value_by a t → ⊥
unfolding variables value_by IsApplication
not_its_part a v (Var w) h m e = absurd h
not_its_part a v (App' name shape args) h m e =
    let k = row_is_no_smaller a v args m in
    let n : nodes (a v) ≡ 1 + all_nodes (row_by a args) = ap nodes e in
    absurd (omega (arith, k, n))
