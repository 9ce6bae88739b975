-- The names and predicates of a folded clause.
use Rattle.std.proofs.Common.{◌≡◌, ℕ, suc, ◌-◌, List, [], ◌∷◌, subst, Bool, true, false}
use Rattle.std.specs.Prelude.{if◌then◌else◌, All, slice_index_or, Option, Some, None}
use Rattle.std.specs.Str.{bytes_eq}
use Rattle.std.proofs.lemmas.List.Elements.{All-nil, All-cons, All-head, All-tail}
use Rattle.clp_model.specs.declared.predicate.Pred.{Pred}
use Rattle.clp_model.specs.declared.tree.Variable.{Variable}
use Rattle.clp_model.specs.declared.tree.Tree.{Tree, Var, App', Row_of-Tree, end_of-Tree, more_of-Tree}
use Rattle.clp_model.specs.Trees.{mapped}
use Rattle.clp_model.specs.Clauses.{Clause}
use Rattle.unify_model.specs.Substituting.{substituted, same_variable, Binding}
use Rattle.unify_model.specs.Matching.{takes, met, row_met, image_at_once, consistent, list_met, if_consistent, matched}
use Rattle.clause_model.specs.Solved.{typed_variable, number_of}
use Rattle.fold_model.specs.Positions.{is_in, at_positions, others_from, replaced_from}
use Rattle.fold_model.specs.Images.{typed_all, outer_variables, named_bindings, all_bindings, matched_atoms}
use Rattle.map_model.specs.Folding.{images}
use Rattle.name_laws.specs.Names.{HasNames, RowHasNames, IsAtomOver, AreOver}
use Rattle.name_laws.specs.Laws.{FoldedClauseKeepsNames}
use Rattle.name_laws.proofs.Trees.{names_mapped, atom_substituted}
use Rattle.name_laws.proofs.Unifiers.{AllBound, BoundIfAny, variable_has, both_bound, joined_bound, if_bound}
use Rattle.name_laws.proofs.Clauses.{atom_or_head}

module _ (p : List ℕ → Bool) where
  -- ---- the bindings that atoms give
  mutual
    unfolding met HasNames

    met_bound : (t u : Tree Variable) → HasNames p u → BoundIfAny p (met t u)
    met_bound (Var v) u h = by (takes v.sort u)
      where
        by : (b : Bool) → BoundIfAny p (if b then Some ((v, u) ∷ []) else None)
        by true = (h, tt)
        by false = tt
    met_bound (App' f shape ts) (App' g shape' us) h = if_bound p (bytes_eq f g) (row_met ts us) (row_met_bound ts us h.1)
    met_bound (App' f shape ts) (Var w) h = tt

    row_met_bound : {m n : _} (ts : Row_of-Tree Variable m) (us : Row_of-Tree Variable n) → RowHasNames p us → BoundIfAny p (row_met ts us)
    row_met_bound end_of-Tree end_of-Tree h = tt
    row_met_bound (more_of-Tree t ts) (more_of-Tree u us) h = joined_bound p (met t u) (row_met ts us) (met_bound t u h.0) (row_met_bound ts us h.1)
    row_met_bound end_of-Tree (more_of-Tree u us) h = tt
    row_met_bound (more_of-Tree t ts) end_of-Tree h = tt

  list_met_bound : (ts us : List (Tree Variable)) → All (HasNames p) us → BoundIfAny p (list_met ts us)
  list_met_bound [] [] h = tt
  list_met_bound (t ∷ ts) (u ∷ us) h =
      joined_bound p (met t u) (list_met ts us) (met_bound t u (All-head (HasNames p) u us h)) (list_met_bound ts us (All-tail (HasNames p) u us h))
  list_met_bound [] (u ∷ us) h = tt
  list_met_bound (t ∷ ts) [] h = tt

  consistent_bound : (o : Option (List Binding)) → BoundIfAny p o → BoundIfAny p (if_consistent o)
  consistent_bound None h = tt
  consistent_bound (Some bs) h = if_bound p (consistent bs) (Some bs) h

  matched_bound : (ts us : List (Tree Variable)) → All (HasNames p) us → BoundIfAny p (matched ts us)
  unfolding matched
  matched_bound ts us h = consistent_bound (list_met ts us) (list_met_bound ts us h)

  -- ---- those that are named, and images
  named_bound : (n c : Clause) (xs vs : List ℕ) → AllBound p (named_bindings n c xs vs)
  named_bound n c [] vs = tt
  named_bound n c (x ∷ xs) [] = tt
  named_bound n c (x ∷ xs) (v ∷ vs) = (variable_has p (typed_variable c.sorts v), named_bound n c xs vs)

  at_once_has : (bs : List Binding) → AllBound p bs → (v : Variable) → HasNames p (image_at_once bs v)
  at_once_has [] h v = variable_has p v
  at_once_has (b ∷ bs) h v = by (same_variable b.0 v) (at_once_has bs h.1 v)
    where
      by : (same : Bool) → HasNames p (image_at_once bs v) → HasNames p (if same then b.1 else image_at_once bs v)
      by true k = h.0
      by false k = k

  images_have : (n c : Clause) (with : List ℕ) (bs : List Binding) → AllBound p bs → (x : ℕ) → HasNames p (images n c with bs x)
  images_have n c with bs h x =
      names_mapped p number_of (image_at_once (all_bindings n c with bs) (typed_variable n.sorts x))
      (at_once_has (all_bindings n c with bs) (both_bound p (named_bindings n c (outer_variables n) with) bs (named_bound n c (outer_variables n) with) h) (typed_variable n.sorts x))

module _ (p : List ℕ → Bool) (q : Pred → Bool) where
  abbrev AllOver : List (Tree ℕ) → Type 0
  AllOver ts = All (IsAtomOver p q) ts

  -- ---- the atoms at positions
  chosen_have : (c : Clause) → AreOver p q c → (at : List ℕ) → All (HasNames p) (typed_all c.sorts (at_positions c.head c.body at))
  chosen_have c h [] = All-nil (HasNames p)
  chosen_have c h (i ∷ at) =
      All-cons (HasNames p) (mapped (typed_variable c.sorts) (slice_index_or c.body (i - 1) c.head)) (typed_all c.sorts (at_positions c.head c.body at))
      (names_mapped p (typed_variable c.sorts) (slice_index_or c.body (i - 1) c.head) (atom_or_head p q c.body (i - 1) c.head h.head h.body).names)
      (chosen_have c h at)

  bindings_have : (n c : Clause) (at : List ℕ) (bs : List Binding) → AreOver p q c → matched_atoms n c at ≡ Some bs → AllBound p bs
  unfolding matched_atoms
  bindings_have n c at bs h e =
      subst (BoundIfAny p) e (matched_bound p (typed_all n.sorts n.body) (typed_all c.sorts (at_positions c.head c.body at)) (chosen_have c h at))

  others_over : (k : ℕ) (at : List ℕ) (ts : List (Tree ℕ)) → AllOver ts → AllOver (others_from k at ts)
  others_over k at [] h = All-nil (IsAtomOver p q)
  others_over k at (t ∷ ts) h = by (is_in at k) (others_over (suc k) at ts (All-tail (IsAtomOver p q) t ts h))
    where
      by : (b : Bool) → AllOver (others_from (suc k) at ts) → AllOver (if b then others_from (suc k) at ts else t ∷ others_from (suc k) at ts)
      by true rest = rest
      by false rest = All-cons (IsAtomOver p q) t (others_from (suc k) at ts) (All-head (IsAtomOver p q) t ts h) rest

  replaced_over : (a : Tree ℕ) → IsAtomOver p q a → (k : ℕ) (at : List ℕ) (ts : List (Tree ℕ)) → AllOver ts → AllOver (replaced_from a k at ts)
  replaced_over a is k at [] h = All-nil (IsAtomOver p q)
  replaced_over a is k at (t ∷ ts) h = by (is_in at k) (replaced_over a is (suc k) at ts rest)
    where
      rest : AllOver ts
      rest = All-tail (IsAtomOver p q) t ts h

      by : (b : Bool) → AllOver (replaced_from a (suc k) at ts) → AllOver (if b then a ∷ others_from (suc k) at ts else t ∷ replaced_from a (suc k) at ts)
      by true more = All-cons (IsAtomOver p q) a (others_from (suc k) at ts) is (others_over (suc k) at ts rest)
      by false more = All-cons (IsAtomOver p q) t (replaced_from a (suc k) at ts) (All-head (IsAtomOver p q) t ts h) more

pub folded_keeps : FoldedClauseKeepsNames
folded_keeps p q n c at with keep bs h k e =
    let atom = atom_substituted p q (images n c with bs) (images_have p n c with bs (bindings_have p q n c at bs k e)) n.head h.head in
    record { head = k.head; body = replaced_over p q (substituted (images n c with bs) n.head) atom 1 at c.body k.body }
