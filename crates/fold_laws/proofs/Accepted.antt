-- A fold whose conditions hold is what the rank asks of one.
use Rattle.std.proofs.Common.{◌≡◌, ℕ, ◌<◌, ◌≤◌, List, [], ◌∷◌, ◌++◌, map, length, arith, refl, ap, subst, Bool, true, false, inl, inr, Some, None}
use Rattle.std.specs.Prelude.{not, if◌then◌else◌}
use Rattle.std.proofs.lemmas.List.{length-map}
use Rattle.clp_model.specs.declared.tree.Tree.{Tree, Var}
use Rattle.clp_model.specs.Trees.{variables, variables_in}
use Rattle.clp_model.specs.Clauses.{Clause, sort_in}
use Rattle.clp_model.proofs.Membership.{Among, first, next, to_among, from_among, among_front, among_back, among_either}
use Rattle.linear_laws.proofs.Lists.{filter_in}
use Rattle.unify_model.specs.Substituting.{substituted, Binding}
use Rattle.clause_model.specs.Variables.{rows_variables}
use Rattle.clause_laws.proofs.Rows.{all_each}
use Rattle.clp_rank.specs.Rules.{Removed, Taken}
use Rattle.fold_model.specs.Positions.{in_range, first_outside, is_in, chosen, others, replaced, at_positions}
use Rattle.fold_model.specs.Images.{all_variables, all_bindings, image_in}
use Rattle.fold_model.specs.Internal.{internal_variables, number_in, taken_variables}
use Rattle.fold_model.specs.Folded.{folded_clause}
use Rattle.rule_laws.specs.Steps.{IsHeld}
use Rattle.rule_laws.specs.Folding.{IsInternal, KeepsInternal, IsFolded}
use Rattle.fold_laws.specs.Laws.{IsAccepted}
use Rattle.fold_laws.proofs.Places.{inside, taken_at, removed_replaced, chosen_old}
use Rattle.fold_laws.proofs.Bound.{in_is, is_then_in, not_in, numbers_have, respects, atoms_are}
use Rattle.fold_laws.proofs.Apart.{StaysApart, each_apart, each_own, variable_image}
use Rattle.fold_laws.proofs.Shown.{entailed, dropped}

module _ (n c : Clause) (at with keep : List ℕ) (bs : List Binding) (hn : IsHeld n) (some : 0 < length n.body) (h : IsAccepted n c at with keep bs) where
  abbrev s : ℕ → Tree ℕ
  s = image_in n (all_bindings n c with bs)

  abbrev rest : List (Tree ℕ)
  rest = others at c.body

  atoms : at_positions c.head c.body at ≡ map (substituted s) n.body
  atoms = atoms_are n c at with bs h.matches h.named

  -- ---- the atoms
  taken : Taken c.body (map (substituted s) n.body) rest
  taken = subst (λ (ts : List (Tree ℕ)). Taken c.body ts rest) atoms (taken_at c.head at c.body h.within h.once)

  first_position : (ps : List ℕ) → first_outside (length c.body) ps ≡ None → 0 < length (at_positions c.head c.body ps) → (k : ℕ) × (1 ≤ k) × (k ≤ length c.body) × (is_in ps k ≡ true)
  first_position [] o l = absurd (omega (arith, l))
  first_position (p ∷ ps) o l = by (in_range (length c.body) p) refl o
    where
      by : (b : Bool) → in_range (length c.body) p ≡ b → (if b then first_outside (length c.body) ps else Some p) ≡ None → (k : ℕ) × (1 ≤ k) × (k ≤ length c.body) × (is_in (p ∷ ps) k ≡ true)
      by true e o = let r = inside (length c.body) p true e refl in (p, r.0, r.1, is_then_in (p ∷ ps) p first)
      by false e o = absurd (cc)

  put : Removed (substituted s n.head) (replaced (substituted s n.head) at c.body) rest
  put =
      let l : 0 < length (at_positions c.head c.body at) = (let a = ap (λ (ts : List (Tree ℕ)). length ts) atoms in let b = length-map n.body (substituted s) in omega (arith, some, a, b)) in
      let k = first_position at h.within l in
      removed_replaced (substituted s n.head) 1 at c.body k.0 k.1 (let u = k.2 in omega (arith, u)) k.3

  -- ---- the internal variables
  abbrev taken_already : List ℕ
  taken_already = taken_variables n c s at keep

  is_one : (x : ℕ) → IsInternal n x → Among x (internal_variables n)
  is_one x i =
      let everywhere = among_either x (variables_in n.body) (rows_variables n.rows) (to_among (variables_in n.body ++ rows_variables n.rows) x i.0) in
      let all : Among x (variables_in (n.head ∷ n.body) ++ rows_variables n.rows) = elim everywhere [
        | inl a ↦ among_front x (variables_in (n.head ∷ n.body)) (rows_variables n.rows) (among_back x (variables n.head) (variables_in n.body) a)
        | inr a ↦ among_back x (variables_in (n.head ∷ n.body)) (rows_variables n.rows) a
      ] in
      let r = all_each (λ k. (0 < k) × (k ≤ length n.sorts)) (variables_in (n.head ∷ n.body) ++ rows_variables n.rows) hn.places x all in
      filter_in (λ y. not (is_in (variables n.head) y)) (all_variables n) x (numbers_have 1 n.sorts x r.0 (let u = r.1 in omega (arith, u))) (by (is_in (variables n.head) x) refl)
    where
      by : (b : Bool) → is_in (variables n.head) x ≡ b → not b ≡ true
      by false e = refl
      by true e = absurd (i.1 (from_among (in_is (variables n.head) x e)))

  apart : (x : ℕ) → IsInternal n x → StaysApart n c s taken_already x
  apart x i = each_apart n c s taken_already (internal_variables n) h.apart x (is_one x i)

  image : (x : ℕ) → IsInternal n x → s x ≡ Var (number_in (s x))
  image x i = (variable_image c.sorts (sort_in n.sorts x) (s x) (apart x i).variable).0

  free : (x : ℕ) → IsInternal n x → ¬ Among (number_in (s x)) taken_already
  free x i a = not_in taken_already (number_in (s x)) (apart x i).free a

  abbrev of_head_images : List ℕ
  of_head_images = variables_in (map s (variables n.head))

  in_images : (xs : List ℕ) (y z : ℕ) → Among y xs → Among z (variables (s y)) → Among z (variables_in (map s xs))
  in_images xs y z first b = among_front z (variables (s y)) _ b
  in_images xs y z (next {y = x} {xs = ys} m) b = among_back z (variables (s x)) (variables_in (map s ys)) (in_images ys y z m b)

  internal : KeepsInternal c n s (chosen keep c.rows) rest
  internal = record {
    image = λ x i. image x i;
    sort = λ x i. (variable_image c.sorts (sort_in n.sorts x) (s x) (apart x i).variable).1;
    own = λ x y i j q. each_own n c s taken_already (internal_variables n) h.apart x y (is_one x i) (is_one y j) q;
    not_in_head = λ x i k. free x i (among_front (number_in (s x)) (variables c.head) (variables_in rest ++ (rows_variables (chosen keep c.rows) ++ of_head_images)) (to_among (variables c.head) (number_in (s x)) k));
    not_in_rest = λ x i k. free x i (among_back (number_in (s x)) (variables c.head) (variables_in rest ++ (rows_variables (chosen keep c.rows) ++ of_head_images))
        (among_front (number_in (s x)) (variables_in rest) (rows_variables (chosen keep c.rows) ++ of_head_images) (to_among (variables_in rest) (number_in (s x)) k)));
    not_in_rows = λ x i k. free x i (among_back (number_in (s x)) (variables c.head) (variables_in rest ++ (rows_variables (chosen keep c.rows) ++ of_head_images))
        (among_back (number_in (s x)) (variables_in rest) (rows_variables (chosen keep c.rows) ++ of_head_images)
        (among_front (number_in (s x)) (rows_variables (chosen keep c.rows)) of_head_images (to_among (rows_variables (chosen keep c.rows)) (number_in (s x)) k))));
    not_in_images = λ x y i a k. free x i (among_back (number_in (s x)) (variables c.head) (variables_in rest ++ (rows_variables (chosen keep c.rows) ++ of_head_images))
        (among_back (number_in (s x)) (variables_in rest) (rows_variables (chosen keep c.rows) ++ of_head_images)
        (among_back (number_in (s x)) (rows_variables (chosen keep c.rows)) of_head_images
        (in_images (variables n.head) y (number_in (s x)) (to_among (variables n.head) y a) (to_among (variables (s y)) (number_in (s x)) k)))));
  }

  pub is_folded : IsFolded c n (folded_clause n c s at keep) s
  is_folded = record {
    respects = respects n c at with bs h.matches h.named;
    rest = rest;
    taken = taken;
    entailed = entailed n c s keep h.shown;
    kept = chosen keep c.rows;
    of_rows = λ r k. from_among (chosen_old 1 keep c.rows r (to_among (chosen keep c.rows) r k));
    dropped = dropped n c s keep h.shown;
    internal = internal;
    new_body = replaced (substituted s n.head) at c.body;
    put = put;
    is = refl;
  }
