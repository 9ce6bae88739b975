-- The names in the images of a most general unifier.
use Rattle.std.proofs.Common.{ℕ, zero, suc, List, [], ◌∷◌, ◌++◌, subst, Bool, true, false, Option, Some, None}
use Rattle.std.specs.Prelude.{if◌then◌else◌, All}
use Rattle.std.specs.Str.{bytes_eq}
use Rattle.std.proofs.lemmas.List.Elements.{All-nil, All-cons, All-head, All-tail}
use Rattle.clp_model.specs.declared.sort.Sort.{Sort}
use Rattle.clp_model.specs.declared.sort.Sort.TheVariants.{Any, Num}
use Rattle.clp_model.specs.declared.tree.Variable.{Variable}
use Rattle.clp_model.specs.declared.tree.Tree.{Tree, Var, App', Row_of-Tree, end_of-Tree, more_of-Tree}
use Rattle.unify_model.specs.Substituting.{substituted, Binding, same_variable, comes_before, occurs, replacing, image}
use Rattle.unify_model.specs.Equations.{Equation}
use Rattle.unify_model.specs.Unifying.{joined, then_by, of_application, apart, row_apart, all_apart, carried_out, with_first, solved, solved_all, most_general_unifier}
use Rattle.name_laws.specs.Names.{HasNames, RowHasNames}
use Rattle.name_laws.specs.Laws.{UnifierKeepsNames}
use Rattle.name_laws.proofs.Trees.{names_substituted}

module _ (p : List ℕ → Bool) where
  abbrev BothHave : Equation → Type 0
  BothHave e = HasNames p e.0 × HasNames p e.1

  abbrev pub AllBound : List Binding → Type 0
  AllBound [] = Unit {0}
  AllBound (b ∷ bs) = HasNames p b.1 × AllBound bs

  abbrev pub BoundIfAny : Option (List Binding) → Type 0
  BoundIfAny None = Unit {0}
  BoundIfAny (Some bs) = AllBound bs

  pub variable_has : (v : Variable) → HasNames p (Var v)
  unfolding HasNames
  variable_has v = tt

  -- ---- equations taken apart
  pub both_bound : (bs cs : List Binding) → AllBound bs → AllBound cs → AllBound (bs ++ cs)
  both_bound [] cs h k = k
  both_bound (b ∷ bs) cs h k = (h.0, both_bound bs cs h.1 k)

  pub joined_bound : (o o' : Option (List Binding)) → BoundIfAny o → BoundIfAny o' → BoundIfAny (joined o o')
  joined_bound None o' h k = tt
  joined_bound (Some bs) None h k = tt
  joined_bound (Some bs) (Some cs) h k = both_bound bs cs h k

  variables_bound : (v w : Variable) (same before : Bool) → BoundIfAny (if same then Some [] else (if before then Some ((w, Var v) ∷ []) else Some ((v, Var w) ∷ [])))
  variables_bound v w true before = tt
  variables_bound v w false true = (variable_has v, tt)
  variables_bound v w false false = (variable_has w, tt)

  application_bound : (s : Sort) (v : Variable) (t : Tree Variable) → HasNames p t → BoundIfAny (of_application s v t)
  application_bound Any v t h = (h, tt)
  application_bound Num v t h = tt

  pub if_bound : (b : Bool) (o : Option (List Binding)) → BoundIfAny o → BoundIfAny (if b then o else None)
  if_bound true o h = h
  if_bound false o h = tt

  mutual
    unfolding apart HasNames

    apart_bound : (t u : Tree Variable) → HasNames p t → HasNames p u → BoundIfAny (apart t u)
    apart_bound (Var v) (Var w) h k = variables_bound v w (same_variable v w) (comes_before v w)
    apart_bound (Var v) (App' g shape us) h k = application_bound v.sort v (App' g shape us) k
    apart_bound (App' f shape ts) (Var w) h k = application_bound w.sort w (App' f shape ts) h
    apart_bound (App' f shape ts) (App' g shape' us) h k = if_bound (bytes_eq f g) (row_apart ts us) (row_apart_bound ts us h.1 k.1)

    row_apart_bound : {m n : _} (ts : Row_of-Tree Variable m) (us : Row_of-Tree Variable n) → RowHasNames p ts → RowHasNames p us → BoundIfAny (row_apart ts us)
    row_apart_bound end_of-Tree end_of-Tree h k = tt
    row_apart_bound (more_of-Tree t ts) (more_of-Tree u us) h k = joined_bound (apart t u) (row_apart ts us) (apart_bound t u h.0 k.0) (row_apart_bound ts us h.1 k.1)
    row_apart_bound end_of-Tree (more_of-Tree u us) h k = tt
    row_apart_bound (more_of-Tree t ts) end_of-Tree h k = tt

  all_apart_bound : (es : List Equation) → All BothHave es → BoundIfAny (all_apart es)
  all_apart_bound [] h = tt
  all_apart_bound (e ∷ es) h =
      let one = All-head BothHave e es h in
      joined_bound (apart e.0 e.1) (all_apart es) (apart_bound e.0 e.1 one.0 one.1) (all_apart_bound es (All-tail BothHave e es h))

  -- ---- the turns
  replaced_has : (b : Binding) → HasNames p b.1 → (v : Variable) → HasNames p (replacing b v)
  replaced_has b h v = by (same_variable b.0 v)
    where
      by : (same : Bool) → HasNames p (if same then b.1 else Var v)
      by true = h
      by false = variable_has v

  carried_bound : (b : Binding) → HasNames p b.1 → (bs : List Binding) → AllBound bs → All BothHave (carried_out b bs)
  carried_bound b h [] k = All-nil BothHave
  carried_bound b h (c ∷ cs) k =
      All-cons BothHave (replacing b c.0, substituted (replacing b) c.1) (carried_out b cs)
      (replaced_has b h c.0, names_substituted p (replacing b) (replaced_has b h) c.1 k.0) (carried_bound b h cs k.1)

  then_bound : (o : Option (List Binding)) (f : List Binding → Option (List Binding)) → BoundIfAny o → ((cs : List Binding) → AllBound cs → BoundIfAny (f cs)) → BoundIfAny (then_by o f)
  then_bound None f h again = tt
  then_bound (Some cs) f h again = again cs h

  first_bound : (b : Binding) (o : Option (List Binding)) → HasNames p b.1 → BoundIfAny o → BoundIfAny (with_first b o)
  first_bound b None h k = tt
  first_bound b (Some bs) h k = (h, k)

  solved_bound : (turns : ℕ) (bs : List Binding) → AllBound bs → BoundIfAny (solved turns bs)
  solved_bound turns [] h = tt
  solved_bound zero (b ∷ bs) h = tt
  solved_bound (suc turns) (b ∷ bs) h = by (occurs b.0 b.1) (λ cs k. solved_bound turns cs k)
    where
      by : (inside : Bool) → ((cs : List Binding) → AllBound cs → BoundIfAny (solved turns cs)) → BoundIfAny (if inside then None else with_first b (then_by (all_apart (carried_out b bs)) (solved turns)))
      by true again = tt
      by false again =
          first_bound b (then_by (all_apart (carried_out b bs)) (solved turns)) h.0
          (then_bound (all_apart (carried_out b bs)) (solved turns) (all_apart_bound (carried_out b bs) (carried_bound b h.0 bs h.1)) again)

  -- ---- images
  images_have : (bs : List Binding) → AllBound bs → (v : Variable) → HasNames p (image bs v)
  images_have [] h v = variable_has v
  images_have (b ∷ bs) h v = by (same_variable b.0 v) (λ w. images_have bs h.1 w)
    where
      by : (same : Bool) → ((w : Variable) → HasNames p (image bs w)) → HasNames p (if same then substituted (image bs) b.1 else image bs v)
      by true again = names_substituted p (image bs) again b.1 h.0
      by false again = again v

  unifier_bound : (es : List Equation) → All BothHave es → BoundIfAny (most_general_unifier es)
  unfolding most_general_unifier
  unifier_bound es h = then_bound (all_apart es) solved_all (all_apart_bound es h) (λ cs k. solved_bound _ cs k)

pub unifier_keeps : UnifierKeepsNames
unifier_keeps p es bs h e = images_have p bs (subst (BoundIfAny p) e (unifier_bound p es h))
