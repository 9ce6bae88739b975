-- What is matched, and that nothing else is.
use Rattle.std.proofs.Common.{◌≡◌, ◌↔◌, List, [], ◌∷◌, ◌++◌, refl, sym, ap, ◌∙◌, subst, Bool, true, false, ◌&&◌, Option, Some, None, ◌⊎◌, inl, inr}
use Rattle.std.specs.Prelude.{if◌then◌else◌}
use Rattle.std.specs.List.{list_any}
use Rattle.std.specs.Str.{bytes_eq}
use Rattle.std.proofs.lemmas.Slice.Eq.{bytes_eq-Decides}
use Rattle.clp_model.specs.declared.sort.Sort.{Sort}
use Rattle.clp_model.specs.declared.sort.Sort.TheVariants.{Any, Num}
use Rattle.clp_model.specs.declared.tree.Variable.{Variable}
use Rattle.clp_model.specs.declared.tree.Tree.{Tree, Var, App, App', Row_of-Tree, end_of-Tree, more_of-Tree, items-the_row-Tree}
use Rattle.clp_model.specs.Trees.{variables, variables_in_row, variables_in}
use Rattle.clp_model.proofs.Trees.{out_app}
use Rattle.clp_model.proofs.Membership.{Among, first, among_front, among_back, among_either}
use Rattle.unify_model.specs.Substituting.{substituted, substituted_all, Binding, same_variable}
use Rattle.unify_model.specs.Equations.{value_by}
use Rattle.unify_model.specs.Unifying.{joined}
use Rattle.unify_model.specs.Matching.{is_number, takes, met, row_met, image_at_once, Respects, same_tree, same_row, agrees_with, consistent, list_met, if_consistent, matched, IsMatching, HasNoMatching}
use Rattle.unify_laws.proofs.Variables.{both, same_is, same_itself, differ_so, among_test, among_passes}
use Rattle.unify_laws.proofs.Substituted.{value_substituted}
use Rattle.unify_laws.proofs.Marks.{mark, same_under_marks, each_alike}
use Rattle.unify_laws.proofs.Good.{EachOf}
use Rattle.unify_laws.proofs.Triangular.{is_or_not}
use Rattle.unify_laws.proofs.Matched.{AllBecome, MeansFor, means_same, joined_means, head_of, tail_of, met_means}

-- ---- the test of trees
mutual
  unfolding same_tree

  -- trees that pass the test are equal
  pub same_tree_is : (t u : Tree Variable) → same_tree t u ≡ true → t ≡ u
  same_tree_is (Var v) (Var w) h = ap Var (same_is v w h)
  same_tree_is (Var v) (App' g form ys) h = cc
  same_tree_is (App' f shape xs) (Var w) h = cc
  same_tree_is (App' f shape xs) (App' g form ys) h =
      let p = both (bytes_eq f g) (same_row xs ys) h in
      sym (out_app f shape xs) ∙ ap (App f) (same_row_is xs ys p.1) ∙ ap (λ n. App n (items-the_row-Tree Variable _ ys)) ((bytes_eq-Decides f g).0 p.0) ∙ out_app g form ys

  same_row_is : {m n : _} (xs : Row_of-Tree Variable m) (ys : Row_of-Tree Variable n) → same_row xs ys ≡ true → items-the_row-Tree Variable m xs ≡ items-the_row-Tree Variable n ys
  same_row_is end_of-Tree end_of-Tree h = refl
  same_row_is end_of-Tree (more_of-Tree u us) h = cc
  same_row_is (more_of-Tree t ts) end_of-Tree h = cc
  same_row_is (more_of-Tree t ts) (more_of-Tree u us) h =
      let p = both (same_tree t u) (same_row ts us) h in
      let a = same_tree_is t u p.0 in
      let b = same_row_is ts us p.1 in
      cc

two_true : {a b : Bool} → a ≡ true → b ≡ true → (a && b) ≡ true
two_true {a} {b} h k = cc

mutual
  unfolding same_tree

  tree_is_itself : (t : Tree Variable) → same_tree t t ≡ true
  tree_is_itself (Var v) = same_itself v
  tree_is_itself (App' f shape xs) = two_true ((bytes_eq-Decides f f).1 refl) (row_is_itself xs)

  row_is_itself : {m : _} (xs : Row_of-Tree Variable m) → same_row xs xs ≡ true
  row_is_itself end_of-Tree = refl
  row_is_itself (more_of-Tree t ts) = two_true (tree_is_itself t) (row_is_itself ts)

same_tree_if : (t u : Tree Variable) → t ≡ u → same_tree t u ≡ true
same_tree_if t u e = subst (λ x. same_tree t x ≡ true) e (tree_is_itself t)

-- ---- the image that is put in at once
pub once_first : (b : Binding) (bs : List Binding) → image_at_once (b ∷ bs) b.0 ≡ b.1
once_first b bs = let e = same_itself b.0 in rw e refl

pub once_other : (b : Binding) (bs : List Binding) (v : Variable) → (b.0 ≡ v → ⊥) → image_at_once (b ∷ bs) v ≡ image_at_once bs v
once_other b bs v h = let e = differ_so b.0 v h in rw e refl

-- ---- consistent bindings
if_same : (c : Bool) (b : Bool) → (if c then b else true) ≡ true → c ≡ true → b ≡ true
if_same true b h e = h
if_same false b h e = absurd (cc)

if_not : (c : Bool) (b : Bool) → (c ≡ true → b ≡ true) → (if c then b else true) ≡ true
if_not true b h = h refl
if_not false b h = refl

once_agree : (b : Binding) (bs cs : List Binding) → agrees_with b cs ≡ true → AllBecome (image_at_once bs) cs → AllBecome (image_at_once (b ∷ bs)) cs
once_agree b bs [] h all = tt
once_agree b bs (c ∷ cs) h all =
    let p = both (if same_variable b.0 c.0 then same_tree b.1 c.1 else true) (agrees_with b cs) h in
    (go p.0 (is_or_not b.0 c.0), once_agree b bs cs p.1 all.1)
  where
    go : (if same_variable b.0 c.0 then same_tree b.1 c.1 else true) ≡ true → (b.0 ≡ c.0) ⊎ (b.0 ≡ c.0 → ⊥) → image_at_once (b ∷ bs) c.0 ≡ c.1
    go k (inl e) =
        let same : same_variable b.0 c.0 ≡ true = subst (λ x. same_variable b.0 x ≡ true) e (same_itself b.0) in
        ap (image_at_once (b ∷ bs)) (sym e) ∙ once_first b bs ∙ same_tree_is b.1 c.1 (if_same (same_variable b.0 c.0) (same_tree b.1 c.1) k same)
    go k (inr d) = once_other b bs c.0 d ∙ all.0

pub consistent_become : (bs : List Binding) → consistent bs ≡ true → AllBecome (image_at_once bs) bs
consistent_become [] h = tt
consistent_become (b ∷ bs) h =
    let p = both (agrees_with b bs) (consistent bs) h in
    (once_first b bs, once_agree b bs bs p.0 (consistent_become bs p.1))

become_agree : (f : Variable → Tree Variable) (b : Binding) (bs : List Binding) → f b.0 ≡ b.1 → AllBecome f bs → agrees_with b bs ≡ true
become_agree f b [] e all = refl
become_agree f b (c ∷ cs) e all =
    two_true (if_not (same_variable b.0 c.0) (same_tree b.1 c.1) (λ h. same_tree_if b.1 c.1 (sym e ∙ ap f (same_is b.0 c.0 h) ∙ all.0)))
    (become_agree f b cs e all.1)

become_consistent : (f : Variable → Tree Variable) (bs : List Binding) → AllBecome f bs → consistent bs ≡ true
become_consistent f [] all = refl
become_consistent f (b ∷ bs) all = two_true (become_agree f b bs all.0 all.1) (become_consistent f bs all.1)

-- ---- of which variables the bindings speak, and that they respect sorts
abbrev pub AllTake : (Variable → Type 0) → List Binding → Type 0
AllTake P [] = Unit {0}
AllTake P (b ∷ bs) = (P b.0 × (takes b.0.sort b.1 ≡ true)) × AllTake P bs

abbrev pub TakeIfAny : (Variable → Type 0) → Option (List Binding) → Type 0
TakeIfAny P None = Unit {0}
TakeIfAny P (Some bs) = AllTake P bs

take_both : (P : Variable → Type 0) (bs cs : List Binding) → AllTake P bs → AllTake P cs → AllTake P (bs ++ cs)
take_both P [] cs h k = k
take_both P (b ∷ bs) cs h k = (h.0, take_both P bs cs h.1 k)

joined_take : (P : Variable → Type 0) (o o' : Option (List Binding)) → TakeIfAny P o → TakeIfAny P o' → TakeIfAny P (joined o o')
joined_take P None o' h k = tt
joined_take P (Some bs) None h k = tt
joined_take P (Some bs) (Some cs) h k = take_both P bs cs h k

module _ (P : Variable → Type 0) where
  variable_takes : (v : Variable) (u : Tree Variable) → P v → (b : Bool) → takes v.sort u ≡ b → TakeIfAny P (if b then Some ((v, u) ∷ []) else None)
  variable_takes v u h true e = ((h, e), tt)
  variable_takes v u h false e = tt

  named_takes : (b : Bool) (o : Option (List Binding)) → TakeIfAny P o → TakeIfAny P (if b then o else None)
  named_takes true o h = h
  named_takes false o h = tt

  mutual
    unfolding met variables

    met_takes : (t u : Tree Variable) → EachOf P (variables t) → TakeIfAny P (met t u)
    met_takes (Var v) u h = variable_takes v u (h v first) (takes v.sort u) refl
    met_takes (App' f shape ts) (App' g shape' us) h = named_takes (bytes_eq f g) (row_met ts us) (row_met_takes ts us h)
    met_takes (App' f shape ts) (Var w) h = tt

    row_met_takes : {m n : _} (ts : Row_of-Tree Variable m) (us : Row_of-Tree Variable n) → EachOf P (variables_in_row ts) → TakeIfAny P (row_met ts us)
    row_met_takes end_of-Tree end_of-Tree h = tt
    row_met_takes (more_of-Tree t ts) (more_of-Tree u us) h =
        joined_take P (met t u) (row_met ts us)
        (met_takes t u (λ v m. h v (among_front v (variables t) (variables_in_row ts) m)))
        (row_met_takes ts us (λ v m. h v (among_back v (variables t) (variables_in_row ts) m)))
    row_met_takes end_of-Tree (more_of-Tree u us) h = tt
    row_met_takes (more_of-Tree t ts) end_of-Tree h = tt

  list_met_takes : (ts us : List (Tree Variable)) → EachOf P (variables_in ts) → TakeIfAny P (list_met ts us)
  list_met_takes [] [] h = tt
  list_met_takes (t ∷ ts) (u ∷ us) h =
      joined_take P (met t u) (list_met ts us)
      (met_takes t u (λ v m. h v (among_front v (variables t) (variables_in ts) m)))
      (list_met_takes ts us (λ v m. h v (among_back v (variables t) (variables_in ts) m)))
  list_met_takes [] (u ∷ us) h = tt
  list_met_takes (t ∷ ts) [] h = tt

-- a variable takes itself
takes_itself : (s : Sort) (v : Variable) → v.sort ≡ s → takes s (Var v) ≡ true
takes_itself Any v e = refl
takes_itself Num v e = ap is_number e

pub once_respects : (P : Variable → Type 0) (bs : List Binding) → AllTake P bs → Respects (image_at_once bs)
once_respects P [] h v = takes_itself v.sort v refl
once_respects P (b ∷ bs) h v = go (is_or_not b.0 v) (once_respects P bs h.1 v)
  where
    go : (b.0 ≡ v) ⊎ (b.0 ≡ v → ⊥) → takes v.sort (image_at_once bs v) ≡ true → takes v.sort (image_at_once (b ∷ bs) v) ≡ true
    go (inl e) again = subst (λ x. takes x.sort (image_at_once (b ∷ bs) x) ≡ true) e (ap (takes b.0.sort) (once_first b bs) ∙ h.0.1)
    go (inr d) again = ap (takes v.sort) (once_other b bs v d) ∙ again

pub once_others : (P : Variable → Type 0) (bs : List Binding) → AllTake P bs → (v : Variable) → (P v → ⊥) → image_at_once bs v ≡ Var v
once_others P [] h v d = refl
once_others P (b ∷ bs) h v d = once_other b bs v (λ e. d (subst P e h.0.0)) ∙ once_others P bs h.1 v d

-- ---- what the lists say
pub list_met_means : (f : Variable → Tree Variable) → Respects f → (ts us : List (Tree Variable)) → MeansFor f (list_met ts us) (substituted_all f ts ≡ us)
list_met_means f respects [] [] = ((λ h. tt), (λ all. refl))
list_met_means f respects (t ∷ ts) (u ∷ us) =
    means_same f (joined (met t u) (list_met ts us)) (λ h. let p = h.0 in let q = h.1 in cc) (λ h. (head_of h, tail_of h))
    (joined_means f (met t u) (list_met ts us) _ _ (met_means f respects t u) (list_met_means f respects ts us))
list_met_means f respects [] (u ∷ us) = λ h. absurd (cc)
list_met_means f respects (t ∷ ts) [] = λ h. absurd (cc)

-- bindings that mean the same as the lists are a matching, once each variable has one tree
pub bindings_match : (ps ts : List (Tree Variable)) (bs : List Binding) → AllTake (λ v. Among v (variables_in ps)) bs
    → AllBecome (image_at_once bs) bs → (Respects (image_at_once bs) → AllBecome (image_at_once bs) bs → substituted_all (image_at_once bs) ps ≡ ts) → IsMatching ps ts (image_at_once bs)
bindings_match ps ts bs take all is =
    let r = once_respects (λ v. Among v (variables_in ps)) bs take in
    record { respects = r; is = is r all; others = λ v e. once_others (λ w. Among w (variables_in ps)) bs take v (λ m. let q = among_passes m in absurd (cc)) }

some_matching : (ps ts : List (Tree Variable)) (bs cs : List Binding) → list_met ps ts ≡ Some cs → (c : Bool) → consistent cs ≡ c → (if c then Some cs else None) ≡ Some bs → IsMatching ps ts (image_at_once bs)
some_matching ps ts bs cs e true k q =
    let P : Variable → Type 0 = λ v. Among v (variables_in ps) in
    let back : Option (List Binding) → List Binding = elim [ None ↦ cs | Some x ↦ x ] in
    subst (λ x. IsMatching ps ts (image_at_once x)) (ap back q)
    (bindings_match ps ts cs (subst (TakeIfAny P) e (list_met_takes P ps ts (λ v m. m))) (consistent_become cs k)
    (λ r all. (subst (λ o. MeansFor (image_at_once cs) o (substituted_all (image_at_once cs) ps ≡ ts)) e (list_met_means (image_at_once cs) r ps ts)).1 all))
some_matching ps ts bs cs e false k q = absurd (cc)

pub matched_is : (ps ts : List (Tree Variable)) (bs : List Binding) → matched ps ts ≡ Some bs → IsMatching ps ts (image_at_once bs)
unfolding matched
matched_is ps ts bs q = go (list_met ps ts) refl q
  where
    go : (o : Option (List Binding)) → list_met ps ts ≡ o → if_consistent o ≡ Some bs → IsMatching ps ts (image_at_once bs)
    go None e q = absurd (cc)
    go (Some cs) e q = some_matching ps ts bs cs e (consistent cs) refl q

is_consistent : (f : Variable → Tree Variable) → Respects f → (ps ts : List (Tree Variable)) → substituted_all f ps ≡ ts → (o : Option (List Binding)) → list_met ps ts ≡ o → if_consistent o ≡ None → ⊥
is_consistent f r ps ts is None e q = subst (λ o. MeansFor f o (substituted_all f ps ≡ ts)) e (list_met_means f r ps ts) is
is_consistent f r ps ts is (Some bs) e q =
    let m = subst (λ o. MeansFor f o (substituted_all f ps ≡ ts)) e (list_met_means f r ps ts) in
    let k = become_consistent f bs (m.0 is) in
    absurd (cc)

pub none_matched : (ps ts : List (Tree Variable)) → (matched ps ts ≡ None) ↔ HasNoMatching ps ts
unfolding matched
none_matched ps ts = ((λ q f r is. is_consistent f r ps ts is (list_met ps ts) refl q), λ none. go none (matched ps ts) refl)
  where
    go : HasNoMatching ps ts → (o : Option (List Binding)) → matched ps ts ≡ o → o ≡ None
    go none None e = refl
    go none (Some bs) e = let i = matched_is ps ts bs e in absurd (none (image_at_once bs) i.respects i.is)

-- ---- one matching at most
alike : (f g : Variable → Tree Variable) (t : Tree Variable) → substituted f t ≡ substituted g t → (v : Variable) → Among v (variables t) → f v ≡ g v
alike f g t e v m =
    same_under_marks (f v) (g v)
    (each_alike (λ w. value_by mark (f w)) (λ w. value_by mark (g w)) t (sym (value_substituted mark f t) ∙ ap (value_by mark) e ∙ value_substituted mark g t) v m)

all_alike : (f g : Variable → Tree Variable) (ts : List (Tree Variable)) → substituted_all f ts ≡ substituted_all g ts → (v : Variable) → Among v (variables_in ts) → f v ≡ g v
all_alike f g [] e v m = elim m [ ]
all_alike f g (t ∷ ts) e v m =
    elim (among_either v (variables t) (variables_in ts) m) [
      | inl k ↦ alike f g t (head_of e) v k
      | inr k ↦ all_alike f g ts (tail_of e) v k
    ]

pub one_matching : (ps ts : List (Tree Variable)) (f g : Variable → Tree Variable) → IsMatching ps ts f → IsMatching ps ts g → (v : Variable) → f v ≡ g v
one_matching ps ts f g i j v = go (list_any (same_variable v) (variables_in ps)) refl
  where
    go : (b : Bool) → list_any (same_variable v) (variables_in ps) ≡ b → f v ≡ g v
    go true e = all_alike f g ps (i.is ∙ sym j.is) v (among_test v (variables_in ps) e)
    go false e = i.others v e ∙ sym (j.others v e)
