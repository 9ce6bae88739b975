-- What is found while patterns meet targets.
use Rattle.std.proofs.Common.{◌≡◌, ◌↔◌, ℕ, zero, suc, ◌+◌, ◌<◌, ◌≤◌, List, [], ◌∷◌, ◌++◌, length, get_or, refl, sym, ap, ◌∙◌, subst, arith, Bool, true, false, Some}
use Rattle.std.specs.Prelude.{if◌then◌else◌, slice_get, IsTrue, nat_lt}
use Rattle.std.specs.List.{list_any}
use Rattle.std.proofs.lemmas.Grind.{get_or_default_zero}
use Rattle.clp_model.specs.declared.tree.Variable.{Variable}
use Rattle.clp_model.specs.declared.tree.Tree.{Tree, Var, App}
use Rattle.clp_model.specs.Trees.{variables, variables_in, IsApplication}
use Rattle.clp_model.proofs.Trees.{app_injective, application_app, not_application_var}
use Rattle.clp_model.proofs.Membership.{Among, first, among_front, among_back}
use Rattle.term_store.specs.Trees.{tree_at, trees_at}
use Rattle.unify_model.specs.Substituting.{substituted, substituted_all, same_variable, Binding}
use Rattle.unify_model.specs.Matching.{takes, image_at_once, IsMatching}
use Rattle.unify_laws.proofs.Variables.{differs, among_passes}
use Rattle.unify_laws.proofs.Matched.{AllBecome, head_of, tail_of}
use Rattle.unify_laws.proofs.Matchings.{AllTake, once_first, once_other, once_respects, once_others}
use Rattle.substitution.specs.declared.bindings.Bound.{Bound}
use Rattle.substitution.specs.Bindings.{variable_of, binding, bound, bound_onto, AreBound, bound_variables, height_of}
use Rattle.substitution.specs.Found.{Claim, AreFound, IsMet, NeverMet, MetIf, EachIs}
use Rattle.substitution.proofs.Carried.{firsts, variables_are, first_at, splits, its_height}
use Rattle.substitution.proofs.Weighed.{sub_app}

-- ---- what a substitution that gives the bindings makes of a variable
become_in : (f : Variable → Tree Variable) (pre : List Binding) (b : Binding) (rest : List Binding) → AllBecome f (pre ++ b ∷ rest) → f b.0 ≡ b.1
become_in f [] b rest h = h.0
become_in f (x ∷ pre) b rest h = become_in f pre b rest h.1

become_at : (store : List (Tree Variable)) (items : List Bound) (place : ℕ) (b : Bound) (at : slice_get items place ≡ Some b) (v : Variable) → height_of (bound_variables items) v ≡ suc place
    → (f : Variable → Tree Variable) → AllBecome f (bound store items) → f v ≡ tree_at store b.term
become_at store items place b at v h f all =
    let s = splits store items place b at in
    let q = (first_at s.pre (binding store b) s.rest v (its_height store items place b at v h)).0 in
    let P : List Binding → Type 0 = AllBecome f in
    ap f (sym q) ∙ become_in f s.pre (binding store b) s.rest (subst P s.is all)

-- a variable that was found already
pub met_again : (store : List (Tree Variable)) (items : List Bound) (place : ℕ) (b : Bound) → slice_get items place ≡ Some b → (v : Variable) → height_of (bound_variables items) v ≡ suc place → AreFound store items
    → (target : Tree Variable) (same : Bool) → (IsTrue same ↔ (tree_at store b.term ≡ target)) → MetIf same store (v ∷ []) items items (λ f. f v ≡ target)
met_again store items place b at v h found target true decides =
    record { found = found; takes = λ p each k. k; all = λ f r a. (a, become_at store items place b at v h f a ∙ decides.0 refl); only = λ f r a k. a }
met_again store items place b at v h found target false decides =
    λ f r a k. (let q = decides.1 (sym (become_at store items place b at v h f a) ∙ k) in absurd (cc))

-- a variable that may not become the target
pub never_takes : (store : List (Tree Variable)) (items : List Bound) (v : Variable) (target : Tree Variable) → takes v.sort target ≡ false → NeverMet store items (λ f. f v ≡ target)
never_takes store items v target h f r a k = let q = r v in let e : takes v.sort (f v) ≡ takes v.sort target = ap (takes v.sort) k in absurd (cc)

-- ---- a variable that is found
onto_push : (store : List (Tree Variable)) (acc : List Binding) (items : List Bound) (b : Bound) → bound_onto store acc (items ++ b ∷ []) ≡ binding store b ∷ bound_onto store acc items
onto_push store acc [] b = refl
onto_push store acc (x ∷ xs) b = onto_push store (binding store x ∷ acc) xs b

pub bound_push : (store : List (Tree Variable)) (items : List Bound) (b : Bound) → bound store (items ++ b ∷ []) ≡ binding store b ∷ bound store items
bound_push store items b = onto_push store [] items b

pub are_bound_push : (store : List (Tree Variable)) (items : List Bound) (b : Bound) → AreBound store items → b.term < length store → AreBound store (items ++ b ∷ [])
are_bound_push store [] b h k = (k, tt)
are_bound_push store (x ∷ xs) b h k = (h.0, are_bound_push store xs b h.1 k)

still_become : (b : Binding) (bs cs : List Binding) → height_of (firsts cs) b.0 ≡ 0 → AllBecome (image_at_once bs) cs → AllBecome (image_at_once (b ∷ bs)) cs
still_become b bs [] h all = tt
still_become b bs (c ∷ cs) h all = go (same_variable c.0 b.0) refl h (λ k. still_become b bs cs k all.1)
  where
    go : (x : Bool) → same_variable c.0 b.0 ≡ x → (if x then suc (length (firsts cs)) else height_of (firsts cs) b.0) ≡ 0 → (height_of (firsts cs) b.0 ≡ 0 → AllBecome (image_at_once (b ∷ bs)) cs) → AllBecome (image_at_once (b ∷ bs)) (c ∷ cs)
    go true e k rest = absurd (omega (arith, k))
    go false e k rest = (once_other b bs c.0 (λ q. differs c.0 b.0 e (sym q)) ∙ all.0, rest k)

pub met_first : (store : List (Tree Variable)) (old new : List Bound) (b : Bound) → new ≡ old ++ b ∷ [] → height_of (bound_variables old) (variable_of b.number b.sort) ≡ 0 → AreFound store old → b.term < length store
    → takes b.sort (tree_at store b.term) ≡ true → IsMet store (variable_of b.number b.sort ∷ []) old new (λ f. f (variable_of b.number b.sort) ≡ tree_at store b.term)
met_first store old new b is h found within takes_it =
    let P : List Bound → Type 0 = λ xs. IsMet store (variable_of b.number b.sort ∷ []) old xs (λ f. f (variable_of b.number b.sort) ≡ tree_at store b.term) in
    let bs = bound store old in
    let e = bound_push store old b in
    let zero_height : height_of (firsts bs) (variable_of b.number b.sort) ≡ 0 = ap (λ vs. height_of vs (variable_of b.number b.sort)) (sym (variables_are store old)) ∙ h in
    let Q : List Binding → Type 0 = λ cs. AllBecome (image_at_once cs) cs in
    subst P (sym is) (record {
      found = record { terms = are_bound_push store old b found.terms within; once = subst Q (sym e) (once_first (binding store b) bs, still_become (binding store b) bs bs zero_height found.once) };
      takes = λ p each k. (let T : List Binding → Type 0 = AllTake (λ v. p v ≡ true) in subst T (sym e) ((each (variable_of b.number b.sort) first, takes_it), k));
      all = λ f r a. (let T : List Binding → Type 0 = AllBecome f in let k = subst T e a in (k.1, k.0));
      only = λ f r a k. (let T : List Binding → Type 0 = AllBecome f in subst T (sym e) (k, a));
    })

-- ---- the same claim in other words, and one claim after another
module _ (store : List (Tree Variable)) (old new : List Bound) (vs ws : List Variable) (C D : Claim) (e : vs ≡ ws) (to : (f : Variable → Tree Variable) → C f → D f) (from : (f : Variable → Tree Variable) → D f → C f) where
  pub met_as : IsMet store vs old new C → IsMet store ws old new D
  met_as m =
      let P : List Variable → Type 0 = λ us. IsMet store us old new D in
      subst P e (record { found = m.found; takes = m.takes; all = λ f r a. (let k = m.all f r a in (k.0, to f k.1)); only = λ f r a k. m.only f r a (from f k) })

  pub met_if_as : (met : Bool) → MetIf met store vs old new C → MetIf met store ws old new D
  met_if_as true m = met_as m
  met_if_as false never = λ f r a k. never f r a (from f k)

met_both : (store : List (Tree Variable)) (old mid new : List Bound) (vs ws : List Variable) (C D : Claim) → ((v : Variable) → Among v ws → Among v vs) → IsMet store vs old mid C → IsMet store ws mid new D → IsMet store vs old new (λ f. C f × D f)
met_both store old mid new vs ws C D sub m n = record {
  found = n.found;
  takes = λ p each k. n.takes p (λ v a. each v (sub v a)) (m.takes p each k);
  all = λ f r a. (let q = n.all f r a in let s = m.all f r q.0 in (s.0, (s.1, q.1)));
  only = λ f r a k. n.only f r (m.only f r a k.0) k.1;
}

module _ (store : List (Tree Variable)) (vs : List Variable) (old new : List Bound) (claim : Claim) where
  pub is_met : (met : Bool) → met ≡ true → MetIf met store vs old new claim → IsMet store vs old new claim
  is_met true e m = m
  is_met false e m = absurd (cc)

  pub never_met : (met : Bool) → met ≡ false → MetIf met store vs old new claim → NeverMet store old claim
  never_met true e m = absurd (cc)
  never_met false e m = m

pub not_both : (b : Bool) → b ≡ true → b ≡ false → ⊥
not_both true e h = absurd (cc)
not_both false e h = absurd (cc)

-- ---- an application and its arguments
module _ (f : Variable → Tree Variable) (pattern target : Tree Variable) (name other : List ℕ) (ps ts : List (Tree Variable)) (is : pattern ≡ App name ps) (target_is : target ≡ App other ts) where
  pub to_application : name ≡ other → substituted_all f ps ≡ ts → substituted f pattern ≡ target
  to_application e h = sub_app f pattern name ps is ∙ ap (App name) h ∙ ap (λ n. App n ts) e ∙ sym target_is

  parts : substituted f pattern ≡ target → (name ≡ other) × (substituted_all f ps ≡ ts)
  parts h = app_injective name other (substituted_all f ps) ts (sym (sub_app f pattern name ps is) ∙ h ∙ target_is)

  pub to_arguments : substituted f pattern ≡ target → substituted_all f ps ≡ ts
  to_arguments h = (parts h).1

  pub same_names : substituted f pattern ≡ target → name ≡ other
  same_names h = (parts h).0

pub no_variable : (f : Variable → Tree Variable) (pattern target : Tree Variable) (name : List ℕ) (ps : List (Tree Variable)) (v : Variable) → pattern ≡ App name ps → target ≡ Var v → substituted f pattern ≡ target → ⊥
no_variable f pattern target name ps v is target_is h =
    let e : App name (substituted_all f ps) ≡ Var v = sym (sub_app f pattern name ps is) ∙ h ∙ target_is in
    not_application_var v (subst IsApplication e (application_app name (substituted_all f ps)))

-- ---- lists of terms
sub_count : (f : Variable → Tree Variable) (store : List (Tree Variable)) (ps : List ℕ) → length (substituted_all f (trees_at store ps)) ≡ length ps
sub_count f store [] = refl
sub_count f store (p ∷ ps) = ap suc (sub_count f store ps)

trees_count : (store : List (Tree Variable)) (ts : List ℕ) → length (trees_at store ts) ≡ length ts
trees_count store [] = refl
trees_count store (t ∷ ts) = ap suc (trees_count store ts)

pub same_counts : (f : Variable → Tree Variable) (store : List (Tree Variable)) (ps ts : List ℕ) → substituted_all f (trees_at store ps) ≡ trees_at store ts → length ps ≡ length ts
same_counts f store ps ts h = sym (sub_count f store ps) ∙ ap length h ∙ trees_count store ts

pub to_all : (f : Variable → Tree Variable) (store : List (Tree Variable)) (ps ts : List ℕ) (n : ℕ) → n ≡ length ps → length ps ≡ length ts → EachIs store ps ts n f → substituted_all f (trees_at store ps) ≡ trees_at store ts
to_all f store [] [] n e c h = refl
to_all f store [] (t ∷ ts) n e c h = absurd (omega (arith, c))
to_all f store (p ∷ ps) [] n e c h = absurd (omega (arith, c))
to_all f store (p ∷ ps) (t ∷ ts) n e c h =
    let a : substituted f (tree_at store p) ≡ tree_at store t = h 0 (omega (arith, e)) in
    let b = to_all f store ps ts (length ps) refl (omega (arith, c)) (λ k lt. h (suc k) (omega (arith, e, lt))) in
    cc

pub from_all : (f : Variable → Tree Variable) (store : List (Tree Variable)) (ps ts : List ℕ) (n : ℕ) → n ≤ length ps → substituted_all f (trees_at store ps) ≡ trees_at store ts → EachIs store ps ts n f
from_all f store [] ts n e h k lt = absurd (omega (arith, e, lt))
from_all f store (p ∷ ps) [] n e h k lt = absurd (cc)
from_all f store (p ∷ ps) (t ∷ ts) n e h zero lt = head_of h
from_all f store (p ∷ ps) (t ∷ ts) n e h (suc k) lt = from_all f store ps ts (length ps) (omega arith) (tail_of h) k (omega (arith, e, lt))

item_among : (store : List (Tree Variable)) (ps : List ℕ) (i p : ℕ) → i < length ps → p ≡ get_or ps i p → (v : Variable) → Among v (variables (tree_at store p)) → Among v (variables_in (trees_at store ps))
item_among store [] i p lt e v m = absurd (omega (arith, lt))
item_among store (x ∷ xs) zero p lt e v m = among_front v (variables (tree_at store x)) (variables_in (trees_at store xs)) (subst (λ y. Among v (variables (tree_at store y))) e m)
item_among store (x ∷ xs) (suc i) p lt e v m = among_back v (variables (tree_at store x)) (variables_in (trees_at store xs)) (item_among store xs i p (omega (arith, lt)) e v m)

-- one more pattern
module _ (store : List (Tree Variable)) (ps ts : List ℕ) (i p t : ℕ) (lt : i < length ps) (count : length ps ≡ length ts) (p_is : p ≡ get_or ps i p) (t_is : t ≡ get_or ts i t) where
  p_at : get_or ps i 0 ≡ p
  p_at = sym (get_or_default_zero ps i p lt) ∙ sym p_is

  t_at : get_or ts i 0 ≡ t
  t_at = sym (get_or_default_zero ts i t (omega (arith, lt, count))) ∙ sym t_is

  one_is : (f : Variable → Tree Variable) → EachIs store ps ts i f → substituted f (tree_at store p) ≡ tree_at store t → EachIs store ps ts (i + 1) f
  one_is f each h k low = go (nat_lt k i) refl
    where
      P : ℕ → Type 0
      P j = substituted f (tree_at store (get_or ps j 0)) ≡ tree_at store (get_or ts j 0)

      go : (b : Bool) → nat_lt k i ≡ b → P k
      go true e = let l : k < i = grind arith in each k l
      go false e =
          let l : i ≤ k = grind arith in
          let q : i ≡ k = omega (arith, l, low) in
          subst P q (ap (λ j. substituted f (tree_at store j)) p_at ∙ h ∙ ap (tree_at store) (sym t_at))

  pub last_is : (f : Variable → Tree Variable) → EachIs store ps ts (i + 1) f → substituted f (tree_at store p) ≡ tree_at store t
  last_is f each = ap (λ j. substituted f (tree_at store j)) (sym p_at) ∙ each i (omega arith) ∙ ap (tree_at store) t_at

  pub met_more : (old mid new : List Bound) → IsMet store (variables_in (trees_at store ps)) old mid (EachIs store ps ts i) → IsMet store (variables (tree_at store p)) mid new (λ f. substituted f (tree_at store p) ≡ tree_at store t)
      → IsMet store (variables_in (trees_at store ps)) old new (EachIs store ps ts (i + 1))
  met_more old mid new m n =
      met_as store old new (variables_in (trees_at store ps)) (variables_in (trees_at store ps)) (λ f. EachIs store ps ts i f × (substituted f (tree_at store p) ≡ tree_at store t)) (EachIs store ps ts (i + 1)) refl
      (λ f k. one_is f k.0 k.1) (λ f k. ((λ j low. k j (omega (arith, low))), last_is f k))
      (met_both store old mid new (variables_in (trees_at store ps)) (variables (tree_at store p)) (EachIs store ps ts i) (λ f. substituted f (tree_at store p) ≡ tree_at store t) (item_among store ps i p lt p_is) m n)

  pub never_more : (old mid : List Bound) → IsMet store (variables_in (trees_at store ps)) old mid (EachIs store ps ts i) → NeverMet store mid (λ f. substituted f (tree_at store p) ≡ tree_at store t)
      → NeverMet store old (λ f. substituted_all f (trees_at store ps) ≡ trees_at store ts)
  never_more old mid m never f r a h =
      let each = from_all f store ps ts (i + 1) (omega (arith, lt)) h in
      never f r (m.only f r a (λ j low. each j (omega (arith, low)))) (last_is f each)

-- ---- the whole
pub matching_found : (store : List (Tree Variable)) (ps ts : List (Tree Variable)) (items : List Bound) → IsMet store (variables_in ps) [] items (λ f. substituted_all f ps ≡ ts) → IsMatching ps ts (image_at_once (bound store items))
matching_found store ps ts items m =
    let p : Variable → Bool = λ v. list_any (same_variable v) (variables_in ps) in
    let bs = bound store items in
    let take = m.takes p (λ v a. among_passes a) tt in
    let r = once_respects (λ v. p v ≡ true) bs take in
    record { respects = r; is = (m.all (image_at_once bs) r m.found.once).1; others = λ v e. once_others (λ w. p w ≡ true) bs take v (λ k. absurd (cc)) }

pub matching_as : (ps ts : List (Tree Variable)) (f g : Variable → Tree Variable) → ((v : Variable) → g v ≡ f v) → IsMatching ps ts f → IsMatching ps ts g
matching_as ps ts f g h m = let e : f ≡ g = λ j v. sym (h v) j in let P : (Variable → Tree Variable) → Type 0 = IsMatching ps ts in subst P e m
