-- What the bindings say that a pattern meets in a target.
use Rattle.std.proofs.Common.{◌≡◌, ℕ, List, [], ◌∷◌, ◌++◌, refl, sym, ap, ◌∙◌, Bool, true, false, Option, Some, None}
use Rattle.std.specs.Prelude.{if◌then◌else◌}
use Rattle.std.specs.Str.{bytes_eq}
use Rattle.std.proofs.lemmas.Slice.Eq.{bytes_eq-Decides}
use Rattle.clp_model.specs.declared.tree.Variable.{Variable}
use Rattle.clp_model.specs.declared.tree.Tree.{Tree, Var, App, App', Row_of-Tree, end_of-Tree, more_of-Tree, items-the_row-Tree}
use Rattle.clp_model.proofs.Trees.{out_app, app_injective}
use Rattle.unify_model.specs.Substituting.{substituted, substituted_row, Binding}
use Rattle.unify_model.specs.Unifying.{joined}
use Rattle.unify_model.specs.Matching.{takes, met, row_met, Respects}

abbrev pub AllBecome : (Variable → Tree Variable) → List Binding → Type 0
AllBecome f [] = Unit {0}
AllBecome f (b ∷ bs) = (f b.0 ≡ b.1) × AllBecome f bs

abbrev pub MeansFor : (Variable → Tree Variable) → Option (List Binding) → Type 0 → Type 0
MeansFor f None P = P → ⊥
MeansFor f (Some bs) P = (P → AllBecome f bs) × (AllBecome f bs → P)

pub means_same : (f : Variable → Tree Variable) (o : Option (List Binding)) {P Q : Type 0} → (P → Q) → (Q → P) → MeansFor f o P → MeansFor f o Q
means_same f None to from m = λ q. m (from q)
means_same f (Some bs) to from m = ((λ q. m.0 (from q)), (λ all. to (m.1 all)))

pub become_both : (f : Variable → Tree Variable) (bs cs : List Binding) → AllBecome f bs → AllBecome f cs → AllBecome f (bs ++ cs)
become_both f [] cs h k = k
become_both f (b ∷ bs) cs h k = (h.0, become_both f bs cs h.1 k)

pub become_parts : (f : Variable → Tree Variable) (bs cs : List Binding) → AllBecome f (bs ++ cs) → AllBecome f bs × AllBecome f cs
become_parts f [] cs h = (tt, h)
become_parts f (b ∷ bs) cs h = let p = become_parts f bs cs h.1 in ((h.0, p.0), p.1)

pub joined_means : (f : Variable → Tree Variable) (o o' : Option (List Binding)) (P Q : Type 0) → MeansFor f o P → MeansFor f o' Q → MeansFor f (joined o o') (P × Q)
joined_means f None o' P Q m n = λ h. m h.0
joined_means f (Some bs) None P Q m n = λ h. n h.1
joined_means f (Some bs) (Some cs) P Q m n =
    ((λ h. become_both f bs cs (m.0 h.0) (n.0 h.1)), (λ all. let p = become_parts f bs cs all in (m.1 p.0, n.1 p.1)))

pub head_of : {t u : Tree Variable} {ts us : List (Tree Variable)} → t ∷ ts ≡ u ∷ us → t ≡ u
head_of {t} e = let back : List (Tree Variable) → Tree Variable = elim [ [] ↦ t | x ∷ xs ↦ x ] in ap back e

pub tail_of : {t u : Tree Variable} {ts us : List (Tree Variable)} → t ∷ ts ≡ u ∷ us → ts ≡ us
tail_of {t} e = let back : List (Tree Variable) → List (Tree Variable) = elim [ [] ↦ [] | x ∷ xs ↦ xs ] in ap back e

module _ (f : Variable → Tree Variable) (respects : Respects f) where
  variable_means : (v : Variable) (u : Tree Variable) (b : Bool) → takes v.sort u ≡ b → MeansFor f (if b then Some ((v, u) ∷ []) else None) (f v ≡ u)
  variable_means v u true e = ((λ h. (h, tt)), (λ all. all.0))
  variable_means v u false e = λ h. let a = respects v in let b : takes v.sort (f v) ≡ takes v.sort u = ap (takes v.sort) h in absurd (cc)

  named_means : (name other : List ℕ) (ts us : List (Tree Variable)) (b : Bool) → bytes_eq name other ≡ b → (o : Option (List Binding)) → MeansFor f o (ts ≡ us) → MeansFor f (if b then o else None) (App name ts ≡ App other us)
  named_means name other ts us true e o m =
      means_same f o (λ h. ap (App name) h ∙ ap (λ n. App n us) ((bytes_eq-Decides name other).0 e)) (λ h. (app_injective name other ts us h).1) m
  named_means name other ts us false e o m = λ h. let k = (bytes_eq-Decides name other).1 (app_injective name other ts us h).0 in absurd (cc)

  mutual
    unfolding met substituted

    -- a substitution that respects sorts makes the target of the pattern exactly where each variable becomes what it met
    pub met_means : (t u : Tree Variable) → MeansFor f (met t u) (substituted f t ≡ u)
    met_means (Var v) u = variable_means v u (takes v.sort u) refl
    met_means (App' name shape ts) (App' other shape' us) =
        means_same f (if bytes_eq name other then row_met ts us else None)
        (λ h. sym (out_app name shape (substituted_row f ts)) ∙ h ∙ out_app other shape' us)
        (λ h. out_app name shape (substituted_row f ts) ∙ h ∙ sym (out_app other shape' us))
        (named_means name other (items-the_row-Tree Variable _ (substituted_row f ts)) (items-the_row-Tree Variable _ us) (bytes_eq name other) refl (row_met ts us) (row_met_means ts us))
    met_means (App' name shape ts) (Var w) = λ h. absurd (cc)

    row_met_means : {m n : _} (ts : Row_of-Tree Variable m) (us : Row_of-Tree Variable n) → MeansFor f (row_met ts us) (items-the_row-Tree Variable _ (substituted_row f ts) ≡ items-the_row-Tree Variable _ us)
    row_met_means end_of-Tree end_of-Tree = ((λ h. tt), (λ all. refl))
    row_met_means (more_of-Tree t ts) (more_of-Tree u us) =
        means_same f (joined (met t u) (row_met ts us)) (λ h. let p = h.0 in let q = h.1 in cc) (λ h. (head_of h, tail_of h))
        (joined_means f (met t u) (row_met ts us) _ _ (met_means t u) (row_met_means ts us))
    row_met_means end_of-Tree (more_of-Tree u us) = λ h. absurd (cc)
    row_met_means (more_of-Tree t ts) end_of-Tree = λ h. absurd (cc)
