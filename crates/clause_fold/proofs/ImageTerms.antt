-- What the variables of a definition become, in a store that keeps their terms.
use Rattle.std.proofs.Common.{◌≡◌, ℕ, zero, suc, ◌<◌, ◌≤◌, List, [], ◌∷◌, length, ap, ◌∙◌, sym, subst, arith, All}
use Rattle.clp_model.specs.declared.sort.Sort.{Sort}
use Rattle.clp_model.specs.declared.tree.Variable.{Variable}
use Rattle.clp_model.specs.declared.tree.Tree.{Tree}
use Rattle.clp_model.specs.Trees.{mapped, variables, variables_in}
use Rattle.clp_model.proofs.Membership.{Among, among_mapped}
use Rattle.clp_model.proofs.RenamedTrees.{variables_mapped}
use Rattle.lin_row.specs.Rows.{at}
use Rattle.unify_model.specs.Substituting.{substituted}
use Rattle.unify_laws.proofs.Substituted.{substituted_agrees}
use Rattle.term_store.specs.Trees.{tree_at, AreIn, Keeps}
use Rattle.term_store.proofs.Keeping.{keeps_at, keeps_all, keeps_in}
use Rattle.clause_laws.proofs.Rows.{all_each}
use Rattle.clause_store.specs.Stored.{number_of, HasSort}
use Rattle.clause_loader.specs.WellFormed.{IsNumber}
use Rattle.clause_fold.specs.Images.{image_of, AreImages, Become}

-- the term of what a variable becomes is one of the store
pub image_in_store : (store : List (Tree Variable)) (terms : List ℕ) (x : ℕ) → AreIn store terms → IsNumber (length terms) x → at terms x < length store
image_in_store store terms zero h w = absurd (let p = w.0 in omega (arith, p))
image_in_store store [] (suc i) h w = absurd (let p = w.1 in omega (arith, p))
image_in_store store (t ∷ terms) (suc zero) h w = h.0
image_in_store store (t ∷ terms) (suc (suc i)) h w = image_in_store store terms (suc i) h.1 (omega arith, let p = w.1 in omega (arith, p))

module _ (old new : List (Tree Variable)) (keeps : Keeps old new) (terms : List ℕ) where
  pub are_images_kept : (total : ℕ) (sorts : List Sort) → AreImages old terms total sorts → AreImages new terms total sorts
  are_images_kept total sorts h =
      let P : List (Tree Variable) → Type 0 = λ ts. All (HasSort sorts) (variables_in ts) in
      record {
        within = keeps_in old new keeps terms h.within;
        count = h.count;
        sorted = subst P (sym (keeps_all old new keeps terms h.within)) h.sorted;
      }

  pub become_kept : (s : ℕ → Tree ℕ) → AreIn old terms → Become old terms s → Become new terms s
  become_kept s h b = record { each = λ x w. ap (mapped number_of) (keeps_at old new keeps (at terms x) (image_in_store old terms x h w)) ∙ b.each x w }

-- ---- trees with the images in them
-- a variable of a tree whose variables are numbered
pub numbered_variable : (k : ℕ) (t : Tree Variable) → All (IsNumber k) (variables (mapped number_of t)) → (v : Variable) → Among v (variables t) → IsNumber k v.number
numbered_variable k t h v m =
    all_each (IsNumber k) (variables (mapped number_of t)) h v.number (subst (λ (ns : List ℕ). Among v.number ns) (sym (variables_mapped number_of t)) (among_mapped number_of m))

pub same_with_images : (old new : List (Tree Variable)) (keeps : Keeps old new) (terms : List ℕ) (t : Tree Variable) → AreIn old terms → All (IsNumber (length terms)) (variables (mapped number_of t))
    → substituted (image_of new terms) t ≡ substituted (image_of old terms) t
same_with_images old new keeps terms t h k =
    substituted_agrees (image_of new terms) (image_of old terms) t
    (λ v m. keeps_at old new keeps (at terms v.number) (image_in_store old terms v.number h (numbered_variable (length terms) t k v m)))
