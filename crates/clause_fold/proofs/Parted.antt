-- The parts of a clause that stay.
use Rattle.std.proofs.Common.{◌≡◌, ℕ, suc, ◌<◌, List, [], ◌∷◌, ◌++◌, length, map, refl, ap, ◌∙◌, sym, subst, Bool, true, false, All, ◌⊎◌, inl, inr}
use Rattle.std.specs.Prelude.{if◌then◌else◌}
use Rattle.clp_model.specs.declared.tree.Variable.{Variable}
use Rattle.clp_model.specs.declared.tree.Tree.{Tree}
use Rattle.clp_model.specs.Trees.{mapped, mapped_all, variables, variables_in}
use Rattle.clp_model.specs.Clauses.{Row}
use Rattle.clp_model.proofs.Membership.{Among, first, next, among_front, among_back, among_either}
use Rattle.unify_laws.proofs.Solved.{among_cases}
use Rattle.term_store.specs.Trees.{tree_at, trees_at, AreIn}
use Rattle.clause_model.specs.Variables.{row_variables, rows_variables}
use Rattle.clause_laws.proofs.Rows.{all_each, each_all, among_rows}
use Rattle.clause_store.specs.declared.clause.Clause.{Clause}
use Rattle.clause_store.specs.Stored.{number_of, atoms_at, IsStored}
use Rattle.clause_store.proofs.RowForms.{from_rows}
use Rattle.clause_loader.specs.WellFormed.{IsNumber}
use Rattle.fold_model.specs.Positions.{is_in, chosen_from, others_from, replaced_from, chosen, others}
use Rattle.clause_fold.specs.Marks.{Adds, Are}
use Rattle.clause_fold.proofs.Marked.{adds_as, marks_are}
use Rattle.clause_fold.proofs.StoredParts.{atoms_in, atoms_numbered, rows_numbered, numbered_as}
use Rattle.clause_fold.proofs.ChosenTerms.{in_each, each_in}

-- ---- elements of the parts
pub others_out : {A : Type 0} (k : ℕ) (ps : List ℕ) (xs : List A) (x : A) → Among x (others_from k ps xs) → Among x xs
others_out k ps [] x m = elim m [ ]
others_out {A} k ps (y ∷ xs) x m = by (is_in ps k) (others_out (suc k) ps xs x) m
  where
    by : (b : Bool) → (Among x (others_from (suc k) ps xs) → Among x xs) → Among x (if b then others_from (suc k) ps xs else y ∷ others_from (suc k) ps xs) → Among x (y ∷ xs)
    by true f a = next (f a)
    by false f a = among_cases a (λ q. subst (λ (z : A). Among x (z ∷ xs)) q first) (λ r. next (f r))

pub chosen_out : {A : Type 0} (k : ℕ) (ps : List ℕ) (xs : List A) (x : A) → Among x (chosen_from k ps xs) → Among x xs
chosen_out k ps [] x m = elim m [ ]
chosen_out {A} k ps (y ∷ xs) x m = by (is_in ps k) (chosen_out (suc k) ps xs x) m
  where
    by : (b : Bool) → (Among x (chosen_from (suc k) ps xs) → Among x xs) → Among x (if b then y ∷ chosen_from (suc k) ps xs else chosen_from (suc k) ps xs) → Among x (y ∷ xs)
    by true f a = among_cases a (λ q. subst (λ (z : A). Among x (z ∷ xs)) q first) (λ r. next (f r))
    by false f a = next (f a)

pub replaced_out : {A : Type 0} (a : A) (k : ℕ) (ps : List ℕ) (xs : List A) (x : A) → Among x (replaced_from a k ps xs) → (x ≡ a) ⊎ Among x xs
replaced_out a k ps [] x m = elim m [ ]
replaced_out {A} a k ps (y ∷ xs) x m = by (is_in ps k) (others_out (suc k) ps xs x) (replaced_out a (suc k) ps xs x) m
  where
    by : (b : Bool) → (Among x (others_from (suc k) ps xs) → Among x xs) → (Among x (replaced_from a (suc k) ps xs) → (x ≡ a) ⊎ Among x xs)
        → Among x (if b then a ∷ others_from (suc k) ps xs else y ∷ replaced_from a (suc k) ps xs) → (x ≡ a) ⊎ Among x (y ∷ xs)
    by true f g m = among_cases m (λ q. inl q) (λ r. inr (next (f r)))
    by false f g m = among_cases m (λ q. inr (subst (λ (z : A). Among x (z ∷ xs)) q first)) (λ r. elim (g r) [ inl e ↦ inl e | inr d ↦ inr (next d) ])

-- ---- the parts of what is made of each
pub others_mapped : {V W : Type 0} (g : V → W) (k : ℕ) (ps : List ℕ) (ts : List (Tree V)) → mapped_all g (others_from k ps ts) ≡ others_from k ps (mapped_all g ts)
others_mapped g k ps [] = refl
others_mapped {V} {W} g k ps (t ∷ ts) = by (is_in ps k) (others_mapped g (suc k) ps ts)
  where
    by : (b : Bool) → mapped_all g (others_from (suc k) ps ts) ≡ others_from (suc k) ps (mapped_all g ts)
        → mapped_all g (if b then others_from (suc k) ps ts else t ∷ others_from (suc k) ps ts) ≡ (if b then others_from (suc k) ps (mapped_all g ts) else mapped g t ∷ others_from (suc k) ps (mapped_all g ts))
    by true e = e
    by false e = ap (λ (v : List (Tree W)). mapped g t ∷ v) e

pub replaced_mapped : {V W : Type 0} (g : V → W) (a : Tree V) (k : ℕ) (ps : List ℕ) (ts : List (Tree V)) → mapped_all g (replaced_from a k ps ts) ≡ replaced_from (mapped g a) k ps (mapped_all g ts)
replaced_mapped g a k ps [] = refl
replaced_mapped {V} {W} g a k ps (t ∷ ts) = by (is_in ps k) (others_mapped g (suc k) ps ts) (replaced_mapped g a (suc k) ps ts)
  where
    by : (b : Bool) → mapped_all g (others_from (suc k) ps ts) ≡ others_from (suc k) ps (mapped_all g ts) → mapped_all g (replaced_from a (suc k) ps ts) ≡ replaced_from (mapped g a) (suc k) ps (mapped_all g ts)
        → mapped_all g (if b then a ∷ others_from (suc k) ps ts else t ∷ replaced_from a (suc k) ps ts) ≡ (if b then mapped g a ∷ others_from (suc k) ps (mapped_all g ts) else mapped g t ∷ replaced_from (mapped g a) (suc k) ps (mapped_all g ts))
    by true e f = ap (λ (v : List (Tree W)). mapped g a ∷ v) e
    by false e f = ap (λ (v : List (Tree W)). mapped g t ∷ v) f

-- ---- the parts of the terms of a store
others_trees : (store : List (Tree Variable)) (k : ℕ) (ps terms : List ℕ) → trees_at store (others_from k ps terms) ≡ others_from k ps (trees_at store terms)
others_trees store k ps [] = refl
others_trees store k ps (t ∷ terms) = by (is_in ps k) (others_trees store (suc k) ps terms)
  where
    by : (b : Bool) → trees_at store (others_from (suc k) ps terms) ≡ others_from (suc k) ps (trees_at store terms)
        → trees_at store (if b then others_from (suc k) ps terms else t ∷ others_from (suc k) ps terms) ≡ (if b then others_from (suc k) ps (trees_at store terms) else tree_at store t ∷ others_from (suc k) ps (trees_at store terms))
    by true e = e
    by false e = ap (λ (v : List (Tree Variable)). tree_at store t ∷ v) e

pub replaced_trees : (store : List (Tree Variable)) (a k : ℕ) (ps terms : List ℕ) → trees_at store (replaced_from a k ps terms) ≡ replaced_from (tree_at store a) k ps (trees_at store terms)
replaced_trees store a k ps [] = refl
replaced_trees store a k ps (t ∷ terms) = by (is_in ps k) (others_trees store (suc k) ps terms) (replaced_trees store a (suc k) ps terms)
  where
    by : (b : Bool) → trees_at store (others_from (suc k) ps terms) ≡ others_from (suc k) ps (trees_at store terms) → trees_at store (replaced_from a (suc k) ps terms) ≡ replaced_from (tree_at store a) (suc k) ps (trees_at store terms)
        → trees_at store (if b then a ∷ others_from (suc k) ps terms else t ∷ replaced_from a (suc k) ps terms)
        ≡ (if b then tree_at store a ∷ others_from (suc k) ps (trees_at store terms) else tree_at store t ∷ replaced_from (tree_at store a) (suc k) ps (trees_at store terms))
    by true e f = ap (λ (v : List (Tree Variable)). tree_at store a ∷ v) e
    by false e f = ap (λ (v : List (Tree Variable)). tree_at store t ∷ v) f

pub others_atoms : (store : List (Tree Variable)) (k : ℕ) (ps terms : List ℕ) → atoms_at store (others_from k ps terms) ≡ others_from k ps (atoms_at store terms)
others_atoms store k ps terms = ap (mapped_all number_of) (others_trees store k ps terms) ∙ others_mapped number_of k ps (trees_at store terms)

pub others_in : (store : List (Tree Variable)) (k : ℕ) (ps terms : List ℕ) → AreIn store terms → AreIn store (others_from k ps terms)
others_in store k ps terms h = each_in store (others_from k ps terms) (λ t m. in_each store terms h t (others_out k ps terms t m))

pub replaced_in : (store : List (Tree Variable)) (a k : ℕ) (ps terms : List ℕ) → a < length store → AreIn store terms → AreIn store (replaced_from a k ps terms)
replaced_in store a k ps terms w h =
    each_in store (replaced_from a k ps terms)
    (λ t m. elim (replaced_out a k ps terms t m) [ inl e ↦ subst (λ (z : ℕ). z < length store) (sym e) w | inr d ↦ in_each store terms h t d ])

-- ---- their variables
pub from_trees : {V : Type 0} (ts : List (Tree V)) (v : V) → Among v (variables_in ts) → (t : Tree V) × Among t ts × Among v (variables t)
from_trees [] v m = elim m [ ]
from_trees (t ∷ ts) v m = elim (among_either v (variables t) (variables_in ts) m) [
  | inl a ↦ (t, first, a)
  | inr b ↦ (let r = from_trees ts v b in (r.0, next r.1, r.2))
]

pub to_trees : {V : Type 0} (ts : List (Tree V)) (t : Tree V) (v : V) → Among t ts → Among v (variables t) → Among v (variables_in ts)
to_trees [] t v m a = elim m [ ]
to_trees {V} (u ∷ ts) t v m a = among_cases m
    (λ q. among_front v (variables u) (variables_in ts) (subst (λ (z : Tree V). Among v (variables z)) q a))
    (λ k. among_back v (variables u) (variables_in ts) (to_trees ts t v k a))

pub others_all : {V : Type 0} (P : V → Type 0) (k : ℕ) (ps : List ℕ) (ts : List (Tree V)) → All P (variables_in ts) → All P (variables_in (others_from k ps ts))
others_all P k ps ts h =
    each_all P (variables_in (others_from k ps ts)) (λ v m. let r = from_trees (others_from k ps ts) v m in all_each P (variables_in ts) h v (to_trees ts r.0 v (others_out k ps ts r.0 r.1) r.2))

pub chosen_all : (P : ℕ → Type 0) (k : ℕ) (ps : List ℕ) (rows : List Row) → All P (rows_variables rows) → All P (rows_variables (chosen_from k ps rows))
chosen_all P k ps rows h =
    each_all P (rows_variables (chosen_from k ps rows))
    (λ n m. let r = from_rows (chosen_from k ps rows) n m in all_each P (rows_variables rows) h n (among_rows r.0 rows n (chosen_out k ps rows r.0 r.1) r.2))

-- ---- the parts of a stored clause
module _ (store : List (Tree Variable)) (c : Clause) (h : IsStored store c) (ps : List ℕ) where
  pub staying_in : (terms : List ℕ) → terms ≡ others ps c.atoms → AreIn store terms
  staying_in terms e = let P : List ℕ → Type 0 = AreIn store in subst P (sym e) (others_in store 1 ps c.atoms (atoms_in store c h c.atoms refl))

  pub staying_numbered : (terms : List ℕ) (k : ℕ) → terms ≡ others ps c.atoms → k ≡ length c.sorts → All (IsNumber k) (variables_in (atoms_at store terms))
  staying_numbered terms k e f =
      let P : List (Tree ℕ) → Type 0 = λ ts. All (IsNumber (length c.sorts)) (variables_in ts) in
      numbered_as (length c.sorts) k (variables_in (atoms_at store terms)) f
      (subst P (sym (ap (atoms_at store) e ∙ others_atoms store 1 ps c.atoms)) (others_all (IsNumber (length c.sorts)) 1 ps (atoms_at store c.atoms) (atoms_numbered store c h c.atoms refl)))

  pub kept_numbered : (rows : List Row) (k : ℕ) → rows ≡ chosen ps c.rows → k ≡ length c.sorts → All (IsNumber k) (rows_variables rows)
  kept_numbered rows k e f =
      let P : List Row → Type 0 = λ rs. All (IsNumber (length c.sorts)) (rows_variables rs) in
      numbered_as (length c.sorts) k (rows_variables rows) f (subst P (sym e) (chosen_all (IsNumber (length c.sorts)) 1 ps c.rows (rows_numbered store c h c.rows refl)))

-- their variables are marked
pub staying_are : (store : List (Tree Variable)) (one two three : List Bool) (k : ℕ) (xs ps qs all terms : List ℕ) (every rows : List Row) → terms ≡ others ps all → rows ≡ chosen qs every
    → Are one k xs → Adds one two (variables_in (atoms_at store terms)) → Adds two three (rows_variables rows) → Are three k ((xs ++ variables_in (others ps (atoms_at store all))) ++ rows_variables (chosen qs every))
staying_are store one two three k xs ps qs all terms every rows e f h a b =
    let atoms = adds_as one two _ _ (ap (λ (ts : List ℕ). variables_in (atoms_at store ts)) e ∙ ap variables_in (others_atoms store 1 ps all)) a in
    let kept = adds_as two three _ _ (ap rows_variables f) b in
    marks_are two three k (xs ++ variables_in (others ps (atoms_at store all))) (rows_variables (chosen qs every)) (marks_are one two k xs (variables_in (others ps (atoms_at store all))) h atoms) kept
