-- Terms that are chosen from a list.
use Rattle.std.proofs.Common.{◌≡◌, ℕ, zero, suc, ◌+◌, ◌-◌, ◌<◌, ◌≤◌, List, [], ◌∷◌, ◌++◌, length, refl, ap, ◌∙◌, sym, subst, arith, Bool, true, false, Some, None, inl, inr}
use Rattle.std.specs.Prelude.{slice_index_or, nat_lt, nat_le, if◌then◌else◌}
use Rattle.std.proofs.lemmas.Bool.{ltb-true, leb-true}
use Rattle.clp_model.specs.declared.tree.Variable.{Variable}
use Rattle.clp_model.specs.declared.tree.Tree.{Tree}
use Rattle.clp_model.specs.Trees.{variables, variables_in}
use Rattle.clp_model.proofs.Membership.{Among, first, next, among_front, among_back, among_either}
use Rattle.unify_laws.proofs.Solved.{among_cases}
use Rattle.unify_laws.proofs.Variables.{both}
use Rattle.term_store.specs.Trees.{tree_at, trees_at, AreIn}
use Rattle.clause_store.specs.Stored.{atom_at, atoms_at}
use Rattle.fold_model.specs.Positions.{in_range, first_outside, is_in, at_positions, others_from, replaced_from}

-- ---- each term of a list
pub in_each : (store : List (Tree Variable)) (terms : List ℕ) → AreIn store terms → (t : ℕ) → Among t terms → t < length store
in_each store [] h t m = elim m [ ]
in_each store (u ∷ terms) h t m = among_cases m (λ q. subst (λ (z : ℕ). z < length store) (sym q) h.0) (λ k. in_each store terms h.1 t k)

pub each_in : (store : List (Tree Variable)) (terms : List ℕ) → ((t : ℕ) → Among t terms → t < length store) → AreIn store terms
each_in store [] h = tt
each_in store (u ∷ terms) h = (h u first, each_in store terms (λ t m. h t (next m)))

pub variable_from : (store : List (Tree Variable)) (terms : List ℕ) (v : Variable) → Among v (variables_in (trees_at store terms)) → (t : ℕ) × Among t terms × Among v (variables (tree_at store t))
variable_from store [] v m = elim m [ ]
variable_from store (t ∷ terms) v m = elim (among_either v (variables (tree_at store t)) (variables_in (trees_at store terms)) m) [
  | inl a ↦ (t, first, a)
  | inr b ↦ (let r = variable_from store terms v b in (r.0, next r.1, r.2))
]

pub variable_to : (store : List (Tree Variable)) (terms : List ℕ) (t : ℕ) (v : Variable) → Among t terms → Among v (variables (tree_at store t)) → Among v (variables_in (trees_at store terms))
variable_to store [] t v m a = elim m [ ]
variable_to store (u ∷ terms) t v m a = among_cases m
    (λ q. among_front v (variables (tree_at store u)) (variables_in (trees_at store terms)) (subst (λ (z : ℕ). Among v (variables (tree_at store z))) q a))
    (λ k. among_back v (variables (tree_at store u)) (variables_in (trees_at store terms)) (variable_to store terms t v k a))

pub tree_from : (store : List (Tree Variable)) (terms : List ℕ) (t : Tree Variable) → Among t (trees_at store terms) → (k : ℕ) × Among k terms × (t ≡ tree_at store k)
tree_from store [] t m = elim m [ ]
tree_from store (u ∷ terms) t m = among_cases m (λ q. (u, first, q)) (λ k. let r = tree_from store terms t k in (r.0, next r.1, r.2))

pub tree_to : (store : List (Tree Variable)) (terms : List ℕ) (k : ℕ) → Among k terms → Among (tree_at store k) (trees_at store terms)
tree_to store [] k m = elim m [ ]
tree_to store (u ∷ terms) k m = among_cases m (λ q. subst (λ (z : ℕ). Among (tree_at store z) (trees_at store (u ∷ terms))) (sym q) first) (λ a. next (tree_to store terms k a))

-- ---- at positions
index_among : (terms : List ℕ) (i d : ℕ) → i < length terms → Among (slice_index_or terms i d) terms
index_among [] i d w = absurd (omega arith)
index_among (t ∷ ts) zero d w = first
index_among (t ∷ ts) (suc i) d w = next (index_among ts i d (omega arith))

atom_there : (store : List (Tree Variable)) (terms : List ℕ) (i d : ℕ) (e : Tree ℕ) → i < length terms → slice_index_or (atoms_at store terms) i e ≡ atom_at store (slice_index_or terms i d)
atom_there store [] i d e w = absurd (omega arith)
atom_there store (t ∷ ts) zero d e w = refl
atom_there store (t ∷ ts) (suc i) d e w = atom_there store ts i d e (omega arith)

record AreInside (count p : ℕ) (ps : List ℕ) : Type 0 where
  place : p - 1 < count
  rest : first_outside count ps ≡ None

inside : (count p : ℕ) (ps : List ℕ) → first_outside count (p ∷ ps) ≡ None → AreInside count p ps
inside count p ps h = by (in_range count p) refl h
  where
    by : (b : Bool) → in_range count p ≡ b → (if b then first_outside count ps else Some p) ≡ None → AreInside count p ps
    by true e h = let r = both (nat_lt 0 p) (nat_le p count) e in let l = ltb-true 0 p r.0 in let u = leb-true p count r.1 in record { place = omega (arith, l, u); rest = h }
    by false e h = absurd (cc (h))

pub positions_among : (terms ps : List ℕ) (d : ℕ) → first_outside (length terms) ps ≡ None → (t : ℕ) → Among t (at_positions d terms ps) → Among t terms
positions_among terms [] d h t m = elim m [ ]
positions_among terms (p ∷ ps) d h t m =
    let r = inside (length terms) p ps h in
    among_cases m (λ q. subst (λ (z : ℕ). Among z terms) (sym q) (index_among terms (p - 1) d r.place)) (λ k. positions_among terms ps d r.rest t k)

pub positions_are : (store : List (Tree Variable)) (terms ps : List ℕ) (d : ℕ) (e : Tree ℕ) → first_outside (length terms) ps ≡ None → at_positions e (atoms_at store terms) ps ≡ atoms_at store (at_positions d terms ps)
positions_are store terms [] d e h = refl
positions_are store terms (p ∷ ps) d e h =
    let r = inside (length terms) p ps h in
    let a = atom_there store terms (p - 1) d e r.place in
    let b = positions_are store terms ps d e r.rest in
    cc

-- ---- the others, and those with one put in
pub others_among : {A : Type 0} (k : ℕ) (ps : List ℕ) (xs : List A) (x : A) → Among x (others_from k ps xs) → Among x xs
others_among k ps [] x m = elim m [ ]
others_among {A} k ps (y ∷ xs) x m = by (is_in ps k) m (others_among (suc k) ps xs x)
  where
    by : (b : Bool) → Among x (if b then others_from (suc k) ps xs else y ∷ others_from (suc k) ps xs) → (Among x (others_from (suc k) ps xs) → Among x xs) → Among x (y ∷ xs)
    by true m again = next (again m)
    by false m again = among_cases m (λ q. subst (λ (z : A). Among z (y ∷ xs)) (sym q) first) (λ k. next (again k))

pub others_are : (store : List (Tree Variable)) (k : ℕ) (ps terms : List ℕ) → others_from k ps (atoms_at store terms) ≡ atoms_at store (others_from k ps terms)
others_are store k ps [] = refl
others_are store k ps (t ∷ terms) = by (is_in ps k) (others_are store (suc k) ps terms)
  where
    by : (b : Bool) → others_from (suc k) ps (atoms_at store terms) ≡ atoms_at store (others_from (suc k) ps terms)
        → (if b then others_from (suc k) ps (atoms_at store terms) else atom_at store t ∷ others_from (suc k) ps (atoms_at store terms)) ≡ atoms_at store (if b then others_from (suc k) ps terms else t ∷ others_from (suc k) ps terms)
    by true h = h
    by false h = ap (λ (ts : List (Tree ℕ)). atom_at store t ∷ ts) h
