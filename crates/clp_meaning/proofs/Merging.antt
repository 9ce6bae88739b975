-- A merge keeps what is provable.
use Rattle.std.proofs.Common.{◌≢◌, ℕ, zero, suc, ◌<◌, List, [], ◌∷◌, length, get_or, arith, refl, subst, sym, inl, inr, ◌↔◌, map}
use Rattle.std.specs.Prelude.{remove}
use Rattle.clp_model.specs.declared.tree.Tree.{Tree}
use Rattle.clp_model.specs.declared.tree.Tree.{Var}
use Rattle.clp_model.specs.Values.{GroundAtom}
use Rattle.clp_model.specs.Clauses.{Clause, Instance, ground_of}
use Rattle.clp_model.specs.Proof.{InstanceIn, Proof, Node, Proofs, AndProof}
use Rattle.clp_model.specs.Canonical.{canonical_form}
use Rattle.clp_meaning.specs.Laws.{HasInstancesOf, without_atom, Replaced, MergeKeepsProvability}
use Rattle.clp_model.proofs.Carrying.{Carries, carried}
use Rattle.clp_meaning.proofs.Renaming.{canonical_form_keeps_instances}

-- the one list is the other without one place, which holds x
pub data Removed {A : Type 0} : A → List A → List A → Type 0 where
  here : {x : A} {xs : List A} → Removed x (x ∷ xs) xs
  later : {x y : A} {xs ys : List A} → Removed x xs ys → Removed x (y ∷ xs) (y ∷ ys)

pub removed_at : {A : Type 0} (xs : List A) (j : ℕ) (d : A) → j < length xs → Removed (get_or xs j d) xs (remove xs j)
removed_at [] j d h = absurd (omega arith)
removed_at (x ∷ xs) zero d h = here
removed_at (x ∷ xs) (suc j) d h = later (removed_at xs j d (omega arith))

-- where another place holds an element too, it is still in the rest
pub other_left : {A : Type 0} (xs : List A) (i j : ℕ) (d : A) → i < length xs → j < length xs → i ≢ j → (rest : List A) × Removed (get_or xs i d) (remove xs j) rest
other_left [] i j d hi hj ne = absurd (omega arith)
other_left (x ∷ xs) zero zero d hi hj ne = absurd (omega arith)
other_left (x ∷ xs) zero (suc j) d hi hj ne = (remove xs j, here)
other_left (x ∷ xs) (suc i) zero d hi hj ne = (remove xs i, removed_at xs i d (omega arith))
other_left (x ∷ xs) (suc i) (suc j) d hi hj ne =
    let out = other_left xs i j d (omega arith) (omega arith) (omega arith) in (x ∷ out.0, later out.1)

removed_mapped : {A B : Type 0} (f : A → B) {x : A} {xs ys : List A} → Removed x xs ys → Removed (f x) (map f xs) (map f ys)
removed_mapped f here = here
removed_mapped f (later r) = later (removed_mapped f r)

proofs_out : {A : Type 0} {rule : A → List A → Type 0} {a : A} {xs ys : List A} → Removed a xs ys → Proofs rule xs → Proof rule a × Proofs rule ys
proofs_out here (AndProof x xs) = (x, xs)
proofs_out (later r) (AndProof x xs) = let out = proofs_out r xs in (out.0, AndProof x out.1)

proofs_in : {A : Type 0} {rule : A → List A → Type 0} {a : A} {xs ys : List A} → Removed a xs ys → Proof rule a → Proofs rule ys → Proofs rule xs
proofs_in here x xs = AndProof x xs
proofs_in (later r) x (AndProof y ys) = AndProof y (proofs_in r x ys)

-- an instance of the clause, and what the clause without the atom makes of it
narrowed : (c : Clause) (t : Tree ℕ) (rest : List (Tree ℕ)) → Removed t c.body rest → (a : GroundAtom) (body : List GroundAtom) → Instance c a body → (b : GroundAtom) × (less : List GroundAtom) × Removed b body less × Instance (record c { body = rest }) a less
narrowed c t rest r a body i =
    let f = ground_of c.sorts i.valuation in
    (f t, map f rest, subst (λ xs. Removed (f t) xs (map f rest)) (sym i.body_is) (removed_mapped f r), record { valuation = i.valuation; equations = i.equations; rows = i.rows; head_is = i.head_is; body_is = refl })

-- and back, where the atom stands in the rest too
widened : (c : Clause) (t : Tree ℕ) (rest others : List (Tree ℕ)) → Removed t c.body rest → Removed t rest others → (a : GroundAtom) (less : List GroundAtom) → Instance (record c { body = rest }) a less → (b : GroundAtom) × (body fewer : List GroundAtom) × Removed b body less × Removed b less fewer × Instance c a body
widened c t rest others r again a less i =
    let f = ground_of c.sorts i.valuation in
    (f t, map f c.body, map f others, subst (λ xs. Removed (f t) (map f c.body) xs) (sym i.body_is) (removed_mapped f r), subst (λ xs. Removed (f t) xs (map f others)) (sym i.body_is) (removed_mapped f again), record { valuation = i.valuation; equations = i.equations; rows = i.rows; head_is = i.head_is; body_is = refl })

module _ (p q : List Clause) (c d : Clause) (t : Tree ℕ) (rest others : List (Tree ℕ)) (r : Removed t c.body rest) (again : Removed t rest others) (from : HasInstancesOf (record c { body = rest }) d) (to : HasInstancesOf d (record c { body = rest })) (replaced : Replaced p q c d) where
  nothing_new : Carries (InstanceIn q) (InstanceIn p)
  nothing_new a body (x, inside, i) ps =
      elim (replaced.old x inside) [
        | inl e ↦ let wide = widened c t rest others r again a body (from a body (subst (λ y. Instance y a body) e i)) in
            let one = (proofs_out wide.4 ps).0 in
            Node (c, replaced.was, wide.5) (proofs_in wide.3 one ps)
        | inr inp ↦ Node (x, inp, i) ps
      ]

  nothing_lost : Carries (InstanceIn p) (InstanceIn q)
  nothing_lost a body (x, inside, i) ps =
      elim (replaced.kept x inside) [
        | inl e ↦ let narrow = narrowed c t rest r a body (subst (λ y. Instance y a body) e i) in
            Node (d, replaced.now, to a narrow.1 narrow.3) (proofs_out narrow.2 ps).1
        | inr inq ↦ Node (x, inq, i) ps
      ]

  same_meaning : (a : GroundAtom) → Proof (InstanceIn q) a ↔ Proof (InstanceIn p) a
  same_meaning a = (carried (InstanceIn q) (InstanceIn p) nothing_new, carried (InstanceIn p) (InstanceIn q) nothing_lost)

pub merge_keeps_provability : MergeKeepsProvability
merge_keeps_provability p q c i j none twice replaced =
    let x : Tree ℕ = Var 0 in
    let rest = remove c.body j in
    let out = removed_at c.body j x twice.second_within in
    let again = other_left c.body i j x twice.first_within twice.second_within twice.apart in
    let less = without_atom c j in
    let same = canonical_form_keeps_instances less (record { equations = none.equations; rows = none.rows }) in
    same_meaning p q c (canonical_form less) _ rest again.0 out (subst (λ y. Removed y rest again.0) (twice.same x) again.1) same.1 same.0 replaced
