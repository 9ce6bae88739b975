-- The internal variables of a definition in turn.
use Rattle.std.proofs.Common.{◌≡◌, ℕ, zero, suc, ◌+◌, ◌-◌, ◌<◌, ◌≤◌, ◌||◌, ◌&&◌, List, [], ◌∷◌, ◌++◌, length, map, take, drop, get_or, nat_eq, refl, ap, ◌∙◌, sym, subst, arith, add-one, All, Bool, true, false, Option, Some}
use Rattle.std.specs.Prelude.{not, if◌then◌else◌}
use Rattle.std.specs.List.{filter}
use Rattle.std.proofs.lemmas.List.{append_assoc}
use Rattle.clp_model.specs.declared.sort.Sort.{Sort}
use Rattle.clp_model.specs.declared.tree.Variable.{Variable}
use Rattle.clp_model.specs.declared.tree.Tree.{Tree, Var, App, App'}
use Rattle.clp_model.specs.Trees.{mapped, variables, variables_in}
use Rattle.clp_model.specs.Clauses.{Clause as Meaning, sort_in}
use Rattle.clp_model.proofs.Trees.{mapped_app, mapped_var}
use Rattle.clp_model.proofs.Membership.{Among, first, next, among_front, among_back}
use Rattle.linear_laws.proofs.Lists.{filter_out}
use Rattle.lin_row.specs.Rows.{at}
use Rattle.unify_model.specs.Substituting.{same_sort}
use Rattle.unify_laws.proofs.Solved.{among_cases}
use Rattle.unify_laws.proofs.Variables.{both}
use Rattle.term_store.specs.Trees.{variable, tree_at, trees_at, AreIn}
use Rattle.clause_model.specs.Variables.{rows_variables}
use Rattle.clause_laws.proofs.Rows.{all_each, each_all}
use Rattle.clause_store.specs.declared.clause.Clause.{Clause}
use Rattle.clause_store.specs.Stored.{number_of, atom_at, atoms_at, clause_in, HasSort, IsStored}
use Rattle.clause_store.proofs.Numbers.{numbers_var, numbers_app}
use Rattle.clause_loader.specs.WellFormed.{IsNumber}
use Rattle.fold_model.specs.Positions.{is_in, chosen, others}
use Rattle.fold_model.specs.Images.{numbers_from}
use Rattle.fold_model.specs.Internal.{number_in, is_variable_of, is_apart, taken_variables, internal_variables, first_lost, lost_variable}
use Rattle.clause_fold.specs.Marks.{is_marked, Adds, Are}
use Rattle.clause_fold.specs.Images.{image_by, AreImages, Become}
use Rattle.clause_fold.specs.Internal.{is_free, internal_among, IsFirstLost, IsPassed}
use Rattle.clause_fold.proofs.Marked.{adds_as, adds_both, next_term, no_more}
use Rattle.clause_fold.proofs.StoredParts.{head_numbered, trees_numbered, numbered_as}
use Rattle.clause_fold.proofs.Loose.{numbers_here}
use Rattle.clause_fold.proofs.ImageTerms.{image_in_store}

-- ---- variables of a sort
pub variable_of_var : (sorts : List Sort) (k : Sort) (tree : Tree Variable) (n : ℕ) (s : Sort) → tree ≡ variable n s → is_variable_of sorts k (mapped number_of tree) ≡ same_sort (sort_in sorts n) k
variable_of_var sorts k tree n s is =
    ap (λ (t : Tree Variable). is_variable_of sorts k (mapped number_of t)) is ∙ ap (is_variable_of sorts k) (mapped_var number_of (record { number = n; sort = s }))

pub variable_of_app : (sorts : List Sort) (k : Sort) (tree : Tree Variable) (name : List ℕ) (ts : List (Tree Variable)) → tree ≡ App name ts → is_variable_of sorts k (mapped number_of tree) ≡ false
variable_of_app sorts k tree name ts is =
    ap (λ (t : Tree Variable). is_variable_of sorts k (mapped number_of t)) is ∙ ap (is_variable_of sorts k) (mapped_app number_of name ts)

variable_numbered : (sorts : List Sort) (k : Sort) (tree : Tree Variable) → ((v : Variable) → Among v (variables tree) → HasSort sorts v) → is_variable_of sorts k (mapped number_of tree) ≡ true → IsNumber (length sorts) (number_in (mapped number_of tree))
unfolding mapped variables
variable_numbered sorts k (Var v) h e = let s = h v first in (s.positive, s.within)
variable_numbered sorts k (App' name shape args) h e = absurd (cc (e))

pub image_variable : (store : List (Tree Variable)) (terms : List ℕ) (x : ℕ) (v : Variable) → IsNumber (length terms) x → Among v (variables (tree_at store (at terms x))) → Among v (variables_in (trees_at store terms))
image_variable store terms zero v w m = absurd (let p = w.0 in omega (arith, p))
image_variable store [] (suc i) v w m = absurd (let p = w.1 in omega (arith, p))
image_variable store (t ∷ terms) (suc zero) v w m = among_front v (variables (tree_at store t)) (variables_in (trees_at store terms)) m
image_variable store (t ∷ terms) (suc (suc i)) v w m = among_back v (variables (tree_at store t)) (variables_in (trees_at store terms)) (image_variable store terms (suc i) v (omega arith, let p = w.1 in omega (arith, p)) m)

image_number : (store : List (Tree Variable)) (terms : List ℕ) (x n : ℕ) → IsNumber (length terms) x → Among n (variables (image_by store terms x)) → Among n (variables_in (atoms_at store terms))
image_number store terms zero n w m = absurd (let p = w.0 in omega (arith, p))
image_number store [] (suc i) n w m = absurd (let p = w.1 in omega (arith, p))
image_number store (t ∷ terms) (suc zero) n w m = among_front n (variables (atom_at store t)) (variables_in (atoms_at store terms)) m
image_number store (t ∷ terms) (suc (suc i)) n w m = among_back n (variables (atom_at store t)) (variables_in (atoms_at store terms)) (image_number store terms (suc i) n (omega arith, let p = w.1 in omega (arith, p)) m)

-- what is taken has its place among the sorts
pub taken_numbered : (store : List (Tree Variable)) (images : List ℕ) (total : ℕ) (sorts : List Sort) (k : Sort) (marks : List Bool) (x : ℕ) → AreImages store images total sorts → IsNumber total x → is_free sorts k marks (image_by store images x) ≡ true
    → IsNumber (length sorts) (number_in (image_by store images x))
taken_numbered store images total sorts k marks x h w e =
    let b = both (is_variable_of sorts k (image_by store images x)) (not (is_marked marks (number_in (image_by store images x)))) e in
    let counted : x ≤ length images = let p = w.1 in let q = h.count in omega (arith, p, q) in
    variable_numbered sorts k (tree_at store (at images x)) (λ v m. all_each (HasSort sorts) (variables_in (trees_at store images)) h.sorted v (image_variable store images x v (w.0, counted) m)) b.0

-- the term of what a variable becomes, by another name
pub image_is_in : (store : List (Tree Variable)) (images : List ℕ) (x t : ℕ) → AreIn store images → IsNumber (length images) x → t ≡ at images x → t < length store
image_is_in store images x t h w e = let inside = image_in_store store images x h w in omega (arith, e, inside)

pub image_within : (store : List (Tree Variable)) (images : List ℕ) (total : ℕ) (sorts : List Sort) (x t : ℕ) → AreImages store images total sorts → IsNumber total x → t ≡ at images x → t < length store
image_within store images total sorts x t h w e = image_is_in store images x t h.within (w.0, let p = w.1 in let q = h.count in omega (arith, p, q)) e

pub free_as : (store : List (Tree Variable)) (images : List ℕ) (sorts sorts' : List Sort) (k k' : Sort) (marks : List Bool) (x t : ℕ) (b : Bool) → b ≡ is_free sorts' k' marks (atom_at store t) → sorts' ≡ sorts → k' ≡ k → t ≡ at images x
    → is_free sorts k marks (image_by store images x) ≡ b
free_as store images sorts sorts' k k' marks x t b h e f g =
    sym (h ∙ ap (λ (z : List Sort). is_free z k' marks (atom_at store t)) e ∙ ap (λ (z : Sort). is_free sorts z marks (atom_at store t)) f ∙ ap (λ (z : ℕ). is_free sorts k marks (atom_at store z)) g)

pub image_numbered : (store : List (Tree Variable)) (images : List ℕ) (k x t : ℕ) → IsNumber (length images) x → t ≡ at images x → All (IsNumber k) (variables_in (atoms_at store images)) → All (IsNumber k) (variables (atom_at store t))
image_numbered store images k x t w e h =
    let P : ℕ → Type 0 = λ i. All (IsNumber k) (variables (atom_at store i)) in
    subst P (sym e) (each_all (IsNumber k) (variables (image_by store images x)) (λ n m. all_each (IsNumber k) (variables_in (atoms_at store images)) h n (image_number store images x n w m)))

-- ---- a step
module _ (n c : Meaning) (s : ℕ → Tree ℕ) (head marks : List Bool) (k x : ℕ) (heads : Are head k (variables n.head)) where
  in_head : (b : Bool) → is_marked head x ≡ b → is_in (variables n.head) x ≡ b
  in_head b e = sym (heads.each x) ∙ e

  step_skips : (taken rest : List ℕ) → is_marked head x ≡ true → first_lost n c s taken (internal_among n (x ∷ rest)) ≡ first_lost n c s taken (internal_among n rest)
  step_skips taken rest e = ap (λ (b : Bool). first_lost n c s taken (if not b then x ∷ internal_among n rest else internal_among n rest)) (in_head true e)

  step_takes : (taken rest : List ℕ) → is_marked head x ≡ false
      → first_lost n c s taken (internal_among n (x ∷ rest)) ≡ (if is_apart n c s taken x then first_lost n c s (number_in (s x) ∷ taken) (internal_among n rest) else Some x)
  step_takes taken rest e = ap (λ (b : Bool). first_lost n c s taken (if not b then x ∷ internal_among n rest else internal_among n rest)) (in_head false e)

  module _ (taken : List ℕ) (are : Are marks (length c.sorts) taken) where
    pub passed_head : is_marked head x ≡ true → IsPassed n c s taken marks x
    passed_head e = record { more = taken; are = are; left = λ rest. step_skips taken rest e }

    free_is : (b : Bool) → is_free c.sorts (sort_in n.sorts x) marks (s x) ≡ b → is_apart n c s taken x ≡ b
    free_is b e = ap (λ (m : Bool). is_variable_of c.sorts (sort_in n.sorts x) (s x) && not m) (sym (are.each (number_in (s x)))) ∙ e

    pub lost_here : is_marked head x ≡ false → is_free c.sorts (sort_in n.sorts x) marks (s x) ≡ false → IsFirstLost n c s taken x
    lost_here e f = λ rest. step_takes taken rest e ∙ ap (λ (b : Bool). if b then first_lost n c s (number_in (s x) ∷ taken) (internal_among n rest) else Some x) (free_is false f)

    pub passed_here : (new : List Bool) → is_marked head x ≡ false → is_free c.sorts (sort_in n.sorts x) marks (s x) ≡ true → Adds marks new (number_in (s x) ∷ []) → IsPassed n c s taken new x
    passed_here new e f a = record {
      more = number_in (s x) ∷ taken;
      are = record {
        count = a.count ∙ are.count;
        each = λ y. a.each y ∙ ap (λ (m : Bool). (nat_eq (number_in (s x)) y || false) || m) (are.each y) ∙ ap (λ (b : Bool). b || is_in taken y) (or_false (nat_eq (number_in (s x)) y));
      };
      left = λ rest. step_takes taken rest e ∙ ap (λ (b : Bool). if b then first_lost n c s (number_in (s x) ∷ taken) (internal_among n rest) else Some x) (free_is true f);
    }
      where
        or_false : (b : Bool) → (b || false) ≡ b
        or_false true = refl
        or_false false = refl

-- ---- the images of several variables
map_both : {B : Type 0} (f : ℕ → B) (xs ys : List ℕ) → map f (xs ++ ys) ≡ map f xs ++ map f ys
map_both f [] ys = refl
map_both f (x ∷ xs) ys = ap (λ v. f x ∷ v) (map_both f xs ys)

variables_both : (ts us : List (Tree ℕ)) → variables_in (ts ++ us) ≡ variables_in ts ++ variables_in us
variables_both [] us = refl
variables_both (t ∷ ts) us = ap (λ (v : List ℕ). variables t ++ v) (variables_both ts us) ∙ sym (append_assoc (variables t) (variables_in ts) (variables_in us))

pub marked_var : (scratch : List (Tree Variable)) (images : List ℕ) (tree : Tree Variable) (n : ℕ) (s : Sort) (image : ℕ) (a b : List Bool) → tree ≡ variable n s → image ≡ at images n → Adds a b (variables (atom_at scratch image))
    → Adds a b (variables_in (map (image_by scratch images) (variables (mapped number_of tree))))
marked_var scratch images tree n s image a b is e h =
    adds_as a b _ _
    (ap (λ (t : ℕ). variables (atom_at scratch t)) e ∙ sym (no_more (variables (image_by scratch images n)))
    ∙ ap (λ (ns : List ℕ). variables_in (map (image_by scratch images) ns)) (sym (numbers_var tree n s is))) h

pub marked_app : (scratch store : List (Tree Variable)) (images : List ℕ) (tree : Tree Variable) (name terms : List ℕ) (a b : List Bool) → tree ≡ App name (trees_at store terms)
    → Adds a b (variables_in (map (image_by scratch images) (variables_in (atoms_at store terms)))) → Adds a b (variables_in (map (image_by scratch images) (variables (mapped number_of tree))))
marked_app scratch store images tree name terms a b is h =
    adds_as a b _ _ (ap (λ (ns : List ℕ). variables_in (map (image_by scratch images) ns)) (sym (numbers_app tree name (trees_at store terms) is))) h

pub marked_more : (f : ℕ → Tree ℕ) (store : List (Tree Variable)) (terms : List ℕ) (i term : ℕ) (a b c : List Bool) → i < length terms → term ≡ get_or terms i term
    → Adds a b (variables_in (map f (variables_in (atoms_at store (take i terms))))) → Adds b c (variables_in (map f (variables (atom_at store term)))) → Adds a c (variables_in (map f (variables_in (atoms_at store (take (i + 1) terms)))))
marked_more f store terms i term a b c w item h k =
    let xs = variables_in (atoms_at store (take i terms)) in
    let ys = variables (atom_at store term) in
    adds_as a c _ _
    (sym (variables_both (map f xs) (map f ys)) ∙ ap variables_in (sym (map_both f xs ys)) ∙ ap (λ (ns : List ℕ). variables_in (map f ns)) (next_term store terms i term w item))
    (adds_both a b c (variables_in (map f xs)) (variables_in (map f ys)) h k)

-- the parts of what is taken
pub taken_are : (marks : List Bool) (k : ℕ) (a b c d : List ℕ) → Are marks k (((a ++ b) ++ c) ++ d) → Are marks k (a ++ (b ++ (c ++ d)))
taken_are marks k a b c d h = subst (λ (xs : List ℕ). Are marks k xs) (append_assoc (a ++ b) c d ∙ append_assoc a b (c ++ d)) h

-- ---- functions that agree
map_agrees : (f g : ℕ → Tree ℕ) (xs : List ℕ) → ((x : ℕ) → Among x xs → f x ≡ g x) → map f xs ≡ map g xs
map_agrees f g [] h = refl
map_agrees f g (x ∷ xs) h = ap (λ (t : Tree ℕ). t ∷ map f xs) (h x first) ∙ ap (λ (v : List (Tree ℕ)). g x ∷ v) (map_agrees f g xs (λ y m. h y (next m)))

lost_agrees : (n c : Meaning) (f g : ℕ → Tree ℕ) (taken xs : List ℕ) → ((x : ℕ) → Among x xs → f x ≡ g x) → first_lost n c f taken xs ≡ first_lost n c g taken xs
lost_agrees n c f g taken [] h = refl
lost_agrees n c f g taken (x ∷ xs) h =
    ap (λ (t : Tree ℕ). if is_variable_of c.sorts (sort_in n.sorts x) t && not (is_in taken (number_in t)) then first_lost n c f (number_in t ∷ taken) xs else Some x) (h x first)
    ∙ ap (λ (r : Option ℕ). if is_apart n c g taken x then r else Some x) (lost_agrees n c f g (number_in (g x) ∷ taken) xs (λ y m. h y (next m)))

numbers_within : (k : ℕ) (sorts : List Sort) (x : ℕ) → Among x (numbers_from k sorts) → (k ≤ x) × (x < k + length sorts)
numbers_within k [] x m = elim m [ ]
numbers_within k (s ∷ ss) x m = among_cases m (λ q. (omega (arith, q), omega (arith, q))) (λ a. let h = numbers_within (suc k) ss x a in let p = h.0 in let q = h.1 in (omega (arith, p), omega (arith, q)))

pub same_lost : (store scratch : List (Tree Variable)) (n c : Clause) (images : List ℕ) (s : ℕ → Tree ℕ) (positions keep : List ℕ) → IsStored store n → length images ≡ length n.sorts → Become scratch images s
    → lost_variable (clause_in store n) (clause_in store c) (image_by scratch images) positions keep ≡ lost_variable (clause_in store n) (clause_in store c) s positions keep
same_lost store scratch n c images s positions keep stored count b =
    let N = clause_in store n in
    let C = clause_in store c in
    let f = image_by scratch images in
    let same : (x : ℕ) → IsNumber (length n.sorts) x → f x ≡ s x = λ x w. b.each x (w.0, let p = w.1 in omega (arith, p, count)) in
    let heads : map f (variables N.head) ≡ map s (variables N.head) = map_agrees f s (variables N.head) (λ x m. same x (all_each (IsNumber (length n.sorts)) (variables N.head) (head_numbered store n stored) x m)) in
    let inner : (x : ℕ) → Among x (internal_variables N) → f x ≡ s x = λ x m.
    let w = numbers_within 1 n.sorts x (filter_out (λ y. not (is_in (variables N.head) y)) (numbers_from 1 n.sorts) x m).0 in
    let p = w.0 in
    let q = w.1 in
    same x (omega (arith, p), omega (arith, q)) in
    lost_agrees N C f s (taken_variables N C f positions keep) (internal_variables N) inner
    ∙ ap (λ (ts : List (Tree ℕ)). first_lost N C s (variables C.head ++ (variables_in (others positions C.body) ++ (rows_variables (chosen keep C.rows) ++ variables_in ts))) (internal_variables N)) heads

-- ---- the loop's turn
pub turn_here : (n c : Meaning) (s : ℕ → Tree ℕ) (taken : List ℕ) (i number : ℕ) → i < length n.sorts → number ≡ suc i → IsFirstLost n c s taken number
    → first_lost n c s taken (internal_among n (numbers_from (suc i) (drop i n.sorts))) ≡ Some number
turn_here n c s taken i number within e h =
    ap (λ (xs : List ℕ). first_lost n c s taken (internal_among n xs)) (numbers_here n.sorts i within ∙ ap (λ (k : ℕ). k ∷ numbers_from (suc (i + 1)) (drop (i + 1) n.sorts)) (sym e)) ∙ h (numbers_from (suc (i + 1)) (drop (i + 1) n.sorts))

pub turn_next : (n c : Meaning) (s : ℕ → Tree ℕ) (taken : List ℕ) (marks : List Bool) (i number : ℕ) → i < length n.sorts → number ≡ suc i → (p : IsPassed n c s taken marks number)
    → first_lost n c s taken (internal_among n (numbers_from (suc i) (drop i n.sorts))) ≡ first_lost n c s p.more (internal_among n (numbers_from (suc (i + 1)) (drop (i + 1) n.sorts)))
turn_next n c s taken marks i number within e p =
    ap (λ (xs : List ℕ). first_lost n c s taken (internal_among n xs)) (numbers_here n.sorts i within ∙ ap (λ (k : ℕ). k ∷ numbers_from (suc (i + 1)) (drop (i + 1) n.sorts)) (sym e)) ∙ p.left (numbers_from (suc (i + 1)) (drop (i + 1) n.sorts))

-- ---- the whole
module _ (store scratch : List (Tree Variable)) (n c : Clause) (images : List ℕ) where
  pub images_numbered : (k : ℕ) → AreImages scratch images (length n.sorts) c.sorts → k ≡ length c.sorts → All (IsNumber k) (variables_in (atoms_at scratch images))
  images_numbered k h e = numbered_as (length c.sorts) k (variables_in (atoms_at scratch images)) e (trees_numbered c.sorts (trees_at scratch images) (λ v m. all_each (HasSort c.sorts) (variables_in (trees_at scratch images)) h.sorted v m))

  pub head_places : IsStored store n → AreImages scratch images (length n.sorts) c.sorts → All (IsNumber (length images)) (variables (atom_at store n.head))
  head_places stored h = numbered_as (length n.sorts) (length images) (variables (atom_at store n.head)) h.count (head_numbered store n stored)
