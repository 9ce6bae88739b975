-- What a rule makes of a program, told by instances alone.
use Rattle.std.specs.Prelude.{◌≡◌, ◌⊎◌, List, [], ◌∷◌, ◌++◌, Bool, true, false}
use Rattle.std.specs.List.{AllByRecursion}
use Rattle.clp_rank.specs.Ranked.{Setting}

-- a list with an element at a place
pub record At {A : Type 0} (xs : List A) : Type 0 where
  pub before : List A
  pub here : A
  pub after : List A
  pub is : xs ≡ before ++ (here ∷ after)

-- the clause e serves the atom b of an instance of the clause k
pub record Resolvent (s : Setting) (live : s.Clause → Type 0) (k : s.Clause) (a : s.Atom) (body : List s.Atom) : Type 0 where
  pub by : s.Clause
  pub is_live : live by
  pub before : List s.Atom
  pub atom : s.Atom
  pub after : List s.Atom
  pub inner : List s.Atom
  pub is : body ≡ before ++ (inner ++ after)
  pub outer : s.instance_of k a (before ++ (atom ∷ after))
  pub served : s.instance_of by atom inner

-- k is replaced by its resolvents, which are marked
pub record Unfolds (s : Setting) (live live' : s.Clause → Type 0) (k : s.Clause) : Type 0 where
  pub was : live k
  pub kept : (c : s.Clause) → live c → (c ≡ k) ⊎ live' c
  pub has_atom : (a : s.Atom) (body : List s.Atom) → s.instance_of k a body → At body
  pub made : (a : s.Atom) (body : List s.Atom) (i : s.instance_of k a body) (e : s.Clause) (inner : List s.Atom) → live e → s.instance_of e (has_atom a body i).here inner → (r : s.Clause) × live' r × (s.mark r ≡ true) × s.instance_of r a ((has_atom a body i).before ++ (inner ++ (has_atom a body i).after))
  pub from : (r : s.Clause) → live' r → live r ⊎ ((s.mark r ≡ true) × ((a : s.Atom) (body : List s.Atom) → s.instance_of r a body → Resolvent s live k a body))

-- ys is xs without one place, which holds x
pub data Removed {A : Type 0} : A → List A → List A → Type 0 where
  here : {x : A} {xs : List A} → Removed x (x ∷ xs) xs
  later : {x y : A} {xs ys : List A} → Removed x xs ys → Removed x (y ∷ xs) (y ∷ ys)

-- rest is xs without the places of the elements of fs, in the order of fs
pub data Taken {A : Type 0} : List A → List A → List A → Type 0 where
  nothing : {xs : List A} → Taken xs [] xs
  taking : {f : A} {xs ys fs rest : List A} → Removed f xs ys → Taken ys fs rest → Taken xs (f ∷ fs) rest

-- the instance of the folded clause that stands for an instance of k
pub record Folded (s : Setting) (k' : s.Clause) (n : s.Clause) (a : s.Atom) (body : List s.Atom) : Type 0 where
  pub atom : s.Atom
  pub folded : List s.Atom
  pub rest : List s.Atom
  pub new_body : List s.Atom
  pub takes : Taken body folded rest
  pub puts : Removed atom new_body rest
  pub defines : s.instance_of n atom folded
  pub gives : s.instance_of k' a new_body

-- and back: whatever instance of the definition has this head
pub record Unfolded (s : Setting) (base : s.Clause → Type 0) (k n : s.Clause) (a : s.Atom) (new_body : List s.Atom) : Type 0 where
  pub atom : s.Atom
  pub rest : List s.Atom
  pub puts : Removed atom new_body rest
  -- no other clause of the base has its predicate
  pub alone : (c : s.Clause) (folded : List s.Atom) → base c → s.instance_of c atom folded → s.instance_of n atom folded
  pub each : (folded : List s.Atom) → s.instance_of n atom folded → (body : List s.Atom) × Taken body folded rest × s.instance_of k a body

-- the marked clause k is replaced by k', by the definition n
pub record Folds (s : Setting) (base live live' : s.Clause → Type 0) (k k' n : s.Clause) : Type 0 where
  pub was : live k
  pub marked : s.mark k ≡ true
  pub same_mark : s.mark k' ≡ true
  pub now : live' k'
  pub in_base : base n
  pub initials : (atom : s.Atom) (folded : List s.Atom) → s.instance_of n atom folded → (s.defined atom ≡ true) × AllByRecursion (λ b. s.defined b ≡ false) folded
  pub kept : (c : s.Clause) → live c → (c ≡ k) ⊎ live' c
  pub old : (c : s.Clause) → live' c → (c ≡ k') ⊎ live c
  pub made : (a : s.Atom) (body : List s.Atom) → s.instance_of k a body → Folded s k' n a body
  pub from : (a : s.Atom) (new_body : List s.Atom) → s.instance_of k' a new_body → Unfolded s base k n a new_body

-- k is replaced by k', whose instances are those of k without a repeated atom, or with the same body
pub record Narrows (s : Setting) (live live' : s.Clause → Type 0) (k k' : s.Clause) : Type 0 where
  pub was : live k
  pub now : live' k'
  pub same_mark : s.mark k' ≡ s.mark k
  pub kept : (c : s.Clause) → live c → (c ≡ k) ⊎ live' c
  pub old : (c : s.Clause) → live' c → (c ≡ k') ⊎ live c
  pub made : (a : s.Atom) (body : List s.Atom) → s.instance_of k a body → (atom : s.Atom) × (fewer : List s.Atom) × Removed atom body fewer × s.instance_of k' a fewer
  pub from : (a : s.Atom) (fewer : List s.Atom) → s.instance_of k' a fewer → (atom : s.Atom) × (body : List s.Atom) × (others : List s.Atom) × Removed atom body fewer × Removed atom fewer others × s.instance_of k a body

-- k goes, because the clause e has each head of k with fewer of the same atoms, and both are marked
pub record Subsumed (s : Setting) (live live' : s.Clause → Type 0) (k e : s.Clause) : Type 0 where
  pub stays : live' e
  pub marked : s.mark k ≡ true
  pub kept : (c : s.Clause) → live c → (c ≡ k) ⊎ live' c
  pub old : (c : s.Clause) → live' c → live c
  pub made : (a : s.Atom) (body : List s.Atom) → s.instance_of k a body → (fewer rest : List s.Atom) × Taken body fewer rest × s.instance_of e a fewer

-- the clauses whose heads are in a set go, where each has an atom of the set
pub record Useless (s : Setting) (live live' : s.Clause → Type 0) (inside : s.Atom → Type 0) : Type 0 where
  pub kept : (c : s.Clause) (a : s.Atom) (body : List s.Atom) → live c → s.instance_of c a body → live' c ⊎ ((b : s.Atom) × (others : List s.Atom) × Removed b body others × inside b × inside a)
  pub loops : (c : s.Clause) (a : s.Atom) (body : List s.Atom) → live c → s.instance_of c a body → inside a → (b : s.Atom) × (others : List s.Atom) × Removed b body others × inside b
  pub old : (c : s.Clause) → live' c → live c

-- k goes, and has no instance, or k' with the same instances and the same mark is live in its place
pub record Keeps (s : Setting) (live live' : s.Clause → Type 0) (k : s.Clause) : Type 0 where
  pub was : live k
  pub kept : (c : s.Clause) → live c → (c ≡ k) ⊎ live' c
  pub instead : (a : s.Atom) (body : List s.Atom) → s.instance_of k a body → (k' : s.Clause) × live' k' × (s.mark k' ≡ s.mark k) × s.instance_of k' a body
  pub old : (c : s.Clause) → live' c → live c ⊎ ((s.mark c ≡ s.mark k) × ((a : s.Atom) (body : List s.Atom) → s.instance_of c a body → s.instance_of k a body))

-- with the atoms of one more predicate counted as defined
abbrev pub now_defined : (s : Setting) → (s.Atom → Bool) → Setting
now_defined s defined' = record s { defined = defined' }

-- n is the first clause of a predicate that no old clause speaks of, and old clauses alone are in its body
pub record Defines (s : Setting) (defined' : s.Atom → Bool) (base live : s.Clause → Type 0) (n : s.Clause) (old : s.Atom → Type 0) : Type 0 where
  -- old programs speak of old atoms alone
  pub base_head : (c : s.Clause) (a : s.Atom) (body : List s.Atom) → base c → s.instance_of c a body → old a
  pub base_body : (c : s.Clause) (a : s.Atom) (body : List s.Atom) → base c → s.instance_of c a body → AllByRecursion old body
  pub live_head : (c : s.Clause) (a : s.Atom) (body : List s.Atom) → live c → s.instance_of c a body → old a
  pub live_body : (c : s.Clause) (a : s.Atom) (body : List s.Atom) → live c → s.instance_of c a body → AllByRecursion old body
  pub same : (a : s.Atom) → old a → defined' a ≡ s.defined a
  -- the definition
  pub fresh : (a : s.Atom) (body : List s.Atom) → s.instance_of n a body → old a → ⊥
  pub new_head : (a : s.Atom) (body : List s.Atom) → s.instance_of n a body → defined' a ≡ true
  pub new_body : (a : s.Atom) (body : List s.Atom) → s.instance_of n a body → AllByRecursion (λ b. defined' b ≡ false) body
  pub unmarked : s.mark n ≡ false

-- one clause more
abbrev pub With : (s : Setting) → (s.Clause → Type 0) → s.Clause → s.Clause → Type 0
With s program n c = program c ⊎ (c ≡ n)
