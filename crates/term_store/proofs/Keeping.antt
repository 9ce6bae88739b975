-- What was true of terms stays true in a store that keeps them.
use Rattle.std.proofs.Common.{◌≡◌, ℕ, ◌+◌, ◌<◌, ◌≤◌, List, [], ◌∷◌, ◌++◌, length, take, drop, get_or, refl, ap, ◌∙◌, sym, subst, arith, append_assoc, add-one}
use Rattle.std.proofs.lemmas.Grind.{common_steps}
use Rattle.std.proofs.lemmas.List.{take_more}
use Rattle.std.proofs.Math.ListN.{get_or-append}
use Rattle.std.proofs.Math.Seq.{drop-cons}
use Rattle.clp_model.specs.declared.sort.Sort.TheVariants.{Any}
use Rattle.clp_model.specs.declared.tree.Variable.{Variable}
use Rattle.clp_model.specs.declared.tree.Tree.{Tree}
use Rattle.clp_model.specs.Trees.{total_size}
use Rattle.term_store.specs.Trees.{variable, tree_at, trees_at, AreIn, Keeps, HasTree, HaveTrees}

pub keeps_refl : (a : List (Tree Variable)) → Keeps a a
keeps_refl a = record { more = []; is = grind (arith, common_steps) }

pub keeps_trans : (a b c : List (Tree Variable)) → Keeps a b → Keeps b c → Keeps a c
keeps_trans a b c p q = record { more = p.more ++ q.more; is = q.is ∙ ap (λ v. v ++ q.more) p.is ∙ append_assoc a p.more q.more }

pub keeps_length : (old new : List (Tree Variable)) → Keeps old new → length old ≤ length new
keeps_length old new k = rw k.is (grind (arith, common_steps))

pub keeps_at : (old new : List (Tree Variable)) → Keeps old new → (p : ℕ) → p < length old → tree_at new p ≡ tree_at old p
keeps_at old new k p h = rw k.is (get_or-append old k.more (variable 0 Any) p h)

pub keeps_all : (old new : List (Tree Variable)) → Keeps old new → (ps : List ℕ) → AreIn old ps → trees_at new ps ≡ trees_at old ps
keeps_all old new k [] h = refl
keeps_all old new k (p ∷ ps) h = let one = keeps_at old new k p h.0 in let rest = keeps_all old new k ps h.1 in cc

pub keeps_within : (old new : List (Tree Variable)) → Keeps old new → (p : ℕ) → p < length old → p < length new
keeps_within old new k p h = omega (arith, keeps_length old new k)

pub keeps_in : (old new : List (Tree Variable)) → Keeps old new → (ps : List ℕ) → AreIn old ps → AreIn new ps
keeps_in old new k [] h = tt
keeps_in old new k (p ∷ ps) h = (keeps_within old new k p h.0, keeps_in old new k ps h.1)

pub has_tree_kept : (old new : List (Tree Variable)) (p : ℕ) (t : Tree Variable) → Keeps old new → HasTree old p t → HasTree new p t
has_tree_kept old new p t k h = record { within = keeps_within old new k p h.within; is = keeps_at old new k p h.within ∙ h.is }

pub have_trees_kept : (old new : List (Tree Variable)) (ps : List ℕ) (ts : List (Tree Variable)) → Keeps old new → HaveTrees old ps ts → HaveTrees new ps ts
have_trees_kept old new ps ts k h = record { within = keeps_in old new k ps h.within; are = keeps_all old new k ps h.within ∙ h.are }

pub trees_at_push : (store : List (Tree Variable)) (ps : List ℕ) (p : ℕ) → trees_at store (ps ++ p ∷ []) ≡ trees_at store ps ++ tree_at store p ∷ []
trees_at_push store [] p = refl
trees_at_push store (q ∷ ps) p = ap (λ v. tree_at store q ∷ v) (trees_at_push store ps p)

pub are_in_push : (store : List (Tree Variable)) (ps : List ℕ) (p : ℕ) → AreIn store ps → p < length store → AreIn store (ps ++ p ∷ [])
are_in_push store [] p h k = (k, tt)
are_in_push store (q ∷ ps) p h k = (h.0, are_in_push store ps p h.1 k)

-- one more term with its tree
pub have_push : (old new : List (Tree Variable)) (ps : List ℕ) (ts : List (Tree Variable)) (p : ℕ) (t : Tree Variable) → HaveTrees old ps ts → Keeps old new → HasTree new p t → HaveTrees new (ps ++ p ∷ []) (ts ++ t ∷ [])
have_push old new ps ts p t have keeps has =
    let kept = keeps_all old new keeps ps have.within in
    record {
      within = are_in_push new ps p (keeps_in old new keeps ps have.within) has.within;
      are = trees_at_push new ps p ∙ ap (λ v. v ++ tree_at new p ∷ []) (kept ∙ have.are) ∙ ap (λ v. ts ++ v ∷ []) has.is;
    }

-- the trees of the terms up to the next
pub trees_at_more : (store : List (Tree Variable)) (args : List ℕ) (i arg : ℕ) → i < length args → arg ≡ get_or args i arg → trees_at store (take (i + 1) args) ≡ trees_at store (take i args) ++ tree_at store arg ∷ []
trees_at_more store args i arg within item =
    ap (trees_at store) (take_more args i arg within) ∙ trees_at_push store (take i args) (get_or args i arg) ∙ ap (λ n. trees_at store (take i args) ++ tree_at store n ∷ []) (sym item)

-- the rest after one more
pub rest_in : (from : List (Tree Variable)) (args : List ℕ) (i : ℕ) → i < length args → AreIn from (drop i args) → AreIn from (drop (i + 1) args)
rest_in from args i within all =
    let P : ℕ → Type 0 = λ n. AreIn from (drop n args) in
    let Q : List ℕ → Type 0 = AreIn from in
    subst P (sym (add-one i)) ((subst Q (drop-cons args i 0 within) all).1)

pub rest_size : (from : List (Tree Variable)) (args : List ℕ) (i : ℕ) → i < length args → total_size (trees_at from (drop (i + 1) args)) ≤ total_size (trees_at from (drop i args))
rest_size from args i within =
    omega (arith, ap (λ v. total_size (trees_at from v)) (drop-cons args i 0 within), ap (λ n. total_size (trees_at from (drop n args))) (add-one i))
