-- Pairs whose store grows.
use Rattle.std.proofs.Common.{ℕ, zero, suc, ◌≡◌, arith, get_or, ◌<◌, List, [], ◌∷◌, ◌++◌, length}
use Rattle.clp_model.specs.declared.tree.Variable.{Variable}
use Rattle.clp_model.specs.declared.tree.Tree.{Tree}
use Rattle.term_store.specs.Trees.{AreIn, Keeps}
use Rattle.term_store.proofs.Keeping.{keeps_within}
use Rattle.unify.specs.Pairs.{PairsIn}

pub pairs_kept : (old new : List (Tree Variable)) (pairs : List (ℕ × ℕ)) → Keeps old new → PairsIn old pairs → PairsIn new pairs
pairs_kept old new [] k h = tt
pairs_kept old new (p ∷ ps) k h = ((keeps_within old new k p.0 h.0.0, keeps_within old new k p.1 h.0.1), pairs_kept old new ps k h.1)

pub pairs_push : (store : List (Tree Variable)) (pairs : List (ℕ × ℕ)) (a b : ℕ) → PairsIn store pairs → a < length store → b < length store → PairsIn store (pairs ++ (a, b) ∷ [])
pairs_push store [] a b h k l = ((k, l), tt)
pairs_push store (p ∷ ps) a b h k l = (h.0, pairs_push store ps a b h.1 k l)

pub term_at : (store : List (Tree Variable)) (ts : List ℕ) (i t : ℕ) → AreIn store ts → i < length ts → t ≡ get_or ts i t → t < length store
term_at store [] i t h lt e = absurd (omega (arith, lt))
term_at store (x ∷ xs) zero t h lt e = omega (arith, e, h.0)
term_at store (x ∷ xs) (suc i) t h lt e = term_at store xs i t h.1 (omega (arith, lt)) e
