-- Loading: each source clause becomes its canonical clause, or none where its equations have no solution.
use Rattle.std.specs.Prelude.{ℕ, suc, ◌+◌, ◌||◌, Bool, false, List, [], ◌∷◌, ◌++◌, Option, Some, None, Result, Ok, Err, nat_lt, if◌then◌else◌}
use Rattle.clp_model.specs.declared.tree.Tree.{Tree}
use Rattle.clp_model.specs.declared.limit.Limit.TheVariants.{Shape, Nodes}
use Rattle.clp_model.specs.declared.predicate.Pred.{Pred}
use Rattle.clp_model.specs.Trees.{size, depth}
use Rattle.clp_model.specs.Clauses.{Clause}
use Rattle.clp_model.specs.Canonical.{clause_size}
use Rattle.clp_model.specs.Predicates.{initial_predicates}
use Rattle.clause_model.specs.Canonical.{Refusal, TooLarge, new_clause}
use Rattle.clause_model.specs.Solved.{solved_clause}

-- a tree of size above 4,096 or depth above 256
abbrev pub is_large : Tree ℕ → Bool
is_large t = nat_lt 4096 (size t) || nat_lt 256 (depth t)

abbrev pub any_side_large : List (Tree ℕ × Tree ℕ) → Bool
any_side_large [] = false
any_side_large (e ∷ es) = is_large e.0 || is_large e.1 || any_side_large es

abbrev pub made_of : Result Clause Refusal → Result (Option Clause) Refusal
made_of (Ok c) = Ok (Some c)
made_of (Err refusal) = Err refusal

abbrev pub loaded_solved : Option Clause → Result (Option Clause) Refusal
loaded_solved None = Ok None
loaded_solved (Some c) = made_of (new_clause c)

-- the clause of a source clause, None where it has no instance, or the first reason for which it is refused
unfoldable pub load_one : Clause → Result (Option Clause) Refusal
load_one c = if any_side_large c.equations then Err (TooLarge Shape) else loaded_solved (solved_clause c)

-- a place for each source clause, which is empty where the clause has no instance, and each predicate of the
-- program once, by first occurrence, those of the clauses without instance too
pub record Program : Type 0 where
  pub clauses : List (Option Clause)
  pub predicates : List Pred

-- the sizes of the clauses at these places together
abbrev pub sizes_of : List (Option Clause) → ℕ
sizes_of [] = 0
sizes_of (None ∷ cs) = sizes_of cs
sizes_of (Some c ∷ cs) = clause_size c + sizes_of cs

-- which clause is refused, from 1, and why
abbrev pub Refused : Type 0
Refused = ℕ × Refusal

-- the clauses after those that were found, whose sizes are `nodes` together; `next` goes on after this one
abbrev pub counted : ℕ → ℕ → (Option Clause → ℕ → Result (List (Option Clause)) Refused) → Result (Option Clause) Refusal → Result (List (Option Clause)) Refused
counted place nodes next (Err refusal) = Err (place, refusal)
counted place nodes next (Ok None) = next None nodes
counted place nodes next (Ok (Some c)) = if nat_lt 8388608 (nodes + clause_size c) then Err (place, TooLarge Nodes) else next (Some c) (nodes + clause_size c)

abbrev pub loaded_after : ℕ → List (Option Clause) → ℕ → List Clause → Result (List (Option Clause)) Refused
loaded_after place found nodes [] = Ok found
loaded_after place found nodes (c ∷ cs) = counted place nodes (λ d more. loaded_after (suc place) (found ++ d ∷ []) more cs) (load_one c)

abbrev pub with_predicates : List Pred → Result (List (Option Clause)) Refused → Result Program Refused
with_predicates predicates (Ok clauses) = Ok (record { clauses = clauses; predicates = predicates })
with_predicates predicates (Err refused) = Err refused

-- the program of these source clauses, or the first refused clause and why
unfoldable pub load : List Clause → Result Program Refused
load source = with_predicates (initial_predicates source) (loaded_after 1 [] 0 source)
