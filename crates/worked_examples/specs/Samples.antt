-- Names, values and clauses of the examples.
use Rattle.std.specs.Prelude.{ℕ, List, [], ◌∷◌, map, codes, Some}
use Rattle.clp_model.specs.declared.sort.Sort.{Sort}
use Rattle.clp_model.specs.declared.sort.Sort.TheVariants.{Any}
use Rattle.clp_model.specs.declared.tree.Tree.{Tree, Var, App}
use Rattle.clp_model.specs.Values.{Value, Named, NoValue, AndValue, GroundAtom}
use Rattle.clp_model.specs.Clauses.{Clause}
use Rattle.clp_model.specs.Predicates.{initial_predicates}
use Rattle.map_model.specs.State.{State, start_state}

-- ---- names
abbrev pub f : List ℕ
f = codes "f"

abbrev pub p : List ℕ
p = codes "p"

abbrev pub q : List ℕ
q = codes "q"

abbrev pub r : List ℕ
r = codes "r"

abbrev pub a : List ℕ
a = codes "a"

abbrev pub b : List ℕ
b = codes "b"

-- ---- values and ground atoms
-- the value that a constant stands for
abbrev pub constant : List ℕ → Value
constant name = Named name NoValue

-- a ground atom with one argument
abbrev pub ground : List ℕ → Value → GroundAtom
ground name v = record { name = name; args = AndValue v NoValue }

-- ---- clauses
-- a clause without equations and rows
abbrev pub rule : Tree ℕ → List (Tree ℕ) → List Sort → Clause
rule head body sorts = record { head = head; equations = []; rows = []; body = body; sorts = sorts }

-- p(V1) :- q(V1).
abbrev pub one_goal : Clause
one_goal = rule (App p (Var 1 ∷ [])) (App q (Var 1 ∷ []) ∷ []) (Any ∷ [])

-- q(a).
abbrev pub fact : Clause
fact = rule (App q (App a [] ∷ [])) [] []

-- p(V1) :- q(V1).  q(a).
abbrev pub two_clauses : List Clause
two_clauses = one_goal ∷ fact ∷ []

-- the start state of a program of clauses
abbrev pub start : List Clause → State
start cs = start_state (map Some cs) (initial_predicates cs)
