-- The text of clauses and programs.
use Rattle.std.specs.Prelude.{ℕ, List, [], ◌∷◌, ◌++◌, map, codes}
use Rattle.clp_model.specs.Clauses.{Clause}
use Rattle.clause_model.specs.Variables.{loose_nums}
use Rattle.print_model.specs.Joined.{joined}
use Rattle.print_model.specs.Terms.{variable_text, atom_text}
use Rattle.print_model.specs.Rows.{row_text}

-- the constraint that a variable is a number
abbrev pub num_text : ℕ → List ℕ
num_text n = codes "num(" ++ (variable_text n ++ codes ")")

-- the rows in order, and then that the Num variables in no row are numbers, by rising number
abbrev pub constraints : Clause → List (List ℕ)
constraints c = map row_text c.rows ++ map num_text (loose_nums c)

-- no goal, or all constraints in one pair of braces
abbrev pub braces : List (List ℕ) → List (List ℕ)
braces [] = []
braces (x ∷ xs) = (joined (codes "{") (codes ", ") (x ∷ xs) ++ codes "}") ∷ []

-- the constraints and then the atoms
abbrev pub goals : Clause → List (List ℕ)
goals c = braces (constraints c) ++ map atom_text c.body

-- `.` and a line feed
abbrev pub end_text : List ℕ
end_text = 46 ∷ 10 ∷ []

-- the head, ` :- ` and the goals if there are any, and the end
unfoldable pub clause_text : Clause → List ℕ
clause_text c = atom_text c.head ++ (joined (codes " :- ") (codes ", ") (goals c) ++ end_text)

-- the clauses in their order
unfoldable pub program_text : List Clause → List ℕ
program_text [] = []
program_text (c ∷ cs) = clause_text c ++ program_text cs
