-- Worked examples of printed clauses.
use Rattle.std.specs.Prelude.{◌≡◌, ℕ, pos, neg_ℤ, List, [], ◌∷◌, ◌++◌, codes}
use Rattle.clp_model.specs.declared.sort.Sort.{Sort}
use Rattle.clp_model.specs.declared.sort.Sort.TheVariants.{Any, Num}
use Rattle.clp_model.specs.declared.sort.Rel.TheVariants.{Eq, Le, Lt}
use Rattle.clp_model.specs.declared.tree.Tree.{Tree, Var, App}
use Rattle.clp_model.specs.Clauses.{Clause, Row}
use Rattle.print_model.specs.Clauses.{clause_text}

-- the clause of a head, rows, body atoms and sorts
abbrev pub clause : Tree ℕ → List Row → List (Tree ℕ) → List Sort → Clause
clause head rows body sorts = record { head = head; equations = []; rows = rows; body = body; sorts = sorts }

-- the constants `a` and `b`, the empty list, and the list of a first element and what follows
abbrev pub a : Tree ℕ
a = App (codes "a") []

abbrev pub b : Tree ℕ
b = App (codes "b") []

abbrev pub nil : Tree ℕ
nil = App (codes "[]") []

abbrev pub cell : Tree ℕ → Tree ℕ → Tree ℕ
cell first follows = App (codes ".") (first ∷ follows ∷ [])

-- `.` and a line feed
abbrev pub end : List ℕ
end = 46 ∷ 10 ∷ []

-- neither arguments nor goals
abbrev pub AFact : Type 0
AFact = clause_text (clause (App (codes "halt") []) [] [] []) ≡ codes "halt" ++ end

-- `[]` and `.` with another number of arguments than lists have are quoted
abbrev pub Lists : Type 0
Lists =
    clause_text (clause
    (App (codes "p") (nil ∷ cell a (cell b nil) ∷ cell a (cell (Var 1) b) ∷ cell (cell a nil) nil ∷ App (codes "[]") (a ∷ []) ∷ App (codes ".") (a ∷ []) ∷ []))
    [] (App (codes "q") (Var 1 ∷ Var 12 ∷ []) ∷ []) [])
    ≡ codes "p([],[a,b],[a,V1|b],[[a]],'[]'(a),'.'(a)) :- q(V1,V12)" ++ end

-- an atom's own name makes no list
abbrev pub ListNamesAsPredicates : Type 0
ListNamesAsPredicates = clause_text (clause (cell a nil) [] (nil ∷ []) []) ≡ codes "'.'(a,[]) :- '[]'" ++ end

-- `it's`, a backslash, a line feed, a name that begins with a capital letter, and one of no letters
abbrev pub QuotedNames : Type 0
QuotedNames =
    clause_text (clause
    (App (codes "it's") (App (92 ∷ []) [] ∷ App (97 ∷ 10 ∷ []) [] ∷ App (codes "Abc") [] ∷ App [] [] ∷ App (codes "x_Y1") [] ∷ [])) [] [] [])
    ≡ codes "'it\\'s'('\\\\','a\\n','Abc','',x_Y1)" ++ end

-- two rows, V3 and V5 in no row, and an Any variable
abbrev pub RowsAndNums : Type 0
RowsAndNums =
    clause_text (clause
    (App (codes "p") (Var 1 ∷ []))
    (record { rel = Le; pairs = (1, neg_ℤ (pos 1)) ∷ (2, pos 2) ∷ []; constant = pos 3 } ∷ record { rel = Lt; pairs = (1, pos 3) ∷ (2, neg_ℤ (pos 1)) ∷ []; constant = pos 0 } ∷ [])
    (App (codes "q") (Var 2 ∷ Var 3 ∷ []) ∷ App (codes "r") (Var 4 ∷ Var 5 ∷ []) ∷ [])
    (Num ∷ Num ∷ Num ∷ Any ∷ Num ∷ []))
    ≡ codes "p(V1) :- {-V1 + 2*V2 + 3 =< 0, 3*V1 - V2 < 0, num(V3), num(V5)}, q(V2,V3), r(V4,V5)" ++ end

-- no row and no atom
abbrev pub NumsAlone : Type 0
NumsAlone = clause_text (clause (App (codes "p") (Var 1 ∷ [])) [] [] (Num ∷ [])) ≡ codes "p(V1) :- {num(V1)}" ++ end

-- a row without variables
abbrev pub ConstantRow : Type 0
ConstantRow =
    clause_text (clause (App (codes "p") []) (record { rel = Eq; pairs = []; constant = pos 1 } ∷ []) (App (codes "q") [] ∷ []) [])
    ≡ codes "p :- {1 = 0}, q" ++ end
