-- Worked examples of clauses that are read.
use Rattle.std.specs.Prelude.{◌≡◌, ℕ, pos, neg_ℤ, List, [], ◌∷◌, codes, Ok}
use Rattle.clp_model.specs.declared.sort.Sort.TheVariants.{Any, Num}
use Rattle.clp_model.specs.declared.sort.Rel.TheVariants.{Eq, Le, Lt}
use Rattle.clp_model.specs.declared.tree.Tree.{Tree, Var, App}
use Rattle.clause_store.specs.declared.source.SourceClause.{SourceClause}
use Rattle.clp_grammar.specs.Grammar.{program, goal_text, clause_at}

-- the text is this one clause
abbrev pub IsClause : List ℕ → SourceClause → Type 0
IsClause text c = program text ≡ Ok (c ∷ [])

abbrev pub cell : Tree ℕ → Tree ℕ → Tree ℕ
cell first rest = App (codes ".") (first ∷ rest ∷ [])

abbrev pub nil : Tree ℕ
nil = App (codes "[]") []

abbrev pub AFact : Type 0
AFact = IsClause (codes "p(X,'q r',X).")
    (record { head = App (codes "p") (Var 1 ∷ App (codes "q r") [] ∷ Var 1 ∷ []); equations = []; rows = []; atoms = []; sorts = Any ∷ [] })

-- a number as an argument is a new variable with a row, and a directive is passed over
abbrev pub ListsAndNumbers : Type 0
ListsAndNumbers = IsClause (codes ":- any([(thing. len([],0).")
    (record { head = App (codes "len") (nil ∷ Var 1 ∷ []); equations = []; rows = record { rel = Eq; pairs = (1, pos 1) ∷ []; constant = pos 0 } ∷ []; atoms = []; sorts = Num ∷ [] })

-- `T = [X|L]` is an equation of terms, and in `N = M+1` the right side is a number
abbrev pub BarList : Type 0
BarList = IsClause (codes "len(T,N) :- T = [X|L], N = M+1, len(L,M).")
    (record {
      head = App (codes "len") (Var 1 ∷ Var 2 ∷ []);
      equations = (Var 1, cell (Var 3) (Var 4)) ∷ (Var 2, Var 6) ∷ [];
      rows = record { rel = Eq; pairs = (5, pos 1) ∷ (6, neg_ℤ (pos 1)) ∷ []; constant = pos 1 } ∷ [];
      atoms = App (codes "len") (Var 4 ∷ Var 5 ∷ []) ∷ [];
      sorts = Any ∷ Any ∷ Any ∷ Any ∷ Num ∷ Num ∷ [];
    })

-- `>` and `>=` take the left side from the right one
abbrev pub Relations : Type 0
Relations = IsClause (codes "p :- {X > 3, 1/2*X =< Y-2}, X < Y.")
    (record {
      head = App (codes "p") [];
      equations = [];
      rows =
          record { rel = Lt; pairs = (1, neg_ℤ (pos 1)) ∷ []; constant = pos 3 }
          ∷ record { rel = Le; pairs = (1, pos 1) ∷ (2, neg_ℤ (pos 2)) ∷ []; constant = pos 4 }
          ∷ record { rel = Lt; pairs = (1, pos 1) ∷ (2, neg_ℤ (pos 1)) ∷ []; constant = pos 0 } ∷ [];
      atoms = [];
      sorts = Num ∷ Num ∷ [];
    })

-- `num` in braces with no relation after it makes a variable a number; outside it is a predicate, and `true` stands for nothing
abbrev pub SortConstraint : Type 0
SortConstraint = IsClause (codes "p(X,Y) :- {num(X)}, true, num(Y).")
    (record { head = App (codes "p") (Var 1 ∷ Var 2 ∷ []); equations = []; rows = []; atoms = App (codes "num") (Var 2 ∷ []) ∷ []; sorts = Num ∷ Any ∷ [] })

-- an argument that is computed is a new variable, numbered after those of its expression
abbrev pub ComputedArgument : Type 0
ComputedArgument = IsClause (codes "p(f(X-1),Y).")
    (record {
      head = App (codes "p") (App (codes "f") (Var 2 ∷ []) ∷ Var 3 ∷ []);
      equations = [];
      rows = record { rel = Eq; pairs = (1, pos 1) ∷ (2, neg_ℤ (pos 1)) ∷ []; constant = neg_ℤ (pos 1) } ∷ [];
      atoms = [];
      sorts = Num ∷ Num ∷ Any ∷ [];
    })

-- the clause `q`, which stands at byte 3 of a text
abbrev pub GoalAndClause : Type 0
GoalAndClause =
    let q : SourceClause = record { head = App (codes "q") []; equations = []; rows = []; atoms = []; sorts = [] } in
    (goal_text (codes " q ") ≡ Ok q) × (clause_at (codes "p. q. r") 2 ≡ Ok (q, 5))
