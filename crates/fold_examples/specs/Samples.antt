-- Clauses of the examples.
use Rattle.std.specs.Prelude.{ℕ, pos, negsuc, List, [], ◌∷◌, codes}
use Rattle.clp_model.specs.declared.sort.Sort.{Sort}
use Rattle.clp_model.specs.declared.sort.Sort.TheVariants.{Any, Num}
use Rattle.clp_model.specs.declared.sort.Rel.TheVariants.{Lt}
use Rattle.clp_model.specs.declared.tree.Tree.{Tree, Var, App}
use Rattle.clp_model.specs.declared.tree.Variable.{Variable}
use Rattle.clp_model.specs.Clauses.{Clause, Row}
use Rattle.unify_model.specs.Substituting.{Binding}

abbrev pub atom : List ℕ → List (Tree ℕ) → Tree ℕ
atom name args = App name args

abbrev pub x1 : Tree ℕ
x1 = Var 1

abbrev pub x2 : Tree ℕ
x2 = Var 2

abbrev pub x3 : Tree ℕ
x3 = Var 3

abbrev pub clause : Tree ℕ → List Row → List (Tree ℕ) → List Sort → Clause
clause head rows body sorts = record { head = head; equations = []; rows = rows; body = body; sorts = sorts }

abbrev pub h : List ℕ
h = codes "h"

abbrev pub n : List ℕ
n = codes "n"

abbrev pub p : List ℕ
p = codes "p"

abbrev pub len : List ℕ
len = codes "len"

abbrev pub sum : List ℕ
sum = codes "sum"

-- -V2 + 3 < 0
abbrev pub above_three : Row
above_three = record { rel = Lt; pairs = (2, negsuc 0) ∷ []; constant = pos 3 }

-- -V2 < 0
abbrev pub above_zero : Row
above_zero = record { rel = Lt; pairs = (2, negsuc 0) ∷ []; constant = pos 0 }

-- both(V1,V2,V3) :- len(V1,V2), sum(V1,V3).
abbrev pub both : Clause
both = clause (atom (codes "both") (x1 ∷ x2 ∷ x3 ∷ [])) [] (atom len (x1 ∷ x2 ∷ []) ∷ atom sum (x1 ∷ x3 ∷ []) ∷ []) (Any ∷ Num ∷ Num ∷ [])

-- h(V1) :- sum(V1,V2), len(V1,V3).
abbrev pub sum_and_len : Clause
sum_and_len = clause (atom h (x1 ∷ [])) [] (atom sum (x1 ∷ x2 ∷ []) ∷ atom len (x1 ∷ x3 ∷ []) ∷ []) (Any ∷ Num ∷ Num ∷ [])

abbrev pub number : ℕ → Variable
number k = record { number = k; sort = Num }

abbrev pub any : ℕ → Variable
any k = record { number = k; sort = Any }

-- what the variables of `both` become in it
abbrev pub turned : List Binding
turned = (any 1, Var (any 1)) ∷ (number 2, Var (number 3)) ∷ (any 1, Var (any 1)) ∷ (number 3, Var (number 2)) ∷ []

-- h(V1,V2) :- p(V1,V2).
abbrev pub both_in_head : Clause
both_in_head = clause (atom h (x1 ∷ x2 ∷ [])) [] (atom p (x1 ∷ x2 ∷ []) ∷ []) (Any ∷ Any ∷ [])

-- h(V1) :- {-V2 + 3 < 0}, p(V1,V2).
abbrev pub bounded : Clause
bounded = clause (atom h (x1 ∷ [])) (above_three ∷ []) (atom p (x1 ∷ x2 ∷ []) ∷ []) (Any ∷ Num ∷ [])

-- n(V1) :- p(V1,V2).
abbrev pub inner_any : Clause
inner_any = clause (atom n (x1 ∷ [])) [] (atom p (x1 ∷ x2 ∷ []) ∷ []) (Any ∷ Any ∷ [])

-- n(V1) :- {num(V2)}, p(V1,V2).
abbrev pub inner_number : Clause
inner_number = clause (atom n (x1 ∷ [])) [] (atom p (x1 ∷ x2 ∷ []) ∷ []) (Any ∷ Num ∷ [])

-- n(V1) :- {-V2 < 0}, p(V1,V2).
abbrev pub inner_bounded : Clause
inner_bounded = clause (atom n (x1 ∷ [])) (above_zero ∷ []) (atom p (x1 ∷ x2 ∷ []) ∷ []) (Any ∷ Num ∷ [])

-- n(V1,V2) :- {-V2 < 0}, p(V1,V1).
abbrev pub row_alone : Clause
row_alone = clause (atom n (x1 ∷ x2 ∷ [])) (above_zero ∷ []) (atom p (x1 ∷ x1 ∷ []) ∷ []) (Any ∷ Num ∷ [])

-- what becomes of a variable where each becomes the variable of its number
abbrev pub same : ℕ → Tree ℕ
same x = Var x
