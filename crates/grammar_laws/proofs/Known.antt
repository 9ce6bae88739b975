-- What is known of a clause that is evaluated: its variables have numbers and sorts, and its parts are over them.
use Rattle.std.proofs.Common.{◌≡◌, ◌≢◌, ℕ, ◌+◌, ◌-◌, ◌<◌, ◌≤◌, List, [], ◌∷◌, ◌++◌, length, get_or, set, nat_eq, Bool, true, false, refl, sym, ◌∙◌, ap, subst, arith, length-set}
use Rattle.std.specs.Prelude.{All, if◌then◌else◌}
use Rattle.std.proofs.lemmas.List.Elements.{All-weaker}
use Rattle.std.proofs.lemmas.List.{get_or-set_same, get_or-set_other}
use Rattle.std.proofs.lemmas.Bool.{eqb-true, eqb-false}
use Rattle.clp_model.specs.declared.sort.Sort.{Sort}
use Rattle.clp_model.specs.declared.sort.Sort.TheVariants.{Any, Num}
use Rattle.clp_model.specs.declared.tree.Tree.{Tree}
use Rattle.clp_model.specs.Trees.{variables}
use Rattle.clp_model.specs.Clauses.{Row}
use Rattle.clause_model.specs.Variables.{row_variables}
use Rattle.clause_store.specs.Stored.{IsNum}
use Rattle.clause_loader.specs.WellFormed.{IsNumber, IsNarrowAtom}
use Rattle.standing_model.specs.Names.{is_short, is_ordinary}
use Rattle.name_laws.specs.Names.{HasNames, IsAtomOver}
use Rattle.clp_grammar.specs.Terms.{Meaning, number_in, with_new, with_name, met, with_num, met_num}
use Rattle.draft_laws.specs.Formed.{IsNumbered}
use Rattle.grammar_laws.proofs.Sorts.{Widens, same_sorts, widens, one_more, pushed, made_num, num_made}
use Rattle.grammar_laws.proofs.Rows.{IsRowOver}

-- ---- the parts of a clause

-- a term over this many variables whose names are short
pub record IsTerm (count : ℕ) (t : Tree ℕ) : Type 0 where
  pub numbered : All (IsNumber count) (variables t)
  pub names : HasNames is_short t

-- an atom over them that can be kept
pub record IsAtom (count : ℕ) (t : Tree ℕ) : Type 0 where
  pub numbered : All (IsNumber count) (variables t)
  pub narrow : IsNarrowAtom t
  pub over : IsAtomOver is_short is_ordinary t

-- both sides are terms over them
pub record AreSides (count : ℕ) (e : Tree ℕ × Tree ℕ) : Type 0 where
  pub first : IsTerm count e.0
  pub second : IsTerm count e.1

-- equations, rows and atoms over variables of these sorts
pub record AreParts (sorts : List Sort) (equations : List (Tree ℕ × Tree ℕ)) (rows : List Row) (atoms : List (Tree ℕ)) : Type 0 where
  pub sides_over : All (AreSides (length sorts)) equations
  pub rows_over : All (IsRowOver (IsNum sorts)) rows
  pub atoms_over : All (IsAtom (length sorts)) atoms

pub number_wider : (m n : ℕ) → m ≤ n → (vs : List ℕ) → All (IsNumber m) vs → All (IsNumber n) vs
number_wider m n w vs h = All-weaker (IsNumber m) (IsNumber n) (λ v k. (k.0, omega (arith, k.1, w))) vs h

pub term_wider : (m n : ℕ) → m ≤ n → (t : Tree ℕ) → IsTerm m t → IsTerm n t
term_wider m n w t h = record { numbered = number_wider m n w (variables t) h.numbered; names = h.names }

pub atom_wider : (m n : ℕ) → m ≤ n → (t : Tree ℕ) → IsAtom m t → IsAtom n t
atom_wider m n w t h = record { numbered = number_wider m n w (variables t) h.numbered; narrow = h.narrow; over = h.over }

sides_wider : (m n : ℕ) → m ≤ n → (e : Tree ℕ × Tree ℕ) → AreSides m e → AreSides n e
sides_wider m n w e h = record { first = term_wider m n w e.0 h.first; second = term_wider m n w e.1 h.second }

pub row_wider : (s t : List Sort) → Widens s t → (r : Row) → IsRowOver (IsNum s) r → IsRowOver (IsNum t) r
row_wider s t w r h = record { kept = h.kept; variables = All-weaker (IsNum s) (IsNum t) w.nums (row_variables r) h.variables }

parts_wider : (s t : List Sort) → Widens s t → (equations : List (Tree ℕ × Tree ℕ)) (rows : List Row) (atoms : List (Tree ℕ)) → AreParts s equations rows atoms → AreParts t equations rows atoms
parts_wider s t w equations rows atoms h = record {
  sides_over = All-weaker (AreSides (length s)) (AreSides (length t)) (λ e k. sides_wider (length s) (length t) w.longer e k) equations h.sides_over;
  rows_over = All-weaker (IsRowOver (IsNum s)) (IsRowOver (IsNum t)) (λ r k. row_wider s t w r k) rows h.rows_over;
  atoms_over = All-weaker (IsAtom (length s)) (IsAtom (length t)) (λ a k. atom_wider (length s) (length t) w.longer a k) atoms h.atoms_over;
}

-- ---- what is known, and how it grows

-- of a clause with this many names
pub record IsKnown (count : ℕ) (m : Meaning) : Type 0 where
  pub names : length m.numbers ≡ count
  pub numbers : (n : ℕ) → number_in m n ≤ length m.sorts
  pub parts : AreParts m.sorts m.equations m.rows m.atoms

-- names keep their variables, and variables that are numbers stay so
pub record Grows (m k : Meaning) : Type 0 where
  pub sorts : Widens m.sorts k.sorts
  pub numbers : (n : ℕ) → 0 < number_in m n → number_in k n ≡ number_in m n

pub record Step (count : ℕ) (m k : Meaning) : Type 0 where
  pub grows : Grows m k
  pub known : IsKnown count k

pub stays : (count : ℕ) (m : Meaning) → IsKnown count m → Step count m m
stays count m h = record { grows = record { sorts = same_sorts m.sorts; numbers = λ n p. refl }; known = h }

pub grows : (l m n : Meaning) → Grows l m → Grows m n → Grows l n
grows l m n g h = record {
  sorts = widens l.sorts m.sorts n.sorts g.sorts h.sorts;
  numbers = λ k p. let e = g.numbers k p in h.numbers k (omega (arith, p, e)) ∙ e;
}

pub steps : (count : ℕ) (l m n : Meaning) → Step count l m → Step count m n → Step count l n
steps count l m n g h = record { grows = grows l m n g.grows h.grows; known = h.known }

-- the name has a variable that is a number
abbrev pub IsMetNum : Meaning → ℕ → Type 0
IsMetNum m n = IsNum m.sorts (number_in m n)

pub still_met : (m k : Meaning) → Grows m k → (n : ℕ) → IsMetNum m n → IsMetNum k n
still_met m k g n h = subst (IsNum k.sorts) (sym (g.numbers n h.positive)) (g.sorts.nums (number_in m n) h)

-- ---- new variables

pub new_step : (count : ℕ) (m : Meaning) (sort : Sort) → IsKnown count m → Step count m (with_new sort m)
new_step count m sort h = record {
  grows = record { sorts = pushed m.sorts sort; numbers = λ n p. refl };
  known = record {
    names = h.names;
    numbers = λ n. omega (arith, h.numbers n, one_more m.sorts sort);
    parts = parts_wider m.sorts (m.sorts ++ sort ∷ []) (pushed m.sorts sort) m.equations m.rows m.atoms h.parts;
  };
}

module _ (count : ℕ) (m : Meaning) (known : IsKnown count m) (n : ℕ) (numbered : IsNumbered count n) (unmet : number_in m n ≡ 0) where
  here : number_in (with_name n m) n ≡ length m.sorts + 1
  unfolding with_name
  here = get_or-set_same m.numbers (n - 1) (length m.sorts + 1) 0 (let e = known.names in let l = numbered.0 in let w = numbered.1 in omega arith)

  elsewhere : (k : ℕ) → k - 1 ≢ n - 1 → number_in (with_name n m) k ≡ number_in m k
  unfolding with_name
  elsewhere k d = get_or-set_other m.numbers (n - 1) (k - 1) (length m.sorts + 1) 0 d

  bounded : (k : ℕ) → number_in (with_name n m) k ≤ length m.sorts + 1
  unfolding with_name
  bounded k = by (nat_eq (k - 1) (n - 1)) refl
    where
      by : (b : Bool) → nat_eq (k - 1) (n - 1) ≡ b → number_in (with_name n m) k ≤ length m.sorts + 1
      by true e =
          let same : k - 1 ≡ n - 1 = eqb-true (k - 1) (n - 1) e in
          let at : number_in (with_name n m) k ≡ number_in (with_name n m) n = ap (λ (j : ℕ). get_or (set m.numbers (n - 1) (length m.sorts + 1)) j 0) same in
          omega (arith, at, here)
      by false e = omega (arith, elsewhere k (eqb-false (k - 1) (n - 1) e), known.numbers k)

  kept : (k : ℕ) → 0 < number_in m k → number_in (with_name n m) k ≡ number_in m k
  kept k p = elsewhere k (λ same. let at : number_in m k ≡ number_in m n = ap (λ (j : ℕ). get_or m.numbers j 0) same in absurd (omega (arith, at, unmet, p)))

  name_step : Step count m (with_name n m)
  unfolding with_name
  name_step = record {
    grows = record { sorts = pushed m.sorts Any; numbers = kept };
    known = record {
      names = length-set m.numbers (n - 1) (length m.sorts + 1) ∙ known.names;
      numbers = λ k. omega (arith, bounded k, one_more m.sorts Any);
      parts = parts_wider m.sorts (m.sorts ++ Any ∷ []) (pushed m.sorts Any) m.equations m.rows m.atoms known.parts;
    };
  }

-- the name has a variable
pub met_step : (count : ℕ) (m : Meaning) → IsKnown count m → (n : ℕ) → IsNumbered count n → Step count m (met n m) × (0 < number_in (met n m) n)
unfolding met
met_step count m h n numbered = by (nat_eq (number_in m n) 0) refl
  where
    by : (b : Bool) → nat_eq (number_in m n) 0 ≡ b → (let k : Meaning = if b then with_name n m else m in Step count m k × (0 < number_in k n))
    by true e =
        let unmet : number_in m n ≡ 0 = eqb-true (number_in m n) 0 e in
        (name_step count m h n numbered unmet, omega (arith, here count m h n numbered unmet))
    by false e = let other = eqb-false (number_in m n) 0 e in (stays count m h, omega arith)

num_step : (count : ℕ) (m : Meaning) → IsKnown count m → (v : ℕ) → Step count m (with_num v m)
num_step count m h v = record {
  grows = record { sorts = made_num m.sorts (v - 1); numbers = λ n p. refl };
  known = record {
    names = h.names;
    numbers = λ n. omega (arith, h.numbers n, length-set m.sorts (v - 1) Num);
    parts = parts_wider m.sorts (set m.sorts (v - 1) Num) (made_num m.sorts (v - 1)) m.equations m.rows m.atoms h.parts;
  };
}

-- the name has a variable that is a number
pub met_num_step : (count : ℕ) (m : Meaning) → IsKnown count m → (n : ℕ) → IsNumbered count n → Step count m (met_num n m) × IsMetNum (met_num n m) n
unfolding met_num
met_num_step count m h n numbered =
    let one = met_step count m h n numbered in
    let v = number_in (met n m) n in (
      steps count m (met n m) (with_num v (met n m)) one.0 (num_step count (met n m) one.0.known v),
      num_made (met n m).sorts v one.1 (one.0.known.numbers n),
    )
