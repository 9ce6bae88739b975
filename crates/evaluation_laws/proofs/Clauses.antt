-- What stands for printed clauses means the sources of the clauses.
use Rattle.std.proofs.Common.{◌≡◌, ℕ, zero, suc, ◌+◌, List, [], ◌∷◌, ◌++◌, length, map, get_or, Bool, true, false, not, ◌&&◌, refl, sym, ◌∙◌, ap, subst, arith, Ok, codes, ◌⊎◌, inl, inr}
use Rattle.std.specs.Prelude.{if◌then◌else◌, nat_eq, Option, None, All}
use Rattle.std.specs.List.{list_any}
use Rattle.std.specs.Option.{option_or}
use Rattle.std.specs.Str.{bytes_eq}
use Rattle.std.proofs.lemmas.List.{append_assoc, append-nil}
use Rattle.std.proofs.lemmas.List.Elements.{All-head, All-tail}
use Rattle.token_model.specs.declared.fault.Fault.{Fault}
use Rattle.token_model.specs.Parsers.{Outcome, Parser, and_then, ◌>>◌, value_of}
use Rattle.clp_model.specs.declared.sort.Sort.{Sort}
use Rattle.clp_model.specs.declared.sort.Sort.TheVariants.{Any, Num}
use Rattle.clp_model.specs.declared.tree.Tree.{Tree, Var, App', Row_of-Tree, end_of-Tree, more_of-Tree, items-the_row-Tree}
use Rattle.clp_model.specs.Trees.{IsApplication, name_of, arguments_of, mapped, mapped_all, variables, variables_in}
use Rattle.clp_model.specs.Clauses.{Clause, Row, sort_in}
use Rattle.clp_model.specs.Canonical.{place_in}
use Rattle.clp_model.proofs.Membership.{Among, first, next, among_front, among_back, among_either, distinct_append}
use Rattle.linear_model.specs.Normal.{IsNormal, is_within}
use Rattle.linear_laws.proofs.Lists.{filter_in, filter_out}
use Rattle.unify_laws.proofs.Solved.{among_cases}
use Rattle.clause_model.specs.Variables.{rows_variables, is_num, nums_from, loose_nums, variables_as_printed}
use Rattle.clause_model.specs.Solved.{RowsAreNum}
use Rattle.clause_model.specs.Source.{source_of}
use Rattle.clause_store.specs.declared.source.SourceClause.{SourceClause}
use Rattle.clause_store.specs.Source.{meaning_of}
use Rattle.clause_laws.proofs.Rows.{all_each}
use Rattle.clause_laws.proofs.Distinct.{AreDistinct, distinct_made, found_among, among_found}
use Rattle.clause_laws.proofs.Upto.{number_equality}
use Rattle.clause_laws.proofs.Written.{written}
use Rattle.clause_laws.proofs.NewClause.{each_within}
use Rattle.clause_laws.proofs.Source.{row_is_normal}
use Rattle.clp_grammar.specs.declared.nature.Nature.{Nature}
use Rattle.clp_grammar.specs.declared.nature.Nature.TheVariants.{Atom, True}
use Rattle.clp_grammar.specs.declared.expression.Head.TheVariants as head
use Rattle.clp_grammar.specs.declared.draft.Constraint.{Constraint}
use Rattle.clp_grammar.specs.declared.draft.Goal.{Goal}
use Rattle.clp_grammar.specs.declared.draft.Goal.TheVariants as goal
use Rattle.clp_grammar.specs.Terms.{Meaning, nothing, place_of, term}
use Rattle.clp_grammar.specs.Clauses as grammar
use Rattle.clp_grammar.specs.Clauses.{nature, goal_fault, head_fault_by, call_fault_by, goals_fault, misplaced, with_atom, call_by, constrain_all, mean_all, evaluated, unless, meaning}
use Rattle.clp_grammar.proofs.Parts.{nature_node}
use Rattle.standing_model.specs.Pieces.{Piece, placed}
use Rattle.standing_model.specs.Terms as standing
use Rattle.standing_model.specs.Terms.{Standing, row_standing, piece, applied, atom}
use Rattle.standing_model.specs.Clauses.{constraints, braces, call, draft_of}
use Rattle.evaluation_laws.specs.Laws.{IsOrdinary, StandingClausesHaveTheirMeaning}
use Rattle.evaluation_laws.proofs.States.{sort_by, Known, meant, having, CanMeet, meet_front, meet_back, begins, with_variables}
use Rattle.evaluation_laws.proofs.Terms.{atom_meant}
use Rattle.evaluation_laws.proofs.Constraints.{told, told_after, told_front, told_rest, constraints_meant}

-- ---- heads and goals are atoms

atom_nature : (place : ℕ → ℕ) (t : Tree ℕ) (after : ℕ) → IsOrdinary t → nature ((atom place t).value after) ≡ Atom
unfolding atom standing.standing IsApplication name_of arguments_of
atom_nature place (Var n) after is = absurd is.0
atom_nature place (App' name shape args) after is = go _ args is.1
  where
    go : (m : _) (ts : Row_of-Tree ℕ m) → not (bytes_eq name (codes "true") && nat_eq (length (items-the_row-Tree ℕ m ts)) 0) ≡ true → nature (applied name (row_standing place ts) after) ≡ Atom
    go m end_of-Tree h = nature_node _ (head.Application name) [] ∙ by (bytes_eq name (codes "true")) h
      where
        by : (b : Bool) → not (b && true) ≡ true → (if b then True else Atom) ≡ Atom
        by true k = absurd (cc)
        by false k = refl
    go m (more_of-Tree t ts) h = nature_node _ (head.Application name) (placed (codes ",") (piece (standing.standing place t) ∷ map piece (row_standing place ts)) (1 + after))

call_well : (place : ℕ → ℕ) (t : Tree ℕ) (after : ℕ) (o : Option Fault) → IsOrdinary t → option_or (goal_fault (goal.Call ((atom place t).value after))) o ≡ o
call_well place t after o is = ap (λ n. option_or (call_fault_by (place_of ((atom place t).value after)) n) o) (atom_nature place t after is)

calls_well : (place : ℕ → ℕ) (ts : List (Tree ℕ)) (after : ℕ) → All IsOrdinary ts → goals_fault (placed (codes ", ") (map (call place) ts) after) ≡ None
calls_well place [] after ordinary = refl
calls_well place (t ∷ ts) after ordinary =
    call_well place t _ (goals_fault (placed (codes ", ") (map (call place) ts) after)) (All-head IsOrdinary t ts ordinary)
    ∙ calls_well place ts after (All-tail IsOrdinary t ts ordinary)

braces_well : (ps : List (Piece Constraint)) (calls : List (Piece Goal)) (after : ℕ) → goals_fault (placed (codes ", ") calls after) ≡ None → goals_fault (placed (codes ", ") (braces ps ++ calls) after) ≡ None
braces_well [] calls after h = h
braces_well (p ∷ ps) calls after h = h

well_placed : (c : Clause) (after : ℕ) → All IsOrdinary (c.head ∷ c.body) → misplaced (draft_of c after) ≡ None
unfolding misplaced draft_of
well_placed c after ordinary =
    let names = variables_as_printed c in
    let place = place_in names in
    let d = draft_of c after in
    let is : nature d.head ≡ Atom = atom_nature place c.head _ (All-head IsOrdinary c.head c.body ordinary) in
    ap (λ n. option_or (head_fault_by (place_of d.head) n) (goals_fault d.goals)) is
    ∙ braces_well (constraints place c) (map (call place) c.body) after (calls_well place c.body after (All-tail IsOrdinary c.head c.body ordinary))

-- ---- goals

abbrev with_atoms : List ℕ → Known → List (Tree ℕ) → Known
with_atoms names k ts = record k { atoms = k.atoms ++ mapped_all (place_in names) ts }

call_meant : (names : List ℕ) (t : Tree ℕ) (after : ℕ) (k : Known) → IsOrdinary t → CanMeet names k (variables t)
    → grammar.call ((atom (place_in names) t).value after) (meant names k) ≡ Ok (tt, meant names (with_atoms names (having k (variables t)) (t ∷ [])))
unfolding grammar.call
call_meant names t after k ordinary can =
    let e = (atom (place_in names) t).value after in
    ap (λ (n : Nature). call_by n e (meant names k)) (atom_nature (place_in names) t after ordinary)
    ∙ ap (λ (o : Outcome Meaning (Tree ℕ)). and_then o (λ u m. Ok (tt, with_atom u m))) (atom_meant names t after k can)

calls_meant : (names : List ℕ) (ts : List (Tree ℕ)) (after : ℕ) (k : Known) → All IsOrdinary ts → CanMeet names k (variables_in ts)
    → mean_all (placed (codes ", ") (map (call (place_in names)) ts) after) (meant names k) ≡ Ok (tt, meant names (with_atoms names (having k (variables_in ts)) ts))
calls_meant names [] after k ordinary can = ap (λ us. Ok (tt, meant names (record k { atoms = us }))) (sym (append-nil k.atoms))
calls_meant names (t ∷ ts) after k ordinary can =
    let place = place_in names in
    let xs = variables t in
    let ys = variables_in ts in
    let rest = placed (codes ", ") (map (call place) ts) after in
    let j = with_atoms names (having k xs) (t ∷ []) in
    let others : CanMeet names j ys = (let r = meet_back names k xs ys can in record { first = r.first; within = r.within }) in
    ap (λ (o : Outcome Meaning (Unit {0})). and_then o (λ u. mean_all rest)) (call_meant names t _ k (All-head IsOrdinary t ts ordinary) (meet_front names k xs ys can))
    ∙ calls_meant names ts after j (All-tail IsOrdinary t ts ordinary) others
    ∙ ap (λ found. Ok (tt, meant names (record k { found = found; atoms = (k.atoms ++ mapped place t ∷ []) ++ mapped_all place ts }))) (sym (distinct_append k.found xs ys))
    ∙ ap (λ us. Ok (tt, meant names (record k { found = with_variables k.found (xs ++ ys); atoms = us }))) (append_assoc k.atoms (mapped place t ∷ []) (mapped_all place ts))

braces_meant : (ps : List (Piece Constraint)) (calls : List (Piece Goal)) (after : ℕ)
    → (j : ℕ) × ((m : Meaning) → mean_all (placed (codes ", ") (braces ps ++ calls) after) m ≡ and_then (constrain_all (placed (codes ", ") ps j) m) (λ u. mean_all (placed (codes ", ") calls after)))
braces_meant [] calls after = (after, λ m. refl)
braces_meant (p ∷ ps) calls after = (_, λ m. refl)

-- ---- sorts

among_told : (nums ns : List ℕ) (n : ℕ) → Among n (told_after nums ns) → Among n nums ⊎ Among n ns
among_told nums [] n a = inl a
among_told nums (m ∷ ns) n a = elim (among_told (m ∷ nums) ns n a) [
  | inl b ↦ among_cases b (λ e. inr (subst (λ k. Among k (m ∷ ns)) (sym e) first)) (λ k. inl k)
  | inr b ↦ inr (next b)
]

told_before : (nums ns : List ℕ) (n : ℕ) → Among n nums → Among n (told_after nums ns)
told_before nums [] n a = a
told_before nums (m ∷ ns) n a = told_before (m ∷ nums) ns n (next a)

told_among : (nums ns : List ℕ) (n : ℕ) → Among n ns → Among n (told_after nums ns)
told_among nums [] n a = elim a [ ]
told_among nums (m ∷ ns) n a = among_cases a
    (λ e. told_before (m ∷ nums) ns n (subst (λ k. Among k (m ∷ nums)) (sym e) first))
    (λ b. told_among (m ∷ nums) ns n b)

-- the numbers of the sorts that are Num
listed : (k : ℕ) (ss : List Sort) (i : ℕ) → get_or ss i Any ≡ Num → Among (k + i) (nums_from k ss)
listed k [] i e = absurd (cc)
listed k (s ∷ ss) zero e =
    let here : k ≡ k + 0 = omega arith in
    let is : is_num s ≡ true = ap is_num e in
    subst (λ n. Among n (nums_from k (s ∷ ss))) here (by (is_num s) is)
  where
    by : (b : Bool) → b ≡ true → Among k (if b then k ∷ nums_from (suc k) ss else nums_from (suc k) ss)
    by true h = first
    by false h = absurd (cc)
listed k (s ∷ ss) (suc i) e = by (is_num s) (subst (λ n. Among n (nums_from (suc k) ss)) (let q : suc k + i ≡ k + suc i = omega arith in q) (listed (suc k) ss i e))
  where
    by : (b : Bool) → Among (k + suc i) (nums_from (suc k) ss) → Among (k + suc i) (if b then k ∷ nums_from (suc k) ss else nums_from (suc k) ss)
    by true a = next a
    by false a = a

pub unlisted : (k : ℕ) (ss : List Sort) (n : ℕ) → Among n (nums_from k ss) → (i : ℕ) × (n ≡ k + i) × (get_or ss i Any ≡ Num)
unlisted k [] n a = elim a [ ]
unlisted k (Num ∷ ss) n a = among_cases a
    (λ e. (0, omega arith, refl))
    (λ b. let r = unlisted (suc k) ss n b in (suc r.0, omega (arith, r.1), r.2))
unlisted k (Any ∷ ss) n a = let r = unlisted (suc k) ss n a in (suc r.0, omega (arith, r.1), r.2)

pub num_listed : (sorts : List Sort) (n : ℕ) → sort_in sorts n ≡ Num → Among n (nums_from 1 sorts)
num_listed sorts zero e = absurd (cc)
num_listed sorts (suc n) e = subst (λ m. Among m (nums_from 1 sorts)) (let q : 1 + n ≡ suc n = omega arith in q) (listed 1 sorts n e)

pub listed_num : (sorts : List Sort) (n : ℕ) → Among n (nums_from 1 sorts) → sort_in sorts n ≡ Num
listed_num sorts zero a = let r = unlisted 1 sorts 0 a in absurd (omega (arith, r.1))
listed_num sorts (suc n) a =
    let r = unlisted 1 sorts (suc n) a in
    let e : n ≡ r.0 = omega (arith, r.1) in
    ap (λ i. get_or sorts i Any) e ∙ r.2

module _ (c : Clause) (rows_are : RowsAreNum c) where
  abbrev told_nums : List ℕ
  told_nums = told_after [] (rows_variables c.rows ++ loose_nums c)

  -- a number of a row, or one that is listed in braces
  told_is_num : (n : ℕ) → Among n told_nums → sort_in c.sorts n ≡ Num
  told_is_num n a = elim (among_told [] (rows_variables c.rows ++ loose_nums c) n a) [
    | inl none ↦ elim none [ ]
    | inr b ↦ elim (among_either n (rows_variables c.rows) (loose_nums c) b) [
      | inl row ↦ all_each (λ m. sort_in c.sorts m ≡ Num) (rows_variables c.rows) rows_are n row
      | inr loose ↦ listed_num c.sorts n (filter_out (λ m. not (list_any (λ k. nat_eq k m) (rows_variables c.rows))) (nums_from 1 c.sorts) n loose).0
    ]
  ]

  num_is_told : (n : ℕ) → sort_in c.sorts n ≡ Num → Among n told_nums
  num_is_told n e = told_among [] (rows_variables c.rows ++ loose_nums c) n (by (list_any (λ k. nat_eq k n) (rows_variables c.rows)) refl)
    where
      by : (b : Bool) → list_any (λ k. nat_eq k n) (rows_variables c.rows) ≡ b → Among n (rows_variables c.rows ++ loose_nums c)
      by true h = among_front n (rows_variables c.rows) (loose_nums c) (found_among nat_eq number_equality n (rows_variables c.rows) h)
      by false h =
          among_back n (rows_variables c.rows) (loose_nums c)
          (filter_in (λ m. not (list_any (λ k. nat_eq k m) (rows_variables c.rows))) (nums_from 1 c.sorts) n (num_listed c.sorts n e) (ap not h))

  sort_is : (n : ℕ) → sort_by told_nums n ≡ sort_in c.sorts n
  sort_is n = by (list_any (λ m. nat_eq m n) told_nums) refl (sort_in c.sorts n) refl
    where
      by : (b : Bool) → list_any (λ m. nat_eq m n) told_nums ≡ b → (s : Sort) → sort_in c.sorts n ≡ s → (if b then Num else Any) ≡ s
      by true e Num k = refl
      by true e Any k = absurd (let h = told_is_num n (found_among nat_eq number_equality n told_nums e) in cc)
      by false e Num k = absurd (let h = among_found nat_eq number_equality n told_nums (num_is_told n k) in cc)
      by false e Any k = refl

  sorts_are : (ns : List ℕ) → map (sort_by told_nums) ns ≡ map (sort_in c.sorts) ns
  sorts_are [] = refl
  sorts_are (n ∷ ns) = ap (λ s. s ∷ map (sort_by told_nums) ns) (sort_is n) ∙ ap (λ ss. sort_in c.sorts n ∷ ss) (sorts_are ns)

-- ---- clauses

module _ (c : Clause) (each_row : (r : Row) → Among r c.rows → IsNormal r × (is_within r ≡ true)) (rows_are : RowsAreNum c) (ordinary : All IsOrdinary (c.head ∷ c.body)) where
  abbrev names : List ℕ
  names = variables_as_printed c

  abbrev place : ℕ → ℕ
  place n = place_in names n

  abbrev numbers : List ℕ
  numbers = rows_variables c.rows ++ loose_nums c

  abbrev source : SourceClause
  source = record { head = mapped place c.head; equations = []; rows = map (written place) c.rows; atoms = mapped_all place c.body; sorts = map (sort_in c.sorts) names }

  in_order : variables c.head ++ (numbers ++ variables_in c.body) ≡ variables_in (c.head ∷ []) ++ rows_variables c.rows ++ loose_nums c ++ variables_in c.body
  in_order =
      let head = variables c.head in
      let atoms = variables_in c.body in
      ap (λ ns. ns ++ (numbers ++ atoms)) (sym (append-nil head))
      ∙ sym (append_assoc (head ++ []) numbers atoms)
      ∙ ap (λ ns. ns ++ atoms) (sym (append_assoc (head ++ []) (rows_variables c.rows) (loose_nums c)))

  -- all variables were found then
  found_is : with_variables (with_variables (with_variables [] (variables c.head)) numbers) (variables_in c.body) ≡ names
  found_is =
      let head = variables c.head in
      let atoms = variables_in c.body in
      sym (distinct_append (with_variables [] head) numbers atoms) ∙ sym (distinct_append [] head (numbers ++ atoms)) ∙ ap (with_variables []) in_order

  distinct : AreDistinct names
  distinct = distinct_made nat_eq number_equality [] (variables_in (c.head ∷ []) ++ rows_variables c.rows ++ loose_nums c ++ variables_in c.body) tt

  empty : Known
  empty = record { found = []; nums = []; rows = []; atoms = [] }

  all_met : CanMeet names empty (variables c.head ++ (numbers ++ variables_in c.body))
  unfolding empty
  all_met = record { first = ([], append-nil _ ∙ ap (with_variables []) in_order); within = λ n a. elim a [ ] }

  evaluated_is : (after : ℕ) → (m : Meaning) × (evaluated (draft_of c after) (nothing (length names)) ≡ Ok (source, m))
  unfolding evaluated draft_of empty
  evaluated_is after =
      let head = variables c.head in
      let atoms = variables_in c.body in
      let d = draft_of c after in
      let t = mapped place c.head in
      let final : Tree ℕ → Parser Meaning SourceClause = λ u m. Ok (record { head = u; equations = m.equations; rows = m.rows; atoms = m.atoms; sorts = m.sorts }, m) in
      let parted = braces_meant (constraints place c) (map (call place) c.body) after in
      let rest = placed (codes ", ") (map (call place) c.body) after in
      let one = having empty head in
      let can = meet_back names empty head (numbers ++ atoms) all_met in
      let two = record (told one numbers) { rows = map (written place) c.rows } in
      let more : CanMeet names two atoms = (let r = told_rest names one numbers atoms can in record { first = r.first; within = r.within }) in
      let three = with_atoms names (having two atoms) c.body in
      let first_is = atom_meant names c.head _ empty (meet_front names empty head (numbers ++ atoms) all_met) in
      let second_is = constraints_meant names distinct c.rows (loose_nums c) parted.0 one each_row (told_front names one numbers atoms can) in
      let third_is = calls_meant names c.body after two (All-tail IsOrdinary c.head c.body ordinary) more in (
        meant names three,
        ap (λ m. and_then (term d.head m) (λ u. mean_all d.goals >> final u)) (begins names)
            ∙ ap (λ (o : Outcome Meaning (Tree ℕ)). and_then o (λ u. mean_all d.goals >> final u)) first_is
            ∙ ap (λ (o : Outcome Meaning (Unit {0})). and_then o (λ u. final t))
            (parted.1 (meant names one) ∙ ap (λ (o : Outcome Meaning (Unit {0})). and_then o (λ u. mean_all rest)) second_is ∙ third_is)
            ∙ ap (λ ss. Ok (record source { sorts = ss }, meant names three)) (ap (map (sort_by (told_nums c rows_are))) found_is ∙ sorts_are c rows_are names),
      )

  clause_is : (after : ℕ) → meaning (draft_of c after) ≡ Ok source
  unfolding meaning draft_of
  clause_is after =
      let is = evaluated_is after in
      ap (λ o. unless o (value_of (evaluated (draft_of c after) (nothing (length names))))) (well_placed c after ordinary)
      ∙ ap value_of is.1

  source_is : meaning_of source ≡ source_of c
  unfolding source_of
  source_is = refl

-- what stands for a clause whose rows are in normal form and in range
pub rows_meant : (c : Clause) (after : ℕ) → ((r : Row) → Among r c.rows → IsNormal r × (is_within r ≡ true)) → RowsAreNum c → All IsOrdinary (c.head ∷ c.body)
    → (s : SourceClause) × (meaning (draft_of c after) ≡ Ok s) × (meaning_of s ≡ source_of c)
rows_meant c after rows nums ordinary = (source c rows nums ordinary, clause_is c rows nums ordinary after, source_is c rows nums ordinary)

pub clause_meant : StandingClausesHaveTheirMeaning
clause_meant c after canonical nums ordinary =
    rows_meant c after (λ r a. let is = row_is_normal c canonical r a in (is, subst (λ x. is_within x ≡ true) is.stays (each_within c.rows canonical.range r a))) nums ordinary
