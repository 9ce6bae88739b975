-- An unfolding meets what the rank asks of it.
use Rattle.std.proofs.Common.{◌≡◌, ℕ, zero, suc, ◌+◌, ◌<◌, ◌≤◌, List, [], ◌∷◌, ◌++◌, length, get_or, take, drop, Bool, arith, refl, sym, ◌∙◌, ap, subst, map, ◌⊎◌, inl, inr}
use Rattle.std.specs.Prelude.{slice_index_or, All, Contains, Option, Some, None}
use Rattle.std.proofs.lemmas.List.{map-append, take-map, drop-map, length-map, get_or_append_left, get_or-append-add}
use Rattle.std.proofs.lemmas.List.Elements.{All-nil, All-same}
use Rattle.clp_model.specs.declared.sort.Sort.{Sort}
use Rattle.clp_model.specs.declared.sort.Sort.TheVariants.{Any, Num}
use Rattle.clp_model.specs.declared.tree.Tree.{Tree, Var, App'}
use Rattle.clp_model.specs.Trees.{mapped, mapped_all, variables, variables_in, IsApplication}
use Rattle.clp_model.specs.Values.{GroundAtom, Named, NoValue, row_values, Valuation, variable_value, value_of, atom_of}
use Rattle.clp_model.specs.Clauses.{Clause, Row, Instance, EquationHolds, RowHolds, sort_in, ground_of}
use Rattle.clp_model.proofs.Membership.{Among, first, next, among_front, among_back, among_either, among_mapped}
use Rattle.clp_model.proofs.RenamedTrees.{mapped_to_itself, all_mapped_to_themselves}
use Rattle.linear_model.specs.Changes.{renamed}
use Rattle.linear_laws.proofs.Lists.{mapped_out}
use Rattle.unify_laws.proofs.Solved.{among_cases}
use Rattle.clp_rank.specs.Rules.{Resolvent, Unfolds}
use Rattle.clp_rank.specs.Entries.{Entry, setting}
use Rattle.clause_model.specs.Variables.{row_variables, rows_variables}
use Rattle.clause_model.specs.Canonical.{canonical_form}
use Rattle.clause_model.specs.Solved.{solved_clause, RowsAreNum}
use Rattle.clause_laws.proofs.Rows.{all_each, each_all, renamed_holds, among_rows}
use Rattle.clause_laws.proofs.Solving.{solved_keeps, unsolved_none}
use Rattle.clause_laws.proofs.Loading.{solved_shape}
use Rattle.clause_laws.proofs.Numbering.{value_mapped, atoms_mapped, canonical_form_keeps_instances}
use Rattle.clause_laws.proofs.Renaming.{variables_normal}
use Rattle.clause_laws.proofs.Written.{written_from}
use Rattle.unfold_model.specs.Resolvent.{past, joined_clause, resolvent}
use Rattle.rule_laws.specs.Steps.{IsHeld, resolved, IsUnfolding}
use Rattle.rule_laws.proofs.Joint.{joint, first_value, second_value, first_row, second_row}

-- ---- lists
pub split_at_place : {A : Type 0} (xs : List A) (i : ℕ) (d : A) → i < length xs → xs ≡ take i xs ++ get_or xs i d ∷ drop (suc i) xs
split_at_place [] i d h = absurd (omega arith)
split_at_place (x ∷ xs) zero d h = refl
split_at_place (x ∷ xs) (suc i) d h = ap (λ ys. x ∷ ys) (split_at_place xs i d (omega arith))

-- ---- sorts of the two clauses together
sort_first : (cs es : List Sort) (n : ℕ) → n ≤ length cs → sort_in (cs ++ es) n ≡ sort_in cs n
sort_first cs es n l = get_or_append_left (Any ∷ cs) es Any n (omega arith)

sort_second : (cs es : List Sort) (n : ℕ) → 0 < n → sort_in (cs ++ es) (past (length cs) n) ≡ sort_in es n
sort_second cs es zero l = absurd (omega arith)
sort_second cs es (suc n) l =
    let e : length cs + suc n ≡ length (Any ∷ cs) + n = (let f : length (Any ∷ cs) ≡ suc (length cs) = refl in omega arith) in
    ap (λ m. get_or (Any ∷ (cs ++ es)) m Any) e ∙ get_or-append-add (Any ∷ cs) es n Any

-- ---- trees under two valuations and two lists of sorts
module _ (ss ts : List Sort) (u w : Valuation) where
  abbrev Agree : List ℕ → Type 0
  Agree ns = (n : ℕ) → Among n ns → variable_value u n (sort_in ss n) ≡ variable_value w n (sort_in ts n)

  pub same_value_of : (t : Tree ℕ) → Agree (variables t) → value_of (sort_in ss) u t ≡ value_of (sort_in ts) w t
  same_value_of t a = ap (value_of (sort_in ss) u) (sym (mapped_to_itself (λ n. n) t (λ n m. refl))) ∙ value_mapped (λ n. n) (sort_in ss) (sort_in ts) u w t a

  pub same_grounds : (xs : List (Tree ℕ)) → Agree (variables_in xs) → map (ground_of ss u) xs ≡ map (ground_of ts w) xs
  same_grounds xs a = ap (map (ground_of ss u)) (sym (all_mapped_to_themselves (λ n. n) xs (λ n m. refl))) ∙ atoms_mapped (λ n. n) (sort_in ss) (sort_in ts) u w xs a

variables_of_part : (xs ys zs : List (Tree ℕ)) → xs ++ ys ≡ zs → (n : ℕ) → (Among n (variables_in xs) → Among n (variables_in zs)) × (Among n (variables_in ys) → Among n (variables_in zs))
variables_of_part xs ys zs e n = subst (λ (q : List (Tree ℕ)). (Among n (variables_in xs) → Among n (variables_in q)) × (Among n (variables_in ys) → Among n (variables_in q))) e (front xs ys, back xs ys)
  where
    front : (xs ys : List (Tree ℕ)) → Among n (variables_in xs) → Among n (variables_in (xs ++ ys))
    front [] ys a = elim a [ ]
    front (x ∷ xs) ys a = elim (among_either n (variables x) (variables_in xs) a) [
      | inl b ↦ among_front n (variables x) (variables_in (xs ++ ys)) b
      | inr b ↦ among_back n (variables x) (variables_in (xs ++ ys)) (front xs ys b)
    ]

    back : (xs ys : List (Tree ℕ)) → Among n (variables_in ys) → Among n (variables_in (xs ++ ys))
    back [] ys a = a
    back (x ∷ xs) ys a = among_back n (variables x) (variables_in (xs ++ ys)) (back xs ys a)

pub all_front : (u : Valuation) (xs ys : List Row) → All (RowHolds u) (xs ++ ys) → All (RowHolds u) xs
all_front u xs ys h = each_all (RowHolds u) xs (λ r m. all_each (RowHolds u) (xs ++ ys) h r (among_front r xs ys m))

all_behind : (u : Valuation) (xs ys : List Row) → All (RowHolds u) (xs ++ ys) → All (RowHolds u) ys
all_behind u xs ys h = each_all (RowHolds u) ys (λ r m. all_each (RowHolds u) (xs ++ ys) h r (among_back r xs ys m))

pub all_both : (u : Valuation) (xs ys : List Row) → All (RowHolds u) xs → All (RowHolds u) ys → All (RowHolds u) (xs ++ ys)
all_both u xs ys a b = each_all (RowHolds u) (xs ++ ys) (λ r m. elim (among_either r xs ys m) [ inl k ↦ all_each (RowHolds u) xs a r k | inr k ↦ all_each (RowHolds u) ys b r k ])

one_equation : (ss : List Sort) (u : Valuation) (e : Tree ℕ × Tree ℕ) → EquationHolds ss u e → All (EquationHolds ss u) (e ∷ [])
one_equation ss u e h = each_all (EquationHolds ss u) (e ∷ []) (λ x m. among_cases m (λ q. subst (EquationHolds ss u) (sym q) h) (λ k. elim k [ ]))

pub none_hold : (c : Clause) → c.equations ≡ [] → (u : Valuation) → All (EquationHolds c.sorts u) c.equations
none_hold c none u = All-same (EquationHolds c.sorts u) c.equations [] none (All-nil (EquationHolds c.sorts u))

-- the value of an application, told by its ground atom
pub same_named : (f g : ℕ → Sort) (u w : Valuation) (t s : Tree ℕ) → IsApplication t → IsApplication s → atom_of (value_of f u t) ≡ atom_of (value_of g w s) → value_of f u t ≡ value_of g w s
unfolding value_of IsApplication
same_named f g u w (Var n) s a b e = absurd a
same_named f g u w (App' name shape args) (Var n) a b e = absurd b
same_named f g u w (App' name shape args) (App' name' shape' args') a b e =
    let p = ap (λ (x : GroundAtom). x.name) e in
    let q = ap (λ (x : GroundAtom). x.args) e in
    ap (λ ns. Named ns (row_values f u args)) p ∙ ap (Named name') q

get_or_mapped : {A B : Type 0} (g : A → B) (xs : List A) (i : ℕ) (d : B) (c : A) → i < length xs → get_or (map g xs) i d ≡ g (get_or xs i c)
get_or_mapped g [] i d c h = absurd (omega arith)
get_or_mapped g (x ∷ xs) zero d c h = refl
get_or_mapped g (x ∷ xs) (suc i) d c h = get_or_mapped g xs i d c (omega arith)

among_at : {A : Type 0} (xs : List A) (i : ℕ) (d : A) → i < length xs → Among (get_or xs i d) xs
among_at [] i d h = absurd (omega arith)
among_at (x ∷ xs) zero d h = first
among_at (x ∷ xs) (suc i) d h = next (among_at xs i d (omega arith))

atom_applies : (c : Clause) (i : ℕ) → i < length c.body → IsHeld c → IsApplication (slice_index_or c.body i c.head)
atom_applies c i inside h = all_each IsApplication (c.head ∷ c.body) h.applications (get_or c.body i c.head) (next (among_at c.body i c.head inside))

-- ---- a clause c, the place of an atom, and a clause e
module _ (c e : Clause) (i : ℕ) (inside : i < length c.body) (hc : IsHeld c) (he : IsHeld e) where
  abbrev k : ℕ
  k = length c.sorts

  abbrev atom : Tree ℕ
  atom = slice_index_or c.body i c.head

  abbrev before : List (Tree ℕ)
  before = take i c.body

  abbrev behind : List (Tree ℕ)
  behind = drop (suc i) c.body

  abbrev J : Clause
  J = joined_clause c i e

  split : c.body ≡ before ++ atom ∷ behind
  split = split_at_place c.body i c.head inside

  place_c : (n : ℕ) → Among n (variables_in (c.head ∷ c.body)) → (0 < n) × (n ≤ k)
  place_c n a = all_each (λ n. (0 < n) × (n ≤ length c.sorts)) (variables_in (c.head ∷ c.body) ++ rows_variables c.rows) hc.places n (among_front n (variables_in (c.head ∷ c.body)) (rows_variables c.rows) a)

  place_row_c : (r : Row) → Among r c.rows → (n : ℕ) → Among n (row_variables r) → n ≤ k
  place_row_c r m n a = (all_each (λ n. (0 < n) × (n ≤ length c.sorts)) (variables_in (c.head ∷ c.body) ++ rows_variables c.rows) hc.places n (among_back n (variables_in (c.head ∷ c.body)) (rows_variables c.rows) (among_rows r c.rows n m a))).1

  place_e : (n : ℕ) → Among n (variables_in (e.head ∷ e.body)) → 0 < n
  place_e n a = (all_each (λ n. (0 < n) × (n ≤ length e.sorts)) (variables_in (e.head ∷ e.body) ++ rows_variables e.rows) he.places n (among_front n (variables_in (e.head ∷ e.body)) (rows_variables e.rows) a)).0

  place_row_e : (r : Row) → Among r e.rows → (n : ℕ) → Among n (row_variables r) → 0 < n
  place_row_e r m n a = (all_each (λ n. (0 < n) × (n ≤ length e.sorts)) (variables_in (e.head ∷ e.body) ++ rows_variables e.rows) he.places n (among_back n (variables_in (e.head ∷ e.body)) (rows_variables e.rows) (among_rows r e.rows n m a))).0

  of_head : (n : ℕ) → Among n (variables c.head) → Among n (variables_in (c.head ∷ c.body))
  of_head n a = among_front n (variables c.head) (variables_in c.body) a

  of_body : (n : ℕ) → Among n (variables_in c.body) → Among n (variables_in (c.head ∷ c.body))
  of_body n a = among_back n (variables c.head) (variables_in c.body) a

  of_before : (n : ℕ) → Among n (variables_in before) → Among n (variables_in (c.head ∷ c.body))
  of_before n a = of_body n ((variables_of_part before (atom ∷ behind) c.body (sym split) n).0 a)

  of_atom : (n : ℕ) → Among n (variables atom) → Among n (variables_in (c.head ∷ c.body))
  of_atom n a = of_body n ((variables_of_part before (atom ∷ behind) c.body (sym split) n).1 (among_front n (variables atom) (variables_in behind) a))

  of_behind : (n : ℕ) → Among n (variables_in behind) → Among n (variables_in (c.head ∷ c.body))
  of_behind n a = of_body n ((variables_of_part before (atom ∷ behind) c.body (sym split) n).1 (among_back n (variables atom) (variables_in behind) a))

  -- v gives the variables of c what u gives them, and those of e past them what w gives them
  module _ (v u w : Valuation) (one : (n : ℕ) (s : Sort) → n ≤ k → variable_value v n s ≡ variable_value u n s) (two : (n : ℕ) (s : Sort) → 0 < n → variable_value v (past k n) s ≡ variable_value w n s) where
    first_agree : (n : ℕ) → Among n (variables_in (c.head ∷ c.body)) → variable_value v n (sort_in J.sorts n) ≡ variable_value u n (sort_in c.sorts n)
    first_agree n a = let l = (place_c n a).1 in ap (variable_value v n) (sort_first c.sorts e.sorts n l) ∙ one n (sort_in c.sorts n) l

    second_agree : (n : ℕ) → Among n (variables_in (e.head ∷ e.body)) → variable_value v (past k n) (sort_in J.sorts (past k n)) ≡ variable_value w n (sort_in e.sorts n)
    second_agree n a = let l = place_e n a in ap (variable_value v (past k n)) (sort_second c.sorts e.sorts n l) ∙ two n (sort_in e.sorts n) l

    head_same : ground_of J.sorts v c.head ≡ ground_of c.sorts u c.head
    head_same = ap atom_of (same_value_of J.sorts c.sorts v u c.head (λ n a. first_agree n (of_head n a)))

    before_same : map (ground_of J.sorts v) before ≡ map (ground_of c.sorts u) before
    before_same = same_grounds J.sorts c.sorts v u before (λ n a. first_agree n (of_before n a))

    behind_same : map (ground_of J.sorts v) behind ≡ map (ground_of c.sorts u) behind
    behind_same = same_grounds J.sorts c.sorts v u behind (λ n a. first_agree n (of_behind n a))

    atom_same : value_of (sort_in J.sorts) v atom ≡ value_of (sort_in c.sorts) u atom
    atom_same = same_value_of J.sorts c.sorts v u atom (λ n a. first_agree n (of_atom n a))

    served_same : value_of (sort_in J.sorts) v (mapped (past k) e.head) ≡ value_of (sort_in e.sorts) w e.head
    served_same = value_mapped (past k) (sort_in J.sorts) (sort_in e.sorts) v w e.head (λ n a. second_agree n (among_front n (variables e.head) (variables_in e.body) a))

    inner_same : map (ground_of J.sorts v) (mapped_all (past k) e.body) ≡ map (ground_of e.sorts w) e.body
    inner_same = atoms_mapped (past k) (sort_in J.sorts) (sort_in e.sorts) v w e.body (λ n a. second_agree n (among_back n (variables e.head) (variables_in e.body) a))

    body_same : map (ground_of J.sorts v) J.body ≡ map (ground_of c.sorts u) before ++ (map (ground_of e.sorts w) e.body ++ map (ground_of c.sorts u) behind)
    body_same =
        map-append (ground_of J.sorts v) before (mapped_all (past k) e.body ++ behind)
        ∙ (ap (λ xs. map (ground_of J.sorts v) before ++ xs) (map-append (ground_of J.sorts v) (mapped_all (past k) e.body) behind)
        ∙ (ap (λ xs. xs ++ (map (ground_of J.sorts v) (mapped_all (past k) e.body) ++ map (ground_of J.sorts v) behind)) before_same
        ∙ (ap (λ xs. map (ground_of c.sorts u) before ++ (xs ++ map (ground_of J.sorts v) behind)) inner_same
        ∙ ap (λ xs. map (ground_of c.sorts u) before ++ (map (ground_of e.sorts w) e.body ++ xs)) behind_same)))

  grounds_split : (u : Valuation) → map (ground_of c.sorts u) c.body ≡ map (ground_of c.sorts u) before ++ ground_of c.sorts u atom ∷ map (ground_of c.sorts u) behind
  grounds_split u = ap (map (ground_of c.sorts u)) split ∙ map-append (ground_of c.sorts u) before (atom ∷ behind)

  -- ---- instances of the joined clause
  -- what v gives the variables past those of c
  abbrev past_of : Valuation → Valuation
  past_of v = record { whole = v.whole; positive = v.positive; number = λ n. v.number (past k n); value = λ n. v.value (past k n) }

  past_value : (v : Valuation) (n : ℕ) (s : Sort) → variable_value v (past k n) s ≡ variable_value (past_of v) n s
  past_value v n Any = refl
  past_value v n Num = refl

  -- an instance of it is one of c, whose atom an instance of e has as its head
  pub record Parted (a : GroundAtom) (body : List GroundAtom) : Type 0 where
    pub front : List GroundAtom
    pub here : GroundAtom
    pub rest : List GroundAtom
    pub inner : List GroundAtom
    pub is : body ≡ front ++ (inner ++ rest)
    pub outer : Instance c a (front ++ here ∷ rest)
    pub served : Instance e here inner

  pub parted : (a : GroundAtom) (body : List GroundAtom) → Instance J a body → Parted a body
  parted a body t =
      let v = t.valuation in
      let w = past_of v in
      let one : (n : ℕ) (s : Sort) → n ≤ k → variable_value v n s ≡ variable_value v n s = λ n s l. refl in
      let two : (n : ℕ) (s : Sort) → 0 < n → variable_value v (past k n) s ≡ variable_value w n s = λ n s l. past_value v n s in
      let eq : value_of (sort_in J.sorts) v atom ≡ value_of (sort_in J.sorts) v (mapped (past k) e.head) = t.equations 0 (atom, mapped (past k) e.head) (omega arith) in
      record {
        front = map (ground_of c.sorts v) before;
        here = ground_of c.sorts v atom;
        rest = map (ground_of c.sorts v) behind;
        inner = map (ground_of e.sorts w) e.body;
        is = t.body_is ∙ body_same v v w one two;
        outer = record {
          valuation = v;
          equations = none_hold c hc.equations v;
          rows = all_front v c.rows (map (renamed (past k)) e.rows) t.rows;
          head_is = t.head_is ∙ head_same v v w one two;
          body_is = sym (grounds_split v);
        };
        served = record {
          valuation = w;
          equations = none_hold e he.equations w;
          rows = each_all (RowHolds w) e.rows (λ r m. (renamed_holds (past k) v w r refl (λ n x. refl)).0
              (all_each (RowHolds v) (map (renamed (past k)) e.rows) (all_behind v c.rows (map (renamed (past k)) e.rows) t.rows) (renamed (past k) r) (among_mapped (renamed (past k)) m)));
          head_is = ap atom_of (sym (atom_same v v w one two) ∙ (eq ∙ served_same v v w one two));
          body_is = refl;
        };
      }

  -- and where instances of both meet at the atom there is one of it
  pub joined_instance : (a : GroundAtom) (body : List GroundAtom) (d : GroundAtom) (inner : List GroundAtom) → Instance c a body → Instance e (get_or body i d) inner → Instance J a (take i body ++ (inner ++ drop (suc i) body))
  joined_instance a body d inner s t =
      let u = s.valuation in
      let w = t.valuation in
      let v = joint k u w in
      let one = first_value k u w in
      let two = second_value k u w in
      let g = ground_of c.sorts u in
      let parts : body ≡ map g before ++ g atom ∷ map g behind = s.body_is ∙ grounds_split u in
      let front : take i body ≡ map g before = ap (take i) s.body_is ∙ take-map g i c.body in
      let rest : drop (suc i) body ≡ map g behind = ap (drop (suc i)) s.body_is ∙ drop-map g (suc i) c.body in
      let here : get_or body i d ≡ g atom = ap (λ xs. get_or xs i d) s.body_is ∙ get_or_mapped g c.body i d c.head inside in
      let met : value_of (sort_in J.sorts) v atom ≡ value_of (sort_in J.sorts) v (mapped (past k) e.head) =
      atom_same v u w one two ∙ (same_named (sort_in c.sorts) (sort_in e.sorts) u w atom e.head (atom_applies c i inside hc) (all_each IsApplication (e.head ∷ e.body) he.applications e.head first) (sym here ∙ t.head_is) ∙ sym (served_same v u w one two)) in
      record {
        valuation = v;
        equations = one_equation J.sorts v (atom, mapped (past k) e.head) met;
        rows = all_both v c.rows (map (renamed (past k)) e.rows)
            (each_all (RowHolds v) c.rows (λ r m. (first_row k u w r (place_row_c r m)).1 (all_each (RowHolds u) c.rows s.rows r m)))
            (each_all (RowHolds v) (map (renamed (past k)) e.rows) (λ r m. mapped_out (renamed (past k)) e.rows (RowHolds v) (λ x y. (second_row k u w x (place_row_e x y)).1 (all_each (RowHolds w) e.rows t.rows x y)) r m));
        head_is = s.head_is ∙ sym (head_same v u w one two);
        body_is = ap (λ xs. xs ++ (inner ++ drop (suc i) body)) front ∙ (ap (λ xs. map g before ++ (inner ++ xs)) rest ∙ (ap (λ xs. map g before ++ (xs ++ map g behind)) t.body_is ∙ sym (body_same v u w one two)));
      }

  -- ---- the row variables of the joined clause
  rows_split : (xs ys : List Row) (n : ℕ) → Among n (rows_variables (xs ++ ys)) → Among n (rows_variables xs) ⊎ Among n (rows_variables ys)
  rows_split [] ys n a = inr a
  rows_split (r ∷ xs) ys n a = elim (among_either n (row_variables r) (rows_variables (xs ++ ys)) a) [
    | inl b ↦ inl (among_front n (row_variables r) (rows_variables xs) b)
    | inr b ↦ elim (rows_split xs ys n b) [ inl x ↦ inl (among_back n (row_variables r) (rows_variables xs) x) | inr x ↦ inr x ]
  ]

  past_rows : (rows : List Row) (n : ℕ) → Among n (rows_variables (map (renamed (past k)) rows)) → (m : ℕ) × Among m (rows_variables rows) × (past k m ≡ n)
  past_rows [] n a = elim a [ ]
  past_rows (r ∷ rows) n a = elim (among_either n (row_variables (renamed (past k) r)) (rows_variables (map (renamed (past k)) rows)) a) [
    | inl b ↦
        let w = written_from (past k) r n (subst (Among n) (sym (variables_normal (renamed (past k) r))) b) in
        (w.0, among_front w.0 (row_variables r) (rows_variables rows) w.1, w.2)
    | inr b ↦ let w = past_rows rows n b in (w.0, among_back w.0 (row_variables r) (rows_variables rows) w.1, w.2)
  ]

  place_of_c : (n : ℕ) → Among n (rows_variables c.rows) → n ≤ k
  place_of_c n a = (all_each (λ n. (0 < n) × (n ≤ length c.sorts)) (variables_in (c.head ∷ c.body) ++ rows_variables c.rows) hc.places n (among_back n (variables_in (c.head ∷ c.body)) (rows_variables c.rows) a)).1

  place_of_e : (n : ℕ) → Among n (rows_variables e.rows) → 0 < n
  place_of_e n a = (all_each (λ n. (0 < n) × (n ≤ length e.sorts)) (variables_in (e.head ∷ e.body) ++ rows_variables e.rows) he.places n (among_back n (variables_in (e.head ∷ e.body)) (rows_variables e.rows) a)).0

  pub nums_joined : RowsAreNum J
  nums_joined = each_all (λ n. sort_in J.sorts n ≡ Num) (rows_variables J.rows) (λ n a. elim (rows_split c.rows (map (renamed (past k)) e.rows) n a) [
    | inl b ↦ sort_first c.sorts e.sorts n (place_of_c n b) ∙ all_each (λ n. sort_in c.sorts n ≡ Num) (rows_variables c.rows) hc.nums n b
    | inr b ↦
        let w = past_rows e.rows n b in
        ap (sort_in J.sorts) (sym w.2) ∙ (sort_second c.sorts e.sorts w.0 (place_of_e w.0 w.1) ∙ all_each (λ n. sort_in e.sorts n ≡ Num) (rows_variables e.rows) he.nums w.0 w.1)
  ])

-- ---- the record that the rank asks for
module _ (defined : GroundAtom → Bool) (live live' : List Entry) (x : Entry) (i : ℕ) (h : IsUnfolding live live' x i) where
  abbrev nothing : GroundAtom
  nothing = record { name = []; args = NoValue }

  held_x : IsHeld x.clause
  held_x = h.held x h.was

  long : (a : GroundAtom) (body : List GroundAtom) → Instance x.clause a body → i < length body
  long a body t = subst (λ n. i < n) (sym (ap length t.body_is ∙ length-map x.clause.body (ground_of x.clause.sorts t.valuation))) h.place

  -- the row variables of both clauses together are Num
  joined_nums : (e : Entry) → Contains live e → RowsAreNum (joined_clause x.clause i e.clause)
  joined_nums e l = nums_joined x.clause e.clause i h.place held_x (h.held e l)

  -- an instance of a resolvent is one of the joined clause
  of_resolved : (e : Entry) → Contains live e → (d : Clause) → resolvent x.clause i e.clause ≡ Some d → (a : GroundAtom) (body : List GroundAtom) → Instance (canonical_form d) a body → Instance (joined_clause x.clause i e.clause) a body
  unfolding resolvent
  of_resolved e l d q a body t =
      let shape = solved_shape (joined_clause x.clause i e.clause) d q in
      (solved_keeps (joined_clause x.clause i e.clause) d (joined_nums e l) q a body).0 ((canonical_form_keeps_instances d shape.0).1 a body t)

  to_resolved : (e : Entry) → Contains live e → (a : GroundAtom) (body : List GroundAtom) → Instance (joined_clause x.clause i e.clause) a body → (d : Clause) × (resolvent x.clause i e.clause ≡ Some d) × Instance (canonical_form d) a body
  unfolding resolvent
  to_resolved e l a body t = by (solved_clause (joined_clause x.clause i e.clause)) refl
    where
      by : (o : Option Clause) → solved_clause (joined_clause x.clause i e.clause) ≡ o → (d : Clause) × (solved_clause (joined_clause x.clause i e.clause) ≡ Some d) × Instance (canonical_form d) a body
      by None q = absurd (unsolved_none (joined_clause x.clause i e.clause) q a body t)
      by (Some d) q =
          let shape = solved_shape (joined_clause x.clause i e.clause) d q in
          (d, q, (canonical_form_keeps_instances d shape.0).0 a body ((solved_keeps (joined_clause x.clause i e.clause) d (joined_nums e l) q a body).1 t))

  resolvent_from : (e : Entry) → Contains live e → (d : Clause) → resolvent x.clause i e.clause ≡ Some d → (a : GroundAtom) (body : List GroundAtom) → Instance (canonical_form d) a body → Resolvent (setting defined) (Contains live) x a body
  resolvent_from e l d q a body t =
      let parts = parted x.clause e.clause i h.place held_x (h.held e l) a body (of_resolved e l d q a body t) in
      record { by = e; is_live = l; before = parts.front; atom = parts.here; after = parts.rest; inner = parts.inner; is = parts.is; outer = parts.outer; served = parts.served }

  pub unfolds : Unfolds (setting defined) (Contains live) (Contains live') x
  unfolds = record {
    was = h.was;
    kept = h.kept;
    has_atom = λ a body t. record { before = take i body; here = get_or body i nothing; after = drop (suc i) body; is = split_at_place body i nothing (long a body t) };
    made = λ a body t e inner l s.
        let j = joined_instance x.clause e.clause i h.place held_x (h.held e l) a body nothing inner t s in
        let r = to_resolved e l a (take i body ++ (inner ++ drop (suc i) body)) j in
        (resolved r.0, h.made e r.0 l r.1, refl, r.2);
    from = λ r l. elim (h.old r l) [
      | inl o ↦ inl o
      | inr m ↦ inr (ap (λ (y : Entry). y.mark) m.4, λ a body t. resolvent_from m.0 m.2 m.1 m.3 a body (subst (λ (y : Entry). Instance y.clause a body) m.4 t))
    ];
  }
