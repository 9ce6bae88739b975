-- A clause that can be printed can be parsed, and stands for what it means.
use Rattle.std.proofs.Common.{◌≡◌, ℕ, ◌<◌, ◌≤◌, ◌^◌, List, [], ◌∷◌, ◌++◌, length, map, Bool, true, false, not, arith, refl, sym, ◌∙◌, ap, subst, inl, inr}
use Rattle.std.specs.Prelude.{if◌then◌else◌, ◌||◌, nat_eq, nat_le, nat_lt, Option, Some, None, All}
use Rattle.std.specs.List.{list_any}
use Rattle.std.specs.Str.{is_utf8}
use Rattle.std.proofs.lemmas.Bool.{ltb-false, cases_lt}
use Rattle.std.proofs.lemmas.Bool.Decides.{nat_tests}
use Rattle.std.proofs.lemmas.List.{length-map, append-nil, get_or_past}
use Rattle.std.proofs.lemmas.List.Elements.{All-nil, All-cons, All-head, All-tail}
use Rattle.token_model.specs.Names.{max_name}
use Rattle.clp_model.specs.declared.limit.Limit.{Limit}
use Rattle.clp_model.specs.declared.limit.Limit.TheVariants.{Shape, Atoms, Variables, Rows}
use Rattle.clp_model.specs.declared.sort.Sort.{Sort}
use Rattle.clp_model.specs.declared.sort.Sort.TheVariants.{Any}
use Rattle.clp_model.specs.declared.tree.Tree.{Tree, Var, App', Row_of-Tree, end_of-Tree, more_of-Tree}
use Rattle.clp_model.specs.Trees.{variables, variables_in}
use Rattle.clp_model.specs.Clauses.{Clause, Row, sort_in}
use Rattle.clp_model.specs.Canonical.{clause_size, clause_depth}
use Rattle.clp_model.proofs.Membership.{Among, among_front, among_back, among_either, distinct_has}
use Rattle.linear_model.specs.Normal.{IsNormal, is_within}
use Rattle.linear_laws.proofs.Lists.{filter_out}
use Rattle.clause_model.specs.Variables.{rows_variables, nums_from, loose_nums, variables_as_printed, variables_by_first_occurrence}
use Rattle.clause_model.specs.Canonical.{limit_past, IsCanonical}
use Rattle.clause_model.specs.Solved.{RowsAreNum}
use Rattle.clause_laws.proofs.Rows.{each_all}
use Rattle.clause_laws.proofs.Distinct.{distinct_from}
use Rattle.clause_laws.proofs.Upto.{number_equality, upto, upto_within}
use Rattle.clause_laws.proofs.NewClause.{each_within}
use Rattle.clause_laws.proofs.Source.{row_is_normal, by_first, sorts_read}
use Rattle.name_laws.specs.Names.{HasNames, RowHasNames, IsAtomOver, AreOver}
use Rattle.standing_model.specs.Names.{is_short, is_ordinary}
use Rattle.standing_model.specs.Parsable.{HasShortNames, HaveShortNames, IsParsable}
use Rattle.evaluation_laws.specs.Laws.{IsOrdinary}
use Rattle.evaluation_laws.proofs.Numbers.{length_numbers}
use Rattle.evaluation_laws.proofs.Clauses.{unlisted}
use Rattle.text_laws.specs.Laws.{IsPrintable}

-- What makes a clause's text be read as its source: a clause that can be printed is such a one, and so is its source.
pub record IsWritable (c : Clause) : Type 0 where
  pub rows : (r : Row) → Among r c.rows → IsNormal r × (is_within r ≡ true)
  pub deep : clause_depth c ≤ 256
  pub small : (n : ℕ) → Among n (variables_as_printed c) → n < 2 ^ 64
  pub over : AreOver is_short is_ordinary c
  pub texts : AreOver is_utf8 is_ordinary c
  pub nums : RowsAreNum c

-- ---- names

short : (n : ℕ) → nat_le n max_name ≡ true → n ≤ max_name
short n h = grind (arith, nat_tests)

mutual
  unfolding HasNames HasShortNames

  short_names : (t : Tree ℕ) → HasNames is_short t → HasShortNames t
  short_names (Var n) h = tt
  short_names (App' name shape args) h = (short (length name) h.0, row_short _ args h.1)

  row_short : (m : _) (ts : Row_of-Tree ℕ m) → RowHasNames is_short ts → HaveShortNames ts
  row_short m end_of-Tree h = tt
  row_short m (more_of-Tree t ts) h = (short_names t h.0, row_short _ ts h.1)

all_short : (ts : List (Tree ℕ)) → All (IsAtomOver is_short is_ordinary) ts → All HasShortNames ts
all_short [] h = All-nil HasShortNames
all_short (t ∷ ts) h =
    All-cons HasShortNames t ts
    (short_names t (All-head (IsAtomOver is_short is_ordinary) t ts h).names)
    (all_short ts (All-tail (IsAtomOver is_short is_ordinary) t ts h))

all_ordinary : (ts : List (Tree ℕ)) → All (IsAtomOver is_short is_ordinary) ts → All IsOrdinary ts
all_ordinary [] h = All-nil IsOrdinary
all_ordinary (t ∷ ts) h =
    let own = All-head (IsAtomOver is_short is_ordinary) t ts h in
    All-cons IsOrdinary t ts (own.application, own.predicate) (all_ordinary ts (All-tail (IsAtomOver is_short is_ordinary) t ts h))

pub ordinary : (c : Clause) → IsWritable c → All IsOrdinary (c.head ∷ c.body)
ordinary c h = all_ordinary (c.head ∷ c.body) (All-cons (IsAtomOver is_short is_ordinary) c.head c.body h.over.head h.over.body)

-- ---- limits

record Limits (c : Clause) : Type 0 where
  deep : clause_depth c ≤ 256
  variables : length c.sorts ≤ 256

limits : (c : Clause) → limit_past c ≡ None → Limits c
unfolding limit_past
limits c h = by (nat_lt 4096 (clause_size c)) (nat_lt 256 (clause_depth c)) refl (nat_lt 64 (length c.body)) (nat_lt 256 (length c.sorts)) refl h
  where
    others : Option Limit
    others = if nat_lt 128 (length c.rows) then Some Rows else None

    by : (s d : Bool) → nat_lt 256 (clause_depth c) ≡ d → (a v : Bool) → nat_lt 256 (length c.sorts) ≡ v
        → (if s || d then Some Shape else (if a then Some Atoms else (if v then Some Variables else others))) ≡ None → Limits c
    by true d e a v k h = absurd (cc)
    by false true e a v k h = absurd (cc)
    by false false e true v k h = absurd (cc)
    by false false e false true k h = absurd (cc)
    by false false e false false k h = record { deep = ltb-false 256 (clause_depth c) e; variables = ltb-false 256 (length c.sorts) k }

-- ---- variables

within_length : (xs : List ℕ) (k : ℕ) → xs ≡ upto k → (n : ℕ) → Among n xs → n ≤ length xs
within_length xs k is n a = omega (arith, upto_within k n (subst (Among n) is a), ap length is, length_numbers 0 k)

as_long : (sorts : List Sort) (f : ℕ → Sort) (xs : List ℕ) (k : ℕ) → map f (upto k) ≡ sorts → xs ≡ upto k → length xs ≡ length sorts
as_long sorts f xs k read is = ap length is ∙ sym (length-map (upto k) f) ∙ ap length read

pub listed_within : (sorts : List Sort) (n : ℕ) → Among n (nums_from 1 sorts) → (0 < n) × (n ≤ length sorts)
listed_within sorts n a =
    let r = unlisted 1 sorts n a in
    elim (cases_lt r.0 (length sorts)) [
      | inl less ↦ (omega (arith, r.1), omega (arith, r.1))
      | inr past ↦ absurd (let e = get_or_past sorts r.0 Any past in let f = r.2 in cc)
    ]

module _ (c : Clause) (h : IsCanonical c) where
  abbrev first_met : List ℕ
  first_met = variables_by_first_occurrence c

  first_listed : (n : ℕ) → Among n (variables_in (c.head ∷ c.body) ++ rows_variables c.rows) → (0 < n) × (n ≤ length c.sorts)
  first_listed n a =
      let long : length first_met ≡ length c.sorts = as_long c.sorts (sort_in c.sorts) first_met _ (sorts_read c h) (by_first c h) in
      let met = distinct_has [] (variables_in (c.head ∷ c.body) ++ rows_variables c.rows) n a in
      let l = within_length first_met _ (by_first c h) n met in
      ((upto_within _ n (subst (Among n) (by_first c h) met)).0, omega arith)

  -- a variable that is printed has its place among the sorts
  pub printed_listed : (n : ℕ) → Among n (variables_as_printed c) → (0 < n) × (n ≤ length c.sorts)
  printed_listed n a =
      let tree = variables_in (c.head ∷ c.body) in
      let rows = rows_variables c.rows in
      let front = variables_in (c.head ∷ []) ++ rows in
      elim (distinct_from nat_eq number_equality [] (front ++ loose_nums c ++ variables_in c.body) n a) [
        | inl none ↦ elim none [ ]
        | inr b ↦ elim (among_either n (front ++ loose_nums c) (variables_in c.body) b) [
          | inl f ↦ elim (among_either n front (loose_nums c) f) [
            | inl g ↦ elim (among_either n (variables_in (c.head ∷ [])) rows g) [
              | inl head ↦ first_listed n (among_front n tree rows (subst (λ ns. Among n (ns ++ variables_in c.body)) (append-nil (variables c.head)) (among_front n (variables c.head ++ []) (variables_in c.body) head)))
              | inr row ↦ first_listed n (among_back n tree rows row)
            ]
            | inr loose ↦ listed_within c.sorts n (filter_out (λ m. not (list_any (λ k. nat_eq k m) rows)) (nums_from 1 c.sorts) n loose).0
          ]
          | inr body ↦ first_listed n (among_front n tree rows (among_back n (variables c.head) (variables_in c.body) body))
        ]
      ]

  pub sorts_few : length c.sorts ≤ 256
  sorts_few = (limits c h.limits).variables

pub writable : (c : Clause) → IsPrintable c → IsWritable c
writable c h =
    let canonical = h.canonical in
    record {
      rows = λ r a. let is = row_is_normal c canonical r a in (is, subst (λ x. is_within x ≡ true) is.stays (each_within c.rows canonical.range r a));
      deep = (limits c canonical.limits).deep;
      small = λ n a. let l = (printed_listed c canonical n a).1 in let few = sorts_few c canonical in omega arith;
      over = h.over;
      texts = h.texts;
      nums = h.nums;
    }

pub parsable : (c : Clause) → IsWritable c → IsParsable c
unfolding clause_depth
parsable c h = record {
  names = All-cons HasShortNames c.head c.body (short_names c.head h.over.head.names) (all_short c.body h.over.body);
  deep = h.deep;
  range = each_all (λ r. is_within r ≡ true) c.rows (λ r a. (h.rows r a).1);
  variables = each_all (λ n. n < 2 ^ 64) (variables_as_printed c) h.small;
}
