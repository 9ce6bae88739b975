-- The clauses that drafts stand for can be loaded.
use Rattle.std.proofs.Common.{◌≡◌, ℕ, zero, suc, ◌-◌, List, [], ◌∷◌, ◌++◌, length, get_or, replicate, refl, ap, subst, arith}
use Rattle.std.specs.Prelude.{All, Option, Some, None, Result, Ok, Err}
use Rattle.std.proofs.lemmas.List.Elements.{All-nil, All-cons, All-head, All-tail, All-append, All-weaker}
use Rattle.std.proofs.lemmas.List.{length-replicate}
use Rattle.clp_model.specs.declared.sort.Sort.{Sort}
use Rattle.clp_model.specs.declared.sort.Sort.TheVariants.{Num}
use Rattle.clp_model.specs.declared.tree.Tree.{Tree}
use Rattle.clp_model.specs.Trees.{variables, variables_in, IsApplication}
use Rattle.clp_model.specs.Clauses.{Row, sort_in}
use Rattle.linear_model.specs.Forms.{IsRising}
use Rattle.lin_row.specs.Rows.{IsKept}
use Rattle.clause_model.specs.Variables.{row_variables, rows_variables}
use Rattle.clause_store.specs.declared.source.SourceClause.{SourceClause}
use Rattle.clause_store.specs.Stored.{IsNum}
use Rattle.clause_loader.specs.WellFormed as loader
use Rattle.clause_loader.specs.WellFormed.{IsNumber, IsNarrowAtom}
use Rattle.map_model.specs.WellFormed as state
use Rattle.standing_model.specs.Names.{is_short, is_ordinary}
use Rattle.name_laws.specs.Names.{HasNames, IsAtomOver}
use Rattle.token_model.specs.declared.fault.Fault.{Fault}
use Rattle.token_model.specs.Parsers.{Outcome, and_then, value_of}
use Rattle.clp_grammar.specs.declared.nature.Nature.{Nature}
use Rattle.clp_grammar.specs.declared.nature.Nature.TheVariants.{Atom, True, Other}
use Rattle.clp_grammar.specs.declared.draft.Draft.{Draft}
use Rattle.clp_grammar.specs.Terms.{Meaning, nothing, place_of, term}
use Rattle.clp_grammar.specs.Clauses.{nature, head_fault_by, goals_fault, misplaced, mean_all, evaluated, unless, meaning}
use Rattle.draft_laws.specs.Formed.{IsFormedDraft}
use Rattle.grammar_laws.specs.Read.{IsReadClause}
use Rattle.grammar_laws.specs.Laws.{FormedDraftsCanBeLoaded}
use Rattle.grammar_laws.proofs.Rows.{IsRowOver}
use Rattle.grammar_laws.proofs.Known.{IsAtom, AreSides, IsKnown, stays, atom_wider}
use Rattle.grammar_laws.proofs.Evaluating.{After, then_after, Anything}
use Rattle.grammar_laws.proofs.Terms.{is_atom}
use Rattle.grammar_laws.proofs.Goals.{no_fault, all_meant}

-- ---- before anything of a clause

none_there : (n i : ℕ) → get_or {A = ℕ} (replicate n 0) i 0 ≡ 0
none_there zero i = refl
none_there (suc n) zero = refl
none_there (suc n) (suc i) = none_there n i

begun : (count : ℕ) → IsKnown count (nothing count)
begun count = record {
  names = length-replicate count 0;
  numbers = λ n. omega (arith, none_there count (n - 1));
  parts = record { sides_over = All-nil (AreSides 0); rows_over = All-nil (IsRowOver (IsNum [])); atoms_over = All-nil (IsAtom 0) };
}

-- ---- what is known of a clause makes a clause that can be loaded

atoms_numbered : (count : ℕ) (ts : List (Tree ℕ)) → All (IsAtom count) ts → All (IsNumber count) (variables_in ts)
atoms_numbered count [] h = All-nil (IsNumber count)
atoms_numbered count (t ∷ ts) h =
    All-append (IsNumber count) (variables t) (variables_in ts) (All-head (IsAtom count) t ts h).numbered (atoms_numbered count ts (All-tail (IsAtom count) t ts h))

sides_numbered : (count : ℕ) (es : List (Tree ℕ × Tree ℕ)) → All (AreSides count) es → All (IsNumber count) (loader.side_variables es)
sides_numbered count [] h = All-nil (IsNumber count)
sides_numbered count (e ∷ es) h =
    let one = All-head (AreSides count) e es h in
    All-append (IsNumber count) (variables e.0) (variables e.1 ++ loader.side_variables es) one.first.numbered
    (All-append (IsNumber count) (variables e.1) (loader.side_variables es) one.second.numbered (sides_numbered count es (All-tail (AreSides count) e es h)))

same_sides : (es : List (Tree ℕ × Tree ℕ)) → loader.side_variables es ≡ state.side_variables es
same_sides [] = refl
same_sides (e ∷ es) = ap (λ vs. variables e.0 ++ (variables e.1 ++ vs)) (same_sides es)

rows_num : (sorts : List Sort) (rs : List Row) → All (IsRowOver (IsNum sorts)) rs → All (IsNum sorts) (rows_variables rs)
rows_num sorts [] h = All-nil (IsNum sorts)
rows_num sorts (r ∷ rs) h =
    All-append (IsNum sorts) (row_variables r) (rows_variables rs) (All-head (IsRowOver (IsNum sorts)) r rs h).variables (rows_num sorts rs (All-tail (IsRowOver (IsNum sorts)) r rs h))

abbrev clause_of : Tree ℕ → Meaning → SourceClause
clause_of head m = record { head = head; equations = m.equations; rows = m.rows; atoms = m.atoms; sorts = m.sorts }

read_clause : (count : ℕ) (head : Tree ℕ) (m : Meaning) → IsKnown count m → IsAtom (length m.sorts) head → IsReadClause (clause_of head m)
read_clause count head m known h = record {
  formed = record { applications = applications; numbered = numbered; sides = sides; nums = nums };
  narrow = All-weaker (IsAtom n) IsNarrowAtom (λ t a. a.narrow) (head ∷ m.atoms) atoms;
  kept = All-weaker (IsRowOver (IsNum m.sorts)) IsKept (λ r k. k.kept) m.rows known.parts.rows_over;
  rising = All-weaker (IsRowOver (IsNum m.sorts)) (λ (r : Row). IsRising r.pairs) (λ r k. k.kept.normal.rising) m.rows known.parts.rows_over;
  nums = are_num;
  well = record {
    applications = applications;
    places = All-append (IsNumber n) (variables_in (head ∷ m.atoms)) (rows_variables m.rows) numbered (All-weaker (IsNum m.sorts) (IsNumber n) (λ v k. (k.positive, k.within)) (rows_variables m.rows) nums);
    sides = subst (All (IsNumber n)) (same_sides m.equations) sides;
    nums = are_num;
  };
  over = record { head = h.over; body = All-weaker (IsAtom n) (IsAtomOver is_short is_ordinary) (λ t a. a.over) m.atoms known.parts.atoms_over };
  named = All-weaker (AreSides n) (λ (e : Tree ℕ × Tree ℕ). HasNames is_short e.0 × HasNames is_short e.1) (λ e s. (s.first.names, s.second.names)) m.equations known.parts.sides_over;
}
  where
    n : ℕ
    n = length m.sorts

    atoms : All (IsAtom (length m.sorts)) (head ∷ m.atoms)
    atoms = All-cons (IsAtom (length m.sorts)) head m.atoms h known.parts.atoms_over

    applications : All IsApplication (head ∷ m.atoms)
    applications = All-weaker (IsAtom (length m.sorts)) IsApplication (λ t a. a.narrow.application) (head ∷ m.atoms) atoms

    numbered : All (IsNumber (length m.sorts)) (variables_in (head ∷ m.atoms))
    numbered = atoms_numbered (length m.sorts) (head ∷ m.atoms) atoms

    sides : All (IsNumber (length m.sorts)) (loader.side_variables m.equations)
    sides = sides_numbered (length m.sorts) m.equations known.parts.sides_over

    nums : All (IsNum m.sorts) (rows_variables m.rows)
    nums = rows_num m.sorts m.rows known.parts.rows_over

    are_num : All (λ v. sort_in m.sorts v ≡ Num) (rows_variables m.rows)
    are_num = All-weaker (IsNum m.sorts) (λ v. sort_in m.sorts v ≡ Num) (λ v k. k.sort) (rows_variables m.rows) nums

-- ---- drafts

-- the value has the property, if there is no fault
abbrev pub IfValue : {A : Type 0} → (A → Type 0) → Result A Fault → Type 0
IfValue P (Ok a) = P a
IfValue P (Err e) = Unit {0}

abbrev Read : ℕ → SourceClause → Type 0
Read n c = IsReadClause c

is_evaluated : (d : Draft) (m : Meaning) → IsKnown d.variables m → IsFormedDraft d → nature d.head ≡ Atom → goals_fault d.goals ≡ None → After d.variables m Read (evaluated d m)
unfolding evaluated
is_evaluated d m known f is right =
    then_after d.variables m IsAtom Read (term d.head m) (λ head k. and_then (mean_all d.goals k) (λ u l. Ok (clause_of head l, l))) (is_atom d.variables (place_of d.head) d.head m known f.head is) (λ head k s h.
    then_after d.variables k Anything Read (mean_all d.goals k) (λ u l. Ok (clause_of head l, l)) (all_meant d.variables d.goals k s.known f.goals right) (λ u l r i. (
      stays d.variables l r.known,
      read_clause d.variables head l r.known (atom_wider (length k.sorts) (length l.sorts) r.grows.sorts.longer head h),
    )))

is_head : (place : ℕ) (n : Nature) → head_fault_by place n ≡ None → n ≡ Atom
is_head place Atom h = refl
is_head place True h = absurd (cc)
is_head place Other h = absurd (cc)

value_read : (count : ℕ) (m : Meaning) (o : Outcome Meaning SourceClause) → After count m Read o → IfValue IsReadClause (value_of o)
value_read count m (Ok p) h = h.1
value_read count m (Err e) h = tt

pub meaning_read : (d : Draft) → IsFormedDraft d → IfValue IsReadClause (meaning d)
unfolding meaning misplaced
meaning_read d f = by (misplaced d) refl
  where
    by : (o : Option Fault) → misplaced d ≡ o → IfValue IsReadClause (unless o (value_of (evaluated d (nothing d.variables))))
    by (Some e) is = tt
    by None is =
        let both = no_fault (head_fault_by (place_of d.head) (nature d.head)) (goals_fault d.goals) is in
        value_read d.variables (nothing d.variables) (evaluated d (nothing d.variables))
        (is_evaluated d (nothing d.variables) (begun d.variables) f (is_head (place_of d.head) (nature d.head) both.0) both.1)

pub told : {A : Type 0} (P : A → Type 0) (r : Result A Fault) (a : A) → IfValue P r → r ≡ Ok a → P a
told P r a h e = subst (λ (x : Result _ Fault). IfValue P x) e h

pub formed_drafts : FormedDraftsCanBeLoaded
formed_drafts d c f e = told IsReadClause (meaning d) c (meaning_read d f) e
