-- What is read of a printed program is loaded as its clauses.
use Rattle.std.proofs.Common.{◌≡◌, ℕ, suc, ◌+◌, ◌≤◌, List, [], ◌∷◌, ◌++◌, length, map, refl, sym, ◌∙◌, ap, subst, arith, inl, inr, append_assoc, append-nil, Option, Some, Ok, Err}
use Rattle.std.specs.Prelude.{All, if◌then◌else◌}
use Rattle.std.proofs.lemmas.Bool.{le-ltb}
use Rattle.std.proofs.lemmas.List.Elements.{All-head, All-tail}
use Rattle.clp_model.specs.declared.limit.Limit.TheVariants.{Nodes}
use Rattle.clp_model.specs.declared.tree.Tree.{Tree, App}
use Rattle.clp_model.specs.Trees.{IsApplication, mapped, mapped_all, name_of, arguments_of, variables_in}
use Rattle.clp_model.proofs.Trees.{application_is, mapped_app, name_of_app, arguments_of_app}
use Rattle.clp_model.proofs.RenamedTrees.{length_mapped}
use Rattle.clp_model.proofs.Membership.{Among, first, next, among_front, among_back, among_either, distinct_has, at_place}
use Rattle.clp_model.specs.declared.sort.Sort.{Sort}
use Rattle.clp_model.specs.declared.sort.Sort.TheVariants.{Any, Num}
use Rattle.unify_laws.proofs.Solved.{among_cases}
use Rattle.clp_model.specs.Clauses.{Clause, Row, sort_in}
use Rattle.clp_model.specs.Canonical.{clause_size, place_in}
use Rattle.clp_model.specs.Predicates.{predicate_of, clause_predicates, program_predicates, initial_predicates, same_predicate, distinct_after}
use Rattle.clause_model.specs.Canonical.{TooLarge}
use Rattle.clause_model.specs.Solved.{RowsAreNum}
use Rattle.clause_model.specs.Load.{sizes_of, counted, loaded_after, with_predicates, load}
use Rattle.clause_model.specs.Source.{source_of}
use Rattle.clause_model.specs.Variables.{row_variables, rows_variables, loose_nums, variables_as_printed}
use Rattle.clause_laws.specs.Laws.{AllNum}
use Rattle.clause_laws.proofs.Rows.{all_each, each_all, among_rows}
use Rattle.clause_laws.proofs.Written.{written, written_from}
use Rattle.clause_laws.proofs.SourceLoaded.{source_is_loaded}
use Rattle.name_laws.specs.Names.{IsAtomOver}
use Rattle.standing_model.specs.Names.{is_short, is_ordinary}
use Rattle.text_laws.specs.Laws.{IsPrintable, PrintedProgramsAreLoadedAgain}
use Rattle.text_laws.proofs.Programs.{programs_are_read}

-- ---- the sources of clauses within the limits are loaded as the clauses

again : (place : ℕ) (found : List (Option Clause)) (nodes : ℕ) (cs : List Clause) → All IsPrintable cs → nodes + sizes_of (map Some cs) ≤ 8388608
    → loaded_after place found nodes (map source_of cs) ≡ Ok (found ++ map Some cs)
again place found nodes [] h small = ap Ok (sym (append-nil found))
again place found nodes (c ∷ cs) h small =
    ap (counted place nodes (λ d more. loaded_after (suc place) (found ++ d ∷ []) more (map source_of cs))) (source_is_loaded c (All-head IsPrintable c cs h).canonical)
    ∙ (ap (λ b. if b then Err (place, TooLarge Nodes) else loaded_after (suc place) (found ++ Some c ∷ []) (nodes + clause_size c) (map source_of cs)) (le-ltb 8388608 (nodes + clause_size c) (omega (arith, small)))
    ∙ (again (suc place) (found ++ Some c ∷ []) (nodes + clause_size c) cs (All-tail IsPrintable c cs h) (omega (arith, small))
    ∙ ap Ok (append_assoc found (Some c ∷ []) (map Some cs))))

-- ---- predicates

predicate_mapped : (f : ℕ → ℕ) (t : Tree ℕ) → IsApplication t → predicate_of (mapped f t) ≡ predicate_of t
predicate_mapped f t h =
    let name = name_of t in
    let args = arguments_of t in
    ap (λ u. predicate_of (mapped f u)) (application_is t h)
    ∙ ap predicate_of (mapped_app f name args)
    ∙ ap (λ w. record { name = w; arity = length (arguments_of (App name (mapped_all f args))) }) (name_of_app name (mapped_all f args))
    ∙ ap (λ k. record { name = name; arity = k }) (ap length (arguments_of_app name (mapped_all f args)) ∙ length_mapped f args)

predicates_mapped : (f : ℕ → ℕ) (ts : List (Tree ℕ)) → All (IsAtomOver is_short is_ordinary) ts → map predicate_of (mapped_all f ts) ≡ map predicate_of ts
predicates_mapped f [] h = refl
predicates_mapped f (t ∷ ts) h =
    ap (λ p. p ∷ map predicate_of (mapped_all f ts)) (predicate_mapped f t (All-head (IsAtomOver is_short is_ordinary) t ts h).application)
    ∙ ap (λ ps. predicate_of t ∷ ps) (predicates_mapped f ts (All-tail (IsAtomOver is_short is_ordinary) t ts h))

same_predicates : (c : Clause) → IsPrintable c → clause_predicates (source_of c) ≡ clause_predicates c
unfolding source_of
same_predicates c h =
    let f = place_in (variables_as_printed c) in
    ap (λ p. p ∷ map predicate_of (mapped_all f c.body)) (predicate_mapped f c.head h.over.head.application)
    ∙ ap (λ ps. predicate_of c.head ∷ ps) (predicates_mapped f c.body h.over.body)

all_predicates : (cs : List Clause) → All IsPrintable cs → program_predicates (map source_of cs) ≡ program_predicates cs
all_predicates [] h = refl
all_predicates (c ∷ cs) h =
    ap (λ ps. ps ++ program_predicates (map source_of cs)) (same_predicates c (All-head IsPrintable c cs h))
    ∙ ap (λ ps. clause_predicates c ++ ps) (all_predicates cs (All-tail IsPrintable c cs h))

-- ---- the variables of the rows of sources are numbers

of_some_row : (rows : List Row) (n : ℕ) → Among n (rows_variables rows) → (r : Row) × Among r rows × Among n (row_variables r)
of_some_row [] n a = elim a [ ]
of_some_row (r ∷ rows) n a = elim (among_either n (row_variables r) (rows_variables rows) a) [
  | inl b ↦ (r, first, b)
  | inr b ↦ let k = of_some_row rows n b in (k.0, next k.1, k.2)
]

unmapped : {A B : Type 0} (f : A → B) (xs : List A) (y : B) → Among y (map f xs) → (x : A) × Among x xs × (f x ≡ y)
unmapped f [] y a = elim a [ ]
unmapped f (x ∷ xs) y a = among_cases a (λ e. (x, first, sym e)) (λ b. let k = unmapped f xs y b in (k.0, next k.1, k.2))

pub source_nums : (c : Clause) → RowsAreNum c → RowsAreNum (source_of c)
unfolding source_of
source_nums c nums = each_all (λ n. sort_in sorts n ≡ Num) (rows_variables (map (written place) c.rows)) (λ n a.
    let row = of_some_row (map (written place) c.rows) n a in
    let own = unmapped (written place) c.rows row.0 row.1 in
    let old = written_from place own.0 n (subst (λ r. Among n (row_variables r)) (sym own.2) row.2) in
    let inside = among_rows own.0 c.rows old.0 own.1 old.1 in
    ap (sort_in sorts) (sym old.2)
    ∙ at_place (sort_in c.sorts) names old.0 Any Any (printed old.0 inside)
    ∙ all_each (λ m. sort_in c.sorts m ≡ Num) (rows_variables c.rows) nums old.0 inside)
  where
    names : List ℕ
    names = variables_as_printed c

    place : ℕ → ℕ
    place = place_in names

    sorts : List Sort
    sorts = map (sort_in c.sorts) names

    printed : (n : ℕ) → Among n (rows_variables c.rows) → Among n (variables_as_printed c)
    printed n a =
        let front = variables_in (c.head ∷ []) ++ rows_variables c.rows in
        distinct_has [] (front ++ loose_nums c ++ variables_in c.body) n
        (among_front n (front ++ loose_nums c) (variables_in c.body) (among_front n front (loose_nums c) (among_back n (variables_in (c.head ∷ [])) (rows_variables c.rows) a)))

all_num : (cs : List Clause) → All IsPrintable cs → AllNum (map source_of cs)
all_num [] h = tt
all_num (c ∷ cs) h = (source_nums c (All-head IsPrintable c cs h).nums, all_num cs (All-tail IsPrintable c cs h))

pub programs_are_loaded : PrintedProgramsAreLoadedAgain
unfolding load
programs_are_loaded cs few h small =
    let read = programs_are_read cs few h in (
      read.0,
      read.1,
      subst AllNum (sym read.2) (all_num cs h),
      ap load read.2
          ∙ ap (λ ps. with_predicates (distinct_after same_predicate [] ps) (loaded_after 1 [] 0 (map source_of cs))) (all_predicates cs h)
          ∙ ap (with_predicates (initial_predicates cs)) (again 1 [] 0 cs h (omega (arith, small))),
    )
