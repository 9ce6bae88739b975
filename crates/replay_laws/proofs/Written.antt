-- The program that is written after a run: it is read and loaded again, and what it proves.
use Rattle.std.proofs.Common.{◌≡◌, ◌↔◌, ◌+◌, ◌≤◌, List, [], ◌∷◌, ◌++◌, length, refl, sym, ap, subst, map, arith}
use Rattle.std.specs.Prelude.{Some, Ok, All, Contains}
use Rattle.std.specs.Str.{is_utf8}
use Rattle.std.proofs.lemmas.List.Elements.{All-nil, All-cons, All-head, All-tail}
use Rattle.std.proofs.lemmas.List.{length-map}
use Rattle.clp_model.specs.Values.{GroundAtom}
use Rattle.clp_model.specs.Clauses.{Clause}
use Rattle.clp_model.specs.Proof.{Provable}
use Rattle.clp_model.specs.Canonical.{clause_size}
use Rattle.clp_model.specs.Predicates.{initial_predicates, program_predicates, ground_predicate}
use Rattle.clause_model.specs.Canonical.{IsCanonical}
use Rattle.clause_model.specs.Load.{Program, sizes_of, load}
use Rattle.clause_store.specs.declared.source.SourceClause.{SourceClause}
use Rattle.clause_store.specs.Source.{meaning_of}
use Rattle.clp_grammar.specs.Grammar.{program, max_clauses}
use Rattle.print_model.specs.Clauses.{program_text}
use Rattle.standing_model.specs.Names.{is_short, is_ordinary}
use Rattle.grammar_laws.specs.Read.{IsReadClause}
use Rattle.read_name_laws.specs.Laws.{HasTextNames}
use Rattle.read_name_laws.proofs.Programs.{over as texts_over}
use Rattle.text_laws.specs.Laws.{IsPrintable}
use Rattle.text_laws.proofs.Laws.{printed_programs_are_loaded_again}
use Rattle.name_laws.specs.Names.{AreOver, EquationsHaveNames, IsStepOver}
use Rattle.name_laws.proofs.Loading.{loading_keeps}
use Rattle.name_laws.proofs.States.{start_keeps_names, run_keeps_names}
use Rattle.limit_laws.specs.Limits.{IsWithinLimits}
use Rattle.limit_laws.proofs.Limits.{start_within, run_keeps_limits}
use Rattle.rule_laws.specs.Steps.{IsHeld}
use Rattle.map_model.specs.WellFormed.{IsWellFormed}
use Rattle.map_model.specs.declared.step.Step.{Step}
use Rattle.map_model.specs.State.{Entry, State, start_state, live_entries, live_clauses, nodes_of, clauses_of}
use Rattle.map_model.specs.Defined.{definitions_of}
use Rattle.map_model.specs.FormedSteps.{IsFormedStep}
use Rattle.map_model.specs.After.{run}
use Rattle.state_laws.specs.KeptState.{IsKeptState}
use Rattle.state_laws.proofs.Standing.{places_of}
use Rattle.state_laws.proofs.Loaded.{loading_keeps_provable, loaded_run_is_kept, loaded_run_keeps, loaded_run_keeps_predicates}
use Rattle.replay_laws.proofs.Loading.{loaded_places}

-- ---- the source clauses

-- what the states ask of each clause that was read
all_formed : (cs : List SourceClause) → All IsReadClause cs → All IsWellFormed (map meaning_of cs)
all_formed [] h = All-nil IsWellFormed
all_formed (c ∷ cs) h = All-cons IsWellFormed (meaning_of c) (map meaning_of cs) (All-head IsReadClause c cs h).well (all_formed cs (All-tail IsReadClause c cs h))

-- its names and predicates are those that are read
abbrev IsOverRead : Clause → Type 0
IsOverRead c = EquationsHaveNames is_short c × AreOver is_short is_ordinary c

over_read : (c : SourceClause) → IsReadClause c → IsOverRead (meaning_of c)
over_read c h = (h.named, h.over)

all_over : (cs : List SourceClause) → All IsReadClause cs → All IsOverRead (map meaning_of cs)
all_over [] h = All-nil IsOverRead
all_over (c ∷ cs) h = All-cons IsOverRead (meaning_of c) (map meaning_of cs) (over_read c (All-head IsReadClause c cs h)) (all_over cs (All-tail IsReadClause c cs h))

-- its names are in UTF-8
abbrev IsOverTexts : Clause → Type 0
IsOverTexts c = EquationsHaveNames is_utf8 c × AreOver is_utf8 is_ordinary c

all_texts : (cs : List SourceClause) → All IsReadClause cs → All HasTextNames cs → All IsOverTexts (map meaning_of cs)
all_texts [] h t = All-nil IsOverTexts
all_texts (c ∷ cs) h t =
    let one = All-head HasTextNames c cs t in
    All-cons IsOverTexts (meaning_of c) (map meaning_of cs) (one.equations, texts_over is_short is_ordinary c one (All-head IsReadClause c cs h).over)
    (all_texts cs (All-tail IsReadClause c cs h) (All-tail HasTextNames c cs t))

-- ---- the program that is written

sizes_live : (es : List Entry) → sizes_of (map Some (clauses_of es)) ≡ nodes_of es
sizes_live [] = refl
sizes_live (e ∷ es) = ap (λ n. clause_size e.clause + n) (sizes_live es)

printable : (cs : List Clause) → All IsCanonical cs → All (AreOver is_short is_ordinary) cs → All (AreOver is_utf8 is_ordinary) cs → All IsHeld cs → All IsPrintable cs
printable [] canonical over texts held = All-nil IsPrintable
printable (c ∷ cs) canonical over texts held =
    All-cons IsPrintable c cs
    (record {
      canonical = All-head IsCanonical c cs canonical;
      over = All-head (AreOver is_short is_ordinary) c cs over;
      texts = All-head (AreOver is_utf8 is_ordinary) c cs texts;
      nums = (All-head IsHeld c cs held).nums;
    })
    (printable cs (All-tail IsCanonical c cs canonical) (All-tail (AreOver is_short is_ordinary) c cs over) (All-tail (AreOver is_utf8 is_ordinary) c cs texts) (All-tail IsHeld c cs held))

both : {P Q R : Type 0} → P ↔ Q → Q ↔ R → P ↔ R
both first then = ((λ x. then.0 (first.0 x)), (λ x. first.1 (then.1 x)))

-- What is printed of the state t is read as a program that loads, and of the predicates of the source it proves what the
-- source proves, and of all predicates what the source proves with the definitions of the steps.
pub record IsWritten (source : List Clause) (steps : List Step) (t : State) : Type 0 where
  pub result : List SourceClause
  pub result_is : program (program_text (live_clauses t)) ≡ Ok result
  pub loaded : Program
  pub loads : load (map meaning_of result) ≡ Ok loaded
  pub initial : (a : GroundAtom) → Contains (program_predicates source) (ground_predicate a) → Provable (map meaning_of result) a ↔ Provable source a
  pub all : (a : GroundAtom) → Provable (map meaning_of result) a ↔ Provable (source ++ definitions_of steps) a

-- the state that a run of a program that was read ends in can be printed
module _ (source : List SourceClause) (read : All IsReadClause source) (texts : All HasTextNames source) (short : length source ≤ max_clauses) (q : Program) (loads : load (map meaning_of source) ≡ Ok q)
    (steps : List Step) (steps_formed : All IsFormedStep steps) (steps_over : All (IsStepOver is_short is_ordinary) steps) (steps_texts : All (IsStepOver is_utf8 is_ordinary) steps) (t : State) (runs : run (start_state q.clauses q.predicates) steps ≡ Ok t) where
  begun : State
  begun = start_state q.clauses q.predicates

  ended_kept : IsKeptState t
  ended_kept = loaded_run_is_kept (map meaning_of source) q steps t (all_formed source read) loads runs steps_formed

  ended_over : All (AreOver is_short is_ordinary) (live_clauses t)
  unfolding begun
  ended_over =
      let placed = loading_keeps is_short is_ordinary (map meaning_of source) q (all_over source read) loads in
      (run_keeps_names is_short is_ordinary begun t steps (start_keeps_names is_short is_ordinary q.clauses q.predicates placed) steps_over runs).0

  ended_texts : All (AreOver is_utf8 is_ordinary) (live_clauses t)
  unfolding begun
  ended_texts =
      let placed = loading_keeps is_utf8 is_ordinary (map meaning_of source) q (all_texts source read texts) loads in
      (run_keeps_names is_utf8 is_ordinary begun t steps (start_keeps_names is_utf8 is_ordinary q.clauses q.predicates placed) steps_texts runs).0

  ended_within : IsWithinLimits t
  unfolding begun
  ended_within =
      let l = loaded_places (map meaning_of source) q loads in
      let long = l.long in
      let count = length-map source meaning_of in
      run_keeps_limits begun t steps runs (start_within q.clauses q.predicates (omega (arith, long, count, short)) l.small)

  ended_printable : All IsPrintable (live_clauses t)
  ended_printable = printable (live_clauses t) ended_kept.canonical ended_over ended_texts ended_kept.held

  pub is_written : IsWritten (map meaning_of source) steps t
  is_written =
      let within = ended_within in
      let few = within.few in
      let counted = within.counted in
      let small = within.small in
      let long = length-map (live_entries t) (λ e. e.clause) in
      let sizes = sizes_live (live_entries t) in
      let back = printed_programs_are_loaded_again (live_clauses t) (omega (arith, few, long)) ended_printable (omega (arith, sizes, counted, small)) in
      let again : Program = record { clauses = map Some (live_clauses t); predicates = initial_predicates (live_clauses t) } in
      let live = places_of (live_clauses t) in
      let printed : (a : GroundAtom) → Provable (map meaning_of back.0) a ↔ Provable (live_clauses t) a = λ a.
      let one = loading_keeps_provable (map meaning_of back.0) again back.3 back.2 a in (
        λ x. subst (λ cs. Provable cs a) live (one.1 x),
        λ x. one.0 (subst (λ cs. Provable cs a) (sym live) x),
      ) in
      let formed = all_formed source read in
      record {
        result = back.0;
        result_is = back.1;
        loaded = again;
        loads = back.3;
        initial = λ a inside. both (printed a) (loaded_run_keeps_predicates (map meaning_of source) q steps t formed loads runs steps_formed a inside);
        all = λ a. both (printed a) (loaded_run_keeps (map meaning_of source) q steps t formed loads runs steps_formed a);
      }
