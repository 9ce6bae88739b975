-- What is said of the top call, from how it ended.
use Rattle.std.proofs.Common.{◌≡◌, ◌≢◌, ℕ, ◌⊎◌, inl, inr, List, [], refl, ap, sym, subst, ◌∙◌, append-nil, arith}
use Rattle.std.specs.Prelude.{Option, Some, None, Ok, true}
use Rattle.std.specs.Io.KnownBytes.{append_known}
use Rattle.map_model.specs.State.{State}
use Rattle.replay_model.specs.Replay.{replayed, output}
use Rattle.replay_model.specs.Headline.{KeepsProvability}
use Rattle.replay_model.specs.Filling.{FillsScript}
use Rattle.replay_laws.proofs.Headline.{keeps_provability}
use Rattle.fill_text_laws.proofs.Filling.{fills_script}
use Rattle.map_base.specs.Outside.{Files, Rose, TakesPrefix}
use Rattle.command_model.specs.declared.status.Status.{Status}
use Rattle.command_model.specs.declared.status.Status.TheVariants as status
use Rattle.command_model.specs.Command.{Command, Replay, Fill, command_of}
use Rattle.command_model.specs.Plan.{Plan, filled, plan_of, script_on_program, plan}
use Rattle.command_model.specs.Causes.{LeadsTo, Awaits, WritesBeginning, is_said}
use Rattle.command_model.specs.Answers.{right_answer, Writes}
use Rattle.command_laws.specs.Ends.{IsAccepted}
use Rattle.command_laws.proofs.Plans.{ok, no_command, plans_say}
use Rattle.command_laws.proofs.Rightly.{right}
use Rattle.map_main.specs.Headline.{KeepsProvabilityOnFiles, FillsScriptOnFiles}
use Rattle.map_main.specs.Endings.{Ends}
use Rattle.map_main.specs.Endings.IsWritten.{whole, sink_failed, no_memory}
use Rattle.map_main.specs.Endings.Ends.{answers, shelf_failed, no_memory_before}

-- nothing is a beginning of every text
pub takes_nothing : (known : Option (List ℕ)) (text : List ℕ) → TakesPrefix known known text
takes_nothing None text = tt
takes_nothing (Some xs) text = ([], (text, refl), sym (append-nil xs))

-- a status without text is none that comes with one
unsaid : (s : Status) → is_said s ≡ true → (s ≢ status.ShelfFault) × (s ≢ status.SinkFault) × (s ≢ status.NoMemory) × (s ≢ status.InputFault) × (s ≢ status.BudgetSpent)
unsaid s h = (λ e. differs (ap is_said e), λ e. differs (ap is_said e), λ e. differs (ap is_said e), λ e. differs (ap is_said e), λ e. differs (ap is_said e))
  where
    differs : is_said s ≡ Rattle.std.specs.Prelude.false → ⊥
    differs e = cc

module _ (words : List (List ℕ)) (files : Option Files) (shelf shelf' : ℕ) (failed : List ℕ) (before after : Option (List ℕ)) (sink sink' : ℕ) where
  -- how the call ended
  abbrev Ended : Status → Type 0
  Ended r = Ends before after sink sink' files (plan words) shelf shelf' failed r

  abbrev IsTold : Status → Type 0
  IsTold r = (text : List ℕ) × LeadsTo files (plan words) r text × (after ≡ append_known before text)

  says : (s : Status) (text : List ℕ) → LeadsTo files (plan words) s text → is_said s ≡ true
  says s text l = plans_say words files s text l

  -- a status that comes with a text came with the right one
  pub said : (r : Status) → Ended r → is_said r ≡ true → IsTold r
  said _ (answers s text l q _ (whole e f)) x = (text, l, e)
  said _ (answers s text l q _ (sink_failed p f)) x = let no : ⊥ = cc in absurd no
  said _ (answers s text l q _ (no_memory p f)) x = let no : ⊥ = cc in absurd no
  said _ (shelf_failed w i e f) x = let no : ⊥ = cc in absurd no
  said _ (no_memory_before q e f) x = let no : ⊥ = cc in absurd no

  pub shelf_fault : (r : Status) → Ended r → r ≡ status.ShelfFault → Rose shelf shelf' × Awaits files (plan words) failed × (after ≡ before)
  shelf_fault _ (answers s text l q _ (whole e f)) x = absurd ((unsaid s (says s text l)).0 x)
  shelf_fault _ (answers s text l q _ (sink_failed p f)) x = let no : ⊥ = cc in absurd no
  shelf_fault _ (answers s text l q _ (no_memory p f)) x = let no : ⊥ = cc in absurd no
  shelf_fault _ (shelf_failed w i e f) x = (w, i, e)
  shelf_fault _ (no_memory_before q e f) x = let no : ⊥ = cc in absurd no

  pub sink_fault : (r : Status) → Ended r → r ≡ status.SinkFault → Rose sink sink' × WritesBeginning files (plan words) before after
  sink_fault _ (answers s text l q _ (whole e f)) x = absurd ((unsaid s (says s text l)).1 x)
  sink_fault _ (answers s text l q _ (sink_failed p f)) x = (f, (s, (text, l, p)))
  sink_fault _ (answers s text l q _ (no_memory p f)) x = let no : ⊥ = cc in absurd no
  sink_fault _ (shelf_failed w i e f) x = let no : ⊥ = cc in absurd no
  sink_fault _ (no_memory_before q e f) x = let no : ⊥ = cc in absurd no

  pub out_of_memory : (r : Status) → Ended r → r ≡ status.NoMemory → (after ≡ before) ⊎ WritesBeginning files (plan words) before after
  out_of_memory _ (answers s text l q _ (whole e f)) x = absurd ((unsaid s (says s text l)).2 x)
  out_of_memory _ (answers s text l q _ (sink_failed p f)) x = let no : ⊥ = cc in absurd no
  out_of_memory _ (answers s text l q _ (no_memory p f)) x = inr (s, (text, l, p))
  out_of_memory _ (shelf_failed w i e f) x = let no : ⊥ = cc in absurd no
  out_of_memory _ (no_memory_before q e f) x = inl e

  pub never : (r : Status) → Ended r → (r ≢ status.InputFault) × (r ≢ status.BudgetSpent)
  never _ (answers s text l q _ (whole e f)) = ((unsaid s (says s text l)).3, (unsaid s (says s text l)).4)
  never _ (answers s text l q _ (sink_failed p f)) = (λ x. cc, λ x. cc)
  never _ (answers s text l q _ (no_memory p f)) = (λ x. cc, λ x. cc)
  never _ (shelf_failed w i e f) = (λ x. cc, λ x. cc)
  never _ (no_memory_before q e f) = (λ x. cc, λ x. cc)

  pub shelf_quiet : (r : Status) → Ended r → r ≢ status.ShelfFault → shelf' ≡ shelf
  shelf_quiet _ (answers s text l q _ w) n = q
  shelf_quiet _ (shelf_failed w i e f) n = absurd (n refl)
  shelf_quiet _ (no_memory_before q e f) n = q

  pub sink_quiet : (r : Status) → Ended r → r ≢ status.SinkFault → sink' ≡ sink
  sink_quiet _ (answers s text l q _ (whole e f)) n = f
  sink_quiet _ (answers s text l q _ (sink_failed p f)) n = absurd (n refl)
  sink_quiet _ (answers s text l q _ (no_memory p f)) n = f
  sink_quiet _ (shelf_failed w i e f) n = f
  sink_quiet _ (no_memory_before q e f) n = f

  -- where nothing failed, there was a text or no memory
  answered : (r : Status) → Ended r → ¬ Rose shelf shelf' → ¬ Rose sink sink' → (r ≡ status.NoMemory) ⊎ IsTold r
  answered _ (answers s text l q _ (whole e f)) a b = inr (text, l, e)
  answered _ (answers s text l q _ (sink_failed p f)) a b = absurd (b f)
  answered _ (answers s text l q _ (no_memory p f)) a b = inl refl
  answered _ (shelf_failed w i e f) a b = absurd (a w)
  answered _ (no_memory_before q e f) a b = inl refl

  -- words that mean no command are answered so, whatever the shelf does
  pub without_command : (r : Status) → Ended r → command_of words ≡ None → ¬ Rose sink sink' → (r ≡ status.Usage) ⊎ (r ≡ status.NoMemory)
  without_command _ (answers s text l q _ (whole e f)) n b = inl ((no_command words files n).0 s text l).0
  without_command _ (answers s text l q _ (sink_failed p f)) n b = absurd (b f)
  without_command _ (answers s text l q _ (no_memory p f)) n b = inr refl
  without_command _ (shelf_failed w i e f) n b = absurd ((no_command words files n).1 failed i)
  without_command _ (no_memory_before q e f) n b = inr refl

  -- where the files are told, the answer is the right one
  rightly : (told : Files) → files ≡ Some told → (r : Status) → (r ≡ status.NoMemory) ⊎ IsTold r
      → (r ≡ status.NoMemory) ⊎ ((text : List ℕ) × (right_answer told (plan words) ≡ Writes r text) × (after ≡ append_known before text))
  rightly told t r (inl e) = inl e
  rightly told t r (inr h) = inr (h.0, right told (plan words) r h.0 (subst (λ f. LeadsTo f (plan words) r h.0) t h.1), h.2)

  pub right_or_no_memory : (r : Status) → Ended r → (told : Files) → files ≡ Some told → ¬ Rose shelf shelf' → ¬ Rose sink sink'
      → (r ≡ status.NoMemory) ⊎ ((text : List ℕ) × (right_answer told (plan words) ≡ Writes r text) × (after ≡ append_known before text))
  right_or_no_memory r h told t a b = rightly told t r (answered r h a b)

  -- ---- what is written where every step is accepted
  accepted : (text_of : State → List ℕ) (program script : List ℕ) (told : Files) → files ≡ Some told → IsTold status.Ok
      → plan words ≡ script_on_program text_of program script
      → (end : State) × IsAccepted (Some told) program script end × (after ≡ append_known before (text_of end))
  accepted text_of program script told t h same =
      let one = subst (λ p. LeadsTo files p status.Ok h.0) same h.1 in
      let two = subst (λ f. LeadsTo f (script_on_program text_of program script) status.Ok h.0) t one in
      let end = ok text_of (Some told) program script h.0 two in
      (end.0, end.1, h.2 ∙ ap (append_known before) end.2)

  pub keeps_provability_on_files : (r : Status) → Ended r → r ≡ status.Ok → (program script : List ℕ) → command_of words ≡ Some (Replay program script)
      → (told : Files) (known : List ℕ) → files ≡ Some told → before ≡ Some known → KeepsProvabilityOnFiles program script told known after
  keeps_provability_on_files r h x program script means told known t k =
      let one = accepted output program script told t (said status.Ok (subst Ended x h) refl) (ap plan_of means) in
      let a = one.1 in
      let short_program = a.program_given.short in
      let short_script = a.script_given.short in
      record {
        program_bytes = a.program_bytes;
        program_is = a.program_given.told;
        script_bytes = a.script_bytes;
        script_is = a.script_given.told;
        written = output one.0;
        after_is = one.2 ∙ ap (λ y. append_known y (output one.0)) k;
        keeps = keeps_provability a.program_bytes a.script_bytes one.0 (omega (arith, short_program)) (omega (arith, short_script)) a.replays;
      }

  pub fills_script_on_files : (r : Status) → Ended r → r ≡ status.Ok → (program script : List ℕ) → command_of words ≡ Some (Fill program script)
      → (told : Files) (known : List ℕ) → files ≡ Some told → before ≡ Some known → FillsScriptOnFiles program script told known after
  fills_script_on_files r h x program script means told known t k =
      let one = accepted filled program script told t (said status.Ok (subst Ended x h) refl) (ap plan_of means) in
      let a = one.1 in
      let short = a.script_given.short in
      record {
        program_bytes = a.program_bytes;
        program_is = a.program_given.told;
        script_bytes = a.script_bytes;
        script_is = a.script_given.told;
        written = filled one.0;
        after_is = one.2 ∙ ap (λ y. append_known y (filled one.0)) k;
        fills = fills_script a.program_bytes a.script_bytes one.0 (omega (arith, short)) a.replays;
      }
