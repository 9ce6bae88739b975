-- Directives, programs and goals are read the same from texts of the same tokens.
use Rattle.std.proofs.Common.{◌≡◌, ◌+◌, ◌-◌, ℕ, zero, suc, Bool, true, false, List, [], ◌∷◌, ◌++◌, length, nat_lt, if◌then◌else◌, None, Result, Ok, Err, refl, ap, ◌∙◌, sym, subst, arith}
use Rattle.std.specs.Prelude.{Option}
use Rattle.token_model.specs.declared.token.Lexeme.{Lexeme}
use Rattle.token_model.specs.declared.token.Lexeme.TheVariants as l
use Rattle.token_model.specs.declared.fault.Kind.TheVariants.{TooDeep, TooMany}
use Rattle.token_model.specs.declared.fault.Fault.{Fault}
use Rattle.token_model.specs.Parsers.{Outcome}
use Rattle.token_model.specs.Remaining as token
use Rattle.token_model.specs.Remaining.{Remaining, whole, lexeme, next}
use Rattle.token_cursor.specs.Utf8.{not_utf8}
use Rattle.clause_store.specs.declared.source.SourceClause.{SourceClause}
use Rattle.clp_grammar.specs.declared.role.Role.{Role}
use Rattle.clp_grammar.specs.declared.role.Role.TheVariants.{Ends, Opens, Closes, Stands, Fails}
use Rattle.clp_grammar.specs.Input.{max_open}
use Rattle.clp_grammar.specs.Drafts.{end_or_finish}
use Rattle.clp_grammar.specs.Directives.{role, directive_by, directive_from, directive}
use Rattle.clp_grammar.specs.Evaluation.{with_value}
use Rattle.clp_grammar.specs.Clauses.{unless}
use Rattle.clp_grammar.specs.Grammar.{max_clauses, clause_with, clause, begins_clause, next_clause, clauses_by, clauses_from, past_limit, program, alone, goal_text}
use Rattle.turn_laws.proofs.Turns.{directives_turn, clauses_turn}
use Rattle.space_laws.specs.Same.{Matches, ReadsAlike}
use Rattle.space_laws.specs.Moved.{moved_fault, moved_result}
use Rattle.space_laws.specs.Laws.{DraftsAreTheSame, ClausesAreTheSame, LastClausesAreTheSame, ProgramsAreTheSame, GoalsAreTheSame}
use Rattle.space_laws.proofs.Reading.{matches_next, matches_lexeme, matches_sees, fault_same, token_refusal_same}
use Rattle.space_laws.proofs.Clauses.{drafts_same, clause_same, last_clause_same}

-- texts of the same tokens remain, or the same fault was met
abbrev RemainsAlike : (ℕ → ℕ) → Result Remaining Fault → Result Remaining Fault → Type 0
RemainsAlike to (Ok r) (Ok s) = Matches to r s
RemainsAlike to (Err e) (Err f) = f ≡ moved_fault to e
RemainsAlike to (Ok r) (Err f) = ⊥
RemainsAlike to (Err e) (Ok s) = ⊥

module _ (to : ℕ → ℕ) where
  -- ---- directives

  directive_turns_same : (n open_now : ℕ) (r s : Remaining) → Matches to r s → RemainsAlike to (directive_from n open_now r) (directive_from n open_now s)
  unfolding directive_from
  directive_turns_same zero open_now r s h = token_refusal_same to r s h
  directive_turns_same (suc n) open_now r s h =
      subst (λ (k : Lexeme). RemainsAlike to (directive_by (directive_from n) open_now r (role (lexeme r))) (directive_by (directive_from n) open_now s (role k))) (matches_lexeme to r s h)
      (go (λ o. directive_turns_same n o (next r) (next s) (matches_next to r s h)) (role (lexeme r)))
    where
      deeper : ((o : ℕ) → RemainsAlike to (directive_from n o (next r)) (directive_from n o (next s))) → (t : Bool)
          → RemainsAlike to (if t then directive_from n (open_now + 1) (next r) else Err (token.fault_at TooDeep r)) (if t then directive_from n (open_now + 1) (next s) else Err (token.fault_at TooDeep s))
      deeper rest true = rest (open_now + 1)
      deeper rest false = fault_same to TooDeep r s h

      go : ((o : ℕ) → RemainsAlike to (directive_from n o (next r)) (directive_from n o (next s))) → (k : Role) → RemainsAlike to (directive_by (directive_from n) open_now r k) (directive_by (directive_from n) open_now s k)
      go rest Ends = matches_next to r s h
      go rest Opens = deeper rest (nat_lt open_now max_open)
      go rest Closes = rest (open_now - 1)
      go rest Stands = rest open_now
      go rest Fails = token_refusal_same to r s h

  directive_same : (r s : Remaining) → Matches to r s → RemainsAlike to (directive r) (directive s)
  unfolding directive
  directive_same r s h =
      let n : ℕ = token.left (next r) + token.left (next s) in
      subst (λ (o : Result Remaining Fault). RemainsAlike to o (directive_from (token.left (next s)) 0 (next s))) (directives_turn (token.left (next r)) n 0 (next r) (omega arith) (omega arith))
      (subst (λ (o : Result Remaining Fault). RemainsAlike to (directive_from n 0 (next r)) o) (directives_turn (token.left (next s)) n 0 (next s) (omega arith) (omega arith))
      (directive_turns_same n 0 (next r) (next s) (matches_next to r s h)))

  -- ---- programs

  past_limit_same : (r s : Remaining) → Matches to r s → past_limit s ≡ moved_fault to (past_limit r)
  unfolding past_limit
  past_limit_same r s h = ap (λ (k : Lexeme). if begins_clause k then token.fault_at TooMany s else token.refusal s) (sym (matches_lexeme to r s h)) ∙ go (begins_clause (lexeme r))
    where
      go : (t : Bool) → (if t then token.fault_at TooMany s else token.refusal s) ≡ moved_fault to (if t then token.fault_at TooMany r else token.refusal r)
      go true = fault_same to TooMany r s h
      go false = token_refusal_same to r s h

  next_same : (found : List SourceClause) (r s : Remaining) → Matches to r s → ReadsAlike to (next_clause found r) (next_clause found s)
  unfolding next_clause
  next_same found r s h = go (nat_lt (length found) max_clauses)
    where
      go : (t : Bool) → ReadsAlike {A = SourceClause} to (if t then clause r else Err (past_limit r)) (if t then clause s else Err (past_limit s))
      go true = clause_same to r s h
      go false = past_limit_same r s h

  -- what is read behind a directive is the same
  behind_directive : {A : Type 0} (o u : Result Remaining Fault) (f : Remaining → Result A Fault) → RemainsAlike to o u → ((r s : Remaining) → Matches to r s → f s ≡ moved_result to (f r)) → with_value u f ≡ moved_result to (with_value o f)
  behind_directive (Ok r) (Ok s) f h same = same r s h
  behind_directive (Err e) (Err g) f h same = ap (λ (k : Fault). Err k) h
  behind_directive (Ok r) (Err g) f h same = absurd h
  behind_directive (Err e) (Ok s) f h same = absurd h

  -- and behind a clause
  behind_clause : {A B : Type 0} (o u : Outcome Remaining A) (f : A × Remaining → Result B Fault) → ReadsAlike to o u → ((a : A) (r s : Remaining) → Matches to r s → f (a, s) ≡ moved_result to (f (a, r))) → with_value u f ≡ moved_result to (with_value o f)
  behind_clause {A} (Ok p) (Ok q) f h same = ap (λ (a : A). f (a, q.1)) h.0 ∙ same p.0 p.1 q.1 h.1
  behind_clause (Err e) (Err g) f h same = ap (λ (k : Fault). Err k) h
  behind_clause (Ok p) (Err g) f h same = absurd h
  behind_clause (Err e) (Ok q) f h same = absurd h

  clauses_same : (n : ℕ) (found : List SourceClause) (r s : Remaining) → Matches to r s → clauses_from n found s ≡ moved_result to (clauses_from n found r)
  unfolding clauses_from
  clauses_same zero found r s h = refl
  clauses_same (suc n) found r s h =
      ap (λ (k : Lexeme). clauses_by (clauses_from n) found s k) (sym (matches_lexeme to r s h)) ∙ go (λ all r s h. clauses_same n all r s h) (lexeme r)
    where
      one : ((all : List SourceClause) (r s : Remaining) → Matches to r s → clauses_from n all s ≡ moved_result to (clauses_from n all r))
          → with_value (next_clause found s) (λ p. clauses_from n (found ++ p.0 ∷ []) p.1) ≡ moved_result to (with_value (next_clause found r) (λ p. clauses_from n (found ++ p.0 ∷ []) p.1))
      one rest = behind_clause (next_clause found r) (next_clause found s) (λ p. clauses_from n (found ++ p.0 ∷ []) p.1) (next_same found r s h) (λ c. rest (found ++ c ∷ []))

      go : ((all : List SourceClause) (r s : Remaining) → Matches to r s → clauses_from n all s ≡ moved_result to (clauses_from n all r))
          → (k : Lexeme) → clauses_by (clauses_from n) found s k ≡ moved_result to (clauses_by (clauses_from n) found r k)
      go rest l.Finish = refl
      go rest l.If = behind_directive (directive r) (directive s) (clauses_from n found) (directive_same r s h) (rest found)
      go rest _ = one rest

  -- a text in UTF-8 has no fault before its first token
  read_whole : {A : Type 0} (text : List ℕ) (o : Result A Fault) → not_utf8 text ≡ None → unless (not_utf8 text) o ≡ o
  read_whole text o h = ap (λ (f : Option Fault). unless f o) h

  pub program_same : (text other : List ℕ) → not_utf8 text ≡ None → not_utf8 other ≡ None → Matches to (whole text) (whole other) → program other ≡ moved_result to (program text)
  unfolding program
  program_same text other e f h =
      let n : ℕ = token.left (whole text) + token.left (whole other) in
      read_whole other (clauses_from (token.left (whole other)) [] (whole other)) f
      ∙ (sym (clauses_turn (token.left (whole other)) n [] (whole other) (omega arith) (omega arith))
      ∙ (clauses_same n [] (whole text) (whole other) h
      ∙ ap (moved_result to) (clauses_turn (token.left (whole text)) n [] (whole text) (omega arith) (omega arith) ∙ sym (read_whole text (clauses_from (token.left (whole text)) [] (whole text)) e))))

  alone_same : (c : SourceClause) (r s : Remaining) → Matches to r s → alone (c, s) ≡ moved_result to (alone (c, r))
  alone_same c r s h = ap (λ (t : Bool). if t then Ok c else Err (token.refusal s)) (sym (matches_sees to l.Finish r s h)) ∙ go (token.sees l.Finish r)
    where
      go : (t : Bool) → ◌≡◌ {A = Result SourceClause Fault} (if t then Ok c else Err (token.refusal s)) (moved_result to (if t then Ok c else Err (token.refusal r)))
      go true = refl
      go false = ap (λ (f : Fault). Err f) (token_refusal_same to r s h)

  pub goal_text_same : (text other : List ℕ) → not_utf8 text ≡ None → not_utf8 other ≡ None → Matches to (whole text) (whole other) → goal_text other ≡ moved_result to (goal_text text)
  unfolding goal_text
  goal_text_same text other e f h =
      read_whole other (with_value (clause_with end_or_finish (whole other)) alone) f
      ∙ (behind_clause (clause_with end_or_finish (whole text)) (clause_with end_or_finish (whole other)) alone (last_clause_same to (whole text) (whole other) h) alone_same
      ∙ ap (moved_result to) (sym (read_whole text (with_value (clause_with end_or_finish (whole text)) alone) e)))

pub drafts_are_the_same : DraftsAreTheSame
drafts_are_the_same to r s h = drafts_same to r s h

pub clauses_are_the_same : ClausesAreTheSame
clauses_are_the_same to r s h = clause_same to r s h

pub last_clauses_are_the_same : LastClausesAreTheSame
last_clauses_are_the_same to r s h = last_clause_same to r s h

pub programs_are_the_same : ProgramsAreTheSame
programs_are_the_same to text other e f h = program_same to text other e f h

pub goals_are_the_same : GoalsAreTheSame
goals_are_the_same to text other e f h = goal_text_same to text other e f h
