-- Programs, goals and clauses within a text.
use Rattle.std.proofs.Common.{◌≡◌, ℕ, zero, suc, ◌-◌, ◌<◌, ◌≤◌, ◌^◌, List, [], ◌∷◌, ◌++◌, length, drop, Bool, true, false, refl, arith, length-append, length-drop}
use Rattle.std.specs.Prelude.{All, nat_lt, if◌then◌else◌, Option, Some, None, Result, Ok, Err}
use Rattle.std.proofs.lemmas.List.Elements.{All-nil, All-push}
use Rattle.std.proofs.lemmas.Bool.Decides.{nat_tests}
use Rattle.clause_store.specs.declared.source.SourceClause.{SourceClause}
use Rattle.token_model.specs.declared.token.Lexeme.{Lexeme}
use Rattle.token_model.specs.declared.token.Lexeme.TheVariants as l
use Rattle.token_model.specs.declared.fault.Fault.{Fault}
use Rattle.token_model.specs.Remaining.{Remaining, whole, lexeme, left, sees, refusal}
use Rattle.token_model.specs.Parsers.{Outcome}
use Rattle.token_cursor.specs.Utf8.{not_utf8}
use Rattle.clp_grammar.specs.declared.draft.Draft.{Draft}
use Rattle.clp_grammar.specs.Input.{Input, start}
use Rattle.clp_grammar.specs.Drafts.{draft, end, end_or_finish}
use Rattle.clp_grammar.specs.Directives.{directive}
use Rattle.clp_grammar.specs.Evaluation.{with_value}
use Rattle.clp_grammar.specs.Clauses.{meaning, unless}
use Rattle.clp_grammar.specs.Grammar.{max_clauses, meant, clause_with, clause, past_limit, next_clause, clauses_by, clauses_from, program, alone, goal_text, clause_at}
use Rattle.draft_laws.proofs.Clauses.{drafts_formed, last_drafts_formed, drafts_shorten, directives_shorten}
use Rattle.grammar_laws.specs.Read.{IsReadClause}
use Rattle.grammar_laws.specs.Laws.{ReadProgramsCanBeLoaded, ReadGoalsCanBeLoaded, ReadClausesCanBeLoaded}
use Rattle.grammar_laws.proofs.Clauses.{IfValue, meaning_read, told}

then_value : {A B : Type 0} (P : A → Type 0) (Q : B → Type 0) (r : Result A Fault) (f : A → Result B Fault) → IfValue P r → ((a : A) → P a → IfValue Q (f a)) → IfValue Q (with_value r f)
then_value P Q (Ok a) f h g = g a h
then_value P Q (Err e) f h g = tt

known_value : {A : Type 0} (r : Result A Fault) → IfValue (λ a. r ≡ Ok a) r
known_value (Ok a) = refl
known_value (Err e) = tt

unless_value : {A : Type 0} (P : A → Type 0) (o : Option Fault) (r : Result A Fault) → IfValue P r → IfValue P (unless o r)
unless_value P None r h = h
unless_value P (Some e) r h = tt

-- ---- clauses

-- a clause that can be loaded, and no text after it that is longer
abbrev pub IsReadWithin : Remaining → SourceClause × Remaining → Type 0
IsReadWithin r p = IsReadClause p.0 × (length p.1.text ≤ length r.text)

pub clause_read : (r : Remaining) → length r.text < 2 ^ 32 → IfValue (IsReadWithin r) (clause r)
unfolding clause_with
clause_read r short = by (draft end (start r)) refl
  where
    by : (o : Outcome Input Draft) → draft end (start r) ≡ o → IfValue (IsReadWithin r) (meant o)
    by (Ok p) e =
        then_value IsReadClause (IsReadWithin r) (meaning p.0) (λ c. Ok (c, p.1.remaining)) (meaning_read p.0 (drafts_formed (start r) p.0 p.1 short e)) (λ c h.
        (h, drafts_shorten (start r) p.0 p.1 short e))
    by (Err f) e = tt

last_read : (r : Remaining) → length r.text < 2 ^ 32 → IfValue (λ p. IsReadClause p.0) (clause_with end_or_finish r)
unfolding clause_with
last_read r short = by (draft end_or_finish (start r)) refl
  where
    by : (o : Outcome Input Draft) → draft end_or_finish (start r) ≡ o → IfValue (λ p. IsReadClause p.0) (meant o)
    by (Ok p) e =
        then_value IsReadClause (λ q. IsReadClause q.0) (meaning p.0) (λ c. Ok (c, p.1.remaining)) (meaning_read p.0 (last_drafts_formed (start r) p.0 p.1 short e)) (λ c h. h)
    by (Err f) e = tt

-- ---- programs

record AreRead (cs : List SourceClause) : Type 0 where
  each : All IsReadClause cs
  few : length cs ≤ max_clauses

next_read : (found : List SourceClause) (r : Remaining) → length r.text < 2 ^ 32 → IfValue (λ p. IsReadWithin r p × (length found < max_clauses)) (next_clause found r)
unfolding next_clause
next_read found r short = by (nat_lt (length found) max_clauses) refl
  where
    further : (o : Result (SourceClause × Remaining) Fault) → length found < max_clauses → IfValue (IsReadWithin r) o → IfValue (λ p. IsReadWithin r p × (length found < max_clauses)) o
    further (Ok p) few h = (h, few)
    further (Err f) few h = tt

    by : (b : Bool) → nat_lt (length found) max_clauses ≡ b → IfValue (λ p. IsReadWithin r p × (length found < max_clauses)) (if b then clause r else Err (past_limit r))
    by true e = let few : length found < max_clauses = grind (arith, nat_tests) in further (clause r) few (clause_read r short)
    by false e = tt

from_read : (turns : ℕ) (found : List SourceClause) (r : Remaining) → AreRead found → length r.text < 2 ^ 32 → IfValue AreRead (clauses_from turns found r)
unfolding clauses_from
from_read zero found r h short = h
from_read (suc turns) found r h short = by (from_read turns) (lexeme r)
  where
    one_more : ((found : List SourceClause) (r : Remaining) → AreRead found → length r.text < 2 ^ 32 → IfValue AreRead (clauses_from turns found r))
        → IfValue AreRead (with_value (next_clause found r) (λ p. clauses_from turns (found ++ p.0 ∷ []) p.1))
    one_more rest =
        then_value (λ p. IsReadWithin r p × (length found < max_clauses)) AreRead (next_clause found r) (λ p. clauses_from turns (found ++ p.0 ∷ []) p.1) (next_read found r short) (λ p k.
        rest (found ++ p.0 ∷ []) p.1
        (record { each = All-push IsReadClause found p.0 h.each k.0.0; few = omega (arith, k.1, length-append found (p.0 ∷ [])) })
        (omega (arith, short, k.0.1)))

    by : ((found : List SourceClause) (r : Remaining) → AreRead found → length r.text < 2 ^ 32 → IfValue AreRead (clauses_from turns found r))
        → (k : Lexeme) → IfValue AreRead (clauses_by (clauses_from turns) found r k)
    by rest l.Finish = h
    by rest l.If =
        then_value (λ s. directive r ≡ Ok s) AreRead (directive r) (clauses_from turns found) (known_value (directive r)) (λ s e.
        rest found s h (omega (arith, short, directives_shorten r s e)))
    by rest _ = one_more rest

program_read : (text : List ℕ) → length text < 2 ^ 32 → IfValue AreRead (program text)
unfolding program
program_read text short =
    unless_value AreRead (not_utf8 text) (clauses_from (left (whole text)) [] (whole text))
    (from_read (left (whole text)) [] (whole text) (record { each = All-nil IsReadClause; few = omega arith }) short)

-- ---- the laws

pub programs : ReadProgramsCanBeLoaded
programs text cs short e = let h = told AreRead (program text) cs (program_read text short) e in (h.each, h.few)

goal_read : (text : List ℕ) → length text < 2 ^ 32 → IfValue IsReadClause (goal_text text)
unfolding goal_text
goal_read text short =
    unless_value IsReadClause (not_utf8 text) (with_value (clause_with end_or_finish (whole text)) alone)
    (then_value (λ p. IsReadClause p.0) IsReadClause (clause_with end_or_finish (whole text)) alone (last_read (whole text) short) (λ p h. by p h (sees l.Finish p.1)))
  where
    by : (p : SourceClause × Remaining) → IsReadClause p.0 → (b : Bool) → IfValue IsReadClause (if b then Ok p.0 else Err (refusal p.1))
    by p h true = h
    by p h false = tt

pub goals : ReadGoalsCanBeLoaded
goals text c short e = told IsReadClause (goal_text text) c (goal_read text short) e

at_read : (text : List ℕ) (at : ℕ) → length text < 2 ^ 32 → IfValue (λ p. IsReadClause p.0) (clause_at text at)
unfolding clause_at
at_read text at short =
    then_value (IsReadWithin (whole (drop at text))) (λ p. IsReadClause p.0) (clause (whole (drop at text))) (λ p. Ok (p.0, length text - length p.1.text))
    (clause_read (whole (drop at text)) (omega (arith, short, length-drop at text))) (λ p h. h.0)

pub clauses : ReadClausesCanBeLoaded
clauses text at c end short e = told (λ (p : SourceClause × ℕ). IsReadClause p.0) (clause_at text at) (c, end) (at_read text at short) e
