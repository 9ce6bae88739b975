-- Printed programs are read again.
use Rattle.std.proofs.Common.{◌≡◌, ℕ, zero, suc, ◌+◌, ◌-◌, ◌<◌, ◌≤◌, List, [], ◌∷◌, ◌++◌, length, map, true, false, arith, refl, sym, ◌∙◌, ap, subst, append_assoc, append-nil, length-append, codes, IsUtf8, Result, Ok, Err, Some, None}
use Rattle.std.specs.Prelude.{if◌then◌else◌, nat_lt, All}
use Rattle.std.specs.Str.Lossy.{utf8_valid_len}
use Rattle.std.proofs.lemmas.Bool.Decides.{nat_tests}
use Rattle.std.proofs.lemmas.Str.{utf8_valid_len-IsUtf8}
use Rattle.std.proofs.lemmas.List.Elements.{All-head, All-tail}
use Rattle.token_model.specs.declared.token.Lexeme.{Lexeme}
use Rattle.token_model.specs.declared.token.Lexeme.TheVariants as l
use Rattle.token_model.specs.declared.fault.Fault.{Fault}
use Rattle.token_model.specs.declared.fault.Kind.TheVariants as fault
use Rattle.token_model.specs.White.{skipped}
use Rattle.token_model.specs.Tokens.{token}
use Rattle.token_model.specs.Remaining.{Remaining, whole, ahead, next_token, touches_number, lexeme, left}
use Rattle.token_cursor.specs.Utf8.{not_utf8}
use Rattle.clp_model.specs.Clauses.{Clause}
use Rattle.clause_model.specs.Source.{source_of}
use Rattle.clause_store.specs.declared.source.SourceClause.{SourceClause}
use Rattle.clause_store.specs.Source.{meaning_of}
use Rattle.clp_grammar.specs.Evaluation.{with_value}
use Rattle.clp_grammar.specs.Clauses.{unless}
use Rattle.clp_grammar.specs.Grammar.{max_clauses, meant, clause, clause_with, past_limit, next_clause, clauses_by, clauses_from, program}
use Rattle.print_model.specs.Joined.{joined}
use Rattle.print_model.specs.Terms.{atom_text}
use Rattle.print_model.specs.Clauses as text
use Rattle.print_model.specs.Clauses.{clause_text, program_text, end_text}
use Rattle.parsing_laws.specs.Behind.{behind, IsEndBefore}
use Rattle.parsing_laws.proofs.Terms.{begins_term}
use Rattle.parsing_laws.proofs.Clauses.{draft_is, clause_begins, clause_text_is, clause_stays}
use Rattle.evaluation_laws.proofs.Clauses.{rows_meant}
use Rattle.text_laws.specs.Laws.{IsPrintable, PrintedProgramsAreReadAgain}
use Rattle.text_laws.proofs.Printable.{IsWritable, writable, parsable, ordinary}
use Rattle.text_laws.proofs.Texts.{program_is_text}

-- ---- one clause

-- what begins a term begins a clause
by_begins : (again : List SourceClause → Remaining → Result (List SourceClause) Fault) (found : List SourceClause) (r : Remaining) (k : Lexeme) → begins_term k ≡ true
    → clauses_by again found r k ≡ with_value (next_clause found r) (λ p. again (found ++ p.0 ∷ []) p.1)
by_begins again found r l.Name h = refl
by_begins again found r l.Quoted h = refl
by_begins again found r l.Variable h = refl
by_begins again found r l.OpenSquare h = refl
by_begins again found r _ h = absurd (cc)

-- what the text of a clause is read as, and the source that it stands for
pub record IsReadBack (c : Clause) (r : Remaining) (rest : List ℕ) : Type 0 where
  pub source : SourceClause
  pub is : clause r ≡ Ok (source, behind rest false)
  pub means : meaning_of source ≡ source_of c

-- the text of a clause, where what follows makes its `.` its end
pub clause_read : (c : Clause) (r : Remaining) (z : List ℕ) → IsWritable c → IsEndBefore z
    → ahead r ≡ atom_text c.head ++ (joined (codes " :- ") (codes ", ") (text.goals c) ++ 46 ∷ z) → IsReadBack c r z
unfolding clause_with
clause_read c r z h ends front =
    let meant_is = rows_meant c (1 + length z) h.rows h.nums (ordinary c h) in
    record {
      source = meant_is.0;
      is = ap meant (draft_is c r z (parsable c h) ends front) ∙ ap (λ v. with_value v (λ s. Ok (s, behind z false))) meant_is.1;
      means = meant_is.2;
    }

-- the first clause of a printed text
module _ (c : Clause) (h : IsWritable c) (r : Remaining) (z : List ℕ) (front : ahead r ≡ skipped (clause_text c ++ z)) where
  parts : ahead r ≡ atom_text c.head ++ (joined (codes " :- ") (codes ", ") (text.goals c) ++ 46 ∷ 10 ∷ z)
  parts = front ∙ clause_stays c z (parsable c h) ∙ clause_text_is c z

  starts : begins_term (lexeme r) ≡ true
  starts = clause_begins c r (10 ∷ z) (parsable c h) (λ a. refl) parts

  abbrev back : IsReadBack c r (10 ∷ z)
  back = clause_read c r (10 ∷ z) h (λ a. refl) parts

-- ---- programs

finished : (r : Remaining) → ahead r ≡ [] → lexeme r ≡ l.Finish
unfolding lexeme next_token token
finished r e = ap (λ z. (token (touches_number r) z).lexeme) e

below : (k : ℕ) → k < max_clauses → nat_lt k max_clauses ≡ true
below k less = grind (arith, nat_tests)

clauses_read : (cs : List Clause) (n : ℕ) (found : List SourceClause) (r : Remaining) → All IsPrintable cs → length found + length cs ≤ max_clauses → length cs ≤ n
    → ahead r ≡ skipped (program_text cs)
    → (source : List SourceClause) × (clauses_from n found r ≡ Ok (found ++ source)) × (map meaning_of source ≡ map source_of cs)
unfolding clauses_from next_clause program_text ahead skipped
clauses_read [] zero found r h few turns front = ([], ap Ok (sym (append-nil found)), refl)
clauses_read [] (suc n) found r h few turns front = ([], ap (clauses_by (clauses_from n) found r) (finished r front) ∙ ap Ok (sym (append-nil found)), refl)
clauses_read (c ∷ cs) zero found r h few turns front = absurd (omega arith)
clauses_read (c ∷ cs) (suc n) found r h few turns front =
    let own = writable c (All-head IsPrintable c cs h) in
    let z = program_text cs in
    let s = (back c own r z front).source in
    let room : nat_lt (length found) max_clauses ≡ true = below (length found) (omega arith) in
    let others = clauses_read cs n (found ++ s ∷ []) (behind (10 ∷ z) false) (All-tail IsPrintable c cs h) (omega (arith, length-append found (s ∷ []))) (omega arith) refl in (
      s ∷ others.0,
      by_begins (clauses_from n) found r (lexeme r) (starts c own r z front)
          ∙ ap (λ b. with_value (if b then clause r else Err (past_limit r)) (λ p. clauses_from n (found ++ p.0 ∷ []) p.1)) room
          ∙ ap (λ v. with_value v (λ p. clauses_from n (found ++ p.0 ∷ []) p.1)) (back c own r z front).is
          ∙ others.1
          ∙ ap Ok (append_assoc found (s ∷ []) others.0),
      ap (λ d. d ∷ map meaning_of others.0) (back c own r z front).means ∙ ap (λ ds. source_of c ∷ ds) others.2,
    )

-- there are as many turns as bytes, and each clause has some
clauses_short : (cs : List Clause) → length cs ≤ length (program_text cs)
unfolding program_text clause_text
clauses_short [] = omega arith
clauses_short (c ∷ cs) =
    let tail = joined (codes " :- ") (codes ", ") (text.goals c) in
    let one = length-append (clause_text c) (program_text cs) in
    let two = length-append (atom_text c.head) (tail ++ end_text) in
    let three = length-append tail end_text in
    omega (arith, clauses_short cs)

turns_enough : (cs : List Clause) → All IsPrintable cs → length cs ≤ length (skipped (program_text cs))
unfolding program_text
turns_enough [] h = omega arith
turns_enough (c ∷ cs) h =
    let e : skipped (program_text (c ∷ cs)) ≡ program_text (c ∷ cs) = clause_stays c (program_text cs) (parsable c (writable c (All-head IsPrintable c cs h))) in
    subst (λ k. length (c ∷ cs) ≤ k) (ap length (sym e)) (clauses_short (c ∷ cs))

pub text_is_utf8 : (z : List ℕ) → IsUtf8 z → not_utf8 z ≡ None
unfolding not_utf8
text_is_utf8 z u =
    let same = utf8_valid_len-IsUtf8 z u in
    let e : nat_lt (utf8_valid_len z) (length z) ≡ false = grind (arith, nat_tests) in
    ap (λ b. if b then Some (record { left = length z - utf8_valid_len z; kind = fault.NotUtf8 }) else None) e

pub programs_are_read : PrintedProgramsAreReadAgain
unfolding program left ahead
programs_are_read cs few h =
    let z = program_text cs in
    let all = clauses_read cs (left (whole z)) [] (whole z) h (omega arith) (turns_enough cs h) refl in
    (all.0, ap (λ o. unless o (clauses_from (left (whole z)) [] (whole z))) (text_is_utf8 z (program_is_text cs h)) ∙ all.1, all.2)
