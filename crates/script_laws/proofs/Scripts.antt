-- Printed lines and scripts are read again.
use Rattle.std.proofs.Common.{◌≡◌, ℕ, zero, suc, ◌≤◌, Bool, true, false, List, [], ◌∷◌, ◌++◌, length, refl, ap, ◌∙◌, sym, arith, codes, Option, Some, None, Ok, Err, append_assoc, append-nil}
use Rattle.std.proofs.lemmas.Fmt.{decimal_digit}
use Rattle.std.proofs.lemmas.List.Elements.{All-head, All-tail}
use Rattle.std.specs.Fmt.{decimal}
use Rattle.std.specs.Prelude.{All, if◌then◌else◌}
use Rattle.token_model.specs.declared.fault.Fault.{Fault}
use Rattle.token_model.specs.declared.fault.Kind.TheVariants.{NoVersion, Version}
use Rattle.token_model.specs.declared.token.Lexeme.{Lexeme}
use Rattle.token_model.specs.declared.token.Lexeme.TheVariants as l
use Rattle.token_model.specs.Tokens.{token}
use Rattle.token_model.specs.White.{skipped}
use Rattle.token_model.specs.Remaining.{Remaining, whole, ahead, lexeme, next_token, same_lexeme, sees, refusal}
use Rattle.token_model.specs.Parsers.{Parser, Outcome, and_then, ◌>>=◌, ◌>>◌, pure, value_of}
use Rattle.printed_tokens.proofs.Next.{sees_by}
use Rattle.printed_tokens.proofs.Marks.{end_is}
use Rattle.parsing_laws.specs.Behind.{behind, IsEndBefore}
use Rattle.map_model.specs.declared.step.Step.{Step}
use Rattle.script_grammar.specs.Script.{version_line, steps_from, step, past_limit, max_steps, script, line, unless_fault, finish}
use Rattle.script_grammar.specs.ScriptText.{step_text, steps_text, script_text, IsInRange}
use Rattle.script_laws.specs.Laws.{IsPrintableStep, PrintedStepsAreReadAgain, PrintedScriptsAreReadAgain}
use Rattle.script_laws.proofs.Tokens.{Reads, goes_on, reads_nothing, expected, chosen, not_chosen, word_read, number_read, name_ends_at_space, number_ends_at_dot}
use Rattle.script_laws.proofs.Steps.{step_stays, step_begins, step_read}
use Rattle.script_laws.proofs.Texts.{whole_text, step_is_text, script_is_text}

-- ---- the end of a text

nothing_left : (a : Bool) → same_lexeme (lexeme (behind [] a)) l.Finish ≡ true
unfolding same_lexeme lexeme next_token ahead skipped token
nothing_left a = refl

nothing_behind_line : (a : Bool) → same_lexeme (lexeme (behind (10 ∷ []) a)) l.Finish ≡ true
unfolding same_lexeme lexeme next_token ahead skipped token
nothing_behind_line a = refl

name_is_no_end : (k : Lexeme) → k ≡ l.Name → same_lexeme k l.Finish ≡ false
unfolding same_lexeme
name_is_no_end k e = ap (λ (found : Lexeme). same_lexeme found l.Finish) e

-- ---- scripts

version_read : (y : List ℕ) → Reads version_line (codes "map script 1." ++ 10 ∷ y) tt (10 ∷ y)
unfolding version_line skipped ahead
version_read y =
    let front : 49 ∷ 46 ∷ 10 ∷ y ≡ decimal 1 ++ 46 ∷ 10 ∷ y = ap (λ (ds : List ℕ). ds ++ 46 ∷ 10 ∷ y) (sym (decimal_digit 1 (omega arith))) in
    goes_on _ (word_read NoVersion (codes "map") (codes "map script 1." ++ 10 ∷ y) (codes " script 1." ++ 10 ∷ y) refl (omega arith) refl (name_ends_at_space _))
    (goes_on _ (word_read NoVersion (codes "script") (codes " script 1." ++ 10 ∷ y) (codes " 1." ++ 10 ∷ y) refl (omega arith) refl (name_ends_at_space _))
    (goes_on _ (number_read 1 1 Version 1 (codes " 1." ++ 10 ∷ y) (46 ∷ 10 ∷ y) (omega arith) (omega arith) (omega arith) front (number_ends_at_dot _))
    (expected l.End (46 ∷ []) (46 ∷ 10 ∷ y) (10 ∷ y) (λ a. end_is (behind (46 ∷ 10 ∷ y) a) (10 ∷ y) (λ b. refl) refl))))

-- one more step, and those behind it
abbrev further : ℕ → List Step → Parser Remaining (List Step)
further n found = step >>= (λ s. steps_from n (found ++ s ∷ []))

steps_read : (turns : ℕ) (steps found : List Step) → length steps ≤ turns → All IsInRange steps → All IsPrintableStep steps → Reads (steps_from turns found) (10 ∷ steps_text steps) (found ++ steps) (10 ∷ [])
unfolding steps_from steps_text skipped
steps_read zero [] found few all printable =
    rw (append-nil found) (chosen l.Finish (pure found) (λ r. Err (past_limit r)) (10 ∷ []) found (10 ∷ []) nothing_behind_line (reads_nothing found (10 ∷ [])))
steps_read zero (s ∷ steps) found few all printable = absurd (omega arith)
steps_read (suc n) [] found few all printable =
    rw (append-nil found) (chosen l.Finish (pure found) (further n found) (10 ∷ []) found (10 ∷ []) nothing_behind_line (reads_nothing found (10 ∷ [])))
steps_read (suc n) (s ∷ steps) found few all printable =
    let rest = 10 ∷ steps_text steps in
    let own = All-head IsInRange s steps all in
    let own_text = All-head IsPrintableStep s steps printable in
    let ends : IsEndBefore (10 ∷ steps_text steps) = λ a. refl in
    let text = 10 ∷ (step_text s ++ rest) in
    let front : skipped (10 ∷ (step_text s ++ 10 ∷ steps_text steps)) ≡ step_text s ++ 10 ∷ steps_text steps = step_stays s rest own own_text ends in
    let again : Reads (steps_from n (found ++ s ∷ [])) rest (found ++ s ∷ steps) (10 ∷ []) = rw (append_assoc found (s ∷ []) steps) at (steps_read n steps (found ++ s ∷ []) (omega arith) (All-tail IsInRange s steps all) (All-tail IsPrintableStep s steps printable)) in
    not_chosen l.Finish (pure found) (further n found) text (found ++ s ∷ steps) (10 ∷ []) (λ a. name_is_no_end _ (step_begins s rest own own_text ends text front a))
    (goes_on (λ found_step. steps_from n (found ++ found_step ∷ [])) (step_read s rest own own_text ends text front) again)

pub scripts_are_read_again : PrintedScriptsAreReadAgain
unfolding script script_text
scripts_are_read_again steps h printable =
    let all : Reads (version_line >> steps_from max_steps []) (script_text steps) steps (10 ∷ []) = goes_on _ (version_read (steps_text steps)) (steps_read max_steps steps [] h.few h.in_range printable) in
    ap (λ (o : Option Fault). unless_fault o (value_of ((version_line >> steps_from max_steps []) (whole (script_text steps))))) (whole_text (script_text steps) (script_is_text steps h.in_range printable))
    ∙ ap value_of (all.is false).1

-- ---- lines

abbrev step_alone : Parser Remaining (Option Step)
step_alone = step >>= finish

pub steps_are_read_again : PrintedStepsAreReadAgain
unfolding line ahead
steps_are_read_again s h printable =
    let text = step_text s in
    let ends : IsEndBefore [] = λ a. refl in
    let stays : skipped (step_text s) ≡ step_text s ++ [] = ap skipped (sym (append-nil (step_text s))) ∙ step_stays s [] h printable ends in
    let is_read = (step_read s [] h printable ends text stays).is false in
    let more : sees l.Finish (whole (step_text s)) ≡ false = sees_by (whole (step_text s)) (lexeme (whole (step_text s))) l.Finish refl ∙ name_is_no_end _ (step_begins s [] h printable ends (step_text s) stays false) in
    let no_more : sees l.Finish (behind [] is_read.0) ≡ true = sees_by (behind [] is_read.0) (lexeme (behind [] is_read.0)) l.Finish refl ∙ nothing_left is_read.0 in
    ap (λ (o : Option Fault). unless_fault o (value_of (if sees l.Finish (whole text) then Ok (None, whole text) else step_alone (whole text)))) (whole_text text (step_is_text s h printable))
    ∙ ap (λ (b : Bool). value_of (if b then Ok (None, whole text) else step_alone (whole text))) more
    ∙ ap (λ (o : Outcome Remaining Step). value_of (and_then o finish)) is_read.1
    ∙ ap (λ (b : Bool). value_of (if b then Ok (Some s, behind [] is_read.0) else Err (refusal (behind [] is_read.0)))) no_more
