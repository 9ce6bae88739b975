-- Printed rows are read again.
use Rattle.std.proofs.Common.{◌≡◌, ℕ, inl, inr, Bool, true, false, List, [], ◌∷◌, ◌++◌, length, map, refl, ap, ◌∙◌, arith, codes, Ok, Option, Result, ℤ}
use Rattle.std.proofs.lemmas.List.Elements.{All-head, All-tail}
use Rattle.std.specs.Prelude.{All, nat_eq}
use Rattle.clp_model.specs.Canonical.{place_in}
use Rattle.clp_model.specs.Clauses.{Row}
use Rattle.clp_model.proofs.Membership.{Among, first, next, distinct_has}
use Rattle.linear_laws.proofs.Lists.{distinct_out}
use Rattle.clause_model.specs.Variables.{row_variables}
use Rattle.clause_laws.proofs.Rows.{each_all}
use Rattle.case_table.specs.declared.rule_word.RuleWord.TheVariants as rule
use Rattle.token_model.specs.declared.fault.Fault.{Fault}
use Rattle.token_model.specs.declared.token.Lexeme.TheVariants as l
use Rattle.token_model.specs.White.{skipped}
use Rattle.token_model.specs.Remaining.{ahead}
use Rattle.token_model.specs.Parsers.{Outcome, and_then, ◌>>◌, pure}
use Rattle.printed_tokens.specs.Next.{EndsName}
use Rattle.printed_tokens.proofs.Next.{sees_itself}
use Rattle.print_model.specs.Rows.{row_text}
use Rattle.parsing_laws.specs.Places.{at, known, met, Placed, AreSmall}
use Rattle.parsing_laws.specs.Behind.{behind, ends, Stops}
use Rattle.parsing_laws.proofs.States.{passes}
use Rattle.parsing_laws.proofs.Places.{placed_by_all}
use Rattle.parsing_laws.proofs.Rows.{comparison_is, row_item}
use Rattle.standing_model.specs.Rows as rows
use Rattle.clp_grammar.specs.declared.draft.Comparison.{Comparison}
use Rattle.clp_grammar.specs.Clauses.{unless}
use Rattle.clp_grammar.specs.Evaluation.{row_of, with_value}
use Rattle.clp_grammar.specs.Input.{Input, max_open}
use Rattle.evaluation_laws.proofs.Rows.{standing_rows}
use Rattle.row_grammar.specs.Row.{row_to_show, compared_to_show, show_word, row_over, meant, variable_numbers, number_at}
use Rattle.script_grammar.specs.ScriptText.{word_text, IsRow, IsVariable}
use Rattle.script_laws.proofs.Tokens.{Reads, Comes, plain_comes, name_ends_at_space, number_ends_at_space}
use Rattle.script_laws.proofs.Variables.{AreWritten, AreNumbered, numbers_back, number_at_place, row_numbered}

-- ---- the word behind a row

module _ (rest : List ℕ) (ends_name : EndsName rest) where
  abbrev show_text : List ℕ
  show_text = word_text rule.Show ++ rest

  show_comes : Comes (word_text rule.Show ++ rest) l.Name (codes "show") rest
  unfolding skipped
  show_comes = plain_comes (codes "show") (word_text rule.Show ++ rest) rest refl (omega arith) refl ends_name

  show_stops : Stops ends (word_text rule.Show ++ rest)
  show_stops = record { name = name_ends_at_space _; number = number_ends_at_space _; next = λ a. ap ends (show_comes a).lexeme }

  show_passed : (a : Bool) (names : List (List ℕ)) → show_word (at (behind show_text a) names) ≡ Ok (tt, at (behind rest false) names)
  unfolding show_word
  show_passed a names =
      let r = behind show_text a in
      rw (sees_itself r l.Name (show_comes a).lexeme, (show_comes a).spelling, passes r l.Name (codes "show") rest names (show_comes a)) refl

-- ---- the variables of a row

written_variables : (row : Row) → IsRow row → AreWritten (row_variables row)
written_variables row is = each row.pairs is.variables
  where
    each : (ps : List (ℕ × ℤ)) → All IsVariable ps → AreWritten (map (λ (p : ℕ × ℤ). p.0) ps)
    each [] all n a = elim a [ ]
    each (p ∷ ps) all n first = All-head IsVariable p ps all
    each (p ∷ ps) all n (next a) = each ps (All-tail IsVariable p ps all) n a

small_variables : (ms : List ℕ) → AreWritten ms → AreSmall ms
small_variables [] h = tt
small_variables (m ∷ ms) h = (let b = h m first in omega (arith, b.1), small_variables ms (λ n a. h n (next a)))

module _ (row : Row) (is : IsRow row) where
  abbrev all : List ℕ
  all = met [] (row_variables row)

  abbrev place : ℕ → ℕ
  place = place_in all

  abbrev numbers : List ℕ
  numbers = variable_numbers (known all)

  all_written : AreWritten all
  all_written n a = elim (distinct_out nat_eq [] (row_variables row) n a) [ inl b ↦ absurd (elim b [ ]) | inr b ↦ written_variables row is n b ]

  own_number : (n : ℕ) → Among n (row_variables row) → number_at numbers (place n) ≡ n
  own_number n a = ap (λ (ms : List ℕ). number_at ms (place n)) (numbers_back all all_written) ∙ number_at_place all n (distinct_has [] (row_variables row) n a)

  has_numbers : AreNumbered numbers place (row_variables row)
  has_numbers n a = let some = (written_variables row is n a).0 in rw (own_number n a) some

  -- what stands for the row has the row as its value
  pub value_is : (after : ℕ) → row_over numbers (rows.comparison place row after) ≡ Ok row
  unfolding row_over
  value_is after =
      ap (λ (o : Option Fault). unless o (row_of (number_at numbers) (rows.comparison place row after))) (row_numbered numbers place row after has_numbers)
      ∙ standing_rows (number_at numbers) place row after is.normal is.within (each_all (λ (n : ℕ). number_at numbers (place n) ≡ n) (row_variables row) own_number)

  all_placed : Placed place [] (row_variables row)
  all_placed = placed_by_all [] (row_variables row) all tt (small_variables (row_variables row) (written_variables row is)) refl

-- a printed row and the word `show` behind it are read as the row
pub row_read : (row : Row) (rest : List ℕ) → IsRow row → EndsName rest → Reads row_to_show (32 ∷ (row_text row ++ (word_text rule.Show ++ rest))) row rest
unfolding row_to_show compared_to_show ahead skipped
row_read row rest is ends_name = record { is = λ a. (false, go a) }
  where
    c : Comparison
    c = rows.comparison (place row is) row (length (word_text rule.Show ++ rest))

    compared : (a : Bool) → compared_to_show (at (behind (32 ∷ (row_text row ++ (word_text rule.Show ++ rest))) a) (known [])) ≡ Ok (rows.comparison (place row is) row (length (word_text rule.Show ++ rest)), at (behind rest false) (known (all row is)))
    compared a =
        let r = behind (32 ∷ (row_text row ++ (word_text rule.Show ++ rest))) a in
        ap (λ (o : Outcome Input Comparison). and_then o (λ found. show_word >> pure found))
        (comparison_is (place row is) row is.within [] r (word_text rule.Show ++ rest) (all_placed row is) ((row_item (place row is) row is.within).stays (word_text rule.Show ++ rest)) (show_stops rest ends_name) max_open)
        ∙ ap (λ (o : Outcome Input (Unit {0})). and_then o (λ _. pure c)) (show_passed rest ends_name true (known (all row is)))

    go : (a : Bool) → row_to_show (behind (32 ∷ (row_text row ++ (word_text rule.Show ++ rest))) a) ≡ Ok (row, behind rest false)
    go a = ap meant (compared a) ∙ ap (λ (o : Result Row Fault). with_value o (λ found. Ok (found, behind rest false))) (value_is row is (length (word_text rule.Show ++ rest)))
