-- Printed steps are read again.
use Rattle.std.proofs.Common.{◌≡◌, ℕ, ◌≤◌, Bool, true, false, List, [], ◌∷◌, ◌++◌, length, map, refl, ap, ◌∙◌, sym, arith, codes, Option, Some, Ok, append_assoc}
use Rattle.std.specs.Fmt.{decimal}
use Rattle.std.specs.Prelude.{All}
use Rattle.case_table.specs.declared.rule_word.RuleWord.{RuleWord}
use Rattle.case_table.specs.declared.rule_word.RuleWord.TheVariants as rule
use Rattle.case_table.specs.Rules.{rule_word, found_by_word}
use Rattle.clp_model.specs.declared.predicate.Pred.{Pred}
use Rattle.clp_model.specs.Clauses.{Row}
use Rattle.token_model.specs.declared.token.Lexeme.TheVariants as l
use Rattle.token_model.specs.declared.fault.Kind.TheVariants.{Unexpected, BadNumber}
use Rattle.token_model.specs.Names.{max_name}
use Rattle.token_model.specs.White.{skipped}
use Rattle.token_model.specs.Remaining.{Remaining, ahead, lexeme, expect}
use Rattle.token_model.specs.Parsers.{Parser}
use Rattle.print_model.specs.Names.{is_plain}
use Rattle.print_model.specs.Rows.{row_text}
use Rattle.printed_tokens.specs.Next.{EndsName, EndsNumber}
use Rattle.printed_tokens.proofs.Next.{sees_itself}
use Rattle.printed_tokens.proofs.Numbers.{number_stays}
use Rattle.printed_tokens.proofs.Marks.{comma_is, end_is}
use Rattle.parsing_laws.specs.Behind.{behind, IsEndBefore}
use Rattle.map_model.specs.declared.shown.Shown.{Shown}
use Rattle.map_model.specs.declared.shown.Shows.{Shows}
use Rattle.map_model.specs.declared.step.Step.{Step}
use Rattle.map_model.specs.declared.step.Step.TheVariants.{Define, Unfold, Fold, DeleteFalse, Merge, Add, Drop, Project, Equate}
use Rattle.script_grammar.specs.Fields.{max_field, word, number32}
use Rattle.script_grammar.specs.Certificates as grammar
use Rattle.script_grammar.specs.Script.{define_fields, unfold_fields, fold_fields, delete_fields, merge_fields, add_fields, drop_fields, project_fields, equate_fields, rule_ahead, fields_by, fields_of, step_by, step}
use Rattle.script_grammar.specs.ScriptText.{word_text, field_text, fields_text, predicate_text, list_text, show_text, shown_text, all_shown_text, source_text, words_text, step_text, IsField, IsRow, IsShown, AreShown, IsPredicate, IsInRange}
use Rattle.script_laws.proofs.Tokens.{Reads, Comes, goes_on, reads_nothing, expected, plain_comes, word_read, number_read, name_ends_at_space, number_ends_at_space, number_ends_at_dot, number_ends_at_comma}
use Rattle.script_laws.specs.Laws.{IsPrintableStep}
use Rattle.script_laws.proofs.Certificates.{show_text_is, shown_read, shown_stays, no_part_at_end}
use Rattle.script_laws.proofs.Lists.{fields_read, predicate_read, all_text, all_shown_text_is, all_shown_read}
use Rattle.script_laws.proofs.Sources.{define_read}
use Rattle.script_laws.proofs.PrintedRows.{row_read}

-- ---- words and fields

plain : (w : RuleWord) → is_plain (rule_word w) ≡ true
plain rule.Define = refl
plain _ = refl

short : (w : RuleWord) → length (rule_word w) ≤ max_name
short rule.Define = omega arith
short _ = omega arith

stays : (w : RuleWord) (rest : List ℕ) → skipped (word_text w ++ rest) ≡ rule_word w ++ rest
unfolding skipped
stays rule.Define rest = refl
stays _ rest = refl

first_stays : (w : RuleWord) (rest : List ℕ) → skipped (rule_word w ++ rest) ≡ rule_word w ++ rest
unfolding skipped
first_stays rule.Define rest = refl
first_stays _ rest = refl

pub word_passed : (w : RuleWord) (rest : List ℕ) → EndsName rest → Reads (word w) (word_text w ++ rest) tt rest
word_passed w rest ends = word_read Unexpected (rule_word w) (word_text w ++ rest) rest (plain w) (short w) (stays w rest) ends

pub field_read : (n : ℕ) (rest : List ℕ) → IsField n → EndsNumber rest → Reads number32 (32 ∷ (decimal n ++ rest)) n rest
unfolding skipped
field_read n rest small ends = number_read 0 max_field BadNumber n (32 ∷ (decimal n ++ rest)) rest (omega arith) (omega arith) (omega arith) (number_stays n rest (omega arith)) ends

-- a field with no space before it
second_read : (n : ℕ) (rest : List ℕ) → IsField n → EndsNumber rest → Reads number32 (decimal n ++ rest) n rest
second_read n rest small ends = number_read 0 max_field BadNumber n (decimal n ++ rest) rest (omega arith) (omega arith) (omega arith) (number_stays n rest (omega arith)) ends

end_passed : (rest : List ℕ) → IsEndBefore rest → Reads (expect l.End) (46 ∷ rest) tt rest
unfolding ahead skipped
end_passed rest ends = expected l.End (46 ∷ []) (46 ∷ rest) rest (λ a. end_is (behind (46 ∷ rest) a) rest ends refl)

-- ---- what shows a step, behind a space and before its end

dot_ends : (rest : List ℕ) → EndsName (46 ∷ rest)
dot_ends rest = record { word = refl; quote = refl }

show_read : (show : Shown) (rest : List ℕ) → IsShown show → IsEndBefore rest → Reads grammar.shown (32 ∷ (shown_text show ++ 46 ∷ rest)) show (46 ∷ rest)
unfolding skipped
show_read show rest h ends = shown_read show (32 ∷ (shown_text show ++ 46 ∷ rest)) (46 ∷ rest) h (dot_ends rest) (no_part_at_end rest ends) (shown_stays show (46 ∷ rest))

-- ---- what stands behind the word of a rule

module _ (rest : List ℕ) (ends : IsEndBefore rest) where
  abbrev dot : List ℕ
  dot = 46 ∷ rest

  unfold_read : (id position : ℕ) → IsField id → IsField position → Reads unfold_fields (32 ∷ (decimal id ++ (word_text rule.At ++ 32 ∷ (decimal position ++ dot)))) (Unfold id position) rest
  unfolding unfold_fields
  unfold_read id position i p =
      goes_on _ (field_read id _ i (number_ends_at_space _)) (goes_on _ (word_passed rule.At _ (name_ends_at_space _))
      (goes_on _ (field_read position dot p (number_ends_at_dot rest)) (goes_on _ (end_passed rest ends) (reads_nothing (Unfold id position) rest))))

  fold_read : (id : ℕ) (at : List ℕ) (by : Pred) (images keep : List ℕ) (show : Shows) → IsField id → All IsField at → IsPredicate by → All IsField images → All IsField keep → AreShown show
      → Reads fold_fields (32 ∷ (decimal id ++ (word_text rule.At ++ 32 ∷ (list_text (map decimal at) ++ (word_text rule.By ++ 32 ∷ (predicate_text by
      ++ (word_text rule.With ++ 32 ∷ (list_text (map decimal images) ++ (word_text rule.Keep ++ 32 ∷ (list_text (map decimal keep) ++ (word_text rule.Show ++ 32 ∷ (all_text show ++ dot)))))))))))) (Fold id at by images keep show) rest
  unfolding fold_fields
  fold_read id at by images keep show i a b w k s =
      goes_on _ (field_read id _ i (number_ends_at_space _)) (goes_on _ (word_passed rule.At _ (name_ends_at_space _))
      (goes_on _ (fields_read at _ a) (goes_on _ (word_passed rule.By _ (name_ends_at_space _))
      (goes_on _ (predicate_read by _ b (number_ends_at_space _)) (goes_on _ (word_passed rule.With _ (name_ends_at_space _))
      (goes_on _ (fields_read images _ w) (goes_on _ (word_passed rule.Keep _ (name_ends_at_space _))
      (goes_on _ (fields_read keep _ k) (goes_on _ (word_passed rule.Show _ (name_ends_at_space _))
      (goes_on _ (all_shown_read show dot s (dot_ends rest))
      (goes_on _ (end_passed rest ends) (reads_nothing (Fold id at by images keep show) rest))))))))))))

  delete_read : (id : ℕ) (show : Shown) → IsField id → IsShown show
      → Reads delete_fields (32 ∷ (decimal id ++ (word_text rule.False ++ (word_text rule.Show ++ 32 ∷ (shown_text show ++ dot))))) (DeleteFalse id show) rest
  unfolding delete_fields
  delete_read id show i s =
      goes_on _ (field_read id _ i (number_ends_at_space _)) (goes_on _ (word_passed rule.False _ (name_ends_at_space _))
      (goes_on _ (word_passed rule.Show _ (name_ends_at_space _)) (goes_on _ (show_read show rest s ends)
      (goes_on _ (end_passed rest ends) (reads_nothing (DeleteFalse id show) rest)))))

  merge_read : (id first second : ℕ) → IsField id → IsField first → IsField second
      → Reads merge_fields (32 ∷ (decimal id ++ (word_text rule.At ++ 32 ∷ (decimal first ++ 44 ∷ (decimal second ++ dot))))) (Merge id first second) rest
  unfolding merge_fields ahead skipped
  merge_read id first second i f s =
      let others = decimal second ++ dot in
      goes_on _ (field_read id _ i (number_ends_at_space _)) (goes_on _ (word_passed rule.At _ (name_ends_at_space _))
      (goes_on _ (field_read first (44 ∷ others) f (number_ends_at_comma others))
      (goes_on _ (expected l.Comma (44 ∷ []) (44 ∷ others) others (λ a. comma_is (behind (44 ∷ others) a) others refl))
      (goes_on _ (second_read second dot s (number_ends_at_dot rest)) (goes_on _ (end_passed rest ends) (reads_nothing (Merge id first second) rest))))))

  add_read : (id : ℕ) (row : Row) (show : Shown) → IsField id → IsRow row → IsShown show
      → Reads add_fields (32 ∷ (decimal id ++ (word_text rule.Row ++ 32 ∷ (row_text row ++ (word_text rule.Show ++ 32 ∷ (shown_text show ++ dot)))))) (Add id row show) rest
  unfolding add_fields
  add_read id row show i r s =
      goes_on _ (field_read id _ i (number_ends_at_space _)) (goes_on _ (word_passed rule.Row _ (name_ends_at_space _))
      (goes_on _ (row_read row (32 ∷ (shown_text show ++ dot)) r (name_ends_at_space _)) (goes_on _ (show_read show rest s ends)
      (goes_on _ (end_passed rest ends) (reads_nothing (Add id row show) rest)))))

  drop_read : (id row : ℕ) (show : Shown) → IsField id → IsField row → IsShown show
      → Reads drop_fields (32 ∷ (decimal id ++ (word_text rule.Row ++ 32 ∷ (decimal row ++ (word_text rule.Show ++ 32 ∷ (shown_text show ++ dot)))))) (Drop id row show) rest
  unfolding drop_fields
  drop_read id row show i r s =
      goes_on _ (field_read id _ i (number_ends_at_space _)) (goes_on _ (word_passed rule.Row _ (name_ends_at_space _))
      (goes_on _ (field_read row _ r (number_ends_at_space _)) (goes_on _ (word_passed rule.Show _ (name_ends_at_space _)) (goes_on _ (show_read show rest s ends)
      (goes_on _ (end_passed rest ends) (reads_nothing (Drop id row show) rest))))))

  project_read : (id var : ℕ) → IsField id → IsField var → Reads project_fields (32 ∷ (decimal id ++ (word_text rule.Var ++ 32 ∷ (decimal var ++ dot)))) (Project id var) rest
  unfolding project_fields
  project_read id var i v =
      goes_on _ (field_read id _ i (number_ends_at_space _)) (goes_on _ (word_passed rule.Var _ (name_ends_at_space _))
      (goes_on _ (field_read var dot v (number_ends_at_dot rest)) (goes_on _ (end_passed rest ends) (reads_nothing (Project id var) rest))))

  equate_read : (id var to : ℕ) (show : Shown) → IsField id → IsField var → IsField to → IsShown show
      → Reads equate_fields (32 ∷ (decimal id ++ (word_text rule.Var ++ 32 ∷ (decimal var ++ (word_text rule.To ++ 32 ∷ (decimal to ++ (word_text rule.Show ++ 32 ∷ (shown_text show ++ dot)))))))) (Equate id var to show) rest
  unfolding equate_fields
  equate_read id var to show i v t s =
      goes_on _ (field_read id _ i (number_ends_at_space _)) (goes_on _ (word_passed rule.Var _ (name_ends_at_space _))
      (goes_on _ (field_read var _ v (number_ends_at_space _)) (goes_on _ (word_passed rule.To _ (name_ends_at_space _))
      (goes_on _ (field_read to _ t (number_ends_at_space _)) (goes_on _ (word_passed rule.Show _ (name_ends_at_space _)) (goes_on _ (show_read show rest s ends)
      (goes_on _ (end_passed rest ends) (reads_nothing (Equate id var to show) rest))))))))

-- ---- steps

-- a step begins with the word of its rule
begun_read : (w : RuleWord) (fields : Parser Remaining Step) (text middle rest : List ℕ) (s : Step) → fields_by w ≡ Some fields → skipped text ≡ rule_word w ++ 32 ∷ middle → Reads fields (32 ∷ middle) s rest
    → Reads step text s rest
unfolding step rule_ahead
begun_read w fields text middle rest s is front h = record { is = go }
  where
    comes : Comes text l.Name (rule_word w) (32 ∷ middle)
    comes = plain_comes (rule_word w) text (32 ∷ middle) (plain w) (short w) front (name_ends_at_space middle)

    go : (a : Bool) → (last : Bool) × (step (behind text a) ≡ Ok (s, behind rest last))
    go a =
        let r = behind text a in
        let found : rule_ahead r ≡ Some w = rw (sees_itself r l.Name (comes a).lexeme, (comes a).spelling) (found_by_word w) in
        let u = h.is false in (
          u.0,
          ap (λ (o : Option RuleWord). step_by (fields_of o) r) found ∙ ap (λ (o : Option (Parser Remaining Step)). step_by o r) is ∙ ap fields (comes a).next ∙ u.1,
        )

-- ---- their texts

moved : (a b c : List ℕ) {d : List ℕ} → b ++ c ≡ d → (a ++ b) ++ c ≡ a ++ d
moved a b c e = append_assoc a b c ∙ ap (λ (z : List ℕ). a ++ z) e

-- behind the word of a rule and a space
behind_word : (w : RuleWord) {y z : List ℕ} → y ≡ z → rule_word w ++ 32 ∷ y ≡ rule_word w ++ 32 ∷ z
behind_word w e = ap (λ (z : List ℕ). rule_word w ++ 32 ∷ z) e

behind_field : (w : RuleWord) {y z : List ℕ} → y ≡ z → word_text w ++ 32 ∷ y ≡ word_text w ++ 32 ∷ z
behind_field w e = ap (λ (z : List ℕ). word_text w ++ 32 ∷ z) e

-- the word of a rule, a space, and fields that are read as the step
record IsBegun (s : Step) (rest : List ℕ) : Type 0 where
  word : RuleWord
  fields : Parser Remaining Step
  middle : List ℕ
  is : fields_by word ≡ Some fields
  text : words_text s ++ 46 ∷ rest ≡ rule_word word ++ 32 ∷ middle
  read : Reads fields (32 ∷ middle) s rest

-- behind a list of numbers and a space
behind_fields : (ns y d : List ℕ) {z : List ℕ} → y ++ d ≡ z → (list_text (map decimal ns) ++ y) ++ d ≡ list_text (map decimal ns) ++ z
behind_fields ns y d e = moved (list_text (map decimal ns)) y d e

fold_text : (id : ℕ) (at : List ℕ) (by : Pred) (images keep : List ℕ) (show : Shows) (d : List ℕ)
    → (decimal id ++ (word_text rule.At ++ (fields_text at ++ (word_text rule.By ++ (codes " " ++ (predicate_text by ++ (word_text rule.With ++ (fields_text images ++ (word_text rule.Keep ++ (fields_text keep ++ all_shown_text show)))))))))) ++ d
    ≡ decimal id ++ (word_text rule.At ++ 32 ∷ (list_text (map decimal at) ++ (word_text rule.By ++ 32 ∷ (predicate_text by ++ (word_text rule.With ++ 32 ∷ (list_text (map decimal images)
    ++ (word_text rule.Keep ++ 32 ∷ (list_text (map decimal keep) ++ (word_text rule.Show ++ 32 ∷ (all_text show ++ d))))))))))
fold_text id at by images keep show d =
    let kept : (list_text (map decimal keep) ++ all_shown_text show) ++ d ≡ list_text (map decimal keep) ++ (word_text rule.Show ++ 32 ∷ (all_text show ++ d)) =
    behind_fields keep (all_shown_text show) d (all_shown_text_is show d) in
    let named = behind_fields images (word_text rule.Keep ++ (fields_text keep ++ all_shown_text show)) d (behind_field rule.Keep kept) in
    let used = moved (predicate_text by) (word_text rule.With ++ (fields_text images ++ (word_text rule.Keep ++ (fields_text keep ++ all_shown_text show)))) d (behind_field rule.With named) in
    let placed = behind_fields at (word_text rule.By ++ (codes " " ++ (predicate_text by ++ (word_text rule.With ++ (fields_text images ++ (word_text rule.Keep ++ (fields_text keep ++ all_shown_text show))))))) d (behind_field rule.By used) in
    moved (decimal id) _ d (behind_field rule.At placed)

begun : (s : Step) (rest : List ℕ) → IsInRange s → IsPrintableStep s → IsEndBefore rest → IsBegun s rest
unfolding words_text
begun (Define source) rest h own ends = record {
  word = rule.Define;
  fields = define_fields;
  middle = source_text source ++ 46 ∷ rest;
  is = refl;
  text = refl;
  read = define_read source own.0 rest own.1 own.2 ends;
}
begun (Fold id at by images keep show) rest h own ends = record {
  word = rule.Fold;
  fields = fold_fields;
  middle = decimal id ++ (word_text rule.At ++ 32 ∷ (list_text (map decimal at) ++ (word_text rule.By ++ 32 ∷ (predicate_text by ++ (word_text rule.With ++ 32 ∷ (list_text (map decimal images)
      ++ (word_text rule.Keep ++ 32 ∷ (list_text (map decimal keep) ++ (word_text rule.Show ++ 32 ∷ (all_text show ++ 46 ∷ rest))))))))));
  is = refl;
  text = behind_word rule.Fold (fold_text id at by images keep show (46 ∷ rest));
  read = fold_read rest ends id at by images keep show h.0 h.1 h.2 h.3 h.4 h.5;
}
begun (Unfold id position) rest h own ends = record {
  word = rule.Unfold;
  fields = unfold_fields;
  middle = decimal id ++ (word_text rule.At ++ 32 ∷ (decimal position ++ 46 ∷ rest));
  is = refl;
  text = behind_word rule.Unfold (append_assoc (decimal id) (word_text rule.At ++ field_text position) (46 ∷ rest));
  read = unfold_read rest ends id position h.0 h.1;
}
begun (DeleteFalse id show) rest h own ends = record {
  word = rule.Delete;
  fields = delete_fields;
  middle = decimal id ++ (word_text rule.False ++ (word_text rule.Show ++ 32 ∷ (shown_text show ++ 46 ∷ rest)));
  is = refl;
  text = behind_word rule.Delete (moved (decimal id) (word_text rule.False ++ show_text show) (46 ∷ rest) (ap (λ (z : List ℕ). word_text rule.False ++ z) (show_text_is show (46 ∷ rest))));
  read = delete_read rest ends id show h.0 h.1;
}
begun (Merge id first second) rest h own ends = record {
  word = rule.Merge;
  fields = merge_fields;
  middle = decimal id ++ (word_text rule.At ++ 32 ∷ (decimal first ++ 44 ∷ (decimal second ++ 46 ∷ rest)));
  is = refl;
  text = behind_word rule.Merge (moved (decimal id) (word_text rule.At ++ (field_text first ++ (codes "," ++ decimal second))) (46 ∷ rest)
      (behind_field rule.At (append_assoc (decimal first) (codes "," ++ decimal second) (46 ∷ rest))));
  read = merge_read rest ends id first second h.0 h.1 h.2;
}
begun (Add id row show) rest h own ends = record {
  word = rule.Add;
  fields = add_fields;
  middle = decimal id ++ (word_text rule.Row ++ 32 ∷ (row_text row ++ (word_text rule.Show ++ 32 ∷ (shown_text show ++ 46 ∷ rest))));
  is = refl;
  text = behind_word rule.Add (moved (decimal id) (word_text rule.Row ++ (codes " " ++ (row_text row ++ show_text show))) (46 ∷ rest)
      (behind_field rule.Row (moved (row_text row) (show_text show) (46 ∷ rest) (show_text_is show (46 ∷ rest)))));
  read = add_read rest ends id row show h.0 h.1 h.2;
}
begun (Drop id row show) rest h own ends = record {
  word = rule.Drop;
  fields = drop_fields;
  middle = decimal id ++ (word_text rule.Row ++ 32 ∷ (decimal row ++ (word_text rule.Show ++ 32 ∷ (shown_text show ++ 46 ∷ rest))));
  is = refl;
  text = behind_word rule.Drop (moved (decimal id) (word_text rule.Row ++ (field_text row ++ show_text show)) (46 ∷ rest)
      (behind_field rule.Row (moved (decimal row) (show_text show) (46 ∷ rest) (show_text_is show (46 ∷ rest)))));
  read = drop_read rest ends id row show h.0 h.1 h.2;
}
begun (Project id var) rest h own ends = record {
  word = rule.Project;
  fields = project_fields;
  middle = decimal id ++ (word_text rule.Var ++ 32 ∷ (decimal var ++ 46 ∷ rest));
  is = refl;
  text = behind_word rule.Project (append_assoc (decimal id) (word_text rule.Var ++ field_text var) (46 ∷ rest));
  read = project_read rest ends id var h.0 h.1;
}
begun (Equate id var to show) rest h own ends = record {
  word = rule.Equate;
  fields = equate_fields;
  middle = decimal id ++ (word_text rule.Var ++ 32 ∷ (decimal var ++ (word_text rule.To ++ 32 ∷ (decimal to ++ (word_text rule.Show ++ 32 ∷ (shown_text show ++ 46 ∷ rest))))));
  is = refl;
  text = behind_word rule.Equate (moved (decimal id) (word_text rule.Var ++ (field_text var ++ (word_text rule.To ++ (field_text to ++ show_text show)))) (46 ∷ rest)
      (behind_field rule.Var (moved (decimal var) (word_text rule.To ++ (field_text to ++ show_text show)) (46 ∷ rest)
      (behind_field rule.To (moved (decimal to) (show_text show) (46 ∷ rest) (show_text_is show (46 ∷ rest)))))));
  read = equate_read rest ends id var to show h.0 h.1 h.2 h.3;
}

module _ (s : Step) (rest : List ℕ) (h : IsInRange s) (own : IsPrintableStep s) (ends : IsEndBefore rest) where
  abbrev parts : IsBegun s rest
  parts = begun s rest h own ends

  words_first : step_text s ++ rest ≡ rule_word parts.word ++ 32 ∷ parts.middle
  words_first = append_assoc (words_text s) (codes ".") rest ∙ parts.text

  -- no printed step begins with white or a comment
  pub step_stays : skipped (step_text s ++ rest) ≡ step_text s ++ rest
  step_stays = ap skipped words_first ∙ first_stays parts.word (32 ∷ parts.middle) ∙ sym words_first

  -- it begins with a name
  pub step_begins : (text : List ℕ) → skipped text ≡ step_text s ++ rest → (a : Bool) → lexeme (behind text a) ≡ l.Name
  step_begins text front a = (plain_comes (rule_word parts.word) text (32 ∷ parts.middle) (plain parts.word) (short parts.word) (front ∙ words_first) (name_ends_at_space parts.middle) a).lexeme

  -- a printed step, where what follows makes its `.` its end
  pub step_read : (text : List ℕ) → skipped text ≡ step_text s ++ rest → Reads step text s rest
  step_read text front = begun_read parts.word parts.fields text parts.middle rest s parts.is (front ∙ words_first) parts.read
