-- Printed steps and scripts are in UTF-8.
use Rattle.std.proofs.Common.{◌≡◌, ℕ, ◌≤◌, ◌<◌, ◌^◌, true, List, [], ◌∷◌, ◌++◌, map, refl, sym, subst, arith, codes, IsUtf8, None, ℤ}
use Rattle.std.proofs.lemmas.Bool.{and_parts}
use Rattle.std.proofs.lemmas.Bool.Decides.{nat_tests}
use Rattle.std.proofs.lemmas.List.Elements.{All-head, All-tail}
use Rattle.std.proofs.lemmas.Str.{IsUtf8-append}
use Rattle.std.specs.Fmt.{decimal, signed_decimal}
use Rattle.std.specs.Int.{is_negative}
use Rattle.std.specs.Prelude.{All, nat_le, unsigned_abs}
use Rattle.std.specs.Str.{is_utf8}
use Rattle.token_cursor.specs.Utf8.{not_utf8}
use Rattle.clp_model.specs.declared.predicate.Pred.{Pred}
use Rattle.clp_model.specs.Clauses.{Row}
use Rattle.linear_model.specs.Certificates.{Part}
use Rattle.linear_model.specs.Chain.{multiplier_limit, weights_within}
use Rattle.linear_laws.proofs.Lists.{mapped_out}
use Rattle.clause_laws.proofs.Rows.{all_each}
use Rattle.farkas_check.specs.declared.cert.Cert.{Cert}
use Rattle.farkas_check.specs.declared.cert.Cert.TheVariants.{One, Two}
use Rattle.farkas_check.specs.Parts.{part_within}
use Rattle.print_model.specs.Joined.{joined}
use Rattle.print_model.specs.Rows.{row_text}
use Rattle.parsing_laws.proofs.Factors.{sign_text}
use Rattle.parsing_laws.proofs.Sums.{signed_decimal_is}
use Rattle.text_laws.proofs.Texts as texts
use Rattle.text_laws.proofs.Texts.{are_low, ascii, number, predicate, AllTexts, join, sign_is_text}
use Rattle.text_laws.proofs.Programs.{text_is_utf8}
use Rattle.text_laws.proofs.Sources.{sources_are_texts}
use Rattle.map_model.specs.declared.shown.Shown.{Shown}
use Rattle.map_model.specs.declared.shown.Shown.TheVariants.{Find, Given}
use Rattle.map_model.specs.declared.shown.Shows.{Shows}
use Rattle.map_model.specs.declared.shown.Shows.TheVariants as shows
use Rattle.map_model.specs.declared.step.Step.{Step}
use Rattle.map_model.specs.declared.step.Step.TheVariants.{Define, Unfold, Fold, DeleteFalse, Merge, Add, Drop, Project, Equate}
use Rattle.case_table.specs.declared.rule_word.RuleWord.{RuleWord}
use Rattle.case_table.specs.declared.rule_word.RuleWord.TheVariants as rule
use Rattle.case_table.specs.Rules.{rule_word}
use Rattle.script_grammar.specs.ScriptText.{predicate_text, list_text, fields_text, part_text, certificate_text, show_text, shown_text, all_shown_text, words_text, step_text, steps_text, script_text, IsField, IsCertificate, IsShown, AreShown, IsPredicate, IsVariable, IsRow, IsInRange}
use Rattle.script_laws.specs.Laws.{IsPrintableStep}
use Rattle.script_laws.proofs.Sources.{source_text_is}

-- ---- texts one after another

-- it is in UTF-8
pub record IsText (text : List ℕ) : Type 0 where
  pub is : IsUtf8 text

literal : (bs : List ℕ) → are_low bs ≡ true → IsText bs
literal bs h = record { is = ascii bs h }

both : {xs ys : List ℕ} → IsText xs → IsText ys → IsText (xs ++ ys)
both {xs} {ys} h g = record { is = IsUtf8-append xs ys h.is g.is }

decimal_is_text : (n : ℕ) → n < 2 ^ 64 → IsText (decimal n)
decimal_is_text n small = record { is = number n small }

signed_is_text : (z : ℤ) → unsigned_abs z < 2 ^ 64 → IsText (signed_decimal z)
signed_is_text z small =
    record { is = subst IsUtf8 (sym (signed_decimal_is z)) (IsUtf8-append (sign_text (is_negative z)) (decimal (unsigned_abs z)) (sign_is_text (is_negative z)) (number (unsigned_abs z) small)) }

-- such a text has no other fault
pub whole_text : (text : List ℕ) → IsText text → not_utf8 text ≡ None
whole_text text h = text_is_utf8 text h.is

at_most : (a b : ℕ) → nat_le a b ≡ true → a ≤ b
at_most a b h = grind (arith, nat_tests)

-- ---- words and numbers

word_is_low : (w : RuleWord) → are_low (rule_word w) ≡ true
word_is_low rule.Define = refl
word_is_low _ = refl

word_is_text : (w : RuleWord) → IsText (rule_word w)
word_is_text w = literal (rule_word w) (word_is_low w)

number_is_text : (n : ℕ) → IsField n → IsText (decimal n)
number_is_text n small = decimal_is_text n (omega arith)

-- ---- certificates

multiplier_is_text : (z : ℤ) → nat_le (unsigned_abs z) multiplier_limit ≡ true → IsText (signed_decimal z)
multiplier_is_text z within = let m : unsigned_abs z ≤ multiplier_limit = at_most _ _ within in signed_is_text z (omega arith)

further_is_text : (ms : List ℤ) → weights_within ms ≡ true → IsText (joined (codes ",") (codes ",") (map signed_decimal ms))
further_is_text [] within = literal [] refl
further_is_text (m ∷ ms) within =
    let halves = and_parts (nat_le (unsigned_abs m) multiplier_limit) (weights_within ms) within in
    both (literal (codes ",") refl) (both (multiplier_is_text m halves.0) (further_is_text ms halves.1))

part_is_text : (p : Part) → part_within p ≡ true → IsText (part_text p)
part_is_text p within =
    let halves = and_parts (nat_le (unsigned_abs p.k) multiplier_limit) (weights_within p.m) within in
    both (literal (codes "[") refl) (both (multiplier_is_text p.k halves.0) (both (further_is_text p.m halves.1) (literal (codes "]") refl)))

certificate_is_text : (c : Cert) → IsCertificate c → IsText (certificate_text c)
certificate_is_text (One p) within = part_is_text p within
certificate_is_text (Two p q) within = both (part_is_text p within.0) (both (literal (codes "/") refl) (part_is_text q within.1))

space_is_text : IsText (codes " ")
space_is_text = literal (codes " ") refl

show_is_text : (show : Shown) → IsShown show → IsText (show_text show)
show_is_text Find h = both (both space_is_text (word_is_text rule.Show)) (both space_is_text (word_is_text rule.Find))
show_is_text (Given c) h = both (both space_is_text (word_is_text rule.Show)) (both space_is_text (certificate_is_text c h))

-- ---- rows, predicates and lists

behind_space : {text : List ℕ} → IsText text → IsText (codes " " ++ text)
behind_space h = both space_is_text h

row_is_text : (row : Row) → IsRow row → IsText (row_text row)
row_is_text row is =
    record { is = texts.row_is_text row is.within (λ n a. mapped_out (λ (p : ℕ × ℤ). p.0) row.pairs (λ m. m < 2 ^ 64) (λ p b. let v = all_each IsVariable row.pairs is.variables p b in let small = v.1 in omega arith) n a) }

predicate_is_text : (p : Pred) → IsPredicate p → is_utf8 p.name ≡ true → IsText (predicate_text p)
predicate_is_text p h name = both (record { is = predicate p.name name }) (both (literal (codes "/") refl) (number_is_text p.arity h.arity))

each_text : {A : Type 0} (f : A → List ℕ) (P : A → Type 0) (xs : List A) → ((x : A) → P x → IsText (f x)) → All P xs → AllTexts (map f xs)
each_text f P [] g h = tt
each_text f P (x ∷ xs) g h = ((g x (All-head P x xs h)).is, each_text f P xs g (All-tail P x xs h))

list_is_text : (xs : List (List ℕ)) → AllTexts xs → IsText (list_text xs)
list_is_text [] h = literal (codes "[]") refl
list_is_text (x ∷ xs) h =
    both (literal (codes "[") refl) (both (record { is = h.0 }) (both (record { is = join (codes ",") (codes ",") xs (ascii (codes ",") refl) (ascii (codes ",") refl) h.1 }) (literal (codes "]") refl)))

fields_are_text : (ns : List ℕ) → All IsField ns → IsText (fields_text ns)
fields_are_text ns h = behind_space (list_is_text (map decimal ns) (each_text decimal IsField ns number_is_text h))

shown_is_text : (show : Shown) → IsShown show → IsText (shown_text show)
shown_is_text Find h = word_is_text rule.Find
shown_is_text (Given c) h = certificate_is_text c h

all_shown_is_text : (show : Shows) → AreShown show → IsText (all_shown_text show)
all_shown_is_text shows.Find h = both (both space_is_text (word_is_text rule.Show)) (both space_is_text (word_is_text rule.Find))
all_shown_is_text (shows.Each list) h =
    both (both space_is_text (word_is_text rule.Show)) (both space_is_text (list_is_text (map shown_text list) (each_text shown_text IsShown list shown_is_text h)))

-- ---- steps and scripts

words_are_text : (s : Step) → IsInRange s → IsPrintableStep s → IsText (words_text s)
unfolding words_text
words_are_text (Define source) h own = both (word_is_text rule.Define) (behind_space (record { is = subst IsUtf8 (sym (source_text_is source own.0 own.2)) (sources_are_texts own.0 own.1) }))
words_are_text (Fold id at by with keep show) h own =
    both (word_is_text rule.Fold) (both (behind_space (number_is_text id h.0)) (both (behind_space (word_is_text rule.At)) (both (fields_are_text at h.1)
    (both (behind_space (word_is_text rule.By)) (behind_space (both (predicate_is_text by h.2 own) (both (behind_space (word_is_text rule.With)) (both (fields_are_text with h.3)
    (both (behind_space (word_is_text rule.Keep)) (both (fields_are_text keep h.4) (all_shown_is_text show h.5)))))))))))
words_are_text (Unfold id position) h own =
    both (word_is_text rule.Unfold) (both (behind_space (number_is_text id h.0)) (both (behind_space (word_is_text rule.At)) (behind_space (number_is_text position h.1))))
words_are_text (DeleteFalse id show) h own =
    both (word_is_text rule.Delete) (both (behind_space (number_is_text id h.0)) (both (behind_space (word_is_text rule.False)) (show_is_text show h.1)))
words_are_text (Merge id first second) h own =
    both (word_is_text rule.Merge) (both (behind_space (number_is_text id h.0)) (both (behind_space (word_is_text rule.At))
    (both (behind_space (number_is_text first h.1)) (both (literal (codes ",") refl) (number_is_text second h.2)))))
words_are_text (Add id row show) h own =
    both (word_is_text rule.Add) (both (behind_space (number_is_text id h.0)) (both (behind_space (word_is_text rule.Row)) (behind_space (both (row_is_text row h.1) (show_is_text show h.2)))))
words_are_text (Drop id row show) h own =
    both (word_is_text rule.Drop) (both (behind_space (number_is_text id h.0)) (both (behind_space (word_is_text rule.Row)) (both (behind_space (number_is_text row h.1)) (show_is_text show h.2))))
words_are_text (Project id var) h own =
    both (word_is_text rule.Project) (both (behind_space (number_is_text id h.0)) (both (behind_space (word_is_text rule.Var)) (behind_space (number_is_text var h.1))))
words_are_text (Equate id var to show) h own =
    both (word_is_text rule.Equate) (both (behind_space (number_is_text id h.0)) (both (behind_space (word_is_text rule.Var)) (both (behind_space (number_is_text var h.1))
    (both (behind_space (word_is_text rule.To)) (both (behind_space (number_is_text to h.2)) (show_is_text show h.3))))))

pub step_is_text : (s : Step) → IsInRange s → IsPrintableStep s → IsText (step_text s)
step_is_text s h own = both (words_are_text s h own) (literal (codes ".") refl)

steps_are_text : (steps : List Step) → All IsInRange steps → All IsPrintableStep steps → IsText (steps_text steps)
unfolding steps_text
steps_are_text [] h own = literal [] refl
steps_are_text (s ∷ steps) h own =
    both (step_is_text s (All-head IsInRange s steps h) (All-head IsPrintableStep s steps own))
    (both (literal (codes "\n") refl) (steps_are_text steps (All-tail IsInRange s steps h) (All-tail IsPrintableStep s steps own)))

pub script_is_text : (steps : List Step) → All IsInRange steps → All IsPrintableStep steps → IsText (script_text steps)
unfolding script_text
script_is_text steps h own = both (literal (codes "map script 1.\n") refl) (steps_are_text steps h own)
