-- Lists and predicates that are read are in range.
use Rattle.std.proofs.Common.{◌≡◌, ℕ, zero, suc, ◌≤◌, Bool, true, false, List, [], ◌∷◌, ◌++◌, length, refl, arith, Ok, Err}
use Rattle.std.proofs.lemmas.List.Elements.{All-nil, All-push}
use Rattle.std.specs.Prelude.{All, ◌||◌, if◌then◌else◌}
use Rattle.case_table.specs.declared.rule_word.RuleWord.TheVariants as rule
use Rattle.token_model.specs.declared.fault.Kind.TheVariants.{BadNumber}
use Rattle.token_model.specs.declared.token.Lexeme.{Lexeme}
use Rattle.token_model.specs.declared.token.Lexeme.TheVariants as l
use Rattle.token_model.specs.Names.{max_name}
use Rattle.token_model.specs.Remaining.{Remaining, left, lexeme, same_lexeme, spelling, next, sees, refusal, eat, expect}
use Rattle.token_model.specs.Parsers.{Parser, Outcome, ◌>>◌, ◌<$>◌, pure}
use Rattle.token_cursor.specs.Escapes.{name_by}
use Rattle.draft_laws.proofs.ShortNames.{is_name, name_is_short}
use Rattle.map_model.specs.declared.shown.Shows.TheVariants as shows
use Rattle.script_grammar.specs.Fields.{max_field, word, number32, name, predicate, listed, listed_from, listed_by}
use Rattle.script_grammar.specs.Certificates as grammar
use Rattle.script_grammar.specs.ScriptText.{IsField, IsShown, AreShown, IsPredicate}
use Rattle.script_laws.proofs.Outcomes.{IfOk, Gives, gives_then, gives_this, gives_any, gives_either, gives_within}
use Rattle.script_laws.proofs.ReadCertificates.{gives_shown}

-- ---- numbers

pub gives_field : Gives IsField number32
gives_field = record { is = λ r. go (number32 r) ((gives_within 0 max_field BadNumber).is r) }
  where
    go : (o : Outcome Remaining ℕ) → IfOk (λ (x : ℕ × Remaining). (0 ≤ x.0) × (x.0 ≤ max_field)) o → IfOk (λ (x : ℕ × Remaining). IsField x.0) o
    go (Ok x) h = let most = h.1 in omega (arith, most)
    go (Err e) h = tt

-- ---- lists

module _ {A : Type 0} (P : A → Type 0) (item : Parser Remaining A) (each : Gives P item) where
  further_or_not : (n : ℕ) (found : List A) (goes_on : Bool) → All P found → Gives (All P) (listed_from item n found) → Gives (All P) (if goes_on then listed_from item n found else pure found)
  further_or_not n found true h k = k
  further_or_not n found false h k = gives_this found h

  gives_elements : (turns : ℕ) (found : List A) → All P found → Gives (All P) (listed_from item turns found)
  unfolding listed_from
  gives_elements zero found h = record { is = λ r. tt }
  gives_elements (suc n) found h =
      gives_then _ each
      (λ x g. gives_then (λ goes_on. if goes_on then listed_from item n (found ++ x ∷ []) else pure (found ++ x ∷ [])) (gives_any (eat l.Comma))
      (λ goes_on _. let k = All-push P found x h g in further_or_not n (found ++ x ∷ []) goes_on k (gives_elements n (found ++ x ∷ []) k)))

  behind_bracket : (is_empty : Bool) → Gives (All P) (listed_by item is_empty)
  unfolding listed_by
  behind_bracket true = gives_this [] (All-nil P)
  behind_bracket false =
      gives_then _ (record { is = λ r. (gives_elements (left r) [] (All-nil P)).is r })
      (λ found h. gives_then _ (gives_any (expect l.CloseSquare)) (λ _ _. gives_this found h))

  pub gives_listed : Gives (All P) (listed item)
  unfolding listed
  gives_listed = gives_then _ (gives_any (expect l.OpenSquare)) (λ _ _. gives_then (listed_by item) (gives_any (eat l.CloseSquare)) (λ is_empty _. behind_bracket is_empty))

-- ---- what shows several rows

pub gives_all_shown : Gives AreShown grammar.all_shown
unfolding grammar.all_shown
gives_all_shown =
    gives_either (sees l.Name) (word rule.Find >> pure shows.Find) (shows.Each <$> listed grammar.shown)
    (gives_then _ (gives_any (word rule.Find)) (λ _ _. gives_this shows.Find tt))
    (gives_then _ (gives_listed IsShown grammar.shown gives_shown) (λ list h. gives_this (shows.Each list) h))

-- ---- predicates

IsShort : List ℕ → Type 0
IsShort of = length of ≤ max_name

plain_is_name : (k : Lexeme) → same_lexeme k l.Name ≡ true → is_name k ≡ true
unfolding same_lexeme
plain_is_name l.Name h = refl
plain_is_name l.Quoted h = refl
plain_is_name _ h = absurd (cc)

quoted_is_name : (k : Lexeme) → same_lexeme k l.Quoted ≡ true → is_name k ≡ true
unfolding same_lexeme
quoted_is_name l.Name h = refl
quoted_is_name l.Quoted h = refl
quoted_is_name _ h = absurd (cc)

gives_name : Gives IsShort name
unfolding name sees IsShort
gives_name = record { is = λ r. go r (sees l.Name r) refl (sees l.Quoted r) refl }
  where
    go : (r : Remaining) (t : Bool) → sees l.Name r ≡ t → (u : Bool) → sees l.Quoted r ≡ u
        → IfOk (λ (x : List ℕ × Remaining). length x.0 ≤ max_name) (if t || u then Ok (name_by (lexeme r) (spelling r), next r) else Err (refusal r))
    go r true e u f = name_is_short r (lexeme r) refl (plain_is_name (lexeme r) e)
    go r false e true f = name_is_short r (lexeme r) refl (quoted_is_name (lexeme r) f)
    go r false e false f = tt

pub gives_predicate : Gives IsPredicate predicate
unfolding predicate IsShort
gives_predicate =
    gives_then _ gives_name (λ of h. gives_then _ (gives_any (expect l.Over)) (λ _ _.
    gives_then _ gives_field (λ arity a. gives_this (record { name = of; arity = arity }) (record { short = h; arity = a }))))
