-- The names of expressions that are read are in UTF-8.
use Rattle.std.proofs.Common.{◌≡◌, ℕ, zero, suc, Bool, true, false, List, [], ◌∷◌, ◌++◌, if◌then◌else◌, Option, Some, None, refl}
use Rattle.std.proofs.lemmas.List.Elements.{All-nil, All-cons, All-push}
use Rattle.std.specs.Prelude.{All}
use Rattle.std.specs.Str.{is_utf8}
use Rattle.std.proofs.lemmas.Str.{is_utf8-from_IsUtf8}
use Rattle.token_model.specs.declared.token.Lexeme.{Lexeme}
use Rattle.token_model.specs.declared.token.Lexeme.TheVariants as l
use Rattle.token_model.specs.Parsers.{Parser, ◌>>◌, ◌<$>◌, pure}
use Rattle.token_model.specs.Remaining.{lexeme, spelling}
use Rattle.token_cursor.specs.Escapes.{name_by}
use Rattle.utf8_laws.proofs.Texts.{is_bad, name_of}
use Rattle.clp_grammar.specs.declared.expression.Operation.{Operation}
use Rattle.clp_grammar.specs.declared.expression.Operator.{Operator}
use Rattle.clp_grammar.specs.declared.expression.Head.{Head}
use Rattle.clp_grammar.specs.declared.expression.Head.TheVariants as head
use Rattle.clp_grammar.specs.declared.expression.Expression.{Expression, Variable, Node}
use Rattle.clp_grammar.specs.Input.{Input, passed, left, sees, expect, eat, separated}
use Rattle.clp_grammar.specs.Names.{variable}
use Rattle.clp_grammar.specs.Expressions as e
use Rattle.read_name_laws.proofs.Parts.{IsTextHead, HasTexts, node_texts, number_texts, variable_texts, chained_texts}
use Rattle.read_name_laws.proofs.Reading.{IsText, Reads, From, At, Anything, then_read, from_pure, passed_text, from_eat, from_expect, seen, at_variable, from_separated}

-- ---- chains

module _ (operation_of : Lexeme → Option Operation) (good : (k : Lexeme) (o : Operation) → operation_of k ≡ Some o → is_bad k ≡ false) (operand : Parser Input Expression) (gives : From HasTexts operand) where
  links_texts : (turns begin : ℕ) (operators : List Operator) (parts : List Expression) → All HasTexts parts → From HasTexts (e.chain_from operation_of operand turns begin operators parts)
  unfolding e.chain_from
  links_texts zero begin operators parts all i u = (u, chained_texts begin operators parts all)
  links_texts (suc turns) begin operators parts all i u = go (links_texts turns) (operation_of (lexeme i.remaining)) refl
    where
      go : ((begin : ℕ) (operators : List Operator) (parts : List Expression) → All HasTexts parts → From HasTexts (e.chain_from operation_of operand turns begin operators parts))
          → (o : Option Operation) → operation_of (lexeme i.remaining) ≡ o → Reads HasTexts (e.link_by operation_of operand begin operators parts (e.chain_from operation_of operand turns begin) o i)
      go rest None is = (u, chained_texts begin operators parts all)
      go rest (Some operation) is =
          let operator : Operator = record { operation = operation; left = left i } in
          then_read HasTexts HasTexts (operand (passed i)) (λ part. e.chain_from operation_of operand turns begin (operators ++ operator ∷ []) (parts ++ part ∷ []))
          (gives (passed i) (passed_text i (lexeme i.remaining) u refl (good (lexeme i.remaining) operation is))) (λ part f.
          rest begin (operators ++ operator ∷ []) (parts ++ part ∷ []) (All-push HasTexts parts part all f))

  pub chain_texts : From HasTexts (e.chain operation_of operand)
  unfolding e.chain
  chain_texts i u =
      then_read HasTexts HasTexts (operand i) (λ first j. e.chain_from operation_of operand (left j) (left i) [] (first ∷ []) j) (gives i u) (λ first f j v.
      links_texts (left j) (left i) [] (first ∷ []) (All-cons HasTexts first [] f (All-nil HasTexts)) j v)

sum_good : (k : Lexeme) (o : Operation) → e.sum_operation k ≡ Some o → is_bad k ≡ false
sum_good l.Plus o h = refl
sum_good l.Minus o h = refl
sum_good _ o h = absurd (cc)

product_good : (k : Lexeme) (o : Operation) → e.product_operation k ≡ Some o → is_bad k ≡ false
product_good l.Times o h = refl
product_good l.Over o h = refl
product_good _ o h = absurd (cc)

-- ---- what stands in brackets is given by others

module _ (more : ℕ) (arguments : Parser Input (List Expression)) (bracketed list : Parser Input Expression)
    (gives_arguments : At l.OpenRound (All HasTexts) arguments) (gives_bracketed : At l.OpenRound HasTexts bracketed) (gives_list : At l.OpenSquare HasTexts list) where
  application_texts : (k : Lexeme) → is_bad k ≡ false → At k HasTexts (e.application more arguments bracketed list k)
  unfolding e.application
  application_texts k good i u comes = go (sees l.OpenRound (passed i)) refl
    where
      spelled : List ℕ
      spelled = name_by k (spelling i.remaining)

      behind : IsText (passed i)
      behind = passed_text i k u comes good

      name : is_utf8 (name_by k (spelling i.remaining)) ≡ true
      name = is_utf8-from_IsUtf8 (name_by k (spelling i.remaining)) (name_of i.remaining k u comes good)

      go : (t : Bool) → sees l.OpenRound (passed i) ≡ t → Reads HasTexts ((if t then Node (left i) (head.Application spelled) <$> arguments else pure (Node (left i) (head.Application spelled) [])) (passed i))
      go true s =
          then_read (All HasTexts) HasTexts (arguments (passed i)) (λ parts. pure (Node (left i) (head.Application spelled) parts)) (gives_arguments (passed i) behind (seen l.OpenRound (passed i).remaining s)) (λ parts f.
          from_pure HasTexts (Node (left i) (head.Application spelled) parts) (node_texts (left i) (head.Application spelled) parts name f))
      go false s = (behind, node_texts (left i) (head.Application spelled) [] name (All-nil HasTexts))

  primary_texts : From HasTexts (e.primary more arguments bracketed list)
  unfolding e.primary
  primary_texts i u = go (lexeme i.remaining) refl
    where
      go : (k : Lexeme) → lexeme i.remaining ≡ k → Reads HasTexts (e.primary_by more arguments bracketed list k i)
      go l.Number h = (passed_text i l.Number u h refl, number_texts (left i) _)
      go l.Variable h = then_read Anything HasTexts (variable i) (λ number. pure (Variable (left i) number)) (at_variable i u h) (λ number t. from_pure HasTexts (Variable (left i) number) (variable_texts (left i) number))
      go l.Name h = application_texts l.Name refl i u h
      go l.Quoted h = application_texts l.Quoted refl i u h
      go l.OpenRound h = gives_bracketed i u h
      go l.OpenSquare h = gives_list i u h
      go _ h = tt

  sign_texts : (sign : Head) → IsTextHead sign → (k : Lexeme) → is_bad k ≡ false → At k HasTexts (e.behind_sign more arguments bracketed list sign)
  unfolding e.behind_sign
  sign_texts sign is k good i u comes =
      then_read HasTexts HasTexts (e.primary more arguments bracketed list (passed i)) (λ part. pure (Node (left i) sign (part ∷ []))) (primary_texts (passed i) (passed_text i k u comes good)) (λ part f.
      from_pure HasTexts (Node (left i) sign (part ∷ [])) (node_texts (left i) sign (part ∷ []) is (All-cons HasTexts part [] f (All-nil HasTexts))))

  signed_texts : From HasTexts (e.signed more arguments bracketed list)
  unfolding e.signed
  signed_texts i u = go (lexeme i.remaining) refl
    where
      go : (k : Lexeme) → lexeme i.remaining ≡ k → Reads HasTexts (e.signed_by more arguments bracketed list k i)
      go l.Plus h = sign_texts head.Plus tt l.Plus refl i u h
      go l.Minus h = sign_texts head.Minus tt l.Minus refl i u h
      go _ h = primary_texts i u

  pub sum_texts : From HasTexts (e.sum more arguments bracketed list)
  sum_texts = chain_texts e.sum_operation sum_good (e.product more arguments bracketed list) (chain_texts e.product_operation product_good (e.signed more arguments bracketed list) signed_texts)

  -- ---- lists

  pub closed : {A : Type 0} (P : A → Type 0) (end : Lexeme) → is_bad end ≡ false → (x : A) → P x → From P (expect more end >> pure x)
  closed {A} P end good x h i u = then_read Anything P (expect more end i) (λ t. pure x) (from_expect more end good i u) (λ t w. from_pure P x h)

  module _ (after_comma : ℕ → List Expression → Parser Input Expression)
      (gives_more : (place : ℕ) (found : List Expression) → All HasTexts found → At l.Comma HasTexts (after_comma place found)) where
    by_texts : (place : ℕ) (found : List Expression) → All HasTexts found → (k : Lexeme) → At k HasTexts (e.elements_by more arguments bracketed list after_comma place found k)
    by_texts place found all l.Comma i u comes = gives_more place found all i u comes
    by_texts place found all l.Bar i u comes =
        then_read HasTexts HasTexts (e.sum more arguments bracketed list (passed i)) (λ rest. expect more l.CloseSquare >> pure (Node place head.OpenList (found ++ rest ∷ []))) (sum_texts (passed i) (passed_text i l.Bar u comes refl)) (λ rest f.
        closed HasTexts l.CloseSquare refl (Node place head.OpenList (found ++ rest ∷ [])) (node_texts place head.OpenList (found ++ rest ∷ []) tt (All-push HasTexts found rest all f)))
    by_texts place found all _ i u comes = closed HasTexts l.CloseSquare refl (Node place head.List found) (node_texts place head.List found tt all) i u

    pub elements_texts : (place : ℕ) (found : List Expression) → All HasTexts found → From HasTexts (e.elements_with more arguments bracketed list after_comma place found)
    unfolding e.elements_with
    elements_texts place found all i u =
        then_read HasTexts HasTexts (e.sum more arguments bracketed list i) (λ element j. e.elements_by more arguments bracketed list after_comma place (found ++ element ∷ []) (lexeme j.remaining) j) (sum_texts i u) (λ element f j v.
        by_texts place (found ++ element ∷ []) (All-push HasTexts found element all f) (lexeme j.remaining) j v refl)

    pub list_texts : (place : ℕ) → From HasTexts (e.list_with more arguments bracketed list after_comma place)
    unfolding e.list_with
    list_texts place i u =
        then_read Anything HasTexts (eat l.CloseSquare i) (λ is_empty. if is_empty then pure (Node place head.List []) else e.elements_with more arguments bracketed list after_comma place []) (from_eat l.CloseSquare refl i u) (λ is_empty t. go is_empty)
      where
        go : (t : Bool) → From HasTexts (if t then pure (Node place head.List []) else e.elements_with more arguments bracketed list after_comma place [])
        go true = from_pure HasTexts (Node place head.List []) (node_texts place head.List [] tt (All-nil HasTexts))
        go false = elements_texts place [] (All-nil HasTexts)

-- ---- all levels

mutual
  unfolding e.arguments e.bracketed e.list e.after_comma

  arguments_texts : (more : ℕ) → At l.OpenRound (All HasTexts) (e.arguments more)
  arguments_texts zero i u comes = tt
  arguments_texts (suc more) i u comes =
      let inside = sum_texts more (e.arguments more) (e.bracketed more) (e.list more) (arguments_texts more) (bracketed_texts more) (list_at more) in
      then_read (All HasTexts) (All HasTexts) (separated (e.expression more) (passed i)) (λ found. expect more l.CloseRound >> pure found)
      (from_separated HasTexts (e.expression more) inside (passed i) (passed_text i l.OpenRound u comes refl)) (λ found f j v.
      then_read Anything (All HasTexts) (expect more l.CloseRound j) (λ t. pure found) (from_expect more l.CloseRound refl j v) (λ t w. from_pure (All HasTexts) found f))

  bracketed_texts : (more : ℕ) → At l.OpenRound HasTexts (e.bracketed more)
  bracketed_texts zero i u comes = tt
  bracketed_texts (suc more) i u comes =
      let inside = sum_texts more (e.arguments more) (e.bracketed more) (e.list more) (arguments_texts more) (bracketed_texts more) (list_at more) in
      then_read HasTexts HasTexts (e.expression more (passed i)) (λ part. expect more l.CloseRound >> pure (Node (left i) head.Brackets (part ∷ []))) (inside (passed i) (passed_text i l.OpenRound u comes refl)) (λ part f j v.
      then_read Anything HasTexts (expect more l.CloseRound j) (λ t. pure (Node (left i) head.Brackets (part ∷ []))) (from_expect more l.CloseRound refl j v) (λ t w.
      from_pure HasTexts (Node (left i) head.Brackets (part ∷ [])) (node_texts (left i) head.Brackets (part ∷ []) tt (All-cons HasTexts part [] f (All-nil HasTexts)))))

  list_at : (more : ℕ) → At l.OpenSquare HasTexts (e.list more)
  list_at zero i u comes = tt
  list_at (suc more) i u comes =
      list_texts more (e.arguments more) (e.bracketed more) (e.list more) (arguments_texts more) (bracketed_texts more) (list_at more) (e.after_comma more) (comma_texts more) (left i) (passed i) (passed_text i l.OpenSquare u comes refl)

  comma_texts : (more place : ℕ) (found : List Expression) → All HasTexts found → At l.Comma HasTexts (e.after_comma more place found)
  comma_texts zero place found all i u comes = tt
  comma_texts (suc more) place found all i u comes =
      elements_texts more (e.arguments more) (e.bracketed more) (e.list more) (arguments_texts more) (bracketed_texts more) (list_at more) (e.after_comma more) (comma_texts more) place found all (passed i) (passed_text i l.Comma u comes refl)

pub expression_texts : (more : ℕ) → From HasTexts (e.expression more)
expression_texts more = sum_texts more (e.arguments more) (e.bracketed more) (e.list more) (arguments_texts more) (bracketed_texts more) (list_at more)
