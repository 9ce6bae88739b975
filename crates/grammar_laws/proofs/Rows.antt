-- The rows of linear expressions: they are in normal form and in range, and have no variables but those of the names.
use Rattle.std.proofs.Common.{◌≡◌, ℕ, List, [], ◌∷◌, Bool, true, false, nat_eq, refl, subst, map}
use Rattle.std.specs.Prelude.{if◌then◌else◌, Result, Ok, Err, All, nat_lt}
use Rattle.std.proofs.lemmas.List.Elements.{All-nil, All-cons}
use Rattle.std.proofs.Math.IntN.{ℤ, pos, ◌+ℤ◌, ◌*ℤ◌}
use Rattle.clp_rationals.specs.Fraction.{Fraction}
use Rattle.clp_model.specs.Clauses.{Row}
use Rattle.clp_model.specs.declared.sort.Rel.{Rel}
use Rattle.clp_model.specs.declared.sort.Rel.TheVariants.{Eq, Le, Lt}
use Rattle.linear_model.specs.Forms.{IsRising, is_zero, with_pair, scaled, merged, combined}
use Rattle.linear_model.specs.Normal.{is_within, normal, divided_pairs}
use Rattle.linear_laws.proofs.Rising.{rising_combined}
use Rattle.linear_laws.proofs.Divided.{normal_is_normal}
use Rattle.lin_row.specs.Rows.{IsKept}
use Rattle.clause_model.specs.Variables.{row_variables}
use Rattle.frac_model.specs.Reduced as frac
use Rattle.token_model.specs.declared.fault.Fault.{Fault}
use Rattle.form_model.specs.Forms as form
use Rattle.form_model.specs.Forms.{Form, with_term, with_terms, each, if_small_form, is_small_form, cleared_terms, in_order, cleared_row, common_den, is_constant}
use Rattle.form_model.specs.declared.fault.FormFault.{FormFault}
use Rattle.form_model.specs.declared.fault.FormFault.TheVariants.{NotLinear, ZeroDivisor, TooLarge}
use Rattle.clp_grammar.specs.declared.expression.Operation.{Operation}
use Rattle.clp_grammar.specs.declared.expression.Operation.TheVariants.{Add, Subtract, Multiply, Divide}
use Rattle.clp_grammar.specs.declared.expression.Operator.{Operator}
use Rattle.clp_grammar.specs.declared.expression.Head.TheVariants as head
use Rattle.clp_grammar.specs.declared.expression.Expression.{Expression, Number, Variable, Node', Row_of-Expression, end_of-Expression, more_of-Expression}
use Rattle.clp_grammar.specs.declared.draft.Relation.{Relation}
use Rattle.clp_grammar.specs.declared.draft.Relation.TheVariants.{Equal, NumberEqual, AtMost, Less, AtLeast, Greater}
use Rattle.clp_grammar.specs.declared.draft.Comparison.{Comparison}
use Rattle.clp_grammar.specs.Evaluation.{placed, with_value, computed, operated, negated, linear, only_linear, linear_chain, linear_rest, row_by, row_of}
use Rattle.draft_laws.specs.Formed.{IsNumbered, IsFormed, AreFormed}
use Rattle.grammar_laws.specs.Variables.{EachVariable, EachVariableOf}
use Rattle.grammar_laws.specs.Laws.{RowsAreKept, RowsHaveTheVariables}

abbrev Terms : Type 0
Terms = List (ℕ × Fraction)

abbrev Pairs : Type 0
Pairs = List (ℕ × ℤ)

-- ---- the variables of an expression

mutual
  unfolding EachVariable

  pub each_weaker : (P Q : ℕ → Type 0) → ((n : ℕ) → P n → Q n) → (e : Expression) → EachVariable P e → EachVariable Q e
  each_weaker P Q f (Number place value) h = tt
  each_weaker P Q f (Variable place n) h = f n h
  each_weaker P Q f (Node' place head shape parts) h = row_weaker P Q f parts h

  pub row_weaker : (P Q : ℕ → Type 0) → ((n : ℕ) → P n → Q n) → {m : _} (parts : Row_of-Expression m) → EachVariableOf P parts → EachVariableOf Q parts
  row_weaker P Q f end_of-Expression h = tt
  row_weaker P Q f (more_of-Expression part parts) h = (each_weaker P Q f part h.0, row_weaker P Q f parts h.1)

mutual
  unfolding EachVariable IsFormed

  pub each_formed : (count : ℕ) (e : Expression) → IsFormed count e → EachVariable (IsNumbered count) e
  each_formed count (Number place value) h = tt
  each_formed count (Variable place n) h = h
  each_formed count (Node' place head shape parts) h = row_formed count parts h.1

  row_formed : (count : ℕ) {m : _} (parts : Row_of-Expression m) → AreFormed count parts → EachVariableOf (IsNumbered count) parts
  row_formed count end_of-Expression h = tt
  row_formed count (more_of-Expression part parts) h = (each_formed count part h.0, row_formed count parts h.1)

module _ (P : ℕ → Type 0) where
  -- each variable of these terms, and of these pairs
  abbrev pub TermsHave : Terms → Type 0
  TermsHave [] = Unit {0}
  TermsHave (p ∷ ps) = P p.0 × TermsHave ps

  abbrev pub PairsHave : Pairs → Type 0
  PairsHave [] = Unit {0}
  PairsHave (p ∷ ps) = P p.0 × PairsHave ps

  -- ---- forms

  with_term_has : (v : ℕ) (c : Fraction) (ps : Terms) → P v → TermsHave ps → TermsHave (with_term v c ps)
  with_term_has v c [] h k = (h, tt)
  with_term_has v c (p ∷ ps) h k = by (nat_eq v p.0) (with_term_has v c ps h k.1)
    where
      by : (b : Bool) → TermsHave (with_term v c ps) → TermsHave (if b then (p.0, frac.sum p.1 c) ∷ ps else p ∷ with_term v c ps)
      by true ih = k
      by false ih = (k.0, ih)

  with_terms_have : (ps qs : Terms) → TermsHave ps → TermsHave qs → TermsHave (with_terms ps qs)
  with_terms_have ps [] h k = h
  with_terms_have ps (q ∷ qs) h k = with_terms_have (with_term q.0 q.1 ps) qs (with_term_has q.0 q.1 ps k.0 h) k.1

  each_has : (g : Fraction → Fraction) (ps : Terms) → TermsHave ps → TermsHave (each g ps)
  each_has g [] h = tt
  each_has g (p ∷ ps) h = (h.0, each_has g ps h.1)

  -- each variable of the form, if there is no fault
  abbrev pub IfForm : {E : Type 0} → Result Form E → Type 0
  IfForm (Ok f) = TermsHave f.terms
  IfForm (Err e) = Unit {0}

  small_has : (f : Form) → TermsHave f.terms → IfForm (if_small_form f)
  small_has f h = by (is_small_form f)
    where
      by : (b : Bool) → IfForm (if b then Ok f else Err TooLarge)
      by true = h
      by false = tt

  sum_has : (f g : Form) → TermsHave f.terms → TermsHave g.terms → IfForm (form.sum f g)
  sum_has f g h k = small_has (form.form (frac.sum f.constant g.constant) (with_terms f.terms g.terms)) (with_terms_have f.terms g.terms h k)

  pub difference_has : (f g : Form) → TermsHave f.terms → TermsHave g.terms → IfForm (form.difference f g)
  difference_has f g h k = sum_has f (form.opposite g) h (each_has frac.opposite g.terms k)

  product_has : (f g : Form) → TermsHave f.terms → TermsHave g.terms → IfForm (form.product f g)
  product_has f g h k = by (is_constant g) (is_constant f)
    where
      by : (b c : Bool) → IfForm (if b then if_small_form (form.multiplied g.constant f) else if c then if_small_form (form.multiplied f.constant g) else Err NotLinear)
      by true c = small_has (form.multiplied g.constant f) (each_has (λ x. frac.product x g.constant) f.terms h)
      by false true = small_has (form.multiplied f.constant g) (each_has (λ x. frac.product x f.constant) g.terms k)
      by false false = tt

  quotient_has : (f g : Form) → TermsHave f.terms → IfForm (form.quotient f g)
  quotient_has f g h = by (is_constant g) (is_zero g.constant.num)
    where
      by : (b c : Bool) → IfForm (if b then (if c then Err ZeroDivisor else if_small_form (form.divided g.constant f)) else Err NotLinear)
      by true true = tt
      by true false = small_has (form.divided g.constant f) (each_has (λ x. frac.quotient x g.constant) f.terms h)
      by false c = tt

  computed_has : (o : Operation) (f g : Form) → TermsHave f.terms → TermsHave g.terms → IfForm (computed o f g)
  computed_has Add f g h k = sum_has f g h k
  computed_has Subtract f g h k = difference_has f g h k
  computed_has Multiply f g h k = product_has f g h k
  computed_has Divide f g h k = quotient_has f g h

  placed_has : (place : ℕ) (r : Result Form FormFault) → IfForm r → IfForm (placed place r)
  placed_has place (Ok f) h = h
  placed_has place (Err e) h = tt

  negated_has : (r : Result Form Fault) → IfForm r → IfForm (negated r)
  negated_has (Ok f) h = each_has frac.opposite f.terms h
  negated_has (Err e) h = tt

  then_form : {E : Type 0} (r : Result Form E) (f : Form → Result Form E) → IfForm r → ((g : Form) → TermsHave g.terms → IfForm (f g)) → IfForm (with_value r f)
  then_form (Ok g) f h k = k g h
  then_form (Err e) f h k = tt

  -- ---- linear expressions

  module _ (number_of : ℕ → ℕ) where
    abbrev Q : ℕ → Type 0
    Q n = P (number_of n)

    mutual
      unfolding linear EachVariable

      pub linear_has : (e : Expression) → EachVariable Q e → IfForm (linear number_of e)
      linear_has (Number place value) h = placed_has place (if_small_form (form.whole value)) (small_has (form.whole value) tt)
      linear_has (Variable place n) h = (h, tt)
      linear_has (Node' place (head.Application name) shape parts) h = tt
      linear_has (Node' place head.List shape parts) h = tt
      linear_has (Node' place head.OpenList shape parts) h = tt
      linear_has (Node' place head.Brackets shape parts) h = only_has place parts h
      linear_has (Node' place head.Plus shape parts) h = only_has place parts h
      linear_has (Node' place head.Minus shape parts) h = negated_has (only_linear number_of place parts) (only_has place parts h)
      linear_has (Node' place (head.Chain operators) shape parts) h = chain_has place operators parts h

      only_has : {m : _} (place : ℕ) (parts : Row_of-Expression m) → EachVariableOf Q parts → IfForm (only_linear number_of place parts)
      only_has place end_of-Expression h = tt
      only_has place (more_of-Expression part parts) h = linear_has part h.0

      chain_has : {m : _} (place : ℕ) (operators : List Operator) (parts : Row_of-Expression m) → EachVariableOf Q parts → IfForm (linear_chain number_of place operators parts)
      chain_has place operators end_of-Expression h = tt
      chain_has place operators (more_of-Expression part parts) h =
          then_form (linear number_of part) (linear_rest number_of operators parts) (linear_has part h.0) (λ f k. rest_has operators parts f k h.1)

      rest_has : {m : _} (operators : List Operator) (parts : Row_of-Expression m) (f : Form) → TermsHave f.terms → EachVariableOf Q parts → IfForm (linear_rest number_of operators parts f)
      rest_has operators end_of-Expression f k h = k
      rest_has [] (more_of-Expression part parts) f k h = k
      rest_has (o ∷ operators) (more_of-Expression part parts) f k h =
          then_form (linear number_of part) (λ g. with_value (operated o f g) (linear_rest number_of operators parts)) (linear_has part h.0) (λ g l.
          then_form (operated o f g) (linear_rest number_of operators parts) (placed_has o.left (computed o.operation f g) (computed_has o.operation f g k l)) (λ r m.
          rest_has operators parts r m h.1))

  -- ---- pairs

  with_pair_has : (v : ℕ) (c : ℤ) (ps : Pairs) → P v → PairsHave ps → PairsHave (with_pair v c ps)
  with_pair_has v c ps h k = by (is_zero c)
    where
      by : (b : Bool) → PairsHave (if b then ps else (v, c) ∷ ps)
      by true = k
      by false = (h, k)

  scaled_has : (b : ℤ) (qs : Pairs) → PairsHave qs → PairsHave (scaled b qs)
  scaled_has b [] h = tt
  scaled_has b (q ∷ qs) h = with_pair_has q.0 (b *ℤ q.1) (scaled b qs) h.0 (scaled_has b qs h.1)

  merged_has : (a : ℤ) (p : ℕ × ℤ) (rest : Pairs → Pairs) (b : ℤ) → P p.0 → ((qs : Pairs) → PairsHave qs → PairsHave (rest qs)) → (qs : Pairs) → PairsHave qs → PairsHave (merged a p rest b qs)
  merged_has a p rest b h r [] k = with_pair_has p.0 (a *ℤ p.1) (rest []) h (r [] tt)
  merged_has a p rest b h r (q ∷ qs) k = by (merged_has a p rest b h r qs k.1) (nat_lt p.0 q.0) (nat_lt q.0 p.0)
    where
      by : PairsHave (merged a p rest b qs) → (s t : Bool)
          → PairsHave (if s then with_pair p.0 (a *ℤ p.1) (rest (q ∷ qs)) else if t then with_pair q.0 (b *ℤ q.1) (merged a p rest b qs) else with_pair p.0 (a *ℤ p.1 +ℤ b *ℤ q.1) (rest qs))
      by ih true t = with_pair_has p.0 (a *ℤ p.1) (rest (q ∷ qs)) h (r (q ∷ qs) k)
      by ih false true = with_pair_has q.0 (b *ℤ q.1) (merged a p rest b qs) k.0 ih
      by ih false false = with_pair_has p.0 (a *ℤ p.1 +ℤ b *ℤ q.1) (rest qs) h (r qs k.1)

  combined_has : (a : ℤ) (ps : Pairs) (b : ℤ) (qs : Pairs) → PairsHave ps → PairsHave qs → PairsHave (combined a ps b qs)
  combined_has a [] b qs h k = scaled_has b qs k
  combined_has a (p ∷ ps) b qs h k = merged_has a p (combined a ps b) b h.0 (λ rs l. combined_has a ps b rs h.1 l) qs k

  in_order_has : (d : ℕ) (ps : Terms) → TermsHave ps → PairsHave (in_order (cleared_terms d ps))
  in_order_has d [] h = tt
  in_order_has d (p ∷ ps) h =
      let c = form.cleared d p.1 in
      combined_has (pos 1) (with_pair p.0 c []) (pos 1) (in_order (cleared_terms d ps)) (with_pair_has p.0 c [] h.0 tt) (in_order_has d ps h.1)

  divided_has : (d : ℤ) (ps : Pairs) → PairsHave ps → PairsHave (divided_pairs d ps)
  divided_has d [] h = tt
  divided_has d (p ∷ ps) h = (h.0, divided_has d ps h.1)

  pairs_all : (ps : Pairs) → PairsHave ps → All P (map (λ p. p.0) ps)
  pairs_all [] h = All-nil P
  pairs_all (p ∷ ps) h = All-cons P p.0 (map (λ q. q.0) ps) h.0 (pairs_all ps h.1)

  -- ---- rows

  one_rises : (v : ℕ) (c : ℤ) → IsRising (with_pair v c [])
  one_rises v c = by (is_zero c) refl
    where
      by : (b : Bool) → is_zero c ≡ b → IsRising (if b then [] else (v, c) ∷ [])
      by true e = tt
      by false e = (e, tt, tt)

  in_order_rises : (ps : Pairs) → IsRising (in_order ps)
  in_order_rises [] = tt
  in_order_rises (p ∷ ps) = rising_combined (pos 1) (with_pair p.0 p.1 []) (pos 1) (in_order ps) (one_rises p.0 p.1) (in_order_rises ps)

  -- a row in normal form and in range, each of whose variables has the property
  pub record IsRowOver (row : Row) : Type 0 where
    pub kept : IsKept row
    pub variables : All P (row_variables row)

  abbrev pub IfRow : {E : Type 0} → Result Row E → Type 0
  IfRow (Ok row) = IsRowOver row
  IfRow (Err e) = Unit {0}

  form_row_has : (rel : Rel) (f : Form) → TermsHave f.terms → IfRow (form.row_of rel f)
  form_row_has rel f h = by (is_within (normal row)) refl
    where
      row : Row
      row = cleared_row rel f

      by : (b : Bool) → is_within (normal (cleared_row rel f)) ≡ b → IfRow (if b then Ok (normal (cleared_row rel f)) else Err TooLarge)
      by true e = record {
        kept = record { within = e; normal = normal_is_normal (cleared_row rel f) (in_order_rises (cleared_terms (common_den f) f.terms)) };
        variables = pairs_all (normal (cleared_row rel f)).pairs (divided_has _ (cleared_row rel f).pairs (in_order_has (common_den f) f.terms h));
      }
      by false e = tt

  pub placed_row_has : (place : ℕ) (r : Result Row FormFault) → IfRow r → IfRow (placed place r)
  placed_row_has place (Ok row) h = h
  placed_row_has place (Err e) h = tt

  pub then_row : {E : Type 0} (r : Result Form E) (f : Form → Result Row E) → IfForm r → ((g : Form) → TermsHave g.terms → IfRow (f g)) → IfRow (with_value r f)
  then_row (Ok g) f h k = k g h
  then_row (Err e) f h k = tt

  -- the row of a difference
  pub difference_row_has : (rel : Rel) (f g : Form) → TermsHave f.terms → TermsHave g.terms → IfRow (with_value (form.difference f g) (form.row_of rel))
  difference_row_has rel f g h k = then_row (form.difference f g) (form.row_of rel) (difference_has f g h k) (λ d l. form_row_has rel d l)

  row_by_has : (relation : Relation) (f g : Form) → TermsHave f.terms → TermsHave g.terms → IfRow (row_by relation f g)
  row_by_has Equal f g h k = difference_row_has Eq f g h k
  row_by_has NumberEqual f g h k = difference_row_has Eq f g h k
  row_by_has AtMost f g h k = difference_row_has Le f g h k
  row_by_has Less f g h k = difference_row_has Lt f g h k
  row_by_has AtLeast f g h k = difference_row_has Le g f k h
  row_by_has Greater f g h k = difference_row_has Lt g f k h

  pub row_has : (number_of : ℕ → ℕ) (c : Comparison) → EachVariable (λ n. P (number_of n)) c.first → EachVariable (λ n. P (number_of n)) c.second → IfRow (row_of number_of c)
  unfolding row_of
  row_has number_of c h k =
      then_row (linear number_of c.first) (λ f. with_value (linear number_of c.second) (λ g. placed c.left (row_by c.relation f g))) (linear_has number_of c.first h) (λ f a.
      then_row (linear number_of c.second) (λ g. placed c.left (row_by c.relation f g)) (linear_has number_of c.second k) (λ g b.
      placed_row_has c.left (row_by c.relation f g) (row_by_has c.relation f g a b)))

-- ---- the laws

told : (P : ℕ → Type 0) (r : Result Row Fault) (row : Row) → IfRow P r → r ≡ Ok row → IsRowOver P row
told P r row h e = subst (λ (x : Result Row Fault). IfRow P x) e h

mutual
  unfolding EachVariable

  anywhere : (e : Expression) → EachVariable (λ n. Unit {0}) e
  anywhere (Number place value) = tt
  anywhere (Variable place n) = tt
  anywhere (Node' place head shape parts) = anywhere_in parts

  anywhere_in : {m : _} (parts : Row_of-Expression m) → EachVariableOf (λ n. Unit {0}) parts
  anywhere_in end_of-Expression = tt
  anywhere_in (more_of-Expression part parts) = (anywhere part, anywhere_in parts)

pub rows_kept : RowsAreKept
rows_kept number_of c row e =
    let h = told (λ n. Unit {0}) (row_of number_of c) row (row_has (λ n. Unit {0}) number_of c (anywhere c.first) (anywhere c.second)) e in
    (h.kept.normal, h.kept.within)

pub rows_have_the_variables : RowsHaveTheVariables
rows_have_the_variables p number_of count c row f names e =
    let P : ℕ → Type 0 = λ v. p v ≡ true in
    let Q : ℕ → Type 0 = λ n. p (number_of n) ≡ true in
    (told P (row_of number_of c) row (row_has P number_of c (each_weaker (IsNumbered count) Q names c.first (each_formed count c.first f.first)) (each_weaker (IsNumbered count) Q names c.second (each_formed count c.second f.second))) e).variables
