-- What stands for printed terms and atoms has the terms and atoms as its meaning, in new numbers.
use Rattle.std.proofs.Common.{◌≡◌, ℕ, ◌+◌, ◌<◌, List, [], ◌∷◌, ◌++◌, length, map, Bool, true, false, arith, refl, sym, ◌∙◌, ap, subst, Ok, codes, append-nil}
use Rattle.std.specs.Prelude.{if◌then◌else◌}
use Rattle.std.proofs.lemmas.Slice.Eq.{bytes_eq-Decides}
use Rattle.token_model.specs.Parsers.{Outcome, and_then, ◌>>=◌, pure}
use Rattle.clp_model.specs.declared.tree.Tree.{Tree, Var, App, App', Row_of-Tree, end_of-Tree, more_of-Tree, items-the_row-Tree}
use Rattle.clp_model.specs.Trees.{mapped, mapped_row, variables, variables_in_row}
use Rattle.clp_model.specs.Canonical.{place_in}
use Rattle.clp_model.proofs.Trees.{out_app}
use Rattle.clp_grammar.specs.declared.expression.Head.{Head}
use Rattle.clp_grammar.specs.declared.expression.Head.TheVariants as head
use Rattle.clp_grammar.specs.declared.expression.Expression.{Expression, Node}
use Rattle.clp_grammar.specs.Terms as grammar
use Rattle.clp_grammar.specs.Terms.{Meaning, list_of, open_list, term, terms_of, term_by}
use Rattle.clp_grammar.proofs.Parts.{term_from_node, term_from_variable}
use Rattle.print_model.specs.Names.{name_text, is_nil, is_dot}
use Rattle.print_model.specs.Terms.{variable_text}
use Rattle.standing_model.specs.Pieces.{placed}
use Rattle.standing_model.specs.Terms as standing
use Rattle.standing_model.specs.Terms.{Standing, piece, other, nil, elements, cell, simple, application, applied, row_standing, atom}
use Rattle.evaluation_laws.proofs.States.{Known, meant, having, CanMeet, having_both, meet_front, meet_back, named_is}

-- ---- lists

-- these elements make this tree
abbrev pub Makes : Head → List (Tree ℕ) → Tree ℕ → Type 0
Makes head.List ts t = list_of ts ≡ t
Makes head.OpenList ts t = (0 < length ts) × (open_list ts ≡ t)
Makes other ts t = ⊥

makes_more : (h : Head) (ts : List (Tree ℕ)) (t u : Tree ℕ) → Makes h ts u → Makes h (t ∷ ts) (grammar.cell t u)
makes_more head.List ts t u makes = ap (grammar.cell t) makes
makes_more head.OpenList [] t u makes = absurd (omega (arith, makes.0))
makes_more head.OpenList (v ∷ vs) t u makes = (omega arith, ap (grammar.cell t) makes.1)
makes_more (head.Application name) ts t u makes = absurd makes
makes_more head.Brackets ts t u makes = absurd makes
makes_more head.Plus ts t u makes = absurd makes
makes_more head.Minus ts t u makes = absurd makes
makes_more (head.Chain operators) ts t u makes = absurd makes

list_made : (begin place : ℕ) (h : Head) (parts : List Expression) (ts : List (Tree ℕ)) (m n : Meaning) (t : Tree ℕ) → terms_of parts m ≡ Ok (ts, n) → Makes h ts t → term_by begin place h parts m ≡ Ok (t, n)
list_made begin place head.List parts ts m n t is makes = ap (λ (o : Outcome Meaning (List (Tree ℕ))). and_then o (λ us. pure (list_of us))) is ∙ ap (λ u. Ok (u, n)) makes
list_made begin place head.OpenList parts ts m n t is makes = ap (λ (o : Outcome Meaning (List (Tree ℕ))). and_then o (λ us. pure (open_list us))) is ∙ ap (λ u. Ok (u, n)) makes.1
list_made begin place (head.Application name) parts ts m n t is makes = absurd makes
list_made begin place head.Brackets parts ts m n t is makes = absurd makes
list_made begin place head.Plus parts ts m n t is makes = absurd makes
list_made begin place head.Minus parts ts m n t is makes = absurd makes
list_made begin place (head.Chain operators) parts ts m n t is makes = absurd makes

node_term : (place : ℕ) (h : Head) (parts : List Expression) (m : Meaning) (o : Outcome Meaning (Tree ℕ)) → ((begin : ℕ) → term_by begin place h parts m ≡ o) → term (Node place h parts) m ≡ o
node_term place h parts m o is = term_from_node _ place h parts m ∙ is _

-- ---- what stands for a term

-- This tree is the meaning of what stands for a term, by itself and as what follows an element of a list; it has these
-- variables.
pub record IsMeant (names : List ℕ) (s : Standing) (t : Tree ℕ) (ns : List ℕ) : Type 0 where
  pub whole : (after : ℕ) (k : Known) → CanMeet names k ns → term (s.whole after) (meant names k) ≡ Ok (t, meant names (having k ns))
  pub rest : (after : ℕ) (k : Known) → CanMeet names k ns
      → (ts : List (Tree ℕ)) × (terms_of (s.rest after).parts (meant names k) ≡ Ok (ts, meant names (having k ns))) × Makes (s.rest after).head ts t

abbrev pub AreMeant : List ℕ → List Standing → List (Tree ℕ) → List ℕ → Type 0
AreMeant names [] [] ns = ns ≡ []
AreMeant names [] (t ∷ ts) ns = ⊥
AreMeant names (s ∷ ss) [] ns = ⊥
AreMeant names (s ∷ ss) (t ∷ ts) ns = (xs : List ℕ) × (ys : List ℕ) × IsMeant names s t xs × AreMeant names ss ts ys × (ns ≡ xs ++ ys)

-- goes on with the terms of further expressions
abbrev and_terms : List Expression → Tree ℕ → Meaning → Outcome Meaning (List (Tree ℕ))
and_terms parts t = terms_of parts >>= (λ ts. pure (t ∷ ts))

module _ (names : List ℕ) where
  other_meant : (text : List ℕ) (whole : ℕ → Expression) (t : Tree ℕ) (ns : List ℕ)
      → ((after : ℕ) (k : Known) → CanMeet names k ns → term (whole after) (meant names k) ≡ Ok (t, meant names (having k ns)))
      → IsMeant names (other text whole) t ns
  other_meant text whole t ns is = record {
    whole = is;
    rest = λ after k can. (t ∷ [], ap (λ (o : Outcome Meaning (Tree ℕ)). and_then o (λ u. and_terms [] u)) (is (1 + after) k can), (omega arith, refl));
  }

  nil_meant : IsMeant names nil (App (codes "[]") []) []
  nil_meant = record {
    whole = λ after k can. node_term (2 + after) head.List [] (meant names k) (Ok (App (codes "[]") [], meant names k)) (λ begin. refl);
    rest = λ after k can. ([], refl, refl);
  }

  module _ (s r : Standing) (t u : Tree ℕ) (xs ys : List ℕ) (first : IsMeant names s t xs) (second : IsMeant names r u ys) where
    elements_meant : (after : ℕ) (k : Known) → CanMeet names k (xs ++ ys)
        → (ts : List (Tree ℕ)) × (terms_of (elements s r after).parts (meant names k) ≡ Ok (ts, meant names (having k (xs ++ ys)))) × Makes (elements s r after).head ts (grammar.cell t u)
    elements_meant after k can =
        let parts = (r.rest after).parts in
        let tail = second.rest after (having k xs) (meet_back names k xs ys can) in (
          t ∷ tail.0,
          ap (λ (o : Outcome Meaning (Tree ℕ)). and_then o (λ v. and_terms parts v)) (first.whole (length r.texts.rest + after) k (meet_front names k xs ys can))
              ∙ ap (λ (o : Outcome Meaning (List (Tree ℕ))). and_then o (λ vs. pure (t ∷ vs))) tail.1
              ∙ ap (λ (j : Known). Ok (t ∷ tail.0, meant names j)) (having_both k xs ys),
          makes_more (r.rest after).head tail.0 t u tail.2,
        )

    cell_meant : IsMeant names (cell s r) (grammar.cell t u) (xs ++ ys)
    cell_meant = record {
      whole = λ after k can.
          let all = elements s r after in
          let is = elements_meant after k can in
          node_term _ all.head all.parts (meant names k) (Ok (grammar.cell t u, meant names (having k (xs ++ ys)))) (λ begin. list_made begin _ all.head all.parts is.0 (meant names k) (meant names (having k (xs ++ ys))) (grammar.cell t u) is.1 is.2);
      rest = elements_meant;
    }

  -- ---- names and their arguments

  terms_meant : (ss : List Standing) (ts : List (Tree ℕ)) (ns : List ℕ) → AreMeant names ss ts ns → (after : ℕ) (k : Known) → CanMeet names k ns
      → terms_of (placed (codes ",") (map piece ss) after) (meant names k) ≡ Ok (ts, meant names (having k ns))
  terms_meant [] [] ns are after k can = ap (λ (xs : List ℕ). Ok ([], meant names (having k xs))) (sym are)
  terms_meant [] (t ∷ ts) ns are after k can = absurd are
  terms_meant (s ∷ ss) [] ns are after k can = absurd are
  terms_meant (s ∷ ss) (t ∷ ts) ns are after k can =
      let xs = are.0 in
      let ys = are.1 in
      let all : CanMeet names k (xs ++ ys) = subst (λ (zs : List ℕ). CanMeet names k zs) are.4 can in
      let others = placed (codes ",") (map piece ss) after in
      ap (λ (o : Outcome Meaning (Tree ℕ)). and_then o (λ u. and_terms others u)) (are.2.whole _ k (meet_front names k xs ys all))
      ∙ ap (λ (o : Outcome Meaning (List (Tree ℕ))). and_then o (λ us. pure (t ∷ us))) (terms_meant ss ts ys are.3 after (having k xs) (meet_back names k xs ys all))
      ∙ ap (λ (j : Known). Ok (t ∷ ts, meant names j)) (having_both k xs ys ∙ ap (having k) (sym are.4))

  pub applied_meant : (name : List ℕ) (ss : List Standing) (ts : List (Tree ℕ)) (ns : List ℕ) → AreMeant names ss ts ns → (after : ℕ) (k : Known) → CanMeet names k ns
      → term (applied name ss after) (meant names k) ≡ Ok (App name ts, meant names (having k ns))
  applied_meant name ss ts ns are after k can =
      let parts = placed (codes ",") (map piece ss) (1 + after) in
      node_term _ (head.Application name) parts (meant names k) (Ok (App name ts, meant names (having k ns)))
      (λ begin. ap (λ (o : Outcome Meaning (List (Tree ℕ))). and_then o (λ us. pure (App name us))) (terms_meant ss ts ns are (1 + after) k can))

  simple_meant : (name : List ℕ) (ss : List Standing) (ts : List (Tree ℕ)) (ns : List ℕ) → AreMeant names ss ts ns → IsMeant names (simple name ss) (App name ts) ns
  simple_meant name [] [] ns are = subst (λ (xs : List ℕ). IsMeant names (simple name []) (App name []) xs) (sym are) (by (is_nil name) refl)
    where
      by : (b : Bool) → is_nil name ≡ b → IsMeant names (if b then nil else other (name_text name) (applied name [])) (App name []) []
      by true e = subst (λ (w : List ℕ). IsMeant names nil (App w []) []) (sym ((bytes_eq-Decides name (codes "[]")).0 e)) nil_meant
      by false e = other_meant _ (applied name []) (App name []) [] (applied_meant name [] [] [] refl)
  simple_meant name [] (t ∷ ts) ns are = absurd are
  simple_meant name (s ∷ ss) ts ns are = other_meant _ (applied name (s ∷ ss)) (App name ts) ns (applied_meant name (s ∷ ss) ts ns are)

  application_meant : (name : List ℕ) (ss : List Standing) (ts : List (Tree ℕ)) (ns : List ℕ) → AreMeant names ss ts ns → IsMeant names (application name ss) (App name ts) ns
  application_meant name [] ts ns are = simple_meant name [] ts ns are
  application_meant name (s ∷ []) ts ns are = simple_meant name (s ∷ []) ts ns are
  application_meant name (s ∷ r ∷ []) [] ns are = absurd are
  application_meant name (s ∷ r ∷ []) (t ∷ []) ns are = absurd are.3
  application_meant name (s ∷ r ∷ []) (t ∷ u ∷ []) ns are = by (is_dot name) refl
    where
      both : are.0 ++ are.3.0 ≡ ns
      both = ap (λ (xs : List ℕ). are.0 ++ xs) (sym (are.3.4 ∙ ap (λ (xs : List ℕ). are.3.0 ++ xs) are.3.3 ∙ append-nil are.3.0)) ∙ sym are.4

      by : (b : Bool) → is_dot name ≡ b → IsMeant names (if b then cell s r else simple name (s ∷ r ∷ [])) (App name (t ∷ u ∷ [])) ns
      by true e =
          let own : codes "." ≡ name = sym ((bytes_eq-Decides name (codes ".")).0 e) in
          subst (λ (w : List ℕ). IsMeant names (cell s r) (App w (t ∷ u ∷ [])) ns) own
          (subst (λ (xs : List ℕ). IsMeant names (cell s r) (grammar.cell t u) xs) both (cell_meant s r t u are.0 are.3.0 are.2 are.3.2))
      by false e = simple_meant name (s ∷ r ∷ []) (t ∷ u ∷ []) ns are
  application_meant name (s ∷ r ∷ []) (t ∷ u ∷ v ∷ ts) ns are = absurd are.3.3
  application_meant name (s ∷ r ∷ q ∷ ss) ts ns are = simple_meant name (s ∷ r ∷ q ∷ ss) ts ns are

  -- ---- terms

  abbrev number : ℕ → ℕ
  number n = place_in names n

  variable_meant : (n after : ℕ) (k : Known) → CanMeet names k (n ∷ []) → term (standing.variable number n after) (meant names k) ≡ Ok (Var (number n), meant names (having k (n ∷ [])))
  variable_meant n after k can = term_from_variable _ _ (number n) (meant names k) ∙ named_is names k.found k.nums k.rows k.atoms n can.first can.within

mutual
  unfolding standing.standing mapped variables

  pub term_meant : (names : List ℕ) (t : Tree ℕ) → IsMeant names (standing.standing (place_in names) t) (mapped (place_in names) t) (variables t)
  term_meant names (Var n) = other_meant names (variable_text n) (standing.variable (place_in names) n) (Var (place_in names n)) (n ∷ []) (variable_meant names n)
  term_meant names (App' name shape args) =
      let parts = mapped_row (place_in names) args in
      subst (λ (u : Tree ℕ). IsMeant names (application name (row_standing (place_in names) args)) u (variables_in_row args)) (out_app name shape parts)
      (application_meant names name (row_standing (place_in names) args) (items-the_row-Tree ℕ _ parts) (variables_in_row args) (row_meant names _ args))

  pub row_meant : (names : List ℕ) (m : _) (ts : Row_of-Tree ℕ m) → AreMeant names (row_standing (place_in names) ts) (items-the_row-Tree ℕ _ (mapped_row (place_in names) ts)) (variables_in_row ts)
  row_meant names m end_of-Tree = refl
  row_meant names m (more_of-Tree t ts) = (variables t, variables_in_row ts, term_meant names t, row_meant names _ ts, refl)

-- a head or body atom
pub atom_meant : (names : List ℕ) (t : Tree ℕ) (after : ℕ) (k : Known) → CanMeet names k (variables t)
    → term ((atom (place_in names) t).value after) (meant names k) ≡ Ok (mapped (place_in names) t, meant names (having k (variables t)))
unfolding atom standing.standing mapped variables
atom_meant names (Var n) after k can = variable_meant names n after k can
atom_meant names (App' name shape args) after k can =
    let parts = mapped_row (place_in names) args in
    applied_meant names name (row_standing (place_in names) args) (items-the_row-Tree ℕ _ parts) (variables_in_row args) (row_meant names _ args) after k can
    ∙ ap (λ (u : Tree ℕ). Ok (u, meant names (having k (variables_in_row args)))) (out_app name shape parts)
