-- What stands for terms, rows and clauses has their printed texts.
use Rattle.std.proofs.Common.{◌≡◌, ℕ, Bool, true, false, List, [], ◌∷◌, ◌++◌, map, refl, ap, ◌∙◌, sym, cond, codes, arith}
use Rattle.clp_model.specs.declared.tree.Tree.{Tree, Var, App', Row_of-Tree, end_of-Tree, more_of-Tree}
use Rattle.clp_model.specs.Clauses.{Clause, Row}
use Rattle.clause_model.specs.Variables.{loose_nums}
use Rattle.clp_grammar.specs.declared.draft.Constraint.{Constraint}
use Rattle.print_model.specs.Names.{predicate_text, is_nil, is_dot}
use Rattle.print_model.specs.Terms as printed
use Rattle.print_model.specs.Terms.{Texts, texts, row_texts, atom_text, arguments_text}
use Rattle.print_model.specs.Rows.{row_text}
use Rattle.print_model.specs.Clauses as text
use Rattle.print_model.specs.Clauses.{num_text}
use Rattle.standing_model.specs.Pieces.{Piece}
use Rattle.standing_model.specs.Pieces as pieces
use Rattle.standing_model.specs.Terms as standing
use Rattle.standing_model.specs.Terms.{Standing, simple, application, texts_of, row_standing, atom}
use Rattle.parsing_laws.specs.Laws.{PrintedTermsAreParsed}
use Rattle.parsing_laws.proofs.Terms.{term_parsed}
use Rattle.standing_model.specs.Clauses.{row_constraint, num_constraint, constraints, braces, call, goals}

-- ---- terms

simple_texts : (name : List ℕ) (ss : List Standing) → (simple name ss).texts ≡ printed.simple name (texts_of ss)
simple_texts name [] = go (is_nil name) refl
  where
    go : (t : Bool) → is_nil name ≡ t → (cond t standing.nil (standing.other (cond t (codes "[]") (predicate_text name)) (standing.applied name []))).texts ≡ cond t printed.nil (printed.other (cond t (codes "[]") (predicate_text name)))
    go true e = refl
    go false e = refl
simple_texts name (s ∷ ss) = refl

application_texts : (name : List ℕ) (ss : List Standing) → (application name ss).texts ≡ printed.application name (texts_of ss)
application_texts name [] = simple_texts name []
application_texts name (s ∷ []) = refl
application_texts name (s ∷ t ∷ []) = go (is_dot name)
  where
    go : (b : Bool) → (cond b (standing.cell s t) (simple name (s ∷ t ∷ []))).texts ≡ cond b (printed.cell s.texts t.texts) (printed.simple name (s.texts ∷ t.texts ∷ []))
    go true = refl
    go false = refl
application_texts name (s ∷ t ∷ u ∷ ss) = refl

mutual
  unfolding standing.standing texts

  term_texts : (place : ℕ → ℕ) (t : Tree ℕ) → (standing.standing place t).texts ≡ texts t
  term_texts place (Var n) = refl
  term_texts place (App' name shape args) = application_texts name (row_standing place args) ∙ ap (printed.application name) (row_texts_are place _ args)

  row_texts_are : (place : ℕ → ℕ) (m : _) (ts : Row_of-Tree ℕ m) → texts_of (row_standing place ts) ≡ row_texts ts
  row_texts_are place m end_of-Tree = refl
  row_texts_are place m (more_of-Tree t ts) = ap (λ (x : Texts). x ∷ texts_of (row_standing place ts)) (term_texts place t) ∙ ap (λ (xs : List Texts). texts t ∷ xs) (row_texts_are place _ ts)

pub term_is : PrintedTermsAreParsed
term_is place t more ms r text names deep numbers front stops =
    let whole = (term_parsed place t more names deep).whole in
    whole.is more ms r text (omega arith) numbers (front ∙ ap (λ (x : Texts). x.whole ++ text) (sym (term_texts place t))) stops

pub atom_text_is : (place : ℕ → ℕ) (t : Tree ℕ) → (atom place t).text ≡ atom_text t
unfolding atom atom_text
atom_text_is place (Var n) = refl
atom_text_is place (App' name shape args) = ap (λ (ts : List Texts). predicate_text name ++ arguments_text ts) (row_texts_are place _ args)

-- ---- clauses

pieces_append : {A : Type 0} (ps qs : List (Piece A)) → pieces.texts_of (ps ++ qs) ≡ pieces.texts_of ps ++ pieces.texts_of qs
pieces_append [] qs = refl
pieces_append (p ∷ ps) qs = ap (λ (z : List (List ℕ)). p.text ∷ z) (pieces_append ps qs)

rows_texts : (place : ℕ → ℕ) (rs : List Row) → pieces.texts_of (map (row_constraint place) rs) ≡ map row_text rs
rows_texts place [] = refl
rows_texts place (r ∷ rs) = ap (λ (z : List (List ℕ)). row_text r ∷ z) (rows_texts place rs)

nums_texts : (place : ℕ → ℕ) (ns : List ℕ) → pieces.texts_of (map (num_constraint place) ns) ≡ map num_text ns
nums_texts place [] = refl
nums_texts place (n ∷ ns) = ap (λ (z : List (List ℕ)). num_text n ∷ z) (nums_texts place ns)

calls_texts : (place : ℕ → ℕ) (ts : List (Tree ℕ)) → pieces.texts_of (map (call place) ts) ≡ map atom_text ts
calls_texts place [] = refl
calls_texts place (t ∷ ts) = ap (λ (z : List ℕ). z ∷ pieces.texts_of (map (call place) ts)) (atom_text_is place t) ∙ ap (λ (z : List (List ℕ)). atom_text t ∷ z) (calls_texts place ts)

constraints_texts : (place : ℕ → ℕ) (c : Clause) → pieces.texts_of (constraints place c) ≡ text.constraints c
constraints_texts place c =
    pieces_append (map (row_constraint place) c.rows) (map (num_constraint place) (loose_nums c))
    ∙ ap (λ (z : List (List ℕ)). z ++ pieces.texts_of (map (num_constraint place) (loose_nums c))) (rows_texts place c.rows)
    ∙ ap (λ (z : List (List ℕ)). map row_text c.rows ++ z) (nums_texts place (loose_nums c))

braces_texts : (ps : List (Piece Constraint)) → pieces.texts_of (braces ps) ≡ text.braces (pieces.texts_of ps)
braces_texts [] = refl
braces_texts (p ∷ ps) = refl

pub goals_texts : (place : ℕ → ℕ) (c : Clause) → pieces.texts_of (goals place c) ≡ text.goals c
goals_texts place c =
    pieces_append (braces (constraints place c)) (map (call place) c.body)
    ∙ ap (λ (z : List (List ℕ)). z ++ pieces.texts_of (map (call place) c.body)) (braces_texts (constraints place c) ∙ ap text.braces (constraints_texts place c))
    ∙ ap (λ (z : List (List ℕ)). text.braces (text.constraints c) ++ z) (calls_texts place c.body)
