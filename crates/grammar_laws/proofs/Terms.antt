-- The terms and the atoms that expressions stand for.
use Rattle.std.proofs.Common.{◌≡◌, ℕ, suc, ◌<◌, ◌≤◌, ◌^◌, List, ◌∷◌, length, Bool, true, false, nat_eq, refl, sym, ap, ◌∙◌, subst, arith, cond}
use Rattle.std.specs.Prelude.{All, codes, not, ◌&&◌}
use Rattle.std.specs.Str.{bytes_eq}
use Rattle.std.proofs.lemmas.List.Elements.{All-nil, All-cons, All-weaker}
use Rattle.std.proofs.lemmas.Bool.Decides.{nat_tests}
use Rattle.clp_model.specs.declared.tree.Tree.{Tree, App}
use Rattle.clp_model.specs.declared.predicate.Pred.{Pred}
use Rattle.clp_model.specs.Trees.{arguments_of}
use Rattle.clp_model.specs.Predicates.{predicate_of}
use Rattle.clp_model.proofs.Trees.{name_of_app, arguments_of_app, application_app}
use Rattle.token_model.specs.Parsers.{Outcome, and_then, pure}
use Rattle.standing_model.specs.Names.{is_short, is_ordinary}
use Rattle.clp_grammar.specs.declared.nature.Nature.{Nature}
use Rattle.clp_grammar.specs.declared.nature.Nature.TheVariants.{Atom, True}
use Rattle.clp_grammar.specs.declared.expression.Head.TheVariants as head
use Rattle.clp_grammar.specs.declared.expression.Expression.{Expression, Number, Variable, Node', Row_of-Expression, end_of-Expression, more_of-Expression}
use Rattle.clp_grammar.specs.Terms.{Meaning, place_of, term_from, only_term, terms, list_of, open_list}
use Rattle.clp_grammar.specs.Clauses.{nature, only_nature, nature_of_name}
use Rattle.draft_laws.specs.Formed.{IsFormed, AreFormed, row_length}
use Rattle.grammar_laws.proofs.Known.{IsTerm, IsAtom, IsKnown, stays, term_wider}
use Rattle.grammar_laws.proofs.Evaluating.{After, then_after, is_flattened, is_named}
use Rattle.grammar_laws.proofs.Trees.{short_name, application_term, list_term, open_list_term}

-- terms, as many as there are parts
record AreTerms (n count : ℕ) (ts : List (Tree ℕ)) : Type 0 where
  each : All (IsTerm count) ts
  long : length ts ≡ n

all_wider : (m n : ℕ) → m ≤ n → (ts : List (Tree ℕ)) → All (IsTerm m) ts → All (IsTerm n) ts
all_wider m n w ts h = All-weaker (IsTerm m) (IsTerm n) (λ t k. term_wider m n w t k) ts h

-- the terms become one, as a list does
made : (count : ℕ) (m : Meaning) (n : ℕ) (f : List (Tree ℕ) → Tree ℕ) → ((k : ℕ) (ts : List (Tree ℕ)) → All (IsTerm k) ts → IsTerm k (f ts))
    → (o : Outcome Meaning (List (Tree ℕ))) → After count m (AreTerms n) o → After count m IsTerm (and_then o (λ ts. pure (f ts)))
made count m n f makes o h = then_after count m (AreTerms n) IsTerm o (λ ts. pure (f ts)) h (λ ts k s t. (stays count k s.known, makes (length k.sorts) ts t.each))

mutual
  unfolding term_from IsFormed

  pub is_term : (count begin : ℕ) (e : Expression) (m : Meaning) → IsKnown count m → IsFormed count e → After count m IsTerm (term_from begin e m)
  is_term count begin (Number place value) m known f = is_flattened count begin (Number place value) m known f
  is_term count begin (Variable place n) m known f = is_named count n m known f
  is_term count begin (Node' place (head.Application name) shape parts) m known f =
      made count m (row_length parts) (App name) (λ k ts h. application_term k name ts (short_name name f.0.1) h) (terms parts m) (are_terms count parts m known f.1)
  is_term count begin (Node' place head.List shape parts) m known f = made count m (row_length parts) list_of list_term (terms parts m) (are_terms count parts m known f.1)
  is_term count begin (Node' place head.OpenList shape parts) m known f = made count m (row_length parts) open_list open_list_term (terms parts m) (are_terms count parts m known f.1)
  is_term count begin (Node' place head.Brackets shape parts) m known f = only_is_term count begin parts m known f.1
  is_term count begin (Node' place head.Plus shape parts) m known f = is_flattened count begin (Node' place head.Plus shape parts) m known f
  is_term count begin (Node' place head.Minus shape parts) m known f = is_flattened count begin (Node' place head.Minus shape parts) m known f
  is_term count begin (Node' place (head.Chain operators) shape parts) m known f = is_flattened count begin (Node' place (head.Chain operators) shape parts) m known f

  only_is_term : {k : _} (count begin : ℕ) (parts : Row_of-Expression k) (m : Meaning) → IsKnown count m → AreFormed count parts → After count m IsTerm (only_term begin parts m)
  only_is_term count begin end_of-Expression m known f = tt
  only_is_term count begin (more_of-Expression part parts) m known f = is_term count begin part m known f.0

  are_terms : {k : _} (count : ℕ) (parts : Row_of-Expression k) (m : Meaning) → IsKnown count m → AreFormed count parts → After count m (AreTerms (row_length parts)) (terms parts m)
  are_terms count end_of-Expression m known f = (stays count m known, record { each = All-nil (IsTerm (length m.sorts)); long = refl })
  are_terms count (more_of-Expression part parts) m known f =
      then_after count m IsTerm (AreTerms (suc (row_length parts))) (term_from (place_of part) part m) (λ t k. and_then (terms parts k) (λ ts. pure (t ∷ ts))) (is_term count (place_of part) part m known f.0) (λ t k s h.
      rest t k (are_terms count parts k s.known f.1) h)
    where
      rest : (t : Tree ℕ) (k : Meaning) → After count k (AreTerms (row_length parts)) (terms parts k) → IsTerm (length k.sorts) t → After count k (AreTerms (suc (row_length parts))) (and_then (terms parts k) (λ ts. pure (t ∷ ts)))
      rest t k more h = then_after count k (AreTerms (row_length parts)) (AreTerms (suc (row_length parts))) (terms parts k) (λ ts. pure (t ∷ ts)) more (λ ts l s all. (
        stays count l s.known,
        record {
          each = All-cons (IsTerm (length l.sorts)) t ts (term_wider (length k.sorts) (length l.sorts) s.grows.sorts.longer t h) all.each;
          long = ap suc all.long;
        },
      ))

-- ---- atoms

of_arity : List ℕ → ℕ → Pred
of_arity name n = record { name = name; arity = n }

ordinary_app : (name : List ℕ) (ts : List (Tree ℕ)) → is_ordinary (of_arity name (length ts)) ≡ true → is_ordinary (predicate_of (App name ts)) ≡ true
unfolding of_arity
ordinary_app name ts h =
    let e : predicate_of (App name ts) ≡ record { name = name; arity = length ts } =
    ap (λ f. of_arity f (length (arguments_of (App name ts)))) (name_of_app name ts) ∙ ap (λ xs. of_arity name (length xs)) (arguments_of_app name ts) in
    ap is_ordinary e ∙ h

application_atom : (count : ℕ) (name : List ℕ) (ts : List (Tree ℕ)) → is_short name ≡ true → length ts < 2 ^ 32 → is_ordinary (of_arity name (length ts)) ≡ true → All (IsTerm count) ts → IsAtom count (App name ts)
application_atom count name ts short few ordinary h =
    let t = application_term count name ts short h in
    record {
      numbered = t.numbered;
      narrow = record { application = application_app name ts; few = subst (λ xs. length xs < 2 ^ 32) (sym (arguments_of_app name ts)) few };
      over = record { application = application_app name ts; predicate = ordinary_app name ts ordinary; names = t.names };
    }

-- a name of this nature with so many arguments
is_ordinary_name : {m : _} (name : List ℕ) (parts : Row_of-Expression m) → nature_of_name name parts ≡ Atom → is_ordinary (of_arity name (row_length parts)) ≡ true
unfolding of_arity
is_ordinary_name name end_of-Expression e = by (bytes_eq name (codes "true")) e
  where
    by : (b : Bool) → (let n : Nature = cond b True Atom in n) ≡ Atom → not (b && nat_eq 0 0) ≡ true
    by true e = absurd (cc)
    by false e = refl
is_ordinary_name name (more_of-Expression part parts) e = by (bytes_eq name (codes "true")) (nat_eq (suc (row_length parts)) 0) (grind (arith, nat_tests))
  where
    by : (b c : Bool) → c ≡ false → not (b && c) ≡ true
    by true true e = cc
    by true false e = refl
    by false c e = refl

mutual
  unfolding term_from nature IsFormed

  pub is_atom : (count begin : ℕ) (e : Expression) (m : Meaning) → IsKnown count m → IsFormed count e → nature e ≡ Atom → After count m IsAtom (term_from begin e m)
  is_atom count begin (Number place value) m known f e = absurd (cc)
  is_atom count begin (Variable place n) m known f e = absurd (cc)
  is_atom count begin (Node' place (head.Application name) shape parts) m known f e =
      then_after count m (AreTerms (row_length parts)) IsAtom (terms parts m) (λ ts. pure (App name ts)) (are_terms count parts m known f.1) (λ ts k s t. (
        stays count k s.known,
        application_atom (length k.sorts) name ts (short_name name f.0.1) (let l = t.long in let few = f.0.0 in omega arith)
            (ap (λ n. is_ordinary (of_arity name n)) t.long ∙ is_ordinary_name name parts e) t.each,
      ))
  is_atom count begin (Node' place head.List shape parts) m known f e = absurd (cc)
  is_atom count begin (Node' place head.OpenList shape parts) m known f e = absurd (cc)
  is_atom count begin (Node' place head.Brackets shape parts) m known f e = only_is_atom count begin parts m known f.1 e
  is_atom count begin (Node' place head.Plus shape parts) m known f e = absurd (cc)
  is_atom count begin (Node' place head.Minus shape parts) m known f e = absurd (cc)
  is_atom count begin (Node' place (head.Chain operators) shape parts) m known f e = absurd (cc)

  only_is_atom : {k : _} (count begin : ℕ) (parts : Row_of-Expression k) (m : Meaning) → IsKnown count m → AreFormed count parts → only_nature parts ≡ Atom → After count m IsAtom (only_term begin parts m)
  only_is_atom count begin end_of-Expression m known f e = absurd (cc)
  only_is_atom count begin (more_of-Expression part parts) m known f e = is_atom count begin part m known f.0 e
