-- The row of a relation, side by side.
use Rattle.std.proofs.Common.{◌≡◌, ℕ, Result, Ok, Err, refl, ap, sym, subst, ◌∙◌}
use Rattle.clp_model.specs.Clauses.{Row}
use Rattle.token_model.specs.declared.fault.Fault.{Fault}
use Rattle.token_model.specs.declared.fault.ReadError.{ReadError}
use Rattle.token_model.specs.declared.fault.ReadError.TheVariants as error
use Rattle.token_model.specs.Parsers.{Gives}
use Rattle.form_model.specs.Forms.{Form}
use Rattle.form_model.specs.declared.fault.FormFault.{FormFault}
use Rattle.clp_grammar.specs.declared.expression.Expression.{Expression}
use Rattle.clp_grammar.specs.declared.draft.Comparison.{Comparison}
use Rattle.clp_grammar.specs.Evaluation.{linear, placed, row_by, row_of, with_value}

-- the fault of a value is the fault of what goes on with it
pub gives_fault : {A B : Type 0} (r : Result A Fault) (f : A → Result B Fault) (e : ReadError) → Gives r (Err e) → Gives (with_value r f) (Err e)
gives_fault r f (error.Fault g) is = ap (λ o. with_value o f) is
gives_fault r f error.NoMemory is = tt

-- with the second side and the relation to come
rest_of : (ℕ → ℕ) → Comparison → Form → Result Row Fault
rest_of number_of c f = with_value (linear number_of c.second) (λ g. placed c.left (row_by c.relation f g))

row_is : (number_of : ℕ → ℕ) (c : Comparison) → row_of number_of c ≡ with_value (linear number_of c.first) (rest_of number_of c)
unfolding row_of rest_of
row_is number_of c = refl

after_first : (number_of : ℕ → ℕ) (c : Comparison) (f : Form) → linear number_of c.first ≡ Ok f → row_of number_of c ≡ rest_of number_of c f
after_first number_of c f first = row_is number_of c ∙ ap (λ r. with_value r (rest_of number_of c)) first

pub gives_row : (number_of : ℕ → ℕ) (c : Comparison) (f g : Form) (r : Result Row ReadError) → linear number_of c.first ≡ Ok f → linear number_of c.second ≡ Ok g →
    Gives (placed c.left (row_by c.relation f g)) r → Gives (row_of number_of c) r
unfolding rest_of
gives_row number_of c f g r first second h = subst (λ o. Gives o r)
    (sym (after_first number_of c f first ∙ ap (λ r. with_value r (λ k. placed c.left (row_by c.relation f k))) second)) h

pub first_fails : (number_of : ℕ → ℕ) (c : Comparison) (e : ReadError) → Gives (linear number_of c.first) (Err e) → Gives (row_of number_of c) (Err e)
first_fails number_of c e fails = subst (λ o. Gives o (Err e)) (sym (row_is number_of c)) (gives_fault (linear number_of c.first) (rest_of number_of c) e fails)

pub second_fails : (number_of : ℕ → ℕ) (c : Comparison) (f : Form) (e : ReadError) → linear number_of c.first ≡ Ok f → Gives (linear number_of c.second) (Err e) → Gives (row_of number_of c) (Err e)
unfolding rest_of
second_fails number_of c f e first fails = subst (λ o. Gives o (Err e)) (sym (after_first number_of c f first))
    (gives_fault (linear number_of c.second) (λ g. placed c.left (row_by c.relation f g)) e fails)

-- a value that is found, and its row
pub gives_value : (begin : ℕ) (number_of : ℕ → ℕ) (e : Expression) (f : Form) (row : Form → Result Row FormFault) (r : Result Row ReadError) → linear number_of e ≡ Ok f →
    Gives (placed begin (row f)) r → Gives (with_value (linear number_of e) (λ g. placed begin (row g))) r
gives_value begin number_of e f row r is h = subst (λ o. Gives o r) (sym (ap (λ o. with_value o (λ g. placed begin (row g))) is)) h
