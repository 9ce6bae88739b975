-- The value of an expression, case by case, and of a chain operand by operand.
use Rattle.std.proofs.Common.{◌≡◌, ℕ, ◌⊎◌, inl, inr, List, [], ◌∷◌, length, Result, Ok, Err, IfOk, refl, ap, subst, sym, ◌∙◌, arith}
use Rattle.token_model.specs.declared.fault.ReadError.{ReadError}
use Rattle.token_model.specs.Parsers.{Gives}
use Rattle.form_model.specs.Forms as form
use Rattle.form_model.specs.Forms.{Form}
use Rattle.form_model.specs.declared.fault.FormFault.{FormFault}
use Rattle.linear_form.specs.declared.error.FormError.{FormError}
use Rattle.linear_form.specs.declared.error.FormError.TheVariants as error
use Rattle.linear_form.specs.Faults.{fault}
use Rattle.clp_grammar.specs.declared.expression.Operator.{Operator}
use Rattle.clp_grammar.specs.declared.expression.Expression.{Expression, Number, Variable}
use Rattle.clp_grammar.specs.Evaluation.{linear, linear_rest_of, placed, operated, with_value}
use Rattle.clp_grammar.proofs.Parts.{linear_number, linear_variable}
use Rattle.clause_meaning.specs.Computes.{Computes}

-- a form that is made without a fault
pub made_computes : (r : Result Form FormError) (f : Form) → IfOk r (λ g. g ≡ f) → ((e : FormFault) → r ≡ Err (fault e) → ⊥) → Computes (Ok f) r
made_computes (Ok g) f same none = ap Ok (sym same)
made_computes (Err (error.Fault e)) f same none = absurd (none e refl)
made_computes (Err error.NoMemory) f same none = tt

pub gives_number : (number_of : ℕ → ℕ) (e : Expression) (place value : ℕ) (r : Result Form ReadError) → e ≡ Number place value → Gives (placed place (form.if_small_form (form.whole value))) r → Gives (linear number_of e) r
gives_number number_of e place value r is h = subst (λ o. Gives o r) (sym (ap (linear number_of) is ∙ linear_number number_of place value)) h

pub gives_variable : (number_of : ℕ → ℕ) (e : Expression) (place n v : ℕ) (r : Result Form ReadError) → e ≡ Variable place n → v ≡ number_of n → Gives (placed place (Ok (form.variable v))) r → Gives (linear number_of e) r
gives_variable number_of e place n v r is known h =
    subst (λ o. Gives o r) (ap (λ w. Ok (form.variable w)) known ∙ sym (ap (linear number_of) is ∙ linear_variable number_of place n)) h

-- ---- chains
-- the next operand, and its operator
pub chain_turn : (number_of : ℕ → ℕ) (os os' : List Operator) (ps ps' : List Expression) (o : Operator) (p : Expression) (f : Form) →
    os ≡ o ∷ os' → ps ≡ p ∷ ps' →
    linear_rest_of number_of os ps f ≡ with_value (linear number_of p) (λ g. with_value (operated o f g) (linear_rest_of number_of os' ps'))
chain_turn number_of os os' ps ps' o p f is_os is_ps = ap (λ xs. linear_rest_of number_of xs ps f) is_os ∙ ap (λ ys. linear_rest_of number_of (o ∷ os') ys f) is_ps

-- no operator is left, or no operand
pub chain_end : (number_of : ℕ → ℕ) (os : List Operator) (ps : List Expression) (f : Form) → (length os ≡ 0) ⊎ (length ps ≡ 0) → linear_rest_of number_of os ps f ≡ Ok f
chain_end number_of [] [] f end = refl
chain_end number_of (o ∷ os) [] f end = refl
chain_end number_of [] (p ∷ ps) f end = refl
chain_end number_of (o ∷ os) (p ∷ ps) f (inl none) = absurd (omega (arith, none))
chain_end number_of (o ∷ os) (p ∷ ps) f (inr none) = absurd (omega (arith, none))
