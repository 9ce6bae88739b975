-- The terms of a list of expressions, one after another.
use Rattle.std.proofs.Common.{◌≡◌, ℕ, ◌+◌, ◌<◌, ◌≤◌, List, [], ◌∷◌, ◌++◌, length, drop, get_or, Ok, Err, refl, ap, sym, subst, ◌∙◌}
use Rattle.std.proofs.lemmas.List.{append_assoc, append-nil, at_drop_more, at_drop_all}
use Rattle.clp_model.specs.declared.tree.Tree.{Tree}
use Rattle.token_model.specs.declared.fault.ReadError.{ReadError}
use Rattle.token_model.specs.declared.fault.ReadError.TheVariants as error
use Rattle.token_model.specs.Parsers.{Outcome, Parser, and_then, pure, Fails}
use Rattle.clp_grammar.specs.declared.expression.Expression.{Expression}
use Rattle.clp_grammar.specs.Terms.{Meaning, term, terms_of}

-- what a parser goes on with fails where it fails
pub fails_then : {S A B : Type 0} (r : Outcome S A) (f : A → Parser S B) (e : ReadError) → Fails r e → Fails (and_then r f) e
fails_then r f (error.Fault g) is = ap (λ o. and_then o f) is
fails_then r f error.NoMemory is = tt

-- the terms of these expressions behind those that were found
abbrev pub terms_after : List (Tree ℕ) → List Expression → Parser Meaning (List (Tree ℕ))
terms_after found parts m = and_then (terms_of parts m) (λ ts. pure (found ++ ts))

pub terms_begin : {found : List (Tree ℕ)} (parts : List Expression) (m : Meaning) → found ≡ [] → terms_of parts m ≡ terms_after found parts m
terms_begin parts m none = same (terms_of parts m) ∙ ap (λ ts. terms_after ts parts m) (sym none)
  where
    same : (r : Outcome Meaning (List (Tree ℕ))) → r ≡ and_then r (λ ts. pure ([] ++ ts))
    same (Ok p) = refl
    same (Err e) = refl

pub terms_end : (found : List (Tree ℕ)) (m : Meaning) → terms_after found [] m ≡ Ok (found, m)
terms_end found m = ap (λ ts. Ok (ts, m)) (append-nil found)

regroup : (found : List (Tree ℕ)) (t : Tree ℕ) (r : Outcome Meaning (List (Tree ℕ))) →
    and_then (and_then r (λ ts. pure (t ∷ ts))) (λ ts. pure (found ++ ts)) ≡ and_then r (λ ts. pure ((found ++ t ∷ []) ++ ts))
regroup found t (Ok p) = ap (λ ts. Ok (ts, p.1)) (sym (append_assoc found (t ∷ []) p.0))
regroup found t (Err e) = refl

-- one more term
terms_step : (found : List (Tree ℕ)) (t : Tree ℕ) (part : Expression) (parts : List Expression) (m n : Meaning) → term part m ≡ Ok (t, n) →
    terms_after found (part ∷ parts) m ≡ terms_after (found ++ t ∷ []) parts n
terms_step found t part parts m n is =
    ap (λ r. and_then (and_then r (λ u. λ s. and_then (terms_of parts s) (λ ts. pure (u ∷ ts)))) (λ ts. pure (found ++ ts))) is
    ∙ regroup found t (terms_of parts n)

pub terms_turn : {x : Outcome Meaning (List (Tree ℕ))} (found found' : List (Tree ℕ)) (t : Tree ℕ) (parts : List Expression) (i : ℕ) (part : Expression) (m n : Meaning) →
    i < length parts → part ≡ get_or parts i part → x ≡ terms_after found (drop i parts) m → term part m ≡ Ok (t, n) → found' ≡ found ++ t ∷ [] →
    x ≡ terms_after found' (drop (i + 1) parts) n
terms_turn found found' t parts i part m n within at before is more =
    before ∙ at_drop_more (λ ps. terms_after found ps m) parts i part within
    ∙ ap (λ p. terms_after found (p ∷ drop (i + 1) parts) m) (sym at)
    ∙ terms_step found t part (drop (i + 1) parts) m n is
    ∙ ap (λ ts. terms_after ts (drop (i + 1) parts) n) (sym more)

pub terms_done : {x : Outcome Meaning (List (Tree ℕ))} (found : List (Tree ℕ)) (parts : List Expression) (i : ℕ) (m : Meaning) →
    length parts ≤ i → x ≡ terms_after found (drop i parts) m → x ≡ Ok (found, m)
terms_done found parts i m end before = before ∙ at_drop_all (λ ps. terms_after found ps m) parts i end ∙ terms_end found m

pub terms_fail : {x : Outcome Meaning (List (Tree ℕ))} (found : List (Tree ℕ)) (parts : List Expression) (i : ℕ) (part : Expression) (m : Meaning) (e : ReadError) →
    i < length parts → part ≡ get_or parts i part → x ≡ terms_after found (drop i parts) m → Fails (term part m) e → Fails x e
terms_fail found parts i part m e within at before fails =
    subst (λ o. Fails o e)
    (sym (before ∙ at_drop_more (λ ps. terms_after found ps m) parts i part within ∙ ap (λ p. terms_after found (p ∷ drop (i + 1) parts) m) (sym at)))
    (fails_then (terms_of (part ∷ drop (i + 1) parts) m) (λ ts. pure (found ++ ts)) e
    (fails_then (term part m) (λ u. λ s. and_then (terms_of (drop (i + 1) parts) s) (λ ts. pure (u ∷ ts))) e fails))
