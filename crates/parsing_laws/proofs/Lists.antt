-- Printed pieces with commas between are parsed one after another.
use Rattle.std.proofs.Common.{◌≡◌, ℕ, zero, suc, ◌+◌, ◌-◌, ◌<◌, ◌≤◌, Bool, false, List, [], ◌∷◌, ◌++◌, length, refl, ap, ◌∙◌, sym, subst, arith, append_assoc, append-nil, length-append, Ok}
use Rattle.std.specs.Prelude.{if◌then◌else◌}
use Rattle.token_model.specs.declared.token.Lexeme.TheVariants as l
use Rattle.token_model.specs.White.{skipped}
use Rattle.token_model.specs.Remaining.{Remaining, ahead, lexeme, left, same_lexeme}
use Rattle.token_model.specs.Parsers.{Outcome, Parser, and_then, ◌>>=◌, pure}
use Rattle.printed_tokens.proofs.Marks.{comma_is}
use Rattle.clp_grammar.specs.Input.{Input, eat, separated_from, separated}
use Rattle.print_model.specs.Joined.{joined}
use Rattle.standing_model.specs.Pieces.{Piece, texts_of, placed}
use Rattle.parsing_laws.specs.Places.{at, known, met, Placed}
use Rattle.parsing_laws.proofs.Places.{met-append, placed_parts}
use Rattle.parsing_laws.specs.Behind.{behind, closes, Stops}
use Rattle.parsing_laws.proofs.States.{eats, leaves, stops_comma}

-- a piece is parsed as what it stands for, wherever it comes next and nothing goes on with it; it has these variables
pub record IsItem {A : Type 0} (item : Parser Input A) (place : ℕ → ℕ) (p : Piece A) (ns : List ℕ) : Type 0 where
  pub stays : (z : List ℕ) → skipped (p.text ++ z) ≡ p.text ++ z
  pub long : 0 < length p.text
  pub is : (ms : List ℕ) (r : Remaining) (z : List ℕ) → Placed place ms ns → ahead r ≡ p.text ++ z → Stops closes z
      → (after_number : Bool) × (item (at r (known ms)) ≡ Ok (p.value (length z), at (behind z after_number) (known (met ms ns))))

abbrev pub AreItems : {A : Type 0} → Parser Input A → (ℕ → ℕ) → List (Piece A) → List ℕ → Type 0
AreItems item place [] ns = ns ≡ []
AreItems item place (p ∷ ps) ns = (xs : List ℕ) × (ys : List ℕ) × IsItem item place p xs × AreItems item place ps ys × (ns ≡ xs ++ ys)

-- after an item
abbrev after_item : {A : Type 0} → Parser Input A → ℕ → List A → Parser Input (List A)
after_item item n found = do
  goes_on ← eat l.Comma
  if goes_on then separated_from item n found else pure found

-- what closes a list is no comma
pub record Closes (z : List ℕ) : Type 0 where
  pub stops : Stops closes z
  pub no_comma : (after_number : Bool) → same_lexeme (lexeme (behind z after_number)) l.Comma ≡ false

-- a comma and white
module _ {A : Type 0} (item : Parser Input A) (place : ℕ → ℕ) (w : List ℕ) (white : (z : List ℕ) → skipped (w ++ z) ≡ skipped z) where
  abbrev further : List (Piece A) → List ℕ
  further ps = joined (44 ∷ w) (44 ∷ w) (texts_of ps)

  pub stops_further : (ps : List (Piece A)) (z : List ℕ) → Stops closes z → Stops closes (further ps ++ z)
  stops_further [] z h = h
  stops_further (p ∷ ps) z h = stops_comma ((w ++ (p.text ++ further ps)) ++ z)

  regrouped : (p : Piece A) (ps : List (Piece A)) (z : List ℕ) → further (p ∷ ps) ++ z ≡ 44 ∷ (w ++ (p.text ++ (further ps ++ z)))
  regrouped p ps z = ap (λ (y : List ℕ). 44 ∷ y) (append_assoc w (p.text ++ further ps) z ∙ ap (λ (y : List ℕ). w ++ y) (append_assoc p.text (further ps) z))

  pub further_len : (ps : List (Piece A)) → length ps ≤ length (further ps)
  further_len [] = omega arith
  further_len (p ∷ ps) = omega (arith, further_len ps, length-append w (p.text ++ further ps), length-append p.text (further ps))

  -- what an item adds, by what is done behind it
  one_more : (p : Piece A) (ps : List (Piece A)) (xs ys ms : List ℕ) (n : ℕ) (found : List A) (a : Bool) (z : List ℕ) → IsItem item place p xs → Placed place ms xs → Stops closes z
      → ((b : Bool) → (last : Bool) × (after_item item n (found ++ p.value (length (further ps ++ z)) ∷ []) (at (behind (further ps ++ z) b) (known (met ms xs)))
      ≡ Ok ((found ++ p.value (length (further ps ++ z)) ∷ []) ++ placed (44 ∷ w) ps (length z), at (behind z last) (known (met (met ms xs) ys)))))
      → (last : Bool) × (after_item item (suc n) found (at (behind (further (p ∷ ps) ++ z) a) (known ms)) ≡ Ok (found ++ placed (44 ∷ w) (p ∷ ps) (length z), at (behind z last) (known (met (met ms xs) ys))))
  unfolding separated_from ahead skipped
  one_more p ps xs ys ms n found a z is numbers stops again = (rest.0, steps)
    where
      r : Remaining
      r = behind (w ++ (p.text ++ (further ps ++ z))) false

      first : (b : Bool) × (item (at (behind (w ++ (p.text ++ (further ps ++ z))) false) (known ms)) ≡ Ok (p.value (length (further ps ++ z)), at (behind (further ps ++ z) b) (known (met ms xs))))
      first = is.is ms r (further ps ++ z) numbers (white (p.text ++ (further ps ++ z)) ∙ is.stays (further ps ++ z)) (stops_further ps z stops)

      rest : (last : Bool) × (after_item item n (found ++ p.value (length (further ps ++ z)) ∷ []) (at (behind (further ps ++ z) first.0) (known (met ms xs)))
          ≡ Ok ((found ++ p.value (length (further ps ++ z)) ∷ []) ++ placed (44 ∷ w) ps (length z), at (behind z last) (known (met (met ms xs) ys))))
      rest = again first.0

      after_comma : Remaining
      after_comma = behind (44 ∷ (w ++ (p.text ++ (further ps ++ z)))) a

      steps : after_item item (suc n) found (at (behind (further (p ∷ ps) ++ z) a) (known ms)) ≡ Ok (found ++ placed (44 ∷ w) (p ∷ ps) (length z), at (behind z rest.0) (known (met (met ms xs) ys)))
      steps =
          ap (λ (y : List ℕ). after_item item (suc n) found (at (behind y a) (known ms))) (regrouped p ps z)
          ∙ ap (λ (o : Outcome Input Bool). and_then o (λ goes_on. if goes_on then separated_from item (suc n) found else pure found))
          (eats after_comma l.Comma (44 ∷ []) r.text (known ms) (comma_is after_comma r.text refl))
          ∙ ap (λ (o : Outcome Input A). and_then o (λ x. after_item item n (found ++ x ∷ []))) first.1
          ∙ rest.1
          ∙ ap (λ (v : List A). Ok (v, at (behind z rest.0) (known (met (met ms xs) ys)))) (append_assoc found (p.value (length (further ps ++ z)) ∷ []) (placed (44 ∷ w) ps (length z)))
          ∙ ap (λ (k : ℕ). Ok (found ++ p.value k ∷ placed (44 ∷ w) ps (length z), at (behind z rest.0) (known (met (met ms xs) ys)))) (length-append (further ps) z)

  further_items : (ps : List (Piece A)) (ns ms : List ℕ) (n : ℕ) (found : List A) (a : Bool) (z : List ℕ) → AreItems item place ps ns → Placed place ms ns → Closes z → length ps ≤ n
      → (last : Bool) × (after_item item n found (at (behind (further ps ++ z) a) (known ms)) ≡ Ok (found ++ placed (44 ∷ w) ps (length z), at (behind z last) (known (met ms ns))))
  further_items [] ns ms n found a z are numbers close turns = (a, done)
    where
      done : after_item item n found (at (behind z a) (known ms)) ≡ Ok (found ++ [], at (behind z a) (known (met ms ns)))
      done =
          ap (λ (o : Outcome Input Bool). and_then o (λ goes_on. if goes_on then separated_from item n found else pure found)) (leaves (behind z a) l.Comma (known ms) (close.no_comma a))
          ∙ ap (λ (v : List A). Ok (v, at (behind z a) (known ms))) (sym (append-nil found))
          ∙ ap (λ (v : List ℕ). Ok (found ++ [], at (behind z a) (known (met ms v)))) (sym are)
  further_items (p ∷ ps) ns ms zero found a z are numbers close turns = absurd (omega arith)
  further_items (p ∷ ps) ns ms (suc n) found a z are numbers close turns =
      let parts = placed_parts place ms are.0 are.1 (subst (Placed place ms) are.4 numbers) in
      let few : length ps ≤ n = omega arith in
      let done = one_more p ps are.0 are.1 ms n found a z are.2 parts.0 close.stops
      (λ b. further_items ps are.1 (met ms are.0) n (found ++ p.value (length (further ps ++ z)) ∷ []) b z are.3 parts.1 close few) in (
        done.0,
        done.1
            ∙ ap (λ (v : List ℕ). Ok (found ++ placed (44 ∷ w) (p ∷ ps) (length z), at (behind z done.0) (known v))) (sym (met-append ms are.0 are.1) ∙ ap (met ms) (sym are.4)),
      )

  -- one or more
  pub all_items : (p : Piece A) (ps : List (Piece A)) (ns ms : List ℕ) (r : Remaining) (z : List ℕ) → AreItems item place (p ∷ ps) ns → Placed place ms ns → Closes z → ahead r ≡ p.text ++ (further ps ++ z)
      → (last : Bool) × (separated item (at r (known ms)) ≡ Ok (placed (44 ∷ w) (p ∷ ps) (length z), at (behind z last) (known (met ms ns))))
  unfolding separated separated_from left
  all_items p ps ns ms r z are numbers close front = (rest.0, steps)
    where
      tail : List ℕ
      tail = further ps ++ z

      parts : Placed place ms are.0 × Placed place (met ms are.0) are.1
      parts = placed_parts place ms are.0 are.1 (subst (Placed place ms) are.4 numbers)

      first : (b : Bool) × (item (at r (known ms)) ≡ Ok (p.value (length (further ps ++ z)), at (behind (further ps ++ z) b) (known (met ms are.0))))
      first = are.2.is ms r tail parts.0 front (stops_further ps z close.stops)

      value : A
      value = p.value (length (further ps ++ z))

      n : ℕ
      n = length (ahead r) - 1

      size : length (ahead r) ≡ length p.text + (length (further ps) + length z)
      size = ap length front ∙ length-append p.text tail ∙ ap (λ (k : ℕ). length p.text + k) (length-append (further ps) z)

      turns : length (ahead r) ≡ suc (length (ahead r) - 1)
      turns = omega (arith, size, are.2.long)

      enough : length ps ≤ length (ahead r) - 1
      enough = omega (arith, size, are.2.long, further_len ps)

      rest : (last : Bool) × (after_item item (length (ahead r) - 1) (p.value (length (further ps ++ z)) ∷ []) (at (behind (further ps ++ z) first.0) (known (met ms are.0))) ≡ Ok ((p.value (length (further ps ++ z)) ∷ []) ++ placed (44 ∷ w) ps (length z), at (behind z last) (known (met (met ms are.0) are.1))))
      rest = further_items ps are.1 (met ms are.0) n (value ∷ []) first.0 z are.3 parts.1 close enough

      steps : separated item (at r (known ms)) ≡ Ok (placed (44 ∷ w) (p ∷ ps) (length z), at (behind z rest.0) (known (met ms ns)))
      steps =
          ap (λ (k : ℕ). separated_from item k [] (at r (known ms))) turns
          ∙ ap (λ (o : Outcome Input A). and_then o (λ x. after_item item n (x ∷ []))) first.1
          ∙ rest.1
          ∙ ap (λ (k : ℕ). Ok (p.value k ∷ placed (44 ∷ w) ps (length z), at (behind z rest.0) (known (met (met ms are.0) are.1)))) (length-append (further ps) z)
          ∙ ap (λ (v : List ℕ). Ok (placed (44 ∷ w) (p ∷ ps) (length z), at (behind z rest.0) (known v))) (sym (met-append ms are.0 are.1) ∙ ap (met ms) (sym are.4))
