-- The variables of a printed clause get the places of their names.
use Rattle.std.proofs.Common.{◌≡◌, ℕ, suc, ◌+◌, ◌-◌, ◌<◌, ◌≤◌, ◌^◌, Bool, true, false, List, [], ◌∷◌, ◌++◌, length, drop, refl, ap, ◌∙◌, sym, arith, cond, Ok, Some, None, append_assoc, append-nil}
use Rattle.std.proofs.lemmas.Bool.Decides.{nat_tests}
use Rattle.std.proofs.lemmas.Fmt.{decimal_injective}
use Rattle.std.proofs.lemmas.List.{length-map}
use Rattle.std.proofs.lemmas.Slice.Eq.{bytes_eq-Decides}
use Rattle.std.specs.List.{position_or_len, list_any}
use Rattle.std.specs.Prelude.{not, nat_lt, nat_eq, ◌||◌}
use Rattle.std.specs.Str.{bytes_eq}
use Rattle.token_model.specs.Remaining.{Remaining}
use Rattle.clp_model.specs.Canonical.{place_in}
use Rattle.clp_model.specs.Predicates.{with_element}
use Rattle.clp_grammar.specs.Names.{fresh, known_or_new, numbered}
use Rattle.print_model.specs.Terms.{variable_text}
use Rattle.parsing_laws.specs.Places.{known, met, at, AreSmall, IsNext, Placed}

pub met-append : (ms xs ys : List ℕ) → met ms (xs ++ ys) ≡ met (met ms xs) ys
met-append ms [] ys = refl
met-append ms (x ∷ xs) ys = met-append (with_element nat_eq ms x) xs ys

pub placed_parts : (place : ℕ → ℕ) (ms xs ys : List ℕ) → Placed place ms (xs ++ ys) → Placed place ms xs × Placed place (met ms xs) ys
placed_parts place ms [] ys h = (tt, h)
placed_parts place ms (x ∷ xs) ys h = let r = placed_parts place (with_element nat_eq ms x) xs ys h.1 in ((h.0, r.0), r.1)

-- ---- by their names

same_name : (m n : ℕ) → m < 2 ^ 64 → n < 2 ^ 64 → bytes_eq (variable_text n) (variable_text m) ≡ nat_eq m n
same_name m n hm hn = go (bytes_eq (variable_text n) (variable_text m)) refl (nat_eq m n) refl
  where
    go : (t : Bool) → bytes_eq (variable_text n) (variable_text m) ≡ t → (u : Bool) → nat_eq m n ≡ u → t ≡ u
    go true e true f = refl
    go true e false f =
        let all = (bytes_eq-Decides (variable_text n) (variable_text m)).0 e in
        let same : n ≡ m = decimal_injective n m hn hm (ap (drop 1) all) in
        absurd (grind (arith, nat_tests))
    go false e true f =
        let same : n ≡ m = grind (arith, nat_tests) in
        let own = (bytes_eq-Decides (variable_text n) (variable_text m)).1 (ap variable_text same) in
        cc
    go false e false f = refl

place_known : (n : ℕ) (ms : List ℕ) → n < 2 ^ 64 → AreSmall ms → suc (position_or_len (bytes_eq (variable_text n)) (known ms)) ≡ place_in ms n
place_known n [] hn h = refl
place_known n (m ∷ ms) hn h = go (bytes_eq (variable_text n) (variable_text m)) (nat_eq m n) (same_name m n h.0 hn) (place_known n ms hn h.1)
  where
    go : (t u : Bool) → t ≡ u → suc (position_or_len (bytes_eq (variable_text n)) (known ms)) ≡ place_in ms n
        → suc (cond (not t) (1 + position_or_len (bytes_eq (variable_text n)) (known ms)) 0) ≡ cond u 1 (suc (place_in ms n))
    go true true e ih = refl
    go false false e ih = omega (arith, ih)
    go true false e ih = cc
    go false true e ih = cc

pub place_found : (n : ℕ) (ms : List ℕ) → list_any (λ m. nat_eq m n) ms ≡ true → place_in ms n ≤ length ms
place_found n [] h = cc
place_found n (m ∷ ms) h = go (nat_eq m n) h (place_found n ms)
  where
    go : (t : Bool) → (t || list_any (λ m. nat_eq m n) ms) ≡ true → (list_any (λ m. nat_eq m n) ms ≡ true → place_in ms n ≤ length ms) → cond t 1 (suc (place_in ms n)) ≤ suc (length ms)
    go true h ih = omega arith
    go false h ih = omega (arith, ih h)

pub place_new : (n : ℕ) (ms : List ℕ) → list_any (λ m. nat_eq m n) ms ≡ false → place_in ms n ≡ suc (length ms)
place_new n [] h = refl
place_new n (m ∷ ms) h = go (nat_eq m n) h (place_new n ms)
  where
    go : (t : Bool) → (t || list_any (λ m. nat_eq m n) ms) ≡ false → (list_any (λ m. nat_eq m n) ms ≡ false → place_in ms n ≡ suc (length ms)) → cond t 1 (suc (place_in ms n)) ≡ suc (suc (length ms))
    go true h ih = cc
    go false h ih = ap suc (ih h)

known-append : (ms : List ℕ) (n : ℕ) → known (ms ++ n ∷ []) ≡ known ms ++ variable_text n ∷ []
known-append [] n = refl
known-append (m ∷ ms) n = ap (λ z. variable_text m ∷ z) (known-append ms n)

place_some : (place len m : ℕ) → place ≡ m → m < len → cond (nat_lt place len) (Some place) None ≡ Some m
place_some place len m e h = let t : nat_lt place len ≡ true = grind (arith, nat_tests) in rw t (ap Some e)

place_none : (place len : ℕ) → len ≤ place → cond (nat_lt place len) (Some place) None ≡ None
place_none place len h = let t : nat_lt place len ≡ false = grind (arith, nat_tests) in rw t refl

-- a printed variable that comes next gets its place
pub numbered_is : (place : ℕ → ℕ) (ms : List ℕ) (n : ℕ) (r : Remaining) → IsNext place ms n → numbered (variable_text n) (at r (known ms)) ≡ Ok (place n, at r (known (with_element nat_eq ms n)))
unfolding numbered fresh
numbered_is place ms n r h = go (list_any (λ m. nat_eq m n) ms) refl
  where
    found : ℕ
    found = position_or_len (bytes_eq (variable_text n)) (known ms)

    here : suc (position_or_len (bytes_eq (variable_text n)) (known ms)) ≡ place_in ms n
    here = place_known n ms h.small h.others

    count : length (known ms) ≡ length ms
    count = length-map ms variable_text

    go : (t : Bool) → list_any (λ m. nat_eq m n) ms ≡ t → numbered (variable_text n) (at r (known ms)) ≡ Ok (place n, at r (known (cond t ms (ms ++ n ∷ []))))
    go true e =
        let b = place_found n ms e in
        ap (λ o. known_or_new (variable_text n) o (at r (known ms))) (place_some found (length (known ms)) (place n - 1) (omega (arith, here, h.is)) (omega (arith, here, h.is, b, count)))
        ∙ ap (λ m. Ok (m, at r (known ms))) (let f : place n - 1 + 1 ≡ place n = omega (arith, here, h.is) in f)
    go false e =
        let b = place_new n ms e in
        ap (λ o. known_or_new (variable_text n) o (at r (known ms))) (place_none found (length (known ms)) (omega (arith, here, b, count)))
        ∙ (ap (λ m. Ok (m, at r (known ms ++ variable_text n ∷ []))) (let f : length (known ms) + 1 ≡ place n = omega (arith, h.is, b, count) in f)
        ∙ ap (λ z. Ok (place n, at r z)) (sym (known-append ms n)))

-- ---- by the names that are met in all

place_front : (n : ℕ) (ms more : List ℕ) → list_any (λ m. nat_eq m n) ms ≡ true → place_in (ms ++ more) n ≡ place_in ms n
place_front n [] more h = cc
place_front n (m ∷ ms) more h = go (nat_eq m n) h (place_front n ms more)
  where
    go : (t : Bool) → (t || list_any (λ m. nat_eq m n) ms) ≡ true → (list_any (λ m. nat_eq m n) ms ≡ true → place_in (ms ++ more) n ≡ place_in ms n)
        → cond t 1 (suc (place_in (ms ++ more) n)) ≡ cond t 1 (suc (place_in ms n))
    go true h ih = refl
    go false h ih = ap suc (ih h)

place_last : (n : ℕ) (ms more : List ℕ) → list_any (λ m. nat_eq m n) ms ≡ false → place_in ((ms ++ n ∷ []) ++ more) n ≡ place_in ms n
place_last n [] more h = let t : nat_eq n n ≡ true = grind (arith, nat_tests) in rw t refl
place_last n (m ∷ ms) more h = go (nat_eq m n) h (place_last n ms more)
  where
    go : (t : Bool) → (t || list_any (λ m. nat_eq m n) ms) ≡ false → (list_any (λ m. nat_eq m n) ms ≡ false → place_in ((ms ++ n ∷ []) ++ more) n ≡ place_in ms n)
        → cond t 1 (suc (place_in ((ms ++ n ∷ []) ++ more) n)) ≡ cond t 1 (suc (place_in ms n))
    go true h ih = cc
    go false h ih = ap suc (ih h)

-- these and further ones
abbrev Begins : List ℕ → List ℕ → Type 0
Begins ms all = (more : List ℕ) × (all ≡ ms ++ more)

begins_with : (ms : List ℕ) (n : ℕ) (all : List ℕ) → Begins (with_element nat_eq ms n) all → place_in all n ≡ place_in ms n
begins_with ms n all h = go (list_any (λ m. nat_eq m n) ms) refl h
  where
    go : (t : Bool) → list_any (λ m. nat_eq m n) ms ≡ t → Begins (cond t ms (ms ++ n ∷ [])) all → place_in all n ≡ place_in ms n
    go true e b = ap (λ z. place_in z n) b.1 ∙ place_front n ms b.0 e
    go false e b = ap (λ z. place_in z n) b.1 ∙ place_last n ms b.0 e

met_begins : (ms ns : List ℕ) → Begins ms (met ms ns)
met_begins ms [] = ([], sym (append-nil ms))
met_begins ms (n ∷ ns) = go (list_any (λ m. nat_eq m n) ms) (met_begins (with_element nat_eq ms n) ns)
  where
    go : (t : Bool) → Begins (cond t ms (ms ++ n ∷ [])) (met (cond t ms (ms ++ n ∷ [])) ns) → Begins ms (met (cond t ms (ms ++ n ∷ [])) ns)
    go true b = b
    go false b = (n ∷ b.0, b.1 ∙ append_assoc ms (n ∷ []) b.0)

small_more : (ms : List ℕ) (n : ℕ) → AreSmall ms → n < 2 ^ 64 → AreSmall (ms ++ n ∷ [])
small_more [] n h s = (s, tt)
small_more (m ∷ ms) n h s = (h.0, small_more ms n h.1 s)

small_with : (ms : List ℕ) (n : ℕ) → AreSmall ms → n < 2 ^ 64 → AreSmall (with_element nat_eq ms n)
small_with ms n h s = go (list_any (λ m. nat_eq m n) ms)
  where
    go : (t : Bool) → AreSmall (cond t ms (ms ++ n ∷ []))
    go true = h
    go false = small_more ms n h s

-- each is told by its place among all that are met
pub placed_by_all : (ms ns all : List ℕ) → AreSmall ms → AreSmall ns → all ≡ met ms ns → Placed (place_in all) ms ns
placed_by_all ms [] all h s e = tt
placed_by_all ms (n ∷ ns) all h s e =
    let more = with_element nat_eq ms n in
    let b = met_begins more ns in
    (record { small = s.0; others = h; is = begins_with ms n all (b.0, e ∙ b.1) }, placed_by_all more ns all (small_with ms n h s.0) s.1 e)
