-- The first of the positions from a place on.
use Rattle.std.proofs.Common.{◌≡◌, ℕ, ◌+◌, ◌<◌, List, [], ◌∷◌, ◌++◌, length, drop, take, get_or, Bool, true, false, ◌||◌, Some, refl, ap, ◌∙◌, sym, add-one, if◌then◌else◌}
use Rattle.std.specs.Prelude.{nat_eq}
use Rattle.std.proofs.Math.Seq.{drop-cons, take-suc}
use Rattle.fold_model.specs.Positions.{in_range, first_outside, is_in, first_again}

pub outside_from : (count : ℕ) (ps : List ℕ) (i d : ℕ) → i < length ps → first_outside count (drop i ps) ≡ (if in_range count (get_or ps i d) then first_outside count (drop (i + 1) ps) else Some (get_or ps i d))
outside_from count ps i d within =
    ap (first_outside count) (drop-cons ps i d within)
    ∙ ap (λ (k : ℕ). if in_range count (get_or ps i d) then first_outside count (drop k ps) else Some (get_or ps i d)) (sym (add-one i))

pub in_from : (ns : List ℕ) (n i d : ℕ) → i < length ns → is_in (drop i ns) n ≡ (nat_eq (get_or ns i d) n || is_in (drop (i + 1) ns) n)
in_from ns n i d within =
    ap (λ ms. is_in ms n) (drop-cons ns i d within)
    ∙ ap (λ (k : ℕ). nat_eq (get_or ns i d) n || is_in (drop k ns) n) (sym (add-one i))

-- the order of those before doesn't count
again_same : (xs ys ps : List ℕ) → ((k : ℕ) → is_in xs k ≡ is_in ys k) → first_again xs ps ≡ first_again ys ps
again_same xs ys [] h = refl
again_same xs ys (p ∷ ps) h =
    let a = h p in
    let b = again_same (p ∷ xs) (p ∷ ys) ps (λ k. ap (λ c. nat_eq p k || c) (h k)) in
    cc

put_last : (xs : List ℕ) (p k : ℕ) → is_in (p ∷ xs) k ≡ is_in (xs ++ p ∷ []) k
put_last [] p k = refl
put_last (x ∷ xs) p k = swap (nat_eq p k) (nat_eq x k) (is_in xs k) ∙ ap (λ c. nat_eq x k || c) (put_last xs p k)
  where
    swap : (a b c : Bool) → (a || (b || c)) ≡ (b || (a || c))
    swap true true c = refl
    swap true false c = refl
    swap false b c = refl

pub again_from : (ps : List ℕ) (i d : ℕ) → i < length ps
    → first_again (take i ps) (drop i ps) ≡ (if is_in (take i ps) (get_or ps i d) then Some (get_or ps i d) else first_again (take i ps ++ get_or ps i d ∷ []) (drop (i + 1) ps))
again_from ps i d within =
    let p = get_or ps i d in
    ap (first_again (take i ps)) (drop-cons ps i d within)
    ∙ (ap (λ (k : ℕ). if is_in (take i ps) p then Some p else first_again (p ∷ take i ps) (drop k ps)) (sym (add-one i))
    ∙ ap (λ o. if is_in (take i ps) p then Some p else o) (again_same (p ∷ take i ps) (take i ps ++ p ∷ []) (drop (i + 1) ps) (put_last (take i ps) p)))

take_more : (ps : List ℕ) (i d : ℕ) → i < length ps → take (i + 1) ps ≡ take i ps ++ get_or ps i d ∷ []
take_more ps i d within = ap (λ k. take k ps) (add-one i) ∙ take-suc ps i d within

-- the one at place i isn't given before
pub again_next : (ps : List ℕ) (i d : ℕ) → i < length ps → is_in (take i ps) (get_or ps i d) ≡ false
    → first_again (take (i + 1) ps) (drop (i + 1) ps) ≡ first_again (take i ps) (drop i ps)
again_next ps i d within new =
    ap (λ xs. first_again xs (drop (i + 1) ps)) (take_more ps i d within)
    ∙ sym (again_from ps i d within ∙ ap (λ (b : Bool). if b then Some (get_or ps i d) else first_again (take i ps ++ get_or ps i d ∷ []) (drop (i + 1) ps)) new)
