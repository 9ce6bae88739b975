-- The goals of a clause.
use Rattle.std.proofs.Common.{◌≡◌, ℕ, ◌<◌, List, [], ◌∷◌, ◌++◌, map, length, codes, refl, ap, arith}
use Rattle.print_model.specs.Joined.{joined}
use Rattle.print_model.specs.Clauses.{braces}

pub no_constraint : {A B : Type 0} (f : A → List ℕ) (g : B → List ℕ) (xs : List A) (ys : List B) (rest : List (List ℕ)) → length xs ≡ 0 → length ys ≡ 0 → braces (map f xs ++ map g ys) ++ rest ≡ rest
no_constraint f g [] [] rest p q = refl
no_constraint f g [] (y ∷ ys) rest p q = absurd (omega arith)
no_constraint f g (x ∷ xs) ys rest p q = absurd (omega arith)

full_braces : (xs : List (List ℕ)) → 0 < length xs → braces xs ≡ (joined (codes "{") (codes ", ") xs ++ codes "}") ∷ []
full_braces [] h = absurd (omega arith)
full_braces (x ∷ xs) h = refl

length_constraints : {A B : Type 0} (f : A → List ℕ) (g : B → List ℕ) (xs : List A) (ys : List B) → (length xs ≡ 0 → length ys ≡ 0 → ⊥) → 0 < length (map f xs ++ map g ys)
length_constraints f g [] [] h = absurd (h refl refl)
length_constraints f g [] (y ∷ ys) h = omega arith
length_constraints f g (x ∷ xs) ys h = omega arith

pub some_constraint : {A B : Type 0} (f : A → List ℕ) (g : B → List ℕ) (xs : List A) (ys : List B) (rest : List (List ℕ)) → (length xs ≡ 0 → length ys ≡ 0 → ⊥)
    → joined (codes " :- ") (codes ", ") (braces (map f xs ++ map g ys) ++ rest) ≡ codes " :- " ++ ((joined (codes "{") (codes ", ") (map f xs ++ map g ys) ++ codes "}") ++ joined (codes ", ") (codes ", ") rest)
some_constraint f g xs ys rest h =
    ap (λ v. joined (codes " :- ") (codes ", ") (v ++ rest)) (full_braces (map f xs ++ map g ys) (length_constraints f g xs ys h))
