-- What holds of each number of items that are gone through one by one.
use Rattle.std.proofs.Common.{◌≡◌, ℕ, ◌+◌, ◌<◌, ◌≤◌, List, [], ◌∷◌, ◌++◌, length, take, get_or, map, All, refl, ap, ◌∙◌, sym, subst, inl, inr}
use Rattle.std.proofs.lemmas.List.{append_assoc, append-nil, map-append, take_more, take_all}
use Rattle.std.proofs.Math.IntN.{ℤ}
use Rattle.clp_model.specs.declared.tree.Tree.{Tree}
use Rattle.clp_model.specs.Trees.{variables, variables_in}
use Rattle.clp_model.specs.Clauses.{Row}
use Rattle.clp_model.proofs.Membership.{among_either}
use Rattle.clause_model.specs.Variables.{row_variables, rows_variables}
use Rattle.clause_laws.proofs.Rows.{all_each, each_all}
use Rattle.clause_laws.proofs.Distinct.{only_one}
use Rattle.clause_loader.specs.WellFormed.{side_variables}

pub all_either : {A : Type 0} (P : A → Type 0) (xs ys : List A) → All P xs → All P ys → All P (xs ++ ys)
all_either P xs ys h k = each_all P (xs ++ ys) (λ x a. elim (among_either x xs ys a) [ inl b ↦ all_each P xs h x b | inr b ↦ all_each P ys k x b ])

module _ {A X : Type 0} (f : X → List A) (g : List X → List A) (none : g [] ≡ []) (some : (x : X) (xs : List X) → g (x ∷ xs) ≡ f x ++ g xs) where
  of_push : (xs : List X) (x : X) → g (xs ++ x ∷ []) ≡ g xs ++ f x
  of_push [] x = some x [] ∙ (ap (λ ys. f x ++ ys) none ∙ (append-nil (f x) ∙ ap (λ ys. ys ++ f x) (sym none)))
  of_push (y ∷ xs) x =
      some y (xs ++ x ∷ []) ∙ (ap (λ ys. f y ++ ys) (of_push xs x)
      ∙ (sym (append_assoc (f y) (g xs) (f x)) ∙ ap (λ ys. ys ++ f x) (sym (some y xs))))

  of_more : (P : A → Type 0) (xs : List X) (i : ℕ) (x : X) → i < length xs → x ≡ get_or xs i x → All P (g (take i xs)) → All P (f x) → All P (g (take (i + 1) xs))
  of_more P xs i x within item h k =
      let Q : List A → Type 0 = All P in
      let e : g (take (i + 1) xs) ≡ g (take i xs) ++ f x = ap g (take_more xs i x within ∙ ap (λ y. take i xs ++ y ∷ []) (sym item)) ∙ of_push (take i xs) x in
      subst Q (sym e) (all_either P (g (take i xs)) (f x) h k)

pub variables_more : (P : ℕ → Type 0) (ts : List (Tree ℕ)) (i : ℕ) (t : Tree ℕ) → i < length ts → t ≡ get_or ts i t → All P (variables_in (take i ts)) → All P (variables t) → All P (variables_in (take (i + 1) ts))
variables_more P ts i t within item h k = of_more variables variables_in refl (λ u us. refl) P ts i t within item h k

pub rows_more : (P : ℕ → Type 0) (rs : List Row) (i : ℕ) (r : Row) → i < length rs → r ≡ get_or rs i r → All P (rows_variables (take i rs)) → All P (row_variables r) → All P (rows_variables (take (i + 1) rs))
rows_more P rs i r within item h k = of_more row_variables rows_variables refl (λ u us. refl) P rs i r within item h k

abbrev sides : Tree ℕ × Tree ℕ → List ℕ
sides e = variables e.0 ++ variables e.1

pub sides_more : (P : ℕ → Type 0) (es : List (Tree ℕ × Tree ℕ)) (i : ℕ) (e : Tree ℕ × Tree ℕ) → i < length es → e ≡ get_or es i e → All P (side_variables (take i es))
    → All P (variables e.0) → All P (variables e.1) → All P (side_variables (take (i + 1) es))
sides_more P es i e within item h k l =
    of_more sides side_variables refl (λ x xs. sym (append_assoc (variables x.0) (variables x.1) (side_variables xs))) P es i e within item h (all_either P (variables e.0) (variables e.1) k l)

pub pairs_more : (P : ℕ → Type 0) (ps : List (ℕ × ℤ)) (i : ℕ) (d : ℕ × ℤ) → i < length ps → All P (map (λ p. p.0) (take i ps)) → P (get_or ps i d).0 → All P (map (λ p. p.0) (take (i + 1) ps))
pairs_more P ps i d within h k =
    let Q : List ℕ → Type 0 = All P in
    let n : ℕ = (get_or ps i d).0 in
    let e : map (λ (p : ℕ × ℤ). p.0) (take (i + 1) ps) ≡ map (λ (p : ℕ × ℤ). p.0) (take i ps) ++ n ∷ [] = ap (map (λ (p : ℕ × ℤ). p.0)) (take_more ps i d within) ∙ map-append (λ (p : ℕ × ℤ). p.0) (take i ps) (get_or ps i d ∷ []) in
    subst Q (sym e) (all_either P (map (λ (p : ℕ × ℤ). p.0) (take i ps)) (n ∷ []) h (each_all P (n ∷ []) (λ m a. subst P (sym (only_one m n a)) k)))

-- at the end of a loop
pub taken : {A X : Type 0} (g : List X → List A) (P : A → Type 0) (xs : List X) (i : ℕ) → length xs ≤ i → All P (g (take i xs)) → All P (g xs)
taken {A} {X} g P xs i end h = let Q : List X → Type 0 = λ ys. All P (g ys) in subst Q (take_all i xs end) h
