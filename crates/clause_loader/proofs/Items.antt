-- What holds of each element, at the element of a loop's turn.
use Rattle.std.proofs.Common.{◌≡◌, ℕ, suc, ◌+◌, ◌<◌, ◌≤◌, List, ◌∷◌, length, take, drop, get_or, ap, ◌∙◌, sym, subst, add-one}
use Rattle.std.specs.Prelude.{All}
use Rattle.std.proofs.Math.Seq.{drop-cons}
use Rattle.std.proofs.lemmas.List.{take_all}
use Rattle.std.proofs.lemmas.List.Elements.{All-tail, All-more}

module _ {X : Type 0} where
  pub drop_more : (xs : List X) (i : ℕ) (x : X) → i < length xs → x ≡ get_or xs i x → drop i xs ≡ x ∷ drop (i + 1) xs
  drop_more xs i x within item =
      drop-cons xs i x within ∙ ap (λ y. y ∷ drop (suc i) xs) (sym item) ∙ ap (λ n. x ∷ drop n xs) (sym (add-one i))

  pub each_item : (P : X → Type 0) (xs : List X) (i : ℕ) (x : X) → All P xs → i < length xs → x ≡ get_or xs i x → P x
  each_item P xs i x all within item = subst P (sym item) (all i x within)

  pub later_item : (P : X → Type 0) (first : X) (xs ys : List X) (i : ℕ) (x : X) → All P (first ∷ xs) → ys ≡ xs → i < length ys → x ≡ get_or ys i x → P x
  later_item P first xs ys i x all is within item =
      let Q : List X → Type 0 = All P in
      each_item P ys i x (subst Q (sym is) (All-tail P first xs all)) within item

  pub all_more : (P : X → Type 0) (xs : List X) (i : ℕ) (x : X) → i < length xs → x ≡ get_or xs i x → All P (take i xs) → P x → All P (take (i + 1) xs)
  all_more P xs i x within item all one = All-more P xs i x within all (subst P item one)

  pub all_taken : (P : X → Type 0) (xs : List X) (i : ℕ) → length xs ≤ i → All P (take i xs) → All P xs
  all_taken P xs i end all =
      let Q : List X → Type 0 = All P in
      subst Q (take_all i xs end) all
