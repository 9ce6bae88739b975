-- Keys that stand for predicates.
use Rattle.std.proofs.Common.{◌≡◌, ℕ, ◌+◌, ◌<◌, Bool, true, false, ◌&&◌, cond, nat_eq, List, [], ◌∷◌, ◌++◌, length, take, get_or, refl, ap, ◌∙◌, sym, eq-eqb}
use Rattle.std.specs.Prelude.{string_bytes}
use Rattle.std.specs.List.{list_any}
use Rattle.std.specs.Str.{bytes_eq}
use Rattle.std.specs.declared.string.String.{String}
use Rattle.std.proofs.lemmas.Bool.{eqb-true}
use Rattle.std.proofs.lemmas.Bool.Decides.{same_from_decides}
use Rattle.std.proofs.lemmas.List.{map-append, take_more}
use Rattle.std.proofs.lemmas.Slice.Eq.{bytes_eq-Decides}
use Rattle.indexmap.specs.IndexSet.{insert_key}
use Rattle.clp_model.specs.declared.predicate.Pred.{Pred}
use Rattle.clp_model.specs.Predicates.{same_predicate, with_element}
use Rattle.clause_loader.specs.Found.{predicate_at, predicates_at}

bytes_eq_sym : (xs ys : List ℕ) → bytes_eq xs ys ≡ bytes_eq ys xs
bytes_eq_sym xs ys =
    let d = bytes_eq-Decides ys xs in
    same_from_decides (bytes_eq xs ys) (bytes_eq ys xs) (bytes_eq-Decides xs ys) (λ h. sym (d.0 h), λ e. d.1 (sym e))

nat_eq_sym : (a b : ℕ) → nat_eq a b ≡ nat_eq b a
nat_eq_sym a b = same_from_decides (nat_eq a b) (nat_eq b a) (eqb-true a b, eq-eqb a b) (λ h. sym (eqb-true b a h), λ e. eq-eqb b a (sym e))

module _ {A : Type 0} where
  -- the same name and as many arguments
  abbrev pub same_key : String A × ℕ → String A × ℕ → Bool
  same_key k y = bytes_eq (string_bytes k.0) (string_bytes y.0) && nat_eq k.1 y.1

  any_noted : (ks : List (String A × ℕ)) (k : String A × ℕ) → list_any (same_key k) ks ≡ list_any (λ p. same_predicate p (predicate_at k)) (predicates_at ks)
  any_noted [] k = refl
  any_noted (y ∷ ks) k =
      let a = bytes_eq_sym (string_bytes k.0) (string_bytes y.0) in
      let b = nat_eq_sym k.1 y.1 in
      let rest = any_noted ks k in
      cc

  put_noted : (b : Bool) (ks : List (String A × ℕ)) (k : String A × ℕ) → predicates_at (cond b ks (ks ++ k ∷ [])) ≡ cond b (predicates_at ks) (predicates_at ks ++ predicate_at k ∷ [])
  put_noted true ks k = refl
  put_noted false ks k = map-append predicate_at ks (k ∷ [])

  -- a key that is inserted notes its predicate
  pub key_noted : (ks new : List (String A × ℕ)) (k : String A × ℕ) (found : List Pred) (name : List ℕ)
      → new ≡ insert_key same_key ks k → predicates_at ks ≡ found → string_bytes k.0 ≡ name
      → predicates_at new ≡ with_element same_predicate found (record { name = name; arity = k.1 })
  key_noted ks new k found name is view spelled =
      ap predicates_at is ∙ put_noted (list_any (same_key k) ks) ks k
      ∙ ap (λ b. cond b (predicates_at ks) (predicates_at ks ++ predicate_at k ∷ [])) (any_noted ks k)
      ∙ ap (λ ps. with_element same_predicate ps (predicate_at k)) view
      ∙ ap (λ n. with_element same_predicate found (record { name = n; arity = k.1 })) spelled

  -- one more predicate is listed
  pub key_listed : (ks : List (String A × ℕ)) (i : ℕ) (k : String A × ℕ) (preds more : List Pred) (name : List ℕ)
      → i < length ks → k ≡ get_or ks i k → name ≡ string_bytes k.0 → preds ≡ predicates_at (take i ks) → more ≡ preds ++ record { name = name; arity = k.1 } ∷ []
      → more ≡ predicates_at (take (i + 1) ks)
  key_listed ks i k preds more name within item spelled done is =
      is ∙ ap (λ ps. ps ++ record { name = name; arity = k.1 } ∷ []) done
      ∙ ap (λ n. predicates_at (take i ks) ++ record { name = n; arity = k.1 } ∷ []) spelled
      ∙ ap (λ y. predicates_at (take i ks) ++ predicate_at y ∷ []) item
      ∙ sym (map-append predicate_at (take i ks) (get_or ks i k ∷ []))
      ∙ ap predicates_at (sym (take_more ks i k within))
