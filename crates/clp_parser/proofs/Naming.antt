-- Names are found at their places.
use Rattle.std.proofs.Common.{◌≡◌, ℕ, ◌+◌, ◌<◌, ◌≤◌, Bool, true, false, cond, nat_lt, List, [], ◌∷◌, ◌++◌, length, take, drop, position, Option, None, Some, refl, ap, ◌∙◌, sym, subst, arith, add-zero, take-append-drop}
use Rattle.std.specs.Prelude.{string_bytes}
use Rattle.std.specs.List.{position_from, position_or_len}
use Rattle.std.specs.Map.{lookup}
use Rattle.std.specs.Option.{option_or, IfSome}
use Rattle.std.specs.HashMap.{HashMap}
use Rattle.std.specs.String.{string_eq}
use Rattle.std.specs.Str.{bytes_eq}
use Rattle.std.specs.declared.string.String.{String}
use Rattle.std.proofs.lemmas.Iterator.Adapters.{position_from-zero}
use Rattle.std.proofs.lemmas.List.{map-append, length-take-le, length-drop, drop-append-le}
use Rattle.std.proofs.lemmas.Bool.{ltb-true, ltb-false, le-ltb}
use Rattle.std.proofs.lemmas.Option.{none-some}
use Rattle.std.proofs.lemmas.Grind.{common_steps}
use Rattle.indexmap.specs.IndexMap.{get, insert_entry}
use Rattle.indexmap.proofs.CallerLemmas.{insert_entry-new}
use Rattle.std.proofs.Math.ListN.{drop_of_length-le}
use Rattle.clp_parser.specs.Names.{few, placed, spelled}

-- looking for a key by its bytes
pub lookup_spelled : {A : Type 0} (word : List ℕ) (es : List (String A × ℕ)) → lookup (λ k. bytes_eq word (string_bytes k)) es ≡ lookup (bytes_eq word) (spelled es)
lookup_spelled word [] = refl
lookup_spelled word (e ∷ es) = ap (cond (bytes_eq word (string_bytes e.0)) (Some e.1)) (lookup_spelled word es)

-- a name that is not empty is found at its place
pub lookup_placed : (b : ℕ) (bs : List ℕ) (n : ℕ) (names : List (List ℕ)) → lookup (bytes_eq (b ∷ bs)) (placed n names) ≡ position_from (bytes_eq (b ∷ bs)) n names
lookup_placed b bs n [] = refl
lookup_placed b bs n ([] ∷ names) = lookup_placed b bs (n + 1) names
lookup_placed b bs n ((c ∷ cs) ∷ names) = ap (cond (bytes_eq (b ∷ bs) (c ∷ cs)) (Some n)) (lookup_placed b bs (n + 1) names)

-- the first place in two lists, one after the other
pub position_append : {X : Type 0} (p : X → Bool) (n : ℕ) (xs ys : List X) → position_from p n (xs ++ ys) ≡ option_or (position_from p n xs) (position_from p (n + length xs) ys)
position_append p n [] ys = ap (λ k. position_from p k ys) (sym (add-zero n))
position_append p n (x ∷ xs) ys =
    let moved : (n + 1) + length xs ≡ n + length (x ∷ xs) = omega arith in
    by (p x) (position_append p (n + 1) xs ys ∙ ap (λ k. option_or (position_from p (n + 1) xs) (position_from p k ys)) moved)
  where
    by : (b : Bool) → position_from p (n + 1) (xs ++ ys) ≡ option_or (position_from p (n + 1) xs) (position_from p (n + length (x ∷ xs)) ys) → cond b (Some n) (position_from p (n + 1) (xs ++ ys)) ≡ option_or (cond b (Some n) (position_from p (n + 1) xs)) (position_from p (n + length (x ∷ xs)) ys)
    by true rest = refl
    by false rest = rest

-- one more name
pub placed_push : (n : ℕ) (names : List (List ℕ)) (b : ℕ) (bs : List ℕ) → placed n (names ++ (b ∷ bs) ∷ []) ≡ placed n names ++ (b ∷ bs, n + length names) ∷ []
placed_push n [] b bs = ap (λ k. (b ∷ bs, k) ∷ []) (sym (add-zero n))
placed_push n ([] ∷ names) b bs =
    let moved : (n + 1) + length names ≡ n + length ([] ∷ names) = omega arith in
    placed_push (n + 1) names b bs ∙ ap (λ k. placed (n + 1) names ++ (b ∷ bs, k) ∷ []) moved
placed_push n ((c ∷ cs) ∷ names) b bs =
    let moved : (n + 1) + length names ≡ n + length ((c ∷ cs) ∷ names) = omega arith in
    ap (λ v. (c ∷ cs, n) ∷ v) (placed_push (n + 1) names b bs ∙ ap (λ k. placed (n + 1) names ++ (b ∷ bs, k) ∷ []) moved)

pub placed_push_empty : (n : ℕ) (names : List (List ℕ)) → placed n (names ++ [] ∷ []) ≡ placed n names
placed_push_empty n [] = refl
placed_push_empty n ([] ∷ names) = placed_push_empty (n + 1) names
placed_push_empty n ((c ∷ cs) ∷ names) = ap (λ v. (c ∷ cs, n) ∷ v) (placed_push_empty (n + 1) names)

-- where nothing is found from one place on, nothing is from another
none_from : {X : Type 0} (p : X → Bool) (n m : ℕ) (xs : List X) → position_from p n xs ≡ None → position_from p m xs ≡ None
none_from p n m [] h = refl
none_from p n m (x ∷ xs) h = by (p x) h (none_from p (n + 1) (m + 1) xs)
  where
    by : (b : Bool) → cond b (Some n) (position_from p (n + 1) xs) ≡ None → (position_from p (n + 1) xs ≡ None → position_from p (m + 1) xs ≡ None)
        → cond b (Some m) (position_from p (m + 1) xs) ≡ None
    by true e rest = absurd (none-some n (sym e))
    by false e rest = rest e

none_second : {X : Type 0} (a b : Option X) → option_or a b ≡ None → b ≡ None
none_second None b h = h
none_second (Some x) b h = absurd (none-some x (sym h))

-- the first place of a name among the first few and then the others
position_parts : (p : List ℕ → Bool) (names : List (List ℕ)) → position p names ≡ option_or (position_from p 0 (take few names)) (position_from p (0 + length (take few names)) (drop few names))
position_parts p names =
    position_from-zero p names ∙ ap (position_from p 0) (sym (take-append-drop few names)) ∙ position_append p 0 (take few names) (drop few names)

-- a name that is not among the first few is found among the others
pub found_later : (word : List ℕ) (names : List (List ℕ)) → 0 < length word → few ≤ length names → position (bytes_eq word) (take few names) ≡ None
    → lookup (bytes_eq word) (placed few (drop few names)) ≡ position (bytes_eq word) names
found_later [] names named many none = absurd (omega (arith, named))
found_later (b ∷ bs) names named many none =
    let p : List ℕ → Bool = bytes_eq (b ∷ bs) in
    let here : 0 + length (take few names) ≡ few = omega (arith, length-take-le few names many) in
    let first : position_from p 0 (take few names) ≡ None = sym (position_from-zero p (take few names)) ∙ none in
    lookup_placed b bs few (drop few names)
    ∙ ap (λ n. position_from p n (drop few names)) (sym here)
    ∙ ap (λ a. option_or a (position_from p (0 + length (take few names)) (drop few names))) (sym first)
    ∙ sym (position_parts p names)

-- a name that is new is not found among the others
pub new_later : (word : List ℕ) (names : List (List ℕ)) → 0 < length word → position (bytes_eq word) names ≡ None → lookup (bytes_eq word) (placed few (drop few names)) ≡ None
new_later [] names named none = absurd (omega (arith, named))
new_later (b ∷ bs) names named none =
    let p : List ℕ → Bool = bytes_eq (b ∷ bs) in
    lookup_placed b bs few (drop few names)
    ∙ none_from p (0 + length (take few names)) few (drop few names)
    (none_second (position_from p 0 (take few names)) _ (sym (position_parts p names) ∙ none))

-- the place of a name is one of the list
pub position_within : {X : Type 0} (p : X → Bool) (xs : List X) (r : Option ℕ) → r ≡ position p xs → IfSome r (λ at. at < length xs)
position_within p xs r is = let P : Option ℕ → Type 0 = λ o. IfSome o (λ at. at < length xs) in subst P (sym is) (by (nat_lt (position_or_len p xs) (length xs)) refl)
  where
    by : (b : Bool) → nat_lt (position_or_len p xs) (length xs) ≡ b → IfSome (cond b (Some (position_or_len p xs)) None) (λ at. at < length xs)
    by true e = ltb-true (position_or_len p xs) (length xs) e
    by false e = tt

length_snoc : {X : Type 0} (xs : List X) (x : X) → length (xs ++ x ∷ []) ≡ length xs + 1
length_snoc xs x = grind (arith, common_steps)

-- the first few names have no others behind
pub drop_few : (names : List (List ℕ)) (word : List ℕ) → length names < few → drop few (names ++ word ∷ []) ≡ drop few names
drop_few names word h =
    drop_of_length-le (names ++ word ∷ []) {i = few} (omega (arith, h, length_snoc names word)) ∙ sym (drop_of_length-le names {i = few} (omega (arith, h)))

drop_many : (names : List (List ℕ)) (word : List ℕ) → few ≤ length names → drop few (names ++ word ∷ []) ≡ drop few names ++ word ∷ []
drop_many names word h = drop-append-le few names (word ∷ []) h

-- an unnamed variable is none that is looked for
pub unnamed_later : (names : List (List ℕ)) → placed few (drop few (names ++ [] ∷ [])) ≡ placed few (drop few names)
unnamed_later names = by (nat_lt (length names) few) refl
  where
    by : (b : Bool) → nat_lt (length names) few ≡ b → placed few (drop few (names ++ [] ∷ [])) ≡ placed few (drop few names)
    by true e = ap (placed few) (drop_few names [] (ltb-true (length names) few e))
    by false e = ap (placed few) (drop_many names [] (ltb-false (length names) few e)) ∙ placed_push_empty few (drop few names)

-- a new name goes last, unless it is among the first few
pub named_later : (names : List (List ℕ)) (word : List ℕ) (old new : List (List ℕ × ℕ)) → 0 < length word → old ≡ placed few (drop few names)
    → new ≡ cond (nat_lt (length names) few) old (old ++ (word, length names) ∷ []) → new ≡ placed few (drop few (names ++ word ∷ []))
named_later names [] old new named is put = absurd (omega (arith, named))
named_later names (b ∷ bs) old new named is put = put ∙ by (nat_lt (length names) few) refl
  where
    by : (c : Bool) → nat_lt (length names) few ≡ c → cond c old (old ++ (b ∷ bs, length names) ∷ []) ≡ placed few (drop few (names ++ (b ∷ bs) ∷ []))
    by true e = is ∙ ap (placed few) (sym (drop_few names (b ∷ bs) (ltb-true (length names) few e)))
    by false e =
        let many : few ≤ length names = ltb-false (length names) few e in
        let here : length names ≡ few + length (drop few names) = omega (arith, length-drop few names, many) in
        ap (λ v. v ++ (b ∷ bs, length names) ∷ []) is
        ∙ ap (λ n. placed few (drop few names) ++ (b ∷ bs, n) ∷ []) here
        ∙ sym (placed_push few (drop few names) b bs)
        ∙ ap (placed few) (sym (drop_many names (b ∷ bs) many))

-- the entries of a map into which a new name is put
pub spelled_push : {A S : Type 0} (m : HashMap (String A) ℕ S) (key : String A) (word : List ℕ) (place : ℕ) (new : List (String A × ℕ))
    → string_bytes key ≡ word → lookup (bytes_eq word) (spelled m.entries) ≡ None → new ≡ insert_entry string_eq m.entries key place → few ≤ place
    → spelled new ≡ cond (nat_lt place few) (spelled m.entries) (spelled m.entries ++ (word, place) ∷ [])
spelled_push m key word place new bytes absent is many =
    let none : get string_eq m key ≡ None = lookup_spelled (string_bytes key) m.entries ∙ ap (λ w. lookup (bytes_eq w) (spelled m.entries)) bytes ∙ absent in
    ap spelled (is ∙ insert_entry-new string_eq m key place none)
    ∙ map-append (λ e. (string_bytes e.0, e.1)) m.entries ((key, place) ∷ [])
    ∙ ap (λ w. spelled m.entries ++ (w, place) ∷ []) bytes
    ∙ ap (λ c. cond c (spelled m.entries) (spelled m.entries ++ (word, place) ∷ [])) (sym (le-ltb place few many))
