-- What is live after an entry goes and others come, and what stays of the loaded entries.
use Rattle.std.proofs.Common.{◌≡◌, ℕ, zero, suc, List, [], ◌∷◌, ◌++◌, map, refl, ◌∙◌, ap, subst, ◌⊎◌, inl, inr, Bool, true, false}
use Rattle.std.specs.Prelude.{Option, Some, None, slice_index_or, if◌then◌else◌}
use Rattle.clp_model.proofs.Membership.{Among, first, next}
use Rattle.map_model.specs.State.{Entry, entries_where, is_live, is_loaded}
use Rattle.map_model.specs.Rewriting.{changed_at, dead_entry}

abbrev pub live : List (Option Entry) → List Entry
live es = entries_where is_live es

-- an entry put first, where the test says so
abbrev put : Bool → Entry → List Entry → List Entry
put b e xs = if b then e ∷ xs else xs

onward : (x : Entry) (A : Type 0) (b : Bool) (e : Entry) (xs ys : List Entry) → (Among x xs → A ⊎ Among x ys) → Among x (put b e xs) → A ⊎ Among x (put b e ys)
onward x A true e xs ys f first = inr first
onward x A true e xs ys f (next m) = elim (f m) [ inl a ↦ inl a | inr n ↦ inr (next n) ]
onward x A false e xs ys f m = f m

back : (x : Entry) (b : Bool) (e : Entry) (xs ys : List Entry) → (Among x xs → Among x ys) → Among x (put b e xs) → Among x (put b e ys)
back x true e xs ys f first = first
back x true e xs ys f (next m) = next (f m)
back x false e xs ys f m = f m

behind : (x : Entry) (b : Bool) (e : Entry) (xs : List Entry) → Among x xs → Among x (put b e xs)
behind x true e xs m = next m
behind x false e xs m = m

pub some_same : {e f : Entry} → ◌≡◌ {A = Option Entry} (Some e) (Some f) → e ≡ f
some_same {e} h = let out : Option Entry → Entry = elim [ None ↦ e | Some x ↦ x ] in ap out h

pub not_some : {e : Entry} → ◌≡◌ {A = Option Entry} None (Some e) → ⊥
not_some h = absurd (cc)

head_goes : (x : Entry) (b : Bool) (e : Entry) (xs : List Entry) → Among x (put b e xs) → (x ≡ e) ⊎ Among x xs
head_goes x true e xs first = inl refl
head_goes x true e xs (next m) = inr m
head_goes x false e xs m = inr m

-- whatever was live is the entry that goes, or stays
pub still_live : (x e : Entry) (es : List (Option Entry)) (n : ℕ) → slice_index_or es n None ≡ Some e → Among x (live es) → (x ≡ e) ⊎ Among x (live (changed_at dead_entry es n))
still_live x e [] n h m = elim m [ ]
still_live x e (None ∷ es) zero h m = absurd (not_some h)
still_live x e (Some f ∷ es) zero h m = elim (head_goes x f.live f (live es) m) [ inl a ↦ inl (a ∙ some_same h) | inr n ↦ inr n ]
still_live x e (None ∷ es) (suc n) h m = still_live x e es n h m
still_live x e (Some f ∷ es) (suc n) h m = onward x (x ≡ e) f.live f (live es) (live (changed_at dead_entry es n)) (still_live x e es n h) m

-- whatever is still live was live
pub was_live : (x : Entry) (es : List (Option Entry)) (n : ℕ) → Among x (live (changed_at dead_entry es n)) → Among x (live es)
was_live x [] n m = m
was_live x (None ∷ es) zero m = m
was_live x (Some f ∷ es) zero m = behind x f.live f (live es) m
was_live x (None ∷ es) (suc n) m = was_live x es n m
was_live x (Some f ∷ es) (suc n) m = back x f.live f (live (changed_at dead_entry es n)) (live es) (was_live x es n) m

put_live : (e : Entry) (b : Bool) (xs : List Entry) → b ≡ true → Among e (put b e xs)
put_live e true xs h = first
put_live e false xs h = absurd (cc)

-- the live entry is among the live
pub goes_from : (e : Entry) (es : List (Option Entry)) (n : ℕ) → slice_index_or es n None ≡ Some e → e.live ≡ true → Among e (live es)
goes_from e [] n h l = absurd (not_some h)
goes_from e (None ∷ es) zero h l = absurd (not_some h)
goes_from e (Some f ∷ es) zero h l =
    subst (λ (g : Entry). Among g (put f.live f (live es))) (some_same h)
    (put_live f f.live (live es) (ap (λ (g : Entry). g.live) (some_same h) ∙ l))
goes_from e (None ∷ es) (suc n) h l = goes_from e es n h l
goes_from e (Some f ∷ es) (suc n) h l = behind e f.live f (live es) (goes_from e es n h l)

-- ---- entries one after another
put_more : (b : Bool) (e : Entry) (xs ys : List Entry) → put b e (xs ++ ys) ≡ put b e xs ++ ys
put_more true e xs ys = refl
put_more false e xs ys = refl

pub where_append : (test : Entry → Bool) (es fs : List (Option Entry)) → entries_where test (es ++ fs) ≡ entries_where test es ++ entries_where test fs
where_append test [] fs = refl
where_append test (None ∷ es) fs = where_append test es fs
where_append test (Some e ∷ es) fs = ap (put (test e) e) (where_append test es fs) ∙ put_more (test e) e (entries_where test es) (entries_where test fs)

pub where_all : (test : Entry → Bool) (es : List Entry) → ((e : Entry) → Among e es → test e ≡ true) → entries_where test (map Some es) ≡ es
where_all test [] h = refl
where_all test (e ∷ es) h =
    ap (λ b. put b e (entries_where test (map Some es))) (h e first) ∙ ap (λ xs. e ∷ xs) (where_all test es (λ f m. h f (next m)))

pub where_none : (test : Entry → Bool) (es : List Entry) → ((e : Entry) → Among e es → test e ≡ false) → entries_where test (map Some es) ≡ []
where_none test [] h = refl
where_none test (e ∷ es) h =
    ap (λ b. put b e (entries_where test (map Some es))) (h e first) ∙ where_none test es (λ f m. h f (next m))

-- ---- the loaded entries
-- what is told of an entry whether it is live or not
module _ {A : Type 0} (f : Entry → A) (told : (e : Entry) → f (record e { live = false }) ≡ f e) where
  put_told : (b : Bool) (e e' : Entry) (xs ys : List Entry) → f e ≡ f e' → map f xs ≡ map f ys → map f (put b e xs) ≡ map f (put b e' ys)
  put_told true e e' xs ys h k = ap (λ x. x ∷ map f xs) h ∙ ap (λ zs. f e' ∷ zs) k
  put_told false e e' xs ys h k = k

  pub loaded_stay : (es : List (Option Entry)) (n : ℕ) → map f (entries_where is_loaded (changed_at dead_entry es n)) ≡ map f (entries_where is_loaded es)
  loaded_stay [] n = refl
  loaded_stay (None ∷ es) zero = refl
  loaded_stay (Some e ∷ es) zero = put_told (is_loaded e) (record e { live = false }) e (entries_where is_loaded es) (entries_where is_loaded es) (told e) refl
  loaded_stay (None ∷ es) (suc n) = loaded_stay es n
  loaded_stay (Some e ∷ es) (suc n) = put_told (is_loaded e) e e (entries_where is_loaded (changed_at dead_entry es n)) (entries_where is_loaded es) refl (loaded_stay es n)
