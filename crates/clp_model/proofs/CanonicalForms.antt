-- The canonical form of a clause is canonical, and within the limits where the clause is.
use Rattle.std.proofs.Common.{◌≡◌, ℕ, ◌≤◌, List, [], ◌∷◌, ◌++◌, length, refl, sym, ◌∙◌, ap, subst, map, arith, Bool, true, false, eq-eqb, ◌⊎◌, inl, inr}
use Rattle.std.specs.Prelude.{slice_index_or, nat_eq, nat_lt, if◌then◌else◌, ◌||◌, Option, Some, None, Result, Ok, Err}
use Rattle.std.specs.List.{list_any}
use Rattle.std.proofs.lemmas.Bool.{eqb-true, ltb-false, le-ltb}
use Rattle.std.proofs.lemmas.List.{length-map, map-append}
use Rattle.clp_model.specs.declared.sort.Sort.TheVariants.{Any}
use Rattle.clp_model.specs.declared.limit.Limit.{Limit}
use Rattle.clp_model.specs.declared.limit.Limit.TheVariants.{Shape, Atoms, Variables, Rows}
use Rattle.clp_model.specs.Trees.{mapped, mapped_all, variables, variables_in}
use Rattle.clp_model.specs.Clauses.{Clause, sort_in}
use Rattle.clp_model.specs.Predicates.{with_element, distinct_after}
use Rattle.clp_model.specs.Canonical.{clause_size, clause_depth, variables_met, place_in, canonical_form, limit_past, unless_past, new_clause, IsCanonical}
use Rattle.clp_model.proofs.Membership.{Among, first, next, among_front, among_back, among_either, distinct_has, at_place, at_own_place}
use Rattle.clp_model.proofs.RenamedTrees.{all_variables_mapped, mapped_twice, all_mapped_twice, total_size_mapped, greatest_depth_mapped, length_mapped}

only : (k x : ℕ) → Among k (x ∷ []) → k ≡ x
only k x first = refl
only k x (next a) = elim a [ ]

-- the place of a number in a list tells the number
place_injective : (met : List ℕ) (m n : ℕ) → Among m met → Among n met → place_in met m ≡ place_in met n → m ≡ n
place_injective met m n am an e =
    sym (at_own_place met m am) ∙ ap (λ p. slice_index_or (0 ∷ met) p 0) e ∙ at_own_place met n an

module _ (f : ℕ → ℕ) (met : List ℕ) (injective : (m n : ℕ) → Among m met → Among n met → f m ≡ f n → m ≡ n) where
  same_test : (m n : ℕ) → Among m met → Among n met → nat_eq (f m) (f n) ≡ nat_eq m n
  same_test m n am an = by (nat_eq m n) refl (nat_eq (f m) (f n)) refl
    where
      by : (b : Bool) → nat_eq m n ≡ b → (c : Bool) → nat_eq (f m) (f n) ≡ c → c ≡ b
      by true e true h = refl
      by false e false h = refl
      by true e false h = let k = eq-eqb (f m) (f n) (ap f (eqb-true m n e)) in cc
      by false e true h = let k = eq-eqb m n (injective m n am an (eqb-true (f m) (f n) h)) in cc

  place_mapped : (ns : List ℕ) → ((k : ℕ) → Among k ns → Among k met) → (n : ℕ) → Among n met → place_in (map f ns) (f n) ≡ place_in ns n
  place_mapped [] inside n an = refl
  place_mapped (m ∷ ns) inside n an =
      let a = same_test m n (inside m first) an in
      let b = place_mapped ns (λ k among. inside k (next among)) n an in
      cc

  any_mapped : (ns : List ℕ) → ((k : ℕ) → Among k ns → Among k met) → (n : ℕ) → Among n met → list_any (λ y. nat_eq y (f n)) (map f ns) ≡ list_any (λ y. nat_eq y n) ns
  any_mapped [] inside n an = refl
  any_mapped (m ∷ ns) inside n an =
      let a = same_test m n (inside m first) an in
      let b = any_mapped ns (λ k among. inside k (next among)) n an in
      ap (λ t. t || list_any (λ y. nat_eq y (f n)) (map f ns)) a ∙ ap (λ t. nat_eq m n || t) b

  with_mapped : (found : List ℕ) → ((k : ℕ) → Among k found → Among k met) → (x : ℕ) → Among x met → with_element nat_eq (map f found) (f x) ≡ map f (with_element nat_eq found x)
  with_mapped found inside x ax = by (list_any (λ y. nat_eq y x) found) (any_mapped found inside x ax)
    where
      by : (b : Bool) → list_any (λ y. nat_eq y (f x)) (map f found) ≡ b
          → (if list_any (λ y. nat_eq y (f x)) (map f found) then map f found else map f found ++ f x ∷ []) ≡ map f (if b then found else found ++ x ∷ [])
      by true e = ap (λ t. if t then map f found else map f found ++ f x ∷ []) e
      by false e = ap (λ t. if t then map f found else map f found ++ f x ∷ []) e ∙ sym (map-append f found (x ∷ []))

  with_inside : (found : List ℕ) → ((k : ℕ) → Among k found → Among k met) → (x : ℕ) → Among x met → (k : ℕ) → Among k (with_element nat_eq found x) → Among k met
  with_inside found inside x ax k = by (list_any (λ y. nat_eq y x) found)
    where
      last : (Among k found ⊎ Among k (x ∷ [])) → Among k met
      last (inl a) = inside k a
      last (inr a) = subst (λ j. Among j met) (sym (only k x a)) ax

      by : (b : Bool) → Among k (if b then found else found ++ x ∷ []) → Among k met
      by true a = inside k a
      by false a = last (among_either k found (x ∷ []) a)

  distinct_mapped : (found xs : List ℕ) → ((k : ℕ) → Among k found → Among k met) → ((k : ℕ) → Among k xs → Among k met) → distinct_after nat_eq (map f found) (map f xs) ≡ map f (distinct_after nat_eq found xs)
  distinct_mapped found [] inside more = refl
  distinct_mapped found (x ∷ xs) inside more =
      ap (λ ys. distinct_after nat_eq ys (map f xs)) (with_mapped found inside x (more x first))
      ∙ distinct_mapped (with_element nat_eq found x) xs (with_inside found inside x (more x first)) (λ k a. more k (next a))

-- ---- the canonical form of a canonical form
module _ (c : Clause) where
  abbrev seen : List ℕ
  seen = variables_in (c.head ∷ c.body)

  abbrev met : List ℕ
  met = distinct_after nat_eq [] seen

  abbrev f : ℕ → ℕ
  f = place_in met

  has : (n : ℕ) → Among n seen → Among n met
  has n a = distinct_has [] seen n a

  injective : (m n : ℕ) → Among m met → Among n met → f m ≡ f n → m ≡ n
  injective = place_injective met

  -- the variables of the canonical form
  met_again : distinct_after nat_eq [] (variables_in (mapped f c.head ∷ mapped_all f c.body)) ≡ map f met
  met_again =
      ap (distinct_after nat_eq []) (all_variables_mapped f (c.head ∷ c.body))
      ∙ distinct_mapped f met injective [] seen (λ k a. elim a [ ]) has

  place_again : (n : ℕ) → Among n seen → place_in (map f met) (f n) ≡ f n
  place_again n a = place_mapped f met injective met (λ k b. b) n (has n a)

  sorts_again : (ns : List ℕ) → ((k : ℕ) → Among k ns → Among k met) → map (sort_in (map (sort_in c.sorts) met)) (map f ns) ≡ map (sort_in c.sorts) ns
  sorts_again [] inside = refl
  sorts_again (n ∷ ns) inside =
      let a = at_place (sort_in c.sorts) met n Any Any (inside n first) in
      let b = sorts_again ns (λ k m. inside k (next m)) in
      cc

  pub canonical_again : canonical_form (canonical_form c) ≡ canonical_form c
  unfolding canonical_form variables_met
  canonical_again =
      let m = met_again in
      let heads : mapped (place_in (map f met)) (mapped f c.head) ≡ mapped f c.head =
      mapped_twice f (place_in (map f met)) f c.head (λ n a. place_again n (among_front n (variables c.head) (variables_in c.body) a)) in
      let bodies : mapped_all (place_in (map f met)) (mapped_all f c.body) ≡ mapped_all f c.body =
      all_mapped_twice f (place_in (map f met)) f c.body (λ n a. place_again n (among_back n (variables c.head) (variables_in c.body) a)) in
      let kinds : map (sort_in (map (sort_in c.sorts) met)) (map f met) ≡ map (sort_in c.sorts) met = sorts_again met (λ k a. a) in
      let form : List ℕ → Clause = λ ms. record {
        head = mapped (place_in ms) (mapped f c.head);
        equations = [];
        rows = [];
        body = mapped_all (place_in ms) (mapped_all f c.body);
        sorts = map (sort_in (map (sort_in c.sorts) met)) ms;
      } in
      ap form m ∙ cc

-- ---- limits

-- what is counted is at most its limit
pub record IsWithinLimits (c : Clause) : Type 0 where
  pub size : clause_size c ≤ 4096
  pub depth : clause_depth c ≤ 256
  pub atoms : length c.body ≤ 64
  pub variables : length (variables_met (c.head ∷ c.body)) ≤ 256
  pub rows : length c.rows ≤ 128

not_some : (l : Limit) → ◌≡◌ {A = Option Limit} (Some l) None → ⊥
not_some l e = cc

pub limits_of : (c : Clause) → limit_past c ≡ None → IsWithinLimits c
unfolding limit_past
limits_of c = by (nat_lt 4096 (clause_size c)) (nat_lt 256 (clause_depth c)) (nat_lt 64 (length c.body)) (nat_lt 256 (length (variables_met (c.head ∷ c.body)))) (nat_lt 128 (length c.rows)) refl refl refl refl refl
  where
    by : (s d a v r : Bool) → nat_lt 4096 (clause_size c) ≡ s → nat_lt 256 (clause_depth c) ≡ d → nat_lt 64 (length c.body) ≡ a → nat_lt 256 (length (variables_met (c.head ∷ c.body))) ≡ v → nat_lt 128 (length c.rows) ≡ r
        → (if s || d then Some Shape else (if a then Some Atoms else (if v then Some Variables else (if r then Some Rows else None)))) ≡ None → IsWithinLimits c
    by true d a v r hs hd ha hv hr e = absurd (not_some Shape e)
    by false true a v r hs hd ha hv hr e = absurd (not_some Shape e)
    by false false true v r hs hd ha hv hr e = absurd (not_some Atoms e)
    by false false false true r hs hd ha hv hr e = absurd (not_some Variables e)
    by false false false false true hs hd ha hv hr e = absurd (not_some Rows e)
    by false false false false false hs hd ha hv hr e = record { size = ltb-false _ _ hs; depth = ltb-false _ _ hd; atoms = ltb-false _ _ ha; variables = ltb-false _ _ hv; rows = ltb-false _ _ hr }

pub limits_hold : (c : Clause) → IsWithinLimits c → limit_past c ≡ None
unfolding limit_past
limits_hold c w =
    let s = le-ltb 4096 (clause_size c) w.size in
    let d = le-ltb 256 (clause_depth c) w.depth in
    let a = le-ltb 64 (length c.body) w.atoms in
    let v = le-ltb 256 (length (variables_met (c.head ∷ c.body))) w.variables in
    let r = le-ltb 128 (length c.rows) w.rows in
    rw (s, d, a, v, r) refl

pub limits_again : (c : Clause) → IsWithinLimits c → IsWithinLimits (canonical_form c)
unfolding canonical_form variables_met clause_size clause_depth
limits_again c w =
    let s = total_size_mapped (f c) (c.head ∷ c.body) in
    let d = greatest_depth_mapped (f c) (c.head ∷ c.body) in
    let b = length_mapped (f c) c.body in
    let m = ap length (met_again c) ∙ length-map (met c) (f c) in
    record {
      size = omega (arith, s, w.size);
      depth = rw d w.depth;
      atoms = rw b w.atoms;
      variables = rw m w.variables;
      rows = omega arith;
    }

err_is : (l : Limit) (d : Clause) → ◌≡◌ {A = Result Clause Limit} (Err l) (Ok d) → ⊥
err_is l d e = cc

ok_is : (c d : Clause) → ◌≡◌ {A = Result Clause Limit} (Ok c) (Ok d) → c ≡ d
ok_is c d e = cc

-- a new clause that is accepted is in canonical form and within the limits
pub new_clause_is_canonical : (c d : Clause) → new_clause c ≡ Ok d → (d ≡ canonical_form c) × IsCanonical d
new_clause_is_canonical c d = by (limit_past c) refl
  where
    by : (o : Option Limit) → limit_past c ≡ o → unless_past o c ≡ Ok d → (d ≡ canonical_form c) × IsCanonical d
    by (Some l) e h = absurd (err_is l d h)
    by None e h =
        let s = ok_is (canonical_form c) d h in
        (sym s, subst IsCanonical s (record { form = canonical_again c; limits = limits_hold (canonical_form c) (limits_again c (limits_of c e)) }))

-- a canonical clause is its own new clause
pub canonical_is_new : (c : Clause) → IsCanonical c → new_clause c ≡ Ok c
canonical_is_new c h = rw h.limits (ap Ok h.form)
