-- The certificates of rows that are shown one after another: by the way at each place, row by row, and of two lists.
use Rattle.std.proofs.Common.{◌≡◌, ℕ, suc, ◌+◌, ◌<◌, List, [], ◌∷◌, ◌++◌, length, drop, get_or, Bool, true, false, refl, sym, ◌∙◌, ap, subst, eq-eqb, arith}
use Rattle.std.specs.Prelude.{slice_get, Some, None, Result, Ok, Err, nat_eq, if◌then◌else◌}
use Rattle.std.proofs.lemmas.Bool.{eqb-true}
use Rattle.std.proofs.lemmas.List.{append-nil, append_assoc, drop_more}
use Rattle.std.specs.Option.{unwrap_or}
use Rattle.std.proofs.lemmas.Option.{unwrap_or-slice_get}
use Rattle.clp_model.specs.Clauses.{Row}
use Rattle.linear_model.specs.Normal.{normal, is_within}
use Rattle.farkas_check.specs.declared.fault.CheckFault.TheVariants.{Count}
use Rattle.farkas_check.specs.declared.cert.Cert.{Cert}
use Rattle.fold_model.specs.Folded.{Question}
use Rattle.map_model.specs.declared.shown.Shown.{Shown}
use Rattle.map_model.specs.declared.shown.Shown.TheVariants.{Find}
use Rattle.map_model.specs.declared.shown.Shows.{Shows}
use Rattle.map_model.specs.declared.shown.Shows.TheVariants as shows
use Rattle.map_model.specs.declared.refusal.Refusal.{Refusal}
use Rattle.map_model.specs.declared.refusal.Refusal.TheVariants.{BadMultipliers, Overflow}
use Rattle.map_model.specs.Showing.{shown_by}
use Rattle.map_model.specs.ShowingAll.{finds, ways, count_broken, answered, put_certificate, answered_from, unless_miscounted, certificates}
use Rattle.row_showing.specs.Several.{way_at, shown_from, after_these}

-- ---- the way at each place
finds_all : (n place : ℕ) (qs : List Question) → place ≡ n + 1 → answered_from place qs (finds (length qs)) ≡ shown_from shows.Find n qs
finds_all n place [] e = refl
finds_all n place (q ∷ qs) e = rw e (ap (put_certificate (answered (n + 1) q Find)) (finds_all (n + 1) (suc (n + 1)) qs (omega arith)))

each_way : (list : List Shown) (n place : ℕ) (qs : List Question) → place ≡ n + 1 → length list ≡ n + length qs
    → answered_from place qs (drop n list) ≡ shown_from (shows.Each list) n qs
each_way list n place [] e l = refl
each_way list n place (q ∷ qs) e l =
    let below : n < length list = omega arith in
    rw (drop_more list n Find below, e) (ap (put_certificate (answered (n + 1) q (get_or list n Find))) (each_way list (n + 1) (suc (n + 1)) qs (omega arith) (omega arith)))

pub equal_counts : (list : List Shown) (qs : List Question) → length list ≡ length qs → count_broken (shows.Each list) (length qs) ≡ None
equal_counts list qs e = ap (λ b. if b then None else Some (BadMultipliers 0 Count)) (eq-eqb (length list) (length qs) e)

-- where there is a way for each row
pub counted : (qs : List Question) (show : Shows) → count_broken show (length qs) ≡ None → certificates qs show ≡ shown_from show 0 qs
counted qs shows.Find e = finds_all 0 1 qs (omega arith)
counted qs (shows.Each list) e = by (nat_eq (length list) (length qs)) refl e
  where
    by : (b : Bool) → nat_eq (length list) (length qs) ≡ b → (if b then None else Some (BadMultipliers 0 Count)) ≡ None
        → unless_miscounted (if b then None else Some (BadMultipliers 0 Count)) (answered_from 1 qs list) ≡ shown_from (shows.Each list) 0 qs
    by true k h = each_way list 0 1 qs (omega arith) (eqb-true (length list) (length qs) k ∙ omega arith)
    by false k h = absurd (cc)

pub miscounted : (qs : List Question) (show : Shows) (e : Refusal) → count_broken show (length qs) ≡ Some e → certificates qs show ≡ Err e
miscounted qs show e h = ap (λ o. unless_miscounted o (answered_from 1 qs (ways show (length qs)))) h

-- no way is given for so late a row
pub no_way : (show : Shows) (list : List Shown) (before : ℕ) → show ≡ shows.Each list → slice_get list before ≡ None → way_at show before ≡ Find
no_way show list before e none = ap (λ s. way_at s before) e ∙ sym (unwrap_or-slice_get list before Find) ∙ ap (λ o. unwrap_or o Find) none

-- ---- row by row
module _ (show : Shows) (cs : List Cert) (n : ℕ) (q : Question) (qs : List Question) where
  -- a row is answered
  pub next_answered : (c : Cert) → answered (n + 1) q (way_at show n) ≡ Ok c
      → after_these cs (shown_from show n (q ∷ qs)) ≡ after_these (cs ++ c ∷ []) (shown_from show (n + 1) qs)
  next_answered c h = ap (λ o. after_these cs (put_certificate o (shown_from show (n + 1) qs))) h ∙ by (shown_from show (n + 1) qs)
    where
      by : (r : Result (List Cert) Refusal) → after_these cs (put_certificate (Ok c) r) ≡ after_these (cs ++ c ∷ []) r
      by (Ok more) = ap Ok (sym (append_assoc cs (c ∷ []) more))
      by (Err x) = refl

  -- or is not
  pub next_unanswered : (e : Refusal) → answered (n + 1) q (way_at show n) ≡ Err e → after_these cs (shown_from show n (q ∷ qs)) ≡ Err e
  next_unanswered e h = ap (λ o. after_these cs (put_certificate o (shown_from show (n + 1) qs))) h

  -- a row is shown whose normal form is within the range
  module _ (target : Row) (same : normal q.target ≡ target) (within : is_within target ≡ true) where
    is_answered : answered (n + 1) q (way_at show n) ≡ shown_by (n + 1) q.rows target (way_at show n)
    is_answered =
        ap (λ r. if is_within r then shown_by (n + 1) q.rows r (way_at show n) else Err (Overflow (n + 1))) same
        ∙ ap (λ b. if b then shown_by (n + 1) q.rows target (way_at show n) else Err (Overflow (n + 1))) within

    pub next_shown : (c : Cert) → shown_by (n + 1) q.rows target (way_at show n) ≡ Ok c
        → after_these cs (shown_from show n (q ∷ qs)) ≡ after_these (cs ++ c ∷ []) (shown_from show (n + 1) qs)
    next_shown c h = next_answered c (is_answered ∙ h)

    pub next_refused : (e : Refusal) → shown_by (n + 1) q.rows target (way_at show n) ≡ Err e → after_these cs (shown_from show n (q ∷ qs)) ≡ Err e
    next_refused e h = next_unanswered e (is_answered ∙ h)

  -- a row whose normal form is past it
  pub next_overflow : is_within (normal q.target) ≡ false → after_these cs (shown_from show n (q ∷ qs)) ≡ Err (Overflow (n + 1))
  next_overflow h = next_unanswered (Overflow (n + 1)) (ap (λ b. if b then shown_by (n + 1) q.rows (normal q.target) (way_at show n) else Err (Overflow (n + 1))) h)

-- there is no further row
pub none_left : (show : Shows) (cs : List Cert) (n : ℕ) → after_these cs (shown_from show n []) ≡ Ok cs
none_left show cs n = ap Ok (append-nil cs)

-- ---- two lists of rows
nothing_before : (r : Result (List Cert) Refusal) → after_these [] r ≡ r
nothing_before (Ok more) = refl
nothing_before (Err e) = refl

put_before : (c : Cert) (cs : List Cert) (r : Result (List Cert) Refusal) → put_certificate (Ok c) (after_these cs r) ≡ after_these (c ∷ cs) r
put_before c cs (Ok more) = refl
put_before c cs (Err e) = refl

certs_is : {xs ys : List Cert} → ◌≡◌ {A = Result (List Cert) Refusal} (Ok xs) (Ok ys) → xs ≡ ys
certs_is h = cc

module _ (show : Shows) (more : List Question) where
  pub first_shown : (n : ℕ) (qs : List Question) (cs : List Cert) → shown_from show n qs ≡ Ok cs
      → shown_from show n (qs ++ more) ≡ after_these cs (shown_from show (n + length qs) more)
  first_shown n [] cs h =
      let P : List Cert → Type 0 = λ xs. shown_from show n more ≡ after_these xs (shown_from show (n + 0) more) in
      let same : n + 0 ≡ n = omega arith in
      subst P (certs_is h) (rw same (sym (nothing_before (shown_from show n more))))
  first_shown n (q ∷ qs) cs h = by (first_shown (n + 1) qs) (answered (n + 1) q (way_at show n)) (shown_from show (n + 1) qs) refl h
    where
      by : ((rest : List Cert) → shown_from show (n + 1) qs ≡ Ok rest → shown_from show (n + 1) (qs ++ more) ≡ after_these rest (shown_from show (n + 1 + length qs) more))
          → (o : Result Cert Refusal) (r : Result (List Cert) Refusal) → shown_from show (n + 1) qs ≡ r → put_certificate o r ≡ Ok cs
          → put_certificate o (shown_from show (n + 1) (qs ++ more)) ≡ after_these cs (shown_from show (n + length (q ∷ qs)) more)
      by again (Err e) r k p = absurd (cc)
      by again (Ok c) (Err e) k p = absurd (cc)
      by again (Ok c) (Ok rest) k p =
          let same : n + length (q ∷ qs) ≡ n + 1 + length qs = omega arith in
          let P : List Cert → Type 0 = λ xs. put_certificate (Ok c) (shown_from show (n + 1) (qs ++ more)) ≡ after_these xs (shown_from show (n + length (q ∷ qs)) more) in
          subst P (certs_is p) (rw same (ap (put_certificate (Ok c)) (again rest k) ∙ put_before c rest (shown_from show (n + 1 + length qs) more)))

  pub first_refused : (n : ℕ) (qs : List Question) (e : Refusal) → shown_from show n qs ≡ Err e → shown_from show n (qs ++ more) ≡ Err e
  first_refused n [] e h = absurd (cc)
  first_refused n (q ∷ qs) e h = by (first_refused (n + 1) qs) (answered (n + 1) q (way_at show n)) (shown_from show (n + 1) qs) refl h
    where
      by : ((x : Refusal) → shown_from show (n + 1) qs ≡ Err x → shown_from show (n + 1) (qs ++ more) ≡ Err x)
          → (o : Result Cert Refusal) (r : Result (List Cert) Refusal) → shown_from show (n + 1) qs ≡ r → put_certificate o r ≡ Err e
          → put_certificate o (shown_from show (n + 1) (qs ++ more)) ≡ Err e
      by again (Err x) r k p = p
      by again (Ok c) (Ok rest) k p = absurd (cc)
      by again (Ok c) (Err x) k p = ap (put_certificate (Ok c)) (again x k) ∙ p

-- there is a certificate for each row
pub so_many : (show : Shows) (n : ℕ) (qs : List Question) (cs : List Cert) → shown_from show n qs ≡ Ok cs → length cs ≡ length qs
so_many show n [] cs h = ap length (sym (certs_is h))
so_many show n (q ∷ qs) cs h = by (so_many show (n + 1) qs) (answered (n + 1) q (way_at show n)) (shown_from show (n + 1) qs) refl h
  where
    by : ((rest : List Cert) → shown_from show (n + 1) qs ≡ Ok rest → length rest ≡ length qs)
        → (o : Result Cert Refusal) (r : Result (List Cert) Refusal) → shown_from show (n + 1) qs ≡ r → put_certificate o r ≡ Ok cs → length cs ≡ suc (length qs)
    by again (Err x) r k p = absurd (cc)
    by again (Ok c) (Err x) k p = absurd (cc)
    by again (Ok c) (Ok rest) k p = ap length (sym (certs_is p)) ∙ ap suc (again rest k)
