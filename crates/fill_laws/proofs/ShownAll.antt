-- The certificates by which rows are shown, one after another, have no fault.
use Rattle.std.proofs.Common.{◌≡◌, ℕ, zero, suc, List, [], ◌∷◌, map, length, Bool, true, false, refl, ◌∙◌, ap, subst, eq-eqb}
use Rattle.std.specs.Prelude.{All, Some, None, Result, Ok, Err, nat_eq, if◌then◌else◌}
use Rattle.std.proofs.lemmas.Bool.{eqb-true}
use Rattle.std.proofs.lemmas.List.{length-map}
use Rattle.std.proofs.lemmas.List.Elements.{All-nil, All-cons}
use Rattle.linear_model.specs.Normal.{normal, is_within}
use Rattle.linear_model.specs.Certificates.{Entails}
use Rattle.farkas_check.specs.declared.fault.CheckFault.TheVariants.{Count}
use Rattle.farkas_check.specs.declared.cert.Cert.{Cert}
use Rattle.fold_model.specs.Folded.{Question}
use Rattle.map_model.specs.declared.shown.Shown.{Shown}
use Rattle.map_model.specs.declared.shown.Shown.TheVariants.{Given}
use Rattle.map_model.specs.declared.shown.Shows.{Shows}
use Rattle.map_model.specs.declared.shown.Shows.TheVariants as shows
use Rattle.map_model.specs.declared.refusal.Refusal.{Refusal}
use Rattle.map_model.specs.declared.refusal.Refusal.TheVariants.{BadMultipliers, Overflow}
use Rattle.map_model.specs.Showing.{unless_wrong, shown_by}
use Rattle.map_model.specs.ShowingAll.{finds, ways, answered, put_certificate, answered_from, unless_miscounted, certificates}
use Rattle.fill_laws.specs.Laws.{ShownRowsAreAccepted, ShownRowsAreEntailed}
use Rattle.fill_laws.proofs.Shown.{shown_accepted, shown_entailed}

abbrev IsEntailed : Question → Type 0
IsEntailed q = Entails q.rows (normal q.target)

-- ---- one row
module _ (place : ℕ) (q : Question) (way : Shown) (c : Cert) where
  within : answered place q way ≡ Ok c → (is_within (normal q.target) ≡ true) × (shown_by place q.rows (normal q.target) way ≡ Ok c)
  within h = by (is_within (normal q.target)) refl h
    where
      by : (b : Bool) → is_within (normal q.target) ≡ b → (if b then shown_by place q.rows (normal q.target) way else Err (Overflow place)) ≡ Ok c
          → (is_within (normal q.target) ≡ true) × (shown_by place q.rows (normal q.target) way ≡ Ok c)
      by true e k = (e, k)
      by false e k = absurd (cc)

  one_entailed : answered place q way ≡ Ok c → IsEntailed q
  one_entailed h = shown_entailed place q.rows (normal q.target) way c (within h).1

  one_accepted : answered place q way ≡ Ok c → answered place q (Given c) ≡ Ok c
  one_accepted h =
      let w = within h in
      ap (λ b. if b then shown_by place q.rows (normal q.target) (Given c) else Err (Overflow place)) w.0
      ∙ ap (unless_wrong place c) (shown_accepted place q.rows (normal q.target) way c w.1)

-- ---- as many rows as there are ways
certs_is : {xs ys : List Cert} → ◌≡◌ {A = Result (List Cert) Refusal} (Ok xs) (Ok ys) → xs ≡ ys
certs_is {xs} h = let out : Result (List Cert) Refusal → List Cert = elim [ Ok zs ↦ zs | Err r ↦ xs ] in ap out h

-- the certificates are as many as the rows, each row is entailed, and they are given again
abbrev AreShown : ℕ → List Question → List Cert → Type 0
AreShown place qs cs = (length cs ≡ length qs) × All IsEntailed qs × (answered_from place qs (map Given cs) ≡ Ok cs)

are_shown : (place : ℕ) (qs : List Question) (list : List Shown) (cs : List Cert) → length list ≡ length qs → answered_from place qs list ≡ Ok cs → AreShown place qs cs
are_shown place [] list cs n h = subst (AreShown place []) (certs_is h) (refl, All-nil IsEntailed, refl)
are_shown place (q ∷ qs) [] cs n h = absurd (cc)
are_shown place (q ∷ qs) (way ∷ list) cs n h = by (λ rest k. are_shown (suc place) qs list rest (cc) k) (answered place q way) refl (answered_from (suc place) qs list) refl h
  where
    by : ((rest : List Cert) → answered_from (suc place) qs list ≡ Ok rest → AreShown (suc place) qs rest)
        → (o : Result Cert Refusal) → answered place q way ≡ o → (r : Result (List Cert) Refusal) → answered_from (suc place) qs list ≡ r → put_certificate o r ≡ Ok cs → AreShown place (q ∷ qs) cs
    by again (Err x) a r k h = absurd (cc)
    by again (Ok c) a (Err x) k h = absurd (cc)
    by again (Ok c) a (Ok rest) k h =
        let more = again rest k in
        subst (AreShown place (q ∷ qs)) (certs_is h) (
          ap suc more.0,
          All-cons IsEntailed q qs (one_entailed place q way c a) more.1,
          ap (λ o. put_certificate o (answered_from (suc place) qs (map Given rest))) (one_accepted place q way c a) ∙ ap (put_certificate (Ok c)) more.2,
        )

-- ---- the right number of ways
so_many : (n : ℕ) → length (finds n) ≡ n
so_many zero = refl
so_many (suc n) = ap suc (so_many n)

counted : (qs : List Question) (show : Shows) (cs : List Cert) → certificates qs show ≡ Ok cs → (length (ways show (length qs)) ≡ length qs) × (answered_from 1 qs (ways show (length qs)) ≡ Ok cs)
counted qs shows.Find cs h = (so_many (length qs), h)
counted qs (shows.Each list) cs h = by (nat_eq (length list) (length qs)) refl h
  where
    by : (b : Bool) → nat_eq (length list) (length qs) ≡ b → unless_miscounted (if b then None else Some (BadMultipliers 0 Count)) (answered_from 1 qs list) ≡ Ok cs
        → (length list ≡ length qs) × (answered_from 1 qs list ≡ Ok cs)
    by true e k = (eqb-true (length list) (length qs) e, k)
    by false e k = absurd (cc)

all_shown : (qs : List Question) (show : Shows) (cs : List Cert) → certificates qs show ≡ Ok cs → AreShown 1 qs cs
all_shown qs show cs h = let n = counted qs show cs h in are_shown 1 qs (ways show (length qs)) cs n.0 n.1

-- ---- the laws
pub all_shown_accepted : ShownRowsAreAccepted
all_shown_accepted qs show cs h =
    let shown = all_shown qs show cs h in
    let count : length (map Given cs) ≡ length qs = length-map cs Given ∙ shown.0 in
    ap (λ b. unless_miscounted (if b then None else Some (BadMultipliers 0 Count)) (answered_from 1 qs (map Given cs))) (eq-eqb (length (map Given cs)) (length qs) count) ∙ shown.2

pub all_shown_entailed : ShownRowsAreEntailed
all_shown_entailed qs show cs h = (all_shown qs show cs h).1
