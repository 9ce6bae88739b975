-- The certificates by which several rows are shown can be written; and those that are given stay.
use Rattle.std.proofs.Common.{◌≡◌, ℕ, zero, suc, List, [], ◌∷◌, map, length, Bool, true, false, refl, sym, ◌∙◌, ap, subst}
use Rattle.std.specs.Prelude.{All, Option, Some, None, Result, Ok, Err, nat_eq, if◌then◌else◌}
use Rattle.std.proofs.lemmas.Bool.{eqb-true}
use Rattle.std.proofs.lemmas.List.{length-map}
use Rattle.std.proofs.lemmas.List.Elements.{All-nil, All-cons, All-head, All-tail}
use Rattle.linear_model.specs.Normal.{normal, is_within}
use Rattle.farkas_check.specs.declared.fault.CheckFault.TheVariants.{Count}
use Rattle.farkas_check.specs.declared.cert.Cert.{Cert}
use Rattle.fold_model.specs.Folded.{Question}
use Rattle.map_model.specs.declared.shown.Shown.{Shown}
use Rattle.map_model.specs.declared.shown.Shown.TheVariants.{Find, Given}
use Rattle.map_model.specs.declared.shown.Shows.{Shows}
use Rattle.map_model.specs.declared.shown.Shows.TheVariants as shows
use Rattle.map_model.specs.declared.refusal.Refusal.{Refusal}
use Rattle.map_model.specs.declared.refusal.Refusal.TheVariants.{BadMultipliers, Overflow}
use Rattle.map_model.specs.Showing.{shown_by}
use Rattle.map_model.specs.ShowingAll.{finds, ways, count_broken, answered, put_certificate, answered_from, unless_miscounted}
use Rattle.script_grammar.specs.ScriptText.{IsCertificate, IsShown, AreShown}
use Rattle.found_laws.specs.Laws.{ShownRowsCanBeWritten, GivenRowsStay}
use Rattle.found_laws.proofs.Shown.{shown_row, given_row}

-- ---- one row
shown_within : (place : ℕ) (q : Question) (way : Shown) (c : Cert) → answered place q way ≡ Ok c → shown_by place q.rows (normal q.target) way ≡ Ok c
shown_within place q way c h = by (is_within (normal q.target)) h
  where
    by : (b : Bool) → (if b then shown_by place q.rows (normal q.target) way else Err (Overflow place)) ≡ Ok c → shown_by place q.rows (normal q.target) way ≡ Ok c
    by true k = k
    by false k = absurd (cc)

-- ---- one after another
certs_is : {cs ds : List Cert} → ◌≡◌ {A = Result (List Cert) Refusal} (Ok cs) (Ok ds) → cs ≡ ds
certs_is h = cc

-- the first certificate, and the others
record Put (o : Result Cert Refusal) (rest : Result (List Cert) Refusal) (cs : List Cert) : Type 0 where
  first : Cert
  others : List Cert
  answer : o ≡ Ok first
  further : rest ≡ Ok others
  are : first ∷ others ≡ cs

put_is : (o : Result Cert Refusal) (rest : Result (List Cert) Refusal) (cs : List Cert) → put_certificate o rest ≡ Ok cs → Put o rest cs
put_is (Ok c) (Ok ds) cs h = record { first = c; others = ds; answer = refl; further = refl; are = certs_is h }
put_is (Ok c) (Err x) cs h = absurd (cc)
put_is (Err x) rest cs h = absurd (cc)

each_written : (place : ℕ) (qs : List Question) (list : List Shown) (cs : List Cert) → All IsShown list → answered_from place qs list ≡ Ok cs → All IsCertificate cs
each_written place [] list cs w h = subst (All IsCertificate) (certs_is h) (All-nil IsCertificate)
each_written place (q ∷ qs) [] cs w h = subst (All IsCertificate) (certs_is h) (All-nil IsCertificate)
each_written place (q ∷ qs) (way ∷ list) cs w h =
    let p = put_is (answered place q way) (answered_from (suc place) qs list) cs h in
    subst (All IsCertificate) p.are (All-cons IsCertificate p.first p.others
    (shown_row place q.rows (normal q.target) way p.first (All-head IsShown way list w) (shown_within place q way p.first p.answer))
    (each_written (suc place) qs list p.others (All-tail IsShown way list w) p.further))

each_stays : (place : ℕ) (qs : List Question) (given cs : List Cert) → length given ≡ length qs → answered_from place qs (map Given given) ≡ Ok cs → cs ≡ given
each_stays place [] [] cs n h = sym (certs_is h)
each_stays place [] (g ∷ given) cs n h = absurd (cc)
each_stays place (q ∷ qs) [] cs n h = absurd (cc)
each_stays place (q ∷ qs) (g ∷ given) cs n h =
    let p = put_is (answered place q (Given g)) (answered_from (suc place) qs (map Given given)) cs h in
    let first = given_row place q.rows (normal q.target) g p.first (shown_within place q (Given g) p.first p.answer) in
    let others = each_stays (suc place) qs given p.others (cc) p.further in
    sym p.are ∙ ap (λ c. c ∷ p.others) first ∙ ap (λ ds. g ∷ ds) others

-- ---- the right number of ways
uncounted : (o : Option Refusal) (next : Result (List Cert) Refusal) (cs : List Cert) → unless_miscounted o next ≡ Ok cs → (o ≡ None) × (next ≡ Ok cs)
uncounted None next cs h = (refl, h)
uncounted (Some x) next cs h = absurd (cc)

so_many : (n m : ℕ) → (if nat_eq n m then None else Some (BadMultipliers 0 Count)) ≡ None → n ≡ m
so_many n m h = by (nat_eq n m) refl h
  where
    by : (b : Bool) → nat_eq n m ≡ b → (if b then None else Some (BadMultipliers 0 Count)) ≡ None → n ≡ m
    by true e k = eqb-true n m e
    by false e k = absurd (cc)

finds_shown : (n : ℕ) → All IsShown (finds n)
finds_shown zero = All-nil IsShown
finds_shown (suc n) = All-cons IsShown Find (finds n) tt (finds_shown n)

ways_shown : (show : Shows) (n : ℕ) → AreShown show → All IsShown (ways show n)
ways_shown shows.Find n w = finds_shown n
ways_shown (shows.Each list) n w = w

-- ---- the laws
pub shown_rows : ShownRowsCanBeWritten
shown_rows qs show cs w h =
    each_written 1 qs (ways show (length qs)) cs (ways_shown show (length qs) w) (uncounted (count_broken show (length qs)) (answered_from 1 qs (ways show (length qs))) cs h).1

pub given_rows : GivenRowsStay
given_rows qs given cs h =
    let u = uncounted (count_broken (shows.Each (map Given given)) (length qs)) (answered_from 1 qs (map Given given)) cs h in
    let count = so_many (length (map Given given)) (length qs) u.0 in
    each_stays 1 qs given cs (sym (length-map given Given) ∙ count) u.1
