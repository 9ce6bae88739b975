-- Showing several rows, one after another.
use Rattle.std.specs.Prelude.{ℕ, zero, suc, List, [], ◌∷◌, length, Option, Some, None, Result, Ok, Err, nat_eq, if◌then◌else◌}
use Rattle.linear_model.specs.Normal.{normal, is_within}
use Rattle.farkas_check.specs.declared.fault.CheckFault.TheVariants.{Count}
use Rattle.farkas_check.specs.declared.cert.Cert.{Cert}
use Rattle.fold_model.specs.Folded.{Question}
use Rattle.map_model.specs.declared.shown.Shown.{Shown}
use Rattle.map_model.specs.declared.shown.Shown.TheVariants.{Find}
use Rattle.map_model.specs.declared.shown.Shows.{Shows}
use Rattle.map_model.specs.declared.shown.Shows.TheVariants as shows
use Rattle.map_model.specs.declared.refusal.Refusal.{Refusal}
use Rattle.map_model.specs.declared.refusal.Refusal.TheVariants.{BadMultipliers, Overflow}
use Rattle.map_model.specs.Showing.{shown_by}

-- the finder, so often
abbrev pub finds : ℕ → List Shown
finds zero = []
finds (suc n) = Find ∷ finds n

-- how each of so many rows is shown
abbrev pub ways : Shows → ℕ → List Shown
ways shows.Find count = finds count
ways (shows.Each list) count = list

-- there is not a way for each of so many rows
abbrev pub count_broken : Shows → ℕ → Option Refusal
count_broken shows.Find count = None
count_broken (shows.Each list) count = if nat_eq (length list) count then None else Some (BadMultipliers 0 Count)

-- the certificate by which the normal form of a row is shown, at this place among those to be shown
abbrev pub answered : ℕ → Question → Shown → Result Cert Refusal
answered place q way = if is_within (normal q.target) then shown_by place q.rows (normal q.target) way else Err (Overflow place)

-- a certificate before the next ones, or the first refusal
abbrev pub put_certificate : Result Cert Refusal → Result (List Cert) Refusal → Result (List Cert) Refusal
put_certificate (Ok c) (Ok cs) = Ok (c ∷ cs)
put_certificate (Ok c) (Err refusal) = Err refusal
put_certificate (Err refusal) rest = Err refusal

-- the certificates of these rows, of which the first has this place
abbrev pub answered_from : ℕ → List Question → List Shown → Result (List Cert) Refusal
answered_from place [] list = Ok []
answered_from place (q ∷ qs) [] = Ok []
answered_from place (q ∷ qs) (way ∷ list) = put_certificate (answered place q way) (answered_from (suc place) qs list)

-- the certificates, unless their number is wrong
abbrev pub unless_miscounted : Option Refusal → Result (List Cert) Refusal → Result (List Cert) Refusal
unless_miscounted None next = next
unless_miscounted (Some refusal) next = Err refusal

-- the certificates of all rows that are to be shown, or the first refusal
abbrev pub certificates : List Question → Shows → Result (List Cert) Refusal
certificates qs show = unless_miscounted (count_broken show (length qs)) (answered_from 1 qs (ways show (length qs)))
