-- Showing rows one after another, each in the way of its place.
use Rattle.std.specs.Prelude.{ℕ, ◌+◌, List, [], ◌∷◌, ◌++◌, map, slice_index_or, Result, Ok, Err}
use Rattle.clp_model.specs.Clauses.{Row}
use Rattle.farkas_check.specs.declared.cert.Cert.{Cert}
use Rattle.fold_model.specs.Folded.{Question}
use Rattle.map_model.specs.declared.shown.Shown.{Shown}
use Rattle.map_model.specs.declared.shown.Shown.TheVariants.{Find}
use Rattle.map_model.specs.declared.shown.Shows.{Shows}
use Rattle.map_model.specs.declared.shown.Shows.TheVariants as shows
use Rattle.map_model.specs.declared.refusal.Refusal.{Refusal}
use Rattle.map_model.specs.ShowingAll.{answered, put_certificate}

-- the way in which the row is shown that has so many before it, by the finder where none is given
abbrev pub way_at : Shows → ℕ → Shown
way_at shows.Find before = Find
way_at (shows.Each list) before = slice_index_or list before Find

-- the certificates of these rows, the first of which has so many before it, or the first refusal
abbrev pub shown_from : Shows → ℕ → List Question → Result (List Cert) Refusal
shown_from show before [] = Ok []
shown_from show before (q ∷ qs) = put_certificate (answered (before + 1) q (way_at show before)) (shown_from show (before + 1) qs)

-- the certificates that there are, and then those that come, or their refusal
abbrev pub after_these : List Cert → Result (List Cert) Refusal → Result (List Cert) Refusal
after_these cs (Ok more) = Ok (cs ++ more)
after_these cs (Err refusal) = Err refusal

-- each of the targets is to be shown from the same rows
abbrev pub asked : List Row → List Row → List Question
asked rows targets = map (λ r. record { rows = rows; target = r }) targets
