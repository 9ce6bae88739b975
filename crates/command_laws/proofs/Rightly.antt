-- Where the files are told, what a plan leads to is the right answer.
use Rattle.std.proofs.Common.{◌≡◌, ℕ, ◌<◌, ◌≤◌, inl, inr, List, length, ap, ◌∙◌, sym}
use Rattle.std.proofs.lemmas.Bool.{lt-ltb, le-ltb}
use Rattle.std.specs.Prelude.{Option, Some, if◌then◌else◌}
use Rattle.map_base.specs.Outside.{Files, file_of}
use Rattle.command_model.specs.declared.status.Status.{Status}
use Rattle.command_model.specs.Plan.{Plan, Ends, Asks}
use Rattle.command_model.specs.Causes.{LeadsTo}
use Rattle.command_model.specs.Answers.{Answer, Writes, asked_by, right_answer}

past : (given : List ℕ → Answer) (longer : Answer) (name : List ℕ) (most : ℕ) (found : Option (List ℕ)) (bytes : List ℕ)
    → found ≡ Some bytes → most < length bytes → asked_by given longer name most found ≡ longer
past given longer name most found bytes e h =
    ap (asked_by given longer name most) e ∙ ap (λ x. if x then longer else given bytes) (lt-ltb most (length bytes) h)

within : (given : List ℕ → Answer) (longer : Answer) (name : List ℕ) (most : ℕ) (found : Option (List ℕ)) (bytes : List ℕ)
    → found ≡ Some bytes → length bytes ≤ most → asked_by given longer name most found ≡ given bytes
within given longer name most found bytes e h =
    ap (asked_by given longer name most) e ∙ ap (λ x. if x then longer else given bytes) (le-ltb most (length bytes) h)

pub right : (files : Files) (p : Plan) (s : Status) (text : List ℕ) → LeadsTo (Some files) p s text → right_answer files p ≡ Writes s text
right files (Ends s t) status text (e, d) = ap (λ x. Writes x t) (sym e) ∙ ap (Writes status) (sym d)
right files (Asks name most longer given) status text (inl (l, h)) =
    past (λ bytes. right_answer files (given bytes)) (right_answer files longer) name most (file_of files name) l.0 l.1 l.2 ∙ right files longer status text h
right files (Asks name most longer given) status text (inr (bytes, g, h)) =
    within (λ bs. right_answer files (given bs)) (right_answer files longer) name most (file_of files name) bytes g.told g.short ∙ right files (given bytes) status text h
