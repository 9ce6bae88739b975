-- The laws of the certificates by which rows are shown.
use Rattle.std.specs.Prelude.{◌≡◌, ℕ, List, map, All, Ok}
use Rattle.clp_model.specs.Clauses.{Row}
use Rattle.farkas_check.specs.declared.cert.Cert.{Cert}
use Rattle.entail_find.specs.declared.questions.Found.TheVariants as answer
use Rattle.entail_find.specs.Answers.{found, found_false}
use Rattle.fold_model.specs.Folded.{Question}
use Rattle.map_model.specs.declared.shown.Shown.{Shown}
use Rattle.map_model.specs.declared.shown.Shown.TheVariants.{Given}
use Rattle.map_model.specs.declared.shown.Shows.{Shows}
use Rattle.map_model.specs.declared.shown.Shows.TheVariants.{Each}
use Rattle.map_model.specs.Showing.{shown_by, shown_false_by}
use Rattle.map_model.specs.ShowingAll.{certificates}
use Rattle.script_grammar.specs.ScriptText.{IsCertificate, IsShown, AreShown}

-- ---- what the finder finds
abbrev pub FoundRowCanBeWritten : Type 0
FoundRowCanBeWritten = (rows : List Row) (target : Row) (c : Cert) → found rows target ≡ Ok (answer.Shown c) → IsCertificate c

abbrev pub FoundFalsehoodCanBeWritten : Type 0
FoundFalsehoodCanBeWritten = (rows : List Row) (c : Cert) → found_false rows ≡ Ok (answer.Shown c) → IsCertificate c

-- ---- how something is shown
abbrev pub ShownRowCanBeWritten : Type 0
ShownRowCanBeWritten =
    (place : ℕ) (rows : List Row) (target : Row) (show : Shown) (c : Cert) → IsShown show → shown_by place rows target show ≡ Ok c → IsCertificate c

abbrev pub ShownFalsehoodCanBeWritten : Type 0
ShownFalsehoodCanBeWritten = (rows : List Row) (show : Shown) (c : Cert) → IsShown show → shown_false_by rows show ≡ Ok c → IsCertificate c

abbrev pub ShownRowsCanBeWritten : Type 0
ShownRowsCanBeWritten = (qs : List Question) (show : Shows) (cs : List Cert) → AreShown show → certificates qs show ≡ Ok cs → All IsCertificate cs

-- ---- a given certificate
abbrev pub GivenRowStays : Type 0
GivenRowStays = (place : ℕ) (rows : List Row) (target : Row) (given c : Cert) → shown_by place rows target (Given given) ≡ Ok c → c ≡ given

abbrev pub GivenFalsehoodStays : Type 0
GivenFalsehoodStays = (rows : List Row) (given c : Cert) → shown_false_by rows (Given given) ≡ Ok c → c ≡ given

abbrev pub GivenRowsStay : Type 0
GivenRowsStay = (qs : List Question) (given cs : List Cert) → certificates qs (Each (map Given given)) ≡ Ok cs → cs ≡ given
