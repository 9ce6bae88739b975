-- What holds of all that is parsed, and of the text that remains.
use Rattle.std.specs.Prelude.{◌≡◌, ◌<◌, ◌≤◌, ◌^◌, ℕ, List, length, All, Ok, ◌↔◌}
use Rattle.token_model.specs.Remaining.{Remaining}
use Rattle.clp_grammar.specs.declared.expression.Head.{Head}
use Rattle.clp_grammar.specs.declared.expression.Expression.{Expression, Node}
use Rattle.clp_grammar.specs.declared.draft.Comparison.{Comparison}
use Rattle.clp_grammar.specs.declared.draft.Draft.{Draft}
use Rattle.clp_grammar.specs.Input.{Input}
use Rattle.clp_grammar.specs.Goals.{comparison}
use Rattle.clp_grammar.specs.Drafts.{draft, end, end_or_finish}
use Rattle.clp_grammar.specs.Directives.{directive}
use Rattle.draft_laws.specs.Formed.{Fits, IsFormed, IsFormedComparison, IsFormedDraft}

-- a node by the list of its parts
abbrev pub NodesByParts : Type 0
NodesByParts = (count place : ℕ) (head : Head) (parts : List Expression) → IsFormed count (Node place head parts) ↔ (Fits head (length parts) × All (IsFormed count) parts)

abbrev pub DraftsAreFormed : Type 0
DraftsAreFormed = (i : Input) (d : Draft) (j : Input) → length i.remaining.text < 2 ^ 32 → draft end i ≡ Ok (d, j) → IsFormedDraft d

-- also where the end may be missing
abbrev pub LastDraftsAreFormed : Type 0
LastDraftsAreFormed = (i : Input) (d : Draft) (j : Input) → length i.remaining.text < 2 ^ 32 → draft end_or_finish i ≡ Ok (d, j) → IsFormedDraft d

abbrev pub ComparisonsAreFormed : Type 0
ComparisonsAreFormed = (more : ℕ) (i : Input) (c : Comparison) (j : Input) → length i.remaining.text < 2 ^ 32 → comparison more i ≡ Ok (c, j) → IsFormedComparison (length j.names) c

-- no text is longer after a clause, a comparison or a directive
abbrev pub DraftsShorten : Type 0
DraftsShorten = (i : Input) (d : Draft) (j : Input) → length i.remaining.text < 2 ^ 32 → draft end i ≡ Ok (d, j) → length j.remaining.text ≤ length i.remaining.text

abbrev pub ComparisonsShorten : Type 0
ComparisonsShorten = (more : ℕ) (i : Input) (c : Comparison) (j : Input) → length i.remaining.text < 2 ^ 32 → comparison more i ≡ Ok (c, j) → length j.remaining.text ≤ length i.remaining.text

abbrev pub DirectivesShorten : Type 0
DirectivesShorten = (r s : Remaining) → directive r ≡ Ok s → length s.text ≤ length r.text
