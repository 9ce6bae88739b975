-- What is answered to a question.
use Rattle.std.specs.Prelude.{◌≡◌, ◌⊎◌, ⊤, List, pos, length, true, false, nat_le, Option, Some, None, Result, Ok, Err, All, if◌then◌else◌}
use Rattle.clp_model.specs.Clauses.{Row, RowHolds}
use Rattle.linear_model.specs.Certificates.{Part, Entails, ShowsFalse}
use Rattle.linear_model.specs.Changes.{at_most, flipped}
use Rattle.linear_model.specs.Elimination.{is_equation}
use Rattle.linear_model.specs.Items.{Item, kept}
use Rattle.linear_model.specs.Chain.{Outcome, all_within, chain, begun, begun_with, signed, part_of}
use Rattle.linear_model.specs.Chain as chains
use Rattle.clp_model.specs.Values.{Valuation}
use Rattle.farkas_check.specs.Right.{IsRight}
use Rattle.farkas_check.specs.declared.cert.Cert.TheVariants.{One, Two}
use Rattle.chain_items.specs.declared.item.ItemFault.{ItemFault}
use Rattle.chain_items.specs.declared.item.ItemFault.TheVariants as items
use Rattle.lin_row.specs.declared.row.RowFault.{RowFault}
use Rattle.lin_row.specs.declared.row.RowFault.TheVariants as rows
use Rattle.entail_find.specs.declared.questions.Found.{Found}
use Rattle.entail_find.specs.declared.questions.Found.TheVariants as founds
use Rattle.entail_find.specs.declared.fault.FindFault.{FindFault}
use Rattle.entail_find.specs.declared.fault.FindFault.TheVariants as faults

abbrev pub of_item_fault : ItemFault → FindFault
of_item_fault items.Overflow = faults.Overflow
of_item_fault items.NoMemory = faults.NoMemory

abbrev pub of_row_fault : RowFault → FindFault
of_row_fault rows.Overflow = faults.Overflow
of_row_fault rows.NoMemory = faults.NoMemory

-- what a fault of a turn says of the items that it makes
abbrev pub TurnFault : List Item → FindFault → Type 0
TurnFault made faults.Overflow = all_within made ≡ false
TurnFault made faults.TooLong = (all_within made ≡ true) × (nat_le (length (kept made)) 1024 ≡ false)
TurnFault made faults.NoMemory = ⊤

-- what a fault of a chain says of its outcome
abbrev pub IsFault : Outcome → FindFault → Type 0
IsFault o faults.Overflow = o ≡ chains.Overflow
IsFault o faults.TooLong = o ≡ chains.TooLong
IsFault o faults.NoMemory = ⊤

-- what an answer of a chain says of its outcome: the false item, or that there is none
abbrev pub IsFalse : Outcome → Option Item → Type 0
IsFalse o (Some i) = o ≡ chains.Shown i
IsFalse o None = o ≡ chains.NotEntailed

-- what a part that is found says of the outcome, or that none is found
abbrev pub IsPart : Outcome → Option Part → Type 0
IsPart o (Some p) = (i : Item) × (o ≡ chains.Shown i) × (p ≡ part_of (signed i))
IsPart o None = o ≡ chains.NotEntailed

-- what an outcome gives: a part, none, or a fault
abbrev pub part_answer : Outcome → Result (Option Part) FindFault
part_answer (chains.Shown i) = Ok (Some (part_of (signed i)))
part_answer chains.NotEntailed = Ok None
part_answer chains.Overflow = Err faults.Overflow
part_answer chains.TooLong = Err faults.TooLong

-- of an inequality
abbrev pub one_answer : Result (Option Part) FindFault → Result Found FindFault
one_answer (Ok (Some p)) = Ok (founds.Shown (One p))
one_answer (Ok None) = Ok founds.NotEntailed
one_answer (Err f) = Err f

-- of an equation's second half, after a part for the first
abbrev pub second_answer : Part → Result (Option Part) FindFault → Result Found FindFault
second_answer p (Ok (Some q)) = Ok (founds.Shown (Two p q))
second_answer p (Ok None) = Ok founds.NotEntailed
second_answer p (Err f) = Err f

-- of an equation by its halves; the first that isn't shown decides
abbrev pub two_answer : Result (Option Part) FindFault → Result (Option Part) FindFault → Result Found FindFault
two_answer (Ok (Some p)) r = second_answer p r
two_answer (Ok None) r = Ok founds.NotEntailed
two_answer (Err f) r = Err f

-- the answer to whether rows entail a target
abbrev pub found : List Row → Row → Result Found FindFault
found rows target =
    if is_equation target.rel then two_answer (part_answer (chain (begun_with rows (at_most target)))) (part_answer (chain (begun_with rows (at_most (flipped target)))))
    else one_answer (part_answer (chain (begun_with rows target)))

abbrev pub false_answer : Outcome → Result Found FindFault
false_answer (chains.Shown i) = Ok (founds.Shown (One (record { k = pos 0; m = signed i })))
false_answer chains.NotEntailed = Ok founds.NotEntailed
false_answer chains.Overflow = Err faults.Overflow
false_answer chains.TooLong = Err faults.TooLong

-- the answer to whether rows have no common solution
abbrev pub found_false : List Row → Result Found FindFault
found_false rows = false_answer (chain (begun rows))

-- the answer, unless memory ran out
abbrev pub Answers : Result Found FindFault → Result Found FindFault → Type 0
Answers result answer = (result ≡ Err faults.NoMemory) ⊎ (result ≡ answer)

-- a certificate is right, and none means that the rows do not entail the target
abbrev pub IsRightAnswer : List Row → Row → Found → Type 0
IsRightAnswer rows target (founds.Shown c) = IsRight rows target c
IsRightAnswer rows target founds.NotEntailed = ¬ Entails rows target

-- the one part shows that the rows have no common solution; none means that they have one
abbrev pub IsRightFalse : List Row → Found → Type 0
IsRightFalse rows (founds.Shown (One p)) = (p.k ≡ pos 0) × ShowsFalse rows p
IsRightFalse rows (founds.Shown (Two p q)) = ⊥
IsRightFalse rows founds.NotEntailed = (u : Valuation) × All (RowHolds u) rows
