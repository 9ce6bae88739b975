use Rattle.linear_laws.proofs.Renamed.{renamed_holds, rising_renamed}
use Rattle.linear_laws.proofs.renaming_carries_the_valuation.Goals as goal

pub returns : goal.returns
returns c = record { holds = renamed_holds; rising = rising_renamed }
