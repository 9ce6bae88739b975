-- The examples, by computing.
use Rattle.std.proofs.Common.{refl}
use Rattle.linear_model.specs.Gcd.{gcd}
use Rattle.linear_examples.specs.Rows.{GcdOfTwelveAndEighteen, CombinedForms, NormalEquation, NormalInequality, NormalConstants, RenamedRows, NegatedRows, FlippedRow}
use Rattle.linear_examples.specs.Eliminations.{FactorsOfFourAndSix, ByAnEquation, ByBounds, ByUpperBoundsAlone, RepeatsAndConstants}
use Rattle.linear_examples.specs.Chains.{ChainShows, ChainFindsNothing, ChainShowsFalse, ChainLeavesTheRowLimit, ChainAtTheMultiplierLimit, ChainLeavesTheMultiplierLimit}

pub divisors : GcdOfTwelveAndEighteen
unfolding gcd
divisors = (refl, refl, refl, refl)

pub combined_forms : CombinedForms
combined_forms = refl

pub normal_equation : NormalEquation
unfolding gcd
normal_equation = refl

pub normal_inequality : NormalInequality
unfolding gcd
normal_inequality = refl

pub normal_constants : NormalConstants
unfolding gcd
normal_constants = (refl, refl)

pub renamed_rows : RenamedRows
renamed_rows = (refl, refl)

pub negated_rows : NegatedRows
negated_rows = (refl, refl)

pub flipped_row : FlippedRow
flipped_row = refl

pub factors_of : FactorsOfFourAndSix
unfolding gcd
factors_of = refl

pub by_an_equation : ByAnEquation
unfolding gcd
by_an_equation = refl

pub by_bounds : ByBounds
unfolding gcd
by_bounds = refl

pub by_upper_bounds_alone : ByUpperBoundsAlone
unfolding gcd
by_upper_bounds_alone = refl

pub repeats_and_constants : RepeatsAndConstants
unfolding gcd
repeats_and_constants = refl

pub chain_shows : ChainShows
unfolding gcd
chain_shows = (_, refl, refl)

pub finds_nothing : ChainFindsNothing
unfolding gcd
finds_nothing = refl

pub shows_false : ChainShowsFalse
unfolding gcd
shows_false = (_, refl, refl)

pub leaves_the_row_limit : ChainLeavesTheRowLimit
unfolding gcd
leaves_the_row_limit = refl

pub at_the_multiplier_limit : ChainAtTheMultiplierLimit
unfolding gcd
at_the_multiplier_limit = (_, refl, refl)

pub leaves_the_multiplier_limit : ChainLeavesTheMultiplierLimit
unfolding gcd
leaves_the_multiplier_limit = refl
