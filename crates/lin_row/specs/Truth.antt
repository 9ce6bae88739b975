-- What is known of a row's truth without its variables.
use Rattle.std.specs.Prelude.{if◌then◌else◌}
use Rattle.clp_model.specs.Clauses.{Row}
use Rattle.linear_model.specs.Normal.{is_constant, compares}
use Rattle.lin_row.specs.declared.truth.Truth.{Truth}
use Rattle.lin_row.specs.declared.truth.Truth.TheVariants.{Always, Never, Depends}

-- a row without variables always holds or never, and each other row depends on them
abbrev pub truth_of : Row → Truth
truth_of r = if is_constant r.pairs then (if compares r.rel r.constant then Always else Never) else Depends
