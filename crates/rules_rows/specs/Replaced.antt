-- A variable in the place of another.
use Rattle.std.specs.Prelude.{ℕ}
use Rattle.clp_model.specs.declared.tree.Variable.{Variable}
use Rattle.replace_model.specs.Rows.{replacing}

-- the variable, or w of its sort where it is v
abbrev pub with_other : ℕ → ℕ → Variable → Variable
with_other v w x = record { number = replacing v w x.number; sort = x.sort }
