-- The bytes of a name.
use Rattle.std.specs.Prelude.{ℕ, List, string_bytes}
use Rattle.clp_model.specs.declared.name.Text.{Text}
use Rattle.clp_model.specs.declared.name.Text.TheVariants as text

abbrev pub bytes_of : Text → List ℕ
bytes_of (text.Short name) = name.bytes
bytes_of (text.Long name) = string_bytes name
