-- Bytes that belong to no whole character.
use Rattle.std.specs.Prelude.{ℕ, ◌-◌, nat_lt, List, length, Option, Some, None, if◌then◌else◌}
use Rattle.std.specs.Str.Lossy.{utf8_valid_len}
use Rattle.token_model.specs.declared.fault.Kind.TheVariants as fault
use Rattle.token_model.specs.declared.fault.Fault.{Fault}

-- the first byte that belongs to no whole character of UTF-8
unfoldable pub not_utf8 : List ℕ → Option Fault
not_utf8 text = if nat_lt (utf8_valid_len text) (length text) then Some (record { left = length text - utf8_valid_len text; kind = fault.NotUtf8 }) else None
