-- What the forms in memory hold, and at which calls they fail.
use Rattle.std.specs.Prelude.{ℕ, ◌==◌, List, map, string_bytes, String, Vec, Bool, ◌||◌}
use Rattle.std.specs.List.{list_any}
use Rattle.std.specs.Global.{Global}
use Rattle.map_base.specs.Outside.{Files, raised}

-- the files as names and bytes
abbrev pub files_of : List (String Global × Vec ℕ Global) → Files
files_of files = map (λ f. (string_bytes f.0, f.1.items)) files

-- this call is one of those listed
abbrev pub lists : List ℕ → ℕ → Bool
lists fail call = list_any (λ number. number == call) fail

-- the next call fails: no piece is small enough, or it is listed
abbrev pub fails_next : ℕ → List ℕ → ℕ → Bool
fails_next most fail calls = (most == 0) || lists fail (raised calls)
