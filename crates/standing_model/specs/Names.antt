-- Which names and predicates are read, as tests.
use Rattle.std.specs.Prelude.{ℕ, Bool, not, ◌&&◌, nat_eq, nat_le, List, length, codes}
use Rattle.std.specs.Str.{bytes_eq}
use Rattle.token_model.specs.Names.{max_name}
use Rattle.clp_model.specs.declared.predicate.Pred.{Pred}

-- a name that is not too long
abbrev pub is_short : List ℕ → Bool
is_short name = nat_le (length name) max_name

-- any predicate but `true` without arguments
abbrev pub is_ordinary : Pred → Bool
is_ordinary p = not (bytes_eq p.name (codes "true") && nat_eq p.arity 0)
