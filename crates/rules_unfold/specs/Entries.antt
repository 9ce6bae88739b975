-- The entries of new clauses one after another.
use Rattle.std.specs.Prelude.{List, ◌++◌, Result, Ok, Err}
use Rattle.map_model.specs.declared.refusal.Refusal.{Refusal}
use Rattle.map_model.specs.State.{Entry}

-- the one entries and then the others, or why the first refused clause is refused
abbrev pub then_entries : Result (List Entry) Refusal → Result (List Entry) Refusal → Result (List Entry) Refusal
then_entries (Ok es) (Ok fs) = Ok (es ++ fs)
then_entries (Ok es) (Err refusal) = Err refusal
then_entries (Err refusal) rest = Err refusal
