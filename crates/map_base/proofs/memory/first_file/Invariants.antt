use Rattle.std.proofs.Common.{◌≡◌, drop}
use Rattle.map_base.specs.Outside.{file_of}
use Rattle.map_base.specs.Memory.{files_of}
use Rattle.map_base.proofs.memory.first_file.Given as goal

-- no file before this one has the name
abbrev pub invariant-loop-file : goal.invariant-loop-file
invariant-loop-file l = file_of (files_of (drop l.file-index l.files)) l.name ≡ file_of (files_of l.files) l.name
