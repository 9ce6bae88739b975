-- The lines of texts that are too long, as they are printed.
use Rattle.std.proofs.Common.{◌≡◌, refl, codes}
use Rattle.std.specs.Fmt.{digits}
use Rattle.status_lines.specs.Lines.{long_program_line, long_script_line}

pub program_is_long : codes "bad program: longer than 1048576 bytes\n" ≡ long_program_line
unfolding digits long_program_line
program_is_long = refl

pub script_is_long : codes "bad script: longer than 16777216 bytes\n" ≡ long_script_line
unfolding digits long_script_line
script_is_long = refl
