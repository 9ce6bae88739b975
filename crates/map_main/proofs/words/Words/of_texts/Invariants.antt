use Rattle.std.proofs.Common.{◌≡◌, ◌++◌, map}
use Rattle.std.specs.Prelude.{string_bytes}
use Rattle.std.specs.Vec.Iter.{into_iter_items}
use Rattle.map_main.proofs.words.Words.of_texts.Given as goal

-- the words so far, and then those that are left
abbrev pub invariant-loop-text : goal.invariant-loop-text
invariant-loop-text l = l.words ++ map string_bytes (into_iter_items l.text-iterator) ≡ map string_bytes (into_iter_items l.fn.texts)
