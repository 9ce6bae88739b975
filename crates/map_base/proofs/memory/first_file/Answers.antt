use Rattle.std.proofs.Common.{◌≡◌, sym, length, get_or, drop, suc, ◌∙◌, List, ℕ, string_bytes, Vec, Bool, true, false}
use Rattle.std.proofs.Math.Seq.{drop-cons}
use Rattle.std.proofs.Common.{◌<◌, add-one, refl, ap, String}
use Rattle.std.specs.Prelude.{Option, Some, cond}
use Rattle.std.specs.Global.{Global}
use Rattle.std.specs.Str.{bytes_eq}
use Rattle.map_base.specs.Outside.{file_of}
use Rattle.map_base.specs.Memory.{files_of}
use Rattle.map_base.proofs.memory.first_file.Goals as goal

-- the files from a place on
at_place : (files : List (String Global × Vec ℕ Global)) (i : ℕ) (f : String Global × Vec ℕ Global) (name : List ℕ) → i < length files → f ≡ get_or files i f → file_of (files_of (drop i files)) name ≡ cond (bytes_eq (string_bytes f.0) name) (Some f.1.items) (file_of (files_of (drop (suc i) files)) name)
at_place files i f name h e = rw (drop-cons files i f h, ← e) refl

-- the test found the name, or did not
hit : (b : Bool) (x y z : Option (List ℕ)) → b ≡ true → z ≡ cond b x y → z ≡ x
hit b x y z e p = rw e at p

miss : (b : Bool) (x y z : Option (List ℕ)) → b ≡ false → z ≡ cond b x y → z ≡ y
miss b x y z e p = rw e at p

-- the name of a file is the text that was compared
named : (b : Bool) (text bytes name : List ℕ) → b ≡ bytes_eq text name → text ≡ bytes → bytes_eq bytes name ≡ b
named b text bytes name e f = sym (rw f at e)

pub returns-then-eq : goal.returns-then-eq
returns-then-eq c =
    let p = at_place c.args.files.now c.loop-file.file-index c.file-item.result c.args.name.now c.loop-file-test.true c.file-item.is in
    let n = named _ _ _ c.args.name.now c.if-eq.ensures c.as_str.ensures.value in
    ap Some c.as_slice.ensures.value ∙ (sym (hit _ _ _ _ n p) ∙ c.loop-file.invariant)

pub loop-file-preserved : goal.loop-file-preserved
loop-file-preserved c =
    let p = at_place c.args.files.now c.loop-file.file-index c.file-item.result c.args.name.now c.loop-file-test.true c.file-item.is in
    let n = named _ _ _ c.args.name.now c.if-eq.ensures c.as_str.ensures.value in
    rw add-one (sym (miss _ _ _ _ n p) ∙ c.loop-file.invariant)
