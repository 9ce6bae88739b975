-- A quoted name whose escapes are read byte by byte.
use Rattle.std.proofs.Common.{◌≡◌, ◌<◌, ℕ, suc, ◌+◌, Bool, true, false, if◌then◌else◌, List, [], ◌∷◌, ◌++◌, length, drop, get_or, refl, ap, ◌∙◌, arith, add-one, append_assoc}
use Rattle.std.proofs.Math.Seq.{drop-cons}
use Rattle.token_model.specs.Names.{unescaped, after_mark}
use Rattle.token_cursor.specs.Escapes.{is_mark, meant}

-- what is left of a name, after a quote or a `\` or not
abbrev pub unescaped_from : Bool → List ℕ → List ℕ
unescaped_from marked text = if marked then after_mark text else unescaped text

kept : (marked : Bool) (b : ℕ) (text : List ℕ) → is_mark marked b ≡ false → unescaped_from marked (b ∷ text) ≡ meant marked b ∷ unescaped_from false text
unfolding unescaped after_mark
kept true b text h = refl
kept false b text h = rw h refl

left_out : (marked : Bool) (b : ℕ) (text : List ℕ) → is_mark marked b ≡ true → unescaped_from marked (b ∷ text) ≡ unescaped_from true text
unfolding unescaped after_mark
left_out true b text h = cc
left_out false b text h = rw h refl

-- a byte that is meant
pub kept_at : (marked : Bool) (name : List ℕ) (i : ℕ) → i < length name → is_mark marked (get_or name i 0) ≡ false
    → unescaped_from marked (drop i name) ≡ meant marked (get_or name i 0) ∷ unescaped_from false (drop (i + 1) name)
kept_at marked name i within h = rw (add-one, drop-cons name i 0) (kept marked (get_or name i 0) (drop (suc i) name) h)

-- a byte that only marks the next one
pub left_out_at : (marked : Bool) (name : List ℕ) (i : ℕ) → i < length name → is_mark marked (get_or name i 0) ≡ true
    → unescaped_from marked (drop i name) ≡ unescaped_from true (drop (i + 1) name)
left_out_at marked name i within h = rw (add-one, drop-cons name i 0) (left_out marked (get_or name i 0) (drop (suc i) name) h)

pub one_more : (marked m : Bool) (name : List ℕ) (i all len : ℕ) → i < length name → m ≡ is_mark marked (get_or name i 0) → m ≡ false
    → all ≡ len + length (unescaped_from marked (drop i name)) → all ≡ (len + 1) + length (unescaped_from m (drop (i + 1) name))
one_more marked m name i all len within e f h =
    let g : is_mark marked (get_or name i 0) ≡ false = cc in
    let k = ap length (kept_at marked name i within g) in
    rw f (omega arith)

pub no_more : (marked m : Bool) (name : List ℕ) (i all len : ℕ) → i < length name → m ≡ is_mark marked (get_or name i 0) → m ≡ true
    → all ≡ len + length (unescaped_from marked (drop i name)) → all ≡ len + length (unescaped_from m (drop (i + 1) name))
no_more marked m name i all len within e f h =
    let g : is_mark marked (get_or name i 0) ≡ true = cc in
    let k = ap length (left_out_at marked name i within g) in
    rw f (omega arith)

pub byte_more : (marked m : Bool) (name : List ℕ) (i : ℕ) (all items : List ℕ) → i < length name → m ≡ is_mark marked (get_or name i 0) → m ≡ false
    → all ≡ items ++ unescaped_from marked (drop i name) → all ≡ (items ++ (meant marked (get_or name i 0) ∷ [])) ++ unescaped_from m (drop (i + 1) name)
byte_more marked m name i all items within e f h =
    let g : is_mark marked (get_or name i 0) ≡ false = cc in
    rw (f, append_assoc) (h ∙ ap (λ (z : List ℕ). items ++ z) (kept_at marked name i within g))

pub no_byte_more : (marked m : Bool) (name : List ℕ) (i : ℕ) (all items : List ℕ) → i < length name → m ≡ is_mark marked (get_or name i 0) → m ≡ true
    → all ≡ items ++ unescaped_from marked (drop i name) → all ≡ items ++ unescaped_from m (drop (i + 1) name)
no_byte_more marked m name i all items within e f h =
    let g : is_mark marked (get_or name i 0) ≡ true = cc in
    rw f (h ∙ ap (λ (z : List ℕ). items ++ z) (left_out_at marked name i within g))
