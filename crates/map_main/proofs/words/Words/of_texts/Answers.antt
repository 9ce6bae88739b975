use Rattle.std.proofs.Common.{◌≡◌, ◌∷◌, [], ◌++◌, List, length, map, refl, sym, ap, ◌∙◌, append_assoc, append-nil, arith}
use Rattle.std.specs.Prelude.{string_bytes}
use Rattle.std.specs.Vec.Iter.{into_iter_items}
use Rattle.map_main.proofs.words.Words.of_texts.Goals as goal

-- one word more is pushed
pushed : {X Y : Type 0} (f : X → Y) (words more : List Y) (word : Y) (text : X) (left rest : List X) (all : List Y)
    → left ≡ text ∷ rest → word ≡ f text → more ≡ words ++ word ∷ [] → words ++ map f left ≡ all → more ++ map f rest ≡ all
pushed f words more word text left rest all steps is ok before =
    ap (λ ws. ws ++ map f rest) ok ∙ append_assoc words (word ∷ []) (map f rest) ∙ ap (λ w. words ++ w ∷ map f rest) is
    ∙ sym (ap (λ xs. words ++ map f xs) steps) ∙ before

nothing_left : {X : Type 0} (l : List X) → length l ≡ 0 → l ≡ []
nothing_left [] h = refl
nothing_left (x ∷ xs) h = absurd (omega arith)

pub loop-text-preserved : goal.loop-text-preserved
loop-text-preserved c =
    pushed string_bytes c.loop-text.words c.push.new.self c.as_str.result.now c.in-Some.text (into_iter_items c.loop-text.text-iterator) (into_iter_items c.next.new.self)
    (map string_bytes (into_iter_items c.args.texts)) c.in-Some.ensures.steps.0 c.as_str.ensures.value c.in_ok-push.ensures.ok c.loop-text.invariant

pub returns : goal.returns
returns c =
    let at = c.loop-text in
    let empty = nothing_left (into_iter_items at.text-iterator) (sym at.text-iterator.rest.ok.0 ∙ c.in-None.ensures.steps.0) in
    sym (append-nil at.words) ∙ ap (λ xs. at.words ++ map string_bytes xs) (sym empty) ∙ at.invariant
