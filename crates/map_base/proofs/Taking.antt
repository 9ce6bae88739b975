-- Bytes that are taken piece by piece.
use Rattle.std.proofs.Common.{◌≡◌, ℕ, ◌+◌, ◌-◌, ◌++◌, ◌≤◌, List, length, take, drop, refl, arith, sym, ap, ◌∙◌, append_assoc, length-drop}
use Rattle.std.specs.Prelude.{Option, Some, None}
use Rattle.std.specs.Io.KnownBytes.{append_known}
use Rattle.map_base.specs.Outside.{TakesPrefix}
use Rattle.std.proofs.Math.Seq.{take-add}
use Rattle.std.proofs.lemmas.List.{take_rest as rest_whole, take-append-drop, take_at, length-take-le, drop-drop}

pub take_twice : (bytes : List ℕ) (at n : ℕ) → take at bytes ++ take n (drop at bytes) ≡ take (at + n) bytes
take_twice bytes at n = sym (take-add at n bytes)

pub take_rest : (bytes : List ℕ) (at : ℕ) → take at bytes ++ drop at bytes ≡ bytes
take_rest bytes at = take-append-drop at bytes

pub took_more : (known before now : Option (List ℕ)) (bytes : List ℕ) (at n : ℕ) → before ≡ append_known known (take at bytes) → now ≡ append_known before (take n (drop at bytes)) → now ≡ append_known known (take (at + n) bytes)
took_more None before now bytes at n e f = rw e at f
took_more (Some xs) before now bytes at n e f =
    let g : now ≡ Some ((xs ++ take at bytes) ++ take n (drop at bytes)) = rw e at f in
    g ∙ ap Some (append_assoc xs (take at bytes) (take n (drop at bytes)) ∙ ap (λ ys. xs ++ ys) (take_twice bytes at n))

pub took_some : (known now : Option (List ℕ)) (bytes : List ℕ) (at : ℕ) → now ≡ append_known known (take at bytes) → TakesPrefix known now bytes
took_some None now bytes at e = rw e tt
took_some (Some xs) now bytes at e = rw e (take at bytes, (drop at bytes, take_rest bytes at), refl)

-- the piece from a place on, as the code takes it
pub took_piece : (known before now : Option (List ℕ)) (bytes : List ℕ) (at n : ℕ) → before ≡ append_known known (take at bytes) → now ≡ append_known before (take n (take (length bytes - at) (drop at bytes))) → now ≡ append_known known (take (at + n) bytes)
took_piece known before now bytes at n e f = took_more known before now bytes at n e (rw (rest_whole bytes at) at f)

pub within_piece : (bytes : List ℕ) (at n : ℕ) → at ≤ length bytes → n ≤ length (take (length bytes - at) (drop at bytes)) → at + n ≤ length bytes
within_piece bytes at n w h = let e : n ≤ length (drop at bytes) = rw (rest_whole bytes at) at h in omega (arith, length-drop at bytes)

-- what a read put at the front of a buffer, and then what is left, is what was left before
pub read_first : (left copied behind bytes : List ℕ) (place n : ℕ) → copied ≡ take n left → left ≡ drop place bytes → n ≤ length left → drop place bytes ≡ take n (copied ++ behind) ++ drop (place + n) bytes
read_first left copied behind bytes place n e f h =
    let one : take n (copied ++ behind) ≡ take n left = rw e (take_at (take n left) behind n (length-take-le n left h)) in
    let two : drop (place + n) bytes ≡ drop n left = rw f (sym (drop-drop n place bytes)) in
    cc (take-append-drop n left)
