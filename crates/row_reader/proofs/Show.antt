-- The place of the word `show`, from what remains behind it.
use Rattle.std.proofs.Common.{◌≡◌, ℕ, length, ap, codes, arith, length-drop, length-take}
use Rattle.token_model.specs.Remaining.{Remaining, spelling, next, left, ahead, next_token}
use Rattle.row_reader.specs.Places.{from_show}

pub left_at_show : (r s : Remaining) → spelling r ≡ codes "show" → s ≡ next r → left r ≡ from_show s
unfolding spelling next left
left_at_show r s word after =
    let n : ℕ = (next_token r).len in
    omega (arith, ap length word, length-take n (ahead r), length-drop n (ahead r), ap (λ (x : Remaining). length x.text) after)
