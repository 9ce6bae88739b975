use Rattle.std.proofs.Common.{◌≡◌, ◌&&◌, ◌∙◌, sym, nat_eq, Some, None, length, drop, take}
use Rattle.token_model.specs.White.{skipped}
use Rattle.token_at.specs.Before.{ends_in_number}
use Rattle.token_at.proofs.Places.{answer_is, token_stands}
use Rattle.token_at.proofs.place.next_token.Goals as goal

pub returns-in-Some-clause-value : goal.returns-in-Some-clause-value
returns-in-Some-clause-value c =
    let ahead_is : c.skip-ahead.result.now ≡ skipped (drop c.args.at c.args.text.now) = rw (c.split_at.ensures.back, c.as_bytes.ensures.value) at c.skip-ahead.ensures.value in
    let touches_is : c.touches_number.result ≡ (ends_in_number (take c.args.at c.args.text.now) && nat_eq (length c.skip-ahead.result.now) (length (drop c.args.at c.args.text.now))) = rw (c.split_at.ensures.front, c.split_at.ensures.back, c.as_bytes.ensures.value) at c.touches_number.ensures in
    rw c.placed.ensures (answer_is c.args.text.now c.args.at c.skip-ahead.result.now c.touches_number.result c.first_token-token.result (Some c.in-Some.kind) ahead_is touches_is c.first_token-token.ensures.value (sym c.in-Some.is ∙ c.fault_kind.ensures))

pub returns-in-None-clause-value : goal.returns-in-None-clause-value
returns-in-None-clause-value c =
    let ahead_is : c.skip-ahead.result.now ≡ skipped (drop c.args.at c.args.text.now) = rw (c.split_at.ensures.back, c.as_bytes.ensures.value) at c.skip-ahead.ensures.value in
    let touches_is : c.touches_number.result ≡ (ends_in_number (take c.args.at c.args.text.now) && nat_eq (length c.skip-ahead.result.now) (length (drop c.args.at c.args.text.now))) = rw (c.split_at.ensures.front, c.split_at.ensures.back, c.as_bytes.ensures.value) at c.touches_number.ensures in
    rw c.token_of.ensures (answer_is c.args.text.now c.args.at c.skip-ahead.result.now c.touches_number.result c.first_token-token.result None ahead_is touches_is c.first_token-token.ensures.value (sym c.in-None.is ∙ c.fault_kind.ensures))

pub returns-in-None-clause-whole : goal.returns-in-None-clause-whole
returns-in-None-clause-whole c =
    let stands = token_stands c.args.text.now c.args.at c.token_of.result c.utf8.text c.requires.place (sym (returns-in-None-clause-value c)) in
    (stands.from, stands.to)

pub returns-in-None-clause-token : goal.returns-in-None-clause-token
returns-in-None-clause-token c = (c.args.at, c.requires.place, sym (returns-in-None-clause-value c))
