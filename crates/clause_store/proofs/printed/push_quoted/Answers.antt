use Rattle.std.proofs.Common.{ap, ◌∙◌, sym}
use Rattle.std.specs.Prelude.{string_bytes}
use Rattle.std.proofs.lemmas.Iterator.{YieldsList-from_chars}
use Rattle.std.proofs.lemmas.Iterator.Consumers.{YieldsList-end}
use Rattle.std.proofs.lemmas.List.{map-id}
use lib.Utf8.{encodes}
use Rattle.clause_store.proofs.Escapes.{spelled, quoted_more, quoted_end}
use Rattle.clause_store.proofs.printed.push_quoted.Goals as goal

pub loop-c-preserved : goal.loop-c-preserved
loop-c-preserved c =
    quoted_more (string_bytes c.args.into.now) (string_bytes c.loop-c.into) (string_bytes c.push_escaped.new.into) c.loop-c.yielded c.in-Some.c c.loop-c.invariant c.in_ok-push_escaped.ensures

pub returns : goal.returns
returns c =
    let t = YieldsList-end (YieldsList-from_chars c.args.name.now c.utf8.name cc) c.loop-c.yielded _ c.loop-c.yielded_by _ _ c.in-None.is c.next.ensures.steps in
    let all = ap encodes (sym (map-id c.loop-c.yielded) ∙ t.0) ∙ spelled c.args.name.now c.utf8.name in
    quoted_end c.push-2.result (string_bytes c.args.into.now) (string_bytes c.loop-c.into) (string_bytes c.push-2.new.self) c.args.name.now c.loop-c.yielded c.loop-c.invariant all c.push-2.ensures.bytes
