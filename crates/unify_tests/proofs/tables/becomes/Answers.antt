use Rattle.term_store.proofs.Keeping.{keeps_trans}
use Rattle.substitution.proofs.Kept.{is_of_kept}
use Rattle.unify_tests.proofs.tables.becomes.Goals as goal

pub apply-requires-clause-of : goal.apply-requires-clause-of
apply-requires-clause-of c =
    is_of_kept c.args.store.now c.put-2.new.store (keeps_trans c.args.store.now c.put.new.store c.put-2.new.store c.in_ok-t.ensures.keeps c.in_ok-wanted.ensures.keeps) c.args.s.now c.requires

pub returns : goal.returns
returns c =
    is_of_kept c.args.store.now c.apply.new.store
    (keeps_trans c.args.store.now c.put-2.new.store c.apply.new.store (keeps_trans c.args.store.now c.put.new.store c.put-2.new.store c.in_ok-t.ensures.keeps c.in_ok-wanted.ensures.keeps) c.apply.ensures.keeps)
    c.args.s.now c.requires
