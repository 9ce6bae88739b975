use Rattle.clause_store.proofs.Kept.{is_stored_kept}
use Rattle.loader_tests.proofs.loads.is_again.Goals as goal

pub clause_text-requires : goal.clause_text-requires
clause_text-requires c = is_stored_kept c.copy_clause.new.to c.load_one.new.store c.in_ok-copy.copy c.load_one.ensures.keeps c.in_ok-copy.ensures.stored

pub variant-requires-clause-first : goal.variant-requires-clause-first
variant-requires-clause-first c = is_stored_kept c.copy_clause.new.to c.load_one.new.store c.in_ok-copy.copy c.load_one.ensures.keeps c.in_ok-copy.ensures.stored
