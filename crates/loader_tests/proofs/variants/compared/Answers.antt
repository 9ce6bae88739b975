use Rattle.std.proofs.Common.{subst}
use Rattle.std.specs.Prelude.{Option, IfSome}
use Rattle.clause_store.specs.declared.clause.Clause.{Clause}
use Rattle.clause_store.specs.Stored.{IsStored}
use Rattle.clause_store.proofs.Kept.{is_stored_kept}
use Rattle.loader_tests.proofs.variants.compared.Goals as goal

pub variant-requires-clause-first : goal.variant-requires-clause-first
variant-requires-clause-first c =
    let P : Option Clause → Type 0 = λ o. IfSome o (IsStored c.load_one.new.store) in
    is_stored_kept c.load_one.new.store c.load_one-2.new.store c.in-Some.c c.load_one-2.ensures.keeps (subst P c.in-Some.is c.in_ok-c.ensures.stored)
