-- Entries in a store that keeps their terms.
use Rattle.std.proofs.Common.{◌≡◌, List, [], ◌∷◌, refl, ap}
use Rattle.std.specs.Prelude.{Option, Some, None}
use Rattle.term_store.specs.Trees.{Keeps}
use Rattle.clause_store.proofs.Kept.{clause_in_kept, is_stored_kept}
use Rattle.map_state.specs.declared.entry.Entry.{Entry as Row}
use Rattle.clause_store.specs.declared.clause.Clause.{Clause as Kept}
use Rattle.map_state.specs.Seen.{Trees, entries_in, definitions_in, AllStored, AllKept}

pub entries_kept : (old new : Trees) → Keeps old new → (rows : List (Option Row)) → AllStored old rows → entries_in new rows ≡ entries_in old rows
entries_kept old new k [] s = refl
entries_kept old new k (None ∷ rows) s = ap (λ es. None ∷ es) (entries_kept old new k rows s)
entries_kept old new k (Some e ∷ rows) s =
    let one = clause_in_kept old new e.clause k s.0 in
    let rest = entries_kept old new k rows s.1 in
    cc

pub all_stored_kept : (old new : Trees) → Keeps old new → (rows : List (Option Row)) → AllStored old rows → AllStored new rows
all_stored_kept old new k [] s = tt
all_stored_kept old new k (None ∷ rows) s = all_stored_kept old new k rows s
all_stored_kept old new k (Some e ∷ rows) s = (is_stored_kept old new e.clause k s.0, all_stored_kept old new k rows s.1)

pub definitions_kept : (old new : Trees) → Keeps old new → (cs : List Kept) → AllKept old cs → definitions_in new cs ≡ definitions_in old cs
definitions_kept old new k [] s = refl
definitions_kept old new k (c ∷ cs) s =
    let one = clause_in_kept old new c k s.0 in
    let rest = definitions_kept old new k cs s.1 in
    cc

pub all_kept_kept : (old new : Trees) → Keeps old new → (cs : List Kept) → AllKept old cs → AllKept new cs
all_kept_kept old new k [] s = tt
all_kept_kept old new k (c ∷ cs) s = (is_stored_kept old new c k s.0, all_kept_kept old new k cs s.1)
