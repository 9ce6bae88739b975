-- How loading goes on from one clause to the next.
use Rattle.std.proofs.Common.{◌≡◌, ℕ, suc, ◌+◌, ◌<◌, ◌≤◌, List, [], ◌∷◌, ◌++◌, length, drop, get_or, refl, ap, ◌∙◌, sym, subst, arith, map, add-one, Bool}
use Rattle.std.specs.Prelude.{Option, Some, None, Result, Ok, Err, if◌then◌else◌}
use Rattle.std.proofs.lemmas.Bool.{lt-ltb, le-ltb}
use Rattle.std.proofs.lemmas.List.{drop_all}
use Rattle.clp_model.specs.declared.limit.Limit.{Limit}
use Rattle.clp_model.specs.declared.limit.Limit.TheVariants.{Nodes}
use Rattle.clp_model.specs.declared.tree.Variable.{Variable}
use Rattle.clp_model.specs.declared.tree.Tree.{Tree}
use Rattle.clp_model.specs.Clauses.{Clause as Meaning}
use Rattle.clp_model.specs.Canonical.{clause_size}
use Rattle.clause_model.specs.Canonical.{Overflow, TooLarge}
use Rattle.clause_model.specs.Load.{Refused, counted, loaded_after, load_one, sizes_of}
use Rattle.term_store.specs.Trees.{Keeps}
use Rattle.clause_store.specs.declared.source.SourceClause.{SourceClause}
use Rattle.clause_store.specs.declared.clause.Clause.{Clause}
use Rattle.clause_store.specs.Source.{meaning_of}
use Rattle.clause_store.proofs.Kept.{clause_in_kept, is_stored_kept}
use Rattle.clause_loader.specs.declared.program.LoadFault.{LoadFault}
use Rattle.clause_loader.specs.declared.program.LoadFault.TheVariants as fault
use Rattle.clause_loader.specs.Loaded.{place_in, clauses_in, IsStoredPlace, AreStored, IsStopped, StopsAt}
use Rattle.clause_loader.proofs.Items.{drop_more}

-- ---- in a store that keeps its terms
place_kept : (old new : List (Tree Variable)) (o : Option Clause) → Keeps old new → IsStoredPlace old o → place_in new o ≡ place_in old o
place_kept old new None k h = refl
place_kept old new (Some c) k h = ap (λ (m : Meaning). Some m) (clause_in_kept old new c k h)

stored_kept : (old new : List (Tree Variable)) (o : Option Clause) → Keeps old new → IsStoredPlace old o → IsStoredPlace new o
stored_kept old new None k h = tt
stored_kept old new (Some c) k h = is_stored_kept old new c k h

clauses_kept : (old new : List (Tree Variable)) (cs : List (Option Clause)) → Keeps old new → AreStored old cs → clauses_in new cs ≡ clauses_in old cs
clauses_kept old new [] k all = refl
clauses_kept old new (o ∷ cs) k all =
    let one = place_kept old new o k all.0 in
    let rest = clauses_kept old new cs k all.1 in
    cc

are_stored_kept : (old new : List (Tree Variable)) (cs : List (Option Clause)) → Keeps old new → AreStored old cs → AreStored new cs
are_stored_kept old new [] k all = tt
are_stored_kept old new (o ∷ cs) k all = (stored_kept old new o k all.0, are_stored_kept old new cs k all.1)

clauses_push : (store : List (Tree Variable)) (cs : List (Option Clause)) (o : Option Clause) → clauses_in store (cs ++ o ∷ []) ≡ clauses_in store cs ++ place_in store o ∷ []
clauses_push store [] o = refl
clauses_push store (x ∷ cs) o = ap (λ (v : List (Option Meaning)). place_in store x ∷ v) (clauses_push store cs o)

stored_push : (store : List (Tree Variable)) (cs : List (Option Clause)) (o : Option Clause) → AreStored store cs → IsStoredPlace store o → AreStored store (cs ++ o ∷ [])
stored_push store [] o all one = (one, tt)
stored_push store (x ∷ cs) o all one = (all.0, stored_push store cs o all.1 one)

-- one more clause is stored
pub stored_more : (old new : List (Tree Variable)) (cs more : List (Option Clause)) (o : Option Clause) → Keeps old new → AreStored old cs → IsStoredPlace new o → more ≡ cs ++ o ∷ [] → AreStored new more
stored_more old new cs more o k all one is =
    let P : List (Option Clause) → Type 0 = AreStored new in
    subst P (sym is) (stored_push new cs o (are_stored_kept old new cs k all) one)

-- ---- one clause
abbrev next : ℕ → List (Option Meaning) → List Meaning → Option Meaning → ℕ → Result (List (Option Meaning)) Refused
next place found rest d more = loaded_after (suc place) (found ++ d ∷ []) more rest

pub stops_overflow : (place nodes : ℕ) (c : Meaning) → load_one c ≡ Err Overflow → StopsAt place nodes c (fault.Overflow place)
stops_overflow place nodes c e = λ found rest. ap (counted place nodes (next place found rest)) e

pub stops_large : (place nodes : ℕ) (c : Meaning) (limit : Limit) → load_one c ≡ Err (TooLarge limit) → StopsAt place nodes c (fault.TooLarge place limit)
stops_large place nodes c limit e = λ found rest. ap (counted place nodes (next place found rest)) e

pub stops_many : (place nodes : ℕ) (c d : Meaning) → load_one c ≡ Ok (Some d) → 8388608 < nodes + clause_size d → StopsAt place nodes c (fault.TooLarge place Nodes)
stops_many place nodes c d e many = λ found rest.
    ap (counted place nodes (next place found rest)) e
    ∙ ap (λ (b : Bool). if b then Err (place, TooLarge Nodes) else next place found rest (Some d) (nodes + clause_size d)) (lt-ltb 8388608 (nodes + clause_size d) many)

goes_on : (place nodes sum : ℕ) (c : Meaning) (found : List (Option Meaning)) (rest : List Meaning) (o : Option Meaning) → load_one c ≡ Ok o → sum ≡ nodes + sizes_of (o ∷ []) → sum ≤ 8388608
    → loaded_after place found nodes (c ∷ rest) ≡ loaded_after (suc place) (found ++ o ∷ []) sum rest
goes_on place nodes sum c found rest None e is few =
    let n : nodes ≡ sum = omega (arith, is) in
    ap (counted place nodes (next place found rest)) e ∙ ap (λ (k : ℕ). next place found rest None k) n
goes_on place nodes sum c found rest (Some d) e is few =
    let n : nodes + clause_size d ≡ sum = omega (arith, is) in
    ap (counted place nodes (next place found rest)) e
    ∙ ap (λ (b : Bool). if b then Err (place, TooLarge Nodes) else next place found rest (Some d) (nodes + clause_size d)) (le-ltb 8388608 (nodes + clause_size d) (omega (arith, is, few)))
    ∙ ap (λ (k : ℕ). next place found rest (Some d) k) n

-- ---- what loading gives from the clause at i on
abbrev pub loaded_from : List SourceClause → ℕ → List (Option Meaning) → ℕ → Result (List (Option Meaning)) Refused
loaded_from source i found nodes = loaded_after (suc i) found nodes (map meaning_of (drop i source))

next_source : (source : List SourceClause) (i : ℕ) (s : SourceClause) → i < length source → s ≡ get_or source i s → map meaning_of (drop i source) ≡ meaning_of s ∷ map meaning_of (drop (i + 1) source)
next_source source i s within item = ap (map meaning_of) (drop_more source i s within item)

-- one more clause is loaded
pub loaded_more : (old new : List (Tree Variable)) (source : List SourceClause) (i nodes sum : ℕ) (cs more : List (Option Clause)) (o : Option Clause) (s : SourceClause)
    → i < length source → s ≡ get_or source i s → Keeps old new → AreStored old cs → load_one (meaning_of s) ≡ Ok (place_in new o) → sum ≡ nodes + sizes_of (place_in new o ∷ [])
    → sum ≤ 8388608 → more ≡ cs ++ o ∷ []
    → loaded_from source i (clauses_in old cs) nodes ≡ loaded_from source (i + 1) (clauses_in new more) sum
loaded_more old new source i nodes sum cs more o s within item k all made counts few is =
    let rest = map meaning_of (drop (i + 1) source) in
    let found : clauses_in old cs ++ place_in new o ∷ [] ≡ clauses_in new more =
    ap (λ (v : List (Option Meaning)). v ++ place_in new o ∷ []) (sym (clauses_kept old new cs k all)) ∙ sym (clauses_push new cs o) ∙ ap (clauses_in new) (sym is) in
    ap (loaded_after (suc i) (clauses_in old cs) nodes) (next_source source i s within item)
    ∙ goes_on (suc i) nodes sum (meaning_of s) (clauses_in old cs) rest (place_in new o) made counts few
    ∙ ap (λ (v : List (Option Meaning)). loaded_after (suc (suc i)) v sum rest) found
    ∙ ap (λ (n : ℕ). loaded_after (suc n) (clauses_in new more) sum rest) (sym (add-one i))

-- loading stops at this clause
pub stopped : (source : List SourceClause) (i place nodes : ℕ) (found : List (Option Meaning)) (s : SourceClause) (f : LoadFault)
    → i < length source → s ≡ get_or source i s → place ≡ suc i → loaded_from source 0 [] 0 ≡ loaded_from source i found nodes → StopsAt place nodes (meaning_of s) f
    → IsStopped (loaded_after 1 [] 0 (map meaning_of source)) f
stopped source i place nodes found s f within item at rest h =
    let P : Result (List (Option Meaning)) Refused → Type 0 = λ r. IsStopped r f in
    let Q : ℕ → Type 0 = λ p. StopsAt p nodes (meaning_of s) f in
    let there = subst Q at h found (map meaning_of (drop (i + 1) source)) in
    subst P (sym (rest ∙ ap (loaded_after (suc i) found nodes) (next_source source i s within item))) there

-- after the last clause
pub loaded_last : (source : List SourceClause) (i nodes : ℕ) (found : List (Option Meaning)) → length source ≤ i → loaded_from source 0 [] 0 ≡ loaded_from source i found nodes
    → loaded_after 1 [] 0 (map meaning_of source) ≡ Ok found
loaded_last source i nodes found end rest = rest ∙ ap (λ (v : List SourceClause). loaded_after (suc i) found nodes (map meaning_of v)) (drop_all i source end)
