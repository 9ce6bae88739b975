-- Each rule meets the record that the rank asks of it, and so keeps what is provable.
use Rattle.std.specs.Prelude.{◌≡◌, ℕ, ◌<◌, List, [], ◌∷◌, length, remove, slice_index_or, Bool, Contains}
use Rattle.clp_model.specs.declared.sort.Sort.TheVariants.{Num}
use Rattle.clp_model.specs.declared.tree.Tree.{Tree}
use Rattle.clp_model.specs.declared.predicate.Pred.{Pred}
use Rattle.clp_model.specs.Trees.{variables_in}
use Rattle.clp_model.specs.Clauses.{Clause, Row, sort_in}
use Rattle.clp_model.specs.Values.{GroundAtom}
use Rattle.clp_meaning.specs.Laws.{HaveSameInstances, without_atom}
use Rattle.clp_rank.specs.Ranked.{Ranked}
use Rattle.clp_rank.specs.Rules.{Unfolds, Narrows, With}
use Rattle.clp_rank.specs.Entries.{Entry, setting, RankedOver}
use Rattle.clause_model.specs.Canonical.{canonical_form}
use Rattle.linear_model.specs.Certificates.{Entails, Unsatisfiable}
use Rattle.clause_laws.specs.Laws.{HasNoInstance}
use Rattle.rule_laws.specs.Folding.{defined_in, IsFolding}
use Rattle.rule_laws.specs.Dropping.{IsSubsumption, IsUseless, IsDefinition}
use Rattle.replace_model.specs.Rows.{with_row, without_row, projected, equated, equation_of}
use Rattle.rule_laws.specs.Rows.{IsReplacement, IsDeletion}
use Rattle.rule_laws.specs.Steps.{IsUnfolding, IsMerge}

abbrev pub UnfoldingUnfolds : Type 0
UnfoldingUnfolds = (defined : GroundAtom → Bool) (live next : List Entry) (k : Entry) (i : ℕ) → IsUnfolding live next k i → Unfolds (setting defined) (Contains live) (Contains next) k

abbrev pub UnfoldingKeepsRank : Type 0
UnfoldingKeepsRank = (defined : GroundAtom → Bool) (base live next : List Entry) (k : Entry) (i : ℕ) → IsUnfolding live next k i → RankedOver defined base live → RankedOver defined base next

abbrev pub MergeNarrows : Type 0
MergeNarrows = (defined : GroundAtom → Bool) (live next : List Entry) (k : Entry) (first second : ℕ) → IsMerge live next k first second →
    Narrows (setting defined) (Contains live) (Contains next) k (record { clause = canonical_form (without_atom k.clause second); mark = k.mark })

abbrev pub MergeKeepsRank : Type 0
MergeKeepsRank = (defined : GroundAtom → Bool) (base live next : List Entry) (k : Entry) (first second : ℕ) → IsMerge live next k first second → RankedOver defined base live → RankedOver defined base next

-- ---- the rules on constraints
abbrev pub AddedRowKeepsInstances : Type 0
AddedRowKeepsInstances = (c : Clause) (r : Row) → Entails c.rows r → HaveSameInstances (with_row c r) c

abbrev pub DroppedRowKeepsInstances : Type 0
DroppedRowKeepsInstances = (c : Clause) (i : ℕ) (d : Row) → i < length c.rows → Entails (remove c.rows i) (slice_index_or c.rows i d) → HaveSameInstances (without_row c i) c

abbrev pub ProjectedClauseKeepsInstances : Type 0
ProjectedClauseKeepsInstances = (c : Clause) (v : ℕ) → c.equations ≡ [] → ¬ Contains (variables_in (c.head ∷ c.body)) v → HaveSameInstances (projected c v) c

abbrev pub EquatedClauseKeepsInstances : Type 0
EquatedClauseKeepsInstances = (c : Clause) (v w : ℕ) → c.equations ≡ [] → sort_in c.sorts v ≡ Num → sort_in c.sorts w ≡ Num → Entails c.rows (equation_of v w) → HaveSameInstances (equated c v w) c

abbrev pub FalseRowsHaveNoInstance : Type 0
FalseRowsHaveNoInstance = (c : Clause) → Unsatisfiable c.rows → HasNoInstance c

abbrev pub ReplacementKeepsRank : Type 0
ReplacementKeepsRank = (defined : GroundAtom → Bool) (base live next : List Entry) (k : Entry) (c : Clause) → HaveSameInstances c k.clause → IsReplacement live next k c → RankedOver defined base live → RankedOver defined base next

abbrev pub DeletionKeepsRank : Type 0
DeletionKeepsRank = (defined : GroundAtom → Bool) (base live next : List Entry) (k : Entry) → HasNoInstance k.clause → IsDeletion live next k → RankedOver defined base live → RankedOver defined base next

-- ---- folding, deletion and definition
abbrev pub FoldingKeepsRank : Type 0
FoldingKeepsRank = (preds : List Pred) (base live next : List Entry) (k n : Entry) (folded : Clause) (s : ℕ → Tree ℕ) → IsFolding preds base live next k n folded s →
    RankedOver (defined_in preds) base live → RankedOver (defined_in preds) base next

abbrev pub SubsumptionKeepsRank : Type 0
SubsumptionKeepsRank = (defined : GroundAtom → Bool) (base live next : List Entry) (k e : Entry) (s : ℕ → Tree ℕ) → IsSubsumption live next k e s → RankedOver defined base live → RankedOver defined base next

abbrev pub UselessKeepsRank : Type 0
UselessKeepsRank = (defined : GroundAtom → Bool) (set : List Pred) (base live next : List Entry) → IsUseless set live next → RankedOver defined base live → RankedOver defined base next

-- the definition joins the base and the live clauses
abbrev pub DefinitionKeepsRank : Type 0
DefinitionKeepsRank = (known preds preds' : List Pred) (base live : List Entry) (n : Entry) → IsDefinition known preds preds' base live n → RankedOver (defined_in preds) base live →
    Ranked (setting (defined_in preds')) (With (setting (defined_in preds)) (Contains base) n) (With (setting (defined_in preds)) (Contains live) n)
