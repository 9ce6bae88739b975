-- The laws of clauses with rows and equations.
use Rattle.std.specs.Prelude.{◌≡◌, ◌↔◌, List, [], ◌∷◌, Option, Some, None, Ok}
use Rattle.clp_model.specs.Values.{GroundAtom}
use Rattle.clp_model.specs.Clauses.{Clause, Instance}
use Rattle.clp_meaning.specs.Laws.{HaveSameInstances}
use Rattle.clause_model.specs.Canonical.{canonical_form, new_clause, HasRisingRows, IsCanonical}
use Rattle.clause_model.specs.Solved.{solved_clause, RowsAreNum}
use Rattle.clause_model.specs.Load.{load_one, load, Program}
use Rattle.clause_model.specs.Source.{source_of}
use Rattle.clause_model.specs.Variants.{IsClosed, AreVariants}

abbrev pub HasNoInstance : Clause → Type 0
HasNoInstance c = (a : GroundAtom) (body : List GroundAtom) → ¬ Instance c a body

-- a clause without equations and its canonical form have the same instances, rows and Num variables included
abbrev pub CanonicalFormKeepsInstances : Type 0
CanonicalFormKeepsInstances = (c : Clause) → c.equations ≡ [] → HaveSameInstances (canonical_form c) c

abbrev pub CanonicalFormIsItsOwn : Type 0
CanonicalFormIsItsOwn = (c : Clause) → HasRisingRows c → canonical_form (canonical_form c) ≡ canonical_form c

-- what a new clause becomes is its canonical form, which is canonical, in range and within the limits
abbrev pub NewClauseIsCanonical : Type 0
NewClauseIsCanonical = (c d : Clause) → HasRisingRows c → new_clause c ≡ Ok d → (d ≡ canonical_form c) × IsCanonical d

abbrev pub CanonicalClauseStays : Type 0
CanonicalClauseStays = (c : Clause) → IsCanonical c → new_clause c ≡ Ok c

-- two closed clauses have one canonical form exactly where a renaming that keeps sorts maps one to the other
abbrev pub VariantsHaveOneCanonicalForm : Type 0
VariantsHaveOneCanonicalForm = (c d : Clause) → HasRisingRows c → HasRisingRows d → IsClosed c → IsClosed d → (canonical_form c ≡ canonical_form d) ↔ AreVariants c d

-- the clause with its equations solved has the same instances, and there is none exactly where it has no instance
abbrev pub SolvedClauseKeepsInstances : Type 0
SolvedClauseKeepsInstances = (c d : Clause) → RowsAreNum c → solved_clause c ≡ Some d → HaveSameInstances d c

abbrev pub UnsolvedClauseHasNoInstance : Type 0
UnsolvedClauseHasNoInstance = (c : Clause) → solved_clause c ≡ None → HasNoInstance c

-- a source clause and the clause that it is loaded as have the same instances, and the clause is canonical
abbrev pub LoadedClauseKeepsInstances : Type 0
LoadedClauseKeepsInstances = (c d : Clause) → RowsAreNum c → load_one c ≡ Ok (Some d) → HaveSameInstances d c × IsCanonical d

-- a source clause that is left out has none
abbrev pub LeftOutClauseHasNoInstance : Type 0
LeftOutClauseHasNoInstance = (c : Clause) → load_one c ≡ Ok None → HasNoInstance c

-- a place of a loaded program has a canonical clause with the instances of its source clause, or is empty and the
-- source clause has none
abbrev pub Stands : Option Clause → Clause → Type 0
Stands (Some d) c = HaveSameInstances d c × IsCanonical d
Stands None c = HasNoInstance c

abbrev pub AllStand : List (Option Clause) → List Clause → Type 0
AllStand [] [] = Unit {0}
AllStand [] (c ∷ cs) = ⊥
AllStand (d ∷ ds) [] = ⊥
AllStand (d ∷ ds) (c ∷ cs) = Stands d c × AllStand ds cs

abbrev pub AllNum : List Clause → Type 0
AllNum [] = Unit {0}
AllNum (c ∷ cs) = RowsAreNum c × AllNum cs

abbrev pub LoadingKeepsInstances : Type 0
LoadingKeepsInstances = (source : List Clause) (p : Program) → AllNum source → load source ≡ Ok p → AllStand p.clauses source

-- the source of a canonical clause is loaded as this clause
abbrev pub SourceIsLoadedAgain : Type 0
SourceIsLoadedAgain = (c : Clause) → IsCanonical c → load_one (source_of c) ≡ Ok (Some c)
