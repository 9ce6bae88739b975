-- Clauses in a store that keeps their terms.
use Rattle.std.proofs.Common.{◌≡◌, ℕ, List, ◌∷◌, All, refl, ap, sym, subst}
use Rattle.clp_model.specs.declared.sort.Sort.{Sort}
use Rattle.clp_model.specs.declared.tree.Variable.{Variable}
use Rattle.clp_model.specs.declared.tree.Tree.{Tree}
use Rattle.clp_model.specs.Trees.{mapped, mapped_all, variables_in, IsApplication}
use Rattle.clp_model.specs.Clauses.{Clause as Meaning, Row}
use Rattle.clause_model.specs.Canonical.{IsCanonical}
use Rattle.clause_laws.proofs.Again.{same_parts}
use Rattle.term_store.specs.Trees.{AreIn, Keeps}
use Rattle.term_store.proofs.Keeping.{keeps_at, keeps_all, keeps_in}
use Rattle.clause_store.specs.declared.clause.Clause.{Clause}
use Rattle.clause_store.specs.declared.clause.RawClause.{RawClause}
use Rattle.clause_store.specs.Stored.{number_of, clause_of, clause_in, raw_in, HasSort, AreParts, IsRaw, IsStored}

pub clause_of_kept : (old new : List (Tree Variable)) (head : ℕ) (rows : List Row) (atoms : List ℕ) (sorts : List Sort) → Keeps old new → AreIn old (head ∷ atoms) → clause_of new head rows atoms sorts ≡ clause_of old head rows atoms sorts
clause_of_kept old new head rows atoms sorts keeps within =
    same_parts (ap (mapped number_of) (keeps_at old new keeps head within.0)) (ap (mapped_all number_of) (keeps_all old new keeps atoms within.1)) refl refl

pub parts_kept : (old new : List (Tree Variable)) (head : ℕ) (rows : List Row) (atoms : List ℕ) (sorts : List Sort) → Keeps old new → AreParts old head rows atoms sorts → AreParts new head rows atoms sorts
parts_kept old new head rows atoms sorts keeps parts =
    let same = keeps_all old new keeps (head ∷ atoms) parts.within in
    let P : List (Tree Variable) → Type 0 = All IsApplication in
    let Q : List (Tree Variable) → Type 0 = λ ts. All (HasSort sorts) (variables_in ts) in
    record {
      within = keeps_in old new keeps (head ∷ atoms) parts.within;
      applications = subst P (sym same) parts.applications;
      sorted = subst Q (sym same) parts.sorted;
      kept = parts.kept;
      nums = parts.nums;
    }

pub clause_in_kept : (old new : List (Tree Variable)) (c : Clause) → Keeps old new → IsStored old c → clause_in new c ≡ clause_in old c
clause_in_kept old new c keeps stored = clause_of_kept old new c.head c.rows c.atoms c.sorts keeps stored.parts.within

pub is_stored_kept : (old new : List (Tree Variable)) (c : Clause) → Keeps old new → IsStored old c → IsStored new c
is_stored_kept old new c keeps stored =
    let P : Meaning → Type 0 = IsCanonical in
    record {
      parts = parts_kept old new c.head c.rows c.atoms c.sorts keeps stored.parts;
      canonical = subst P (sym (clause_in_kept old new c keeps stored)) stored.canonical;
    }

pub raw_in_kept : (old new : List (Tree Variable)) (raw : RawClause) → Keeps old new → IsRaw old raw → raw_in new raw ≡ raw_in old raw
raw_in_kept old new raw keeps parts = clause_of_kept old new raw.head raw.rows raw.atoms raw.sorts keeps parts.within

pub is_raw_kept : (old new : List (Tree Variable)) (raw : RawClause) → Keeps old new → IsRaw old raw → IsRaw new raw
is_raw_kept old new raw keeps parts = parts_kept old new raw.head raw.rows raw.atoms raw.sorts keeps parts
