-- Deleting what another clause covers, and the clauses of predicates that nothing can prove; and definitions.
use Rattle.std.specs.Prelude.{◌≡◌, ◌⊎◌, ℕ, true, false, List, map, Contains, All}
use Rattle.clp_model.specs.declared.tree.Tree.{Tree}
use Rattle.clp_model.specs.declared.predicate.Pred.{Pred}
use Rattle.clp_model.specs.Values.{GroundAtom}
use Rattle.clp_model.specs.Clauses.{Clause, Row}
use Rattle.clp_model.specs.Predicates.{predicate_of, ground_predicate}
use Rattle.linear_model.specs.Certificates.{Entails}
use Rattle.unify_model.specs.Substituting.{substituted}
use Rattle.clp_rank.specs.Rules.{Taken}
use Rattle.clp_rank.specs.Entries.{Entry}
use Rattle.rule_laws.specs.Steps.{IsHeld}
use Rattle.rule_laws.specs.Folding.{is_among, RespectsSorts}
use Rattle.fold_model.specs.Folded.{image_row}

-- the clause e covers the clause c: a substitution makes c's head of its head, atoms at places of c of its atoms, and
-- rows that c's rows entail of its rows
pub record Covers (e c : Clause) (s : ℕ → Tree ℕ) : Type 0 where
  pub respects : RespectsSorts e c s
  pub head : substituted s e.head ≡ c.head
  pub rest : List (Tree ℕ)
  pub taken : Taken c.body (map (substituted s) e.body) rest
  pub entailed : (r : Row) → Contains e.rows r → Entails c.rows (image_row s r)

-- the marked k is removed, since e, which stays, covers it
pub record IsSubsumption (live next : List Entry) (k e : Entry) (s : ℕ → Tree ℕ) : Type 0 where
  pub stays : Contains next e
  pub marked : k.mark ≡ true
  pub held : IsHeld e.clause
  pub covers : Covers e.clause k.clause s
  pub kept : (x : Entry) → Contains live x → (x ≡ k) ⊎ Contains next x
  pub old : (x : Entry) → Contains next x → Contains live x

-- the clauses whose heads have predicates of the set are removed, each of which has an atom with a predicate of the set
pub record IsUseless (set : List Pred) (live next : List Entry) : Type 0 where
  pub held : (x : Entry) → Contains live x → IsHeld x.clause
  pub kept : (x : Entry) → Contains live x → (is_among set (predicate_of x.clause.head) ≡ true) ⊎ Contains next x
  pub loops : (x : Entry) → Contains live x → is_among set (predicate_of x.clause.head) ≡ true → (t : Tree ℕ) × Contains x.clause.body t × (is_among set (predicate_of t) ≡ true)
  pub old : (x : Entry) → Contains next x → Contains live x

-- the head and the atoms of the clause have predicates of this list
pub record IsKnown (known : List Pred) (c : Clause) : Type 0 where
  pub head : is_among known (predicate_of c.head) ≡ true
  pub atoms : All (λ t. is_among known (predicate_of t) ≡ true) c.body

-- n, unmarked, defines a predicate that is not among the known, from predicates that are not defined
pub record IsDefinition (known preds preds' : List Pred) (base live : List Entry) (n : Entry) : Type 0 where
  pub base_held : (x : Entry) → Contains base x → IsHeld x.clause × IsKnown known x.clause
  pub live_held : (x : Entry) → Contains live x → IsHeld x.clause × IsKnown known x.clause
  pub same : (p : Pred) → is_among known p ≡ true → is_among preds' p ≡ is_among preds p
  pub held : IsHeld n.clause
  pub fresh : is_among known (predicate_of n.clause.head) ≡ false
  pub defined : is_among preds' (predicate_of n.clause.head) ≡ true
  pub initial : All (λ t. is_among preds' (predicate_of t) ≡ false) n.clause.body
  pub unmarked : n.mark ≡ false

-- the atoms with a predicate of the list
abbrev pub OfKnown : List Pred → GroundAtom → Type 0
OfKnown known a = is_among known (ground_predicate a) ≡ true
