-- Folding: atoms of a clause that are the body of a definition under a substitution give way to its head.
use Rattle.std.specs.Prelude.{◌≡◌, ◌⊎◌, ℕ, Bool, true, false, List, [], ◌++◌, map, Contains, All}
use Rattle.std.specs.List.{list_any}
use Rattle.clp_model.specs.declared.sort.Sort.TheVariants.{Num}
use Rattle.clp_model.specs.declared.tree.Tree.{Tree, Var}
use Rattle.clp_model.specs.declared.predicate.Pred.{Pred}
use Rattle.clp_model.specs.Trees.{variables, variables_in}
use Rattle.clp_model.specs.Values.{GroundAtom}
use Rattle.clp_model.specs.Clauses.{Clause, Row, sort_in}
use Rattle.clp_model.specs.Predicates.{predicate_of, ground_predicate, same_predicate}
use Rattle.linear_model.specs.Certificates.{Entails}
use Rattle.unify_model.specs.Substituting.{substituted}
use Rattle.fold_model.specs.Internal.{number_in}
use Rattle.fold_model.specs.Folded.{image_row}
use Rattle.clp_rank.specs.Rules.{Removed, Taken}
use Rattle.clp_rank.specs.Entries.{Entry}
use Rattle.clause_model.specs.Variables.{rows_variables}
use Rattle.clause_model.specs.Canonical.{canonical_form}
use Rattle.rule_laws.specs.Steps.{IsHeld}

-- whether an atom's predicate is in a list
abbrev pub is_among : List Pred → Pred → Bool
is_among preds p = list_any (λ q. same_predicate q p) preds

abbrev pub defined_in : List Pred → GroundAtom → Bool
defined_in preds a = is_among preds (ground_predicate a)

-- a Num variable becomes a Num variable
abbrev pub RespectsSorts : Clause → Clause → (ℕ → Tree ℕ) → Type 0
RespectsSorts n c s = (x : ℕ) → sort_in n.sorts x ≡ Num → (y : ℕ) × (s x ≡ Var y) × (sort_in c.sorts y ≡ Num)

-- a variable of the definition that is not in its head
abbrev pub IsInternal : Clause → ℕ → Type 0
IsInternal n x = Contains (variables_in n.body ++ rows_variables n.rows) x × ¬ Contains (variables n.head) x

-- the image of an internal variable is a variable of its sort, another one for each, and in no other place of the new clause
pub record KeepsInternal (c n : Clause) (s : ℕ → Tree ℕ) (kept : List Row) (rest : List (Tree ℕ)) : Type 0 where
  pub image : (x : ℕ) → IsInternal n x → s x ≡ Var (number_in (s x))
  pub sort : (x : ℕ) → IsInternal n x → sort_in c.sorts (number_in (s x)) ≡ sort_in n.sorts x
  pub own : (x y : ℕ) → IsInternal n x → IsInternal n y → number_in (s x) ≡ number_in (s y) → x ≡ y
  pub not_in_head : (x : ℕ) → IsInternal n x → ¬ Contains (variables c.head) (number_in (s x))
  pub not_in_rest : (x : ℕ) → IsInternal n x → ¬ Contains (variables_in rest) (number_in (s x))
  pub not_in_rows : (x : ℕ) → IsInternal n x → ¬ Contains (rows_variables kept) (number_in (s x))
  pub not_in_images : (x y : ℕ) → IsInternal n x → Contains (variables n.head) y → ¬ Contains (variables (s y)) (number_in (s x))

-- The clause `folded` is c with the atoms that the substitution makes of the body of the definition n replaced by what it
-- makes of its head; the rows that are dropped are entailed by those that are kept and the images of the definition's.
pub record IsFolded (c n folded : Clause) (s : ℕ → Tree ℕ) : Type 0 where
  pub respects : RespectsSorts n c s
  pub rest : List (Tree ℕ)
  pub taken : Taken c.body (map (substituted s) n.body) rest
  pub entailed : (r : Row) → Contains n.rows r → Entails c.rows (image_row s r)
  pub kept : List Row
  pub of_rows : (r : Row) → Contains kept r → Contains c.rows r
  pub dropped : (r : Row) → Contains c.rows r → Entails (kept ++ map (image_row s) n.rows) r
  pub internal : KeepsInternal c n s kept rest
  pub new_body : List (Tree ℕ)
  pub put : Removed (substituted s n.head) new_body rest
  pub is : folded ≡ record { head = c.head; equations = []; rows = kept; body = new_body; sorts = c.sorts }

-- the marked clause of k is replaced by the canonical form of the folded one, by the definition of a defined predicate,
-- whose body is of initial predicates, and of which there is no other clause in the base
pub record IsFolding (preds : List Pred) (base live next : List Entry) (k n : Entry) (folded : Clause) (s : ℕ → Tree ℕ) : Type 0 where
  pub was : Contains live k
  pub marked : k.mark ≡ true
  pub held : IsHeld k.clause
  pub definition : IsHeld n.clause
  pub in_base : Contains base n
  pub base_held : (e : Entry) → Contains base e → IsHeld e.clause
  pub only : (e : Entry) → Contains base e → predicate_of e.clause.head ≡ predicate_of n.clause.head → e ≡ n
  pub defined : is_among preds (predicate_of n.clause.head) ≡ true
  pub initial : All (λ t. is_among preds (predicate_of t) ≡ false) n.clause.body
  pub folds : IsFolded k.clause n.clause folded s
  pub now : Contains next (record { clause = canonical_form folded; mark = true })
  pub kept : (e : Entry) → Contains live e → (e ≡ k) ⊎ Contains next e
  pub old : (r : Entry) → Contains next r → (r ≡ record { clause = canonical_form folded; mark = true }) ⊎ Contains live r
