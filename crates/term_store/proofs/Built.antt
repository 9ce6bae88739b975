-- The trees that entries stand for.
use Rattle.std.proofs.Common.{◌≡◌, ℕ, ◌+◌, ◌<◌, List, [], ◌∷◌, ◌++◌, length, refl, ap, ◌∙◌, sym, arith, get_or, append_assoc, subst, zero, suc, add-zero, zero-add}
use Rattle.std.proofs.lemmas.Grind.{common_steps}
use Rattle.std.proofs.Math.Seq.{get_or-append_seam}
use Rattle.clp_model.specs.declared.sort.Sort.{Sort}
use Rattle.clp_model.specs.declared.sort.Sort.TheVariants.{Any}
use Rattle.clp_model.specs.declared.tree.Variable.{Variable}
use Rattle.clp_model.specs.declared.tree.Tree.{Tree, App}
use Rattle.term_store.specs.declared.store.Node.{Node}
use Rattle.term_store.specs.declared.store.Node.TheVariants as node
use Rattle.term_store.specs.declared.store.Entry.{Entry}
use Rattle.term_store.specs.Trees.{variable, tree_at, HasTree, IsSmall, Keeps}
use Rattle.term_store.specs.Entries.{tree_of, HasArguments, IsVariable, IsEntry, Measures, Stands, built, AreEntries}
use Rattle.term_store.proofs.Keeping.{keeps_at, keeps_all, keeps_in}

-- one more entry stands for one more tree
pub built_push : (all : List ℕ) (before : List (Tree Variable)) (es : List Entry) (e : Entry) → built all before (es ++ e ∷ []) ≡ built all before es ++ tree_of all (built all before es) e.node ∷ []
built_push all before [] e = refl
built_push all before (d ∷ es) e = built_push all (before ++ tree_of all before d.node ∷ []) es e

pub entries_push : (all : List ℕ) (before : List (Tree Variable)) (es : List Entry) (e : Entry) → AreEntries all before es → IsEntry all (built all before es) e → AreEntries all before (es ++ e ∷ [])
entries_push all before [] e are one = (one, tt)
entries_push all before (d ∷ es) e are one = (are.0, entries_push all (before ++ tree_of all before d.node ∷ []) es e are.1 one)

length_snoc : (xs : List (Tree Variable)) (t : Tree Variable) → length (xs ++ t ∷ []) ≡ length xs + 1
length_snoc xs t = grind (arith, common_steps)

-- there is a tree for each entry
pub length_built : (all : List ℕ) (before : List (Tree Variable)) (es : List Entry) → length (built all before es) ≡ length before + length es
length_built all before [] = omega arith
length_built all before (e ∷ es) =
    omega (arith, length_built all (before ++ tree_of all before e.node ∷ []) es, length_snoc before (tree_of all before e.node))

-- what comes later leaves what was there
pub built_keeps : (all : List ℕ) (before : List (Tree Variable)) (es : List Entry) → Keeps before (built all before es)
built_keeps all before [] = record { more = []; is = grind (arith, common_steps) }
built_keeps all before (e ∷ es) =
    let rest = built_keeps all (before ++ tree_of all before e.node ∷ []) es in
    record { more = tree_of all before e.node ∷ rest.more; is = rest.is ∙ append_assoc before (tree_of all before e.node ∷ []) rest.more }

-- an entry stands for the same tree in a store that keeps what it names
pub tree_of_keeps : (all : List ℕ) (old new : List (Tree Variable)) → Keeps old new → (n : Node) → HasArguments all old n → tree_of all new n ≡ tree_of all old n
tree_of_keeps all old new k (node.Var n s) h = refl
tree_of_keeps all old new k (node.App name span) h = ap (App name) (keeps_all old new k _ h.are)

has_arguments_keeps : (all : List ℕ) (old new : List (Tree Variable)) → Keeps old new → (n : Node) → HasArguments all old n → HasArguments all new n
has_arguments_keeps all old new k (node.Var n s) h = tt
has_arguments_keeps all old new k (node.App name span) h =
    record { order = h.order; within = h.within; are = keeps_in old new k _ h.are }

pub measures_as : (a b : Tree Variable) (e : Entry) → a ≡ b → Measures a e.size e.depth → Measures b e.size e.depth
measures_as a b e same h = let P : Tree Variable → Type 0 = λ t. Measures t e.size e.depth in subst P same h

pub entry_keeps : (all : List ℕ) (old new : List (Tree Variable)) → Keeps old new → (e : Entry) → IsEntry all old e → IsEntry all new e
entry_keeps all old new k e h =
    record {
      arguments = has_arguments_keeps all old new k e.node h.arguments;
      measures = measures_as _ _ e (sym (tree_of_keeps all old new k e.node h.arguments)) h.measures;
    }

pub at_place : (all : List ℕ) (before : List (Tree Variable)) (es : List Entry) (i : ℕ) (d : Entry) → AreEntries all before es → i < length es
    → Stands all (built all before es) (length before + i) (get_or es i d)
at_place all before [] i d are h = absurd (omega arith)
at_place all before (e ∷ es) zero d are h =
    let tree = tree_of all before e.node in
    let next = before ++ tree ∷ [] in
    let within : length before + 0 < length next = omega (arith, length_snoc before tree) in
    let kept = built_keeps all before (e ∷ es) in
    record {
      is = keeps_at next (built all next es) (built_keeps all next es) (length before + 0) within
          ∙ ap (tree_at next) (add-zero (length before)) ∙ get_or-append_seam before tree [] (variable 0 Any) ∙ sym (tree_of_keeps all before (built all next es) kept e.node are.0.arguments);
      entry = entry_keeps all before (built all next es) kept e are.0;
    }
at_place all before (e ∷ es) (suc i) d are h =
    let next = before ++ tree_of all before e.node ∷ [] in
    let rest = at_place all next es i d are.1 (omega arith) in
    let moved : length before + suc i ≡ length next + i = omega (arith, length_snoc before (tree_of all before e.node)) in
    record { is = ap (tree_at (built all next es)) moved ∙ rest.is; entry = rest.entry }

-- the same in the words of a store's functions
pub stands : (all : List ℕ) (es : List Entry) (store : List (Tree Variable)) → built all [] es ≡ store → AreEntries all [] es → (i : ℕ) (e : Entry) → i < length es → e ≡ get_or es i e → Stands all store i e
stands all es store is are i e h at =
    let P : List (Tree Variable) → Type 0 = λ v. Stands all v i e in
    let Q : Entry → Type 0 = λ d. Stands all (built all [] es) i d in
    let R : ℕ → Type 0 = λ n. Stands all (built all [] es) n (get_or es i e) in
    subst P is (subst Q (sym at) (subst R (zero-add i) (at_place all [] es i e are h)))

pub length_store : (all : List ℕ) (es : List Entry) (store : List (Tree Variable)) → built all [] es ≡ store → length store ≡ length es
length_store all es store is = omega (arith, length_built all [] es, ap length is)

-- the entry of a place tells the size and the depth of the tree there
pub measured : (all : List ℕ) (es : List Entry) (store : List (Tree Variable)) → built all [] es ≡ store → AreEntries all [] es → (i : ℕ) (e : Entry) → i < length es → e ≡ get_or es i e → Measures (tree_at store i) e.size e.depth
measured all es store is are i e h at =
    let found = stands all es store is are i e h at in
    measures_as _ _ e (sym found.is) found.entry.measures

-- what a node shows of the tree at a place
pub record ShowsNode (all : List ℕ) (store : List (Tree Variable)) (i : ℕ) (n : Node) : Type 0 where
  pub is : tree_at store i ≡ tree_of all store n
  pub arguments : HasArguments all store n
  pub small : IsSmall (tree_at store i)

pub shown : (all : List ℕ) (es : List Entry) (store : List (Tree Variable)) → built all [] es ≡ store → AreEntries all [] es → (i t : ℕ) → i ≡ t → t < length store
    → (e : Entry) → e ≡ get_or es i e → (n : Node) → e.node ≡ n → ShowsNode all store t n
shown all es store is are i t same h e at n node =
    let within : i < length es = omega (arith, length_store all es store is) in
    let found = stands all es store is are i e within at in
    let size = measured all es store is are i e within at in
    let P : Node → Type 0 = ShowsNode all store i in
    let Q : ℕ → Type 0 = λ k. ShowsNode all store k n in
    subst Q same (subst P node (record { is = found.is; arguments = found.entry.arguments; small = size.small }))

-- a noted variable is the term of its number and sort
pub has_variable : (all : List ℕ) (es : List Entry) (store : List (Tree Variable)) → built all [] es ≡ store → AreEntries all [] es → (seen : List Entry) → seen ≡ es
    → (number : ℕ) (sort : Sort) (place : ℕ) → IsVariable seen number sort place → HasTree store place (variable number sort)
has_variable all es store is are seen same number sort place noted =
    let P : List Entry → Type 0 = λ l. IsVariable l number sort place in
    let here = subst P same noted in
    let within : place < length store = omega (arith, here.within, length_store all es store is) in
    let found = shown all es store is are place place refl within here.entry here.at (node.Var number sort) here.is in
    record { within = within; is = found.is }
