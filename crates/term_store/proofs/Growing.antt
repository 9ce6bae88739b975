-- A store that grows by an entry, or by arguments.
use Rattle.std.proofs.Common.{◌≡◌, ℕ, ◌+◌, ◌-◌, ◌≤◌, List, [], ◌∷◌, ◌++◌, length, take, drop, refl, ap, ◌∙◌, sym, arith, subst}
use Rattle.std.proofs.lemmas.Grind.{common_steps}
use Rattle.std.proofs.lemmas.List.{take-append-le, drop-append-le, length-drop, take_all}
use Rattle.std.proofs.Math.Seq.{get_or-append_seam, drop-append_seam}
use Rattle.clp_model.specs.declared.sort.Sort.TheVariants.{Any}
use Rattle.clp_model.specs.declared.tree.Variable.{Variable}
use Rattle.clp_model.specs.declared.tree.Tree.{Tree, App}
use Rattle.clp_model.specs.Trees.{size, depth, total_size, greatest_depth}
use Rattle.clp_model.proofs.Trees.{size_app, depth_app}
use Rattle.term_store.specs.declared.store.Span.{Span}
use Rattle.term_store.specs.declared.store.Node.{Node}
use Rattle.term_store.specs.declared.store.Node.TheVariants as node
use Rattle.term_store.specs.declared.store.Entry.{Entry}
use Rattle.term_store.specs.Trees.{variable, tree_at, trees_at, AreIn, Keeps, HasTree}
use Rattle.term_store.specs.Entries.{part, tree_of, IsPart, HasArguments, IsEntry, built, AreEntries}
use Rattle.term_store.proofs.Built.{built_push, entries_push, measures_as}

-- a part stays the same where more arguments follow
part_kept : (all more : List ℕ) (span : Span) → span.start ≤ span.end → span.end ≤ length all → part (all ++ more) span ≡ part all span
part_kept all more span order within =
    ap (take (span.end - span.start)) (drop-append-le span.start all more (omega (arith, order, within)))
    ∙ take-append-le (span.end - span.start) (drop span.start all) more (omega (arith, length-drop span.start all, order, within))

-- what was put last is the part from there on
pub part_put : (all args : List ℕ) (span : Span) → span.start ≡ length all → span.end ≡ length all + length args → part (all ++ args) span ≡ args
part_put all args span start end =
    let here : drop span.start (all ++ args) ≡ args = ap (λ n. drop n (all ++ args)) start ∙ drop-append_seam all args in
    let long : span.end - span.start ≡ length args = omega (arith, start, end) in
    ap (take (span.end - span.start)) here ∙ ap (λ n. take n args) long ∙ take_all (length args) args (omega arith)

tree_kept : (all more : List ℕ) (before : List (Tree Variable)) (n : Node) → HasArguments all before n → tree_of (all ++ more) before n ≡ tree_of all before n
tree_kept all more before (node.Var n s) h = refl
tree_kept all more before (node.App name span) h = ap (λ v. App name (trees_at before v)) (part_kept all more span h.order h.within)

arguments_kept : (all more : List ℕ) (before : List (Tree Variable)) (n : Node) → HasArguments all before n → HasArguments (all ++ more) before n
arguments_kept all more before (node.Var n s) h = tt
arguments_kept all more before (node.App name span) h =
    let P : List ℕ → Type 0 = AreIn before in
    record {
      order = h.order;
      within = (omega (arith, h.within, (let e : length (all ++ more) ≡ length all + length more = grind (arith, common_steps) in e)));
      are = subst P (sym (part_kept all more span h.order h.within)) h.are;
    }

entry_kept : (all more : List ℕ) (before : List (Tree Variable)) (e : Entry) → IsEntry all before e → IsEntry (all ++ more) before e
entry_kept all more before e h =
    record {
      arguments = arguments_kept all more before e.node h.arguments;
      measures = measures_as _ _ e (sym (tree_kept all more before e.node h.arguments)) h.measures;
    }

-- with more arguments the entries stand for the same trees
pub built_kept : (all more : List ℕ) (before : List (Tree Variable)) (es : List Entry) → AreEntries all before es → built (all ++ more) before es ≡ built all before es
built_kept all more before [] are = refl
built_kept all more before (e ∷ es) are =
    ap (λ t. built (all ++ more) (before ++ t ∷ []) es) (tree_kept all more before e.node are.0.arguments)
    ∙ built_kept all more (before ++ tree_of all before e.node ∷ []) es are.1

pub entries_kept : (all more : List ℕ) (before : List (Tree Variable)) (es : List Entry) → AreEntries all before es → AreEntries (all ++ more) before es
entries_kept all more before [] are = tt
entries_kept all more before (e ∷ es) are =
    let P : Tree Variable → Type 0 = λ t. AreEntries (all ++ more) (before ++ t ∷ []) es in (
      entry_kept all more before e are.0,
      subst P (sym (tree_kept all more before e.node are.0.arguments)) (entries_kept all more (before ++ tree_of all before e.node ∷ []) es are.1),
    )

-- a store with one more entry
pub grown : (all : List ℕ) (es new : List Entry) (e : Entry) (store : List (Tree Variable)) → built all [] es ≡ store → new ≡ es ++ e ∷ [] → built all [] new ≡ store ++ tree_of all store e.node ∷ []
grown all es new e store is at = ap (built all []) at ∙ built_push all [] es e ∙ ap (λ v. v ++ tree_of all v e.node ∷ []) is

pub grown_entries : (all : List ℕ) (es new : List Entry) (e : Entry) (store : List (Tree Variable)) → built all [] es ≡ store → new ≡ es ++ e ∷ [] → AreEntries all [] es → IsEntry all store e → AreEntries all [] new
grown_entries all es new e store is at are one =
    let P : List Entry → Type 0 = AreEntries all [] in
    let Q : List (Tree Variable) → Type 0 = λ v. IsEntry all v e in
    subst P (sym at) (entries_push all [] es e are (subst Q (sym is) one))

length_snoc : (xs : List (Tree Variable)) (t : Tree Variable) → length (xs ++ t ∷ []) ≡ length xs + 1
length_snoc xs t = grind (arith, common_steps)

pub keeps_grown : (store new : List (Tree Variable)) (t : Tree Variable) → new ≡ store ++ t ∷ [] → Keeps store new
keeps_grown store new t is = record { more = t ∷ []; is = is }

pub has_last : (store new : List (Tree Variable)) (t : Tree Variable) (place : ℕ) → new ≡ store ++ t ∷ [] → place ≡ length store → HasTree new place t
has_last store new t place is at =
    record {
      within = omega (arith, length_snoc store t, ap length is);
      is = ap (λ v. tree_at v place) is ∙ ap (tree_at (store ++ t ∷ [])) at ∙ get_or-append_seam store t [] (variable 0 Any);
    }

-- more arguments leave what is seen
pub seen_kept : (all more new : List ℕ) (es : List Entry) (store : List (Tree Variable)) → built all [] es ≡ store → AreEntries all [] es → new ≡ all ++ more → built new [] es ≡ store
seen_kept all more new es store is are put = ap (λ v. built v [] es) put ∙ built_kept all more [] es are ∙ is

pub are_kept : (all more new : List ℕ) (es : List Entry) → AreEntries all [] es → new ≡ all ++ more → AreEntries new [] es
are_kept all more new es are put = let P : List ℕ → Type 0 = λ v. AreEntries v [] es in subst P (sym put) (entries_kept all more [] es are)

-- an application may follow whose arguments were put
pub may_follow : (all args : List ℕ) (before store : List (Tree Variable)) (name : List ℕ) (span : Span) (nodes levels : ℕ) → before ≡ store → IsPart all args span → AreIn store args
    → nodes ≡ 1 + total_size (trees_at store args) → levels ≡ 1 + greatest_depth (trees_at store args) → (nodes ≤ 4096) × (levels ≤ 256)
    → IsEntry all before (record { node = node.App name span; size = nodes; depth = levels })
may_follow all args before store name span nodes levels same put within wide deep small =
    let P : List ℕ → Type 0 = AreIn store in
    let Q : List (Tree Variable) → Type 0 = λ v. IsEntry all v (record { node = node.App name span; size = nodes; depth = levels }) in
    let ts : List (Tree Variable) = trees_at store (part all span) in
    let trees : ts ≡ trees_at store args = ap (trees_at store) put.is in
    let wide' : size (App name ts) ≡ nodes = size_app name ts ∙ ap (λ v. 1 + total_size v) trees ∙ sym wide in
    let deep' : depth (App name ts) ≡ levels = depth_app name ts ∙ ap (λ v. 1 + greatest_depth v) trees ∙ sym deep in
    subst Q (sym same) (record {
      arguments = record { order = put.order; within = put.within; are = subst P (sym put.is) within };
      measures = record { size = wide'; depth = deep'; small = record { size = omega (arith, wide', small.0); depth = omega (arith, deep', small.1) } };
    })
