-- The texts of terms of a store, and when these are lists.
use Rattle.std.proofs.Common.{◌≡◌, ℕ, ◌+◌, ◌<◌, ◌≤◌, true, false, if◌then◌else◌, List, [], ◌∷◌, map, length, get_or, codes, refl, ap, ◌∙◌, sym, subst, arith}
use Rattle.std.proofs.lemmas.Slice.Eq.{bytes_eq-Decides}
use Rattle.clp_model.specs.declared.sort.Sort.{Sort}
use Rattle.clp_model.specs.declared.tree.Variable.{Variable}
use Rattle.clp_model.specs.declared.tree.Tree.{Tree, App}
use Rattle.clp_model.specs.Trees.{size, total_size, mapped}
use Rattle.clp_model.proofs.Trees.{mapped_app, mapped_var, size_app}
use Rattle.term_store.specs.Trees.{variable, tree_at, trees_at, AreIn}
use Rattle.clause_store.specs.Stored.{number_of, atom_at, atoms_at}
use Rattle.print_model.specs.Names.{is_nil, name_text}
use Rattle.print_model.specs.Terms.{Texts, variable_text, nil, other, cell, simple, application, applied, texts, atom_text}
use Rattle.print_model.proofs.Applications.{texts_app, texts_var, atom_app, atom_var}
use Rattle.clause_printer.specs.Stored.{texts_at, all_texts_at, IsCell, IsNoCell, HasCell}

texts_of_all : (store : List (Tree Variable)) (args : List ℕ) → map texts (atoms_at store args) ≡ all_texts_at store args
texts_of_all store [] = refl
texts_of_all store (t ∷ ts) = ap (λ v. texts_at store t ∷ v) (texts_of_all store ts)

pub at_app : (store : List (Tree Variable)) (t : ℕ) (name args : List ℕ) → tree_at store t ≡ App name (trees_at store args) → texts_at store t ≡ application name (all_texts_at store args)
at_app store t name args is =
    ap texts (ap (mapped number_of) is ∙ mapped_app number_of name (trees_at store args)) ∙ texts_app name (atoms_at store args)
    ∙ ap (application name) (texts_of_all store args)

pub at_var : (store : List (Tree Variable)) (t n : ℕ) (s : Sort) → tree_at store t ≡ variable n s → texts_at store t ≡ other (variable_text n)
at_var store t n s is = ap texts (ap (mapped number_of) is ∙ mapped_var number_of (record { number = n; sort = s })) ∙ texts_var n

pub atom_at_app : (store : List (Tree Variable)) (t : ℕ) (name args : List ℕ) → tree_at store t ≡ App name (trees_at store args) → atom_text (atom_at store t) ≡ applied name (all_texts_at store args)
atom_at_app store t name args is =
    ap atom_text (ap (mapped number_of) is ∙ mapped_app number_of name (trees_at store args)) ∙ atom_app name (atoms_at store args)
    ∙ ap (applied name) (texts_of_all store args)

pub atom_at_var : (store : List (Tree Variable)) (t n : ℕ) (s : Sort) → tree_at store t ≡ variable n s → atom_text (atom_at store t) ≡ variable_text n
atom_at_var store t n s is = ap atom_text (ap (mapped number_of) is ∙ mapped_var number_of (record { number = n; sort = s })) ∙ atom_var n

-- ---- lists
pub two_items : (args : List ℕ) (a b : ℕ) → 2 ≤ length args → length args < 3 → a ≡ get_or args 0 a → b ≡ get_or args 1 b → args ≡ a ∷ b ∷ []
two_items [] a b least below first second = absurd (omega arith)
two_items (x ∷ []) a b least below first second = absurd (omega arith)
two_items (x ∷ y ∷ []) a b least below first second = ap (λ v. v ∷ y ∷ []) (sym first) ∙ ap (λ v. a ∷ v ∷ []) (sym second)
two_items (x ∷ y ∷ z ∷ zs) a b least below first second = absurd (omega arith)

cell_texts : (name : List ℕ) (first follows : Texts) → name ≡ codes "." → application name (first ∷ follows ∷ []) ≡ cell first follows
cell_texts name first follows dot =
    ap (λ b. if b then cell first follows else simple name (first ∷ follows ∷ [])) ((bytes_eq-Decides name (codes ".")).1 dot)

pub has_cell : (store : List (Tree Variable)) (t : ℕ) (name args : List ℕ) (a b : ℕ) → tree_at store t ≡ App name (trees_at store args) → AreIn store args → IsCell name args a b → HasCell store t a b
has_cell store t name args a b is inside h =
    let P : List ℕ → Type 0 = AreIn store in
    let both = subst P h.are inside in
    let nodes : size (tree_at store t) ≡ 1 + total_size (trees_at store args) = ap size is ∙ size_app name (trees_at store args) in
    let total : total_size (trees_at store args) ≡ size (tree_at store a) + (size (tree_at store b) + 0) = ap (λ v. total_size (trees_at store v)) h.are in
    record {
      within = both.0;
      follows_within = both.1.0;
      is = at_app store t name args is ∙ ap (λ v. application name (all_texts_at store v)) h.are ∙ cell_texts name (texts_at store a) (texts_at store b) h.is_dot;
      smaller = omega (arith, nodes, total);
    }

nil_texts : (name args : List ℕ) (f : ℕ → Texts) → length args ≡ 0 → is_nil name ≡ true → application name (map f args) ≡ nil
nil_texts name [] f empty e = ap (λ b. if b then nil else other (name_text name)) e
nil_texts name (x ∷ xs) f empty e = absurd (omega arith)

pub is_nil_term : (store : List (Tree Variable)) (t : ℕ) (name args : List ℕ) → tree_at store t ≡ App name (trees_at store args) → length args ≡ 0 → is_nil name ≡ true → texts_at store t ≡ nil
is_nil_term store t name args is empty e = at_app store t name args is ∙ nil_texts name args (texts_at store) empty e

simple_is_other : (name args : List ℕ) (f : ℕ → Texts) → (length args ≡ 0 → is_nil name ≡ false) → simple name (map f args) ≡ other (simple name (map f args)).whole
simple_is_other name [] f h =
    let e : simple name [] ≡ other (name_text name) = ap (λ b. if b then nil else other (name_text name)) (h refl) in e ∙ ap (λ v. other v.whole) (sym e)
simple_is_other name (x ∷ xs) f h = refl

pub is_other_term : (store : List (Tree Variable)) (t : ℕ) (name args : List ℕ) → tree_at store t ≡ App name (trees_at store args) → IsNoCell name args
    → (length args ≡ 0 → is_nil name ≡ false) → texts_at store t ≡ other (texts_at store t).whole
is_other_term store t name args is none h =
    let e : texts_at store t ≡ simple name (all_texts_at store args) = at_app store t name args is ∙ none (texts_at store) in
    e ∙ simple_is_other name args (texts_at store) h ∙ ap (λ v. other v.whole) (sym e)
