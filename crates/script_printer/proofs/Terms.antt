-- When a term is a list.
use Rattle.std.proofs.Common.{◌≡◌, ℕ, ◌+◌, ◌<◌, ◌≤◌, true, false, if◌then◌else◌, List, [], ◌∷◌, map, length, get_or, codes, refl, ap, ◌∙◌, sym, subst, arith, append-nil}
use Rattle.clp_model.specs.declared.tree.Tree.{Tree, Var, App}
use Rattle.clp_model.specs.Trees.{size}
use Rattle.clp_model.proofs.Trees.{size_app}
use Rattle.print_model.specs.Names.{is_nil, is_dot, predicate_text, name_text}
use Rattle.print_model.specs.Terms.{nil, other, cell, simple, application, applied, texts, atom_text}
use Rattle.print_model.proofs.Applications.{texts_app, texts_var, atom_app, atom_var}
use Rattle.script_printer.specs.Shapes.{IsCell}

pub other_var : (n : ℕ) → texts (Var n) ≡ other (atom_text (Var n))
other_var n = texts_var n ∙ ap other (sym (atom_var n))

pub nil_app : (name : List ℕ) (ts : List (Tree ℕ)) → length ts ≡ 0 → is_nil name ≡ true → texts (App name ts) ≡ nil
nil_app name [] empty e = texts_app name [] ∙ ap (λ b. if b then nil else other (name_text name)) e
nil_app name (t ∷ ts) empty e = absurd (omega arith)

cell_app : (name : List ℕ) (t u : Tree ℕ) → is_dot name ≡ true → IsCell (App name (t ∷ u ∷ [])) t u
cell_app name t u dot =
    let nodes : size (App name (t ∷ u ∷ [])) ≡ 1 + (size t + (size u + 0)) = size_app name (t ∷ u ∷ []) in
    record {
      is = texts_app name (t ∷ u ∷ []) ∙ ap (λ b. if b then cell (texts t) (texts u) else simple name (texts t ∷ texts u ∷ [])) dot;
      smaller = omega (arith, nodes);
    }

pub other_app : (name : List ℕ) (ts : List (Tree ℕ)) → (length ts ≡ 0 → is_nil name ≡ false) → (length ts ≡ 2 → is_dot name ≡ false) → texts (App name ts) ≡ other (atom_text (App name ts))
other_app name ts not_nil not_cell = texts_app name ts ∙ by_length ts not_nil not_cell ∙ ap other (sym (atom_app name ts))
  where
    by_length : (ts : List (Tree ℕ)) → (length ts ≡ 0 → is_nil name ≡ false) → (length ts ≡ 2 → is_dot name ≡ false) → application name (map texts ts) ≡ other (applied name (map texts ts))
    by_length [] h₀ h₂ =
        ap (λ b. if b then nil else other (name_text name)) (h₀ refl)
        ∙ ap other (ap (λ b. if b then codes "[]" else predicate_text name) (h₀ refl) ∙ sym (append-nil (predicate_text name)))
    by_length (t ∷ []) h₀ h₂ = refl
    by_length (t ∷ u ∷ []) h₀ h₂ = ap (λ b. if b then cell (texts t) (texts u) else simple name (texts t ∷ texts u ∷ [])) (h₂ refl)
    by_length (t ∷ u ∷ v ∷ ts) h₀ h₂ = refl

two_items : {A : Type 0} (xs : List A) (a b : A) → 2 ≤ length xs → length xs < 3 → a ≡ get_or xs 0 a → b ≡ get_or xs 1 b → xs ≡ a ∷ b ∷ []
two_items [] a b least below first second = absurd (omega arith)
two_items (x ∷ []) a b least below first second = absurd (omega arith)
two_items (x ∷ y ∷ []) a b least below first second = ap (λ v. v ∷ y ∷ []) (sym first) ∙ ap (λ v. a ∷ v ∷ []) (sym second)
two_items (x ∷ y ∷ z ∷ zs) a b least below first second = absurd (omega arith)

pub cell_of_items : (tree : Tree ℕ) (name : List ℕ) (ts : List (Tree ℕ)) (t u : Tree ℕ) → tree ≡ App name ts → 2 ≤ length ts → length ts < 3
    → t ≡ get_or ts 0 t → u ≡ get_or ts 1 u → is_dot name ≡ true → IsCell tree t u
cell_of_items tree name ts t u is least below first second dot =
    let P : Tree ℕ → Type 0 = λ v. IsCell v t u in
    subst P (sym (is ∙ ap (App name) (two_items ts t u least below first second))) (cell_app name t u dot)
