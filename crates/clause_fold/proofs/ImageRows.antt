-- What the rows of a definition become.
use Rattle.std.proofs.Common.{◌≡◌, ℕ, zero, suc, ◌+◌, ◌-◌, ◌<◌, ◌≤◌, List, [], ◌∷◌, ◌++◌, length, map, take, get_or, refl, ap, ◌∙◌, sym, arith, All, Result, Ok, Err, IfOk}
use Rattle.std.specs.Prelude.{ℤ, slice_index_or}
use Rattle.std.proofs.lemmas.List.{take_more, take_all}
use Rattle.clp_model.specs.declared.tree.Variable.{Variable}
use Rattle.clp_model.specs.declared.tree.Tree.{Tree}
use Rattle.clp_model.specs.Clauses.{Row}
use Rattle.linear_model.specs.Normal.{normal}
use Rattle.linear_model.specs.Changes.{renamed}
use Rattle.lin_row.specs.Rows.{at}
use Rattle.clause_model.specs.Variables.{row_variables}
use Rattle.clause_laws.proofs.Rows.{all_each}
use Rattle.clause_laws.proofs.Renaming.{renamed_agrees}
use Rattle.term_store.specs.Trees.{trees_at}
use Rattle.clause_store.specs.Stored.{atom_at, atoms_at}
use Rattle.clause_loader.specs.WellFormed.{IsNumber}
use Rattle.fold_model.specs.Internal.{number_in}
use Rattle.fold_model.specs.Folded.{image_row}
use Rattle.clause_fold.specs.Images.{image_by, Become, AreNumbers}

-- ---- numbers in turn
numbers_push : (store : List (Tree Variable)) (ts : List ℕ) (t : ℕ) → map number_in (atoms_at store (ts ++ t ∷ [])) ≡ map number_in (atoms_at store ts) ++ number_in (atom_at store t) ∷ []
numbers_push store [] t = refl
numbers_push store (u ∷ ts) t = ap (λ (v : List ℕ). number_in (atom_at store u) ∷ v) (numbers_push store ts t)

pub numbers_more : (store : List (Tree Variable)) (terms numbers more : List ℕ) (i t n : ℕ) → i < length terms → t ≡ get_or terms i t → n ≡ number_in (atom_at store t) → more ≡ numbers ++ n ∷ []
    → numbers ≡ map number_in (atoms_at store (take i terms)) → more ≡ map number_in (atoms_at store (take (i + 1) terms))
numbers_more store terms numbers more i t n within item is e h =
    e ∙ ap (λ (v : List ℕ). v ++ n ∷ []) h ∙ ap (λ (k : ℕ). map number_in (atoms_at store (take i terms)) ++ k ∷ []) is
    ∙ sym (numbers_push store (take i terms) t)
    ∙ sym (ap (λ (ts : List ℕ). map number_in (atoms_at store ts)) (take_more terms i t within ∙ ap (λ (k : ℕ). take i terms ++ k ∷ []) (sym item)))

pub numbers_end : (store : List (Tree Variable)) (terms numbers : List ℕ) (i : ℕ) → length terms ≤ i → numbers ≡ map number_in (atoms_at store (take i terms)) → numbers ≡ map number_in (atoms_at store terms)
numbers_end store terms numbers i end h = h ∙ ap (λ (ts : List ℕ). map number_in (atoms_at store ts)) (take_all i terms end)

length_numbers : (store : List (Tree Variable)) (terms : List ℕ) → length (map number_in (atoms_at store terms)) ≡ length terms
length_numbers store [] = refl
length_numbers store (t ∷ ts) = ap suc (length_numbers store ts)

pub count_is : (store : List (Tree Variable)) (terms numbers : List ℕ) → numbers ≡ map number_in (atoms_at store terms) → length numbers ≡ length terms
count_is store terms numbers e = ap length e ∙ length_numbers store terms

number_there : (store : List (Tree Variable)) (terms : List ℕ) (i : ℕ) → i < length terms → slice_index_or (map number_in (atoms_at store terms)) i 0 ≡ number_in (atom_at store (slice_index_or terms i 0))
number_there store [] i w = absurd (omega arith)
number_there store (t ∷ ts) zero w = refl
number_there store (t ∷ ts) (suc i) w = number_there store ts i (omega arith)

one_number : (store : List (Tree Variable)) (terms numbers : List ℕ) (s : ℕ → Tree ℕ) → numbers ≡ map number_in (atoms_at store terms) → Become store terms s → (x : ℕ) → IsNumber (length numbers) x → at numbers x ≡ number_in (s x)
one_number store terms numbers s e b zero h = absurd (let p = h.0 in omega (arith, p))
one_number store terms numbers s e b (suc i) h =
    let count = count_is store terms numbers e in
    let below : i < length terms = let w = h.1 in omega (arith, w, count) in
    ap (λ (ns : List ℕ). slice_index_or ns i 0) e ∙ number_there store terms i below ∙ ap number_in (b.each (suc i) (h.0, let w = h.1 in omega (arith, w, count)))

pub are_numbers : (store : List (Tree Variable)) (terms numbers : List ℕ) (s : ℕ → Tree ℕ) → numbers ≡ map number_in (atoms_at store terms) → Become store terms s → AreNumbers numbers s
are_numbers store terms numbers s e b = record { each = one_number store terms numbers s e b }

-- ---- a row
pub row_is : (numbers : List ℕ) (s : ℕ → Tree ℕ) (r : Row) → AreNumbers numbers s → All (IsNumber (length numbers)) (row_variables r) → renamed (at numbers) r ≡ image_row s r
row_is numbers s r a h =
    let row : List (ℕ × ℤ) → Row = λ ps. record { rel = r.rel; pairs = ps; constant = r.constant } in
    ap row (renamed_agrees (at numbers) (λ x. number_in (s x)) r.pairs (λ x m. a.each x (all_each (IsNumber (length numbers)) (row_variables r) h x m)))

pub if_ok_so : {A E : Type 0} (r : Result A E) (P Q : A → Type 0) → ((a : A) → P a → Q a) → IfOk r P → IfOk r Q
if_ok_so (Ok a) P Q f h = f a h
if_ok_so (Err x) P Q f h = tt
