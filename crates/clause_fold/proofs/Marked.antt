-- Tables of marked variables.
use Rattle.std.proofs.Common.{◌≡◌, ◌≢◌, ℕ, zero, suc, ◌+◌, ◌-◌, ◌<◌, ◌≤◌, ◌||◌, List, [], ◌∷◌, ◌++◌, length, take, get_or, set, nat_eq, refl, ap, ◌∙◌, sym, subst, arith, Bool, true, false, All}
use Rattle.std.proofs.lemmas.Bool.{eqb-true, eqb-false}
use Rattle.std.proofs.lemmas.List.{take_more, take_all, get_or-set_same, get_or-set_other, append_assoc}
use Rattle.clp_model.specs.declared.tree.Variable.{Variable}
use Rattle.clp_model.specs.declared.tree.Tree.{Tree}
use Rattle.clp_model.specs.Trees.{variables, variables_in}
use Rattle.clp_model.specs.Clauses.{Row}
use Rattle.clp_model.proofs.Membership.{Among, first, next, among_front, among_back}
use Rattle.clause_model.specs.Variables.{row_variables, rows_variables}
use Rattle.clause_laws.proofs.Rows.{all_each, each_all, among_rows}
use Rattle.clause_store.specs.Stored.{atom_at, atoms_at}
use Rattle.clause_loader.specs.WellFormed.{IsNumber}
use Rattle.fold_model.specs.Positions.{is_in}
use Rattle.clause_fold.specs.Marks.{is_marked, Adds, Are}

-- ---- one more mark
there : (marks : List Bool) (n : ℕ) → 0 < n → n ≤ length marks → is_marked (set marks (n - 1) true) n ≡ true
there marks zero p w = absurd (omega arith)
there marks (suc k) p w =
    let e : suc k - 1 ≡ k = omega arith in
    ap (λ (j : ℕ). get_or (set marks j true) k false) e ∙ get_or-set_same marks k true false (omega arith)

other : (marks : List Bool) (n m : ℕ) → 0 < n → m ≢ n → is_marked (set marks (n - 1) true) m ≡ is_marked marks m
other marks zero m p d = absurd (omega arith)
other marks (suc k) zero p d = refl
other marks (suc k) (suc j) p d =
    let e : suc k - 1 ≡ k = omega arith in
    ap (λ (i : ℕ). get_or (set marks i true) j false) e ∙ get_or-set_other marks k j true false (λ q. d (ap suc q))

pub marked_more : (marks : List Bool) (n : ℕ) → 0 < n → n ≤ length marks → (x : ℕ) → is_marked (set marks (n - 1) true) x ≡ (is_in (n ∷ []) x || is_marked marks x)
marked_more marks n p w x = by (nat_eq n x) refl
  where
    or_false : (b : Bool) → (b || false) ≡ b
    or_false true = refl
    or_false false = refl

    by : (b : Bool) → nat_eq n x ≡ b → is_marked (set marks (n - 1) true) x ≡ ((nat_eq n x || false) || is_marked marks x)
    by true e =
        let same : n ≡ x = eqb-true n x e in
        ap (is_marked (set marks (n - 1) true)) (sym same) ∙ there marks n p w ∙ ap (λ (c : Bool). (c || false) || is_marked marks x) (sym e)
    by false e = other marks n x p (λ q. eqb-false n x e (sym q)) ∙ ap (λ (c : Bool). (c || false) || is_marked marks x) (sym e)

-- ---- several marks
pub in_both : (xs ys : List ℕ) (x : ℕ) → is_in (xs ++ ys) x ≡ (is_in xs x || is_in ys x)
in_both [] ys x = refl
in_both (z ∷ xs) ys x = ap (λ (b : Bool). nat_eq z x || b) (in_both xs ys x) ∙ sym (or_assoc (nat_eq z x) (is_in xs x) (is_in ys x))
  where
    or_assoc : (a b c : Bool) → ((a || b) || c) ≡ (a || (b || c))
    or_assoc true b c = refl
    or_assoc false b c = refl

swap : (a b c : Bool) → (b || (a || c)) ≡ ((a || b) || c)
swap true true c = refl
swap true false c = refl
swap false true c = refl
swap false false c = refl

pub adds_none : (marks : List Bool) → Adds marks marks []
adds_none marks = record { count = refl; each = λ x. refl }

pub adds_both : (a b c : List Bool) (xs ys : List ℕ) → Adds a b xs → Adds b c ys → Adds a c (xs ++ ys)
adds_both a b c xs ys h k = record {
  count = k.count ∙ h.count;
  each = λ x.
      k.each x ∙ ap (λ (m : Bool). is_in ys x || m) (h.each x) ∙ swap (is_in xs x) (is_in ys x) (is_marked a x) ∙ ap (λ (m : Bool). m || is_marked a x) (sym (in_both xs ys x));
}

pub adds_as : (a b : List Bool) (xs ys : List ℕ) → xs ≡ ys → Adds a b xs → Adds a b ys
adds_as a b xs ys e h = subst (λ (zs : List ℕ). Adds a b zs) e h

pub marks_are : (marks new : List Bool) (k : ℕ) (xs ys : List ℕ) → Are marks k xs → Adds marks new ys → Are new k (xs ++ ys)
marks_are marks new k xs ys h a = record {
  count = a.count ∙ h.count;
  each = λ x. a.each x ∙ ap (λ (m : Bool). is_in ys x || m) (h.each x) ∙ or_swap (is_in ys x) (is_in xs x) ∙ sym (in_both xs ys x);
}
  where
    or_swap : (a b : Bool) → (a || b) ≡ (b || a)
    or_swap true true = refl
    or_swap true false = refl
    or_swap false true = refl
    or_swap false false = refl

-- ---- the terms and rows in turn
terms_push : (store : List (Tree Variable)) (terms : List ℕ) (t : ℕ) → variables_in (atoms_at store (terms ++ t ∷ [])) ≡ variables_in (atoms_at store terms) ++ (variables (atom_at store t) ++ [])
terms_push store [] t = refl
terms_push store (u ∷ terms) t =
    ap (λ (v : List ℕ). variables (atom_at store u) ++ v) (terms_push store terms t)
    ∙ sym (append_assoc (variables (atom_at store u)) (variables_in (atoms_at store terms)) (variables (atom_at store t) ++ []))

rows_push : (rows : List Row) (r : Row) → rows_variables (rows ++ r ∷ []) ≡ rows_variables rows ++ (row_variables r ++ [])
rows_push [] r = refl
rows_push (s ∷ rows) r =
    ap (λ (v : List ℕ). row_variables s ++ v) (rows_push rows r)
    ∙ sym (append_assoc (row_variables s) (rows_variables rows) (row_variables r ++ []))

pub no_more : (xs : List ℕ) → xs ++ [] ≡ xs
no_more [] = refl
no_more (x ∷ xs) = ap (λ (v : List ℕ). x ∷ v) (no_more xs)

-- the variables of the terms up to the next
pub next_term : (store : List (Tree Variable)) (terms : List ℕ) (i term : ℕ) → i < length terms → term ≡ get_or terms i term
    → variables_in (atoms_at store (take i terms)) ++ variables (atom_at store term) ≡ variables_in (atoms_at store (take (i + 1) terms))
next_term store terms i term w item =
    ap (λ (v : List ℕ). variables_in (atoms_at store (take i terms)) ++ v) (sym (no_more (variables (atom_at store term))))
    ∙ sym (terms_push store (take i terms) term)
    ∙ ap (λ (ts : List ℕ). variables_in (atoms_at store ts)) (ap (λ (t : ℕ). take i terms ++ t ∷ []) item ∙ sym (take_more terms i term w))

pub terms_more : (store : List (Tree Variable)) (terms : List ℕ) (i term : ℕ) (a b c : List Bool) → i < length terms → term ≡ get_or terms i term
    → Adds a b (variables_in (atoms_at store (take i terms))) → Adds b c (variables (atom_at store term)) → Adds a c (variables_in (atoms_at store (take (i + 1) terms)))
terms_more store terms i term a b c w item h k =
    adds_as a c _ _ (next_term store terms i term w item) (adds_both a b c (variables_in (atoms_at store (take i terms))) (variables (atom_at store term)) h k)

pub terms_end : (store : List (Tree Variable)) (terms : List ℕ) (i : ℕ) (a b : List Bool) → length terms ≤ i → Adds a b (variables_in (atoms_at store (take i terms))) → Adds a b (variables_in (atoms_at store terms))
terms_end store terms i a b end h = adds_as a b _ _ (ap (λ (ts : List ℕ). variables_in (atoms_at store ts)) (take_all i terms end)) h

pub rows_more : (rows : List Row) (i : ℕ) (row : Row) (a b c : List Bool) → i < length rows → row ≡ get_or rows i row
    → Adds a b (rows_variables (take i rows)) → Adds b c (row_variables row) → Adds a c (rows_variables (take (i + 1) rows))
rows_more rows i row a b c w item h k =
    adds_as a c _ _
    (ap (λ (v : List ℕ). rows_variables (take i rows) ++ v) (sym (no_more (row_variables row)))
    ∙ sym (rows_push (take i rows) row)
    ∙ ap rows_variables (ap (λ (r : Row). take i rows ++ r ∷ []) item ∙ sym (take_more rows i row w)))
    (adds_both a b c (rows_variables (take i rows)) (row_variables row) h k)

pub rows_end : (rows : List Row) (i : ℕ) (a b : List Bool) → length rows ≤ i → Adds a b (rows_variables (take i rows)) → Adds a b (rows_variables rows)
rows_end rows i a b end h = adds_as a b _ _ (ap rows_variables (take_all i rows end)) h

-- ---- what is marked is within the table
among_get : (store : List (Tree Variable)) (terms : List ℕ) (i d x : ℕ) → i < length terms → Among x (variables (atom_at store (get_or terms i d))) → Among x (variables_in (atoms_at store terms))
among_get store [] i d x w m = absurd (omega arith)
among_get store (t ∷ ts) zero d x w m = among_front x (variables (atom_at store t)) (variables_in (atoms_at store ts)) m
among_get store (t ∷ ts) (suc i) d x w m = among_back x (variables (atom_at store t)) (variables_in (atoms_at store ts)) (among_get store ts i d x (omega arith) m)

pub term_numbered : (store : List (Tree Variable)) (terms : List ℕ) (i term k j : ℕ) → i < length terms → term ≡ get_or terms i term → k ≡ j
    → All (IsNumber j) (variables_in (atoms_at store terms)) → All (IsNumber k) (variables (atom_at store term))
term_numbered store terms i term k j w item e h =
    let P : ℕ → Type 0 = λ t. All (IsNumber j) (variables (atom_at store t)) in
    let Q : ℕ → Type 0 = λ z. All (IsNumber z) (variables (atom_at store term)) in
    subst Q (sym e) (subst P (sym item) (each_all (IsNumber j) (variables (atom_at store (get_or terms i term))) (λ x m. all_each (IsNumber j) (variables_in (atoms_at store terms)) h x (among_get store terms i term x w m))))

among_row : (rows : List Row) (i : ℕ) (d : Row) → i < length rows → Among (get_or rows i d) rows
among_row [] i d w = absurd (omega arith)
among_row (x ∷ xs) zero d w = first
among_row (x ∷ xs) (suc i) d w = next (among_row xs i d (omega arith))

pub row_numbered : (rows : List Row) (i : ℕ) (row : Row) (k j : ℕ) → i < length rows → row ≡ get_or rows i row → k ≡ j → All (IsNumber j) (rows_variables rows) → All (IsNumber k) (row_variables row)
row_numbered rows i row k j w item e h =
    let P : Row → Type 0 = λ r. All (IsNumber j) (row_variables r) in
    let Q : ℕ → Type 0 = λ z. All (IsNumber z) (row_variables row) in
    let r = get_or rows i row in
    subst Q (sym e) (subst P (sym item) (each_all (IsNumber j) (row_variables r) (λ x m. all_each (IsNumber j) (rows_variables rows) h x (among_rows r rows x (among_row rows i row w) m))))

-- ---- a fresh table
no_mark : (marks : List Bool) → ((i : ℕ) → i < length marks → get_or marks i false ≡ false) → (x : ℕ) → is_marked marks x ≡ false
no_mark marks h zero = refl
no_mark [] h (suc i) = refl
no_mark (m ∷ marks) h (suc zero) = h zero (omega arith)
no_mark (m ∷ marks) h (suc (suc i)) = no_mark marks (λ j w. h (suc j) (omega arith)) (suc i)
