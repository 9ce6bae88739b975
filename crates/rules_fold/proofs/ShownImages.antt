-- What the rows of a definition become, and the dropped rows, shown one after another.
use Rattle.std.proofs.Common.{◌≡◌, ◌⊎◌, inl, inr, ℕ, ◌+◌, ◌<◌, ◌≤◌, List, [], ◌∷◌, ◌++◌, length, map, take, drop, get_or, true, refl, ap, ◌∙◌, sym, subst, arith}
use Rattle.std.specs.Prelude.{Ok, Err}
use Rattle.std.proofs.lemmas.List.{append_assoc, drop_more, take_more, map-append, length-map, length-append}
use Rattle.clp_model.specs.declared.tree.Tree.{Tree, Var}
use Rattle.clp_model.specs.Clauses.{Clause, Row}
use Rattle.linear_model.specs.Normal.{normal, is_within}
use Rattle.lin_row.specs.Rows.{at}
use Rattle.farkas_check.specs.declared.cert.Cert.{Cert}
use Rattle.fold_model.specs.Positions.{chosen, others}
use Rattle.fold_model.specs.Folded.{Question, image_row, definition_questions, dropped_questions, questions}
use Rattle.map_model.specs.declared.shown.Shows.{Shows}
use Rattle.map_model.specs.declared.refusal.Refusal.{Refusal}
use Rattle.map_model.specs.declared.refusal.Refusal.TheVariants.{NoMemory}
use Rattle.map_model.specs.Showing.{shown_by}
use Rattle.clause_fold.specs.Images.{AreNumbers}
use Rattle.row_showing.specs.Several.{way_at, shown_from, after_these, asked}
use Rattle.row_showing.proofs.Successive.{next_shown, first_shown, first_refused, so_many}
use Rattle.rules_fold.proofs.Counted.{few_chosen}

-- each row is asked as what it becomes
abbrev pub asked_images : List Row → (ℕ → Tree ℕ) → List Row → List Question
asked_images rows s targets = map (λ r. record { rows = rows; target = image_row s r }) targets

abbrev pub images_of : (ℕ → Tree ℕ) → List Row → List Row
images_of s rows = map (λ r. normal (image_row s r)) rows

-- the row is shown from these rows, whatever the numbers stand for, so that there are more certificates
abbrev pub IsShown : Shows → List ℕ → List Cert → List Cert → Row → List Row → Type 0
IsShown show numbers cs more row rows = (s : ℕ → Tree ℕ) → AreNumbers numbers s → (qs : List Question)
    → after_these cs (shown_from show (length cs) (record { rows = rows; target = image_row s row } ∷ qs)) ≡ after_these more (shown_from show (length cs + 1) qs)

-- ---- one row
module _ (show : Shows) (numbers : List ℕ) (cs : List Cert) (rows : List Row) (row : Row) where
  abbrev asks : (ℕ → Tree ℕ) → Question
  asks s = record { rows = rows; target = image_row s row }

  -- it is shown
  pub image_shown : (image : Row) (c : Cert) (more : List Cert) (before : ℕ) → before ≡ length cs → more ≡ cs ++ c ∷ [] → is_within image ≡ true
      → ((s : ℕ → Tree ℕ) → AreNumbers numbers s → image ≡ normal (image_row s row)) → shown_by (before + 1) rows image (way_at show before) ≡ Ok c
      → (s : ℕ → Tree ℕ) → AreNumbers numbers s → (qs : List Question)
      → after_these cs (shown_from show (length cs) (asks s ∷ qs)) ≡ after_these more (shown_from show (length cs + 1) qs)
  image_shown image c more before e put within is by s a qs =
      let F : ℕ → Type 0 = λ n. shown_by (n + 1) rows image (way_at show n) ≡ Ok c in
      next_shown show cs (length cs) (asks s) qs image (sym (is s a)) within c (subst F e by)
      ∙ ap (λ (xs : List Cert). after_these xs (shown_from show (length cs + 1) qs)) (sym put)

-- ---- the rows of the definition in turn
module _ (show : Shows) (numbers : List ℕ) (rows targets : List Row) where
  -- what is left of the rows, whatever the numbers stand for
  abbrev pub IsLeft : List Cert → ℕ → Type 0
  IsLeft cs i = (s : ℕ → Tree ℕ) → AreNumbers numbers s
      → shown_from show 0 (asked_images rows s targets) ≡ after_these cs (shown_from show (length cs) (asked_images rows s (drop i targets)))

  module _ (cs : List Cert) (i : ℕ) (row : Row) (within : i < length targets) (item : row ≡ get_or targets i row) (left : IsLeft cs i) where
    next_row : (s : ℕ → Tree ℕ) → AreNumbers numbers s → shown_from show 0 (asked_images rows s targets)
        ≡ after_these cs (shown_from show (length cs) (record { rows = rows; target = image_row s row } ∷ asked_images rows s (drop (i + 1) targets)))
    next_row s a =
        left s a
        ∙ ap (λ (rs : List Row). after_these cs (shown_from show (length cs) (asked_images rows s rs)))
        (drop_more targets i row within ∙ ap (λ (r : Row). r ∷ drop (i + 1) targets) (sym item))

    pub goes_on : (more : List Cert) → length more ≡ length cs + 1 → IsShown show numbers cs more row rows → IsLeft more (i + 1)
    goes_on more count h s a =
        next_row s a ∙ h s a (asked_images rows s (drop (i + 1) targets))
        ∙ ap (λ (n : ℕ). after_these more (shown_from show n (asked_images rows s (drop (i + 1) targets)))) (sym count)

-- ---- the rows that remain
module _ (numbers : List ℕ) (old targets : List Row) where
  -- the images of the first rows come last, whatever the numbers stand for
  abbrev pub AreAdded : List Row → ℕ → Type 0
  AreAdded all i = (s : ℕ → Tree ℕ) → AreNumbers numbers s → all ≡ old ++ images_of s (take i targets)

  pub one_added : (rows all : List Row) (i : ℕ) (row image : Row) → i < length targets → row ≡ get_or targets i row → AreAdded rows i
      → ((s : ℕ → Tree ℕ) → AreNumbers numbers s → image ≡ normal (image_row s row)) → all ≡ rows ++ image ∷ [] → AreAdded all (i + 1)
  one_added rows all i row image within item added is put s a =
      let f : Row → Row = λ r. normal (image_row s r) in
      put
      ∙ ap (λ (rs : List Row). rs ++ image ∷ []) (added s a)
      ∙ ap (λ (r : Row). (old ++ map f (take i targets)) ++ r ∷ []) (is s a)
      ∙ append_assoc old (map f (take i targets)) (f row ∷ [])
      ∙ ap (λ (rs : List Row). old ++ rs)
      (sym (map-append f (take i targets) (row ∷ []))
      ∙ sym (ap (map f) (take_more targets i row within ∙ ap (λ (r : Row). take i targets ++ r ∷ []) (sym item))))

-- ---- numbers always stand for something
the_images : List ℕ → ℕ → Tree ℕ
the_images numbers x = Var (at numbers x)

stands : (numbers : List ℕ) → AreNumbers numbers (the_images numbers)
unfolding the_images
stands numbers = record { each = λ x h. refl }

-- a certificate for each row
pub few_certificates : (show : Shows) (numbers : List ℕ) (rows targets : List Row) (cs : List Cert)
    → ((s : ℕ → Tree ℕ) → AreNumbers numbers s → shown_from show 0 (asked_images rows s targets) ≡ Ok cs) → length cs ≡ length targets
few_certificates show numbers rows targets cs h =
    let s = the_images numbers in
    so_many show 0 (asked_images rows s targets) cs (h s (stands numbers)) ∙ length-map targets (λ r. record { rows = rows; target = image_row s r })

pub few_remaining : (numbers keep : List ℕ) (rows targets all : List Row)
    → ((s : ℕ → Tree ℕ) → AreNumbers numbers s → all ≡ chosen keep rows ++ images_of s targets) → length all ≤ length keep + length targets
few_remaining numbers keep rows targets all h =
    let s = the_images numbers in
    let f : Row → Row = λ r. normal (image_row s r) in
    let e = ap length (h s (stands numbers)) ∙ length-append (chosen keep rows) (map f targets) in
    let m = length-map targets f in
    let few = few_chosen keep rows in
    omega (arith, e, m, few)

-- ---- the rows of the definition, and then those that are dropped
module _ (show : Shows) (numbers keep : List ℕ) (n c : Clause) where
  -- all of them are refused, if memory was not wanting
  abbrev pub IsRefused : Refusal → Type 0
  IsRefused x = (x ≡ NoMemory) ⊎ ((s : ℕ → Tree ℕ) → AreNumbers numbers s → shown_from show 0 (questions n c s keep) ≡ Err x)

  pub first_not_shown : (x : Refusal) → (x ≡ NoMemory) ⊎ ((s : ℕ → Tree ℕ) → AreNumbers numbers s → shown_from show 0 (definition_questions n c s) ≡ Err x) → IsRefused x
  first_not_shown x (inl e) = inl e
  first_not_shown x (inr h) = inr (λ s a. first_refused show (dropped_questions n c s keep) 0 (definition_questions n c s) x (h s a))

  module _ (cs : List Cert) (remaining dropped : List Row)
      (shown : (s : ℕ → Tree ℕ) → AreNumbers numbers s → shown_from show 0 (definition_questions n c s) ≡ Ok cs)
      (remain : (s : ℕ → Tree ℕ) → AreNumbers numbers s → remaining ≡ chosen keep c.rows ++ images_of s n.rows) (drops : dropped ≡ others keep c.rows) where
    both : (s : ℕ → Tree ℕ) → AreNumbers numbers s → shown_from show 0 (questions n c s keep) ≡ after_these cs (shown_from show (length cs) (asked remaining dropped))
    both s a =
        let count = so_many show 0 (definition_questions n c s) cs (shown s a) in
        let place : 0 + length (definition_questions n c s) ≡ length cs = omega arith in
        first_shown show (dropped_questions n c s keep) 0 (definition_questions n c s) cs (shown s a)
        ∙ ap (λ (k : ℕ). after_these cs (shown_from show k (dropped_questions n c s keep))) place
        ∙ ap (λ (rs : List Row). after_these cs (shown_from show (length cs) (asked rs (others keep c.rows)))) (sym (remain s a))
        ∙ ap (λ (rs : List Row). after_these cs (shown_from show (length cs) (asked remaining rs))) (sym drops)

    pub all_shown : (all : List Cert) → after_these cs (shown_from show (length cs) (asked remaining dropped)) ≡ Ok all
        → (s : ℕ → Tree ℕ) → AreNumbers numbers s → shown_from show 0 (questions n c s keep) ≡ Ok all
    all_shown all h s a = both s a ∙ h

    pub dropped_not_shown : (x : Refusal) → (x ≡ NoMemory) ⊎ (after_these cs (shown_from show (length cs) (asked remaining dropped)) ≡ Err x) → IsRefused x
    dropped_not_shown x (inl e) = inl e
    dropped_not_shown x (inr h) = inr (λ s a. both s a ∙ h)
