-- The entries of new clauses, and the drafts of resolvents.
use Rattle.std.proofs.Common.{◌≡◌, ℕ, suc, List, [], ◌∷◌, refl, sym, ◌∙◌, ap, subst, inl, inr, Bool, true, false}
use Rattle.std.specs.Prelude.{Option, Some, None, Result, Ok, Err, if◌then◌else◌}
use Rattle.clp_model.specs.Clauses.{Clause}
use Rattle.clp_model.proofs.Membership.{Among, first, next, among_front, among_back, among_either}
use Rattle.unify_laws.proofs.Solved.{among_cases}
use Rattle.clause_model.specs.Canonical as clauses
use Rattle.clause_model.specs.Canonical.{new_clause}
use Rattle.unfold_model.specs.Resolvent.{resolvent}
use Rattle.map_model.specs.declared.refusal.Refusal.{Refusal}
use Rattle.map_model.specs.State.{Entry}
use Rattle.map_model.specs.Rewriting.{Draft, new_entry, put_first, new_entries}
use Rattle.map_model.specs.Unfolding.{drafted, resolvent_with, resolvents_from}
use Rattle.state_laws.proofs.Live.{live}

-- ---- the entry of a draft
pub record Makes (number : ℕ) (d : Draft) (e : Entry) : Type 0 where
  pub clause : new_clause d.clause ≡ Ok e.clause
  pub mark : e.mark ≡ d.mark
  pub live : e.live ≡ true
  pub made_at : e.made_at ≡ number

pub entries_is : {xs ys : List Entry} → ◌≡◌ {A = Result (List Entry) Refusal} (Ok xs) (Ok ys) → xs ≡ ys
entries_is {xs} h = let out : Result (List Entry) Refusal → List Entry = elim [ Ok zs ↦ zs | Err r ↦ xs ] in ap out h

-- new entries are those of their drafts, one by one
abbrev pub AllMade : ℕ → List Draft → List Entry → Type 0
AllMade number [] [] = Unit {0}
AllMade number [] (e ∷ es) = ⊥
AllMade number (d ∷ ds) [] = ⊥
AllMade number (d ∷ ds) (e ∷ es) = Makes number d e × AllMade number ds es

pub all_made : (number : ℕ) (ds : List Draft) (es : List Entry) → new_entries number ds ≡ Ok es → AllMade number ds es
all_made number [] es h = subst (AllMade number []) (entries_is h) tt
all_made number (d ∷ ds) es h = by (λ rest n. all_made number ds rest n) (new_clause d.clause) refl (new_entries number ds) refl h
  where
    by : ((rest : List Entry) → new_entries number ds ≡ Ok rest → AllMade number ds rest) → (o : Result Clause clauses.Refusal) → new_clause d.clause ≡ o → (r : Result (List Entry) Refusal) → new_entries number ds ≡ r
        → put_first (new_entry number d.mark d.parents) o r ≡ Ok es → AllMade number (d ∷ ds) es
    by again (Err x) q r n h = absurd (cc)
    by again (Ok c) q (Err x) n h = absurd (cc)
    by again (Ok c) q (Ok rest) n h = subst (AllMade number (d ∷ ds)) (entries_is h) (record { clause = q; mark = refl; live = refl; made_at = refl }, again rest n)

pub draft_of : (number : ℕ) (ds : List Draft) (es : List Entry) → AllMade number ds es → (e : Entry) → Among e es → (d : Draft) × Among d ds × Makes number d e
draft_of number [] [] h e a = elim a [ ]
draft_of number [] (x ∷ es) h e a = absurd h
draft_of number (d ∷ ds) [] h e a = elim a [ ]
draft_of number (d ∷ ds) (x ∷ es) h e a = among_cases a
    (λ q. (d, first, subst (Makes number d) (sym q) h.0))
    (λ m. let w = draft_of number ds es h.1 e m in (w.0, next w.1, w.2))

pub entry_for : (number : ℕ) (ds : List Draft) (es : List Entry) → AllMade number ds es → (d : Draft) → Among d ds → (e : Entry) × Among e es × Makes number d e
entry_for number [] es h d a = elim a [ ]
entry_for number (x ∷ ds) [] h d a = absurd h
entry_for number (x ∷ ds) (e ∷ es) h d a = among_cases a
    (λ q. (e, first, subst (λ y. Makes number y e) (sym q) h.0))
    (λ m. let w = entry_for number ds es h.1 d m in (w.0, next w.1, w.2))

-- ---- resolvents
module _ (id : ℕ) (c : Clause) (i : ℕ) where
  -- a marked resolvent of c with the clause of a live entry
  pub record Resolves (entries : List (Option Entry)) (d : Draft) : Type 0 where
    pub by : Entry
    pub is_live : Among by (live entries)
    pub is : resolvent c i by.clause ≡ Some d.clause
    pub mark : d.mark ≡ true

  one_from : (place : ℕ) (e : Entry) (entries : List (Option Entry)) (d : Draft) → Among d (resolvent_with id c i place e) → Resolves (Some e ∷ entries) d
  one_from place e entries d a = by e.live refl a
    where
      with : (o : Option Clause) → resolvent c i e.clause ≡ o → Among e (live (Some e ∷ entries)) → Among d (drafted id place o) → Resolves (Some e ∷ entries) d
      with None q l a = elim a [ ]
      with (Some x) q l a = among_cases a
          (λ s. record { by = e; is_live = l; is = q ∙ ap (λ (y : Draft). Some y.clause) (sym s); mark = ap (λ (y : Draft). y.mark) s })
          (λ m. elim m [ ])

      by : (b : Bool) → e.live ≡ b → Among d (if b then drafted id place (resolvent c i e.clause) else []) → Resolves (Some e ∷ entries) d
      by false q a = elim a [ ]
      by true q a = with (resolvent c i e.clause) refl (subst (λ b. Among e (if b then e ∷ live entries else live entries)) (sym q) first) a

  later : (x : Option Entry) (entries : List (Option Entry)) (d : Draft) → Resolves entries d → Resolves (x ∷ entries) d
  later None entries d r = record { by = r.by; is_live = r.is_live; is = r.is; mark = r.mark }
  later (Some e) entries d r = record { by = r.by; is_live = put_behind e.live r.is_live; is = r.is; mark = r.mark }
    where
      put_behind : (b : Bool) → Among r.by (live entries) → Among r.by (if b then e ∷ live entries else live entries)
      put_behind true m = next m
      put_behind false m = m

  pub resolves : (place : ℕ) (entries : List (Option Entry)) (d : Draft) → Among d (resolvents_from id c i place entries) → Resolves entries d
  resolves place [] d a = elim a [ ]
  resolves place (None ∷ entries) d a = later None entries d (resolves (suc place) entries d a)
  resolves place (Some e ∷ entries) d a = elim (among_either d (resolvent_with id c i place e) (resolvents_from id c i (suc place) entries) a) [
    | inl b ↦ one_from place e entries d b
    | inr b ↦ later (Some e) entries d (resolves (suc place) entries d b)
  ]

  -- and each resolvent is drafted
  abbrev Drafted : Clause → List Draft → Type 0
  Drafted x ds = (d : Draft) × Among d ds × (d.clause ≡ x) × (d.mark ≡ true)

  one_drafted : (place : ℕ) (e : Entry) (x : Clause) → e.live ≡ true → resolvent c i e.clause ≡ Some x → Drafted x (resolvent_with id c i place e)
  one_drafted place e x l q =
      let d : Draft = record { clause = x; mark = true; parents = id ∷ place ∷ [] } in
      (d, subst (Among d) (sym (ap (λ b. if b then drafted id place (resolvent c i e.clause) else []) l ∙ ap (drafted id place) q)) first, refl, refl)

  pub has_draft : (place : ℕ) (entries : List (Option Entry)) (e : Entry) (x : Clause) → Among e (live entries) → resolvent c i e.clause ≡ Some x → Drafted x (resolvents_from id c i place entries)
  has_draft place [] e x a q = elim a [ ]
  has_draft place (None ∷ entries) e x a q = has_draft (suc place) entries e x a q
  has_draft place (Some f ∷ entries) e x a q = by (λ m. has_draft (suc place) entries e x m q) f.live refl a
    where
      behind : Drafted x (resolvents_from id c i (suc place) entries) → Drafted x (resolvents_from id c i place (Some f ∷ entries))
      behind w = (w.0, among_back w.0 (resolvent_with id c i place f) (resolvents_from id c i (suc place) entries) w.1, w.2, w.3)

      by : (Among e (live entries) → Drafted x (resolvents_from id c i (suc place) entries)) → (b : Bool) → f.live ≡ b → Among e (if b then f ∷ live entries else live entries) → Drafted x (resolvents_from id c i place (Some f ∷ entries))
      by again false l a = behind (again a)
      by again true l a = among_cases a
          (λ s. let w = one_drafted place f x l (ap (λ (y : Entry). resolvent c i y.clause) (sym s) ∙ q) in (w.0, among_front w.0 (resolvent_with id c i place f) (resolvents_from id c i (suc place) entries) w.1, w.2, w.3))
          (λ m. behind (again m))
