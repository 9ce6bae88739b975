-- Rows that are clean stay so when they are written in new numbers.
use Rattle.std.proofs.Common.{◌≡◌, ℕ, List, [], ◌∷◌, Bool, true, false, arith, refl, sym, ◌∙◌, ap, subst, eq-eqb, map, inl, inr}
use Rattle.std.specs.Prelude.{not, ◌&&◌}
use Rattle.std.specs.Ordering.{int_eq}
use Rattle.std.specs.List.{filter}
use Rattle.std.proofs.Math.IntN.{ℤ}
use Rattle.std.proofs.lemmas.Int.{ints}
use Rattle.clp_model.specs.declared.sort.Rel.{Rel}
use Rattle.clp_model.specs.declared.sort.Rel.TheVariants.{Eq, Le, Lt}
use Rattle.clp_model.specs.Clauses.{Row}
use Rattle.clp_model.specs.Predicates.{distinct_after}
use Rattle.clp_model.proofs.Membership.{Among, first, next}
use Rattle.linear_model.specs.Normal.{normal, IsNormal, is_always, is_constant, compares, rel_eq, pairs_eq, row_eq}
use Rattle.linear_model.specs.Elimination.{cleaned}
use Rattle.linear_laws.proofs.Cleaning.{same_row}
use Rattle.linear_laws.proofs.Lists.{mapped_out, filter_out}
use Rattle.clause_model.specs.Variables.{row_variables}
use Rattle.clause_laws.proofs.Distinct.{AreDistinct, IsEquality, distinct_stays, distinct_made, distinct_from}
use Rattle.clause_laws.proofs.Renaming.{IsInjectiveOn}
use Rattle.clause_laws.proofs.Written.{written, written_into, written_normal, written_stays}

-- ---- equality of rows is tested
same_rel : (r : Rel) → rel_eq r r ≡ true
same_rel Eq = refl
same_rel Le = refl
same_rel Lt = refl

same_int : (z : ℤ) → int_eq z z ≡ true
same_int z = grind (arith, ints)

same_pairs : (ps : List (ℕ × ℤ)) → pairs_eq ps ps ≡ true
same_pairs [] = refl
same_pairs (p ∷ ps) =
    let a = eq-eqb p.0 p.0 refl in
    let b = same_int p.1 in
    let c = same_pairs ps in
    cc

same_itself : (r : Row) → row_eq r r ≡ true
same_itself r =
    let a = same_rel r.rel in
    let b = same_pairs r.pairs in
    let c = same_int r.constant in
    cc

pub row_equality : IsEquality row_eq
row_equality = record { sound = same_row; reflexive = same_itself }

-- ---- what clean rows are
pub record AreClean (rows : List Row) : Type 0 where
  pub normal_rows : (r : Row) → Among r rows → normal r ≡ r
  pub not_always : (r : Row) → Among r rows → is_always r ≡ false
  pub distinct : AreDistinct rows

map_same : (rows : List Row) → ((r : Row) → Among r rows → normal r ≡ r) → map normal rows ≡ rows
map_same [] h = refl
map_same (r ∷ rows) h = let a = h r first in let b = map_same rows (λ s m. h s (next m)) in cc

filter_same : (rows : List Row) → ((r : Row) → Among r rows → is_always r ≡ false) → filter (λ r. not (is_always r)) rows ≡ rows
filter_same [] h = refl
filter_same (r ∷ rows) h = let a = h r first in let b = filter_same rows (λ s m. h s (next m)) in cc

pub clean_stays : (rows : List Row) → AreClean rows → cleaned rows ≡ rows
clean_stays rows c =
    ap (λ rs. distinct_after row_eq [] (filter (λ r. not (is_always r)) rs)) (map_same rows c.normal_rows)
    ∙ (ap (distinct_after row_eq []) (filter_same rows c.not_always)
    ∙ distinct_stays row_eq row_equality [] rows c.distinct)

false_of : (b : Bool) → not b ≡ true → b ≡ false
false_of true e = absurd (cc)
false_of false e = refl

among_kept : (rows : List Row) (r : Row) → Among r (cleaned rows) → Among r (filter (λ r. not (is_always r)) (map normal rows))
among_kept rows r a = elim (distinct_from row_eq row_equality [] (filter (λ r. not (is_always r)) (map normal rows)) r a) [ inl e ↦ elim e [ ] | inr k ↦ k ]

-- each row of what is cleaned is the normal form of a row
pub cleaned_has : (rows : List Row) (P : Row → Type 0) → ((s : Row) → Among s rows → P (normal s)) → (r : Row) → Among r (cleaned rows) → P r
cleaned_has rows P h r a = mapped_out normal rows P h r (filter_out (λ r. not (is_always r)) (map normal rows) r (among_kept rows r a)).0

pub cleaned_is_clean : (rows : List Row) → ((r : Row) → Among r rows → normal (normal r) ≡ normal r) → AreClean (cleaned rows)
cleaned_is_clean rows h = record {
  normal_rows = λ r a. cleaned_has rows (λ r. normal r ≡ r) h r a;
  not_always = λ r a. false_of (is_always r) (filter_out (λ r. not (is_always r)) (map normal rows) r (among_kept rows r a)).1;
  distinct = distinct_made row_eq row_equality [] (filter (λ r. not (is_always r)) (map normal rows)) tt;
}

-- ---- in new numbers
module _ (f : ℕ → ℕ) where
  nothing_here : {n : ℕ} → Among n [] → ⊥
  nothing_here a = elim a [ ]

  not_constant : (ps : List (ℕ × ℤ)) (n : ℕ) → Among n (map (λ p. p.0) ps) → is_constant ps ≡ false
  not_constant [] n a = elim a [ ]
  not_constant (p ∷ ps) n a = refl

  still_not_always : (r : Row) → IsNormal r → IsInjectiveOn (row_variables r) f → is_always r ≡ false → is_always (written f r) ≡ false
  still_not_always r is i e = by r.pairs refl
    where
      by : (ps : List (ℕ × ℤ)) → r.pairs ≡ ps → is_always (written f r) ≡ false
      by [] q = ap is_always (written_stays f r is (λ n a. absurd (nothing_here (subst (λ (qs : List (ℕ × ℤ)). Among n (map (λ p. p.0) qs)) q a)))) ∙ e
      by (p ∷ ps) q =
          let a : Among p.0 (row_variables r) = subst (λ (qs : List (ℕ × ℤ)). Among p.0 (map (λ p. p.0) qs)) (sym q) first in
          let b = not_constant (written f r).pairs (f p.0) (written_into f r is.rising i p.0 a) in
          ap (λ t. t && compares (written f r).rel (written f r).constant) b

  -- distinct rows stay distinct where what is written tells the row
  written_distinct : (rows : List Row) → ((r s : Row) → Among r rows → Among s rows → written f r ≡ written f s → r ≡ s) → AreDistinct rows → AreDistinct (map (written f) rows)
  written_distinct [] tells d = tt
  written_distinct (r ∷ rows) tells d = (
    (λ a. absurd (d.0 (mapped_out (written f) rows (λ t. t ≡ written f r → Among r rows) (λ s m e. subst (λ z. Among z rows) (tells s r (next m) first e) m) (written f r) a refl))),
    written_distinct rows (λ s t a b e. tells s t (next a) (next b) e) d.1,
  )

  pub written_clean : (rows : List Row) → ((r : Row) → Among r rows → IsNormal r × IsInjectiveOn (row_variables r) f) → ((r s : Row) → Among r rows → Among s rows → written f r ≡ written f s → r ≡ s) → AreClean rows → AreClean (map (written f) rows)
  written_clean rows each tells c = record {
    normal_rows = λ t a. mapped_out (written f) rows (λ x. normal x ≡ x) (λ s m. written_normal f s) t a;
    not_always = λ t a. mapped_out (written f) rows (λ x. is_always x ≡ false) (λ s m. let k = each s m in still_not_always s k.0 k.1 (c.not_always s m)) t a;
    distinct = written_distinct rows tells c.distinct;
  }
