-- The rows that stand for printed rows.
use Rattle.std.proofs.Common.{◌≡◌, ℕ, ◌+◌, ◌<◌, List, [], ◌∷◌, true, arith, refl, sym, ◌∙◌, ap, subst, map}
use Rattle.std.specs.Prelude.{nat_le, unsigned_abs, if◌then◌else◌, Ok, Err}
use Rattle.std.proofs.Math.IntN.{ℤ, pos}
use Rattle.std.proofs.lemmas.Bool.{and_parts}
use Rattle.std.proofs.lemmas.Int.{ints}
use Rattle.clp_model.specs.Clauses.{Row}
use Rattle.clp_model.specs.declared.sort.Rel.{Rel}
use Rattle.clp_model.specs.declared.sort.Rel.TheVariants.{Eq, Le, Lt}
use Rattle.clp_model.proofs.Membership.{Among, first, next, from_among}
use Rattle.linear_model.specs.Forms.{Above, IsRising}
use Rattle.linear_model.specs.Normal.{normal, IsNormal, limit, pairs_within, is_within}
use Rattle.unify_laws.proofs.Solved.{among_cases}
use Rattle.clause_model.specs.Variables.{row_variables}
use Rattle.clause_laws.proofs.Rows.{all_each}
use Rattle.clause_laws.proofs.Distinct.{AreDistinct}
use Rattle.clause_laws.proofs.Renaming.{IsInjectiveOn}
use Rattle.clause_laws.proofs.Written.{written, written_agrees, written_stays}
use Rattle.clause_laws.proofs.NewClause.{written_within}
use Rattle.form_model.specs.Forms as form
use Rattle.form_model.specs.Forms.{Form, are_small}
use Rattle.form_model.specs.declared.fault.FormFault.TheVariants.{TooLarge}
use Rattle.frac_model.specs.Reduced.{fraction, sum}
use Rattle.frac_model.specs.Results.{is_small}
use Rattle.clp_grammar.specs.Evaluation.{linear, placed, row_by, row_of, with_value}
use Rattle.clp_grammar.proofs.Parts.{linear_number}
use Rattle.standing_model.specs.Rows.{comparison, relation_of}
use Rattle.evaluation_laws.specs.Laws.{StandingRowsHaveTheirValue, RenumberedRowsHaveTheirValue}
use Rattle.evaluation_laws.proofs.Wholes.{Terms, sum_whole, small_whole, whole_terms, whole_row}
use Rattle.evaluation_laws.proofs.Sums.{both, sum_form, small_form, sum_value}

-- the variables of a row are apart, and so are their numbers
above_apart : (n : ℕ) (ps : List (ℕ × ℤ)) → Above n ps → (m : ℕ) → Among m (map (λ (p : ℕ × ℤ). p.0) ps) → n < m
above_apart n [] h m a = elim a [ ]
above_apart n (p ∷ ps) h m a = among_cases a (λ e. subst (λ k. n < k) (sym e) h.0) (λ k. above_apart n ps h.1 m k)

unmapped : (h : ℕ → ℕ) (ps : List (ℕ × ℤ)) (k : ℕ) → Among k (map (λ (p : ℕ × ℤ). h p.0) ps) → (n : ℕ) × Among n (map (λ (p : ℕ × ℤ). p.0) ps) × (h n ≡ k)
unmapped h [] k a = elim a [ ]
unmapped h (p ∷ ps) k a = among_cases a (λ e. (p.0, first, sym e)) (λ b. let r = unmapped h ps k b in (r.0, next r.1, r.2))

numbers_apart : (h : ℕ → ℕ) (ps : List (ℕ × ℤ)) → IsRising ps → IsInjectiveOn (map (λ (p : ℕ × ℤ). p.0) ps) h → AreDistinct (map (λ (p : ℕ × ℤ). h p.0) ps)
numbers_apart h [] rises apart = tt
numbers_apart h (p ∷ ps) rises apart = (
  (λ a. let r = unmapped h ps (h p.0) a in
      let e : r.0 ≡ p.0 = apart r.0 p.0 (next r.1) first r.2 in
      let l : p.0 < r.0 = above_apart p.0 ps rises.1 r.0 r.1 in
      omega arith),
  numbers_apart h ps rises.2 (λ m n a b e. apart m n (next a) (next b) e),
)

-- such a form less 0
module _ (z : ℤ) (ts : Terms) (small : nat_le (unsigned_abs z) limit ≡ true) (few : are_small ts ≡ true) where
  abbrev whole_form : Form
  whole_form = form.form (fraction z 1) ts

  less_nothing : form.difference whole_form (form.whole 0) ≡ Ok whole_form
  less_nothing =
      let e : sum (fraction z 1) (fraction (pos 0) 1) ≡ fraction z 1 = sum_whole z (pos 0) ∙ ap (λ y. fraction y 1) (omega (arith, ints)) in
      sum_form whole_form (form.opposite (form.whole 0)) (fraction z 1) ts e refl ∙ small_form z ts small few

  related : (rel : Rel) → row_by (relation_of rel) whole_form (form.whole 0) ≡ form.row_of rel whole_form
  related Eq = ap (λ r. with_value r (form.row_of Eq)) less_nothing
  related Le = ap (λ r. with_value r (form.row_of Le)) less_nothing
  related Lt = ap (λ r. with_value r (form.row_of Lt)) less_nothing

-- terms in range are small
terms_small : (h : ℕ → ℕ) (ps : List (ℕ × ℤ)) → pairs_within ps ≡ true → are_small (whole_terms h ps) ≡ true
terms_small h [] within = refl
terms_small h (p ∷ ps) within =
    let halves = and_parts (nat_le (unsigned_abs p.1) limit) (pairs_within ps) within in
    both (is_small (fraction p.1 1)) (are_small (whole_terms h ps)) (small_whole p.1 halves.0) (terms_small h ps halves.1)

-- the row of such a form is the row in these numbers
made_row : (h : ℕ → ℕ) (row : Row) → IsNormal row → is_within row ≡ true → IsInjectiveOn (row_variables row) h
    → form.row_of row.rel (form.form (fraction row.constant 1) (whole_terms h row.pairs)) ≡ Ok (written h row)
made_row h row is within apart =
    ap (λ r. if is_within (normal r) then Ok (normal r) else Err TooLarge) (whole_row h row is.rising)
    ∙ ap (λ b. if b then Ok (written h row) else Err TooLarge) (written_within h row is apart within)

own_row : (number_of place : ℕ → ℕ) (row : Row) (after : ℕ) → IsNormal row → is_within row ≡ true
    → IsInjectiveOn (row_variables row) (λ n. number_of (place n)) → row_of number_of (comparison place row after) ≡ Ok (written (λ n. number_of (place n)) row)
unfolding row_of comparison
own_row number_of place row after is within apart =
    let h : ℕ → ℕ = λ n. number_of (place n) in
    let halves = and_parts (pairs_within row.pairs) (nat_le (unsigned_abs row.constant) limit) within in
    let f = form.form (fraction row.constant 1) (whole_terms h row.pairs) in
    let c = comparison place row after in
    let sides : linear number_of c.first ≡ Ok f = sum_value number_of place row.pairs row.constant _ (numbers_apart h row.pairs is.rising apart) halves.0 halves.1 in
    let zero : linear number_of c.second ≡ Ok (form.whole 0) = linear_number number_of (1 + after) 0 in
    ap (λ r. with_value r (λ x. with_value (linear number_of c.second) (λ y. placed c.left (row_by c.relation x y)))) sides
    ∙ ap (λ r. with_value r (λ y. placed c.left (row_by c.relation f y))) zero
    ∙ ap (placed c.left) (related row.constant (whole_terms h row.pairs) halves.1 (terms_small h row.pairs halves.0) row.rel ∙ made_row h row is within apart)

pub row_value : (number_of place f : ℕ → ℕ) (row : Row) (after : ℕ) → IsNormal row → is_within row ≡ true
    → ((n : ℕ) → Among n (row_variables row) → number_of (place n) ≡ f n) → IsInjectiveOn (row_variables row) f
    → row_of number_of (comparison place row after) ≡ Ok (written f row)
row_value number_of place f row after is within same apart =
    own_row number_of place row after is within (λ m n a b e. apart m n a b (sym (same m a) ∙ e ∙ same n b))
    ∙ ap Ok (written_agrees (λ n. number_of (place n)) f row same)

pub renumbered_rows : RenumberedRowsHaveTheirValue
renumbered_rows number_of place f row after is within same apart =
    row_value number_of place f row after is within (all_each (λ n. number_of (place n) ≡ f n) (row_variables row) same)
    (λ m n a b e. apart m n (from_among a) (from_among b) e)

pub standing_rows : StandingRowsHaveTheirValue
standing_rows number_of place row after is within same =
    let each = all_each (λ n. number_of (place n) ≡ n) (row_variables row) same in
    row_value number_of place (λ n. n) row after is within each (λ m n a b e. e)
    ∙ ap Ok (written_stays (λ n. n) row is (λ n a. refl))
