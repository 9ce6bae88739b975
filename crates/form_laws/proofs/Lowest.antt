-- What is computed of forms in lowest terms is in lowest terms.
use Rattle.std.proofs.Common.{ℕ, ◌*◌, List, [], ◌∷◌, Bool, true, false, nat_eq}
use Rattle.std.specs.Prelude.{if◌then◌else◌}
use Rattle.std.proofs.Math.IntN.{pos, ◌+ℤ◌, ◌*ℤ◌}
use Rattle.clp_rationals.specs.Fraction.{Fraction, IsLowest}
use Rattle.frac_model.specs.Reduced as frac
use Rattle.frac_laws.proofs.Reducing.{lowest}
use Rattle.frac_laws.proofs.Exact.{positive_product}
use Rattle.form_model.specs.Forms.{AreLowest, each, with_term, with_terms}

abbrev Terms : Type 0
Terms = List (ℕ × Fraction)

pub sum_lowest : (f g : Fraction) → IsLowest f → IsLowest g → IsLowest (frac.sum f g)
sum_lowest f g l m = (lowest (f.num *ℤ pos g.den +ℤ g.num *ℤ pos f.den) (f.den * g.den) (positive_product f.den g.den l.positive m.positive)).0

pub product_lowest : (f g : Fraction) → IsLowest f → IsLowest g → IsLowest (frac.product f g)
product_lowest f g l m = (lowest (f.num *ℤ g.num) (f.den * g.den) (positive_product f.den g.den l.positive m.positive)).0

with_term_lowest : (v : ℕ) (c : Fraction) (ps : Terms) → IsLowest c → AreLowest ps → AreLowest (with_term v c ps)
with_term_lowest v c [] l a = (l, tt)
with_term_lowest v c (p ∷ ps) l a = by (nat_eq v p.0) (with_term_lowest v c ps l a.1)
  where
    by : (b : Bool) → AreLowest (with_term v c ps) → AreLowest (if b then (p.0, frac.sum p.1 c) ∷ ps else p ∷ with_term v c ps)
    by true ih = (sum_lowest p.1 c a.0 l, a.1)
    by false ih = (a.0, ih)

pub with_terms_lowest : (ps qs : Terms) → AreLowest ps → AreLowest qs → AreLowest (with_terms ps qs)
with_terms_lowest ps [] a b = a
with_terms_lowest ps (q ∷ qs) a b = with_terms_lowest (with_term q.0 q.1 ps) qs (with_term_lowest q.0 q.1 ps b.0 a) b.1

pub each_lowest : (g : Fraction → Fraction) → ((f : Fraction) → IsLowest f → IsLowest (g f)) → (ps : Terms) → AreLowest ps → AreLowest (each g ps)
each_lowest g h [] a = tt
each_lowest g h (p ∷ ps) a = (h p.1 a.0, each_lowest g h ps a.1)
