-- From the outcome of a chain to the answer.
use Rattle.std.proofs.Common.{◌≡◌, ◌≢◌, List, false, ◌⊎◌, inl, inr, refl, sym, ◌∙◌, ap, subst}
use Rattle.std.specs.Prelude.{pos, Option, Some, None, Result, Ok, Err, if◌then◌else◌}
use Rattle.clp_model.specs.Clauses.{Row}
use Rattle.clp_model.specs.declared.sort.Rel.{Rel}
use Rattle.clp_model.specs.declared.sort.Rel.TheVariants.{Eq, Le, Lt}
use Rattle.linear_model.specs.Forms.{IsRising}
use Rattle.linear_model.specs.Certificates.{Part, Shows, ShowsFalse, Entails}
use Rattle.linear_model.specs.Changes.{at_most, flipped}
use Rattle.linear_model.specs.Elimination.{is_equation}
use Rattle.linear_model.specs.Items.{Item}
use Rattle.linear_model.specs.Chain as chains
use Rattle.linear_model.specs.Chain.{Outcome, chain, begun, begun_with, signed, part_of}
use Rattle.chain_laws.specs.Laws.{RisingRows}
use Rattle.chain_laws.proofs.Starting.{target_shown, falsehood_shown, not_entailed, half_not_found}
use Rattle.farkas_check.specs.declared.cert.Cert.TheVariants.{One}
use Rattle.entail_find.specs.declared.questions.Found.TheVariants as founds
use Rattle.entail_find.specs.declared.fault.FindFault.{FindFault}
use Rattle.entail_find.specs.declared.fault.FindFault.TheVariants as faults
use Rattle.entail_find.specs.Answers.{IsFault, IsPart, part_answer, one_answer, second_answer, two_answer, found, false_answer, found_false, Answers}

pub part_is : (o : Outcome) (r : Option Part) → IsPart o r → part_answer o ≡ Ok r
part_is o (Some p) h = ap part_answer h.1 ∙ ap (λ q. Ok (Some q)) (sym h.2)
part_is o None h = ap part_answer h

pub fault_is : (o : Outcome) (f : FindFault) → IsFault o f → (f ≡ faults.NoMemory) ⊎ (part_answer o ≡ Err f)
fault_is o faults.Overflow h = inr (ap part_answer h)
fault_is o faults.TooLong h = inr (ap part_answer h)
fault_is o faults.NoMemory h = inl refl

pub false_fault_is : (o : Outcome) (f : FindFault) → IsFault o f → (f ≡ faults.NoMemory) ⊎ (false_answer o ≡ Err f)
false_fault_is o faults.Overflow h = inr (ap false_answer h)
false_fault_is o faults.TooLong h = inr (ap false_answer h)
false_fault_is o faults.NoMemory h = inl refl

equation_test : (rel : Rel) → rel ≢ Eq → is_equation rel ≡ false
equation_test Eq h = absurd (h refl)
equation_test Le h = refl
equation_test Lt h = refl

module _ (rows : List Row) (target : Row) where
  abbrev pub one : Result (Option Part) FindFault
  one = part_answer (chain (begun_with rows target))

  abbrev pub lower : Outcome
  lower = chain (begun_with rows (at_most target))

  abbrev pub upper : Outcome
  upper = chain (begun_with rows (at_most (flipped target)))

  found_one : target.rel ≢ Eq → found rows target ≡ one_answer one
  found_one h = ap (λ b. if b then two_answer (part_answer lower) (part_answer upper) else one_answer one) (equation_test target.rel h)

  found_two : target.rel ≡ Eq → found rows target ≡ two_answer (part_answer lower) (part_answer upper)
  found_two h = ap (λ r. if is_equation r then two_answer (part_answer lower) (part_answer upper) else one_answer one) h

  pub inequality_is : (r : Option Part) → target.rel ≢ Eq → IsPart (chain (begun_with rows target)) r → one_answer (Ok r) ≡ found rows target
  inequality_is r h k = sym (found_one h ∙ ap one_answer (part_is (chain (begun_with rows target)) r k))

  pub inequality_fault : (f : FindFault) → target.rel ≢ Eq → IsFault (chain (begun_with rows target)) f → Answers (Err f) (found rows target)
  inequality_fault f h k = by (fault_is (chain (begun_with rows target)) f k)
    where
      by : (f ≡ faults.NoMemory) ⊎ (part_answer (chain (begun_with rows target)) ≡ Err f) → Answers (Err f) (found rows target)
      by (inl e) = inl (ap Err e)
      by (inr e) = inr (sym (found_one h ∙ ap one_answer e))

  pub first_none : target.rel ≡ Eq → lower ≡ chains.NotEntailed → Ok founds.NotEntailed ≡ found rows target
  first_none h k = sym (found_two h ∙ ap (λ o. two_answer (part_answer o) (part_answer upper)) k)

  pub second_is : (p : Part) (r : Option Part) → target.rel ≡ Eq → IsPart lower (Some p) → IsPart upper r → second_answer p (Ok r) ≡ found rows target
  second_is p r h k l =
      sym (found_two h ∙ (ap (λ a. two_answer a (part_answer upper)) (part_is lower (Some p) k) ∙ ap (second_answer p) (part_is upper r l)))

  pub first_fault : (f : FindFault) → target.rel ≡ Eq → IsFault lower f → Answers (Err f) (found rows target)
  first_fault f h k = by (fault_is lower f k)
    where
      by : (f ≡ faults.NoMemory) ⊎ (part_answer lower ≡ Err f) → Answers (Err f) (found rows target)
      by (inl e) = inl (ap Err e)
      by (inr e) = inr (sym (found_two h ∙ ap (λ a. two_answer a (part_answer upper)) e))

  pub second_fault : (p : Part) (f : FindFault) → target.rel ≡ Eq → IsPart lower (Some p) → IsFault upper f → Answers (Err f) (found rows target)
  second_fault p f h k l = by (fault_is upper f l)
    where
      by : (f ≡ faults.NoMemory) ⊎ (part_answer upper ≡ Err f) → Answers (Err f) (found rows target)
      by (inl e) = inl (ap Err e)
      by (inr e) = inr (sym (found_two h ∙ (ap (λ a. two_answer a (part_answer upper)) (part_is lower (Some p) k) ∙ ap (second_answer p) e)))

  -- ---- and it is right
  pub part_shows : (p : Part) → target.rel ≢ Eq → IsPart (chain (begun_with rows target)) (Some p) → Shows rows target p
  part_shows p h k = subst (Shows rows target) (sym k.2) (target_shown rows target k.0 h k.1)

  pub none_shows : target.rel ≢ Eq → RisingRows rows → IsRising target.pairs → chain (begun_with rows target) ≡ chains.NotEntailed → ¬ Entails rows target
  none_shows h r t k = not_entailed rows target h r t k

  pub first_shows : (p : Part) → IsPart lower (Some p) → Shows rows (at_most target) p
  first_shows p k = subst (Shows rows (at_most target)) (sym k.2) (target_shown rows (at_most target) k.0 (λ e. absurd (let f : is_equation Le ≡ is_equation Eq = ap is_equation e in cc)) k.1)

  pub second_shows : (p : Part) → IsPart upper (Some p) → Shows rows (at_most (flipped target)) p
  second_shows p k = subst (Shows rows (at_most (flipped target))) (sym k.2) (target_shown rows (at_most (flipped target)) k.0 (λ e. absurd (let f : is_equation Le ≡ is_equation Eq = ap is_equation e in cc)) k.1)

  pub first_not : target.rel ≡ Eq → RisingRows rows → IsRising target.pairs → lower ≡ chains.NotEntailed → ¬ Entails rows target
  first_not h r t k = half_not_found rows target h r t (inl k)

  pub second_not : target.rel ≡ Eq → RisingRows rows → IsRising target.pairs → upper ≡ chains.NotEntailed → ¬ Entails rows target
  second_not h r t k = half_not_found rows target h r t (inr k)

-- ---- without a target
pub false_is : (rows : List Row) (i : Item) (p : Part) → chain (begun rows) ≡ chains.Shown i → p ≡ record { k = pos 0; m = signed i } → Ok (founds.Shown (One p)) ≡ found_false rows
false_is rows i p e f = ap (λ q. Ok (founds.Shown (One q))) f ∙ sym (ap false_answer e)

pub false_none : (rows : List Row) → chain (begun rows) ≡ chains.NotEntailed → Ok founds.NotEntailed ≡ found_false rows
false_none rows e = sym (ap false_answer e)

pub false_shows : (rows : List Row) (i : Item) (p : Part) → chain (begun rows) ≡ chains.Shown i → p ≡ record { k = pos 0; m = signed i } → (p.k ≡ pos 0) × ShowsFalse rows p
false_shows rows i p e f = (ap (λ (q : Part). q.k) f, subst (ShowsFalse rows) (sym f) (falsehood_shown rows i e))

pub false_fault : (rows : List Row) (f : FindFault) → IsFault (chain (begun rows)) f → Answers (Err f) (found_false rows)
false_fault rows f k = by (false_fault_is (chain (begun rows)) f k)
  where
    by : (f ≡ faults.NoMemory) ⊎ (false_answer (chain (begun rows)) ≡ Err f) → Answers (Err f) (found_false rows)
    by (inl e) = inl (ap Err e)
    by (inr e) = inr (sym e)
