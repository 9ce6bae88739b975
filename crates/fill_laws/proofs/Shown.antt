-- The certificate by which something is shown has no fault, also where it was found.
use Rattle.std.proofs.Common.{◌≡◌, ℕ, List, pos, Bool, true, false, refl, ap, subst}
use Rattle.std.specs.Prelude.{Option, Some, None, Result, Ok, Err, if◌then◌else◌}
use Rattle.clp_model.specs.Clauses.{Row}
use Rattle.clp_model.specs.declared.sort.Rel.{Rel}
use Rattle.clp_model.specs.declared.sort.Rel.TheVariants.{Eq, Le, Lt}
use Rattle.linear_model.specs.Changes.{at_most, flipped}
use Rattle.linear_model.specs.Elimination.{is_equation}
use Rattle.linear_model.specs.Certificates.{Part, Unsatisfiable}
use Rattle.linear_model.specs.Chain as chains
use Rattle.linear_model.specs.Chain.{Outcome, chain, begun, begun_with, signed, part_of}
use Rattle.linear_laws.proofs.Certificates.{shown_false}
use Rattle.farkas_check.specs.declared.fault.CheckFault.{CheckFault}
use Rattle.farkas_check.specs.declared.cert.Cert.{Cert}
use Rattle.farkas_check.specs.declared.cert.Cert.TheVariants.{One, Two}
use Rattle.farkas_check.specs.Checks.{shown_fault}
use Rattle.farkas_check.specs.Right.{IsRight}
use Rattle.farkas_check.proofs.Rightness.{faultless_is_right, right_is_faultless, right_entails, faultless_shows_false, shows_false_faultless}
use Rattle.entail_find.specs.declared.questions.Found.{Found}
use Rattle.entail_find.specs.declared.questions.Found.TheVariants as founds
use Rattle.entail_find.specs.declared.fault.FindFault.{FindFault}
use Rattle.entail_find.specs.Answers.{part_answer, one_answer, two_answer, found, false_answer, found_false}
use Rattle.entail_find.proofs.Answering.{part_shows, first_shows, second_shows, false_shows}
use Rattle.map_model.specs.declared.shown.Shown.TheVariants.{Find, Given}
use Rattle.map_model.specs.declared.refusal.Refusal.{Refusal}
use Rattle.map_model.specs.declared.refusal.Refusal.TheVariants.{Unentailed, Satisfiable}
use Rattle.map_model.specs.Showing.{unless_wrong, unless_none, false_fault_of}
use Rattle.fill_laws.specs.Laws.{ShownRowIsAccepted, ShownRowIsEntailed, ShownFalsehoodIsAccepted, ShownFalsehoodHasNoSolution}

-- ---- what the finder finds
found_is : {c d : Cert} → ◌≡◌ {A = Result Found FindFault} (Ok (founds.Shown c)) (Ok (founds.Shown d)) → c ≡ d
found_is {c} h = let back : Result Found FindFault → Cert = elim [ Ok (founds.Shown x) ↦ x | Ok founds.NotEntailed ↦ c | Err f ↦ c ] in ap back h

equation_test : (rel : Rel) → is_equation rel ≡ true → rel ≡ Eq
equation_test Eq e = refl
equation_test Le e = absurd (cc)
equation_test Lt e = absurd (cc)

no_equation : (rel : Rel) → is_equation rel ≡ false → ¬ (rel ≡ Eq)
no_equation Eq e h = absurd (cc)
no_equation Le e h = absurd (cc)
no_equation Lt e h = absurd (cc)

module _ (rows : List Row) (target : Row) (c : Cert) where
  one : ¬ (target.rel ≡ Eq) → (o : Outcome) → chain (begun_with rows target) ≡ o → one_answer (part_answer o) ≡ Ok (founds.Shown c) → IsRight rows target c
  one h (chains.Shown i) e q = subst (IsRight rows target) (found_is q) (h, part_shows rows target (part_of (signed i)) h (i, e, refl))
  one h chains.NotEntailed e q = absurd (cc)
  one h chains.Overflow e q = absurd (cc)
  one h chains.TooLong e q = absurd (cc)

  two : target.rel ≡ Eq → (o p : Outcome) → chain (begun_with rows (at_most target)) ≡ o → chain (begun_with rows (at_most (flipped target))) ≡ p
      → two_answer (part_answer o) (part_answer p) ≡ Ok (founds.Shown c) → IsRight rows target c
  two h (chains.Shown i) (chains.Shown j) e f q =
      subst (IsRight rows target) (found_is q) (h, first_shows rows target (part_of (signed i)) (i, e, refl), second_shows rows target (part_of (signed j)) (j, f, refl))
  two h (chains.Shown i) chains.NotEntailed e f q = absurd (cc)
  two h (chains.Shown i) chains.Overflow e f q = absurd (cc)
  two h (chains.Shown i) chains.TooLong e f q = absurd (cc)
  two h chains.NotEntailed p e f q = absurd (cc)
  two h chains.Overflow p e f q = absurd (cc)
  two h chains.TooLong p e f q = absurd (cc)

  found_right : found rows target ≡ Ok (founds.Shown c) → IsRight rows target c
  found_right q = by (is_equation target.rel) refl q
    where
      by : (b : Bool) → is_equation target.rel ≡ b
          → (if b then two_answer (part_answer (chain (begun_with rows (at_most target)))) (part_answer (chain (begun_with rows (at_most (flipped target)))))
          else one_answer (part_answer (chain (begun_with rows target)))) ≡ Ok (founds.Shown c)
          → IsRight rows target c
      by true e k = two (equation_test target.rel e) (chain (begun_with rows (at_most target))) (chain (begun_with rows (at_most (flipped target)))) refl refl k
      by false e k = one (no_equation target.rel e) (chain (begun_with rows target)) refl k

found_false_right : (rows : List Row) (c : Cert) → found_false rows ≡ Ok (founds.Shown c) → false_fault_of rows c ≡ None
found_false_right rows c q = by (chain (begun rows)) refl q
  where
    by : (o : Outcome) → chain (begun rows) ≡ o → false_answer o ≡ Ok (founds.Shown c) → false_fault_of rows c ≡ None
    by (chains.Shown i) e k =
        let part : Part = record { k = pos 0; m = signed i } in
        let s = false_shows rows i part e refl in
        subst (λ x. false_fault_of rows x ≡ None) (found_is k) (shows_false_faultless rows part s.0 s.1)
    by chains.NotEntailed e k = absurd (cc)
    by chains.Overflow e k = absurd (cc)
    by chains.TooLong e k = absurd (cc)

-- ---- a certificate that is given, and one that is found
cert_is : {c d : Cert} → ◌≡◌ {A = Result Cert Refusal} (Ok c) (Ok d) → c ≡ d
cert_is {c} h = let back : Result Cert Refusal → Cert = elim [ Ok x ↦ x | Err r ↦ c ] in ap back h

given_faultless : (fault : Cert → Option CheckFault) (place : ℕ) (c d : Cert) → unless_wrong place c (fault c) ≡ Ok d → fault d ≡ None
given_faultless fault place c d h = by (fault c) refl h
  where
    by : (o : Option CheckFault) → fault c ≡ o → unless_wrong place c o ≡ Ok d → fault d ≡ None
    by None e q = subst (λ x. fault x ≡ None) (cert_is q) e
    by (Some f) e q = absurd (cc)

it_was_found : (place : ℕ) (none : Refusal) (o : Result Found FindFault) (c : Cert) → unless_none place none o ≡ Ok c → o ≡ Ok (founds.Shown c)
it_was_found place none (Ok (founds.Shown d)) c h = ap (λ x. Ok (founds.Shown x)) (cert_is h)
it_was_found place none (Ok founds.NotEntailed) c h = absurd (cc)
it_was_found place none (Err f) c h = absurd (cc)

-- ---- the laws
pub shown_accepted : ShownRowIsAccepted
shown_accepted place rows target (Given d) c h = given_faultless (shown_fault rows target) place d c h
shown_accepted place rows target Find c h = right_is_faultless rows target c (found_right rows target c (it_was_found place (Unentailed place) (found rows target) c h))

pub shown_entailed : ShownRowIsEntailed
shown_entailed place rows target show c h = right_entails rows target c (faultless_is_right rows target c (shown_accepted place rows target show c h))

pub false_accepted : ShownFalsehoodIsAccepted
false_accepted rows (Given d) c h = given_faultless (false_fault_of rows) 1 d c h
false_accepted rows Find c h = found_false_right rows c (it_was_found 1 Satisfiable (found_false rows) c h)

no_solution : (rows : List Row) (c : Cert) → false_fault_of rows c ≡ None → Unsatisfiable rows
no_solution rows (One part) e = shown_false rows part (faultless_shows_false rows part e).1
no_solution rows (Two p q) e = absurd (cc)

pub false_unsatisfiable : ShownFalsehoodHasNoSolution
false_unsatisfiable rows show c h = no_solution rows c (false_accepted rows show c h)
