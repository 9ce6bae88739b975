-- The certificate by which something is shown can be written, also where it was found.
use Rattle.std.proofs.Common.{◌≡◌, ℕ, List, Bool, true, false, refl, sym, ap, subst}
use Rattle.std.specs.Prelude.{Option, Some, None, Result, Ok, Err, if◌then◌else◌}
use Rattle.clp_model.specs.Clauses.{Row}
use Rattle.linear_model.specs.Changes.{at_most, flipped}
use Rattle.linear_model.specs.Elimination.{is_equation}
use Rattle.linear_model.specs.Chain as chains
use Rattle.linear_model.specs.Chain.{Outcome, chain, begun, begun_with, signed, part_of}
use Rattle.farkas_check.specs.declared.fault.CheckFault.{CheckFault}
use Rattle.farkas_check.specs.declared.cert.Cert.{Cert}
use Rattle.farkas_check.specs.Checks.{shown_fault}
use Rattle.entail_find.specs.declared.questions.Found.{Found}
use Rattle.entail_find.specs.declared.questions.Found.TheVariants as founds
use Rattle.entail_find.specs.declared.fault.FindFault.{FindFault}
use Rattle.entail_find.specs.Answers.{part_answer, one_answer, two_answer, found, false_answer, found_false}
use Rattle.map_model.specs.declared.shown.Shown.TheVariants.{Find, Given}
use Rattle.map_model.specs.declared.refusal.Refusal.{Refusal}
use Rattle.map_model.specs.declared.refusal.Refusal.TheVariants.{Unentailed, Satisfiable}
use Rattle.map_model.specs.Showing.{unless_wrong, unless_none, false_fault_of}
use Rattle.script_grammar.specs.ScriptText.{IsCertificate}
use Rattle.found_laws.specs.Laws.{FoundRowCanBeWritten, FoundFalsehoodCanBeWritten, ShownRowCanBeWritten, ShownFalsehoodCanBeWritten, GivenRowStays, GivenFalsehoodStays}
use Rattle.found_laws.proofs.Multipliers.{target_within, falsehood_within}

-- ---- what the finder finds
found_is : {c d : Cert} → ◌≡◌ {A = Result Found FindFault} (Ok (founds.Shown c)) (Ok (founds.Shown d)) → c ≡ d
found_is {c} h = let back : Result Found FindFault → Cert = elim [ Ok (founds.Shown x) ↦ x | Ok founds.NotEntailed ↦ c | Err f ↦ c ] in ap back h

module _ (rows : List Row) (target : Row) (c : Cert) where
  one : (o : Outcome) → chain (begun_with rows target) ≡ o → one_answer (part_answer o) ≡ Ok (founds.Shown c) → IsCertificate c
  one (chains.Shown i) e q = subst IsCertificate (found_is q) (target_within rows target i e)
  one chains.NotEntailed e q = absurd (cc)
  one chains.Overflow e q = absurd (cc)
  one chains.TooLong e q = absurd (cc)

  two : (o p : Outcome) → chain (begun_with rows (at_most target)) ≡ o → chain (begun_with rows (at_most (flipped target))) ≡ p
      → two_answer (part_answer o) (part_answer p) ≡ Ok (founds.Shown c) → IsCertificate c
  two (chains.Shown i) (chains.Shown j) e f q =
      subst IsCertificate (found_is q) (target_within rows (at_most target) i e, target_within rows (at_most (flipped target)) j f)
  two (chains.Shown i) chains.NotEntailed e f q = absurd (cc)
  two (chains.Shown i) chains.Overflow e f q = absurd (cc)
  two (chains.Shown i) chains.TooLong e f q = absurd (cc)
  two chains.NotEntailed p e f q = absurd (cc)
  two chains.Overflow p e f q = absurd (cc)
  two chains.TooLong p e f q = absurd (cc)

pub found_row : FoundRowCanBeWritten
found_row rows target c h = by (is_equation target.rel) h
  where
    by : (b : Bool)
        → (if b then two_answer (part_answer (chain (begun_with rows (at_most target)))) (part_answer (chain (begun_with rows (at_most (flipped target)))))
        else one_answer (part_answer (chain (begun_with rows target)))) ≡ Ok (founds.Shown c)
        → IsCertificate c
    by true k = two rows target c (chain (begun_with rows (at_most target))) (chain (begun_with rows (at_most (flipped target)))) refl refl k
    by false k = one rows target c (chain (begun_with rows target)) refl k

pub found_falsehood : FoundFalsehoodCanBeWritten
found_falsehood rows c h = by (chain (begun rows)) refl h
  where
    by : (o : Outcome) → chain (begun rows) ≡ o → false_answer o ≡ Ok (founds.Shown c) → IsCertificate c
    by (chains.Shown i) e k = subst IsCertificate (found_is k) (falsehood_within rows i e)
    by chains.NotEntailed e k = absurd (cc)
    by chains.Overflow e k = absurd (cc)
    by chains.TooLong e k = absurd (cc)

-- ---- a certificate that is given, and one that is found
cert_is : {c d : Cert} → ◌≡◌ {A = Result Cert Refusal} (Ok c) (Ok d) → c ≡ d
cert_is {c} h = let back : Result Cert Refusal → Cert = elim [ Ok x ↦ x | Err r ↦ c ] in ap back h

it_stays : (place : ℕ) (given c : Cert) (fault : Option CheckFault) → unless_wrong place given fault ≡ Ok c → c ≡ given
it_stays place given c None h = sym (cert_is h)
it_stays place given c (Some f) h = absurd (cc)

it_was_found : (place : ℕ) (none : Refusal) (o : Result Found FindFault) (c : Cert) → unless_none place none o ≡ Ok c → o ≡ Ok (founds.Shown c)
it_was_found place none (Ok (founds.Shown d)) c h = ap (λ x. Ok (founds.Shown x)) (cert_is h)
it_was_found place none (Ok founds.NotEntailed) c h = absurd (cc)
it_was_found place none (Err f) c h = absurd (cc)

-- ---- the laws
pub given_row : GivenRowStays
given_row place rows target given c h = it_stays place given c (shown_fault rows target given) h

pub given_falsehood : GivenFalsehoodStays
given_falsehood rows given c h = it_stays 1 given c (false_fault_of rows given) h

pub shown_row : ShownRowCanBeWritten
shown_row place rows target (Given given) c w h = subst IsCertificate (sym (given_row place rows target given c h)) w
shown_row place rows target Find c w h = found_row rows target c (it_was_found place (Unentailed place) (found rows target) c h)

pub shown_falsehood : ShownFalsehoodCanBeWritten
shown_falsehood rows (Given given) c w h = subst IsCertificate (sym (given_falsehood rows given c h)) w
shown_falsehood rows Find c w h = found_falsehood rows c (it_was_found 1 Satisfiable (found_false rows) c h)
