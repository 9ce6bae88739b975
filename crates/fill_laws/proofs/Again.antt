-- The source of a clause that was loaded is loaded as this clause again.
use Rattle.std.proofs.Common.{◌≡◌, Bool, true, false, refl, ap, subst}
use Rattle.std.specs.Prelude.{Option, Some, None, Result, Ok, Err, if◌then◌else◌}
use Rattle.clp_model.specs.declared.limit.Limit.TheVariants.{Shape}
use Rattle.clp_model.specs.Clauses.{Clause}
use Rattle.clause_model.specs.Canonical.{Refusal, TooLarge, new_clause, IsCanonical}
use Rattle.clause_model.specs.Solved.{solved_clause}
use Rattle.clause_model.specs.Load.{load_one, loaded_solved, made_of, any_side_large}
use Rattle.clause_model.specs.Source.{source_of}
use Rattle.clause_laws.proofs.Loading.{solved_shape}
use Rattle.clause_laws.proofs.NewClause.{new_clause_is_canonical}
use Rattle.clause_laws.proofs.SourceLoaded.{source_is_loaded}

some_is : {d x : Clause} → ◌≡◌ {A = Result (Option Clause) Refusal} (Ok (Some d)) (Ok (Some x)) → d ≡ x
some_is {d} e = let back : Result (Option Clause) Refusal → Clause = elim [ Ok None ↦ d | Ok (Some y) ↦ y | Err r ↦ d ] in ap back e

-- a clause that was loaded is canonical, also where its source is not well-formed
pub loaded_is_canonical : (c d : Clause) → load_one c ≡ Ok (Some d) → IsCanonical d
unfolding load_one
loaded_is_canonical c d e = by (any_side_large c.equations) e
  where
    made : (s : Clause) → solved_clause c ≡ Some s → (o : Result Clause Refusal) → new_clause s ≡ o → made_of o ≡ Ok (Some d) → IsCanonical d
    made s q (Err r) n h = absurd (cc)
    made s q (Ok x) n h = subst IsCanonical (some_is h) (new_clause_is_canonical s x (solved_shape c s q).1 n).1

    solved : (o : Option Clause) → solved_clause c ≡ o → loaded_solved o ≡ Ok (Some d) → IsCanonical d
    solved None q h = absurd (cc)
    solved (Some s) q h = made s q (new_clause s) refl h

    by : (b : Bool) → (if b then Err (TooLarge Shape) else loaded_solved (solved_clause c)) ≡ Ok (Some d) → IsCanonical d
    by true h = absurd (cc)
    by false h = solved (solved_clause c) refl h

pub loaded_again : (c d : Clause) → load_one c ≡ Ok (Some d) → load_one (source_of d) ≡ Ok (Some d)
loaded_again c d e = source_is_loaded d (loaded_is_canonical c d e)
