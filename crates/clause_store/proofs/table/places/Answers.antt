use Rattle.std.proofs.Common.{◌≡◌, ℕ, List, take, refl, ◌∙◌, sym, subst, arith}
use Rattle.std.proofs.lemmas.List.{take_all, length-set}
use Rattle.clp_model.specs.Canonical.{place_in}
use Rattle.clp_model.proofs.Membership.{Among}
use Rattle.lin_row.specs.Rows.{at}
use Rattle.clause_laws.proofs.Rows.{each_all}
use Rattle.clause_store.proofs.Tables.{place_written}
use Rattle.clause_store.proofs.table.places.Goals as goal

pub loop-i-preserved : goal.loop-i-preserved
loop-i-preserved c =
    let bounds = c.requires.within c.loop-i.i 0 (omega arith) in
    record {
      count = length-set c.loop-i.table.items _ _ ∙ c.loop-i.invariant.count;
      places = place_written c.args.met.now c.requires.once c.loop-i.i _ (omega arith) refl c.loop-i.table.items bounds.0 (omega (arith, bounds.1, c.loop-i.invariant.count)) c.loop-i.invariant.places;
    }

pub returns-clause-places : goal.returns-clause-places
returns-clause-places c =
    let all : take c.loop-i.i c.args.met.now ≡ c.args.met.now = take_all c.loop-i.i c.args.met.now (omega arith) in
    each_all (λ n. at c.loop-i.table.items n ≡ place_in c.args.met.now n) c.args.met.now (λ n a.
    let P : List ℕ → Type 0 = Among n in c.loop-i.invariant.places n (subst P (sym all) a))
