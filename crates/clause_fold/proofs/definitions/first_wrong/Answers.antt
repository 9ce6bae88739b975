use Rattle.std.proofs.Common.{◌≡◌, sym, ◌∙◌, subst, arith, List, ℕ, map, take, get_or, true}
use Rattle.term_store.specs.Trees.{AreIn}
use Rattle.clause_store.specs.Stored.{atom_at, atoms_at}
use Rattle.fold_model.specs.Internal.{number_in}
use Rattle.fold_model.specs.Definitions.{is_other_variable}
use Rattle.substitution.proofs.Weighed.{item_in}
use Rattle.clause_fold.proofs.Arguments.{front_in, wrong_next}
use Rattle.clause_fold.proofs.definitions.first_wrong.Goals as goal

pub is_other_variable-requires-clause-before : goal.is_other_variable-requires-clause-before
is_other_variable-requires-clause-before c = let P : List ℕ → Type 0 = AreIn c.args.store.now in subst P (sym c.front.ensures) (front_in c.args.store.now c.args.args.now c.loop-i.i c.requires.within)

pub is_other_variable-requires-clause-within : goal.is_other_variable-requires-clause-within
is_other_variable-requires-clause-within c = item_in c.args.store.now c.args.args.now c.loop-i.i c.index-args-i.result (omega arith) c.index-args-i.is c.requires.within

pub loop-i-preserved : goal.loop-i-preserved
loop-i-preserved c =
    let store = c.args.store.now in
    let terms = c.args.args.now in
    let i = c.loop-i.i in
    let d = c.index-args-i.result in
    let same = c.index-args-i.is in
    let front = c.front.ensures in
    let passed = c.if-not-is_other_variable.ensures in
    let is : is_other_variable (map number_in (atoms_at store (take i terms))) (atom_at store (get_or terms i d)) ≡ true = cc in
    wrong_next store terms i d (omega arith) is ∙ c.loop-i.invariant
