use Rattle.term_store.specs.Trees.{tree_at}
use Rattle.substitution.specs.Bindings.{variable_of}
use Rattle.substitution.proofs.Carried.{term_within}
use Rattle.substitution.proofs.Meeting.{met_again, met_first}
use Rattle.substitution.proofs.patterns.meet_variable.Goals as goal

pub same-requires-clause-left : goal.same-requires-clause-left
same-requires-clause-left c = term_within c.args.store.now c.args.found.now c.in-Some.place c.at-term.result c.at-term.ensures c.requires.found.terms

pub returns-in-Some : goal.returns-in-Some
returns-in-Some c =
    met_again c.args.store.now c.args.found.now c.in-Some.place c.at-term.result c.at-term.ensures (variable_of c.args.number c.args.sort) c.in-Some.ensures.some c.requires.found
    (tree_at c.args.store.now c.args.target) c.same.result c.same.ensures

pub returns-in_ok-push-in-None : goal.returns-in_ok-push-in-None
returns-in_ok-push-in-None c =
    met_first c.args.store.now c.args.found.now c.push.new.self (record { number = c.args.number; sort = c.args.sort; term = c.args.target }) c.in_ok-push-in-None.ensures.ok c.in-None.ensures.none c.requires.found c.requires.target
    (let e = c.if-not-may_become.ensures in let q = c.if-not-may_become.false in cc)
