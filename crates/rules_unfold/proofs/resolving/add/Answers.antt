use Rattle.std.proofs.Common.{◌∙◌, List, ◌∷◌, [], Option, Result, Ok, option_to_list, ap, sym, subst}
use Rattle.clause_store.specs.Stored.{clause_in}
use Rattle.map_model.specs.declared.refusal.Refusal.{Refusal}
use Rattle.map_model.specs.State.{Entry, entry_at}
use Rattle.map_model.specs.Rewriting.{new_entries}
use Rattle.map_model.specs.Unfolding.{drafted, resolvents_from}
use Rattle.unfold_model.specs.Resolvent.{resolvent}
use Rattle.clp_model.specs.declared.tree.Variable.{Variable}
use Rattle.clp_model.specs.declared.tree.Tree.{Tree}
use Rattle.map_state.specs.declared.change.Made.{Made}
use Rattle.map_state.specs.Seen.{state_of, entry_in}
use Rattle.map_state.specs.Changes.{AllMade, made_entries}
use Rattle.rules_unfold.proofs.Drafts.{live_there, made_more, made_same, all_kept, all_push}
use Rattle.rules_unfold.proofs.resolving.add.Goals as goal

pub returns-in_ok-push-in-Some-2-clause-all : goal.returns-in_ok-push-in-Some-2-clause-all
returns-in_ok-push-in-Some-2-clause-all c =
    let new = c.drafted.new.scratch in
    let all = all_kept c.args.scratch.now new c.drafted.ensures.keeps c.args.made.now c.requires.all in
    let P : Option Made → Type 0 = λ o. AllMade new (option_to_list o) in
    let Q : List Made → Type 0 = AllMade new in
    subst Q (sym c.in_ok-push-in-Some-2.ensures.ok) (all_push new c.args.made.now c.in-Some-2.one all (subst P c.in-Some-2.is c.in_ok-one.ensures.stored))

pub returns-in_ok-push-in-Some-2-clause-value : goal.returns-in_ok-push-in-Some-2-clause-value
returns-in_ok-push-in-Some-2-clause-value c = λ n.
    let store = c.args.state.now.store in
    let s = state_of c.args.state.now in
    let d = clause_in store c.args.c.now in
    let new = c.drafted.new.scratch in
    let seen : List (Tree Variable) → Result (List Entry) Refusal = λ v. new_entries n (drafted c.args.id c.args.by (resolvent (clause_in v c.args.c.now) c.args.place (clause_in v c.in-Some.entry.now.clause))) in
    let ok : Option Made → Result (List Entry) Refusal = λ o. Ok (made_entries n new (option_to_list o)) in
    made_more c.args.scratch.now new n c.args.made.now c.push.new.self c.in-Some-2.one (new_entries n (resolvents_from c.args.id d c.args.place c.args.by (entry_at s c.args.by ∷ [])))
    c.drafted.ensures.keeps c.requires.all c.in_ok-push-in-Some-2.ensures.ok
    (ap (new_entries n) (live_there c.args.id d c.args.place s c.args.by (entry_in store c.in-Some.entry.now) c.in-Some.ensures.value) ∙ ap seen (sym c.store.ensures) ∙ c.in_ok-one.ensures.value n ∙ ap ok c.in-Some-2.is)

pub returns-in-None-clause-all : goal.returns-in-None-clause-all
returns-in-None-clause-all c = all_kept c.args.scratch.now c.drafted.new.scratch c.drafted.ensures.keeps c.args.made.now c.requires.all

pub returns-in-None-clause-value : goal.returns-in-None-clause-value
returns-in-None-clause-value c = λ n.
    let store = c.args.state.now.store in
    let s = state_of c.args.state.now in
    let d = clause_in store c.args.c.now in
    let new = c.drafted.new.scratch in
    let seen : List (Tree Variable) → Result (List Entry) Refusal = λ v. new_entries n (drafted c.args.id c.args.by (resolvent (clause_in v c.args.c.now) c.args.place (clause_in v c.in-Some.entry.now.clause))) in
    let ok : Option Made → Result (List Entry) Refusal = λ o. Ok (made_entries n new (option_to_list o)) in
    made_same c.args.scratch.now new n c.args.made.now (new_entries n (resolvents_from c.args.id d c.args.place c.args.by (entry_at s c.args.by ∷ [])))
    c.drafted.ensures.keeps c.requires.all
    (ap (new_entries n) (live_there c.args.id d c.args.place s c.args.by (entry_in store c.in-Some.entry.now) c.in-Some.ensures.value) ∙ ap seen (sym c.store.ensures) ∙ c.in_ok-one.ensures.value n ∙ ap ok c.in-None.is)
