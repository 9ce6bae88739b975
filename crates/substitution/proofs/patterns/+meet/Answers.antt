use Rattle.std.proofs.Common.{◌≡◌, ◌∙◌, ap, sym, refl, arith, ◌∷◌, []}
use Rattle.clp_model.specs.Trees.{size, variables, variables_in}
use Rattle.clp_model.proofs.Trees.{size_app, variables_app, variables_var}
use Rattle.term_store.specs.Trees.{tree_at, trees_at}
use Rattle.unify_model.specs.Substituting.{substituted, substituted_all}
use Rattle.substitution.specs.Bindings.{variable_of}
use Rattle.substitution.specs.Found.{EachIs}
use Rattle.substitution.proofs.Weighed.{sub_var, item_in, item_size}
use Rattle.substitution.proofs.Meeting.{met_as, met_if_as, is_met, never_met, to_application, to_arguments, same_names, no_variable, same_counts, not_both, to_all, from_all, met_more, never_more}
use Rattle.substitution.proofs.patterns.+meet.Goals as goal

pub meet-returns-then-not-same_name : goal.meet-returns-then-not-same_name
meet-returns-then-not-same_name t c f r all h =
    let store = c.args.store.now in
    let e = same_names f (tree_at store c.args.pattern) (tree_at store c.args.target) c.in-App.name.now c.in-App-look.other.now (trees_at store c.in-App.patterns.now) (trees_at store c.in-App-look.targets.now) c.in-App.ensures.shows.0 c.in-App-look.ensures.shows.0 h in
    not_both c.same_name.result (c.same_name.ensures.1 e) c.if-not-same_name.true

pub meet-meet_all-requires : goal.meet-meet_all-requires
meet-meet_all-requires t c =
    let store = c.args.store.now in
    let s = ap size c.in-App.ensures.shows.0 ∙ size_app c.in-App.name.now (trees_at store c.in-App.patterns.now) in
    let d = c.decreases in
    (omega (arith, s, d), (c.in-App.ensures.shows.1, (c.in-App-look.ensures.shows.1, c.requires.found)))

pub meet-returns-in_ok-met-in-Var : goal.meet-returns-in_ok-met-in-Var
meet-returns-in_ok-met-in-Var t c =
    let store = c.args.store.now in
    let v = variable_of c.in-Var.number c.in-Var.sort in
    let tree = tree_at store c.args.pattern in
    let target = tree_at store c.args.target in
    met_if_as store c.args.found.now c.meet_variable.new.found (v ∷ []) (variables tree) (λ f. f v ≡ target) (λ f. substituted f tree ≡ target) (sym (ap variables c.in-Var.ensures.shows ∙ variables_var v))
    (λ f h. sub_var f tree v c.in-Var.ensures.shows ∙ h) (λ f h. sym (sub_var f tree v c.in-Var.ensures.shows) ∙ h) c.in_ok-met-in-Var.met c.in_ok-met-in-Var.ensures

pub meet-returns-in_ok-met-in-App-look : goal.meet-returns-in_ok-met-in-App-look
meet-returns-in_ok-met-in-App-look t c =
    let store = c.args.store.now in
    let tree = tree_at store c.args.pattern in
    let target = tree_at store c.args.target in
    let name = c.in-App.name.now in
    let other = c.in-App-look.other.now in
    let ps = trees_at store c.in-App.patterns.now in
    let ts = trees_at store c.in-App-look.targets.now in
    let e : name ≡ other = c.same_name.ensures.0 c.if-not-same_name.false in
    met_if_as store c.args.found.now c.meet_all.new.found (variables_in ps) (variables tree) (λ f. substituted_all f ps ≡ ts) (λ f. substituted f tree ≡ target) (sym (ap variables c.in-App.ensures.shows.0 ∙ variables_app name ps))
    (λ f h. to_application f tree target name other ps ts c.in-App.ensures.shows.0 c.in-App-look.ensures.shows.0 e h) (λ f h. to_arguments f tree target name other ps ts c.in-App.ensures.shows.0 c.in-App-look.ensures.shows.0 h)
    c.in_ok-met-in-App-look.met c.in_ok-met-in-App-look.ensures

pub meet-returns-in-Var-look : goal.meet-returns-in-Var-look
meet-returns-in-Var-look t c f r all h =
    let store = c.args.store.now in
    no_variable f (tree_at store c.args.pattern) (tree_at store c.args.target) c.in-App.name.now (trees_at store c.in-App.patterns.now) (variable_of c.in-Var-look.field-0 c.in-Var-look.field-1) c.in-App.ensures.shows.0 c.in-Var-look.ensures.shows h

pub meet_all-returns-then-patterns-targets : goal.meet_all-returns-then-patterns-targets
meet_all-returns-then-patterns-targets t c f r all h =
    let e = same_counts f c.args.store.now c.args.patterns.now c.args.targets.now h in
    absurd (omega (arith, e))

pub meet_all-meet-requires : goal.meet_all-meet-requires
meet_all-meet-requires t c =
    let store = c.args.store.now in
    let s = item_size store c.args.patterns.now c.loop-i.i c.index-patterns-i.result (omega arith) c.index-patterns-i.is in
    let d = c.decreases in (
      omega (arith, s, d),
      (
        item_in store c.args.patterns.now c.loop-i.i c.index-patterns-i.result (omega arith) c.index-patterns-i.is c.requires.patterns,
        (item_in store c.args.targets.now c.loop-i.i c.index-targets-i.result (omega arith) c.index-targets-i.is c.requires.targets, c.loop-i.invariant.found),
      ),
    )

pub meet_all-returns-then-not-met : goal.meet_all-returns-then-not-met
meet_all-returns-then-not-met t c =
    let store = c.args.store.now in
    let p = c.index-patterns-i.result in
    let u = c.index-targets-i.result in
    never_more store c.args.patterns.now c.args.targets.now c.loop-i.i p u (omega arith) (omega arith) c.index-patterns-i.is c.index-targets-i.is c.args.found.now c.loop-i.found c.loop-i.invariant
    (never_met store (variables (tree_at store p)) c.loop-i.found c.meet.new.found (λ f. substituted f (tree_at store p) ≡ tree_at store u) c.in_ok-met.met (let q = c.if-not-met.true in cc) c.in_ok-met.ensures)

pub meet_all-loop-i-preserved : goal.meet_all-loop-i-preserved
meet_all-loop-i-preserved t c =
    let store = c.args.store.now in
    let p = c.index-patterns-i.result in
    let u = c.index-targets-i.result in
    met_more store c.args.patterns.now c.args.targets.now c.loop-i.i p u (omega arith) (omega arith) c.index-patterns-i.is c.index-targets-i.is c.args.found.now c.loop-i.found c.meet.new.found c.loop-i.invariant
    (is_met store (variables (tree_at store p)) c.loop-i.found c.meet.new.found (λ f. substituted f (tree_at store p) ≡ tree_at store u) c.in_ok-met.met (let q = c.if-not-met.false in cc) c.in_ok-met.ensures)

pub meet_all-returns : goal.meet_all-returns
meet_all-returns t c =
    let store = c.args.store.now in
    let ps = c.args.patterns.now in
    let ts = c.args.targets.now in
    met_as store c.args.found.now c.loop-i.found (variables_in (trees_at store ps)) (variables_in (trees_at store ps)) (EachIs store ps ts c.loop-i.i) (λ f. substituted_all f (trees_at store ps) ≡ trees_at store ts) refl
    (λ f each. to_all f store ps ts c.loop-i.i (omega arith) (omega arith) each) (λ f h. from_all f store ps ts c.loop-i.i (omega arith) h) c.loop-i.invariant
