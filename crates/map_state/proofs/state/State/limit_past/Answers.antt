use Rattle.std.proofs.Common.{arith, ap, sym, ◌∙◌, ◌≡◌, length, List}
use Rattle.map_state.specs.Seen.{Seen, IsSound, state_of}
use Rattle.map_model.specs.State.{live_count}
use Rattle.map_state.specs.Changes.{changed}
use Rattle.map_state.specs.Rows.{nodes_of_made}
use Rattle.map_state.specs.declared.change.Made.{Made}
use Rattle.map_state.proofs.Counting.{live_changed, nodes_changed, few_dead, past_clauses, past_nodes, past_none}
use Rattle.map_state.proofs.state.State.limit_past.Goals as goal

live_is : (a b : Seen) → a ≡ b → IsSound a → a.live ≡ live_count (state_of b)
live_is a b e h = h.live_is ∙ ap (λ (seen : Seen). live_count (state_of seen)) e

pub overflow_add-self-inside : goal.overflow_add-self-inside
overflow_add-self-inside c =
    let live = live_is _ _ c.self.view_is c.self.invariant in
    let dead = few_dead (state_of c.args.self.now) c.args.change.now c.requires in
    let few = c.self.invariant.few_live in
    let dead_len = c.len-2.ensures in
    omega arith

pub returns-then-len-self : goal.returns-then-len-self
returns-then-len-self c =
    let live = live_is _ _ c.self.view_is c.self.invariant in
    let few = c.self.invariant.few_live in
    let l = live_changed (state_of c.args.self.now) c.args.change.now c.requires in
    sym (past_clauses (changed (state_of c.args.self.now) c.args.change.now) (omega arith))

pub made_nodes-requires-clause-few : goal.made_nodes-requires-clause-few
made_nodes-requires-clause-few c =
    let live = live_is _ _ c.self.view_is c.self.invariant in
    let dead = few_dead (state_of c.args.self.now) c.args.change.now c.requires in
    let few = c.self.invariant.few_live in
    omega (arith, ap (λ (xs : List Made). length xs) c.as_slice.ensures)

pub returns-then-self-made_nodes-gt-MAX_NODES : goal.returns-then-self-made_nodes-gt-MAX_NODES
returns-then-self-made_nodes-gt-MAX_NODES c =
    let live = live_is _ _ c.self.view_is c.self.invariant in
    let few = c.self.invariant.few_live in
    let nodes = ap (λ (seen : Seen). seen.nodes) c.self.view_is in
    let l = live_changed (state_of c.args.self.now) c.args.change.now c.requires in
    let n = nodes_changed (state_of c.args.self.now) c.args.change.now in
    let m = ap (λ (xs : List Made). nodes_of_made c.args.change.now.scratch xs) c.as_slice.ensures in
    sym (past_nodes (changed (state_of c.args.self.now) c.args.change.now) (omega arith) (omega arith))

pub returns : goal.returns
returns c =
    let live = live_is _ _ c.self.view_is c.self.invariant in
    let few = c.self.invariant.few_live in
    let nodes = ap (λ (seen : Seen). seen.nodes) c.self.view_is in
    let l = live_changed (state_of c.args.self.now) c.args.change.now c.requires in
    let n = nodes_changed (state_of c.args.self.now) c.args.change.now in
    let m = ap (λ (xs : List Made). nodes_of_made c.args.change.now.scratch xs) c.as_slice.ensures in
    sym (past_none (changed (state_of c.args.self.now) c.args.change.now) (omega arith) (omega arith))
