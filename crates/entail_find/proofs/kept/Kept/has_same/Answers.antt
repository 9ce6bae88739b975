use Rattle.std.proofs.Common.{◌≡◌, ◌-◌, ◌<◌, ◌≤◌, length, get_or, false, arith, sym, ◌∙◌, ap, subst}
use Rattle.std.proofs.lemmas.List.{get_or_read}
use Rattle.std.specs.List.{list_any}
use Rattle.linear_model.specs.Items.{Item, same_normal}
use Rattle.entail_find.specs.Kept.{bucket, buckets}
use Rattle.entail_find.proofs.Table.{begins_within, begins_none, step_in, step_none, none_same, length_buckets}
use Rattle.entail_find.proofs.kept.Kept.has_same.Goals as goal

pub loop-end-init : goal.loop-end-init
loop-end-init c =
    let t = c.self.invariant in
    let i = c.self.inside in
    let x = c.args.item.now in
    let len = t.heads_length in
    let small = c.bucket.ensures.small in
    let e : c.index.result.now ≡ get_or i.heads.items (bucket x) 0 = get_or_read i.heads.items _ _ (omega arith) c.index.ensures 0 ∙ ap (λ b. get_or i.heads.items b 0) c.bucket.ensures.value in
    record {
      within = subst (λ n. n ≤ length i.items.items) (sym e) (begins_within i.items.items i.heads.items i.next.items t x);
      in_list = λ p. ap (λ n. get_or (buckets i.items.items) (n - 1) 0) e ∙ t.heads_in (bucket x) (subst (λ n. 0 < n) e p);
      none = λ k d h l. begins_none i.items.items i.heads.items i.next.items t x k d (subst (λ n. n ≤ k) e h) l;
    }

pub loop-end-smaller : goal.loop-end-smaller
loop-end-smaller c =
    let t = c.self.invariant in
    let i = c.self.inside in
    let x = c.args.item.now in
    let v = c.loop-end.invariant in
    let len = t.next_length in
    let few = t.few in
    let bl = length_buckets i.items.items in
    let w = v.within in
    let p = c.loop-end-test.true in
    let e = get_or_read i.next.items _ _ (omega arith) c.index-in-loop-end-2.ensures 0 in
    let k = t.next_within (c.loop-end.end - 1) (omega arith) in
    omega arith

pub loop-end-preserved : goal.loop-end-preserved
loop-end-preserved c =
    let t = c.self.invariant in
    let i = c.self.inside in
    let x = c.args.item.now in
    let v = c.loop-end.invariant in
    let end = c.loop-end.end in
    let len = t.next_length in
    let few = t.few in
    let bl = length_buckets i.items.items in
    let w = v.within in
    let p = c.loop-end-test.true in
    let e : c.index-in-loop-end-2.result.now ≡ get_or i.next.items (end - 1) 0 = get_or_read i.next.items _ _ (omega arith) c.index-in-loop-end-2.ensures 0 in
    let k = t.next_within (end - 1) (omega arith) in
    let in' = v.in_list p in
    let here : (d : Item) → same_normal (get_or i.items.items (end - 1) d) x ≡ false = λ d.
    ap (λ y. same_normal y x) (sym (get_or_read i.items.items _ _ (omega arith) c.index-in-loop-end.ensures d)) ∙ sym c.if-is_same.ensures in
    record {
      within = omega arith;
      in_list = λ q. ap (λ n. get_or (buckets i.items.items) (n - 1) 0) e ∙ step_in i.items.items i.heads.items i.next.items t x end p w in' here v.none (subst (λ n. 0 < n) e q);
      none = λ k d h l. step_none i.items.items i.heads.items i.next.items t x end p w in' here v.none k d (subst (λ n. n ≤ k) e h) l;
    }

pub returns : goal.returns
returns c =
    let i = c.self.inside in
    let x = c.args.item.now in
    let v = c.loop-end.invariant in
    let z : c.loop-end.end ≡ 0 = omega arith in
    sym (ap (list_any (λ y. same_normal y x)) (sym c.self.view_is) ∙ none_same i.items.items x x (λ k h. v.none k x (omega arith) h))
