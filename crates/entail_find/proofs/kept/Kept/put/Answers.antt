use Rattle.std.proofs.Common.{◌≡◌, ◌+◌, ◌<◌, length, get_or, arith, sym, ◌∙◌, ap, subst, set, [], ◌∷◌, ◌++◌}
use Rattle.std.proofs.lemmas.List.{get_or_read}
use Rattle.entail_find.specs.Kept as spec
use Rattle.entail_find.proofs.Table.{table_put, buckets_more, length_buckets}
use Rattle.entail_find.proofs.kept.Kept.put.Goals as goal

pub invariant_of-self-2 : goal.invariant_of-self-2
invariant_of-self-2 c =
    let t = c.self.invariant in
    let i = c.self.inside in
    let x = c.args.item in
    let bs = spec.buckets i.items.items in
    let len = t.heads_length in
    let small = c.bucket-list.ensures.small in
    let bl = length_buckets i.items.items in
    let room : length bs < 1025 = let r = c.requires in let v = ap length c.self.view_is in omega arith in
    let e : c.index.result.now ≡ get_or i.heads.items c.bucket-list.result 0 = get_or_read i.heads.items _ _ (omega arith) c.index.ensures 0 in
    let b = c.bucket-list.ensures.value in
    let ok = i.items.ok.0 in
    let n : c.len-place.result ≡ length bs = omega arith in
    let heads = i.heads.items in
    let next = i.next.items in
    let list = c.bucket-list.result in
    let f : spec.buckets c.push.new.self.items ≡ bs ++ list ∷ [] = ap spec.buckets c.in_ok-push.ensures.items ∙ (buckets_more i.items.items x ∙ ap (λ k. bs ++ k ∷ []) (sym b)) in
    let p = subst (λ ys. spec.IsTable ys (set heads list (length bs + 1)) (set next (length bs) (get_or heads list 0))) (sym f) (table_put bs heads next list t room small) in
    let q = subst (λ m. spec.IsTable (spec.buckets c.push.new.self.items) (set heads list (m + 1)) (set next m (get_or heads list 0))) (sym n) p in
    subst (λ k. spec.IsTable (spec.buckets c.push.new.self.items) (set heads list (c.len-place.result + 1)) (set next c.len-place.result k)) (sym e) q
