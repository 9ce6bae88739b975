-- What a visit owes, by what its calls ensure.
use Rattle.std.proofs.Common.{◌≡◌, ℕ, suc, ◌<◌, ◌≤◌, ◌+◌, ◌*◌, List, [], ◌∷◌, ◌++◌, length, refl, sym, ap, ◌∙◌, subst, arith, Bool, true, false}
use Rattle.std.specs.Prelude.{slice_index_or, slice_set}
use Rattle.std.proofs.lemmas.List.{get_or_default}
use Rattle.unify_closure.specs.declared.node.Node.{Node}
use Rattle.unify_closure.specs.Graph.{node_at}
use Rattle.unify_closure.specs.Turns.{IsGraph}
use Rattle.unify_closure.specs.Sorting.{latest_onto, latest, kids_by, kids, rep_of, is_marked, Visit, entering, AreStands, NeverSolves, unmarked}
use Rattle.unify_closure.specs.Walks.{IsWalk}
use Rattle.unify_closure.proofs.Stacks.{latest_both, fewer_unmarked}
use Rattle.unify_closure.proofs.Walking.{skipped, left_now, cycle, enter_now, kids_few}

pub mark_of : (bs : List Bool) (p : ℕ) (x : Bool) → x ≡ slice_index_or bs p x → p < length bs → is_marked bs p ≡ x
mark_of bs p x e lt = sym (e ∙ get_or_default bs p x false lt)

top_of : (g : List Node) (st : List ℕ) (en lf : List Bool) (ord : List ℕ) (rest : List Visit) (p : ℕ) (b c : Bool) → b ≡ c → IsWalk g st en lf ord (latest (rest ++ (p, b) ∷ [])) → IsWalk g st en lf ord ((p, c) ∷ latest rest)
top_of g st en lf ord rest p b c e w =
    subst (λ (d : Bool). IsWalk g st en lf ord ((p, d) ∷ latest rest)) e (subst (IsWalk g st en lf ord) (latest_both [] rest ((p, b) ∷ [])) w)

module _ (g : List Node) (graph : IsGraph g) (st : List ℕ) (are : AreStands g st) (en lf : List Bool) (ord : List ℕ) (rest : List Visit) (p : ℕ) (b : Bool) (lt : p < length g) (w : IsWalk g st en lf (latest ord) (latest (rest ++ (p, b) ∷ []))) where
  pub leaves : b ≡ true → (x : Bool) → x ≡ slice_index_or lf p x → x ≡ false → (ord' : List ℕ) → ord' ≡ ord ++ p ∷ [] → IsWalk g st en (slice_set lf p true) (latest ord') (latest rest)
  leaves e x h f ord' q =
      let top = top_of g st en lf (latest ord) rest p b true e w in
      let now = left_now g graph st are en lf (latest ord) p (latest rest) top (mark_of lf p x h (subst (λ m. p < m) (sym w.left_count) lt) ∙ f) in
      subst (λ o. IsWalk g st en (slice_set lf p true) o (latest rest)) (sym (ap latest q ∙ latest_both [] ord (p ∷ []))) now

  pub skips : (x : Bool) → x ≡ slice_index_or lf p x → x ≡ true → IsWalk g st en lf (latest ord) (latest rest)
  skips x h f =
      skipped g graph st are en lf (latest ord) p b (latest rest) (top_of g st en lf (latest ord) rest p b b refl w)
      (w.done p lt (mark_of lf p x h (subst (λ m. p < m) (sym w.left_count) lt) ∙ f))

  pub enters : b ≡ false → (stack : List Visit) → stack ≡ (rest ++ (p, true) ∷ []) ++ entering (kids g st p) → IsWalk g st (slice_set en p true) lf (latest ord) (latest stack)
  enters e stack q =
      let now = enter_now g graph st are en lf (latest ord) p (latest rest) (top_of g st en lf (latest ord) rest p b false e w) in
      let path : latest stack ≡ latest_onto ((p, true) ∷ latest rest) (entering (kids g st p)) =
      ap latest q ∙ latest_both [] (rest ++ (p, true) ∷ []) (entering (kids g st p)) ∙ ap (λ z. latest_onto z (entering (kids g st p))) (latest_both [] rest ((p, true) ∷ [])) in
      subst (λ z. IsWalk g st (slice_set en p true) lf (latest ord) z) (sym path) now

  pub cycles : b ≡ false → (x y : Bool) → x ≡ slice_index_or en p x → x ≡ true → y ≡ slice_index_or lf p y → y ≡ false → NeverSolves g st
  cycles e x y h f h' f' =
      cycle g graph st are en lf (latest ord) p (latest rest) (top_of g st en lf (latest ord) rest p b false e w)
      (mark_of en p x h (subst (λ m. p < m) (sym w.enter_count) lt) ∙ f) (mark_of lf p y h' (subst (λ m. p < m) (sym w.left_count) lt) ∙ f')

length_entering : (ks : List ℕ) → length (entering ks) ≡ length ks
length_entering [] = refl
length_entering (k ∷ ks) = ap suc (length_entering ks)

length_put : (es fs : List Visit) → length (es ++ fs) ≡ length es + length fs
length_put [] fs = omega arith
length_put (e ∷ es) fs = let h = length_put es fs in omega (arith, h)

pub walk_cost_after : (g : List Node) → IsGraph g → (st : List ℕ) (en : List Bool) (rest stack : List Visit) (p : ℕ) (x : Bool) → p < length g → length en ≡ length g → x ≡ slice_index_or en p x → x ≡ false → stack ≡ (rest ++ (p, true) ∷ []) ++ entering (kids g st p) → 4099 * unmarked (slice_set en p true) + length stack ≤ 4099 * unmarked en + length rest
walk_cost_after g graph st en rest stack p x lt count h f q =
    let in_en : p < length en = subst (λ m. p < m) (sym count) lt in
    let few = kids_few (length g) p (rep_of st p) (node_at g p) (graph p lt) in
    let less = fewer_unmarked en p in_en (mark_of en p x h in_en ∙ f) in
    let a : length stack ≡ length (rest ++ (p, true) ∷ []) + length (entering (kids g st p)) = ap length q ∙ length_put (rest ++ (p, true) ∷ []) (entering (kids g st p)) in
    let b : length (rest ++ (p, true) ∷ []) ≡ length rest + 1 = length_put rest ((p, true) ∷ []) in
    let c = length_entering (kids g st p) in
    omega (arith, few, less, a, b, c)

-- the last answer, by what was read
pub by_answer : (Q : Bool → Type 0) (x : Bool) → (x ≡ true → Q true) → (x ≡ false → Q false) → Q x
by_answer Q true h k = h refl
by_answer Q false h k = k refl

pub stack_is : (g : List Node) (st : List ℕ) (p : ℕ) (x : Node) → x ≡ slice_index_or g p x → p < length g → (rest push stack : List Visit) → push ≡ rest ++ (p, true) ∷ [] → stack ≡ push ++ entering (kids_by p (rep_of st p) x) → stack ≡ (rest ++ (p, true) ∷ []) ++ entering (kids g st p)
stack_is g st p x e lt rest push stack h k =
    let same : x ≡ node_at g p = e ∙ get_or_default g p x (node_at g p) lt ∙ get_or_default g p (node_at g p) _ lt in
    k ∙ ap (λ z. z ++ entering (kids_by p (rep_of st p) x)) h ∙ ap (λ y. (rest ++ (p, true) ∷ []) ++ entering (kids_by p (rep_of st p) y)) same
