use Rattle.std.proofs.Common.{◌≡◌, ap, ◌∙◌, sym}
use Rattle.term_store.specs.Trees.{trees_at}
use Rattle.clause_store.proofs.Equal.{equal_clauses, equal_heads, equal_atoms}
use Rattle.clause_store.proofs.variants.are_equal.Goals as goal

pub returns-then-not-same : goal.returns-then-not-same
returns-then-not-same c = (
  (λ h. absurd (cc)),
  (λ e.
      let same = c.same.ensures.1 (equal_heads c.args.store.now c.args.a.now c.args.b.now c.requires.first.parts c.requires.second.parts e) in
      absurd (cc (same, c.if-not-same.true))),
)

pub returns : goal.returns
returns c =
    let store = c.args.store.now in
    let a = c.args.a.now in
    let b = c.args.b.now in
    let sorts : a.sorts ≡ b.sorts = sym c.as_slice.ensures ∙ (c.same_sorts.ensures.0 c.if-not-same_sorts.false ∙ c.as_slice-2.ensures) in
    let rows : a.rows ≡ b.rows = sym c.as_slice-3.ensures ∙ (c.same_rows.ensures.0 c.if-not-same_rows.false ∙ c.as_slice-4.ensures) in (
      (λ h.
          let atoms = sym (ap (trees_at store) c.as_slice-5.ensures) ∙ (c.same_terms.ensures.0 h ∙ ap (trees_at store) c.as_slice-6.ensures) in
          equal_clauses store a b sorts rows (c.same.ensures.0 c.if-not-same.false) atoms),
      (λ e.
          c.same_terms.ensures.1 (ap (trees_at store) c.as_slice-5.ensures ∙ (equal_atoms store a b c.requires.first.parts c.requires.second.parts e ∙ sym (ap (trees_at store) c.as_slice-6.ensures)))),
    )
