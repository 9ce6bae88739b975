-- The first broken condition on variables.
use Rattle.std.proofs.Common.{◌≡◌, ℕ, suc, ◌+◌, ◌<◌, List, [], ◌∷◌, length, drop, get_or, map, Bool, true, false, ◌&&◌, Some, None, refl, ap, ◌∙◌, sym, subst, add-one}
use Rattle.std.specs.Prelude.{Option, nat_lt, nat_le, if◌then◌else◌}
use Rattle.std.proofs.lemmas.Bool.{ltb-true, leb-true}
use Rattle.std.proofs.Math.Seq.{drop-cons}
use Rattle.std.proofs.Math.IntN.{ℤ}
use Rattle.clp_model.specs.declared.sort.Sort.{Sort}
use Rattle.clp_model.specs.declared.sort.Sort.TheVariants.{Any, Num}
use Rattle.clp_model.specs.Clauses.{Clause, sort_in}
use Rattle.clp_model.proofs.Membership.{Among}
use Rattle.unify_laws.proofs.Solved.{among_cases}
use Rattle.clause_store.specs.Stored.{IsNum}
use Rattle.map_model.specs.declared.refusal.Refusal.{Refusal}
use Rattle.fold_model.specs.Positions.{in_range}
use Rattle.map_model.specs.Replacing.{is_number, loose, not_number, variables_broken, still_used, elimination_broken, project_broken, equate_broken, same_variable}
use Rattle.map_model.specs.Rewriting.{or_next}

-- ---- one after another
pub or_both : (a b c : Option Refusal) → or_next (or_next a b) c ≡ or_next a (or_next b c)
or_both (Some x) b c = refl
or_both None b c = refl

none_first : (a b : Option Refusal) → or_next a b ≡ None → a ≡ None
none_first (Some x) b h = h
none_first None b h = refl

none_next : (a b : Option Refusal) → or_next a b ≡ None → b ≡ None
none_next (Some x) b h = absurd (cc (h))
none_next None b h = h

module _ (c : Clause) where
  -- the pairs from the one at place i on
  pub pairs_from : (ps : List (ℕ × ℤ)) (i : ℕ) (d : ℕ × ℤ) → i < length ps
      → variables_broken c (drop i ps) ≡ or_next (or_next (loose c (get_or ps i d).0) (not_number c (get_or ps i d).0)) (variables_broken c (drop (i + 1) ps))
  pairs_from ps i d within =
      let p = get_or ps i d in
      ap (variables_broken c) (drop-cons ps i d within)
      ∙ sym (or_both (loose c p.0) (not_number c p.0) (variables_broken c (drop (suc i) ps)))
      ∙ ap (λ (k : ℕ). or_next (or_next (loose c p.0) (not_number c p.0)) (variables_broken c (drop k ps))) (sym (add-one i))

  -- ---- what holds where no condition is broken
  within_by : (b : Bool) (x : Refusal) → (if b then None else Some x) ≡ None → b ≡ true
  within_by true x h = refl
  within_by false x h = absurd (cc (h))

  and_both : (a b : Bool) → (a && b) ≡ true → (a ≡ true) × (b ≡ true)
  and_both true b h = (refl, h)
  and_both false b h = absurd (cc (h))

  number_by : (s : Sort) → is_number s ≡ true → s ≡ Num
  number_by Any h = absurd (cc (h))
  number_by Num h = refl

  pub is_num : (v : ℕ) → loose c v ≡ None → not_number c v ≡ None → IsNum c.sorts v
  is_num v a b =
      let r = and_both (nat_lt 0 v) (nat_le v (length c.sorts)) (within_by (in_range (length c.sorts) v) _ a) in
      record {
        positive = ltb-true 0 v r.0;
        within = leb-true v (length c.sorts) r.1;
        sort = number_by (sort_in c.sorts v) (within_by (is_number (sort_in c.sorts v)) _ b);
      }

  pub are_nums : (ps : List (ℕ × ℤ)) → variables_broken c ps ≡ None → (n : ℕ) → Among n (map (λ p. p.0) ps) → IsNum c.sorts n
  are_nums [] h n m = elim m [ ]
  are_nums (p ∷ ps) h n m =
      let a = none_first (loose c p.0) (or_next (not_number c p.0) (variables_broken c ps)) h in
      let k = none_next (loose c p.0) (or_next (not_number c p.0) (variables_broken c ps)) h in
      let b = none_first (not_number c p.0) (variables_broken c ps) k in
      among_cases m (λ e. subst (IsNum c.sorts) (sym e) (is_num p.0 a b)) (λ r. are_nums ps (none_next (not_number c p.0) (variables_broken c ps) k) n r)

  -- the two variables of an equation
  pub var_num : (v u : ℕ) → equate_broken c v u ≡ None → IsNum c.sorts v
  var_num v u h =
      let k = none_next (loose c v) (or_next (loose c u) (or_next (same_variable v u) (or_next (not_number c v) (not_number c u)))) h in
      let l = none_next (loose c u) (or_next (same_variable v u) (or_next (not_number c v) (not_number c u))) k in
      let m = none_next (same_variable v u) (or_next (not_number c v) (not_number c u)) l in
      is_num v (none_first (loose c v) _ h) (none_first (not_number c v) (not_number c u) m)

  pub to_num : (v u : ℕ) → equate_broken c v u ≡ None → IsNum c.sorts u
  to_num v u h =
      let k = none_next (loose c v) (or_next (loose c u) (or_next (same_variable v u) (or_next (not_number c v) (not_number c u)))) h in
      let l = none_next (loose c u) (or_next (same_variable v u) (or_next (not_number c v) (not_number c u))) k in
      let m = none_next (same_variable v u) (or_next (not_number c v) (not_number c u)) l in
      is_num u (none_first (loose c u) _ k) (none_next (not_number c v) (not_number c u) m)

  -- ---- a variable to be eliminated
  pub project_parts : (v : ℕ) → or_next (or_next (or_next (loose c v) (not_number c v)) (still_used c v)) (elimination_broken c v) ≡ project_broken c v
  project_parts v = or_both (or_next (loose c v) (not_number c v)) (still_used c v) (elimination_broken c v) ∙ or_both (loose c v) (not_number c v) (or_next (still_used c v) (elimination_broken c v))
