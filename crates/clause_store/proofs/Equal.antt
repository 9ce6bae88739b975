-- Clauses in a store are equal where their parts are.
use Rattle.std.proofs.Common.{◌≡◌, ◌↔◌, ℕ, List, [], ◌∷◌, Bool, true, false, refl, ap, ◌∙◌, sym, subst}
use Rattle.std.specs.Prelude.{◌&&◌, IsTrue}
use Rattle.std.specs.Cmp.Lexicographic.{pointwise}
use Rattle.std.specs.List.{AllByRecursion}
use Rattle.std.proofs.lemmas.List.Elements.{recursion_from_All}
use Rattle.clp_model.specs.declared.sort.Sort.{Sort}
use Rattle.clp_model.specs.declared.sort.Sort.TheVariants.{Any, Num}
use Rattle.clp_model.specs.declared.tree.Variable.{Variable}
use Rattle.clp_model.specs.declared.tree.Tree.{Tree}
use Rattle.clp_model.specs.Trees.{mapped, mapped_all, variables_in}
use Rattle.clp_model.specs.Clauses.{Clause as Meaning, Row, sort_in}
use Rattle.clp_model.proofs.Membership.{Among, first, next}
use Rattle.clp_model.proofs.RenamedTrees.{all_mapped_twice, all_mapped_to_themselves}
use Rattle.linear_model.specs.Normal.{row_eq}
use Rattle.linear_laws.proofs.Cleaning.{same_row}
use Rattle.lin_row.specs.OrderLaws.{row_same_as}
use Rattle.clause_model.specs.Canonical.{IsCanonical}
use Rattle.clause_model.specs.Variants.{IsClosed, AreVariants}
use Rattle.clause_laws.proofs.Variants.{variants_exactly}
use Rattle.clause_laws.proofs.Again.{same_parts}
use Rattle.term_store.specs.Trees.{tree_at, trees_at}
use Rattle.clause_store.specs.declared.clause.Clause.{Clause}
use Rattle.clause_store.specs.Stored.{number_of, clause_in, HasSort, AreParts}

-- ---- lists that are compared place by place
both : (a b : Bool) → (a && b) ≡ true → (a ≡ true) × (b ≡ true)
both true b e = (refl, e)
both false b e = absurd (cc)

joined : (a b : Bool) → a ≡ true → b ≡ true → (a && b) ≡ true
joined true b e f = f
joined false b e f = absurd (cc)

module _ {X : Type 0} (same : X → X → Bool) where
  pub pointwise_equal : ((x y : X) → same x y ≡ true → x ≡ y) → (xs ys : List X) → pointwise same xs ys ≡ true → xs ≡ ys
  pointwise_equal h [] [] e = refl
  pointwise_equal h [] (y ∷ ys) e = absurd (cc)
  pointwise_equal h (x ∷ xs) [] e = absurd (cc)
  pointwise_equal h (x ∷ xs) (y ∷ ys) e =
      let k = both (same x y) (pointwise same xs ys) e in
      let a = h x y k.0 in
      let b = pointwise_equal h xs ys k.1 in
      cc

  pointwise_itself : ((x : X) → same x x ≡ true) → (xs : List X) → pointwise same xs xs ≡ true
  pointwise_itself h [] = refl
  pointwise_itself h (x ∷ xs) = joined (same x x) (pointwise same xs xs) (h x) (pointwise_itself h xs)

  pub pointwise_same : ((x : X) → same x x ≡ true) → (xs ys : List X) → xs ≡ ys → pointwise same xs ys ≡ true
  pointwise_same h xs ys e = subst (λ (zs : List X). pointwise same xs zs ≡ true) e (pointwise_itself h xs)

-- ---- a tree is told by its numbers, where the sorts are known
abbrev with_sort : List Sort → ℕ → Variable
with_sort sorts n = record { number = n; sort = sort_in sorts n }

own_sort : (sorts : List Sort) (vs : List Variable) → AllByRecursion (HasSort sorts) vs → (v : Variable) → Among v vs → with_sort sorts v.number ≡ v
own_sort sorts [] h v a = elim a [ ]
own_sort sorts (w ∷ vs) h v first = ap (λ (s : Sort). let u : Variable = record { number = w.number; sort = s } in u) h.0.sort
own_sort sorts (w ∷ vs) h v (next a) = own_sort sorts vs h.1 v a

sorted_again : (sorts : List Sort) (ts : List (Tree Variable)) → AllByRecursion (HasSort sorts) (variables_in ts) → mapped_all (with_sort sorts) (mapped_all number_of ts) ≡ ts
sorted_again sorts ts h =
    all_mapped_twice number_of (with_sort sorts) (λ v. with_sort sorts v.number) ts (λ v a. refl)
    ∙ all_mapped_to_themselves (λ (v : Variable). with_sort sorts v.number) ts (λ v a. own_sort sorts (variables_in ts) h v a)

module _ (store : List (Tree Variable)) (a b : Clause) where
  pub equal_clauses : a.sorts ≡ b.sorts → a.rows ≡ b.rows → tree_at store a.head ≡ tree_at store b.head → trees_at store a.atoms ≡ trees_at store b.atoms → clause_in store a ≡ clause_in store b
  equal_clauses s r h t = same_parts (ap (mapped number_of) h) (ap (mapped_all number_of) t) r s

  module _ (pa : AreParts store a.head a.rows a.atoms a.sorts) (pb : AreParts store b.head b.rows b.atoms b.sorts) (e : clause_in store a ≡ clause_in store b) where
    pub equal_sorts : a.sorts ≡ b.sorts
    equal_sorts = ap (λ (c : Meaning). c.sorts) e

    pub equal_rows : a.rows ≡ b.rows
    equal_rows = ap (λ (c : Meaning). c.rows) e

    equal_terms : trees_at store (a.head ∷ a.atoms) ≡ trees_at store (b.head ∷ b.atoms)
    equal_terms =
        let numbers : mapped_all number_of (trees_at store (a.head ∷ a.atoms)) ≡ mapped_all number_of (trees_at store (b.head ∷ b.atoms)) = ap (λ (c : Meaning). c.head ∷ c.body) e in
        sym (sorted_again a.sorts (trees_at store (a.head ∷ a.atoms)) (recursion_from_All (HasSort a.sorts) (variables_in (trees_at store (a.head ∷ a.atoms))) pa.sorted))
        ∙ (ap (mapped_all (with_sort a.sorts)) numbers
        ∙ (ap (λ (ss : List Sort). mapped_all (with_sort ss) (mapped_all number_of (trees_at store (b.head ∷ b.atoms)))) equal_sorts
        ∙ sorted_again b.sorts (trees_at store (b.head ∷ b.atoms)) (recursion_from_All (HasSort b.sorts) (variables_in (trees_at store (b.head ∷ b.atoms))) pb.sorted)))

    pub equal_heads : tree_at store a.head ≡ tree_at store b.head
    equal_heads = let t = equal_terms in cc

    pub equal_atoms : trees_at store a.atoms ≡ trees_at store b.atoms
    equal_atoms = let t = equal_terms in cc

-- ---- sorts and rows
sorts_apart : (E : Sort → Sort → Bool) → E Any Num ≡ false → E Num Any ≡ false → (x y : Sort) → E x y ≡ true → x ≡ y
sorts_apart E p q Any Any e = refl
sorts_apart E p q Any Num e = absurd (cc)
sorts_apart E p q Num Any e = absurd (cc)
sorts_apart E p q Num Num e = refl

sort_itself : (E : Sort → Sort → Bool) → E Any Any ≡ true → E Num Num ≡ true → (x : Sort) → E x x ≡ true
sort_itself E p q Any = p
sort_itself E p q Num = q

pub sorts_decided : (E : Sort → Sort → Bool) → E Any Any ≡ true → E Num Num ≡ true → E Any Num ≡ false → E Num Any ≡ false → (r : Bool) (xs ys : List Sort) → r ≡ pointwise E xs ys → IsTrue r ↔ (xs ≡ ys)
sorts_decided E p q s t r xs ys e =
    ((λ h. pointwise_equal E (sorts_apart E s t) xs ys (sym e ∙ h)), (λ h. e ∙ pointwise_same E (sort_itself E p q) xs ys h))

pub rows_decided : (r : Bool) (xs ys : List Row) → r ≡ pointwise row_eq xs ys → IsTrue r ↔ (xs ≡ ys)
rows_decided r xs ys e =
    ((λ h. pointwise_equal row_eq same_row xs ys (sym e ∙ h)), (λ h. e ∙ pointwise_same row_eq (λ x. row_same_as x x refl) xs ys h))

-- ---- closed canonical clauses
pub closed_variants : (c d : Meaning) (r : Bool) → IsCanonical c → IsCanonical d → IsTrue r ↔ (c ≡ d) → IsClosed c → IsClosed d → IsTrue r ↔ AreVariants c d
closed_variants c d r hc hd equal kc kd =
    let v = variants_exactly c d hc.rising hd.rising kc kd in
    ((λ t. v.0 (hc.form ∙ (equal.0 t ∙ sym hd.form))), (λ w. equal.1 (sym hc.form ∙ (v.1 w ∙ hd.form))))
