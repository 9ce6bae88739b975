-- The variables of a clause in turn.
use Rattle.std.proofs.Common.{◌≡◌, ℕ, suc, ◌+◌, ◌<◌, List, ◌∷◌, length, drop, ap, ◌∙◌, sym, add-one, Bool, true, false, Some}
use Rattle.std.specs.Prelude.{if◌then◌else◌}
use Rattle.std.proofs.Math.Seq.{drop-cons}
use Rattle.clp_model.specs.declared.sort.Sort.{Sort}
use Rattle.clp_model.specs.declared.sort.Sort.TheVariants.{Any}
use Rattle.clp_model.specs.Trees.{variables, variables_in}
use Rattle.clp_model.specs.Clauses.{Clause}
use Rattle.clause_model.specs.Variables.{rows_variables}
use Rattle.fold_model.specs.Images.{numbers_from}
use Rattle.fold_model.specs.Definitions.{is_alone, is_loose, first_loose}
use Rattle.clause_fold.specs.Marks.{is_marked_alone, is_marked_loose, Are}

-- the variables from one on
pub numbers_here : (sorts : List Sort) (i : ℕ) → i < length sorts → numbers_from (suc i) (drop i sorts) ≡ suc i ∷ numbers_from (suc (i + 1)) (drop (i + 1) sorts)
numbers_here sorts i within =
    ap (numbers_from (suc i)) (drop-cons sorts i Any within)
    ∙ ap (λ (k : ℕ). suc i ∷ numbers_from (suc k) (drop k sorts)) (sym (add-one i))

alone_is : (a b c : List Bool) (k l m : ℕ) (xs ys zs : List ℕ) (x : ℕ) → Are a k xs → Are b l ys → Are c m zs → is_marked_alone a b c x ≡ is_alone xs ys zs x
alone_is a b c k l m xs ys zs x h i j =
    let p = h.each x in
    let q = i.each x in
    let r = j.each x in
    cc

pub loose_is : (n : Clause) (head rows body : List Bool) (k x : ℕ) → Are head k (variables n.head) → Are rows k (rows_variables n.rows) → Are body k (variables_in n.body) → is_marked_loose head rows body x ≡ is_loose n x
loose_is n head rows body k x h i j =
    let a = alone_is head rows body k k k (variables n.head) (rows_variables n.rows) (variables_in n.body) x h i j in
    let b = alone_is rows head body k k k (rows_variables n.rows) (variables n.head) (variables_in n.body) x i h j in
    cc

pub loose_here : (n : Clause) (sorts : List Sort) (i : ℕ) → i < length sorts → is_loose n (suc i) ≡ true → first_loose n (numbers_from (suc i) (drop i sorts)) ≡ Some (suc i)
loose_here n sorts i within e =
    ap (first_loose n) (numbers_here sorts i within)
    ∙ ap (λ (b : Bool). if b then Some (suc i) else first_loose n (numbers_from (suc (i + 1)) (drop (i + 1) sorts))) e

pub loose_next : (n : Clause) (sorts : List Sort) (i : ℕ) → i < length sorts → is_loose n (suc i) ≡ false → first_loose n (numbers_from (suc i) (drop i sorts)) ≡ first_loose n (numbers_from (suc (i + 1)) (drop (i + 1) sorts))
loose_next n sorts i within e =
    ap (first_loose n) (numbers_here sorts i within)
    ∙ ap (λ (b : Bool). if b then Some (suc i) else first_loose n (numbers_from (suc (i + 1)) (drop (i + 1) sorts))) e
