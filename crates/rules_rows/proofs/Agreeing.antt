-- A table that has for each number the one that stands in its place.
use Rattle.std.proofs.Common.{◌≡◌, ℕ, ◌<◌, ◌≤◌, List, subst, sym, All}
use Rattle.clp_model.specs.Clauses.{Row}
use Rattle.lin_row.specs.Rows.{at}
use Rattle.clause_model.specs.Variables.{rows_variables}
use Rattle.clause_laws.proofs.Rows.{all_each, each_all}
use Rattle.clause_loader.specs.WellFormed.{IsNumber}

pub agreeing : (f : ℕ → ℕ) (table seen : List ℕ) (count : ℕ) (rows : List Row) → seen ≡ table → ((n : ℕ) → 0 < n → n ≤ count → at table n ≡ f n) → All (IsNumber count) (rows_variables rows) → All (λ n. at seen n ≡ f n) (rows_variables rows)
agreeing f table seen count rows e places numbered =
    let P : List ℕ → Type 0 = λ t. All (λ n. at t n ≡ f n) (rows_variables rows) in
    subst P (sym e) (each_all (λ n. at table n ≡ f n) (rows_variables rows) (λ n m. let k = all_each (IsNumber count) (rows_variables rows) numbered n m in places n k.0 k.1))
