-- What is known of a clause as plain data, by which a proof tells its parts apart.
use Rattle.std.specs.Prelude.{ℕ, List, refl}
use Rattle.std.specs.Coded.{Coded, code_by, coded×, coded_ℕ, coded_list}
use Rattle.std.specs.Borrow.{u32}
use Rattle.clp_model.specs.Clauses.{Row}
use Rattle.clp_model.specs.declared.sort.Sort.{Sort}
use Rattle.clp_model.specs.declared.tree.Tree.{Tree}
use Rattle.clp_model.specs.contracts.sort.Sort as sorts
use Rattle.clp_model.specs.contracts.tree.Tree as trees
use Rattle.lin_row.specs.contracts.row.Row as rows
use Rattle.clp_grammar.specs.Terms.{Meaning}

abbrev coded_tree : Coded (Tree ℕ)
coded_tree = (trees.the_row u32).coded

abbrev coded_row : Coded Row
coded_row = rows.the_row.coded

abbrev coded_sort : Coded Sort
coded_sort = sorts.the_row.coded

-- the parts in a tuple, and back
abbrev pub meaning_code : Coded Meaning
meaning_code =
    code_by (List ℕ × (List Sort × (List (Tree ℕ × Tree ℕ) × (List Row × List (Tree ℕ)))))
    (coded× (coded_list coded_ℕ) (coded× (coded_list coded_sort) (coded× (coded_list (coded× coded_tree coded_tree)) (coded× (coded_list coded_row) (coded_list coded_tree)))))
    (λ m. (m.numbers, (m.sorts, (m.equations, (m.rows, m.atoms)))))
    (λ p. record { numbers = p.0; sorts = p.1.0; equations = p.1.1.0; rows = p.1.1.1.0; atoms = p.1.1.1.1 })
    (λ _. refl)
